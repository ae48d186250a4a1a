use Rattle.std.proofs.Common.{◌≡◌, List, ℕ, length, take, drop, ap, sym, subst, ◌∙◌, arith}
use Rattle.std.proofs.lemmas.List.{take_all, length-drop}
use Rattle.page_entry.specs.declared.refusal.Refusal.{Refusal}
use Rattle.page_entry.specs.declared.refusal.Refusal.TheVariants.{OutOfMemory, BadShape}
use Rattle.std.specs.List.{AllByRecursion}
use Rattle.volume_codec.specs.declared.layout.Layout.{Layout}
use Rattle.volume_codec.specs.Files.{TableFile, AskedFile, asked_by}
use Rattle.volume_codec.specs.Layout.{magic_of}
use Rattle.volume_codec.specs.Super.{SuperValue, IsSuper, IsName, IsAsked, super_text}
use Rattle.volume_codec.specs.Refusals.{RefusesTable, RefusesSuper}
use Rattle.volume_codec.specs.inside.Reading.{table_files_in, damage_of}
use Rattle.volume_codec.specs.inside.Tables.{files_asked_for, table_of}
use Rattle.volume_codec.proofs.Functional.{reads_block, read_value, refuses_table, refuses_spelling}
use Rattle.volume_codec.proofs.ReadingLemmas.{other_by_ne, same_by_ne}
use Rattle.volume_codec.proofs.TableLemmas.{asked_table}
use Rattle.volume_codec.proofs.super_block.read_super.Goals as goal

pub returns-then-count-gt-MAX_FILES-clause-refused :
    goal.returns-then-count-gt-MAX_FILES-clause-refused
returns-then-count-gt-MAX_FILES-clause-refused g c = (
  c.in-Some.layout,
  c.in-Some.ensures.some,
  λ v is.
      let r = reads_block v c.args.block.now is in
      absurd (omega (arith, r.count, is.fits.few_files, c.u32_at-count.ensures)),
)

-- the entries go up to the block's end
whole : (block : List ℕ) → length block ≡ 4096 → take 4064 (drop 32 block) ≡ drop 32 block
whole block h = take_all 4064 (drop 32 block) (omega (arith, length-drop 32 block))

-- a table that is refused is one of a block that says no value, or memory was refused
refused : (layout : Layout) (number : ℕ) (block : List ℕ) (files : List AskedFile) (slots : ℕ) (e : Refusal)
    → take 8 block ≡ magic_of layout
    → (((v : SuperValue) → IsAsked number files slots v → ⊥) → (v : SuperValue) → IsSuper v block → ⊥)
    → RefusesTable number files slots e → RefusesSuper block (damage_of e)
refused layout number block files slots BadShape magic none h = (layout, magic, none h)
refused layout number block files slots OutOfMemory magic none h = tt
refused layout number block files slots _ magic none h = absurd h

-- what the entries read as
found : (block : List ℕ) (files : List TableFile) (count : ℕ) → length block ≡ 4096
    → (AllByRecursion (λ f. IsName f.name) (table_files_in count (take 4064 (drop 32 block)))
    → files ≡ table_files_in count (take 4064 (drop 32 block)))
    → AllByRecursion (λ f. IsName f.name) (table_files_in count (drop 32 block))
    → files ≡ table_files_in count (drop 32 block)
found block files count l h =
    let P : List ℕ → Type 0 = λ entries. AllByRecursion (λ f. IsName f.name) (table_files_in count entries)
    → files ≡ table_files_in count entries in
    subst P (whole block l) h

pub returns-in-Err-clause-refused : goal.returns-in-Err-clause-refused
returns-in-Err-clause-refused g c =
    let block = c.args.block.now in
    let numbered = sym c.number.ensures in
    let files = take c.u32_at-count.result c.files_at-files.result in
    let r = refused c.in-Some.layout c.number.result block
    (asked_by files) c.from-slots.result c.in-Err.refusal c.in-Some.ensures.some
    (refuses_table c.in-Some.layout c.number.result block files c.from-slots.result numbered
    c.files_at-files.ensures.full
    (λ v is. read_value c.in-Some.layout v block files c.u32_at-count.result c.from-slots.result is
    c.in-Some.ensures.some c.u32_at-count.ensures (c.from-slots.ensures ∙ c.u32_at.ensures)
    (found block (files_asked_for files) c.u32_at-count.result c.told-block c.files_at-files.ensures.files)))
    c.in-Err.ensures.refused in
    let P : Refusal → Type 0 = λ e. RefusesSuper block e in
    subst P (sym c.damage_of.ensures) r

pub returns-then-ne-clause-refused : goal.returns-then-ne-clause-refused
returns-then-ne-clause-refused g c =
    let block = c.args.block.now in
    let files = take c.u32_at-count.result c.files_at-files.result in
    let numbered = sym c.number.ensures in
    let same = asked_table c.in-Some.layout c.number.result files c.from-slots.result c.in-Ok.table
    numbered c.in-Ok.ensures.ok in (
      c.in-Some.layout,
      c.in-Some.ensures.some,
      refuses_spelling block c.to_block.result (table_of c.in-Some.layout files c.from-slots.result)
          (λ v is. read_value c.in-Some.layout v block files c.u32_at-count.result c.from-slots.result is
          c.in-Some.ensures.some c.u32_at-count.ensures (c.from-slots.ensures ∙ c.u32_at.ensures)
          (found block (files_asked_for files) c.u32_at-count.result c.told-block c.files_at-files.ensures.files))
          (c.to_block.ensures ∙ ap super_text same)
          (other_by_ne _ _ _ c.ne.ensures c.if-ne.true),
    )

pub returns-clause-ok : goal.returns-clause-ok
returns-clause-ok g c = record {
  fits = c.in-Ok.ensures.ok.fits;
  spelled = sym (same_by_ne _ _ _ c.ne.ensures c.if-ne.false) ∙ c.to_block.ensures;
}
