use Rattle.std.proofs.Common.{◌≡◌, ℕ, List, Result, Ok, Err, IfOk, IfErr}
use Rattle.page_entry.specs.declared.refusal.Refusal.{Refusal}
use Rattle.page_entry.specs.declared.refusal.Refusal.TheVariants.{BadShape}
use Rattle.volume_codec.specs.declared.file_spec.FileSpec.{FileSpec}
use Rattle.volume_codec.specs.declared.layout.Layout.{Layout}
use Rattle.volume_codec.specs.Files.{asked_by}
use Rattle.volume_codec.specs.Layout.{number_of}
use Rattle.volume_codec.specs.Super.{SuperValue, Fits, IsAsked, block_count}
use Rattle.volume_codec.specs.inside.Tables.{table_of, HaveLengths}
use Rattle.volume_codec.proofs.TableLemmas.{table_asked, asked_fits}
use Rattle.volume_codec.proofs.rules.block_count_as.Goals as goal

counted : (layout : Layout) (number : ℕ) (files : List FileSpec) (slots : ℕ) (r : Result ℕ Refusal)
    → number_of layout ≡ number → IfOk r (λ _. HaveLengths layout files)
    → IfOk r (λ _. Fits (table_of layout files slots))
    → IfOk r (λ blocks. blocks ≡ block_count (table_of layout files slots))
    → IfOk r (λ blocks. (v : SuperValue) × IsAsked number (asked_by files) slots v × (blocks ≡ block_count v))
counted layout number files slots (Ok blocks) numbered full fits count =
    (table_of layout files slots, table_asked layout number files slots numbered full fits, count)
counted layout number files slots (Err e) numbered full fits count = tt

pub returns-clause-ok : goal.returns-clause-ok
returns-clause-ok c = counted _ _ _ _ c.count_blocks.result c.in-Some.ensures.some c.count_blocks.ensures.lengths
    c.count_blocks.ensures.fits c.count_blocks.ensures.count

refused : (layout : Layout) (number : ℕ) (files : List FileSpec) (slots : ℕ) (r : Result ℕ Refusal)
    → number_of layout ≡ number
    → IfErr r (λ refusal. (refusal ≡ BadShape) × (HaveLengths layout files → Fits (table_of layout files slots) → ⊥))
    → IfErr r (λ refusal. (refusal ≡ BadShape) × ((v : SuperValue) → IsAsked number (asked_by files) slots v → ⊥))
refused layout number files slots (Ok blocks) numbered h = tt
refused layout number files slots (Err e) numbered h =
    (h.0, λ v asked. let f = asked_fits layout number files slots v numbered asked in h.1 f.0 f.1)

pub returns-clause-err : goal.returns-clause-err
returns-clause-err c = refused _ _ _ _ c.count_blocks.result c.in-Some.ensures.some c.count_blocks.ensures.err
