use Rattle.std.proofs.Common.{◌≡◌, ℕ, List, sym, subst, ◌∙◌}
use Rattle.std.proofs.lemmas.Bool.{true≢false}
use Rattle.std.proofs.lemmas.Slice.Eq.{bytes_eq-Decides}
use Rattle.log_codec.specs.Log.{IsLog}
use Rattle.log_volume.specs.Super.{LogSuperValue, IsLogSuper, table_of, log_of}
use Rattle.log_volume.proofs.Spelled.{same_log, same_count, other_text, refuses_by}
use Rattle.log_volume.proofs.super_block.read_log_super.Goals.{In-Ok}
use Rattle.log_volume.proofs.super_block.read_log_super.Goals as goal

-- the log and the table that were read are those of each value that the block spells
log_read : (g : _) (c : In-Ok g) (v : LogSuperValue) → IsLogSuper v c.args.block.now → c.in-Some-new.log ≡ log_of v
log_read g c v is = c.in-Some-new.ensures.some.0
    ∙ same_log v c.args.block.now c.in-Some.sealing c.from.result c.from-2.result is (c.in-Some.ensures.only v is)
    (c.from.ensures ∙ c.u32_at-ring.ensures) (c.from-2.ensures ∙ c.u32_at-blocks.ensures)

table_read : (g : _) (c : In-Ok g) (v : LogSuperValue) → IsLogSuper v c.args.block.now → c.in-Ok.table ≡ table_of v
table_read g c v is = c.in-Ok.ensures.ok v is (same_count v c.args.block.now c.u32_at-ring.result
    c.u32_at-blocks.result is c.u32_at-ring.ensures c.u32_at-blocks.ensures)

pub returns-in_default-new-clause-refused : goal.returns-in_default-new-clause-refused
returns-in_default-new-clause-refused g c = (
  c.in-Some.sealing,
  c.in-Some.ensures.some.0,
  λ v is. let same = same_log v c.args.block.now c.in-Some.sealing c.from.result c.from-2.result is
      (c.in-Some.ensures.only v is) (c.from.ensures ∙ c.u32_at-ring.ensures)
      (c.from-2.ensures ∙ c.u32_at-blocks.ensures) in
      c.in_default-new.ensures.none (subst IsLog (sym same) is.fits.log),
)

pub returns-in-Err-clause-refused : goal.returns-in-Err-clause-refused
returns-in-Err-clause-refused g c =
    refuses_by c.args.block.now c.in-Some.sealing c.in-Err.refusal c.in-Some.ensures.some.0 c.in-Err.ensures.names
    (λ other v is. c.in-Err.ensures.refused other v is
    (same_count v c.args.block.now c.u32_at-ring.result c.u32_at-blocks.result is c.u32_at-ring.ensures
    c.u32_at-blocks.ensures))

pub returns-in_default-new-2-clause-refused : goal.returns-in_default-new-2-clause-refused
returns-in_default-new-2-clause-refused g c =
    let at = (goal.at.returns-in_default-new-2-clause-refused g c).In-Ok in (
      c.in-Some.sealing,
      c.in-Some.ensures.some.0,
      λ v is. c.in_default-new-2.ensures.none v (table_read g at v is) (log_read g at v is),
    )

pub returns-clause-refused : goal.returns-clause-refused
returns-clause-refused g c =
    let at = (goal.at.returns-clause-refused g c).In-Ok in (
      c.in-Some.sealing,
      c.in-Some.ensures.some.0,
      λ v is. let found = c.in-Some-new-2.ensures.some in
          let same = other_text v c.in-Some-new-2.found c.to_block.result c.args.block.now is
          (sym found.0 ∙ table_read g at v is) (sym found.1 ∙ log_read g at v is) c.to_block.ensures.text in
          true≢false (sym ((bytes_eq-Decides _ _).1 same) ∙ sym c.eq.ensures ∙ c.if-eq.false),
    )

pub returns-then-eq-clause-ok : goal.returns-then-eq-clause-ok
returns-then-eq-clause-ok g c =
    let same = (bytes_eq-Decides _ _).0 (sym c.eq.ensures ∙ c.if-eq.true) in
    subst (λ (l : List ℕ). IsLogSuper c.in-Some-new-2.found l) same c.to_block.ensures.says
