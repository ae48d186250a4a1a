use Rattle.std.proofs.Common.{List, ℕ, length, sym, ap, ◌∙◌, subst, arith}
use Rattle.std.specs.Prelude.{Ok, Err}
use Rattle.std.specs.List.Sorted.{IsBinarySearchResult}
use Rattle.std.specs.Ordering.{nat_cmp}
use Rattle.volume_codec.proofs.Public.{few_slots}
use Rattle.recovery.specs.inside.Reading.{batch_of}
use Rattle.recovery.proofs.RecoveredLengths.{record_found}
use Rattle.recovery.proofs.opening.OpenJournal.record_of.Goals as goal

pub overflow_cast-record : goal.overflow_cast-record
overflow_cast-record g c = omega (
  arith,
  c.in-Ok.ensures.bound,
  ap length c.homes.ensures,
  c.requires.described.homes.few,
  c.first_home.ensures.geometry.few_slots,
  few_slots c.args.geometry.now.layout,
)

pub record_block-requires-clause-within : goal.record_block-requires-clause-within
record_block-requires-clause-within g c =
    omega (arith, c.in-Ok.ensures.bound, ap length c.homes.ensures, c.requires.described.homes.few)

pub returns-in-Ok-clause-value : goal.returns-in-Ok-clause-value
returns-in-Ok-clause-value g c = λ older.
    let P : List ℕ → Type 0 = λ homes. IsBinarySearchResult (λ y. nat_cmp y c.args.home) homes (Ok c.in-Ok.record) in
    record_found c.args.geometry.now (batch_of c.args.self.now) c.args.home (Ok c.in-Ok.record) c.requires
    (subst P c.homes.ensures c.in-Ok.ensures.position) older
    ∙ sym c.record_block.ensures.value

pub returns-in-Err-clause-value : goal.returns-in-Err-clause-value
returns-in-Err-clause-value g c = λ older.
    let P : List ℕ → Type 0 = λ homes. IsBinarySearchResult (λ y. nat_cmp y c.args.home) homes (Err c.in-Err.field-0) in
    record_found c.args.geometry.now (batch_of c.args.self.now) c.args.home (Err c.in-Err.field-0) c.requires
    (subst P c.homes.ensures c.in-Err.ensures.position) older
