use Rattle.std.proofs.Common.{◌≡◌, length, ap, arith, rules}
use Rattle.std.specs.List.{insert}
use Rattle.recovery.proofs.FoundJournals.{place_in, added_at}
use Rattle.recovery.proofs.opening.add_journal.Goals as goal

pub insert-requires : goal.insert-requires
insert-requires g c =
    omega (
      arith,
      place_in c.mark.result c.deref.result.now c.in_ok-place.place c.in_ok-place.ensures.place,
      ap length c.deref.ensures.value,
    )

pub returns-clause-added : goal.returns-clause-added
returns-clause-added g c =
    let inserted : c.insert.new.self.items ≡ insert c.args.found.now.items c.in_ok-place.place c.args.opened =
    search rules in
    added_at c.args.opened c.deref.result.now c.args.found.now.items c.insert.new.self.items c.mark.result
    c.in_ok-place.place c.mark.ensures c.deref.ensures.value c.in_ok-place.ensures.place inserted
