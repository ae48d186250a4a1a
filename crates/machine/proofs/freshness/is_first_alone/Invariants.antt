use Rattle.std.proofs.Common.{◌≡◌, ◌++◌}
use Rattle.std.specs.List.{All}
use Rattle.std.specs.FinMap as maps
use Rattle.machine.proofs.freshness.is_first_alone.Given as goal

abbrev pub invariant-loop-pcid : goal.invariant-loop-pcid
invariant-loop-pcid g l = record {
  can : (goal.iterator-loop-pcid g).can_next l.pcid-iterator;
  finite : (goal.iterator-loop-pcid g).is_finite l.pcid-iterator;
  listed : l.yielded ++ l.pcid-iterator ≡ maps.keys l.spaces.map;
  first : All (λ pcid. pcid ≡ 0) l.yielded;
}
