use Rattle.std.proofs.Common.{◌≡◌, ◌++◌, map, take, drop}
use Rattle.mappings.specs.inside.Edits.{given_rights}
use Rattle.mappings.proofs.list.set_rights.Given as goal

-- the mappings so far have changed, the others not yet
abbrev pub invariant-loop-mapping : goal.invariant-loop-mapping
invariant-loop-mapping l =
    l.list ≡ map (given_rights l.rights) (take l.mapping-index l.fn.list) ++ drop l.mapping-index l.fn.list
