use Rattle.std.proofs.Common.{rules, arith, [], ◌∷◌}
use Rattle.horizon.specs.inside.Rule.{Lifts}
use Rattle.horizon.proofs.Rises.{reads, raises}
use Rattle.horizon.proofs.Horizon.raise.Goals as goal

pub load_as-found-requires : goal.load_as-found-requires
load_as-found-requires g c = (search rules, (search rules, (search rules, reads _ _)))

pub compare_exchange_as-requires : goal.compare_exchange_as-requires
compare_exchange_as-requires g c =
    let seen = c.load_as-found.ensures.rule.1 in
    let low = seen.within.ordered in
    let first = c.max.ensures in
    let second = c.max-in-loop.ensures in
    let up : Lifts c.load_as-found.result (c.max.result ∷ c.max-in-loop.result ∷ []) =
    record { stalled = omega arith; committed = omega arith; ordered = omega arith } in (
      search rules,
      (
        search rules,
        (search rules, raises _ _ c.load_as-found.result (c.max.result ∷ c.max-in-loop.result ∷ []) up),
      ),
    )
