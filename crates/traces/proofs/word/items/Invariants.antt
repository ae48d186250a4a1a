use Rattle.std.proofs.Common.{◌≡◌, ◌∷◌, map, take}
use Rattle.serde_json.specs.Data.{string}
use Rattle.serde_json.specs.View.{view}
use Rattle.traces.specs.inside.Words.{data_of}
use Rattle.traces.specs.inside.Written.{num}
use Rattle.traces.proofs.word.items.Given as goal

abbrev pub invariant-loop-i : goal.invariant-loop-i
invariant-loop-i l = map view l.items.items ≡ num l.p ∷ string l.name ∷ map data_of (take l.i l.words)
