use Rattle.std.proofs.Common.{ℕ, List, Option, false}
use Rattle.session.specs.inside.Reading.{ReadsPart}
use Rattle.session.proofs.line.read_start.Given as goal

abbrev pub invariant-loop : goal.invariant-loop
invariant-loop g l = (known : Option (List ℕ))
    → ReadsPart known (g.I.Read.remaining l.initial.input) l.initial.line.items false
    → ReadsPart known (g.I.Read.remaining l.input) l.line.items false
