use Rattle.std.proofs.Common.{rules, ◌≡◌, ◌<◌, ◌++◌, ◌∷◌, [], length, map, Some, ◌∙◌, sym, ap, inl, inr, ⊎_elim}
use Rattle.std.proofs.lemmas.List.{map-append}
use Rattle.traces.specs.Lines.{entry_in}
use Rattle.traces.proofs.Entries.{entry_next, entry_fails}
use Rattle.traces.proofs.trace.entries.Goals as goal

pub loop-i-preserved : goal.loop-i-preserved
loop-i-preserved g c =
    let below : c.loop-i.i < length c.args.lines.now = search rules in
    let pushed : c.push.new.self.items ≡ c.loop-i.entries.items ++ c.in-Ok.entry ∷ [] = search rules in
    entry_next c.args.lines.now c.loop-i.i _ (map entry_in c.loop-i.entries.items)
    (entry_in c.in-Ok.entry) below c.loop-i.invariant c.in-Ok.ensures.ok
    ∙ ap Some (sym (map-append entry_in c.loop-i.entries.items (c.in-Ok.entry ∷ [])) ∙ ap (map entry_in) (sym pushed))

pub returns-in-Err-clause-err : goal.returns-in-Err-clause-err
returns-in-Err-clause-err g c =
    let below : c.loop-i.i < length c.args.lines.now = search rules in
    ⊎_elim inl (λ none. inr (entry_fails c.args.lines.now c.loop-i.i _ below none)) c.in-Err.ensures.err
