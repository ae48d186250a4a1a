use Rattle.std.proofs.Common.{rules, ◌≡◌, ◌<◌, ◌++◌, ◌∷◌, [], length, map, Some, ◌∙◌, sym, ap}
use Rattle.std.proofs.lemmas.List.{map-append}
use Rattle.serde_json.specs.View.{view}
use Rattle.scripts.specs.Threads.{program_of}
use Rattle.scripts.proofs.AllOf.{all_of_next}
use Rattle.scripts.proofs.command.programs.Goals as goal

pub loop-i-preserved : goal.loop-i-preserved
loop-i-preserved g c =
    let below : c.loop-i.i < length c.args.values.now = search rules in
    let this : Some c.in_ok-program.program.items ≡ program_of (view c.index-values-i.result) = search rules in
    let pushed : c.push.new.self.items ≡ c.loop-i.programs.items ++ c.in_ok-program.program ∷ [] = search rules in
    all_of_next view program_of c.args.values.now c.loop-i.i c.index-values-i.result (map (λ p. p.items)
    c.loop-i.programs.items) c.in_ok-program.program.items below (sym c.index-values-i.is) c.loop-i.invariant this
    ∙ ap Some (sym (map-append (λ p. p.items) c.loop-i.programs.items (c.in_ok-program.program ∷ []))
    ∙ ap (map (λ p. p.items)) (sym pushed))
