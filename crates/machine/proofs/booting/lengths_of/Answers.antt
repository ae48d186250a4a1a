use Rattle.machine.proofs.Names.{ℕ, ◌≡◌, ◌++◌, ◌∷◌, [], List, sym, ap, ◌∙◌}
use Rattle.std.proofs.Common.{rules}
use Rattle.machine.proofs.code.Parts.{taken_more}
use Rattle.machine.proofs.booting.lengths_of.Goals as goal

pub loop-file-preserved : goal.loop-file-preserved
loop-file-preserved g c =
    let pushed : c.push.new.self.items ≡ c.loop-file.lengths.items ++ c.length.result ∷ [] = search rules in
    pushed ∙ ap (λ (l : List ℕ). l ++ c.length.result ∷ []) c.loop-file.invariant
    ∙ sym (taken_more c.args.volume.now.lengths c.loop-file.file c.length.result c.length.ensures)
