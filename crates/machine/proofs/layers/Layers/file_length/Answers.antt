use Rattle.machine.proofs.Names.{ℕ, List, length, get_or, ap, ◌∙◌, arith}
use Rattle.machine.proofs.layers.Layers.file_length.Goals as goal

pub length_at-requires : goal.length_at-requires
length_at-requires g c = omega (arith, ap length c.deref.ensures.value, c.requires.sound.lengths, c.requires.there)

pub returns : goal.returns
returns g c = c.length_at.ensures ∙ ap (λ (l : List ℕ). get_or l c.args.file 0) c.deref.ensures.value
