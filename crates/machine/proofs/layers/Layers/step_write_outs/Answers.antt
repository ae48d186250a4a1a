use Rattle.machine.proofs.Names.{length, lengths_text, next_work, sym, ap, ◌∙◌, arith, state_in}
use Rattle.machine.proofs.code.Records.{other_record}
use Rattle.machine.proofs.layers.Layers.step_write_outs.Goals as goal

pub write_lengths-block-requires : goal.write_lengths-block-requires
write_lengths-block-requires g c =
    omega (arith, c.requires.sound.lengths, c.requires.sound.fits.few_files, ap length c.deref.ensures.value)

pub step_with-requires-clause-bytes : goal.step_with-requires-clause-bytes
step_with-requires-clause-bytes g c =
    ap (next_work c.args.self.now.write_outs) (c.write_lengths-block.ensures ∙ ap lengths_text c.deref.ensures.value
    ∙ sym (other_record (state_in c.args.self.now) (sym c.is_page_next.ensures ∙ c.if-is_page_next.false)))
