use Rattle.std.proofs.Common.{ap, ◌∙◌, arith}
use Rattle.std.proofs.lemmas.List.{take_all}
use Rattle.std.specs.List.{flat_map}
use Rattle.volume_codec.specs.Text.{padded}
use Rattle.volume_codec.proofs.Lengths.{asked_length_text, asked_text}
use Rattle.volume_codec.proofs.lengths_block.write_lengths_of.Goals as goal

pub returns : goal.returns
returns c =
    c.finish.ensures ∙ ap (padded 4096) (c.loop-file.invariant.written ∙ ap (flat_map asked_length_text)
    (take_all c.loop-file.file-index c.args.files.now (omega arith)) ∙ asked_text c.args.files.now)
