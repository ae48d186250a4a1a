use Rattle.std.proofs.Common.{◌++◌, ap, ◌∙◌, arith, length-append}
use Rattle.std.specs.Prelude.{bit_xor}
use Rattle.volume_codec.specs.Text.{number_text}
use Rattle.log_codec.specs.Commit.{log_body}
use Rattle.log_codec.proofs.Digests.{short_body}
use Rattle.log_codec.proofs.seal.CommitDigest.seal.Goals as goal

pub returns : goal.returns
returns c = λ key epoch d taken has few short.
    c.number_bytes.ensures ∙ ap (number_text 8) (c.finish.ensures (bit_xor key epoch) (log_body d ++ taken) has
    (omega (arith, length-append (log_body d) taken, short_body d few)))
