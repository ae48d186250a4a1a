use Rattle.std.proofs.Common.{List, ℕ, ◌++◌, subst, append_assoc}
use Rattle.std.specs.Prelude.{bit_xor}
use Rattle.xxh64.specs.Xxh64.{HasMessage}
use Rattle.log_codec.specs.Commit.{log_body}
use Rattle.log_codec.proofs.seal.CommitDigest.add.Goals as goal

pub returns : goal.returns
returns c = λ key epoch d taken has.
    let P : List ℕ → Type 0 = λ m. HasMessage c.update.new.self (bit_xor key epoch) m in
    subst P (append_assoc (log_body d) taken c.args.records.now)
    (c.update.ensures (bit_xor key epoch) (log_body d ++ taken) has)
