use Rattle.std.proofs.Common.{ℕ, List, ◌+◌, ◌-◌, length, ap, ◌∙◌, arith}
use borrow.Rule.Slice.PartMut.{put_mid}
use Rattle.log_codec.proofs.Written.{padded-put}
use Rattle.log_codec.proofs.block.put.Goals as goal

pub returns : goal.returns
returns c = λ text is size.
    let at = c.args.at in
    let block = c.args.block.now in
    ap (λ (l : List ℕ). put_mid at (at + length c.args.bytes.now - at) block l) c.copy_from_slice.ensures.after
    ∙ padded-put block text c.args.bytes.now at _ is size (omega arith) c.requires
