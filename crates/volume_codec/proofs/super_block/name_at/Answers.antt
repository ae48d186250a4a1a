use Rattle.std.proofs.Common.{ap, take}
use Rattle.volume_codec.proofs.ReadingLemmas.{text_found}
use Rattle.volume_codec.proofs.super_block.name_at.Goals as goal

pub returns : goal.returns
returns c = text_found c.from_utf8.result c.unwrap_or.result _ _ _ _
    (ap (λ n. take n (take 32 c.args.entry.now)) c.text_len.ensures) c.unwrap_or.ensures c.from_utf8.ensures.cases
