use Rattle.std.proofs.Common.{[], ap, ◌∙◌}
use Rattle.log_codec.specs.declared.sealing.Sealing.{Sealing}
use Rattle.log_codec.specs.Commit.{LogDescriptor, log_seal}
use Rattle.log_commits.proofs.image.seal_of.Goals as goal

pub returns-in-ByDigest : goal.returns-in-ByDigest
returns-in-ByDigest c =
    let key = c.in-ByDigest.key in
    let epoch = c.args.epoch in
    let d : LogDescriptor = record { number = c.args.number; homes = c.args.homes.now } in
    let records = c.args.records.now in
    c.seal.ensures key epoch d records (c.add.ensures key epoch d [] c.new-digest.ensures) c.requires.few
    c.requires.short
    ∙ ap (λ (s : Sealing). log_seal s epoch d records) c.in-ByDigest.ensures.value
