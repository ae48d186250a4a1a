use Rattle.std.proofs.Common.{rules, ◌≡◌, take, sym, ◌∙◌}
use Rattle.std.proofs.lemmas.Slice.Eq.{bytes_eq-Decides}
use Rattle.log_codec.specs.declared.sealing.Sealing.TheVariants.{ByDigest}
use Rattle.log_volume.proofs.Spelled.{reads_log, one_sealing}
use Rattle.log_volume.proofs.super_block.sealing_of.Goals as goal

pub returns-then-eq-2-clause-only : goal.returns-then-eq-2-clause-only
returns-then-eq-2-clause-only c = λ v is.
    let r = reads_log v c.args.block.now is in
    let copied : c.copy_from_slice.new.self ≡ take 8 c.args.block.now = search rules in
    let six = (bytes_eq-Decides _ _).0 (sym c.eq-2.ensures ∙ c.if-eq-2.true) in
    one_sealing (ByDigest c.u64_at.result) v.sealing (sym (sym copied ∙ six ∙ c.magic_in-2.ensures) ∙ r.magic)
    (c.u64_at.ensures ∙ r.key)
