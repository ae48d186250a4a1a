use Rattle.std.proofs.Common.{inl, Ok}
use Rattle.std.proofs.lemmas.Bool.{iff_false}
use Rattle.famsync_core.specs.declared.volume.OpenVolume.TheVariants.{Log}
use Rattle.famsync_core.proofs.Opening.{opens_as_log}
use Rattle.famsync_core.proofs.volume.open_volume.Goals as goal

pub returns-then-not-is_not_a_volume : goal.returns-then-not-is_not_a_volume
returns-then-not-is_not_a_volume c = inl (
  iff_false c.is_not_a_volume.ensures c.if-not-is_not_a_volume.true,
  (c.in-Err.ensures.refused, c.in-Err.ensures.wanted, c.in-Err.ensures.untouched),
)

pub returns-in-Ok-open : goal.returns-in-Ok-open
returns-in-Ok-open c =
    opens_as_log c.args.disk c.in-Err.disk c.args.most c.in-Err.why c.is_not_a_volume.result
    (Ok (Log c.in-Ok-open.volume)) c.is_not_a_volume.ensures c.if-not-is_not_a_volume.false
    (c.in-Err.ensures.refused, c.in-Err.ensures.wanted, c.in-Err.ensures.untouched) c.in-Ok-open.ensures.opens
