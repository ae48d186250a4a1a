use Rattle.std.proofs.Common.{◌≡◌, ◌∙◌, arith}
use Rattle.std.proofs.lemmas.Result.{on_ok_weaker}
use Rattle.device.specs.Device.{written}
use Rattle.device.proofs.Ranges.{torn_after}
use Rattle.volume_codec.specs.Files.{asked_by, lengths_asked}
use Rattle.volume_codec.specs.Super.{super_text}
use Rattle.recovery.specs.Counts.{Rises}
use Rattle.recovery.proofs.Formatted.{blank, time_of_laying, time_of_finishing}
use Rattle.recovery.proofs.formatting.write_table.Goals as goal

pub lay_out-requires : goal.lay_out-requires
lay_out-requires g c = c.requires.room

pub finish-requires-clause-long : goal.finish-requires-clause-long
finish-requires-clause-long g c = omega (arith, c.requires.room.long, c.in_ok-lay_out.ensures.overwrites.kept.len)

pub returns-clause-blank : goal.returns-clause-blank
returns-clause-blank g c = λ honest.
    let honest_1 = c.in_ok-lay_out.ensures.overwrites.kept.honest.1 honest in
    on_ok_weaker c.finish.result
    (λ (is : g.D.Device.seen c.finish.new.device
    ≡ written (g.D.Device.seen c.lay_out.new.device) 0 (super_text c.args.table.now)).
    blank c.args.table.now (lengths_asked (asked_by c.args.files.now)) _ _ c.requires.fits
    (c.in_ok-lay_out.ensures.emptied honest) is)
    (c.finish.ensures.finishes.done honest_1)

pub returns-in_err-lay_out-clause-past : goal.returns-in_err-lay_out-clause-past
returns-in_err-lay_out-clause-past g c =
    λ honest i le. torn_after (c.in_err-lay_out.ensures.overwrites.torn honest) i (omega (arith, le))

pub returns-clause-past : goal.returns-clause-past
returns-clause-past g c = λ honest i le.
    let honest_1 = c.in_ok-lay_out.ensures.overwrites.kept.honest.1 honest in
    torn_after (c.finish.ensures.finishes.torn honest_1) i (omega (arith, le))
    ∙ torn_after (c.in_ok-lay_out.ensures.overwrites.torn honest) i (omega (arith, le))

pub returns-in_err-lay_out-clause-crash : goal.returns-in_err-lay_out-clause-crash
returns-in_err-lay_out-clause-crash g c = λ honest. time_of_laying g.D.Device c.args.table.now
    (lengths_asked (asked_by c.args.files.now)) (omega arith) c.in_err-lay_out.ensures.overwrites

pub returns-clause-crash : goal.returns-clause-crash
returns-clause-crash g c = λ honest.
    let honest_1 = c.in_ok-lay_out.ensures.overwrites.kept.honest.1 honest in
    time_of_finishing g.D.Device c.args.table.now (lengths_asked (asked_by c.args.files.now))
    (omega arith) c.in_ok-lay_out.ensures.overwrites honest_1
    (c.in_ok-lay_out.ensures.emptied honest) c.finish.ensures.finishes

pub returns-clause-calls : goal.returns-clause-calls
returns-clause-calls g c =
    on_ok_weaker c.finish.result
    (λ (three : Rises 3 (g.D.Device.calls_made c.lay_out.new.device) (g.D.Device.calls_made c.finish.new.device)).
    λ small.
    omega (arith, small, c.in_ok-lay_out.ensures.overwrites.calls, three))
    c.finish.ensures.finishes.calls

pub returns-in_err-lay_out-clause-most : goal.returns-in_err-lay_out-clause-most
returns-in_err-lay_out-clause-most g c = λ small. omega (arith, small, c.in_err-lay_out.ensures.overwrites.most)

pub returns-clause-most : goal.returns-clause-most
returns-clause-most g c =
    λ small. omega (arith, small, c.in_ok-lay_out.ensures.overwrites.calls, c.finish.ensures.finishes.most)
