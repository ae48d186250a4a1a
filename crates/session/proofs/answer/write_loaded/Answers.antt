use Rattle.std.proofs.Common.{◌∙◌}
use Rattle.session.proofs.Writing.{ok_after, reports_reached}
use Rattle.session.proofs.answer.write_loaded.Goals as goal

pub returns-in-Ok : goal.returns-in-Ok
returns-in-Ok g c =
    let contents = g.W.Write.contents in
    let replied = reports_reached (contents c.args.out.now) (contents c.write_range.new.out) c.args.reached.now
    c.args.bytes.now c.as_str.result.now c.in_default.not-NoMemory (c.as_str.ensures.value ∙ c.in-Ok.ensures) in
    ok_after c.write_range.result c.map_err.result c.map_err.ensures.variant replied c.write_range.ensures
