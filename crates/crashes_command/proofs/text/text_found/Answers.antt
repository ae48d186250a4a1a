use Rattle.crashes_command.proofs.Writing.{then_appends, where_ok}
use Rattle.std.proofs.Common.{◌+◌, ◌∷◌, []}
use Rattle.crash_states.specs.Rows.{newest_of}
use Rattle.crashes_command.specs.Text.{marks_text}
use Rattle.crashes_command.proofs.text.text_found.Goals as goal

pub returns : goal.returns
returns g c =
    let contents = g.W.Write.contents in
    let found = c.args.row.now.found.items in
    where_ok c.writeln.result
    (then_appends (contents c.args.out.now) (contents c.text_marks.new.out) (contents c.writeln.new.self)
    (marks_text found (newest_of found + 1)) (10 ∷ []) c.in_ok-text_marks.ensures) c.writeln.ensures.bytes
