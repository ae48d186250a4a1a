use Rattle.crashes_command.specs.Text.{found_text}
use Rattle.crashes_command.proofs.Writing.{then_appends, where_ok}
use Rattle.crashes_command.proofs.text.text_row.Goals as goal

pub returns : goal.returns
returns g c =
    let contents = g.W.Write.contents in
    let head = c.in_ok-text_head.ensures in
    where_ok c.text_found.result (λ last. (
      head.0,
      then_appends (contents c.args.out.now) (contents c.text_head.new.out) (contents c.text_found.new.out) head.0
          (found_text c.args.row.now) head.1 last,
    )) c.text_found.ensures
