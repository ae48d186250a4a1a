use Rattle.commands.proofs.Appended.{item_more}
use Rattle.commands.specs.inside.Greeting.{file_text}
use Rattle.commands.proofs.serving.write_files.Goals as goal

pub loop-file-preserved : goal.loop-file-preserved
loop-file-preserved g c =
    let contents = g.W.Write.contents in
    item_more file_text (contents c.args.out.now) (contents c.loop-file.out) (contents c.write_file.new.out)
    c.args.files.now c.loop-file.file-index c.file-item.result c.loop-file-test.true c.file-item.is
    c.loop-file.invariant c.in_ok-write_file.ensures
