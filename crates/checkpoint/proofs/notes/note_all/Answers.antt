use Rattle.checkpoint.proofs.Noting.{AreNoted-all}
use Rattle.checkpoint.proofs.notes.note_all.Goals as goal

pub returns : goal.returns
returns g c = AreNoted-all c.args.spaces.now.map c.args.notes.now c.note_dirty.new.notes c.note_dirty.ensures.size
    c.note_dirty.ensures.noted
