use Rattle.session.proofs.Marks.{acknowledged, line_mark}
use Rattle.session.proofs.acknowledging.acknowledges.Goals as goal

pub returns-clause-mark : goal.returns-clause-mark
returns-clause-mark g c =
    λ files start mid new between after earlier steps later replied replies more p mark before makes it.
    acknowledged g.D.Device p mark files start mid new between after earlier steps later replied
    replies more before makes it

pub returns-clause-line : goal.returns-clause-line
returns-clause-line g c =
    λ files start mid new between after earlier steps later replied replies more p number before makes it.
    let (mark, is, commits) = line_mark p between number steps replies it in (
      mark,
      is,
      acknowledged g.D.Device p mark files start mid new between after earlier steps later replied replies
          more before makes commits,
    )
