use Rattle.session.proofs.Listed.{listed_from}
use Rattle.session.proofs.requests.Requests.start.Goals as goal

pub returns-in-Ok-clause-started : goal.returns-in-Ok-clause-started
returns-in-Ok-clause-started g c =
    let opened = c.in-Ok.ensures in
    record {
      started = opened.started;
      files = opened.files;
      listed = λ honest. listed_from g.D.Device c.args.device c.args.shape _ _ opened.started
          c.opened_as_recovered.ensures.files opened.files honest;
      nothing = opened.nothing;
    }
