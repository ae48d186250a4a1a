use Rattle.device.proofs.Public.{ok_map}
use Rattle.log_room.proofs.room.commit_with_room.Goals as goal

pub returns-clause-leaves : goal.returns-clause-leaves
returns-clause-leaves g c = λ contents honest byte over.
    c.commit_in_rounds.ensures.commits.leads.leaves contents (record { honest = honest; over = over }) byte

pub returns-clause-held : goal.returns-clause-held
returns-clause-held g c = λ contents honest over.
    c.commit_in_rounds.ensures.commits.leads.held contents (record { honest = honest; over = over })

pub returns-clause-ended : goal.returns-clause-ended
returns-clause-ended g c = λ contents honest over ended.
    ok_map c.commit_in_rounds.result (λ ends. ends contents (record { honest = honest; over = over }) ended)
    c.commit_in_rounds.ensures.commits.ends
