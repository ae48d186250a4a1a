use Rattle.machine.proofs.laws.counts_of_a_write_out.Goals as goal
use Rattle.machine.proofs.Counted.{committed_count, done_count}

pub returns-clause-committed : goal.returns-clause-committed
returns-clause-committed g c =
    λ files start old marked last new earlier steps observed replies p number mark step on taken here.
    committed_count g.D.Device files start old marked last new earlier steps observed replies p
    number mark step on taken here

pub returns-clause-done : goal.returns-clause-done
returns-clause-done g c =
    λ files start old marked last new earlier steps observed replies p number mark step on taken here.
    done_count g.D.Device files start old marked last new earlier steps observed replies p
    number mark step on taken here
