use Rattle.shootdown.proofs.ShootdownLaws.{IsShootdown-fresh}
use Rattle.shootdown.proofs.shootdown.Shootdown.new.Goals as goal

pub invariant_of-result : goal.invariant_of-result
invariant_of-result g c =
    rw c.in_ok-fresh_processors.ensures
    (IsShootdown-fresh c.args.cpus c.args.tlb c.requires.some c.requires.few c.requires.roomy)
