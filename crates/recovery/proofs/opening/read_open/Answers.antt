use Rattle.recovery.proofs.Kept.{kept_then, read_then}
use Rattle.recovery.proofs.opening.read_open.Goals as goal

pub returns-clause-read : goal.returns-clause-read
returns-clause-read g c = read_then c.in_ok-gates.ensures.read c.read_described.ensures.read

pub returns-clause-kept : goal.returns-clause-kept
returns-clause-kept g c = kept_then c.in_ok-gates.ensures.kept c.in_ok-found.ensures.kept
