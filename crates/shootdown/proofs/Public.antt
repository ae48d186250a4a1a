-- What follows of the definitions, for the crates above: what each move of the processors and each change of the page
-- tables keeps. They see no other lemma of this crate. What they say of coherence is the contract of `laws.rt` too.
pub use Rattle.shootdown.proofs.ShootdownLaws.{processor_at-with_same, processor_at-with_other}
pub use Rattle.shootdown.proofs.ShootdownLaws.{length-with_processor, at-with_processor, is_there_below}
pub use Rattle.shootdown.proofs.ShootdownLaws.{none_unless_some, admitted, running, elsewhere}
pub use Rattle.shootdown.proofs.ShootdownLaws.{IsShootdown-fresh, IsShootdown-stalled, IsShootdown-idled}
pub use Rattle.shootdown.proofs.ShootdownLaws.{IsShootdown-resumed, IsShootdown-switched_to, IsShootdown-filled}
pub use Rattle.shootdown.proofs.ShootdownLaws.{IsShootdown-without_page, IsShootdown-evicted}
pub use Rattle.shootdown.proofs.ShootdownLaws.{IsShootdown-begun, processor_at-begun, state-begun_one, current-begun}
pub use Rattle.shootdown.proofs.ShootdownLaws.{length-begun, IsShootdown-finished, IsShootdown-destroyed}
pub use Rattle.shootdown.proofs.ShootdownLaws.{processor_at-destroyed, length-destroyed, current-destroyed}
pub use Rattle.shootdown.proofs.CoherenceLaws.{Coheres-fresh, Coheres-stalled, Coheres-idled, Coheres-resumed}
pub use Rattle.shootdown.proofs.CoherenceLaws.{Coheres-switched_to, Coheres-filled, Coheres-without_page}
pub use Rattle.shootdown.proofs.CoherenceLaws.{Coheres-evicted, Coheres-begun, IsUnused-from_Coheres}
pub use Rattle.shootdown.proofs.CoherenceLaws.{Coheres-changed, Coheres-finished, Coheres-grown, Coheres-destroyed}
pub use Rattle.shootdown.proofs.Narrowing.{entry_at-remove_other, IsNoWider-same_places, IsNoWider-remove}
