-- What follows of the definitions, for the crates above, which see no other lemma of this crate: what a fault that is
-- served keeps of the spaces and of what is frozen.
pub use Rattle.fault.proofs.ServedLaws.{MayBe-fixed, Keeps-fixed}
pub use Rattle.fault.proofs.FixKept.{All-frozen, All-in_memory_fixed}
