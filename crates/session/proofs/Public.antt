-- What those who keep a session for others need: steps after steps, and that a session's are all since its start.
pub use Rattle.session.proofs.Serves.{served_none, served_does}
pub use Rattle.session.proofs.Stretches.{makes_none, makes_then}
