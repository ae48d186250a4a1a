-- How far one reply raises the horizon.
use Rattle.std.specs.Prelude.{ℕ, ◌≡◌, ◌≤◌, ⊤, Bool, if◌then◌else◌}
use Rattle.horizon.specs.Seen.{SeenState, HasRaisedStalled, HasRaisedBoth}
use Rattle.machine.specs.declared.act.Reply.{Reply}
use Rattle.machine.specs.declared.act.Reply.TheVariants as replies
use Rattle.service.specs.declared.raising.Raise.{Raise}
use Rattle.service.specs.declared.raising.Raise.TheVariants as raises

-- The raise that a reply requires. A mark raises `stalled`, and also `committed` if nothing was unmarked. A commit
-- raises both.
abbrev pub raise_by : Bool → Reply → Raise
raise_by unmarked (replies.Marked number) = if unmarked then raises.Stalled number else raises.Committed number
raise_by unmarked (replies.Committed number) = raises.Committed number
raise_by unmarked reply = raises.Nothing

-- The horizon has reached the number of this raise.
abbrev pub RaisesUpTo : Raise → ℕ → ℕ → Type 0
RaisesUpTo raises.Nothing stalled committed = ⊤
RaisesUpTo (raises.Stalled number) stalled committed = number ≤ stalled
RaisesUpTo (raises.Committed number) stalled committed = (number ≤ stalled) × (number ≤ committed)

-- Only this raise was made. Each word that it names became the maximum of itself and the number.
abbrev pub RaisesSo : Raise → SeenState → SeenState → Type 0
RaisesSo raises.Nothing old new = new ≡ old
RaisesSo (raises.Stalled number) old new = HasRaisedStalled number old new
RaisesSo (raises.Committed number) old new = HasRaisedBoth number old new
