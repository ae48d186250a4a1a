-- Which marks of a trace are acknowledged, as its replies show, and how far they have raised the horizon.
use Rattle.std.specs.Prelude.{ℕ, ◌≡◌, ◌≤◌, ⊤, Bool, true, false, if◌then◌else◌, List}
use Rattle.std.specs.List.{fold}
use Rattle.horizon.specs.Seen.{IsRaisedTo}
use Rattle.machine.specs.declared.act.Reply.{Reply}
use Rattle.machine.specs.declared.act.Reply.TheVariants as replies
use Rattle.machine.specs.Unmarked.{unmarked_by}
use Rattle.service.specs.declared.entry.Entry.{Entry}

-- whether something was stored, or a length set, since the last mark of a trace, or since its start
abbrev pub has_unmarked : List Entry → Bool
has_unmarked trace = fold (λ unmarked e. unmarked_by unmarked e.reply) false trace

-- The number of the last acknowledged mark after one more reply. A commit acknowledges its mark. A mark acknowledges
-- itself if nothing was stored, and no length set, since the mark before.
abbrev pub acknowledged_with : ℕ → Bool → Reply → ℕ
acknowledged_with number unmarked (replies.Marked new) = if unmarked then number else new
acknowledged_with number unmarked (replies.Committed new) = new
acknowledged_with number unmarked reply = number

-- the number of the last acknowledged mark of a trace (0 if there is none), and whether something is unmarked
abbrev pub marks_of : List Entry → ℕ × Bool
marks_of trace =
    fold (λ marks e. (acknowledged_with marks.0 marks.1 e.reply, unmarked_by marks.1 e.reply)) (0, false) trace

abbrev pub last_acknowledged : List Entry → ℕ
last_acknowledged trace = (marks_of trace).0

-- The horizon has reached the mark that the reply makes or acknowledges. `unmarked`: something was unmarked before it.
abbrev pub HasReached : Bool → Reply → ℕ → ℕ → Type 0
HasReached unmarked (replies.Marked number) stalled committed =
    (number ≤ stalled) × (unmarked ≡ false → number ≤ committed)
HasReached unmarked (replies.Committed number) stalled committed = (number ≤ stalled) × (number ≤ committed)
HasReached unmarked reply stalled committed = ⊤

-- The two words of the horizon as one processor has seen them, and the totals by which its own calls raised them.
pub record Words : Type 0 where
  pub stalled : ℕ
  pub committed : ℕ
  pub stalled_raised : ℕ
  pub committed_raised : ℕ

-- The call didn't raise `committed`.
abbrev pub LeavesCommitted : Words → Words → Type 0
LeavesCommitted old new = new.committed_raised ≡ old.committed_raised

-- The call set `committed` to the maximum of itself and the number, in one step.
abbrev pub RaisesCommitted : ℕ → Words → Words → Type 0
RaisesCommitted number old new =
    IsRaisedTo number old.committed old.committed_raised new.committed new.committed_raised

-- The call set `stalled` to the maximum of itself and the number, in one step.
abbrev pub RaisesStalled : ℕ → Words → Words → Type 0
RaisesStalled number old new = IsRaisedTo number old.stalled old.stalled_raised new.stalled new.stalled_raised

-- The effect on the horizon of a call with this reply. A commit raises both words to its mark's number. A mark raises
-- `stalled`, and also `committed` if nothing was `unmarked` before it. No other reply raises a word.
abbrev pub HasRaised : Bool → Reply → Words → Words → Type 0
HasRaised true (replies.Marked number) old new = RaisesStalled number old new × LeavesCommitted old new
HasRaised false (replies.Marked number) old new = RaisesStalled number old new × RaisesCommitted number old new
HasRaised unmarked (replies.Committed number) old new = RaisesStalled number old new × RaisesCommitted number old new
HasRaised unmarked reply old new = new ≡ old
