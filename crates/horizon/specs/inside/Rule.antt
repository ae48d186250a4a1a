-- The rule of the two words, and what a step of each kind does. The first word is stalled, the second committed.
use Rattle.std.specs.Prelude.{◌≡◌, ℕ, ◌+◌, ◌-◌, ◌≤◌, List, slice_index}
use mathlib.Core.Option.{some}
use lib.ListN.{get_elem?}
use Rattle.horizon.specs.declared.rule.View.{View}

-- Neither word is below the number seen.
pub record NeitherFell (seen : View) (words : List ℕ) : Type 0 where
  pub stalled : seen.stalled ≤ slice_index words 0
  pub committed : seen.committed ≤ slice_index words 1

-- From `before` to `after`, neither word fell. In `after`, committed is at most stalled.
pub record Lifts (before after : List ℕ) : Type 0 where
  pub stalled : slice_index before 0 ≤ slice_index after 0
  pub committed : slice_index before 1 ≤ slice_index after 1
  pub ordered : slice_index after 1 ≤ slice_index after 0

-- What a holder has seen after its step: the words after the step. What the step added to each word is added to the
-- holder's totals.
abbrev pub seen_after : View → List ℕ → List ℕ → View
seen_after seen before after = record {
  stalled = slice_index after 0;
  committed = slice_index after 1;
  stalled_raised = seen.stalled_raised + (slice_index after 0 - slice_index before 0);
  committed_raised = seen.committed_raised + (slice_index after 1 - slice_index before 1);
}

-- Each word is at least what each holder saw of it, and committed is at most stalled.
pub record IsKept (words : List ℕ) (views : List View) : Type 0 where
  pub ordered : slice_index words 1 ≤ slice_index words 0
  pub reached : (pass : ℕ) (v : View) → get_elem? views pass ≡ some v → NeitherFell v words

-- A holder's step. No word fell since the holder's last step, or within this one. `sees` is what the holder has seen
-- after it.
pub record Steps (seen : View) (before after : List ℕ) (sees : View) : Type 0 where
  pub since : NeitherFell seen before
  pub within : Lifts before after
  pub shown : sees ≡ seen_after seen before after

-- A step that doesn't change the words.
abbrev pub Reads : View → List ℕ → List ℕ → View → Type 0
Reads seen before after sees = (after ≡ before) × Steps seen before after sees
