-- Writing a log's oldest commits home, one home block after another.
use Rattle.std.specs.Prelude.{⊤, ◌≡◌, ◌⊎◌, ℕ, ◌+◌, min, nat_lt, if◌then◌else◌, List, [], length, slice_get}
use Rattle.std.specs.Prelude.{Option, Some, None}
use Rattle.std.specs.List.{Contains}
use Rattle.volume_codec.specs.Layout.{block_at}
use Rattle.device.specs.Work.{Work, CopyBlock, Nothing}
use Rattle.log_codec.specs.Log.{LogValue}
use Rattle.log_codec.specs.Commit.{LogDescriptor}
use Rattle.log_codec.specs.Chain.{IsLogHome}
use Rattle.log_commits.specs.declared.behind.OldCommits.{OldCommits}
use Rattle.log_commits.specs.declared.behind.MoveFault.{MoveFault}
use Rattle.log_commits.specs.Tail.{TailValue}
use Rattle.log_commits.specs.Homes.{IsLoggedHome}
use Rattle.log_commits.specs.Behind.{MayCopyHome, RefusesCopy}
use Rattle.log_home.specs.declared.index.Newest.{Newest}
use Rattle.log_home.specs.Index.{Entries, find_in}

-- The oldest commits, the home blocks to look at, and the number of these that are done.
pub record HomeWorkValue : Type 0 where
  pub oldest : OldCommits
  pub homes : List ℕ
  pub done : ℕ

-- The work for no commits.
abbrev pub no_work : HomeWorkValue
no_work = record { oldest = record { below = 0; blocks = 0 }; homes = []; done = 0 }

-- The home block with its newest record, if that record belongs to the oldest commits.
abbrev pub old_copy : OldCommits → ℕ → Option Newest → Option (ℕ × Newest)
old_copy oldest home None = None
old_copy oldest home (Some newest) = if nat_lt newest.number oldest.below then Some (home, newest) else None

abbrev pub copy_for : OldCommits → Option ℕ → Entries → Option (ℕ × Newest)
copy_for oldest None entries = None
copy_for oldest (Some home) entries = old_copy oldest home (find_in entries home)

-- The record that the next step copies, and its home block. There is none if a younger commit has the home block, or if
-- all are done.
abbrev pub next_copy : HomeWorkValue → Entries → Option (ℕ × Newest)
next_copy work entries = copy_for work.oldest (slice_get work.homes work.done) entries

-- The step's work on the device.
abbrev pub copy_work : Option (ℕ × Newest) → Work
copy_work None = Nothing
copy_work (Some copy) = CopyBlock copy.1.block copy.0

-- Holds if the step may be made.
abbrev pub MayStep : TailValue → Option (ℕ × Newest) → Type 0
MayStep t None = ⊤
MayStep t (Some copy) = MayCopyHome t copy.1.block copy.0

-- Why the step fails.
abbrev pub RefusesStep : TailValue → Option (ℕ × Newest) → MoveFault → Type 0
RefusesStep t None fault = ⊥
RefusesStep t (Some copy) fault = RefusesCopy t copy.1.block copy.0 fault

-- The work after a step.
abbrev pub stepped : HomeWorkValue → HomeWorkValue
stepped work = record work { done = min (work.done + 1) (length work.homes) }

-- Each of these home blocks that a commit of `ds` has contains its recovered bytes, or a younger commit has it.
abbrev pub AreHome : LogValue → (ℕ → List ℕ) → List LogDescriptor → List LogDescriptor → List ℕ → List ℕ → Type 0
AreHome g contents ds younger homes bytes =
    (b : ℕ) → Contains homes b → IsLogHome g b → IsLoggedHome ds b
    → IsLoggedHome younger b ⊎ (block_at bytes b ≡ contents b)
