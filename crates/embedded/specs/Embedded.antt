-- A pager whose device calls a host makes, and the marks that it committed.
use Rattle.std.specs.Prelude.{ℕ, ◌≡◌, ◌-◌, ◌^◌, ◌≤◌, min, nat_le, if◌then◌else◌, List, Contains}
use Rattle.std.specs.Prelude.{Option, Some, None, IfSome}
use Rattle.deferred_disk.specs.Deferred.{Deferred, as_memory, carried_moment, IsSuppliedWell, recorded_calls}
use Rattle.device.specs.Memory.{moment_of, seen_of}
use Rattle.volume_codec.specs.Files.{File}
use Rattle.volume_codec.specs.Recovery.{RecoversTo}
use Rattle.history.specs.History.{Event, Acknowledge}
use Rattle.pager.specs.State.{PagerState}
use Rattle.pager.specs.Histories.{HasCome, HasGone}
use Rattle.embedded.specs.Recorded.{deferred_disk}

-- The state of an embedded volume: its pager, and the marks of the last commit and of the last acknowledged commit.
-- `due` is the number of device calls that were recorded when the last commit was reported.
pub record EmbeddedState : Type 0 where
  pub pager : PagerState Deferred
  pub committed : Option ℕ
  pub due : ℕ
  pub acknowledged : Option ℕ

-- the state over a pager that was just opened
abbrev pub just_opened : PagerState Deferred → EmbeddedState
just_opened pager = record { pager = pager; committed = None; due = 0; acknowledged = None }

abbrev pub with_pager : EmbeddedState → PagerState Deferred → EmbeddedState
with_pager embedded pager = record embedded { pager = pager }

-- the same pager over another device
abbrev pub over_device : PagerState Deferred → Deferred → PagerState Deferred
over_device pager device = record pager { device = device }

-- The number of device calls that the host has made. If the count of recorded calls has reached 2^64-1, where it stays,
-- the true number may be larger.
abbrev pub made_calls : Deferred → ℕ
made_calls disk = recorded_calls disk - disk.waiting

-- Rule: deferred acknowledgement: A commit in the C library's core only records device calls. The core acknowledges the
-- commit once the host has made these calls.
-- The mark that is acknowledged after the host made `made` device calls: `committed` if its commit needs no more than
-- these, and otherwise `before`.
abbrev pub acknowledged_by_calls : (made due : ℕ) → (committed before : Option ℕ) → Option ℕ
acknowledged_by_calls made due committed before = if nat_le due made then committed else before

-- the state after a commit with this mark, which left this pager
abbrev pub with_mark : EmbeddedState → ℕ → PagerState Deferred → EmbeddedState
with_mark embedded mark pager = record {
  pager = pager;
  committed = Some mark;
  due = recorded_calls pager.device;
  acknowledged = acknowledged_by_calls (made_calls pager.device) (recorded_calls pager.device)
      (Some mark) embedded.acknowledged;
}

-- the state after the host made a call, which left this device
abbrev pub with_call_made : EmbeddedState → Deferred → EmbeddedState
with_call_made embedded device = record embedded {
  pager = over_device embedded.pager device;
  acknowledged = acknowledged_by_calls (made_calls device) embedded.due embedded.committed embedded.acknowledged;
}

-- Calls led from a volume at rest with these files to a pager `mid`. By the history up to there the mark is
-- acknowledged. Later calls led from `mid` to this pager.
pub record HasPassedMark (files : List File) (mark : ℕ) (pager : PagerState Deferred) : Type 0 where
  pub earlier : List Event
  pub mid : PagerState Deferred
  pub came : HasCome deferred_disk files earlier mid
  pub acknowledges : Contains earlier (Acknowledge mark)
  pub later : List Event
  pub gone : HasGone deferred_disk mid later pager

-- The pager has passed the mark, and at `mid` the number of recorded device calls was `due`. (A count stays at 2^64-1
-- once it is that large.)
abbrev pub HasNeeded : List File → (due mark : ℕ) → PagerState Deferred → Type 0
HasNeeded files due mark pager =
    (reached : HasPassedMark files mark pager)
    × (due ≡ min (moment_of (as_memory reached.mid.device)) (2 ^ 64 - 1))

-- The pager has passed the mark, and the host has made the device calls that were recorded at `mid`.
abbrev pub HasMadeCalls : List File → (mark : ℕ) → PagerState Deferred → Type 0
HasMadeCalls files mark pager =
    (reached : HasPassedMark files mark pager)
    × (moment_of (as_memory reached.mid.device) ≤ carried_moment pager.device)

-- Calls led to this pager from a volume at rest. That volume had the files to which the opened disk's bytes recover. On
-- the way the history acknowledged the mark of the last commit, when `due` device calls were recorded. It also
-- acknowledged the mark `acknowledged`, and the host has made the device calls that this mark needs.
pub record ServesFiles (pager : PagerState Deferred) (committed : Option ℕ) (due : ℕ) (acknowledged : Option ℕ)
    : Type 0 where
  pub before : Deferred
  pub files : List File
  pub recovered : RecoversTo (seen_of (as_memory before)) files
  pub history : List Event
  pub come : HasCome deferred_disk files history pager
  pub commits : IfSome committed (λ mark. HasNeeded files due mark pager)
  pub durable : IfSome acknowledged (λ mark. HasMadeCalls files mark pager)

-- The same, under the condition that the host supplied each block as the disk had it.
abbrev pub ServesWell : PagerState Deferred → Option ℕ → ℕ → Option ℕ → Type 0
ServesWell pager committed due acknowledged =
    IsSuppliedWell pager.device → ServesFiles pager committed due acknowledged
