-- What runs from one state of a pager to another leave.
use Rattle.std.proofs.Common.{◌≡◌, ◌≢◌, ℕ, ◌+◌, ◌*◌, ◌≤◌, List, [], ◌∷◌, ◌++◌, length, refl, sym, ap, ◌∙◌, subst}
use Rattle.std.proofs.Common.{append_assoc, arith, eqb}
use Rattle.std.proofs.lemmas.Bool.{cond-false, ne_eqb}
use Rattle.std.specs.Prelude.{min}
use Rattle.std.proofs.lemmas.List.{append-nil, take_all, take_at, take-append-le, take_min}
use Rattle.device.specs.Device.{LeavesOnly}
use Rattle.device.specs.declared.device.Device.{Ghosts}
use Rattle.device.proofs.Public.{leaves_at_start, leaves_weaker, leaves_then}
use Rattle.volume_codec.specs.Files.{File}
use Rattle.journal.specs.declared.flushed.Flushed.{Flushed}
use Rattle.history.specs.History.{Event, Store, SetLength}
use Rattle.history.specs.Reading.{ReadsBack}
use Rattle.kept_blocks.specs.Blocks.{Blocks}
use Rattle.pager.specs.State.{PagerState, newly_opened, file_length}
use Rattle.pager.specs.Calls.{after_put, after_commit, committed_with, after_step, after_length, resized_to, last_page}
use Rattle.pager.specs.Histories.{marked_with, acknowledged_by, IsPagerStep, HasCome}
use Rattle.pager.specs.Histories.{HasGone, Stays, ThenPut, ThenCommitted, ThenStepped, ThenRead, ThenResized}
use Rattle.pager.specs.Runs.{ReadsBackAmong}
use Rattle.pager.proofs.Crashes.{keeps, left_durable, within_durable}

-- ---- runs one after the other

pub gone_on : {D : Type 0} (disk : Ghosts D) (a : PagerState D) (events : List Event) (b : PagerState D)
    → HasGone disk a events b → {more : List Event} {c : PagerState D} → HasGone disk b more c
    → HasGone disk a (events ++ more) c
gone_on disk a events b gone Stays =
    subst (λ (l : List Event). HasGone disk a l b) (sym (append-nil events)) gone
gone_on disk a events b gone (ThenPut more c owner bytes put next) =
    subst (λ (l : List Event). HasGone disk a l (after_put c owner bytes))
    (append_assoc events more (Store owner.file (4096 * owner.page) bytes ∷ []))
    (ThenPut (events ++ more) c owner bytes put (gone_on disk a events b gone next))
gone_on disk a events b gone (ThenCommitted more c commit next) =
    subst (λ (l : List Event). HasGone disk a l (after_commit c))
    (append_assoc events more (marked_with (c.marks + 1) c.staged))
    (ThenCommitted (events ++ more) c commit (gone_on disk a events b gone next))
gone_on disk a events b gone (ThenStepped more c answer after step next) =
    subst (λ (l : List Event). HasGone disk a l (after_step c answer after))
    (append_assoc events more (acknowledged_by answer))
    (ThenStepped (events ++ more) c answer after step (gone_on disk a events b gone next))
gone_on disk a events b gone (ThenRead more c after read next) =
    ThenRead (events ++ more) c after read (gone_on disk a events b gone next)
gone_on disk a events b gone (ThenResized more c file to after resize next) =
    subst (λ (l : List Event). HasGone disk a l (after_length c file to (last_page c (disk.seen c.device) file) after))
    (append_assoc events more (SetLength file (file_length c.lengths file) to ∷ []))
    (ThenResized (events ++ more) c file to after resize (gone_on disk a events b gone next))

pub come_on : {D : Type 0} (disk : Ghosts D) (files : List File) (history : List Event) (s : PagerState D)
    → HasCome disk files history s → {events : List Event} {t : PagerState D} → HasGone disk s events t
    → HasCome disk files (history ++ events) t
come_on disk files history s come gone = record {
  volume = come.volume;
  most = come.most;
  rest = come.rest;
  files_are = come.files_are;
  gone = gone_on disk (newly_opened come.volume come.most) history s come.gone gone;
}

-- ---- what a crash leaves since the first of them

module _ (files : List File) (history events : List Event) where
  -- after all events there is some number of them, also where more follow
  among_all : (more : List Event) (c : List ℕ) → ReadsBack files (history ++ events) c
      → ReadsBackAmong files history (events ++ more) c
  among_all more c back = record {
    later = length events;
    back = subst (λ (l : List Event). ReadsBack files (history ++ l) c) (sym (take_at events more (length events) refl))
        back;
  }

  among_now : (c : List ℕ) → ReadsBack files (history ++ events) c → ReadsBackAmong files history events c
  among_now c back = record {
    later = length events;
    back = subst (λ (l : List Event). ReadsBack files (history ++ l) c)
        (sym (take_all (length events) events (omega arith))) back;
  }

  -- some of these events are some of those that have more after them
  among_more : (more : List Event) (c : List ℕ) → ReadsBackAmong files history events c
      → ReadsBackAmong files history (events ++ more) c
  among_more more c among =
      let n = min among.later (length events) in
      let le : n ≤ length events = omega arith in
      record {
        later = n;
        back = subst (λ (l : List Event). ReadsBack files (history ++ l) c)
            (sym (take-append-le n events more le ∙ take_min among.later events)) among.back;
      }

-- a new length leaves the device as the read did
resized_device : {D : Type 0} (s : PagerState D) (file to : ℕ) (last : List ℕ) (after : D)
    → to ≢ file_length s.lengths file → after ≡ (after_length s file to last after).device
resized_device {D} s file to last after other = sym (ap (λ (p : PagerState D). p.device)
    (cond-false (eqb to (file_length s.lengths file)) s (resized_to s file to last after)
    (ne_eqb to (file_length s.lengths file) other)))

-- a commit leaves the device as it is
same_device : {D : Type 0} (s : PagerState D) (blocks : Blocks) → s.device ≡ (committed_with s blocks).device
same_device s [] = refl
same_device s (block ∷ blocks) = refl

module _ {D : Type 0} (disk : Ghosts D)
    (since_now : (device : D) (c : List ℕ) → disk.left_since device (disk.moment device) c → disk.may_leave device c)
    (files : List File) (history : List Event) (s : PagerState D) (come : HasCome disk files history s) where
  pub left_since : {events : List Event} {t : PagerState D} → HasGone disk s events t
      → LeavesOnly disk.moment disk.left_since s.device t.device (ReadsBackAmong files history events)
  left_since Stays = leaves_at_start (λ c left. record {
    later = 0;
    back = subst (λ (l : List Event). ReadsBack files l c) (sym (append-nil history))
        (left_durable disk files history s (keeps disk come) c (since_now s.device c left));
  })
  left_since (ThenPut events t owner bytes put gone) =
      leaves_weaker (left_since gone)
      (among_more files history events (Store owner.file (4096 * owner.page) bytes ∷ []))
  left_since (ThenCommitted events t commit gone) =
      let more = marked_with (t.marks + 1) t.staged in
      subst (λ (d : D). LeavesOnly disk.moment disk.left_since s.device d
      (ReadsBackAmong files history (events ++ more))) (same_device t t.staged)
      (leaves_weaker (left_since gone) (among_more files history events more))
  left_since (ThenStepped events t answer after step gone) =
      let more = acknowledged_by answer in
      leaves_then (leaves_weaker (left_since gone) (among_more files history events more))
      (leaves_weaker (within_durable disk files (history ++ events) t
      (keeps disk (come_on disk files history s come gone)) answer after step) (among_all files history events more))
  left_since (ThenRead events t after read gone) =
      leaves_then (left_since gone) (leaves_weaker read.time (λ c left. among_now files history events c
      (left_durable disk files (history ++ events) t (keeps disk (come_on disk files history s come gone)) c left)))
  left_since (ThenResized events t file to after resize gone) =
      let more = SetLength file (file_length t.lengths file) to ∷ [] in
      subst (λ (d : D). LeavesOnly disk.moment disk.left_since s.device d
      (ReadsBackAmong files history (events ++ more)))
      (resized_device t file to (last_page t (disk.seen t.device) file) after resize.other)
      (leaves_then (leaves_weaker (left_since gone) (among_more files history events more))
      (leaves_weaker resize.read.time (λ c left. among_all files history events more c
      (left_durable disk files (history ++ events) t (keeps disk (come_on disk files history s come gone)) c left))))

  -- also at any moment within the next step
  pub left_within : {events : List Event} {t : PagerState D} → HasGone disk s events t → (answer : Flushed) (next : D)
      → IsPagerStep disk t answer next
      → LeavesOnly disk.moment disk.left_since s.device next (ReadsBackAmong files history events)
  left_within {events} {t} gone answer next step =
      leaves_then (left_since gone)
      (leaves_weaker (within_durable disk files (history ++ events) t
      (keeps disk (come_on disk files history s come gone)) answer next step) (among_now files history events))
