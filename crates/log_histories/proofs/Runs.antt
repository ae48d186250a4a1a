-- What runs from one state to another leave.
use Rattle.std.proofs.Common.{◌≡◌, ◌⊎◌, ℕ, ◌+◌, ◌*◌, ◌<◌, ◌≤◌, List, [], ◌∷◌, ◌++◌, Bool, true, length}
use Rattle.std.proofs.Common.{refl, sym, ap, ◌∙◌, subst, append_assoc, arith, inl, inr}
use Rattle.std.specs.Prelude.{◌↔◌, min}
use Rattle.std.proofs.lemmas.List.{append-nil, take_all, take_at, take-append-le, take_min}
use Rattle.device.specs.Device.{LeavesOnly}
use Rattle.device.specs.declared.device.Device.{Ghosts}
use Rattle.device.proofs.Public.{leaves_at_start, leaves_weaker, leaves_then}
use Rattle.volume_codec.specs.Files.{File}
use Rattle.volume_codec.specs.Layout.{block_at}
use Rattle.history.specs.History.{Event, Store, SetLength, Mark, Acknowledge}
use Rattle.kept_blocks.specs.Blocks.{AreWholeBlocks, homes_in}
use Rattle.pager.specs.State.{file_length}
use Rattle.log_codec.specs.declared.sealing.Sealing.{Sealing}
use Rattle.log_codec.specs.declared.sealing.Sealing.TheVariants.{ByByte, ByDigest}
use Rattle.log_codec.specs.Log.{LogValue}
use Rattle.log_codec.specs.Commit.{LogDescriptor}
use Rattle.log_codec.specs.Chain.{LogRecovers}
use Rattle.log_volume.specs.Super.{log_of, log_super_text}
use Rattle.log_commits.specs.Tail.{TailValue, HoldsUpTo}
use Rattle.log_commits.specs.Told.{IsNone, TellsTornBy}
use Rattle.log_commits.specs.Commit.{committed_to, next_logged}
use Rattle.log_commits.specs.Behind.{LeftUnchanged}
use Rattle.log_commits.proofs.Public.{tells_by_byte, told_end, told_next}
use Rattle.log_pager.specs.Pager.{LeftByPut, contents_put, records_put}
use Rattle.log_pager.proofs.Public.{committed_is}
use Rattle.log_files.specs.State.{LogFilesState}
use Rattle.log_histories.specs.Histories.{HasComeLog, HasGoneLog, LogStays, LogPut, LogCommitted, LogMarked, LogStepped}
use Rattle.log_histories.specs.Histories.{LogRead, LogRefused, LogResized, IsLogCommitted, IsLogCommitting}
use Rattle.log_histories.specs.Histories.{IsLogStepping}
use Rattle.log_histories.specs.Histories.{IsCommitPut, ReadsBackLog, TellsSince}
use Rattle.log_histories.specs.Runs.{IsMadeIn, IsMadeOrNext, ReadsBackAmongLog, TellsRun, TellsNext}
use Rattle.log_histories.proofs.Keeping.{KeepsLog}
use Rattle.log_histories.proofs.Resized.{next_is}
use Rattle.log_histories.proofs.Crashes.{contents_by, keeps_gone, early, early_marked, late_marked, left_now}
use Rattle.log_histories.proofs.Crashes.{left_in_commit, left_in_step, told_by_byte}
use Rattle.log_histories.proofs.Numbers.{number_of, number_by, number_committed, number_stepped, rises}

-- ---- runs one after the other

-- a run with the commits of two others
abbrev pub IsOneRun : {D : Type 0} {disk : Ghosts D} {a b c : LogFilesState D} {events more : List Event}
    → HasGoneLog disk a events b → HasGoneLog disk b more c → List Event → Type 0
IsOneRun {disk = disk} {a = a} {c = c} first next all = (gone : HasGoneLog disk a all c)
    × ((d : LogDescriptor) (records : List ℕ)
    → IsMadeIn gone d records ↔ (IsMadeIn first d records ⊎ IsMadeIn next d records))

pub gone_on : {D : Type 0} (disk : Ghosts D) (a : LogFilesState D) (events : List Event) (b : LogFilesState D)
    (gone : HasGoneLog disk a events b) {more : List Event} {c : LogFilesState D} (next : HasGoneLog disk b more c)
    → IsOneRun gone next (events ++ more)
gone_on disk a events b gone LogStays =
    subst (IsOneRun gone LogStays) (sym (append-nil events))
    (gone, λ d records. (λ made. inl made, λ either. elim either [ inl made ↦ made | inr none ↦ absurd none ]))
gone_on disk a events b gone (LogPut more c owner bytes put next) =
    let all = gone_on disk a events b gone next in
    subst (IsOneRun gone (LogPut more c owner bytes put next))
    (append_assoc events more (Store owner.file (4096 * owner.page) bytes ∷ []))
    (LogPut (events ++ more) c owner bytes put all.0, all.1)
gone_on disk a events b gone (LogCommitted more c after commit next) =
    let all = gone_on disk a events b gone next in
    subst (IsOneRun gone (LogCommitted more c after commit next))
    (append_assoc events more (Mark (c.marks + 1) ∷ Acknowledge (c.marks + 1) ∷ [])) (
      LogCommitted (events ++ more) c after commit all.0,
      λ d records. (
        λ made. elim made [
          | inr this ↦ inr (inr this)
          | inl earlier ↦ elim ((all.1 d records).0 earlier) [ inl one ↦ inl one | inr two ↦ inr (inl two) ]
        ],
        λ either. elim either [
          | inl one ↦ inl ((all.1 d records).1 (inl one))
          | inr two ↦ elim two [ inr this ↦ inr this | inl earlier ↦ inl ((all.1 d records).1 (inr earlier)) ]
        ],
      ),
    )
gone_on disk a events b gone (LogMarked more c commit next) =
    let all = gone_on disk a events b gone next in
    subst (IsOneRun gone (LogMarked more c commit next))
    (append_assoc events more (Mark (c.marks + 1) ∷ Acknowledge (c.marks + 1) ∷ []))
    (LogMarked (events ++ more) c commit all.0, all.1)
gone_on disk a events b gone (LogStepped more c progress after step next) =
    let all = gone_on disk a events b gone next in (LogStepped (events ++ more) c progress after step all.0, all.1)
gone_on disk a events b gone (LogRead more c after read next) =
    let all = gone_on disk a events b gone next in (LogRead (events ++ more) c after read all.0, all.1)
gone_on disk a events b gone (LogRefused more c after refused next) =
    let all = gone_on disk a events b gone next in (LogRefused (events ++ more) c after refused all.0, all.1)
gone_on disk a events b gone (LogResized more c file to after resize next) =
    let all = gone_on disk a events b gone next in
    subst (IsOneRun gone (LogResized more c file to after resize next))
    (append_assoc events more (SetLength file (file_length c.lengths file) to ∷ []))
    (LogResized (events ++ more) c file to after resize all.0, all.1)

pub come_on : {D : Type 0} (disk : Ghosts D) (files : List File) (history : List Event) (s : LogFilesState D)
    → HasComeLog disk files history s → {events : List Event} {t : LogFilesState D} → HasGoneLog disk s events t
    → HasComeLog disk files (history ++ events) t
come_on disk files history s come gone = record {
  before = come.before;
  first = come.first;
  opened = come.opened;
  files_are = come.files_are;
  gone = let all = gone_on disk come.first history s come.gone gone in all.0;
}

-- ---- what a crash leaves since the first of them

module _ (files : List File) (history events : List Event) where
  -- after all events there is some number of them, also where more follow
  among_all : (more : List Event) (c : List ℕ) → ReadsBackLog files (history ++ events) c
      → ReadsBackAmongLog files history (events ++ more) c
  among_all more c back = record {
    later = length events;
    back = subst (λ (l : List Event). ReadsBackLog files (history ++ l) c)
        (sym (take_at events more (length events) refl)) back;
  }

  among_now : (c : List ℕ) → ReadsBackLog files (history ++ events) c → ReadsBackAmongLog files history events c
  among_now c back = record {
    later = length events;
    back = subst (λ (l : List Event). ReadsBackLog files (history ++ l) c)
        (sym (take_all (length events) events (omega arith))) back;
  }

  -- some of these events are some of those that have more after them
  among_more : (more : List Event) (c : List ℕ) → ReadsBackAmongLog files history events c
      → ReadsBackAmongLog files history (events ++ more) c
  among_more more c among =
      let n = min among.later (length events) in
      let le : n ≤ length events = omega arith in
      record {
        later = n;
        back = subst (λ (l : List Event). ReadsBackLog files (history ++ l) c)
            (sym (take-append-le n events more le ∙ take_min among.later events)) among.back;
      }

  among_acknowledged : (n : ℕ) (c : List ℕ) → ReadsBackAmongLog files history events c
      → ReadsBackAmongLog files history (events ++ Acknowledge n ∷ []) c
  among_acknowledged n c among = among_more (Acknowledge n ∷ []) c among

-- an acknowledgement may follow a mark
module _ (files : List File) (history events : List Event) where
  among_marked : (n : ℕ) (c : List ℕ) → ReadsBackAmongLog files history (events ++ Mark n ∷ []) c
      → ReadsBackAmongLog files history (events ++ Mark n ∷ Acknowledge n ∷ []) c
  among_marked n c among =
      subst (λ (l : List Event). ReadsBackAmongLog files history l c)
      (append_assoc events (Mark n ∷ []) (Acknowledge n ∷ []))
      (among_acknowledged files history (events ++ Mark n ∷ []) n c among)

module _ {D : Type 0} (disk : Ghosts D)
    (since_now : (device : D) (c : List ℕ) → disk.left_since device (disk.moment device) c → disk.may_leave device c)
    (files : List File) (history : List Event) (s : LogFilesState D) (contents : ℕ → List ℕ)
    (k : KeepsLog disk files history s contents) where
  abbrev g : LogValue
  g = s.pager.store.tail.log

  abbrev Leaves : D → (List ℕ → Type 0) → Type 0
  Leaves after P = LeavesOnly disk.moment disk.left_since s.pager.device after P

  module _ {events : List Event} {t : LogFilesState D} (gone : HasGoneLog disk s events t) where
    abbrev now : ℕ → List ℕ
    now = contents_by contents gone

    -- what holds of a state that the run has
    kept : KeepsLog disk files (history ++ events) t now
    kept = keeps_gone disk since_now files history s contents k gone

  pub same_table : {events : List Event} {t : LogFilesState D} → HasGoneLog disk s events t → t.table ≡ s.table
  same_table LogStays = refl
  same_table (LogPut events t owner bytes put gone) = same_table gone
  same_table (LogCommitted events t next commit gone) =
      ap (λ (n : LogFilesState D). n.table) commit.made.rest ∙ same_table gone
  same_table (LogMarked events t commit gone) = same_table gone
  same_table (LogStepped events t progress next step gone) =
      ap (λ (n : LogFilesState D). n.table) step.made.rest ∙ same_table gone
  same_table (LogRead events t after read gone) = same_table gone
  same_table (LogRefused events t next refused gone) =
      ap (λ (n : LogFilesState D). n.table) refused.kept.rest ∙ same_table gone
  same_table (LogResized events t file to next resize gone) =
      ap (λ (n : LogFilesState D). n.table)
      (next_is disk files (history ++ events) t file to next resize (now gone) (kept gone)) ∙ same_table gone

  number_is : {events : List Event} {t : LogFilesState D} (gone : HasGoneLog disk s events t)
      → number_of t ≡ number_by gone
  number_is LogStays = refl
  number_is (LogPut events t owner bytes put gone) = number_is gone
  number_is (LogCommitted events t next commit gone) =
      number_committed disk t next commit ∙ ap (λ (n : ℕ). n + 1) (number_is gone)
  number_is (LogMarked events t commit gone) = number_is gone
  number_is (LogStepped events t progress next step gone) =
      number_stepped disk t progress next step ∙ number_is gone
  number_is (LogRead events t after read gone) = number_is gone
  number_is (LogRefused events t next refused gone) =
      ap (λ (v : TailValue). v.number) refused.kept.store.tail ∙ number_is gone
  number_is (LogResized events t file to next resize gone) =
      ap (λ (n : LogFilesState D). number_of n)
      (next_is disk files (history ++ events) t file to next resize (now gone) (kept gone)) ∙ number_is gone

  -- the commit of what was put has the next number
  put_number : {events : List Event} {t : LogFilesState D} (gone : HasGoneLog disk s events t) (d : LogDescriptor)
      (records : List ℕ) → IsCommitPut t d records → d.number ≡ number_by gone
  put_number gone d records this = ap (λ (e : LogDescriptor). e.number) this.0 ∙ number_is gone

  -- and those that were made have lower ones
  made_below : {events : List Event} {t : LogFilesState D} (gone : HasGoneLog disk s events t) (d : LogDescriptor)
      (records : List ℕ) → IsMadeIn gone d records → d.number < number_by gone
  made_below LogStays d records made = absurd made
  made_below (LogPut events t owner bytes put gone) d records made = made_below gone d records made
  made_below (LogCommitted events t next commit gone) d records made = elim made [
    | inl earlier ↦ omega (arith, made_below gone d records earlier)
    | inr this ↦ omega (arith, put_number gone d records this)
  ]
  made_below (LogMarked events t commit gone) d records made = made_below gone d records made
  made_below (LogStepped events t progress next step gone) d records made = made_below gone d records made
  made_below (LogRead events t after read gone) d records made = made_below gone d records made
  made_below (LogRefused events t next refused gone) d records made = made_below gone d records made
  made_below (LogResized events t file to next resize gone) d records made = made_below gone d records made

  log_is : {events : List Event} {t : LogFilesState D} → HasGoneLog disk s events t → t.pager.store.tail.log ≡ g
  log_is gone = let now = kept gone in now.log ∙ ap log_of (same_table gone) ∙ sym k.log

  -- ---- bytes that hold the commits below a number, where a digest seals

  record IsKnown (number : ℕ) (at : ℕ → List ℕ) (c : List ℕ) : Type 0 where
    pub key : ℕ
    pub digest : g.sealing ≡ ByDigest key
    pub holds : HoldsUpTo g number at c
    pub first : block_at c 0 ≡ log_super_text s.table

  module _ {events : List Event} {t : LogFilesState D} (gone : HasGoneLog disk s events t) (c : List ℕ) where
    abbrev number : ℕ
    number = number_by gone

    first_is : block_at c 0 ≡ log_super_text t.table → block_at c 0 ≡ log_super_text s.table
    first_is first = first ∙ ap log_super_text (same_table gone)

    first_was : block_at c 0 ≡ log_super_text s.table → block_at c 0 ≡ log_super_text t.table
    first_was first = first ∙ ap log_super_text (sym (same_table gone))

    holds_is : (at : ℕ → List ℕ) → HoldsUpTo t.pager.store.tail.log (number_of t) at c → HoldsUpTo g number at c
    holds_is at holds =
        subst (λ (log : LogValue). HoldsUpTo log number at c) (log_is gone)
        (subst (λ (n : ℕ). HoldsUpTo t.pager.store.tail.log n at c) (number_is gone) holds)

    recovers_was : (at : ℕ → List ℕ) → LogRecovers g at c → LogRecovers t.pager.store.tail.log at c
    recovers_was at = subst (λ (log : LogValue). LogRecovers log at c) (sym (log_is gone))

    early_among : LogRecovers t.pager.store.tail.log (now gone) c → block_at c 0 ≡ log_super_text t.table
        → ReadsBackAmongLog files history events c
    early_among holds first = among_now files history events c
        (early disk files (history ++ events) t (now gone) (kept gone) c holds first)

    -- what changes no contents leaves them, too
    known_now : LeftUnchanged t.pager.store.tail (now gone) c → block_at c 0 ≡ log_super_text t.table
        → ReadsBackAmongLog files history events c ⊎ IsKnown number (now gone) c
    known_now left first = by g.sealing refl
      where
        by : (x : Sealing) → g.sealing ≡ x → ReadsBackAmongLog files history events c ⊎ IsKnown number (now gone) c
        by ByByte byte = inl (early_among (left.recovers (tells_by_byte IsNone t.pager.store.tail.log (number_of t) c
            (ap (λ (log : LogValue). log.sealing) (log_is gone) ∙ byte))) first)
        by (ByDigest key) digest = inr (record {
          key = key;
          digest = digest;
          holds = holds_is (now gone) left.up_to;
          first = first_is first;
        })

    -- where none with that number was made, that is all
    ended : (Made : LogDescriptor → List ℕ → Type 0) (at : ℕ → List ℕ) (n : ℕ) → number ≤ n
        → TellsSince s Made c → ((d : LogDescriptor) (records : List ℕ) → Made d records → d.number ≡ n → ⊥)
        → IsKnown n at c → LogRecovers t.pager.store.tail.log at c
    ended Made at n le tells none known =
        let P : Sealing → Type 0 = λ x. TellsTornBy x Made g (number_of s) c in
        recovers_was at (told_end g n at c known.holds Made known.key (number_of s) known.digest
        (subst P known.digest tells) (omega (arith, rises gone, le)) none)

    -- the next commit is there, or the log ends before it
    module _ (Made : LogDescriptor → List ℕ → Type 0)
        (only : (d : LogDescriptor) (records : List ℕ) → Made d records → d.number ≡ number → IsCommitPut t d records)
        (whole : AreWholeBlocks t.pager.staged) (tells : TellsSince s Made c) where
      abbrev with_put : ℕ → List ℕ
      with_put = contents_put (now gone) t.pager.staged

      abbrev marked : List Event
      marked = events ++ Mark (t.marks + 1) ∷ []

      put_holds : HoldsUpTo g (number + 1)
          (committed_to (now gone) (homes_in t.pager.staged) (records_put t.pager.staged)) c
          → HoldsUpTo g (number + 1) with_put c
      put_holds holds = record {
        start = holds.start;
        chain = holds.chain;
        log = holds.log;
        number_is = holds.number_is;
        contents_are = λ b home. sym (committed_is (now gone) t.pager.staged whole b) ∙ holds.contents_are b home;
      }

      next_known : IsKnown number (now gone) c
          → ReadsBackAmongLog files history marked c ⊎ IsKnown (number + 1) with_put c
      next_known known =
          let P : Sealing → Type 0 = λ x. TellsTornBy x Made g (number_of s) c in
          elim (told_next g number (now gone) c known.holds Made known.key (number_of s) known.digest
          (subst P known.digest tells) (rises gone)
          (next_logged t.pager.store.tail (homes_in t.pager.staged)) (records_put t.pager.staged) (number_is gone)
          only) [
            | inl more ↦ inr (record {
              key = known.key;
              digest = known.digest;
              holds = put_holds more;
              first = known.first;
            })
            | inr old ↦ inl (among_more files history events (Mark (t.marks + 1) ∷ []) c
                (early_among (recovers_was (now gone) old) (first_was known.first)))
          ]

      -- within it, too
      next_left : LeftByPut t.pager.store.tail (now gone) t.pager.staged c → block_at c 0 ≡ log_super_text t.table
          → ReadsBackAmongLog files history marked c ⊎ IsKnown (number + 1) with_put c
      next_left left first = by g.sealing refl
        where
          back : LogRecovers t.pager.store.tail.log (now gone) c ⊎ LogRecovers t.pager.store.tail.log with_put c
              → ReadsBackLog files ((history ++ events) ++ Mark (t.marks + 1) ∷ []) c
          back either = elim either [
            | inl before ↦ early_marked disk files (history ++ events) t (now gone) (kept gone) (t.marks + 1) c before
                first
            | inr after ↦ late_marked disk files (history ++ events) t (now gone) (kept gone) c after first
          ]

          by : (x : Sealing) → g.sealing ≡ x
              → ReadsBackAmongLog files history marked c ⊎ IsKnown (number + 1) with_put c
          by ByByte byte = inl (among_now files history marked c
              (subst (λ (l : List Event). ReadsBackLog files l c)
              (append_assoc history events (Mark (t.marks + 1) ∷ []))
              (back (left.recovers (tells_by_byte (IsCommitPut t) t.pager.store.tail.log (number_of t) c
              (ap (λ (log : LogValue). log.sealing) (log_is gone) ∙ byte))))))
          by (ByDigest key) digest = next_known (record {
            key = key;
            digest = digest;
            holds = holds_is (now gone) left.up_to;
            first = first_is first;
          })

  -- ---- what a crash leaves since the first state, by the commits that were made

  module _ (Made : LogDescriptor → List ℕ → Type 0) where
    -- of those before a state's next number, the run made all
    abbrev Only : {events : List Event} {t : LogFilesState D} → HasGoneLog disk s events t → Type 0
    Only gone = (d : LogDescriptor) (records : List ℕ) → Made d records → d.number < number_by gone
        → IsMadeIn gone d records

    abbrev Falls : {events : List Event} {t : LogFilesState D} → HasGoneLog disk s events t → List ℕ → Type 0
    Falls {events} gone c = TellsSince s Made c
        → ReadsBackAmongLog files history events c ⊎ IsKnown (number_by gone) (now gone) c

    falls_on : (events more : List Event) (n : ℕ) (at : ℕ → List ℕ) (c : List ℕ)
        → ReadsBackAmongLog files history events c ⊎ IsKnown n at c
        → ReadsBackAmongLog files history (events ++ more) c ⊎ IsKnown n at c
    falls_on events more n at c either = elim either [
      | inl among ↦ inl (among_more files history events more c among)
      | inr known ↦ inr known
    ]

    only_before : {events : List Event} {t next : LogFilesState D} (gone : HasGoneLog disk s events t)
        (commit : IsLogCommitted disk t next) → Only (LogCommitted events t next commit gone) → Only gone
    only_before gone commit only d records made lt = elim (only d records made (omega (arith, lt))) [
      | inl earlier ↦ earlier
      | inr this ↦ absurd (omega (arith, lt, put_number gone d records this))
    ]

    only_next : {events : List Event} {t next : LogFilesState D} (gone : HasGoneLog disk s events t)
        (commit : IsLogCommitted disk t next) → Only (LogCommitted events t next commit gone)
        → (d : LogDescriptor) (records : List ℕ) → Made d records → d.number ≡ number_by gone → IsCommitPut t d records
    only_next gone commit only d records made is = elim (only d records made (omega (arith, is))) [
      | inl earlier ↦ absurd (omega (arith, is, made_below gone d records earlier))
      | inr this ↦ this
    ]

    -- a device that was only read
    now_falls : {events : List Event} {t : LogFilesState D} (gone : HasGoneLog disk s events t) (c : List ℕ)
        → disk.may_leave t.pager.device c → Falls gone c
    now_falls {events} {t} gone c may tells =
        let held = kept gone in
        known_now gone c (left_now disk files (history ++ events) t (now gone) held c may) (held.first c may)

    left_falls : {events : List Event} {t : LogFilesState D} (gone : HasGoneLog disk s events t) → Only gone
        → Leaves t.pager.device (Falls gone)
    left_falls LogStays only = leaves_at_start (λ c left. now_falls LogStays c (since_now s.pager.device c left))
    left_falls (LogPut events t owner bytes put gone) only = leaves_weaker (left_falls gone only) (λ c falls tells.
        falls_on events (Store owner.file (4096 * owner.page) bytes ∷ []) (number_by gone) (now gone) c (falls tells))
    left_falls (LogCommitted events t next commit gone) only =
        let n = t.marks + 1 in
        let marks : List Event = Mark n ∷ Acknowledge n ∷ [] in
        let whole = commit.calls.whole in
        let this = only_next gone commit only in
        let with_mark : (c : List ℕ) → ReadsBackAmongLog files history (events ++ Mark n ∷ []) c
        ⊎ IsKnown (number_by gone + 1) (contents_put (now gone) t.pager.staged) c
        → ReadsBackAmongLog files history (events ++ marks) c
        ⊎ IsKnown (number_by gone + 1) (contents_put (now gone) t.pager.staged) c = λ c either. elim either [
          | inl among ↦ inl (among_marked files history events n c among)
          | inr known ↦ inr known
        ] in
        leaves_then
        (leaves_weaker (left_falls gone (only_before gone commit only)) (λ c falls tells. elim (falls tells) [
          | inl among ↦ inl (among_more files history events marks c among)
          | inr known ↦ with_mark c (next_known gone c Made this whole tells known)
        ]))
        (leaves_weaker (left_in_commit disk files (history ++ events) t (now gone) (kept gone) since_now true
        next.pager.device commit.calls) (λ c left tells.
        with_mark c (next_left gone c Made this whole tells left.0 left.1)))
    left_falls (LogMarked events t commit gone) only = leaves_weaker (left_falls gone only) (λ c falls tells.
        falls_on events (Mark (t.marks + 1) ∷ Acknowledge (t.marks + 1) ∷ []) (number_by gone) (now gone) c
        (falls tells))
    left_falls (LogStepped events t progress next step gone) only =
        leaves_then (left_falls gone only)
        (leaves_weaker (left_in_step disk files (history ++ events) t (now gone) (kept gone) since_now true
        next.pager.device step.calls) (λ c left tells. known_now gone c left.0 left.1))
    left_falls (LogRead events t after read gone) only =
        leaves_then (left_falls gone only) (leaves_weaker read.read.time (λ c may. now_falls gone c may))
    left_falls (LogRefused events t next refused gone) only =
        subst (λ (n : LogFilesState D). Leaves n.pager.device (Falls gone)) (sym refused.kept.rest)
        (left_falls gone only)
    left_falls (LogResized events t file to next resize gone) only =
        let more : List Event = SetLength file (file_length t.lengths file) to ∷ [] in
        leaves_then (leaves_weaker (left_falls gone only) (λ c falls tells.
        falls_on events more (number_by gone) (now gone) c (falls tells)))
        (leaves_weaker resize.read.time (λ c may tells.
        falls_on events more (number_by gone) (now gone) c (now_falls gone c may tells)))

  -- ---- where those are the run's commits, or the next one, too

  module _ {events : List Event} {t : LogFilesState D} (gone : HasGoneLog disk s events t) where
    falls_end : (c : List ℕ) → Falls (IsMadeIn gone) gone c → TellsRun gone c
        → ReadsBackAmongLog files history events c
    falls_end c falls tells = elim (falls tells) [
      | inl among ↦ among
      | inr known ↦ early_among gone c (ended gone c (IsMadeIn gone) (now gone) (number_by gone) (omega arith) tells
          (λ d records made is. omega (arith, is, made_below gone d records made)) known) (first_was gone c known.first)
    ]

    pub left_since : Leaves t.pager.device (λ c. TellsRun gone c → ReadsBackAmongLog files history events c)
    left_since = leaves_weaker (left_falls (IsMadeIn gone) gone (λ d records made lt. made)) (λ c falls tells.
        falls_end c falls tells)

    pub left_in_run_step : (done : Bool) (next : D) → IsLogStepping disk t done next
        → Leaves next (λ c. TellsRun gone c → ReadsBackAmongLog files history events c)
    left_in_run_step done next step =
        leaves_then left_since
        (leaves_weaker (left_in_step disk files (history ++ events) t (now gone) (kept gone) since_now done next step)
        (λ c left tells. falls_end c (λ told. known_now gone c left.0 left.1) tells))

    pub left_in_run_commit : (done : Bool) (next : D) → IsLogCommitting disk t done next
        → Leaves next (λ c. TellsNext gone c → ReadsBackAmongLog files history (events ++ Mark (t.marks + 1) ∷ []) c)
    left_in_run_commit done next commit =
        let marked : List Event = events ++ Mark (t.marks + 1) ∷ [] in
        let Made : LogDescriptor → List ℕ → Type 0 = IsMadeOrNext gone in
        let with_put : ℕ → List ℕ = contents_put (now gone) t.pager.staged in
        let only : Only Made gone = λ d records made lt. elim made [
          | inl earlier ↦ earlier
          | inr this ↦ absurd (omega (arith, lt, put_number gone d records this))
        ] in
        let this : (d : LogDescriptor) (records : List ℕ) → Made d records → d.number ≡ number_by gone
        → IsCommitPut t d records = λ d records made is. elim made [
          | inl earlier ↦ absurd (omega (arith, is, made_below gone d records earlier))
          | inr this ↦ this
        ] in
        let none : (d : LogDescriptor) (records : List ℕ) → Made d records → d.number ≡ number_by gone + 1 → ⊥
        = λ d records made is. elim made [
          | inl earlier ↦ omega (arith, is, made_below gone d records earlier)
          | inr this ↦ omega (arith, is, put_number gone d records this)
        ] in
        let back : (c : List ℕ) → TellsSince s Made c
        → ReadsBackAmongLog files history marked c ⊎ IsKnown (number_by gone + 1) with_put c
        → ReadsBackAmongLog files history marked c = λ c tells either. elim either [
          | inl among ↦ among
          | inr known ↦ among_now files history marked c
              (subst (λ (l : List Event). ReadsBackLog files l c)
              (append_assoc history events (Mark (t.marks + 1) ∷ []))
              (late_marked disk files (history ++ events) t (now gone) (kept gone) c
              (ended gone c Made with_put (number_by gone + 1) (omega arith) tells none known)
              (first_was gone c known.first)))
        ] in
        leaves_then
        (leaves_weaker (left_falls Made gone only) (λ c falls tells. elim (falls tells) [
          | inl among ↦ among_more files history events (Mark (t.marks + 1) ∷ []) c among
          | inr known ↦ back c tells (next_known gone c Made this commit.whole tells known)
        ]))
        (leaves_weaker (left_in_commit disk files (history ++ events) t (now gone) (kept gone) since_now done next
        commit) (λ c left tells. back c tells (next_left gone c Made this commit.whole tells left.0 left.1)))

    -- ---- where a byte seals

    pub told_run : s.table.sealing ≡ ByByte → (c : List ℕ) → TellsRun gone c × TellsNext gone c
    told_run byte c = (
      told_by_byte disk files history s contents k byte (IsMadeIn gone) c,
      told_by_byte disk files history s contents k byte (IsMadeOrNext gone) c,
    )
