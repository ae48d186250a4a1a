-- What holds of each state that calls have led to, and that each call keeps it.
use Rattle.std.proofs.Common.{◌≡◌, ℕ, suc, zero, ◌+◌, ◌*◌, List, [], ◌∷◌, ◌++◌, map, refl, ap, sym, ◌∙◌, true}
use Rattle.std.proofs.Common.{subst, arith, inl, inr, append_assoc}
use Rattle.std.specs.List.{Contains}
use Rattle.std.proofs.lemmas.List.Elements.{Contains-append_left, Contains-append_right, Contains-append_cases}
use Rattle.page_entry.specs.declared.numbers.FilePage.{FilePage}
use Rattle.device.specs.declared.device.Device.{Ghosts}
use Rattle.volume_codec.specs.Files.{File}
use Rattle.volume_codec.specs.Layout.{block_at}
use Rattle.journal.specs.Pages.{home_of}
use Rattle.history.specs.History.{Event, Store, Mark, Acknowledge, IsMarked, lengths_of, lengths_after}
use Rattle.history.specs.inside.Contents.{HasAcknowledged}
use Rattle.history.proofs.Public.{begins_more, in_history, in_table, lengths_store}
use Rattle.kept_blocks.specs.Blocks.{Blocks, with_home}
use Rattle.pager.specs.State.{up_to_end}
use Rattle.pager.specs.Calls.{page_refusal}
use Rattle.pager.specs.inside.Contents.{HaveFiles}
use Rattle.pager.proofs.Public.{IsQuiet, have_more, lengths_more, not_acknowledged, IsInFile, lengths_may, stored_has}
use Rattle.pager.proofs.Public.{over_there, over_elsewhere, page_allowed, first_none}
use Rattle.log_volume.specs.Super.{LogSuperValue, FitsLog, log_of, log_super_text}
use Rattle.log_commits.specs.Tail.{TailValue}
use Rattle.log_store.specs.declared.fault.Progress.{Progress}
use Rattle.log_store.specs.Store.{StoreValue}
use Rattle.log_store.proofs.Public.{commit_behind, committing_log, first_stays, step_behind}
use Rattle.log_pager.specs.Pager.{IsPagerOver, contents_put}
use Rattle.log_pager.proofs.Public.{steps_log}
use Rattle.log_files.specs.State.{LogFilesState, log_home_of, on_device}
use Rattle.log_files.specs.Calls.{after_page_put}
use Rattle.log_histories.specs.Histories.{IsLogPut, IsLogRead, IsLogRefused, IsLogCommitted, IsEmptyLogCommit}
use Rattle.log_histories.specs.Histories.{IsLogStepped}
use Rattle.log_histories.proofs.Lowered.{lower, depth, lowered, home_lowered}

-- the contents have the files after a history
abbrev pub HaveLogFiles : List File → LogSuperValue → (ℕ → List ℕ) → List Event → Type 0
HaveLogFiles files v contents history = HaveFiles files (lower v) (lowered v contents) history

-- The home blocks have these contents, with the files after an earlier part of the history. That part has every mark
-- that was acknowledged. With the blocks that were put, they have the files after all of the history.
pub record KeepsLog {D : Type 0} (disk : Ghosts D) (files : List File) (history : List Event) (s : LogFilesState D)
    (contents : ℕ → List ℕ) : Type 0 where
  pub over : IsPagerOver disk s.pager contents
  pub earlier : List Event
  pub rest : List Event
  pub begins : earlier ++ rest ≡ history
  pub marked : IsMarked earlier
  pub acknowledged : HasAcknowledged earlier history
  pub has : HaveLogFiles files s.table contents earlier
  pub current : HaveLogFiles files s.table (contents_put contents s.pager.staged) history
  pub lengths : lengths_after (lengths_of files) history ≡ s.lengths
  pub named : map in_table files ≡ s.table.files
  pub fits : FitsLog s.table
  pub log : s.pager.store.tail.log ≡ log_of s.table
  pub first : (c : List ℕ) → disk.may_leave s.pager.device c → block_at c 0 ≡ log_super_text s.table

module _ {D : Type 0} (disk : Ghosts D) (files : List File) (history : List Event) (s : LogFilesState D)
    (contents : ℕ → List ℕ) (k : KeepsLog disk files history s contents) where
  abbrev number : ℕ
  number = s.marks + 1

  abbrev marks : List Event
  marks = Mark number ∷ Acknowledge number ∷ []

  -- ---- a call that adds an event

  -- it changes no more than the lengths, what is put, and the device
  pub keeps_event : (event : Event) (lengths : List ℕ) (staged : Blocks) (device : D)
      → ((n : ℕ) → Acknowledge n ≡ event → ⊥)
      → IsPagerOver disk (record s.pager { staged = staged; device = device }) contents
      → HaveLogFiles files s.table (contents_put contents staged) (history ++ event ∷ [])
      → lengths_after (lengths_of files) (history ++ event ∷ []) ≡ lengths
      → ((c : List ℕ) → disk.may_leave device c → disk.may_leave s.pager.device c)
      → KeepsLog disk files (history ++ event ∷ [])
      (record s { lengths = lengths; pager = record s.pager { staged = staged; device = device } }) contents
  keeps_event event lengths staged device other over has now left = record {
    over = over;
    earlier = k.earlier;
    rest = k.rest ++ event ∷ [];
    begins = begins_more k.earlier k.rest history (event ∷ []) k.begins;
    marked = k.marked;
    acknowledged = not_acknowledged k.earlier history event other k.acknowledged;
    has = k.has;
    current = has;
    lengths = now;
    named = k.named;
    fits = k.fits;
    log = k.log;
    first = λ c may. k.first c (left c may);
  }

  -- ---- a page is put

  module _ (owner : FilePage) (bytes : List ℕ) (put : IsLogPut disk s owner bytes) where
    abbrev home : ℕ
    home = log_home_of s.table owner

    abbrev page : List ℕ
    page = up_to_end s.lengths owner bytes

    place : home_of (lower s.table) owner + depth s.table ≡ home
    place = home_lowered s.table k.fits.log.some_ring owner

    in_file : IsInFile (lower s.table) s.lengths owner
    in_file =
        let is = page_allowed s.lengths owner (first_none (page_refusal s.lengths owner) _ put.admitted) in
        let are = lengths_may files (lower s.table) history s.lengths
        (lowered s.table (contents_put contents s.pager.staged)) k.current k.lengths in
        record { there = omega (arith, is.0, are.count); inside = is.1 }

    put_has : HaveLogFiles files s.table (contents_put contents (with_home s.pager.staged home page))
        (history ++ Store owner.file (4096 * owner.page) bytes ∷ [])
    put_has = stored_has files (lower s.table) history s.lengths
        (lowered s.table (contents_put contents s.pager.staged)) k.current k.lengths owner bytes
        (lowered s.table (contents_put contents (with_home s.pager.staged home page))) in_file put.a_page
        (over_there contents s.pager.staged home page _ place)
        (λ b other. over_elsewhere contents s.pager.staged home page (b + depth s.table)
        (λ same. other (omega (arith, same, place))))

    pub keeps_page : KeepsLog disk files (history ++ Store owner.file (4096 * owner.page) bytes ∷ [])
        (after_page_put s owner bytes) contents
    keeps_page = keeps_event (Store owner.file (4096 * owner.page) bytes) s.lengths
        (with_home s.pager.staged home page) s.pager.device (λ n e. cc) (put.over contents k.over) put_has
        (lengths_store (lengths_of files) history owner.file (4096 * owner.page) bytes ∙ k.lengths) (λ c may. may)

  -- ---- a commit

  quiet_mark : IsQuiet (Mark number ∷ [])
  quiet_mark = record { memory = λ m. refl; lengths = λ l. refl }

  quiet_both : IsQuiet marks
  quiet_both = record { memory = λ m. refl; lengths = λ l. refl }

  own_mark : Contains (history ++ Mark number ∷ []) (Mark number)
  own_mark = Contains-append_right history (Mark number ∷ []) (Mark number) (0, omega arith, refl)

  -- the prefix up to the mark has every mark that was acknowledged before
  pub marked_before : (n : ℕ) → Contains history (Acknowledge n) → Contains (history ++ Mark number ∷ []) (Mark n)
  marked_before n there = Contains-append_left history (Mark number ∷ []) (Mark n)
      (in_history k.earlier k.rest history (Mark n) k.begins (k.acknowledged n there))

  -- and with it the one that is acknowledged
  marked_now : HasAcknowledged (history ++ Mark number ∷ []) (history ++ marks)
  marked_now n there = elim (Contains-append_cases history marks (Acknowledge n) there) [
    | inl before ↦ marked_before n before
    | inr now ↦ subst (λ m. Contains (history ++ Mark number ∷ []) (Mark m)) (own n now) own_mark
  ]
    where
      own : (n : ℕ) → Contains marks (Acknowledge n) → number ≡ n
      own n (zero, lt, is) = absurd (cc)
      own n (suc zero, lt, is) = cc
      own n (suc (suc i), lt, is) = absurd (omega (arith, lt))

  -- these contents are durable, and have the files after the history
  keeps_durable : (durable : ℕ → List ℕ) (store : StoreValue) (device : D)
      → HaveLogFiles files s.table durable history
      → IsPagerOver disk (record { store = store; staged = []; device = device }) durable
      → store.tail.log ≡ log_of s.table
      → ((c : List ℕ) → disk.may_leave device c → block_at c 0 ≡ log_super_text s.table)
      → KeepsLog disk files (history ++ marks)
      (record s { marks = number; pager = record { store = store; staged = []; device = device } }) durable
  keeps_durable durable store device has over log first = record {
    over = over;
    earlier = history ++ Mark number ∷ [];
    rest = Acknowledge number ∷ [];
    begins = append_assoc history (Mark number ∷ []) (Acknowledge number ∷ []);
    marked = inr (history, number, refl);
    acknowledged = marked_now;
    has = have_more files (lower s.table) (lowered s.table durable) history (Mark number ∷ []) quiet_mark has;
    current = have_more files (lower s.table) (lowered s.table durable) history marks quiet_both has;
    lengths = lengths_more files history marks quiet_both ∙ k.lengths;
    named = k.named;
    fits = k.fits;
    log = log;
    first = first;
  }

  pub keeps_commit : (next : LogFilesState D)
      → ((device : D) (c : List ℕ) → disk.left_since device (disk.moment device) c → disk.may_leave device c)
      → IsLogCommitted disk s next
      → KeepsLog disk files (history ++ marks) next (contents_put contents s.pager.staged)
  keeps_commit next since_now commit =
      let first = first_stays disk since_now (log_super_text s.table) _ true s.pager.device next.pager.device
      (commit_behind s.pager.store _ _) k.first commit.calls.did in
      subst (λ (n : LogFilesState D). KeepsLog disk files (history ++ marks) n (contents_put contents s.pager.staged))
      (sym commit.made.rest)
      (keeps_durable (contents_put contents s.pager.staged) next.pager.store next.pager.device k.current
      (subst (λ (n : LogFilesState D). IsPagerOver disk n.pager (contents_put contents s.pager.staged))
      commit.made.rest (commit.over contents k.over))
      (ap (λ (x : TailValue). x.log) commit.made.noted.tail ∙ committing_log s.pager.store ∙ k.log) first.left)

  pub keeps_mark : IsEmptyLogCommit s → KeepsLog disk files (history ++ marks) (record s { marks = number }) contents
  keeps_mark commit =
      let none = commit.none in
      let has : HaveLogFiles files s.table contents history =
      subst (λ (l : Blocks). HaveLogFiles files s.table (contents_put contents l) history) none k.current in
      subst (λ (n : LogFilesState D). KeepsLog disk files (history ++ marks) n contents) (λ i. record s {
        marks = number;
        pager = record s.pager { staged = sym none i };
      })
      (keeps_durable contents s.pager.store s.pager.device has
      (subst (λ (l : Blocks). IsPagerOver disk (record s.pager { staged = l }) contents) none k.over) k.log k.first)

  -- ---- a call that adds no event

  keeps_still : (store : StoreValue) (device : D)
      → IsPagerOver disk (record s.pager { store = store; device = device }) contents
      → store.tail.log ≡ log_of s.table
      → ((c : List ℕ) → disk.may_leave device c → block_at c 0 ≡ log_super_text s.table)
      → KeepsLog disk files history (record s { pager = record s.pager { store = store; device = device } }) contents
  keeps_still store device over log first = record {
    over = over;
    earlier = k.earlier;
    rest = k.rest;
    begins = k.begins;
    marked = k.marked;
    acknowledged = k.acknowledged;
    has = k.has;
    current = k.current;
    lengths = k.lengths;
    named = k.named;
    fits = k.fits;
    log = log;
    first = first;
  }

  pub keeps_read : (after : D) → IsLogRead disk s after → KeepsLog disk files history (on_device s after) contents
  keeps_read after read = keeps_still s.pager.store after (read.over contents k.over) k.log
      (λ c may. k.first c (read.read.left c may))

  pub keeps_refused : (next : LogFilesState D) → IsLogRefused disk s next → KeepsLog disk files history next contents
  keeps_refused next refused =
      let same = refused.kept.rest in
      subst (λ (n : LogFilesState D). KeepsLog disk files history n contents) (sym same)
      (keeps_still next.pager.store s.pager.device
      (subst (λ (n : LogFilesState D). IsPagerOver disk n.pager contents) same (refused.over contents k.over))
      (ap (λ (t : TailValue). t.log) refused.kept.store.tail ∙ k.log) k.first)

  pub keeps_step : (progress : Progress) (next : LogFilesState D)
      → ((device : D) (c : List ℕ) → disk.left_since device (disk.moment device) c → disk.may_leave device c)
      → IsLogStepped disk s progress next → KeepsLog disk files history next contents
  keeps_step progress next since_now step =
      let same = step.made.rest in
      let first = first_stays disk since_now (log_super_text s.table) _ true s.pager.device next.pager.device
      (step_behind s.pager.store s.pager.store.stage step.calls.may) k.first step.calls.did in
      subst (λ (n : LogFilesState D). KeepsLog disk files history n contents) (sym same)
      (keeps_still next.pager.store next.pager.device
      (subst (λ (n : LogFilesState D). IsPagerOver disk n.pager contents) same (step.over contents k.over))
      (steps_log s.pager.store s.pager.store.stage next.pager.store progress step.made.steps ∙ k.log) first.left)
