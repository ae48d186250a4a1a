-- What a crash leaves, and what callers see, by the files that were opened and the history of the calls.
use Rattle.std.proofs.Common.{◌≡◌, ℕ, ◌+◌, ◌<◌, List, [], ◌∷◌, ◌++◌, Bool, None, length, map, refl, ap, sym}
use Rattle.std.proofs.Common.{◌∙◌, ◌*◌, subst, arith, inl, inr, append_assoc}
use Rattle.std.specs.Prelude.{unwrap_or}
use Rattle.std.proofs.lemmas.List.{append-nil}
use Rattle.page_entry.specs.declared.numbers.FilePage.{FilePage}
use Rattle.device.specs.Device.{LeavesOnly}
use Rattle.device.specs.declared.device.Device.{Ghosts}
use Rattle.device.proofs.Public.{leaves_weaker}
use Rattle.volume_codec.specs.Files.{File}
use Rattle.volume_codec.specs.Layout.{block_at}
use Rattle.volume_codec.specs.Super.{block_count}
use Rattle.volume_codec.specs.Text.{padded}
use Rattle.volume_codec.proofs.Public.{length-block_at}
use Rattle.history.specs.History.{Event, Store, SetLength, Mark, Acknowledge, IsDurablePrefix, memory_of, after}
use Rattle.history.specs.inside.Contents.{AreContentsOf}
use Rattle.history.proofs.Public.{prefix_has, in_table, begins_more}
use Rattle.kept_blocks.specs.Blocks.{bytes_in}
use Rattle.pager.specs.State.{file_length, up_to_end}
use Rattle.pager.specs.Calls.{page_refusal}
use Rattle.pager.proofs.Public.{IsInFile, home_below, starts, lengths_start, named_start, lengths_may, parts_are}
use Rattle.pager.proofs.Public.{page_allowed, have_more, not_acknowledged}
use Rattle.log_codec.specs.declared.sealing.Sealing.TheVariants.{ByByte}
use Rattle.log_codec.specs.Log.{LogValue, IsLog}
use Rattle.log_codec.specs.Commit.{LogDescriptor}
use Rattle.log_codec.specs.Chain.{LogRecovers, IsLogHome}
use Rattle.log_volume.specs.Super.{LogSuperValue, FitsLog, log_of, log_super_text}
use Rattle.log_volume.specs.Files.{log_files_in}
use Rattle.log_commits.specs.Tail.{TailValue, HoldsUpTo}
use Rattle.log_commits.specs.Told.{IsNone}
use Rattle.log_commits.specs.Behind.{LeftUnchanged}
use Rattle.log_commits.proofs.Public.{left_unchanged, tells_by_byte, up_to}
use Rattle.log_store.proofs.Public.{commit_behind, first_stays, step_behind}
use Rattle.log_pager.specs.Pager.{IsPagerOver, LeftByPut, contents_put}
use Rattle.log_files.specs.State.{LogFilesState, log_home_of}
use Rattle.log_files.specs.Calls.{after_page_put}
use Rattle.log_histories.specs.Histories.{IsJustOpened, HasComeLog, HasGoneLog, IsLogCommitting, IsLogStepping}
use Rattle.log_histories.specs.Histories.{LogStays, LogPut, LogCommitted, LogMarked, LogStepped, LogRead, LogRefused}
use Rattle.log_histories.specs.Histories.{LogResized}
use Rattle.log_histories.specs.Histories.{IsCommitPut, ReadsBackLog, TellsSince}
use Rattle.log_histories.proofs.Lowered.{lower, depth, lowered, home_lowered, blocks_lowered, files_lowered}
use Rattle.log_histories.proofs.Lowered.{lengths_lowered, lengths_say, has_lengths_of, is_lengths_of}
use Rattle.log_histories.proofs.Keeping.{KeepsLog, HaveLogFiles, keeps_page, keeps_commit, keeps_mark, keeps_read}
use Rattle.log_histories.proofs.Keeping.{keeps_refused, keeps_step, marked_before}
use Rattle.log_histories.proofs.Resized.{keeps_resize}

-- ---- a volume that was just opened

pub keeps_opened : {D : Type 0} (disk : Ghosts D) (files : List File) (before : D) (s : LogFilesState D)
    → IsJustOpened disk before s → files ≡ log_files_in s.table (block_at (disk.seen s.pager.device))
    → KeepsLog disk files [] s (block_at (disk.seen s.pager.device))
keeps_opened disk files before s is files_are =
    let v : LogSuperValue = s.table in
    let seen : List ℕ = disk.seen s.pager.device in
    let contents : ℕ → List ℕ = block_at seen in
    let opened = is.opened.opened in
    let fits : FitsLog v = is.opened.super_block.fits in
    let ring = fits.log.some_ring in
    let says = is.opened.lengths_are in
    let whole : (b : ℕ) → b < block_count (lower v) → length (lowered v contents b) ≡ 4096 = λ b high.
    length-block_at seen (b + depth v) (let long = opened.log.long in
    omega (arith, long, high, blocks_lowered v ring)) in
    let has_lengths = has_lengths_of v ring s.lengths contents fits.table says in
    let are = files_are ∙ sym (files_lowered v ring contents) in
    let said = sym (lengths_lowered v ring contents ∙ lengths_say v ring s.lengths contents fits.table says) in
    let has = starts (lower v) (lowered v contents) s.lengths files whole has_lengths are said in
    record {
      over = is.over;
      earlier = [];
      rest = [];
      begins = refl;
      marked = inl refl;
      acknowledged = λ n there. absurd (omega (arith, there.1));
      has = has;
      current = subst (λ (n : LogFilesState _). HaveLogFiles files v (contents_put contents n.pager.staged) [])
          (sym is.begins) has;
      lengths = lengths_start (lower v) (lowered v contents) s.lengths files whole has_lengths are said;
      named = named_start (lower v) (lowered v contents) s.lengths files whole has_lengths are said;
      fits = fits;
      log = ap (λ (n : LogFilesState _). n.pager.store.tail.log) is.begins;
      first = λ c may. ap (λ (l : List ℕ). block_at l 0) (opened.synced c may) ∙ opened.around.super_block
          ∙ is.opened.super_block.spelled;
    }

-- ---- the calls

-- the contents of the home blocks after calls
abbrev pub contents_by : {D : Type 0} {disk : Ghosts D} {start : LogFilesState D} {events : List Event}
    {s : LogFilesState D} → (ℕ → List ℕ) → HasGoneLog disk start events s → ℕ → List ℕ
contents_by contents LogStays = contents
contents_by contents (LogPut events s owner bytes put gone) = contents_by contents gone
contents_by contents (LogCommitted events s next commit gone) = contents_put (contents_by contents gone) s.pager.staged
contents_by contents (LogMarked events s commit gone) = contents_by contents gone
contents_by contents (LogStepped events s progress next step gone) = contents_by contents gone
contents_by contents (LogRead events s after read gone) = contents_by contents gone
contents_by contents (LogRefused events s next refused gone) = contents_by contents gone
contents_by contents (LogResized events s file to next resize gone) = contents_by contents gone

module _ {D : Type 0} (disk : Ghosts D)
    (since_now : (device : D) (c : List ℕ) → disk.left_since device (disk.moment device) c → disk.may_leave device c)
    (files : List File) (history : List Event) (start : LogFilesState D) (contents : ℕ → List ℕ)
    (k : KeepsLog disk files history start contents) where
  -- events one after the other
  more : (events later : List Event) (s : LogFilesState D) (now : ℕ → List ℕ)
      → KeepsLog disk files ((history ++ events) ++ later) s now
      → KeepsLog disk files (history ++ (events ++ later)) s now
  more events later s now =
      subst (λ (l : List Event). KeepsLog disk files l s now) (append_assoc history events later)

  pub keeps_gone : {events : List Event} {s : LogFilesState D} (gone : HasGoneLog disk start events s)
      → KeepsLog disk files (history ++ events) s (contents_by contents gone)
  keeps_gone LogStays =
      subst (λ (l : List Event). KeepsLog disk files l start contents) (sym (append-nil history)) k
  keeps_gone (LogPut events s owner bytes put gone) = more events (Store owner.file (4096 * owner.page) bytes ∷ [])
      (after_page_put s owner bytes) (contents_by contents gone)
      (keeps_page disk files (history ++ events) s (contents_by contents gone) (keeps_gone gone) owner bytes put)
  keeps_gone (LogCommitted events s next commit gone) = more events
      (Mark (s.marks + 1) ∷ Acknowledge (s.marks + 1) ∷ []) next
      (contents_put (contents_by contents gone) s.pager.staged)
      (keeps_commit disk files (history ++ events) s (contents_by contents gone) (keeps_gone gone) next since_now
      commit)
  keeps_gone (LogMarked events s commit gone) = more events (Mark (s.marks + 1) ∷ Acknowledge (s.marks + 1) ∷ [])
      (record s { marks = s.marks + 1 }) (contents_by contents gone)
      (keeps_mark disk files (history ++ events) s (contents_by contents gone) (keeps_gone gone) commit)
  keeps_gone (LogStepped events s progress next step gone) =
      keeps_step disk files (history ++ events) s (contents_by contents gone) (keeps_gone gone) progress next since_now
      step
  keeps_gone (LogRead events s after read gone) =
      keeps_read disk files (history ++ events) s (contents_by contents gone) (keeps_gone gone) after read
  keeps_gone (LogRefused events s next refused gone) =
      keeps_refused disk files (history ++ events) s (contents_by contents gone) (keeps_gone gone) next refused
  keeps_gone (LogResized events s file to next resize gone) = more events
      (SetLength file (file_length s.lengths file) to ∷ []) next (contents_by contents gone)
      (keeps_resize disk files (history ++ events) s file to next resize (contents_by contents gone) (keeps_gone gone))

module _ {D : Type 0} (disk : Ghosts D)
    (since_now : (device : D) (c : List ℕ) → disk.left_since device (disk.moment device) c → disk.may_leave device c)
    (files : List File) {history : List Event} {s : LogFilesState D} (come : HasComeLog disk files history s) where
  -- the contents of the home blocks since the volume was opened
  abbrev pub contents_now : ℕ → List ℕ
  contents_now = contents_by (block_at (disk.seen come.first.pager.device)) come.gone

  pub keeps : KeepsLog disk files history s contents_now
  keeps = keeps_gone disk since_now files [] come.first (block_at (disk.seen come.first.pager.device))
      (keeps_opened disk files come.before come.first come.opened come.files_are) come.gone

-- ---- what is read back

-- these bytes have contents with the files after a durable prefix
read_back : (files : List File) (history : List Event) (v : LogSuperValue) (contents : ℕ → List ℕ)
    (prefix : List Event) (c : List ℕ) → IsDurablePrefix prefix history → map in_table files ≡ v.files → FitsLog v
    → HaveLogFiles files v contents prefix → LogRecovers (log_of v) contents c → block_at c 0 ≡ log_super_text v
    → ReadsBackLog files history c
read_back files history v contents prefix c durable named fits has recovered first =
    let ring = fits.log.some_ring in
    let are : AreContentsOf files history (lower v) (lowered v contents) prefix = record {
      rest = durable.rest;
      begins = durable.begins;
      marked = durable.marked;
      whole = has.whole;
      fits = has.fits;
      same_lengths = has.same_lengths;
      parts = has.parts;
    } in
    record {
      prefix = prefix;
      durable = durable;
      recovers = record {
        table = v;
        contents = contents;
        super_block = record { fits = fits; spelled = first };
        recovers = recovered;
        lengths = is_lengths_of v ring contents has.fits;
        files_are = prefix_has files (lower v) named history (lowered v contents) prefix are
            ∙ files_lowered v ring contents;
      };
    }

-- what leaves this and leaves that leaves both
leaves_both : {D : Type 0} {moment : D → ℕ} {left_since : D → ℕ → List ℕ → Type 0} {old new : D}
    {P Q : List ℕ → Type 0} → LeavesOnly moment left_since old new P → LeavesOnly moment left_since old new Q
    → LeavesOnly moment left_since old new (λ c. P c × Q c)
leaves_both first second = record {
  later = first.later;
  each = λ c left. (first.each c left, second.each c left);
  before = λ t c le left. elim (first.before t c le left) [
    | inl was ↦ inl was
    | inr one ↦ elim (second.before t c le left) [ inl was ↦ inl was | inr two ↦ inr (one, two) ]
  ];
  keeps = first.keeps;
}

-- bytes that hold the commits below a number have one list of contents by them
abbrev OneHeld : Type 0
OneHeld = (g : LogValue) (number : ℕ) (contents others : ℕ → List ℕ) (bytes : List ℕ) (b : ℕ) → IsLog g
    → HoldsUpTo g number contents bytes → HoldsUpTo g number others bytes → IsLogHome g b → contents b ≡ others b

module _ {D : Type 0} (disk : Ghosts D) (files : List File) (history : List Event) (s : LogFilesState D)
    (contents : ℕ → List ℕ) (k : KeepsLog disk files history s contents) where
  abbrev g : LogValue
  g = s.pager.store.tail.log

  abbrev first_text : List ℕ
  first_text = log_super_text s.table

  as_log : (now : ℕ → List ℕ) (c : List ℕ) → LogRecovers g now c → LogRecovers (log_of s.table) now c
  as_log now c = subst (λ (log : LogValue). LogRecovers log now c) k.log

  -- the contents of the commits so far, also where the history goes on by events that acknowledge nothing
  pub early : (c : List ℕ) → LogRecovers g contents c → block_at c 0 ≡ first_text → ReadsBackLog files history c
  early c holds first = read_back files history s.table contents k.earlier c
      (record { rest = k.rest; begins = k.begins; marked = k.marked; acknowledged = k.acknowledged }) k.named k.fits
      k.has (as_log contents c holds) first

  pub early_marked : (n : ℕ) (c : List ℕ) → LogRecovers g contents c → block_at c 0 ≡ first_text
      → ReadsBackLog files (history ++ Mark n ∷ []) c
  early_marked n c holds first =
      read_back files (history ++ Mark n ∷ []) s.table contents k.earlier c (record {
        rest = k.rest ++ Mark n ∷ [];
        begins = begins_more k.earlier k.rest history (Mark n ∷ []) k.begins;
        marked = k.marked;
        acknowledged = not_acknowledged k.earlier history (Mark n) (λ m e. cc) k.acknowledged;
      }) k.named k.fits k.has (as_log contents c holds) first

  -- those with what was put
  pub late_marked : (c : List ℕ) → LogRecovers g (contents_put contents s.pager.staged) c → block_at c 0 ≡ first_text
      → ReadsBackLog files (history ++ Mark (s.marks + 1) ∷ []) c
  late_marked c holds first =
      let marked : List Event = history ++ Mark (s.marks + 1) ∷ [] in
      read_back files marked s.table (contents_put contents s.pager.staged) marked c (record {
        rest = [];
        begins = append-nil marked;
        marked = inr (history, s.marks + 1, refl);
        acknowledged = not_acknowledged marked history (Mark (s.marks + 1)) (λ m e. cc)
            (marked_before disk files history s contents k);
      }) k.named k.fits
      (have_more files (lower s.table) (lowered s.table (contents_put contents s.pager.staged)) history
      (Mark (s.marks + 1) ∷ []) (record { memory = λ m. refl; lengths = λ l. refl }) k.current)
      (as_log (contents_put contents s.pager.staged) c holds) first

  -- ---- after the calls, and within the next commit and the next step

  -- what was left holds the contents, under the super-block
  pub left_now : (c : List ℕ) → disk.may_leave s.pager.device c → LeftUnchanged s.pager.store.tail contents c
  left_now c may = left_unchanged s.pager.store.tail contents c (k.over.store.holds c may).held

  pub left_durable : (c : List ℕ) → disk.may_leave s.pager.device c → TellsSince s IsNone c
      → ReadsBackLog files history c
  left_durable c may tells = early c ((left_now c may).recovers tells) (k.first c may)

  module _ (since_now : (device : D) (c : List ℕ) → disk.left_since device (disk.moment device) c
      → disk.may_leave device c) (done : Bool) (next : D) where
    pub left_in_commit : IsLogCommitting disk s done next
        → LeavesOnly disk.moment disk.left_since s.pager.device next
        (λ c. LeftByPut s.pager.store.tail contents s.pager.staged c × (block_at c 0 ≡ first_text))
    left_in_commit commit =
        let first = first_stays disk since_now first_text _ done s.pager.device next
        (commit_behind s.pager.store _ _) k.first commit.did in
        leaves_both (commit.leaves contents k.over) first.crash

    pub left_in_step : IsLogStepping disk s done next
        → LeavesOnly disk.moment disk.left_since s.pager.device next
        (λ c. LeftUnchanged s.pager.store.tail contents c × (block_at c 0 ≡ first_text))
    left_in_step step =
        let first = first_stays disk since_now first_text _ done s.pager.device next
        (step_behind s.pager.store s.pager.store.stage step.may) k.first step.did in
        leaves_both (step.leaves contents k.over) first.crash

    pub within_commit : IsLogCommitting disk s done next
        → LeavesOnly disk.moment disk.left_since s.pager.device next
        (λ c. TellsSince s (IsCommitPut s) c → ReadsBackLog files (history ++ Mark (s.marks + 1) ∷ []) c)
    within_commit commit = leaves_weaker (left_in_commit commit) (λ c left tells. elim (left.0.recovers tells) [
      | inl before ↦ early_marked (s.marks + 1) c before left.1
      | inr after_it ↦ late_marked c after_it left.1
    ])

    pub within_step : IsLogStepping disk s done next → LeavesOnly disk.moment disk.left_since s.pager.device next
        (λ c. TellsSince s IsNone c → ReadsBackLog files history c)
    within_step step =
        leaves_weaker (left_in_step step) (λ c left tells. early c (left.0.recovers tells) left.1)

  -- ---- where a byte seals

  pub told_by_byte : s.table.sealing ≡ ByByte → (Made : LogDescriptor → List ℕ → Type 0) (c : List ℕ)
      → TellsSince s Made c
  told_by_byte byte Made c =
      tells_by_byte Made g s.pager.store.tail.number c (ap (λ (log : LogValue). log.sealing) k.log ∙ byte)

  -- ---- what callers see

  -- whichever the contents are, they are the same ones
  one_contents : OneHeld → (others : ℕ → List ℕ) → disk.may_leave s.pager.device (disk.seen s.pager.device)
      → IsPagerOver disk s.pager others → (b : ℕ) → IsLogHome (log_of s.table) b → others b ≡ contents b
  one_contents one others seen over b home =
      let t : TailValue = s.pager.store.tail in
      let c : List ℕ = disk.seen s.pager.device in
      one g t.number others contents c b (subst IsLog (sym k.log) k.fits.log)
      (up_to t others c (over.store.holds c seen).held) (up_to t contents c (k.over.store.holds c seen).held)
      (subst (λ (log : LogValue). IsLogHome log b) (sym k.log) home)

  pub reads_latest : OneHeld → (others : ℕ → List ℕ) → disk.may_leave s.pager.device (disk.seen s.pager.device)
      → IsPagerOver disk s.pager others → (owner : FilePage) → page_refusal s.lengths owner ≡ None
      → up_to_end s.lengths owner (contents_put others s.pager.staged (log_home_of s.table owner))
      ≡ up_to_end s.lengths owner (after (memory_of files) history owner.file owner.page)
  reads_latest one others seen over owner allowed =
      let v : LogSuperValue = s.table in
      let ring = k.fits.log.some_ring in
      let now : ℕ → List ℕ = lowered v (contents_put contents s.pager.staged) in
      let page = page_allowed s.lengths owner allowed in
      let are = lengths_may files (lower v) history s.lengths now k.current k.lengths in
      let is : IsInFile (lower v) s.lengths owner =
      record { there = omega (arith, page.0, are.count); inside = page.1 } in
      let place = home_lowered v ring owner in
      let below = home_below (lower v) s.lengths are owner is in
      let home : IsLogHome (log_of v) (log_home_of v owner) = record {
        low = omega (arith, place, ring);
        high = omega (arith, place, below, blocks_lowered v ring);
      } in
      ap (λ x. up_to_end s.lengths owner (unwrap_or (bytes_in s.pager.staged (log_home_of v owner)) x))
      (one_contents one others seen over (log_home_of v owner) home)
      ∙ ap (λ b. up_to_end s.lengths owner (contents_put contents s.pager.staged b)) (sym place)
      ∙ ap (padded 4096) (parts_are files (lower v) history s.lengths now k.current k.lengths owner is.there page.1)
