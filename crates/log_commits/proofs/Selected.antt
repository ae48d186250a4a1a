-- What the calls of a commit leave that selects a start.
use Rattle.std.proofs.Common.{◌≡◌, ◌⊎◌, ℕ, ◌+◌, ◌*◌, ◌≤◌, Bool, true, false, List, [], ◌∷◌, ◌++◌}
use Rattle.std.proofs.Common.{length, get_or, inl, inr, refl, sym, ap, subst, ◌∙◌, arith}
use Rattle.std.specs.Prelude.{not}
use Rattle.std.proofs.lemmas.Bool.{cases_eq, false≢true}
use Rattle.device.specs.Device.{Torn, TornFrom, Only, LeavesOnly}
use Rattle.device.specs.Work.{WriteAt, Sync}
use Rattle.device.specs.Did.{Did}
use Rattle.device.specs.declared.device.Device.{Ghosts}
use Rattle.device.proofs.Public.{leaves_at_start, leaves_weaker, leaves_then, done_seen}
use Rattle.device.proofs.Ranges.{torn_by_write}
use Rattle.log_codec.specs.declared.sealing.Sealing.{Sealing}
use Rattle.log_codec.specs.declared.sealing.Sealing.TheVariants.{ByByte, ByDigest}
use Rattle.log_codec.specs.Log.{IsLog, ring_block, log_descriptor_blocks, log_commit_blocks}
use Rattle.log_codec.specs.Start.{counts_second}
use Rattle.log_codec.specs.Commit.{LogDescriptor, log_body, log_seal}
use Rattle.log_commits.specs.declared.behind.OldCommits.{OldCommits}
use Rattle.log_commits.specs.Calls.{DidAll}
use Rattle.log_commits.specs.Ring.{ring_works}
use Rattle.log_commits.specs.Tail.{TailValue, HoldsLog}
use Rattle.log_commits.specs.Commit.{CommitLeaves, LeftByCommit, MayCommit}
use Rattle.log_commits.specs.Commit.{committed_to, next_logged, commit_bytes, works_with, tail_after}
use Rattle.log_commits.specs.Behind.{HoldsCommits, IsReadyToMove, IsSameOutside, MayMove, select_works, selecting}
use Rattle.log_commits.specs.Behind.{tail_behind}
use Rattle.log_commits.specs.Selecting.{IsSureBy, selecting_works}
use Rattle.log_commits.proofs.Places.{block_low}
use Rattle.log_commits.proofs.Ranges.{RingTorn, RingHas}
use Rattle.log_commits.proofs.Kept.{selects}
use Rattle.log_commits.proofs.Left.{IsBegun, Went, some, log_long, size, keeps, sealed, closed, left_before}
use Rattle.log_commits.proofs.Left.{left_unsealed, seal_keeps, seal_torn, image_went}
use Rattle.log_commits.proofs.UnderWay.{whole_by_digest}
use Rattle.log_commits.proofs.Works.{RingFrom, went_round, did_split, one_did, crash_synced, torn_synced}
use Rattle.log_commits.proofs.Works.{byte_written}
use Rattle.log_commits.proofs.Ready.{Before, After, Either, Known, Left, near_kept, torn_outside, ready_same}
use Rattle.log_commits.proofs.Ready.{ready_more, left_selecting, left_either, selected_with}

module _ {D : Type 0} (disk : Ghosts D) (t : TailValue) (contents : ℕ → List ℕ) (homes records : List ℕ) (room : ℕ)
    (oldest : OldCommits) (log : IsLog t.log) (may : MayCommit t homes room) (can : MayMove t oldest) (second : Bool)
    (ds younger : List LogDescriptor)
    (head_size : length (log_seal t.log.sealing t.start.epoch (next_logged t homes) records
    ++ log_body (next_logged t homes)) ≡ 4096 * log_descriptor_blocks (length homes))
    (records_size : length records ≡ 4096 * length homes) (old : D) (honest : disk.is_honest old)
    (long : 4096 * t.log.blocks ≤ length (disk.seen old))
    (held : (c : List ℕ) → disk.may_leave old c → HoldsCommits second t contents (ds ++ younger) c)
    (ready : IsReadyToMove second t oldest contents ds younger (disk.seen old))
    (seen_is_left : (device : D) → disk.is_honest device → disk.may_leave device (disk.seen device)) where
  abbrev ring : ℕ
  ring = t.log.ring

  abbrev bytes : List ℕ
  bytes = commit_bytes t homes records

  abbrev behind : TailValue
  behind = tail_behind t oldest

  abbrev newer : ℕ → List ℕ
  newer = committed_to contents homes records

  abbrev With : List ℕ → Type 0
  With = After t contents homes records room oldest log may can second ds younger

  abbrev Without : List ℕ → Type 0
  Without = Before t contents homes records room oldest log may can second ds younger

  abbrev Mid : List ℕ → Type 0
  Mid = Either t contents homes records room oldest log may can second ds younger

  abbrev Crash : List ℕ → Type 0
  Crash = Left t contents homes records room oldest log may can second ds younger

  -- what its calls leave; the commits that are read once it is made are known, too
  pub record Leaves (new : D) (done : Bool) : Type 0 where
    pub crash : LeavesOnly disk.moment disk.left_since old new Crash
    pub durable : done ≡ true → Only (disk.may_leave new) (disk.seen new)
    pub committed : done ≡ true
        → HoldsCommits (not second) (tail_after behind homes) newer (younger ++ next_logged t homes ∷ [])
        (disk.seen new)

  abbrev seen_held : HoldsLog t contents (disk.seen old)
  seen_held = ready.holds.held

  abbrev lists_held : (c : List ℕ) → disk.may_leave old c → HoldsLog t contents c
  lists_held c may = (held c may).held

  abbrev begun : IsBegun disk t contents homes records room old
  begun = record {
    log = log;
    may = may;
    head_size = head_size;
    records_size = records_size;
    honest = honest;
    long = long;
    held = lists_held;
    seen_is_left = seen_is_left;
  }

  low : 16384 ≤ length (disk.seen old)
  low = omega (arith, log_long begun)

  failed_as : {new : D} (done : Bool) → done ≡ false → Leaves new false → Leaves new done
  failed_as {new} done is leaves = let P : Bool → Type 0 = λ b. Leaves new b in subst P (sym is) leaves

  failed_by : {new : D} → LeavesOnly disk.moment disk.left_since old new Crash → Leaves new false
  failed_by crash = record {
    crash = crash;
    durable = λ made. absurd (false≢true made);
    committed = λ made. absurd (false≢true made);
  }

  -- what doesn't differ in the byte
  crash_of : (c : List ℕ) → Mid c → Crash c
  crash_of c may_be = left_either t contents homes records room oldest log may can second ds younger c may_be

  -- ---- the byte, and the last sync

  module _ (mid : D) (is : disk.is_honest mid) (room_for : 16384 ≤ length (disk.seen mid))
      (lists : (c : List ℕ) → disk.may_leave mid c → Mid c)
      (whole : With (disk.seen mid))
      (before : LeavesOnly disk.moment disk.left_since old mid Crash) where
    by_byte : (c : List ℕ) → TornFrom 4096 1 (disk.may_leave mid) c → Crash c
    by_byte c from =
        left_selecting t contents homes records room oldest log may can second ds younger from.0 c from.2
        (lists from.0 from.1)

    select_last : {new : D} (done : Bool) → DidAll disk mid (select_works second) done new → Leaves new done
    select_last {new} done (inl failed) =
        failed_as done failed.1
        (failed_by (leaves_then {P = Crash} before (leaves_weaker failed.0.time by_byte)))
    select_last {new} done (inr both) =
        let one : D = both.0 in
        let did = both.1 in
        let sync = one_did disk Sync both.2 in
        let one_is = did.honest.1 is in
        let c : List ℕ = disk.seen one in
        let seen = done_seen did is refl in
        let fits : 4096 + 1 ≤ length (disk.seen mid) = omega arith in
        let P : List ℕ → Type 0 = λ l. Torn 4096 1 (disk.seen mid) l in
        let torn : Torn 4096 1 (disk.seen mid) c =
        subst P (sym seen) (torn_by_write (disk.seen mid) 4096 (selecting (not second) ∷ []) fits) in
        let byte : get_or c 4096 0 ≡ selecting (not second) =
        byte_written disk 4096 (selecting (not second)) did is fits in
        record {
          crash = leaves_then {P = Crash} (leaves_then {P = Crash} before (leaves_weaker did.time by_byte))
              (leaves_weaker sync.time (λ x may. by_byte x (did.left x may)));
          durable = λ made x may. sync.durable one_is made refl x may ∙ sym (done_seen sync one_is made);
          committed = λ made.
              let same : disk.seen new ≡ c = done_seen sync one_is made in
              let R : List ℕ → Type 0 = λ l. HoldsCommits (not second) (tail_after behind homes) newer
              (younger ++ next_logged t homes ∷ []) l in
              subst R (sym same) (selected_with t contents homes records room oldest log may can second ds younger
              (disk.seen mid) c torn whole (selects (not second) ∙ ap counts_second (sym byte)));
        }

  -- ---- where a digest seals

  module _ (key : ℕ) (digest : t.log.sealing ≡ ByDigest key) (only : Only (disk.may_leave old) (disk.seen old)) where
    abbrev seen : List ℕ
    seen = disk.seen old

    kept : (c : List ℕ) (torn : RingTorn ring t.position 0 (length bytes) seen c) → IsSameOutside t.log seen c
    kept c torn = torn_outside t.log t.position 0 (length bytes) seen c (some begun) torn

    torn_either : (c : List ℕ) → RingTorn ring t.position 0 (length bytes) seen c → Mid c
    torn_either c torn =
        let P : Sealing → Type 0 =
        λ x. Known t contents homes records room oldest log may can second ds younger x c in (
          near_kept t contents homes records room oldest log may can second ds younger seen c ready (kept c torn)
              (keeps begun key digest seen c seen_held torn),
          subst P (sym digest) tt,
        )

    from_either : (c : List ℕ) → RingFrom ring t.position 0 (length bytes) (disk.may_leave old) c → Mid c
    from_either c from =
        let P : List ℕ → Type 0 = λ l. RingTorn ring t.position 0 (length bytes) l c in
        torn_either c (subst P (only from.0 from.1) from.2)

    left_ring : (c : List ℕ) → RingFrom ring t.position 0 (length bytes) (disk.may_leave old) c → Crash c
    left_ring c from = crash_of c (from_either c from)

    selecting_by_digest : {new : D} (done : Bool)
        → DidAll disk old (ring_works ring t.position 0 bytes ++ select_works second) done new → Leaves new done
    selecting_by_digest {new} done did =
        elim (did_split disk (ring_works ring t.position 0 bytes) (select_works second) old new done did) [
          | inl failed ↦
              let went = went_round ring t.position (some begun) disk 0 bytes (omega arith) (omega arith)
              (omega (arith, size begun, may.free)) false (log_long begun) failed.0 in
              failed_as done failed.1 (failed_by (leaves_weaker went.has.time left_ring))
          | inr both ↦
              let mid : D = both.0 in
              let went = went_round ring t.position (some begun) disk 0 bytes (omega arith) (omega arith)
              (omega (arith, size begun, may.free)) true (log_long begun) both.1 in
              let torn = went.has.torn honest in
              let has : RingHas ring t.position 0 (4096 * log_commit_blocks (length homes)) bytes (disk.seen mid) =
              λ k least most. went.is refl honest k least (omega (arith, size begun)) in
              select_last mid (went.has.honest.1 honest) (omega (arith, went.has.same_length, low))
              (λ c may. from_either c (went.has.left c may))
              (ready_more t contents homes records room oldest log may can second ds younger seen
              (disk.seen mid) ready (kept (disk.seen mid) torn)
              (whole_by_digest t contents seen (disk.seen mid) homes records room log seen_held may head_size
              records_size (keeps begun key digest seen (disk.seen mid) seen_held torn) key digest has))
              (leaves_weaker went.has.time left_ring) done both.2
        ]

  -- ---- where a byte seals

  module _ (byte : t.log.sealing ≡ ByByte) where
    abbrev image : List ℕ
    image = bytes ++ 0 ∷ []

    abbrev place : ℕ
    place = 4096 * ring_block ring t.position

    left_torn : (c : List ℕ) → RingFrom ring t.position 1 (length image) (disk.may_leave old) c → Crash c
    left_torn c from =
        let is = left_unsealed begun byte c from in record { up_to = is.up_to; recovers = is.recovers }

    same_chain : (lists_held (disk.seen old) (seen_is_left old honest)).chain ≡ seen_held.chain
    same_chain = (held (disk.seen old) (seen_is_left old honest)).chain_is ∙ sym ready.holds.chain_is

    module _ (m : List ℕ) (torn : RingTorn ring t.position 1 (length image) (disk.seen old) m)
        (has : RingHas ring t.position 1 (length image) image m) (c : List ℕ) (seal : Torn place 1 m c) where
      outside : IsSameOutside t.log (disk.seen old) c
      outside =
          torn_outside t.log t.position 0 (4096 * log_commit_blocks (length homes) + 1) (disk.seen old) c (some begun)
          (seal_torn begun byte m torn has c seal)

      opened_with : get_or c place 0 ≡ 0xA7 → With c
      opened_with is =
          let more = sealed begun byte m torn has c seal is in
          ready_more t contents homes records room oldest log may can second ds younger (disk.seen old) c ready outside
          (more.0, more.1 ∙ ap (λ (l : List LogDescriptor). l ++ next_logged t homes ∷ []) same_chain)

      which : With c ⊎ Without c
      which = elim (cases_eq (get_or c place 0) 0xA7) [
        | inl is ↦ inl (opened_with is)
        | inr other ↦
            let still = closed begun byte m torn has c seal other in
            inr (ready_same t contents homes records room oldest log may can second ds younger (disk.seen old) c ready
            outside (still.0, still.1 ∙ same_chain))
      ]

      seal_either : Mid c
      seal_either =
          let P : Sealing → Type 0 =
          λ x. Known t contents homes records room oldest log may can second ds younger x c in (
            near_kept t contents homes records room oldest log may can second ds younger (disk.seen old) c ready outside
                (seal_keeps begun byte m torn has c seal),
            subst P (sym byte) (elim which [ inl with ↦ inr with | inr without ↦ inl without ]),
          )

    module _ (one two : D) (went : Went begun byte one true) (sync : Did disk one Sync true two) where
      one_is : disk.is_honest one
      one_is = went.has.honest.1 honest

      two_is : disk.is_honest two
      two_is = sync.honest.1 one_is

      either_seal : (c : List ℕ) → TornFrom place 1 (disk.may_leave two) c → Mid c
      either_seal c from =
          seal_either (disk.seen one) (went.has.torn honest) (went.is refl honest) c
          (torn_synced disk one_is sync place 1 c from)

      crash_sealing : {done : Bool} {three : D} → Did disk two (WriteAt place (0xA7 ∷ [])) done three
          → LeavesOnly disk.moment disk.left_since old three Crash
      crash_sealing did =
          leaves_then {P = Crash} (crash_synced {P = Crash} went.has sync left_torn)
          (leaves_weaker did.time (λ c from. crash_of c (either_seal c from)))

      seal_failed : {new : D} → Did disk two (WriteAt place (0xA7 ∷ [])) false new → Leaves new false
      seal_failed did = failed_by (crash_sealing did)

      seal_done : {three new : D} (done : Bool) → Did disk two (WriteAt place (0xA7 ∷ [])) true three
          → DidAll disk three (select_works second) done new → Leaves new done
      seal_done {three} {new} done did rest =
          let is = did.honest.1 two_is in
          let c : List ℕ = disk.seen three in
          let fits : place + 1 ≤ length (disk.seen two) =
          omega (arith, block_low ring t.position (some begun), log_long begun, went.has.same_length, sync.same_length)
          in
          select_last three is
          (omega (arith, low, went.has.same_length, sync.same_length, did.same_length))
          (λ x may. either_seal x (did.left x may))
          (opened_with (disk.seen one) (went.has.torn honest) (went.is refl honest) c
          (torn_synced disk one_is sync place 1 c (did.left c (seen_is_left three is)))
          (byte_written disk place 0xA7 did two_is fits)) (crash_sealing did) done rest

    selecting_by_byte : {new : D} (done : Bool)
        → DidAll disk old (ring_works ring t.position 1 image
        ++ (Sync ∷ WriteAt place (0xA7 ∷ []) ∷ select_works second)) done new → Leaves new done
    selecting_by_byte {new} done did =
        elim (did_split disk (ring_works ring t.position 1 image)
        (Sync ∷ WriteAt place (0xA7 ∷ []) ∷ select_works second) old new done did) [
          | inl failed ↦
              let went = image_went begun byte false failed.0 in
              failed_as done failed.1 (failed_by (leaves_weaker went.has.time left_torn))
          | inr both ↦
              further both.0 (image_went begun byte true both.1) both.2
        ]
      where
        further : (one : D) → Went begun byte one true
            → DidAll disk one (Sync ∷ WriteAt place (0xA7 ∷ []) ∷ select_works second) done new → Leaves new done
        further one went (inl failed) =
            failed_as done failed.1 (failed_by (crash_synced {P = Crash} went.has failed.0 left_torn))
        further one went (inr (two, sync, inl failed)) =
            failed_as done failed.1 (seal_failed one two went sync failed.0)
        further one went (inr (two, sync, inr (three, did, rest))) =
            seal_done one two went sync done did rest

  -- ---- sealed as the log is

  pub selecting_left : {new : D} (done : Bool) → IsSureBy disk t.log.sealing old
      → DidAll disk old (selecting_works t second homes records) done new → Leaves new done
  selecting_left {new} done sure did = by t.log.sealing refl sure did
    where
      by : (s : Sealing) → t.log.sealing ≡ s → IsSureBy disk s old
          → DidAll disk old (works_with s ring t.position bytes (select_works second)) done new → Leaves new done
      by ByByte is sure did = selecting_by_byte is done did
      by (ByDigest key) is sure did = selecting_by_digest key is sure done did

  pub selecting_leaves : {new : D} (done : Bool) → IsSureBy disk t.log.sealing old
      → DidAll disk old (selecting_works t second homes records) done new
      → CommitLeaves disk behind contents homes records done old new
  selecting_leaves {new} done sure did =
      let is = selecting_left done sure did in record {
        crash = is.crash;
        durable = is.durable;
        committed = λ made. (is.committed made).held;
      }

-- no call was made
pub selecting_refused : {D : Type 0} (disk : Ghosts D) (t : TailValue) (contents : ℕ → List ℕ)
    (homes records : List ℕ) (oldest : OldCommits) (second : Bool) (chain : List LogDescriptor) (old : D)
    → ((c : List ℕ) → disk.left_since old (disk.moment old) c → disk.may_leave old c)
    → ((c : List ℕ) → disk.may_leave old c → HoldsCommits second t contents chain c)
    → CommitLeaves disk (tail_behind t oldest) contents homes records false old old
selecting_refused disk t contents homes records oldest second chain old now held =
    let P : List ℕ → Type 0 = LeftByCommit (tail_behind t oldest) contents homes records in
    record {
      crash = leaves_at_start {P = P} (λ c left.
          let is = left_before t contents homes records c (held c (now c left)).held in
          record { up_to = is.up_to; recovers = is.recovers });
      durable = λ made. absurd (false≢true made);
      committed = λ made. absurd (false≢true made);
    }
