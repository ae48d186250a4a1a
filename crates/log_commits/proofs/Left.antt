-- What the calls of a commit leave.
use Rattle.std.proofs.Common.{◌≡◌, ◌≢◌, ◌⊎◌, ℕ, ◌+◌, ◌*◌, ◌/◌, ◌%◌, ◌<◌, ◌≤◌, Bool, true, false}
use Rattle.std.proofs.Common.{List, [], ◌∷◌, ◌++◌, length, get_or, inl, inr, refl, sym, ap, subst, ◌∙◌, arith}
use Rattle.std.proofs.Common.{length-append}
use Rattle.std.proofs.lemmas.Bool.{cases_lt, cases_eq, false≢true}
use Rattle.device.specs.Device.{Torn, TornFrom, Only, LeavesOnly}
use Rattle.device.specs.Work.{WriteAt, Sync}
use Rattle.device.specs.Did.{Did}
use Rattle.device.specs.declared.device.Device.{Ghosts}
use Rattle.device.proofs.Public.{leaves_at_start, leaves_weaker, leaves_then, done_seen, torn_before, torn_after}
use Rattle.log_codec.specs.declared.sealing.Sealing.{Sealing}
use Rattle.log_codec.specs.declared.sealing.Sealing.TheVariants.{ByByte, ByDigest}
use Rattle.volume_codec.specs.Layout.{block_at}
use Rattle.log_codec.specs.declared.start.LogStart.{LogStart}
use Rattle.log_codec.specs.Log.{LogValue, IsLog, ring_block, log_descriptor_blocks, log_commit_blocks}
use Rattle.log_codec.specs.Commit.{LogDescriptor, log_body, log_seal}
use Rattle.log_codec.specs.Chain.{HasLog, LogEndsAt, LogRecovers, spare_blocks}
use Rattle.log_commits.specs.Calls.{DidAll}
use Rattle.log_commits.specs.Ring.{ring_works}
use Rattle.log_commits.specs.Tail.{TailValue, EndsAtTail, EndsAtTailBy, HoldsLog, MayGoOn, tail_at}
use Rattle.log_commits.specs.Told.{TellsTornBy, IsThis}
use Rattle.log_commits.specs.Commit.{CommitLeaves, LeftByCommit, MayCommit}
use Rattle.log_commits.specs.Commit.{committed_to, next_logged, commit_bytes, works_by, commit_works, tail_after}
use Rattle.log_commits.specs.Behind.{IsSameOutside}
use Rattle.log_commits.proofs.Places.{ring_place, places_apart, block_low, block_round}
use Rattle.log_commits.proofs.Ranges.{RingTorn, RingHas, torn_within}
use Rattle.log_commits.proofs.Outside.{did_length, all_outside, commit_in}
use Rattle.log_commits.proofs.Moved.{SameBlocks, next_moved}
use Rattle.log_commits.proofs.Held.{KeepsLog, keeps_of_torn, kept_up_to}
use Rattle.log_commits.proofs.Told.{recovers_by_byte, told_commit, up_to}
use Rattle.log_commits.proofs.UnderWay.{closed_by_byte, open_by_byte, whole_by_digest, closed_before}
use Rattle.log_commits.proofs.Works.{RingFrom, WentRound, went_round, did_split, one_did, crash_synced, torn_synced}
use Rattle.log_commits.proofs.Works.{byte_written}

-- the size of a commit's bytes
pub commit_size : (t : TailValue) (homes records : List ℕ)
    → length (log_seal t.log.sealing t.start.epoch (next_logged t homes) records ++ log_body (next_logged t homes))
    ≡ 4096 * log_descriptor_blocks (length homes) → length records ≡ 4096 * length homes
    → length (commit_bytes t homes records) ≡ 4096 * log_commit_blocks (length homes)
commit_size t homes records head_size records_size = omega (
  arith,
  length-append (log_seal t.log.sealing t.start.epoch (next_logged t homes) records
      ++ log_body (next_logged t homes)) records,
  head_size,
  records_size,
)

-- before a commit
pub left_before : (t : TailValue) (contents : ℕ → List ℕ) (homes records c : List ℕ) → HoldsLog t contents c
    → LeftByCommit t contents homes records c
left_before t contents homes records c held = record {
  up_to = up_to t contents c held;
  recovers = by t.log.sealing refl;
}
  where
    by : (s : Sealing) → t.log.sealing ≡ s → TellsTornBy s (IsThis (next_logged t homes) records) t.log t.number c
        → LogRecovers t.log contents c ⊎ LogRecovers t.log (committed_to contents homes records) c
    by ByByte byte tells = inl (recovers_by_byte t contents c byte held)
    by (ByDigest key) digest tells =
        let P : Sealing → Type 0 = λ s. TellsTornBy s (IsThis (next_logged t homes) records) t.log t.number c in
        told_commit t contents homes records c key digest (up_to t contents c held) (subst P (sym digest) tells)

-- what the calls of a commit leave; the commits that are read once it is made are known, too
pub record CommitLeft {D : Type 0} (disk : Ghosts D) (t : TailValue) (contents : ℕ → List ℕ)
    (homes records : List ℕ) (chain : List LogDescriptor) (done : Bool) (old new : D) : Type 0 where
  pub crash : LeavesOnly disk.moment disk.left_since old new (LeftByCommit t contents homes records)
  pub durable : done ≡ true → Only (disk.may_leave new) (disk.seen new)
  pub committed : done ≡ true
      → (h : HoldsLog (tail_after t homes) (committed_to contents homes records) (disk.seen new))
      × (h.chain ≡ chain ++ next_logged t homes ∷ [])

-- a commit begins on a device whose lists all hold the log
pub record IsBegun {D : Type 0} (disk : Ghosts D) (t : TailValue) (contents : ℕ → List ℕ) (homes records : List ℕ)
    (room : ℕ) (old : D) : Type 0 where
  pub log : IsLog t.log
  pub may : MayCommit t homes room
  pub head_size : length (log_seal t.log.sealing t.start.epoch (next_logged t homes) records
      ++ log_body (next_logged t homes)) ≡ 4096 * log_descriptor_blocks (length homes)
  pub records_size : length records ≡ 4096 * length homes
  pub honest : disk.is_honest old
  pub long : 4096 * t.log.blocks ≤ length (disk.seen old)
  pub held : (c : List ℕ) → disk.may_leave old c → HoldsLog t contents c
  pub seen_is_left : (device : D) → disk.is_honest device → disk.may_leave device (disk.seen device)

module _ {D : Type 0} {disk : Ghosts D} {t : TailValue} {contents : ℕ → List ℕ} {homes records : List ℕ} {room : ℕ}
    {old : D} (begun : IsBegun disk t contents homes records room old) where
  abbrev ring : ℕ
  ring = t.log.ring

  abbrev n : ℕ
  n = log_commit_blocks (length homes)

  abbrev bytes : List ℕ
  bytes = commit_bytes t homes records

  abbrev after : TailValue
  after = tail_after t homes

  abbrev newer : ℕ → List ℕ
  newer = committed_to contents homes records

  abbrev Left : List ℕ → Type 0
  Left = LeftByCommit t contents homes records

  abbrev pub seen_held : HoldsLog t contents (disk.seen old)
  seen_held = begun.held (disk.seen old) (begun.seen_is_left old begun.honest)

  abbrev Leaves : D → Bool → Type 0
  Leaves new done = CommitLeft disk t contents homes records seen_held.chain done old new

  abbrev HoldsMore : List ℕ → Type 0
  HoldsMore c = (h : HoldsLog after newer c) × (h.chain ≡ seen_held.chain ++ next_logged t homes ∷ [])

  pub some : 0 < ring
  some = omega (arith, begun.log.some_ring)

  pub log_long : 4096 * (4 + ring) ≤ length (disk.seen old)
  log_long = omega (arith, begun.log.some_homes, begun.long)

  pub size : length bytes ≡ 4096 * n
  size = commit_size t homes records begun.head_size begun.records_size

  -- a sync that was made sure of
  durable_by : {mid new : D} (done : Bool) → disk.is_honest mid → Did disk mid Sync done new → done ≡ true
      → Only (disk.may_leave new) (disk.seen new)
  durable_by {mid} {new} done is did made = λ c may.
      did.durable is made refl c may ∙ sym (done_seen did is made)

  -- ---- where a digest seals

  module _ (key : ℕ) (digest : t.log.sealing ≡ ByDigest key) where
    pub keeps : (b c : List ℕ) → HoldsLog t contents b → RingTorn ring t.position 0 (length bytes) b c
        → KeepsLog t b c
    keeps b c is torn =
        keeps_of_torn t contents b c (length bytes) n begun.log is torn (omega (arith, size))
        (omega (arith, begun.may.free))

    pub left_torn : (b c : List ℕ) → HoldsLog t contents b → RingTorn ring t.position 0 (length bytes) b c → Left c
    left_torn b c held torn =
        let is = kept_up_to t contents b c held (keeps b c held torn) in
        record { up_to = is; recovers = told_commit t contents homes records c key digest is }

    left_by : (c : List ℕ) → RingFrom ring t.position 0 (length bytes) (disk.may_leave old) c → Left c
    left_by c from = left_torn from.0 c (begun.held from.0 from.1) from.2

    pub leaves_by_digest : {new : D} (done : Bool)
        → DidAll disk old (ring_works ring t.position 0 bytes ++ Sync ∷ []) done new → Leaves new done
    leaves_by_digest {new} done did =
        elim (did_split disk (ring_works ring t.position 0 bytes) (Sync ∷ []) old new done did) [
          | inl failed ↦
              let went = went_round ring t.position some disk 0 bytes (omega arith) (omega arith)
              (omega (arith, size, begun.may.free)) false log_long failed.0 in
              record {
                crash = leaves_weaker went.has.time left_by;
                durable = λ made. absurd (false≢true (sym failed.1 ∙ made));
                committed = λ made. absurd (false≢true (sym failed.1 ∙ made));
              }
          | inr both ↦
              let went = went_round ring t.position some disk 0 bytes (omega arith) (omega arith)
              (omega (arith, size, begun.may.free)) true log_long both.1 in
              let sync = one_did disk Sync both.2 in
              let is = went.has.honest.1 begun.honest in
              record {
                crash = crash_synced {P = Left} went.has sync left_by;
                durable = durable_by done is sync;
                committed = λ made.
                    let same : disk.seen new ≡ disk.seen both.0 = done_seen sync is made in
                    let P : List ℕ → Type 0 = λ l. HoldsMore l in
                    let c : List ℕ = disk.seen both.0 in
                    let has : RingHas ring t.position 0 (4096 * n) bytes c = λ k least most.
                    went.is refl begun.honest k least (omega (arith, size)) in
                    subst P (sym same) (whole_by_digest t contents (disk.seen old) c homes records room begun.log
                    seen_held begun.may begun.head_size begun.records_size
                    (keeps (disk.seen old) c seen_held (went.has.torn begun.honest)) key digest has);
              }
        ]

  -- ---- where a byte seals

  module _ (byte : t.log.sealing ≡ ByByte) where
    abbrev image : List ℕ
    image = bytes ++ 0 ∷ []

    pub image_size : length image ≡ 4096 * n + 1
    image_size = omega (arith, length-append bytes (0 ∷ []), size)

    room_for : n + 1 ≤ ring
    room_for =
        let P : Sealing → Type 0 = λ s. t.used + n + spare_blocks s ≤ ring in
        let free = subst P byte begun.may.free in omega arith

    pub near : 4096 * n + 1 ≤ 4096 * ring
    near = omega (arith, room_for)

    byte_keeps : (b c : List ℕ) → HoldsLog t contents b → RingTorn ring t.position 0 (4096 * n + 1) b c
        → KeepsLog t b c
    byte_keeps b c is torn =
        let P : Sealing → Type 0 = λ s. t.used + n + spare_blocks s ≤ ring in
        keeps_of_torn t contents b c (4096 * n + 1) (n + 1) begun.log is torn (omega arith)
        (let free = subst P byte begun.may.free in omega arith)

    widened : (b c : List ℕ) → RingTorn ring t.position 1 (length image) b c
        → RingTorn ring t.position 0 (4096 * n + 1) b c
    widened b c torn = torn_within torn 0 (4096 * n + 1) (omega arith) (omega (arith, image_size))

    -- before the seal's byte is written
    pub unsealed : (b c : List ℕ) → HoldsLog t contents b → RingTorn ring t.position 1 (length image) b c
        → HoldsLog t contents c
    unsealed b c is torn =
        let stays : get_or c (ring_place ring t.position 0) 0 ≡ get_or b (ring_place ring t.position 0) 0 =
        torn.elsewhere (ring_place ring t.position 0)
        (λ k least most. places_apart ring t.position 0 k some (omega arith) (omega (arith, image_size, near))) in
        (closed_by_byte t contents b c homes records room begun.log is begun.may begun.head_size
        begun.records_size
        (byte_keeps b c is (widened b c torn)) byte
        (λ opened. closed_before t contents b is byte (sym stays ∙ opened))).0

    pub left_unsealed : (c : List ℕ) → RingFrom ring t.position 1 (length image) (disk.may_leave old) c → Left c
    left_unsealed c from =
        let held = unsealed from.0 c (begun.held from.0 from.1) from.2 in
        record {
          up_to = up_to t contents c held;
          recovers = λ tells. inl (recovers_by_byte t contents c byte held);
        }

    abbrev place : ℕ
    place = 4096 * ring_block ring t.position

    place_is : ring_place ring t.position 0 ≡ place
    place_is =
        let block : t.position + 0 / 4096 ≡ t.position = omega arith in
        let first : place + 0 % 4096 ≡ place = omega arith in
        ap (λ x. 4096 * ring_block ring x + 0 % 4096) block ∙ first

    opens : get_or image 0 0 ≡ 0xA7
    opens =
        let d : LogDescriptor = next_logged t homes in
        let P : Sealing → Type 0 =
        λ s. get_or (log_seal s t.start.epoch d records ++ log_body d ++ records ++ 0 ∷ []) 0 0 ≡ 0xA7 in
        subst P (sym byte) refl

    module _ (m : List ℕ) (torn : RingTorn ring t.position 1 (length image) (disk.seen old) m)
        (has : RingHas ring t.position 1 (length image) image m) (c : List ℕ) (seal : Torn place 1 m c) where
      pub seal_torn : RingTorn ring t.position 0 (4096 * n + 1) (disk.seen old) c
      seal_torn = record {
        same_length = seal.same_length ∙ torn.same_length;
        elsewhere = λ i other.
            let not : i ≢ place = λ is. other 0 (omega arith) (omega arith) (is ∙ sym place_is) in
            let stays : get_or c i 0 ≡ get_or m i 0 = elim (cases_lt i place) [
              | inl less ↦ torn_before seal i less
              | inr more ↦ torn_after seal i (omega arith)
            ] in
            stays ∙ (widened (disk.seen old) m torn).elsewhere i other;
      }

      pub seal_keeps : KeepsLog t (disk.seen old) c
      seal_keeps = byte_keeps (disk.seen old) c seen_held seal_torn

      pub sealed : get_or c place 0 ≡ 0xA7 → HoldsMore c
      sealed is =
          open_by_byte t contents (disk.seen old) c homes records room begun.log seen_held begun.may
          begun.head_size begun.records_size
          seal_keeps byte (λ k least most. elim (cases_eq k 0) [
            | inl first ↦
                ap (λ x. get_or c (ring_place ring t.position x) 0) first ∙ ap (λ x. get_or c x 0) place_is ∙ is
                ∙ sym opens ∙ ap (λ x. get_or image x 0) (sym first)
            | inr further ↦
                let there : ring_place ring t.position k ≢ place = λ same.
                places_apart ring t.position 0 k some (omega arith) (omega (arith, near)) (place_is ∙ sym same) in
                let stays : get_or c (ring_place ring t.position k) 0 ≡ get_or m (ring_place ring t.position k) 0 =
                elim (cases_lt (ring_place ring t.position k) place) [
                  | inl less ↦ torn_before seal (ring_place ring t.position k) less
                  | inr more ↦ torn_after seal (ring_place ring t.position k) (omega arith)
                ] in
                stays ∙ has k (omega arith) (omega (arith, image_size))
          ])

      pub closed : get_or c place 0 ≢ 0xA7 → (h : HoldsLog t contents c) × (h.chain ≡ seen_held.chain)
      closed other =
          closed_by_byte t contents (disk.seen old) c homes records room begun.log seen_held begun.may
          begun.head_size begun.records_size
          seal_keeps byte (λ opened. other (ap (λ x. get_or c x 0) (sym place_is) ∙ opened))

      pub left_sealing : Left c
      left_sealing = record {
        up_to = kept_up_to t contents (disk.seen old) c seen_held seal_keeps;
        recovers = λ tells. elim (cases_eq (get_or c place 0) 0xA7) [
          | inl is ↦ inr (recovers_by_byte after newer c byte (sealed is).0)
          | inr other ↦ inl (recovers_by_byte t contents c byte (closed other).0)
        ];
      }

    pub few : 1 < 4096
    few = omega arith

    pub low : 1 ≤ length image
    low = omega (arith, image_size)

    pub near_image : length image ≤ 4096 * ring
    near_image = omega (arith, image_size, near)

    abbrev pub Went : D → Bool → Type 0
    Went one done = WentRound ring t.position some disk 1 image few low near_image old one done

    pub image_went : {one : D} (done : Bool) → DidAll disk old (ring_works ring t.position 1 image) done one
        → Went one done
    image_went done did = went_round ring t.position some disk 1 image few low near_image done log_long did

    module _ (one two : D) (went : Went one true)
        (sync : Did disk one Sync true two) where
      one_honest : disk.is_honest one
      one_honest = went.has.honest.1 begun.honest

      two_honest : disk.is_honest two
      two_honest = sync.honest.1 one_honest

      -- what the write of the seal's byte leaves
      left_seal : (c : List ℕ) → TornFrom place 1 (disk.may_leave two) c → Left c
      left_seal c from =
          left_sealing (disk.seen one) (went.has.torn begun.honest) (went.is refl begun.honest) c
          (torn_synced disk one_honest sync place 1 c from)

      pub seal_failed : {new : D} → Did disk two (WriteAt place (0xA7 ∷ [])) false new → Leaves new false
      seal_failed did = record {
        crash = leaves_then {P = Left} (crash_synced {P = Left} went.has sync left_unsealed)
            (leaves_weaker did.time left_seal);
        durable = λ made. absurd (false≢true made);
        committed = λ made. absurd (false≢true made);
      }

      pub seal_done : {three new : D} (done : Bool) → Did disk two (WriteAt place (0xA7 ∷ [])) true three
          → Did disk three Sync done new → Leaves new done
      seal_done {three} {new} done did last =
          let is = did.honest.1 two_honest in
          let c : List ℕ = disk.seen three in
          record {
            crash = leaves_then {P = Left} (leaves_then {P = Left} (crash_synced {P = Left} went.has sync left_unsealed)
                (leaves_weaker did.time left_seal))
                (leaves_weaker last.time (λ x may. left_seal x (did.left x may)));
            durable = durable_by done is last;
            committed = λ made.
                let same : disk.seen new ≡ c = done_seen last is made in
                let P : List ℕ → Type 0 = λ l. HoldsMore l in
                let room_two : place + 1 ≤ length (disk.seen two) =
                omega (arith, block_low ring t.position some, log_long, went.has.same_length, sync.same_length) in
                subst P (sym same) (sealed (disk.seen one) (went.has.torn begun.honest) (went.is refl begun.honest) c
                (torn_synced disk one_honest sync place 1 c (did.left c (begun.seen_is_left three is)))
                (byte_written disk place 0xA7 did two_honest room_two));
          }

    pub leaves_by_byte : {new : D} (done : Bool)
        → DidAll disk old (ring_works ring t.position 1 image
        ++ (Sync ∷ WriteAt place (0xA7 ∷ []) ∷ Sync ∷ [])) done new → Leaves new done
    leaves_by_byte {new} done did =
        elim (did_split disk (ring_works ring t.position 1 image)
        (Sync ∷ WriteAt place (0xA7 ∷ []) ∷ Sync ∷ []) old new done did) [
          | inl failed ↦
              let went = image_went false failed.0 in
              failed_as (sym failed.1) (record {
                crash = leaves_weaker went.has.time left_unsealed;
                durable = λ made. absurd (false≢true made);
                committed = λ made. absurd (false≢true made);
              })
          | inr both ↦
              behind both.0 (image_went true both.1) both.2
        ]
      where
        failed_as : false ≡ done → Leaves new false → Leaves new done
        failed_as is leaves = let P : Bool → Type 0 = λ b. Leaves new b in subst P is leaves

        behind : (one : D) → Went one true
            → DidAll disk one (Sync ∷ WriteAt place (0xA7 ∷ []) ∷ Sync ∷ []) done new → Leaves new done
        behind one went (inl failed) =
            failed_as (sym failed.1) (record {
              crash = crash_synced {P = Left} went.has failed.0 left_unsealed;
              durable = λ made. absurd (false≢true made);
              committed = λ made. absurd (false≢true made);
            })
        behind one went (inr (two, sync, inl failed)) =
            failed_as (sym failed.1) (seal_failed one two went sync failed.0)
        behind one went (inr (two, sync, inr (three, did, rest))) =
            seal_done one two went sync done did (one_did disk Sync rest)

  -- ---- sealed as the log is

  left : {new : D} (done : Bool) → DidAll disk old (commit_works t homes records) done new → Leaves new done
  left {new} done did = by_sealing t.log.sealing refl did
    where
      by_sealing : (s : Sealing) → t.log.sealing ≡ s → DidAll disk old (works_by s ring t.position bytes) done new
          → Leaves new done
      by_sealing ByByte is did = leaves_by_byte is done did
      by_sealing (ByDigest key) is did = leaves_by_digest key is done did

  pub leaves : {new : D} (done : Bool) → DidAll disk old (commit_works t homes records) done new
      → CommitLeaves disk t contents homes records done old new
  leaves {new} done did =
      let is = left done did in
      record { crash = is.crash; durable = is.durable; committed = λ made. (is.committed made).0 }

  pub leaves_chain : {new : D} (done : Bool) → DidAll disk old (commit_works t homes records) done new → done ≡ true
      → HoldsMore (disk.seen new)
  leaves_chain {new} done did made = (left done did).committed made

-- no call was made
pub commit_refused : {D : Type 0} (disk : Ghosts D) (t : TailValue) (contents : ℕ → List ℕ) (homes records : List ℕ)
    (old : D) → ((c : List ℕ) → disk.left_since old (disk.moment old) c → disk.may_leave old c)
    → ((c : List ℕ) → disk.may_leave old c → HoldsLog t contents c)
    → CommitLeaves disk t contents homes records false old old
commit_refused disk t contents homes records old now held =
    let P : List ℕ → Type 0 = LeftByCommit t contents homes records in
    record {
      crash = leaves_at_start {P = P} (λ c left. left_before t contents homes records c (held c (now c left)));
      durable = λ made. absurd (false≢true made);
      committed = λ made. absurd (false≢true made);
    }

-- what is outside the log stays
pub leaves_outside : {D : Type 0} (disk : Ghosts D) (t : TailValue) (homes records : List ℕ) (room : ℕ) → IsLog t.log
    → MayCommit t homes room
    → length (log_seal t.log.sealing t.start.epoch (next_logged t homes) records ++ log_body (next_logged t homes))
    ≡ 4096 * log_descriptor_blocks (length homes)
    → length records ≡ 4096 * length homes → (old new : D) → 4096 * t.log.blocks ≤ length (disk.seen old)
    → (done : Bool) → DidAll disk old (commit_works t homes records) done new → disk.is_honest old
    → IsSameOutside t.log (disk.seen old) (disk.seen new)
leaves_outside disk t homes records room log may head_size records_size old new long done did honest =
    let n : ℕ = log_commit_blocks (length homes) in
    let size = commit_size t homes records head_size records_size in
    let all = commit_in t.log.sealing t.log.ring t.position n (commit_bytes t homes records)
    (omega (arith, log.some_ring)) size (omega (arith, may.size.room)) in
    record {
      same_length = did_length disk (commit_works t homes records) old new done did;
      places = all_outside disk t.log.ring (commit_works t homes records) old new done all
          (omega (arith, log.some_homes, long)) honest did;
    }

-- a log without commits
pub may_go_on : (x : Sealing) (g : LogValue) (s : LogStart) (bytes : List ℕ)
    → LogEndsAt x g s.epoch s.position s.number g.ring bytes
    → MayGoOn x g.ring ((s.position + 0) % g.ring) bytes
may_go_on ByByte g s bytes closed = λ opened.
    let p : ℕ = (s.position + 0) % g.ring in
    let zero_p : p + 0 ≡ p = omega arith in
    let zero_s : s.position ≡ s.position + 0 + 0 = omega arith in
    closed (ap (λ (x : ℕ). get_or (block_at bytes x) 0 0)
    (ap (ring_block g.ring) zero_s ∙ sym (block_round g.ring (s.position + 0) 0) ∙ ap (ring_block g.ring) zero_p)
    ∙ opened)
may_go_on (ByDigest key) g s bytes none = tt

abbrev pub held_at_start : (g : LogValue) (s : LogStart) (spent : Bool) (bytes : List ℕ) → HasLog g s [] bytes
    → HoldsLog (tail_at g s spent) (block_at bytes) bytes
held_at_start g s spent bytes has =
    let place : s.position + 0 ≡ s.position = omega arith in
    record {
      chain = [];
      log = record { long = has.long; start = has.start; commits = tt };
      next = may_go_on g.sealing g s bytes has.commits;
      position_is = ap (λ p. p % g.ring) place;
      number_is = omega arith;
      used_is = refl;
      contents_are = λ b home. refl;
    }

pub ends_at_start : (g : LogValue) (s : LogStart) (spent : Bool) (bytes : List ℕ) → HasLog g s [] bytes
    → EndsAtTail (tail_at g s spent) bytes
ends_at_start g s spent bytes has = by g.sealing has.commits
  where
    by : (x : Sealing) → LogEndsAt x g s.epoch s.position s.number g.ring bytes
        → EndsAtTailBy x (tail_at g s spent) bytes
    by ByByte closed = tt
    by (ByDigest key) none = λ d next.
        let p : ℕ = s.position in
        let zero_p : p + 0 ≡ p = omega arith in
        let same : SameBlocks g.ring ((p + 0) % g.ring) p (log_commit_blocks (length d.homes)) bytes bytes = λ k lt.
        ap (λ x. block_at bytes (ring_block g.ring (x + k))) (sym zero_p)
        ∙ ap (block_at bytes) (sym (block_round g.ring (p + 0) k)) in
        none d (next_moved g s.epoch ((p + 0) % g.ring) p s.number g.ring d bytes bytes same next)
