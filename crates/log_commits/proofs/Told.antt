-- What bytes recover to that hold the commits of a log up to a number, by the commits that were made.
use Rattle.std.proofs.Common.{◌≡◌, ◌⊎◌, ◌<◌, ℕ, ◌+◌, ◌-◌, ◌*◌, ◌≤◌, ◌^◌}
use Rattle.std.proofs.Common.{List, [], ◌∷◌, ◌++◌, length, drop, get_or, inl, inr, refl, sym, ap, subst, ◌∙◌, arith}
use Rattle.std.proofs.lemmas.Bool.{cases_eq, cases_lt}
use Rattle.volume_codec.specs.Descriptor.{RiseWithin}
use Rattle.volume_codec.specs.Layout.{block_at}
use Rattle.log_codec.specs.declared.sealing.Sealing.{Sealing}
use Rattle.log_codec.specs.declared.sealing.Sealing.TheVariants.{ByByte, ByDigest}
use Rattle.log_codec.specs.declared.start.LogStart.{LogStart}
use Rattle.log_codec.specs.Log.{LogValue, IsCommitSize, first_log_home, ring_block, ring_bytes}
use Rattle.log_codec.specs.Log.{log_commit_blocks, log_descriptor_blocks}
use Rattle.log_codec.specs.Commit.{LogDescriptor, IsCommitNumber, IsLogged, log_body, log_seal}
use Rattle.log_codec.specs.Start.{IsStartBlock}
use Rattle.log_codec.specs.Chain.{IsNextCommit, IsSealedAt, IsLogHome, LogEndsAt, LogRecovers, spare_blocks}
use Rattle.log_codec.specs.Chain.{position_after, records_position, chain_end, chain_blocks, newest_or, contents_of_log}
use Rattle.log_commits.specs.Tail.{TailValue, AreRead, HoldsLog, HoldsUpTo, MayGoOn, EndsAtTail}
use Rattle.log_commits.specs.Tail.{EndsAtTailBy}
use Rattle.log_commits.specs.Told.{ReadsMade, TellsTorn, TellsTornBy, IsThis, IsNone}
use Rattle.log_commits.specs.Commit.{committed_to, next_logged}
use Rattle.log_commits.specs.Behind.{LeftUnchanged}
use Rattle.log_commits.proofs.Places.{block_low, block_round}
use Rattle.log_commits.proofs.Moved.{SameBlocks, next_moved, read_more, chain_of_read, length_more}
use Rattle.log_commits.proofs.Moved.{newest_with, committed_as}

-- ---- bytes have one list of commits below a number

-- a position has at most one sealed commit
abbrev OneSealed : LogValue → List ℕ → Type 0
OneSealed g bytes = (epoch p : ℕ) (d e : LogDescriptor) → IsSealedAt g epoch p d bytes → IsSealedAt g epoch p e bytes
    → d ≡ e

one_read : (g : LogValue) (epoch p number left : ℕ) (ds es : List LogDescriptor) (bytes : List ℕ) → OneSealed g bytes
    → AreRead g epoch p number left ds bytes → AreRead g epoch p number left es bytes → length ds ≡ length es → ds ≡ es
one_read g epoch p number left [] [] bytes one is other same = refl
one_read g epoch p number left [] (e ∷ es) bytes one is other same = absurd (omega (arith, same))
one_read g epoch p number left (d ∷ ds) [] bytes one is other same = absurd (omega (arith, same))
one_read g epoch p number left (d ∷ ds) (e ∷ es) bytes one is other same =
    let first : e ≡ d = one epoch p e d other.0.sealed is.0.sealed in
    let P : LogDescriptor → Type 0 = λ x. AreRead g epoch (position_after p x) (number + 1)
    (left - log_commit_blocks (length x.homes)) es bytes in
    let after : ℕ = left - log_commit_blocks (length d.homes) in
    let rest = one_read g epoch (position_after p d) (number + 1) after ds es bytes one is.1
    (subst P first other.1) (omega (arith, same)) in
    ap (λ (x : LogDescriptor). x ∷ ds) (sym first) ∙ ap (λ (xs : List LogDescriptor). e ∷ xs) rest

pub one_held : (g : LogValue) (number : ℕ) (contents others : ℕ → List ℕ) (bytes : List ℕ) (b : ℕ)
    → ((s t : LogStart) (block : List ℕ) → IsStartBlock g.ring s block → IsStartBlock g.ring t block → s ≡ t)
    → (4096 * g.blocks ≤ length bytes → OneSealed g bytes)
    → HoldsUpTo g number contents bytes → HoldsUpTo g number others bytes → IsLogHome g b → contents b ≡ others b
one_held g number contents others bytes b starts one is other home =
    let start : other.start ≡ is.start = starts other.start is.start _ other.log.start is.log.start in
    let P : LogStart → Type 0 = λ x. AreRead g x.epoch x.position x.number g.ring other.chain bytes in
    let chain : is.chain ≡ other.chain = one_read g is.start.epoch is.start.position is.start.number g.ring is.chain
    other.chain bytes (one is.log.long) is.log.commits (subst P start other.log.commits)
    (omega (arith, is.number_is, other.number_is, ap (λ (s : LogStart). s.number) start)) in
    is.contents_are b home
    ∙ ap (λ (s : LogStart). contents_of_log g s.position is.chain bytes b) (sym start)
    ∙ ap (λ (ds : List LogDescriptor). contents_of_log g other.start.position ds bytes b) chain
    ∙ sym (other.contents_are b home)

-- ---- a commit lies at a position, or not

-- two lists are the same, or not
same_lists : (xs ys : List ℕ) → (xs ≡ ys) ⊎ (xs ≡ ys → ⊥)
same_lists [] [] = inl refl
same_lists [] (y ∷ ys) = inr (λ is. absurd (omega (arith, ap length is)))
same_lists (x ∷ xs) [] = inr (λ is. absurd (omega (arith, ap length is)))
same_lists (x ∷ xs) (y ∷ ys) = elim (cases_eq x y) [
  | inl head ↦ elim (same_lists xs ys) [
    | inl rest ↦ inl (ap (λ n. n ∷ xs) head ∙ ap (λ (l : List ℕ). y ∷ l) rest)
    | inr other ↦ inr (λ is. other (ap (drop 1) is))
  ]
  | inr other ↦ inr (λ is. other (ap (λ (l : List ℕ). get_or l 0 0) is))
]

rises_or_not : (low high : ℕ) (homes : List ℕ) → RiseWithin low high homes ⊎ (RiseWithin low high homes → ⊥)
rises_or_not low high [] = inl tt
rises_or_not low high (n ∷ ns) = elim (cases_lt n low) [
  | inl less ↦ inr (λ is. absurd (omega (arith, less, is.0)))
  | inr least ↦ elim (cases_lt n high) [
    | inr past ↦ inr (λ is. absurd (omega (arith, past, is.1)))
    | inl below ↦ elim (rises_or_not (n + 1) high ns) [
      | inl rest ↦ inl (omega (arith, least), below, rest)
      | inr none ↦ inr (λ is. none is.2)
    ]
  ]
]

size_or_not : (ring records : ℕ) → IsCommitSize ring records ⊎ (IsCommitSize ring records → ⊥)
size_or_not ring records = elim (cases_lt 0 records) [
  | inr none ↦ inr (λ is. absurd (omega (arith, none, is.some)))
  | inl some ↦ elim (cases_lt 65535 records) [
    | inl many ↦ inr (λ is. absurd (omega (arith, many, is.few)))
    | inr few ↦ elim (cases_lt ring (log_commit_blocks records + 1)) [
      | inl full ↦ inr (λ is. absurd (omega (arith, full, is.room)))
      | inr room ↦ inl (record { some = some; few = omega (arith, few); room = omega (arith, room) })
    ]
  ]
]

number_or_not : (n : ℕ) → IsCommitNumber n ⊎ (IsCommitNumber n → ⊥)
number_or_not n = elim (cases_lt 0 n) [
  | inr none ↦ inr (λ is. absurd (omega (arith, none, is.some)))
  | inl some ↦ elim (cases_lt (n + 1) (2 ^ 64)) [
    | inr large ↦ inr (λ is. absurd (omega (arith, large, is.small)))
    | inl small ↦ inl (record { some = some; small = small })
  ]
]

logged_or_not : (g : LogValue) (d : LogDescriptor) → IsLogged g d ⊎ (IsLogged g d → ⊥)
logged_or_not g d = elim (number_or_not d.number) [
  | inr not ↦ inr (λ is. not is.number)
  | inl number ↦ elim (size_or_not g.ring (length d.homes)) [
    | inr not ↦ inr (λ is. not is.size)
    | inl size ↦ elim (rises_or_not (first_log_home g.ring) g.blocks d.homes) [
      | inr not ↦ inr (λ is. not is.rising)
      | inl rising ↦ inl (record { number = number; size = size; rising = rising })
    ]
  ]
]

module _ (g : LogValue) (epoch p number left : ℕ) (d : LogDescriptor) (records bytes : List ℕ) where
  abbrev there : List ℕ
  there = ring_bytes g.ring bytes (records_position p d) (length d.homes)

  abbrev head : List ℕ
  head = ring_bytes g.ring bytes p (log_descriptor_blocks (length d.homes))

  -- it is the next commit, and has these records
  abbrev pub IsThere : Type 0
  IsThere = IsNextCommit g epoch p number left d bytes × (there ≡ records)

  pub there_or_not : d.number ≡ number → IsThere ⊎ (IsThere → ⊥)
  there_or_not number_is = elim (logged_or_not g d) [
    | inr not ↦ inr (λ is. not is.0.sealed.logged)
    | inl logged ↦ elim (same_lists head (log_seal g.sealing epoch d there ++ log_body d)) [
      | inr other ↦ inr (λ is. other is.0.sealed.sealed)
      | inl sealed ↦ elim (cases_lt left (log_commit_blocks (length d.homes) + spare_blocks g.sealing)) [
        | inl full ↦ inr (λ is. absurd (omega (arith, full, is.0.room)))
        | inr room ↦ elim (same_lists there records) [
          | inr other ↦ inr (λ is. other is.1)
          | inl same ↦ inl (
            record {
              sealed = record { logged = logged; sealed = sealed };
              number_is = number_is;
              room = omega (arith, room);
            },
            same,
          )
        ]
      ]
    ]
  ]

-- ---- bytes that hold the commits up to a number

rises_below : (low high : ℕ) (homes : List ℕ) → RiseWithin low high homes → 0 < length homes → low < high
rises_below low high [] is some = absurd (omega (arith, some))
rises_below low high (n ∷ ns) is some = omega (arith, is.0, is.1)

module _ (g : LogValue) (number : ℕ) (contents : ℕ → List ℕ) (c : List ℕ) (held : HoldsUpTo g number contents c) where
  abbrev s : LogStart
  s = held.start

  abbrev end : ℕ
  end = chain_end s.position held.chain

  abbrev behind : ℕ
  behind = s.number + length held.chain

  abbrev left : ℕ
  left = g.ring - chain_blocks held.chain

  -- it is all where the log ends
  pub recovers_up_to : LogEndsAt g.sealing g s.epoch end behind left c → LogRecovers g contents c
  recovers_up_to ends = record {
    start = s;
    chain = held.chain;
    log = record {
      long = held.log.long;
      start = held.log.start;
      commits = chain_of_read g s.epoch s.position s.number g.ring held.chain c held.log.commits ends;
    };
    contents_are = held.contents_are;
  }

  -- one commit more can be read
  grown : (d : LogDescriptor) (records : List ℕ) → IsThere g s.epoch end behind left d records c
      → HoldsUpTo g (number + 1) (committed_to contents d.homes records) c
  grown d records is = record {
    start = s;
    chain = held.chain ++ d ∷ [];
    log = record {
      long = held.log.long;
      start = held.log.start;
      commits = read_more g s.epoch s.position s.number g.ring held.chain d c held.log.commits is.0;
    };
    number_is = omega (arith, held.number_is, length_more held.chain d);
    contents_are = λ b home.
        let logged = is.0.sealed.logged in
        let below = rises_below (4 + g.ring) g.blocks d.homes logged.rising logged.size.some in
        committed_as g.ring (newest_or g.ring b s.position held.chain b) (records_position end d) d.homes records
        contents b c (omega (arith, held.log.start.start.within)) (omega (arith, held.log.long, below))
        (held.contents_are b home) is.1 ∙ ap (block_at c) (sym (newest_with g.ring b s.position held.chain d b));
  }

  module _ (Made : LogDescriptor → List ℕ → Type 0) (key low : ℕ) (digest : g.sealing ≡ ByDigest key)
      (tells : ReadsMade Made g low c) (le : low ≤ number) where
    -- the next commit that can be read was made
    next_made : (d : LogDescriptor) → IsNextCommit g s.epoch end behind left d c
        → Made d (ring_bytes g.ring c (records_position end d) (length d.homes)) × (d.number ≡ number)
    next_made d next =
        let number_is : d.number ≡ number = next.number_is ∙ sym held.number_is in (
          tells s held.chain d held.log.start
              (read_more g s.epoch s.position s.number g.ring held.chain d c held.log.commits next)
              (omega (arith, le, number_is)),
          number_is,
        )

    ended : ((d : LogDescriptor) → IsNextCommit g s.epoch end behind left d c → ⊥) → LogRecovers g contents c
    ended none =
        let P : Sealing → Type 0 = λ x. LogEndsAt x g s.epoch end behind left c in
        recovers_up_to (subst P (sym digest) none)

    -- no commit with the next number was made
    pub told_end : ((d : LogDescriptor) (records : List ℕ) → Made d records → d.number ≡ number → ⊥)
        → LogRecovers g contents c
    told_end none = ended (λ d next.
        let is = next_made d next in
        none d (ring_bytes g.ring c (records_position end d) (length d.homes)) is.0 is.1)

    -- this one alone was
    pub told_next : (this : LogDescriptor) (records : List ℕ) → this.number ≡ number
        → ((d : LogDescriptor) (others : List ℕ) → Made d others → d.number ≡ number → IsThis this records d others)
        → HoldsUpTo g (number + 1) (committed_to contents this.homes records) c ⊎ LogRecovers g contents c
    told_next this records number_is only =
        elim (there_or_not g s.epoch end behind left this records c (number_is ∙ held.number_is)) [
          | inl is ↦ inl (grown this records is)
          | inr not ↦ inr (ended (λ d next.
              let is = next_made d next in
              let same = only d (ring_bytes g.ring c (records_position end d) (length d.homes)) is.0 is.1 in
              let P : LogDescriptor → Type 0 = λ e. IsNextCommit g s.epoch end behind left e c in
              let Q : LogDescriptor → Type 0 =
              λ e. ring_bytes g.ring c (records_position end e) (length e.homes) ≡ records in
              not (subst P same.0 next, subst Q same.0 same.1)))
        ]

-- ---- where a byte seals, there is no premise

pub tells_by_byte : (Made : LogDescriptor → List ℕ → Type 0) (g : LogValue) (number : ℕ) (bytes : List ℕ)
    → g.sealing ≡ ByByte → TellsTorn Made g number bytes
tells_by_byte Made g number bytes byte =
    let P : Sealing → Type 0 = λ s. TellsTornBy s Made g number bytes in subst P (sym byte) tt

-- ---- bytes that hold a log

module _ (t : TailValue) (contents : ℕ → List ℕ) (c : List ℕ) (held : HoldsLog t contents c) where
  abbrev pub up_to : HoldsUpTo t.log t.number contents c
  up_to = record {
    start = t.start;
    chain = held.chain;
    log = held.log;
    number_is = held.number_is;
    contents_are = held.contents_are;
  }

  -- it ends where a byte that seals is closed, or where no next commit lies
  ends_by : (s : Sealing) → MayGoOn s t.log.ring t.position c → EndsAtTailBy s t c
      → LogEndsAt s t.log t.start.epoch (chain_end t.start.position held.chain) (t.start.number + length held.chain)
      (t.log.ring - chain_blocks held.chain) c
  ends_by ByByte closed ends = λ opened.
      let end : ℕ = chain_end t.start.position held.chain in
      let zero_end : end + 0 ≡ end = omega arith in
      let zero_tail : t.position ≡ t.position + 0 = omega arith in
      closed (ap (λ (x : ℕ). get_or (block_at c x) 0 0)
      (ap (ring_block t.log.ring) zero_tail ∙ ap (λ x. ring_block t.log.ring (x + 0)) held.position_is
      ∙ block_round t.log.ring end 0 ∙ ap (ring_block t.log.ring) zero_end) ∙ opened)
  ends_by (ByDigest key) closed ends = λ d next.
      let end : ℕ = chain_end t.start.position held.chain in
      let n : ℕ = log_commit_blocks (length d.homes) in
      let same : SameBlocks t.log.ring end t.position n c c = λ k lt.
      ap (λ x. block_at c (ring_block t.log.ring (x + k))) held.position_is
      ∙ ap (block_at c) (block_round t.log.ring end k) in
      let there = next_moved t.log t.start.epoch end t.position (t.start.number + length held.chain)
      (t.log.ring - chain_blocks held.chain) d c c same next in
      ends d (record {
        sealed = there.sealed;
        number_is = there.number_is ∙ sym held.number_is;
        room = omega (arith, there.room);
      })

  pub recovers : EndsAtTail t c → LogRecovers t.log contents c
  recovers ends = recovers_up_to t.log t.number contents c up_to (ends_by t.log.sealing held.next ends)

pub recovers_by_byte : (t : TailValue) (contents : ℕ → List ℕ) (c : List ℕ) → t.log.sealing ≡ ByByte
    → HoldsLog t contents c → LogRecovers t.log contents c
recovers_by_byte t contents c byte held =
    let P : Sealing → Type 0 = λ s. EndsAtTailBy s t c in
    recovers t contents c held (subst P (sym byte) tt)

-- the log ends where it did, in bytes with the same log
pub ended_same : (t : TailValue) (old new : List ℕ)
    → ((b : ℕ) → 4 ≤ b → b < 4 + t.log.ring → block_at new b ≡ block_at old b) → EndsAtTail t old → EndsAtTail t new
ended_same t old new same ends = by t.log.sealing ends
  where
    by : (s : Sealing) → EndsAtTailBy s t old → EndsAtTailBy s t new
    by ByByte ends = tt
    by (ByDigest key) ends = λ d next.
        let p : ℕ = t.position in
        let n : ℕ = log_commit_blocks (length d.homes) in
        let some : 0 < t.log.ring = omega (arith, next.sealed.logged.size.room) in
        let back : SameBlocks t.log.ring p p n new old = λ k lt.
        sym (same (ring_block t.log.ring (p + k)) (omega arith) (block_low t.log.ring (p + k) some)) in
        ends d (next_moved t.log t.start.epoch p p t.number t.log.ring d new old back next)

-- what a crash leaves that changes no contents
pub left_unchanged : (t : TailValue) (contents : ℕ → List ℕ) (c : List ℕ) → HoldsLog t contents c
    → LeftUnchanged t contents c
left_unchanged t contents c held = record {
  up_to = up_to t contents c held;
  recovers = by t.log.sealing refl;
}
  where
    by : (s : Sealing) → t.log.sealing ≡ s → TellsTornBy s IsNone t.log t.number c → LogRecovers t.log contents c
    by ByByte is tells = recovers_by_byte t contents c is held
    by (ByDigest key) is tells =
        told_end t.log t.number contents c (up_to t contents c held) IsNone key t.number is tells (omega arith)
        (λ d records made same. made)

-- the same, of bytes that hold the commits, where a digest seals
pub unchanged_by_digest : (t : TailValue) (contents : ℕ → List ℕ) (c : List ℕ) (key : ℕ)
    → t.log.sealing ≡ ByDigest key → HoldsUpTo t.log t.number contents c → LeftUnchanged t contents c
unchanged_by_digest t contents c key digest held = record {
  up_to = held;
  recovers = λ tells.
      let P : Sealing → Type 0 = λ s. TellsTornBy s IsNone t.log t.number c in
      told_end t.log t.number contents c held IsNone key t.number digest (subst P digest tells) (omega arith)
      (λ d records made same. made);
}

-- all of a commit's records are there, or none
pub told_commit : (t : TailValue) (contents : ℕ → List ℕ) (homes records c : List ℕ) (key : ℕ)
    → t.log.sealing ≡ ByDigest key → HoldsUpTo t.log t.number contents c
    → TellsTorn (IsThis (next_logged t homes) records) t.log t.number c
    → LogRecovers t.log contents c ⊎ LogRecovers t.log (committed_to contents homes records) c
told_commit t contents homes records c key digest held tells =
    let this : LogDescriptor = next_logged t homes in
    let P : Sealing → Type 0 = λ s. TellsTornBy s (IsThis this records) t.log t.number c in
    let reads : ReadsMade (IsThis this records) t.log t.number c = subst P digest tells in
    elim (told_next t.log t.number contents c held (IsThis this records) key t.number digest reads (omega arith) this
    records refl (λ d others made same. made)) [
      | inr old ↦ inl old
      | inl more ↦ inr (told_end t.log (t.number + 1) (committed_to contents homes records) c more
          (IsThis this records) key t.number digest reads (omega arith)
          (λ d others made same. omega (arith, same, ap (λ (e : LogDescriptor). e.number) made.0)))
    ]
