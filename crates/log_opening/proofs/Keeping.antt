-- Changes that nobody reads: one write, and one after another.
use Rattle.std.proofs.Common.{◌≡◌, ◌≢◌, ℕ, zero, suc, ◌+◌, ◌*◌, ◌<◌, ◌≤◌, Bool, true, false, not, List, [], ◌∷◌, ◌++◌}
use Rattle.std.proofs.Common.{cond, Option, Some}
use Rattle.std.proofs.Common.{length, take, drop, get_or, inl, inr, refl, sym, ap, subst, ◌∙◌, arith, length-append}
use Rattle.std.specs.List.{AllByRecursion, Contains}
use Rattle.std.proofs.lemmas.Bool.{cases_eq}
use Rattle.std.proofs.lemmas.List.{length-map}
use Rattle.device.specs.declared.device.Device.{Ghosts}
use Rattle.device.specs.Device.{TornFrom, written}
use Rattle.device.specs.Work.{Work, CopyBlock, WriteAt, Sync, Nothing, TornFromWork}
use Rattle.device.specs.Did.{Did}
use Rattle.device.proofs.Public.{leaves_at_start, leaves_then, leaves_weaker, done_seen, failed_seen}
use Rattle.volume_codec.specs.Layout.{block_at}
use Rattle.volume_codec.specs.Text.{number_text}
use Rattle.volume_codec.proofs.Public.{rising_at, length-padded, length-number_text}
use Rattle.log_codec.specs.declared.start.LogStart.{LogStart}
use Rattle.log_codec.specs.Log.{LogValue, IsLog, first_log_home, ring_block, log_descriptor_blocks}
use Rattle.log_codec.specs.Start.{start_block, start_text}
use Rattle.log_codec.specs.Commit.{LogDescriptor, IsLogged}
use Rattle.log_codec.specs.Chain.{IsLogHome, records_position, position_after, chain_end, logged_or, newest_or}
use Rattle.log_recovery.specs.declared.found.FoundCommit.{FoundCommit}
use Rattle.log_recovery.specs.Reading.{logged_of, chain_of, ArePlaced}
use Rattle.log_opening.specs.inside.Keeping.{KeepsLog, KeptFrom, AreLogged, WritesKeeping, IsSameDevice}
use Rattle.log_opening.specs.inside.Keeping.{HasRecords, HasHomesBut, HasHomes, IsReady}
use Rattle.log_opening.specs.inside.Places.{HasHomeAt, ArePlaces, IsYounger}
use Rattle.log_opening.proofs.Blocks.{AgreesOut, agrees_torn, agrees_written, same_behind, other_block, block_written}
use Rattle.log_opening.proofs.Blocks.{length-block}
use Rattle.log_opening.proofs.Rings.{ring_low}
use Rattle.log_opening.proofs.Newest.{newest_in, newest_next, logged_both, logged_here, logged_there}
use Rattle.log_opening.proofs.Newest.{contains_reads, logged_least, logged_no_least}

-- ---- bytes

pub start_low : (second : Bool) → (2 ≤ start_block second) × (start_block second ≤ 3)
start_low true = (omega arith, omega arith)
start_low false = (omega arith, omega arith)

module _ (g : LogValue) (s : LogStart) (chain : List LogDescriptor) (second : Bool) where
  pub keeps_all : (bytes : List ℕ) → KeepsLog g s chain second bytes bytes
  keeps_all bytes = record {
    same_length = refl;
    low = λ b lt other. refl;
    homes = λ b home none. refl;
    past = refl;
  }

  pub keeps_then : (old mid new : List ℕ) → KeepsLog g s chain second old mid → KeepsLog g s chain second mid new
      → KeepsLog g s chain second old new
  keeps_then old mid new first then = record {
    same_length = then.same_length ∙ first.same_length;
    low = λ b lt other. then.low b lt other ∙ first.low b lt other;
    homes = λ b home none. then.homes b home none ∙ first.homes b home none;
    past = then.past ∙ first.past;
  }

  -- a write to a home block that commits have
  pub keeps_home : (h : ℕ) (old new : List ℕ) → IsLogHome g h → newest_or g.ring h s.position chain h ≢ h
      → AgreesOut (4096 * h) 4096 old new → KeepsLog g s chain second old new
  keeps_home h old new home logged agrees = record {
    same_length = agrees.same_length;
    low = λ b lt other.
        other_block (4096 * h) 4096 h b old new agrees (omega arith) (omega arith) (omega (arith, home.low));
    homes = λ b there none. other_block (4096 * h) 4096 h b old new agrees (omega arith) (omega arith)
        (λ same. logged (subst (λ x. newest_or g.ring x s.position chain x ≡ x) same none));
    past = same_behind (4096 * g.blocks) old new agrees.same_length (λ i le.
        agrees.after i (omega (arith, home.high)));
  }

  -- a write to the start that doesn't count
  pub keeps_start : (n : ℕ) (old new : List ℕ) → IsLog g → n ≤ 4096
      → AgreesOut (4096 * start_block (not second)) n old new → KeepsLog g s chain second old new
  keeps_start n old new log few agrees =
      let h : ℕ = start_block (not second) in
      let low = start_low (not second) in
      record {
        same_length = agrees.same_length;
        low = λ b lt other. other_block (4096 * h) n h b old new agrees (omega arith) (omega arith) other;
        homes = λ b there none. other_block (4096 * h) n h b old new agrees (omega arith) (omega arith)
            (omega (arith, there.low, low.1));
        past = same_behind (4096 * g.blocks) old new agrees.same_length (λ i le.
            agrees.after i (omega (arith, low.1, log.some_homes)));
      }

-- ---- calls

module _ {D : Type 0} (disk : Ghosts D) (g : LogValue) (s : LogStart) (chain : List LogDescriptor)
    (second : Bool) where
  pub writes_none : (device : D)
      → ((c : List ℕ) → disk.left_since device (disk.moment device) c → disk.may_leave device c)
      → WritesKeeping disk g s chain second device device
  writes_none device now = record {
    seen = λ honest. keeps_all g s chain second (disk.seen device);
    left = λ c left. (c, left, keeps_all g s chain second c);
    time = leaves_at_start (λ c since. (c, now c since, keeps_all g s chain second c));
  }

  pub writes_then : (old mid new : D) → (disk.is_honest old → disk.is_honest mid)
      → WritesKeeping disk g s chain second old mid → WritesKeeping disk g s chain second mid new
      → WritesKeeping disk g s chain second old new
  writes_then old mid new honest first then =
      let P : List ℕ → Type 0 = KeptFrom g s chain second (disk.may_leave old) in
      let through : (c : List ℕ) → KeptFrom g s chain second (disk.may_leave mid) c → P c = λ c kept.
      let was = first.left kept.0 kept.1 in
      (was.0, was.1, keeps_then g s chain second was.0 kept.0 c was.2 kept.2) in
      record {
        seen = λ h. keeps_then g s chain second (disk.seen old) (disk.seen mid) (disk.seen new) (first.seen h)
            (then.seen (honest h));
        left = λ c left. through c (then.left c left);
        time = leaves_then first.time (leaves_weaker then.time through);
      }

  -- work that changes a range
  pub writes_by : (at n : ℕ) (old new : D) (work : Work) (done : Bool) → Did disk old work done new
      → ((lists : List ℕ → Type 0) (c : List ℕ) → TornFromWork work lists c → TornFrom at n lists c)
      → ((xs ys : List ℕ) → AgreesOut at n xs ys → KeepsLog g s chain second xs ys)
      → (disk.is_honest old → AgreesOut at n (disk.seen old) (disk.seen new))
      → WritesKeeping disk g s chain second old new
  writes_by at n old new work done did range keeps seen =
      let P : List ℕ → Type 0 = KeptFrom g s chain second (disk.may_leave old) in
      let kept : (c : List ℕ) → TornFromWork work (disk.may_leave old) c → P c = λ c torn.
      let from = range (disk.may_leave old) c torn in
      (from.0, from.1, keeps from.0 c (agrees_torn at n from.0 c from.2)) in
      record {
        seen = λ honest. keeps (disk.seen old) (disk.seen new) (seen honest);
        left = λ c left. kept c (did.left c left);
        time = leaves_weaker did.time kept;
      }

  -- a sync
  pub writes_sync : (old new : D) (done : Bool) → Did disk old Sync done new
      → (disk.is_honest old → disk.seen new ≡ disk.seen old) → WritesKeeping disk g s chain second old new
  writes_sync old new done did seen =
      let P : List ℕ → Type 0 = KeptFrom g s chain second (disk.may_leave old) in
      let kept : (c : List ℕ) → disk.may_leave old c → P c = λ c left. (c, left, keeps_all g s chain second c) in
      record {
        seen = λ honest. subst (λ (l : List ℕ). KeepsLog g s chain second (disk.seen old) l) (sym (seen honest))
            (keeps_all g s chain second (disk.seen old));
        left = λ c left. kept c (did.left c left);
        time = leaves_weaker did.time kept;
      }

module _ {D : Type 0} (disk : Ghosts D) where
  pub same_none : (device : D) → IsSameDevice disk device device
  same_none device = record { honest = (λ h. h, λ h. h); same_length = refl; carried = refl }

  pub same_then : (old mid new : D) → IsSameDevice disk old mid → IsSameDevice disk mid new
      → IsSameDevice disk old new
  same_then old mid new first then = record {
    honest = (λ h. first.honest.0 (then.honest.0 h), λ h. then.honest.1 (first.honest.1 h));
    same_length = then.same_length ∙ first.same_length;
    carried = then.carried ∙ first.carried;
  }

  pub same_did : (old new : D) (work : Work) (done : Bool) → Did disk old work done new → IsSameDevice disk old new
  same_did old new work done did =
      record { honest = did.honest; same_length = did.same_length; carried = did.carried }

  -- a block that was copied
  pub copy_agrees : (old new : D) (r h : ℕ) (done : Bool) → Did disk old (CopyBlock r h) done new
      → disk.is_honest old → 4096 * r + 4096 ≤ length (disk.seen old) → 4096 * h + 4096 ≤ length (disk.seen old)
      → AgreesOut (4096 * h) 4096 (disk.seen old) (disk.seen new)
  copy_agrees old new r h true did honest from to =
      let bytes : List ℕ = block_at (disk.seen old) r in
      let size = length-block (disk.seen old) r from in
      subst (λ n. AgreesOut (4096 * h) n (disk.seen old) (disk.seen new)) size
      (agrees_written (4096 * h) bytes (disk.seen old) (disk.seen new) (omega (arith, size, to))
      (done_seen did honest refl))
  copy_agrees old new r h false did honest from to =
      agrees_torn (4096 * h) 4096 (disk.seen old) (disk.seen new) (failed_seen did honest refl)

  -- bytes that were written
  pub write_agrees : (old new : D) (at : ℕ) (bytes : List ℕ) (done : Bool) → Did disk old (WriteAt at bytes) done new
      → disk.is_honest old → at + length bytes ≤ length (disk.seen old)
      → AgreesOut at (length bytes) (disk.seen old) (disk.seen new)
  write_agrees old new at bytes true did honest fits =
      agrees_written at bytes (disk.seen old) (disk.seen new) fits (done_seen did honest refl)
  write_agrees old new at bytes false did honest fits =
      agrees_torn at (length bytes) (disk.seen old) (disk.seen new) (failed_seen did honest refl)

  pub sync_same : (old new : D) (done : Bool) → Did disk old Sync done new → disk.is_honest old
      → disk.seen new ≡ disk.seen old
  sync_same old new true did honest = done_seen did honest refl
  sync_same old new false did honest = failed_seen did honest refl

-- ---- records that are written home

pub all_at : (P : ℕ → Type 0) (xs : List ℕ) (i : ℕ) → AllByRecursion P xs → i < length xs → P (get_or xs i 0)
all_at P [] i all lt = absurd (omega arith)
all_at P (x ∷ xs) zero all lt = all.0
all_at P (x ∷ xs) (suc i) all lt = all_at P xs i all.1 (omega arith)

all_from : (P : ℕ → Type 0) (xs : List ℕ) → ((i : ℕ) → i < length xs → P (get_or xs i 0)) → AllByRecursion P xs
all_from P [] each = tt
all_from P (x ∷ xs) each = (each 0 (omega arith), all_from P xs (λ i lt. each (suc i) (omega arith)))

-- the home block at a place of a commit is one of the volume
pub home_at : (g : LogValue) (d : LogDescriptor) (i : ℕ) → IsLogged g d → i < length d.homes
    → IsLogHome g (get_or d.homes i 0)
home_at g d i logged lt =
    let at = rising_at (first_log_home g.ring) g.blocks d.homes i logged.rising lt in
    record { low = at.0; high = at.1 }

module _ (g : LogValue) (p : ℕ) (youngest : ℕ → Option ℕ) (place : ℕ) where
  pub records_none : (homes bytes : List ℕ) → HasRecords g p (take 0 homes) youngest place bytes bytes
  records_none homes bytes = record { low = λ b lt. refl; written = λ b home. inl refl }

  module _ (r h i : ℕ) (d : LogDescriptor) (old mid new : List ℕ) (logged : IsLogged g d) (lt : i < length d.homes)
      (home : h ≡ get_or d.homes i 0) (has : HasRecords g p (take i d.homes) youngest place old mid) where
    there : IsLogHome g h
    there = subst (IsLogHome g) (sym home) (home_at g d i logged lt)

    other_record : (b : ℕ) → b ≢ h
        → logged_or g.ring b p (take (i + 1) d.homes) b ≡ logged_or g.ring b p (take i d.homes) b
    other_record b apart = logged_there g.ring b p (first_log_home g.ring) g.blocks d.homes i b logged.rising lt
        (λ same. apart (same ∙ sym home))

    -- one record more
    records_copied : IsLog g → r ≡ ring_block g.ring (p + i) → 4096 * g.blocks ≤ length mid
        → new ≡ written mid (4096 * h) (block_at mid r)
        → HasRecords g p (take (i + 1) d.homes) youngest place old new
    records_copied log record_is long is =
        let low : r < first_log_home g.ring =
        omega (arith, record_is, ring_low g.ring (p + i) (omega (arith, log.some_ring))) in
        let size : length (block_at mid r) ≡ 4096 = length-block mid r (omega (arith, low, long, log.some_homes)) in
        let fits : 4096 * h + 4096 ≤ length mid = omega (arith, there.high, long) in
        let agrees = subst (λ n. AgreesOut (4096 * h) n mid new) size
        (agrees_written (4096 * h) (block_at mid r) mid new (omega (arith, size, fits)) is) in
        let others : (b : ℕ) → b ≢ h → block_at new b ≡ block_at mid b =
        λ b apart. other_block (4096 * h) 4096 h b mid new agrees (omega arith) (omega arith) apart in
        record {
          low = λ b small. others b (omega (arith, there.low, small)) ∙ has.low b small;
          written = λ b is_home. elim (cases_eq b h) [
            | inl same ↦ inl (
                ap (block_at new) same ∙ block_written h (block_at mid r) mid new size fits is ∙ has.low r low
                ∙ ap (block_at old)
                (record_is ∙ sym (logged_here g.ring b p (first_log_home g.ring) g.blocks d.homes i b
                logged.rising lt (same ∙ home))))
            | inr apart ↦ elim (has.written b is_home) [
              | inl as_before ↦ inl (others b apart ∙ as_before ∙ ap (block_at old) (sym (other_record b apart)))
              | inr younger ↦ inr younger
            ]
          ];
        }

    -- or one that is left to a younger commit
    records_skipped : IsYounger youngest (place + 1) h → new ≡ mid
        → HasRecords g p (take (i + 1) d.homes) youngest place old new
    records_skipped younger is = record {
      low = λ b small. ap (λ (l : List ℕ). block_at l b) is ∙ has.low b small;
      written = λ b is_home. elim (cases_eq b h) [
        | inl same ↦ inr (subst (λ x. IsYounger youngest (place + 1) x) (sym same) younger)
        | inr apart ↦ elim (has.written b is_home) [
          | inl as_before ↦ inl (
              ap (λ (l : List ℕ). block_at l b) is ∙ as_before ∙ ap (block_at old) (sym (other_record b apart)))
          | inr later ↦ inr later
        ]
      ];
    }

  pub records_more : {D : Type 0} (disk : Ghosts D) (before after : D) (r h i : ℕ) (skip : Bool) (d : LogDescriptor)
      (old : List ℕ) → Did disk before (cond skip Nothing (CopyBlock r h)) true after → disk.is_honest before
      → IsLog g → IsLogged g d → i < length d.homes → h ≡ get_or d.homes i 0 → r ≡ ring_block g.ring (p + i)
      → 4096 * g.blocks ≤ length (disk.seen before) → (skip ≡ true → IsYounger youngest (place + 1) h)
      → HasRecords g p (take i d.homes) youngest place old (disk.seen before)
      → HasRecords g p (take (i + 1) d.homes) youngest place old (disk.seen after)
  records_more disk before after r h i true d old did honest log logged lt home record_is long younger has =
      records_skipped r h i d old (disk.seen before) (disk.seen after) logged lt home has (younger refl)
      (ap disk.seen (did.still refl))
  records_more disk before after r h i false d old did honest log logged lt home record_is long younger has =
      records_copied r h i d old (disk.seen before) (disk.seen after) logged lt home has log record_is long
      (done_seen did honest refl)

-- one commit more
pub homes_more : (g : LogValue) (p : ℕ) (ds : List LogDescriptor) (d : LogDescriptor) (youngest : ℕ → Option ℕ)
    (place : ℕ) (old mid new : List ℕ) → IsLog g
    → ((b : ℕ) → youngest b ≡ Some place → Contains d.homes b) → HasHomesBut g p ds youngest place old mid
    → HasRecords g (records_position (chain_end p ds) d) d.homes youngest place mid new
    → HasHomesBut g p (ds ++ d ∷ []) youngest (place + 1) old new
homes_more g p ds d youngest place old mid new log contains has more = record {
  low = λ b small. more.low b small ∙ has.low b small;
  written = λ b home. elim (more.written b home) [
    | inr younger ↦ inr younger
    | inl now ↦ elim (logged_both g.ring rp d.homes b) [
      | inl there ↦ inl (
          now ∙ ap (block_at mid) (there.1 b)
          ∙ has.low (ring_block g.ring there.0) (ring_low g.ring there.0 some)
          ∙ ap (block_at old) (sym (there.1 (newest_or g.ring b p ds b)) ∙ sym (newest_next g.ring b p ds d b)))
      | inr none ↦ elim (has.written b home) [
        | inl as_before ↦ inl (
            now ∙ ap (block_at mid) (none b) ∙ as_before
            ∙ ap (block_at old) (sym (none (newest_or g.ring b p ds b)) ∙ sym (newest_next g.ring b p ds d b)))
        | inr later ↦ elim (cases_eq later.0 place) [
          | inl here ↦ absurd (contains_reads g.ring rp d.homes b some
              (contains b (later.2 ∙ ap (λ (n : ℕ). Some n) here)) none)
          | inr behind ↦ inr (later.0, omega (arith, later.1, behind), later.2)
        ]
      ]
    ]
  ];
}
  where
    rp : ℕ
    rp = records_position (chain_end p ds) d

    some : 0 < g.ring
    some = omega (arith, log.some_ring)

-- behind all commits none is younger
has_within : (ds : List LogDescriptor) (place b : ℕ) → HasHomeAt ds place b → place < length ds
has_within [] place b has = absurd has
has_within (d ∷ ds) zero b has = omega arith
has_within (d ∷ ds) (suc place) b has = let rest = has_within ds place b has in omega arith

pub homes_all : (g : LogValue) (p : ℕ) (chain : List LogDescriptor) (youngest : ℕ → Option ℕ) (place : ℕ)
    (old new : List ℕ) → ArePlaces chain youngest → length chain ≤ place
    → HasHomesBut g p chain youngest place old new → HasHomes g p chain old new
homes_all g p chain youngest place old new are all has = record {
  low = has.low;
  homes = λ b home. elim (has.written b home) [
    | inl is ↦ is
    | inr later ↦ absurd (omega (arith, all, later.1, has_within chain later.0 b (are b later.0 later.2)))
  ];
}

-- ---- the commits that were found

module _ {Z : Type 0} (g : LogValue) where
  pub split_at : (cs : List (FoundCommit Z)) (c : FoundCommit Z) (i : ℕ) → i < length cs → c ≡ get_or cs i c
      → (chain_of cs ≡ chain_of (take i cs) ++ logged_of c ∷ chain_of (drop (i + 1) cs))
      × (chain_of (take (i + 1) cs) ≡ chain_of (take i cs) ++ logged_of c ∷ [])
  split_at [] c i lt is = absurd (omega arith)
  split_at (x ∷ cs) c zero lt is = (
    ap (λ (y : FoundCommit Z). logged_of y ∷ chain_of cs) (sym is),
    ap (λ (y : FoundCommit Z). logged_of y ∷ []) (sym is),
  )
  split_at (x ∷ cs) c (suc i) lt is =
      let rest = split_at cs c i (omega arith) is in
      let next : suc i + 1 ≡ suc (i + 1) = omega arith in (
        ap (λ (l : List LogDescriptor). logged_of x ∷ l) rest.0
            ∙ ap (λ n. logged_of x ∷ chain_of (take i cs) ++ logged_of c ∷ chain_of (drop n (x ∷ cs))) (sym next),
        ap (λ n. chain_of (take n (x ∷ cs))) next ∙ ap (λ (l : List LogDescriptor). logged_of x ∷ l) rest.1,
      )

  pub placed_at : (p : ℕ) (cs : List (FoundCommit Z)) (c : FoundCommit Z) (i : ℕ) → ArePlaced g p cs → i < length cs
      → c ≡ get_or cs i c
      → (c.position ≡ chain_end p (chain_of (take i cs)))
      × (c.head ≡ log_descriptor_blocks (length c.homes.items)) × IsLogged g (logged_of c)
  placed_at p [] c i placed lt is = absurd (omega arith)
  placed_at p (x ∷ cs) c zero placed lt is =
      subst (λ (y : FoundCommit Z). (y.position ≡ p) × (y.head ≡ log_descriptor_blocks (length y.homes.items))
      × IsLogged g (logged_of y)) (sym is) (placed.0, placed.1, placed.2)
  placed_at p (x ∷ cs) c (suc i) placed lt is =
      placed_at (position_after p (logged_of x)) cs c i placed.3 (omega arith) is

-- the home blocks of the commit at a place
module _ {Z : Type 0} where
  pub has_home : (cs : List (FoundCommit Z)) (c : FoundCommit Z) (place b : ℕ) → place < length cs
      → c ≡ get_or cs place c → HasHomeAt (chain_of cs) place b → Contains c.homes.items b
  has_home [] c place b lt is has = absurd has
  has_home (x ∷ cs) c zero b lt is has = subst (λ (y : FoundCommit Z). Contains y.homes.items b) (sym is) has
  has_home (x ∷ cs) c (suc place) b lt is has = has_home cs c place b (omega arith) is has

  pub home_there : (cs : List (FoundCommit Z)) (c : FoundCommit Z) (place b : ℕ) → place < length cs
      → c ≡ get_or cs place c → Contains c.homes.items b → HasHomeAt (chain_of cs) place b
  home_there [] c place b lt is has = absurd (omega arith)
  home_there (x ∷ cs) c zero b lt is has = subst (λ (y : FoundCommit Z). Contains y.homes.items b) is has
  home_there (x ∷ cs) c (suc place) b lt is has = home_there cs c place b (omega arith) is has

  pub length-chain : (cs : List (FoundCommit Z)) → length (chain_of cs) ≡ length cs
  length-chain cs = length-map cs (λ commit. logged_of commit)

-- the home blocks of a commit of the chain have their records in the log
pub are_logged : (g : LogValue) (s : LogStart) (chain ds es : List LogDescriptor) (d : LogDescriptor) → IsLog g
    → IsLogged g d → chain ≡ ds ++ d ∷ es → AreLogged g s chain d.homes
are_logged g s chain ds es d log logged split =
    all_from (λ b. newest_or g.ring b s.position chain b ≢ b) d.homes (λ i lt same.
    let h = get_or d.homes i 0 in
    let home = home_at g d i logged lt in
    let there = newest_in g.ring h s.position ds es d i lt in
    let at : newest_or g.ring h s.position chain h ≡ ring_block g.ring there.0 =
    ap (λ (l : List LogDescriptor). newest_or g.ring h s.position l h) split ∙ there.1 in
    omega (arith, home.low, ring_low g.ring there.0 (omega (arith, log.some_ring)), same, at))

-- a record that is copied to a home block that commits have
pub copy_keeps : {D : Type 0} (disk : Ghosts D) (g : LogValue) (s : LogStart) (chain : List LogDescriptor)
    (second : Bool) (old new : D) (r h : ℕ) (done : Bool) → Did disk old (CopyBlock r h) done new → IsLogHome g h
    → newest_or g.ring h s.position chain h ≢ h → 4096 * r + 4096 ≤ length (disk.seen old)
    → 4096 * g.blocks ≤ length (disk.seen old) → WritesKeeping disk g s chain second old new
copy_keeps disk g s chain second old new r h done did home logged from long =
    writes_by disk g s chain second (4096 * h) 4096 old new (CopyBlock r h) done did (λ lists c torn. torn)
    (λ xs ys agrees. keeps_home g s chain second h xs ys home logged agrees)
    (λ honest. copy_agrees disk old new r h done did honest from (omega (arith, home.high, long)))

-- the start that doesn't count, which is written anew
pub start_keeps : {D : Type 0} (disk : Ghosts D) (g : LogValue) (s : LogStart) (chain : List LogDescriptor)
    (second : Bool) (old new : D) (at : ℕ) (bytes : List ℕ) (done : Bool) → Did disk old (WriteAt at bytes) done new
    → IsLog g → at ≡ 4096 * start_block (not second) → length bytes ≡ 4096
    → 4096 * g.blocks ≤ length (disk.seen old) → WritesKeeping disk g s chain second old new
start_keeps disk g s chain second old new at bytes done did log is size long =
    let low = start_low (not second) in
    writes_by disk g s chain second at (length bytes) old new (WriteAt at bytes) done did (λ lists c torn. torn)
    (λ xs ys agrees. keeps_start g s chain second (length bytes) xs ys log (omega (arith, size))
    (subst (λ n. AgreesOut n (length bytes) xs ys) is agrees))
    (λ honest. write_agrees disk old new at bytes done did honest
    (omega (arith, is, size, low.1, log.some_homes, long)))

pub ready_by : (g : LogValue) (s : LogStart) (chain : List LogDescriptor) (second : Bool) (next : LogStart) (at : ℕ)
    (bytes old mid new : List ℕ) → IsLog g → HasHomes g s.position chain old mid
    → KeepsLog g s chain second old new → new ≡ written mid at bytes → at ≡ 4096 * start_block (not second)
    → bytes ≡ start_text next → length bytes ≡ 4096 → 4096 * g.blocks ≤ length mid
    → IsReady g s chain second next old new
ready_by g s chain second next at bytes old mid new log has keeps is there text size long =
    let low = start_low (not second) in
    let h : ℕ = start_block (not second) in
    let agrees = agrees_written at bytes mid new (omega (arith, there, size, low.1, log.some_homes, long)) is in
    record {
      keeps = keeps;
      homes = λ b home. other_block at (length bytes) h b mid new agrees (omega (arith, there))
          (omega (arith, there, size)) (omega (arith, home.low, low.1)) ∙ has.homes b home;
      start = block_written h bytes mid new size (omega (arith, low.1, log.some_homes, long))
          (is ∙ ap (λ n. written mid n bytes) there) ∙ text;
    }

pub length-start_text : (s : LogStart) → length (start_text s) ≡ 4096
length-start_text s =
    let a : List ℕ = number_text 8 s.number in
    let b : List ℕ = number_text 8 s.epoch in
    let c : List ℕ = number_text 4 s.position in
    length-padded 4096 (a ++ b ++ c) (omega (
      arith,
      length-append a b,
      length-append (a ++ b) c,
      length-number_text 8 s.number,
      length-number_text 8 s.epoch,
      length-number_text 4 s.position,
    ))

pub copy_keeps_unless : {D : Type 0} (disk : Ghosts D) (g : LogValue) (s : LogStart) (chain : List LogDescriptor)
    (second : Bool) (old new : D) (r h : ℕ) (skip done : Bool)
    → ((c : List ℕ) → disk.left_since old (disk.moment old) c → disk.may_leave old c)
    → Did disk old (cond skip Nothing (CopyBlock r h)) done new → IsLogHome g h
    → newest_or g.ring h s.position chain h ≢ h → 4096 * r + 4096 ≤ length (disk.seen old)
    → 4096 * g.blocks ≤ length (disk.seen old) → WritesKeeping disk g s chain second old new
copy_keeps_unless disk g s chain second old new r h true done now did home logged from long =
    subst (λ x. WritesKeeping disk g s chain second old x) (sym (did.still refl))
    (writes_none disk g s chain second old now)
copy_keeps_unless disk g s chain second old new r h false done now did home logged from long =
    copy_keeps disk g s chain second old new r h done did home logged from long

-- the newest record of the lengths block, one commit more
module _ {Z : Type 0} (g : LogValue) (p : ℕ) (cs : List (FoundCommit Z)) (c : FoundCommit Z) (i block : ℕ)
    (log : IsLog g) (placed : ArePlaced g p cs) (lt : i < length cs) (at : c ≡ get_or cs i c)
    (is : block ≡ newest_or g.ring (first_log_home g.ring) p (chain_of (take i cs)) (first_log_home g.ring)) where
  next_block : newest_or g.ring (first_log_home g.ring) p (chain_of (take (i + 1) cs)) (first_log_home g.ring)
      ≡ logged_or g.ring block (records_position c.position (logged_of c)) c.homes.items (first_log_home g.ring)
  next_block =
      let ds : List LogDescriptor = chain_of (take i cs) in
      let there = placed_at g p cs c i placed lt at in
      ap (λ (l : List LogDescriptor). newest_or g.ring (first_log_home g.ring) p l (first_log_home g.ring))
      (split_at g cs c i lt at).1
      ∙ newest_next g.ring (first_log_home g.ring) p ds (logged_of c) (first_log_home g.ring)
      ∙ ap (λ q. logged_or g.ring (newest_or g.ring (first_log_home g.ring) p ds (first_log_home g.ring))
      (records_position q (logged_of c)) c.homes.items (first_log_home g.ring)) (sym there.0)
      ∙ ap (λ x. logged_or g.ring x (records_position c.position (logged_of c)) c.homes.items (first_log_home g.ring))
      (sym is)

  pub lengths_there : (r : ℕ) → get_or c.homes.items 0 0 ≡ first_log_home g.ring
      → r ≡ ring_block g.ring (c.position + c.head)
      → r ≡ newest_or g.ring (first_log_home g.ring) p (chain_of (take (i + 1) cs)) (first_log_home g.ring)
  lengths_there r same record_is =
      let there = placed_at g p cs c i placed lt at in
      let rising = there.2.rising in
      record_is ∙ ap (λ n. ring_block g.ring (c.position + n)) there.1
      ∙ sym (next_block ∙ logged_least g.ring block (records_position c.position (logged_of c)) (first_log_home g.ring)
      g.blocks c.homes.items rising there.2.size.some same)

  pub lengths_elsewhere : get_or c.homes.items 0 0 ≢ first_log_home g.ring
      → block ≡ newest_or g.ring (first_log_home g.ring) p (chain_of (take (i + 1) cs)) (first_log_home g.ring)
  lengths_elsewhere other =
      let there = placed_at g p cs c i placed lt at in
      sym (next_block ∙ logged_no_least g.ring block (records_position c.position (logged_of c))
      (first_log_home g.ring) g.blocks c.homes.items there.2.rising other)
