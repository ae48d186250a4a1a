-- What follows of device calls that go round the ring of a log.
use Rattle.std.proofs.Common.{◌≡◌, ◌⊎◌, ℕ, ◌+◌, ◌-◌, ◌*◌, ◌/◌, ◌%◌, ◌<◌, ◌≤◌, ◌↔◌, Bool, true, false, cond}
use Rattle.std.proofs.Common.{List, [], ◌∷◌, ◌++◌, length, drop, get_or, inl, inr, refl, sym, ap, subst, ◌∙◌}
use Rattle.std.proofs.Common.{arith, length-drop}
use Rattle.std.specs.Prelude.{slice_range, nat_le}
use Rattle.std.proofs.Math.Nat.{mod-add-mod, mod-eq_of_lt, add-mod_left}
use Rattle.std.proofs.lemmas.Bool.{cases_lt, false≢true, leb-true, leb-false, le-leb}
use Rattle.std.proofs.lemmas.Nat.{mod_below}
use Rattle.std.proofs.lemmas.List.{get_or-drop}
use Rattle.device.specs.Device.{written, Torn, TornFrom, LeavesOnly}
use Rattle.device.specs.Work.{Work, WriteAt, Sync}
use Rattle.device.specs.Did.{Did}
use Rattle.device.specs.declared.device.Device.{Ghosts}
use Rattle.device.proofs.Public.{leaves_weaker, leaves_then, did_as, done_seen, failed_seen}
use Rattle.device.proofs.Public.{torn_before, torn_after, written_within, written_before, written_after, part_at}
use Rattle.device.proofs.Public.{length-part, length-written}
use Rattle.log_codec.specs.Log.{ring_block}
use Rattle.log_commits.specs.Calls.{DidAll}
use Rattle.log_commits.specs.Ring.{ring_works}
use Rattle.log_commits.proofs.Places.{ring_place, places_apart}
use Rattle.log_commits.proofs.Ranges.{RingTorn, RingHas, torn_then, torn_within}

-- ---- works one after another

module _ {D : Type 0} (disk : Ghosts D) where
  pub did_join : (first second : List Work) (old mid new : D) (done : Bool) → DidAll disk old first true mid
      → DidAll disk mid second done new → DidAll disk old (first ++ second) done new
  did_join [] second old mid new done is did = subst (λ (x : D). DidAll disk x second done new) is.0 did
  did_join (work ∷ more) second old mid new done (inl failed) did = absurd (false≢true (sym failed.1))
  did_join (work ∷ more) second old mid new done (inr both) did =
      inr (both.0, both.1, did_join more second both.0 mid new done both.2 did)

  pub one_did : (work : Work) {old new : D} {done : Bool} → DidAll disk old (work ∷ []) done new
      → Did disk old work done new
  one_did work {old} {new} {done} (inl failed) = subst (λ b. Did disk old work b new) (sym failed.1) failed.0
  one_did work {old} {new} {done} (inr both) =
      subst (λ b. Did disk old work b new) (sym both.2.1)
      (subst (λ (x : D). Did disk old work true x) (sym both.2.0) both.1)

  pub did_one : (work : Work) {old new : D} (done : Bool) → Did disk old work done new
      → DidAll disk old (work ∷ []) done new
  did_one work {old} {new} true did = inr (new, did, (refl, refl))
  did_one work {old} {new} false did = inl (did, refl)

  pub did_less : (first second : List Work) (old new : D) → DidAll disk old first false new
      → DidAll disk old (first ++ second) false new
  did_less [] second old new is = absurd (false≢true is.1)
  did_less (work ∷ more) second old new (inl failed) = inl failed
  did_less (work ∷ more) second old new (inr both) =
      inr (both.0, both.1, did_less more second both.0 new both.2)

  pub did_split : (first second : List Work) (old new : D) (done : Bool)
      → DidAll disk old (first ++ second) done new
      → (DidAll disk old first false new × (done ≡ false))
      ⊎ ((mid : D) × DidAll disk old first true mid × DidAll disk mid second done new)
  did_split [] second old new done did = inr (old, (refl, refl), did)
  did_split (work ∷ more) second old new done (inl failed) = inl (inl (failed.0, refl), failed.1)
  did_split (work ∷ more) second old new done (inr both) = elim (did_split more second both.0 new done both.2) [
    | inl failed ↦ inl (inr (both.0, both.1, failed.0), failed.1)
    | inr whole ↦ inr (whole.0, inr (both.0, both.1, whole.1), whole.2)
  ]

-- ---- writes

-- one of these lists, changed in a range of the ring
abbrev pub RingFrom : ℕ → ℕ → ℕ → ℕ → (List ℕ → Type 0) → List ℕ → Type 0
RingFrom ring p from to lists c = (b : List ℕ) × lists b × RingTorn ring p from to b c

pub record HasTorn {D : Type 0} (disk : Ghosts D) (ring p from to : ℕ) (old new : D) : Type 0 where
  pub torn : disk.is_honest old → RingTorn ring p from to (disk.seen old) (disk.seen new)
  pub left : (c : List ℕ) → disk.may_leave new c → RingFrom ring p from to (disk.may_leave old) c
  pub time : LeavesOnly disk.moment disk.left_since old new (RingFrom ring p from to (disk.may_leave old))
  pub honest : disk.is_honest new ↔ disk.is_honest old
  pub same_length : length (disk.seen new) ≡ length (disk.seen old)

-- one range and then another, as a wider one
pub torn_both : {D : Type 0} {disk : Ghosts D} {ring p a b c d from to : ℕ} {old mid new : D}
    → HasTorn disk ring p a b old mid → HasTorn disk ring p c d mid new → from ≤ a → b ≤ to → from ≤ c → d ≤ to
    → HasTorn disk ring p from to old new
torn_both {D} {disk} {ring} {p} {a} {b} {c} {d} {from} {to} {old} {mid} {new} one two low high less more = record {
  torn = λ honest. torn_then (torn_within (one.torn honest) from to low high)
      (torn_within (two.torn (one.honest.1 honest)) from to less more);
  left = λ x may. from_both x (two.left x may);
  time = leaves_then {P = RingFrom ring p from to (disk.may_leave old)} (leaves_weaker one.time from_one)
      (leaves_weaker two.time from_both);
  honest = (λ h. one.honest.0 (two.honest.0 h), λ h. two.honest.1 (one.honest.1 h));
  same_length = two.same_length ∙ one.same_length;
}
  where
    from_one : (x : List ℕ) → RingFrom ring p a b (disk.may_leave old) x
        → RingFrom ring p from to (disk.may_leave old) x
    from_one x torn = (torn.0, torn.1, torn_within torn.2 from to low high)

    from_both : (x : List ℕ) → RingFrom ring p c d (disk.may_leave mid) x
        → RingFrom ring p from to (disk.may_leave old) x
    from_both x torn =
        let before = one.left torn.0 torn.1 in (
          before.0,
          before.1,
          torn_then (torn_within before.2 from to low high) (torn_within torn.2 from to less more),
        )

-- ---- a sync behind writes, and a write of one byte

pub crash_synced : {D : Type 0} {disk : Ghosts D} {ring p from to : ℕ} {old one two : D} {P : List ℕ → Type 0}
    {done : Bool} → HasTorn disk ring p from to old one → Did disk one Sync done two
    → ((c : List ℕ) → RingFrom ring p from to (disk.may_leave old) c → P c)
    → LeavesOnly disk.moment disk.left_since old two P
crash_synced {P = P} has sync left =
    leaves_then {P = P} (leaves_weaker has.time left) (leaves_weaker sync.time (λ c may. left c (has.left c may)))

-- a write behind a sync changes nothing but what the sync made sure of
pub torn_synced : {D : Type 0} (disk : Ghosts D) {one two : D} → disk.is_honest one → Did disk one Sync true two
    → (at n : ℕ) (c : List ℕ) → TornFrom at n (disk.may_leave two) c → Torn at n (disk.seen one) c
torn_synced disk {one} {two} honest sync at n c from =
    let is : from.0 ≡ disk.seen one = sync.durable honest refl refl from.0 from.1 in
    let P : List ℕ → Type 0 = λ l. Torn at n l c in subst P is from.2

pub byte_written : {D : Type 0} (disk : Ghosts D) {old new : D} (at byte : ℕ)
    → Did disk old (WriteAt at (byte ∷ [])) true new → disk.is_honest old → at + 1 ≤ length (disk.seen old)
    → get_or (disk.seen new) at 0 ≡ byte
byte_written disk {old} {new} at byte did honest fits =
    let here : at - at ≡ 0 = omega arith in
    ap (λ (l : List ℕ). get_or l at 0) (done_seen did honest refl)
    ∙ written_within (disk.seen old) at (byte ∷ []) at fits (omega arith) (omega arith)
    ∙ ap (λ i. get_or (byte ∷ []) i 0) here

-- ---- places in a row

-- the places of a range lie one behind another from an offset on
abbrev pub AreInRow : ℕ → ℕ → ℕ → ℕ → ℕ → Type 0
AreInRow ring p from to at = (k : ℕ) → from ≤ k → k < to → ring_place ring p k ≡ at + (k - from)

-- what is the same before and after such a range
in_row : (ring p from to at size : ℕ) (old new : List ℕ) → AreInRow ring p from to at → from + size ≡ to
    → length new ≡ length old → ((i : ℕ) → i < at → get_or new i 0 ≡ get_or old i 0)
    → ((i : ℕ) → at + size ≤ i → get_or new i 0 ≡ get_or old i 0) → RingTorn ring p from to old new
in_row ring p from to at size old new row same long before after = record {
  same_length = long;
  elsewhere = λ i other. elim (cases_lt i at) [
    | inl less ↦ before i less
    | inr past ↦ elim (cases_lt i (at + size)) [
      | inl within ↦
          let k : ℕ = from + (i - at) in
          let place = row k (omega arith) (omega arith) in
          absurd (other k (omega arith) (omega arith) (omega (arith, place)))
      | inr behind ↦ after i behind
    ]
  ];
}

torn_in_row : (ring p from to at size : ℕ) (old new : List ℕ) → AreInRow ring p from to at → from + size ≡ to
    → Torn at size old new → RingTorn ring p from to old new
torn_in_row ring p from to at size old new row same torn =
    in_row ring p from to at size old new row same torn.same_length (torn_before torn) (torn_after torn)

module _ {D : Type 0} (disk : Ghosts D) {old new : D} (ring p from to at : ℕ) (bytes : List ℕ)
    (row : AreInRow ring p from to at) (same : from + length bytes ≡ to) where
  pub torn_by_write : (done : Bool) → at + length bytes ≤ length (disk.seen old)
      → Did disk old (WriteAt at bytes) done new → HasTorn disk ring p from to old new
  torn_by_write done fits did = record {
    torn = seen_torn done did;
    left = λ c left. from_write c (did.left c left);
    time = leaves_weaker did.time from_write;
    honest = did.honest;
    same_length = did.same_length;
  }
    where
      seen_torn : (b : Bool) → Did disk old (WriteAt at bytes) b new → disk.is_honest old
          → RingTorn ring p from to (disk.seen old) (disk.seen new)
      seen_torn true by honest =
          let P : List ℕ → Type 0 = λ l. RingTorn ring p from to (disk.seen old) l in
          subst P (sym (done_seen by honest refl))
          (in_row ring p from to at (length bytes) (disk.seen old) (written (disk.seen old) at bytes) row same
          (length-written (disk.seen old) at bytes fits)
          (λ i lt. written_before (disk.seen old) at bytes i fits lt)
          (λ i le. written_after (disk.seen old) at bytes i fits le))
      seen_torn false by honest =
          torn_in_row ring p from to at (length bytes) (disk.seen old) (disk.seen new) row same
          (failed_seen by honest refl)

      from_write : (c : List ℕ) → TornFrom at (length bytes) (disk.may_leave old) c
          → RingFrom ring p from to (disk.may_leave old) c
      from_write c torn = (torn.0, torn.1, torn_in_row ring p from to at (length bytes) torn.0 c row same torn.2)

  pub has_by_write : (image : List ℕ) → at + length bytes ≤ length (disk.seen old)
      → ((i : ℕ) → i < length bytes → get_or bytes i 0 ≡ get_or image (from + i) 0)
      → Did disk old (WriteAt at bytes) true new → disk.is_honest old → RingHas ring p from to image (disk.seen new)
  has_by_write image fits part did honest = λ k least most.
      let place = row k least most in
      ap (λ i. get_or (disk.seen new) i 0) place
      ∙ ap (λ (l : List ℕ). get_or l (at + (k - from)) 0) (done_seen did honest refl)
      ∙ written_within (disk.seen old) at bytes (at + (k - from)) fits (omega arith) (omega arith)
      ∙ ap (λ i. get_or bytes i 0) (omega arith) ∙ part (k - from) (omega arith)
      ∙ ap (λ i. get_or image i 0) (omega arith)

-- ---- round the ring

module _ (ring p : ℕ) (some : 0 < ring) where
  abbrev ahead : ℕ
  ahead = 4096 * (ring - p % ring)

  -- before it wraps
  row_before : (from to : ℕ) → from < 4096 → to ≤ ahead
      → AreInRow ring p from to (4096 * ring_block ring p + from)
  row_before from to few fits = λ k least most.
      let low = mod_below p ring some in
      let q : ℕ = k / 4096 in
      let inside : p % ring + q < ring = omega arith in
      let is : (p + q) % ring ≡ p % ring + q = sym (mod-add-mod p ring q) ∙ mod-eq_of_lt inside in
      omega (arith, is)

  -- and behind that
  row_after : (to : ℕ) → to ≤ 4096 * ring → AreInRow ring p ahead to 16384
  row_after to fits = λ k least most.
      let low = mod_below p ring some in
      let q : ℕ = k / 4096 in
      let rest : ℕ = p % ring + q - ring in
      let past : p % ring + q ≡ ring + rest = omega arith in
      let inside : rest < ring = omega arith in
      let is : (p + q) % ring ≡ rest =
      sym (mod-add-mod p ring q) ∙ ap (λ x. x % ring) past ∙ add-mod_left ring rest ∙ mod-eq_of_lt inside in
      omega (arith, is)

  module _ {D : Type 0} (disk : Ghosts D) (from : ℕ) (image : List ℕ) (few : from < 4096)
      (low : from ≤ length image) (fits : length image ≤ 4096 * ring) where
    abbrev to : ℕ
    to = length image

    abbrev first : ℕ
    first = 4096 * ring_block ring p + from

    block_fits : 4096 * ring_block ring p + ahead ≡ 16384 + 4096 * ring
    block_fits = let below = mod_below p ring some in omega arith

    pub record WentRound (old new : D) (done : Bool) : Type 0 where
      pub has : HasTorn disk ring p from to old new
      pub is : done ≡ true → disk.is_honest old → RingHas ring p from to image (disk.seen new)

    one_write : {old new : D} (done : Bool) → 4096 * (4 + ring) ≤ length (disk.seen old) → to ≤ ahead
        → Did disk old (WriteAt first (drop from image)) done new → WentRound old new done
    one_write {old} {new} done long short did =
        let size = length-drop from image in
        let row = row_before from to few short in
        let room : first + length (drop from image) ≤ length (disk.seen old) = omega (arith, block_fits) in
        let same : from + length (drop from image) ≡ to = omega arith in
        record {
          has = torn_by_write disk ring p from to first (drop from image) row same done room did;
          is = λ made honest.
              has_by_write disk ring p from to first (drop from image) row same image room
              (λ i lt. get_or-drop from image i 0)
              (subst (λ b. Did disk old (WriteAt first (drop from image)) b new) made did) honest;
        }

    abbrev front : List ℕ
    front = slice_range image from ahead

    two_writes : {old mid new : D} (done : Bool) → 4096 * (4 + ring) ≤ length (disk.seen old) → ahead < to
        → Did disk old (WriteAt first (slice_range image from ahead)) true mid
        → Did disk mid (WriteAt 16384 (drop ahead image)) done new → WentRound old new done
    two_writes {old} {mid} {new} done long over did more =
        let below = mod_below p ring some in
        let part : List ℕ = slice_range image from ahead in
        let rest : List ℕ = drop ahead image in
        let part_size : length part ≡ ahead - from = length-part image from ahead (omega arith) (omega arith) in
        let rest_size = length-drop ahead image in
        let row = row_before from ahead few (omega arith) in
        let row_more = row_after to fits in
        let room : first + length part ≤ length (disk.seen old) = omega (arith, block_fits) in
        let room_more : 16384 + length rest ≤ length (disk.seen mid) = omega (arith, did.same_length) in
        let same : from + length part ≡ ahead = omega arith in
        let same_more : ahead + length rest ≡ to = omega arith in
        let one = torn_by_write disk ring p from ahead first part row same true room did in
        let two = torn_by_write disk ring p ahead to 16384 rest row_more same_more done room_more more in
        record {
          has = torn_both one two (omega arith) (omega arith) (omega arith) (omega arith);
          is = λ made honest k least most. elim (cases_lt k ahead) [
            | inl before ↦
                let there = has_by_write disk ring p from ahead first part row same image room
                (λ i lt. part_at image from ahead i (omega arith)) did honest in
                (two.torn (did.honest.1 honest)).elsewhere (ring_place ring p k)
                (λ j le lt is. places_apart ring p k j some (omega arith) (omega arith) is)
                ∙ there k least before
            | inr past ↦
                has_by_write disk ring p ahead to 16384 rest row_more same_more image room_more
                (λ i lt. get_or-drop ahead image i 0)
                (subst (λ b. Did disk mid (WriteAt 16384 rest) b new) made more) (did.honest.1 honest) k past most
          ];
        }

    pub went_round : {old new : D} (done : Bool) → 4096 * (4 + ring) ≤ length (disk.seen old)
        → DidAll disk old (ring_works ring p from image) done new → WentRound old new done
    went_round {old} {new} done long did = by_test (nat_le to ahead) refl did
      where
        works : Bool → List Work
        works b = cond b (WriteAt first (drop from image) ∷ [])
            (WriteAt first (slice_range image from ahead) ∷ WriteAt 16384 (drop ahead image) ∷ [])

        wider : ahead < to → (c : List ℕ) → RingFrom ring p from ahead (disk.may_leave old) c
            → RingFrom ring p from to (disk.may_leave old) c
        wider over c torn = (torn.0, torn.1, torn_within torn.2 from to (omega arith) (omega arith))

        by_test : (b : Bool) → nat_le to ahead ≡ b → DidAll disk old (works b) done new → WentRound old new done
        by_test true test is =
            one_write done long (leb-true to ahead test) (one_did disk (WriteAt first (drop from image)) is)
        by_test false test (inl failed) =
            let below = mod_below p ring some in
            let over : ahead < to = leb-false to ahead test in
            let part_size : length front ≡ ahead - from = length-part image from ahead (omega arith) (omega arith) in
            let one = torn_by_write disk ring p from ahead first front (row_before from ahead few (omega arith))
            (omega arith) false (omega (arith, block_fits)) failed.0 in
            record {
              has = record {
                torn = λ honest. torn_within (one.torn honest) from to (omega arith) (omega arith);
                left = λ c may. wider over c (one.left c may);
                time = leaves_weaker one.time (wider over);
                honest = one.honest;
                same_length = one.same_length;
              };
              is = λ made. absurd (false≢true (sym failed.1 ∙ made));
            }
        by_test false test (inr both) =
            two_writes done long (leb-false to ahead test) both.1
            (one_did disk (WriteAt 16384 (drop ahead image)) both.2)

-- ---- the calls that go round

module _ {D : Type 0} (disk : Ghosts D) (ring p from : ℕ) (bytes : List ℕ) (at : ℕ) (part : List ℕ)
    (place : at ≡ 4096 * ring_block ring p + from) where
  abbrev turn : ℕ
  turn = 4096 * (ring - p % ring)

  abbrev works_at : Bool → List Work
  works_at b = cond b (WriteAt (4096 * ring_block ring p + from) (drop from bytes) ∷ [])
      (WriteAt (4096 * ring_block ring p + from) (slice_range bytes from turn) ∷ WriteAt 16384 (drop turn bytes) ∷ [])

  pub works_one : {old new : D} (done : Bool) → part ≡ drop from bytes → length bytes ≤ turn
      → Did disk old (WriteAt at part) done new → DidAll disk old (ring_works ring p from bytes) done new
  works_one {old} {new} done is short did =
      let P : Bool → Type 0 = λ b. DidAll disk old (works_at b) done new in
      let work : WriteAt at part ≡ WriteAt (4096 * ring_block ring p + from) (drop from bytes) =
      ap (λ x. WriteAt x part) place ∙ ap (WriteAt (4096 * ring_block ring p + from)) is in
      subst P (sym (le-leb (length bytes) turn short))
      (did_one disk (WriteAt (4096 * ring_block ring p + from) (drop from bytes)) done (did_as disk work refl did))
