-- What a map of known blocks has as bytes and flags.
use Rattle.std.proofs.Common.{◌≡◌, ◌<◌, ◌≤◌, ◌⊎◌, inl, inr, ⊎_elim, ℕ, zero, suc, ◌+◌, ◌-◌, ◌*◌, ◌/◌, ◌%◌}
use Rattle.std.proofs.Common.{Bool, true, false, List, [], ◌∷◌, ◌++◌, length, get_or}
use Rattle.std.proofs.Common.{length-append, replicate, Option, Some, None, refl, sym, ◌∙◌, ap, subst, arith}
use Rattle.std.proofs.lemmas.Bool.{cases_lt}
use Rattle.std.proofs.lemmas.Bool.Decides.{nat_tests}
use Rattle.std.proofs.lemmas.List.{ext_get_or, get_or_append_left, get_or-append_right, get_or_past, get_or_push}
use Rattle.std.proofs.lemmas.List.{length_push, length-replicate, length-set, get_or-set_same, get_or-set_other}
use Rattle.std.proofs.lemmas.List.{replicate_more}
use Rattle.std.specs.Prelude.{slice_range, is_some, IfSome, set, ◌≢◌, cond, nat_eq, min}
use Rattle.std.proofs.Common.{Result, Ok, Err, IsOk, OnOk}
use Rattle.device.specs.Device.{written}
use Rattle.device.proofs.Public.{part_at, length-part, length-written, written_before, written_within, written_after}
use Rattle.deferred_disk.specs.Deferred.{block_of, with_known, first_block, end_block}
use Rattle.deferred_disk.specs.inside.Deferring.{IsKnownAt}
use Rattle.deferred_disk.specs.inside.Blocks.{blank_room, room_bytes, all_rooms, flags_of, AreWhole, Enters}
use Rattle.deferred_disk.proofs.Deferring.{length-with_known, known_inside, known_outside}

pub from_ok : {T E P : Type 0} (result : Result T E) → IsOk result → OnOk result P → P
from_ok (Ok x) ok is = is
from_ok (Err e) ok is = absurd (cc)

length-blank_room : length blank_room ≡ 4096
unfolding blank_room
length-blank_room = length-replicate {A = ℕ} 4096 0

pub length-room_bytes : (room : Option (List ℕ)) → IfSome room (λ bytes. length bytes ≡ 4096)
    → length (room_bytes room) ≡ 4096
length-room_bytes None whole = length-blank_room
length-room_bytes (Some bytes) whole = whole

module _ (rooms : ℕ → Option (List ℕ)) where
  pub length-flags_of : (n : ℕ) → length (flags_of rooms n) ≡ n
  length-flags_of zero = refl
  length-flags_of (suc n) =
      omega (arith, length-flags_of n, length_push (flags_of rooms n) (is_some (rooms n)))

  pub flag_at : (n b : ℕ) → b < n → get_or (flags_of rooms n) b false ≡ is_some (rooms b)
  flag_at zero b lt = absurd (omega (arith, lt))
  flag_at (suc n) b lt = ⊎_elim
      (λ (before : b < n). get_or_append_left (flags_of rooms n) (is_some (rooms n) ∷ []) false b
      (omega (arith, before, length-flags_of n)) ∙ flag_at n b before)
      (λ (least : n ≤ b). let same : b ≡ n = omega (arith, lt, least) in
      ap (λ k. get_or (flags_of rooms n ++ is_some (rooms n) ∷ []) k false) same
      ∙ get_or_push (flags_of rooms n) (is_some (rooms n)) false n (length-flags_of n)
      ∙ ap (λ k. is_some (rooms k)) (sym same))
      (cases_lt b n)

  pub no_flag : (n b : ℕ) → n ≤ b → get_or (flags_of rooms n) b false ≡ false
  no_flag n b past = get_or_past (flags_of rooms n) b false (omega (arith, past, length-flags_of n))

  module _ (whole : AreWhole rooms) where
    pub length-all_rooms : (n : ℕ) → length (all_rooms rooms n) ≡ 4096 * n
    length-all_rooms zero = refl
    length-all_rooms (suc n) =
        omega (
          arith,
          length-all_rooms n,
          length-append (all_rooms rooms n) (room_bytes (rooms n)),
          length-room_bytes (rooms n) (whole n),
        )

    -- each byte is that of its block
    pub byte_at : (n i : ℕ) → i < 4096 * n
        → get_or (all_rooms rooms n) i 0 ≡ get_or (room_bytes (rooms (i / 4096))) (i - 4096 * (i / 4096)) 0
    byte_at zero i lt = absurd (omega (arith, lt))
    byte_at (suc n) i lt = ⊎_elim
        (λ (before : i < 4096 * n). get_or_append_left (all_rooms rooms n) (room_bytes (rooms n)) 0 i
        (omega (arith, before, length-all_rooms n)) ∙ byte_at n i before)
        (λ (least : 4096 * n ≤ i). let same : n ≡ i / 4096 = omega (arith, lt, least) in
        get_or-append_right (all_rooms rooms n) (room_bytes (rooms n)) (4096 * n) i 0 (length-all_rooms n) least
        ∙ ap (λ k. get_or (room_bytes (rooms k)) (i - 4096 * k) 0) same)
        (cases_lt i (4096 * n))

    -- the bytes of a block are what the map has
    pub block_at : (n b : ℕ) → b < n → block_of (all_rooms rooms n) b ≡ room_bytes (rooms b)
    block_at n b lt =
        let long = length-part (all_rooms rooms n) (4096 * b) (4096 * b + 4096) (omega arith)
        (omega (arith, lt, length-all_rooms n)) in
        let wide = length-room_bytes (rooms b) (whole b) in
        ext_get_or 0 (block_of (all_rooms rooms n) b) (room_bytes (rooms b)) (omega (arith, long, wide)) (λ i fits.
        let small : i < 4096 = omega (arith, fits, long) in
        let here : (4096 * b + i) / 4096 ≡ b = omega (arith, small) in
        let place : 4096 * b + i - 4096 * b ≡ i = omega arith in
        part_at (all_rooms rooms n) (4096 * b) (4096 * b + 4096) i (omega (arith, small))
        ∙ byte_at n (4096 * b + i) (omega (arith, small, lt))
        ∙ ap (λ k. get_or (room_bytes (rooms k)) (4096 * b + i - 4096 * k) 0) here
        ∙ ap (λ k. get_or (room_bytes (rooms b)) k 0) place)

-- where a map has no block
module _ (rooms : ℕ → Option (List ℕ)) (none : (block : ℕ) → rooms block ≡ None) where
  pub whole_where_none : AreWhole rooms
  whole_where_none block = subst (λ o. IfSome o (λ bytes. length bytes ≡ 4096)) (sym (none block)) tt

  pub flags_where_none : (n : ℕ) → flags_of rooms n ≡ replicate n false
  flags_where_none zero = refl
  flags_where_none (suc n) =
      ap (λ (l : List Bool). l ++ is_some (rooms n) ∷ []) (flags_where_none n)
      ∙ ap (λ o. replicate n false ++ is_some o ∷ []) (none n) ∙ replicate_more n false
      ∙ ap (λ k. replicate k false) next
    where
      next : n + 1 ≡ suc n
      next = omega arith

-- A block leaves a map.
module _ (rooms new : ℕ → Option (List ℕ)) (block count : ℕ) (gone : new block ≡ None)
    (stays : (b : ℕ) → (b < block) ⊎ (block < b) → new b ≡ rooms b) (whole : AreWhole rooms) where
  one_or_other : (b : ℕ) → (b ≡ block) ⊎ ((b < block) ⊎ (block < b))
  one_or_other b = ⊎_elim (λ (below : b < block). inr (inl below))
      (λ (least : block ≤ b). ⊎_elim (λ (above : block < b). inr (inr above))
      (λ (same : b ≤ block). inl (omega (arith, same, least))) (cases_lt block b))
      (cases_lt b block)

  pub whole_without : AreWhole new
  whole_without b = ⊎_elim
      (λ same. subst (λ o. IfSome o (λ bytes. length bytes ≡ 4096)) (sym (ap new same ∙ gone)) tt)
      (λ apart. subst (λ o. IfSome o (λ bytes. length bytes ≡ 4096)) (sym (stays b apart)) (whole b))
      (one_or_other b)

  pub flags_without : block < count → flags_of new count ≡ set (flags_of rooms count) block false
  flags_without inside =
      let old = flags_of rooms count in
      let long = length-flags_of new count in
      let was = length-flags_of rooms count in
      ext_get_or false (flags_of new count) (set old block false) (omega (arith, long, was, length-set old block false))
      (λ b lt.
      let small : b < count = omega (arith, lt, long) in
      let now = flag_at new count b small in
      ⊎_elim
      (λ (same : b ≡ block). now ∙ ap is_some (ap new same ∙ gone)
      ∙ sym (ap (λ k. get_or (set old block false) k false) same
      ∙ get_or-set_same old block false false (omega (arith, was, inside))))
      (λ apart. now ∙ ap is_some (stays b apart) ∙ sym (flag_at rooms count b small)
      ∙ sym (get_or-set_other old block b false false (not_same b apart)))
      (one_or_other b))
    where
      not_same : (b : ℕ) → (b < block) ⊎ (block < b) → b ≢ block
      not_same b apart same = ⊎_elim (λ (below : b < block). omega (arith, below, same))
          (λ (above : block < b). omega (arith, above, same)) apart

  pub bytes_without : (i : ℕ) → IsKnownAt (flags_of new count) i
      → get_or (all_rooms new count) i 0 ≡ get_or (all_rooms rooms count) i 0
  bytes_without i known = ⊎_elim
      (λ (lt : i / 4096 < count).
      let small : i < 4096 * count = omega (arith, lt) in
      let b = i / 4096 in
      ⊎_elim
      (λ (same : b ≡ block). absurd (cc (ap is_some (ap new same ∙ gone), flag_at new count b lt, known)))
      (λ apart. byte_at new whole_without count i small
      ∙ ap (λ o. get_or (room_bytes o) (i - 4096 * b) 0) (stays b apart) ∙ sym (byte_at rooms whole count i small))
      (one_or_other b))
      (λ (past : count ≤ i / 4096). absurd (cc (no_flag new count (i / 4096) past, known)))
      (cases_lt (i / 4096) count)

-- A run of blocks enters a map.
module _ (rooms new : ℕ → Option (List ℕ)) (from n count : ℕ) (run : List ℕ) (enters : Enters rooms new from n run)
    (whole : AreWhole rooms) (size : length run ≡ 4096 * n) (fits : from + n ≤ count) where
  part : (k : ℕ) → k < n → length (slice_range run (4096 * k) (4096 * k + 4096)) ≡ 4096
  part k lt =
      omega (arith, length-part run (4096 * k) (4096 * k + 4096) (omega arith) (omega (arith, lt, size)))

  -- a block is one of the run, or another
  pub entered : (block : ℕ)
      → ((k : ℕ) × (k < n) × (block ≡ from + k)) ⊎ ((block < from) ⊎ (from + n ≤ block))
  entered block = ⊎_elim
      (λ (before : block < from). inr (inl before))
      (λ (least : from ≤ block). ⊎_elim
      (λ (lt : block < from + n). inl (block - from, omega (arith, lt, least), omega (arith, least)))
      (λ (past : from + n ≤ block). inr (inr past))
      (cases_lt block (from + n)))
      (cases_lt block from)

  pub whole_with_run : AreWhole new
  whole_with_run block = ⊎_elim
      (λ there. subst (λ o. IfSome o (λ bytes. length bytes ≡ 4096))
      (sym (ap new there.2 ∙ enters.inside there.0 there.1)) (part there.0 there.1))
      (λ apart. subst (λ o. IfSome o (λ bytes. length bytes ≡ 4096)) (sym (enters.outside block apart)) (whole block))
      (entered block)

  pub bytes_with_run : all_rooms new count ≡ written (all_rooms rooms count) (4096 * from) run
  bytes_with_run =
      let old = all_rooms rooms count in
      let long = length-all_rooms new whole_with_run count in
      let was = length-all_rooms rooms whole count in
      let inside : 4096 * from + length run ≤ length old = omega (arith, was, size, fits) in
      ext_get_or 0 (all_rooms new count) (written old (4096 * from) run)
      (omega (arith, long, was, length-written old (4096 * from) run inside)) (λ i lt.
      let block = i / 4096 in
      let small : i < 4096 * count = omega (arith, lt, long) in
      let same = λ (apart : (block < from) ⊎ (from + n ≤ block)). byte_at new whole_with_run count i small
      ∙ ap (λ o. get_or (room_bytes o) (i - 4096 * block) 0) (enters.outside block apart)
      ∙ sym (byte_at rooms whole count i small) in
      ⊎_elim
      (λ there.
      let k = there.0 in
      let from_here : 4096 * k + (i - 4096 * block) ≡ i - 4096 * from = omega (arith, there.2) in
      byte_at new whole_with_run count i small
      ∙ ap (λ o. get_or (room_bytes o) (i - 4096 * block) 0) (ap new there.2 ∙ enters.inside k there.1)
      ∙ part_at run (4096 * k) (4096 * k + 4096) (i - 4096 * block) (omega arith)
      ∙ ap (λ j. get_or run j 0) from_here
      ∙ sym (written_within old (4096 * from) run i inside (omega (arith, there.2))
      (omega (arith, there.2, there.1, size))))
      (λ apart. ⊎_elim
      (λ (before : block < from). same (inl before)
      ∙ sym (written_before old (4096 * from) run i inside (omega (arith, before))))
      (λ (past : from + n ≤ block). same (inr past)
      ∙ sym (written_after old (4096 * from) run i inside (omega (arith, past, size))))
      apart)
      (entered block))

  pub flags_with_run : flags_of new count ≡ with_known (flags_of rooms count) from (from + n)
  flags_with_run =
      let old = flags_of rooms count in
      let long = length-flags_of new count in
      let was = length-flags_of rooms count in
      let le : from ≤ from + n = omega arith in
      let to : from + n ≤ length old = omega (arith, was, fits) in
      ext_get_or false (flags_of new count) (with_known old from (from + n))
      (omega (arith, long, was, length-with_known old from (from + n) le to)) (λ b lt.
      let small : b < count = omega (arith, lt, long) in
      ⊎_elim
      (λ there. flag_at new count b small ∙ ap is_some (ap new there.2 ∙ enters.inside there.0 there.1)
      ∙ sym (known_inside old from (from + n) le to b (omega (arith, there.2))
      (omega (arith, there.2, there.1))))
      (λ apart. flag_at new count b small ∙ ap is_some (enters.outside b apart)
      ∙ sym (flag_at rooms count b small) ∙ sym (known_outside old from (from + n) le to b apart))
      (entered b))

-- What is written into the blocks that it reaches, and they into the others.
module _ (old bytes : List ℕ) (at low high : ℕ) (least : low ≤ at) (most : at + length bytes ≤ high)
    (fits : high ≤ length old) where
  inside : at + length bytes ≤ length old
  inside = omega (arith, most, fits)

  long : length (written old at bytes) ≡ length old
  long = length-written old at bytes inside

  wide : length (slice_range old low high) ≡ high - low
  wide = length-part old low high (omega (arith, least, most)) fits

  wide_new : length (slice_range (written old at bytes) low high) ≡ high - low
  wide_new = length-part (written old at bytes) low high (omega (arith, least, most)) (omega (arith, fits, long))

  pub written_in_part : written (slice_range old low high) (at - low) bytes
      ≡ slice_range (written old at bytes) low high
  written_in_part =
      let part = slice_range old low high in
      let room : at - low + length bytes ≤ length part = omega (arith, wide, least, most) in
      let size = length-written part (at - low) bytes room in
      ext_get_or 0 (written part (at - low) bytes) (slice_range (written old at bytes) low high)
      (omega (arith, size, wide, wide_new)) (λ i lt.
      let small : low + i < high = omega (arith, lt, size, wide) in
      let new = sym (part_at (written old at bytes) low high i small) in
      ⊎_elim
      (λ (before : low + i < at). written_before part (at - low) bytes i room (omega (arith, before))
      ∙ part_at old low high i small ∙ sym (written_before old at bytes (low + i) inside before) ∙ new)
      (λ (from : at ≤ low + i). ⊎_elim
      (λ (to : low + i < at + length bytes).
      let same : i - (at - low) ≡ low + i - at = omega (arith, from, least) in
      written_within part (at - low) bytes i room (omega (arith, from)) (omega (arith, to, least))
      ∙ ap (λ k. get_or bytes k 0) same ∙ sym (written_within old at bytes (low + i) inside from to) ∙ new)
      (λ (past : at + length bytes ≤ low + i). written_after part (at - low) bytes i room (omega (arith, past, least))
      ∙ part_at old low high i small ∙ sym (written_after old at bytes (low + i) inside past) ∙ new)
      (cases_lt (low + i) (at + length bytes)))
      (cases_lt (low + i) at))

  pub part_written_back : written old low (slice_range (written old at bytes) low high) ≡ written old at bytes
  part_written_back =
      let part = slice_range (written old at bytes) low high in
      let room : low + length part ≤ length old = omega (arith, wide_new, least, most, fits) in
      let size = length-written old low part room in
      ext_get_or 0 (written old low part) (written old at bytes) (omega (arith, size, long)) (λ i lt. ⊎_elim
      (λ (before : i < low). written_before old low part i room before
      ∙ sym (written_before old at bytes i inside (omega (arith, before, least))))
      (λ (from : low ≤ i). ⊎_elim
      (λ (to : i < high).
      let place : low + (i - low) ≡ i = omega (arith, from) in
      written_within old low part i room from (omega (arith, to, wide_new, least, most))
      ∙ part_at (written old at bytes) low high (i - low) (omega (arith, from, to))
      ∙ ap (λ k. get_or (written old at bytes) k 0) place)
      (λ (past : high ≤ i). written_after old low part i room (omega (arith, past, wide_new, least, most))
      ∙ sym (written_after old at bytes i inside (omega (arith, past, most))))
      (cases_lt i high))
      (cases_lt i low))

-- a key is another one's
pub other_key : (a b : ℕ) → (b < a) ⊎ (a < b) → nat_eq a b ≡ false
other_key a b (inl below) = grind (arith, nat_tests)
other_key a b (inr above) = grind (arith, nat_tests)

-- so far no block of a run entered
pub enters_none : (rooms : ℕ → Option (List ℕ)) (from : ℕ) (run : List ℕ) → Enters rooms rooms from 0 run
enters_none rooms from run = record { inside = λ k lt. absurd (omega (arith, lt)); outside = λ block apart. refl }

-- one more block of the run
pub enters_more : (rooms mid new : ℕ → Option (List ℕ)) (from n : ℕ) (run bytes : List ℕ) → Enters rooms mid from n run
    → bytes ≡ slice_range run (4096 * n) (4096 * n + 4096)
    → ((b : ℕ) → new b ≡ (cond (nat_eq (from + n) b) (Some bytes) (mid b))) → Enters rooms new from (n + 1) run
enters_more rooms mid new from n run bytes so_far is now = record {
  inside = λ k lt. ⊎_elim
      (λ (before : k < n). other (from + k) (inl (omega (arith, before))) ∙ so_far.inside k before)
      (λ (least : n ≤ k). let same : k ≡ n = omega (arith, lt, least) in
      ap (λ j. new (from + j)) same ∙ here ∙ ap Some is
      ∙ sym (ap (λ j. Some (slice_range run (4096 * j) (4096 * j + 4096))) same))
      (cases_lt k n);
  outside = λ block apart. ⊎_elim
      (λ (before : block < from). other block (inl (omega (arith, before))) ∙ so_far.outside block (inl before))
      (λ (past : from + (n + 1) ≤ block). other block (inr (omega (arith, past)))
      ∙ so_far.outside block (inr (omega (arith, past))))
      apart;
}
  where
    here : new (from + n) ≡ Some bytes
    here = now (from + n) ∙ ap (λ b. cond b (Some bytes) (mid (from + n))) it
      where
        it : nat_eq (from + n) (from + n) ≡ true
        it = grind (arith, nat_tests)

    other : (b : ℕ) → (b < from + n) ⊎ (from + n < b) → new b ≡ mid b
    other b apart = now b ∙ ap (λ t. cond t (Some bytes) (mid b)) (other_key (from + n) b apart)

-- the bytes of one more block
pub part_more : (bytes : List ℕ) (from to : ℕ) → from ≤ to → 4096 * to + 4096 ≤ length bytes
    → slice_range bytes (4096 * from) (4096 * to) ++ block_of bytes to
    ≡ slice_range bytes (4096 * from) (4096 * (to + 1))
part_more bytes from to le fits =
    let low = 4096 * from in
    let mid = 4096 * to in
    let high = 4096 * (to + 1) in
    let first = slice_range bytes low mid in
    let size = length-part bytes low mid (omega (arith, le)) (omega (arith, fits)) in
    let more = length-part bytes mid (mid + 4096) (omega arith) fits in
    let all = length-part bytes low high (omega (arith, le)) (omega (arith, fits)) in
    let both = length-append first (block_of bytes to) in
    ext_get_or 0 (first ++ block_of bytes to) (slice_range bytes low high) (omega (arith, size, more, all, both, le))
    (λ i lt.
    let small : low + i < high = omega (arith, lt, size, more, both, le) in
    ⊎_elim
    (λ (before : low + i < mid). get_or_append_left first (block_of bytes to) 0 i (omega (arith, before, size))
    ∙ part_at bytes low mid i before ∙ sym (part_at bytes low high i small))
    (λ (past : mid ≤ low + i).
    let place : mid + (i - (mid - low)) ≡ low + i = omega (arith, past, le) in
    get_or-append_right first (block_of bytes to) (mid - low) i 0 size (omega (arith, past))
    ∙ part_at bytes mid (mid + 4096) (i - (mid - low)) (omega (arith, place, small))
    ∙ ap (λ k. get_or bytes k 0) place ∙ sym (part_at bytes low high i small))
    (cases_lt (low + i) mid))

-- What one more block has of some bytes is copied.
module _ (bytes part buffer new : List ℕ) (at block : ℕ) (fits : at + length buffer ≤ length bytes)
    (is : part ≡ block_of bytes block) (inside : 4096 * block + 4096 ≤ length bytes)
    (begins : 4096 * block ≤ at + length buffer)
    (ends : at ≤ 4096 * block + 4096)
    (put : new ≡ written buffer (4096 * block - at)
    (slice_range part (at - 4096 * block) (min 4096 (at + length buffer - 4096 * block)))) where
  abbrev low : ℕ
  low = at - 4096 * block

  abbrev high : ℕ
  high = min 4096 (at + length buffer - 4096 * block)

  abbrev place : ℕ
  place = 4096 * block - at

  ordered : low ≤ high
  ordered = omega (arith, begins, ends)

  size : length (slice_range part low high) ≡ high - low
  size =
      let whole = length-part bytes (4096 * block) (4096 * block + 4096) (omega arith) inside in
      length-part part low high ordered (omega (arith, ap length is, whole))

  room : place + length (slice_range part low high) ≤ length buffer
  room = omega (arith, size, ordered, begins, ends)

  pub length-copied : length new ≡ length buffer
  length-copied = ap length put ∙ length-written buffer place (slice_range part low high) room

  pub copied_more : ((i : ℕ) → i < length buffer → at + i < 4096 * block → get_or buffer i 0 ≡ get_or bytes (at + i) 0)
      → (i : ℕ) → i < length new → at + i < 4096 * (block + 1) → get_or new i 0 ≡ get_or bytes (at + i) 0
  copied_more so_far i lt small =
      let piece = slice_range part low high in
      let within : i < length buffer = omega (arith, lt, length-copied) in
      ap (λ (l : List ℕ). get_or l i 0) put ∙ ⊎_elim
      (λ (before : i < place). written_before buffer place piece i room before
      ∙ so_far i within (omega (arith, before)))
      (λ (from : place ≤ i). ⊎_elim
      (λ (to : i < place + length piece).
      let there : low + (i - place) < high = omega (arith, to, from, size, ordered) in
      let here : 4096 * block + (low + (i - place)) ≡ at + i = omega (arith, from) in
      written_within buffer place piece i room from to ∙ part_at part low high (i - place) there
      ∙ ap (λ (l : List ℕ). get_or l (low + (i - place)) 0) is
      ∙ part_at bytes (4096 * block) (4096 * block + 4096) (low + (i - place)) (omega (arith, there))
      ∙ ap (λ k. get_or bytes k 0) here)
      (λ (past : place + length piece ≤ i). absurd (omega (arith, past, size, ordered, within, small, begins, ends)))
      (cases_lt i (place + length piece)))
      (cases_lt i place)

-- once all are copied
pub copied_all : (bytes buffer : List ℕ) (at : ℕ) → at + length buffer ≤ length bytes
    → ((i : ℕ) → i < length buffer → get_or buffer i 0 ≡ get_or bytes (at + i) 0)
    → buffer ≡ slice_range bytes at (at + length buffer)
copied_all bytes buffer at fits each =
    let n = length buffer in
    ext_get_or 0 buffer (slice_range bytes at (at + n))
    (omega (arith, length-part bytes at (at + n) (omega arith) fits))
    (λ i lt. each i lt ∙ sym (part_at bytes at (at + n) i (omega (arith, lt))))

-- The blocks that some bytes reach, with these bytes there, enter their place: that writes the bytes.
module _ (old bytes run : List ℕ) (at count : ℕ) (fits : at + length bytes ≤ length old)
    (whole : length old ≡ 4096 * count)
    (is : run ≡ slice_range (written old at bytes) (4096 * first_block at) (4096 * end_block at (length bytes))) where
  most : 4096 * end_block at (length bytes) ≤ length old
  most = omega (arith, fits, whole)

  run_size : length run ≡ 4096 * (end_block at (length bytes) - first_block at)
  run_size =
      omega (
        arith,
        ap length is,
        length-part (written old at bytes) (4096 * first_block at) (4096 * end_block at (length bytes)) (omega arith)
            (omega (arith, most, length-written old at bytes fits)),
      )

  pub run_whole : length run ≡ 4096 * (length run / 4096)
  run_whole = omega (arith, run_size)

  pub run_fits : 4096 * first_block at + length run ≤ length old
  run_fits = omega (arith, run_size, most)

  pub run_end : first_block at + length run / 4096 ≡ end_block at (length bytes)
  run_end = omega (arith, run_size)

  pub run_written : written old (4096 * first_block at) run ≡ written old at bytes
  run_written =
      ap (written old (4096 * first_block at)) is
      ∙ part_written_back old bytes at (4096 * first_block at) (4096 * end_block at (length bytes)) (omega arith)
      (omega arith) most

  pub run_part : slice_range run (at % 4096) (at % 4096 + length bytes) ≡ bytes
  run_part =
      let n = length bytes in
      let low = 4096 * first_block at in
      let new = written old at bytes in
      let long = length-part run (at % 4096) (at % 4096 + n) (omega arith) (omega (arith, run_size)) in
      ext_get_or 0 (slice_range run (at % 4096) (at % 4096 + n)) bytes (omega (arith, long)) (λ i lt.
      let small : i < n = omega (arith, lt, long) in
      let place : low + (at % 4096 + i) ≡ at + i = omega arith in
      let back : at + i - at ≡ i = omega arith in
      part_at run (at % 4096) (at % 4096 + n) i (omega (arith, small))
      ∙ ap (λ (l : List ℕ). get_or l (at % 4096 + i) 0) is
      ∙ part_at new low (4096 * end_block at n) (at % 4096 + i) (omega (arith, small))
      ∙ ap (λ k. get_or new k 0) place
      ∙ written_within old at bytes (at + i) fits (omega arith) (omega (arith, small))
      ∙ ap (λ k. get_or bytes k 0) back)
