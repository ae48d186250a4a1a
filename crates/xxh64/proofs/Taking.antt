-- How the lanes and the buffer of a hasher follow a message that grows.
use Rattle.std.proofs.Common.{◌≡◌, ℕ, zero, suc, ◌+◌, ◌-◌, ◌*◌, ◌/◌, ◌%◌, ◌^◌, ◌<◌, ◌≤◌, List, [], ◌∷◌, ◌++◌, length}
use Rattle.std.proofs.Common.{take, drop, refl, sym, ap, ◌∙◌, arith, length-append, length-drop, add-one, add-zero}
use Rattle.std.proofs.Common.{subst}
use Rattle.std.proofs.lemmas.List.{take-append-le, drop-append-le, take_all, drop_all, append_assoc, append-nil}
use Rattle.std.proofs.lemmas.List.{drop-take, take-take, take-append-drop, length-take-le, take_at}
use Rattle.std.proofs.lemmas.Slice.{take-put_mid}
use Rattle.xxh64.specs.Xxh64.{lanes_after, striped, HasTaken, HasMessage}
use Rattle.xxh64.specs.declared.Xxh64.{Xxh64}
use borrow.Rule.Slice.PartMut.{put_mid, post_of}

-- ---- stripes

-- the lanes after n stripes don't depend on what comes behind these
pub same_stripes : (seed : ℕ) (m more : List ℕ) (n : ℕ) → n * 32 ≤ length m
    → lanes_after seed (m ++ more) n ≡ lanes_after seed m n
unfolding lanes_after
same_stripes seed m more zero fits = refl
same_stripes seed m more (suc n) fits =
    let long : 32 ≤ length (drop (n * 32) m) = omega (arith, length-drop (n * 32) m) in
    let stripe : take 32 (drop (n * 32) (m ++ more)) ≡ take 32 (drop (n * 32) m) =
    ap (take 32) (drop-append-le (n * 32) m more (omega arith)) ∙ take-append-le 32 (drop (n * 32) m) more long in
    rw (stripe, same_stripes seed m more n (omega arith)) refl

next_stripe : (seed : ℕ) (m : List ℕ) (n : ℕ)
    → lanes_after seed m (n + 1) ≡ striped (lanes_after seed m n) (take 32 (drop (n * 32) m))
unfolding lanes_after
next_stripe seed m n = rw add-one refl

-- ---- what a hasher has taken

module _ (seed : ℕ) (lanes buffer m : List ℕ) (has : HasTaken seed lanes buffer m) where
  abbrev stripes : ℕ
  stripes = length m / 32

  -- bytes that leave the buffer short of a stripe
  pub taken_short : (other more : List ℕ) → length m % 32 + length more < 32
      → take (length m % 32 + length more) other ≡ take (length m % 32) buffer ++ more
      → HasTaken seed lanes other (m ++ more)
  taken_short other more short placed =
      let count : length (m ++ more) / 32 ≡ stripes = omega (arith, length-append m more) in
      let left : length (m ++ more) % 32 ≡ length m % 32 + length more = omega (arith, length-append m more) in
      record {
        stripes = rw count (has.stripes ∙ sym (same_stripes seed m more stripes (omega arith)));
        left = rw (left, count, placed, has.left) (sym (drop-append-le (stripes * 32) m more (omega arith)));
      }

  -- bytes that make a stripe with those of the buffer, which the lanes take
  pub taken_whole : (other more stripe : List ℕ) → length m % 32 + length more ≡ 32
      → stripe ≡ take (length m % 32) buffer ++ more → HasTaken seed (striped lanes stripe) other (m ++ more)
  taken_whole other more stripe whole is =
      let size : length (m ++ more) ≡ length m + length more = length-append m more in
      let count : length (m ++ more) / 32 ≡ stripes + 1 = omega arith in
      let left : length (m ++ more) % 32 ≡ 0 = omega arith in
      let last : drop (stripes * 32) (m ++ more) ≡ stripe =
      drop-append-le (stripes * 32) m more (omega arith) ∙ rw (← has.left) (sym is) in
      let long : length stripe ≡ 32 = omega (arith, ap length last, length-drop (stripes * 32) (m ++ more)) in
      let next : lanes_after seed (m ++ more) (stripes + 1) ≡ striped lanes stripe =
      rw (
        next_stripe seed (m ++ more) stripes,
        same_stripes seed m more stripes (omega arith),
        ← has.stripes,
        last,
        take_all 32 stripe (omega arith),
      ) refl in
      record {
        stripes = rw count (sym next);
        left = rw (left, count) (sym (drop_all ((stripes + 1) * 32) (m ++ more) (omega arith)));
      }

-- ---- the parts of an update

-- a stripe more of the bytes
take_stripe_more : (bytes : List ℕ) (a : ℕ) → take (a + 32) bytes ≡ take a bytes ++ take 32 (drop a bytes)
take_stripe_more bytes a =
    let both : take a (take (a + 32) bytes) ++ drop a (take (a + 32) bytes) ≡ take (a + 32) bytes =
    take-append-drop a (take (a + 32) bytes) in
    sym (rw (take-take a (a + 32) bytes (omega arith), drop-take a 32 bytes) at both)

length-taken : (m bytes : List ℕ) (a : ℕ) → a ≤ length bytes → length (m ++ take a bytes) ≡ length m + a
length-taken m bytes a fits =
    length-append m (take a bytes) ∙ ap (λ (k : ℕ). length m + k) (length-take-le a bytes fits)

-- where the message ends with a stripe, the lanes take the next stripe of the bytes
pub taken_next : (seed : ℕ) (lanes buffer m bytes stripe : List ℕ) (a : ℕ)
    → HasTaken seed lanes buffer (m ++ take a bytes) → (length m + a) % 32 ≡ 0 → a + 32 ≤ length bytes
    → stripe ≡ take 32 (drop a bytes) → HasTaken seed (striped lanes stripe) buffer (m ++ take (a + 32) bytes)
taken_next seed lanes buffer m bytes stripe a has edge fits is =
    let size = length-taken m bytes a (omega arith) in
    let long : length stripe ≡ 32 =
    ap length is ∙ length-take-le 32 (drop a bytes) (omega (arith, length-drop a bytes)) in
    let start : length (m ++ take a bytes) % 32 ≡ 0 = omega arith in
    let taken : HasTaken seed (striped lanes stripe) buffer ((m ++ take a bytes) ++ stripe) =
    taken_whole seed lanes buffer (m ++ take a bytes) has buffer stripe stripe (omega arith) (rw start refl) in
    let more : take (a + 32) bytes ≡ take a bytes ++ stripe = rw is (take_stripe_more bytes a) in
    rw (more, ← append_assoc) taken

-- and the bytes after the last whole stripe are left in the buffer
pub taken_left : (seed : ℕ) (lanes buffer other m bytes left : List ℕ) (a j : ℕ)
    → HasTaken seed lanes buffer (m ++ take a bytes) → (length m + a) % 32 ≡ 0 → a ≤ length bytes
    → length bytes - a < 32 → other ≡ left ++ post_of 0 j buffer → left ≡ drop a bytes
    → HasTaken seed lanes other (m ++ bytes)
taken_left seed lanes buffer other m bytes left a j has edge fits short is left_is =
    let size = length-taken m bytes a fits in
    let few : length (drop a bytes) ≡ length bytes - a = length-drop a bytes in
    let start : length (m ++ take a bytes) % 32 ≡ 0 = omega arith in
    let placed : take (length (m ++ take a bytes) % 32 + length (drop a bytes)) other
    ≡ take (length (m ++ take a bytes) % 32) buffer ++ drop a bytes =
    rw (start, is, ← left_is) (take_at left (post_of 0 j buffer) (0 + length left) (omega arith)) in
    let taken : HasTaken seed lanes other ((m ++ take a bytes) ++ drop a bytes) =
    taken_short seed lanes buffer (m ++ take a bytes) has other (drop a bytes) (omega arith) placed in
    let whole : (m ++ take a bytes) ++ drop a bytes ≡ m ++ bytes =
    append_assoc m (take a bytes) (drop a bytes) ∙ ap (λ (x : List ℕ). m ++ x) (take-append-drop a bytes) in
    subst (HasTaken seed lanes other) whole taken

-- ---- an update

-- the count of a longer message
pub total_more : (total new : ℕ) (m bytes : List ℕ) → total ≡ length m % 2 ^ 64
    → new ≡ (total + length bytes) % 2 ^ 64 → new ≡ length (m ++ bytes) % 2 ^ 64
total_more total new m bytes was is = omega (arith, length-append m bytes)

-- where the bytes don't fill the buffer
pub holds_short : (old new : Xxh64) (seed : ℕ) (m bytes copied : List ℕ) (k j : ℕ) → HasMessage old seed m
    → length old.buffer ≡ 32 → k ≡ old.total % 32 → k + length bytes < 32 → copied ≡ bytes
    → new ≡ record {
      seed = old.seed;
      lanes = old.lanes;
      buffer = put_mid k j old.buffer copied;
      total = (old.total + length bytes) % 2 ^ 64;
    } → HasMessage new seed (m ++ bytes)
holds_short old new seed m bytes copied k j has size at short same is =
    let used : k ≡ length m % 32 = let t = has.total in omega arith in
    let placed : take (length m % 32 + length bytes) (put_mid k j old.buffer copied)
    ≡ take (length m % 32) old.buffer ++ bytes =
    rw (same, ← used) (take-put_mid k j old.buffer bytes (k + length bytes) refl (omega arith)) in
    rw is (record {
      seed_is = has.seed_is;
      total = total_more old.total _ m bytes has.total refl;
      taken = taken_short seed old.lanes old.buffer m has.taken (put_mid k j old.buffer copied) bytes (omega arith)
          placed;
    })

-- before the first whole stripe: this many bytes filled the buffer, which the lanes took
pub begun_full : (old : Xxh64) (seed : ℕ) (m bytes copied buffer lanes : List ℕ) (k j start : ℕ) → HasMessage old seed m
    → length old.buffer ≡ 32 → k ≡ old.total % 32 → start ≡ 32 - k → start ≤ length bytes → j ≡ start
    → copied ≡ take start bytes → buffer ≡ put_mid k j old.buffer copied → lanes ≡ striped old.lanes buffer
    → HasTaken seed lanes buffer (m ++ take (start + 0) bytes) × ((length m + start) % 32 ≡ 0)
begun_full old seed m bytes copied buffer lanes k j start has size at room fits to same is taken =
    let used : k ≡ length m % 32 = let t = has.total in omega arith in
    let front : List ℕ = take start bytes in
    let many : length front ≡ start = length-take-le start bytes fits in
    let none : post_of k j old.buffer ≡ [] = drop_all j (drop k old.buffer) (omega (arith, length-drop k old.buffer)) in
    let whole : buffer ≡ take (length m % 32) old.buffer ++ front = rw (is, none, append-nil, same, ← used) refl in (
      rw (add-zero, taken) (taken_whole seed old.lanes old.buffer m has.taken buffer front buffer (omega arith) whole),
      (let t = has.total in omega arith),
    )

-- or the buffer held nothing
pub begun_empty : (old : Xxh64) (seed : ℕ) (m bytes buffer lanes : List ℕ) (start : ℕ) → HasMessage old seed m
    → old.total % 32 ≤ 0 → start ≡ 0 → buffer ≡ old.buffer → lanes ≡ old.lanes
    → HasTaken seed lanes buffer (m ++ take (start + 0) bytes) × ((length m + start) % 32 ≡ 0)
begun_empty old seed m bytes buffer lanes start has empty none same is =
    (rw (is, same, none, append-nil m) has.taken, (let t = has.total in omega arith))
