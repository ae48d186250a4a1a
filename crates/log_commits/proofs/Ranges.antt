-- Bytes that differ in a range of a ring.
use Rattle.std.proofs.Common.{◌≡◌, ◌≢◌, ℕ, ◌+◌, ◌*◌, ◌/◌, ◌%◌, ◌<◌, ◌≤◌, List, length, get_or}
use Rattle.std.proofs.Common.{refl, sym, ap, ◌∙◌, arith}
use Rattle.volume_codec.specs.Layout.{block_at}
use Rattle.log_codec.specs.Log.{ring_block}
use Rattle.log_commits.proofs.Places.{ring_place, place_other, place_low, place_round, same_block}

-- new is old out of the places from..to behind position p
pub record RingTorn (ring p from to : ℕ) (old new : List ℕ) : Type 0 where
  pub same_length : length new ≡ length old
  pub elsewhere : (i : ℕ) → ((k : ℕ) → from ≤ k → k < to → i ≢ ring_place ring p k)
      → get_or new i 0 ≡ get_or old i 0

-- new has these bytes there
abbrev pub RingHas : ℕ → ℕ → ℕ → ℕ → List ℕ → List ℕ → Type 0
RingHas ring p from to image new =
    (k : ℕ) → from ≤ k → k < to → get_or new (ring_place ring p k) 0 ≡ get_or image k 0

pub torn_same : (ring p from to : ℕ) (bytes : List ℕ) → RingTorn ring p from to bytes bytes
torn_same ring p from to bytes = record { same_length = refl; elsewhere = λ i other. refl }

pub torn_then : {ring p from to : ℕ} {old mid new : List ℕ} → RingTorn ring p from to old mid
    → RingTorn ring p from to mid new → RingTorn ring p from to old new
torn_then first second = record {
  same_length = second.same_length ∙ first.same_length;
  elsewhere = λ i other. second.elsewhere i other ∙ first.elsewhere i other;
}

pub torn_within : {ring p from to : ℕ} {old new : List ℕ} → RingTorn ring p from to old new → (low high : ℕ)
    → low ≤ from → to ≤ high → RingTorn ring p low high old new
torn_within torn low high le ge = record {
  same_length = torn.same_length;
  elsewhere = λ i other. torn.elsewhere i (λ k least most. other k (omega arith) (omega arith));
}

pub torn_round : {ring p from to : ℕ} {old new : List ℕ} → RingTorn ring (p % ring) from to old new
    → RingTorn ring p from to old new
torn_round {ring} {p} {from} {to} {old} {new} torn = record {
  same_length = torn.same_length;
  elsewhere = λ i other. torn.elsewhere i (λ k least most is. other k least most (is ∙ place_round ring p k));
}

pub has_round : (ring p from to : ℕ) (image new : List ℕ) → RingHas ring (p % ring) from to image new
    → RingHas ring p from to image new
has_round ring p from to image new has = λ k least most.
    ap (λ i. get_or new i 0) (sym (place_round ring p k)) ∙ has k least most

-- bytes before the log stay
pub torn_low : {ring p from to : ℕ} {old new : List ℕ} → RingTorn ring p from to old new → (i : ℕ) → i < 16384
    → get_or new i 0 ≡ get_or old i 0
torn_low {ring} {p} torn i low = torn.elsewhere i (λ k least most. place_low ring p k i low)

-- a block out of the range stays
pub torn_block : {ring p from to : ℕ} {old new : List ℕ} → RingTorn ring p from to old new → (b : ℕ)
    → ((k : ℕ) → k < to → b ≢ ring_block ring (p + k / 4096)) → block_at new b ≡ block_at old b
torn_block {ring} {p} {from} {to} {old} {new} torn b other =
    same_block new old b torn.same_length (λ j small.
    torn.elsewhere (4096 * b + j) (λ k least most. place_other ring p k b j small (other k most)))
