-- What a write of a range leaves of other blocks.
use Rattle.std.proofs.Common.{◌≡◌, ◌≢◌, inl, inr, ℕ, ◌+◌, ◌-◌, ◌*◌, ◌<◌, ◌≤◌, List, length, drop, get_or}
use Rattle.std.proofs.Common.{sym, ap, ◌∙◌, arith, length-take, length-drop}
use Rattle.std.proofs.lemmas.Bool.{cases_lt}
use Rattle.std.proofs.lemmas.List.{ext_get_or, get_or-take, get_or-drop}
use Rattle.device.specs.Device.{Torn, written}
use Rattle.device.proofs.Public.{torn_before, torn_after}
use Rattle.device.proofs.Public.{length-written, written_before, written_within, written_after}
use Rattle.volume_codec.specs.Layout.{block_at}

-- new is old out of the n places from at on
pub record AgreesOut (at n : ℕ) (old new : List ℕ) : Type 0 where
  pub same_length : length new ≡ length old
  pub before : (i : ℕ) → i < at → get_or new i 0 ≡ get_or old i 0
  pub after : (i : ℕ) → at + n ≤ i → get_or new i 0 ≡ get_or old i 0

pub agrees_torn : (at n : ℕ) (old new : List ℕ) → Torn at n old new → AgreesOut at n old new
agrees_torn at n old new torn = record {
  same_length = torn.same_length;
  before = torn_before torn;
  after = torn_after torn;
}

pub agrees_written : (at : ℕ) (bytes old new : List ℕ) → at + length bytes ≤ length old → new ≡ written old at bytes
    → AgreesOut at (length bytes) old new
agrees_written at bytes old new fits is = record {
  same_length = ap length is ∙ length-written old at bytes fits;
  before = λ i lt. ap (λ (l : List ℕ). get_or l i 0) is ∙ written_before old at bytes i fits lt;
  after = λ i le. ap (λ (l : List ℕ). get_or l i 0) is ∙ written_after old at bytes i fits le;
}

-- bytes that agree from a place on
pub same_behind : (n : ℕ) (old new : List ℕ) → length new ≡ length old
    → ((i : ℕ) → n ≤ i → get_or new i 0 ≡ get_or old i 0) → drop n new ≡ drop n old
same_behind n old new same agree =
    ext_get_or 0 (drop n new) (drop n old) (omega (arith, same, length-drop n new, length-drop n old)) (λ k lt.
    get_or-drop n new k 0 ∙ agree (n + k) (omega arith) ∙ sym (get_or-drop n old k 0))

pub get_or-block : (bytes : List ℕ) (b k : ℕ) → k < 4096 → get_or (block_at bytes b) k 0 ≡ get_or bytes (4096 * b + k) 0
get_or-block bytes b k lt = get_or-take 4096 (drop (4096 * b) bytes) k 0 lt ∙ get_or-drop (4096 * b) bytes k 0

-- bytes that agree within a block have the same block
pub block_agrees : (b : ℕ) (old new : List ℕ) → length new ≡ length old
    → ((k : ℕ) → k < 4096 → get_or new (4096 * b + k) 0 ≡ get_or old (4096 * b + k) 0)
    → block_at new b ≡ block_at old b
block_agrees b old new same agree =
    ext_get_or 0 (block_at new b) (block_at old b)
    (omega (
      arith,
      same,
      length-take 4096 (drop (4096 * b) new),
      length-take 4096 (drop (4096 * b) old),
      length-drop (4096 * b) new,
      length-drop (4096 * b) old,
    ))
    (λ k lt.
    let small : k < 4096 = omega (arith, lt, length-take 4096 (drop (4096 * b) new)) in
    get_or-block new b k small ∙ agree k small ∙ sym (get_or-block old b k small))

-- a block out of a range that lies within block h
pub other_block : (at n h b : ℕ) (old new : List ℕ) → AgreesOut at n old new → 4096 * h ≤ at → at + n ≤ 4096 * h + 4096
    → b ≢ h → block_at new b ≡ block_at old b
other_block at n h b old new agrees low high other = elim (cases_lt b h) [
  | inl less ↦ block_agrees b old new agrees.same_length (λ k lt. agrees.before (4096 * b + k) (omega arith))
  | inr not ↦
      let more : h < b = omega (arith, other, not) in
      block_agrees b old new agrees.same_length (λ k lt. agrees.after (4096 * b + k) (omega arith))
]

-- what was written to a block is read there
pub block_written : (h : ℕ) (bytes old new : List ℕ) → length bytes ≡ 4096 → 4096 * h + 4096 ≤ length old
    → new ≡ written old (4096 * h) bytes → block_at new h ≡ bytes
block_written h bytes old new size fits is =
    let room : 4096 * h + length bytes ≤ length old = omega (arith, size, fits) in
    let same = ap length is ∙ length-written old (4096 * h) bytes room in
    ext_get_or 0 (block_at new h) bytes
    (omega (arith, size, same, fits, length-take 4096 (drop (4096 * h) new), length-drop (4096 * h) new))
    (λ k lt.
    let small : k < 4096 = omega (arith, lt, length-take 4096 (drop (4096 * h) new)) in
    let place : 4096 * h + k - 4096 * h ≡ k = omega arith in
    get_or-block new h k small ∙ ap (λ (l : List ℕ). get_or l (4096 * h + k) 0) is
    ∙ written_within old (4096 * h) bytes (4096 * h + k) room (omega arith) (omega (arith, small, size))
    ∙ ap (λ j. get_or bytes j 0) place)

pub length-block : (bytes : List ℕ) (b : ℕ) → 4096 * b + 4096 ≤ length bytes → length (block_at bytes b) ≡ 4096
length-block bytes b fits = omega (arith, fits, length-take 4096 (drop (4096 * b) bytes), length-drop (4096 * b) bytes)
