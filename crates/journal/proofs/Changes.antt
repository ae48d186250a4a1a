-- Bytes of which one block is written or torn, and what the other blocks have.
use Rattle.std.proofs.Common.{◌≡◌, ◌≢◌, ℕ, ◌+◌, ◌-◌, ◌*◌, ◌<◌, ◌≤◌, List, [], ◌∷◌, ◌++◌, length, take, drop}
use Rattle.std.proofs.Common.{get_or, refl, sym, ap, ◌∙◌, inl, inr, arith, append_assoc, length-append}
use Rattle.std.proofs.lemmas.Bool.{cases_order}
use Rattle.std.proofs.lemmas.List.{length-take, length-drop, get_or-take, get_or-drop, ext_get_or, take_at, drop_at}
use Rattle.device.specs.Device.{written, Torn}
use Rattle.volume_codec.specs.Layout.{block_at}

-- ---- torn ranges

torn_before : {at n : ℕ} {old new : List ℕ} → Torn at n old new → (i : ℕ) → i < at → get_or new i 0 ≡ get_or old i 0
torn_before {at} {n} {old} {new} torn i lt =
    sym (get_or-take at new i 0 lt)
    ∙ ap (λ (l : List ℕ). get_or l i 0) torn.before
    ∙ get_or-take at old i 0 lt

torn_after : {at n : ℕ} {old new : List ℕ} → Torn at n old new → (i : ℕ) → at + n ≤ i → get_or new i 0 ≡ get_or old i 0
torn_after {at} {n} {old} {new} torn i le =
    let place : at + n + (i - (at + n)) ≡ i = omega arith in
    sym (get_or-drop (at + n) new (i - (at + n)) 0 ∙ ap (λ k. get_or new k 0) place)
    ∙ ap (λ (l : List ℕ). get_or l (i - (at + n)) 0) torn.after
    ∙ get_or-drop (at + n) old (i - (at + n)) 0 ∙ ap (λ k. get_or old k 0) place

-- a write is torn from what was there
pub torn-written : (at : ℕ) (bytes old : List ℕ) → at + length bytes ≤ length old
    → Torn at (length bytes) old (written old at bytes)
torn-written at bytes old fits =
    let front : length (take at old) ≡ at = omega (arith, length-take at old) in
    record {
      before = ap (take at) (append_assoc (take at old) bytes (drop (at + length bytes) old))
          ∙ take_at (take at old) (bytes ++ drop (at + length bytes) old) at front;
      after = drop_at (take at old ++ bytes) (drop (at + length bytes) old) (at + length bytes)
          (omega (arith, front, length-append (take at old) bytes));
      same_length = omega (
        arith,
        front,
        length-append (take at old ++ bytes) (drop (at + length bytes) old),
        length-append (take at old) bytes,
        length-drop (at + length bytes) old,
      );
    }

-- bytes that agree within a block have the same block
same_block : (xs ys : List ℕ) (c : ℕ) → length xs ≡ length ys
    → ((i : ℕ) → 4096 * c ≤ i → i < 4096 * c + 4096 → get_or xs i 0 ≡ get_or ys i 0)
    → block_at xs c ≡ block_at ys c
same_block xs ys c same agree = ext_get_or 0 (block_at xs c) (block_at ys c) lengths each
  where
    lengths : length (block_at xs c) ≡ length (block_at ys c)
    lengths = omega (
      arith,
      length-take 4096 (drop (4096 * c) xs),
      length-take 4096 (drop (4096 * c) ys),
      length-drop (4096 * c) xs,
      length-drop (4096 * c) ys,
    )

    each : (k : ℕ) → k < length (block_at xs c) → get_or (block_at xs c) k 0 ≡ get_or (block_at ys c) k 0
    each k lt =
        let small : k < 4096 = omega (arith, length-take 4096 (drop (4096 * c) xs)) in
        get_or-take 4096 (drop (4096 * c) xs) k 0 small ∙ get_or-drop (4096 * c) xs k 0
        ∙ agree (4096 * c + k) (omega arith) (omega arith)
        ∙ sym (get_or-take 4096 (drop (4096 * c) ys) k 0 small ∙ get_or-drop (4096 * c) ys k 0)

-- ---- one block

-- every block but one has what it had, and begins with the same byte
pub record SameBut (b : ℕ) (old new : List ℕ) : Type 0 where
  pub same_length : length new ≡ length old
  pub blocks : (c : ℕ) → c ≢ b → block_at new c ≡ block_at old c
  pub firsts : (c : ℕ) → c ≢ b → get_or new (4096 * c) 0 ≡ get_or old (4096 * c) 0

pub same_but_torn : (b n : ℕ) (old new : List ℕ) → n ≤ 4096 → Torn (4096 * b) n old new → SameBut b old new
same_but_torn b n old new le torn = record {
  same_length = torn.same_length;
  blocks = λ c other. elim (cases_order c b) [
    | inl same ↦ absurd (other same)
    | inr (inl lt) ↦ same_block new old c torn.same_length (λ i low high. torn_before torn i (omega arith))
    | inr (inr gt) ↦ same_block new old c torn.same_length (λ i low high. torn_after torn i (omega arith))
  ];
  firsts = λ c other. elim (cases_order c b) [
    | inl same ↦ absurd (other same)
    | inr (inl lt) ↦ torn_before torn (4096 * c) (omega arith)
    | inr (inr gt) ↦ torn_after torn (4096 * c) (omega arith)
  ];
}

-- what is written is there
part_written : (at : ℕ) (bytes old : List ℕ) → at + length bytes ≤ length old
    → take (length bytes) (drop at (written old at bytes)) ≡ bytes
part_written at bytes old fits =
    let front : length (take at old) ≡ at = omega (arith, length-take at old) in
    ap (take (length bytes)) (ap (drop at) (append_assoc (take at old) bytes (drop (at + length bytes) old))
    ∙ drop_at (take at old) (bytes ++ drop (at + length bytes) old) at front)
    ∙ take_at bytes (drop (at + length bytes) old) (length bytes) refl

pub block-written : (b : ℕ) (bytes old : List ℕ) → length bytes ≡ 4096 → 4096 * b + 4096 ≤ length old
    → block_at (written old (4096 * b) bytes) b ≡ bytes
block-written b bytes old size fits =
    ap (λ n. take n (drop (4096 * b) (written old (4096 * b) bytes))) (sym size)
    ∙ part_written (4096 * b) bytes old (omega arith)

pub first-written : (b byte : ℕ) (old : List ℕ) → 4096 * b + 1 ≤ length old
    → get_or (written old (4096 * b) (byte ∷ [])) (4096 * b) 0 ≡ byte
first-written b byte old fits =
    let there = part_written (4096 * b) (byte ∷ []) old fits in
    let place : 4096 * b + 0 ≡ 4096 * b = omega arith in
    ap (λ k. get_or (written old (4096 * b) (byte ∷ [])) k 0) (sym place)
    ∙ sym (get_or-drop (4096 * b) (written old (4096 * b) (byte ∷ [])) 0 0)
    ∙ sym (get_or-take 1 (drop (4096 * b) (written old (4096 * b) (byte ∷ []))) 0 0 (omega arith))
    ∙ ap (λ (l : List ℕ). get_or l 0 0) there

-- a block within the bytes is whole
pub length-block_at : (bytes : List ℕ) (b : ℕ) → 4096 * b + 4096 ≤ length bytes → length (block_at bytes b) ≡ 4096
length-block_at bytes b fits = omega (arith, length-take 4096 (drop (4096 * b) bytes), length-drop (4096 * b) bytes)
