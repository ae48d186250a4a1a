-- What erasing a range piece by piece leaves.
use Rattle.std.proofs.Common.{◌≡◌, ◌≢◌, ◌≤◌, inl, inr, ℕ, zero, suc, ◌+◌, ◌-◌, ◌*◌, List}
use Rattle.std.proofs.Common.{[], ◌∷◌, length, take, get_or, refl, sym, ◌∙◌, ap, arith}
use Rattle.std.proofs.lemmas.Bool.{cases_lt, cases_eq}
use Rattle.device.specs.Device.{written, Torn, TornFrom}
use Rattle.device.proofs.Ranges.{length-written, written_before, written_within, written_after, torn_twice, torn_wider}
use Rattle.volume_codec.specs.Layout.{gate_block}
use Rattle.volume_codec.specs.Text.{zeros}
use Rattle.volume_codec.proofs.Padding.{length-zeros, take-zeros}
use Rattle.recovery.specs.inside.Erasing.{IsErased, AreClosed}

-- each byte of zeros is 0
pub get_or-zeros : (n k : ℕ) → get_or (zeros n) k 0 ≡ 0
unfolding zeros
get_or-zeros zero k = refl
get_or-zeros (suc n) zero = refl
get_or-zeros (suc n) (suc k) = get_or-zeros n k

-- one piece more
pub erase_more : (from at n most : ℕ) (old mid new piece : List ℕ) → IsErased from at old mid → from ≤ at → n ≤ most
    → at + n ≤ length old → piece ≡ zeros most → new ≡ written mid at (take n piece)
    → IsErased from (at + n) old new
erase_more from at n most old mid new piece erased order few room blank is =
    by (ap (take n) blank ∙ take-zeros n most few)
  where
    by : take n piece ≡ zeros n → IsErased from (at + n) old new
    by same =
        let text : new ≡ written mid at (zeros n) = is ∙ ap (λ (bytes : List ℕ). written mid at bytes) same in
        let size = length-zeros n in
        let fits : at + length (zeros n) ≤ length mid = omega (arith, size, erased.same_length) in
        let byte : (i : ℕ) → get_or new i 0 ≡ get_or (written mid at (zeros n)) i 0 =
        λ i. ap (λ (bytes : List ℕ). get_or bytes i 0) text in
        record {
          same_length = ap length text ∙ length-written mid at (zeros n) fits ∙ erased.same_length;
          zero = λ i low high. elim (cases_lt i at) [
            | inl before ↦ byte i ∙ written_before mid at (zeros n) i fits before ∙ erased.zero i low before
            | inr from_at ↦ byte i ∙ written_within mid at (zeros n) i fits from_at (omega (arith, size))
                ∙ get_or-zeros n (i - at)
          ];
          others = λ i out. elim out [
            | inl before ↦ byte i ∙ written_before mid at (zeros n) i fits (omega arith) ∙ erased.others i (inl before)
            | inr after ↦ byte i ∙ written_after mid at (zeros n) i fits (omega (arith, size))
                ∙ erased.others i (inr (omega arith))
          ];
        }

-- nothing else changed, also where a piece was torn
pub torn_more : {old mid new : List ℕ} (from at n to : ℕ) → from ≤ at → Torn from (at - from) old mid
    → Torn at n mid new → at + n ≤ to → Torn from (to - from) old new
torn_more from at n to order first more fits = torn_twice (torn_wider first from (to - from) (omega arith)
    (omega arith)) (torn_wider more from (to - from) order (omega arith))

-- nor may a crash leave other bytes elsewhere
pub left_more : {lists mid : List ℕ → Type 0} (from size at n : ℕ) → ((c : List ℕ) → mid c → TornFrom from size lists c)
    → from ≤ at → at + n ≤ from + size → (c : List ℕ) → TornFrom at n mid c → TornFrom from size lists c
left_more from size at n left order fits c torn =
    let was = left torn.0 torn.1 in
    (was.0, was.1, torn_twice was.2 (torn_wider torn.2 from size order fits))

-- one gate more
pub close_more : (slots n at gate byte : ℕ) (old mid new : List ℕ) → AreClosed slots n old mid
    → gate ≡ gate_block slots n → at ≡ 4096 * gate → byte ≡ 0 → at + 1 ≤ length old → new ≡ written mid at (byte ∷ [])
    → AreClosed slots (n + 1) old new
close_more slots n at gate byte old mid new closed place there blank room is =
    let fits : at + 1 ≤ length mid = omega (arith, closed.same_length) in
    let here : at ≡ 4096 * gate_block slots n = there ∙ ap (λ b. 4096 * b) place in
    let other : (i : ℕ) → i ≢ at → get_or new i 0 ≡ get_or mid i 0 =
    λ i apart. ap (λ (bytes : List ℕ). get_or bytes i 0) is ∙ elim (cases_lt i at) [
      | inl before ↦ written_before mid at (byte ∷ []) i fits before
      | inr after ↦ written_after mid at (byte ∷ []) i fits (omega arith)
    ] in
    let first : at - at ≡ 0 = omega arith in
    let shut : get_or new at 0 ≡ 0 = ap (λ (bytes : List ℕ). get_or bytes at 0) is ∙ written_within mid at
    (byte ∷ []) at fits (omega arith) (omega arith) ∙ ap (λ k. get_or (byte ∷ []) k 0) first ∙ blank in
    record {
      same_length = ap length is ∙ length-written mid at (byte ∷ []) fits ∙ closed.same_length;
      gates = λ j h. elim (cases_eq (4096 * gate_block slots j) at) [
        | inl same ↦ ap (λ k. get_or new k 0) same ∙ shut
        | inr apart ↦ other (4096 * gate_block slots j) apart ∙ closed.gates j (elim (cases_eq j n) [
          | inl last ↦ absurd (apart (ap (λ k. 4096 * gate_block slots k) last ∙ sym here))
          | inr before ↦ omega arith
        ])
      ];
      others = λ i out. other i (λ same. out n (omega arith) (same ∙ here))
          ∙ closed.others i (λ j h. out j (omega arith));
    }
