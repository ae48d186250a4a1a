-- Reading a start that was spelled gives it back.
use Rattle.std.proofs.Common.{◌≡◌, ℕ, ◌-◌, ◌^◌, ◌≤◌, List, ◌++◌, length, drop, sym, ap, ◌∙◌, arith, append_assoc}
use Rattle.std.proofs.lemmas.List.{drop_at}
use Rattle.volume_codec.specs.Text.{number_text, number_in, zeros}
use Rattle.volume_codec.proofs.Public.{length-number_text}
use Rattle.volume_codec.proofs.Padding.{drop-past}
use Rattle.volume_codec.proofs.Functional.{number_in-text}
use Rattle.log_codec.specs.declared.start.LogStart.{LogStart}
use Rattle.log_codec.specs.Start.{IsStartBlock}

group_start : (a b c d : List ℕ) → a ++ b ++ c ++ d ≡ a ++ (b ++ (c ++ d))
group_start a b c d = simp append_assoc

-- what the fields of a start read as
pub record StartReadsAs (s : LogStart) (block : List ℕ) : Type 0 where
  pub number : number_in 8 block ≡ s.number
  pub epoch : number_in 8 (drop 8 block) ≡ s.epoch
  pub position : number_in 4 (drop 16 block) ≡ s.position

pub reads_start : (ring : ℕ) (s : LogStart) (block : List ℕ) → ring ≤ 2 ^ 24 → IsStartBlock ring s block
    → StartReadsAs s block
reads_start ring s block few is =
    let a : List ℕ = number_text 8 s.number in
    let b : List ℕ = number_text 8 s.epoch in
    let c : List ℕ = number_text 4 s.position in
    let rest : List ℕ = zeros (4096 - length (a ++ b ++ c)) in
    let e : block ≡ a ++ (b ++ (c ++ rest)) = is.spelled ∙ group_start a b c rest in
    let la = length-number_text 8 s.number in
    let lb = length-number_text 8 s.epoch in
    record {
      number = ap (number_in 8) e ∙ number_in-text 8 s.number (b ++ (c ++ rest)) (omega (arith, is.start.small_number));
      epoch = ap (λ (l : List ℕ). number_in 8 (drop 8 l)) e
          ∙ ap (number_in 8) (drop_at a (b ++ (c ++ rest)) 8 la)
          ∙ number_in-text 8 s.epoch (c ++ rest) (omega (arith, is.start.small_epoch));
      position = ap (λ (l : List ℕ). number_in 4 (drop 16 l)) e
          ∙ ap (number_in 4) (drop-past a (b ++ (c ++ rest)) 8 8 la ∙ drop_at b (c ++ rest) 8 lb)
          ∙ number_in-text 4 s.position rest (omega (arith, is.start.within));
    }

-- the start that a block reads as is the one that it says
pub read_start_value : (ring : ℕ) (s : LogStart) (block : List ℕ) (position number epoch : ℕ) → ring ≤ 2 ^ 24
    → IsStartBlock ring s block → position ≡ number_in 4 (drop 16 block) → number ≡ number_in 8 block
    → epoch ≡ number_in 8 (drop 8 block)
    → (let w : LogStart = record { position = position; number = number; epoch = epoch } in w) ≡ s
read_start_value ring s block position number epoch few is placed numbered dated =
    let r = reads_start ring s block few is in
    ap (λ (n : ℕ). let w : LogStart = record { position = n; number = number; epoch = epoch } in w)
    (placed ∙ r.position)
    ∙ ap (λ (n : ℕ). let w : LogStart = record { position = s.position; number = n; epoch = epoch } in w)
    (numbered ∙ r.number)
    ∙ ap (λ (n : ℕ). let w : LogStart = record { position = s.position; number = s.number; epoch = n } in w)
    (dated ∙ r.epoch)

-- a block says at most one start
pub one_start_of : (ring : ℕ) (s t : LogStart) (block : List ℕ) → ring ≤ 2 ^ 24 → IsStartBlock ring s block
    → IsStartBlock ring t block → s ≡ t
one_start_of ring s t block few is other =
    let r = reads_start ring s block few is in
    read_start_value ring t block s.position s.number s.epoch few other (sym r.position) (sym r.number) (sym r.epoch)
