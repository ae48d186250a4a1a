-- What a crash leaves over several calls.
use Rattle.std.proofs.Common.{ℕ, List, inl, inr, ⊎_elim, arith}
use Rattle.device.specs.Device.{LeavesOnly}

-- Before any call there is what may be left now. `since_now` is the device's law for old, followed by what is known of
-- it.
pub leaves_at_start : {D : Type 0} {moment : D → ℕ} {left_since : D → ℕ → List ℕ → Type 0} {device : D}
    {P : List ℕ → Type 0} → ((c : List ℕ) → left_since device (moment device) c → P c)
    → LeavesOnly moment left_since device device P
leaves_at_start now = record {
  later = omega arith;
  each = now;
  before = λ t c le left. inl left;
  keeps = λ t c le left. left;
}

-- what has P has Q
pub leaves_weaker : {D : Type 0} {moment : D → ℕ} {left_since : D → ℕ → List ℕ → Type 0} {old new : D}
    {P Q : List ℕ → Type 0} → LeavesOnly moment left_since old new P → ((c : List ℕ) → P c → Q c)
    → LeavesOnly moment left_since old new Q
leaves_weaker leaves implies = record {
  later = leaves.later;
  each = λ c left. implies c (leaves.each c left);
  before = λ t c le left. ⊎_elim (λ was. inl was) (λ has. inr (implies c has)) (leaves.before t c le left);
  keeps = leaves.keeps;
}

-- one call after another, each of which leaves only lists that have P
pub leaves_then : {D : Type 0} {moment : D → ℕ} {left_since : D → ℕ → List ℕ → Type 0} {old mid new : D}
    {P : List ℕ → Type 0} → LeavesOnly moment left_since old mid P → LeavesOnly moment left_since mid new P
    → LeavesOnly moment left_since old new P
leaves_then {moment = moment} {old = old} first second = record {
  later = omega (arith, first.later, second.later);
  each = λ c left. ⊎_elim (λ was. first.each c was) (λ has. has) (second.before (moment old) c first.later left);
  before = λ t c le left. ⊎_elim (λ was. first.before t c le was) (λ has. inr has)
      (second.before t c (omega (arith, le, first.later)) left);
  keeps = λ t c le left. second.keeps t c (omega (arith, le, first.later)) (first.keeps t c le left);
}

-- a run that leaves only lists that have P goes on by a call that leaves only lists that have Q
pub leaves_on : {D : Type 0} {moment : D → ℕ} {left_since : D → ℕ → List ℕ → Type 0} {old mid new : D}
    {P Q : List ℕ → Type 0} → LeavesOnly moment left_since old mid P → LeavesOnly moment left_since mid new Q
    → ((c : List ℕ) → Q c → P c) → LeavesOnly moment left_since old new P
leaves_on first second implies = leaves_then first (leaves_weaker second implies)
