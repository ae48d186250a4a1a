-- A range that is written over in pieces.
use Rattle.std.proofs.Common.{◌≡◌, ◌≤◌, ℕ, ◌+◌, List, ◌++◌, length, take, drop, refl, sym, ◌∙◌, ap}
use Rattle.std.proofs.Common.{arith, append_assoc, length-append, length-take, Result, Ok, Err, OnOk}
use Rattle.std.proofs.lemmas.List.{append-nil, drop-drop, take-append-drop, take_at}
use Rattle.std.proofs.lemmas.List.{take-replicate, length-replicate, replicate-append-replicate}
use Rattle.device.specs.Device.{written, TornFrom}
use Rattle.device.specs.Failing.{spoilt}
use Rattle.device.specs.inside.Spoiling.{WroteWithin}
use Rattle.device.proofs.Moments.{leaves_at_start, leaves_weaker, leaves_then}
use Rattle.device.proofs.Ranges.{drop-written, torn_none, torn_twice, torn_wider, torn_from_none}

-- one more write, of a part of the range
pub wrote_more : {D : Type 0} {seen : D → List ℕ} {may_leave : D → List ℕ → Type 0} {moment : D → ℕ}
    {left_since : D → ℕ → List ℕ → Type 0} {is_honest : D → Type 0} {carried : D → ℕ} {at len : ℕ} {old mid new : D}
    → WroteWithin seen may_leave moment left_since is_honest carried at len old mid → (from n : ℕ) → at ≤ from
    → from + n ≤ at + len → WroteWithin seen may_leave moment left_since is_honest carried from n mid new
    → WroteWithin seen may_leave moment left_since is_honest carried at len old new
wrote_more {may_leave = may_leave} {at = at} {len = len} {old = old} {mid = mid} so_far from n le end more =
    let wider : (c : List ℕ) → TornFrom from n (may_leave mid) c → TornFrom at len (may_leave old) c =
    λ c torn. let was = so_far.left torn.0 torn.1 in
    (was.0, was.1, torn_twice was.2 (torn_wider torn.2 at len le end)) in
    record {
      keeps = λ honest c may. more.keeps (so_far.honest.1 honest) c (so_far.keeps honest c may);
      torn = λ honest. torn_twice (so_far.torn honest) (torn_wider (more.torn (so_far.honest.1 honest)) at len le end);
      left = λ c left. wider c (more.left c left);
      time = leaves_then so_far.time (leaves_weaker more.time wider);
      honest = (λ h. so_far.honest.0 (more.honest.0 h), λ h. more.honest.1 (so_far.honest.1 h));
      same_length = more.same_length ∙ so_far.same_length;
      same_carried = more.same_carried ∙ so_far.same_carried;
    }

-- before any write
pub wrote_none : {D : Type 0} {seen : D → List ℕ} {may_leave : D → List ℕ → Type 0} {moment : D → ℕ}
    {left_since : D → ℕ → List ℕ → Type 0} {is_honest : D → Type 0} {carried : D → ℕ} (at len : ℕ) (device : D)
    → ((c : List ℕ) → left_since device (moment device) c → may_leave device c)
    → WroteWithin seen may_leave moment left_since is_honest carried at len device device
wrote_none {seen = seen} at len device since_now = record {
  torn = λ honest. torn_none at len (seen device);
  keeps = λ honest c may. may;
  left = λ c left. torn_from_none at len left;
  time = leaves_weaker (leaves_at_start since_now) (λ c left. torn_from_none at len left);
  honest = (λ h. h, λ h. h);
  same_length = refl;
  same_carried = refl;
}

pub length-spoilt : (n : ℕ) → length (spoilt n) ≡ n
unfolding spoilt
length-spoilt n = length-replicate n 0xEE

take-spoilt : (n m : ℕ) → n ≤ m → take n (spoilt m) ≡ spoilt n
unfolding spoilt
take-spoilt n m le = take-replicate n m 0xEE le

spoilt-append : (n m : ℕ) → spoilt n ++ spoilt m ≡ spoilt (n + m)
unfolding spoilt
spoilt-append n m = replicate-append-replicate n m 0xEE

pub written_none : (old : List ℕ) (at : ℕ) → written old at (spoilt 0) ≡ old
unfolding spoilt
written_none old at = ap (λ (l : List ℕ). l ++ drop (at + 0) old) (append-nil (take at old))
    ∙ ap (λ n. take at old ++ drop n old) (omega arith) ∙ take-append-drop at old

-- a write after another, at its end, is one write
written_on : (old : List ℕ) (at : ℕ) (xs ys : List ℕ) → at + length xs + length ys ≤ length old
    → written (written old at xs) (at + length xs) ys ≡ written old at (xs ++ ys)
written_on old at xs ys fits =
    let front : length (take at old ++ xs) ≡ at + length xs =
    omega (arith, length-append (take at old) xs, length-take at old) in
    let rest : drop (at + length xs + length ys) (written old at xs) ≡ drop (at + length (xs ++ ys)) old =
    ap (λ k. drop k (written old at xs)) (omega arith)
    ∙ sym (drop-drop (length ys) (at + length xs) (written old at xs))
    ∙ ap (drop (length ys)) (drop-written old at xs (omega arith)) ∙ drop-drop (length ys) (at + length xs) old
    ∙ ap (λ k. drop k old) (omega (arith, length-append xs ys)) in
    ap (λ (l : List ℕ). l ++ ys ++ drop (at + length xs + length ys) (written old at xs))
    (take_at (take at old ++ xs) (drop (at + length xs) old) (at + length xs) front)
    ∙ ap (λ (l : List ℕ). take at old ++ xs ++ ys ++ l) rest
    ∙ ap (λ (l : List ℕ). l ++ drop (at + length (xs ++ ys)) old) (append_assoc (take at old) xs ys)

-- one piece more of what is spoilt
pub spoilt_more : (old : List ℕ) (at done n : ℕ) → at + done + n ≤ length old
    → written (written old at (spoilt done)) (at + done) (spoilt n) ≡ written old at (spoilt (done + n))
spoilt_more old at done n fits =
    let long = length-spoilt done in
    ap (λ k. written (written old at (spoilt done)) (at + k) (spoilt n)) (sym long)
    ∙ written_on old at (spoilt done) (spoilt n) (omega (arith, fits, long, length-spoilt n))
    ∙ ap (λ (l : List ℕ). written old at l) (spoilt-append done n)

-- what a success says, of a part of what is spoilt
pub spoilt_part : {T E : Type 0} (result : Result T E) (at n m : ℕ) (part old new : List ℕ) → n ≤ m
    → part ≡ take n (spoilt m) → OnOk result (new ≡ written old at part) → OnOk result (new ≡ written old at (spoilt n))
spoilt_part (Ok x) at n m part old new le is done =
    done ∙ ap (λ (l : List ℕ). written old at l) (is ∙ take-spoilt n m le)
spoilt_part (Err e) at n m part old new le is done = tt
