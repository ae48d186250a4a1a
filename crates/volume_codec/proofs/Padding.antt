-- Zeros, and bytes padded by them.
use Rattle.std.proofs.Common.{◌≡◌, ℕ, ◌+◌, ◌-◌, ◌≤◌, List, [], ◌++◌, length, take}
use Rattle.std.proofs.Common.{drop, refl, sym, ap, ◌∙◌, arith, length-append}
use Rattle.std.proofs.lemmas.List.{length-replicate, replicate-append-replicate, take-replicate}
use Rattle.std.proofs.lemmas.List.{drop-replicate, take_at, drop_at, length-take, length-drop, drop-drop}
use Rattle.std.proofs.Math.Seq.{take-add}
use Rattle.std.proofs.lemmas.Slice.{take-put_mid, drop-put_mid}
use borrow.Rule.Slice.PartMut.{put_mid}
use Rattle.volume_codec.specs.Text.{zeros, padded}

pub length-zeros : (n : ℕ) → length (zeros n) ≡ n
unfolding zeros
length-zeros n = length-replicate n 0

pub zeros-append : (n m : ℕ) → zeros n ++ zeros m ≡ zeros (n + m)
unfolding zeros
zeros-append n m = replicate-append-replicate n m 0

pub take-zeros : (m n : ℕ) → m ≤ n → take m (zeros n) ≡ zeros m
unfolding zeros
take-zeros m n h = take-replicate m n 0 h

pub drop-zeros : (m n : ℕ) → drop m (zeros n) ≡ zeros (n - m)
unfolding zeros
drop-zeros m n = drop-replicate m n 0

pub zeros-nil : zeros 0 ≡ []
unfolding zeros
zeros-nil = refl

pub length-padded : (n : ℕ) (t : List ℕ) → length t ≤ n → length (padded n t) ≡ n
length-padded n t h = omega (arith, length-append t (zeros (n - length t)), length-zeros (n - length t))

-- what lies after n bytes, and the bytes up to there
pub drop-past : (p q : List ℕ) (n m : ℕ) → length p ≡ n → drop (n + m) (p ++ q) ≡ drop m q
drop-past p q n m h = sym (drop-drop m n (p ++ q)) ∙ ap (drop m) (drop_at p q n h)

pub take-past : (p q : List ℕ) (n m : ℕ) → length p ≡ n → take (n + m) (p ++ q) ≡ p ++ take m q
take-past p q n m h =
    take-add n m (p ++ q) ∙ ap (λ (r : List ℕ). r ++ take m (drop n (p ++ q))) (take_at p q n h)
    ∙ ap (λ (r : List ℕ). p ++ take m r) (drop_at p q n h)

-- what fits behind the bytes that were written fits into their block
pub room-left : (block written : List ℕ) (at n : ℕ) → at ≤ 4096 → length block ≡ 4096 → take at block ≡ written
    → length written + n ≤ 4096 → at + n ≤ 4096
room-left block written at n low whole is fits = omega (arith, ap length is, length-take at block)

-- a block whose bytes from this place on are written
pub length-pushed : (block bytes new : List ℕ) (at k : ℕ) → new ≡ bytes → k ≡ length bytes → at + length bytes ≤ 4096
    → length block ≡ 4096 → length (put_mid at k block new) ≡ 4096
length-pushed block bytes new at k e n h l =
    let same = ap length e in
    let front = length-take at block in
    let back = length-drop k (drop at block) in
    let rest = length-drop at block in
    let whole = length-append (take at block) (new ++ drop k (drop at block)) in
    let tail = length-append new (drop k (drop at block)) in
    omega arith

pub drop-pushed : (block bytes new : List ℕ) (at k : ℕ) → new ≡ bytes → k ≡ length bytes → at + length bytes ≤ 4096
    → length block ≡ 4096 → drop at block ≡ zeros (4096 - at)
    → drop (at + length bytes) (put_mid at k block new) ≡ zeros (4096 - (at + length bytes))
drop-pushed block bytes new at k e n h l z =
    let same = ap length e in
    drop-put_mid at k block new (at + length bytes) (omega arith) (omega arith) (omega arith)
    ∙ sym (drop-drop (length bytes) at block)
    ∙ ap (drop (length bytes)) z ∙ drop-zeros (length bytes) (4096 - at) ∙ ap zeros (omega arith)

pub take-pushed : (block bytes new : List ℕ) (at k : ℕ) → new ≡ bytes → k ≡ length bytes → at + length bytes ≤ 4096
    → length block ≡ 4096
    → take (at + length bytes) (put_mid at k block new) ≡ take at block ++ bytes
take-pushed block bytes new at k e n h l =
    let same = ap length e in
    take-put_mid at k block new (at + length bytes) (omega arith) (omega arith) ∙ ap (λ r. take at block ++ r) e

-- a block of which more is left zero
pub drop-skipped : (block : List ℕ) (at n : ℕ) → drop at block ≡ zeros (4096 - at)
    → drop (at + n) block ≡ zeros (4096 - (at + n))
drop-skipped block at n z =
    sym (drop-drop n at block) ∙ ap (drop n) z ∙ drop-zeros n (4096 - at) ∙ ap zeros (omega arith)

pub take-skipped : (block : List ℕ) (at n : ℕ) → at + n ≤ 4096 → drop at block ≡ zeros (4096 - at)
    → take (at + n) block ≡ take at block ++ zeros n
take-skipped block at n h z =
    take-add at n block ∙ ap (λ r. take at block ++ r) (ap (take n) z ∙ take-zeros n (4096 - at) (omega arith))
