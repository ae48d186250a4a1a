-- Each block stays whole.
use Rattle.std.proofs.Common.{◌≡◌, ℕ, ◌≤◌, Bool, true, false, List, [], ◌∷◌, length, take, eqb, ltb, arith, cond}
use Rattle.std.specs.Prelude.{if◌then◌else◌, nat_lt, nat_le, ◌||◌}
use Rattle.std.proofs.lemmas.List.{length-take}
use Rattle.volume_codec.proofs.Public.{length-padded}
use Rattle.kept_blocks.specs.Blocks.{Blocks, AreWholeBlocks, with_home, without_run, cut_in, cut_to}

whole_step : (e : ℕ × List ℕ) (es : Blocks) (k : ℕ) (v : List ℕ) (less same : Bool) → length v ≡ 4096
    → AreWholeBlocks (e ∷ es) → AreWholeBlocks (with_home es k v)
    → AreWholeBlocks (if less then (k, v) ∷ e ∷ es else (if same then (k, v) ∷ es else e ∷ with_home es k v))
whole_step e es k v true same size is rest = (size, is)
whole_step e es k v false true size is rest = (size, is.1)
whole_step e es k v false false size is rest = (is.0, rest)

pub whole_with : (es : Blocks) (k : ℕ) (v : List ℕ) → length v ≡ 4096 → AreWholeBlocks es
    → AreWholeBlocks (with_home es k v)
whole_with [] k v size is = (size, tt)
whole_with (e ∷ es) k v size is =
    whole_step e es k v (ltb k e.0) (eqb k e.0) size is (whole_with es k v size is.1)

pub whole_without : (es : Blocks) (low high : ℕ) → AreWholeBlocks es → AreWholeBlocks (without_run es low high)
whole_without [] low high is = tt
whole_without (e ∷ es) low high is = by (nat_lt e.0 low || nat_le high e.0) (whole_without es low high is.1)
  where
    by : (kept : Bool) → AreWholeBlocks (without_run es low high)
        → AreWholeBlocks (cond kept (e ∷ without_run es low high) (without_run es low high))
    by true rest = (is.0, rest)
    by false rest = rest

length_cut_to : (n : ℕ) (v : List ℕ) → length v ≡ 4096 → length (cut_to n v) ≡ 4096
length_cut_to n v size =
    let short : length (take n v) ≤ 4096 = omega (arith, length-take n v, size) in
    length-padded 4096 (take n v) short

pub whole_cut : (es : Blocks) (home n : ℕ) → AreWholeBlocks es → AreWholeBlocks (cut_in es home n)
whole_cut [] home n is = tt
whole_cut (e ∷ es) home n is = (by (eqb e.0 home), whole_cut es home n is.1)
  where
    by : (same : Bool) → length (if same then cut_to n e.1 else e.1) ≡ 4096
    by true = length_cut_to n e.1 is.0
    by false = is.0
