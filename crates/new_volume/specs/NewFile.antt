-- A file that writes to another file, whose bytes were all 0 before.
use Rattle.std.specs.Prelude.{◌≡◌, ℕ, ◌<◌, ◌≤◌, List, length, slice_index, refl}
use Rattle.std.specs.Coded.{Coded, code_by, coded×, coded_ℕ}

-- The inner file, a lower bound of its length, and the offset from which on nothing was written yet.
pub record NewValue (F : Type 0) : Type 0 where
  pub inner : F
  pub size : ℕ
  pub end : ℕ

-- There are at least `size` bytes, and those from `end` up to `size` are 0.
pub record IsBlankFrom (end size : ℕ) (bytes : List ℕ) : Type 0 where
  pub long : size ≤ length bytes
  pub zero : (i : ℕ) → end ≤ i → i < size → slice_index bytes i ≡ 0

-- the code by which a proof distinguishes such files
abbrev pub new_code : {F : Type 0} → Coded F → Coded (NewValue F)
new_code {F} inner =
    code_by (F × (ℕ × ℕ)) (coded× inner (coded× coded_ℕ coded_ℕ)) (λ f. (f.inner, (f.size, f.end)))
    (λ p. record { inner = p.0; size = p.1.0; end = p.1.1 }) (λ _. refl)
