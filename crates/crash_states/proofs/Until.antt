-- The calls of a run up to the one that fails.
use Rattle.std.proofs.Common.{◌≡◌, ℕ, zero, suc, ◌+◌, ◌<◌, ◌≤◌, List, [], ◌∷◌, ◌++◌, length, take, get_or}
use Rattle.std.proofs.Common.{refl, sym, ap, ◌∙◌, arith, min}
use Rattle.std.specs.Prelude.{if◌then◌else◌, nat_lt, ◌==◌}
use Rattle.std.proofs.lemmas.Bool.Decides.{nat_tests}
use Rattle.std.proofs.lemmas.List.{take_more, length-map}
use Rattle.crash_states.specs.declared.call.Call.{Call}
use Rattle.crash_states.specs.Calls.{DeviceCall, call_of, device_calls_of, failing, calls_until}

pub length_until : (calls : List DeviceCall) (fails : ℕ) → length (calls_until calls fails)
    ≡ (if nat_lt 0 fails then min (length calls) fails else length calls)
length_until [] zero = refl
length_until [] (suc fails) = grind (arith, nat_tests)
length_until (call ∷ calls) zero = refl
length_until (call ∷ calls) (suc zero) = grind (arith, nat_tests)
length_until (call ∷ calls) (suc (suc fails)) =
    let e : length (calls_until calls (suc fails)) ≡ min (length calls) (suc fails) =
    length_until calls (suc fails) ∙ some (length calls) fails in
    omega (arith, e, some (suc (length calls)) (suc fails))
  where
    some : (all fails : ℕ) → (if nat_lt 0 (suc fails) then min all (suc fails) else all) ≡ min all (suc fails)
    some all fails = grind (arith, nat_tests)

abbrev pub expected : ℕ → ℕ → DeviceCall → DeviceCall
expected i fails call = if i + 1 == fails then failing call else call

at_until : (calls : List DeviceCall) (fails i : ℕ) (d : DeviceCall) → i < length (calls_until calls fails)
    → get_or (calls_until calls fails) i d ≡ expected i fails (get_or calls i d)
at_until [] fails i d less = absurd (omega (arith, less))
at_until (call ∷ calls) zero zero d less = refl
at_until (call ∷ calls) zero (suc i) d less = grind (arith, nat_tests)
at_until (call ∷ calls) (suc zero) zero d less = refl
at_until (call ∷ calls) (suc zero) (suc i) d less = absurd (omega (arith, less))
at_until (call ∷ calls) (suc (suc fails)) zero d less = grind (arith, nat_tests)
at_until (call ∷ calls) (suc (suc fails)) (suc i) d less =
    at_until calls (suc fails) i d (omega (arith, less)) ∙ further (get_or calls i d)
  where
    further : (k : DeviceCall) → expected i (suc fails) k ≡ expected (suc i) (suc (suc fails)) k
    further k = grind (arith, nat_tests)

at_map : {A : Type 0} (calls : List (Call A)) (i : ℕ) (call d : Call A) → i < length calls
    → call ≡ get_or calls i d → get_or (device_calls_of calls) i (call_of d) ≡ call_of call
at_map [] i call d less is = absurd (omega (arith, less))
at_map (first ∷ calls) zero call d less is = ap call_of (sym is)
at_map (first ∷ calls) (suc i) call d less is = at_map calls i call d (omega (arith, less)) is

-- the calls at an index, where as many were made as are to be
module _ {A : Type 0} (made calls : List (Call A)) (fails i : ℕ) (this that : Call A) (less : i < length made)
    (below : i < length calls) (this_is : this ≡ get_or made i this) (that_is : that ≡ get_or calls i that)
    (long : length (device_calls_of made) ≡ length (calls_until (device_calls_of calls) fails))
    (same_length : length (device_calls_of made) ≡ length made) where
  in_made : get_or (device_calls_of made) i (call_of that) ≡ call_of this
  in_made = at_map made i this that less (this_is ∙ get_or_same made i this that less)
    where
      get_or_same : {X : Type 0} (xs : List X) (i : ℕ) (x y : X) → i < length xs → get_or xs i x ≡ get_or xs i y
      get_or_same [] i x y less = absurd (omega (arith, less))
      get_or_same (z ∷ xs) zero x y less = refl
      get_or_same (z ∷ xs) (suc i) x y less = get_or_same xs i x y (omega (arith, less))

  in_calls : get_or (calls_until (device_calls_of calls) fails) i (call_of that) ≡ expected i fails (call_of that)
  in_calls = at_until (device_calls_of calls) fails i (call_of that) (omega (arith, long, same_length, less))
      ∙ ap (expected i fails) (at_map calls i that that below that_is)

  pub same_next : call_of this ≡ expected i fails (call_of that)
      → take i (device_calls_of made) ≡ take i (calls_until (device_calls_of calls) fails)
      → take (i + 1) (device_calls_of made) ≡ take (i + 1) (calls_until (device_calls_of calls) fails)
  same_next same earlier =
      take_more (device_calls_of made) i (call_of that) (omega (arith, same_length, less))
      ∙ ap (λ (k : DeviceCall). take i (device_calls_of made) ++ k ∷ []) (in_made ∙ same ∙ sym in_calls)
      ∙ ap (λ (l : List DeviceCall). l ++ get_or (calls_until (device_calls_of calls) fails) i (call_of that) ∷ [])
      earlier
      ∙ sym (take_more (calls_until (device_calls_of calls) fails) i (call_of that)
      (omega (arith, long, same_length, less)))

  pub same_here : device_calls_of made ≡ calls_until (device_calls_of calls) fails
      → call_of this ≡ expected i fails (call_of that)
  same_here all =
      sym in_made ∙ ap (λ (l : List DeviceCall). get_or l i (call_of that)) all ∙ in_calls

-- how many they are
pub count_within : (all fails : ℕ) → (if nat_lt 0 fails then min all fails else all) ≤ all
count_within all zero = omega arith
count_within all (suc fails) = grind (arith, nat_tests)

pub as_long : {A : Type 0} (made calls : List (Call A)) (fails : ℕ)
    → length made ≡ (if nat_lt 0 fails then min (length calls) fails else length calls)
    → length (device_calls_of made) ≡ length (calls_until (device_calls_of calls) fails)
as_long {A} made calls fails count =
    length-map made (λ (c : Call A). call_of c) ∙ count
    ∙ ap (λ (n : ℕ). if nat_lt 0 fails then min n fails else n) (sym (length-map calls (λ (c : Call A). call_of c)))
    ∙ sym (length_until (device_calls_of calls) fails)

pub other_length : {A : Type 0} (made calls : List (Call A)) (fails : ℕ)
    → device_calls_of made ≡ calls_until (device_calls_of calls) fails
    → length made ≡ (if nat_lt 0 fails then min (length calls) fails else length calls)
other_length {A} made calls fails same =
    sym (length-map made (λ (c : Call A). call_of c)) ∙ ap length same
    ∙ length_until (device_calls_of calls) fails
    ∙ ap (λ (n : ℕ). if nat_lt 0 fails then min n fails else n) (length-map calls (λ (c : Call A). call_of c))
