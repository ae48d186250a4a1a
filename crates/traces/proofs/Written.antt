-- What is written reads back.
use Rattle.std.proofs.Common.{◌≡◌, ℕ, ◌<◌, ◌≤◌, ◌^◌, ◌-◌, List, [], ◌∷◌, length, map, if◌then◌else◌}
use Rattle.std.proofs.Common.{Option, Some, None, refl, sym, ap, subst, ◌∙◌, suc, max, arith}
use Rattle.std.proofs.lemmas.Bool.{le-leb}
use Rattle.std.proofs.lemmas.List.{length-map}
use Rattle.serde_json.specs.Data.{string, depth, items_depth}
use Rattle.serde_json.specs.View.{view, items_of}
use Rattle.serde_json.specs.declared.value.Value.{Value}
use Rattle.mappings.specs.declared.place.Rights.{Rights}
use Rattle.machine.specs.declared.act.Act.TheVariants.{Map, Store}
use Rattle.scripts.specs.Acts.{map_of}
use Rattle.scripts.specs.Arguments.{if_some, whole_number, byte_of, short_of, long_of}
use Rattle.scripts.specs.Arguments.{prot_of, access_of, all_of, few_of, few_bytes_of}
use Rattle.scripts.specs.Script.{step_of}
use Rattle.scripts.proofs.AllOf.{list_of_items}
use Rattle.traces.specs.inside.Written.{num, bytes_data, map_data, store_data}

-- all values, where there is one each time
abbrev all_some : {B : Type 0} → List (Option B) → Option (List B)
all_some [] = Some []
all_some (o ∷ os) = if_some o (λ y. if_some (all_some os) (λ ys. Some (y ∷ ys)))

all_of-some : {V A B : Type 0} (f : A → Option B) (see : V → A) (vs : List V)
    → all_of f (map see vs) ≡ all_some (map (λ v. f (see v)) vs)
all_of-some f see [] = refl
all_of-some f see (v ∷ vs) =
    ap (λ rest. if_some (f (see v)) (λ y. if_some rest (λ ys. Some (y ∷ ys)))) (all_of-some f see vs)

all_some-map : (bytes : List ℕ) → all_some (map Some bytes) ≡ Some bytes
all_some-map [] = refl
all_some-map (b ∷ bytes) = ap (λ rest. if_some rest (λ ys. Some (b ∷ ys))) (all_some-map bytes)

-- at most eight bytes, as values each of which reads back
pub bytes_read : (items : List Value) (bytes : List ℕ) → map view items ≡ map num bytes
    → map (λ v. byte_of (view v)) items ≡ map Some bytes → length bytes ≤ 8
    → few_bytes_of (bytes_data bytes) ≡ Some bytes
bytes_read items bytes written reads few =
    ap few_of (list_of_items (map num bytes))
    ∙ ap (λ b. if b then all_of byte_of (map num bytes) else None)
    (le-leb (length (map num bytes)) 8 (omega (arith, few, length-map bytes num)))
    ∙ ap (all_of byte_of) (sym written) ∙ all_of-some byte_of view items ∙ ap all_some reads ∙ all_some-map bytes

-- numbers aren't nested
pub bytes_flat : (bytes : List ℕ) → items_depth (items_of (map num bytes)) ≡ 0
bytes_flat [] = refl
bytes_flat (b ∷ bytes) = rw (bytes_flat bytes) refl

-- one thing after the other
if_some_is : {A B : Type 0} (o : Option A) (x : A) (f : A → Option B) → o ≡ Some x → if_some o f ≡ f x
if_some_is o x f is = ap (λ found. if_some found f) is

number_reads : (most n : ℕ) → n ≤ most → whole_number most (num n) ≡ Some n
number_reads most n small = ap (λ b. if b then Some n else None) (le-leb n most small)

map_args : (space va len file offset : ℕ) (first second : List ℕ) (prot access : Rights) → space < 2 ^ 16 → va < 2 ^ 64
    → len < 2 ^ 64 → file < 2 ^ 16 → offset < 2 ^ 64 → prot_of (string first) ≡ Some prot
    → access_of (string second) ≡ Some access
    → map_of (num space ∷ num va ∷ num len ∷ num file ∷ num offset ∷ string first ∷ string second ∷ [])
    ≡ Some (Map space va len file offset prot access)
map_args space va len file offset first second prot access a b c d e prot_is access_is =
    if_some_is (short_of (num space)) space _ (number_reads 65535 space (omega (arith, a)))
    ∙ if_some_is (long_of (num va)) va _ (number_reads (2 ^ 64 - 1) va (omega (arith, b)))
    ∙ if_some_is (long_of (num len)) len _ (number_reads (2 ^ 64 - 1) len (omega (arith, c)))
    ∙ if_some_is (short_of (num file)) file _ (number_reads 65535 file (omega (arith, d)))
    ∙ if_some_is (long_of (num offset)) offset _ (number_reads (2 ^ 64 - 1) offset (omega (arith, e)))
    ∙ if_some_is (prot_of (string first)) prot _ prot_is
    ∙ if_some_is (access_of (string second)) access _ access_is

-- the step of a map reads back
pub map_reads : (p space va len file offset : ℕ) (first second : List ℕ) (prot access : Rights) → p < 2 ^ 8
    → space < 2 ^ 16 → va < 2 ^ 64 → len < 2 ^ 64 → file < 2 ^ 16 → offset < 2 ^ 64 → prot_of (string first) ≡ Some prot
    → access_of (string second) ≡ Some access
    → step_of (map_data p space va len file offset first second)
    ≡ Some (record { p = p; act = Map space va len file offset prot access })
map_reads p space va len file offset first second prot access small a b c d e prot_is access_is =
    if_some_is (byte_of (num p)) p _ (number_reads 255 p (omega (arith, small)))
    ∙ ap (λ act. if_some act (λ act. Some (record { p = p; act = act })))
    (map_args space va len file offset first second prot access a b c d e prot_is access_is)

-- the step of a store reads back
pub store_reads : (p va : ℕ) (bytes : List ℕ) → p < 2 ^ 8 → va < 2 ^ 64 → few_bytes_of (bytes_data bytes) ≡ Some bytes
    → step_of (store_data p va bytes) ≡ Some (record { p = p; act = Store va bytes })
store_reads p va bytes small a is =
    if_some_is (byte_of (num p)) p _ (number_reads 255 p (omega (arith, small)))
    ∙ ap (λ act. if_some act (λ act. Some (record { p = p; act = act }))) (if_some_is (long_of (num va)) va _
    (number_reads (2 ^ 64 - 1) va (omega (arith, a))) ∙ if_some_is (few_bytes_of (bytes_data bytes)) bytes _ is)

pub store_flat : (p va : ℕ) (bytes : List ℕ) → depth (store_data p va bytes) ≤ 2
store_flat p va bytes = subst (λ n. suc (max 0 (max 0 (max 0 (max (suc n) 0)))) ≤ 2)
    (sym (bytes_flat bytes)) (omega arith)
