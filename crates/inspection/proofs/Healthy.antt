-- Whether a journal is o, by what the journals say and by the batches of a volume.
use Rattle.std.proofs.Common.{◌≡◌, ℕ, suc, ◌+◌, ◌<◌, ◌≤◌, Bool, true, false, ◌||◌, List, [], ◌∷◌, length}
use Rattle.std.proofs.Common.{Option, Some, None, MatchOption, is_some, refl, ◌∙◌, ap, subst, arith, inl, inr}
use Rattle.std.specs.List.{list_any}
use Rattle.std.proofs.lemmas.Bool.{cases_eq}
use Rattle.volume_codec.specs.Layout.{GeometryValue}
use Rattle.volume_codec.specs.Super.{geometry_of}
use Rattle.volume_codec.specs.Recovery.{Batch, IsOpen, IsVolume}
use Rattle.inspection.specs.declared.found.Journal.{Journal}
use Rattle.inspection.specs.declared.found.Found.{Found}
use Rattle.inspection.specs.Found.{AreFrom, IsFound}
use Rattle.inspection.specs.Health.{IsHealth}
use Rattle.inspection.specs.inside.Health.{is_open, health_by}

or_true : (a b : Bool) → b ≡ true → a || b ≡ true
or_true true b e = refl
or_true false b e = e

some_open : {X : Type 0} (Q : X → Type 0) (P : Type 0) (found : Option X) → MatchOption found (¬ P) Q → P
    → is_some found ≡ true
some_open Q P None by p = absurd (by p)
some_open Q P (Some x) by p = refl

none_open : {X : Type 0} (P : Type 0) (Q : X → Type 0) (found : Option X) → MatchOption found (¬ P) (λ x. P × Q x) → ¬ P
    → is_some found ≡ false
none_open P Q None by closed = refl
none_open P Q (Some x) by closed = absurd (closed by.0)

-- journal k is among these
pub any_open : {Z : Type 0} (g : GeometryValue) (bytes : List ℕ) (j k : ℕ) (journals : List (Journal Z))
    → AreFrom g bytes j journals → j ≤ k → k < j + length journals → IsOpen bytes g.slots k
    → list_any is_open journals ≡ true
any_open g bytes j k [] are low high o = absurd (omega arith)
any_open {Z} g bytes j k (journal ∷ journals) are low high o = elim (cases_eq k j) [
  | inl same ↦
      let P : ℕ → Type 0 = λ n. IsOpen bytes g.slots n in
      let here : is_some journal.descriptor ≡ true =
      some_open _ (IsOpen bytes g.slots j) journal.descriptor are.0.descriptor (subst P same o) in
      ap (λ b. b || list_any is_open journals) here
  | inr other ↦ or_true (is_some journal.descriptor) (list_any is_open journals)
      (any_open g bytes (suc j) k journals are.1 (omega arith) (omega arith) o)
]

-- none of these is o
pub all_closed : {Z : Type 0} (g : GeometryValue) (bytes : List ℕ) (j : ℕ) (journals : List (Journal Z))
    → AreFrom g bytes j journals → ((k : ℕ) → k < j + length journals → ¬ (IsOpen bytes g.slots k))
    → list_any is_open journals ≡ false
all_closed g bytes j [] are closed = refl
all_closed g bytes j (journal ∷ journals) are closed =
    let here : is_some journal.descriptor ≡ false =
    none_open (IsOpen bytes g.slots j) _ journal.descriptor are.0.descriptor (closed j (omega arith)) in
    let rest = all_closed g bytes (suc j) journals are.1 (λ k below. closed k (omega arith)) in
    ap (λ b. b || list_any is_open journals) here ∙ rest

-- how a volume is of which this was found
pub health_of_found : {Z : Type 0} (bytes : List ℕ) (found : Found Z) → IsFound bytes found
    → IsHealth bytes (health_by (list_any is_open found.journals.items))
health_of_found {Z} bytes found is = derived is.batches is.volume
  where
    derived : (batches : List Batch) → IsVolume found.table batches bytes
        → IsHealth bytes (health_by (list_any is_open found.journals.items))
    derived [] volume =
        let none : list_any is_open found.journals.items ≡ false =
        all_closed (geometry_of found.table) bytes 0 found.journals.items is.journals.1 (λ k below o.
        let no : false ≡ true = volume.journals.all k (omega (arith, is.journals.0)) o in cc) in
        rw none (record { table = found.table; volume = volume; files = _; recovers = is.files })
    derived (newest ∷ older) volume =
        let o = volume.journals.each.0 in
        let some : list_any is_open found.journals.items ≡ true =
        any_open (geometry_of found.table) bytes 0 newest.journal found.journals.items is.journals.1 (omega arith)
        (omega (arith, is.journals.0, o.there)) o.gate in
        rw some (newest, older, record { table = found.table; volume = volume; files = _; recovers = is.files })
