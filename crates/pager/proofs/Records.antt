-- The record that a step writes is one of the blocks that are kept.
use Rattle.std.proofs.Common.{◌≡◌, ℕ, zero, suc, Bool, true, false, List, [], ◌∷◌, length, map, drop, get_or, cond}
use Rattle.std.proofs.Common.{Option, Some, None, refl, ap, sym, ◌∙◌, subst, arith, inl, inr, eqb}
use Rattle.std.specs.List.{Contains}
use Rattle.std.specs.Option.{option_or, option_and_then}
use Rattle.std.proofs.lemmas.Bool.{cond-true, cond-false, cases_Bool, eq-eqb, ne_eqb, cases_eq}
use Rattle.journal.specs.WriteOut.{WriteOut, next_home}
use Rattle.journal.specs.WriteOuts.{WriteOutsValue, gives_way, moving, outs_moving, outs_home, shares_syncs}
use Rattle.kept_blocks.specs.Blocks.{Blocks, homes_in, bytes_in, newest_in}
use Rattle.pager.proofs.Stepping.{batch_homes}
use Rattle.pager.proofs.Outs.{home_there}

-- some bytes are found
abbrev pub IsFound : Option (List ℕ) → Type 0
IsFound o = (x : List ℕ) × (o ≡ Some x)

bytes_there : (blocks : Blocks) (home : ℕ) → Contains (homes_in blocks) home → IsFound (bytes_in blocks home)
bytes_there [] home there = absurd (omega (arith, there.1))
bytes_there (block ∷ blocks) home there = elim (cases_eq home block.0) [
  | inl same ↦ (block.1, cond-true (eqb home block.0) (Some block.1) (bytes_in blocks home) (eq-eqb home block.0 same))
  | inr other ↦
      (let rest = bytes_there blocks home (later there other) in (
        rest.0,
        cond-false (eqb home block.0) (Some block.1) (bytes_in blocks home) (ne_eqb home block.0 other)
            ∙ rest.1,
      ))
]
  where
    later : Contains (homes_in (block ∷ blocks)) home → (home ≡ block.0 → ⊥) → Contains (homes_in blocks) home
    later (zero, lt, is) other = absurd (other (sym is))
    later (suc k, lt, is) other = (k, omega (arith, lt), is)

or_found : (a b : Option (List ℕ)) → IsFound b → IsFound (option_or a b)
or_found None b found = found
or_found (Some x) b found = (x, refl)

first_found : (a b : Option (List ℕ)) → IsFound a → IsFound (option_or a b)
first_found a b found = (found.0, ap (λ o. option_or o b) found.1)

found_by : (shares : Bool) (batches : List WriteOut) (records : List Blocks)
    → batch_homes batches ≡ map homes_in records → (w : WriteOut) (home : ℕ) → moving shares batches ≡ Some w
    → next_home w ≡ Some home → IsFound (newest_in records home)
found_by shares [] records tied w home is at = absurd (cc)
found_by shares (x ∷ newer) [] tied w home is at = absurd (let none :
    suc (length (batch_homes newer)) ≡ 0 = ap length tied in omega (arith, none))
found_by shares (x ∷ newer) (r ∷ records) tied w home is at = elim (cases_Bool (gives_way shares x newer)) [
  | inl later ↦ first_found (newest_in records home) (bytes_in r home)
      (found_by shares newer records (ap (drop 1) tied) w home
      (sym (cond-true (gives_way shares x newer) (moving shares newer) (Some x) later) ∙ is) at)
  | inr first ↦
      (let same : x ≡ w = some_same x w
      (sym (cond-false (gives_way shares x newer) (moving shares newer) (Some x) first) ∙ is) in
      let own : x.batch.homes ≡ homes_in r = ap (λ (l : List (List ℕ)). get_or l 0 []) tied in
      let there = home_there x home (ap next_home same ∙ at) in
      or_found (newest_in records home) (bytes_in r home)
      (bytes_there r home (subst (λ (l : List ℕ). Contains l home) own there)))
]
  where
    some_same : (x y : WriteOut) → Some x ≡ Some y → x ≡ y
    some_same x y e = cc

-- the record that comes next is found
pub record_found : (outs : WriteOutsValue) (records : List Blocks) → batch_homes outs.batches ≡ map homes_in records
    → (home : ℕ) → outs_home outs ≡ Some home → IsFound (newest_in records home)
record_found outs records tied home e = by outs.broken (outs_moving outs) refl e
  where
    by : (b : Bool) (o : Option WriteOut) → outs_moving outs ≡ o → cond b None (option_and_then next_home o) ≡ Some home
        → IsFound (newest_in records home)
    by true o is e = absurd (cc)
    by false None is e = absurd (cc)
    by false (Some w) is e =
        found_by (shares_syncs outs.geometry.layout) outs.batches records tied w home is e

-- a block of a batch that isn't done is found
pub block_found : (batches : List WriteOut) (records : List Blocks) → batch_homes batches ≡ map homes_in records
    → (w : WriteOut) (home : ℕ) → Contains batches w → Contains w.batch.homes home → IsFound (newest_in records home)
block_found [] records tied w home there has = absurd (omega (arith, there.1))
block_found (x ∷ newer) [] tied w home there has = absurd (let none :
    suc (length (batch_homes newer)) ≡ 0 = ap length tied in omega (arith, none))
block_found (x ∷ newer) (r ∷ records) tied w home (zero, lt, is) has =
    let own : x.batch.homes ≡ homes_in r = ap (λ (l : List (List ℕ)). get_or l 0 []) tied in
    or_found (newest_in records home) (bytes_in r home)
    (bytes_there r home (subst (λ (l : List ℕ). Contains l home) (ap (λ (y : WriteOut). y.batch.homes) (sym is)
    ∙ own) has))
block_found (x ∷ newer) (r ∷ records) tied w home (suc k, lt, is) has =
    first_found (newest_in records home) (bytes_in r home)
    (block_found newer records (ap (drop 1) tied) w home (k, omega (arith, lt), is) has)

-- a home block that isn't one of these has no bytes among them
pub absent : (blocks : Blocks) (home : ℕ) → (Contains (homes_in blocks) home → ⊥) → bytes_in blocks home ≡ None
absent [] home none = refl
absent (block ∷ blocks) home none =
    let other : home ≡ block.0 → ⊥ = λ same. none (0, omega arith, sym same) in
    cond-false (eqb home block.0) (Some block.1) (bytes_in blocks home) (ne_eqb home block.0 other)
    ∙ absent blocks home (λ there. none (suc there.0, omega (arith, there.1), there.2))

-- what the newer lists have, all have
pub newest_rest : (records : List Blocks) (home : ℕ) (x : List ℕ) → newest_in (drop 1 records) home ≡ Some x
    → newest_in records home ≡ Some x
newest_rest [] home x e = e
newest_rest (r ∷ records) home x e = ap (λ o. option_or o (bytes_in r home)) e
