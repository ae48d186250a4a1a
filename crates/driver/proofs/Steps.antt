-- Steps of a script that processors made, one after the other.
use Rattle.std.proofs.Common.{ℕ, suc, ◌≡◌, ◌≢◌, ◌+◌, ◌<◌, ◌≤◌, ◌==◌, ◌∙◌, Bool}
use Rattle.std.proofs.Common.{true, false, List, [], ◌∷◌, ◌++◌, Some, map, take, drop, length}
use Rattle.std.proofs.Common.{length-append, length-set, set, get_or, refl, sym, ap, subst, arith}
use Rattle.std.proofs.lemmas.Bool.Decides.{nat_tests}
use Rattle.std.proofs.lemmas.List.{map-append, append-nil, take-append-drop, get_or-set_same, get_or-set_other}
use Rattle.std.proofs.lemmas.List.Elements.{filter_more, filter-append}
use Rattle.std.proofs.lemmas.List.Sums.{sum_by-cons, sum_by-set}
use Rattle.std.proofs.lemmas.Option.{slice_get_within, slice_get-get_or, get_or_from_slice_get}
use Rattle.std.specs.Prelude.{filter, cond, slice_get}
use Rattle.machine.specs.declared.act.Act.{Act}
use Rattle.machine.specs.declared.act.Reply.{Reply}
use Rattle.machine.specs.declared.act.Step.{Step}
use Rattle.service.specs.Gathering.{CpuState, idle_cpu, answered_calls}
use Rattle.driver.specs.Driver.{acts_of}
use Rattle.driver.specs.inside.Begun.{HasMade, HaveMade, HaveBegun}
use Rattle.driver.proofs.Runs.{one_value}

-- the acts of what was answered
abbrev pub firsts : List (Act × Reply) → List Act
firsts answered = map (λ (a : Act × Reply). a.0) answered

-- a step's act, if the test of its processor holds
abbrev act_if : Step → Bool → List Act
act_if s b = map (λ (x : Step). x.act) (cond b (s ∷ []) [])

same_number : (n : ℕ) → (n == n) ≡ true
same_number n = grind (arith, nat_tests)

other_number : (n m : ℕ) → n ≢ m → (n == m) ≡ false
other_number n m other = grind (arith, nat_tests)

acts_more : (p : ℕ) (steps : List Step) (i : ℕ) (s : Step) → i < length steps → s ≡ get_or steps i s
    → acts_of p (take (i + 1) steps) ≡ acts_of p (take i steps) ++ act_if s (s.p == p)
acts_more p steps i s within is =
    let act : Step → Act = λ x. x.act in
    let test : Step → Bool = λ x. x.p == p in
    let Last : Step → List Step = λ x. cond (test x) (x ∷ []) [] in
    ap (λ (l : List Step). map act l) (filter_more test steps i s within)
    ∙ map-append act (filter test (take i steps)) (Last (get_or steps i s))
    ∙ ap (λ (x : Step). map act (filter test (take i steps)) ++ map act (Last x)) (sym is)

-- one more act of the processor that makes a step, and none of the others
acts_of_it : (steps : List Step) (i : ℕ) (s : Step) → i < length steps → s ≡ get_or steps i s
    → acts_of s.p (take (i + 1) steps) ≡ acts_of s.p (take i steps) ++ s.act ∷ []
acts_of_it steps i s within is =
    acts_more s.p steps i s within is
    ∙ ap (λ (b : Bool). acts_of s.p (take i steps) ++ act_if s b) (same_number s.p)

acts_of_others : (p : ℕ) (steps : List Step) (i : ℕ) (s : Step) → i < length steps → s ≡ get_or steps i s
    → s.p ≢ p → acts_of p (take (i + 1) steps) ≡ acts_of p (take i steps)
acts_of_others p steps i s within is other =
    acts_more p steps i s within is
    ∙ ap (λ (b : Bool). acts_of p (take i steps) ++ act_if s b) (other_number s.p p other)
    ∙ append-nil (acts_of p (take i steps))

pub none_made : (cpus : List CpuState) → ((i : ℕ) → i < length cpus → slice_get cpus i ≡ Some (idle_cpu i))
    → HaveMade [] cpus
none_made cpus idle = record { each = each }
  where
    each : (i : ℕ) (cpu : CpuState) → slice_get cpus i ≡ Some cpu → HasMade [] i cpu
    each i cpu at =
        let is_idle = idle i (slice_get_within cpus i cpu at) in
        let is : idle_cpu i ≡ cpu = one_value (slice_get cpus i) (idle_cpu i) cpu is_idle at in
        subst (λ (c : CpuState). HasMade [] i c) is (refl, refl)

-- one more step, by a processor that isn't there
pub step_left_out : (steps : List Step) (i : ℕ) (s : Step) (cpus : List CpuState) → i < length steps
    → s ≡ get_or steps i s → length cpus ≤ s.p → HaveMade (take i steps) cpus → HaveMade (take (i + 1) steps) cpus
step_left_out steps i s cpus within is past made = record { each = each }
  where
    each : (j : ℕ) (cpu : CpuState) → slice_get cpus j ≡ Some cpu → HasMade (take (i + 1) steps) j cpu
    each j cpu at =
        let so = made.each j cpu at in
        let below : j < length cpus = slice_get_within cpus j cpu at in
        let other : s.p ≢ j = omega (arith, below, past) in
        (so.0, so.1 ∙ sym (acts_of_others j steps i s within is other))

-- and by one that is there
step_made : (steps : List Step) (i : ℕ) (s : Step) (cpus : List CpuState) (old new : CpuState) (reply : Reply)
    → i < length steps → s ≡ get_or steps i s → s.p < length cpus → old ≡ get_or cpus s.p old
    → new.number ≡ old.number → new.answered ≡ old.answered ++ (s.act, reply) ∷ []
    → HaveMade (take i steps) cpus → HaveMade (take (i + 1) steps) (set cpus s.p new)
step_made steps i s cpus old new reply within is there was number answered made = record { each = each }
  where
    after : List CpuState
    after = set cpus s.p new

    of_old : HasMade (take i steps) s.p old
    of_old = made.each s.p old (slice_get-get_or cpus s.p old there ∙ ap (λ (c : CpuState). Some c) (sym was))

    of_new : HasMade (take (i + 1) steps) s.p new
    of_new = (
      number ∙ of_old.0,
      ap firsts answered
          ∙ map-append (λ (a : Act × Reply). a.0) old.answered ((s.act, reply) ∷ [])
          ∙ ap (λ (l : List Act). l ++ s.act ∷ []) of_old.1
          ∙ sym (acts_of_it steps i s within is),
    )

    by : (j : ℕ) (cpu : CpuState) → slice_get after j ≡ Some cpu → (b : Bool) → (s.p == j) ≡ b
        → HasMade (take (i + 1) steps) j cpu
    by j cpu at true same =
        let eq : s.p ≡ j = grind (arith, nat_tests) in
        let at_it : get_or after j cpu ≡ cpu = get_or_from_slice_get after j cpu cpu at in
        let is_new : new ≡ cpu = sym (get_or-set_same cpus s.p new cpu there)
        ∙ ap (λ n. get_or after n cpu) eq ∙ at_it in
        let P : CpuState → Type 0 = λ c. HasMade (take (i + 1) steps) s.p c in
        let Q : ℕ → Type 0 = λ n. HasMade (take (i + 1) steps) n cpu in
        subst Q eq (subst P is_new of_new)
    by j cpu at false differs =
        let other : s.p ≢ j = grind (arith, nat_tests) in
        let back : j ≢ s.p = λ e. other (sym e) in
        let below : j < length cpus = omega (arith, slice_get_within after j cpu at, length-set cpus s.p new) in
        let at_it : get_or cpus j cpu ≡ cpu = sym (get_or-set_other cpus s.p j new cpu back)
        ∙ get_or_from_slice_get after j cpu cpu at in
        let so = made.each j cpu (slice_get-get_or cpus j cpu below ∙ ap (λ (c : CpuState). Some c) at_it) in
        (so.0, so.1 ∙ sym (acts_of_others j steps i s within is other))

    each : (j : ℕ) (cpu : CpuState) → slice_get after j ≡ Some cpu → HasMade (take (i + 1) steps) j cpu
    each j cpu at = by j cpu at (s.p == j) refl

-- the same of the processor at an index that is the step's
pub step_made_by : (steps : List Step) (i : ℕ) (s : Step) (cpus : List CpuState) (p : ℕ) (d new : CpuState)
    (reply : Reply)
    → i < length steps → s ≡ get_or steps i s → p ≡ s.p → p < length cpus → new.number ≡ (get_or cpus p d).number
    → new.answered ≡ (get_or cpus p d).answered ++ (s.act, reply) ∷ []
    → HaveMade (take i steps) cpus → HaveMade (take (i + 1) steps) (set cpus p new)
step_made_by steps i s cpus p d new reply within is same there number answered made =
    let old : CpuState = get_or cpus p d in
    let found : old ≡ get_or cpus p old =
    sym (get_or_from_slice_get cpus p old old (slice_get-get_or cpus p d there)) in
    let at : s.p < length cpus = subst (λ (n : ℕ). n < length cpus) same there in
    let was : old ≡ get_or cpus s.p old = subst (λ (n : ℕ). old ≡ get_or cpus n old) same found in
    let Made : ℕ → Type 0 = λ n. HaveMade (take (i + 1) steps) (set cpus n new) in
    subst Made (sym same) (step_made steps i s cpus old new reply within is at was number answered made)

-- nothing was answered yet
pub none_answered : (cpus : List CpuState)
    → ((i : ℕ) → i < length cpus → slice_get cpus i ≡ Some (idle_cpu i)) → answered_calls cpus ≡ 0
none_answered cpus idle = by cpus (λ i below. (i, idle i below))
  where
    by : (xs : List CpuState)
        → ((i : ℕ) → i < length xs → (n : ℕ) × (slice_get xs i ≡ Some (idle_cpu n))) → answered_calls xs ≡ 0
    by [] so = refl
    by (x ∷ xs) so =
        let first = so 0 (omega arith) in
        let is : idle_cpu first.0 ≡ x = one_value (Some x) (idle_cpu first.0) x first.1 refl in
        let none : length x.answered ≡ 0 = subst (λ (c : CpuState). length c.answered ≡ 0) is refl in
        let rest : answered_calls xs ≡ 0 = by xs (λ i below. so (suc i) (omega (arith, below))) in
        omega (arith, sum_by-cons (λ (c : CpuState). length c.answered) x xs, none, rest)

-- one more answer
pub one_answered : (cpus : List CpuState) (p : ℕ) (d new : CpuState) (act : Act) (reply : Reply) → p < length cpus
    → new.answered ≡ (get_or cpus p d).answered ++ (act, reply) ∷ []
    → answered_calls (set cpus p new) ≡ answered_calls cpus + 1
one_answered cpus p d new act reply below answered =
    let f : CpuState → ℕ = λ c. length c.answered in
    let old : CpuState = get_or cpus p d in
    let longer : f new ≡ f old + 1 = ap (λ (l : List (Act × Reply)). length l) answered
    ∙ length-append old.answered ((act, reply) ∷ []) in
    omega (arith, sum_by-set f cpus p new d below, longer)

-- steps of which some were made begin with these
pub begun_by : (steps : List Step) (i : ℕ) (cpus : List CpuState) → HaveMade (take i steps) cpus → HaveBegun steps cpus
begun_by steps i cpus made = record {
  each = λ j cpu at.
      let so = made.each j cpu at in
      let test : Step → Bool = λ s. s.p == j in
      let rest : List Act = acts_of j (drop i steps) in
      let parts : acts_of j steps ≡ acts_of j (take i steps) ++ rest =
      ap (acts_of j) (sym (take-append-drop i steps))
      ∙ ap (λ (l : List Step). map (λ (s : Step). s.act) l) (filter-append test (take i steps) (drop i steps))
      ∙ map-append (λ (s : Step). s.act) (filter test (take i steps)) (filter test (drop i steps)) in
      (so.0, (rest, parts ∙ ap (λ (l : List Act). l ++ rest) (sym so.1)));
}
