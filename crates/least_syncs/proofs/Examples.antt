-- Two ways to commit.
use Rattle.std.proofs.Common.{◌≡◌, ◌<◌, ◌≤◌, ◌⊎◌, inl, inr, ⊎_elim, ℕ, zero, suc, ◌+◌, ◌-◌, Bool, true}
use Rattle.std.proofs.Common.{false, List, [], ◌∷◌, length, replicate, get_or, refl, sym, ◌∙◌, ap, arith}
use Rattle.std.proofs.lemmas.Bool.{cases_lt}
use Rattle.std.proofs.lemmas.Bool.Decides.{nat_tests}
use Rattle.std.proofs.lemmas.List.{length-replicate}
use Rattle.std.specs.Prelude.{◌≢◌, ◌&&◌, ◌||◌, nat_eq, nat_le, nat_lt, if◌then◌else◌}
use Rattle.device.specs.Device.{written}
use Rattle.device.specs.Memory.{new_disk, left_since_of, may_leave_of}
use Rattle.device.proofs.Public.{written_before, written_within, written_after}
use Rattle.least_syncs.specs.Commit.{IsCommit, AreByOneSync}
use Rattle.least_syncs.specs.Examples.{flagged, flag_at, flag_made, gated, gate_over, gate_made}

-- a byte behind an open gate or a closed one
by_gate : (c : List ℕ) (byte found : ℕ) → get_or c 1 0 ≡ byte → gated c ≡ found → (found ≡ 0) ⊎ (found ≡ byte)
by_gate c byte found second is = choice (nat_eq (get_or c 0 0) 1) is
  where
    choice : (b : Bool) → (if b then get_or c 1 0 else 0) ≡ found → (found ≡ 0) ⊎ (found ≡ byte)
    choice true e = inr (sym e ∙ second)
    choice false e = inl (sym e)

shut : (c : List ℕ) → get_or c 0 0 ≡ 0 → gated c ≡ 0
shut c first = ap (λ b. if nat_eq b 1 then get_or c 1 0 else 0) first

opened : (c : List ℕ) (byte : ℕ) → get_or c 0 0 ≡ 1 → get_or c 1 0 ≡ byte → gated c ≡ byte
opened c byte first second = ap (λ b. if nat_eq b 1 then get_or c 1 0 else 0) first ∙ second

pub gate_commits : (byte : ℕ)
    → IsCommit (λ c found. gated c ≡ found) 0 byte (new_disk (0 ∷ 0 ∷ [])) (gate_over byte) (gate_made byte)
gate_commits byte = record {
  made = record { first = refl; start = refl; changes = refl; within = (omega arith, (omega arith, tt)) };
  atomic = midst;
  durable = λ c left. opened c byte (left.synced 0 refl) (left.synced 1 refl);
}
  where
    midst : (c : List ℕ) (found : ℕ) → left_since_of (gate_made byte) 0 c → gated c ≡ found
        → (found ≡ 0) ⊎ (found ≡ byte)
    midst c found (zero, le, when, left) is = inr (sym is ∙ opened c byte (left.synced 0 refl) (left.synced 1 refl))
    midst c found (suc zero, le, when, left) is = by_gate c byte found (left.synced 1 refl) is
    midst c found (suc (suc zero), le, when, left) is = inl (sym is ∙ shut c (left.synced 0 refl))
    midst c found (suc (suc (suc zero)), le, when, left) is = inl (sym is ∙ shut c (left.synced 0 refl))
    midst c found (suc (suc (suc (suc zero))), le, when, left) is = inl (sym is ∙ shut c (left.synced 0 refl))
    midst c found (suc (suc (suc (suc (suc n)))), le, when, left) is = absurd (omega (arith, le))

zeros : (n j : ℕ) → get_or {A = ℕ} (replicate n 0) j 0 ≡ 0
zeros zero j = refl
zeros (suc n) zero = refl
zeros (suc n) (suc j) = zeros n j

-- how far on the flag stands, by what the first byte is and how far on it stands in the rest
abbrev behind : ℕ → ℕ → ℕ
behind byte rest = if nat_eq byte 1 then 1 else (if nat_eq rest 0 then 0 else rest + 1)

one_on : (rest i : ℕ) → rest ≡ i + 1 → behind 0 rest ≡ suc i + 1
one_on rest i is = grind (arith, nat_tests)

first_or_none : (byte : ℕ) → (behind byte 0 ≡ 0) ⊎ (behind byte 0 ≡ 1)
first_or_none byte = choice (nat_eq byte 1)
  where
    choice : (b : Bool)
        → ((if b then 1 else (if nat_eq 0 0 then 0 else 0 + 1)) ≡ 0)
        ⊎ ((if b then 1 else (if nat_eq 0 0 then 0 else 0 + 1)) ≡ 1)
    choice true = inr refl
    choice false = inl refl

unflagged : (c : List ℕ) → ((j : ℕ) → get_or c j 0 ≡ 0) → flagged c ≡ 0
unflagged [] none = refl
unflagged (byte ∷ c) none =
    ap (λ b. behind b (flagged c)) (none 0) ∙ ap (λ k. behind 0 k) (unflagged c (λ j. none (suc j)))

-- with zeros elsewhere there is a flag at this place or none
flag_or_none : (c : List ℕ) (i : ℕ) → ((j : ℕ) → j ≢ i → get_or c j 0 ≡ 0) → (flagged c ≡ 0) ⊎ (flagged c ≡ i + 1)
flag_or_none [] i elsewhere = inl refl
flag_or_none (byte ∷ c) zero elsewhere =
    let rest = ap (λ k. behind byte k) (unflagged c (λ j. elsewhere (suc j) (λ is. absurd (omega (arith, is))))) in
    ⊎_elim (λ e. inl (rest ∙ e)) (λ e. inr (rest ∙ e)) (first_or_none byte)
flag_or_none (byte ∷ c) (suc i) elsewhere =
    let first = ap (λ b. behind b (flagged c)) (elsewhere 0 (λ is. absurd (omega (arith, is)))) in
    ⊎_elim (λ e. inl (first ∙ ap (λ k. behind 0 k) e)) (λ e. inr (first ∙ one_on (flagged c) i e))
    (flag_or_none c i (λ j apart. elsewhere (suc j) (λ is. apart (omega (arith, is)))))

flag_there : (c : List ℕ) (i : ℕ) → get_or c i 0 ≡ 1 → ((j : ℕ) → j ≢ i → get_or c j 0 ≡ 0) → flagged c ≡ i + 1
flag_there [] i here elsewhere = absurd (omega (arith, here))
flag_there (byte ∷ c) zero here elsewhere = ap (λ b. behind b (flagged c)) here
flag_there (byte ∷ c) (suc i) here elsewhere =
    ap (λ b. behind b (flagged c)) (elsewhere 0 (λ is. absurd (omega (arith, is))))
    ∙ one_on (flagged c) i (flag_there c i here (λ j apart. elsewhere (suc j) (λ is. apart (omega (arith, is)))))

-- what the commit has written
there : (n i : ℕ) → i < n → get_or (written (replicate n 0) i (1 ∷ [])) i 0 ≡ 1
there n i lt =
    let start : i - i ≡ 0 = omega arith in
    written_within (replicate n 0) i (1 ∷ []) i (omega (arith, lt, length-replicate {A = ℕ} n 0))
    (omega arith) (omega arith)
    ∙ ap (λ k. get_or (1 ∷ []) k 0) start

not_there : (n i j : ℕ) → i < n → j ≢ i → get_or (written (replicate n 0) i (1 ∷ [])) j 0 ≡ 0
not_there n i j lt apart =
    let fits : i + 1 ≤ length {A = ℕ} (replicate n 0) = omega (arith, lt, length-replicate {A = ℕ} n 0) in
    ⊎_elim
    (λ (before : j < i). written_before (replicate n 0) i (1 ∷ []) j fits before ∙ zeros n j)
    (λ (from : i ≤ j). ⊎_elim
    (λ (within : j < i + 1). absurd (apart (omega (arith, from, within))))
    (λ (past : i + 1 ≤ j). written_after (replicate n 0) i (1 ∷ []) j fits past ∙ zeros n j)
    (cases_lt j (i + 1)))
    (cases_lt j i)

elsewhere_synced : (i j : ℕ) → j ≢ i → ((nat_le i j && nat_lt j (i + 1)) || false) ≡ false
elsewhere_synced i j apart = grind (arith, nat_tests)

flag_commits : (n i : ℕ) → i < n
    → IsCommit (λ c found. flagged c ≡ found) 0 (i + 1) (new_disk (replicate n 0)) (flag_at i) (flag_made n i)
flag_commits n i lt = record {
  made = record {
    first = refl;
    start = refl;
    changes = refl;
    within = (omega (arith, lt, length-replicate {A = ℕ} n 0), tt);
  };
  atomic = midst;
  durable = last;
}
  where
    last : (c : List ℕ) → may_leave_of (flag_made n i) c → flagged c ≡ i + 1
    last c left = flag_there c i (left.synced i refl ∙ there n i lt)
        (λ j apart. left.synced j refl ∙ not_there n i j lt apart)

    midst : (c : List ℕ) (found : ℕ) → left_since_of (flag_made n i) 0 c → flagged c ≡ found
        → (found ≡ 0) ⊎ (found ≡ i + 1)
    midst c found (zero, le, when, left) is = inr (sym is ∙ last c left)
    midst c found (suc zero, le, when, left) is = ⊎_elim (λ e. inl (sym is ∙ e)) (λ e. inr (sym is ∙ e))
        (flag_or_none c i (λ j apart. left.synced j (elsewhere_synced i j apart) ∙ not_there n i j lt apart))
    midst c found (suc (suc zero), le, when, left) is = inl (sym is ∙ unflagged c (λ j. left.synced j refl ∙ zeros n j))
    midst c found (suc (suc (suc k)), le, when, left) is = absurd (omega (arith, le))

pub flags_are : (n : ℕ)
    → AreByOneSync (λ c found. flagged c ≡ found) 0 (new_disk (replicate n 0)) n (λ i. i + 1) flag_at (flag_made n)
flags_are n = record {
  each = flag_commits n;
  few = λ i lt. omega arith;
  apart = λ i lt. (λ is. absurd (omega (arith, is)), λ j before is. absurd (omega (arith, before, is)));
}
