-- What is known of a fault that leads to a place, and against whose service nothing is.
use Rattle.machine.proofs.Names.{ℕ, ◌≡◌, ◌*◌, ◌/◌, ◌^◌, ◌<◌, Bool, true, false, not, ◌&&◌, ◌||◌, cond, leb, length}
use Rattle.machine.proofs.Names.{Option, Some, None, Ok, refl, sym, ap, ◌∙◌, subst, not-false, leb-false, false≢true}
use Rattle.machine.proofs.Names.{Place, may_write, FramesState, has_free, Spaces, place_at, CheckpointState, page_at}
use Rattle.machine.proofs.Names.{allowed_place, place_of_fault, is_in_memory, copies_out, fault_refusal}

-- by a test, and the reason or the result of each outcome
pub by_test : {X P : Type 0} {a rest o : X} (test : Bool) → cond test a rest ≡ o → (test ≡ true → a ≡ o → P)
    → (test ≡ false → rest ≡ o → P) → P
by_test true e first second = first refl e
by_test false e first second = second refl e

-- where a fault leads that is neither past the addresses nor without a place nor without the right
pub record IsLed (spaces : Spaces) (pcid va : ℕ) (write : Bool) (place : Place) : Type 0 where
  pub small : va < 2 ^ 47
  pub mapped : place_at spaces pcid (va / 4096) ≡ Some place
  pub allowed : (not write || may_write place.rights) ≡ true

pub or_of_and : (a b : Bool) → (a && not b) ≡ false → (not a || b) ≡ true
or_of_and true b e = not-false b e
or_of_and false b e = refl

pub led_to : (spaces : Spaces) (pcid va : ℕ) (write : Bool) (place : Place)
    → place_of_fault spaces pcid va write ≡ Ok place → IsLed spaces pcid va write place
led_to spaces pcid va write place e =
    by_test (leb (2 ^ 47) va) e (λ past is. absurd (cc))
    (λ within later. by_place (place_at spaces pcid (va / 4096)) refl (leb-false (2 ^ 47) va within) later)
  where
    by_place : (o : Option Place) → place_at spaces pcid (va / 4096) ≡ o → va < 2 ^ 47
        → allowed_place write o ≡ Ok place → IsLed spaces pcid va write place
    by_place None none small e = absurd (cc)
    by_place (Some p) mapped small e =
        by_test (write && not (may_write p.rights)) e (λ forbidden is. absurd (cc)) (λ allowed is.
        let same : p ≡ place = cc in
        record {
          small = small;
          mapped = mapped ∙ ap (λ x. Some x) same;
          allowed = subst (λ (x : Place). (not write || may_write x.rights) ≡ true) same
              (or_of_and write (may_write p.rights) allowed);
        })

-- what is known where nothing is against a fault's service
pub record IsServable (memory : FramesState) (c : CheckpointState) (broken : Bool) (place : Place) (length : ℕ)
    (write : Bool) : Type 0 where
  pub inside : 4096 * place.page < length
  pub absent : is_in_memory memory (page_at place) ≡ false → broken ≡ false

pub servable : (memory : FramesState) (c : CheckpointState) (broken : Bool) (place : Place) (length : ℕ) (write : Bool)
    → fault_refusal memory c broken place length write ≡ None → IsServable memory c broken place length write
servable memory c broken place length write e =
    by_test (leb length (4096 * place.page)) e (λ past is. absurd (cc)) (λ within later.
    let inside = leb-false length (4096 * place.page) within in
    by_test (copies_out memory c (page_at place) write && not (has_free memory.copies)) later
    (λ held is. absurd (cc)) (λ thawed later.
    by_test (is_in_memory memory (page_at place)) later
    (λ there is. record { inside = inside; absent = λ gone. absurd (false≢true (sym gone ∙ there)) })
    (λ gone later. record {
      inside = inside;
      absent = λ _. by_test (not (has_free memory.frames)) later (λ full is. absurd (cc))
          (λ free later. by_test broken later (λ is_broken is. absurd (cc)) (λ whole is. whole));
    })))
