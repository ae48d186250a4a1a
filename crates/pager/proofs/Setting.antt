-- What is against a length, and what it takes.
use Rattle.std.proofs.Common.{◌≡◌, ◌≢◌, ℕ, Bool, true, false, List, [], ◌∷◌, refl, sym, ◌∙◌, subst, eqb, if◌then◌else◌}
use Rattle.std.proofs.Common.{Option, Some, None, Result, Ok, Err, ltb, ◌≤◌, arith}
use Rattle.std.specs.Prelude.{OnOk, IfErr, is_none, ◌&&◌}
use Rattle.std.proofs.lemmas.Bool.{cond-true, cond-false, eq-eqb, ne_eqb}
use Rattle.std.proofs.lemmas.Bool.Decides.{nat_tests}
use Rattle.device.specs.declared.device.Device.{Ghosts}
use Rattle.device.proofs.Public.{leaves_at_start}
use Rattle.recovery.specs.Reading.{IsOnlyRead}
use Rattle.page_entry.specs.declared.refusal.Refusal.{Refusal}
use Rattle.page_entry.specs.declared.refusal.Refusal.TheVariants as refusals
use Rattle.pager.specs.State.{PagerState, file_length}
use Rattle.pager.specs.Calls.{first_reason, reason_if, set_length_refusal, new_length_refusal, is_overfull, restaged}
use Rattle.pager.specs.Calls.{length_calls, resized_to, after_length, RefusesSetLength}

-- ---- results

pub ok_as : {X E : Type 0} (r : Result X E) (P : Type 0) → P → OnOk r P
ok_as (Ok x) P p = p
ok_as (Err e) P p = tt

pub on_ok : {X E : Type 0} (r : Result X E) (P Q : Type 0) → (P → Q) → OnOk r P → OnOk r Q
on_ok (Ok x) P Q f p = f p
on_ok (Err e) P Q f p = tt

pub if_err : {X E : Type 0} (r : Result X E) (P Q : E → Type 0) → ((e : E) → P e → Q e) → IfErr r P → IfErr r Q
if_err (Ok x) P Q f p = tt
if_err (Err e) P Q f p = f e p

-- ---- a page that is put

pub nothing_against : (p : Option Refusal) (a b : Bool) → p ≡ None → a ≡ false → b ≡ false
    → first_reason (p ∷ reason_if a refusals.Broken ∷ reason_if b refusals.NoFrame ∷ []) ≡ None
nothing_against None false false free whole room = refl
nothing_against None true b free whole room = absurd (cc)
nothing_against None false true free whole room = absurd (cc)
nothing_against (Some x) a b free whole room = absurd (cc)

-- ---- a device that isn't called

pub read_nothing : {D : Type 0} (disk : Ghosts D) (device : D)
    → ((d : D) (c : List ℕ) → disk.left_since d (disk.moment d) c → disk.may_leave d c)
    → IsOnlyRead disk device device
read_nothing disk device now = record {
  same = refl;
  left = λ c may. may;
  keeps = λ honest c may. may;
  time = leaves_at_start (λ c since. now device c since);
  honest = (λ h. h, λ h. h);
}

-- ---- a length

same_free : (t : Bool) (o : Option Refusal) → t ≡ true → first_reason ((if t then None else o) ∷ []) ≡ None
same_free true o e = refl
same_free false o e = absurd (cc)

pub other_reason : (t b e : Bool) → t ≡ false → b ≡ false
    → first_reason ((if t then None
    else first_reason (reason_if b refusals.Broken ∷ reason_if e refusals.NoFrame ∷ [])) ∷ [])
    ≡ first_reason (reason_if e refusals.NoFrame ∷ [])
other_reason true b e other whole = absurd (cc)
other_reason false true e other whole = absurd (cc)
other_reason false false true other whole = refl
other_reason false false false other whole = refl

broken_reason : (t b e : Bool) → t ≡ false → b ≡ true
    → first_reason ((if t then None
    else first_reason (reason_if b refusals.Broken ∷ reason_if e refusals.NoFrame ∷ [])) ∷ [])
    ≡ Some refusals.Broken
broken_reason true b e other broken = absurd (cc)
broken_reason false false e other broken = absurd (cc)
broken_reason false true e other broken = refl

pub room_free : (e : Bool) → e ≡ false → first_reason (reason_if e refusals.NoFrame ∷ []) ≡ None
room_free true e = absurd (cc)
room_free false e = refl

pub no_call : (a b c d : Bool) → b ≡ false → ◌≡◌ {A = ℕ} (if a && (b && c && d) then 1 else 0) 0
no_call true true c d e = absurd (cc)
no_call true false c d e = refl
no_call false b c d e = refl

module _ {D : Type 0} (s : PagerState D) (file to : ℕ) where
  abbrev from : ℕ
  from = file_length s.lengths file

  -- what is left once a file may have the length
  abbrev pub IsLeft : Type 0
  IsLeft = set_length_refusal s file to
      ≡ first_reason ((if eqb to from then None else new_length_refusal s file to) ∷ [])

  pub same_after : (last : List ℕ) (device : D) → to ≡ from → s ≡ after_length s file to last device
  same_after last device same = sym (cond-true (eqb to from) s (resized_to s file to last device) (eq-eqb to from same))

  pub changed_after : (last : List ℕ) (device : D) → to ≢ from
      → resized_to s file to last device ≡ after_length s file to last device
  changed_after last device other =
      sym (cond-false (eqb to from) s (resized_to s file to last device) (ne_eqb to from other))

  pub changed_some : (new : PagerState D) (device : D) → to ≢ from
      → (last : List ℕ) × (new ≡ resized_to s file to last device)
      → (last : List ℕ) × (new ≡ after_length s file to last device)
  changed_some new device other is = (is.0, is.1 ∙ changed_after is.0 device other)

  pub changed_reason : IsLeft → to ≢ from → s.write_outs.broken ≡ false → set_length_refusal s file to
      ≡ first_reason (reason_if (is_overfull s.table s.most (restaged s.table s.lengths file to [] s.staged))
      refusals.NoFrame ∷ [])
  changed_reason left other whole = left ∙ other_reason (eqb to from) s.write_outs.broken
      (is_overfull s.table s.most (restaged s.table s.lengths file to [] s.staged)) (ne_eqb to from other) whole

  pub no_calls : to ≤ from → length_calls s file to ≡ 0
  no_calls le = no_call (is_none (set_length_refusal s file to)) (ltb from to) _ _
      (let test : ltb from to ≡ false = grind (arith, nat_tests, le) in test)

  pub refuses_memory : set_length_refusal s file to ≡ None → to ≢ from → (why : Refusal) → why ≡ refusals.OutOfMemory
      → RefusesSetLength s file to why
  refuses_memory free other why is = subst (RefusesSetLength s file to) (sym is) (free, ne_eqb to from other)
