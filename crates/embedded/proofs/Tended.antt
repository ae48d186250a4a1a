-- A disk that was tended between two requests is the same disk in memory.
use Rattle.std.proofs.Common.{◌≡◌, ◌≤◌, ℕ, ◌+◌, ◌-◌, ◌∷◌, get_or, Bool, true, false, if◌then◌else◌, List, [], Option}
use Rattle.std.proofs.Common.{refl, sym, ap, subst, arith, inl}
use Rattle.deferred_disk.specs.Deferred.{Deferred, as_memory, after_forget, after_supply, with_known, with_waiting}
use Rattle.deferred_disk.specs.Deferred.{block_of, carried_moment, IsSuppliedWell}
use Rattle.device.specs.Memory.{Recorded, seen_of, may_leave_of, moment_of, left_since_of}
use Rattle.device.specs.inside.Laws.{since_now_of}
use Rattle.recovery.specs.Reading.{IsOnlyRead}
use Rattle.pager.specs.State.{PagerState}
use Rattle.pager.specs.Histories.{HasGone, Stays, ThenRead}
use Rattle.embedded.specs.Embedded.{ServesWell, over_device}
use Rattle.embedded.specs.Recorded.{deferred_disk}
use Rattle.embedded.specs.Supplying.{with_supplied, is_of_disk}
use Rattle.embedded.specs.declared.tending.Supplying.{Supplying}
use Rattle.embedded.specs.declared.tending.Forgetting.{Forgetting}
use Rattle.embedded.specs.Tending.{HasSupplied, HasForgotten}
use Rattle.embedded.proofs.Serving.{serves_later}

-- the same disk in memory, supplied well only if the other one was, of whose calls no fewer were made
pub record IsLike (after before : Deferred) : Type 0 where
  pub same : as_memory after ≡ as_memory before
  pub well : IsSuppliedWell after → IsSuppliedWell before
  pub more : carried_moment before ≤ carried_moment after

like_itself : (disk : Deferred) → IsLike disk disk
like_itself disk = record { same = refl; well = λ well. well; more = omega arith }

either_like : (b : Bool) (x y before : Deferred) → IsLike x before → IsLike y before
    → IsLike (if b then x else y) before
either_like true x y before first other = first
either_like false x y before first other = other

-- one of two, by whether something was done
like_one : (done : Bool) (after first other before : Deferred) → (done ≡ true → after ≡ first)
    → (done ≡ false → after ≡ other) → IsLike first before → IsLike other before → IsLike after before
like_one true after first other before is not like other_like =
    subst (λ (d : Deferred). IsLike d before) (sym (is refl)) like
like_one false after first other before is not like other_like =
    subst (λ (d : Deferred). IsLike d before) (sym (not refl)) other_like

-- a block more was supplied
abbrev added : Deferred → ℕ → List ℕ → Deferred
added disk block bytes = record disk {
  known = with_known disk.known block (block + 1);
  supplied = (bytes, block_of (seen_of (as_memory disk)) block) ∷ disk.supplied;
}

supplied_like : (disk : Deferred) (block : ℕ) (bytes : List ℕ) → IsLike (with_supplied disk block bytes) disk
supplied_like disk block bytes =
    let more : IsLike (added disk block bytes) disk =
    record { same = refl; well = λ well. well.1; more = omega arith } in
    either_like (is_of_disk disk block) (after_supply disk block bytes) disk disk
    (either_like (get_or disk.known block false) disk (added disk block bytes) disk (like_itself disk) more)
    (like_itself disk)

-- whatever came of it
pub tended_supply : (old new : Supplying) (before after : Deferred) → HasSupplied old before after new
    → IsLike after before
tended_supply old new before after it =
    like_one new.refused after before (with_supplied before old.block old.bytes.now) before it.err it.ok
    (like_itself before) (supplied_like before old.block old.bytes.now)

-- a block was forgotten, or not
pub tended_forget : (old new : Forgetting) (before after : Deferred) → HasForgotten old before after new
    → IsLike after before
tended_forget old new before after it =
    like_one new.done after (after_forget before old.block) before before it.forgotten it.kept
    (record { same = refl; well = λ well. well; more = omega arith }) (like_itself before)

-- a call was made
pub tended_call : (before after : Deferred) → after ≡ with_waiting before (before.waiting - 1) → IsLike after before
tended_call before after is = subst (λ (d : Deferred). IsLike d before) (sym is)
    (record { same = refl; well = λ well. well; more = omega arith })

-- nothing was written to such a disk
pub only_read : (after before : Deferred) → IsLike after before → IsSuppliedWell after
    → IsOnlyRead deferred_disk before after
only_read after before like well =
    let same = like.same in
    let had = like.well well in
    record {
      same = ap seen_of same;
      left = λ c left. subst (λ (r : Recorded). may_leave_of r c) same left;
      keeps = λ honest c left. subst (λ (r : Recorded). may_leave_of r c) (sym same) left;
      time = record {
        later = omega (arith, ap moment_of same);
        each = λ c left. since_now_of (as_memory before) c
            (subst (λ (r : Recorded). left_since_of r (moment_of (as_memory before)) c) same left);
        before = λ t c le left. inl (subst (λ (r : Recorded). left_since_of r t c) same left);
        keeps = λ t c le left. subst (λ (r : Recorded). left_since_of r t c) (sym same) left;
      };
      honest = (λ _. had, λ _. well);
    }

-- what was served, is served
pub serves_tended : (old new : PagerState Deferred) (committed : Option ℕ) (due : ℕ) (acknowledged : Option ℕ)
    → new ≡ over_device old new.device → IsLike new.device old.device
    → ServesWell old committed due acknowledged → ServesWell new committed due acknowledged
serves_tended old new committed due acknowledged is like =
    serves_later old new due committed acknowledged like.well
    (λ well. (
      [],
      subst (λ (s : PagerState Deferred). HasGone deferred_disk old [] s) (sym is)
          (ThenRead [] old new.device (only_read new.device old.device like well) Stays),
    )) like.more
