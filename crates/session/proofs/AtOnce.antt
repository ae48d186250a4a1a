-- Bytes of a page that are loaded or stored at once, as the steps that they are equal to.
use Rattle.std.proofs.Common.{◌≡◌, inr, ℕ, ◌+◌, ◌^◌, ◌<◌, ◌≤◌, arith, List, [], ◌∷◌}
use Rattle.std.proofs.Common.{◌++◌, length, Option, Some, None, refl, sym, ap, subst}
use Rattle.device.specs.declared.device.Device.{Ghosts}
use Rattle.cpu.specs.AtOnce.{count_at_once}
use Rattle.machine.specs.AtOnce.{load_steps, load_replies, store_steps, store_replies}
use Rattle.machine.specs.declared.act.Act.TheVariants.{Load, Store}
use Rattle.machine.specs.declared.act.Reply.{Reply}
use Rattle.machine.specs.declared.act.Reply.TheVariants.{Stored}
use Rattle.machine.specs.declared.act.Step.{Step}
use Rattle.machine.specs.Runs.{StepsTaken}
use Rattle.machine.specs.State.{Whole}
use Rattle.session.specs.declared.files.Files.{Files}
use Rattle.session.specs.declared.notes.Notes.{Notes}
use Rattle.session.specs.CarriedOut.{CarriesOut}
use Rattle.session.specs.Locks.{KeepsPhases}
use Rattle.session.specs.Notes.{noted_after, noted_all}
use Rattle.session.specs.Ranges.{LoadsRange}
use Rattle.session.specs.Steps.{Makes, behind, AreLoads, AreStores}
use Rattle.session.specs.Turns.{InTurn}
use Rattle.session.specs.inside.Paging.{LoadsOn}
use Rattle.session.proofs.Phases.{act_keeps, keeps_none, keeps_then}
use Rattle.session.proofs.Pieces.{loads_then}
use Rattle.session.proofs.Turns.{in_turn_aside, stores_aside}

-- ---- how many

pub few_at_once : (o : Option ℕ) (va count n : ℕ) → n ≡ count_at_once o va count → n ≤ count
few_at_once None va count n is = omega (arith, is)
few_at_once (Some frame) va count n is = omega (arith, is)

pub below_at_once : (o : Option ℕ) (va count n : ℕ) → va < 2 ^ 64 → n ≡ count_at_once o va count → va + n ≤ 2 ^ 64
below_at_once None va count n below is = omega (arith, is, below)
below_at_once (Some frame) va count n below is = omega (arith, is, below)

-- ---- what is noted

noted_more : (n : Notes) (bytes : List ℕ)
    → noted_all (noted_after n Stored) (store_replies bytes) ≡ noted_after n Stored
noted_more n [] = refl
noted_more n (byte ∷ bytes) = noted_more n bytes

pub noted_stores : (n : Notes) (bytes : List ℕ) → 0 < length bytes
    → noted_after n Stored ≡ noted_all n (store_replies bytes)
noted_stores n [] some = absurd (omega (arith, some))
noted_stores n (byte ∷ bytes) some = sym (noted_more n bytes)

pub noted_nothing : (n : Notes) (bytes : List ℕ) → length bytes ≡ 0 → n ≡ noted_all n (store_replies bytes)
noted_nothing n [] none = refl
noted_nothing n (byte ∷ bytes) none = absurd (omega (arith, none))

pub noted_loads : (n : Notes) (bytes : List ℕ) → n ≡ noted_all n (load_replies bytes)
noted_loads n [] = refl
noted_loads n (byte ∷ bytes) = noted_loads n bytes

-- ---- which bytes

pub loads_run : (p va from at : ℕ) (bytes : List ℕ) → at ≡ behind va from → at + length bytes ≤ 2 ^ 64
    → AreLoads p va from (from + length bytes) (load_steps p at bytes) (load_replies bytes) bytes
loads_run p va from at [] is below = (omega arith, refl)
loads_run p va from at (byte ∷ []) is below =
    inr (1, byte ∷ [], [], ap (λ n. record { p = p; act = Load n 1 }) is, refl, refl, (refl, refl))
loads_run p va from at (byte ∷ next ∷ bytes) is below =
    let P : ℕ → Type 0 = λ n. AreLoads p va (from + 1) n (load_steps p (at + 1) (next ∷ bytes))
    (load_replies (next ∷ bytes)) (next ∷ bytes) in
    let to : from + 1 + length (next ∷ bytes) ≡ from + length (byte ∷ next ∷ bytes) = omega arith in
    inr (
      1,
      byte ∷ [],
      next ∷ bytes,
      ap (λ n. record { p = p; act = Load n 1 }) is,
      refl,
      refl,
      subst P to (loads_run p va (from + 1) (at + 1) (next ∷ bytes) (omega (arith, is, below)) (omega (arith, below))),
    )

pub stores_run : (p va from at : ℕ) (bytes : List ℕ) → at ≡ behind va from → at + length bytes ≤ 2 ^ 64
    → AreStores p va from (store_steps p at bytes) (store_replies bytes) bytes
stores_run p va from at [] is below = refl
stores_run p va from at (byte ∷ []) is below =
    inr (byte ∷ [], [], ap (λ n. record { p = p; act = Store n (byte ∷ []) }) is, refl, refl, refl)
stores_run p va from at (byte ∷ next ∷ bytes) is below =
    inr (
      byte ∷ [],
      next ∷ bytes,
      ap (λ n. record { p = p; act = Store n (byte ∷ []) }) is,
      refl,
      refl,
      stores_run p va (from + 1) (at + 1) (next ∷ bytes) (omega (arith, is, below)) (omega (arith, below)),
    )

-- ---- what stays

module _ {D : Type 0} (disk : Ghosts D) where
  run_keeps : (p at : ℕ) (bytes : List ℕ) (old new : Whole D)
      → StepsTaken disk old (store_steps p at bytes) (store_replies bytes) new → KeepsPhases old.state new.state
  run_keeps p at [] old new taken =
      subst (λ (m : Whole D). KeepsPhases old.state m.state) (sym taken) (keeps_none old.state)
  run_keeps p at (byte ∷ bytes) old new (mid, here, rest) =
      keeps_then old.state mid.state new.state (act_keeps old.state here.answered.0 p
      (Store at (byte ∷ [])) Stored mid.state here.answered.1 tt here.answered.2)
      (run_keeps p (at + 1) bytes mid new rest)

  module _ (old new : Whole D) (before after : Notes) (p at : ℕ) (bytes : List ℕ) where
    pub stores_run_carries : {A : Type 0} (files left : Files A) → left ≡ files → (va done : ℕ)
        → at ≡ behind va done → at + length bytes ≤ 2 ^ 64
        → Makes disk old before (store_steps p at bytes) (store_replies bytes) new after
        → CarriesOut disk old before
        (InTurn files (λ _ steps replies. AreStores p va done steps replies bytes) left) new after
    stores_run_carries files left same va done is below makes = record {
      makes = record {
        steps = store_steps p at bytes;
        replies = store_replies bytes;
        makes = makes;
        holds = in_turn_aside files left (λ _ steps replies. AreStores p va done steps replies bytes)
            (store_steps p at bytes) (store_replies bytes) same (stores_aside p at bytes)
            (stores_run p va done at bytes is below);
      };
      phases = run_keeps p at bytes old new makes.taken;
    }

-- ---- more of a range

pub loads_on : (p va done at more : ℕ) (run old new : List ℕ) → at ≡ behind va done → at + length run ≤ 2 ^ 64
    → more ≡ length run → new ≡ old ++ run
    → LoadsOn p va done more old new (load_steps p at run) (load_replies run)
loads_on p va done at more run old new is below long grown =
    let P : ℕ → Type 0 = λ n. AreLoads p va done (done + n) (load_steps p at run) (load_replies run) run in
    (run, subst P (sym long) (loads_run p va done at run is below), grown)

pub loads_on_more : (p va done more : ℕ) (bytes now : List ℕ)
    (steps : List Step) (replies : List Reply) (steps' : List Step) (replies' : List Reply)
    → LoadsRange p va done bytes steps replies → LoadsOn p va done more bytes now steps' replies'
    → LoadsRange p va (done + more) now (steps ++ steps') (replies ++ replies')
loads_on_more p va done more bytes now steps replies steps' replies' first (run, loads, is) =
    subst (λ b. AreLoads p va 0 (done + more) (steps ++ steps') (replies ++ replies') b) (sym is)
    (loads_then p va 0 done (done + more) steps replies bytes steps' replies' run first loads)
