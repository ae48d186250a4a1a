-- A past that holds what its clause says.
use mathlib.Core.Path.{refl}
use mathlib.Core.List.{[], ◌∷◌}
use seplogic.Ra.Ura.{Ura}
use mir.Val.{vstruct, vnil, Val, vptr}
use base.Logic.{SProp, ent, emp, via, fst∗}
use base.Fml.{Fml}
use prog.Memory.{Memory}
use prog.Routine.{Routine}
use prog.Wp.{Calls, Loops, WpFn, Tables}
use types.Logic.{Logic}
use contract.Lifetimes.{Lfts, Shares}
use contract.Monad.{Fun}
use contract.Running.{tables, tables_of}
use sound.WpLaws.{WpFn-mono}
use types.Kit.{‵, raw, ◌$◌, ◌∵◌, !, qed, move, suffices, done}
use types.Run.{no_more, returns, enter}
use types.Part.{agg}
use types.ByLocal.{alloc_all, pass_all, free_all, look_at, sets}
use denote.RattleType.{owns}
use denote.Shadow.{pure_i}
use denote.Triple.Entry.{on_entry, alive, Args}
use denote.Triple.Spec.{Meets, triple_of}
use denote.Triple.Walked.{says, Stays, stay_none_ref, stay_none_slice, walk_of, Walks}
use denote.Triple.Walked.{ends_at, walked, Goes-none_ref, Goes-none_slice, walk_Meets}
use denote.Builtin.{u8, u64}
use denote.Exit.{yes}
use denote.Ref.{shr_vals, shr_Tells}
use denote.Slice.{slice_val, shr_slice_vals, shr_slice_Tells}
use denote.Signature.{plain, types_at}
use mir.Syntax.{named}
use Rattle.std.proofs.Common.{ℕ, ◌<◌, ◌^◌, List, length}
use Rattle.device.specs.Memory.{DiskChange}
use denote.Triple.Table.{entered}
use Rattle.machine_log.specs.contracts.past.Past.holding.Key.{name as key}
use Rattle.machine_log.specs.contracts.past.Past.holding as called
use Rattle.machine_log.proofs.past.Past.holding.Statement as stated
use Rattle.machine_log.proofs.past.Past.holding.Code as code
use Rattle.machine_log.specs.contracts.past.Past as past

abbrev stayed : Stays (called.ended).signature.params (called.ended).kept
stayed = (
  stay_none_slice (0 ∷ []) tt (plain (λ _. past.the_row)) yes,
  (stay_none_ref (1 ∷ []) tt (plain (λ _. u64)) yes, (stay_none_slice (2 ∷ []) tt (plain (λ _. u8)) yes, tt)),
)

module _ {M : Type 1} {𝓤 : Ura M} (𝓛 : Logic 𝓤) (mem : Memory → SProp 𝓤) (run : Routine → Fun 𝓤)
    (C : Calls 𝓤 𝓛.H) (Λ : Loops 𝓤 𝓛.H) where
  open 𝓛 use {H}

  module _ (κs : Lfts 3) (qs : Shares 3) (a : Args called.signature κs)
      (held : List ℕ × (List DiskChange × List (ℕ × ℕ))) where
    abbrev before : Val
    before = slice_val a.0.ref_ptr (length a.0.now)

    abbrev number : Val
    number = vptr a.1.0.ref_ptr.0 a.1.0.ref_ptr.1

    abbrev bytes : Val
    bytes = slice_val a.1.1.0.ref_ptr (length a.1.1.0.now)

    abbrev bound : (walk_of 𝓛 called.ended stayed (called.clauses 𝓛 mem run)).Ghost
    bound = ((κs, qs, tt, a, (before ∷ [], (number ∷ [], (bytes ∷ [], tt)))), held)

    abbrev passed : Fml
    passed = owns (types_at called.signature.params κs) a (before ∷ [], (number ∷ [], (bytes ∷ [], tt)))

    abbrev made : past.the_row.Denot
    made = record { first = held.0; changes = held.1.0; moments = held.1.1 }

    walk : length a.0.now < 2 ^ 64 → length a.1.1.0.now < 2 ^ 64
        → ent 𝓤 (on_entry 𝓛 called.signature κs qs a (before ∷ [], (number ∷ [], (bytes ∷ [], tt))))
        (WpFn 𝓤 H C Λ code.function (before ∷ number ∷ bytes ∷ [])
        ((walk_of 𝓛 called.ended stayed (called.clauses 𝓛 mem run)).post bound))
    walk room fits =
        qed 𝓛 (raw (alive 𝓛 called.signature κs qs) ∷ ‵ passed ∷ []) ∵ enter ! C Λ code.function
        (before ∷ number ∷ bytes ∷ []) _ $
        alloc_all ! (λ l. pass_all ! refl (
          (tt, (tt, (record { fits = room }, tt))),
          ((tt, tt), ((tt, (tt, (record { fits = fits }, tt))), tt)),
        ) $ sets ! (agg ! (no_more !)) refl (tt, tt) $
        returns ! (look_at ! 0 refl) $ free_all ! refl $
        suffices ! _ (ends_at 𝓛 called.ended stayed (called.clauses 𝓛 mem run) bound (vstruct vnil) made
        (tt, (tt, (tt, tt))) (tt, (tt, (tt, tt)))) $
        says ! (refl, refl, refl) $ pure_i ! (past.the_row.own_val made (vstruct vnil ∷ [])) ((λ vss. (tt, tt)), tt)
        ((tt, (refl, tt)), tt) $
        move ! (1 ∷ 2 ∷ 0 ∷ []) $ done !)

  walks : Walks 𝓛 called.ended stayed (WpFn 𝓤 H C Λ code.function) (called.clauses 𝓛 mem run)
  walks =
      walked 𝓛 called.ended stayed (called.clauses 𝓛 mem run) (WpFn 𝓤 H C Λ code.function)
      (λ κs. (shr_slice_vals, (shr_vals, (shr_slice_vals, tt))))
      (λ κs. (
        shr_slice_Tells (named 0) κs.0 past.the_row,
        (shr_Tells (named 1) κs.1.0 u64, (shr_slice_Tells (named 2) κs.1.1.0 u8, tt)),
      ))
      (λ κs qs bounds a g are. via 𝓤 _ (fst∗ 𝓤 _ (emp 𝓤)) (walk κs qs a g are.0.0.1.0 are.1.1.0.0.1.0))

meets : {M : Type 1} {𝓤 : Ura M} (𝓛 : Logic 𝓤) (mem : Memory → SProp 𝓤) (run : Routine → Fun 𝓤) (𝓣 : Tables 𝓤 𝓛.H)
    → Meets 𝓛 called.signature (WpFn 𝓤 𝓛.H 𝓣.C 𝓣.Λ code.function) (called.spec 𝓛 mem run)
meets {𝓤 = 𝓤} 𝓛 mem run 𝓣 =
    walk_Meets 𝓛 called.ended stayed (
      Goes-none_slice 𝓛 3 (0 ∷ []) tt (plain (λ _. past.the_row)) yes,
      (
        Goes-none_ref 𝓛 3 (1 ∷ []) tt (plain (λ _. u64)) yes,
        (Goes-none_slice 𝓛 3 (2 ∷ []) tt (plain (λ _. u8)) yes, tt),
      ),
    ) (called.clauses 𝓛 mem run) (WpFn 𝓤 𝓛.H 𝓣.C 𝓣.Λ code.function)
    (WpFn-mono 𝓤 𝓛.H 𝓛.laws 𝓣 code.function) (walks 𝓛 mem run 𝓣.C 𝓣.Λ)

pub holding_spec : {M : Type 1} → stated.statement M
unfolding tables_of
holding_spec 𝓤 𝓛 𝓜 𝓡 wired =
    entered 𝓤 𝓛.H (triple_of 𝓛 called.signature (called.spec 𝓛 𝓜.mem 𝓡.returns))
    (tables 𝓤 𝓛.H 𝓜 𝓡 𝓡.env).C (tables 𝓤 𝓛.H 𝓜 𝓡 𝓡.env).Λ key code.function (code.unfolded 𝓤 𝓛.H 𝓜 𝓡 wired)
    (meets 𝓛 𝓜.mem 𝓡.returns (tables_of 𝓤 𝓛.H 𝓜 (tables 𝓤 𝓛.H 𝓜 𝓡 𝓡.env)))
