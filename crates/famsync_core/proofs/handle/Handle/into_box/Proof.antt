-- `into_box` makes a box of a handle's address and allocator, by `Box::from_raw`.
use Rattle.std.proofs.Common.{◌≡◌, List, [], ◌∷◌, ◌++◌, refl, sym, ap, subst}
use mir.Val.{Val, vptr}
use base.Logic.{SProp, ent, emp, id⊢}
use base.Fml.{ftrue, fsep, flft}
use base.Fraction.{full_share}
use prog.Wp.{WpFn}
use prog.Routine.{Env}
use prog.Wired.{Wired, node, end}
use types.Kit.{‵, raw, ◌⊛◌, some, later, at_ret, ◌$◌, ◌∵◌, !, qed, by, move, keep, drop, split}
use types.Kit.{split3, join, fsplit, fjoin, fjoin3, pick, suffices, use0, use1, await, rewrite, feq_i}
use types.Run.{stop, fld, of_opd, no_more, and_then, first, blocks, exec, returns, enter}
use types.ByLocal.{alloc_all, pass_all, free_all, look_at, get, get_in, sets, lands_last, env}
use types.Part.{sub, whole}
use types.Tokens.{lft_new}
use contract.BorrowLft.{◌⊑◌, ⊑_static}
use contract.Lifetimes.{Lfts}
use contract.Monad.{fact, fact_i}
use contract.Running.{tables}
use denote.Exit.{yes}
use denote.Param.{layout}
use denote.Param.NoDrop as nodrop
use denote.RawPtr.{block_ptr}
use denote.Signature.{plain}
use denote.Steps.{nothing, only, heard}
use denote.Triple.Call.{calls_at_last}
use denote.Triple.Clauses.{Lasts, lasts}
use denote.Triple.Spec.{triple_of}
use denote.Triple.Walked.{Stays, stay_dropped, walk_of, Goes-dropped}
use Rattle.core.proofs.alloc.Shapes.{after}
use Rattle.core.proofs.atomic.Steps.{fm}
use Rattle.core.proofs.cell.Inside.{Good}
use Rattle.std.proofs.impls.GlobalAllocator.TheImpl.Met.{passed}
use Rattle.std.proofs.raw_atomic.Walks.{proved_at, leaves}
use Rattle.std.specs.contracts.impls.GlobalAllocator.TheImpl.{ghosts, dict}
use Rattle.std_alloc.proofs.BoxSteps.Form.{word, box_typed}
use Rattle.std_alloc.proofs.BoxSteps.Steps.{box_out, box_in}
use Rattle.std_alloc.proofs.boxed.Box.from_raw.Met.{met}
use Rattle.std_alloc.specs.contracts.boxed.Box.from_raw as from_raw
use Rattle.famsync_core.proofs.Boxed.{HandleRow, BoxRow, StateArg, GlobalArg, no_drop, state_box}
use Rattle.famsync_core.proofs.Destruct++none.drop.Code as none_code
use Rattle.famsync_core.proofs.Opened.{handle_opens}
use Rattle.famsync_core.proofs.handle.Handle.into_box.Code as code
use Rattle.famsync_core.proofs.handle.Handle.into_box.Statement.{statement}
use Rattle.famsync_core.specs.contracts.handle.Handle.into_box.{ended, clauses}
use Rattle.famsync_core.specs.contracts.handle.Handle.into_box.Key.{name as #self}

-- The code that drops the allocator is the code of doing nothing.
drop_is_none : (γ : Env) → Wired γ none_code.code
    → Wired γ (node (("famsync_core::Destruct++none::drop", nodrop.function) ∷ []) [] end)
unfolding none_code.code
drop_is_none γ wired = wired

-- A handle is used up.
abbrev stayed : Stays ended.signature.params ended.kept
stayed = (stay_dropped (plain (λ _. HandleRow)) yes, tt)

pub into_box_spec : {M : Type 1} → statement M
into_box_spec {M} 𝓤 𝓛 𝓜 𝓡 wired =
    let 𝓣 = tables 𝓤 𝓛.H 𝓜 𝓡 𝓡.env in
    let c = clauses 𝓛 𝓜.mem 𝓡.returns in
    let fn = code.function in
    let B = BoxRow in
    -- the call: its contract, and that the code of `from_raw` meets it here
    let call = triple_of 𝓛 (from_raw.signature StateArg GlobalArg ghosts dict no_drop)
    (from_raw.spec StateArg GlobalArg ghosts dict no_drop 𝓛 𝓜.mem 𝓡.returns) in
    let parts = from_raw.ended StateArg GlobalArg ghosts dict no_drop in
    let allocs = passed 𝓡.env (code.calls-std_heap::GlobalAllocator::allocate 𝓡.env wired)
    (code.calls-std_heap::GlobalAllocator::deallocate 𝓡.env wired)
    (code.calls-std_heap::GlobalAllocator::grow 𝓡.env wired)
    (code.calls-std_heap::GlobalAllocator::shrink 𝓡.env wired) M 𝓤 𝓛 𝓜 𝓡 in
    let drops = nodrop.glues "famsync_core::Destruct++none::drop" 𝓡.env
    (drop_is_none 𝓡.env (code.calls-famsync_core::Destruct++none::drop 𝓡.env wired))
    GlobalArg state_box.al.laws M 𝓤 𝓛 𝓜 𝓡 in
    let meets = met 𝓤 𝓛 𝓜 𝓡 (code.calls-std_alloc::boxed::Box::from_raw 𝓡.env wired) StateArg GlobalArg
    state_box.laws state_box.al.laws ghosts dict no_drop allocs drops in
    proved_at 𝓛 ended stayed c 𝓜 𝓡 (Goes-dropped 𝓛 0 (plain (λ _. HandleRow)) yes (λ κs x w. refl), tt) #self fn
    (code.unfolded 𝓤 𝓛.H 𝓜 𝓡 wired) (λ z are.
    let d = z.0.3.0 in
    let Post : Val → SProp 𝓤 = (walk_of 𝓛 ended stayed c).post z in
    let Run : List Val → SProp 𝓤 = λ ws. WpFn 𝓤 𝓛.H 𝓣.C 𝓣.Λ fn ws Post in
    qed 𝓛 ((‵ ftrue ⊛ ‵ (fsep (HandleRow.own_val d z.0.4.0) ftrue)) ∷ ‵ ftrue ∷ []) ∵
    split ! $ drop ! $ fsplit ! $ handle_opens ! d z.0.4.0 (λ b o bytes place is fits. keep ! (0 ∷ 1 ∷ []) $
    -- [what a box at the address owns; the allocator]
    let w : Val = word state_box bytes b o in
    let typed = box_typed state_box bytes b o fits in
    suffices ! (Run (w ∷ [])) (subst (λ (us : List Val). ent 𝓤 (Run (w ∷ [])) (Run us)) (sym (λ i. is i ++ []))
    (id⊢ 𝓤 (Run (w ∷ [])))) $
    enter ! 𝓣.C 𝓣.Λ fn (w ∷ []) Post $ alloc_all ! (λ l. pass_all ! refl (typed, tt) $
    let Env' = env fn.locals l in
    sets ! (of_opd ! (get_in ! (fld ! refl (stop !)) (sub ! 0 refl (whole !)))) refl (tt, tt) $
    sets ! (of_opd ! (get_in ! (fld ! refl (stop !)) (sub ! 1 refl (whole !)))) refl fits $
    first ! $ blocks ! $ sets ! (of_opd ! (get ! refl)) refl (tt, tt) $
    -- the call has a lifetime for each of its two type parameters
    lft_new ! tt (λ α. lft_new ! tt (λ β. let κs : Lfts 2 = (α ∷ [], (β ∷ [], tt)) in
    let state_lives = κs.0 ⊑ StateArg.lives in
    let global_lives = κs.1.0 ⊑ GlobalArg.lives in
    let tokens = ‵ (flft (α ∷ []) full_share) ⊛ ‵ (flft (β ∷ []) full_share) ⊛ ‵ ftrue in
    let y : call.Ghost = (
      (
        κs,
        (full_share, (full_share, tt)),
        tt,
        (d.alloc, (block_ptr b o, tt)),
        (bytes ∷ [], (vptr b o ∷ [], tt)),
      ),
      d.state,
    ) in
    nothing ! $ move ! (1 ∷ 0 ∷ []) $ join ! $ move ! (1 ∷ 0 ∷ []) $ join ! $ move ! (1 ∷ 2 ∷ 0 ∷ []) $
    use0 𝓛 (raw (fact 𝓤 global_lives)) (fact_i 𝓤 global_lives (emp 𝓤) (⊑_static κs.1.0)) $ join ! $
    use0 𝓛 (raw (fact 𝓤 state_lives)) (fact_i 𝓤 state_lives (emp 𝓤) (⊑_static κs.0)) $ join ! $
    nothing ! $ feq_i ! (List Val) (vptr b o ∷ []) (vptr b o ∷ []) refl $ move ! (3 ∷ 0 ∷ 1 ∷ []) $ fjoin3 ! $
    move ! (2 ∷ 0 ∷ []) $ join ! $ join ! $ use1 𝓛 (raw (call.pre y)) (id⊢ 𝓤 _) $
    calls_at_last ! (fm 𝓛 𝓜 𝓡) call meets y (and_then ! (get ! refl) (and_then ! (get ! refl) (no_more !))) (λ u.
    -- [the tokens and the box; what its contract ensures]
    use1 𝓛 (later (some (λ (r : B.Denot). (tokens ⊛ ‵ (B.own_val r (u ∷ [])))
    ⊛ some (λ (ls : Lasts parts κs y.0.3). ‵ (lasts parts κs y.0.3 ls)
    ⊛ (raw (fact 𝓤 (r.value ≡ d.state)) ⊛ raw (fact 𝓤 (r.alloc ≡ d.alloc))))))) (id⊢ 𝓤 (call.post y u)) $
    await ! tt $ pick ! (λ r. split ! $ move ! (1 ∷ []) $ pick ! (λ _. split3 ! $ drop ! $
    heard ! (r.value ≡ d.state) (λ same. drop ! $ split ! $ drop ! $
    box_out state_box ! r (u ∷ []) (λ b' o' bytes' place' us fits'. box_in state_box ! r b' o' r.value place' refl $
    rewrite ! 0 (λ (xs : List Val). ‵ (B.own_val r xs)) (sym us) refl $
    let good : Good (layout B) u =
    subst (Good (layout B)) (sym (ap only us)) (box_typed state_box bytes' b' o' fits') in
    lands_last ! refl good $ exec ! 𝓣.C 𝓣.Λ Env' (after 3 fn.body) (at_ret Env' Post) $
    sets ! (of_opd ! (get ! refl)) refl good $
    use0 𝓛 (raw (fact 𝓤 (r.value ≡ d.state))) (fact_i 𝓤 (r.value ≡ d.state) (emp 𝓤) same) $
    nothing ! $ nothing ! $ fjoin ! $ nothing ! $ returns ! (look_at ! 0 refl) $ free_all ! refl $
    keep ! (0 ∷ 1 ∷ 3 ∷ 2 ∷ []) $ by ! (leaves 𝓛 ended stayed c z u r (tt, tt) (tt, tt))))))))))))
