-- A handle by value, taken apart. Assumes `Logic`.
use Rattle.std.proofs.Common.{◌≡◌, ℕ, List, [], ◌∷◌, ◌++◌, subst}
use seplogic.Ra.Ura.{Ura}
use mir.Raw.{raw as bare}
use mir.Val.{Val, vstruct, of_list}
use base.Logic.{never, fst∗}
use types.Logic.{Logic, sem}
use types.Kit.{Item, Goal, Seq, ‵, ◌$◌, move, drop, fsplit, fpick, feq_l}
use denote.Memory.{lone}
use denote.RawPtr.{Ptr, block_ptr, null_ptr, ptr_val, in_a_block}
use Rattle.core.proofs.alloc.Calls.{Fits, handle_tells}
use Rattle.std.specs.contracts.impls.GlobalAllocator.TheImpl.{ghosts}
use Rattle.std_alloc.proofs.BoxSteps.Form.{word}
use Rattle.std_alloc.specs.Box.Ownership.{box_owns}
use Rattle.famsync_core.proofs.Boxed.{HandleRow, GlobalArg, state_box}
use Rattle.famsync_core.specs.contracts.state.State as state

module _ {M : Type 1} {𝓤 : Ura M} {𝓛 : Logic 𝓤} {K : Type 0} {Γ : List (Item 𝓤)} {G : Goal 𝓤 𝓛.H} where
  -- What a handle owns is a word, made of the address of a block and of the allocator's bytes; and beside the allocator
  -- what a box at that address owns.
  pub handle_opens : K → (d : HandleRow.Denot) (vs : List Val)
      → ((b o : ℕ) (bytes : Val) → d.at ≡ block_ptr b o → vs ≡ word state_box bytes b o ∷ [] → Fits state_box.al bytes
      → Seq K 𝓛 (‵ (box_owns (ghosts.dealloc_token d.alloc) state.the_row (block_ptr b o) d.state)
      ∷ ‵ (GlobalArg.own_val d.alloc (bytes ∷ [])) ∷ Γ) G)
      → Seq K 𝓛 (‵ (HandleRow.own_val d vs) ∷ Γ) G
  handle_opens t d vs go =
      let Owns = λ (p : Ptr). box_owns (ghosts.dealloc_token d.alloc) state.the_row p d.state in
      let Word = λ (ps ws : List Val). vs ≡ vstruct (of_list (ps ++ (ws ++ []))) ∷ [] in
      fsplit t $ fpick t (λ parts. fsplit t $ feq_l t (λ whole. fsplit t $ feq_l t (λ first. fsplit t $
      handle_tells state_box.al t d.alloc parts.1.0 (λ bytes second fits. move t (1 ∷ []) $ drop t $ move t (1 ∷ []) $
      in_a_block t d.at Owns
      (fst∗ 𝓤 (never 𝓤) (sem 𝓛 (ghosts.dealloc_token d.alloc (bare (lone state.the_row.mir)) null_ptr)))
      (λ b o place. go b o bytes place
      (subst (λ (p : Ptr). Word (ptr_val p ∷ []) (bytes ∷ [])) place
      (subst (λ (ws : List Val). Word (ptr_val d.at ∷ []) ws) second
      (subst (λ (ps : List Val). Word ps parts.1.0) first whole))) fits)))))
