-- `admits` and `release` at a call: what each is handed, and what a caller has of it. Assumes `Logic`.
use Rattle.std.proofs.Common.{◌≡◌, ℕ, ◌^◌, ◌<◌, List, [], ◌∷◌, refl, ap, w64}
use mathlib.Core.Bool.{Bool}
use seplogic.Ra.Ura.{Ura}
use mir.Val.{Val, vunit, vbool, vint, vptr}
use base.Logic.{SProp, ent, sep, ex, guard, id⊢}
use base.Fml.{Lft, Share, ftrue, fsep, flft}
use prog.Memory.{Memory}
use prog.Routine.{Routine}
use types.Logic.{Logic, sem}
use contract.Monad.{Fun}
use types.Kit.{‵, ◌⊛◌, some, later, ◌$◌, ◌∵◌, !, qed, move, keep, use1, split, join, pick}
use types.Kit.{show, fjoin, feq_i, flt_i, feq_l, check, await, updating, now as at_once, done}
use denote.RattleType.{RattleType}
use denote.Memory.{hidden_shr}
use denote.Builtin.{unit, bool}
use denote.Steps.{nothing, only}
use denote.Triple.Statement.{Contract}
use denote.Triple.Spec.{triple_of}
use Rattle.counting_alloc.specs.contracts.Counts as CO
use Rattle.counting_alloc.specs.contracts.admits as AD
use Rattle.counting_alloc.specs.contracts.release as RE

abbrev Counts : RattleType
Counts = CO.the_row

module _ {M : Type 1} {𝓤 : Ura M} (𝓛 : Logic 𝓤) (at_mem : Memory → SProp 𝓤) (run : Routine → Fun 𝓤) where
  abbrev pub Admits : Contract 𝓤
  Admits = triple_of 𝓛 AD.signature (AD.spec 𝓛 at_mem run)

  abbrev pub Release : Contract 𝓤
  Release = triple_of 𝓛 RE.signature (RE.spec 𝓛 at_mem run)

  abbrev pub at_admits : Lft → Share → ℕ × ℕ → Counts.Denot → ℕ → Admits.Ghost
  at_admits κ q c x n = (
    ((κ, tt), (q, tt), tt, (record { ref_ptr = c; now = x }, (n, tt)), (vptr c.0 c.1 ∷ [], (vint w64 n ∷ [], tt))),
    tt,
  )

  abbrev pub at_release : Lft → Share → ℕ × ℕ → Counts.Denot → ℕ → Release.Ghost
  at_release κ q c x n = (
    ((κ, tt), (q, tt), tt, (record { ref_ptr = c; now = x }, (n, tt)), (vptr c.0 c.1 ∷ [], (vint w64 n ∷ [], tt))),
    tt,
  )

module _ {M : Type 1} {𝓤 : Ura M} (𝓛 : Logic 𝓤) (at_mem : Memory → SProp 𝓤) (run : Routine → Fun 𝓤) (κ : Lft)
    (q : Share) (c : ℕ × ℕ) (x : Counts.Denot) (n : ℕ) where
  open 𝓛 use {H, A}

  pub Admits-goes : n < 2 ^ 64
      → ent 𝓤 (sep 𝓤 (sem 𝓛 (hidden_shr Counts κ x c.0 c.1)) (A.lft κ q))
      ((Admits 𝓛 at_mem run).pre (at_admits 𝓛 at_mem run κ q c x n))
  Admits-goes fn =
      qed 𝓛 (‵ (hidden_shr Counts κ x c.0 c.1) ∷ ‵ (flft κ q) ∷ []) ∵ nothing ! $ flt_i ! n (2 ^ 64) fn $
      feq_i ! (List Val) (vint w64 n ∷ []) (vint w64 n ∷ []) refl $ fjoin ! $ fjoin ! $
      move ! (1 ∷ []) $ feq_i ! (List Val) (vptr c.0 c.1 ∷ []) (vptr c.0 c.1 ∷ []) refl $ fjoin ! $ fjoin ! $
      nothing ! $ move ! (2 ∷ []) $ join ! $ join ! $ nothing ! $ move ! (1 ∷ []) $ join ! $ done !

  pub Release-goes : n < 2 ^ 64
      → ent 𝓤 (sep 𝓤 (sem 𝓛 (hidden_shr Counts κ x c.0 c.1)) (A.lft κ q))
      ((Release 𝓛 at_mem run).pre (at_release 𝓛 at_mem run κ q c x n))
  Release-goes = Admits-goes

  pub Admits-gives : (v : Val)
      → ent 𝓤 ((Admits 𝓛 at_mem run).post (at_admits 𝓛 at_mem run κ q c x n) v)
      (H.⇛ (ex 𝓤 (λ (y : Bool). guard 𝓤 (v ≡ vbool y) (A.lft κ q))))
  Admits-gives v =
      qed 𝓛 (types.Kit.raw ((Admits 𝓛 at_mem run).post (at_admits 𝓛 at_mem run κ q c x n) v) ∷ []) ∵ updating ! $
      use1 𝓛 (later (some (λ (r : Bool). ((‵ (flft κ q) ⊛ ‵ ftrue) ⊛ ‵ (bool.own_val r (v ∷ [])))
      ⊛ some (λ (ws : Unit {0} × (Unit {0} × Unit {0})). ‵ (fsep ftrue (fsep ftrue ftrue)) ⊛ ‵ ftrue)))) (id⊢ 𝓤 _) $
      await ! tt $ pick ! (λ r.
      split ! $ split ! $ move ! (1 ∷ []) $ feq_l ! (λ e. split ! $ at_once ! $
      show ! (λ (y : Bool). guard 𝓤 (v ≡ vbool y) (A.lft κ q)) r $ check ! (ap only e) $ keep ! (0 ∷ []) $ done !))

  pub Release-gives : (v : Val)
      → ent 𝓤 ((Release 𝓛 at_mem run).post (at_release 𝓛 at_mem run κ q c x n) v)
      (H.⇛ (guard 𝓤 (v ≡ vunit) (A.lft κ q)))
  Release-gives v =
      qed 𝓛 (types.Kit.raw ((Release 𝓛 at_mem run).post (at_release 𝓛 at_mem run κ q c x n) v) ∷ []) ∵ updating ! $
      use1 𝓛 (later (some (λ (r : Unit {0}). ((‵ (flft κ q) ⊛ ‵ ftrue) ⊛ ‵ (unit.own_val r (v ∷ [])))
      ⊛ some (λ (ws : Unit {0} × (Unit {0} × Unit {0})). ‵ (fsep ftrue (fsep ftrue ftrue)) ⊛ ‵ ftrue)))) (id⊢ 𝓤 _) $
      await ! tt $ pick ! (λ r.
      split ! $ split ! $ move ! (1 ∷ []) $
      feq_l ! (λ e. split ! $ at_once ! $ check ! (ap only e) $ keep ! (0 ∷ []) $ done !))
