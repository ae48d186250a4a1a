-- Works that were asked of a device in two parts.
use Rattle.std.proofs.Common.{◌≡◌, ◌⊎◌, inl, inr, Bool, true, false, List, [], ◌∷◌, ◌++◌, refl, subst}
use Rattle.device.specs.Work.{Work}
use Rattle.device.specs.declared.device.Device.{Ghosts}
use Rattle.new_volume.specs.Formatting.{DidAll}

module _ {D : Type 0} (disk : Ghosts D) where
  pub did_then : (first second : List Work) (done : Bool) (old mid new : D) → DidAll disk old first true mid
      → DidAll disk mid second done new → DidAll disk old (first ++ second) done new
  did_then [] second done old mid new was did =
      let P : D → Type 0 = λ d. DidAll disk d second done new in subst P was.1 did
  did_then (work ∷ works) second done old mid new (inl failed) did = absurd (cc)
  did_then (work ∷ works) second done old mid new (inr was) did =
      inr (was.0, was.1, did_then works second done was.0 mid new was.2 did)

  pub did_short : (first second : List Work) (old new : D) → DidAll disk old first false new
      → DidAll disk old (first ++ second) false new
  did_short [] second old new was = absurd (cc)
  did_short (work ∷ works) second old new (inl failed) = inl failed
  did_short (work ∷ works) second old new (inr was) = inr (was.0, was.1, did_short works second was.0 new was.2)

  pub did_split : (first second : List Work) (done : Bool) (old new : D) → DidAll disk old (first ++ second) done new
      → ((done ≡ false) × DidAll disk old first false new)
      ⊎ ((mid : D) × DidAll disk old first true mid × DidAll disk mid second done new)
  did_split [] second done old new did = inr (old, (refl, refl), did)
  did_split (work ∷ works) second done old new (inl failed) = inl (failed.0, inl (refl, failed.1))
  did_split (work ∷ works) second done old new (inr did) = elim (did_split works second done did.0 new did.2) [
    | inl short ↦ inl (short.0, inr (did.0, did.1, short.1))
    | inr rest ↦ inr (rest.0, inr (did.0, did.1, rest.1), rest.2)
  ]
