-- The space that a call names, found in its slot.
use Rattle.std.proofs.Common.{ℕ, ◌≡◌, true, List, Option, Some, IsSome, sym, ap, ◌∙◌, subst}
use Rattle.mappings.specs.declared.page_range.PageRange.{PageRange}
use Rattle.mappings.specs.declared.place.Rights.{Rights}
use Rattle.spaces.specs.Spaces.{SpacesState, has_space, place_at}
use Rattle.spaces.specs.Requests.{is_user_space}
use Rattle.spaces.specs.inside.Slots.{SpaceState, spaces_of, IsPrepared, AreSlots}
use Rattle.spaces.proofs.SpacesLaws.{has_space-place_at}
use Rattle.spaces.proofs.AreSpacesLaws.{user_space}

module _ (slots : List (Option SpaceState)) (prepared : Option (ℕ × PageRange × Option Rights)) (self : SpacesState)
    (pcid : ℕ) (view_is : record { map = spaces_of slots; prepared = prepared } ≡ self) where
  -- one that a user made
  module _ (space : is_user_space self.map pcid ≡ true) where
    pub user_in : is_user_space (spaces_of slots) pcid ≡ true
    user_in = subst (λ (s : SpacesState). is_user_space s.map pcid ≡ true) (sym view_is) space

    pub there_in : has_space (spaces_of slots) pcid ≡ true
    there_in = (user_space (spaces_of slots) pcid user_in).1

  -- one with a range that was prepared
  module _ (are : AreSlots slots prepared) (range : PageRange) (rights : Option Rights)
      (is : self.prepared ≡ Some (pcid, range, rights)) where
    pub prepared_in : IsPrepared slots pcid range rights
    prepared_in = are.ready pcid range rights (ap (λ (s : SpacesState). s.prepared) view_is ∙ is)

    pub prepared_there : has_space (spaces_of slots) pcid ≡ true
    prepared_there = (user_space (spaces_of slots) pcid prepared_in.user_space).1

  -- one with a page that is mapped
  module _ (page : ℕ) (mapped : IsSome (place_at self.map pcid page)) where
    pub mapped_in : IsSome (place_at (spaces_of slots) pcid page)
    mapped_in = subst (λ (s : SpacesState). IsSome (place_at s.map pcid page)) (sym view_is) mapped

    pub mapped_there : has_space (spaces_of slots) pcid ≡ true
    mapped_there = has_space-place_at (spaces_of slots) pcid page mapped_in
