-- The entry of each mapped page of a space can be set without memory, before and after each change of its mappings.
use Rattle.std.proofs.Common.{◌≡◌, ℕ, ◌+◌, ◌-◌, Bool, true, false, cond, Option}
use Rattle.std.proofs.Common.{Some, None, IsSome, refl, ap, subst, ◌∙◌, arith}
use Rattle.std.specs.Option.{option_map}
use Rattle.std.specs.Ordering.{nat_cmp}
use Rattle.std.specs.FinMap as maps
use Rattle.std.specs.FinSet as sets
use Rattle.std.proofs.lemmas.Bool.{false≢true}
use Rattle.std.proofs.lemmas.Bool.Decides.{nat_tests}
use Rattle.page_table.specs.Table.{TableState, is_grown, GrowsOver}
use Rattle.mappings.specs.State.{MappingsState}
use Rattle.mappings.specs.declared.place.Place.{Place}
use Rattle.mappings.specs.declared.place.Rights.{Rights}
use Rattle.mappings.specs.Places.{is_among, advanced, with_range, without_range, with_rights}
use Rattle.mappings.proofs.PlacesLaws.{get-with_range, get-without_range, get-with_rights}
use Rattle.spaces.specs.inside.Slots.{HasRoom}

-- where nothing is mapped
pub room_of_none : (table : TableState) (mappings : MappingsState) → mappings.places ≡ maps.empty
    → HasRoom table mappings
room_of_none table mappings none = λ page some.
    absurd (false≢true (subst IsSome (ap (λ places. maps.get places page) none ∙ maps.get-empty nat_cmp page) some))

module _ (table new : TableState) (mappings fewer : MappingsState) (room : HasRoom table mappings)
    (same : new.grown ≡ table.grown) where
  -- where no other page is mapped
  room_of_fewer : ((page : ℕ) → IsSome (maps.get fewer.places page) → IsSome (maps.get mappings.places page))
      → HasRoom new fewer
  room_of_fewer was = λ page some. ap (λ grown. sets.contains grown page) same ∙ room page (was page some)

  pub room_unmapped : (first count : ℕ) → fewer.places ≡ without_range mappings.places first count → HasRoom new fewer
  room_unmapped first count is = room_of_fewer (λ page some. left (is_among first count page) _
      (subst IsSome (ap (λ places. maps.get places page) is ∙ get-without_range mappings.places first count page) some))
    where
      left : (b : Bool) (o : Option Place) → IsSome (cond b None o) → IsSome o
      left true o h = absurd (false≢true h)
      left false o h = h

  pub room_protected : (first count : ℕ) (rights : Rights)
      → fewer.places ≡ with_rights mappings.places first count rights
      → HasRoom new fewer
  room_protected first count rights is = room_of_fewer (λ page some. was (maps.get mappings.places page) _ (subst IsSome
      (ap (λ places. maps.get places page) is ∙ get-with_rights mappings.places first count rights page) some))
    where
      was : (o : Option Place) (f : Place → Place) → IsSome (option_map f o) → IsSome o
      was None f h = h
      was (Some p) f h = refl

-- where the same pages are mapped
pub room_of_same : (table : TableState) (mappings other : MappingsState)
    → HasRoom table mappings → other.places ≡ mappings.places
    → HasRoom table other
room_of_same table mappings other room same =
    λ page some. room page (subst IsSome (ap (λ places. maps.get places page) same) some)

module _ (first count : ℕ) (place : Place) (table larger : TableState) (mappings more : MappingsState)
    (room : HasRoom table mappings) (grows : GrowsOver first (first + count) table larger) where
  room_grown : HasRoom larger mappings
  room_grown = λ page some. grows.still_grown page (room page some)

  pub room_mapped : more.places ≡ with_range mappings.places first count place → HasRoom larger more
  room_mapped is = λ page some.
      elim (is_among first count page) as (λ b. is_among first count page ≡ b
      → IsSome (cond b (Some (advanced place (page - first))) (maps.get mappings.places page))
      → is_grown larger page ≡ true) [
        | true ↦ λ inside _. grows.range_grown page (grind (arith, nat_tests)) (grind (arith, nat_tests))
        | false ↦ λ _ was. room_grown page was
      ] refl (subst IsSome
      (ap (λ places. maps.get places page) is ∙ get-with_range mappings.places first count place page) some)
