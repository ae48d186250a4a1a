-- The moves of spaces that are made, and of pages that are mapped.
use Rattle.machine.proofs.Names.{ℕ, ◌≡◌, ◌<◌, ◌-◌, ◌&&◌, not, Bool, true, false, cond, eqb, leb, List, [], ◌∷◌, length}
use Rattle.machine.proofs.Names.{Option, Some, None, Ok, is_some, refl, sym, ap, ◌∙◌, subst, and_parts, leb-false}
use Rattle.machine.proofs.Names.{leb-true, ltb-true, false≢true, Place, Rights, PageRange, Places, allows, is_among}
use Rattle.machine.proofs.Names.{any_mapped, with_range, is_mappable, add_refusal, AddressSpace, Spaces, empty_space}
use Rattle.machine.proofs.Names.{space_at, place_at, with_space, with_mapping, IsLowestFree, judged_mapping}
use Rattle.machine.proofs.Names.{has_space-with_space, space_at-with_space_same, space_at-with_space_other}
use Rattle.machine.proofs.Names.{place_at-create, place_at-with_mapping, entry_at-create, entry_at-with_mapping}
use Rattle.machine.proofs.Names.{AreSpaces-create, AreSpaces-with_mapping, mappable_ends, judged_mapping-ok}
use Rattle.machine.proofs.Names.{Grows-create, Grows-with_mapping, not_free, Coheres-grown, AreBacked-created}
use Rattle.machine.proofs.Names.{AreBacked-with_mapping, State, refuse_if, first_of, mapping_refusal, reason_against}
use Rattle.machine.proofs.Names.{with_spaces, IsSound, Mapping, ChangesPlaces, Move, Remap}
use Rattle.std.specs.FinMap as maps
use Rattle.page_entry.specs.declared.refusal.Refusal.TheVariants as refusals
use Rattle.machine.specs.declared.act.Act.TheVariants as acts
use Rattle.mappings.specs.Places.{advanced}
use Rattle.mappings.proofs.Public.{Decides-any_in_range}
use Rattle.machine.proofs.sound.Lists.{same_some}
use Rattle.machine.proofs.sound.Admitted.{first_none, refuse_none, free_below, unlocked}
use Rattle.machine.proofs.refining.DirtyFrames.{dirty_equal}

-- a space is made, or replaced by one that maps other pages
places_made : (old : Spaces) (pcid : ℕ) (space : AddressSpace) (change : Places → Places)
    → space.places ≡ change (space_at old pcid).places → ChangesPlaces pcid change old (with_space old pcid space)
places_made old pcid space change is = record {
  there = has_space-with_space old pcid space;
  here = ap (λ (x : AddressSpace). x.places) (space_at-with_space_same old pcid space) ∙ is;
  others = λ q other. ap (λ (x : AddressSpace). x.places) (space_at-with_space_other old pcid space q other);
}

-- ---- a space is made

pub create_moves : {disk : List ℕ} (s : State) (p pcid : ℕ) {new : State} → not_free s.hardware.shootdown p ≡ None
    → IsLowestFree s.hardware.spaces pcid → IsSound s
    → new ≡ with_spaces s (with_space s.hardware.spaces pcid empty_space)
    → Move disk s (Mapping pcid (λ places. maps.empty)) new
create_moves s p pcid {new} may lowest sound is =
    let old = s.hardware.spaces in
    let spaces = with_space old pcid empty_space in
    let free = (free_below s.hardware.shootdown p may).1 in
    Remap spaces (record {
      are_spaces = AreSpaces-create old pcid sound.spaces.spaces lowest.small lowest.free;
      coheres = Coheres-grown old spaces s.hardware.shootdown (Grows-create old pcid lowest.free)
          (λ held is. unlocked s.hardware.shootdown.lock held free is) sound.spaces.coheres;
      in_table = λ q page place is.
          sound.spaces.in_table q page place (sym (place_at-create old pcid lowest.free q page) ∙ is);
      prepared = λ held is. unlocked s.hardware.shootdown.lock held free is;
      backed = AreBacked-created s.hardware.memory s.checkpoint old pcid sound.memory.backed;
      observed = places_made old pcid empty_space (λ places. maps.empty) refl;
      done = is;
    }) (λ frame. dirty_equal old spaces s.checkpoint frame (entry_at-create old pcid lowest.free))

-- ---- pages are mapped

-- what holds where a mapping isn't refused
pub record MayMap (s : State) (p pcid file : ℕ) (prot access : Rights) (pages : PageRange × ℕ) : Type 0 where
  pub free : not_free s.hardware.shootdown p ≡ None
  pub file_there : file < length s.table.files
  pub added : add_refusal (space_at s.hardware.spaces pcid).places pages.0
      (record { file = file; page = pages.1; rights = prot; access = access }) ≡ None

pub map_admitted : (s : State) (p pcid va len file offset : ℕ) (prot access : Rights) (pages : PageRange × ℕ)
    → reason_against s p (acts.Map pcid va len file offset prot access) ≡ None
    → judged_mapping s.hardware.spaces pcid va len offset ≡ Ok pages → MayMap s p pcid file prot access pages
map_admitted s p pcid va len file offset prot access pages none judged =
    let past = refuse_if (leb (length s.table.files) file) refusals.NoFile in
    let adding = add_refusal (space_at s.hardware.spaces pcid).places pages.0
    (record { file = file; page = pages.1; rights = prot; access = access }) in
    let parts = first_none (not_free s.hardware.shootdown p)
    (mapping_refusal s pcid file prot access (judged_mapping s.hardware.spaces pcid va len offset) ∷ []) none in
    let here : first_of (past ∷ adding ∷ []) ≡ None =
    sym (ap (mapping_refusal s pcid file prot access) judged) ∙ (first_none
    (mapping_refusal s pcid file prot access (judged_mapping s.hardware.spaces pcid va len offset)) [] parts.1).0 in
    let two = first_none past (adding ∷ []) here in
    record {
      free = parts.0;
      file_there = leb-false (length s.table.files) file
          (refuse_none (leb (length s.table.files) file) refusals.NoFile two.0);
      added = (first_none adding [] two.1).0;
    }

-- no page of it was mapped
none_mapped : (places : Places) (range : PageRange) (place : Place) → add_refusal places range place ≡ None
    → any_mapped places range.first range.count ≡ false
none_mapped places range place none = by (is_mappable range place.page) (allows place.access place.rights)
    (any_mapped places range.first range.count) none
  where
    by : (a b c : Bool)
        → cond (not a) (Some refusals.Einval)
        (cond (not b) (Some refusals.Eacces) (cond c (Some refusals.Overlap) None)) ≡ None
        → c ≡ false
    by true true false e = refl
    by true true true e = absurd (cc)
    by true false c e = absurd (cc)
    by false b c e = absurd (cc)

unmapped_at : (places : Places) (range : PageRange) (page : ℕ) → any_mapped places range.first range.count ≡ false
    → is_among range.first range.count page ≡ true → maps.get places page ≡ None
unmapped_at places range page none among =
    let parts = and_parts _ _ among in
    by (maps.get places page) refl (leb-true range.first page parts.0) (ltb-true page _ parts.1)
  where
    by : (o : Option Place) → maps.get places page ≡ o → Rattle.std.specs.Prelude.◌≤◌ range.first page
        → page < Rattle.std.specs.Prelude.◌+◌ range.first range.count → o ≡ None
    by None at low high = refl
    by (Some place) at low high = absurd (false≢true (sym none
        ∙ (Decides-any_in_range (maps.contains_key places) range.first range.count).1 (page, low, high, ap is_some at)))

pub map_moves : {disk : List ℕ} (s : State) (p pcid va len file offset : ℕ)
    (prot access : Rights) {new : State} (pages : PageRange × ℕ)
    → reason_against s p (acts.Map pcid va len file offset prot access) ≡ None
    → judged_mapping s.hardware.spaces pcid va len offset ≡ Ok pages
    → new ≡ with_spaces s (with_mapping s.hardware.spaces pcid pages.0
    (record { file = file; page = pages.1; rights = prot; access = access })) → IsSound s
    → Move disk s (Mapping pcid (λ places. with_range places pages.0.first pages.0.count
    (record { file = file; page = pages.1; rights = prot; access = access }))) new
map_moves s p pcid va len file offset prot access {new} pages allowed judged done sound =
    let old = s.hardware.spaces in
    let range = pages.0 in
    let place : Place = record { file = file; page = pages.1; rights = prot; access = access } in
    let spaces = with_mapping old pcid range place in
    let may = map_admitted s p pcid va len file offset prot access pages allowed judged in
    let free = (free_below s.hardware.shootdown p may.free).1 in
    let user = (judged_mapping-ok old pcid va len offset pages judged).0 in
    let unmapped = none_mapped (space_at old pcid).places range place may.added in
    Remap spaces (record {
      are_spaces = AreSpaces-with_mapping old pcid range place sound.spaces.spaces user
          (mappable_ends (space_at old pcid).places range place may.added);
      coheres = Coheres-grown old spaces s.hardware.shootdown (Grows-with_mapping old pcid range place)
          (λ held is. unlocked s.hardware.shootdown.lock held free is) sound.spaces.coheres;
      in_table = λ q page other is. in_files q page other (eqb q pcid && is_among range.first range.count page)
          may.file_there (sym (place_at-with_mapping old pcid range place q page) ∙ is);
      prepared = λ held is. unlocked s.hardware.shootdown.lock held free is;
      backed = AreBacked-with_mapping s.hardware.memory s.checkpoint old pcid range place
          (λ page among. unmapped_at (space_at old pcid).places range page unmapped among) sound.memory.backed;
      observed = places_made old pcid
          (record (space_at old pcid) { places = with_range (space_at old pcid).places range.first range.count place })
          (λ places. with_range places range.first range.count place) refl;
      done = done;
    }) (λ frame. dirty_equal old spaces s.checkpoint frame (entry_at-with_mapping old pcid range place))
  where
    in_files : (q page : ℕ) (other : Place) (b : Bool) → file < length s.table.files
        → cond b (Some (advanced (record { file = file; page = pages.1; rights = prot; access = access })
        (page - pages.0.first))) (place_at s.hardware.spaces q page) ≡ Some other
        → other.file < length s.table.files
    in_files q page other true below is = subst (λ (x : Place). x.file < length s.table.files) (same_some is) below
    in_files q page other false below is = sound.spaces.in_table q page other is
