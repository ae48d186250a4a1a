-- Notes of the dirty entries of spaces, slot by slot.
use Rattle.std.proofs.Common.{◌≡◌, ◌⊎◌, ◌↔◌, ℕ, ◌+◌, ◌<◌, Bool, true, false, List, length, get_or}
use Rattle.std.proofs.Common.{Option, Some, None, refl, sym, ap, ◌∙◌, subst, inl, inr, ⊎_elim, arith}
use Rattle.std.proofs.lemmas.Bool.{cases_lt}
use Rattle.std.specs.FinMap as maps
use Rattle.page_entry.specs.Entry.{Mapped}
use Rattle.spaces.specs.Spaces.{AddressSpace, SpacesState, entry_at}
use Rattle.spaces.specs.inside.Slots.{SpaceState, slot_at, spaces_of, MapsDirty, NotesSlot, NotesSlots, AreBelow}
use Rattle.spaces.proofs.SpacesLaws.{get-empty_entries}
use Rattle.spaces.proofs.SlotsLemmas.{found_in_slot, missing_in_slot, slot_at-past}

pub NotesSlot-none : (notes : List Bool) → NotesSlot None notes notes
NotesSlot-none notes = record {
  size = refl;
  noted = λ frame. (λ was. inl was, λ h. ⊎_elim (λ was. was) (λ d. absurd (let none = d.here in cc)) h);
}

pub NotesSlot-some : (s : SpaceState) (old new : List Bool) → length new ≡ length old
    → ((frame : ℕ) → (get_or new frame false ≡ true) ↔ ((get_or old frame false ≡ true) ⊎ ((page : ℕ)
    × (entry : Mapped) × (maps.get s.entries page ≡ Some entry) × (entry.frame ≡ frame) × (entry.dirty ≡ true))))
    → NotesSlot (Some s) old new
NotesSlot-some s old new size noted = record {
  size = size;
  noted = λ frame. (
    λ now. ⊎_elim inl (λ d.
        inr (record { s = s; here = refl; page = d.0; entry = d.1; present = d.2; same_frame = d.3; dirty = d.4 }))
        ((noted frame).0 now),
    λ h. (noted frame).1
        (⊎_elim inl (λ d. inr (d.page, d.entry, in_it d.s d.here d.page d.entry d.present, d.same_frame, d.dirty)) h),
  );
}
  where
    in_it : (t : SpaceState) → Some s ≡ Some t → (page : ℕ) (entry : Mapped) → maps.get t.entries page ≡ Some entry
        → maps.get s.entries page ≡ Some entry
    in_it t same page entry present = (let is : t ≡ s = cc in
        ap (λ (x : SpaceState). maps.get x.entries page) (sym is) ∙ present)

pub NotesSlots-none : (slots : List (Option SpaceState)) (notes : List Bool) → NotesSlots slots 0 notes notes
NotesSlots-none slots notes = record {
  size = refl;
  noted = λ frame. (λ was. inl was, λ h. ⊎_elim (λ was. was) (λ d. absurd (let less = d.1 in omega arith)) h);
}

-- one more slot
pub NotesSlots-more : (slots : List (Option SpaceState)) (pcid : ℕ) (slot : Option SpaceState) (old now new : List Bool)
    → NotesSlots slots pcid old now → slot_at slots pcid ≡ slot → NotesSlot slot now new
    → NotesSlots slots (pcid + 1) old new
NotesSlots-more slots pcid slot old now new done is more = record {
  size = more.size ∙ done.size;
  noted = λ frame. (
    λ noted. ⊎_elim
        (λ was. ⊎_elim inl (λ d. inr (d.0, omega (arith, d.1), d.2)) ((done.noted frame).0 was))
        (λ d. inr (pcid, omega arith, subst (λ (x : Option SpaceState). MapsDirty x frame) (sym is) d))
        ((more.noted frame).0 noted),
    λ h. (more.noted frame).1 (⊎_elim (λ was. inl ((done.noted frame).1 (inl was))) (λ d. part frame d) h),
  );
}
  where
    part : (frame : ℕ) → (q : ℕ) × (q < pcid + 1) × MapsDirty (slot_at slots q) frame
        → (get_or now frame false ≡ true) ⊎ MapsDirty slot frame
    part frame d = elim (cases_lt d.0 pcid) [
      | inl below ↦ inl ((done.noted frame).1 (inr (d.0, below, d.2)))
      | inr above ↦ inr (subst (λ (x : Option SpaceState). MapsDirty x frame)
          (ap (slot_at slots) {x = d.0} {y = pcid} (let less = d.1 in omega arith) ∙ is) d.2)
    ]

-- the entries of the spaces are those of the slots
slot_entry : (slots : List (Option SpaceState)) (pcid page : ℕ) (s : SpaceState) → slot_at slots pcid ≡ Some s
    → entry_at (spaces_of slots) pcid page ≡ maps.get s.entries page
slot_entry slots pcid page s is =
    ap (λ (x : AddressSpace). maps.get x.entries page) (found_in_slot slots pcid s is).same

in_slot : (slots : List (Option SpaceState)) (pcid page : ℕ) (entry : Mapped) (slot : Option SpaceState)
    → slot_at slots pcid ≡ slot → entry_at (spaces_of slots) pcid page ≡ Some entry
    → (s : SpaceState) × (slot ≡ Some s) × (maps.get s.entries page ≡ Some entry)
in_slot slots pcid page entry None is there =
    let nothing : entry_at (spaces_of slots) pcid page ≡ None =
    ap (λ (x : AddressSpace). maps.get x.entries page) (missing_in_slot slots pcid is).nothing
    ∙ get-empty_entries page in
    absurd (cc)
in_slot slots pcid page entry (Some s) is there = (s, refl, sym (slot_entry slots pcid page s is) ∙ there)

module _ (slots : List (Option SpaceState)) (t : SpacesState) (is : spaces_of slots ≡ t.map) where
  pub AreBelow-slots : (count : ℕ)
      → ((pcid page : ℕ) (entry : Mapped) → entry_at t.map pcid page ≡ Some entry → entry.frame < count)
      → AreBelow slots count
  AreBelow-slots count below = λ pcid page s entry at present.
      below pcid page entry (ap (λ m. entry_at m pcid page) (sym is) ∙ slot_entry slots pcid page s at ∙ present)

  pub noted_spaces : (old new : List Bool) → NotesSlots slots (length slots) old new → (frame : ℕ)
      → (get_or new frame false ≡ true) ↔ ((get_or old frame false ≡ true) ⊎ ((pcid : ℕ) × (page : ℕ) × (entry : Mapped)
      × (entry_at t.map pcid page ≡ Some entry) × (entry.frame ≡ frame) × (entry.dirty ≡ true)))
  noted_spaces old new notes frame = (
    λ noted. ⊎_elim inl (λ d. let m = d.2 in inr (
      d.0,
      m.page,
      m.entry,
      ap (λ x. entry_at x d.0 m.page) (sym is) ∙ slot_entry slots d.0 m.page m.s m.here ∙ m.present,
      m.same_frame,
      m.dirty,
    )) ((notes.noted frame).0 noted),
    λ h. (notes.noted frame).1 (⊎_elim inl (λ d. inr (listed d.0 d.1 d.2 d.3 d.4 d.5)) h),
  )
    where
      listed : (pcid page : ℕ) (entry : Mapped) → entry_at t.map pcid page ≡ Some entry
          → entry.frame ≡ frame → entry.dirty ≡ true
          → (q : ℕ) × (q < length slots) × MapsDirty (slot_at slots q) frame
      listed pcid page entry there same dirty =
          let at =
          in_slot slots pcid page entry (slot_at slots pcid) refl (ap (λ m. entry_at m pcid page) is ∙ there) in
          let within : pcid < length slots = elim (cases_lt pcid (length slots)) [
            | inl less ↦ less
            | inr past ↦ absurd (let none = slot_at-past slots pcid past in let some = at.1 in cc)
          ] in (
            pcid,
            within,
            record {
              s = at.0;
              here = at.1;
              page = page;
              entry = entry;
              present = at.2;
              same_frame = same;
              dirty = dirty;
            },
          )
