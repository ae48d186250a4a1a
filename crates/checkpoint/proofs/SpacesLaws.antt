-- Entries stay backed where the spaces change.
use Rattle.std.proofs.Common.{ℕ, ◌≡◌, ◌-◌, ◌&&◌, not, Bool, true, false, cond, eqb}
use Rattle.std.proofs.Common.{Option, Some, None, refl, sym, ap, subst, ◌∙◌, inl, inr}
use Rattle.std.specs.Option.{option_map}
use Rattle.std.specs.Ordering.{nat_cmp}
use Rattle.std.specs.FinMap as maps
use Rattle.std.proofs.lemmas.Bool.{cases_eq, cases_Bool, cond-true, cond-false, and_parts, eqb-true, eq-eqb, false≢true}
use Rattle.page_entry.specs.Entry.{Mapped, with_writable_of}
use Rattle.page_entry.specs.declared.numbers.FilePage.{FilePage}
use Rattle.mappings.specs.declared.place.Place.{Place}
use Rattle.mappings.specs.declared.place.Rights.{Rights}
use Rattle.mappings.specs.declared.page_range.PageRange.{PageRange}
use Rattle.mappings.specs.Places.{Places, advanced, is_among, may_write}
use Rattle.mappings.proofs.PlacesLaws.{get-with_rights}
use Rattle.frames.specs.Frames.{FramesState}
use Rattle.spaces.specs.Spaces.{Spaces, AddressSpace, empty_space, space_at, entry_at, place_at, with_space}
use Rattle.spaces.specs.Spaces.{with_entry, with_mapping, without_mapping, EditsEntries, SetsRights}
use Rattle.spaces.specs.Changes.{is_place_of, without_entries_of}
use Rattle.checkpoint.specs.Checkpoint.{CheckpointState, Holds, is_held}
use Rattle.checkpoint.specs.Backing.{AreBacked, page_at}
use Rattle.spaces.proofs.SpacesLaws.{entry_at-with_entry, place_at-with_entry, entry_at-with_mapping}
use Rattle.spaces.proofs.SpacesLaws.{place_at-with_mapping, entry_at-without_mapping, place_at-without_mapping}
use Rattle.spaces.proofs.SpacesLaws.{entry_at-remove, place_at-remove, space_at-with_space}

-- an entry that was there before, with no more rights
pub record IsNarrowed (old : Option Mapped) (new : Mapped) : Type 0 where
  pub was : Mapped
  pub is : old ≡ Some was
  pub same_frame : new.frame ≡ was.frame
  pub still : new.writable ≡ true → was.writable ≡ true

pub IsNarrowed-same : (old : Option Mapped) (new : Mapped) → old ≡ Some new → IsNarrowed old new
IsNarrowed-same old new is = record { was = new; is = is; same_frame = refl; still = λ writable. writable }

-- entries stay backed where each was there before, with no fewer rights, and its page maps what it mapped
pub AreBacked-narrowed : (memory : FramesState) (c : CheckpointState) (old new : Spaces)
    → ((pcid page : ℕ) (entry : Mapped) → entry_at new pcid page ≡ Some entry
    → IsNarrowed (entry_at old pcid page) entry)
    → ((pcid page : ℕ) (entry : Mapped) → entry_at new pcid page ≡ Some entry
    → place_at new pcid page ≡ place_at old pcid page)
    → AreBacked memory c old
    → AreBacked memory c new
AreBacked-narrowed memory c old new narrowed places backed pcid page entry present =
    let from = narrowed pcid page entry present in
    let was = backed pcid page from.was from.is in
    record {
      place = was.place;
      mapped = places pcid page entry present ∙ was.mapped;
      held = subst (λ frame. Holds memory frame (page_at was.place)) (sym from.same_frame) was.held;
      allowed = λ writable. was.allowed (from.still writable);
      thawed = λ writable. was.thawed (from.still writable);
    }

-- what a page's new entry has to be
pub record MayBe (memory : FramesState) (c : CheckpointState) (place : Place) (entry : Mapped) : Type 0 where
  pub held : Holds memory entry.frame (page_at place)
  pub allowed : entry.writable ≡ true → may_write place.rights ≡ true
  pub thawed : entry.writable ≡ true → is_held memory c (page_at place) ≡ false

-- a page gets an entry that is backed
pub AreBacked-with_entry : (memory : FramesState) (c : CheckpointState)
    (spaces : Spaces) (pcid page : ℕ) (place : Place) (entry : Mapped)
    → place_at spaces pcid page ≡ Some place → MayBe memory c place entry → AreBacked memory c spaces
    → AreBacked memory c (with_entry spaces pcid page (Some entry))
AreBacked-with_entry memory c spaces pcid page place entry mapped may backed q p e present =
    elim (cases_Bool (eqb q pcid && eqb p page)) [
      | inl here ↦
          let parts = and_parts (eqb q pcid) (eqb p page) here in
          let space = eqb-true q pcid parts.0 in
          let at_page = eqb-true p page parts.1 in
          let same : entry ≡ e =
          one entry e (sym (cond-true (eqb q pcid && eqb p page) (Some entry) (entry_at spaces q p) here)
          ∙ sym (entry_at-with_entry spaces pcid page (Some entry) q p) ∙ present) in
          let is : MayBe memory c place e = subst (MayBe memory c place) same may in
          record {
            place = place;
            mapped = place_at-with_entry spaces pcid page (Some entry) q p
                ∙ (λ i. place_at spaces (space i) (at_page i))
                ∙ mapped;
            held = is.held;
            allowed = is.allowed;
            thawed = is.thawed;
          }
      | inr elsewhere ↦
          let was = backed q p e
          (sym (cond-false (eqb q pcid && eqb p page) (Some entry) (entry_at spaces q p) elsewhere)
          ∙ sym (entry_at-with_entry spaces pcid page (Some entry) q p) ∙ present) in
          record {
            place = was.place;
            mapped = place_at-with_entry spaces pcid page (Some entry) q p ∙ was.mapped;
            held = was.held;
            allowed = was.allowed;
            thawed = was.thawed;
          }
    ]
  where
    one : (a b : Mapped) → Some a ≡ Some b → a ≡ b
    one a b e = cc

-- pages are mapped that weren't
pub AreBacked-with_mapping : (memory : FramesState) (c : CheckpointState)
    (spaces : Spaces) (pcid : ℕ) (range : PageRange) (place : Place)
    → ((page : ℕ) → is_among range.first range.count page ≡ true → place_at spaces pcid page ≡ None)
    → AreBacked memory c spaces
    → AreBacked memory c (with_mapping spaces pcid range place)
AreBacked-with_mapping memory c spaces pcid range place unmapped backed q p e present =
    let was = backed q p e (sym (entry_at-with_mapping spaces pcid range place q p) ∙ present) in
    elim (cases_Bool (eqb q pcid && is_among range.first range.count p)) [
      | inl here ↦
          let parts = and_parts (eqb q pcid) (is_among range.first range.count p) here in
          let none : place_at spaces q p ≡ None =
          ap (λ k. place_at spaces k p) (eqb-true q pcid parts.0)
          ∙ unmapped p parts.1 in
          absurd (let some = was.mapped in cc)
      | inr elsewhere ↦ record {
        place = was.place;
        mapped = place_at-with_mapping spaces pcid range place q p
            ∙ cond-false (eqb q pcid && is_among range.first range.count p)
            (Some (advanced place (p - range.first))) (place_at spaces q p) elsewhere
            ∙ was.mapped;
        held = was.held;
        allowed = was.allowed;
        thawed = was.thawed;
      }
    ]

-- of what is taken away where a test passes, the rest stays
pub kept_where : {X : Type 0} (b : Bool) (old : Option X) (x : X) → cond b None old ≡ Some x → b ≡ false
kept_where true old x e = absurd (cc)
kept_where false old x e = refl

narrowed_where : (b : Bool) (old now : Option Mapped) (entry : Mapped) → now ≡ cond b None old → now ≡ Some entry
    → (b ≡ false) × IsNarrowed old entry
narrowed_where b old now entry is present =
    let kept = kept_where b old entry (sym is ∙ present) in
    (kept, IsNarrowed-same old entry (sym (cond-false b None old kept) ∙ sym is ∙ present))

-- a range is unmapped
pub AreBacked-without_mapping : (memory : FramesState)
    (c : CheckpointState) (spaces : Spaces) (pcid : ℕ) (range : PageRange)
    → AreBacked memory c spaces
    → AreBacked memory c (without_mapping spaces pcid range)
AreBacked-without_mapping memory c spaces pcid range =
    let gone : ℕ → ℕ → Bool = λ q p. eqb q pcid && is_among range.first range.count p in
    AreBacked-narrowed memory c spaces (without_mapping spaces pcid range)
    (λ q p e present.
    (narrowed_where (gone q p) (entry_at spaces q p) _ e (entry_at-without_mapping spaces pcid range q p) present).1)
    (λ q p e present.
    place_at-without_mapping spaces pcid range q p
    ∙ cond-false (gone q p) None (place_at spaces q p)
    (narrowed_where (gone q p) (entry_at spaces q p) _ e (entry_at-without_mapping spaces pcid range q p) present).0)

-- a space is destroyed
pub AreBacked-remove : (memory : FramesState) (c : CheckpointState) (spaces : Spaces) (pcid : ℕ)
    → AreBacked memory c spaces
    → AreBacked memory c (maps.remove spaces pcid)
AreBacked-remove memory c spaces pcid =
    AreBacked-narrowed memory c spaces (maps.remove spaces pcid)
    (λ q p e present.
    (narrowed_where (eqb q pcid) (entry_at spaces q p) _ e (entry_at-remove spaces pcid q p) present).1)
    (λ q p e present.
    place_at-remove spaces pcid q p
    ∙ cond-false (eqb q pcid) None (place_at spaces q p)
    (narrowed_where (eqb q pcid) (entry_at spaces q p) _ e (entry_at-remove spaces pcid q p) present).0)

-- a space that maps nothing is made, or takes the place of another
pub AreBacked-created : (memory : FramesState) (c : CheckpointState) (spaces : Spaces) (pcid : ℕ)
    → AreBacked memory c spaces
    → AreBacked memory c (with_space spaces pcid empty_space)
AreBacked-created memory c spaces pcid =
    AreBacked-narrowed memory c spaces (with_space spaces pcid empty_space)
    (λ q p e present. (narrowed_where (eqb q pcid) (entry_at spaces q p) _ e (empty_entry q p) present).1)
    (λ q p e present. empty_place q p ∙ cond-false (eqb q pcid) None (place_at spaces q p)
    (narrowed_where (eqb q pcid) (entry_at spaces q p) _ e (empty_entry q p) present).0)
  where
    empty_at : {X : Type 0} (at : AddressSpace → Option X) → at empty_space ≡ None → (q : ℕ)
        → at (space_at (with_space spaces pcid empty_space) q) ≡ cond (eqb q pcid) None (at (space_at spaces q))
    empty_at at none q =
        ap at (space_at-with_space spaces pcid empty_space q)
        ∙ elim (eqb q pcid)
        as (λ b. at (cond b empty_space (space_at spaces q)) ≡ cond b None (at (space_at spaces q))) [
          | true ↦ none
          | false ↦ refl
        ]

    empty_entry : (q p : ℕ)
        → entry_at (with_space spaces pcid empty_space) q p ≡ cond (eqb q pcid) None (entry_at spaces q p)
    empty_entry q p = empty_at (λ (s : AddressSpace). maps.get s.entries p) (maps.get-empty nat_cmp p) q

    empty_place : (q p : ℕ)
        → place_at (with_space spaces pcid empty_space) q p ≡ cond (eqb q pcid) None (place_at spaces q p)
    empty_place q p = empty_at (λ (s : AddressSpace). maps.get s.places p) (maps.get-empty nat_cmp p) q

-- the entries of a page of a file are taken away
pub AreBacked-cleared : (memory : FramesState) (c : CheckpointState) (old new : Spaces) (owner : FilePage)
    → EditsEntries (without_entries_of owner old) old new → AreBacked memory c old
    → AreBacked memory c new
AreBacked-cleared memory c old new owner edits =
    AreBacked-narrowed memory c old new
    (λ q p e present.
    (narrowed_where (is_place_of owner (place_at old q p)) (entry_at old q p) _ e (edits.entries q p) present).1)
    (λ q p e present. ap (λ (places : Places). maps.get places p) (edits.same_places q))

-- an entry whose right to write is taken where a test passes
read_only_where : (b : Bool) (old now : Option Mapped) (entry : Mapped)
    → now ≡ cond b (with_writable_of old false) old → now ≡ Some entry
    → IsNarrowed old entry × (entry.writable ≡ true → b ≡ false)
read_only_where b None now entry is present =
    absurd (let none : now ≡ None = is ∙ nothing b in cc)
  where
    nothing : (b : Bool) → cond b (with_writable_of None false) None ≡ None
    nothing true = refl
    nothing false = refl
read_only_where true (Some was) now entry is present =
    let same : entry ≡ record was { writable = false } =
    one entry (record was { writable = false }) (sym present ∙ is) in
    let never : entry.writable ≡ true → ⊥ =
    λ writable. false≢true (sym (ap (λ (m : Mapped). m.writable) same) ∙ writable) in (
      record {
        was = was;
        is = refl;
        same_frame = ap (λ (m : Mapped). m.frame) same;
        still = λ writable. absurd (never writable);
      },
      λ writable. absurd (never writable),
    )
  where
    one : (a b : Mapped) → Some a ≡ Some b → a ≡ b
    one a b e = cc
read_only_where false (Some was) now entry is present = (IsNarrowed-same (Some was) entry (sym is ∙ present), λ _. refl)

-- the pages of a range get rights, and their entries lose the right to write with them
pub AreBacked-rights_set : (memory : FramesState) (c : CheckpointState)
    (old new : Spaces) (pcid : ℕ) (range : PageRange) (rights : Rights)
    → SetsRights pcid range rights old new → AreBacked memory c old
    → AreBacked memory c new
AreBacked-rights_set memory c old new pcid range rights sets backed q p e present =
    let among = is_among range.first range.count p in
    let change = read_only_where (eqb q pcid && among && not (may_write rights)) (entry_at old q p) (entry_at new q p) e
    (sets.entries q p) present in
    let from = change.0 in
    let was = backed q p from.was from.is in
    let held : Holds memory e.frame (page_at was.place) =
    subst (λ frame. Holds memory frame (page_at was.place)) (sym from.same_frame) was.held in
    let allowed : e.writable ≡ true → may_write was.place.rights ≡ true =
    λ writable. was.allowed (from.still writable) in
    let thawed : e.writable ≡ true → is_held memory c (page_at was.place) ≡ false =
    λ writable. was.thawed (from.still writable) in
    elim (cases_eq q pcid) [
      | inr other ↦ record {
        place = was.place;
        mapped = ap (λ (places : Places). maps.get places p) (sets.other_places q other) ∙ was.mapped;
        held = held;
        allowed = allowed;
        thawed = thawed;
      }
      | inl here ↦
          let placed : place_at new q p ≡ Some (given among was.place) =
          ap (λ k. place_at new k p) here ∙ ap (λ (places : Places). maps.get places p) sets.rights_set
          ∙ get-with_rights (space_at old pcid).places range.first range.count rights p
          ∙ ap (option_map (given among)) (ap (λ k. place_at old k p) (sym here) ∙ was.mapped) in
          elim (cases_Bool among) [
            | inl inside ↦ record {
              place = record was.place { rights = rights };
              mapped = placed ∙ ap (λ b. Some (given b was.place)) inside;
              held = held;
              allowed = λ writable.
                  may (eqb q pcid) among (may_write rights) (eq-eqb q pcid here) inside (change.1 writable);
              thawed = thawed;
            }
            | inr outside ↦ record {
              place = was.place;
              mapped = placed ∙ ap (λ b. Some (given b was.place)) outside;
              held = held;
              allowed = allowed;
              thawed = thawed;
            }
          ]
    ]
  where
    given : Bool → Place → Place
    given b place = cond b (record place { rights = rights }) place

    may : (a b w : Bool) → a ≡ true → b ≡ true → (a && b && not w) ≡ false → w ≡ true
    may a b true x y e = refl
    may a b false x y e = absurd (cc)
