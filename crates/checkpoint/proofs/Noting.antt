-- Notes that are taken of the dirty entries of some pages, joined and narrowed.
use Rattle.std.proofs.Common.{arith, ℕ, ◌≡◌, ◌⊎◌, ◌↔◌, ◌<◌, Bool, true, false, List, [], ◌∷◌, ◌++◌, Contains}
use Rattle.std.proofs.Common.{length, set, get_or, Some, None, refl, sym, ap, subst, ◌∙◌, inl, inr, ⊎_elim}
use Rattle.std.proofs.lemmas.Bool.{cases_eq, true_from_ne_false, false≢true}
use Rattle.std.proofs.lemmas.List.Elements.{Contains-push, Contains-push_cases, Contains-append_left}
use Rattle.std.proofs.lemmas.List.{get_or-set_same, get_or-set_other, length-set}
use Rattle.std.specs.FinMap as maps
use Rattle.page_entry.specs.Entry.{Mapped, is_dirty}
use Rattle.spaces.specs.Spaces.{Spaces, AddressSpace, has_space, entry_at}
use Rattle.spaces.proofs.SpacesLaws.{space_at-missing, get-empty_entries}
use Rattle.checkpoint.specs.Checkpoint.{HasDirtyEntry, IsInSpace}
use Rattle.checkpoint.specs.inside.Notes.{AreNoted, IsAnyPage}

-- a dirty entry of a page that is one of those too
pub HasDirtyEntry-at : {spaces : Spaces} {among other : ℕ → ℕ → Type 0} {frame : ℕ}
    → (d : HasDirtyEntry spaces among frame) → other d.pcid d.page → HasDirtyEntry spaces other frame
HasDirtyEntry-at d there = record {
  pcid = d.pcid;
  page = d.page;
  there = there;
  entry = d.entry;
  present = d.present;
  same_frame = d.same_frame;
  dirty = d.dirty;
}

-- a dirty entry of one of these pages is one of those pages too
HasDirtyEntry-among : {spaces : Spaces} {among other : ℕ → ℕ → Type 0} {frame : ℕ}
    → ((pcid page : ℕ) (entry : Mapped) → entry_at spaces pcid page ≡ Some entry
    → entry.dirty ≡ true → among pcid page → other pcid page)
    → HasDirtyEntry spaces among frame
    → HasDirtyEntry spaces other frame
HasDirtyEntry-among of h = HasDirtyEntry-at h (of h.pcid h.page h.entry h.present h.dirty h.there)

-- pages with the same dirty entries
pub AreNoted-as : {spaces : Spaces} {among other : ℕ → ℕ → Type 0} {old new : List Bool}
    → ((pcid page : ℕ) (entry : Mapped) → entry_at spaces pcid page ≡ Some entry
    → entry.dirty ≡ true → among pcid page ↔ other pcid page)
    → AreNoted spaces among old new
    → AreNoted spaces other old new
AreNoted-as same are = record {
  same_length = are.same_length;
  noted = λ frame. (
    λ noted. ⊎_elim inl
        (λ d. inr (HasDirtyEntry-among (λ pcid page entry present dirty. (same pcid page entry present dirty).0) d))
        ((are.noted frame).0 noted),
    λ h. (are.noted frame).1 (⊎_elim inl
        (λ d. inr (HasDirtyEntry-among (λ pcid page entry present dirty. (same pcid page entry present dirty).1) d)) h),
  );
}

-- notes of some pages, and then of others
pub AreNoted-then : {spaces : Spaces} {first second both : ℕ → ℕ → Type 0} {old mid new : List Bool}
    → AreNoted spaces first old mid → AreNoted spaces second mid new
    → ((pcid page : ℕ) → both pcid page ↔ (first pcid page ⊎ second pcid page))
    → AreNoted spaces both old new
AreNoted-then before after is = record {
  same_length = after.same_length ∙ before.same_length;
  noted = λ frame. (
    λ noted. ⊎_elim
        (λ was. ⊎_elim inl (λ d. inr (HasDirtyEntry-among (λ pcid page _ _ _ there. (is pcid page).1 (inl there)) d))
        ((before.noted frame).0 was))
        (λ d. inr (HasDirtyEntry-among (λ pcid page _ _ _ there. (is pcid page).1 (inr there)) d))
        ((after.noted frame).0 noted),
    λ h. (after.noted frame).1 (⊎_elim
        (λ was. inl ((before.noted frame).1 (inl was)))
        (λ d. ⊎_elim
        (λ there. inl ((before.noted frame).1 (inr (HasDirtyEntry-at d there))))
        (λ there. inr (HasDirtyEntry-at d there))
        ((is d.pcid d.page).0 d.there))
        h),
  );
}

-- one page with a dirty entry, whose frame is noted
pub AreNoted-one : (spaces : Spaces) (pcid page : ℕ) (entry : Mapped) (notes : List Bool)
    → entry_at spaces pcid page ≡ Some entry → entry.dirty ≡ true → entry.frame < length notes
    → AreNoted spaces (λ q p. (q ≡ pcid) × (p ≡ page)) notes (set notes entry.frame true)
AreNoted-one spaces pcid page entry notes present dirty within = record {
  same_length = length-set notes entry.frame true;
  noted = λ frame. (
    λ noted. elim (cases_eq frame entry.frame) [
      | inl same ↦ inr (record {
        pcid = pcid;
        page = page;
        there = (refl, refl);
        entry = entry;
        present = present;
        same_frame = sym same;
        dirty = dirty;
      })
      | inr other ↦ inl (sym (get_or-set_other notes entry.frame frame true false other) ∙ noted)
    ],
    λ h. elim (cases_eq frame entry.frame) [
      | inl same ↦ ap (λ f. get_or (set notes entry.frame true) f false) same
          ∙ get_or-set_same notes entry.frame true false within
      | inr other ↦ get_or-set_other notes entry.frame frame true false other ∙ ⊎_elim
          (λ was. was)
          (λ d.
          let one : Some d.entry ≡ Some entry =
          sym d.present
          ∙ (λ i. entry_at spaces (d.there.0 i) (d.there.1 i))
          ∙ present in
          absurd (other (sym d.same_frame ∙ ap (λ (e : Mapped). e.frame) (same_entry d.entry entry one))))
          h
    ],
  );
}
  where
    same_entry : (a b : Mapped) → Some a ≡ Some b → a ≡ b
    same_entry a b e = cc

-- a space that isn't there has no entry
entry_at-no_space : (spaces : Spaces) (pcid page : ℕ) → has_space spaces pcid ≡ false → entry_at spaces pcid page ≡ None
entry_at-no_space spaces pcid page none =
    ap (λ (space : AddressSpace). maps.get space.entries page) (space_at-missing spaces pcid none)
    ∙ get-empty_entries page

-- the entry of a page is present and dirty
pub record IsDirtyAt (spaces : Spaces) (pcid page : ℕ) : Type 0 where
  pub entry : Mapped
  pub present : entry_at spaces pcid page ≡ Some entry
  pub dirty : entry.dirty ≡ true

-- pages of which one more is noted
AreNoted-more : {spaces : Spaces} {before both : ℕ → ℕ → Type 0} (pcid page : ℕ) (old mid new : List Bool)
    → AreNoted spaces before old mid → (d : IsDirtyAt spaces pcid page) → d.entry.frame < length mid
    → new ≡ set mid d.entry.frame true → ((q p : ℕ) → both q p ↔ (before q p ⊎ ((q ≡ pcid) × (p ≡ page))))
    → AreNoted spaces both old new
AreNoted-more {spaces} pcid page old mid new before d within is of =
    AreNoted-then before
    (subst (AreNoted spaces (λ q p. (q ≡ pcid) × (p ≡ page)) mid) (sym is)
    (AreNoted-one spaces pcid page d.entry mid d.present d.dirty within))
    of

-- a walk over pages of a space notes one more
pub AreNoted-walked : (spaces : Spaces) (pcid : ℕ) (walked : List ℕ) (page : ℕ) (old mid new : List Bool)
    → AreNoted spaces (λ q p. (q ≡ pcid) × Contains walked p) old mid
    → (d : IsDirtyAt spaces pcid page) → d.entry.frame < length mid → new ≡ set mid d.entry.frame true
    → AreNoted spaces (λ q p. (q ≡ pcid) × Contains (walked ++ page ∷ []) p) old new
AreNoted-walked spaces pcid walked page old mid new before d within is =
    AreNoted-more pcid page old mid new before d within is
    (λ q p. (
      λ h. ⊎_elim (λ was. inl (h.0, was)) (λ here. inr (h.0, sym here)) (Contains-push_cases walked page p h.1),
      λ h. ⊎_elim (λ was. (was.0, Contains-append_left walked (page ∷ []) p was.1))
          (λ here. (here.0, subst (Contains (walked ++ page ∷ [])) (sym here.1) (Contains-push walked page))) h,
    ))

-- the same of a walk over pages of several spaces
pub AreNoted-came : (spaces : Spaces) (walked : List (ℕ × ℕ)) (pcid page : ℕ) (old mid new : List Bool)
    → AreNoted spaces (λ q p. Contains walked (q, p)) old mid → (d : IsDirtyAt spaces pcid page)
    → d.entry.frame < length mid → new ≡ set mid d.entry.frame true
    → AreNoted spaces (λ q p. Contains (walked ++ (pcid, page) ∷ []) (q, p)) old new
AreNoted-came spaces walked pcid page old mid new before d within is =
    AreNoted-more pcid page old mid new before d within is
    (λ q p. (
      λ h. ⊎_elim (λ was. inl was)
          (λ here. inr (ap (λ (at : ℕ × ℕ). at.0) (sym here), ap (λ (at : ℕ × ℕ). at.1) (sym here)))
          (Contains-push_cases walked (pcid, page) (q, p) h),
      λ h. ⊎_elim (λ was. Contains-append_left walked ((pcid, page) ∷ []) (q, p) was)
          (λ here. subst (Contains (walked ++ (pcid, page) ∷ [])) (λ i. (sym here.0 i, sym here.1 i))
          (Contains-push walked (pcid, page))) h,
    ))

-- or comes to a page without a dirty entry
pub AreNoted-passed : (spaces : Spaces) (walked : List (ℕ × ℕ)) (pcid page : ℕ) (old mid : List Bool)
    → AreNoted spaces (λ q p. Contains walked (q, p)) old mid → is_dirty (entry_at spaces pcid page) ≡ false
    → AreNoted spaces (λ q p. Contains (walked ++ (pcid, page) ∷ []) (q, p)) old mid
AreNoted-passed spaces walked pcid page old mid before clean =
    AreNoted-as (λ q p entry present dirty. (
      λ h. Contains-append_left walked ((pcid, page) ∷ []) (q, p) h,
      λ h. ⊎_elim (λ was. was)
          (λ here.
          let same : entry_at spaces pcid page ≡ Some entry =
          ap (λ (at : ℕ × ℕ). entry_at spaces at.0 at.1) here
          ∙ present in
          absurd (false≢true (sym clean ∙ ap is_dirty same ∙ dirty)))
          (Contains-push_cases walked (pcid, page) (q, p) h),
    )) before

-- an entry stands in a space that is there
pub has_space-entry : (spaces : Spaces) (pcid page : ℕ) (entry : Mapped) → entry_at spaces pcid page ≡ Some entry
    → has_space spaces pcid ≡ true
has_space-entry spaces pcid page entry present =
    true_from_ne_false (has_space spaces pcid) (λ gone. let none =
    entry_at-no_space spaces pcid page gone in absurd (cc))

-- one that isn't there has no dirty entry
pub AreNoted-no_space : (spaces : Spaces) (pcid : ℕ) (notes : List Bool) → has_space spaces pcid ≡ false
    → AreNoted spaces (IsInSpace pcid) notes notes
AreNoted-no_space spaces pcid notes gone = record {
  same_length = refl;
  noted = λ frame. (
    inl,
    λ h. ⊎_elim (λ noted. noted)
        (λ d. absurd (false≢true (sym gone ∙ ap (has_space spaces) (sym d.there)
        ∙ has_space-entry spaces d.pcid d.page d.entry d.present))) h,
  );
}

-- no page yet
pub AreNoted-start : (spaces : Spaces) (notes : List Bool)
    → AreNoted spaces (λ q p. Contains {X = ℕ × ℕ} [] (q, p)) notes notes
AreNoted-start spaces notes = record {
  same_length = refl;
  noted = λ frame. (λ was. inl was, λ h. ⊎_elim (λ was. was) (λ d. absurd (let less = d.there.1 in omega arith)) h);
}

-- the dirty entries of all spaces
pub AreNoted-all : (spaces : Spaces) (old new : List Bool) → length new ≡ length old
    → ((frame : ℕ) → (get_or new frame false ≡ true) ↔ ((get_or old frame false ≡ true) ⊎ ((pcid : ℕ) × (page : ℕ)
    × (entry : Mapped) × (entry_at spaces pcid page ≡ Some entry) × (entry.frame ≡ frame) × (entry.dirty ≡ true))))
    → AreNoted spaces IsAnyPage old new
AreNoted-all spaces old new size noted = record {
  same_length = size;
  noted = λ frame. (
    λ now. ⊎_elim inl (λ d.
        inr (record { pcid = d.0; page = d.1; there = tt; entry = d.2; present = d.3; same_frame = d.4; dirty = d.5 }))
        ((noted frame).0 now),
    λ h. (noted frame).1 (⊎_elim inl (λ d. inr (d.pcid, d.page, d.entry, d.present, d.same_frame, d.dirty)) h),
  );
}

-- a page without a dirty entry has none
pub is_dirty-at : (spaces : Spaces) (pcid page : ℕ) → is_dirty (entry_at spaces pcid page) ≡ true
    → IsDirtyAt spaces pcid page
is_dirty-at spaces pcid page dirty =
    elim (entry_at spaces pcid page)
    as (λ e. entry_at spaces pcid page ≡ e → is_dirty e ≡ true → IsDirtyAt spaces pcid page) [
      | None ↦ λ _ never. absurd (cc)
      | Some entry ↦ λ is dirty. record { entry = entry; present = is; dirty = dirty }
    ] refl dirty
