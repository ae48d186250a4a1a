-- The moves of changes that are made, but for a mark.
use Rattle.machine.proofs.Names.{⊎_elim, HasDirtyEntry, ℕ, ◌≡◌, ◌≢◌, ◌<◌, ◌&&◌, ◌||◌, Bool, true, false, cond, eqb}
use Rattle.machine.proofs.Names.{List, [], ◌∷◌, length, Option, Some, None, is_some, refl, sym, ap, ◌∙◌, subst, inl}
use Rattle.machine.proofs.Names.{inr, option_map, cases_eq, and_from, eq-eqb, ne_eqb, false≢true, Mapped, FilePage}
use Rattle.machine.proofs.Names.{Place, Places, is_among, without_range, frame_at, page_of, AddressSpace, Spaces}
use Rattle.machine.proofs.Names.{has_space, space_at, entry_at, place_at, without_mapping, is_place_of}
use Rattle.machine.proofs.Names.{without_entries_of, has_space-without_mapping, space_at-with_space_same}
use Rattle.machine.proofs.Names.{space_at-with_space_other, place_at-without_mapping, place_at-SetsRights}
use Rattle.machine.proofs.Names.{place_at-EditsEntries, with_rights_of, AreSpaces-without_mapping, AreSpaces-SetsRights}
use Rattle.machine.proofs.Names.{AreSpaces-EditsEntries, user_space, ChangesOnlyAffected-without_mapping}
use Rattle.machine.proofs.Names.{ChangesOnlyAffected-SetsRights, ChangesOnlyAffected-reclaim, IsNoWider-same_places}
use Rattle.machine.proofs.Names.{IsInRange, page_at, AreBacked-without_mapping, AreBacked-rights_set, AreBacked-cleared}
use Rattle.machine.proofs.Names.{AreBacked-frozen, same_page-true, State, UnmapMade, ProtectMade, ReclaimMade}
use Rattle.machine.proofs.Names.{ReclaimKept, end_change, IsSound, Ending, Changing, Silent, ChangesPlaces, SameDirty}
use Rattle.machine.proofs.Names.{Move, Moves, End, Drop, Change, MayChange, MakesChange}
use Rattle.spaces.specs.declared.change.Change.TheVariants.{SetLength}
use Rattle.spaces.specs.declared.change.Change.TheVariants as changes
use Rattle.machine.proofs.sound.Lists.{same_some, kept_some}
use Rattle.machine.proofs.sound.Ended.{prepared_change}
use Rattle.machine.proofs.sound.Frames.{notes_in_use}
use Rattle.machine.proofs.refining.DirtyFrames.{dirty_at, dirty_rights, dirty_taken, takes_range}

-- the places of a space that is there change so
places_changed : (pcid : ℕ) (change : Places → Places) (old new : Spaces) → has_space old pcid ≡ true
    → ((q : ℕ) → has_space new q ≡ has_space old q)
    → (space_at new pcid).places ≡ change (space_at old pcid).places
    → ((q : ℕ) → q ≢ pcid → (space_at new q).places ≡ (space_at old q).places) → ChangesPlaces pcid change old new
places_changed pcid change old new there same here others =
    record { there = λ q. same q ∙ sym (as_before q); here = here; others = others }
  where
    as_before : (q : ℕ) → (eqb q pcid || has_space old q) ≡ has_space old q
    as_before q = elim (cases_eq q pcid) [
      | inl is ↦ ap (λ b. b || has_space old q) (eq-eqb q pcid is) ∙ sym (ap (has_space old) is ∙ there)
      | inr other ↦ ap (λ b. b || has_space old q) (ne_eqb q pcid other)
    ]

-- what stays where a test doesn't take it away
stays : (b : Bool) (o : Option Mapped) (entry : Mapped) → cond b None o ≡ Some entry → (b ≡ false) × (o ≡ Some entry)
stays true o entry is = absurd (cc)
stays false o entry is = (refl, is)

module _ (disk : List ℕ) (s : State) (p : ℕ) (new : State) (sound : IsSound s) where
  abbrev old : Spaces
  old = s.hardware.spaces

  -- one that leaves lengths alone
  abbrev makes : (change : Change) → ((file to : ℕ) → change ≢ SetLength file to) → MayChange s p change
      → MakesChange s
  makes change other may = record { p = p; change = change; same_lengths = other; may = may }

  pub unmapped_moves : UnmapMade s p new → Move disk s (Changing p) new
  unmapped_moves made =
      let change = changes.Unmap made.pcid made.range in
      let spaces = without_mapping old made.pcid made.range in
      let there = (user_space old made.pcid (prepared_change s p change sound made.may).0).1 in
      End (record {
        made = makes change (λ file to e. cc) made.may;
        spaces = spaces;
        checkpoint = made.checkpoint;
        only = ChangesOnlyAffected-without_mapping old made.pcid made.range;
        wider = record { affected = λ pcid page now. now; touched = λ pcid now. now };
        are_spaces = AreSpaces-without_mapping old made.pcid made.range sound.spaces.spaces there;
        same_spaces = has_space-without_mapping old made.pcid made.range there;
        in_table = λ q page place is.
            sound.spaces.in_table q page place
            (kept_some (eqb q made.pcid && is_among made.range.first made.range.count page)
            (place_at old q page) place (sym (place_at-without_mapping old made.pcid made.range q page) ∙ is));
        same_frozen = made.noted.frozen;
        same_notes = made.noted.same_length;
        noted = notes_in_use s made.checkpoint (IsInRange made.pcid made.range) made.noted sound.memory;
        backed = AreBacked-frozen s.hardware.memory s.checkpoint made.checkpoint spaces made.noted.frozen
            (AreBacked-without_mapping s.hardware.memory s.checkpoint old made.pcid made.range sound.memory.backed);
        dirty = λ frame. dirty_taken (IsInRange made.pcid made.range) old spaces s.checkpoint made.checkpoint frame
            (takes_range old made.pcid made.range) made.noted;
        observed = places_changed made.pcid
            (λ places. without_range places made.range.first made.range.count) old spaces
            there (has_space-without_mapping old made.pcid made.range there)
            (ap (λ (x : AddressSpace). x.places) (space_at-with_space_same old made.pcid _))
            (λ q other. ap (λ (x : AddressSpace). x.places) (space_at-with_space_other old made.pcid _ q other));
        effect_is = refl;
        done = made.done;
      })

  pub protected_moves : ProtectMade s p new → Move disk s (Changing p) new
  protected_moves made =
      let change = changes.Protect made.pcid made.range made.rights in
      let sets = made.rights_set in
      let there = (user_space old made.pcid (prepared_change s p change sound made.may).0).1 in
      End (record {
        made = makes change (λ file to e. cc) made.may;
        spaces = made.spaces;
        checkpoint = s.checkpoint;
        only = ChangesOnlyAffected-SetsRights made.pcid made.range made.rights old made.spaces sets;
        wider = record { affected = λ pcid page now. now; touched = λ pcid now. now };
        are_spaces = AreSpaces-SetsRights made.pcid made.range made.rights old made.spaces sound.spaces.spaces sets;
        same_spaces = sets.same_spaces;
        in_table = λ q page place is. in_files q page place
            (eqb q made.pcid && is_among made.range.first made.range.count page) (place_at old q page) refl
            (sym (place_at-SetsRights made.pcid made.range made.rights old made.spaces sets q page) ∙ is);
        same_frozen = refl;
        same_notes = refl;
        noted = sound.memory.noted;
        backed = AreBacked-rights_set s.hardware.memory s.checkpoint old made.spaces made.pcid made.range made.rights
            sets sound.memory.backed;
        dirty = λ frame. dirty_rights made.pcid made.range made.rights old made.spaces s.checkpoint frame sets;
        observed = places_changed made.pcid _ old made.spaces there sets.same_spaces sets.rights_set sets.other_places;
        effect_is = refl;
        done = made.done;
      })
    where
      in_files : (q page : ℕ) (place : Place) (b : Bool) (o : Option Place) → place_at s.hardware.spaces q page ≡ o
          → cond b (option_map (with_rights_of made.rights) o) o ≡ Some place → place.file < length s.table.files
      in_files q page place true None at e = absurd (cc)
      in_files q page place true (Some was) at e =
          subst (λ (x : Place). x.file < length s.table.files) (same_some e) (sound.spaces.in_table q page was at)
      in_files q page place false o at e = sound.spaces.in_table q page place (at ∙ e)

  pub kept_moves : ReclaimKept s p new → Move disk s (Ending p) new
  kept_moves made = End (record {
    made = makes (changes.Reclaim made.owner) (λ file to e. cc) made.may;
    spaces = old;
    checkpoint = s.checkpoint;
    only = λ pcid page apart. refl;
    wider = record { affected = λ pcid page now. now; touched = λ pcid now. now };
    are_spaces = sound.spaces.spaces;
    same_spaces = λ q. refl;
    in_table = sound.spaces.in_table;
    same_frozen = refl;
    same_notes = refl;
    noted = sound.memory.noted;
    backed = sound.memory.backed;
    dirty = λ frame. (λ d. d, λ d. d);
    observed = record { there = λ q. refl; places = λ q. refl };
    effect_is = refl;
    done = made.done;
  })

  -- ---- a page leaves memory

  module _ (made : ReclaimMade s p new) where
    abbrev maps_it : ℕ → ℕ → Bool
    maps_it pcid page = is_place_of made.owner (place_at old pcid page)

    -- an entry that maps the page maps its frame
    its_frame : (pcid page : ℕ) (entry : Mapped) → entry_at old pcid page ≡ Some entry → maps_it pcid page ≡ true
        → entry.frame ≡ made.frame
    its_frame pcid page entry present maps =
        let is = sound.memory.backed pcid page entry present in
        let same : page_at is.place ≡ made.owner =
        same_page-true (page_at is.place) made.owner (sym (ap (is_place_of made.owner) is.mapped) ∙ maps) in
        sound.memory.memory.one_frame entry.frame made.frame made.owner
        (is.held ∙ ap (λ x. Some x) same) made.leaves.held

    was : (pcid page : ℕ) (entry : Mapped) → entry_at made.spaces pcid page ≡ Some entry
        → (maps_it pcid page ≡ false) × (entry_at old pcid page ≡ Some entry)
    was pcid page entry present =
        stays (maps_it pcid page) (entry_at old pcid page) entry (sym (made.cleared.entries pcid page) ∙ present)

    -- no entry maps the frame any more
    unmapped : (pcid page : ℕ) (entry : Mapped) → entry_at made.spaces pcid page ≡ Some entry → entry.frame ≢ made.frame
    unmapped pcid page entry present same =
        let before = was pcid page entry present in
        let backed = sound.memory.backed pcid page entry before.1 in
        let page_is : page_at backed.place ≡ made.owner =
        same_some (sym backed.held ∙ ap (λ k. page_of (frame_at s.hardware.memory k)) same ∙ made.leaves.held) in
        false≢true (sym before.0 ∙ ap (is_place_of made.owner) backed.mapped
        ∙ and_from (eqb backed.place.file made.owner.file) (eqb backed.place.page made.owner.page)
        (eq-eqb backed.place.file made.owner.file (ap (λ (o : FilePage). o.file) page_is))
        (eq-eqb backed.place.page made.owner.page (ap (λ (o : FilePage). o.page) page_is)))

    -- its frame is clean, so none of these entries is dirty, and the same frames are
    taken_clean : (frame : ℕ) → HasDirtyEntry old (λ pcid page. maps_it pcid page ≡ true) frame → ⊥
    taken_clean frame d =
        let own = its_frame d.pcid d.page d.entry d.present d.there in
        made.leaves.clean (dirty_at old s.checkpoint d.pcid d.page made.frame d.entry d.present own d.dirty)

    same_dirty : SameDirty s made.spaces s.checkpoint
    same_dirty frame =
        dirty_taken (λ pcid page. maps_it pcid page ≡ true) old made.spaces s.checkpoint s.checkpoint frame
        (record { test = maps_it; entries = made.cleared.entries; passes = λ pcid page is. is })
        (record {
          same_length = refl;
          noted = λ k. (λ noted. inl noted, ⊎_elim (λ noted. noted) (λ has. absurd (taken_clean k has)));
          frozen = refl;
        })

    abbrev mid : State
    mid = end_change s p made.spaces s.hardware.memory s.checkpoint

    pub reclaimed_moves : Moves disk s (Ending p ∷ Silent ∷ []) new
    reclaimed_moves = (
      mid,
      End (record {
        made = makes (changes.Reclaim made.owner) (λ file to e. cc) made.may;
        spaces = made.spaces;
        checkpoint = s.checkpoint;
        only = ChangesOnlyAffected-reclaim made.owner old made.spaces made.cleared;
        wider = IsNoWider-same_places (changes.Reclaim made.owner) old made.spaces made.cleared.same_places
            (λ pcid page now. had_entry (maps_it pcid page) (entry_at old pcid page)
            (sym (ap is_some (made.cleared.entries pcid page)) ∙ now));
        are_spaces = AreSpaces-EditsEntries (without_entries_of made.owner old) old made.spaces sound.spaces.spaces
            made.cleared (λ q at. nothing (is_place_of made.owner (place_at old q at)));
        same_spaces = made.cleared.same_spaces;
        in_table = λ q page place is. sound.spaces.in_table q page place
            (sym (place_at-EditsEntries (without_entries_of made.owner old) old made.spaces made.cleared q page) ∙ is);
        same_frozen = refl;
        same_notes = refl;
        noted = sound.memory.noted;
        backed = AreBacked-cleared s.hardware.memory s.checkpoint old made.spaces made.owner
            made.cleared sound.memory.backed;
        dirty = same_dirty;
        observed = record { there = made.cleared.same_spaces; places = made.cleared.same_places };
        effect_is = refl;
        done = refl;
      }),
      (
        new,
        Drop (record {
          owner = made.owner;
          frame = made.frame;
          leaves = record {
            held = made.leaves.held;
            clean = λ d. made.leaves.clean ((same_dirty made.frame).1 d);
            written = made.leaves.written;
            plain = made.leaves.plain;
            whole = made.leaves.whole;
          };
          unmapped = unmapped;
          free = refl;
          effect_is = refl;
          done = made.done;
        }),
        refl,
      ),
    )
      where
        nothing : (b : Bool) → ◌≡◌ {A = Option Mapped} (cond b None None) None
        nothing true = refl
        nothing false = refl

        had_entry : (b : Bool) (e : Option Mapped) → is_some (cond b None e) ≡ true → is_some e ≡ true
        had_entry true e is = absurd (cc)
        had_entry false e is = is
