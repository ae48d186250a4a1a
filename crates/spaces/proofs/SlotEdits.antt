-- An edit of one slot is an update of the spaces, and keeps what the slots always keep.
use Rattle.std.proofs.Common.{◌≡◌, ◌≢◌, ℕ, ◌+◌, ◌<◌, ◌≤◌, ◌&&◌, ◌||◌, ◌⊎◌, Bool, true, false, cond, not, eqb}
use Rattle.std.proofs.Common.{ltb, if◌then◌else◌, List, [], ◌∷◌, ◌++◌, map, length, set, take, drop, Option}
use Rattle.std.proofs.Common.{Some, None, is_some, unwrap_or, refl, sym, ap, ◌∙◌, subst, inl, inr, arith}
use Rattle.std.specs.Option.{option_map}
use Rattle.std.specs.Ordering.{nat_cmp}
use Rattle.std.specs.FinMap as maps
use Rattle.std.proofs.lemmas.Bool.{cases_eq, false≢true}
use Rattle.std.proofs.lemmas.Bool.Decides.{nat_tests}
use Rattle.std.proofs.lemmas.List.{get_or-set_same, get_or-set_other, length-set, length-map}
use Rattle.std.proofs.lemmas.List.{length-append, drop_all, take_all, append-nil}
use Rattle.std.proofs.Math.ListN.{get_or-map}
use Rattle.page_entry.specs.Entry.{Mapped, with_writable_of, protected_of}
use Rattle.page_entry.specs.declared.numbers.FilePage.{FilePage}
use Rattle.page_table.specs.Table.{put_entry, outside_range, range_read_only, is_marked, frames_protected}
use Rattle.page_table.proofs.Entries.{get-range_read_only, get-frames_protected, maps_marked}
use Rattle.mappings.specs.declared.place.Place.{Place}
use Rattle.mappings.specs.declared.place.Rights.{Rights}
use Rattle.mappings.specs.declared.page_range.PageRange.{PageRange}
use Rattle.mappings.specs.Places.{is_among, with_range, without_range, with_rights, may_write, splits}
use Rattle.mappings.specs.Judgement.{is_user_range}
use Rattle.spaces.specs.Spaces.{AddressSpace, Spaces, empty_space, has_space, space_at, entry_at}
use Rattle.spaces.specs.Spaces.{place_at, with_space, with_entry, with_mapping, without_mapping}
use Rattle.spaces.specs.Spaces.{EditsEntries, SetsRights, IsLowestFree, AreSpaces}
use Rattle.spaces.specs.Requests.{is_user_space}
use Rattle.spaces.specs.Changes.{is_place_of, protected_where, without_entries_of}
use Rattle.spaces.specs.inside.Slots.{without_entries, SpaceState, space_of, edited, slot_at}
use Rattle.spaces.specs.inside.Slots.{spaces_of, IsFound, IsFirstFree, IsPrepared, AreSlots}
use Rattle.spaces.proofs.Cleared.{get-without_entries}
use Rattle.spaces.proofs.SpacesLaws.{get-empty_entries, has_space-with_space, with_space-itself}
use Rattle.spaces.proofs.SpacesLaws.{has_space-with_space_there, space_at-with_space_same, space_at-with_space_other}
use Rattle.spaces.proofs.AreSpacesLaws.{user_space, AreSpaces-first_spaces, AreSpaces-create}
use Rattle.spaces.proofs.AreSpacesLaws.{AreSpaces-remove, AreSpaces-EditsEntries}
use Rattle.spaces.proofs.SlotsLemmas.{has_space-spaces_of, space_at-spaces_of, slot_at-push_other, found_in_slot}
use Rattle.spaces.proofs.SlotsLemmas.{within_slots, spaces_of-set, spaces_of-clear, spaces_of-push, spaces_of-first}

-- nothing is prepared
pub none_ready : (slots : List (Option SpaceState)) (pcid : ℕ) (range : PageRange) (rights : Option Rights)
    → ◌≡◌ {A = Option (ℕ × PageRange × Option Rights)} None (Some (pcid, range, rights))
    → IsPrepared slots pcid range rights
none_ready slots pcid range rights is = absurd (cc)

module _ (slots : List (Option SpaceState)) (n : ℕ) (s : SpaceState) (is : slot_at slots n ≡ Some s) where
  -- the slot's space
  here : IsFound (spaces_of slots) n s
  here = found_in_slot slots n s is

  within : n < length slots
  within = within_slots slots n (here.there)

  module _ (new : SpaceState) where
    pub set-space : spaces_of (set slots n (Some new)) ≡ with_space (spaces_of slots) n (space_of new)
    set-space = spaces_of-set slots n new within

    still_there : (q : ℕ) → has_space (spaces_of (set slots n (Some new))) q ≡ has_space (spaces_of slots) q
    still_there q =
        ap (λ m. has_space m q) set-space
        ∙ has_space-with_space_there (spaces_of slots) n (space_of new) (here.there) q

    -- an edit that keeps the mappings keeps what is prepared
    ready_still : new.places ≡ s.places → s.spare ≤ new.spare
        → (pcid : ℕ) (range : PageRange) (rights : Option Rights) → IsPrepared slots pcid range rights
        → IsPrepared (set slots n (Some new)) pcid range rights
    ready_still places spare pcid range rights ready = record {
      user_space = ap (λ b. ltb 0 pcid && b) (still_there pcid) ∙ ready.user_space;
      user_range = ready.user_range;
      room = λ t at. elim (cases_eq pcid n) [
        | inl same ↦
            let one : Some new ≡ Some t =
            sym (get_or-set_same slots n (Some new) None within)
            ∙ ap (slot_at (set slots n (Some new))) (sym same)
            ∙ at in
            let is_new : new ≡ t = cc in
            let room = ready.room s (ap (slot_at slots) same ∙ is) in
            let same_splits : splits new.places range rights ≡ splits s.places range rights =
            ap (λ p. splits p range rights) places in
            subst (λ (x : SpaceState). splits x.places range rights ≤ x.spare) is_new (omega arith)
        | inr other ↦ ready.room t (sym (get_or-set_other slots n pcid (Some new) None other) ∙ at)
      ];
    }

    -- where its entries and places are the same, so are all spaces
    pub set-same : space_of new ≡ space_of s → spaces_of (set slots n (Some new)) ≡ spaces_of slots
    set-same same =
        set-space
        ∙ ap (with_space (spaces_of slots) n) (same ∙ sym (here.same))
        ∙ with_space-itself (spaces_of slots) n (here.there)

    -- what the slots keep after an edit, with what was prepared or with nothing
    pub slots_kept : (prepared : Option (ℕ × PageRange × Option Rights)) → AreSlots slots prepared
        → new.places ≡ s.places → s.spare ≤ new.spare → AreSpaces (spaces_of (set slots n (Some new)))
        → AreSlots (set slots n (Some new)) prepared
    slots_kept prepared are places spare sound = record {
      spaces = sound;
      few = let same = length-set slots n (Some new) in omega (arith, are.few);
      ready = λ pcid range rights is. ready_still places spare pcid range rights (are.ready pcid range rights is);
    }

    pub slots_changed : (prepared : Option (ℕ × PageRange × Option Rights))
        → AreSlots slots prepared → AreSpaces (spaces_of (set slots n (Some new)))
        → AreSlots (set slots n (Some new)) None
    slots_changed prepared are sound = record {
      spaces = sound;
      few = let same = length-set slots n (Some new) in omega (arith, are.few);
      ready = none_ready (set slots n (Some new));
    }

    -- a range is prepared
    pub slots_prepared : (prepared : Option (ℕ × PageRange × Option Rights))
        (range : PageRange) (rights : Option Rights)
        → AreSlots slots prepared → is_user_space (spaces_of slots) n ≡ true → is_user_range range ≡ true
        → space_of new ≡ space_of s → splits new.places range rights ≤ new.spare
        → AreSlots (set slots n (Some new)) (Some (n, range, rights))
    slots_prepared prepared range rights are user pages same room = record {
      spaces = subst AreSpaces (sym (set-same same)) are.spaces;
      few = let as_many = length-set slots n (Some new) in omega (arith, are.few);
      ready = λ pcid r w is.
          let all = ap (λ o. unwrap_or o (n, range, rights)) is in
          let p : n ≡ pcid = ap (λ (x : ℕ × PageRange × Option Rights). x.0) all in
          let q : range ≡ r = ap (λ (x : ℕ × PageRange × Option Rights). x.1) all in
          let v : rights ≡ w = ap (λ (x : ℕ × PageRange × Option Rights). x.2) all in
          subst (λ k. IsPrepared (set slots n (Some new)) k r w) p
          (subst (λ t. IsPrepared (set slots n (Some new)) n t w) q
          (subst (IsPrepared (set slots n (Some new)) n range) v (record {
            user_space = ap (λ b. ltb 0 n && b) (still_there n) ∙ user;
            user_range = pages;
            room = λ t at.
                let one : Some new ≡ Some t = sym (get_or-set_same slots n (Some new) None within) ∙ at in
                let is_new : new ≡ t = cc in
                subst (λ (x : SpaceState). splits x.places range rights ≤ x.spare) is_new room;
          })));
    }

    -- ---- which update of the spaces it is

    pub set-with_entry : (page : ℕ) (entry : Option Mapped)
        → new ≡ record s { entries = put_entry s.entries page entry }
        → spaces_of (set slots n (Some new)) ≡ with_entry (spaces_of slots) n page entry
    set-with_entry page entry new_is =
        set-space
        ∙ ap (with_space (spaces_of slots) n) (ap space_of new_is
        ∙ ap (λ (x : AddressSpace). record x { entries = put_entry x.entries page entry }) (sym (here.same)))

    pub set-with_mapping : (range : PageRange) (place : Place)
        → new.places ≡ with_range s.places range.first range.count place → new.entries ≡ s.entries
        → spaces_of (set slots n (Some new)) ≡ with_mapping (spaces_of slots) n range place
    set-with_mapping range place places entries =
        set-space
        ∙ ap (with_space (spaces_of slots) n) ((λ i. record { entries = entries i; places = places i })
        ∙ ap (λ (x : AddressSpace). record x { places = with_range x.places range.first range.count place })
        (sym (here.same)))

    pub set-without_mapping : (range : PageRange) → new.places ≡ without_range s.places range.first range.count
        → new.entries ≡ outside_range s.entries range.first (range.first + range.count)
        → spaces_of (set slots n (Some new)) ≡ without_mapping (spaces_of slots) n range
    set-without_mapping range places entries =
        set-space
        ∙ ap (with_space (spaces_of slots) n)
        ((λ i. record { entries = entries i; places = places i })
        ∙ ap (λ (x : AddressSpace). record {
          entries = outside_range x.entries range.first (range.first + range.count);
          places = without_range x.places range.first range.count;
        }) (sym (here.same)))

    pub set-SetsRights : (range : PageRange) (rights : Rights)
        → new.places ≡ with_rights s.places range.first range.count rights
        → new.entries
        ≡ (if may_write rights then s.entries else range_read_only s.entries range.first (range.first + range.count))
        → SetsRights n range rights (spaces_of slots) (spaces_of (set slots n (Some new)))
    set-SetsRights range rights places entries = record {
      same_spaces = still_there;
      rights_set = ap (λ (x : AddressSpace). x.places) at_n
          ∙ places
          ∙ ap (λ (x : AddressSpace). with_rights x.places range.first range.count rights) (sym (here.same));
      other_places = λ q other. ap (λ (x : AddressSpace). x.places) (at_other q other);
      entries = λ q page. elim (cases_eq q n) [
        | inl same ↦
            let e : eqb n n ≡ true = grind (arith, nat_tests) in
            subst (λ k. entry_at (spaces_of (set slots n (Some new))) k page
            ≡ cond (eqb k n && is_among range.first range.count page && not (may_write rights))
            (with_writable_of (entry_at (spaces_of slots) k page) false) (entry_at (spaces_of slots) k page)) (sym same)
            (ap (λ (x : AddressSpace). maps.get x.entries page) at_n ∙ ap (λ es. maps.get es page) entries
            ∙ by_rights page (may_write rights)
            ∙ ap (λ (x : AddressSpace). cond (is_among range.first range.count page && not (may_write rights))
            (with_writable_of (maps.get x.entries page) false) (maps.get x.entries page)) (sym (here.same))
            ∙ sym (ap (λ b. cond (b && is_among range.first range.count page && not (may_write rights))
            (with_writable_of (entry_at (spaces_of slots) n page) false) (entry_at (spaces_of slots) n page)) e))
        | inr other ↦
            let e : eqb q n ≡ false = grind (arith, nat_tests) in
            ap (λ (x : AddressSpace). maps.get x.entries page) (at_other q other)
            ∙ sym (ap (λ b. cond (b && is_among range.first range.count page && not (may_write rights))
            (with_writable_of (entry_at (spaces_of slots) q page) false) (entry_at (spaces_of slots) q page)) e)
      ];
    }
      where
        at_n : space_at (spaces_of (set slots n (Some new))) n ≡ space_of new
        at_n = ap (λ m. space_at m n) set-space ∙ space_at-with_space_same (spaces_of slots) n (space_of new)

        at_other : (q : ℕ) → q ≢ n → space_at (spaces_of (set slots n (Some new))) q ≡ space_at (spaces_of slots) q
        at_other q other =
            ap (λ m. space_at m q) set-space
            ∙ space_at-with_space_other (spaces_of slots) n (space_of new) q other

        last : (b : Bool) (x y : Option Mapped) → y ≡ cond (b && false) x y
        last true x y = refl
        last false x y = refl

        first : (b : Bool) (x y : Option Mapped) → cond b x y ≡ cond (b && true) x y
        first true x y = refl
        first false x y = refl

        by_rights : (page : ℕ) (b : Bool)
            → maps.get (cond b s.entries (range_read_only s.entries range.first (range.first + range.count))) page
            ≡ cond (is_among range.first range.count page && not b) (with_writable_of (maps.get s.entries page) false)
            (maps.get s.entries page)
        by_rights page true = last (is_among range.first range.count page) _ _
        by_rights page false =
            get-range_read_only s.entries range.first (range.first + range.count) page
            ∙ first (is_among range.first range.count page) _ _

-- ---- slots that are filled or cleared

-- a slot without a space isn't one with a space
apart_from : (slots : List (Option SpaceState)) (n : ℕ)
    → slot_at slots n ≡ None → (q : ℕ) → has_space (spaces_of slots) q ≡ true
    → q ≢ n
apart_from slots n none q there same = false≢true
    (sym (ap is_some none) ∙ sym (has_space-spaces_of slots n) ∙ ap (has_space (spaces_of slots)) (sym same) ∙ there)

-- where all spaces stay and one is made, what was prepared still is
ready_more : (slots more : List (Option SpaceState)) (n : ℕ) → slot_at slots n ≡ None
    → spaces_of more ≡ with_space (spaces_of slots) n empty_space → ((q : ℕ) → q ≢ n → slot_at more q ≡ slot_at slots q)
    → (pcid : ℕ) (range : PageRange) (rights : Option Rights) → IsPrepared slots pcid range rights
    → IsPrepared more pcid range rights
ready_more slots more n none made others pcid range rights ready =
    let user = user_space (spaces_of slots) pcid ready.user_space in
    let other = apart_from slots n none pcid user.1 in
    record {
      user_space = ap (λ m. ltb 0 pcid && has_space m pcid) made
          ∙ ap (λ b. ltb 0 pcid && b)
          (has_space-with_space (spaces_of slots) n empty_space pcid ∙ (let e : eqb pcid n ≡ false =
          grind (arith, nat_tests) in ap (λ b. b || has_space (spaces_of slots) pcid) e))
          ∙ ready.user_space;
      user_range = ready.user_range;
      room = λ s is. ready.room s (sym (others pcid other) ∙ is);
    }

module _ (slots : List (Option SpaceState)) (prepared : Option (ℕ × PageRange × Option Rights))
    (are : AreSlots slots prepared) (n : ℕ) (none : slot_at slots n ≡ None) (new : SpaceState)
    (blank : space_of new ≡ empty_space) where
  free : has_space (spaces_of slots) n ≡ false
  free = has_space-spaces_of slots n ∙ ap is_some none

  -- in a slot that there is
  pub set-create : n < length slots → spaces_of (set slots n (Some new)) ≡ with_space (spaces_of slots) n empty_space
  set-create within = spaces_of-set slots n new within ∙ ap (with_space (spaces_of slots) n) blank

  pub slots_filled : n < length slots → AreSlots (set slots n (Some new)) prepared
  slots_filled within = record {
    spaces = subst AreSpaces (sym (set-create within))
        (AreSpaces-create (spaces_of slots) n are.spaces (omega (arith, are.few)) free);
    few = let same = length-set slots n (Some new) in omega (arith, are.few);
    ready = λ pcid range rights is. ready_more slots (set slots n (Some new)) n none (set-create within)
        (λ q other. get_or-set_other slots n q (Some new) None other) pcid range rights
        (are.ready pcid range rights is);
  }

  -- in a new slot
  pub push-create : n ≡ length slots → spaces_of (slots ++ Some new ∷ []) ≡ with_space (spaces_of slots) n empty_space
  push-create last = spaces_of-push slots new ∙ (λ i. with_space (spaces_of slots) (sym last i) (blank i))

  pub slots_pushed : n ≡ length slots → n < 4096 → AreSlots (slots ++ Some new ∷ []) prepared
  slots_pushed last small = record {
    spaces = subst AreSpaces (sym (push-create last)) (AreSpaces-create (spaces_of slots) n are.spaces small free);
    few = let more = length-append slots (Some new ∷ []) in omega arith;
    ready = λ pcid range rights is. ready_more slots (slots ++ Some new ∷ []) n none (push-create last)
        (λ q other. slot_at-push_other slots (Some new) q (λ same. other (same ∙ sym last))) pcid range rights
        (are.ready pcid range rights is);
  }

-- a space is removed
pub slots_cleared : (slots : List (Option SpaceState)) (prepared : Option (ℕ × PageRange × Option Rights)) (n : ℕ)
    → AreSlots slots prepared → is_user_space (spaces_of slots) n ≡ true
    → AreSlots (set slots n None) None
slots_cleared slots prepared n are is =
    let user = user_space (spaces_of slots) n is in
    let other : n ≢ 0 = λ same. absurd (omega (arith, user.0)) in
    record {
      spaces = subst AreSpaces (sym (spaces_of-clear slots n (within_slots slots n user.1)))
          (AreSpaces-remove (spaces_of slots) n are.spaces other);
      few = let same = length-set slots n None in omega (arith, are.few);
      ready = none_ready (set slots n None);
    }

-- space 0 alone
pub slots_first : (s : SpaceState) → space_of s ≡ empty_space → AreSlots (Some s ∷ []) None
slots_first s blank = record {
  spaces = subst AreSpaces (sym (spaces_of-first s blank)) AreSpaces-first_spaces;
  few = omega arith;
  ready = none_ready (Some s ∷ []);
}

-- ---- the first free slot

module _ (slots : List (Option SpaceState)) (prepared : Option (ℕ × PageRange × Option Rights))
    (are : AreSlots slots prepared) (at : ℕ) (first : IsFirstFree slots at) where
  pub lowest_free : at ≢ 4096 → IsLowestFree (spaces_of slots) at
  lowest_free room = record {
    some = let there = within_slots slots 0 are.spaces.first in positive (cases_eq at 0);
    small = omega (arith, first.within, are.few);
    free = has_space-spaces_of slots at ∙ ap is_some first.free;
    lowest = λ lower _ less. has_space-spaces_of slots lower ∙ first.taken lower less;
  }
    where
      positive : (at ≡ 0) ⊎ (at ≢ 0) → 0 < at
      positive (inl zero_is) = absurd (false≢true (sym (ap is_some first.free) ∙ sym (has_space-spaces_of slots at)
          ∙ ap (has_space (spaces_of slots)) zero_is ∙ are.spaces.first))
      positive (inr other) = omega arith

  pub none_free : at ≡ 4096 → (pcid : ℕ) → IsLowestFree (spaces_of slots) pcid → ⊥
  none_free full pcid lowest =
      false≢true (sym lowest.free ∙ has_space-spaces_of slots pcid ∙ first.taken pcid (omega (arith, lowest.small)))

-- ---- entries that are edited in every slot

module _ (g : SpaceState → maps.FinMap nat_cmp Mapped) (slots : List (Option SpaceState)) where
  slot_at-edited : (q : ℕ) → slot_at (map (option_map (edited g)) slots) q ≡ option_map (edited g) (slot_at slots q)
  slot_at-edited q = get_or-map (option_map (edited g)) slots q None

  pub edits-edited : (edit : ℕ → ℕ → Option Mapped → Option Mapped)
      → ((q page : ℕ) (s : SpaceState) → slot_at slots q ≡ Some s
      → maps.get (g s) page ≡ edit q page (maps.get s.entries page))
      → ((q page : ℕ) → edit q page None ≡ None)
      → EditsEntries edit (spaces_of slots) (spaces_of (map (option_map (edited g)) slots))
  edits-edited edit does absent = record {
    same_spaces = λ q. has_space-spaces_of (map (option_map (edited g)) slots) q ∙ ap is_some (slot_at-edited q)
        ∙ by_slot_there (slot_at slots q) ∙ sym (has_space-spaces_of slots q);
    same_places = λ q. ap (λ (x : AddressSpace). x.places) (space_then q) ∙ by_slot_places (slot_at slots q)
        ∙ sym (ap (λ (x : AddressSpace). x.places) (space_at-spaces_of slots q));
    entries = λ q page.
        ap (λ (x : AddressSpace). maps.get x.entries page) (space_then q) ∙ by_slot q page (slot_at slots q) refl
        ∙ sym (ap (λ (x : AddressSpace). edit q page (maps.get x.entries page)) (space_at-spaces_of slots q));
  }
    where
      space_then : (q : ℕ)
          → space_at (spaces_of (map (option_map (edited g)) slots)) q
          ≡ unwrap_or (option_map space_of (option_map (edited g) (slot_at slots q))) empty_space
      space_then q =
          space_at-spaces_of (map (option_map (edited g)) slots) q
          ∙ ap (λ o. unwrap_or (option_map space_of o) empty_space) (slot_at-edited q)

      by_slot_there : (o : Option SpaceState) → is_some (option_map (edited g) o) ≡ is_some o
      by_slot_there None = refl
      by_slot_there (Some s) = refl

      by_slot_places : (o : Option SpaceState)
          → (unwrap_or (option_map space_of (option_map (edited g) o)) empty_space).places
          ≡ (unwrap_or (option_map space_of o) empty_space).places
      by_slot_places None = refl
      by_slot_places (Some s) = refl

      by_slot : (q page : ℕ) (o : Option SpaceState) → slot_at slots q ≡ o
          → maps.get (unwrap_or (option_map space_of (option_map (edited g) o)) empty_space).entries page
          ≡ edit q page (maps.get (unwrap_or (option_map space_of o) empty_space).entries page)
      by_slot q page None is = get-empty_entries page ∙ sym (ap (edit q page) (get-empty_entries page) ∙ absent q page)
      by_slot q page (Some s) is = does q page s is

  pub slots_edited : (prepared : Option (ℕ × PageRange × Option Rights))
      → AreSlots slots prepared → (edit : ℕ → ℕ → Option Mapped → Option Mapped)
      → EditsEntries edit (spaces_of slots) (spaces_of (map (option_map (edited g)) slots))
      → ((q page : ℕ) → edit q page None ≡ None)
      → AreSlots (map (option_map (edited g)) slots) prepared
  slots_edited prepared are edit edits absent = record {
    spaces = AreSpaces-EditsEntries edit (spaces_of slots)
        (spaces_of (map (option_map (edited g)) slots)) are.spaces edits absent;
    few = let same = length-map slots (option_map (edited g)) in omega (arith, are.few);
    ready = λ pcid range rights is. let was = are.ready pcid range rights is in record {
      user_space = ap (λ b. ltb 0 pcid && b) (edits.same_spaces pcid) ∙ was.user_space;
      user_range = was.user_range;
      room = λ t at. by_slot pcid range rights was (slot_at slots pcid) refl t (sym (slot_at-edited pcid) ∙ at);
    };
  }
    where
      by_slot : (pcid : ℕ) (range : PageRange) (rights : Option Rights) → IsPrepared slots pcid range rights
          → (o : Option SpaceState) → slot_at slots pcid ≡ o → (t : SpaceState) → option_map (edited g) o ≡ Some t
          → splits t.places range rights ≤ t.spare
      by_slot pcid range rights was None is t at = absurd (cc)
      by_slot pcid range rights was (Some s) is t at =
          let e : edited g s ≡ t = cc in
          subst (λ (x : SpaceState). splits x.places range rights ≤ x.spare) e (was.room s is)

-- a slice of all slots that is written goes back whole
pub written : (n : ℕ) (new old : List (Option SpaceState)) → n ≡ length old → length new ≡ length old
    → take n (new ++ drop (length new) old) ≡ new
written n new old all same =
    ap (λ l. take n (new ++ l)) (drop_all (length new) old (omega arith))
    ∙ ap (take n) (append-nil new)
    ∙ take_all n new (omega arith)

-- and so do all slots whose spaces have other entries
pub written_edited : (g : SpaceState → maps.FinMap nat_cmp Mapped) (n : ℕ) (new old now : List (Option SpaceState))
    → n ≡ length old → now ≡ old → new ≡ map (option_map (edited g)) now
    → take n (new ++ drop (length new) old) ≡ map (option_map (edited g)) old
written_edited g n new old now all same is =
    let edit = is ∙ ap (map (option_map (edited g))) same in
    written n new old all (ap length edit ∙ length-map old (option_map (edited g))) ∙ edit

-- a page without an entry stays without one
pub absent_stays_cleared : (owner : FilePage) (m : Spaces) (q page : ℕ) → without_entries_of owner m q page None ≡ None
absent_stays_cleared owner m q page = by_test (is_place_of owner (place_at m q page))
  where
    by_test : (b : Bool) → ◌≡◌ {A = Option Mapped} (cond b None None) None
    by_test true = refl
    by_test false = refl

-- the entries that a reclaim takes away
pub edits-cleared : (slots : List (Option SpaceState)) (owner : FilePage)
    → EditsEntries (without_entries_of owner (spaces_of slots)) (spaces_of slots)
    (spaces_of (map (option_map (edited (λ s. without_entries s.places owner s.entries))) slots))
edits-cleared slots owner =
    edits-edited (λ s. without_entries s.places owner s.entries) slots (without_entries_of owner (spaces_of slots))
    (λ q page s is. get-without_entries s.places owner s.entries page
    ∙ sym (ap (λ (x : AddressSpace). cond (is_place_of owner (maps.get x.places page)) None (maps.get s.entries page))
    (found_in_slot slots q s is).same))
    (λ q page. absent_stays_cleared owner (spaces_of slots) q page)

-- the entries that a checkpoint protects
pub edits-protected : (slots : List (Option SpaceState)) (noted : List Bool)
    → EditsEntries (λ q page entry. protected_where (is_marked noted) entry) (spaces_of slots)
    (spaces_of (map (option_map (edited (λ s. frames_protected s.entries noted))) slots))
edits-protected slots noted =
    edits-edited (λ s. frames_protected s.entries noted) slots (λ q page entry. protected_where (is_marked noted) entry)
    (λ q page s is. get-frames_protected s.entries noted page ∙ by_entry (maps.get s.entries page))
    (λ q page. refl)
  where
    by_entry : (e : Option Mapped)
        → (if maps_marked noted e then protected_of e else e) ≡ protected_where (is_marked noted) e
    by_entry None = refl
    by_entry (Some entry) = refl
