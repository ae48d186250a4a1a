-- The bit of each slot whose space has an entry stays set, and a walk over the bits that are set reaches every entry.
use Rattle.std.proofs.Common.{◌≡◌, ◌≢◌, ℕ, ◌+◌, ◌<◌, ◌≤◌, Bool, true, false, cond, eqb, List, [], ◌∷◌, ◌++◌, map}
use Rattle.std.proofs.Common.{length, set, Option, Some, None, refl, sym, ap, ◌∙◌, subst, inl, inr, ⊎_elim, arith}
use Rattle.std.specs.Option.{option_map}
use Rattle.std.specs.Ordering.{nat_cmp}
use Rattle.std.specs.Cmp.{nat_cmp_total}
use Rattle.std.specs.FinMap as maps
use Rattle.std.proofs.lemmas.Bool.{cases_eq, cases_lt, false≢true}
use Rattle.std.proofs.lemmas.Bool.Decides.{nat_tests}
use Rattle.std.proofs.lemmas.List.{get_or-set_same, get_or-set_other, length-map, ext_get_or}
use Rattle.std.proofs.Math.ListN.{get_or-map}
use Rattle.page_entry.specs.Entry.{Mapped, protected_of, with_writable_of}
use Rattle.page_entry.specs.declared.numbers.FilePage.{FilePage}
use Rattle.page_table.specs.Bits.{is_set, IsSet, Marks}
use Rattle.page_table.specs.Table.{in_range, outside_range, range_read_only, frames_protected}
use Rattle.page_table.proofs.Entries.{get-outside_range, get-range_read_only, get-frames_protected, maps_marked}
use Rattle.spaces.specs.Spaces.{empty_space}
use Rattle.spaces.specs.Changes.{is_place_of}
use Rattle.spaces.specs.inside.Slots.{SpaceState, space_of, slot_at, edited, without_entries}
use Rattle.spaces.specs.inside.Slots.{HasUse, AreInUse, EditsSlot, MapsDirty, NotesSlots}
use Rattle.spaces.proofs.SpacesLaws.{get-empty_entries}
use Rattle.spaces.proofs.SlotsLemmas.{found_in_slot, within_slots, slot_at-push, slot_at-past}
use Rattle.spaces.proofs.Cleared.{get-without_entries}

-- ---- of one slot

pub HasUse-none : (b : Bool) → HasUse None b
HasUse-none b s page entry is there = absurd (cc)

pub HasUse-blank : (s : SpaceState) (b : Bool) → space_of s ≡ empty_space → HasUse (Some s) b
HasUse-blank s b blank t page entry is there =
    let same : s ≡ t = cc in
    let nothing : maps.get s.entries page ≡ None = ap (λ x. maps.get x.entries page) blank ∙ get-empty_entries page in
    let some : maps.get s.entries page ≡ Some entry =
    subst (λ (x : SpaceState). maps.get x.entries page ≡ Some entry) (sym same) there in
    absurd (let never : None ≡ Some entry = sym nothing ∙ some in cc)

pub HasUse-set : (slot : Option SpaceState) → HasUse slot true
HasUse-set slot s page entry is there = refl

-- a space that has no entry where another one has none
pub HasUse-kept : (s new : SpaceState) (b : Bool) → HasUse (Some s) b
    → ((page : ℕ) → maps.get s.entries page ≡ None → maps.get new.entries page ≡ None)
    → HasUse (Some new) b
HasUse-kept s new b held none t page entry is there = was (maps.get s.entries page) refl
  where
    was : (e : Option Mapped) → maps.get s.entries page ≡ e → b ≡ true
    was (Some old) at = held s page old refl at
    was None at =
        let same : new ≡ t = cc in
        let some : maps.get new.entries page ≡ Some entry =
        subst (λ (x : SpaceState). maps.get x.entries page ≡ Some entry) (sym same) there in
        absurd (let never : None ≡ Some entry = sym (none page at) ∙ some in cc)

-- ---- of all slots

-- another slot in the place of one
pub in_use_set : (slots : List (Option SpaceState)) (bits : List ℕ) (n : ℕ) (slot : Option SpaceState)
    → AreInUse slots bits → n < length slots → HasUse slot (is_set bits n)
    → AreInUse (set slots n slot) bits
in_use_set slots bits n slot are within held q = elim (cases_eq q n) [
  | inl same ↦ subst (λ k. HasUse (slot_at (set slots n slot) k) (is_set bits k)) (sym same)
      (subst (λ o. HasUse o (is_set bits n)) (sym (get_or-set_same slots n slot None within)) held)
  | inr other ↦ subst (λ o. HasUse o (is_set bits q)) (sym (get_or-set_other slots n q slot None other)) (are q)
]

-- a slot's space has no entry where it had none
pub in_use_kept : (slots : List (Option SpaceState)) (bits : List ℕ) (n : ℕ) (s new : SpaceState) → AreInUse slots bits
    → slot_at slots n ≡ Some s → ((page : ℕ) → maps.get s.entries page ≡ None → maps.get new.entries page ≡ None)
    → AreInUse (set slots n (Some new)) bits
in_use_kept slots bits n s new are is none =
    in_use_set slots bits n (Some new) are (within_slots slots n (found_in_slot slots n s is).there)
    (HasUse-kept s new (is_set bits n) (subst (λ o. HasUse o (is_set bits n)) is (are n)) none)

-- one whose entries are the same
pub in_use_same : (slots : List (Option SpaceState)) (bits : List ℕ) (n : ℕ) (s new : SpaceState)
    → AreInUse slots bits → slot_at slots n ≡ Some s → new.entries ≡ s.entries
    → AreInUse (set slots n (Some new)) bits
in_use_same slots bits n s new are is same = in_use_kept slots bits n s new are is
    (λ page none. ap (λ (e : maps.FinMap nat_cmp Mapped). maps.get e page) same ∙ none)

-- one of which a range is taken away
pub in_use_outside : (slots : List (Option SpaceState)) (bits : List ℕ) (n first end : ℕ) (s new : SpaceState)
    → AreInUse slots bits → slot_at slots n ≡ Some s → new.entries ≡ outside_range s.entries first end
    → AreInUse (set slots n (Some new)) bits
in_use_outside slots bits n first end s new are is outside =
    in_use_kept slots bits n s new are is (λ page none. ap (λ (e : maps.FinMap nat_cmp Mapped). maps.get e page) outside
    ∙ get-outside_range s.entries first end page ∙ by_test (in_range first end page) (maps.get s.entries page) none)
  where
    by_test : (b : Bool) (e : Option Mapped) → e ≡ None → cond b None e ≡ None
    by_test true e none = refl
    by_test false e none = none

-- one whose pages of a range get rights
pub in_use_protected : (slots : List (Option SpaceState))
    (bits : List ℕ) (n first end : ℕ) (keeps : Bool) (s new : SpaceState)
    → AreInUse slots bits → slot_at slots n ≡ Some s
    → new.entries ≡ cond keeps s.entries (range_read_only s.entries first end)
    → AreInUse (set slots n (Some new)) bits
in_use_protected slots bits n first end true s new are is same = in_use_same slots bits n s new are is same
in_use_protected slots bits n first end false s new are is same =
    in_use_kept slots bits n s new are is (λ page none. ap (λ (e : maps.FinMap nat_cmp Mapped). maps.get e page) same
    ∙ get-range_read_only s.entries first end page ∙ by_test (in_range first end page) (maps.get s.entries page) none)
  where
    by_test : (b : Bool) (e : Option Mapped) → e ≡ None → cond b (with_writable_of e false) e ≡ None
    by_test true None none = refl
    by_test true (Some e) none = absurd (cc)
    by_test false e none = none

-- one more
pub in_use_pushed : (slots : List (Option SpaceState)) (bits : List ℕ) (s : SpaceState)
    → AreInUse slots bits → space_of s ≡ empty_space
    → AreInUse (slots ++ Some s ∷ []) bits
in_use_pushed slots bits s are blank q =
    subst (λ o. HasUse o (is_set bits q)) (sym (slot_at-push slots (Some s) q)) (by_test (eqb q (length slots)))
  where
    by_test : (b : Bool) → HasUse (cond b (Some s) (slot_at slots q)) (is_set bits q)
    by_test true = HasUse-blank s (is_set bits q) blank
    by_test false = are q

-- space 0 alone
pub in_use_first : (s : SpaceState) (bits : List ℕ) → space_of s ≡ empty_space → AreInUse (Some s ∷ []) bits
in_use_first s bits blank = in_use_pushed [] bits s
    (λ q. subst (λ o. HasUse o (is_set bits q)) (sym (slot_at-past [] q (omega arith))) (HasUse-none (is_set bits q)))
    blank

-- the bit of one slot is set or cleared
pub in_use_marked : (slots : List (Option SpaceState)) (bits more : List ℕ) (n : ℕ) (b : Bool)
    → ((q : ℕ) → q ≢ n → HasUse (slot_at slots q) (is_set bits q)) → HasUse (slot_at slots n) b → Marks n b bits more
    → AreInUse slots more
in_use_marked slots bits more n b others here marks q =
    subst (HasUse (slot_at slots q)) (sym (marks.bits q)) (elim (cases_eq q n) [
      | inl same ↦
          let e : eqb q n ≡ true = grind (arith, nat_tests) in
          subst (λ x. HasUse (slot_at slots q) (cond x b (is_set bits q))) (sym e)
          (subst (λ k. HasUse (slot_at slots k) b) (sym same) here)
      | inr other ↦
          let e : eqb q n ≡ false = grind (arith, nat_tests) in
          subst (λ x. HasUse (slot_at slots q) (cond x b (is_set bits q))) (sym e) (others q other)
    ])

-- a slot that is set, with its bit
pub in_use_put : (slots : List (Option SpaceState)) (bits more : List ℕ) (n : ℕ) (slot : Option SpaceState)
    → AreInUse slots bits → Marks n true bits more
    → AreInUse (set slots n slot) more
in_use_put slots bits more n slot are marks = in_use_marked (set slots n slot) bits more n true
    (λ q other. subst (λ o. HasUse o (is_set bits q)) (sym (get_or-set_other slots n q slot None other)) (are q))
    (HasUse-set (slot_at (set slots n slot) n)) marks

-- entries that are taken away in every slot
pub in_use_cleared : (slots : List (Option SpaceState)) (bits : List ℕ) (owner : FilePage) → AreInUse slots bits
    → AreInUse (map (option_map (edited (λ s. without_entries s.places owner s.entries))) slots) bits
in_use_cleared slots bits owner are q = subst (λ o. HasUse o (is_set bits q))
    (sym (get_or-map (option_map (edited (λ s. without_entries s.places owner s.entries))) slots q None))
    (by_slot (slot_at slots q) (are q))
  where
    by_test : (b : Bool) (e : Option Mapped) → e ≡ None → cond b None e ≡ None
    by_test true e none = refl
    by_test false e none = none

    by_slot : (o : Option SpaceState) → HasUse o (is_set bits q)
        → HasUse (option_map (edited (λ s. without_entries s.places owner s.entries)) o) (is_set bits q)
    by_slot None held = held
    by_slot (Some s) held = HasUse-kept s (edited (λ s. without_entries s.places owner s.entries) s)
        (is_set bits q) held (λ page none. get-without_entries s.places owner s.entries page
        ∙ by_test (is_place_of owner (maps.get s.places page)) (maps.get s.entries page) none)

-- ---- entries that are edited in the slots in use

-- where no bit is set, no edit that leaves a space without entries as it is does anything
untouched : (f : SpaceState → maps.FinMap nat_cmp Mapped)
    → ((s : SpaceState) → HasUse (Some s) false → f s ≡ s.entries) → (o : Option SpaceState) → HasUse o false
    → option_map (edited f) o ≡ o
untouched f same None held = refl
untouched f same (Some s) held =
    ap Some (ap (λ (e : maps.FinMap nat_cmp Mapped). record s { entries = e }) (same s held))

-- the slots up to this one are edited, and those from there on aren't yet
pub record EditsUpto (f : SpaceState → maps.FinMap nat_cmp Mapped) (next : ℕ) (old slots : List (Option SpaceState))
    (bits : List ℕ) : Type 0 where
  pub size : length slots ≡ length old
  pub done : (q : ℕ) → q < next → slot_at slots q ≡ option_map (edited f) (slot_at old q)
  pub ahead : (q : ℕ) → next ≤ q → slot_at slots q ≡ slot_at old q
  pub used : AreInUse slots bits

module _ (f : SpaceState → maps.FinMap nat_cmp Mapped)
    (same : (s : SpaceState) → HasUse (Some s) false → f s ≡ s.entries) (old : List (Option SpaceState)) where
  pub EditsUpto-none : (bits : List ℕ) → AreInUse old bits → EditsUpto f 0 old old bits
  EditsUpto-none bits are =
      record { size = refl; done = λ q less. absurd (omega arith); ahead = λ q low. refl; used = are }

  -- one whose bit isn't set
  skipped : (next : ℕ) (slots : List (Option SpaceState)) (bits : List ℕ)
      → EditsUpto f next old slots bits → (q : ℕ) → (next ≤ q → is_set bits q ≡ false)
      → slot_at slots q ≡ option_map (edited f) (slot_at old q)
  skipped next slots bits upto q clear = elim (cases_lt q next) [
    | inl below ↦ upto.done q below
    | inr above ↦
        let here = upto.ahead q above in
        let held : HasUse (slot_at old q) false =
        subst (λ o. HasUse o false) here (subst (HasUse (slot_at slots q)) (clear above) (upto.used q)) in
        here ∙ sym (untouched f same (slot_at old q) held)
  ]

  -- the next one whose bit is set
  pub EditsUpto-more : (next end at : ℕ) (slots new : List (Option SpaceState)) (bits more : List ℕ) (stays : Bool)
      → EditsUpto f next old slots bits → IsSet bits next end at → EditsSlot f at slots new
      → HasUse (slot_at new at) stays → Marks at stays bits more
      → EditsUpto f (at + 1) old new more
  EditsUpto-more next end at slots new bits more stays upto found edits held marks = record {
    size = edits.size ∙ upto.size;
    done = λ q less. elim (cases_eq q at) [
      | inl is ↦ subst (λ k. slot_at new k ≡ option_map (edited f) (slot_at old k)) (sym is)
          (edits.here ∙ ap (option_map (edited f)) (upto.ahead at found.low))
      | inr other ↦ edits.others q other ∙ skipped next slots bits upto q (λ low. found.before q low (omega arith))
    ];
    ahead = λ q low. edits.others q (λ is. absurd (omega arith)) ∙ upto.ahead q (let before = found.low in omega arith);
    used = in_use_marked new bits more at stays
        (λ q other. subst (λ o. HasUse o (is_set bits q)) (sym (edits.others q other)) (upto.used q)) held marks;
  }

  -- and then all of them are
  pub EditsUpto-all : (next end : ℕ) (slots : List (Option SpaceState)) (bits : List ℕ)
      → EditsUpto f next old slots bits → ((q : ℕ) → next ≤ q → q < end → is_set bits q ≡ false) → length old ≤ end
      → slots ≡ map (option_map (edited f)) old
  EditsUpto-all next end slots bits upto clear most = ext_get_or None slots (map (option_map (edited f)) old)
      (upto.size ∙ sym (length-map old (option_map (edited f)))) (λ q within.
      skipped next slots bits upto q (λ low. clear q low (let size = upto.size in omega arith))
      ∙ sym (get_or-map (option_map (edited f)) old q None))

-- a space without entries has none to protect
pub nothing_protected : (noted : List Bool) (s : SpaceState) → HasUse (Some s) false
    → frames_protected s.entries noted ≡ s.entries
nothing_protected noted s held = maps.same_map nat_cmp_total maps.nat_cmp-IsAntisymmetric _ _
    (λ page. get-frames_protected s.entries noted page ∙ by_entry page (maps.get s.entries page) refl)
  where
    by_entry : (page : ℕ) (e : Option Mapped) → maps.get s.entries page ≡ e
        → cond (maps_marked noted e) (protected_of e) e ≡ e
    by_entry page None is = refl
    by_entry page (Some entry) is = absurd (false≢true (held s page entry refl is))

-- ---- notes of the slots in use

-- up to a slot before which no other one is in use
pub NotesSlots-skip : (slots : List (Option SpaceState)) (bits : List ℕ) (next end : ℕ) (old new : List Bool)
    → AreInUse slots bits → next ≤ end
    → ((q : ℕ) → next ≤ q → q < end → is_set bits q ≡ false) → NotesSlots slots next old new
    → NotesSlots slots end old new
NotesSlots-skip slots bits next end old new are le clear done = record {
  size = done.size;
  noted = λ frame. (
    λ noted. ⊎_elim inl (λ d. inr (d.0, (let less = d.1 in omega arith), d.2)) ((done.noted frame).0 noted),
    λ h. (done.noted frame).1 (⊎_elim inl (λ d. inr (before frame d.0 d.1 d.2)) h),
  );
}
  where
    before : (frame q : ℕ) → q < end → MapsDirty (slot_at slots q) frame
        → (p : ℕ) × (p < next) × MapsDirty (slot_at slots p) frame
    before frame q less d = elim (cases_lt q next) [
      | inl below ↦ (q, below, d)
      | inr above ↦ absurd (false≢true (sym (clear q above less) ∙ are q d.s d.page d.entry d.here d.present))
    ]

-- past the last slot there is nothing
pub NotesSlots-whole : (slots : List (Option SpaceState)) (upto : ℕ) (old new : List Bool)
    → length slots ≤ upto → NotesSlots slots upto old new
    → NotesSlots slots (length slots) old new
NotesSlots-whole slots upto old new le done = record {
  size = done.size;
  noted = λ frame. (
    λ noted. ⊎_elim inl (λ d. inr (d.0, within frame d.0 d.2, d.2)) ((done.noted frame).0 noted),
    λ h. (done.noted frame).1 (⊎_elim inl (λ d. inr (d.0, (let less = d.1 in omega arith), d.2)) h),
  );
}
  where
    within : (frame q : ℕ) → MapsDirty (slot_at slots q) frame → q < length slots
    within frame q d = elim (cases_lt q (length slots)) [
      | inl below ↦ below
      | inr past ↦ absurd (let none = slot_at-past slots q past in let some = d.here in cc)
    ]

-- ---- one slot that is written

pub HasUse-at : (slots : List (Option SpaceState)) (n : ℕ) (slot : Option SpaceState) (b : Bool)
    → n < length slots → HasUse slot b
    → HasUse (slot_at (set slots n slot) n) b
HasUse-at slots n slot b within held = subst (λ o. HasUse o b) (sym (get_or-set_same slots n slot None within)) held
