-- Notes of the frames that marked words map as dirty, node by node, and of all entries of a table.
use Rattle.std.proofs.Common.{◌≡◌, ◌≢◌, ◌⊎◌, ◌↔◌, ℕ, ◌+◌, ◌*◌, ◌/◌, ◌<◌, ◌≤◌, Bool, true, false, List, length}
use Rattle.std.proofs.Common.{get_or, set, Option, Some, None, refl, sym, ap, ◌∙◌, subst, inl, inr, ⊎_elim, arith}
use Rattle.std.proofs.lemmas.Bool.{cases_eq, cases_lt}
use Rattle.std.proofs.lemmas.List.{length-set, get_or-set_same, get_or-set_other}
use Rattle.std.specs.FinMap as maps
use Rattle.page_entry.specs.Entry.{Mapped, entry_of, is_dirty, frame_of}
use Rattle.page_table.specs.Table.{TableState}
use Rattle.page_table.specs.inside.Nodes.{read_by_walk, IsTable, table_of}
use Rattle.page_table.specs.Bits.{is_set}
use Rattle.page_table.specs.inside.Marks.{place_of, HasMarks, IsMarkedDirty, NotesMarked, AreBelow}
use Rattle.page_table.proofs.Trees.{walk-none}
use Rattle.page_table.proofs.View.{get_entry}
use Rattle.page_table.proofs.Choices.{test_of}
use Rattle.page_table.proofs.Searching.{IsPiecewise}
use Rattle.page_table.proofs.Marked.{read_place, place_within, marked_within}

module _ (ws present : List ℕ) where
  pub NotesMarked-none : (first : ℕ) (notes : List Bool) → NotesMarked ws present first first notes notes
  NotesMarked-none first notes = record {
    size = refl;
    noted = λ frame. (
      λ was. inl was,
      λ h. ⊎_elim (λ was. was) (λ d. absurd (let low = d.low in let high = d.high in omega arith)) h,
    );
  }

  -- of another part that has the place
  narrower : (a b first end frame : ℕ) → (d : IsMarkedDirty ws present a b frame) → first ≤ d.place → d.place < end
      → IsMarkedDirty ws present first end frame
  narrower a b first end frame d low high = record { place = d.place; low = low; high = high; here = d.here }

  -- of a longer part
  wider : (a b first end frame : ℕ) → first ≤ a → b ≤ end → IsMarkedDirty ws present a b frame
      → IsMarkedDirty ws present first end frame
  wider a b first end frame low high d =
      narrower a b first end frame d (omega (arith, low, d.low)) (omega (arith, high, d.high))

  -- up to a place before which no other word is marked
  pub NotesMarked-all : (first place end : ℕ) (old new : List Bool) → place ≤ end
      → NotesMarked ws present first place old new → ((i : ℕ) → place ≤ i → i < end → is_set present i ≡ false)
      → NotesMarked ws present first end old new
  NotesMarked-all first place end old new le done none = record {
    size = done.size;
    noted = λ frame. (
      λ noted. ⊎_elim inl (λ d. inr (wider first place first end frame (omega arith) le d))
          ((done.noted frame).0 noted),
      λ h. (done.noted frame).1 (⊎_elim inl (λ d. inr (before frame d)) h),
    );
  }
    where
      before : (frame : ℕ) → IsMarkedDirty ws present first end frame → IsMarkedDirty ws present first place frame
      before frame d = elim (cases_lt d.place place) [
        | inl below ↦ narrower first end first place frame d d.low below
        | inr above ↦ absurd (let off = none d.place above d.high in let on = d.here.marked in cc)
      ]

  -- one part after the other
  pub NotesMarked-joined : (first mid end : ℕ) (old now new : List Bool) → first ≤ mid → mid ≤ end
      → NotesMarked ws present first mid old now → NotesMarked ws present mid end now new
      → NotesMarked ws present first end old new
  NotesMarked-joined first mid end old now new low high done more = record {
    size = more.size ∙ done.size;
    noted = λ frame. (
      λ noted. ⊎_elim
          (λ was.
          ⊎_elim inl (λ d. inr (wider first mid first end frame (omega arith) high d)) ((done.noted frame).0 was))
          (λ d. inr (wider mid end first end frame low (omega arith) d))
          ((more.noted frame).0 noted),
      λ h. (more.noted frame).1 (⊎_elim (λ was. inl ((done.noted frame).1 (inl was))) (λ d. part frame d) h),
    );
  }
    where
      part : (frame : ℕ) → IsMarkedDirty ws present first end frame
          → (get_or now frame false ≡ true) ⊎ IsMarkedDirty ws present mid end frame
      part frame d = elim (cases_lt d.place mid) [
        | inl below ↦ inl ((done.noted frame).1 (inr (narrower first end first mid frame d d.low below)))
        | inr above ↦ inr (narrower first end mid end frame d above d.high)
      ]

  -- a marked word that is dirty, and one that isn't
  pub NotesMarked-dirty : (at : ℕ) (e : Option Mapped) (notes : List Bool) → is_set present at ≡ true
      → e ≡ entry_of (get_or ws at 0) → is_dirty e ≡ true → frame_of e < length notes
      → NotesMarked ws present at (at + 1) notes (set notes (frame_of e) true)
  NotesMarked-dirty at None notes marked read dirty within = absurd (cc)
  NotesMarked-dirty at (Some entry) notes marked read dirty within = record {
    size = length-set notes entry.frame true;
    noted = λ frame. (
      λ noted. elim (cases_eq frame entry.frame) [
        | inl same ↦ inr (record {
          place = at;
          low = omega arith;
          high = omega arith;
          here = record { marked = marked; entry = entry; read = sym read; same_frame = sym same; dirty = dirty };
        })
        | inr other ↦ inl (sym (get_or-set_other notes entry.frame frame true false other) ∙ noted)
      ],
      λ h. elim (cases_eq frame entry.frame) [
        | inl same ↦ ap (λ f. get_or (set notes entry.frame true) f false) same
            ∙ get_or-set_same notes entry.frame true false within
        | inr other ↦ get_or-set_other notes entry.frame frame true false other
            ∙ ⊎_elim (λ was. was) (λ d. absurd (other (sym (one frame d)))) h
      ],
    );
  }
    where
      one : (frame : ℕ) → IsMarkedDirty ws present at (at + 1) frame → entry.frame ≡ frame
      one frame d =
          let place : d.place ≡ at = (let low = d.low in let high = d.high in omega arith) in
          let m = d.here in
          let same : Some entry ≡ Some m.entry = read ∙ ap (λ n. entry_of (get_or ws n 0)) (sym place) ∙ m.read in
          ap frame_of same ∙ m.same_frame

  pub NotesMarked-clean : (at : ℕ) (e : Option Mapped) (notes : List Bool)
      → e ≡ entry_of (get_or ws at 0) → is_dirty e ≡ false
      → NotesMarked ws present at (at + 1) notes notes
  NotesMarked-clean at e notes read clean = record {
    size = refl;
    noted = λ frame. (λ was. inl was, λ h. ⊎_elim (λ was. was) (λ d. absurd (not_dirty frame d)) h);
  }
    where
      not_dirty : (frame : ℕ) → IsMarkedDirty ws present at (at + 1) frame → ⊥
      not_dirty frame d =
          let place : d.place ≡ at = (let low = d.low in let high = d.high in omega arith) in
          let m = d.here in
          let same : e ≡ Some m.entry = read ∙ ap (λ n. entry_of (get_or ws n 0)) (sym place) ∙ m.read in
          let dirty : is_dirty e ≡ true = ap is_dirty same ∙ m.dirty in
          let never : ⊥ = cc in never

  pub frame_below : (first end count at : ℕ) (e : Option Mapped) → AreBelow ws present first end count
      → first ≤ at → at < end → is_set present at ≡ true → e ≡ entry_of (get_or ws at 0) → is_dirty e ≡ true
      → frame_of e < count
  frame_below first end count at None below low high marked read dirty = absurd (cc)
  frame_below first end count at (Some entry) below low high marked read dirty =
      below at low high marked entry (sym read)

  pub NotesMarked-pieces : IsPiecewise present (NotesMarked ws present)
  NotesMarked-pieces = record { joined = NotesMarked-joined; unset = NotesMarked-all }

-- where all nodes in use are noted, all words are
pub NotesMarked-whole : (ws present in_use : List ℕ) → IsTable ws → HasMarks ws present in_use
    → (node : ℕ) (old new : List Bool) → NotesMarked ws present 0 (node * 512) old new
    → ((i : ℕ) → node * 512 ≤ i → is_set present i ≡ false)
    → NotesMarked ws present 0 (length ws) old new
NotesMarked-whole ws present in_use table marks node old new done none = record {
  size = done.size;
  noted = λ frame. (
    λ noted. ⊎_elim inl (λ d. inr (within frame d)) ((done.noted frame).0 noted),
    λ h. (done.noted frame).1 (⊎_elim inl (λ d. inr (before frame d)) h),
  );
}
  where
    within : (frame : ℕ) → IsMarkedDirty ws present 0 (node * 512) frame → IsMarkedDirty ws present 0 (length ws) frame
    within frame d = narrower ws present 0 (node * 512) 0 (length ws) frame d (omega arith)
        (marked_within ws present table marks.marked d.place d.here.marked).0

    before : (frame : ℕ) → IsMarkedDirty ws present 0 (length ws) frame → IsMarkedDirty ws present 0 (node * 512) frame
    before frame d = elim (cases_lt d.place (node * 512)) [
      | inl below ↦ narrower ws present 0 (length ws) 0 (node * 512) frame d (omega arith) below
      | inr above ↦ absurd (let off = none d.place above in let on = d.here.marked in cc)
    ]

-- a table's dirty entries
module _ (ws present in_use : List ℕ) (t : TableState) (table : IsTable ws) (marks : HasMarks ws present in_use)
    (is : table_of ws ≡ t) where
  entry_is : (q : ℕ) → maps.get t.entries q ≡ entry_of (read_by_walk ws 4 q)
  entry_is q = ap (λ (s : TableState). maps.get s.entries q) (sym is) ∙ get_entry ws q

  -- the page of a marked word
  at_page : (i : ℕ) (entry : Mapped) → is_set present i ≡ true → entry_of (get_or ws i 0) ≡ Some entry
      → (page : ℕ) × (maps.get t.entries page ≡ Some entry)
  at_page i entry marked read =
      let found = marks.marked.pages i marked in (
        found.0,
        entry_is found.0
            ∙ ap entry_of (read_place ws found.0 found.1.leaf ∙ ap (λ n. get_or ws n 0) (sym found.1.same))
            ∙ read,
      )

  pub AreBelow-entries : (count : ℕ)
      → ((page : ℕ) (entry : Mapped) → maps.get t.entries page ≡ Some entry → entry.frame < count) → (first end : ℕ)
      → AreBelow ws present first end count
  AreBelow-entries count below first end =
      λ i low high marked entry read. (let found = at_page i entry marked read in below found.0 entry found.1)

  -- the word of a page with an entry is marked, and its node in use
  read_of : (page : ℕ) (entry : Mapped) → maps.get t.entries page ≡ Some entry
      → entry_of (read_by_walk ws 4 page) ≡ Some entry
  read_of page entry there = sym (entry_is page) ∙ there

  some_of : (page : ℕ) (entry : Mapped) → maps.get t.entries page ≡ Some entry → read_by_walk ws 4 page ≢ 0
  some_of page entry there = λ none. nothing (sym (ap entry_of none) ∙ read_of page entry there)
    where
      nothing : entry_of 0 ≡ Some entry → ⊥
      nothing same = (let never : None ≡ Some entry = same in absurd (cc))

  leaf_of : (page : ℕ) (entry : Mapped) → maps.get t.entries page ≡ Some entry → 0 < read_by_walk ws 3 (page / 512)
  leaf_of page entry there = elim (cases_eq (read_by_walk ws 3 (page / 512)) 0) [
    | inl none ↦ absurd (some_of page entry there (walk-none ws 3 page none))
    | inr other ↦ omega arith
  ]

  marked_of : (page : ℕ) (entry : Mapped) → maps.get t.entries page ≡ Some entry
      → is_set present (place_of ws page) ≡ true
  marked_of page entry there = test_of (read_by_walk ws 4 page) (is_set present (place_of ws page))
      (marks.marked.entries page (leaf_of page entry there)) (some_of page entry there)

  -- where no node is in use, no page has one
  pub none_in_use : (some : Bool) → (some ≡ false → (node : ℕ) → node < length ws / 512 → is_set in_use node ≡ false)
      → (page : ℕ) (entry : Mapped) → maps.get t.entries page ≡ Some entry
      → some ≡ true
  none_in_use true unused page entry there = refl
  none_in_use false unused page entry there =
      let node = place_of ws page / 512 in
      let on = marks.used (place_of ws page) (marked_of page entry there) in
      let within = marks.nodes node on in
      let off = unused refl node (omega (arith, within)) in
      absurd (cc)

  -- and the marked word of a page
  at_place : (page : ℕ) (entry : Mapped) (frame : ℕ)
      → maps.get t.entries page ≡ Some entry → entry.frame ≡ frame → entry.dirty ≡ true
      → IsMarkedDirty ws present 0 (length ws) frame
  at_place page entry frame there same dirty = record {
    place = place_of ws page;
    low = omega arith;
    high = place_within ws page table (leaf_of page entry there);
    here = record {
      marked = marked_of page entry there;
      entry = entry;
      read = ap entry_of (sym (read_place ws page (leaf_of page entry there))) ∙ read_of page entry there;
      same_frame = same;
      dirty = dirty;
    };
  }

  pub noted_entries : (old new : List Bool) → NotesMarked ws present 0 (length ws) old new → (frame : ℕ)
      → (get_or new frame false ≡ true) ↔ ((get_or old frame false ≡ true) ⊎ ((page : ℕ) × (entry : Mapped)
      × (maps.get t.entries page ≡ Some entry) × (entry.frame ≡ frame) × (entry.dirty ≡ true)))
  noted_entries old new notes frame = (
    λ noted. ⊎_elim inl (λ d. inr (let m = d.here in let found = at_page d.place m.entry m.marked m.read in
        (found.0, m.entry, found.1, m.same_frame, m.dirty))) ((notes.noted frame).0 noted),
    λ h. (notes.noted frame).1 (⊎_elim inl (λ d. inr (at_place d.0 d.1 frame d.2 d.3 d.4)) h),
  )

-- notes of words that are these
pub read_as : (ws vs present now : List ℕ) (old new : List Bool) → ws ≡ vs
    → present ≡ now → NotesMarked ws present 0 (length ws) old new
    → NotesMarked vs now 0 (length vs) old new
read_as ws vs present now old new same marks notes = subst (λ (l : List ℕ). NotesMarked vs l 0 (length vs) old new)
    marks (subst (λ (l : List ℕ). NotesMarked l present 0 (length l) old new) same notes)
