-- Which frames are dirty after entries and notes change.
use Rattle.machine.proofs.Names.{ℕ, ◌≡◌, ◌⊎◌, ◌↔◌, Bool, true, false, not, ◌&&◌, ◌||◌, cond, eqb, List, length, Option}
use Rattle.machine.proofs.Names.{Some, None, IsSome, refl, sym, ap, ◌∙◌, subst, inl, inr, cases_Bool, cond-true}
use Rattle.machine.proofs.Names.{cond-false, and_parts, and_from, eqb-true, eq-eqb, false≢true, Mapped}
use Rattle.machine.proofs.Names.{with_writable_of, protected_of, FilePage, Rights, PageRange, is_among, may_write}
use Rattle.machine.proofs.Names.{FramesState, Frame, frame_at, page_of, Spaces, entry_at, with_entry, without_mapping}
use Rattle.machine.proofs.Names.{SetsRights, protected_where, entry_at-with_entry, entry_at-without_mapping}
use Rattle.machine.proofs.Names.{entry_at-remove, CheckpointState, Holds, is_noted, IsDirty, NotesTaken, IsInRange}
use Rattle.machine.proofs.Names.{IsInSpace, Gathers, ProtectsNoted, without_notes, AreBacked, page_at, fixed_entry}
use Rattle.std.specs.FinMap as maps
use Rattle.machine.proofs.sound.Lists.{get_or-replicate-same}
use Rattle.history.proofs.Public.{some_same, none_some}
use Rattle.machine.proofs.sound.Lists.{kept_some}

-- a frame is dirty by an entry
pub dirty_at : (spaces : Spaces) (c : CheckpointState) (pcid page frame : ℕ) (entry : Mapped)
    → entry_at spaces pcid page ≡ Some entry → entry.frame ≡ frame → entry.dirty ≡ true → IsDirty spaces c frame
dirty_at spaces c pcid page frame entry present same dirty =
    inr (record {
      pcid = pcid;
      page = page;
      there = tt;
      entry = entry;
      present = present;
      same_frame = same;
      dirty = dirty;
    })

-- what is dirty stays so where its note and each dirty entry of its frame leave it so
pub dirty_from : (old new : Spaces) (c d : CheckpointState) (frame : ℕ)
    → (is_noted c frame ≡ true → IsDirty new d frame)
    → ((pcid page : ℕ) (entry : Mapped) → entry_at old pcid page ≡ Some entry → entry.frame ≡ frame
    → entry.dirty ≡ true → IsDirty new d frame)
    → IsDirty old c frame → IsDirty new d frame
dirty_from old new c d frame notes entries (inl noted) = notes noted
dirty_from old new c d frame notes entries (inr x) = entries x.pcid x.page x.entry x.present x.same_frame x.dirty

-- the same frames are dirty where the entries are the same
pub dirty_equal : (old new : Spaces) (c : CheckpointState) (frame : ℕ)
    → ((q at : ℕ) → entry_at new q at ≡ entry_at old q at) → IsDirty old c frame ↔ IsDirty new c frame
dirty_equal old new c frame same = (
  dirty_from old new c c frame (λ noted. inl noted) (λ q at e is. dirty_at new c q at frame e (same q at ∙ is)),
  dirty_from new old c c frame (λ noted. inl noted) (λ q at e is. dirty_at old c q at frame e (sym (same q at) ∙ is)),
)

-- ---- a range gets rights

-- an entry that is there maps the same frame as this one, and is as dirty
abbrev IsAlike : Option Mapped → Mapped → Type 0
IsAlike now entry = (is : Mapped) × (now ≡ Some is) × (is.frame ≡ entry.frame) × (is.dirty ≡ entry.dirty)

read_only : (b : Bool) (old : Option Mapped) (entry : Mapped) → old ≡ Some entry
    → IsAlike (cond b (with_writable_of old false) old) entry
read_only true old entry e = (record entry { writable = false }, ap (λ o. with_writable_of o false) e, refl, refl)
read_only false old entry e = (entry, e, refl, refl)

read_only_back : (b : Bool) (old : Option Mapped) (entry : Mapped)
    → cond b (with_writable_of old false) old ≡ Some entry → IsAlike old entry
read_only_back true None entry e = absurd (cc)
read_only_back true (Some was) entry e =
    let same : record was { writable = false } ≡ entry = some_same _ entry e in
    (was, refl, ap (λ (m : Mapped). m.frame) same, ap (λ (m : Mapped). m.dirty) same)
read_only_back false old entry e = (entry, e, refl, refl)

pub dirty_rights : (pcid : ℕ) (range : PageRange) (rights : Rights) (old new : Spaces) (c : CheckpointState) (frame : ℕ)
    → SetsRights pcid range rights old new → IsDirty old c frame ↔ IsDirty new c frame
dirty_rights pcid range rights old new c frame sets =
    let test : ℕ → ℕ → Bool = λ q at. eqb q pcid && is_among range.first range.count at && not (may_write rights) in (
      dirty_from old new c c frame (λ noted. inl noted) (λ q at e is same dirty.
          let now = read_only (test q at) (entry_at old q at) e is in
          dirty_at new c q at frame now.0 (sets.entries q at ∙ now.1) (now.2 ∙ same) (now.3 ∙ dirty)),
      dirty_from new old c c frame (λ noted. inl noted) (λ q at e is same dirty.
          let was = read_only_back (test q at) (entry_at old q at) e (sym (sets.entries q at) ∙ is) in
          dirty_at old c q at frame was.0 was.1 (was.2 ∙ same) (was.3 ∙ dirty)),
    )

-- ---- entries are taken away where a test passes, and frames of dirty ones noted

-- what is taken of one table, where a test passes, leaves the other
pub record Takes (taken : ℕ → ℕ → Type 0) (old new : Spaces) : Type 0 where
  pub test : ℕ → ℕ → Bool
  pub entries : (q at : ℕ) → entry_at new q at ≡ cond (test q at) None (entry_at old q at)
  pub passes : (q at : ℕ) → test q at ≡ true → taken q at

pub takes_range : (spaces : Spaces) (pcid : ℕ) (range : PageRange)
    → Takes (IsInRange pcid range) spaces (without_mapping spaces pcid range)
takes_range spaces pcid range = record {
  test = λ q at. eqb q pcid && is_among range.first range.count at;
  entries = entry_at-without_mapping spaces pcid range;
  passes = λ q at h. let parts = and_parts (eqb q pcid) (is_among range.first range.count at) h in
      (eqb-true q pcid parts.0, parts.1);
}

pub takes_space : (spaces : Spaces) (pcid : ℕ) → Takes (IsInSpace pcid) spaces (maps.remove spaces pcid)
takes_space spaces pcid =
    record { test = λ q at. eqb q pcid; entries = entry_at-remove spaces pcid; passes = λ q at h. eqb-true q pcid h }

pub dirty_taken : (taken : ℕ → ℕ → Type 0) (old new : Spaces) (c d : CheckpointState) (frame : ℕ) → Takes taken old new
    → NotesTaken old taken c d → IsDirty old c frame ↔ IsDirty new d frame
dirty_taken taken old new c d frame takes notes = (
  dirty_from old new c d frame (λ noted. inl ((notes.noted frame).1 (inl noted))) (λ q at e is same dirty.
      elim (cases_Bool (takes.test q at)) [
        | inl gone ↦
            (let there = takes.passes q at gone in
            inl ((notes.noted frame).1 (inr (record {
              pcid = q;
              page = at;
              there = there;
              entry = e;
              present = is;
              same_frame = same;
              dirty = dirty;
            }))))
        | inr stays ↦
            dirty_at new d q at frame e
            (takes.entries q at ∙ cond-false (takes.test q at) None (entry_at old q at) stays ∙ is) same dirty
      ]),
  dirty_from new old d c frame
      (λ noted. elim ((notes.noted frame).0 noted) [
        | inl was ↦ inl was
        | inr x ↦ dirty_at old c x.pcid x.page frame x.entry x.present x.same_frame x.dirty
      ])
      (λ q at e is. dirty_at old c q at frame e
      (kept_some (takes.test q at) (entry_at old q at) e (sym (takes.entries q at) ∙ is))),
)

-- ---- one page gets an entry

module _ (spaces : Spaces) (pcid page : ℕ) (now : Mapped) (c : CheckpointState) where
  abbrev after_it : Spaces
  after_it = with_entry spaces pcid page (Some now)

  -- a page is this one and has the entry, or it has the one that it had
  entry_cases : (q at : ℕ) → ((entry_at spaces q at ≡ entry_at spaces pcid page) × (entry_at after_it q at ≡ Some now))
      ⊎ (entry_at after_it q at ≡ entry_at spaces q at)
  entry_cases q at =
      let is = entry_at-with_entry spaces pcid page (Some now) q at in
      let here = eqb q pcid && eqb at page in
      elim (cases_Bool here) [
        | inl same ↦
            (let parts = and_parts (eqb q pcid) (eqb at page) same in
            inl (
              (λ i. entry_at spaces (eqb-true q pcid parts.0 i) (eqb-true at page parts.1 i)),
              is ∙ cond-true here (Some now) (entry_at spaces q at) same,
            ))
        | inr other ↦ inr (is ∙ cond-false here (Some now) (entry_at spaces q at) other)
      ]

  -- what was dirty is, where the new entry is dirty if the former one was
  pub dirty_kept : (frame : ℕ) → ((old : Mapped) → entry_at spaces pcid page ≡ Some old → old.dirty ≡ true
      → (now.frame ≡ old.frame) × (now.dirty ≡ true)) → IsDirty spaces c frame → IsDirty after_it c frame
  dirty_kept frame keeps = dirty_from spaces after_it c c frame (λ noted. inl noted) (λ q at e is same dirty.
      elim (entry_cases q at) [
        | inl here ↦
            (let still = keeps e (sym here.0 ∙ is) dirty in
            dirty_at after_it c q at frame now here.1 (still.0 ∙ same) still.1)
        | inr other ↦ dirty_at after_it c q at frame e (other ∙ is) same dirty
      ])

  -- and what is dirty was, but maybe for the frame of the new entry
  pub dirty_back : (frame : ℕ) → (now.dirty ≡ true → now.frame ≡ frame → IsDirty spaces c frame)
      → IsDirty after_it c frame → IsDirty spaces c frame
  dirty_back frame own = dirty_from after_it spaces c c frame (λ noted. inl noted) (λ q at e is same dirty.
      elim (entry_cases q at) [
        | inl here ↦
            (let this : e ≡ now = some_same e now (sym is ∙ here.1) in
            own (sym (ap (λ (m : Mapped). m.dirty) this) ∙ dirty) (sym (ap (λ (m : Mapped). m.frame) this) ∙ same))
        | inr other ↦ dirty_at spaces c q at frame e (sym other ∙ is) same dirty
      ])

  -- that frame is dirty where the entry is
  pub dirty_there : now.dirty ≡ true → IsDirty after_it c now.frame
  dirty_there is =
      let here = and_from (eqb pcid pcid) (eqb page page) (eq-eqb pcid pcid refl) (eq-eqb page page refl) in
      dirty_at after_it c pcid page now.frame now
      (entry_at-with_entry spaces pcid page (Some now) pcid page
      ∙ cond-true (eqb pcid pcid && eqb page page) (Some now) (entry_at spaces pcid page) here) refl is

  -- the same frames are dirty where the former entry is of the same frame, and as dirty
  pub dirty_alike : (frame : ℕ) (old : Mapped) → entry_at spaces pcid page ≡ Some old → now.frame ≡ old.frame
      → now.dirty ≡ old.dirty → IsDirty spaces c frame ↔ IsDirty after_it c frame
  dirty_alike frame old present same_frame same_dirty = (
    dirty_kept frame (λ was is dirty.
        let this : old ≡ was = some_same old was (sym present ∙ is) in
        (same_frame ∙ ap (λ (m : Mapped). m.frame) this, same_dirty ∙ ap (λ (m : Mapped). m.dirty) this ∙ dirty)),
    dirty_back frame
        (λ dirty here. dirty_at spaces c pcid page frame old present (sym same_frame ∙ here) (sym same_dirty ∙ dirty)),
  )

-- a fault is served: the new entry is as dirty as the former one
pub dirty_fixed : (spaces : Spaces) (pcid page frame : ℕ) (can write : Bool) (o : Option Mapped)
    → entry_at spaces pcid page ≡ o → (c : CheckpointState) (f : ℕ)
    → IsDirty spaces c f ↔ IsDirty (with_entry spaces pcid page (Some (fixed_entry o frame can write))) c f
dirty_fixed spaces pcid page frame can write None none c f =
    let now = fixed_entry None frame can write in (
      dirty_kept spaces pcid page now c f (λ was is dirty. absurd (none_some was (sym none ∙ is))),
      dirty_back spaces pcid page now c f (λ dirty here. absurd (false≢true dirty)),
    )
dirty_fixed spaces pcid page frame can write (Some entry) present c f =
    let other = record entry { writable = can } in
    let alike : ((fixed_entry (Some entry) frame can write).frame ≡ entry.frame)
    × ((fixed_entry (Some entry) frame can write).dirty ≡ entry.dirty) =
    elim (not write || entry.writable) as (λ b. ((cond b entry other).frame ≡ entry.frame)
    × ((cond b entry other).dirty ≡ entry.dirty)) [ true ↦ (refl, refl) | false ↦ (refl, refl) ] in
    dirty_alike spaces pcid page (fixed_entry (Some entry) frame can write) c f entry present alike.0 alike.1

-- ---- a mark: no frame is dirty any more

pub clean_after_mark : (old new : Spaces) (memory : FramesState) (c d : CheckpointState) (freezes : Bool)
    (pages : List FilePage) (frame : ℕ) → Gathers old memory c d freezes pages → ProtectsNoted d old new
    → IsDirty new (without_notes d) frame → ⊥
clean_after_mark old new memory c d freezes pages frame gathers protects (inl noted) =
    false≢true (sym (get_or-replicate-same (length d.notes) frame false) ∙ noted)
clean_after_mark old new memory c d freezes pages frame gathers protects (inr x) =
    go (entry_at old x.pcid x.page) refl (sym (protects.entries x.pcid x.page) ∙ x.present)
  where
    go : (o : Option Mapped) → entry_at old x.pcid x.page ≡ o → protected_where (is_noted d) o ≡ Some x.entry → ⊥
    go None none e = cc
    go (Some was) present e =
        elim (cases_Bool (is_noted d was.frame)) [
          | inl noted ↦
              let is : record was { writable = false; dirty = false } ≡ x.entry =
              some_same _ x.entry
              (sym (cond-true (is_noted d was.frame) (protected_of (Some was)) (Some was) noted) ∙ e) in
              false≢true (ap (λ (m : Mapped). m.dirty) is ∙ x.dirty)
          | inr unnoted ↦
              let is : was ≡ x.entry = some_same was x.entry
              (sym (cond-false (is_noted d was.frame) (protected_of (Some was)) (Some was) unnoted) ∙ e) in
              let dirty = dirty_at old c x.pcid x.page was.frame was present refl
              (ap (λ (m : Mapped). m.dirty) is ∙ x.dirty) in
              false≢true (sym unnoted ∙ (gathers.noted was.frame).1 dirty)
        ]

-- ---- a free frame isn't dirty

in_use_not_free : (o : Option Frame) → IsSome o → o ≡ None → ⊥
in_use_not_free None used free = absurd (cc)
in_use_not_free (Some f) used free = cc

pub clean_where_free : (memory : FramesState) (c : CheckpointState) (spaces : Spaces) (frame : ℕ)
    → AreBacked memory c spaces → ((f : ℕ) → is_noted c f ≡ true → IsSome (frame_at memory f))
    → frame_at memory frame ≡ None → IsDirty spaces c frame → ⊥
clean_where_free memory c spaces frame backed in_use free (inl noted) =
    in_use_not_free (frame_at memory frame) (in_use frame noted) free
clean_where_free memory c spaces frame backed in_use free (inr d) =
    let is = backed d.pcid d.page d.entry d.present in
    none_some (page_at is.place)
    (sym (ap page_of free) ∙ subst (λ f. Holds memory f (page_at is.place)) d.same_frame is.held)
