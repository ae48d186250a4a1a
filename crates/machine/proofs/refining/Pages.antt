-- Files, frames and dirty pages as they are observed: how they stay so where a page is stored to, comes or goes.
use Rattle.machine.proofs.Names.{ℕ, ◌≡◌, ◌≢◌, ◌↔◌, ◌*◌, ◌-◌, false, List, ◌++◌, length, take, get_or, None, sym, ap}
use Rattle.machine.proofs.Names.{◌∙◌, subst, inl, inr, ◌+◌, ◌%◌, ◌<◌, ◌≤◌, true, [], ◌∷◌, Some, refl, arith, cases_Bool}
use Rattle.machine.proofs.Names.{cases_eq, FilePage, FramesState, bytes_of, frame_at, page_of, without_frame, overwrite}
use Rattle.machine.proofs.Names.{with_bytes, File, SuperValue, lengths_of, lengths_after}
use Rattle.machine.proofs.Names.{has_resized, padded, Holds, IsDirty, is_in_memory, Event}
use Rattle.machine.proofs.Names.{Memory, memory_of, after, is_touched, stored, State, cut_at_end, MayLeave}
use Rattle.machine.proofs.Names.{with_hardware, IsInFile, Observed, IsSound, IsMemory, HasFiles, IsLatest, AreTouched}
use Rattle.machine.proofs.Names.{ArePlain, page_at, Hardware, page_of-with_bytes, frame_at-with_bytes_other}
use Rattle.history.specs.History.{Store}
use Rattle.history.proofs.Public.{some_same}
use Rattle.machine.proofs.durable.Histories.{SameFiles, in_file_as}
use Rattle.history.proofs.Public.{AreQuiet, after_store, stored_there}
use Rattle.history.proofs.Public.{stored_elsewhere, length-stored, touched_there}
use Rattle.history.proofs.Public.{touched_elsewhere, lengths_store, resized_store}
use Rattle.machine.proofs.Names.{HasPages}
use Rattle.machine.proofs.sound.Frames.{held_in_memory, holds_still}
use Rattle.machine.proofs.durable.Pages.{IsBrought, held_by_none, absent_before, held_without}
use Rattle.machine.proofs.durable.Pages.{cases_page, differ, bytes_of-with_bytes}
use Rattle.machine.proofs.refining.DirtyFrames.{clean_where_free}
use Rattle.machine.proofs.refining.Translations.{HasStored}

-- the frames stay, and the same ones are dirty
pub record SamePages (s new : State) : Type 0 where
  pub frames : new.hardware.memory.frames ≡ s.hardware.memory.frames
  pub dirty : (frame : ℕ)
      → IsDirty s.hardware.spaces s.checkpoint frame ↔ IsDirty new.hardware.spaces new.checkpoint frame

pub files_kept : (files : List File) (history longer : List Event) (s new : State) → SameFiles s new
    → lengths_after (lengths_of files) longer ≡ lengths_after (lengths_of files) history
    → has_resized longer ≡ new.resized
    → HasFiles files history s → HasFiles files longer new
files_kept files history longer s new same lengths set has = record {
  named = has.named ∙ sym (ap (λ (t : SuperValue). t.files) same.table);
  lengths = lengths ∙ has.lengths ∙ sym same.lengths;
  resized = set;
}

module _ (files : List File) (observed now : Observed) (s new : State) (same : SameFiles s new) where
  abbrev bytes_then : FilePage → List ℕ
  bytes_then owner = after (memory_of files) observed.history owner.file owner.page

  abbrev bytes_now : FilePage → List ℕ
  bytes_now owner = after (memory_of files) now.history owner.file owner.page

  -- a page that isn't in memory is plain, if it had these bytes before and was plain
  pub plain_still : ((owner : FilePage) → IsInFile s owner → is_in_memory new.hardware.memory owner ≡ false
      → (bytes_now owner ≡ bytes_then owner) × (bytes_then owner ≡ cut_at_end s owner (bytes_then owner)))
      → ArePlain files now new
  plain_still as_then owner is gone =
      let then_it = as_then owner (in_file_as s new same owner is) gone in
      let end : cut_at_end new owner (bytes_then owner) ≡ cut_at_end s owner (bytes_then owner) =
      ap (λ (l : List ℕ). padded 4096 (take (get_or l owner.file 0 - 4096 * owner.page) (bytes_then owner)))
      same.lengths in
      then_it.0 ∙ then_it.1 ∙ sym end ∙ ap (cut_at_end new owner) (sym then_it.0)

-- a page that was in its file is still
in_file_now : (s new : State) → SameFiles s new → (owner : FilePage) → IsInFile s owner → IsInFile new owner
in_file_now s new same owner is = record {
  there = subst (λ (t : SuperValue). owner.file < length t.files) (sym same.table) is.there;
  inside = subst (λ (l : List ℕ). 4096 * owner.page < get_or l owner.file 0) (sym same.lengths) is.inside;
}

-- ---- nothing is stored or marked

-- a dirty frame has the page
abbrev HasDirty : State → FilePage → Type 0
HasDirty s owner = (frame : ℕ) × Holds s.hardware.memory frame owner × IsDirty s.hardware.spaces s.checkpoint frame

module _ (files : List File) (observed now : Observed) (s new : State) (events : List Event)
    (history : now.history ≡ observed.history ++ events) (quiet : AreQuiet observed.history events)
    (same : SameFiles s new)
    (set : new.resized ≡ s.resized)
    (has : HasPages files observed s) where
  memory_same : after (memory_of files) now.history ≡ after (memory_of files) observed.history
  memory_same = ap (after (memory_of files)) history ∙ quiet.memory (memory_of files)

  touched_same : (owner : FilePage)
      → is_touched now.history owner.file owner.page ≡ is_touched observed.history owner.file owner.page
  touched_same owner = ap (λ h. is_touched h owner.file owner.page) history ∙ quiet.touched owner.file owner.page

  abbrev latest_then : FilePage → List ℕ
  latest_then owner = after (memory_of files) observed.history owner.file owner.page

  -- it suffices that frames have the latest bytes, the same pages are dirty, and what isn't in memory is plain
  pages_by : ((frame : ℕ) (owner : FilePage) → Holds new.hardware.memory frame owner
      → bytes_of (frame_at new.hardware.memory frame) ≡ latest_then owner)
      → ((owner : FilePage) → HasDirty s owner ↔ HasDirty new owner)
      → ((owner : FilePage) → IsInFile s owner → is_in_memory new.hardware.memory owner ≡ false
      → latest_then owner ≡ cut_at_end s owner (latest_then owner))
      → HasPages files now new
  pages_by latest dirty plain = record {
    files_are = files_kept files observed.history now.history s new same
        (ap (lengths_after (lengths_of files)) history ∙ quiet.lengths (lengths_of files))
        (ap has_resized history ∙ quiet.resized ∙ has.files_are.resized ∙ sym set) has.files_are;
    latest = record {
      whole = λ file page. ap (λ (m : Memory). length (m file page)) memory_same ∙ has.latest.whole file page;
      latest = λ frame owner holds. latest frame owner holds
          ∙ ap (λ (m : Memory). m owner.file owner.page) (sym memory_same);
    };
    touched = record {
      each = λ owner. (
        λ is. (dirty owner).0
            ((has.touched.each owner).0 (in_file_as s new same owner is.0, sym (touched_same owner) ∙ is.1)),
        λ d. let was = (has.touched.each owner).1 ((dirty owner).1 d) in
            (in_file_now s new same owner was.0, touched_same owner ∙ was.1),
      );
      inside = λ unset owner is.
          in_file_now s new same owner (has.touched.inside (sym set ∙ unset) owner (sym (touched_same owner) ∙ is));
    };
    plain = plain_still files observed now s new same
        (λ owner is gone. (ap (λ (m : Memory). m owner.file owner.page) memory_same, plain owner is gone));
  }

  -- no page comes or goes
  pub pages_quiet : SamePages s new → HasPages files now new
  pages_quiet pages =
      let held : (frame : ℕ) (owner : FilePage) → Holds s.hardware.memory frame owner
      → Holds new.hardware.memory frame owner =
      λ frame owner holds. ap (λ fs. page_of (get_or fs frame None)) pages.frames ∙ holds in
      let was : (frame : ℕ) (owner : FilePage) → Holds new.hardware.memory frame owner
      → Holds s.hardware.memory frame owner =
      λ frame owner holds. ap (λ fs. page_of (get_or fs frame None)) (sym pages.frames) ∙ holds in
      pages_by
      (λ frame owner holds. ap (λ fs. bytes_of (get_or fs frame None)) pages.frames
      ∙ has.latest.latest frame owner (was frame owner holds))
      (λ owner. (
        λ d. (d.0, held d.0 owner d.1, (pages.dirty d.0).0 d.2),
        λ d. (d.0, was d.0 owner d.1, (pages.dirty d.0).1 d.2),
      ))
      (λ owner is gone. has.plain owner is (absent_before s.hardware.memory new.hardware.memory held owner gone))

  -- a page comes into memory, with its latest bytes
  module _ (sound : IsSound s) (owner : FilePage) (bytes : List ℕ)
      (brought : IsBrought s.hardware.memory owner bytes new.hardware.memory)
      (dirty : (frame : ℕ) → IsDirty s.hardware.spaces s.checkpoint frame
      ↔ IsDirty new.hardware.spaces new.checkpoint frame)
      (reads : is_in_memory s.hardware.memory owner ≡ false → bytes ≡ latest_then owner) where
    pub pages_fixed : HasPages files now new
    pages_fixed = pages_by
        (λ frame o holds. elim (brought.cases frame o holds) [
          | inl was ↦ was.1 ∙ has.latest.latest frame o was.0
          | inr came ↦ came.3 ∙ reads came.0 ∙ ap latest_then (sym came.2)
        ])
        (λ o. (
          λ d. (d.0, brought.kept d.0 o d.1, (dirty d.0).0 d.2),
          λ d. (
            d.0,
            elim (brought.cases d.0 o d.1) [
              | inl held ↦ held.0
              | inr came ↦ absurd (clean_where_free s.hardware.memory s.checkpoint s.hardware.spaces d.0
                  sound.memory.backed sound.memory.noted came.1 ((dirty d.0).1 d.2))
            ],
            (dirty d.0).1 d.2,
          ),
        ))
        (λ o is gone. has.plain o is (absent_before s.hardware.memory new.hardware.memory brought.kept o gone))

  -- a page leaves memory: it is clean, and has its bytes at home
  module _ (owner : FilePage) (frame : ℕ) (leaves : MayLeave s owner frame)
      (memory_is : new.hardware.memory ≡ without_frame s.hardware.memory frame)
      (dirty : (k : ℕ) → IsDirty s.hardware.spaces s.checkpoint k ↔ IsDirty new.hardware.spaces new.checkpoint k) where
    -- frames but for this one hold what they held
    held_then : (k : ℕ) (o : FilePage) → Holds new.hardware.memory k o
        → (k ≢ frame) × (frame_at new.hardware.memory k ≡ frame_at s.hardware.memory k)
    held_then k o holds =
        let there = held_without s.hardware.memory frame k o
        (subst (λ (m : FramesState). Holds m k o) memory_is holds) in
        (there.0, ap (λ (m : FramesState). frame_at m k) memory_is ∙ there.1)

    held_now : (k : ℕ) (o : FilePage) → k ≢ frame → Holds s.hardware.memory k o → Holds new.hardware.memory k o
    held_now k o other holds =
        subst (λ (m : FramesState). Holds m k o) (sym memory_is) (holds_still s.hardware.memory frame k o other holds)

    -- the page that left has its bytes at home
    at_home : (o : FilePage) → is_in_memory new.hardware.memory o ≡ false
        → (holder : (k : ℕ) × Holds s.hardware.memory k o) → latest_then o ≡ cut_at_end s o (latest_then o)
    at_home o gone holder =
        elim (cases_eq holder.0 frame) [
          | inr other ↦ absurd (held_by_none new.hardware.memory o gone holder.0 (held_now holder.0 o other holder.1))
          | inl here ↦
              let this : o ≡ owner = some_same o owner
              (sym holder.1 ∙ ap (λ k. page_of (frame_at s.hardware.memory k)) here ∙ leaves.held) in
              let bytes = has.latest.latest frame owner leaves.held in
              subst (λ (x : FilePage). latest_then x ≡ cut_at_end s x (latest_then x)) (sym this)
              (sym bytes ∙ leaves.plain ∙ ap (cut_at_end s owner) bytes)
        ]

    pub pages_left : HasPages files now new
    pages_left = pages_by
        (λ k o holds. let there = held_then k o holds in
        ap bytes_of there.1 ∙ has.latest.latest k o (sym (ap page_of there.1) ∙ holds))
        (λ o. (
          λ d. (
            d.0,
            held_now d.0 o (λ same. leaves.clean (subst (λ k. IsDirty s.hardware.spaces s.checkpoint k) same d.2)) d.1,
            (dirty d.0).0 d.2,
          ),
          λ d. (d.0, sym (ap page_of (held_then d.0 o d.1).1) ∙ d.1, (dirty d.0).1 d.2),
        ))
        (λ o is gone. elim (cases_Bool (is_in_memory s.hardware.memory o)) [
          | inr absent ↦ has.plain o is absent
          | inl there ↦ at_home o gone (held_in_memory s.hardware.memory o there)
        ])

-- ---- a store changes the page to which its address leads, and touches it

small : (va : ℕ) → va % 4096 < 4096
small va = omega arith

module _ (files : List File) (observed now : Observed) (s : State) (p va : ℕ) (bytes : List ℕ) (h : Hardware)
    (w : HasStored s.hardware s.checkpoint p va bytes h) (memory : IsMemory s.hardware.memory)
    (in_files : (frame : ℕ) (o : FilePage) → Holds s.hardware.memory frame o → IsInFile s o)
    (fits : va % 4096 + length bytes ≤ 4096)
    (history : now.history ≡ observed.history ++ Store w.place.file (4096 * w.place.page + va % 4096) bytes ∷ [])
    (has : HasPages files observed s) where
  abbrev new : State
  new = with_hardware s h

  abbrev before : Memory
  before = after (memory_of files) observed.history

  abbrev owner : FilePage
  owner = page_at w.place

  after_is : after (memory_of files) now.history ≡ stored before w.place.file (4096 * w.place.page + va % 4096) bytes
  after_is = ap (after (memory_of files)) history
      ∙ after_store (memory_of files) observed.history w.place.file (4096 * w.place.page + va % 4096) bytes

  -- its page
  after_there : after (memory_of files) now.history w.place.file w.place.page
      ≡ overwrite (before w.place.file w.place.page) (va % 4096) bytes
  after_there = ap (λ (m : Memory). m w.place.file w.place.page) after_is
      ∙ stored_there before w.place.file w.place.page (va % 4096) bytes (small va)

  -- every other page
  after_elsewhere : (o : FilePage) → (o ≡ owner → ⊥)
      → after (memory_of files) now.history o.file o.page ≡ before o.file o.page
  after_elsewhere o other = ap (λ (m : Memory). m o.file o.page) after_is ∙ stored_elsewhere before w.place.file
      w.place.page (va % 4096) bytes o.file o.page (small va) (differ o owner other)

  touched_now : (o : FilePage) → o ≡ owner → is_touched now.history o.file o.page ≡ true
  touched_now o same =
      ap (λ (x : FilePage). is_touched now.history x.file x.page) same
      ∙ ap (λ h. is_touched h w.place.file w.place.page) history
      ∙ touched_there observed.history w.place.file w.place.page (va % 4096) bytes (small va)

  touched_before : (o : FilePage) → (o ≡ owner → ⊥)
      → is_touched now.history o.file o.page ≡ is_touched observed.history o.file o.page
  touched_before o other =
      ap (λ h. is_touched h o.file o.page) history ∙ touched_elsewhere observed.history w.place.file w.place.page
      (va % 4096) bytes o.file o.page (small va) (differ o owner other)

  -- frames keep their pages
  page_of_new : (frame : ℕ) → page_of (frame_at h.memory frame) ≡ page_of (frame_at s.hardware.memory frame)
  page_of_new frame = ap (λ (m : FramesState). page_of (frame_at m frame)) w.memory
      ∙ page_of-with_bytes s.hardware.memory w.frame (va % 4096) bytes frame

  held_before : (frame : ℕ) (o : FilePage) → Holds h.memory frame o → Holds s.hardware.memory frame o
  held_before frame o holds = sym (page_of_new frame) ∙ holds

  held_after : (frame : ℕ) (o : FilePage) → Holds s.hardware.memory frame o → Holds h.memory frame o
  held_after frame o holds = page_of_new frame ∙ holds

  -- the page is in its frame alone
  other_frame : (frame : ℕ) (o : FilePage) → Holds s.hardware.memory frame o → (o ≡ owner → ⊥) → frame ≢ w.frame
  other_frame frame o holds other same =
      other (some_same o owner (sym holds ∙ ap (λ k. page_of (frame_at s.hardware.memory k)) same ∙ w.holds))

  latest_stored : IsLatest files now new
  latest_stored = record {
    whole = λ file page.
        ap (λ (m : Memory). length (m file page)) after_is
        ∙ length-stored before w.place.file w.place.page (va % 4096) bytes file page has.latest.whole fits (small va);
    latest = λ frame o holds.
        let was = held_before frame o holds in
        elim (cases_page o owner) [
          | inl same ↦
              let here : frame ≡ w.frame =
              memory.one_frame frame w.frame owner (subst (Holds s.hardware.memory frame) same was) w.holds in
              ap (λ (m : FramesState). bytes_of (frame_at m frame)) w.memory
              ∙ ap (λ k. bytes_of (frame_at (with_bytes s.hardware.memory w.frame (va % 4096) bytes) k)) here
              ∙ bytes_of-with_bytes s.hardware.memory w.frame (va % 4096) bytes owner w.holds
              ∙ ap (λ b. overwrite b (va % 4096) bytes) (has.latest.latest w.frame owner w.holds)
              ∙ sym after_there
              ∙ ap (λ (x : FilePage). after (memory_of files) now.history x.file x.page) (sym same)
          | inr other ↦
              ap (λ (m : FramesState). bytes_of (frame_at m frame)) w.memory
              ∙ ap bytes_of (frame_at-with_bytes_other s.hardware.memory w.frame (va % 4096) bytes frame
              (other_frame frame o was other))
              ∙ has.latest.latest frame o was ∙ sym (after_elsewhere o other)
        ];
  }

  -- it is in its file
  abbrev InNew : FilePage → Type 0
  InNew o = IsInFile new o

  same_in : (o : FilePage) → IsInFile s o → InNew o
  same_in o is = record { there = is.there; inside = is.inside }

  same_was : (o : FilePage) → InNew o → IsInFile s o
  same_was o is = record { there = is.there; inside = is.inside }

  stored_in : (o : FilePage) → o ≡ owner → InNew o
  stored_in o same = same_in o (subst (IsInFile s) (sym same) (in_files w.frame owner w.holds))

  touched_stored : AreTouched now new
  touched_stored = record {
    each = λ o. elim (cases_page o owner) [
      | inl same ↦ (
        λ _. (w.frame, held_after w.frame o (w.holds ∙ ap (λ x. Some x) (sym same)), w.dirty_now),
        λ _. (stored_in o same, touched_now o same),
      )
      | inr other ↦ (
        λ is. let d = (has.touched.each o).0 (same_was o is.0, sym (touched_before o other) ∙ is.1) in
            (d.0, held_after d.0 o d.1, w.dirty_still d.0 d.2),
        λ d.
            let was = held_before d.0 o d.1 in
            let is = (has.touched.each o).1 (d.0, was, w.dirty_before d.0 (other_frame d.0 o was other) d.2) in
            (same_in o is.0, touched_before o other ∙ is.1),
      )
    ];
    inside = λ unset o is. elim (cases_page o owner) [
      | inl same ↦ stored_in o same
      | inr other ↦ same_in o (has.touched.inside unset o (sym (touched_before o other) ∙ is))
    ];
  }

  pub pages_stored : HasPages files now new
  pages_stored = record {
    files_are = files_kept files observed.history now.history s new (record { table = refl; lengths = refl })
        (ap (lengths_after (lengths_of files)) history
        ∙ lengths_store (lengths_of files) observed.history w.place.file (4096 * w.place.page + va % 4096) bytes)
        (ap has_resized history ∙ resized_store observed.history w.place.file (4096 * w.place.page + va % 4096) bytes
        ∙ has.files_are.resized) has.files_are;
    latest = latest_stored;
    touched = touched_stored;
    plain = plain_still files observed now s new (record { table = refl; lengths = refl }) (λ o is gone.
        let absent = absent_before s.hardware.memory h.memory held_after o gone in (
          after_elsewhere o
              (λ same. held_by_none s.hardware.memory o absent w.frame (w.holds ∙ ap (λ x. Some x) (sym same))),
          has.plain o is absent,
        ));
  }
