-- A change of a file's length: frames have the memory of what is observed still, and the pages that a growth has are
-- dirty.
use Rattle.machine.proofs.Names.{◌≡◌, ◌≢◌, ◌⊎◌, ℕ, ◌-◌, ◌*◌, ◌/◌, ◌%◌, ◌<◌, ◌&&◌, true, false, cond, eqb, not, List, []}
use Rattle.machine.proofs.Names.{◌∷◌, ◌++◌, length, set, Some, sym, ap, ◌∙◌, subst, inl, inr, arith}
use Rattle.machine.proofs.Names.{min, cases_eq, cases_lt, cases_Bool, both_ways}
use Rattle.machine.proofs.Names.{false≢true, and_from, not_from_false, ne_eqb, lt-ltb}
use Rattle.machine.proofs.Names.{FilePage, frame_at, page_of, File}
use Rattle.machine.proofs.Names.{Memory, memory_of, after, lengths_of, lengths_after, is_touched, has_resized}
use Rattle.machine.proofs.Names.{cut_file, State, length_of, cut_at_end}
use Rattle.machine.proofs.Names.{ResizeMade, IsInFile, Observed, IsSound, HasFiles}
use Rattle.machine.proofs.Names.{IsLatest, AreTouched, ArePlain, Holds, IsDirty, page_at, is_in_memory, IsGrown}
use Rattle.machine.proofs.Names.{IsAdded, is_past, place_at}
use Rattle.history.specs.History.{SetLength}
use Rattle.spaces.specs.Changes.{is_place_past}
use Rattle.std.proofs.Common.{ltb}
use Rattle.history.proofs.Public.{some_same}
use Rattle.history.proofs.Public as cuts
use Rattle.history.proofs.Public.{cut, cut-none, cut-later, cut_file-there, cut_file-other, length-cut_file}
use Rattle.machine.proofs.durable.Pages.{held_by_none, not_in_memory}
use Rattle.machine.proofs.sound.Frames.{in_use, held_in_memory}
use Rattle.machine.proofs.sound.ResizedPages.{zero_is_zeros, stays_before, held_cases}
use Rattle.machine.proofs.sound.ResizedPages.{held_after, entry_was, entry_stays}
use Rattle.machine.proofs.sound.ByResize.{resizable, after_it, in_file_now, length_there, length_elsewhere}
use Rattle.machine.proofs.refining.DirtyFrames.{dirty_at}
use Rattle.machine.proofs.Names.{HasPages}

module _ (files : List File) (observed now : Observed) (s : State) (p : ℕ) (new : State) (made : ResizeMade s p new)
    (history : now.history ≡ observed.history ++ SetLength made.file (length_of s made.file) made.to ∷ [])
    (sound : IsSound s) (has : HasPages files observed s) where
  abbrev from : ℕ
  from = length_of s made.file

  abbrev low : ℕ
  low = min (length_of s made.file) made.to

  abbrev before : Memory
  before = after (memory_of files) observed.history

  abbrev x : State
  x = after_it s p new made sound

  pub after_is : after (memory_of files) now.history ≡ cut_file before made.file low
  after_is = ap (after (memory_of files)) history
      ∙ cuts.after_set_length observed.history made.file from made.to (memory_of files)

  -- ---- files

  files_now : HasFiles files now.history x
  files_now = record {
    named = has.files_are.named;
    lengths = ap (lengths_after (lengths_of files)) history
        ∙ cuts.lengths_set_length observed.history made.file from made.to (lengths_of files)
        ∙ ap (λ (l : List ℕ). set l made.file made.to) has.files_are.lengths;
    resized = ap has_resized history ∙ cuts.resized_set_length observed.history made.file from made.to;
  }

  -- ---- bytes

  latest_now : IsLatest files now x
  latest_now = record {
    whole = λ file page. ap (λ (m : Memory). length (m file page)) after_is
        ∙ length-cut_file before made.file low file page (has.latest.whole file page);
    latest = λ k owner holds.
        elim (held_cases made.pages sound.memory.memory k owner holds) [
          | inl still ↦
              still.bytes
              ∙ ap (λ (b : List ℕ). cond (eqb owner.file made.file) (cut (low - 4096 * owner.page) b) b)
              (has.latest.latest k owner still.held)
          | inr fresh ↦
              fresh.bytes ∙ zero_is_zeros
              ∙ sym
              (cut-none (low - 4096 * owner.page) (before owner.file owner.page) (omega (arith, fresh.added.past)))
              ∙ sym (cut_file-there before made.file low owner.file owner.page fresh.file_is)
        ] ∙ ap (λ (m : Memory). m owner.file owner.page) (sym after_is);
  }

  -- ---- pages that are in their files

  -- one was before, or it was added
  in_file_before : (owner : FilePage) → IsInFile x owner
      → IsInFile s owner ⊎ ((owner.file ≡ made.file) × IsAdded from made.to owner.page)
  in_file_before owner is = elim (cases_eq owner.file made.file) [
    | inl same ↦
        (let long : length_of x owner.file ≡ made.to = ap (length_of x) same ∙ length_there s p new made sound in
        elim (cases_lt (4096 * owner.page) from) [
          | inl lt ↦ inl (record { there = is.there; inside = omega (arith, lt, ap (length_of s) same) })
          | inr le ↦ inr (same, record { past = le; before = omega (arith, is.inside, long) })
        ])
    | inr other ↦ inl (record {
      there = is.there;
      inside = omega (arith, is.inside, length_elsewhere s p new made sound owner.file other);
    })
  ]

  -- it isn't past the end
  stays_inside : (owner : FilePage) → IsInFile x owner → is_past made.file made.to owner ≡ false
  stays_inside owner is = stays_before made.file made.to owner (λ same.
      let long : length_of x owner.file ≡ made.to = ap (length_of x) same ∙ length_there s p new made sound in
      omega (arith, is.inside, long))

  -- ---- dirty pages

  abbrev DirtyNow : FilePage → Type 0
  DirtyNow owner = (k : ℕ) × Holds made.memory k owner × IsDirty made.spaces made.checkpoint k

  -- a frame that was dirty is, where its page stays
  dirty_still : (k : ℕ) (owner : FilePage) → Holds s.hardware.memory k owner → is_past made.file made.to owner ≡ false
      → IsDirty s.hardware.spaces s.checkpoint k → IsDirty made.spaces made.checkpoint k
  dirty_still k owner holds stays (inl noted) =
      inl ((made.pages.noted k).1 (inl (
        noted,
        in_use (frame_at made.memory k) owner (held_after made.pages sound.memory.memory k owner holds stays),
      )))
  dirty_still k owner holds stays (inr d) =
      let b = sound.memory.backed d.pcid d.page d.entry d.present in
      let here : page_at b.place ≡ owner = some_same (page_at b.place) owner
      (sym b.held ∙ ap (λ f. page_of (frame_at s.hardware.memory f)) d.same_frame ∙ holds) in
      let still : is_place_past made.file made.to (place_at s.hardware.spaces d.pcid d.page) ≡ false =
      ap (is_place_past made.file made.to) b.mapped ∙ ap (is_past made.file made.to) here ∙ stays in
      dirty_at made.spaces made.checkpoint d.pcid d.page k d.entry
      (entry_stays made.pages sound.memory.memory d.pcid d.page d.entry d.present still) d.same_frame d.dirty

  -- a page of the growth is
  dirty_noted : (owner : FilePage) → owner.file ≡ made.file → IsGrown from made.to owner.page → (k : ℕ)
      → Holds made.memory k owner → DirtyNow owner
  dirty_noted owner same grown k holds =
      let here : owner ≡ record { file = made.file; page = owner.page } =
      λ i. record { file = same i; page = owner.page } in
      (k, holds, inl ((made.pages.noted k).1 (inr (owner.page, grown, holds ∙ ap (λ (o : FilePage). Some o) here))))

  -- the page in which the file ended is in memory
  last_there : (page : ℕ) → IsGrown from made.to page → 4096 * page < from
      → is_in_memory s.hardware.memory (record { file = made.file; page = page }) ≡ true
  last_there page grown lt =
      let here : from / 4096 ≡ page = omega (arith, grown.from, lt) in
      let partial : from % 4096 ≢ 0 = λ none. absurd (omega (arith, none, here, lt)) in
      elim (cases_Bool (is_in_memory s.hardware.memory (record { file = made.file; page = page }))) [
        | inl there ↦ there
        | inr absent ↦
            (let last : FilePage = record { file = made.file; page = from / 4096 } in
            let away : is_in_memory s.hardware.memory last ≡ false =
            ap (λ k. is_in_memory s.hardware.memory (record { file = made.file; page = k })) here ∙ absent in
            absurd (both_ways _ (resizable s p new made sound).resident
            (and_from (ltb from made.to && not (eqb (from % 4096) 0)) (not (is_in_memory s.hardware.memory last))
            (and_from (ltb from made.to) (not (eqb (from % 4096) 0)) (lt-ltb from made.to grown.grows)
            (not_from_false (eqb (from % 4096) 0) (ne_eqb (from % 4096) 0 partial)))
            (not_from_false (is_in_memory s.hardware.memory last) away))))
      ]

  grown_dirty : (owner : FilePage) → owner.file ≡ made.file → IsGrown from made.to owner.page → DirtyNow owner
  grown_dirty owner same grown =
      let here : record { file = made.file; page = owner.page } ≡ owner =
      λ i. record { file = sym same i; page = owner.page } in
      elim (cases_lt (4096 * owner.page) from) [
        | inl lt ↦
            (let held = held_in_memory s.hardware.memory (record { file = made.file; page = owner.page })
            (last_there owner.page grown lt) in
            let stays = stays_before made.file made.to owner (λ e. grown.before) in
            dirty_noted owner same grown held.0 (held_after made.pages sound.memory.memory held.0 owner
            (held.1 ∙ ap (λ (o : FilePage). Some o) here) stays))
        | inr le ↦
            (let added = made.pages.added owner.page (record { past = le; before = grown.before }) in
            dirty_noted owner same grown added.0 (added.1 ∙ ap (λ (o : FilePage). Some o) here))
      ]

  -- a page that is touched is dirty
  dirty_by_touched : (owner : FilePage) → IsInFile x owner → is_touched now.history owner.file owner.page ≡ true
      → DirtyNow owner
  dirty_by_touched owner is touched =
      elim (cuts.touched_cases observed.history made.file from made.to owner.file owner.page
      (sym (ap (λ h. is_touched h owner.file owner.page) history) ∙ touched)) [
        | inl was ↦ elim (in_file_before owner is) [
          | inl inside ↦
              (let d = (has.touched.each owner).0 (inside, was) in
              let stays = stays_inside owner is in
              (d.0, held_after made.pages sound.memory.memory d.0 owner d.1 stays, dirty_still d.0 owner d.1 stays d.2))
          | inr added ↦ grown_dirty owner added.0 (record {
            grows = omega (arith, added.1.past, added.1.before);
            from = omega (arith, added.1.past);
            before = added.1.before;
          })
        ]
        | inr grown ↦
            (let long : length_of x owner.file ≡ made.to = ap (length_of x) grown.file_is
            ∙ length_there s p new made sound in
            grown_dirty owner grown.file_is
            (record { grows = grown.grows; from = grown.low; before = omega (arith, is.inside, long) }))
      ]

  -- and a page that is dirty is touched
  touched_longer : (file page : ℕ) → is_touched observed.history file page ≡ true
      → is_touched now.history file page ≡ true
  touched_longer file page was =
      ap (λ h. is_touched h file page) history
      ∙ cuts.touched_still observed.history made.file from made.to file page was

  touched_in_growth : (file page : ℕ) → file ≡ made.file → IsGrown from made.to page
      → is_touched now.history file page ≡ true
  touched_in_growth file page same grown =
      ap (λ k. is_touched now.history k page) same ∙ ap (λ h. is_touched h made.file page) history
      ∙ cuts.touched_grown observed.history made.file from made.to page grown.grows grown.from
      (omega (arith, grown.before))

  touched_by_dirty : (owner : FilePage) (k : ℕ) → Holds made.memory k owner → IsDirty made.spaces made.checkpoint k
      → is_touched now.history owner.file owner.page ≡ true
  touched_by_dirty owner k holds dirty = elim (held_cases made.pages sound.memory.memory k owner holds) [
    | inr fresh ↦
        touched_in_growth owner.file owner.page fresh.file_is
        (record {
          grows = omega (arith, fresh.added.past, fresh.added.before);
          from = omega (arith, fresh.added.past);
          before = fresh.added.before;
        })
    | inl still ↦ by still.held dirty
  ]
    where
      by : Holds s.hardware.memory k owner → IsDirty made.spaces made.checkpoint k
          → is_touched now.history owner.file owner.page ≡ true
      by held (inl noted) = elim ((made.pages.noted k).0 noted) [
        | inl was ↦ touched_longer owner.file owner.page ((has.touched.each owner).1 (k, held, inl was.0)).1
        | inr grown ↦
            (let here : record { file = made.file; page = grown.0 } ≡ owner = some_same _ owner (sym grown.2 ∙ holds) in
            touched_in_growth owner.file owner.page (sym (ap (λ (o : FilePage). o.file) here))
            (subst (IsGrown from made.to) (ap (λ (o : FilePage). o.page) here) grown.1))
      ]
      by held (inr d) =
          let was = entry_was made.pages sound.memory.memory d.pcid d.page d.entry d.present in
          touched_longer owner.file owner.page ((has.touched.each owner).1
          (k, held, dirty_at s.hardware.spaces s.checkpoint d.pcid d.page k d.entry was.0 d.same_frame d.dirty)).1

  touched_now : AreTouched now x
  touched_now = record {
    each = λ owner. (
      λ is. dirty_by_touched owner is.0 is.1,
      λ d. (in_file_now s p new made sound d.0 owner d.1, touched_by_dirty owner d.0 d.1 d.2),
    );
    inside = λ unset owner is. absurd (false≢true (sym unset));
  }

  -- ---- pages that aren't in memory

  plain_now : ArePlain files now x
  plain_now owner is gone = elim (cases_eq owner.file made.file) [
    | inl same ↦
        (let long : length_of x owner.file ≡ made.to = ap (length_of x) same ∙ length_there s p new made sound in
        let is_cut = bytes_are ∙ cut_file-there before made.file low owner.file owner.page same in
        let later = cut-later (low - 4096 * owner.page) (made.to - 4096 * owner.page) (before owner.file owner.page)
        (has.latest.whole owner.file owner.page) (omega arith) in
        is_cut ∙ sym later ∙ ap
        (λ n. cut (n - 4096 * owner.page) (cut (low - 4096 * owner.page) (before owner.file owner.page))) (sym long)
        ∙ ap (cut_at_end x owner) (sym is_cut))
    | inr other ↦
        (let stays = stays_before made.file made.to owner (λ same. absurd (other same)) in
        let inside : IsInFile s owner = record {
          there = is.there;
          inside = omega (arith, is.inside, length_elsewhere s p new made sound owner.file other);
        } in
        let absent = not_in_memory s.hardware.memory owner (λ k holds.
        held_by_none made.memory owner gone k (held_after made.pages sound.memory.memory k owner holds stays)) in
        let as_before = bytes_are ∙ cut_file-other before made.file low owner.file owner.page other in
        as_before ∙ has.plain owner inside absent
        ∙ ap (λ n. cut (n - 4096 * owner.page) (before owner.file owner.page))
        (sym (length_elsewhere s p new made sound owner.file other))
        ∙ ap (cut_at_end x owner) (sym as_before))
  ]
    where
      bytes_are : after (memory_of files) now.history owner.file owner.page
          ≡ cut_file before made.file low owner.file owner.page
      bytes_are = ap (λ (m : Memory). m owner.file owner.page) after_is

  pages_now : HasPages files now x
  pages_now = record { files_are = files_now; latest = latest_now; touched = touched_now; plain = plain_now }

pub pages_resized : (files : List File) (observed now : Observed) (s : State) (p : ℕ) (new : State)
    → (made : ResizeMade s p new)
    → now.history ≡ observed.history ++ SetLength made.file (length_of s made.file) made.to ∷ [] → IsSound s
    → HasPages files observed s → HasPages files now new
pages_resized files observed now s p new made history sound has =
    subst (HasPages files now) (sym made.done) (pages_now files observed now s p new made history sound has)
