-- Home blocks: they lie in the volume, and no two pages of files share one.
use Rattle.machine.proofs.Names.{◌≡◌, ℕ, zero, suc, ◌*◌, List, [], ◌∷◌, length, map, take, get_or, ap}
use Rattle.machine.proofs.Names.{inl, inr, arith, ◌-◌, eqb, cond, false, ◌++◌, Option, Some, None, refl, sym, ◌∙◌}
use Rattle.machine.proofs.Names.{subst, true, cond-true, cond-false, cases_Bool, cases_lt, both_ways, ne_eqb, eqb-true}
use Rattle.machine.proofs.Names.{eqb-false, false_from_ne_true, FilePage, File, IsHome, block_at}
use Rattle.machine.proofs.Names.{geometry_of, State, home_of, length_of, cut_at_end, page_from, IsInFile}
use Rattle.machine.proofs.Names.{within_file, IsSound, Contains, list_any, All, take_at, take_all, length-take}
use Rattle.machine.proofs.Names.{append-nil, zeros, padded, zeros-nil, Frame, frame_at, bytes_of, page_of, Holds}
use Rattle.machine.proofs.Names.{is_of_page, is_frozen, same_page, bytes_with, bytes_at_mark}
use Rattle.machine.proofs.Names.{All-contains, is_in_memory, WriteOut, HasBlock, memory_of, after}
use Rattle.machine.proofs.Names.{is_touched, Observed, Refines}
use Rattle.machine.proofs.Names.{IsSource, first_home, lengths_text, eqb-true}
use Rattle.machine.proofs.Names.{◌&&◌, and_from, eq-eqb, mark_homes}
use Rattle.machine.proofs.Names.{Bool, false≢true}
use Rattle.machine.proofs.sound.Homes.{home-below, same_home}
use Rattle.history.proofs.Public.{none_some, contains_head, contains_cons, contains_unmapped}
use Rattle.machine.proofs.durable.Pages.{holder, bytes_with-held}
use Rattle.machine.proofs.sound.Frames.{in_memory_held, held_in_memory}
use Rattle.machine.proofs.sound.Records.{bytes_with-none}
use Rattle.history.proofs.Public.{take-padded_take}

module _ (s : State) (sound : IsSound s) where
  pub home_is : (owner : FilePage) → IsInFile s owner → IsHome (geometry_of s.table) (home_of s.table owner)
  home_is owner is = record { low = omega arith; high = home-below s sound.within owner is }

-- ---- a page up to its file's end

pub within_cut : (s : State) (owner : FilePage) (bytes : List ℕ) → length bytes ≡ 4096
    → within_file s owner (cut_at_end s owner bytes) ≡ within_file s owner bytes
within_cut s owner bytes size = take-padded_take 4096 (length_of s owner.file - 4096 * owner.page) bytes size

-- ---- the contents with some pages' records

abbrev pub overlaid : State → List FilePage → (ℕ → List ℕ) → ℕ → List ℕ
overlaid s [] new b = new b
overlaid s (owner ∷ pages) new b = cond (eqb b (home_of s.table owner))
    (cut_at_end s owner (bytes_at_mark s.hardware.memory owner)) (overlaid s pages new b)

-- every other home block stays
pub overlaid-other : (s : State) (pages : List FilePage) (new : ℕ → List ℕ) (b : ℕ)
    → (Contains (map (home_of s.table) pages) b → ⊥) → overlaid s pages new b ≡ new b
overlaid-other s [] new b none = refl
overlaid-other s (owner ∷ pages) new b none =
    cond-false (eqb b (home_of s.table owner)) (cut_at_end s owner (bytes_at_mark s.hardware.memory owner))
    (overlaid s pages new b)
    (ne_eqb b (home_of s.table owner) (λ e. none (0, omega arith, sym e)))
    ∙ overlaid-other s pages new b
    (λ has. none (contains_cons (home_of s.table owner) (map (home_of s.table) pages) b has))

module _ (s : State) (sound : IsSound s) (new : ℕ → List ℕ) where
  -- the home block of one of them
  pub overlaid-at : (pages : List FilePage) (owner : FilePage) → ((o : FilePage) → Contains pages o → IsInFile s o)
      → Contains pages owner
      → overlaid s pages new (home_of s.table owner) ≡ cut_at_end s owner (bytes_at_mark s.hardware.memory owner)
  overlaid-at [] owner in_files has = absurd (omega (arith, has.1))
  overlaid-at (x ∷ xs) owner in_files has = elim (cases_Bool (eqb (home_of s.table owner) (home_of s.table x))) [
    | inl same ↦
        (let is : owner ≡ x = same_home s sound.within owner x (in_files owner has) (in_files x (contains_head x xs))
        (eqb-true (home_of s.table owner) (home_of s.table x) same) in
        cond-true (eqb (home_of s.table owner) (home_of s.table x)) (cut_at_end s x (bytes_at_mark s.hardware.memory x))
        (overlaid s xs new (home_of s.table owner)) same
        ∙ ap (λ (o : FilePage). cut_at_end s o (bytes_at_mark s.hardware.memory o)) (sym is))
    | inr other ↦
        cond-false (eqb (home_of s.table owner) (home_of s.table x))
        (cut_at_end s x (bytes_at_mark s.hardware.memory x)) (overlaid s xs new (home_of s.table owner)) other
        ∙ overlaid-at xs owner (λ o there. in_files o (contains_cons x xs o there)) (later has other)
  ]
    where
      later : Contains (x ∷ xs) owner → eqb (home_of s.table owner) (home_of s.table x) ≡ false → Contains xs owner
      later (zero, lt, is) other =
          absurd (eqb-false (home_of s.table owner) (home_of s.table x) other (ap (home_of s.table) (sym is)))
      later (suc k, lt, is) other = (k, omega arith, is)

  -- that of another page
  pub overlaid-elsewhere : (pages : List FilePage) (owner : FilePage)
      → ((o : FilePage) → Contains pages o → IsInFile s o) → IsInFile s owner → (Contains pages owner → ⊥)
      → overlaid s pages new (home_of s.table owner) ≡ new (home_of s.table owner)
  overlaid-elsewhere pages owner in_files is none = overlaid-other s pages new (home_of s.table owner) (λ has.
      let at = contains_unmapped (home_of s.table) pages (home_of s.table owner) has in
      none (subst (Contains pages) (same_home s sound.within at.0 owner (in_files at.0 at.1) is at.2) at.1))

-- ---- the contents with the lengths, where one was set

abbrev pub laid : State → (ℕ → List ℕ) → ℕ → List ℕ
laid s contents b = cond (s.resized && eqb b (first_home s.table.layout s.table.slots))
    (lengths_text s.lengths) (contents b)

module _ (s : State) (sound : IsSound s) (contents : ℕ → List ℕ) where
  -- every other block stays
  pub laid-other : (b : ℕ) → (s.resized ≡ true → b ≡ first_home s.table.layout s.table.slots → ⊥)
      → laid s contents b ≡ contents b
  laid-other b other = by s.resized other
    where
      by : (set : Bool) → (set ≡ true → b ≡ first_home s.table.layout s.table.slots → ⊥) → cond
          (set && eqb b (first_home s.table.layout s.table.slots)) (lengths_text s.lengths) (contents b) ≡ contents b
      by true other = cond-false (eqb b (first_home s.table.layout s.table.slots)) (lengths_text s.lengths) (contents b)
          (ne_eqb b (first_home s.table.layout s.table.slots) (other refl))
      by false other = refl

  -- those of pages do
  pub laid-page : (owner : FilePage) → laid s contents (home_of s.table owner) ≡ contents (home_of s.table owner)
  laid-page owner = laid-other (home_of s.table owner)
      (λ set at. let some = (sound.write_outs.quiescent set).2 in let home = at in omega (arith, some, home))

  pub laid-lengths : s.resized ≡ true
      → laid s contents (first_home s.table.layout s.table.slots) ≡ lengths_text s.lengths
  laid-lengths set =
      let home = first_home s.table.layout s.table.slots in
      cond-true (s.resized && eqb home home) (lengths_text s.lengths) (contents home)
      (and_from s.resized (eqb home home) set (eq-eqb home home refl))

-- what a mark writes nothing to
pub unwritten : (s : State) (pages : List FilePage) (b : ℕ) → (Contains (mark_homes s pages) b → ⊥)
    → (s.resized ≡ true → b ≡ first_home s.table.layout s.table.slots → ⊥)
    × (Contains (map (home_of s.table) pages) b → ⊥)
unwritten s pages b none = by s.resized none
  where
    by : (set : Bool)
        → (Contains (cond set (first_home s.table.layout s.table.slots ∷ []) [] ++ map (home_of s.table) pages) b → ⊥)
        → (set ≡ true → b ≡ first_home s.table.layout s.table.slots → ⊥)
        × (Contains (map (home_of s.table) pages) b → ⊥)
    by true none = (
      λ set at. none (0, omega arith, sym at),
      λ has. none (contains_cons (first_home s.table.layout s.table.slots) (map (home_of s.table) pages) b has),
    )
    by false none = (λ set at. false≢true set, none)

-- ---- the bytes of a page at its mark, where none is frozen

pub nothing_copied : (s : State) → IsSound s → s.checkpoint.frozen ≡ [] → (owner : FilePage)
    → list_any (is_of_page owner) s.hardware.memory.copies ≡ false
nothing_copied s sound none owner = false_from_ne_true (list_any (is_of_page owner) s.hardware.memory.copies) (λ e.
    let at = holder owner s.hardware.memory.copies e in
    by at.0 (get_or s.hardware.memory.copies at.0 None) refl at.1)
  where
    by : (k : ℕ) (o : Option Frame) → get_or s.hardware.memory.copies k None ≡ o → page_of o ≡ Some owner → ⊥
    by k None at e = none_some owner e
    by k (Some kept) at e = both_ways (is_frozen s.checkpoint kept.page)
        (ap (λ (l : List FilePage). list_any (same_page kept.page) l) none) (sound.memory.copied k kept at)

pub bytes_at_mark-held : (s : State) → IsSound s → s.checkpoint.frozen ≡ [] → (frame : ℕ) (owner : FilePage)
    → Holds s.hardware.memory frame owner
    → bytes_at_mark s.hardware.memory owner ≡ bytes_of (frame_at s.hardware.memory frame)
bytes_at_mark-held s sound none frame owner held =
    bytes_with-none owner s.hardware.memory.copies (bytes_with owner s.hardware.memory.frames [])
    (nothing_copied s sound none owner)
    ∙ bytes_with-held s.hardware.memory frame owner sound.memory.memory.one_frame held

-- ---- what a fault reads of a page that isn't in memory is the page's latest bytes

-- a page that isn't in memory has a home block of no batch
pub no_batch : (s : State) → IsSound s → (owner : FilePage) → IsInFile s owner
    → is_in_memory s.hardware.memory owner ≡ false → HasBlock s.write_outs (home_of s.table owner) → ⊥
no_batch s sound owner is absent has =
    let w = has.0 in
    let homes = All-contains (λ (x : WriteOut). All (IsSource s.table s.hardware.memory) x.batch.homes)
    s.write_outs.batches w sound.write_outs.sources has.1 in
    by (All-contains (IsSource s.table s.hardware.memory) w.batch.homes (home_of s.table owner) homes has.2)
  where
    by : IsSource s.table s.hardware.memory (home_of s.table owner) → ⊥
    by (inl lengths) = let home = lengths.1 in omega (arith, home, lengths.0)
    by (inr page) =
        let at = held_in_memory s.hardware.memory page.0 page.2 in
        let same : owner ≡ page.0 =
        same_home s sound.within owner page.0 is (sound.memory.in_files at.0 page.0 at.1) page.1 in
        both_ways (is_in_memory s.hardware.memory owner) absent (ap (is_in_memory s.hardware.memory) same ∙ page.2)

module _ (files : List File) (observed : Observed) (s : State) (seen : List ℕ) (may : List ℕ → Type 0)
    (t : Refines files observed s seen may) where
  -- nor is it touched
  pub absent_untouched : (owner : FilePage) → IsInFile s owner → is_in_memory s.hardware.memory owner ≡ false
      → is_touched observed.history owner.file owner.page ≡ false
  absent_untouched owner in_file absent = false_from_ne_true (is_touched observed.history owner.file owner.page) (λ is.
      let at = (t.touched.each owner).0 (in_file, is) in
      both_ways (is_in_memory s.hardware.memory owner) absent (in_memory_held s.hardware.memory at.0 owner at.1))

  pub page_read : (owner : FilePage) → IsInFile s owner → is_in_memory s.hardware.memory owner ≡ false
      → s.write_outs.broken ≡ false
      → page_from s seen owner ≡ after (memory_of files) observed.history owner.file owner.page
  page_read owner is absent whole =
      let home = home_of s.table owner in
      let block : block_at seen home ≡ t.new home =
      t.consistent.reads whole home (home_is s t.sound owner is) (no_batch s t.sound owner is absent) in
      let part : within_file s owner (t.new home)
      ≡ within_file s owner (after (memory_of files) observed.history owner.file owner.page) =
      elim t.written.clean [
        | inl lost ↦ absurd (both_ways s.write_outs.broken whole lost.broken)
        | inr clean ↦ clean owner is (absent_untouched owner is absent)
      ] in
      ap (padded 4096) (ap (within_file s owner) block ∙ part) ∙ sym (t.plain owner is absent)
