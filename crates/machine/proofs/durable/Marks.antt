-- A mark: what was New becomes Old, and New gets the gathered pages. Where nothing was stored both stay, and Old plays
-- no part; of a broken machine both stay and the mark is lost.
use Rattle.machine.proofs.Names.{◌≡◌, ◌<◌, ◌≤◌, ◌+◌, ◌^◌, ◌==◌, ℕ, cond, Bool, true, false, not, List, [], ◌∷◌, ◌++◌}
use Rattle.machine.proofs.Names.{length, map, get_or, Some, None, inl, inr, refl, sym, ap, ◌∙◌, subst, arith}
use Rattle.machine.proofs.Names.{append_assoc, Contains, All, AllByRecursion, cond-true, cond-false, cases_Bool}
use Rattle.machine.proofs.Names.{both_ways, or_parts, not_from_true, not_from_false, false_from_ne_true}
use Rattle.machine.proofs.Names.{Contains-append_left, Contains-append_right, Contains-append_cases, Contains-push}
use Rattle.machine.proofs.Names.{Contains-push_cases, Contains-get_or, All-push, All-weaker, recursion_from_All}
use Rattle.machine.proofs.Names.{FilePage, File, GeometryValue, journals_of, geometry_of, AreHomes, WriteOut, begun_of}
use Rattle.machine.proofs.Names.{has_committed, WriteOutsValue, has_uncommitted}
use Rattle.machine.proofs.Names.{is_busy, next_batch, begun, IsConsistent, IsDurable}
use Rattle.machine.proofs.Names.{consistent_begun, consistent_other, Checkpoint, Spaces, CheckpointState, Gathers}
use Rattle.machine.proofs.Names.{without_notes, Event, Memory, Mark, Acknowledge, memory_of, after, has_unmarked}
use Rattle.machine.proofs.Names.{is_touched, State, home_of, cut_at_end, MarkMade, end_change, with_batch}
use Rattle.machine.proofs.Names.{bytes_at_mark, IsSound, Observed, change_in, HasParts, AreContentsOf, HasAcknowledged}
use Rattle.machine.proofs.Names.{IsWaiting, IsWritten, IsLatest, AreTouched, IsInFile, within_file, part, HasLengths}
use Rattle.machine.proofs.Names.{HasFiles, lengths_in, lengths_of, lengths_after, lengths_blocks, first_home}
use Rattle.machine.proofs.Names.{lengths_in-same, has_lengths-same, said_lengths, reads_lengths, AreLengths, TableFile}
use Rattle.machine.proofs.Names.{zero, suc, slice_get, lengths_text, mark_homes}
use Rattle.machine.proofs.sound.Sources.{none_written}
use Rattle.history.proofs.Public.{contains_unmapped, some_same}
use Rattle.history.proofs.Public.{marked_by, after_mark, after_marked, lengths_mark, only_itself}
use Rattle.history.proofs.Public.{only_marked, unmarked_by_touched, unmarked_by_resized}
use Rattle.machine.proofs.durable.Histories.{contents_more}
use Rattle.history.proofs.Public.{in_history, acknowledged_more, some_touched}
use Rattle.machine.proofs.durable.Uncommitted.{committed_frozen, none_uncommitted, begun_early}
use Rattle.machine.proofs.durable.Homes.{laid, laid-other, laid-page, laid-lengths, unwritten, within_cut, overlaid}
use Rattle.machine.proofs.durable.Homes.{overlaid-other, overlaid-at, overlaid-elsewhere, bytes_at_mark-held}

abbrev no_pages : List FilePage
no_pages = []

-- what is known of lengths by their numbers, of each file and its length
lengths_at : (fs : List TableFile) (lengths : List ℕ)
    → ((file : ℕ) → get_or lengths file 0 ≤ get_or (map (λ (f : TableFile). f.capacity) fs) file 0)
    → (i n : ℕ) (f : TableFile) → slice_get fs i ≡ Some f → slice_get lengths i ≡ Some n → n ≤ f.capacity
lengths_at [] lengths within i n f file size = absurd (cc)
lengths_at (g ∷ fs) [] within i n f file size = absurd (cc)
lengths_at (g ∷ fs) (m ∷ lengths) within zero n f file size =
    let capacity : g.capacity ≡ f.capacity = ap (λ (x : TableFile). x.capacity) (some_same g f file) in
    let length_is : m ≡ n = some_same m n size in
    let le : m ≤ g.capacity = within 0 in omega (arith, capacity, length_is, le)
lengths_at (g ∷ fs) (m ∷ lengths) within (suc i) n f file size =
    lengths_at fs lengths (λ k. within (suc k)) i n f file size

module _ (files : List File) (observed : Observed) (s : State) (p number : ℕ) (seen : List ℕ) (may : List ℕ → Type 0)
    (old new : ℕ → List ℕ) (sound : IsSound s) (has_files : HasFiles files observed.history s)
    (latest : IsLatest files observed s) (touched : AreTouched observed s)
    (consistent : IsConsistent s.table s.write_outs old new seen may)
    (w : IsWritten files observed s old new) (next : number
    ≡ s.marks + 1) (lock : s.hardware.shootdown.lock ≡ Some (record { holder = p; change = Checkpoint })) where
  abbrev history : List Event
  history = observed.history

  abbrev memory : Memory
  memory = after (memory_of files) history

  -- the history up to the mark, and all of it
  abbrev made : List Event
  made = history ++ Mark number ∷ []

  abbrev longer : List Event
  longer = history ++ marked_by history number

  abbrev now : Observed
  now = record observed { history = longer }

  under_checkpoint : change_in s.hardware.shootdown.lock ≡ Some Checkpoint
  under_checkpoint = ap change_in lock

  prepared : (s.marks + 1 < 2 ^ 32) × (s.write_outs.broken ≡ false → is_busy s.write_outs ≡ false)
  prepared = sound.spaces.prepared (record { holder = p; change = Checkpoint }) lock

  -- each batch is committed
  pub committed : has_uncommitted s.write_outs.batches ≡ false
  committed = elim (cases_Bool s.write_outs.broken) [
    | inl broken ↦ w.ready broken under_checkpoint
    | inr whole ↦ (or_parts (has_uncommitted s.write_outs.batches)
        (length s.write_outs.batches == journals_of s.write_outs.geometry.layout) (prepared.1 whole)).0
  ]

  none_frozen : s.checkpoint.frozen ≡ []
  none_frozen = committed_frozen s sound committed

  -- no mark was lost
  pub clean : (owner : FilePage) → IsInFile s owner → is_touched history owner.file owner.page ≡ false
      → within_file s owner (new (home_of s.table owner)) ≡ within_file s owner (memory owner.file owner.page)
  clean owner is untouched =
      elim w.clean [ inl lost ↦ absurd (lost.no_mark under_checkpoint) | inr are ↦ are owner is untouched ]

  -- what was in the second prefix is in the history up to the mark
  in_made : (e : Event) → Contains w.marked e → Contains made e
  in_made e has = Contains-append_left history (Mark number ∷ []) e
      (in_history w.marked w.new_are.rest history e w.new_are.begins has)

  -- marks are numbered still
  made_numbered : (n : ℕ) → Contains longer (Mark n) → n ≤ number
  made_numbered n has = elim (Contains-append_cases history (marked_by history number) (Mark n) has) [
    | inl before ↦ (let few = w.numbered n before in omega (arith, few, next))
    | inr this ↦ (let same = only_marked history number n this in omega (arith, same))
  ]

  -- each batch is committed
  none_early : (y : WriteOut) → Contains s.write_outs.batches y → has_committed y ≡ false → ⊥
  none_early y there early = none_uncommitted s.write_outs.batches y committed there early

  -- each mark so far is acknowledged
  still_acked : (n : ℕ) → Contains history (Acknowledge n) → Contains longer (Acknowledge n)
  still_acked n has = Contains-append_left history (marked_by history number) (Acknowledge n) has

  history_acked : (n : ℕ) → Contains history (Mark n) → Contains longer (Acknowledge n)
  history_acked n has = elim (w.only.each n has) [
    | inl acked ↦ still_acked n acked
    | inr other ↦ elim other [
      | inl wait ↦ absurd (none_early wait.w wait.there wait.early)
      | inr lost ↦ absurd (lost.no_mark under_checkpoint)
    ]
  ]

  marked_acked : (n : ℕ) → Contains w.marked (Mark n) → Contains longer (Acknowledge n)
  marked_acked n has = elim (w.only.in_marked n has)
      [ inl acked ↦ still_acked n acked | inr wait ↦ absurd (none_early wait.w wait.there wait.early) ]

  -- the mark is in no prefix so far
  mark_is_new : Contains w.marked (Mark number) → ⊥
  mark_is_new has = let few = w.numbered number
      (in_history w.marked w.new_are.rest history (Mark number) w.new_are.begins has) in omega (arith, few, next)

  -- that prefix has every acknowledged mark
  made_acknowledged : HasAcknowledged made longer
  made_acknowledged n has = elim (Contains-append_cases history (marked_by history number) (Acknowledge n) has) [
    | inl before ↦ in_made (Mark n) (w.grown n before)
    | inr this ↦ subst (λ k. Contains made (Mark k)) (only_itself history number n this).1
        (Contains-push history (Mark number))
  ]

  same_made : (file page : ℕ) → after (memory_of files) made file page ≡ memory file page
  same_made file page = ap (λ (m : Memory). m file page) (after_mark (memory_of files) history number)

  lengths_made : lengths_after (lengths_of files) made ≡ s.lengths
  lengths_made = lengths_mark (lengths_of files) history number ∙ has_files.lengths

  same_longer : (file page : ℕ) → after (memory_of files) longer file page ≡ memory file page
  same_longer file page = ap (λ (m : Memory). m file page) (after_marked (memory_of files) history number)

  -- the state after it, with these write-outs
  abbrev marked_with : CheckpointState → Spaces → WriteOutsValue → State
  marked_with noted spaces outs = record (end_change s p spaces s.hardware.memory (without_notes noted))
      { write_outs = outs; marks = number; resized = false }

  module _ (noted : CheckpointState) (spaces : Spaces) where
    in_file : (outs : WriteOutsValue) (owner : FilePage) → IsInFile (marked_with noted spaces outs) owner
        → IsInFile s owner
    in_file outs owner is = record { there = is.there; inside = is.inside }

    -- contents that have the memory and the lengths of now
    made_contents : (contents : ℕ → List ℕ) → HasLengths s.table contents → lengths_in s.table contents ≡ s.lengths
        → HasParts s.table s.lengths contents memory → AreContentsOf files longer s.table contents made
    made_contents contents fits lengths parts = record {
      rest = cond (has_unmarked history) [] (Acknowledge number ∷ []);
      begins = append_assoc history (Mark number ∷ []) (cond (has_unmarked history) [] (Acknowledge number ∷ []));
      marked = inr (history, number, refl);
      whole = λ file page. ap length (same_made file page) ∙ latest.whole file page;
      fits = fits;
      same_lengths = lengths ∙ sym lengths_made;
      parts = subst (λ (l : List ℕ). HasParts s.table l contents (after (memory_of files) made)) (sym lengths_made)
          (λ owner there inside. parts owner there inside
          ∙ sym (ap (part s.lengths owner) (same_made owner.file owner.page)));
    }

    -- such contents have what a page has that got no store
    made_clean : (outs : WriteOutsValue) (contents : ℕ → List ℕ) → HasParts s.table s.lengths contents memory
        → (owner : FilePage) → IsInFile (marked_with noted spaces outs) owner
        → is_touched longer owner.file owner.page ≡ false
        → within_file s owner (contents (home_of s.table owner))
        ≡ within_file s owner (after (memory_of files) longer owner.file owner.page)
    made_clean outs contents parts owner is untouched =
        parts owner is.there is.inside ∙ sym (ap (within_file s owner) (same_longer owner.file owner.page))

    none_now : (change_in None ≡ Some Checkpoint) → ⊥
    none_now e = cc

    -- ---- nothing was stored, and no length was set

    module _ (gathers : Gathers s.hardware.spaces s.hardware.memory s.checkpoint noted (not s.write_outs.broken) [])
        (unset : s.resized ≡ false) where
      untouched : (owner : FilePage) → IsInFile s owner → is_touched history owner.file owner.page ≡ false
      untouched owner in_file = false_from_ne_true (is_touched history owner.file owner.page) (λ is.
          let there = (gathers.gathered.dirty owner).1 ((touched.each owner).0 (in_file, is)) in
          absurd (omega (arith, there.1)))

      nothing_frozen : noted.frozen ≡ []
      nothing_frozen = gathers.frozen ∙ by (not s.write_outs.broken)
        where
          by : (freezes : Bool) → cond freezes no_pages no_pages ≡ no_pages
          by true = refl
          by false = refl

      -- so the mark is acknowledged at once
      unstored : has_unmarked history ≡ false
      unstored = false_from_ne_true (has_unmarked history) (λ stored.
          let some = some_touched history (has_files.resized ∙ unset) stored in
          let owner : FilePage = record { file = some.0; page = some.1 } in
          both_ways (is_touched history some.0 some.1) (untouched owner (touched.inside unset owner some.2)) some.2)

      all_acked : (n : ℕ) → Contains longer (Mark n) → Contains longer (Acknowledge n)
      all_acked n has = elim (Contains-append_cases history (marked_by history number) (Mark n) has) [
        | inl before ↦ history_acked n before
        | inr this ↦ subst (λ k. Contains longer (Acknowledge k)) (only_marked history number n this)
            (subst (λ b. Contains (history ++ Mark number ∷ (cond b [] (Acknowledge number ∷ []))) (Acknowledge number))
            (sym unstored)
            (Contains-append_right history (Mark number ∷ Acknowledge number ∷ []) (Acknowledge number)
            (1, omega arith, refl)))
      ]

      made_acked : (n : ℕ) → Contains made (Mark n) → Contains longer (Acknowledge n)
      made_acked n has = all_acked n
          (in_history made (cond (has_unmarked history) [] (Acknowledge number ∷ [])) longer (Mark n)
          (append_assoc history (Mark number ∷ []) (cond (has_unmarked history) [] (Acknowledge number ∷ []))) has)

      all_parts : HasParts s.table s.lengths new memory
      all_parts owner there inside = let is : IsInFile s owner = record { there = there; inside = inside } in
          clean owner is (untouched owner is)

      pub marked_nothing : IsDurable files now (marked_with noted spaces s.write_outs) seen may
      marked_nothing = record {
        old = new;
        new = new;
        consistent = consistent_other s.table old new new s.write_outs seen may committed consistent;
        written = record {
          before = made;
          old_are = made_contents new w.new_are.fits (w.same_lengths unset) all_parts;
          acknowledged = made_acknowledged;
          marked = made;
          new_are = made_contents new w.new_are.fits (w.same_lengths unset) all_parts;
          grown = made_acknowledged;
          marks = All-weaker (λ (x : WriteOut). Contains w.marked (Mark x.batch.mark)) (λ (x : WriteOut). Contains made
              (Mark x.batch.mark)) (λ x has. in_made (Mark x.batch.mark) has) s.write_outs.batches w.marks;
          fresh = λ y there early has. none_early y there early;
          only = record {
            each = λ n has. inl (all_acked n has);
            in_before = made_acked;
            in_marked = λ n has. inl (made_acked n has);
          };
          numbered = made_numbered;
          ready = λ broken held. absurd (none_now held);
          clean = inr (made_clean s.write_outs new all_parts);
          same_lengths = λ none. w.same_lengths unset;
          frozen = subst (λ (pages : List FilePage). All (λ owner. new (home_of s.table owner) ≡ cut_at_end s owner
              (bytes_at_mark s.hardware.memory owner)) pages) (sym nothing_frozen) (λ k d lt. absurd (omega arith));
        };
      }

    -- ---- something was

    module _ (pages : List FilePage)
        (gathers : Gathers s.hardware.spaces s.hardware.memory s.checkpoint noted (not s.write_outs.broken) pages)
        (unmarked : has_unmarked history ≡ true) where
      is_stored : (owner : FilePage) → Contains pages owner → is_touched history owner.file owner.page ≡ true
      is_stored owner has = ((touched.each owner).1 ((gathers.gathered.dirty owner).0 has)).1

      is_gathered : (owner : FilePage) → IsInFile s owner → is_touched history owner.file owner.page ≡ true
          → Contains pages owner
      is_gathered owner in_file is = (gathers.gathered.dirty owner).1 ((touched.each owner).0 (in_file, is))

      -- so the mark isn't acknowledged at once
      waits : (n : ℕ) → Contains (marked_by history number) (Acknowledge n) → ⊥
      waits n has = both_ways (has_unmarked history) (only_itself history number n has).0 unmarked

      -- what holds of contents after a prefix, and that it has what was acknowledged, holds of the longer history
      still_after : (contents : ℕ → List ℕ) (prefix : List Event)
          → AreContentsOf files history s.table contents prefix
          → AreContentsOf files (history ++ marked_by history number) s.table contents prefix
      still_after = contents_more files history (marked_by history number) s s (record { table = refl; lengths = refl })

      still_acknowledged : (prefix : List Event) → HasAcknowledged prefix history
          → HasAcknowledged prefix (history ++ marked_by history number)
      still_acknowledged prefix =
          acknowledged_more prefix history (marked_by history number) (λ n has. absurd (waits n has))

      -- of a broken machine the mark is lost
      pub marked_lost : s.write_outs.broken ≡ true
          → IsDurable files now (marked_with noted spaces s.write_outs) seen may
      marked_lost broken =
          let x = marked_with noted spaces s.write_outs in
          record {
            old = old;
            new = new;
            consistent = consistent;
            written = record {
              before = w.before;
              old_are = still_after old w.before w.old_are;
              acknowledged = still_acknowledged w.before w.acknowledged;
              marked = w.marked;
              new_are = still_after new w.marked w.new_are;
              grown = still_acknowledged w.marked w.grown;
              marks = w.marks;
              fresh = λ y there early has. none_early y there early;
              only = record {
                each = λ n has. elim (Contains-append_cases history (marked_by history number) (Mark n) has) [
                  | inl was ↦ inl (history_acked n was)
                  | inr this ↦ inr (inr (record { broken = broken; no_mark = λ held. none_now held }))
                ];
                in_before = λ n has. still_acked n (w.only.in_before n has);
                in_marked = λ n has. inl (marked_acked n has);
              };
              numbered = made_numbered;
              ready = λ broken held. absurd (none_now held);
              clean = inl (record { broken = broken; no_mark = λ held. none_now held });
              same_lengths = λ none. w.same_lengths (false_from_ne_true s.resized
                  (λ set. both_ways s.write_outs.broken (sound.write_outs.quiescent set).1 broken));
              frozen = subst (λ (pages : List FilePage). All (λ owner. new (home_of s.table owner)
                  ≡ cut_at_end s owner (bytes_at_mark s.hardware.memory owner)) pages) (sym (gathers.frozen
                  ∙ cond-false (not s.write_outs.broken) pages [] (not_from_true s.write_outs.broken broken)))
                  (λ k d lt. absurd (omega arith));
            };
          }

      -- ---- a batch begins

      in_files : (owner : FilePage) → Contains pages owner → IsInFile s owner
      in_files owner has = let dirty = (gathers.gathered.dirty owner).0 has in
          sound.memory.in_files dirty.0 owner dirty.1

      -- a gathered page has its latest bytes
      gathered_bytes : (owner : FilePage) → Contains pages owner
          → bytes_at_mark s.hardware.memory owner ≡ memory owner.file owner.page
      gathered_bytes owner has =
          let dirty = (gathers.gathered.dirty owner).0 has in
          bytes_at_mark-held s sound none_frozen dirty.0 owner dirty.1 ∙ latest.latest dirty.0 owner dirty.1

      abbrev next_contents : ℕ → List ℕ
      next_contents = laid s (overlaid s pages new)

      abbrev lengths_home : ℕ
      lengths_home = first_home s.table.layout s.table.slots

      -- the lengths are those that New had, or those of the machine
      same_block : s.resized ≡ false → 0 < lengths_blocks s.table.layout → next_contents lengths_home ≡ new lengths_home
      same_block unset some =
          laid-other s sound (overlaid s pages new) lengths_home (λ set at. both_ways s.resized unset set)
          ∙ overlaid-other s pages new lengths_home (λ has.
          let at = contains_unmapped (home_of s.table) pages lengths_home has in
          let home = at.2 in absurd (omega (arith, home, some)))

      lengths_fit : AreLengths s.table s.lengths
      lengths_fit = record { count = sound.lengths; within = lengths_at s.table.files s.lengths sound.within }

      set_lengths : s.resized ≡ true → lengths_in s.table next_contents ≡ s.lengths
      set_lengths set =
          said_lengths s.table next_contents (sound.write_outs.quiescent set).2
          ∙ reads_lengths s.table s.lengths (next_contents lengths_home) sound.fits
          (record { are = lengths_fit; spelled = laid-lengths s sound (overlaid s pages new) set })

      next_lengths : lengths_in s.table next_contents ≡ s.lengths
      next_lengths = elim (cases_Bool s.resized) [
        | inl set ↦ set_lengths set
        | inr unset ↦ lengths_in-same s.table next_contents new (same_block unset) ∙ w.same_lengths unset
      ]

      next_fits : HasLengths s.table next_contents
      next_fits = elim (cases_Bool s.resized) [
        | inl set ↦ record {
          are = subst (AreLengths s.table) (sym next_lengths) lengths_fit;
          spelled = λ some. laid-lengths s sound (overlaid s pages new) set ∙ ap lengths_text (sym next_lengths);
        }
        | inr unset ↦ has_lengths-same s.table new next_contents (λ some. sym (same_block unset some)) w.new_are.fits
      ]

      -- a page's block
      next_page : (owner : FilePage)
          → next_contents (home_of s.table owner) ≡ overlaid s pages new (home_of s.table owner)
      next_page owner = laid-page s sound (overlaid s pages new) owner

      next_other : (b : ℕ) → (Contains (mark_homes s pages) b → ⊥) → next_contents b ≡ new b
      next_other b none = let parts = unwritten s pages b none in
          laid-other s sound (overlaid s pages new) b parts.0 ∙ overlaid-other s pages new b parts.1

      next_parts : HasParts s.table s.lengths next_contents memory
      next_parts owner there inside = let is : IsInFile s owner = record { there = there; inside = inside } in
          elim (cases_Bool (is_touched history owner.file owner.page)) [
            | inl stored ↦
                (let has = is_gathered owner is stored in
                ap (within_file s owner) (next_page owner ∙ overlaid-at s sound new pages owner in_files has
                ∙ ap (cut_at_end s owner) (gathered_bytes owner has))
                ∙ within_cut s owner (memory owner.file owner.page) (latest.whole owner.file owner.page))
            | inr untouched ↦
                ap (within_file s owner) (next_page owner ∙ overlaid-elsewhere s sound new pages owner in_files is
                (λ has. both_ways (is_touched history owner.file owner.page) untouched (is_stored owner has)))
                ∙ clean owner is untouched
          ]

      small_mark : number < 2 ^ 64
      small_mark = let few = prepared.0 in omega (arith, few)

      below : AllByRecursion (λ (x : WriteOut). x.batch.mark < number) s.write_outs.batches
      below =
          recursion_from_All (λ (x : WriteOut). x.batch.mark < number) s.write_outs.batches
          (All-weaker (λ (x : WriteOut). (0 < x.batch.mark) × (x.batch.mark ≤ s.marks)) (λ (x : WriteOut).
          x.batch.mark < number) (λ x is. omega (arith, is.1)) s.write_outs.batches sound.write_outs.marked)

      waits_now : (n : ℕ) → number ≡ n → IsWaiting (begun s.write_outs number (mark_homes s pages)).batches n
      waits_now n same =
          let batch = next_batch s.write_outs number (mark_homes s pages) in
          record {
            w = begun_of s.write_outs.geometry.slots batch;
            there = Contains-push s.write_outs.batches (begun_of s.write_outs.geometry.slots batch);
            early = begun_early s.write_outs.geometry.slots batch;
            is = same;
          }

      pub marked_pages : s.write_outs.broken ≡ false → AreHomes (geometry_of s.table) (mark_homes s pages)
          → IsDurable files now (marked_with noted spaces (begun s.write_outs number (mark_homes s pages))) seen may
      marked_pages whole fits =
          let homes = mark_homes s pages in
          let outs = begun s.write_outs number homes in
          let x = marked_with noted spaces outs in
          record {
            old = new;
            new = next_contents;
            consistent = consistent_begun s.table s.write_outs old new next_contents number homes seen may whole
                (prepared.1 whole) (omega arith) small_mark
                (subst (λ (g : GeometryValue). AreHomes g homes) (sym sound.write_outs.geometry) fits) below
                (λ b none. next_other b none) consistent;
            written = record {
              before = w.marked;
              old_are = still_after new w.marked w.new_are;
              acknowledged = still_acknowledged w.marked w.grown;
              marked = made;
              new_are = made_contents next_contents next_fits next_lengths next_parts;
              grown = made_acknowledged;
              marks = All-push (λ (y : WriteOut). Contains made (Mark y.batch.mark)) s.write_outs.batches
                  (begun_of s.write_outs.geometry.slots (next_batch s.write_outs number homes))
                  (All-weaker (λ (y : WriteOut). Contains w.marked (Mark y.batch.mark)) (λ (y : WriteOut). Contains made
                  (Mark y.batch.mark)) (λ y has. in_made (Mark y.batch.mark) has) s.write_outs.batches w.marks)
                  (Contains-push history (Mark number));
              fresh = λ y there early has. elim (Contains-push_cases s.write_outs.batches
                  (begun_of s.write_outs.geometry.slots (next_batch s.write_outs number homes)) y there) [
                    | inl older ↦ none_early y older early
                    | inr e ↦ mark_is_new (subst (λ (x : WriteOut). Contains w.marked (Mark x.batch.mark)) (sym e) has)
                  ];
              only = record {
                each = λ n has. elim (Contains-append_cases history (marked_by history number) (Mark n) has) [
                  | inl was ↦ inl (history_acked n was)
                  | inr this ↦ inr (inl (waits_now n (only_marked history number n this)))
                ];
                in_before = marked_acked;
                in_marked = λ n has. elim (Contains-append_cases history (Mark number ∷ []) (Mark n) has) [
                  | inl was ↦ inl (history_acked n was)
                  | inr this ↦ inr (waits_now n (only_marked history number n (Contains-append_left (Mark number ∷ [])
                      (cond (has_unmarked history) [] (Acknowledge number ∷ [])) (Mark n) this)))
                ];
              };
              numbered = made_numbered;
              ready = λ broken held. absurd (none_now held);
              clean = inr (made_clean outs next_contents next_parts);
              same_lengths = λ none. next_lengths;
              frozen = subst (λ (l : List FilePage). All (λ owner. next_contents (home_of s.table owner)
                  ≡ cut_at_end s owner (bytes_at_mark s.hardware.memory owner)) l) (sym (gathers.frozen
                  ∙ cond-true (not s.write_outs.broken) pages [] (not_from_false s.write_outs.broken whole)))
                  (λ k d lt. next_page (get_or pages k d)
                  ∙ overlaid-at s sound new pages (get_or pages k d) in_files (Contains-get_or pages k d lt));
            };
          }

    -- whatever was gathered
    module _ (pages : List FilePage)
        (gathers : Gathers s.hardware.spaces s.hardware.memory s.checkpoint noted (not s.write_outs.broken) pages) where
      -- what is written was stored, or a length was set
      unmarked_by_homes : (home : ℕ) (homes : List ℕ) → mark_homes s pages ≡ home ∷ homes → has_unmarked history ≡ true
      unmarked_by_homes home homes is = elim (cases_Bool s.resized) [
        | inl set ↦ unmarked_by_resized history (has_files.resized ∙ set)
        | inr unset ↦ by_first pages (λ owner has. ((touched.each owner).1 ((gathers.gathered.dirty owner).0 has)).1)
            (ap (λ b. cond b (first_home s.table.layout s.table.slots ∷ []) [] ++ map (home_of s.table) pages)
            (sym unset) ∙ is)
      ]
        where
          by_first : (owners : List FilePage)
              → ((owner : FilePage) → Contains owners owner → is_touched history owner.file owner.page ≡ true)
              → map (home_of s.table) owners ≡ home ∷ homes → has_unmarked history ≡ true
          by_first [] stored is = absurd (cc)
          by_first (first ∷ owners) stored is =
              unmarked_by_touched history first.file first.page (stored first (0, omega arith, refl))

      by_homes : (s.write_outs.broken ≡ false → 0 < length (mark_homes s pages)
          → AreHomes (geometry_of s.table) (mark_homes s pages))
          → IsDurable files now (marked_with noted spaces (with_batch s number (mark_homes s pages))) seen may
      by_homes fits = by (mark_homes s pages) refl
        where
          by : (homes : List ℕ) → mark_homes s pages ≡ homes
              → IsDurable files now (marked_with noted spaces (with_batch s number homes)) seen may
          by [] is =
              let none = none_written s pages is in
              marked_nothing (subst (λ (l : List FilePage). Gathers s.hardware.spaces s.hardware.memory s.checkpoint
              noted (not s.write_outs.broken) l) none.1 gathers) none.0
          by (home ∷ homes) is = elim (cases_Bool s.write_outs.broken) [
            | inl broken ↦
                subst (λ (outs : WriteOutsValue). IsDurable files now (marked_with noted spaces outs) seen may)
                (sym (cond-true s.write_outs.broken s.write_outs (begun s.write_outs number (home ∷ homes)) broken))
                (marked_lost pages gathers (unmarked_by_homes home homes is) broken)
            | inr whole ↦
                subst (λ (outs : WriteOutsValue). IsDurable files now (marked_with noted spaces outs) seen may)
                (sym (cond-false s.write_outs.broken s.write_outs (begun s.write_outs number (home ∷ homes)) whole))
                (subst (λ (l : List ℕ). IsDurable files now
                (marked_with noted spaces (begun s.write_outs number l)) seen may) is
                (marked_pages pages gathers (unmarked_by_homes home homes is) whole
                (fits whole (omega (arith, ap length is)))))
          ]

  -- after a mark; that a batch's home blocks fit is a fact of the state after it
  pub marked_durable : (new_state : State) (is : MarkMade s p number new_state) → (s.write_outs.broken ≡ false
      → 0 < length (mark_homes s is.pages) → AreHomes (geometry_of s.table) (mark_homes s is.pages))
      → IsDurable files now new_state seen may
  marked_durable new_state is fits = subst (λ (x : State). IsDurable files now x seen may) (sym is.done)
      (by_homes is.noted is.spaces is.pages is.gathered fits)
