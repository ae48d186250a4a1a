-- A change of a file's length: what the device recovers to stays, and goes with the longer history.
use Rattle.machine.proofs.Names.{◌≡◌, ◌≢◌, ℕ, ◌-◌, ◌*◌, ◌/◌, ◌<◌, ◌≤◌, false, List, [], ◌∷◌, ◌++◌, length, take, drop}
use Rattle.machine.proofs.Names.{sym, ap, ◌∙◌, subst, inl, inr, arith, min, cases_eq, cases_lt}
use Rattle.machine.proofs.Names.{both_ways, false≢true, length-take, take_all, take-take, Contains}
use Rattle.machine.proofs.Names.{Contains-append_cases, FilePage, File, block_at}
use Rattle.machine.proofs.Names.{Event, Memory, Mark, Acknowledge, memory_of}
use Rattle.machine.proofs.Names.{after, is_touched, cut_file, State, length_of}
use Rattle.machine.proofs.Names.{home_of, ResizeMade, IsInFile, within_file, Observed, IsSound, IsLost, AreContentsOf}
use Rattle.machine.proofs.Names.{HasAcknowledged, IsWritten, WriteOut}
use Rattle.history.specs.History.{SetLength}
use Rattle.history.proofs.Public.{contains_none}
use Rattle.history.proofs.Public as cuts
use Rattle.history.proofs.Public.{cut, cut-whole, take-cut, cut_file-there, cut_file-other}
use Rattle.machine.proofs.durable.Histories.{marks_more, written_as}
use Rattle.history.proofs.Public.{begins_more, acknowledged_more}
use Rattle.machine.proofs.durable.Homes.{home_is}
use Rattle.machine.proofs.sound.ByResize.{resizable, none_frozen_then, after_it, length_there, length_elsewhere}
use Rattle.machine.proofs.Names.{HasPages, IsDurable}

-- fewer of the same first bytes
take_fewer : (m n : ℕ) (xs ys : List ℕ) → m ≤ n → take n xs ≡ take n ys → take m xs ≡ take m ys
take_fewer m n xs ys le same = sym (take-take m n xs le) ∙ ap (take m) same ∙ take-take m n ys le

module _ (files : List File) (observed : Observed) (s : State) (p : ℕ) (disk : List ℕ)
    (may : List ℕ → Type 0) (new : State)
    (made : ResizeMade s p new)
    (sound : IsSound s) (has : HasPages files observed s) (d : IsDurable files observed s disk may) where
  abbrev from : ℕ
  from = length_of s made.file

  abbrev low : ℕ
  low = min (length_of s made.file) made.to

  abbrev events : List Event
  events = SetLength made.file from made.to ∷ []

  abbrev longer : List Event
  longer = observed.history ++ events

  abbrev before : Memory
  before = after (memory_of files) observed.history

  abbrev x : State
  x = after_it s p new made sound

  abbrev w : IsWritten files observed s d.old d.new
  w = d.written

  no_mark : (n : ℕ) → Contains events (Mark n) → ⊥
  no_mark = cuts.length_marks observed.history made.file from made.to

  no_acknowledgement : (n : ℕ) → Contains events (Acknowledge n) → ⊥
  no_acknowledgement = cuts.length_acknowledges observed.history made.file from made.to

  -- the machine isn't broken, so no mark was lost
  none_lost : IsLost s → ⊥
  none_lost lost = both_ways s.write_outs.broken (resizable s p new made sound).whole lost.broken

  -- ---- prefixes

  contents_longer : (contents : ℕ → List ℕ) (prefix : List Event)
      → AreContentsOf files observed.history s.table contents prefix
      → AreContentsOf files longer s.table contents prefix
  contents_longer contents prefix are = record {
    rest = are.rest ++ events;
    begins = begins_more prefix are.rest observed.history events are.begins;
    marked = are.marked;
    whole = are.whole;
    fits = are.fits;
    same_lengths = are.same_lengths;
    parts = are.parts;
  }

  acknowledged_longer : (prefix : List Event) → HasAcknowledged prefix observed.history → HasAcknowledged prefix longer
  acknowledged_longer prefix acks =
      acknowledged_more prefix observed.history events (λ n there. absurd (no_acknowledgement n there)) acks

  -- ---- pages that aren't touched

  -- New's block of a page is what a read gives
  short_home : (owner : FilePage) → IsInFile s owner → length (d.new (home_of s.table owner)) ≤ 4096
  short_home owner is =
      let home = home_of s.table owner in
      let read : block_at disk home ≡ d.new home =
      d.consistent.reads (resizable s p new made sound).whole home (home_is s sound owner is) (λ block.
      contains_none block.0
      (subst (λ (l : List WriteOut). Contains l block.0) (resizable s p new made sound).done block.1)) in
      omega (arith, ap length (sym read), length-take 4096 (drop (4096 * home) disk))

  -- it has the page's part, where the page was in its file and wasn't touched
  clean_then : (owner : FilePage) → IsInFile s owner → is_touched observed.history owner.file owner.page ≡ false
      → within_file s owner (d.new (home_of s.table owner)) ≡ within_file s owner (before owner.file owner.page)
  clean_then owner is untouched =
      elim w.clean [ inl lost ↦ absurd (none_lost lost) | inr clean ↦ clean owner is untouched ]

  abbrev bytes_after : FilePage → List ℕ
  bytes_after owner = after (memory_of files) longer owner.file owner.page

  bytes_are : (owner : FilePage) → bytes_after owner ≡ cut_file before made.file low owner.file owner.page
  bytes_are owner = ap (λ (m : Memory). m owner.file owner.page)
      (cuts.after_set_length observed.history made.file from made.to (memory_of files))

  -- a part of these bytes and those, for so many
  abbrev Agree : FilePage → ℕ → List ℕ → Type 0
  Agree owner n bytes = take n (d.new (home_of s.table owner)) ≡ take n bytes

  -- a page of another file
  clean_elsewhere : (owner : FilePage) → owner.file ≢ made.file → IsInFile x owner
      → is_touched observed.history owner.file owner.page ≡ false
      → within_file x owner (d.new (home_of s.table owner)) ≡ within_file x owner (bytes_after owner)
  clean_elsewhere owner other is untouched =
      let long = length_elsewhere s p new made sound owner.file other in
      let inside : IsInFile s owner = record { there = is.there; inside = omega (arith, is.inside, long) } in
      let same : bytes_after owner ≡ before owner.file owner.page =
      bytes_are owner ∙ cut_file-other before made.file low owner.file owner.page other in
      subst (Agree owner (length_of x owner.file - 4096 * owner.page)) (sym same)
      (subst (λ n. Agree owner (n - 4096 * owner.page) (before owner.file owner.page)) (sym long)
      (clean_then owner inside untouched))

  -- a page of this file: it was inside, and a growth doesn't have it
  module _ (owner : FilePage) (same : owner.file ≡ made.file) (is : IsInFile x owner)
      (u : cuts.WasUntouched observed.history made.file from made.to owner.file owner.page) where
    abbrev page : ℕ
    page = owner.page

    abbrev bytes : List ℕ
    bytes = before owner.file owner.page

    size : length bytes ≡ 4096
    size = has.latest.whole owner.file owner.page

    long_then : length_of s owner.file ≡ from
    long_then = ap (length_of s) same

    long_now : length_of x owner.file ≡ made.to
    long_now = ap (length_of x) same ∙ length_there s p new made sound

    inside_now : 4096 * page < made.to
    inside_now = omega (arith, is.inside, long_now)

    inside_then : 4096 * page < from
    inside_then = elim (cases_lt (4096 * page) from) [
      | inl lt ↦ lt
      | inr le ↦ absurd (u.apart same (omega (arith, inside_now, le)) (omega (arith, le)) (omega (arith, inside_now)))
    ]

    agree_then : Agree owner (from - 4096 * page) bytes
    agree_then = subst (λ n. Agree owner (n - 4096 * page) bytes) long_then
        (clean_then owner (record { there = is.there; inside = omega (arith, inside_then, long_then) }) u.before)

    cut_is : bytes_after owner ≡ cut (low - 4096 * page) bytes
    cut_is = bytes_are owner ∙ cut_file-there before made.file low owner.file owner.page same

    -- the file becomes shorter
    shorter : made.to ≤ from → Agree owner (made.to - 4096 * page) (bytes_after owner)
    shorter le =
        let end : low - 4096 * page ≡ made.to - 4096 * page = omega (arith, le) in
        take_fewer (made.to - 4096 * page) (from - 4096 * page) (d.new (home_of s.table owner)) bytes
        (omega (arith, le)) agree_then
        ∙ sym (ap (take (made.to - 4096 * page)) (cut_is ∙ ap (λ n. cut n bytes) end)
        ∙ take-cut (made.to - 4096 * page) bytes size)

    -- it becomes longer: the page was whole
    longer_than : from < made.to → Agree owner (made.to - 4096 * page) (bytes_after owner)
    longer_than lt =
        let earlier : page < from / 4096 = elim (cases_lt page (from / 4096))
        [ inl low ↦ low | inr le ↦ absurd (u.apart same lt le (omega (arith, inside_now))) ] in
        let past : 4096 ≤ from - 4096 * page = omega (arith, earlier) in
        let few = short_home owner (record { there = is.there; inside = omega (arith, inside_then, long_then) }) in
        let equal : d.new (home_of s.table owner) ≡ bytes =
        sym (take_all (from - 4096 * page) (d.new (home_of s.table owner)) (omega (arith, few, past))) ∙ agree_then
        ∙ take_all (from - 4096 * page) bytes (omega (arith, size, past)) in
        let end : 4096 ≤ low - 4096 * page = omega (arith, past, lt) in
        ap (take (made.to - 4096 * page)) (equal ∙ sym (cut_is ∙ cut-whole (low - 4096 * page) bytes size end))

    clean_here : within_file x owner (d.new (home_of s.table owner)) ≡ within_file x owner (bytes_after owner)
    clean_here = subst (λ n. Agree owner (n - 4096 * page) (bytes_after owner)) (sym long_now)
        (elim (cases_lt from made.to) [ inl lt ↦ longer_than lt | inr le ↦ shorter le ])

  clean_now : (owner : FilePage) → IsInFile x owner → is_touched longer owner.file owner.page ≡ false
      → within_file x owner (d.new (home_of s.table owner)) ≡ within_file x owner (bytes_after owner)
  clean_now owner is untouched =
      let u = cuts.untouched_before observed.history made.file from made.to owner.file owner.page untouched in
      elim (cases_eq owner.file made.file) [
        | inl same ↦ clean_here owner same is u
        | inr other ↦ clean_elsewhere owner other is u.before
      ]

  -- ---- what the device recovers to

  written_longer : IsWritten files (record observed { history = longer }) x d.old d.new
  written_longer = record {
    before = w.before;
    old_are = contents_longer d.old w.before w.old_are;
    acknowledged = acknowledged_longer w.before w.acknowledged;
    marked = w.marked;
    new_are = contents_longer d.new w.marked w.new_are;
    grown = acknowledged_longer w.marked w.grown;
    marks = w.marks;
    fresh = w.fresh;
    only = marks_more w.before w.marked observed.history events s x no_mark (λ n wait. inr wait)
        (λ lost. absurd (none_lost lost)) w.only;
    numbered = λ n there. elim (Contains-append_cases observed.history events (Mark n) there)
        [ inl was ↦ w.numbered n was | inr this ↦ absurd (no_mark n this) ];
    ready = λ broken held. absurd (both_ways s.write_outs.broken (resizable s p new made sound).whole broken);
    clean = inr clean_now;
    same_lengths = λ none. absurd (false≢true (sym none));
    frozen = λ k e within. absurd
        (omega (arith, within, ap length (made.pages.frozen ∙ none_frozen_then s p new made sound)));
  }

  durable_longer : (now : Observed) → now.history ≡ longer → IsDurable files now x disk may
  durable_longer now history = record {
    old = d.old;
    new = d.new;
    consistent = d.consistent;
    written = written_as files (record observed { history = longer }) now x d.old d.new history written_longer;
  }

pub resized_durable : (files : List File) (observed now : Observed) (s : State) (p : ℕ)
    (disk : List ℕ) (may : List ℕ → Type 0)
    (new : State) → (made : ResizeMade s p new)
    → now.history ≡ observed.history ++ SetLength made.file (length_of s made.file) made.to ∷ [] → IsSound s
    → HasPages files observed s → IsDurable files observed s disk may → IsDurable files now new disk may
resized_durable files observed now s p disk may new made history sound has d =
    subst (λ (y : State). IsDurable files now y disk may) (sym made.done)
    (durable_longer files observed s p disk may new made sound has d now history)
