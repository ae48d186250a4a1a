-- A file's length becomes another: what holds after it.
use Rattle.std.proofs.Common.{◌≡◌, ◌⊎◌, ℕ, ◌+◌, ◌-◌, ◌/◌, ◌%◌, ◌<◌, ◌≤◌, Bool, true, false, List}
use Rattle.std.proofs.Common.{[], ◌∷◌, ◌++◌, length, get_or, set, None, refl, ap, sym, ◌∙◌, subst, arith, inl, inr}
use Rattle.std.proofs.Common.{eqb, ltb, if◌then◌else◌}
use Rattle.std.specs.Prelude.{nat_le, nat_lt, ◌||◌}
use Rattle.std.proofs.lemmas.Bool.{cond-false, cond-true, cases_lt, ne_eqb, lt-ltb, leb-false}
use Rattle.std.proofs.lemmas.Bool.Decides.{nat_tests}
use Rattle.device.specs.declared.device.Device.{Ghosts}
use Rattle.page_entry.specs.declared.refusal.Refusal.TheVariants as refusals
use Rattle.volume_codec.specs.declared.layout.Layout.TheVariants.{Three}
use Rattle.volume_codec.specs.Files.{File}
use Rattle.volume_codec.specs.Layout.{first_file_home}
use Rattle.volume_codec.specs.Lengths.{IsLengths, HasLengths, lengths_in, lengths_text}
use Rattle.volume_codec.specs.Super.{capacities_in, pages_of}
use Rattle.journal.specs.Pages.{home_of}
use Rattle.history.specs.History.{Event, SetLength, lengths_of, lengths_after}
use Rattle.kept_blocks.specs.Blocks.{Blocks, with_zeros, cut_to}
use Rattle.pager.specs.State.{file_length}
use Rattle.pager.specs.Calls.{first_reason, reason_if, end_page}
use Rattle.pager.proofs.Public.{are_set, lengths_may, Grows, Shrinks, stays_in, lengths_resized, resized_has}
use Rattle.pager.proofs.Public.{over_there, over_elsewhere, zeros_there, zeros_elsewhere, fewer_kept, fewer_gone}
use Rattle.log_codec.specs.Log.{first_log_home}
use Rattle.log_volume.specs.Super.{LogSuperValue, table_of}
use Rattle.log_pager.specs.Pager.{IsPagerOver, contents_put}
use Rattle.log_files.specs.State.{LogFilesState, log_first_home_of, log_home_of, pages_put}
use Rattle.log_files.specs.Calls.{log_grown, log_shrunk, log_restaged, last_log_page, log_resized_to}
use Rattle.log_histories.specs.Histories.{IsLogResize}
use Rattle.log_histories.proofs.Lowered.{lower, depth, lowered, home_lowered}
use Rattle.log_histories.proofs.Lowered.{lengths_lowered, lengths_say, has_lengths_of}
use Rattle.log_histories.proofs.Keeping.{KeepsLog, HaveLogFiles, keeps_event}

-- nothing is against it
record IsLengthFree (a b : Bool) : Type 0 where
  there : a ≡ false
  fits : b ≡ false

free_of : (a b d e : Bool) (t : Bool) → t ≡ false
    → first_reason (reason_if a refusals.NoFile ∷ reason_if b refusals.Einval
    ∷ (if t then None else first_reason (reason_if d refusals.Broken ∷ reason_if e refusals.NoFrame ∷ [])) ∷ []) ≡ None
    → IsLengthFree a b
free_of true b d e t other none = absurd (cc)
free_of false true d e t other none = absurd (cc)
free_of false false d e true other none = absurd (cc)
free_of false false true e false other none = absurd (cc)
free_of false false false e false other none = record { there = refl; fits = refl }

module _ {D : Type 0} (disk : Ghosts D) (files : List File) (history : List Event) (s : LogFilesState D)
    (file to : ℕ) (next : LogFilesState D) (resize : IsLogResize disk s file to next)
    (contents : ℕ → List ℕ) (k : KeepsLog disk files history s contents) where
  abbrev v : LogSuperValue
  v = s.table

  abbrev staged : Blocks
  staged = s.pager.staged

  abbrev from : ℕ
  from = file_length s.lengths file

  abbrev lengths : List ℕ
  lengths = set s.lengths file to

  abbrev event : Event
  event = SetLength file from to

  abbrev last : List ℕ
  last = last_log_page s contents file

  -- what is put after it, but for the lengths, and with them
  abbrev changed : Blocks
  changed = if ltb from to then log_grown v file from to last staged else log_shrunk v file from to staged

  abbrev restaged : Blocks
  restaged = log_restaged v s.lengths file to last staged

  -- the contents before it and after it, as in layout 3
  abbrev old : ℕ → List ℕ
  old = lowered v (contents_put contents staged)

  abbrev new : ℕ → List ℕ
  new = lowered v (contents_put contents restaged)

  abbrev home : ℕ
  home = home_of (lower v) (end_page file from)

  abbrev log_home : ℕ
  log_home = log_home_of v (end_page file from)

  ring : 4 ≤ v.ring
  ring = k.fits.log.some_ring

  place : home + depth v ≡ log_home
  place = home_lowered v ring (end_page file from)

  free : IsLengthFree (nat_le (length s.lengths) file) (nat_lt (get_or (capacities_in (table_of v)) file 0) to)
  free = free_of (nat_le (length s.lengths) file) (nat_lt (get_or (capacities_in (table_of v)) file 0) to)
      s.pager.store.tail.spent (nat_lt s.most (pages_put v (log_restaged v s.lengths file to [] staged)))
      (eqb to from) (ne_eqb to from resize.other) resize.admitted

  there : file < length s.lengths
  there = leb-false (length s.lengths) file free.there

  fits : to ≤ get_or (capacities_in (lower v)) file 0
  fits = let test = free.fits in grind (arith, nat_tests, test)

  -- ---- the block of the lengths

  lengths_at : contents_put contents restaged (first_log_home v.ring) ≡ lengths_text lengths
  lengths_at = over_there contents changed (first_log_home v.ring) (lengths_text lengths) (first_log_home v.ring) refl

  is_lengths : IsLengths (table_of v) lengths (contents_put contents restaged (first_log_home v.ring))
  is_lengths =
      let are = lengths_may files (lower v) history s.lengths old k.current k.lengths in
      let set_are = are_set (lower v) s.lengths file to are fits in
      record { are = record { count = set_are.count; within = set_are.within }; spelled = lengths_at }

  has_lengths : HasLengths (lower v) new
  has_lengths = has_lengths_of v ring lengths (contents_put contents restaged) k.fits.table is_lengths

  says : lengths_in (lower v) new ≡ lengths
  says = lengths_lowered v ring (contents_put contents restaged)
      ∙ lengths_say v ring lengths (contents_put contents restaged) k.fits.table is_lengths

  -- ---- the other blocks

  elsewhere : (b : ℕ) → first_file_home Three 0 ≤ b → new b ≡ lowered v (contents_put contents changed) b
  elsewhere b low = over_elsewhere contents changed (first_log_home v.ring) (lengths_text lengths) (b + depth v)
      (λ e. omega (arith, e, low, ring))

  -- ---- a growth

  module _ (grows : from < to) where
    abbrev many : ℕ
    many = pages_of to - (from / 4096 + 1)

    abbrev more : Blocks
    more = with_zeros staged (log_home + 1) many

    abbrev page : List ℕ
    page = cut_to (from % 4096) last

    grown_at : (b : ℕ) → first_file_home Three 0 ≤ b → new b
        ≡ contents_put contents (log_grown v file from to last staged) (b + depth v)
    grown_at b low = elsewhere b low ∙ ap (λ (l : Blocks). contents_put contents l (b + depth v))
        (cond-true (ltb from to) (log_grown v file from to last staged) (log_shrunk v file from to staged)
        (lt-ltb from to grows))

    grows_to : Grows (lower v) s.lengths file to old new
    grows_to = record {
      more = grows;
      last = grown_at home (omega arith) ∙ over_there contents more log_home page (home + depth v) place
          ∙ ap (λ b. cut_to (from % 4096) (contents_put contents staged b)) (sym place);
      added = λ b low past high. grown_at b low
          ∙ over_elsewhere contents more log_home page (b + depth v) (λ e. omega (arith, e, past, place))
          ∙ zeros_there contents staged (log_home + 1) many (b + depth v) (omega (arith, past, place))
          (omega (arith, past, high, place));
      others = λ b low out. grown_at b low
          ∙ over_elsewhere contents more log_home page (b + depth v)
          (λ e. out (omega (arith, e, place)) (omega (arith, e, grows, place)))
          ∙ zeros_elsewhere contents staged (log_home + 1) many (b + depth v)
          (λ past high. out (omega (arith, past, place)) (omega (arith, high, grows, place)));
    }

  -- ---- a shrink

  module _ (shrinks : to < from) where
    abbrev low_end : ℕ
    low_end = log_first_home_of v file + pages_of to

    abbrev high_end : ℕ
    high_end = log_first_home_of v file + pages_of from

    abbrev cut_home : ℕ
    cut_home = log_home_of v (end_page file to)

    shrunk_at : (b : ℕ) → first_file_home Three 0 ≤ b → new b
        ≡ contents_put contents (log_shrunk v file from to staged) (b + depth v)
    shrunk_at b low = elsewhere b low ∙ ap (λ (l : Blocks). contents_put contents l (b + depth v))
        (cond-false (ltb from to) (log_grown v file from to last staged) (log_shrunk v file from to staged)
        (let test : ltb from to ≡ false = grind (arith, nat_tests, shrinks) in test))

    -- the same home blocks stay
    stays_moved : (b : ℕ) → stays_in (lower v) s.lengths file to b
        ≡ (nat_lt (b + depth v) low_end || nat_le high_end (b + depth v))
    stays_moved b = grind (arith, nat_tests, ring)

    cut_moved : (b : ℕ) → eqb (b + depth v) cut_home ≡ eqb b (home_of (lower v) (end_page file to))
    cut_moved b = grind (arith, nat_tests, ring)

    shrinks_to : Shrinks (lower v) s.lengths file to old new
    shrinks_to = record {
      less = shrinks;
      kept = λ b low outside. elim (fewer_kept contents staged low_end high_end cut_home (to % 4096) (b + depth v)
          (sym (stays_moved b) ∙ outside)) [
            | inl same ↦ inl (shrunk_at b low ∙ same)
            | inr cut_bytes ↦ inr (shrunk_at b low ∙ cut_bytes
                ∙ ap (λ t. if t then cut_to (to % 4096) (old b) else old b) (cut_moved b))
          ];
      past = λ b low high gone. ap length (shrunk_at b low
          ∙ fewer_gone contents staged low_end high_end cut_home (to % 4096) (b + depth v)
          (sym (stays_moved b) ∙ gone))
          ∙ k.has.blocks b low high;
    }

  -- ---- either

  changes : Grows (lower v) s.lengths file to old new ⊎ Shrinks (lower v) s.lengths file to old new
  changes = elim (cases_lt from to) [
    | inl lt ↦ inl (grows_to lt)
    | inr le ↦ inr (shrinks_to (let other = resize.other in omega (arith, le, other)))
  ]

  lengths_now : lengths_after (lengths_of files) (history ++ event ∷ []) ≡ lengths
  lengths_now = lengths_resized files (lower v) history s.lengths old k.current k.lengths file to new there fits
      has_lengths says

  has_now : HaveLogFiles files v (contents_put contents restaged) (history ++ event ∷ [])
  has_now = resized_has files (lower v) history s.lengths old k.current k.lengths file to new there fits has_lengths
      says changes

  -- the state after it
  pub next_is : next ≡ log_resized_to s file to last next.pager.device
  next_is = resize.resized contents k.over
      ∙ cond-false (eqb to from) s (log_resized_to s file to last next.pager.device) (ne_eqb to from resize.other)

  pub keeps_resize : KeepsLog disk files (history ++ SetLength file (file_length s.lengths file) to ∷ []) next
      contents
  keeps_resize =
      subst (λ (n : LogFilesState D). KeepsLog disk files (history ++ event ∷ []) n contents) (sym next_is)
      (keeps_event disk files history s contents k event lengths restaged next.pager.device (λ n e. cc)
      (subst (λ (n : LogFilesState D). IsPagerOver disk n.pager contents) next_is (resize.over contents k.over))
      has_now lengths_now (λ c may. resize.read.left c may))
