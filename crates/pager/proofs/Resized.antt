-- A file's length becomes another: what holds of a pager after it.
use Rattle.std.proofs.Common.{◌≡◌, ◌⊎◌, ℕ, ◌+◌, ◌-◌, ◌/◌, ◌%◌, ◌<◌, ◌≤◌, Bool, true, false, List}
use Rattle.std.proofs.Common.{[], ◌∷◌, ◌++◌, length, get_or, set, None, refl, ap, sym, ◌∙◌, subst, arith, inl, inr}
use Rattle.std.proofs.Common.{eqb, ltb, if◌then◌else◌}
use Rattle.std.specs.Prelude.{nat_le, nat_lt}
use Rattle.std.proofs.lemmas.Bool.{cond-false, cond-true, cases_lt, ne_eqb, lt-ltb, leb-false, eqb-false}
use Rattle.std.proofs.lemmas.Bool.Decides.{nat_tests}
use Rattle.device.specs.declared.device.Device.{Ghosts}
use Rattle.page_entry.specs.declared.refusal.Refusal.TheVariants as refusals
use Rattle.volume_codec.specs.Files.{File}
use Rattle.volume_codec.specs.Layout.{first_home, first_file_home, lengths_blocks}
use Rattle.volume_codec.specs.Lengths.{AreLengths, HasLengths, lengths_in, lengths_text}
use Rattle.volume_codec.specs.Super.{SuperValue, block_count, capacities_in, first_home_of, pages_of}
use Rattle.volume_codec.proofs.Public.{said_lengths, reads_lengths}
use Rattle.journal.specs.Pages.{home_of}
use Rattle.history.specs.History.{Event, SetLength, lengths_of, lengths_after}
use Rattle.history.proofs.Public.{total_pages-within}
use Rattle.kept_blocks.specs.Blocks.{Blocks, with_zeros, cut_to}
use Rattle.pager.specs.State.{PagerState, file_length}
use Rattle.pager.specs.Calls.{first_reason, reason_if, end_page, grown, shrunk, restaged}
use Rattle.pager.specs.Calls.{is_overfull, last_page, resized_to, after_length}
use Rattle.pager.specs.Histories.{IsResize}
use Rattle.pager.specs.inside.Contents.{written_over, HaveFiles}
use Rattle.pager.proofs.Capacities.{are_set}
use Rattle.pager.proofs.Having.{Grows, Shrinks, lengths_resized, resized_has}
use Rattle.pager.proofs.Overlaid.{over_there, over_elsewhere, zeros_there, zeros_elsewhere, fewer_kept, fewer_gone}
use Rattle.pager.proofs.Histories.{Keeps, keeps_call, only_read}
use Rattle.pager.proofs.Files.{are_now, seen_now}

-- nothing is against it
record IsFree (a b c d : Bool) : Type 0 where
  block : a ≡ false
  there : b ≡ false
  fits : c ≡ false
  whole : d ≡ false

free_of : (a b c d e : Bool) (t : Bool) → t ≡ false
    → first_reason (reason_if a refusals.Einval ∷ reason_if b refusals.NoFile ∷ reason_if c refusals.Einval
    ∷ (if t then None else first_reason (reason_if d refusals.Broken ∷ reason_if e refusals.NoFrame ∷ [])) ∷ []) ≡ None
    → IsFree a b c d
free_of true b c d e t other none = absurd (cc)
free_of false true c d e t other none = absurd (cc)
free_of false false true d e t other none = absurd (cc)
free_of false false false d e true other none = absurd (cc)
free_of false false false true e false other none = absurd (cc)
free_of false false false false e false other none = record { block = refl; there = refl; fits = refl; whole = refl }

module _ {D : Type 0} (disk : Ghosts D) (files : List File) (history : List Event) (s : PagerState D)
    (file to : ℕ) (after_it : D) (resize : IsResize disk s file to after_it) (k : Keeps disk files history s) where
  abbrev table : SuperValue
  table = s.table

  abbrev from : ℕ
  from = file_length s.lengths file

  abbrev lengths : List ℕ
  lengths = set s.lengths file to

  abbrev event : Event
  event = SetLength file from to

  abbrev last : List ℕ
  last = last_page s (disk.seen s.device) file

  abbrev now : ℕ → List ℕ
  now = written_over s.staged k.new

  abbrev first : ℕ
  first = first_home table.layout table.slots

  abbrev home : ℕ
  home = home_of table (end_page file from)

  abbrev contents : ℕ → List ℕ
  contents = written_over (restaged table s.lengths file to last s.staged) k.new

  free : IsFree (eqb (lengths_blocks table.layout) 0) (nat_le (length s.lengths) file)
      (nat_lt (get_or (capacities_in table) file 0) to) s.write_outs.broken
  free = free_of (eqb (lengths_blocks table.layout) 0) (nat_le (length s.lengths) file)
      (nat_lt (get_or (capacities_in table) file 0) to) s.write_outs.broken
      (is_overfull table s.most (restaged table s.lengths file to [] s.staged)) (eqb to from)
      (ne_eqb to from resize.other) resize.admitted

  some_block : 0 < lengths_blocks table.layout
  some_block = let other = eqb-false (lengths_blocks table.layout) 0 free.block in omega (arith, other)

  there : file < length s.lengths
  there = leb-false (length s.lengths) file free.there

  fits : to ≤ get_or (capacities_in table) file 0
  fits = let test = free.fits in grind (arith, nat_tests, test)

  are : AreLengths table s.lengths
  are = are_now disk files history s k

  in_table : file < length table.files
  in_table = omega (arith, there, are.count)

  are_lengths : AreLengths table lengths
  are_lengths = are_set table s.lengths file to are fits

  -- ---- the block of the lengths

  -- what a growth or a shrink puts
  abbrev changed : Blocks
  changed = if ltb from to then grown table file from to last s.staged else shrunk table file from to s.staged

  lengths_at : contents first ≡ lengths_text lengths
  lengths_at = over_there k.new changed first (lengths_text lengths) first refl

  said : lengths_in table contents ≡ lengths
  said = said_lengths table contents some_block
      ∙ reads_lengths table lengths (contents first) k.table (record { are = are_lengths; spelled = lengths_at })

  has_lengths : HasLengths table contents
  has_lengths = record {
    are = subst (AreLengths table) (sym said) are_lengths;
    spelled = λ some. lengths_at ∙ ap lengths_text (sym said);
  }

  -- ---- the other blocks

  -- those of a growth or a shrink
  elsewhere : (b : ℕ) → first_file_home table.layout table.slots ≤ b → contents b ≡ written_over changed k.new b
  elsewhere b low = over_elsewhere k.new changed first (lengths_text lengths) b
      (λ e. omega (arith, e, low, some_block))

  -- ---- a growth

  module _ (grows : from < to) where
    abbrev many : ℕ
    many = pages_of to - (from / 4096 + 1)

    last_below : home < block_count table
    last_below = omega (arith, fits, grows, total_pages-within table.files file in_table)

    last_is : last ≡ now home
    last_is = seen_now disk files history s k free.whole home (record { low = omega arith; high = last_below })

    -- all of them, but for the block of the lengths
    abbrev more : Blocks
    more = with_zeros s.staged (home + 1) many

    grown_at : (b : ℕ) → first_file_home table.layout table.slots ≤ b → contents b
        ≡ written_over (grown table file from to last s.staged) k.new b
    grown_at b low = elsewhere b low ∙ ap (λ (m : Blocks). written_over m k.new b)
        (cond-true (ltb from to) (grown table file from to last s.staged) (shrunk table file from to s.staged)
        (lt-ltb from to grows))

    grows_to : Grows table s.lengths file to now contents
    grows_to = record {
      more = grows;
      last = grown_at home (omega arith) ∙ over_there k.new more home (cut_to (from % 4096) last) home refl
          ∙ ap (cut_to (from % 4096)) last_is;
      added = λ b low past high. grown_at b low
          ∙ over_elsewhere k.new more home (cut_to (from % 4096) last) b (λ e. omega (arith, e, past))
          ∙ zeros_there k.new s.staged (home + 1) many b (omega (arith, past)) (omega (arith, past, high));
      others = λ b low out. grown_at b low
          ∙ over_elsewhere k.new more home (cut_to (from % 4096) last) b
          (λ e. out (omega (arith, e)) (omega (arith, e, grows)))
          ∙ zeros_elsewhere k.new s.staged (home + 1) many b
          (λ past high. out (omega (arith, past)) (omega (arith, high, grows)));
    }

  -- ---- a shrink

  module _ (shrinks : to < from) where
    abbrev low_end : ℕ
    low_end = first_home_of table file + pages_of to

    abbrev high_end : ℕ
    high_end = first_home_of table file + pages_of from

    abbrev cut_home : ℕ
    cut_home = home_of table (end_page file to)

    shrunk_at : (b : ℕ) → first_file_home table.layout table.slots ≤ b → contents b
        ≡ written_over (shrunk table file from to s.staged) k.new b
    shrunk_at b low = elsewhere b low ∙ ap (λ (m : Blocks). written_over m k.new b)
        (cond-false (ltb from to) (grown table file from to last s.staged) (shrunk table file from to s.staged)
        (let test : ltb from to ≡ false = grind (arith, nat_tests, shrinks) in test))

    shrinks_to : Shrinks table s.lengths file to now contents
    shrinks_to = record {
      less = shrinks;
      kept = λ b low outside. elim (fewer_kept k.new s.staged low_end high_end cut_home (to % 4096) b outside) [
        | inl same ↦ inl (shrunk_at b low ∙ same)
        | inr cut_bytes ↦ inr (shrunk_at b low ∙ cut_bytes)
      ];
      past = λ b low high gone.
          ap length (shrunk_at b low ∙ fewer_gone k.new s.staged low_end high_end cut_home (to % 4096) b gone)
          ∙ k.new_has.blocks b low high;
    }

  -- ---- either

  changes : Grows table s.lengths file to now contents ⊎ Shrinks table s.lengths file to now contents
  changes = elim (cases_lt from to) [
    | inl lt ↦ inl (grows_to lt)
    | inr le ↦ inr (shrinks_to (let other = resize.other in omega (arith, le, other)))
  ]

  lengths_now : lengths_after (lengths_of files) (history ++ event ∷ []) ≡ lengths
  lengths_now = lengths_resized files table history s.lengths now k.current k.lengths file to contents there fits
      has_lengths said

  has_now : HaveFiles files table contents (history ++ event ∷ [])
  has_now = resized_has files table history s.lengths now k.current k.lengths file to contents there fits has_lengths
      said changes

  keeps_to : Keeps disk files (history ++ event ∷ []) (resized_to s file to last after_it)
  keeps_to = keeps_call disk files history s event lengths (restaged table s.lengths file to last s.staged) after_it k
      (λ n e. cc) has_now lengths_now (only_read disk files history s after_it resize.read k)

  pub keeps_resized : Keeps disk files (history ++ event ∷ []) (after_length s file to last after_it)
  keeps_resized = subst (λ (p : PagerState D). Keeps disk files (history ++ event ∷ []) p)
      (sym (cond-false (eqb to from) s (resized_to s file to last after_it) (ne_eqb to from resize.other))) keeps_to
