-- What holds of a pager at its opening, and after a page was put.
use Rattle.std.proofs.Common.{◌≡◌, ℕ, ◌*◌, ◌<◌, Bool, true, false, List, [], ◌∷◌, ◌++◌, length, get_or}
use Rattle.std.proofs.Common.{Option, Some, None, refl, sym, ◌∙◌, arith, inl}
use Rattle.std.specs.Prelude.{unwrap_or, nat_le}
use Rattle.std.specs.Option.{option_or}
use Rattle.std.proofs.lemmas.Bool.{leb-false}
use Rattle.device.specs.declared.device.Device.{Ghosts}
use Rattle.page_entry.specs.declared.numbers.FilePage.{FilePage}
use Rattle.page_entry.specs.declared.refusal.Refusal.TheVariants as refusals
use Rattle.volume_codec.specs.Files.{File}
use Rattle.volume_codec.specs.Layout.{block_at, IsHome}
use Rattle.volume_codec.specs.Lengths.{AreLengths}
use Rattle.volume_codec.specs.Super.{geometry_of, block_count}
use Rattle.volume_codec.specs.Recovery.{files_in}
use Rattle.volume_codec.proofs.Public.{length-block_at, fits_geometry}
use Rattle.journal.specs.Pages.{home_of}
use Rattle.journal.proofs.Public.{consistent_first}
use Rattle.recovery.specs.Volume.{VolumeState, IsAtRest}
use Rattle.history.specs.History.{Event, Store, memory_of, after, lengths_of}
use Rattle.history.specs.inside.Contents.{HasParts}
use Rattle.history.proofs.Public.{lengths_store}
use Rattle.kept_blocks.specs.Blocks.{bytes_in, newest_in, with_home}
use Rattle.pager.specs.State.{PagerState, newly_opened, up_to_end, current_in}
use Rattle.pager.specs.Calls.{reason_if, page_refusal, after_put}
use Rattle.pager.specs.Histories.{IsPut}
use Rattle.pager.specs.inside.Contents.{written_over, HaveFiles}
use Rattle.pager.proofs.Having.{IsInFile, starts, lengths_start, named_start, lengths_may, parts_are, stored_has}
use Rattle.pager.proofs.Overlaid.{over_there, over_elsewhere}
use Rattle.pager.proofs.Histories.{Keeps, keeps_call}
use Rattle.pager.proofs.Records.{block_found, IsFound}

-- ---- at the opening

pub keeps_opened : {D : Type 0} (disk : Ghosts D) (files : List File) (volume : VolumeState D) (most : ℕ)
    → IsAtRest disk volume → files ≡ files_in volume.table (block_at (disk.seen volume.device))
    → Keeps disk files [] (newly_opened volume most)
keeps_opened disk files volume most rest files_are =
    let seen = disk.seen volume.device in
    let whole : (b : ℕ) → b < block_count volume.table → length (block_at seen b) ≡ 4096 = λ b high.
    length-block_at seen b (let long = rest.holds.long in omega (arith, long, high)) in
    let has = starts volume.table (block_at seen) volume.lengths files whole rest.lengths_fit files_are
    rest.lengths_are in
    record {
      old = block_at seen;
      new = block_at seen;
      earlier = [];
      later = [];
      old_rest = [];
      new_rest = [];
      old_begins = refl;
      new_begins = refl;
      old_marked = inl refl;
      new_marked = inl refl;
      old_has = has;
      new_has = has;
      current = has;
      lengths = lengths_start volume.table (block_at seen) volume.lengths files whole rest.lengths_fit files_are
          rest.lengths_are;
      named = named_start volume.table (block_at seen) volume.lengths files whole rest.lengths_fit files_are
          rest.lengths_are;
      table = rest.holds.super_block.fits;
      consistent = consistent_first volume.table seen (disk.may_leave volume.device)
          (fits_geometry volume.table rest.holds.super_block.fits) rest.holds rest.synced;
      old_acknowledged = λ has number there. absurd (omega (arith, there.1));
      new_acknowledged = λ number there. absurd (omega (arith, there.1));
      marks = tt;
      records = λ b x e. absurd (cc);
      tied = refl;
    }

-- ---- a page is put

pub page_allowed : (lengths : List ℕ) (owner : FilePage) → page_refusal lengths owner ≡ None
    → (owner.file < length lengths) × (4096 * owner.page < get_or lengths owner.file 0)
page_allowed lengths owner e = by (nat_le (length lengths) owner.file) (nat_le (get_or lengths owner.file 0)
    (4096 * owner.page)) refl refl e
  where
    by : (a b : Bool) → nat_le (length lengths) owner.file ≡ a
        → nat_le (get_or lengths owner.file 0) (4096 * owner.page) ≡ b
        → option_or (reason_if a refusals.NoFile) (option_or (reason_if b refusals.Einval) None) ≡ None
        → (owner.file < length lengths) × (4096 * owner.page < get_or lengths owner.file 0)
    by true b is_a is_b e = absurd (cc)
    by false true is_a is_b e = absurd (cc)
    by false false is_a is_b e = (
      leb-false (length lengths) owner.file is_a,
      leb-false (get_or lengths owner.file 0) (4096 * owner.page) is_b,
    )

pub first_none : {X : Type 0} (a b : Option X) → option_or a b ≡ None → a ≡ None
first_none None b e = refl
first_none (Some x) b e = absurd (cc)

-- each file has a length that it may have
pub are_now : {D : Type 0} (disk : Ghosts D) (files : List File) (history : List Event) (s : PagerState D)
    → Keeps disk files history s → AreLengths s.table s.lengths
are_now disk files history s k =
    lengths_may files s.table history s.lengths (written_over s.staged k.new) k.current k.lengths

module _ {D : Type 0} (disk : Ghosts D) (files : List File) (history : List Event) (s : PagerState D)
    (k : Keeps disk files history s) where
  are : AreLengths s.table s.lengths
  are = are_now disk files history s k

  -- what the pager has of each page of its files
  pub parts_now : HasParts s.table s.lengths (written_over s.staged k.new) (after (memory_of files) history)
  parts_now = parts_are files s.table history s.lengths (written_over s.staged k.new) k.current k.lengths

  module _ (owner : FilePage) (bytes : List ℕ) (put : IsPut s owner bytes) where
    abbrev offset : ℕ
    offset = 4096 * owner.page

    abbrev event : Event
    event = Store owner.file offset bytes

    abbrev home : ℕ
    home = home_of s.table owner

    is_page : (owner.file < length s.lengths) × (4096 * owner.page < get_or s.lengths owner.file 0)
    is_page = page_allowed s.lengths owner (first_none (page_refusal s.lengths owner) _ put.admitted)

    in_file : IsInFile s.table s.lengths owner
    in_file = record { there = omega (arith, is_page.0, are.count); inside = is_page.1 }

    abbrev contents : ℕ → List ℕ
    contents = written_over (with_home s.staged home (up_to_end s.lengths owner bytes)) k.new

    put_has : HaveFiles files s.table contents (history ++ event ∷ [])
    put_has = stored_has files s.table history s.lengths (written_over s.staged k.new) k.current k.lengths owner bytes
        contents in_file put.a_page
        (over_there k.new s.staged home (up_to_end s.lengths owner bytes) home refl)
        (over_elsewhere k.new s.staged home (up_to_end s.lengths owner bytes))

    pub keeps_put : Keeps disk files (history ++ event ∷ []) (after_put s owner bytes)
    keeps_put = keeps_call disk files history s event s.lengths
        (with_home s.staged home (up_to_end s.lengths owner bytes)) s.device k (λ n e. cc) put_has
        (lengths_store (lengths_of files) history owner.file offset bytes ∙ k.lengths) k.consistent

-- ---- what callers see

module _ {D : Type 0} (disk : Ghosts D) (files : List File) (history : List Event) (s : PagerState D)
    (k : Keeps disk files history s) (whole : s.write_outs.broken ≡ false) where
  -- the blocks that a read goes by
  pub seen_now : (home : ℕ) → IsHome (geometry_of s.table) home
      → current_in s.staged s.records (disk.seen s.device) home ≡ written_over s.staged k.new home
  seen_now home is = by (bytes_in s.staged home) (newest_in s.records home) refl
    where
      nothing : newest_in s.records home ≡ None → IsFound (newest_in s.records home) → ⊥
      nothing none found = let e : None ≡ Some found.0 = sym none ∙ found.1 in cc

      by : (o p : Option (List ℕ)) → newest_in s.records home ≡ p
          → unwrap_or (option_or o p) (block_at (disk.seen s.device) home) ≡ unwrap_or o (k.new home)
      by (Some x) p at = refl
      by None (Some y) at = k.records home y at
      by None None at = k.consistent.reads whole home is (λ has. nothing at
          (block_found s.write_outs.batches s.records k.tied has.0 home has.1 has.2))
