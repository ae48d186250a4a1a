-- What the works of a new volume with a log leave of a device whose bytes are all 0.
use Rattle.std.proofs.Common.{◌≡◌, ◌≤◌, inl, inr, ℕ, ◌*◌, Bool, true, false}
use Rattle.std.proofs.Common.{List, length, get_or, sym, ◌∙◌, ap, subst, arith}
use Rattle.std.proofs.lemmas.Bool.{cases_lt}
use Rattle.device.specs.declared.device.Device.{Ghosts}
use Rattle.device.proofs.Public.{torn_after}
use Rattle.volume_codec.specs.Files.{AskedFile, lengths_asked}
use Rattle.volume_codec.specs.Lengths.{lengths_text}
use Rattle.new_volume.specs.Formatting.{IsZero, DidAll}
use Rattle.new_volume.proofs.Public.{all_same}
use Rattle.log_codec.specs.declared.sealing.Sealing.{Sealing}
use Rattle.log_codec.specs.Log.{IsLog}
use Rattle.log_codec.specs.Start.{start_text}
use Rattle.log_volume.specs.Super.{LogSuperValue, log_of, log_super_text}
use Rattle.log_format.specs.Asked.{HasLogShape}
use Rattle.log_format.specs.Fresh.{IsFreshBehind, IsFreshVolume, first_log_start}
use Rattle.log_format.specs.Formatting.{log_works, laying_works, finishing_works, IsWrittenInLog, HasFormattedLog}
use Rattle.log_format.proofs.Finished.{finished_is, finishing_same}
use Rattle.log_format.proofs.Fresh.{fresh_log, fresh_files}
use Rattle.log_format.proofs.Laid.{AreLaidBlocks, laid_on, laid_is, laying_inside, laying_out, size_laid, laid_fresh}
use Rattle.log_format.proofs.Laid.{same_behind}
use Rattle.log_format.proofs.Works.{did_split}

-- what is written has the length of a block, each
pub record AreBlocks (table : LogSuperValue) (lengths : List ℕ) : Type 0 where
  pub table_is : length (log_super_text table) ≡ 4096
  pub lengths_are : length (lengths_text lengths) ≡ 4096
  pub start_is : length (start_text first_log_start) ≡ 4096

pub laid_blocks : {table : LogSuperValue} {lengths : List ℕ} → AreBlocks table lengths → AreLaidBlocks lengths
laid_blocks blocks = record { lengths_are = blocks.lengths_are; start_is = blocks.start_is }

-- nothing else changes
pub others_same : {D : Type 0} (disk : Ghosts D) (old new : D) (table : LogSuperValue) (lengths : List ℕ) (done : Bool)
    → IsLog (log_of table) → 4096 * (log_of table).blocks ≤ length (disk.seen old) → AreBlocks table lengths
    → DidAll disk old (log_works table lengths) done new → disk.is_honest old
    → (i : ℕ) → ¬ IsWrittenInLog table i → get_or (disk.seen new) i 0 ≡ get_or (disk.seen old) i 0
others_same {D} disk old new table lengths done log long blocks did honest i not =
    elim (did_split disk (laying_works table lengths) (finishing_works table) done old new did) [
      | inl short ↦ laid false new short.1
      | inr (d, first, second) ↦
          let is = laid_is disk old d table lengths first honest in
          let size = ap length is.1 ∙ size_laid table lengths (disk.seen old) log long (laid_blocks blocks) in
          finishing_same disk table blocks.table_is d new (omega (arith, size, long, log.some_homes)) is.0 done second
          i past ∙ laid true d first
    ]
  where
    past : 4096 ≤ i
    past = elim (cases_lt i 4096) [
      | inl before ↦ absurd (not (inl before))
      | inr after ↦ after
    ]

    laid : (done : Bool) (e : D) → DidAll disk old (laying_works table lengths) done e
        → get_or (disk.seen e) i 0 ≡ get_or (disk.seen old) i 0
    laid done e did = all_same disk old e (laying_works table lengths) done did honest
        (laying_inside table lengths (length (disk.seen old)) log long (laid_blocks blocks)) i
        (laying_out table lengths (length (disk.seen old)) log long (laid_blocks blocks) i not)

pub formatted_log : {D : Type 0} (disk : Ghosts D) (old new : D) (sealing : Sealing) (files : List AskedFile) (ring : ℕ)
    (table : LogSuperValue) → HasLogShape sealing files ring (length (disk.seen old)) table
    → AreBlocks table (lengths_asked files) → DidAll disk old (log_works table (lengths_asked files)) true new
    → disk.is_honest old → IsZero (disk.seen old) → HasFormattedLog disk sealing files ring old new
formatted_log {D} disk old new sealing files ring table shape blocks did honest blank =
    elim (did_split disk (laying_works table (lengths_asked files)) (finishing_works table) true old new did) [
      | inl short ↦ absurd (cc)
      | inr (d, first, second) ↦ by d (laid_is disk old d table (lengths_asked files) first honest) second
    ]
  where
    log : IsLog (log_of table)
    log = shape.asked.fits.log

    by : (d : D) → disk.is_honest d × (disk.seen d ≡ laid_on table (lengths_asked files) (disk.seen old))
        → DidAll disk d (finishing_works table) true new → HasFormattedLog disk sealing files ring old new
    by d is second =
        let size = ap length is.1 ∙ size_laid table (lengths_asked files) (disk.seen old) log shape.long (laid_blocks
        blocks) in
        let end = finished_is disk table blocks.table_is d new (omega (arith, size, shape.long, log.some_homes)) is.0
        second in
        let P : List ℕ → Type 0 = λ l. IsFreshBehind table (lengths_asked files) l in
        let laid : IsFreshBehind table (lengths_asked files) (disk.seen d) =
        subst P (sym is.1) (laid_fresh table (lengths_asked files) (disk.seen old) log shape.long (laid_blocks
        blocks) blank) in
        let fresh : IsFreshVolume table (lengths_asked files) (disk.seen new) = record {
          super_block = record { fits = shape.asked.fits; spelled = end.table_is };
          rest = same_behind table log (disk.seen d) (disk.seen new) end.torn.same_length
              (λ i past. torn_after end.torn i (omega (arith, past))) (lengths_asked files) laid;
        } in
        record {
          table = table;
          shape = shape;
          fresh = fresh;
          log = fresh_log table (lengths_asked files) (disk.seen new) fresh;
          recovers = fresh_files sealing ring files table (disk.seen new) shape.asked fresh;
          synced = end.synced;
        }
