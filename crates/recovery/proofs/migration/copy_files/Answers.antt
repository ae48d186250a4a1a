use Rattle.std.proofs.Common.{◌≡◌, ◌<◌, ◌≤◌, ◌+◌, ◌*◌, List, ℕ, length, slice_index, Err, ap, ◌∙◌, subst, arith}
use Rattle.std.proofs.lemmas.Result.{err_from_is_err_and}
use Rattle.device.specs.Device.{written}
use Rattle.volume_codec.specs.Files.{File}
use Rattle.volume_codec.specs.Super.{SuperValue, total_pages}
use Rattle.recovery.specs.Migration.{home_at, AreCopied}
use Rattle.recovery.specs.Volume.{files_of, bytes_of}
use Rattle.recovery.proofs.Copied.{copied_none, copied_more, home_at-le, home_at-end, copies_none, copies_then}
use Rattle.recovery.proofs.Copied.{copies_wider, copies_err, copies_honest, files_stay}
use Rattle.recovery.proofs.FileBytes.{length_of_bytes}
use Rattle.recovery.proofs.migration.copy_files.Goals.{After-file_home-home}
use Rattle.recovery.proofs.migration.copy_files.Goals as goal

pub loop-file-init : goal.loop-file-init
loop-file-init g c = record {
  copies = copies_none (λ l since. g.met.D.Device.since_now c.args.old.now.device l since)
      (λ l since. g.met.E.Device.since_now c.args.new.now l since);
  copied = λ honest other. copied_none c.args.first c.args.old.now.table.files c.args.old.now.lengths _
      (g.E.Device.seen c.args.new.now);
}

pub file_home-home-requires : goal.file_home-home-requires
file_home-home-requires g c =
    let i = c.loop-file.invariant in
    omega (arith, ap (λ (t : SuperValue). length t.files) i.copies.table)

pub copy_file-requires-clause-there : goal.copy_file-requires-clause-there
copy_file-requires-clause-there g c =
    let i = c.loop-file.invariant in
    omega (arith, ap (λ (t : SuperValue). length t.files) i.copies.table)

-- where a file's bytes lie on the other device, and that they end within the files' blocks
lies : (g : _) (c : After-file_home-home g) → let old = c.args.old.now in let file = c.loop-file.file in
    (file < length old.table.files) × (c.file_home-home.result ≡ home_at c.args.first old.table.files file)
    × (slice_index c.loop-file.old.lengths file ≡ slice_index old.lengths file)
    × (4096 * c.file_home-home.result + slice_index old.lengths file
    ≤ 4096 * (c.args.first + total_pages old.table.files))
lies g c =
    let old = c.args.old.now in
    let file = c.loop-file.file in
    let there : file < length old.table.files = omega arith in
    let home = c.file_home-home.ensures.home
    ∙ ap (λ (t : SuperValue). home_at c.args.first t.files file) c.loop-file.invariant.copies.table in
    let ends = home_at-end c.args.first old.table old.lengths c.file_count-file-end.ensures.well_formed.lengths file
    there in (
      there,
      home,
      ap (λ (l : List ℕ). slice_index l file) c.loop-file.invariant.copies.lengths,
      omega (arith, home, ends, home_at-le c.args.first old.table.files (file + 1)),
    )

pub copy_file-requires-clause-small : goal.copy_file-requires-clause-small
copy_file-requires-clause-small g c =
    let at = lies g (goal.at.copy_file-requires-clause-small g c).After-file_home-home in
    omega (arith, at.2, at.3, c.file_count-file-end.ensures.well_formed.fits.few_blocks)

pub copy_file-requires-clause-room : goal.copy_file-requires-clause-room
copy_file-requires-clause-room g c =
    let at = lies g (goal.at.copy_file-requires-clause-room g c).After-file_home-home in
    omega (arith, at.2, at.3, c.requires, (copies_honest c.loop-file.invariant.copies).2)

pub loop-file-preserved : goal.loop-file-preserved
loop-file-preserved g c =
    let i = c.loop-file.invariant in
    let first = c.args.first in
    let old = c.args.old.now in
    let file = c.loop-file.file in
    let at = lies g (goal.at.loop-file-preserved g c).After-file_home-home in
    record {
      copies = copies_then i.copies
          (copies_wider c.in_ok-copy_file.ensures.copies (4096 * first) (4096 * total_pages old.table.files)
          (omega (arith, at.1)) (omega (arith, at.2, at.3)));
      copied = λ honest other.
          let seen = g.D.Device.seen old.device in
          let well_formed = c.file_count-file-end.ensures.well_formed in
          let ready = copies_honest i.copies in
          let size = length_of_bytes old.table old.lengths well_formed.lengths seen file at.0
          (well_formed.at_rest honest).lengths_are well_formed.long in
          let is = c.in_ok-copy_file.ensures.copied (ready.0 honest) (ready.1 other)
          ∙ ap (λ (files : List File). written (g.E.Device.seen c.loop-file.new) (4096 * c.file_home-home.result)
          (bytes_of files file)) (files_stay i.copies honest) in
          copied_more first old.table old.lengths (bytes_of (files_of old.table seen)) file
          (4096 * c.file_home-home.result) (g.E.Device.seen c.args.new.now) (g.E.Device.seen c.loop-file.new)
          (g.E.Device.seen c.copy_file.new.new) well_formed.lengths at.0
          (i.copied honest other) (ap (λ h. 4096 * h) at.1) size
          (omega (arith, at.3, c.requires, ready.2)) is;
    }

pub returns-in_err-copy_file-clause-copies : goal.returns-in_err-copy_file-clause-copies
returns-in_err-copy_file-clause-copies g c =
    let at = lies g (goal.at.returns-in_err-copy_file-clause-copies g c).After-file_home-home in
    let p = err_from_is_err_and c.from_residual.result c.from_residual.ensures.1 in
    copies_err {X = Unit {0}} c.from_residual.result (p.1 ∙ ap Err p.2)
    (copies_then c.loop-file.invariant.copies
    (copies_wider c.in_err-copy_file.ensures.copies (4096 * c.args.first)
    (4096 * total_pages c.args.old.now.table.files) (omega (arith, at.1)) (omega (arith, at.2, at.3))))

pub returns-clause-copies : goal.returns-clause-copies
returns-clause-copies g c = c.loop-file.invariant.copies

pub returns-clause-copied : goal.returns-clause-copied
returns-clause-copied g c = λ honest other.
    let old = c.args.old.now in
    let end : c.loop-file.file ≡ length old.table.files = omega arith in
    let P : ℕ → Type 0 = λ n. AreCopied c.args.first old.table.files old.lengths
    (bytes_of (files_of old.table (g.D.Device.seen old.device))) n (g.E.Device.seen c.args.new.now)
    (g.E.Device.seen c.loop-file.new) in
    subst P end (c.loop-file.invariant.copied honest other)
