use Rattle.std.proofs.Common.{rules, ◌≡◌, ◌<◌, ◌≤◌, ℕ, List, [], ◌∷◌, ◌++◌, length, map, take, ap, ◌∙◌, arith}
use Rattle.std.proofs.lemmas.List.{map-append}
use Rattle.volume_codec.specs.Files.{File}
use Rattle.recovery.specs.Volume.{files_of, bytes_of}
use Rattle.recovery.proofs.Public.{lengths_of_well_formed, lengths_after_reading, files_read, volume_read_then}
use Rattle.crash_table.specs.Marks.{contents_of}
use Rattle.crash_table.proofs.Reading.{as_many_files, bytes_more, all_bytes}
use Rattle.crash_table.proofs.files.read_files.Goals as goal

pub read_file-requires-clause-files : goal.read_file-requires-clause-files
read_file-requires-clause-files g c = λ honest.
    let before = c.loop-file.invariant in
    let first = before.0.honest.0 honest in
    lengths_after_reading g.D.Device c.args.volume.now c.loop-file.volume before.0 first
    (lengths_of_well_formed g.D.Device c.args.volume.now c.requires first)

pub loop-file-preserved : goal.loop-file-preserved
loop-file-preserved g c =
    let old = c.args.volume.now in
    let mid = c.loop-file.volume in
    let before = c.loop-file.invariant in
    let i = c.loop-file.file in (
      volume_read_then g.D.Device old mid c.read_file.new.volume before.0 c.read_file.ensures.read,
      λ honest.
          let files = files_of old.table (g.D.Device.seen old.device) in
          let below : i < length old.table.files = search rules in
          let inside : i < length files = omega (arith, below, as_many_files g.D.Device old c.requires honest) in
          let this : c.in_ok-read_file.field-0.items ≡ bytes_of files i =
          c.in_ok-read_file.ensures.bytes (before.0.honest.1 honest)
          ∙ ap (λ (fs : List File). bytes_of fs i) (files_read g.D.Device old mid before.0 honest) in
          ap (map (λ v. v.items)) c.in_ok-push.ensures.items
          ∙ map-append (λ v. v.items) c.loop-file.files.items (c.in_ok-read_file.field-0 ∷ [])
          ∙ ap (λ (l : List (List ℕ)). l ++ c.in_ok-read_file.field-0.items ∷ []) (before.1 honest)
          ∙ ap (λ (b : List ℕ). take i (contents_of files) ++ b ∷ []) this
          ∙ bytes_more files i inside,
    )

pub returns : goal.returns
returns g c = λ honest.
    let old = c.args.volume.now in
    let files = files_of old.table (g.D.Device.seen old.device) in
    let past : length old.table.files ≤ c.loop-file.file = search rules in
    c.loop-file.invariant.1 honest
    ∙ all_bytes files c.loop-file.file (omega (arith, past, as_many_files g.D.Device old c.requires honest))
