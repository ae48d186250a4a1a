use Rattle.std.proofs.Common.{◌≡◌, ◌<◌, ℕ, List, [], ◌∷◌, ◌++◌, length, map, take, ap, sym, subst}
use Rattle.std.proofs.Common.{◌∙◌, arith}
use Rattle.std.proofs.lemmas.List.{map-append}
use Rattle.device.specs.Memory.{seen_of}
use Rattle.recovery.specs.Volume.{bytes_of}
use Rattle.crash_table.specs.Marks.{contents_of}
use Rattle.crash_table.proofs.Reading.{bytes_more, all_bytes}
use Rattle.crash_table.proofs.log_reading.read_each.Goals as goal

pub read_file-requires-clause-long : goal.read_file-requires-clause-long
read_file-requires-clause-long g c =
    omega (arith, c.requires.long, ap length c.loop-file.invariant.0)

pub read_file-requires-clause-found : goal.read_file-requires-clause-found
read_file-requires-clause-found g c =
    let P : List ℕ → Type 0 = λ bytes. g.V.FoundFiles.is_in c.args.volume.now bytes in
    subst P (sym c.loop-file.invariant.0) c.requires.found

pub loop-file-preserved : goal.loop-file-preserved
loop-file-preserved g c =
    let first = seen_of c.args.disk.now in
    let files = g.V.FoundFiles.files c.args.volume.now first in
    let i = c.loop-file.file in
    let count = c.file_count-file-end.ensures.listed first c.requires.found in
    let below : i < length files = omega (arith, c.loop-file-test.true, count) in
    let this : c.in_ok-read_file.field-0.items ≡ bytes_of files i =
    c.in_ok-read_file.ensures.bytes
    ∙ ap (λ (bytes : List ℕ). bytes_of (g.V.FoundFiles.files c.args.volume.now bytes) i) c.loop-file.invariant.0 in (
      c.in_ok-read_file.ensures.same ∙ c.loop-file.invariant.0,
      ap (map (λ v. v.items)) c.in_ok-push.ensures.items
          ∙ map-append (λ v. v.items) c.loop-file.files.items (c.in_ok-read_file.field-0 ∷ [])
          ∙ ap (λ (l : List (List ℕ)). l ++ c.in_ok-read_file.field-0.items ∷ []) c.loop-file.invariant.1
          ∙ ap (λ (b : List ℕ). take i (contents_of files) ++ b ∷ []) this
          ∙ bytes_more files i below,
    )

pub returns-clause-read : goal.returns-clause-read
returns-clause-read g c =
    let first = seen_of c.args.disk.now in
    let files = g.V.FoundFiles.files c.args.volume.now first in
    let count = c.file_count-file-end.ensures.listed first c.requires.found in
    c.loop-file.invariant.1
    ∙ all_bytes files c.loop-file.file (omega (arith, c.loop-file-test.false, count))
