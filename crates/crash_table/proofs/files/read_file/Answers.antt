use Rattle.std.proofs.Common.{◌≡◌, ◌+◌, List, ℕ, length, slice_range, ◌∙◌, ap, arith}
use Rattle.std.proofs.lemmas.List.{with_items_is}
use Rattle.recovery.specs.Volume.{files_of, bytes_of}
use Rattle.recovery.proofs.Public.{length_of_file}
use Rattle.crash_table.proofs.Reading.{whole_range}
use Rattle.crash_table.proofs.files.read_file.Goals as goal

pub returns-in-Ok-clause-bytes : goal.returns-in-Ok-clause-bytes
returns-in-Ok-clause-bytes g c = λ honest.
    let volume = c.args.volume.now in
    let seen = g.D.Device.seen volume.device in
    let file = bytes_of (files_of volume.table seen) c.args.file in
    let bytes = c.in_ok-bytes.bytes in
    let buffer = c.read_file.new.buffer in
    let long =
    length_of_file volume seen c.args.file c.length-count.result (c.requires.files honest) c.length-count.ensures in
    let room : length c.deref_mut.result.now ≡ c.length-count.result =
    omega (arith, ap length c.deref_mut.ensures.value, c.in_ok-bytes.ensures.len, bytes.ok.0) in
    let n = length c.deref_mut.result.now in
    let whole : buffer ≡ file = ◌∙◌ {A = List ℕ} {b = slice_range file 0 (0 + n)} (c.in-Ok.ensures.bytes honest)
    (whole_range file n (omega (arith, long, room))) in
    ◌∙◌ {A = List ℕ} {b = buffer} (with_items_is bytes buffer (omega (
      arith,
      c.read_file.auto.buffer,
      ap length c.deref_mut.ensures.value,
      bytes.ok.0,
    ))) whole
