use Rattle.std.proofs.Common.{◌≡◌, ◌<◌, ◌≤◌, ◌+◌, ◌*◌, ℕ, length, slice_index, slice_range, sym, ap, subst, ◌∙◌}
use Rattle.std.proofs.Common.{arith}
use Rattle.std.proofs.lemmas.Result.{on_ok_weaker}
use Rattle.volume_codec.specs.Super.{block_count}
use Rattle.recovery.specs.Volume.{VolumeState, files_of, bytes_of}
use Rattle.recovery.proofs.FileBytes.{asked_within, file_room, read_part}
use Rattle.recovery.proofs.volume.Volume.read_file.Goals.{After-from-home}
use Rattle.recovery.proofs.volume.Volume.read_file.Goals as goal

-- what is asked lies in the file
within : (g : _) (c : After-from-home g) → let inside = c.self.inside in
    (c.args.file < length inside.table.files)
    × (c.args.at + length c.args.buffer.now ≤ slice_index inside.lengths.items c.args.file)
within g c = asked_within _ _ c.args.file c.args.at (length c.args.buffer.now) c.self.view_is c.requires.there
    c.requires.within

-- and so on a device that has the volume's blocks
room : (g : _) (c : After-from-home g) (size : ℕ) → 4096 * block_count c.self.inside.table ≤ size
    → 4096 * c.from-home.result + c.args.at + length c.args.buffer.now ≤ size
room g c size long =
    let w = within g c in
    let ends = file_room c.self.inside.table c.self.inside.lengths.items c.self.invariant.lengths c.args.file
    c.args.at (length c.args.buffer.now) w.0 w.1 size long in
    omega (arith, ends, c.from-home.ensures, c.first_home.ensures)

pub overflow_add-home : goal.overflow_add-home
overflow_add-home g c =
    let ends = room g (goal.at.overflow_add-home g c).After-from-home (4096 * block_count c.self.inside.table)
    (omega arith) in
    omega (arith, ends, c.self.invariant.fits.few_blocks)

pub read-requires : goal.read-requires
read-requires g c = room g (goal.at.read-requires g c).After-from-home
    (length (g.D.Device.seen c.self.inside.device)) c.self.invariant.long

pub returns-clause-bytes : goal.returns-clause-bytes
returns-clause-bytes g c = λ honest.
    let w = within g (goal.at.returns-clause-bytes g c).After-from-home in
    let inside = c.self.inside.table in
    let seen = g.D.Device.seen in
    let R : VolumeState g.row.D.Denot → Type 0 = λ v. g.D.Device.is_honest v.device in
    let honest_1 = subst R (sym c.self.view_is) honest in
    let at_home = c.from-home.ensures ∙ c.first_home.ensures in
    let part = read_part inside c.self.inside.lengths.items c.self.invariant.lengths c.args.file c.args.at
    (length c.args.buffer.now) w.0 w.1 (seen c.self.inside.device) c.from-home.result at_home
    (c.self.invariant.at_rest honest_1).lengths_are in
    let named = ap (λ (v : VolumeState g.row.D.Denot). slice_range (bytes_of (files_of v.table (seen v.device))
    c.args.file) c.args.at (c.args.at + length c.args.buffer.now)) c.self.view_is in
    on_ok_weaker c.read.result
    (λ (is : c.read.new.buffer
    ≡ slice_range (seen c.self.inside.device) (4096 * c.from-home.result + c.args.at)
    (4096 * c.from-home.result + c.args.at + length c.args.buffer.now)).
    is ∙ part ∙ named)
    (c.read.ensures.bytes honest_1)
