use Rattle.std.proofs.Common.{◌≡◌, ◌≤◌, ◌+◌, ◌*◌, ◌^◌, drop}
use Rattle.volume_codec.specs.Super.{total_pages}
use Rattle.volume_codec.specs.inside.Tables.{files_asked_for}
use Rattle.volume_codec.proofs.rules.home_blocks.Given as goal

abbrev pub invariant-loop-file : goal.invariant-loop-file
invariant-loop-file l =
    (l.total + total_pages (files_asked_for (drop l.file-index l.files)) ≡ total_pages (files_asked_for l.files))
    × (l.total ≤ 2 ^ 52 * l.file-index)
