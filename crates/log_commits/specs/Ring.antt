-- How bytes are written around the ring of a log.
use Rattle.std.specs.Prelude.{ℕ, ◌+◌, ◌-◌, ◌*◌, ◌%◌, List, [], ◌∷◌, length, drop, slice_range, nat_le, if◌then◌else◌}
use Rattle.device.specs.Work.{Work, WriteAt}
use Rattle.log_codec.specs.Log.{ring_block}

-- The writes of these bytes, without the first `from` ones, from a position of the log on. It is one write, or two if
-- the ring wraps.
abbrev pub ring_works : ℕ → ℕ → ℕ → List ℕ → List Work
ring_works ring position from bytes =
    let at = 4096 * ring_block ring position + from in
    let ahead = 4096 * (ring - position % ring) in
    if nat_le (length bytes) ahead then WriteAt at (drop from bytes) ∷ []
    else WriteAt at (slice_range bytes from ahead) ∷ WriteAt 16384 (drop ahead bytes) ∷ []
