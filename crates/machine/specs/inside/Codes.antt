-- The code that proofs use to distinguish the values of machines.
use Rattle.std.specs.Coded.{Coded, coded_ℕ}
use Rattle.std.specs.FinMap as maps
use Rattle.spaces.specs.Spaces.{Spaces}
use Rattle.spaces.specs.inside.Slots.{space_code}

abbrev pub map_code : Coded Spaces
map_code = maps.code coded_ℕ space_code
