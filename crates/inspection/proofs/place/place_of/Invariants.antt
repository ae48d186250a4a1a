use Rattle.std.proofs.Common.{◌≡◌}
use Rattle.inspection.specs.Places.{place_in, place_before}
use Rattle.inspection.proofs.place.place_of.Given as goal

abbrev pub invariant-loop-file : goal.invariant-loop-file
invariant-loop-file g l = place_in l.table l.home ≡ place_before l.table l.home l.file
