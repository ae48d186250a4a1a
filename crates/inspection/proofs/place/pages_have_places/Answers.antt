use Rattle.std.proofs.Common.{length, arith}
use Rattle.inspection.proofs.Places.{place_of_page}
use Rattle.inspection.proofs.place.pages_have_places.Goals as goal

pub returns : goal.returns
returns c = λ v i p below small. place_of_page v i p (length v.files) below (omega arith) small
