use Rattle.std.proofs.Common.{List, subst}
use Rattle.machine.specs.State.{Whole}
use Rattle.service.specs.Serving.{SharedState, IsServing, KeepsLaws}
use Rattle.volume_codec.specs.Files.{File}
use Rattle.machine.specs.Crashes.{Begins}
use Rattle.service.proofs.shared.Shared.keeps_the_laws.Goals as goal

pub returns : goal.returns
returns g c =
    let start = c.self.invariant.2.0 in
    let serves = c.self.invariant.2.1 in
    let P : SharedState g.row.D.Denot → Type 0 = λ s. (x : Whole g.row.D.Denot) × IsServing g.D.Device x s
    × ((files : List File) → Begins g.D.Device files x → KeepsLaws g.D.Device files x s) in
    let laws = c.keeps_the_laws.ensures in
    subst P c.self.view_is (
      start,
      serves,
      λ files begins. record {
        headline = laws.headline files start _ _ (record { begins = begins; taken = serves.legal });
        left = λ list may. laws.left files start _ _ list (record { begins = begins; taken = serves.legal }) may;
        lawful = laws.lawful files start _ _ (record { begins = begins; taken = serves.legal });
        served = laws.served files start _ _ (record { begins = begins; taken = serves.legal });
      },
    )
