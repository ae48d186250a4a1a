use Rattle.std.proofs.Common.{sym, ◌∙◌, ap}
use Rattle.device.specs.File.{Opened}
use Rattle.device.specs.inside.Fitted.{fitted_size}
use Rattle.device.proofs.file.FileDiskDevice.len.Goals as goal

pub returns : goal.returns
returns g c =
    let disk = c.args.self.now in
    ap (λ (d : Opened _). d.size) c.self.view_is ∙ sym (fitted_size disk.size (g.F.BlockFile.seen disk.file))
