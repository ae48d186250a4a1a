use Rattle.std.proofs.Common.{◌≡◌, ◌*◌, ◌∙◌, ap, false, get_or, Some}
use Rattle.std.specs.Prelude.{is_none, is_ok}
use Rattle.deferred_disk.specs.Deferred.{after_read, lacked_by_read}
use Rattle.embedded.proofs.Lacking.{lacks_first}
use Rattle.embedded.proofs.trial.after_lack.Goals as goal

pub returns : goal.returns
returns g c =
    let disk = c.args.disk in
    let lacked : lacked_by_read disk.known (4096 * c.from.result) 1 ≡ Some c.args.block =
    lacks_first disk.known c.from.result (ap (λ b. get_or disk.known b false) c.from.ensures ∙ c.requires.unknown)
    ∙ ap (λ b. Some b) c.from.ensures in
    let failed : is_ok c.read.result ≡ false = c.read.ensures.lacks ∙ ap is_none lacked in
    c.read.ensures.counted ∙ ap (λ b. after_read disk b (is_ok c.read.result)) lacked
    ∙ ap (λ b. after_read disk (Some c.args.block) b) failed
