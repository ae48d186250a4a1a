use Rattle.std.proofs.Common.{refl, inr, ap, ◌∙◌, ◌*◌, List, ℕ}
use Rattle.std.specs.Prelude.{is_ok}
use Rattle.device.specs.Work.{WriteAt}
use Rattle.device.proofs.Public.{did_as}
use Rattle.log_codec.specs.Log.{LogValue, first_log_home}
use Rattle.new_volume.proofs.Public.{did_last}
use Rattle.log_format.proofs.formatting.lay_log.Goals as goal

pub returns-clause-did : goal.returns-clause-did
returns-clause-did g c =
    let lengths = ap (λ (v : LogValue). WriteAt (4096 * first_log_home v.ring) c.write_lengths_of-lengths.result)
    c.log-2.ensures.value
    ∙ ap (λ (block : List ℕ). WriteAt (4096 * first_log_home c.args.table.now.ring) block)
    c.write_lengths_of-lengths.ensures in
    inr (
      c.put_start.new.device,
      c.in-Ok.ensures.did,
      did_last g.D.Device (is_ok c.put_lengths.result) (did_as g.D.Device lengths refl c.put_lengths.ensures),
    )
