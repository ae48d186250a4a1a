use Rattle.std.proofs.Common.{refl, sym, ◌∙◌}
use Rattle.device.proofs.Public.{done_seen}
use Rattle.log_opening.proofs.Keeping.{sync_same}
use Rattle.log_opening.proofs.Looked.{on_ok_by}
use Rattle.log_opening.proofs.switching.switch.Goals as goal

pub returns-in-Ok-clause-switched : goal.returns-in-Ok-clause-switched
returns-in-Ok-clause-switched g c = λ honest.
    let now = c.write_at.ensures.honest.1 honest in
    let did = c.make_durable.ensures in
    let same = sync_same g.D.Device c.write_at.new.device c.make_durable.new.device _ did now in
    on_ok_by c.make_durable.result (λ ok. record {
      byte = c.selecting_byte.result;
      counts = c.selecting_byte.ensures;
      seen_is = same ∙ done_seen c.in-Ok.ensures honest refl;
      synced = λ l left. did.durable now ok refl l left ∙ sym same;
    })
