use Rattle.std.proofs.Common.{List, length, ◌∙◌, sym, subst, arith, ap}
use Rattle.device.specs.Memory.{DiskChange}
use Rattle.device.specs.inside.Logged.{changes_of}
use Rattle.device.specs.inside.Replay.{IsReplay}
use Rattle.device.proofs.Outcomes.{on_ok}
use Rattle.device.proofs.Replay.{replay_sync, length-changes_of}
use Rattle.device.proofs.memory.MemDisk.apply_sync.Goals as goal

pub invariant_of-self-2 : goal.invariant_of-self-2
invariant_of-self-2 g c =
    let log = c.log_sync.new.log in
    let more = on_ok c.log_sync.result (sym c.is_err.ensures.value ∙ c.if-is_err.false) c.log_sync.ensures.ok in
    let all = c.len-self-inside.ensures ∙ log.ok.0 ∙ sym (length-changes_of log.items) in
    subst (λ (l : List DiskChange).
    IsReplay c.self.inside.first.items l c.self.inside.content.items c.len-self-inside.result) (sym more)
    (replay_sync c.self.inside.first.items c.self.inside.content.items (changes_of c.self.inside.log.items)
    c.self.inside.synced c.self.invariant c.len-self-inside.result (omega (arith, all, ap length more)))
