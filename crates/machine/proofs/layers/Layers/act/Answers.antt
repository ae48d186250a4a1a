use Rattle.machine.proofs.Names.{subst, Act, Answers, state_in}
use Rattle.machine.specs.inside.Layers.{reply_to}
use Rattle.machine.proofs.sound.Uses.{reachable, has_notes}
use Rattle.machine.proofs.code.Acting.{quiet_done, fix_done, flush_done}
use Rattle.machine.proofs.layers.Layers.act.Goals as goal

pub load-requires : goal.load-requires
load-requires g c = reachable (state_in c.args.self.now) c.requires.sound

pub store-requires : goal.store-requires
store-requires g c = reachable (state_in c.args.self.now) c.requires.sound

pub destroy-requires : goal.destroy-requires
destroy-requires g c = has_notes (state_in c.args.self.now) c.requires.sound

pub returns-in-Load : goal.returns-in-Load
returns-in-Load g c = quiet_done g.D.Device g.met.D.Device.since_now c.in-Load.is c.load.ensures.quiet
    c.load.ensures.rules

pub returns-in-Store : goal.returns-in-Store
returns-in-Store g c = quiet_done g.D.Device g.met.D.Device.since_now c.in-Store.is c.store.ensures.quiet
    c.store.ensures.rules

pub returns-in-Fill : goal.returns-in-Fill
returns-in-Fill g c = quiet_done g.D.Device g.met.D.Device.since_now c.in-Fill.is c.fill.ensures.quiet
    c.fill.ensures.rules

pub returns-in-Evict : goal.returns-in-Evict
returns-in-Evict g c = quiet_done g.D.Device g.met.D.Device.since_now c.in-Evict.is c.evict.ensures.quiet
    c.evict.ensures.rules

pub returns-in-Switch : goal.returns-in-Switch
returns-in-Switch g c = quiet_done g.D.Device g.met.D.Device.since_now c.in-Switch.is c.switch.ensures.quiet
    c.switch.ensures.rules

pub returns-in-Idle : goal.returns-in-Idle
returns-in-Idle g c = quiet_done g.D.Device g.met.D.Device.since_now c.in-Idle.is c.idle.ensures.quiet
    c.idle.ensures.rules

pub returns-in-Wake : goal.returns-in-Wake
returns-in-Wake g c = quiet_done g.D.Device g.met.D.Device.since_now c.in-Wake.is c.wake.ensures.quiet
    c.wake.ensures.rules

pub returns-in-Create : goal.returns-in-Create
returns-in-Create g c = quiet_done g.D.Device g.met.D.Device.since_now c.in-Create.is c.create.ensures.quiet
    c.create.ensures.rules

pub returns-in-Destroy : goal.returns-in-Destroy
returns-in-Destroy g c = quiet_done g.D.Device g.met.D.Device.since_now c.in-Destroy.is c.destroy.ensures.quiet
    c.destroy.ensures.rules

pub returns-in-Map : goal.returns-in-Map
returns-in-Map g c =
    quiet_done g.D.Device g.met.D.Device.since_now c.in-Map.is c.map.ensures.quiet
    (λ d. subst (λ (act : Act). Answers (state_in c.args.self.now) d c.args.step.now.p act (reply_to c.map.result)
    (state_in c.map.new.self)) c.in-Map.is (c.map.ensures.rules d))

pub returns-in-Unmap : goal.returns-in-Unmap
returns-in-Unmap g c = quiet_done g.D.Device g.met.D.Device.since_now c.in-Unmap.is c.unmap.ensures.quiet
    c.unmap.ensures.rules

pub returns-in-Protect : goal.returns-in-Protect
returns-in-Protect g c = quiet_done g.D.Device g.met.D.Device.since_now c.in-Protect.is c.protect.ensures.quiet
    c.protect.ensures.rules

pub returns-in-Reclaim : goal.returns-in-Reclaim
returns-in-Reclaim g c = quiet_done g.D.Device g.met.D.Device.since_now c.in-Reclaim.is c.reclaim.ensures.quiet
    c.reclaim.ensures.rules

pub returns-in-SetLength : goal.returns-in-SetLength
returns-in-SetLength g c = quiet_done g.D.Device g.met.D.Device.since_now c.in-SetLength.is c.set_length.ensures.quiet
    c.set_length.ensures.rules

pub returns-in-Msync : goal.returns-in-Msync
returns-in-Msync g c = quiet_done g.D.Device g.met.D.Device.since_now c.in-Msync.is c.msync.ensures.quiet
    c.msync.ensures.rules

pub returns-in-Ack : goal.returns-in-Ack
returns-in-Ack g c = quiet_done g.D.Device g.met.D.Device.since_now c.in-Ack.is c.acknowledge.ensures.quiet
    c.acknowledge.ensures.rules

pub returns-in-Change : goal.returns-in-Change
returns-in-Change g c = quiet_done g.D.Device g.met.D.Device.since_now c.in-Change.is c.change.ensures.quiet
    c.change.ensures.rules

pub returns-in-Resume : goal.returns-in-Resume
returns-in-Resume g c = quiet_done g.D.Device g.met.D.Device.since_now c.in-Resume.is c.resume.ensures.quiet
    c.resume.ensures.rules

pub returns-in-Fix : goal.returns-in-Fix
returns-in-Fix g c = fix_done g.D.Device g.met.D.Device.since_now c.fix.result c.in-Fix.is c.fix.ensures.rules
    c.fix.ensures.fixed c.fix.ensures.untouched c.fix.ensures.device c.fix.ensures.kept

pub returns-in-Flush : goal.returns-in-Flush
returns-in-Flush g c = flush_done g.D.Device c.in-Flush.is c.flush.ensures.rules c.flush.ensures.did
    c.flush.ensures.kept
