use Rattle.std.proofs.Common.{refl, sym, subst}
use Rattle.shootdown.specs.Coherence.{Coheres}
use Rattle.shootdown.proofs.Public.{is_there_below, Coheres-filled}
use Rattle.cpu.proofs.Uses.{OnlyUses-walked, Agrees-walked, Coheres-OnlyUses}
use Rattle.cpu.proofs.translation.walk.Goals as goal

pub returns-clause-uses : goal.returns-clause-uses
returns-clause-uses g c =
    OnlyUses-walked c.args.spaces.now c.set_entry.new.self c.space-pcid.result c.args.page c.args.write c.entry.result
    c.in_ok-entry.entry c.entry.ensures.sound c.entry.ensures.entry c.in_ok-entry.ensures.ok c.set_entry.ensures

pub returns-clause-coherent : goal.returns-clause-coherent
returns-clause-coherent g c = λ coheres.
    let old = c.args.spaces.now in
    let new = c.set_entry.new.self in
    let pcid = c.space-pcid.result in
    let uses = OnlyUses-walked old new pcid c.args.page c.args.write c.entry.result c.in_ok-entry.entry
    c.entry.ensures.sound c.entry.ensures.entry c.in_ok-entry.ensures.ok c.set_entry.ensures in
    let s = c.args.shootdown.now in
    subst (Coheres new.map) (sym c.fill.ensures.filled)
    (Coheres-filled new.map s c.args.p _ (is_there_below s c.args.p c.requires)
    (Agrees-walked old new pcid c.args.page c.in_ok-entry.entry _ c.in_ok-entry.ensures.ok.0 c.in_ok-entry.ensures.ok.1
    c.set_entry.ensures refl refl c.frame.ensures c.writable.ensures c.dirty.ensures)
    (Coheres-OnlyUses old new s uses coheres))
