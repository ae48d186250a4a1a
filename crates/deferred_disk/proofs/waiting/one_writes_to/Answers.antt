use Rattle.std.proofs.Common.{◌-◌, ◌^◌, List, sym, ◌∙◌, ap}
use Rattle.std.proofs.lemmas.List.{take_all}
use Rattle.deferred_disk.specs.Deferred.{one_reaches}
use Rattle.deferred_disk.specs.declared.waiting.WaitingCall.{WaitingCall}
use Rattle.deferred_disk.specs.inside.Waiting.{changes_of}
use Rattle.deferred_disk.proofs.Deferring.{none_more, one_there}
use Rattle.deferred_disk.proofs.Waits.{within_at}
use Rattle.deferred_disk.proofs.waiting.one_writes_to.Goals as goal

pub writes_to-requires : goal.writes_to-requires
writes_to-requires g c =
    within_at c.args.calls.now c.loop-entry.entry-index
    (2 ^ 64 - 1) c.entry-item.result c.loop-entry-test.true c.entry-item.is c.requires

pub loop-entry-preserved : goal.loop-entry-preserved
loop-entry-preserved g c =
    none_more c.args.calls.now c.loop-entry.entry-index c.args.block c.entry-item.result c.loop-entry-test.true
    c.entry-item.is (sym c.writes_to.ensures ∙ c.if-writes_to.false) c.loop-entry.invariant

pub returns-then-writes_to : goal.returns-then-writes_to
returns-then-writes_to g c =
    sym (one_there c.args.calls.now c.loop-entry.entry-index c.args.block c.entry-item.result c.loop-entry-test.true
    c.entry-item.is (sym c.writes_to.ensures ∙ c.if-writes_to.true))

pub returns : goal.returns
returns g c =
    sym (ap (λ (l : List (WaitingCall g.row.A.Denot)). one_reaches (changes_of l) c.args.block)
    (sym (take_all c.loop-entry.entry-index c.args.calls.now c.loop-entry-test.false)) ∙ c.loop-entry.invariant)
