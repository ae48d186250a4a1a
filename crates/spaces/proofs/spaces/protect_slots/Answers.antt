use Rattle.std.proofs.Common.{arith}
use Rattle.page_table.specs.Table.{frames_protected}
use Rattle.spaces.proofs.Used.{EditsUpto-none, EditsUpto-more, EditsUpto-all, nothing_protected}
use Rattle.spaces.proofs.spaces.protect_slots.Goals as goal

pub spaces-init : goal.spaces-init
spaces-init g c = EditsUpto-none (λ s. frames_protected s.entries c.args.noted.now)
    (nothing_protected c.args.noted.now) c.args.slots.now c.args.in_use.now c.requires.used

pub mark-requires : goal.mark-requires
mark-requires g c = let high = c.in-Some.ensures.high in omega arith

pub spaces-preserved : goal.spaces-preserved
spaces-preserved g c =
    EditsUpto-more (λ s. frames_protected s.entries c.args.noted.now)
    (nothing_protected c.args.noted.now) c.args.slots.now c.spaces.next _ c.in-Some.pcid c.spaces.slots
    c.protect_at-stays.new.slots c.spaces.in_use c.mark.new.mask c.protect_at-stays.result
    c.spaces.invariant c.in-Some.ensures c.protect_at-stays.ensures.edited c.protect_at-stays.ensures.used
    c.mark.ensures

pub returns-clause-edited : goal.returns-clause-edited
returns-clause-edited g c =
    EditsUpto-all (λ s. frames_protected s.entries c.args.noted.now)
    (nothing_protected c.args.noted.now) c.args.slots.now c.spaces.next _ c.spaces.slots c.spaces.in_use
    c.spaces.invariant c.in_default.ensures c.requires.few

pub returns-clause-used : goal.returns-clause-used
returns-clause-used g c = c.spaces.invariant.used
