use Rattle.std.proofs.Common.{◌≡◌, ◌-◌, ◌^◌, Bool, true, false, ◌||◌, List, ◌++◌, sym, ◌∙◌, ap, subst}
use Rattle.deferred_disk.specs.Deferred.{one_reaches}
use Rattle.device.specs.Memory.{DiskChange}
use Rattle.deferred_disk.specs.inside.Waiting.{changes_of}
use Rattle.device.specs.inside.Replay.{AreWithin}
use Rattle.deferred_disk.proofs.Deferring.{changes_of_both, one_of_two}
use Rattle.device.proofs.Public.{within_newer, within_older}
use Rattle.deferred_disk.proofs.waiting.waits_for.Goals.{After-as_slices, After-one_writes_to-newer_one}
use Rattle.deferred_disk.proofs.waiting.waits_for.Goals as goal

-- the calls of both parts are within what an offset can say
within_parts : (g : _) (c : After-as_slices g) → AreWithin (2 ^ 64 - 1)
    (changes_of c.as_slices.result.1.now ++ changes_of c.as_slices.result.0.now)
within_parts g c =
    subst (λ (l : List DiskChange). AreWithin (2 ^ 64 - 1) l) (changes_of_both c.as_slices.result.0.now
    c.as_slices.result.1.now c.args.log.now.items c.as_slices.ensures.items) c.requires

pub one_writes_to-newer_one-requires : goal.one_writes_to-newer_one-requires
one_writes_to-newer_one-requires g c =
    within_newer (2 ^ 64 - 1) (changes_of c.as_slices.result.1.now) (changes_of c.as_slices.result.0.now)
    (within_parts g (goal.at.one_writes_to-newer_one-requires g c).After-as_slices)

pub one_writes_to-older_one-requires : goal.one_writes_to-older_one-requires
one_writes_to-older_one-requires g c =
    within_older (2 ^ 64 - 1) (changes_of c.as_slices.result.1.now) (changes_of c.as_slices.result.0.now)
    (within_parts g (goal.at.one_writes_to-older_one-requires g c).After-as_slices)

-- whether a call reaches the block, where it is known of the newer ones
by_newer : (g : _) (c : After-one_writes_to-newer_one g) (b : Bool) → c.one_writes_to-newer_one.result ≡ b
    → one_reaches (changes_of c.args.log.now.items) c.args.block
    ≡ (b || one_reaches (changes_of c.as_slices.result.0.now) c.args.block)
by_newer g c b is =
    let older = changes_of c.as_slices.result.0.now in
    let newer = changes_of c.as_slices.result.1.now in
    let block = c.args.block in
    let both = changes_of_both c.as_slices.result.0.now c.as_slices.result.1.now c.args.log.now.items
    c.as_slices.ensures.items in
    ap (λ (l : List DiskChange). one_reaches l block) both ∙ one_of_two newer older block
    ∙ ap (λ b. b || one_reaches older block) (sym c.one_writes_to-newer_one.ensures ∙ is)

pub returns-then-newer_one : goal.returns-then-newer_one
returns-then-newer_one g c = c.if-newer_one.true
    ∙ sym (by_newer g (goal.at.returns-then-newer_one g c).After-one_writes_to-newer_one true c.if-newer_one.true)

pub returns-else-newer_one : goal.returns-else-newer_one
returns-else-newer_one g c = c.one_writes_to-older_one.ensures
    ∙ sym (by_newer g (goal.at.returns-else-newer_one g c).After-one_writes_to-newer_one false c.if-newer_one.false)
