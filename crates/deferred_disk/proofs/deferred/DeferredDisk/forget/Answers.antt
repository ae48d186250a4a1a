use Rattle.std.proofs.Common.{◌≡◌, ◌-◌, ◌^◌, ◌+◌, ◌*◌, not, Bool, List, length, take, refl, sym, ◌∙◌, ap, subst, arith}
use Rattle.deferred_disk.specs.inside.Deferring.{IsKnownAt}
use Rattle.deferred_disk.specs.Deferred.{Deferred, one_reaches}
use Rattle.device.specs.Memory.{DiskChange}
use Rattle.deferred_disk.specs.inside.Waiting.{changes_of}
use Rattle.deferred_disk.proofs.Deferring.{kept_as, kept_without_block, within_kept, within_log}
use Rattle.device.proofs.Public.{length-content_after, within_wider}
use Rattle.deferred_disk.proofs.Waits.{length-changes_of}
use Rattle.deferred_disk.proofs.deferred.DeferredDisk.forget.Goals.{After-self}
use Rattle.deferred_disk.proofs.deferred.DeferredDisk.forget.Goals as goal

pub waits_for-requires : goal.waits_for-requires
waits_for-requires g c =
    let disk = c.self.inside in
    let whole = length-content_after disk.past.first disk.past.changes c.self.invariant.0.within in
    within_wider (length disk.past.first) (2 ^ 64 - 1) (changes_of disk.log.items)
    (omega (arith, c.self.invariant.0.len_is, c.self.ranges))
    (within_log disk.past.first disk.past.changes (changes_of disk.log.items) (length disk.past.first)
    (sym whole) c.self.invariant.0.within c.self.invariant.0.waits)

pub invariant_of-self : goal.invariant_of-self
invariant_of-self g c =
    let disk = c.self.inside in
    let room = within_kept (4096 * c.args.block + 4096) c.self.view_is c.self.invariant.0 c.requires in (
      kept_as refl refl refl refl c.forget.ensures.flags refl
          (kept_without_block disk.past.first disk.past.changes disk.past.supplied disk.blocks.bytes
          c.forget.new.self.bytes disk.blocks.flags
          (changes_of disk.log.items) disk.len c.args.block c.self.invariant.0
          (omega (arith, room.0, c.self.invariant.0.first_length))
          (sym c.waits_for.ensures ∙ c.if-waits_for.false) c.forget.ensures.size
          (λ i known. c.forget.ensures.bytes i (subst (λ (l : List Bool). IsKnownAt l i) (sym c.forget.ensures.flags)
          known))),
      c.self.invariant.1,
    )

-- a call that waits reaches the block where one in the log does
reaches_block : (g : _) (c : After-self g)
    → one_reaches (take c.args.self.now.waiting c.args.self.now.changes) c.args.block
    ≡ one_reaches (changes_of c.self.inside.log.items) c.args.block
reaches_block g c =
    let block = c.args.block in
    ap (λ (d : Deferred). one_reaches (take d.waiting d.changes) block) (sym c.self.view_is)
    ∙ ap (λ n. one_reaches (take n c.self.inside.past.changes) block) (sym (length-changes_of c.self.inside.log.items))
    ∙ ap (λ (l : List DiskChange). one_reaches l block) (sym c.self.invariant.0.waits)

pub returns-then-waits_for-clause-result : goal.returns-then-waits_for-clause-result
returns-then-waits_for-clause-result g c =
    sym (ap not (reaches_block g (goal.at.returns-then-waits_for-clause-result g c).After-self
    ∙ sym c.waits_for.ensures ∙ c.if-waits_for.true))

pub returns-clause-result : goal.returns-clause-result
returns-clause-result g c =
    sym (ap not (reaches_block g (goal.at.returns-clause-result g c).After-self
    ∙ sym c.waits_for.ensures ∙ c.if-waits_for.false))

pub forget-requires : goal.forget-requires
forget-requires g c =
    let room = within_kept (4096 * c.args.block + 4096) c.self.view_is c.self.invariant.0 c.requires in
    omega (arith, room.0, c.self.invariant.0.first_length)
