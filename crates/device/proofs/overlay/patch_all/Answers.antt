use Rattle.std.proofs.Common.{◌+◌, ◌-◌, ◌^◌, ℕ, ◌∷◌, [], List, length, slice_range, sym, ◌∙◌, ap, subst, arith}
use Rattle.std.proofs.lemmas.List.{take_all}
use Rattle.device.specs.Memory.{content_after}
use Rattle.device.specs.Memory.DiskChange.{write}
use Rattle.device.specs.declared.log.Logged.{Logged}
use Rattle.device.specs.inside.Logged.{change_of, changes_of}
use Rattle.device.specs.inside.Replay.{AreWithin}
use Rattle.device.proofs.Replay.{within_at}
use Rattle.device.proofs.Patches.{part_after_sync, part_after_write}
use Rattle.device.proofs.overlay.patch_all.Goals as goal
use Rattle.device.proofs.overlay.patch_all.Goals.{in-Write, in-Sync}

pub patch-requires-clause-within : goal.patch-requires-clause-within
patch-requires-clause-within g c =
    let here = subst (λ (e : Logged _). AreWithin (2 ^ 64 - 1) (change_of e ∷ [])) c.in-Write.is
    (within_at c.args.log.now c.loop-entry.entry-index
    (2 ^ 64 - 1) c.entry-item.result c.loop-entry-test.true c.entry-item.is c.requires.within) in
    omega (arith, here.0, ap length c.deref.ensures.value)

pub loop-entry-preserved : goal.loop-entry-preserved
loop-entry-preserved g c =
    let log = c.args.log.now in
    let k = c.loop-entry.entry-index in
    let entry = c.entry-item.result in
    let n = length c.args.buffer.now in
    elim c.match-entry.branch [
      | in-Write w ↦ λ first fits within start.
          w.buffer-is ∙ part_after_write first c.loop-entry.buffer w.patch.new.buffer log k c.args.at n w.in-Write.from
          w.deref.result.now entry c.loop-entry-test.true c.entry-item.is
          (ap change_of w.in-Write.is ∙ ap (λ (l : List ℕ). write w.in-Write.from l) (sym w.deref.ensures.value)) fits
          within c.loop-entry.auto.buffer w.patch.ensures
          (c.loop-entry.invariant first fits within start)
      | in-Sync w ↦ λ first fits within start.
          w.buffer-is ∙ part_after_sync first c.loop-entry.buffer log k c.args.at n entry c.loop-entry-test.true
          c.entry-item.is (ap change_of w.in-Sync.is)
          (c.loop-entry.invariant first fits within start)
    ]

pub returns : goal.returns
returns g c = λ first fits within start.
    c.loop-entry.invariant first fits within start
    ∙ ap (λ (l : List (Logged g.row.A.Denot)).
    slice_range (content_after first (changes_of l)) c.args.at (c.args.at + length c.args.buffer.now))
    (take_all c.loop-entry.entry-index c.args.log.now c.loop-entry-test.false)
