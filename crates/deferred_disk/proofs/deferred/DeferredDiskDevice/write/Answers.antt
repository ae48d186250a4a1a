use Rattle.std.proofs.Common.{◌≡◌, ◌+◌, None, refl, sym, ◌∙◌, ap, subst, length}
use Rattle.deferred_disk.specs.Deferred.{Deferred, after_write, lacked_by_write}
use Rattle.device.specs.Memory.DiskChange.{write}
use Rattle.deferred_disk.specs.inside.Deferring.{AreCounted}
use Rattle.deferred_disk.specs.inside.Waiting.{changes_of}
use Rattle.deferred_disk.proofs.Counting.{counted_more}
use Rattle.deferred_disk.proofs.Deferring.{kept_as, kept_with_write, none_of, same_deferred, one_more, within_kept}
use Rattle.device.proofs.Public.{on_ok}
use Rattle.deferred_disk.proofs.deferred.DeferredDiskDevice.write.Goals as goal

pub lacked_by_write-self-inside-requires : goal.lacked_by_write-self-inside-requires
lacked_by_write-self-inside-requires g c =
    (within_kept (c.args.at + length c.args.bytes.now) c.self.view_is c.self.invariant.0 c.requires).1.0

pub keep_write-requires : goal.keep_write-requires
keep_write-requires g c =
    (within_kept (c.args.at + length c.args.bytes.now) c.self.view_is c.self.invariant.0 c.requires).1.0

pub invariant_of-self-2 : goal.invariant_of-self-2
invariant_of-self-2 g c =
    let disk = c.self.inside in
    let at = c.args.at in
    let bytes = c.args.bytes.now in
    let fits = (within_kept (at + length bytes) c.self.view_is c.self.invariant.0 c.requires).0 in
    let past = c.with_write-self-inside.ensures in
    let none = sym c.is_err.ensures.value ∙ c.if-is_err.false in
    let lacked : lacked_by_write disk.blocks.flags at (length bytes) ≡ None =
    sym c.lacked_by_write-self-inside.ensures
    ∙ none_of c.lacked_by_write-self-inside.result (sym c.is_some.ensures ∙ c.if-is_some.false) in (
      kept_as past.0 past.1 past.2 (on_ok c.keep_write.result none c.keep_write.ensures.bytes) (on_ok
          c.keep_write.result none c.keep_write.ensures.flags) (on_ok c.keep_write.result none c.keep_write.ensures.log)
          (kept_with_write disk.past.first disk.past.changes disk.past.supplied disk.blocks.bytes disk.blocks.flags
          (changes_of disk.log.items) disk.len at bytes c.self.invariant.0 fits lacked),
      subst (AreCounted c.saturating_add-self-inside.result) (sym past.1)
          (counted_more disk.recorded c.saturating_add-self-inside.result disk.past.changes
          (write at bytes) c.self.invariant.1 c.saturating_add-self-inside.ensures),
    )

pub returns-clause-recorded : goal.returns-clause-recorded
returns-clause-recorded g c =
    let past = c.with_write-self-inside.ensures in
    let none = sym c.is_err.ensures.value ∙ c.if-is_err.false in
    same_deferred past.0 past.1 (one_more c.self.inside.log.items c.keep_write.new.log.items
    (write c.args.at c.args.bytes.now) (on_ok c.keep_write.result none c.keep_write.ensures.log))
    (on_ok c.keep_write.result none c.keep_write.ensures.flags) past.2
    (none_of c.lacked_by_write-self-inside.result (sym c.is_some.ensures ∙ c.if-is_some.false)) c.raise.ensures refl
    ∙ ap (λ (d : Deferred). after_write d c.args.at c.args.bytes.now) c.self.view_is
