use Rattle.std.proofs.Common.{◌==◌, ◌||◌, not, get_or, List, Bool, ◌∙◌, refl, sym, ap, arith, true}
use Rattle.std.proofs.lemmas.Bool.{or_right}
use Rattle.pcid_tlb.specs.declared.Invpcid.TheVariants.{IndividualAddress}
use Rattle.pcid_tlb.specs.Tlb.{TlbState, invalidated}
use Rattle.shootdown.specs.Processors.{flags_kept, drops_pcid}
use Rattle.shootdown.specs.inside.Flags.{flags_of}
use Rattle.shootdown.proofs.Flags.{flags_kept_all}
use Rattle.shootdown.proofs.Queues.{keep_entries_all, invalidated-more, flags_kept-more}
use Rattle.shootdown.proofs.processor.carry_out.Goals as goal

pub loop-action-init : goal.loop-action-init
loop-action-init g c = (
  sym (keep_entries_all (λ e. true) c.args.tlb.now (λ e. refl)),
  flags_kept_all (λ pcid. pcid == c.args.space || true) (flags_of c.args.may_cache.now)
      (λ k within. or_right (k == c.args.space) true refl),
)

pub loop-action-preserved : goal.loop-action-preserved
loop-action-preserved g c =
    let queue = c.args.queue.now in
    let i = c.loop-action.action-index in
    let d = IndividualAddress 0 0 in (
      c.invpcid.ensures
          ∙ ap (λ (t : TlbState). invalidated t (get_or queue i d)) c.loop-action.invariant.0
          ∙ invalidated-more queue i d c.args.tlb.now (omega arith),
      c.forget.ensures
          ∙ ap (λ (flags : List Bool).
          flags_kept (λ pcid. pcid == c.args.space || not (drops_pcid (get_or queue i d) pcid)) 0 flags)
          c.loop-action.invariant.1
          ∙ flags_kept-more queue i d c.args.space (flags_of c.args.may_cache.now) (omega arith),
    )
