use Rattle.std.proofs.Common.{ℕ, ◌≡◌, List, length, None, sym, ap, ◌∙◌, subst}
use Rattle.std.specs.List.{All}
use Rattle.shootdown.specs.Processors.{Processor, fresh_processor}
use Rattle.shootdown.specs.Shootdown.{ShootdownState, processor_at}
use Rattle.shootdown.proofs.ShootdownLaws.{none_unless_some}
use Rattle.shootdown.proofs.Fresh.{all_replicate, replicate_all}
use Rattle.shootdown.proofs.shootdown.Shootdown.is_fresh.Goals as goal

module _ (g : _) (c : goal.After-are_fresh g) where
  -- the processors of its value
  listed : c.deref.result.now ≡ c.args.self.now.processors
  listed = c.deref.ensures.value ∙ ap (λ (s : ShootdownState). s.processors) c.self.view_is

  free : c.args.self.now.lock ≡ None
  free =
      sym (ap (λ (s : ShootdownState). s.lock) c.self.view_is)
      ∙ none_unless_some c.self.inside.lock c.if-is_none.ensures

  Fresh : List Processor → ℕ → Type 0
  Fresh processors tlb = All (λ processor. processor ≡ fresh_processor tlb) processors

pub returns-then-is_none : goal.returns-then-is_none
unfolding Fresh
returns-then-is_none g c =
    let tlb = (processor_at c.args.self.now 0).tlb.capacity in (
      (λ are. let all = subst (λ n. Fresh g c c.args.self.now.processors n) c.tlb_size.ensures
          (subst (λ (x : List Processor). Fresh g c x c.tlb_size.result) (listed g c) (c.are_fresh.ensures.0 are)) in
          λ i. record {
            processors = all_replicate c.args.self.now.processors (fresh_processor tlb) all i;
            lock = free g c i;
          }),
      (λ fresh.
          let all =
          subst (λ (x : List Processor). Fresh g c x tlb) (sym (ap (λ (s : ShootdownState). s.processors) fresh))
          (replicate_all (length c.args.self.now.processors) (fresh_processor tlb)) in
          c.are_fresh.ensures.1 (subst (λ (x : List Processor). Fresh g c x c.tlb_size.result) (sym (listed g c))
          (subst (λ n. Fresh g c c.args.self.now.processors n) (sym c.tlb_size.ensures) all))),
    )
