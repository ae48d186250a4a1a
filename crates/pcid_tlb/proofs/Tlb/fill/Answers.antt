use Rattle.std.proofs.Common.{All, List, length, ◌++◌, ◌∷◌, [], arith, subst, sym, ap, ◌∙◌}
use Rattle.pcid_tlb.specs.declared.CachedEntry.{CachedEntry}
use Rattle.pcid_tlb.specs.Tlb.{TlbState, AreApart}
use Rattle.pcid_tlb.proofs.TlbLaws.{All-remove, apart-without_page, IsTlb-evicted, IsTlb-push}
use Rattle.pcid_tlb.proofs.Tlb.fill.Goals as goal
use Rattle.pcid_tlb.proofs.Tlb.fill.Goals.{then-len-self, else-len-self}

pub invariant_of-self : goal.invariant_of-self
invariant_of-self g c =
    let e = c.args.entry in
    let inside = c.self.inside in
    let kept = inside.entries.items in
    let is = c.self.invariant.0 in
    let apart : All (λ x. AreApart x e) kept =
    subst (λ (t : TlbState). All (λ x. AreApart x e) t.entries) (sym (c.self.view_is ∙ c.invlpg.ensures))
    (apart-without_page c.args.self.now e) in
    elim c.if-len-self.branch [
      | then-len-self w ↦
          let items = rw w.self-inside-is at c.push_reserved.ensures.items in
          let capacity = rw w.self-inside-is at c.push_reserved.ensures.capacity in
          rw w.self-inside-is (
            IsTlb-push inside.capacity _ _ e
                (IsTlb-evicted (record { capacity = inside.capacity; entries = kept }) 0 is)
                (All-remove (λ x. AreApart x e) kept 0 apart) (omega (
                  arith,
                  is.bounded,
                  w.remove.ensures.len,
                  inside.entries.ok.0,
                  w.remove.new.self.ok.0,
                  ap length w.remove.ensures.items,
                )) (items ∙ ap (λ (xs : List CachedEntry). xs ++ e ∷ []) w.remove.ensures.items),
            omega (arith, c.self.invariant.1, w.remove.ensures.capacity, capacity),
          )
      | else-len-self w ↦
          let items = rw w.self-inside-is at c.push_reserved.ensures.items in
          let capacity = rw w.self-inside-is at c.push_reserved.ensures.capacity in
          rw w.self-inside-is (
            IsTlb-push inside.capacity kept _ e is apart
                (omega (arith, is.bounded, c.len.ensures, w.if-len-self.false, inside.entries.ok.0)) items,
            omega (arith, c.self.invariant.1, capacity),
          )
    ]
