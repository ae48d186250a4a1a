use Rattle.std.proofs.Common.{◌≡◌, ◌∷◌, List, false, Option, Some, None, is_some, refl, sym, ◌∙◌, ap, subst, ℕ}
use Rattle.mappings.specs.declared.mapping.Mapping.{Mapping}
use Rattle.mappings.specs.inside.Listed.{page_in, pages_listed, IsOrdered}
use Rattle.mappings.proofs.Lists.{IsOrdered-rest}
use Rattle.mappings.proofs.pages_of.PagesOfIterator.next.Goals as goal

no_value : (o : Option ℕ) → is_some o ≡ false → o ≡ None
no_value None e = refl
no_value (Some x) e = cc

passed_over : (m : Mapping) (ms : List Mapping) (file page : ℕ) → page_in m file page ≡ None
    → pages_listed (m ∷ ms) file page ≡ pages_listed ms file page
passed_over m ms file page none = rw none refl

pub invariant_of-self : goal.invariant_of-self
invariant_of-self c = IsOrdered-rest c.in-Some.mapping.now c.in-Some.rest.now
    (subst (IsOrdered 0) c.in-Some.ensures.cases.0 c.loop-mapping.invariant.ordered)

pub loop-mapping-preserved : goal.loop-mapping-preserved
loop-mapping-preserved c =
    let file = c.loop-mapping.self-inside.file in
    let page = c.loop-mapping.self-inside.page in
    let none = no_value (page_in c.in-Some.mapping.now file page)
    (sym (ap is_some c.page_of-page.ensures) ∙ sym c.is_some.ensures ∙ c.if-is_some.false) in
    record {
      ordered = IsOrdered-rest c.in-Some.mapping.now c.in-Some.rest.now
          (subst (IsOrdered 0) c.in-Some.ensures.cases.0 c.loop-mapping.invariant.ordered);
      same_pages = sym (passed_over c.in-Some.mapping.now c.in-Some.rest.now file page none)
          ∙ ap (λ (list : List Mapping). pages_listed list file page) (sym c.in-Some.ensures.cases.0)
          ∙ c.loop-mapping.invariant.same_pages;
    }
