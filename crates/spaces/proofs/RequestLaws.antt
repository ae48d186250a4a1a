-- What is known of a request that was judged fit.
use Rattle.std.proofs.Common.{◌≡◌, ℕ, ◌%◌, ◌/◌, ◌==◌, ◌&&◌, Bool, true, false, cond}
use Rattle.std.proofs.Common.{Option, Some, None, Result, Ok, Err, refl, ap, ◌∙◌, subst}
use Rattle.page_entry.specs.declared.refusal.Refusal.{Refusal}
use Rattle.page_entry.specs.declared.refusal.Refusal.TheVariants.{Einval}
use Rattle.mappings.specs.declared.place.Rights.{Rights}
use Rattle.mappings.specs.declared.page_range.PageRange.{PageRange}
use Rattle.mappings.specs.Judgement.{pages_holding, is_user_range, is_mappable}
use Rattle.mappings.specs.Judgement.{range_of_bytes, mapped_pages_of, protect_refusal}
use Rattle.spaces.specs.Spaces.{Spaces, space_at}
use Rattle.spaces.specs.Requests.{is_user_space, judged_range, judged_mapping, unless, allowed, judged_protection}

-- an answer that is given where this holds, and Einval elsewhere
given : {X : Type 0} (b : Bool) (r : Result X Refusal) (x : X) → cond b r (Err Einval) ≡ Ok x → (b ≡ true) × (r ≡ Ok x)
given true r x is = (refl, is)
given false r x is = absurd (cc)

right : (a b : Bool) → (a && b) ≡ true → b ≡ true
right true b h = h
right false b h = cc

-- pages that were judged are user pages of a user space
pub judged_range-ok : (m : Spaces) (pcid va len : ℕ) (range : PageRange) → judged_range m pcid va len ≡ Ok range
    → (is_user_space m pcid ≡ true) × (is_user_range range ≡ true)
judged_range-ok m pcid va len range is =
    let space = given (is_user_space m pcid) (range_of_bytes va len) range is in
    let pages =
    given (va % 4096 == 0 && is_user_range (pages_holding va len)) (Ok (pages_holding va len)) range space.1 in
    let same : pages_holding va len ≡ range = cc in
    (space.0, subst (λ r. is_user_range r ≡ true) same (right (va % 4096 == 0) _ pages.0))

-- pages that may be mapped are such pages of a user space
pub judged_mapping-ok : (m : Spaces) (pcid va len offset : ℕ) (pages : PageRange × ℕ)
    → judged_mapping m pcid va len offset ≡ Ok pages
    → (is_user_space m pcid ≡ true) × (is_mappable pages.0 pages.1 ≡ true)
judged_mapping-ok m pcid va len offset pages is =
    let space = given (is_user_space m pcid) (mapped_pages_of va len offset) pages is in
    let found = given (va % 4096 == 0 && offset % 4096 == 0 && is_mappable (pages_holding va len) (offset / 4096))
    (Ok (pages_holding va len, offset / 4096)) pages space.1 in
    let both : (pages_holding va len, offset / 4096) ≡ pages = value _ _ found.1 in (
      space.0,
      subst (λ (p : PageRange × ℕ). is_mappable p.0 p.1 ≡ true) both
          (right (va % 4096 == 0 && offset % 4096 == 0) _ found.0),
    )
  where
    value : (x y : PageRange × ℕ) → ◌≡◌ {A = Result (PageRange × ℕ) Refusal} (Ok x) (Ok y) → x ≡ y
    value x y e = cc

-- pages whose mappings may have the rights are user pages of a user space, and nothing is against it
pub judged_protection-ok : (m : Spaces) (pcid va len : ℕ) (rights : Rights) (range : PageRange)
    → judged_protection m pcid va len rights ≡ Ok range
    → (judged_range m pcid va len ≡ Ok range) × (protect_refusal (space_at m pcid).places range rights ≡ None)
judged_protection-ok m pcid va len rights range is = by_range (judged_range m pcid va len) refl is
  where
    by_reason : (o : Option Refusal) (r : PageRange) → unless o r ≡ Ok range → (o ≡ None) × (r ≡ range)
    by_reason None r e = (refl, cc)
    by_reason (Some why) r e = absurd (cc)

    by_range : (j : Result PageRange Refusal) → judged_range m pcid va len ≡ j → allowed m pcid rights j ≡ Ok range
        → (judged_range m pcid va len ≡ Ok range) × (protect_refusal (space_at m pcid).places range rights ≡ None)
    by_range (Ok r) was e =
        let fit = by_reason (protect_refusal (space_at m pcid).places r rights) r e in
        let same : r ≡ range = fit.1 in (
          was ∙ ap (λ (x : PageRange). Ok x) same,
          subst (λ x. protect_refusal (space_at m pcid).places x rights ≡ None) same fit.0,
        )
    by_range (Err why) was e = absurd (cc)
