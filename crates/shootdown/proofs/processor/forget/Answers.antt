use Rattle.std.proofs.Common.{true, eqb, refl, ◌∙◌, arith}
use Rattle.std.proofs.lemmas.Bool.{or_right}
use Rattle.std.proofs.lemmas.Bool.Decides.{nat_tests}
use Rattle.shootdown.proofs.Flags.{flags_kept_all, set-flags_kept}
use Rattle.shootdown.proofs.Words.{length-flags_of, flags_of-marked}
use Rattle.shootdown.proofs.processor.forget.Goals.{else-pcid-space-via-then-pcid-space+else-pcid-lt-PCIDS}
use Rattle.shootdown.proofs.processor.forget.Goals.{else-pcid-space-via-else-pcid-space}
use Rattle.shootdown.proofs.processor.forget.Goals as goal

pub returns-in-IndividualAddress : goal.returns-in-IndividualAddress
returns-in-IndividualAddress c =
    rw c.in-IndividualAddress.is (flags_kept_all _ _ (λ k within. or_right (eqb k c.args.space) true refl))

pub returns-then-pcid-lt-PCIDS : goal.returns-then-pcid-lt-PCIDS
returns-then-pcid-lt-PCIDS c =
    let words = c.args.may_cache.now in
    let below = c.if-pcid-lt-PCIDS.true in
    rw c.in-SingleContext.is (flags_of-marked words _ _ _ below c.mark.ensures ∙ set-flags_kept _ _ _
    (omega (arith, below, length-flags_of words)) (grind (arith, nat_tests)) (λ k other. grind (arith, nat_tests)))

pub returns-else-pcid-space : goal.returns-else-pcid-space
returns-else-pcid-space c =
    let size = length-flags_of c.args.may_cache.now in
    rw c.in-SingleContext.is (elim c.else-pcid-space.branch [
      | else-pcid-space-via-then-pcid-space+else-pcid-lt-PCIDS w ↦
          flags_kept_all _ _ (λ k within. grind (arith, nat_tests))
      | else-pcid-space-via-else-pcid-space w ↦ flags_kept_all _ _ (λ k within. grind (arith, nat_tests))
    ])
