use Rattle.std.proofs.Common.{List, ℕ, length, get_or, false, refl, ap, arith}
use Rattle.std.proofs.lemmas.Bool.{both_ways}
use Rattle.log_codec.proofs.Zeros.{zero_at, all_zeros}
use Rattle.log_codec.proofs.descriptor.are_zeros.Goals as goal

pub returns-then-bytes-i-ne0 : goal.returns-then-bytes-i-ne0
returns-then-bytes-i-ne0 c =
    let bytes = c.args.bytes.now in
    let i = c.loop-i.i in (
      λ h. absurd (both_ways false refl h),
      λ same. absurd (omega (arith, ap (λ (l : List ℕ). get_or l i 0) same, zero_at (length bytes) i)),
    )

pub returns : goal.returns
returns c = (λ h. all_zeros c.args.bytes.now (λ k lt. c.loop-i.invariant k (omega arith)), λ same. refl)
