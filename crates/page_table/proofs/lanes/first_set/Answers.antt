use Rattle.std.proofs.Common.{◌<◌, ◌/◌, ◌%◌, ◌^◌, refl, inl, inr, get_or, w64, arith}
use Rattle.std.proofs.lemmas.Bool.{cases_lt}
use Rattle.std.proofs.lemmas.Nat.Bits.{bit_at-trailing_zeros}
use Rattle.std.proofs.Math.Nat.{div-le_self}
use Rattle.page_table.proofs.Dirties.{rest_blank, rest_lowest, IsSet-from}
use Rattle.page_table.proofs.lanes.first_set.Goals as goal

pub returns-then-word-ne0 : goal.returns-then-word-ne0
returns-then-word-ne0 c =
    let mask = c.args.mask.now in
    let place = c.loop-place.place in
    let m = get_or mask (place / 64) 0 in
    let word = m / 2 ^ (place % 64) in
    let inv = c.loop-place.invariant in
    let fits : m < 2 ^ 64 = (c.type_inv.mask (place / 64)).fits in
    IsSet-from mask c.args.from place c.args.end _ inv.low inv.before
    (rest_lowest mask place c.args.end m word _ c.loop-place-test.true c.requires.whole refl refl fits
    (bit_at-trailing_zeros w64 word (let some = c.if-word-ne0.true in
    omega arith) (omega (arith, div-le_self m (2 ^ (place % 64))))))

pub loop-place-preserved : goal.loop-place-preserved
loop-place-preserved c =
    let place = c.loop-place.place in
    let inv = c.loop-place.invariant in
    record {
      low = omega (arith, inv.low);
      before = λ i from upto less. elim (cases_lt i place) [
        | inl earlier ↦ inv.before i from earlier less
        | inr later ↦ rest_blank c.args.mask.now place i c.if-word-ne0.false later upto
      ];
    }
