use Rattle.std.proofs.Common.{◌≡◌, arith}
use Rattle.std.proofs.lemmas.Bool.{false≢true}
use Rattle.std.proofs.lemmas.Bool.Decides.{nat_tests}
use Rattle.std.proofs.lemmas.List.Elements.{All-contains, All-push}
use Rattle.std.specs.FinMap as maps
use Rattle.checkpoint.proofs.Public.{walk-next}
use Rattle.machine.proofs.freshness.is_first_alone.Goals as goal

pub returns-then-pcid-ne0 : goal.returns-then-pcid-ne0
returns-then-pcid-ne0 g c =
    let pcids = maps.keys c.args.spaces.now.map in
    let next = walk-next pcids c.loop-pcid.yielded c.loop-pcid.pcid-iterator c.in-Some.pcid c.next.new.self
    c.loop-pcid.invariant.listed c.in-Some.ensures.steps in (
      (λ no_way. absurd (false≢true no_way)),
      (λ first. let zero : c.in-Some.pcid ≡ 0 = All-contains (λ pcid. pcid ≡ 0) pcids c.in-Some.pcid first next.0 in
          absurd (grind (arith, nat_tests, c.if-pcid-ne0.true))),
    )

pub loop-pcid-preserved : goal.loop-pcid-preserved
loop-pcid-preserved g c =
    let next = walk-next (maps.keys c.args.spaces.now.map) c.loop-pcid.yielded c.loop-pcid.pcid-iterator c.in-Some.pcid
    c.next.new.self c.loop-pcid.invariant.listed c.in-Some.ensures.steps in
    let zero : c.in-Some.pcid ≡ 0 = grind (arith, nat_tests, c.if-pcid-ne0.false) in
    record {
      can = tt;
      finite = tt;
      listed = next.1;
      first = All-push (λ pcid. pcid ≡ 0) c.loop-pcid.yielded c.in-Some.pcid c.loop-pcid.invariant.first zero;
    }
