use Rattle.std.proofs.Common.{◌≡◌, ℕ, ◌+◌, ◌%◌, ◌^◌, ◌<◌, length, ap, sym, ◌∙◌, arith, refl, true, false}
use Rattle.std.specs.Prelude.{nat_lt}
use Rattle.std.proofs.lemmas.Bool.Decides.{nat_tests}
use Rattle.xxh64.specs.Xxh64.{before_rest, mixed, rest_after, HasTaken, HasMessage}
use Rattle.xxh64.proofs.Left.{digest_of}
use Rattle.xxh64.proofs.Xxh64.finish.Goals as goal
use Rattle.xxh64.proofs.Xxh64.finish.Goals.{then-self-lt32, else-self-lt32}

pub returns : goal.returns
returns c = λ seed m has short.
    let total : c.args.self.now.total ≡ length m = let t = has.total in omega arith in
    let first : before_rest seed c.args.self.now.lanes (length m)
    ≡ (c.if-self-lt32.begun + c.args.self.now.total) % 2 ^ 64 =
    elim c.if-self-lt32.branch [
      | then-self-lt32 w ↦
          (let few : nat_lt (length m) 32 ≡ true =
          let lt = w.if-self-lt32.true in grind (arith, nat_tests, total, lt) in
          rw (few, w.begun-is, total, has.seed_is) refl)
      | else-self-lt32 w ↦
          (let many : nat_lt (length m) 32 ≡ false =
          let le = w.if-self-lt32.false in grind (arith, nat_tests, total, le) in
          rw (many, w.begun-is, w.converge-begun.ensures, total) refl)
    ] in
    let left : c.args.self.now.total % 32 ≡ length m % 32 = ap (λ n. n % 32) total in
    c.mix.ensures ∙ ap mixed (c.take_rest.ensures
    ∙ ap (λ n. rest_after n c.args.self.now.buffer (c.args.self.now.total % 32)) (sym first)
    ∙ ap (rest_after (before_rest seed c.args.self.now.lanes (length m)) c.args.self.now.buffer) left)
    ∙ digest_of seed c.args.self.now.lanes c.args.self.now.buffer m has.taken
