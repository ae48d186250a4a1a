use Rattle.std.proofs.Common.{rules, ◌≡◌, true, inl, inr, Some, None, lit<}
use Rattle.command_line.specs.Words.{IsLastCut}
use Rattle.command_line.proofs.Cuts.{last_cut}
use Rattle.command_line.proofs.words.sizes.Goals as goal

pub returns-in_err-length : goal.returns-in_err-length
returns-in_err-length c =
    rw c.from_residual.ensures (
      c.in_default.ensures,
      λ grows. inl (last_cut 47 c.args.word.now None (lit< tt) c.in_err-length.ensures.cases),
    )

pub returns-in_err-length-2 : goal.returns-in_err-length-2
returns-in_err-length-2 c =
    let cut : IsLastCut 47 c.args.word.now c.in_ok-length.length.now c.in_ok-length.capacity.now =
    last_cut 47 c.args.word.now (Some (c.in_ok-length.length, c.in_ok-length.capacity))
    (lit< tt) c.in_ok-length.ensures.cases in
    rw c.from_residual-in_err-length-2.ensures (
      c.in_default.ensures,
      λ grows. inr (c.in_ok-length.length.now, c.in_ok-length.capacity.now, cut, inl c.in_err-length-2.ensures),
    )

pub returns-in_err-capacity : goal.returns-in_err-capacity
returns-in_err-capacity c =
    let cut : IsLastCut 47 c.args.word.now c.in_ok-length.length.now c.in_ok-length.capacity.now =
    last_cut 47 c.args.word.now (Some (c.in_ok-length.length, c.in_ok-length.capacity))
    (lit< tt) c.in_ok-length.ensures.cases in
    rw c.from_residual-in_err-capacity.ensures (
      c.in_default.ensures,
      λ grows. inr (c.in_ok-length.length.now, c.in_ok-length.capacity.now, cut, inr c.in_err-capacity.ensures),
    )

pub returns : goal.returns
returns c =
    let cut : IsLastCut 47 c.args.word.now c.in_ok-length.length.now c.in_ok-length.capacity.now =
    last_cut 47 c.args.word.now (Some (c.in_ok-length.length, c.in_ok-length.capacity))
    (lit< tt) c.in_ok-length.ensures.cases in
    let grows : c.args.grows ≡ true = search rules in
    inr (
      grows,
      c.in_ok-length.length.now,
      c.in_ok-length.capacity.now,
      cut,
      c.in_ok-length-2.ensures,
      c.in_ok-capacity.ensures,
    )
