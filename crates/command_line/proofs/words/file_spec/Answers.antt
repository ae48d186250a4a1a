use Rattle.std.proofs.Common.{inl, inr, Some, None, lit<}
use Rattle.command_line.specs.Words.{IsLastCut}
use Rattle.command_line.proofs.Cuts.{last_cut}
use Rattle.command_line.proofs.words.file_spec.Goals as goal

pub returns-in_err-name : goal.returns-in_err-name
returns-in_err-name c = rw c.from_residual.ensures
    (inl (last_cut 61 c.args.word.now None (lit< tt) c.in_err-name.ensures.cases))

pub returns-in_err-length : goal.returns-in_err-length
returns-in_err-length c =
    let cut : IsLastCut 61 c.args.word.now c.in_ok-name.name.now c.in_ok-name.rest.now = last_cut 61 c.args.word.now
    (Some (c.in_ok-name.name, c.in_ok-name.rest)) (lit< tt) c.in_ok-name.ensures.cases in
    rw c.from_residual-in_err-length.ensures
    (inr (c.in_ok-name.name.now, c.in_ok-name.rest.now, cut, c.in_err-length.ensures))

pub returns : goal.returns
returns c =
    let cut : IsLastCut 61 c.args.word.now c.in_ok-name.name.now c.in_ok-name.rest.now = last_cut 61 c.args.word.now
    (Some (c.in_ok-name.name, c.in_ok-name.rest)) (lit< tt) c.in_ok-name.ensures.cases in
    record { rest = c.in_ok-name.rest.now; cut = cut; sizes = c.in_ok-length.ensures }
