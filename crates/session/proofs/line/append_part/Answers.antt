use Rattle.std.proofs.Common.{◌≡◌, ◌+◌, ◌<◌, length, subst, arith}
use Rattle.std.specs.Io.BufRead.{FillKeeps}
use Rattle.std.proofs.BufReadLemmas.{Consumes_shown}
use Rattle.session.proofs.Lines.{part_read}
use Rattle.session.proofs.line.append_part.Goals as goal

pub returns : goal.returns
returns g c =
    let shown = c.in-Ok.available.now in
    let left = c.saturating_sub-left.result in
    let part = c.part_of_line-count in
    let rested = c.fill_buf.follows.lender-at-none in
    let filled = subst (FillKeeps _ (g.I.Read.remaining rested) (g.I.BufRead.consumable_len rested)) c.in-Ok.is
    c.fill_buf.follows.holds-at-none in
    let moved = Consumes_shown _ _ _ _ shown part.result.0 part.ensures.0 c.in-Ok.ensures.front c.in-Ok.ensures.end
    filled.0 filled.1 c.consume.ensures.bytes in
    let some : 0 < left = omega (arith, c.if-left-eq0.false) in
    let all : left + length c.args.line.now.items ≡ 262145 =
    omega (arith, some, c.saturating_sub-left.ensures, c.len.ensures) in
    λ known read. part_read known _ _ c.args.line.now.items _ shown left part.result.0 part.result.1
    c.in_ok-extend_from_slice.ensures.items read part.ensures some all moved.0 moved.1
