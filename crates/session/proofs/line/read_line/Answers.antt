use Rattle.std.proofs.Common.{rules}
use Rattle.session.proofs.Lines.{nothing_read, reads_end, reads_fed, reads_whole, reads_long}
use Rattle.session.proofs.line.read_line.Goals as goal

pub returns-then-is_empty : goal.returns-then-is_empty
returns-then-is_empty g c =
    let known = g.I.Read.remaining in
    let start = known c.args.input.now in
    reads_end start (known c.read_start.new.input) c.read_start.new.line.items c.read_start.new.line.items
    (c.in_ok-read_start.ensures start (nothing_read start c.clear.new.self.items c.clear.ensures.items))
    (search rules)

pub returns-then-index-eq10 : goal.returns-then-index-eq10
returns-then-index-eq10 g c =
    let known = g.I.Read.remaining in
    let start = known c.args.input.now in
    reads_fed start (known c.read_start.new.input) c.read_start.new.line.items _ c.len.result c.index.result.now
    (c.in_ok-read_start.ensures start (nothing_read start c.clear.new.self.items c.clear.ensures.items))
    (search rules) (search rules)
    c.index.ensures c.if-index-eq10.true (search rules)

pub returns-then-len-le-MOST_OF_LINE : goal.returns-then-len-le-MOST_OF_LINE
returns-then-len-le-MOST_OF_LINE g c =
    let known = g.I.Read.remaining in
    let start = known c.args.input.now in
    reads_whole start (known c.read_start.new.input) c.read_start.new.line.items c.len.result c.index.result.now
    (c.in_ok-read_start.ensures start (nothing_read start c.clear.new.self.items c.clear.ensures.items))
    (search rules) (search rules)
    c.index.ensures c.if-index-eq10.false (search rules)

pub returns : goal.returns
returns g c =
    let known = g.I.Read.remaining in
    let start = known c.args.input.now in
    reads_long start (known c.read_start.new.input) (known c.skip_until.new.self) c.read_start.new.line.items
    c.len.result c.index.result.now (c.in_ok-read_start.ensures start
    (nothing_read start c.clear.new.self.items c.clear.ensures.items)) (search rules)
    c.index.ensures c.if-index-eq10.false (search rules) c.in_ok-skip_until.ensures.rest
