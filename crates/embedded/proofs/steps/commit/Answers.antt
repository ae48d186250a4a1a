use Rattle.std.proofs.Common.{refl}
use Rattle.embedded.proofs.Making.{awaits, whole, commits_some, commits_none, fails_within}
use Rattle.embedded.proofs.steps.commit.Goals as goal

pub write_until-requires-clause-awaits : goal.write_until-requires-clause-awaits
write_until-requires-clause-awaits g c = awaits c.args.pager.now c.begin.new.pager c.in_ok-mark.mark c.in_ok-mark.some
    c.in_ok-mark.ensures.begun c.if-some.true

pub write_until-requires-clause-whole : goal.write_until-requires-clause-whole
write_until-requires-clause-whole g c = whole c.args.pager.now c.begin.new.pager c.in_ok-mark.mark c.in_ok-mark.some
    c.in_ok-mark.ensures.begun

pub returns-then-not-write_until-clause-refused : goal.returns-then-not-write_until-clause-refused
returns-then-not-write_until-clause-refused g c =
    fails_within c.args.pager.now c.begin.new.pager c.in_ok-mark.mark c.in_ok-mark.some
    c.in_ok-mark.ensures.begun c.write_until.new.pager c.if-some.true (c.if-not-write_until.ensures.failed refl)

pub returns-then-some-clause-commits : goal.returns-then-some-clause-commits
returns-then-some-clause-commits g c =
    commits_some c.args.pager.now c.begin.new.pager c.in_ok-mark.mark c.in_ok-mark.some
    c.in_ok-mark.ensures.begun c.write_until.new.pager c.if-some.true (c.if-not-write_until.ensures.written refl)

pub returns-clause-commits : goal.returns-clause-commits
returns-clause-commits g c = commits_none c.args.pager.now c.begin.new.pager c.in_ok-mark.mark c.in_ok-mark.some
    c.in_ok-mark.ensures.begun c.if-some.false
