use Rattle.std.proofs.Common.{rules, ◌≡◌, ℕ, ◌+◌, List, [], ◌∷◌, ◌++◌, length, subst, ◌∙◌, ap, arith}
use Rattle.std.proofs.lemmas.Result.{err_from_is_err_and}
use Rattle.recovery.specs.Reading.{RefusesJournals}
use Rattle.recovery.proofs.Public.{read_then}
use Rattle.inspection.specs.Found.{IsJournal}
use Rattle.inspection.proofs.Journals.{from_push, length_more}
use Rattle.inspection.proofs.reading.read_journals.Goals as goal

pub returns-in_err-says-clause-refused : goal.returns-in_err-says-clause-refused
returns-in_err-says-clause-refused g c = λ honest.
    let p = err_from_is_err_and c.from_residual.result c.from_residual.ensures.1 in
    let i = c.loop-journal.invariant in
    let P : List ℕ → Type 0 = λ bytes. RefusesJournals c.args.geometry.now bytes c.in_err-says.field-0.0 in
    rw (p.1, p.2) (subst P i.read.same (c.in_err-says.ensures.refused (i.read.honest.1 honest)))

pub loop-journal-preserved : goal.loop-journal-preserved
loop-journal-preserved g c =
    let i = c.loop-journal.invariant in
    let e = c.in_ok-says.ensures in
    let bytes = g.D.Device.seen c.args.device.now in
    let says = c.in_ok-says.says in
    let pushed : c.push.new.self.items ≡ c.loop-journal.found.items ++ says ∷ [] = search rules in
    let read = read_then i.read e.read in
    let P : List ℕ → Type 0 = λ bytes. IsJournal c.args.geometry.now bytes c.loop-journal.journal says in
    record {
      read = read;
      len = ap length read.same;
      count = ap length pushed ∙ length_more c.loop-journal.found.items says ∙ ap (λ n. n + 1) i.count;
      say = λ honest. rw pushed (from_push c.args.geometry.now bytes 0 c.loop-journal.journal c.loop-journal.found.items
          says (i.say honest) (omega (arith, i.count)) (subst P i.read.same (e.says (i.read.honest.1 honest))));
    }

pub returns-then-is_err-clause-read : goal.returns-then-is_err-clause-read
returns-then-is_err-clause-read g c = read_then c.loop-journal.invariant.read c.in_ok-says.ensures.read

pub returns-in_err-says-clause-read : goal.returns-in_err-says-clause-read
returns-in_err-says-clause-read g c = read_then c.loop-journal.invariant.read c.in_err-says.ensures.read
