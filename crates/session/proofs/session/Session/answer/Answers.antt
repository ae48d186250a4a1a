use Rattle.std.proofs.Common.{◌≡◌, ℕ, List, length, refl, ap, subst, arith}
use Rattle.session.specs.Answers.{stored_text}
use Rattle.session.specs.Asked.{asked}
use Rattle.session.specs.Files.{round_of}
use Rattle.session.specs.Ranges.{StoresReached}
use Rattle.session.specs.Requests.{asks_store, asks_commit, asks_length}
use Rattle.session.proofs.Served.{answered_for}
use Rattle.session.proofs.Turns.{carries_does}
use Rattle.session.proofs.session.Session.answer.Goals as goal

pub returns-in-Store : goal.returns-in-Store
returns-in-Store g c =
    let contents = g.W.Write.contents in
    let p = c.in-Store.p in
    let va = c.in-Store.va in
    let reached = c.store-reached.result in
    let bytes = c.in-Store.bytes in
    let all = round_of c.args.self.now.files.lines.items in
    let count : c.len.result ≡ length bytes.items = omega (arith, c.len.ensures, bytes.ok.0) in
    answered_for g.D.Device _ _ _ _ _ (asks_store p va bytes.items) _ _
    c.write_stored.result c.map_err.result (contents c.args.out.now) (contents c.write_stored.new.out)
    (ap asked c.in-Store.is) (λ steps replies it. (
      all,
      reached,
      subst (λ (bytes : List ℕ). StoresReached p va bytes reached all steps replies) c.deref-in-Store.ensures.value it,
      ap (stored_text reached) count,
    )) (λ kept. kept) c.map_err.ensures.variant c.write_stored.ensures
    (carries_does g.D.Device _ _ _ _ _ _ _ c.store-reached.ensures)

pub returns-in-Commit : goal.returns-in-Commit
returns-in-Commit g c =
    let contents = g.W.Write.contents in
    answered_for g.D.Device _ _ _ _ _ (asks_commit c.in-Commit.p) _ _
    c.write_committed.result c.map_err-in-Commit.result (contents c.args.out.now) (contents c.write_committed.new.out)
    (ap asked c.in-Commit.is) (λ steps replies it. (c.commit-committed.result, it, refl)) (λ kept. kept)
    c.map_err-in-Commit.ensures.variant c.write_committed.ensures c.commit-committed.ensures.answers

pub returns-in-SetLength : goal.returns-in-SetLength
returns-in-SetLength g c =
    let contents = g.W.Write.contents in
    let asks = c.in-SetLength in
    answered_for g.D.Device _ _ _ _ _ (asks_length asks.p asks.file asks.length) _ _
    c.writeln.result c.map_err-in-SetLength.result (contents c.args.out.now) (contents c.writeln.new.self)
    (ap asked asks.is) (λ steps replies it. (_, c.set_length-reply.result, it, refl)) (λ kept. kept)
    c.map_err-in-SetLength.ensures.variant c.writeln.ensures.bytes
    (carries_does g.D.Device _ _ _ _ _ _ _ c.set_length-reply.ensures)
