use Rattle.std.proofs.Common.{◌≡◌, ◌≤◌, ℕ, ◌+◌, ◌-◌, List, ◌++◌, length, length-take}
use Rattle.std.proofs.Common.{length-drop, take, drop, refl, sym, ◌∙◌, ap, subst, arith}
use Rattle.std.proofs.lemmas.List.{take_all}
use Rattle.std.proofs.Math.Seq.{take-add}
use Rattle.machine.specs.AtOnce.{store_steps, store_replies}
use Rattle.session.specs.Ranges.{StoresRange}
use Rattle.session.specs.Steps.{AreStores, Makes}
use Rattle.session.proofs.AtOnce.{stores_run_carries}
use Rattle.session.proofs.Carried.{carries_more, carries_nothing, carries_then}
use Rattle.session.proofs.Pieces.{stores_all, stores_more, stores_piece, stores_refused}
use Rattle.session.proofs.Turns.{in_turn_more, in_turn_none, in_turn_then}
use Rattle.session.proofs.requests.Requests.store.Goals as goal

pub loop-done-init : goal.loop-done-init
loop-done-init g c = (omega arith, carries_nothing g.D.Device _ _ _ (in_turn_none _ _ refl))

pub returns-in-Err : goal.returns-in-Err
returns-in-Err g c = carries_then g.D.Device _ _ _ _ _ _ _ _ _ (in_turn_then _ _ _ _ _ _
    (stores_refused c.args.p c.args.va
    c.loop-done.done _ c.args.bytes.now c.in-Err.reply (omega (arith, c.loop-done-test.true))
    c.saturating_add-from.ensures))
    c.loop-done.invariant.1 c.in-Err.ensures.err

pub loop-done-preserved : goal.loop-done-preserved
loop-done-preserved g c =
    let bytes = c.args.bytes.now in
    let few = c.piece-few.result in
    let done = c.loop-done.done + few in
    let span : c.loop-done.done + few - c.loop-done.done ≡ few = omega arith in
    let long : length (take c.loop-done.done bytes) ≡ c.loop-done.done =
    omega (arith, length-take c.loop-done.done bytes, c.loop-done.invariant.0) in
    let piece = take (done - c.loop-done.done) (drop c.loop-done.done bytes) in
    let all : take c.loop-done.done bytes ++ piece ≡ take done bytes =
    ap (λ m. take c.loop-done.done bytes ++ take m (drop c.loop-done.done bytes)) span
    ∙ sym (take-add c.loop-done.done few bytes) in
    let run = take c.store_run-more.result (drop done bytes) in
    let within : done ≤ length bytes =
    omega (arith, c.piece-few.ensures.left, c.loop-done.invariant.0, c.loop-done-test.true) in
    let whole : take (length bytes - done) (drop done bytes) ≡ drop done bytes =
    take_all (length bytes - done) (drop done bytes) (omega (arith, length-drop done bytes)) in
    let F : List ℕ → Type 0 = λ l. c.store_run-more.result ≤ length l in
    let M : List ℕ → Type 0 = λ l. Makes g.D.Device c.store_piece.new.self.machine c.store_piece.new.self.notes
    (store_steps c.args.p c.saturating_add-next.result (take c.store_run-more.result l)) (store_replies
    (take c.store_run-more.result l)) c.store_run-more.new.self.machine c.store_run-more.new.self.notes in
    let makes : M (drop done bytes) = subst M whole c.store_run-more.ensures.makes in
    let fits : c.store_run-more.result ≤ length bytes - done =
    omega (arith, subst F whole c.store_run-more.ensures.few, length-drop done bytes) in
    let ran : length run ≡ c.store_run-more.result =
    omega (arith, length-take c.store_run-more.result (drop done bytes), length-drop done bytes, fits) in
    let first = carries_then g.D.Device _ _ _ _ _ _ _ _ _ (in_turn_then _ _ _ (λ _. StoresRange c.args.p c.args.va
    (take c.loop-done.done bytes)) (λ _ steps replies. AreStores c.args.p c.args.va c.loop-done.done steps replies
    piece)
    (λ _. StoresRange c.args.p c.args.va (take done bytes)) (λ _. stores_more c.args.p c.args.va c.loop-done.done
    (take c.loop-done.done bytes) piece (take done bytes) long all)) c.loop-done.invariant.1
    (carries_more g.D.Device _ _ _ _ _ _ (in_turn_more _ _ _ _
    (λ _. stores_piece c.args.p c.args.va c.loop-done.done _ piece c.saturating_add-from.ensures))
    c.in_default.ensures.ok) in (
      omega (arith, within, fits),
      carries_then g.D.Device _ _ _ _ _ _ _ _ _ (in_turn_then _ _ _ (λ _. StoresRange c.args.p c.args.va
          (take done bytes)) (λ _ steps replies. AreStores c.args.p c.args.va done steps replies run)
          (λ _. StoresRange c.args.p c.args.va (take (done + c.store_run-more.result) bytes))
          (λ _. stores_more c.args.p c.args.va done (take done bytes) run
          (take (done + c.store_run-more.result) bytes) (omega (arith, length-take done bytes, within))
          (sym (take-add done c.store_run-more.result bytes)))) first
          (stores_run_carries g.D.Device _ _ _ _ c.args.p c.saturating_add-next.result run
          c.store_piece.new.self.files c.store_run-more.new.self.files c.store_run-more.ensures.files c.args.va done
          c.saturating_add-next.ensures (omega (arith, ran, c.store_run-more.ensures.below)) makes),
    )

pub returns : goal.returns
returns g c = carries_more g.D.Device _ _ _ _ _ _ (in_turn_more _ _ _ _ (stores_all c.args.p c.args.va
    (take c.loop-done.done c.args.bytes.now) c.args.bytes.now
    (take_all c.loop-done.done c.args.bytes.now c.loop-done-test.false))) c.loop-done.invariant.1
