use Rattle.std.proofs.Common.{◌+◌, ◌++◌, ◌∷◌, [], List, length, length-append, sym, ap, ◌∙◌, subst}
use Rattle.std.proofs.lemmas.Bool.{false≢true}
use Rattle.machine.specs.declared.act.Act.{Act}
use Rattle.machine.specs.declared.act.Reply.{Reply}
use Rattle.service.specs.Gathering.{CpuState, words_of}
use Rattle.service.specs.inside.Rising.{seen_words}
use Rattle.service.specs.Serving.{HasCalled}
use Rattle.service.proofs.processor.Cpu.call.Goals as goal

pub invariant_of-self : goal.invariant_of-self
invariant_of-self g c =
    let called = c.call_locked-reply.ensures in
    let before = c.self.inside.answered.items in
    let counted = called.counted (λ is. absurd (false≢true (c.if-not-is_trace_full.ensures.1 is))) in
    let longer = ap (λ (l : List (Act × Reply)). length l) c.push_reserved.ensures.items
    ∙ length-append before (c.answer_of.result ∷ []) in (
      called.parts ∙ c.self.invariant.0,
      counted ∙ ap (λ n. n + 1) c.self.invariant.1 ∙ sym longer,
      called.risen.cell ∙ c.self.invariant.2,
    )

pub returns-then-not-is_trace_full-clause-answered : goal.returns-then-not-is_trace_full-clause-answered
returns-then-not-is_trace_full-clause-answered g c = λ _.
    let before = c.self.inside.answered.items in
    c.push_reserved.ensures.items
    ∙ ap (λ (e : Act × Reply). before ++ e ∷ []) c.answer_of.ensures
    ∙ ap (λ (s : CpuState). s.answered ++ (c.args.act, c.call_locked-reply.result) ∷ []) c.self.view_is

pub returns-then-not-is_trace_full-clause-called : goal.returns-then-not-is_trace_full-clause-called
returns-then-not-is_trace_full-clause-called g c = λ answered.
    let seen = c.call_locked-reply.new.seen in
    let P : CpuState → Type 0 = λ s. HasCalled g.D.Device g.L.Origin.start g.L.Origin.all g.L.Origin.capacity
    (record { p = s.number; act = c.args.act }) c.call_locked-reply.result (words_of s) (seen_words seen) in
    subst P c.self.view_is (c.call_locked-reply.ensures.called answered)
