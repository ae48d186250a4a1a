-- A change: who stalls before it and goes on after it, and the one by which a page is taken out of memory.
use Rattle.std.proofs.Common.{◌≡◌, ◌≢◌, ℕ, true, List, [], ◌∷◌, ◌++◌, refl, ap, subst}
use Rattle.device.specs.declared.device.Device.{Ghosts}
use Rattle.machine.specs.declared.act.Act.TheVariants as acts
use Rattle.machine.specs.declared.act.Reply.{Reply}
use Rattle.machine.specs.declared.act.Reply.TheVariants as reports
use Rattle.machine.specs.declared.act.Step.{Step}
use Rattle.machine.specs.State.{Whole}
use Rattle.session.specs.declared.notes.Notes.{Notes}
use Rattle.session.specs.Lengths.{reports_changed, AnswersChange}
use Rattle.session.specs.Ranges.{MakesStepsThat}
use Rattle.session.specs.Steps.{Makes}
use Rattle.session.proofs.Stretches.{makes_then}

-- ---- who stalls goes on

pub answers_alone : (p : ℕ) (answer : Reply) → reports_changed answer ≡ true
    → AnswersChange p answer (record { p = p; act = acts.Change } ∷ []) (answer ∷ [])
answers_alone p answer is = record { made = is; others = []; differ = tt; steps_are = refl; replies_are = refl }

answers_around : (p other : ℕ) → other ≢ p → (answer : Reply) (steps : List Step) (replies : List Reply)
    → AnswersChange p answer steps replies
    → AnswersChange p answer (record { p = other; act = acts.Ack }
    ∷ (steps ++ record { p = other; act = acts.Resume } ∷ [])) (reports.Acked ∷ (replies ++ reports.Resumed ∷ []))
answers_around p other differs answer steps replies it = record {
  made = it.made;
  others = other ∷ it.others;
  differ = (differs, it.differ);
  steps_are = ap (λ (l : List Step).
      record { p = other; act = acts.Ack } ∷ (l ++ record { p = other; act = acts.Resume } ∷ [])) it.steps_are;
  replies_are = ap (λ (l : List Reply). reports.Acked ∷ (l ++ reports.Resumed ∷ [])) it.replies_are;
}

module _ {D : Type 0} (disk : Ghosts D) where
  -- one that is interrupted stalls before the change, and goes on after it
  pub change_around : (old mid last new : Whole D) (before between next after : Notes) (p other : ℕ)
      (answer stalled-reply going-reply : Reply) → other ≢ p
      → Makes disk old before (record { p = other; act = acts.Ack } ∷ []) (stalled-reply ∷ []) mid between
      → stalled-reply ≡ reports.Acked
      → MakesStepsThat disk mid between (AnswersChange p answer) last next
      → Makes disk last next (record { p = other; act = acts.Resume } ∷ []) (going-reply ∷ []) new after
      → going-reply ≡ reports.Resumed
      → MakesStepsThat disk old before (AnswersChange p answer) new after
  change_around old mid last new before between next after p other answer stalled-reply going-reply differs
      stalls is made goes on =
      let ack : Step = record { p = other; act = acts.Ack } in
      let resume : Step = record { p = other; act = acts.Resume } in
      record {
        steps = ack ∷ (made.steps ++ resume ∷ []);
        replies = reports.Acked ∷ (made.replies ++ reports.Resumed ∷ []);
        makes = makes_then disk old mid new before between after (ack ∷ []) (reports.Acked ∷ [])
            (made.steps ++ resume ∷ []) (made.replies ++ reports.Resumed ∷ [])
            (subst (λ (r : Reply). Makes disk old before (ack ∷ []) (r ∷ []) mid between) is stalls)
            (makes_then disk mid last new between next after made.steps made.replies (resume ∷ [])
            (reports.Resumed ∷ []) made.makes
            (subst (λ (r : Reply). Makes disk last next (resume ∷ []) (r ∷ []) new after) on goes));
        holds = answers_around p other differs answer made.steps made.replies made.holds;
      }
