-- The files that a crash leaves of a run over a volume with a log: those at a mark.
use Rattle.std.proofs.Common.{◌≡◌, ℕ, ◌≤◌, List, Some, sym, subst, ◌∙◌}
use Rattle.std.specs.Prelude.{slice_get}
use Rattle.volume_codec.specs.Files.{File}
use Rattle.volume_codec.specs.Recovery.{RecoversTo}
use Rattle.machine.specs.declared.act.Reply.{Reply}
use Rattle.machine.specs.declared.act.Reply.TheVariants.{Committed}
use Rattle.machine.specs.declared.act.Shape.{Shape}
use Rattle.machine.specs.declared.act.Step.{Step}
use Rattle.crash_table.specs.Marks.{contents_of, IsNewest, IsMarkOf}
use Rattle.crash_table.specs.Trials.{TrialValue}
use Rattle.crash_table.specs.LogTrials.{IsAtMarkByLog}
use Rattle.crash_table.specs.Twins.{TwinValue, IsTwin}

-- the mark that was looked for among those of the volume in layout 4 with the same files
pub at_mark_by_log : (twin : TwinValue) (is : IsTwin twin) (other : TrialValue) (shape : Shape) (steps : List Step)
    (replies : List Reply) (read : List (List ℕ)) (found : List File) (number : ℕ) → other.image ≡ twin.shown
    → other.shape ≡ shape → other.steps ≡ steps → read ≡ contents_of found → IsMarkOf other replies read number
    → (number ≡ 0 → twin.files ≡ read)
    → ((i k : ℕ) → slice_get replies i ≡ Some (Committed k) → k ≤ number)
    → IsAtMarkByLog is.found shape steps replies found number
at_mark_by_log twin is other shape steps replies read found number image shape_is steps_are read_is mark first
    durable =
    let I : List ℕ → Type 0 = λ bytes. RecoversTo bytes is.found in
    let S : Shape → Type 0 = λ s. IsNewest is.found s other.steps replies read number in
    let T : List Step → Type 0 = λ s. IsNewest is.found shape s replies read number in
    let B : List (List ℕ) → Type 0 = λ bytes. IsNewest is.found shape steps replies bytes number in record {
      newest = subst B read_is
          (subst T steps_are (subst S shape_is (mark is.found (subst I (sym image) is.by_journals))));
      first = λ none. sym read_is ∙ sym (first none) ∙ is.bytes_are;
      durable = durable;
    }
