-- What is written to an output, one thing after the other.
use Rattle.std.proofs.Common.{◌≡◌, ℕ, add-one, ◌+◌, List, ◌++◌, Option, Some, None}
use Rattle.std.proofs.Common.{Result, Ok, Err, OnOk, sym, ◌∙◌, ap, subst, append_assoc}
use Rattle.std.proofs.Common.{◌==◌}
use Rattle.std.specs.List.{count_by}
use Rattle.std.specs.Io.KnownBytes.{Appends}
use Rattle.crash_states.specs.declared.row.Found.{Found}
use Rattle.crashes_command.specs.Text.{mark_text, marks_text}

pub then_appends : (a b c : Option (List ℕ)) (xs ys : List ℕ) → Appends a b xs → Appends b c ys → Appends a c (xs ++ ys)
then_appends None b c xs ys first second = tt
then_appends (Some old) None c xs ys first second = absurd first
then_appends (Some old) (Some mid) None xs ys first second = absurd second
then_appends (Some old) (Some mid) (Some new) xs ys first second =
    second ∙ ap (λ (front : List ℕ). front ++ ys) first ∙ append_assoc old xs ys

pub where_ok : {T E P Q : Type 0} (result : Result T E) → (P → Q) → OnOk result P → OnOk result Q
where_ok (Ok x) f p = f p
where_ok (Err e) f p = tt

-- one mark more
pub mark_more : (old mid new : Option (List ℕ)) (found : List Found) (mark states : ℕ)
    → states ≡ count_by (λ (f : Found). f.mark == mark) found → Appends old mid (marks_text found mark)
    → Appends mid new (mark_text mark states) → Appends old new (marks_text found (mark + 1))
mark_more old mid new found mark states is before this =
    let P : List ℕ → Type 0 = λ text. Appends old new text in
    let Q : ℕ → Type 0 = λ n. Appends mid new (mark_text mark n) in
    subst P (sym (ap (marks_text found) (add-one mark))) (then_appends old mid new (marks_text found mark)
    (mark_text mark (count_by (λ (f : Found). f.mark == mark) found)) before (subst Q is this))
