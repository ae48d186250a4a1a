-- The lines that answer requests: what is written, one thing after the other, and what it says.
use Rattle.std.proofs.Common.{◌≡◌, ◌⊎◌, inl, inr, ℕ, ◌+◌, ◌<◌, ◌≤◌, List, [], ◌∷◌, ◌++◌, length, length-append, take}
use Rattle.std.proofs.Common.{get_or, ◌-◌, ◌^◌, Bool, true, false, true≢false, if◌then◌else◌, Option, Some, None}
use Rattle.std.proofs.Common.{OnSome, Result, Ok, Err, OnOk, IsOk, IfOk, is_ok, codes, refl, sym, ◌∙◌, ap, subst, arith}
use Rattle.std.proofs.KnownBytes.{Appends-kept, Appends-nil, Appends-trans}
use Rattle.std.proofs.lemmas.List.{append_assoc, append-nil, take_more, take_all}
use Rattle.std.specs.Io.KnownBytes.{Appends, IsAtEnd, Keeps}
use Rattle.hex.specs.Hex.{encode_with, encode_lower}
use Rattle.device.specs.declared.device.Device.{Ghosts}
use Rattle.machine.specs.declared.act.Reply.{Reply}
use Rattle.machine.specs.declared.act.Step.{Step}
use Rattle.machine.specs.State.{Whole}
use Rattle.machine.specs.Words.{reply_text}
use Rattle.session.specs.declared.files.Files.{Files}
use Rattle.session.specs.declared.notes.Notes.{Notes}
use Rattle.session.specs.declared.ranges.Reached.{Reached}
use Rattle.session.specs.declared.ranges.Reached.TheVariants.{All, Refused, NoMemory}
use Rattle.std.specs.declared.alloc.AllocError.{AllocError}
use Rattle.session.specs.declared.request_fault.RequestFault.{RequestFault}
use Rattle.session.specs.declared.request_fault.RequestFault.TheVariants as fault
use Rattle.session.specs.Notes.{noted_all}
use Rattle.session.specs.Answers.{steps_text, reply_after, refusal_text, reached_text, text_after_space}
use Rattle.session.specs.Answers.{digits_text, ReportsLoaded, AsksNothing}
use Rattle.session.specs.Answers.{WritesAnswer, WritesAnswerOf, AnswersLines, WritesAnswers, AnswersInput}
use Rattle.session.specs.Lines.{HasNoFeed, ReadsLines}
use Rattle.session.specs.Asked.{AreFirst, IsMemory}
use Rattle.session.specs.Causes.{IsFaultOf, cause_words}
use Rattle.session.specs.Ranges.{MakesStepsThat, LoadsReached}
use Rattle.session.specs.Requests.{Asked, asks_steps, asks_load, request_in}
use Rattle.session.specs.Steps.{Makes}
use Rattle.session.specs.Files.{round_of}
use Rattle.session.specs.Turns.{InTurn}
use Rattle.session.proofs.Lines.{reads_both, end_after_lines}
use Rattle.session.proofs.Stretches.{makes_none, makes_then, noted_then}

-- a result that is `Ok` only where another one is
pub ok_after : {T E F P Q : Type 0} (first : Result T E) (last : Result T F) → is_ok last ≡ is_ok first → (P → Q)
    → OnOk first P → OnOk last Q
ok_after (Ok x) (Ok y) same f p = f p
ok_after (Ok x) (Err e) same f p = tt
ok_after (Err e) (Ok y) same f p = absurd (cc)
ok_after (Err e) (Err d) same f p = tt

-- one reply more
text_more : (replies : List Reply) (reply : Reply)
    → steps_text replies ++ reply_after (length replies) reply ≡ steps_text (replies ++ reply ∷ [])
text_more [] reply = refl
text_more (first ∷ []) reply = sym (append_assoc (reply_text first) (codes "; ") (reply_text reply))
text_more (first ∷ next ∷ replies) reply =
    let front : List ℕ = reply_text first ++ codes "; " in
    append_assoc front (steps_text (next ∷ replies)) (reply_after (length (next ∷ replies)) reply)
    ∙ ap (λ text. front ++ text) (text_more (next ∷ replies) reply)

-- the first of the steps that were asked for were made, and their replies were written
abbrev pub WritesReplies : List Step → ℕ → Option (List ℕ) → Option (List ℕ) → List Step → List Reply → Type 0
WritesReplies wanted count old new steps replies =
    (steps ≡ take count wanted) × (length replies ≡ count) × Appends old new (steps_text replies)

first_and_next : (wanted : List Step) (i : ℕ) (step : Step) (steps : List Step) → i < length wanted
    → step ≡ get_or wanted i step → steps ≡ take i wanted → steps ++ step ∷ [] ≡ take (i + 1) wanted
first_and_next wanted i step steps below at first =
    ap (λ s. s ++ step ∷ []) first ∙ ap (λ s. take i wanted ++ s ∷ []) at ∙ sym (take_more wanted i step below)

-- one more was made, and its reply was written
pub reply_more : {D : Type 0} (disk : Ghosts D) (old mid new : Whole D) (before between after : Notes)
    (wanted : List Step) (i : ℕ) (step : Step) (reply : Reply) (a b c : Option (List ℕ)) → i < length wanted
    → step ≡ get_or wanted i step
    → MakesStepsThat disk old before (WritesReplies wanted i a b) mid between
    → Makes disk mid between (step ∷ []) (reply ∷ []) new after → Appends b c (reply_after i reply)
    → MakesStepsThat disk old before (WritesReplies wanted (i + 1) a c) new after
reply_more disk old mid new before between after wanted i step reply a b c below at first made wrote =
    let P : ℕ → Type 0 = λ n. Appends b c (reply_after n reply) in
    let Q : List ℕ → Type 0 = λ text. Appends a c text in
    let count : length first.replies ≡ i = first.holds.1 in
    let long : length (first.replies ++ reply ∷ []) ≡ i + 1 =
    omega (arith, length-append first.replies (reply ∷ []), count) in
    record {
      steps = first.steps ++ step ∷ [];
      replies = first.replies ++ reply ∷ [];
      makes = makes_then disk old mid new before between after first.steps first.replies (step ∷ [])
          (reply ∷ []) first.makes made;
      holds = (
        first_and_next wanted i step first.steps below at first.holds.0,
        long,
        subst Q (text_more first.replies reply) (Appends-trans a b c (steps_text first.replies)
            (reply_after (length first.replies) reply) first.holds.2 (subst P (sym count) wrote)),
      );
    }

-- one more was made, whatever was written
pub reply_lost : {D : Type 0} (disk : Ghosts D) (old mid new : Whole D) (before between after : Notes)
    (wanted : List Step) (i : ℕ) (step : Step) (reply : Reply) (a b : Option (List ℕ)) → i < length wanted
    → step ≡ get_or wanted i step
    → MakesStepsThat disk old before (WritesReplies wanted i a b) mid between
    → Makes disk mid between (step ∷ []) (reply ∷ []) new after
    → MakesStepsThat disk old before (AreFirst wanted) new after
reply_lost disk old mid new before between after wanted i step reply a b below at first made = record {
  steps = first.steps ++ step ∷ [];
  replies = first.replies ++ reply ∷ [];
  makes = makes_then disk old mid new before between after first.steps first.replies (step ∷ [])
      (reply ∷ []) first.makes made;
  holds = (i + 1, first_and_next wanted i step first.steps below at first.holds.0);
}

-- they are among those that were asked for
pub replies_are_first : {D : Type 0} (disk : Ghosts D) (old new : Whole D) (before after : Notes) (wanted : List Step)
    (i : ℕ) (a b : Option (List ℕ)) → MakesStepsThat disk old before (WritesReplies wanted i a b) new after
    → MakesStepsThat disk old before (AreFirst wanted) new after
replies_are_first disk old new before after wanted i a b it =
    record { steps = it.steps; replies = it.replies; makes = it.makes; holds = (i, it.holds.0) }

-- all of them were made
pub steps_answered : {D : Type 0} (disk : Ghosts D) (old new : Whole D) (before after : Notes) (wanted : List Step)
    (i : ℕ) (a b c : Option (List ℕ)) → length wanted ≤ i
    → MakesStepsThat disk old before (WritesReplies wanted i a b) new after
    → Appends b c (10 ∷ []) → MakesStepsThat disk old before (WritesAnswer before (asks_steps wanted) a c) new after
steps_answered disk old new before after wanted i a b c past it wrote = record {
  steps = it.steps;
  replies = it.replies;
  makes = it.makes;
  holds = (
    steps_text it.replies,
    (it.holds.0 ∙ take_all i wanted past, refl),
    Appends-trans a b c (steps_text it.replies) (10 ∷ []) it.holds.2 wrote,
  );
}

-- the digits of no bytes are none, and those of bytes are some
digits_after_space : (bytes : List ℕ) → text_after_space (encode_lower bytes) ≡ digits_text bytes
unfolding encode_with
digits_after_space [] = refl
digits_after_space (byte ∷ bytes) = refl

-- what is written of a range that was loaded as far as memory lasted
pub reports_reached : (old new : Option (List ℕ)) (reached : Reached) (bytes digits : List ℕ) → (reached ≡ NoMemory → ⊥)
    → digits ≡ encode_lower bytes
    → Appends old new (reached_text reached ++ text_after_space digits ++ 10 ∷ [])
    → ((answer : List ℕ) × ReportsLoaded reached bytes answer × Appends old new (answer ++ 10 ∷ []))
reports_reached old new All bytes digits some are wrote = (
  codes "loaded" ++ text_after_space digits,
  ap (λ text. codes "loaded" ++ text) (ap text_after_space are ∙ digits_after_space bytes),
  wrote,
)
reports_reached old new (Refused count reply) bytes digits some are wrote = (
  refusal_text reply count ++ text_after_space digits,
  ap (λ text. refusal_text reply count ++ text) (ap text_after_space are ∙ digits_after_space bytes),
  wrote,
)
reports_reached old new NoMemory bytes digits some are wrote = absurd (some refl)

-- a range was loaded
pub load_answered : {D A : Type 0} (disk : Ghosts D) (old new : Whole D) (before after : Notes) (files left : Files A)
    (p va count : ℕ) (bytes : List ℕ) (reached : Reached) (a b : Option (List ℕ))
    → MakesStepsThat disk old before (InTurn files (LoadsReached p va count bytes reached) left) new after
    → ((answer : List ℕ) × ReportsLoaded reached bytes answer × Appends a b (answer ++ 10 ∷ []))
    → MakesStepsThat disk old before (WritesAnswer before (asks_load p va count) a b) new after
load_answered disk old new before after files left p va count bytes reached a b it wrote =
    record {
      steps = it.steps;
      replies = it.replies;
      makes = it.makes;
      holds = (wrote.0, (round_of files.lines.items, bytes, reached, it.holds.does, wrote.1), wrote.2);
    }

-- a line that asks for this
pub line_answered : {D : Type 0} (disk : Ghosts D) (old new : Whole D) (before after : Notes) (line : List ℕ)
    (what : Asked) (a b : Option (List ℕ)) → request_in line ≡ Some what
    → MakesStepsThat disk old before (WritesAnswer before what a b) new after
    → MakesStepsThat disk old before (WritesAnswerOf before line a b) new after
line_answered disk old new before after line what a b is it = record {
  steps = it.steps;
  replies = it.replies;
  makes = it.makes;
  holds = (it.holds.0, inr (what, is, it.holds.1), it.holds.2);
}

-- what isn't that memory was refused
pub not_memory : (cause : RequestFault) → ((refused : AllocError) → cause ≡ fault.Memory refused → ⊥)
    → ¬ (IsMemory cause)
not_memory (fault.Memory refused) not is = not refused refl
not_memory (fault.Long most) not is = is
not_memory fault.NotUtf8 not is = is
not_memory (fault.NotJson why) not is = is
not_memory fault.NotAList not is = is
not_memory fault.Empty not is = is
not_memory (fault.Step why) not is = is
not_memory (fault.Steps number found why) not is = is
not_memory (fault.Bytes most) not is = is

unless_memory : (cause : RequestFault) (P : Type 0) → IsMemory cause ⊎ P → ¬ (IsMemory cause) → P
unless_memory cause P (inl is) not = absurd (not is)
unless_memory cause P (inr is) not = is

-- the words for a fault were written, and a detail
abbrev SaysCause : RequestFault → Option (List ℕ) → Option (List ℕ) → Type 0
SaysCause cause a b =
    (detail : List ℕ) × HasNoFeed detail × Appends a b (codes "badline " ++ cause_words cause ++ detail ++ 10 ∷ [])

-- a line that asks for nothing
pub line_refused : {D : Type 0} (disk : Ghosts D) (old : Whole D) (before : Notes) (line : List ℕ)
    (cause : RequestFault) (a b : Option (List ℕ)) → IsMemory cause ⊎ AsksNothing line
    → IsMemory cause ⊎ IsFaultOf cause line → ¬ (IsMemory cause) × SaysCause cause a b
    → MakesStepsThat disk old before (WritesAnswerOf before line a b) old before
line_refused disk old before line cause a b nothing why (not, (detail, plain, wrote)) =
    record {
      steps = [];
      replies = [];
      makes = makes_none disk old before;
      holds = (
        codes "badline " ++ cause_words cause ++ detail,
        inl (
          unless_memory cause (AsksNothing line) nothing not,
          (cause, unless_memory cause (IsFaultOf cause line) why not, (detail, plain, refl, refl, refl)),
        ),
        wrote,
      );
    }

on_ok_at : {T E P : Type 0} (result : Result T E) → IsOk result → OnOk result P → P
on_ok_at (Ok x) is holds = holds
on_ok_at (Err e) is holds = absurd (cc)

-- lines that were answered after others
are_answered_then : (before : Notes) (lines : List (Option (List ℕ))) (text : List ℕ) (steps : List Step)
    (replies : List Reply) (lines' : List (Option (List ℕ))) (text' : List ℕ)
    (steps' : List Step) (replies' : List Reply)
    → AnswersLines before lines text steps replies
    → AnswersLines (noted_all before replies) lines' text' steps' replies'
    → AnswersLines before (lines ++ lines') (text ++ text') (steps ++ steps') (replies ++ replies')
are_answered_then before [] text steps replies lines' text' steps' replies' (no-text, no-steps, no-replies) later =
    let P : List ℕ → Type 0 = λ t. AnswersLines before lines' (t ++ text') (steps ++ steps') (replies ++ replies') in
    let Q : List Step → Type 0 = λ s. AnswersLines before lines' text' (s ++ steps') (replies ++ replies') in
    let R : List Reply → Type 0 = λ r. AnswersLines before lines' text' steps' (r ++ replies') in
    let S : List Reply → Type 0 = λ r. AnswersLines (noted_all before r) lines' text' steps' replies' in
    let here : AnswersLines before lines' text' steps' replies' = subst S no-replies later in
    subst P (sym no-text) (subst Q (sym no-steps) (subst R (sym no-replies) here))
are_answered_then before (line ∷ lines) text steps replies lines' text' steps' replies'
    (answer, rest, first, after, replied, more, is, are, text-is, steps-are, replies-are) later =
    let S : Notes → Type 0 = λ n. AnswersLines n lines' text' steps' replies' in
    let noted : noted_all before replies ≡ noted_all (noted_all before replied) more =
    ap (noted_all before) replies-are ∙ noted_then before replied more in (
      answer,
      rest ++ text',
      first,
      after ++ steps',
      replied,
      more ++ replies',
      is,
      are_answered_then (noted_all before replied) lines rest after more lines' text' steps' replies'
          are (subst S noted later),
      ap (λ t. t ++ text') text-is ∙ append_assoc answer (10 ∷ rest) text',
      ap (λ s. s ++ steps') steps-are ∙ append_assoc first after steps',
      ap (λ r. r ++ replies') replies-are ∙ append_assoc replied more replies',
    )

-- no line
pub answers_none : {D : Type 0} (disk : Ghosts D) (old : Whole D) (before : Notes) (input rest a : Option (List ℕ))
    → ReadsLines input rest [] → MakesStepsThat disk old before (WritesAnswers before 0 input rest a a) old before
answers_none disk old before input rest a read = record {
  steps = [];
  replies = [];
  makes = makes_none disk old before;
  holds = ([], [], refl, read, (refl, refl, refl), Appends-nil a);
}

-- one line
answers_one : {D : Type 0} (disk : Ghosts D) (old new : Whole D) (before after : Notes) (line : List ℕ)
    (input rest a b c : Option (List ℕ)) → ReadsLines input rest (Some line ∷ [])
    → MakesStepsThat disk old before (WritesAnswerOf before line a b) new after → Keeps b c
    → MakesStepsThat disk old before (WritesAnswers before 1 input rest a c) new after
answers_one disk old new before after line input rest a b c read it kept =
    record {
      steps = it.steps;
      replies = it.replies;
      makes = it.makes;
      holds = (
        Some line ∷ [],
        it.holds.0 ++ 10 ∷ [],
        refl,
        read,
        (
          it.holds.0,
          [],
          it.steps,
          [],
          it.replies,
          [],
          it.holds.1,
          (refl, refl, refl),
          refl,
          sym (append-nil it.steps),
          sym (append-nil it.replies),
        ),
        Appends-kept a b c (it.holds.0 ++ 10 ∷ []) it.holds.2 kept,
      );
    }

-- one line that is too long
answers_bad : {D : Type 0} (disk : Ghosts D) (old : Whole D) (before : Notes) (input rest a b c : Option (List ℕ))
    → ReadsLines input rest (None ∷ [])
    → SaysCause (fault.Long 262144) a b → Keeps b c
    → MakesStepsThat disk old before (WritesAnswers before 1 input rest a c) old before
answers_bad disk old before input rest a b c read (detail, plain, wrote) kept =
    let answer : List ℕ = codes "badline " ++ cause_words (fault.Long 262144) ++ detail in
    record {
      steps = [];
      replies = [];
      makes = makes_none disk old before;
      holds = (
        None ∷ [],
        answer ++ 10 ∷ [],
        refl,
        read,
        (answer, [], [], [], [], [], (detail, plain, refl, refl, refl), (refl, refl, refl), refl, refl, refl),
        Appends-kept a b c (answer ++ 10 ∷ []) wrote kept,
      );
    }

-- the number of lines that were answered: one if there was one
abbrev WritesNext : {D : Type 0} → Ghosts D → Whole D → Whole D → Notes → Notes → Option (List ℕ) → Option (List ℕ)
    → Option (List ℕ) → Option (List ℕ) → Bool → Type 0
WritesNext disk old new before after input rest a c more =
    MakesStepsThat disk old before (WritesAnswers before (if more then 1 else 0) input rest a c) new after

-- and the output was flushed after it
pub line_flushed : {D S E F : Type 0} (disk : Ghosts D) (old new : Whole D) (before after : Notes) (line : List ℕ)
    (input rest a b c : Option (List ℕ)) (written : Result S E) (flushed : Result Bool F)
    → ReadsLines input rest (Some line ∷ [])
    → OnOk written (MakesStepsThat disk old before (WritesAnswerOf before line a b) new after)
    → IfOk flushed (λ more. (more ≡ true) × IsOk written × Keeps b c)
    → IfOk flushed (WritesNext disk old new before after input rest a c)
line_flushed disk old new before after line input rest a b c written (Err cause) read replied is = tt
line_flushed disk old new before after line input rest a b c written (Ok more) read replied (was, wrote, kept) =
    subst (WritesNext disk old new before after input rest a c) (sym was)
    (answers_one disk old new before after line input rest a b c read (on_ok_at written wrote replied) kept)

pub bad_flushed : {D S E F : Type 0} (disk : Ghosts D) (old : Whole D) (before : Notes)
    (input rest a b c : Option (List ℕ)) (written : Result S E) (flushed : Result Bool F)
    → ReadsLines input rest (None ∷ [])
    → OnOk written (¬ (IsMemory (fault.Long 262144)) × SaysCause (fault.Long 262144) a b)
    → IfOk flushed (λ more. (more ≡ true) × IsOk written × Keeps b c)
    → IfOk flushed (WritesNext disk old old before before input rest a c)
bad_flushed disk old before input rest a b c written (Err fault) read replied is = tt
bad_flushed disk old before input rest a b c written (Ok more) read replied (was, wrote, kept) =
    subst (WritesNext disk old old before before input rest a c) (sym was)
    (answers_bad disk old before input rest a b c read (on_ok_at written wrote replied).1 kept)

-- an answer that was flushed was of a line
pub flushed_line : {S E F : Type 0} (b c : Option (List ℕ)) (written : Result S E) (flushed : Result Bool F)
    → IfOk flushed (λ more. (more ≡ true) × IsOk written × Keeps b c) → flushed ≡ Ok false → ⊥
flushed_line b c written (Err cause) is none = absurd (cc)
flushed_line b c written (Ok true) is none = absurd (cc)
flushed_line b c written (Ok false) is none = absurd (true≢false (sym is.0))

-- lines after lines
answers_then : {D : Type 0} (disk : Ghosts D) (old mid new : Whole D) (before between after : Notes)
    (count more : ℕ) (input part rest a b c : Option (List ℕ))
    → MakesStepsThat disk old before (WritesAnswers before count input part a b) mid between
    → MakesStepsThat disk mid between (WritesAnswers between more part rest b c) new after
    → MakesStepsThat disk old before (WritesAnswers before (count + more) input rest a c) new after
answers_then disk old mid new before between after count more input part rest a b c first later =
    let S : Notes → Type 0 = λ n. AnswersLines n later.holds.0 later.holds.1 later.steps later.replies in
    record {
      steps = first.steps ++ later.steps;
      replies = first.replies ++ later.replies;
      makes = makes_then disk old mid new before between after first.steps first.replies later.steps later.replies
          first.makes later.makes;
      holds = (
        first.holds.0 ++ later.holds.0,
        first.holds.1 ++ later.holds.1,
        omega (arith, length-append first.holds.0 later.holds.0, first.holds.2, later.holds.2),
        reads_both input part rest first.holds.0 later.holds.0 first.holds.3 later.holds.3,
        are_answered_then before first.holds.0 first.holds.1 first.steps first.replies later.holds.0 later.holds.1
            later.steps later.replies first.holds.4 (subst S first.makes.notes later.holds.4),
        Appends-trans a b c first.holds.1 later.holds.1 first.holds.5 later.holds.5,
      );
    }

-- these were the lines of the input
pub answers_input : {D : Type 0} (disk : Ghosts D) (old new : Whole D) (before after : Notes) (count : ℕ)
    (input rest a b : Option (List ℕ))
    → MakesStepsThat disk old before (WritesAnswers before count input rest a b) new after
    → (count < 2 ^ 64 - 1 → OnSome input (IsAtEnd rest))
    → MakesStepsThat disk old before (AnswersInput before input rest a b) new after
answers_input disk old new before after count input rest a b it end =
    record { steps = it.steps; replies = it.replies; makes = it.makes; holds = (count, it.holds, end) }

-- lines, and then the end of the input
pub answers_to_end : {D : Type 0} (disk : Ghosts D) (old mid new : Whole D) (before between after : Notes) (count : ℕ)
    (more : Bool) (input part rest a b c : Option (List ℕ)) → more ≡ false
    → MakesStepsThat disk old before (WritesAnswers before count input part a b) mid between
    → WritesNext disk mid new between after part rest b c more → OnSome part (IsAtEnd rest)
    → MakesStepsThat disk old before (AnswersInput before input rest a c) new after
answers_to_end disk old mid new before between after count more input part rest a b c none first later end =
    answers_input disk old new before after (count + 0) input rest a c
    (answers_then disk old mid new before between after count 0 input part rest a b c first
    (subst (WritesNext disk mid new between after part rest b c) none later))
    (λ _. end_after_lines input part rest first.holds.0 first.holds.3 end)

-- one more line
pub answers_next : {D : Type 0} (disk : Ghosts D) (old mid new : Whole D) (before between after : Notes) (count : ℕ)
    (more : Bool) (input part rest a b c : Option (List ℕ)) → more ≡ true
    → MakesStepsThat disk old before (WritesAnswers before count input part a b) mid between
    → WritesNext disk mid new between after part rest b c more
    → MakesStepsThat disk old before (WritesAnswers before (count + 1) input rest a c) new after
answers_next disk old mid new before between after count more input part rest a b c one first later =
    answers_then disk old mid new before between after count 1 input part rest a b c first
    (subst (WritesNext disk mid new between after part rest b c) one later)
