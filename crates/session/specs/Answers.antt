-- The answers to requests, and the steps that carry out the requests. An answer is a line, without its line feed.
use Rattle.std.specs.Prelude.{ℕ, zero, suc, ◌≡◌, ◌⊎◌, ◌-◌, ◌^◌, ◌<◌, List, [], ◌∷◌, ◌++◌, length}
use Rattle.std.specs.Prelude.{Option, Some, None, OnSome, Result, Ok, Err, codes, IsUtf8}
use Rattle.std.specs.Fmt.{decimal}
use Rattle.std.specs.Io.KnownBytes.{Appends, IsAtEnd}
use Rattle.hex.specs.Hex.{encode_lower}
use Rattle.machine.specs.declared.act.Reply.{Reply}
use Rattle.machine.specs.declared.act.Step.{Step}
use Rattle.machine.specs.Words.{reply_text}
use Rattle.session.specs.declared.notes.Notes.{Notes}
use Rattle.session.specs.declared.ranges.Reached.{Reached}
use Rattle.session.specs.declared.ranges.Reached.TheVariants.{All, Refused, NoMemory}
use Rattle.session.specs.Commits.{AnswersCommit}
use Rattle.session.specs.Lengths.{AnswersLength}
use Rattle.session.specs.declared.request_fault.RequestFault.{RequestFault}
use Rattle.session.specs.declared.request_fault.RequestFault.TheVariants.{Long}
use Rattle.session.specs.Causes.{IsFaultOf, IsBad}
use Rattle.session.specs.Lines.{ReadsLines}
use Rattle.session.specs.Notes.{noted_all}
use Rattle.session.specs.Ranges.{LoadsReached, StoresReached}
use Rattle.session.specs.Requests.{Asked, asks_steps, asks_load, asks_store, asks_commit, asks_length, request_in}

-- the replies to steps, separated by "; "
abbrev pub steps_text : List Reply → List ℕ
steps_text [] = []
steps_text (reply ∷ []) = reply_text reply
steps_text (reply ∷ replies) = reply_text reply ++ codes "; " ++ steps_text replies

-- The text that a reply adds to an answer. The answer already contains this number of replies.
abbrev pub reply_after : ℕ → Reply → List ℕ
reply_after zero reply = reply_text reply
reply_after (suc number) reply = codes "; " ++ reply_text reply

-- the text for a range that ends early: the reply that ended it, and the number of bytes before
abbrev pub refusal_text : Reply → ℕ → List ℕ
refusal_text reply count = reply_text reply ++ codes " after " ++ decimal count

-- the answer to a load, without the bytes
abbrev pub reached_text : Reached → List ℕ
reached_text (Refused count reply) = refusal_text reply count
reached_text _ = codes "loaded"

-- a text after a space, or no text if it is empty
abbrev pub text_after_space : List ℕ → List ℕ
text_after_space [] = []
text_after_space text = 32 ∷ text

-- the hexadecimal digits of bytes after a space, or no text if there are no bytes
abbrev pub digits_text : List ℕ → List ℕ
digits_text [] = []
digits_text bytes = 32 ∷ encode_lower bytes

-- The answer to a load contains the loaded bytes. If the range ended early, it reports this too. If memory was refused,
-- there is no answer.
abbrev pub ReportsLoaded : Reached → List ℕ → List ℕ → Type 0
ReportsLoaded All bytes answer = answer ≡ codes "loaded" ++ digits_text bytes
ReportsLoaded (Refused count reply) bytes answer = answer ≡ refusal_text reply count ++ digits_text bytes
ReportsLoaded NoMemory bytes answer = ⊥

-- the answer to a store of `count` bytes
abbrev pub stored_text : Reached → ℕ → List ℕ
stored_text (Refused reached reply) count = refusal_text reply reached
stored_text _ count = codes "stored " ++ decimal count

-- the answer to a commit: the acknowledged mark, or the reply to the step that stopped the commit
abbrev pub committed_text : Result ℕ Reply → List ℕ
committed_text (Ok mark) = codes "committed " ++ decimal mark
committed_text (Err reply) = reply_text reply

-- The steps carry out the request, as far as the machine makes them, and this is the answer.
abbrev pub AnswersRequest : Notes → Asked → List ℕ → List Step → List Reply → Type 0
AnswersRequest before (asks_steps wanted) answer steps replies = (steps ≡ wanted) × (answer ≡ steps_text replies)
AnswersRequest before (asks_load p va count) answer steps replies =
    (all : ℕ) × (bytes : List ℕ) × (reached : Reached) × LoadsReached p va count bytes reached all steps replies
    × ReportsLoaded reached bytes answer
AnswersRequest before (asks_store p va bytes) answer steps replies =
    (all : ℕ) × (reached : Reached) × StoresReached p va bytes reached all steps replies
    × (answer ≡ stored_text reached (length bytes))
AnswersRequest before (asks_commit p) answer steps replies =
    (committed : Result ℕ Reply) × AnswersCommit p before committed steps replies × (answer ≡ committed_text committed)
AnswersRequest before (asks_length p file to) answer steps replies =
    (all : ℕ) × (reply : Reply) × AnswersLength p file to reply all steps replies × (answer ≡ reply_text reply)

-- The steps carry out the request, and the answer is appended to the output as a line.
abbrev pub WritesAnswer : Notes → Asked → Option (List ℕ) → Option (List ℕ) → List Step → List Reply → Type 0
WritesAnswer before what old new steps replies =
    (answer : List ℕ) × AnswersRequest before what answer steps replies × Appends old new (answer ++ 10 ∷ [])

-- The line isn't UTF-8, or it contains no request.
abbrev pub AsksNothing : List ℕ → Type 0
AsksNothing line = (request_in line ≡ None) ⊎ ¬ (IsUtf8 line)

-- The steps carry out the request in the line, and this is the answer. A line that contains no request is bad
-- (`IsBad`).
abbrev pub AnswersLine : Notes → List ℕ → List ℕ → List Step → List Reply → Type 0
AnswersLine before line answer steps replies =
    (AsksNothing line × ((why : RequestFault) × IsFaultOf why line × IsBad why answer steps replies))
    ⊎ ((what : Asked) × (request_in line ≡ Some what) × AnswersRequest before what answer steps replies)

-- The line is answered, and the answer is appended to the output as a line.
abbrev pub WritesAnswerOf : Notes → List ℕ → Option (List ℕ) → Option (List ℕ) → List Step → List Reply → Type 0
WritesAnswerOf before line old new steps replies =
    (answer : List ℕ) × AnswersLine before line answer steps replies × Appends old new (answer ++ 10 ∷ [])

-- One line of the input is answered. A line that is too long (`None`) is bad, even if it contains a request.
abbrev pub IsAnsweredNext : Notes → Option (List ℕ) → List ℕ → List Step → List Reply → Type 0
IsAnsweredNext before (Some line) answer steps replies = AnswersLine before line answer steps replies
IsAnsweredNext before None answer steps replies = IsBad (Long 262144) answer steps replies

-- The lines are answered in order. The steps for each line follow the steps for the lines before it. The text contains
-- the answer to each line, and a line feed after it.
abbrev pub AnswersLines : Notes → List (Option (List ℕ)) → List ℕ → List Step → List Reply → Type 0
AnswersLines before [] text steps replies = (text ≡ []) × (steps ≡ []) × (replies ≡ [])
AnswersLines before (line ∷ lines) text steps replies =
    (answer rest : List ℕ) × (first later : List Step) × (replied more : List Reply)
    × IsAnsweredNext before line answer first replied × AnswersLines (noted_all before replied) lines rest later more
    × (text ≡ answer ++ 10 ∷ rest) × (steps ≡ first ++ later) × (replies ≡ replied ++ more)

-- `count` lines of the input are read and answered, and the answers are appended to the output as lines. `rest` is the
-- input that is left.
abbrev pub WritesAnswers : Notes → ℕ → Option (List ℕ) → Option (List ℕ) → Option (List ℕ) → Option (List ℕ)
    → List Step → List Reply → Type 0
WritesAnswers before count input rest old new steps replies =
    (lines : List (Option (List ℕ))) × (text : List ℕ) × (length lines ≡ count) × ReadsLines input rest lines
    × AnswersLines before lines text steps replies × Appends old new text

-- All lines of the input are answered, or the first 2 ^ 64 - 1 of them.
abbrev pub AnswersInput : Notes → Option (List ℕ) → Option (List ℕ) → Option (List ℕ) → Option (List ℕ) → List Step
    → List Reply → Type 0
AnswersInput before input rest old new steps replies =
    (count : ℕ) × WritesAnswers before count input rest old new steps replies
    × (count < 2 ^ 64 - 1 → OnSome input (IsAtEnd rest))
