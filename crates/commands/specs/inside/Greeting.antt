-- The output before the first request of a session, and the output after it.
use Rattle.std.specs.Prelude.{ℕ, List, [], ◌∷◌, ◌++◌, codes, length, string_bytes, Option}
use Rattle.std.specs.Fmt.{decimal}
use Rattle.std.specs.Io.KnownBytes.{Appends}
use Rattle.std.specs.List.{flat_map}
use Rattle.machine.specs.declared.act.Reply.{Reply}
use Rattle.machine.specs.declared.act.Step.{Step}
use Rattle.session.specs.declared.files.FileLine.{FileLine}
use Rattle.session.specs.declared.notes.Notes.{Notes}
use Rattle.session.specs.Answers.{AnswersInput}

-- a line with the name of a file and its length when it was opened
abbrev pub file_text : {A : Type 0} → FileLine A → List ℕ
file_text file = string_bytes file.name ++ 32 ∷ decimal file.length ++ 10 ∷ []

-- a line with the number of files, and a line for each, in their order
abbrev pub greeting_text : {A : Type 0} → List (FileLine A) → List ℕ
greeting_text files = (codes "ready " ++ decimal (length files) ++ 10 ∷ []) ++ flat_map file_text files

-- The files were listed. Then the answers to the lines of the input were written.
abbrev pub ListsAndAnswers : {A : Type 0} → List (FileLine A) → Notes → Option (List ℕ) → Option (List ℕ)
    → Option (List ℕ) → Option (List ℕ) → List Step → List Reply → Type 0
ListsAndAnswers files before input rest old new steps replies =
    (listed : Option (List ℕ)) × Appends old listed (greeting_text files)
    × AnswersInput before input rest listed new steps replies
