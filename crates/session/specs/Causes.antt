-- Why a line contains no request, and the answer to such a line.
use Rattle.std.specs.Prelude.{ℕ, ◌≡◌, ⊤, List, [], ◌∷◌, ◌++◌, None, codes, IsUtf8}
use Rattle.std.specs.Fmt.{decimal}
use Rattle.serde_json.specs.Find.{as_array}
use Rattle.serde_json.specs.Read.{read}
use Rattle.scripts.specs.Arguments.{if_some}
use Rattle.machine.specs.declared.act.Reply.{Reply}
use Rattle.machine.specs.declared.act.Step.{Step}
use Rattle.session.specs.declared.request_fault.RequestFault.{RequestFault}
use Rattle.session.specs.declared.request_fault.RequestFault.TheVariants as fault
use Rattle.session.specs.Lines.{HasNoFeed}
use Rattle.session.specs.Requests.{request_in}

-- The line has this fault: it isn't UTF-8, isn't JSON, isn't a list, or isn't a request of the grammar. Two faults
-- belong to no line: a line that is too long isn't read, and a lack of memory is no fault of a line.
abbrev pub IsFaultOf : RequestFault → List ℕ → Type 0
IsFaultOf fault.NotUtf8 line = ¬ (IsUtf8 line)
IsFaultOf (fault.NotJson cause) line = read line ≡ None
IsFaultOf fault.NotAList line = if_some (read line) as_array ≡ None
IsFaultOf (fault.Long most) line = ⊥
IsFaultOf (fault.Memory cause) line = ⊥
IsFaultOf why line = request_in line ≡ None

-- the first words of the text for a fault
abbrev pub cause_words : RequestFault → List ℕ
cause_words (fault.Long most) = codes "it has more than " ++ decimal most ++ codes " bytes"
cause_words fault.NotUtf8 = codes "it isn't UTF-8"
cause_words (fault.NotJson cause) = codes "it isn't JSON: "
cause_words fault.NotAList = codes "it isn't a list"
cause_words fault.Empty = codes "the list is empty"
cause_words (fault.Step cause) = codes "it isn't a request: "
cause_words (fault.Steps number found cause) = codes "step " ++ decimal number ++ codes ", "
cause_words (fault.Bytes most) =
    codes "the bytes aren't two hexadecimal digits for each of at most " ++ decimal most ++ codes " bytes"
cause_words (fault.Memory cause) = codes "out of memory"

-- A bad line is answered with the words for its fault, and a detail without a line feed. No step is made.
abbrev pub IsBad : RequestFault → List ℕ → List Step → List Reply → Type 0
IsBad why answer steps replies =
    (detail : List ℕ) × HasNoFeed detail × (answer ≡ codes "badline " ++ cause_words why ++ detail)
    × (steps ≡ []) × (replies ≡ [])
