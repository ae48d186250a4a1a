-- The text as which each reply is printed.
use Rattle.std.specs.Prelude.{ℕ, List, ◌∷◌, ◌++◌, codes}
use Rattle.std.specs.List.{flat_map}
use Rattle.std.specs.Fmt.{decimal}
use Rattle.page_entry.specs.Refusal.{words_of}
use Rattle.machine.specs.declared.act.Reply.{Reply}
use Rattle.machine.specs.declared.act.Reply.TheVariants.{Bytes, Stored, Filled, Evicted, Switched, Idled, Woken}
use Rattle.machine.specs.declared.act.Reply.TheVariants.{Fixed, Space, Destroyed, Mapped, Begun, Fine, Unmapped}
use Rattle.machine.specs.declared.act.Reply.TheVariants.{Protected, Resized, Reclaimed, Kept, Marked, Acked}
use Rattle.machine.specs.declared.act.Reply.TheVariants.{Resumed, Going, Committed, Done, Nothing, Refused}

-- The numbers in decimal digits, each after one space.
abbrev pub numbers_text : List ℕ → List ℕ
numbers_text numbers = flat_map (λ n. 32 ∷ decimal n) numbers

-- The word in lower case, followed by its bytes or its number in decimal digits, each after one space. A refusal has
-- its own words.
abbrev pub reply_text : Reply → List ℕ
reply_text (Bytes bytes) = codes "bytes" ++ numbers_text bytes
reply_text Stored = codes "stored"
reply_text Filled = codes "filled"
reply_text Evicted = codes "evicted"
reply_text Switched = codes "switched"
reply_text Idled = codes "idled"
reply_text Woken = codes "woken"
reply_text Fixed = codes "fixed"
reply_text (Space space) = codes "space " ++ decimal space
reply_text Destroyed = codes "destroyed"
reply_text Mapped = codes "mapped"
reply_text Begun = codes "begun"
reply_text Fine = codes "fine"
reply_text Unmapped = codes "unmapped"
reply_text Protected = codes "protected"
reply_text Resized = codes "resized"
reply_text Reclaimed = codes "reclaimed"
reply_text Kept = codes "kept"
reply_text (Marked mark) = codes "marked " ++ decimal mark
reply_text Acked = codes "acked"
reply_text Resumed = codes "resumed"
reply_text Going = codes "going"
reply_text (Committed mark) = codes "committed " ++ decimal mark
reply_text (Done mark) = codes "done " ++ decimal mark
reply_text Nothing = codes "nothing"
reply_text (Refused refusal) = words_of refusal
