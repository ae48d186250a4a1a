-- A replay of a trace: its verdict, and the listener that compares the replies.
use Rattle.std.specs.Prelude.{ℕ, ◌≡◌, ◌≢◌, ◌⊎◌, ◌+◌, Bool, true, false, List, [], ◌∷◌, ◌++◌, length, map, take}
use Rattle.std.specs.Prelude.{slice_get, string_bytes, Option, Some, None}
use Rattle.std.specs.Str.{bytes_eq}
use Rattle.machine.specs.declared.act.Reply.{Reply}
use Rattle.machine.specs.Words.{reply_text}
use Rattle.traces.specs.declared.line.Line.{Line}
use Rattle.commands.specs.declared.replaying.Comparer.{Comparer}
use Rattle.commands.specs.declared.replaying.Verdict.{Verdict}
use Rattle.commands.specs.declared.replaying.Verdict.TheVariants.{Same, Differs}

-- the texts of the replies in a trace's entries
abbrev pub texts_of : List Line → List (List ℕ)
texts_of entries = map (λ line. string_bytes line.reply) entries

-- The reply to the entry with this number, counted from 1, has another text. All replies before it have the texts of
-- their entries.
pub record DiffersAt (texts : List (List ℕ)) (replies : List Reply) (number : ℕ) : Type 0 where
  pub earlier : List Reply
  pub last : Reply
  pub split : replies ≡ earlier ++ last ∷ []
  pub counted : number ≡ length earlier + 1
  pub same : map reply_text earlier ≡ take (length earlier) texts
  pub other : slice_get texts (length earlier) ≢ Some (reply_text last)

-- This is the verdict on the texts of a trace and the replies of a run of its steps.
abbrev pub IsVerdict : List (List ℕ) → List Reply → Verdict → Type 0
IsVerdict texts replies (Same count) = (map reply_text replies ≡ texts) × (count ≡ length texts)
IsVerdict texts replies (Differs number) = DiffersAt texts replies number

-- the verdict of a comparer at the end, or none if memory was refused
abbrev pub verdict_by : Bool → Bool → ℕ → Option Verdict
verdict_by true differs same = None
verdict_by false true same = Some (Differs (same + 1))
verdict_by false false same = Some (Same same)

-- whether there is an entry, and it has this text
abbrev pub is_text : Option Line → List ℕ → Bool
is_text None text = false
is_text (Some line) text = bytes_eq (string_bytes line.reply) text

-- The reply has the text of the next entry.
pub record IsFound (old : Comparer) (reply : Reply) (new : Comparer) : Type 0 where
  pub entries : new.entries.now ≡ old.entries.now
  pub text : is_text (slice_get old.entries.now old.same) (reply_text reply) ≡ true
  pub same : new.same ≡ old.same + 1
  pub differs : new.differs ≡ old.differs
  pub refused : new.refused ≡ old.refused

-- The reply doesn't have the text of the next entry, or memory was refused.
pub record IsStopped (old : Comparer) (reply : Reply) (new : Comparer) : Type 0 where
  pub entries : new.entries.now ≡ old.entries.now
  pub same : new.same ≡ old.same
  pub cause : ((new.differs ≡ true) × (is_text (slice_get old.entries.now old.same) (reply_text reply) ≡ false))
      ⊎ (new.refused ≡ true)

-- A comparer received a reply. `true`: the next entry has the reply's text, and the comparer continues. `false`: it
-- stops.
abbrev pub Compares : Comparer → Reply → Bool → Comparer → Type 0
Compares old reply true new = IsFound old reply new
Compares old reply false new = IsStopped old reply new
