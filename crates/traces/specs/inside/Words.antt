-- The arguments of a step as values.
use Rattle.serde_json.specs.Data.{Data, string}
use Rattle.traces.specs.declared.word.Word.{Word}
use Rattle.traces.specs.declared.word.Word.TheVariants.{Byte, Short, Page, Long, Text}
use Rattle.traces.specs.inside.Written.{num}

-- a number or a word
abbrev pub data_of : Word → Data
data_of (Byte n) = num n
data_of (Short n) = num n
data_of (Page n) = num n
data_of (Long n) = num n
data_of (Text text) = string text.now
