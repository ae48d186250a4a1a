-- The exit status of the program if its command line is refused.
use Rattle.std.specs.Prelude.{ℕ}
use Rattle.command_line.specs.declared.word_fault.WordFault.{WordFault}
use Rattle.command_line.specs.declared.word_fault.WordFault.TheVariants.{CommandLine, Layout, Slots, FileSpec}
use Rattle.command_line.specs.declared.word_fault.WordFault.TheVariants.{Missing, Blocks, Key, OtherLayout, Memory}

-- 2 for words that are malformed, and 3 for a lack of memory
abbrev pub word_status : WordFault → ℕ
word_status (CommandLine text) = 2
word_status (Layout word) = 2
word_status (Slots word) = 2
word_status (FileSpec word) = 2
word_status (Missing words) = 2
word_status (Blocks word) = 2
word_status (Key word) = 2
word_status (OtherLayout option layouts found) = 2
word_status (Memory cause) = 3
