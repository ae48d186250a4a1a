-- Cutting a word at the last of a character.
use Rattle.std.proofs.Common.{ℕ, List, ◌++◌, take, drop, Option, Some, None, MatchOption, Bor, sym, ap, ◌∙◌, ◌<◌}
use Rattle.std.proofs.lemmas.List.{take-append-drop}
use Rattle.std.proofs.lemmas.Str.Pattern.{NoCharPasses-char, drop_at_char}
use Rattle.std.specs.Str.Pattern.{RFindsChar, SplitsAroundMatch}
use Rattle.command_line.specs.Words.{Lacks, IsLastCut}

-- what `rsplit_once` gives at an ASCII character
pub last_cut : (c : ℕ) (word : List ℕ) (r : Option (Bor (List ℕ) × Bor (List ℕ))) → c < 128
    → MatchOption r (RFindsChar c word None) (λ x. SplitsAroundMatch (RFindsChar c) word x.0.now x.1.now)
    → MatchOption r (Lacks c word) (λ x. IsLastCut c word x.0.now x.1.now)
last_cut c word None small h = λ i below. NoCharPasses-char c word i h small below
last_cut c word (Some x) small h =
    rw (h.3, h.4) (record {
      whole = sym (take-append-drop h.0 word)
          ∙ ap (λ rest. take h.0 word ++ rest) (drop_at_char c word h.0 h.1 h.2.1 small);
      last = λ i below. NoCharPasses-char c (drop h.1 word) i h.2.0 small below;
    })
