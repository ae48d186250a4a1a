use Rattle.std.proofs.Common.{◌≡◌}
use Rattle.xxh64.specs.Xxh64.{words_after}
use Rattle.xxh64.proofs.rest.take_words.Given as goal

abbrev pub invariant-words : goal.invariant-words
invariant-words l = l.acc ≡ words_after l.fn.acc l.rest l.i
