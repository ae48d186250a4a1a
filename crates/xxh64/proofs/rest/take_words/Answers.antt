use Rattle.std.proofs.Common.{◌≡◌, ap, sym, ◌∙◌, arith, refl, add-one}
use Rattle.xxh64.specs.Xxh64.{words_after, with_word}
use Rattle.xxh64.proofs.rest.take_words.Goals as goal

pub words-init : goal.words-init
unfolding words_after
words-init c = refl

pub words-preserved : goal.words-preserved
unfolding words_after
words-preserved c = rw (add-one, c.with_word-acc.ensures, c.word_at.ensures, c.words.invariant) refl

pub returns : goal.returns
returns c = c.words.invariant ∙ ap (words_after c.args.acc c.args.rest.now) (omega arith)
