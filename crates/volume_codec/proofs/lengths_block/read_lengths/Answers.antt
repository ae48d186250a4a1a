use Rattle.std.proofs.Common.{List, ℕ, true≢false, sym, ap, subst, ◌∙◌, length}
use Rattle.volume_codec.specs.Lengths.{AreLengths, lengths_text}
use Rattle.volume_codec.proofs.Lengths.{found_lengths}
use Rattle.volume_codec.proofs.ReadingLemmas.{length-numbers_in, other_by_ne}
use Rattle.volume_codec.proofs.lengths_block.read_lengths.Goals as goal

pub are_within-requires : goal.are_within-requires
are_within-requires g c = ap length (c.deref.ensures.value ∙ c.in_ok-lengths.ensures)
    ∙ length-numbers_in 8 c.file_count.result c.args.block.now ∙ c.file_count.ensures.value

pub returns-then-not-are_within-clause-refused : goal.returns-then-not-are_within-clause-refused
returns-then-not-are_within-clause-refused g c = λ lengths is.
    let v = c.args.table.now in
    let same = found_lengths v c.deref.result.now lengths c.args.block.now c.file_count.result c.file_count.ensures.fits
    (c.deref.ensures.value ∙ c.in_ok-lengths.ensures) c.file_count.ensures.value is in
    let P : List ℕ → Type 0 = λ l. AreLengths v l in
    let within = c.are_within.ensures.1 (subst P (sym same) is.are) in
    true≢false (sym within ∙ c.if-not-are_within.true)

pub returns-then-ne-clause-refused : goal.returns-then-ne-clause-refused
returns-then-ne-clause-refused g c = λ lengths is.
    let v = c.args.table.now in
    let same = found_lengths v c.deref-2.result.now lengths c.args.block.now c.file_count.result
    c.file_count.ensures.fits (c.deref-2.ensures.value ∙ c.in_ok-lengths.ensures) c.file_count.ensures.value is in
    other_by_ne _ _ _ c.ne.ensures c.if-ne.true (c.write_lengths.ensures ∙ ap lengths_text same ∙ sym is.spelled)
