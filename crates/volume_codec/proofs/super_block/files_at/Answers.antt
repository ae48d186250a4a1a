use Rattle.std.proofs.Common.{List, sym, subst, ◌∙◌, arith}
use Rattle.std.proofs.lemmas.List.{take_rest, take_more_set, length-set}
use Rattle.volume_codec.specs.inside.Tables.{AreFull}
use Rattle.volume_codec.specs.declared.file_spec.FileSpec.{FileSpec}
use Rattle.volume_codec.proofs.ReadingLemmas.{found_more, full_push}
use Rattle.volume_codec.proofs.super_block.files_at.Goals as goal

pub loop-i-preserved : goal.loop-i-preserved
loop-i-preserved c =
    let new = take_more_set c.loop-i.files c.loop-i.i c.file_at.result
    (omega (arith, c.loop-i.invariant.whole, c.requires.few)) in
    let P : List FileSpec → Type 0 = λ fs. AreFull fs in
    record {
      found = found_more _ _ c.file_at.result c.args.count c.loop-i.i c.args.entries.now _
          (omega arith) c.loop-i.invariant.found
          (take_rest c.args.entries.now _) c.file_at.ensures.name c.file_at.ensures.capacity new;
      full = subst P (sym new) (full_push _ _ c.loop-i.invariant.full c.file_at.ensures.full);
      whole = length-set c.loop-i.files c.loop-i.i c.file_at.result ∙ c.loop-i.invariant.whole;
    }
