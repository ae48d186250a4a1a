use Rattle.std.proofs.Common.{◌≡◌, ◌+◌, refl, arith, rules}
use Rattle.volume_codec.specs.Super.{block_count}
use Rattle.volume_codec.specs.inside.Tables.{table_of}
use Rattle.volume_codec.proofs.TableLemmas.{table_fits, files_have, files_fit, names_fit}
use Rattle.volume_codec.proofs.rules.count_blocks.Goals as goal
use Rattle.volume_codec.proofs.rules.count_blocks.Goals.{then-not-are_files-via-then-not-are_files}
use Rattle.volume_codec.proofs.rules.count_blocks.Goals.{then-not-are_files-via-else-not-are_files+then-not-are_distinct}

pub returns-then-not-are_files-clause-err : goal.returns-then-not-are_files-clause-err
returns-then-not-are_files-clause-err c = (
  refl,
  λ full fits.
      let each = c.are_files.ensures.1 (files_fit _ _ _ full fits) in
      elim c.then-not-are_files.branch [
        | then-not-are_files-via-then-not-are_files w ↦ cc
        | then-not-are_files-via-else-not-are_files+then-not-are_distinct w ↦
            let distinct = w.are_distinct.ensures.1 (names_fit _ _ _ fits) in cc
      ],
)

pub returns-clause-lengths : goal.returns-clause-lengths
returns-clause-lengths c = files_have _ _ (c.are_files.ensures.0 c.if-not-are_files.false)

pub returns-clause-fits : goal.returns-clause-fits
returns-clause-fits c =
    let blocks : c.first_file_home_block.result + c.home_blocks.result
    ≡ block_count (table_of c.args.layout c.args.files.now c.args.slots) =
    omega (arith, c.first_file_home_block.ensures.value, c.home_blocks.ensures.value) in
    table_fits _ _ _ (search (rules)) (omega arith) (c.are_files.ensures.0 c.if-not-are_files.false)
    (c.are_distinct.ensures.0 c.if-not-are_distinct.false)
    (omega arith) (omega arith) (omega (arith, blocks))
