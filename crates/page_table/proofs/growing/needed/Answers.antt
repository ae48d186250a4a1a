use Rattle.std.proofs.Common.{◌≤◌, ◌+◌, ◌-◌, ◌/◌, ◌^◌, arith}
use Rattle.page_table.proofs.Links.{missing-most}
use Rattle.page_table.proofs.growing.needed.Goals as goal

pub overflow_add-result : goal.overflow_add-result
overflow_add-result c =
    let ws = c.args.words.now in let start = c.args.start in let last = c.args.end - 1 in
    record {
      fits = omega (
        arith,
        c.missing.ensures,
        c.missing-2.ensures,
        missing-most ws 1 (start / 2 ^ 27) (last / 2 ^ 27 + 1 - start / 2 ^ 27),
        missing-most ws 2 (start / 2 ^ 18) (last / 2 ^ 18 + 1 - start / 2 ^ 18),
        c.requires.small,
      );
    }

most : (c : goal.After-missing-3) → c.missing.result + c.missing-2.result + c.missing-3.result ≤ 2 ^ 29
most c =
    let ws = c.args.words.now in let start = c.args.start in let last = c.args.end - 1 in
    omega (
      arith,
      c.missing.ensures,
      c.missing-2.ensures,
      c.missing-3.ensures,
      missing-most ws 1 (start / 2 ^ 27) (last / 2 ^ 27 + 1 - start / 2 ^ 27),
      missing-most ws 2 (start / 2 ^ 18) (last / 2 ^ 18 + 1 - start / 2 ^ 18),
      missing-most ws 3 (start / 512) (last / 512 + 1 - start / 512),
      c.requires.small,
    )

pub overflow_add-result-2 : goal.overflow_add-result-2
overflow_add-result-2 c = record { fits = let few = most c in omega arith }

pub returns-clause-few : goal.returns-clause-few
returns-clause-few c = most c
