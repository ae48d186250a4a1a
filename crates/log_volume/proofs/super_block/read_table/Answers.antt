use Rattle.log_volume.specs.Super.{table_of}
use Rattle.log_volume.proofs.Spelled.{says_table, not_refused}
use Rattle.log_volume.proofs.super_block.read_table.Goals as goal

pub returns-in-Ok-clause-ok : goal.returns-in-Ok-clause-ok
returns-in-Ok-clause-ok g c = λ v is counted.
    c.one_reading.ensures.tables c.in-Ok.table (table_of v) c.as_table.result c.in-Ok.ensures.ok
    (says_table v c.args.block.now c.as_table.result c.args.blocks is counted c.as_table.ensures)

pub returns-in-Err-clause-refused : goal.returns-in-Err-clause-refused
returns-in-Err-clause-refused g c = λ other v is counted.
    let says = says_table v c.args.block.now c.as_table.result c.args.blocks is counted c.as_table.ensures in
    other (c.damage_of.ensures.memory (not_refused v c.as_table.result _ says c.in-Err.ensures.refused))
