use Rattle.std.proofs.Common.{ap, arith}
use Rattle.volume_codec.specs.Super.{pages_of, super_head, capacities_in}
use Rattle.volume_codec.proofs.Rows.{index_by_get}
use Rattle.volume_codec.proofs.Places.{name_short, pages_of-le}
use Rattle.volume_codec.proofs.Spelling.{entry_written}
use Rattle.volume_codec.proofs.super_block.Super.to_block.Goals as goal

pub push_entry-requires-clause-room : goal.push_entry-requires-clause-room
push_entry-requires-clause-room g c = omega (arith, c.loop-file.invariant.len, c.file_count.ensures.fits.few_files)

pub push_entry-requires-clause-short : goal.push_entry-requires-clause-short
push_entry-requires-clause-short g c =
    name_short c.args.self.now.files c.loop-file.file _ c.file_count.ensures.fits.each c.name.ensures

pub push_entry-requires-clause-pages : goal.push_entry-requires-clause-pages
push_entry-requires-clause-pages g c =
    let e = ap pages_of
    (index_by_get (capacities_in c.args.self.now) c.loop-file.file c.capacity.result c.capacity.ensures) in
    omega (arith, pages_of-le c.args.self.now c.loop-file.file (omega arith), c.file_count.ensures.fits.few_blocks)

pub loop-file-preserved : goal.loop-file-preserved
loop-file-preserved g c = record {
  written = entry_written c.args.self.now (super_head c.args.self.now) _ _ _ c.loop-file.file _ _ (omega arith)
      c.name.ensures c.capacity.ensures c.first_home.ensures c.loop-file.invariant.written c.push_entry.ensures.value;
  len = omega (arith, c.loop-file.invariant.len, c.push_entry.ensures.len);
}
