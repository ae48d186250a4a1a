-- The state of a pager with these fields, as contracts name it.
use Rattle.pager.specs.State.{PagerState}
use Rattle.pager.specs.declared.pager.Pager.TheInside.{Inside}

abbrev pub state_of : {D A : Type 0} → Inside D A → PagerState D
state_of p = record {
  table = p.table;
  lengths = p.lengths.items;
  most = p.most;
  staged = p.staged;
  write_outs = p.write_outs;
  records = p.records.items;
  marks = p.marks;
  device = p.device;
}
