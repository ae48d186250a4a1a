-- The state that contracts see, from the private fields.
use Rattle.log_files.specs.State.{LogFilesState}
use Rattle.log_files.specs.declared.files.LogFiles.TheInside.{Inside}

abbrev pub files_state_of : {D A : Type 0} → Inside D A → LogFilesState D
files_state_of p = record {
  table = p.table;
  lengths = p.lengths.items;
  most = p.most;
  marks = p.marks;
  pager = p.pager;
}
