-- The copy of a disk that the code keeps while the calls of a run are made.
use Rattle.crash_states.specs.declared.choice.Contents.{Contents}
use Rattle.crash_states.specs.Choices.{Content}

abbrev pub content_of : {A : Type 0} → Contents A → Content
content_of contents = record {
  synced = contents.synced.items;
  seen = contents.seen.items;
  unsynced = contents.unsynced.items;
}
