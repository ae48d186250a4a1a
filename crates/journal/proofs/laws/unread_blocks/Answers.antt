use Rattle.journal.proofs.Changes.{same_but_torn}
use Rattle.journal.proofs.Recovering.{agrees_recovers, unread_agrees, unread_record, unread_descriptor, unread_home}
use Rattle.journal.proofs.laws.unread_blocks.Goals as goal

pub returns : goal.returns
returns c = record {
  kept = λ v opened contents c torn block n r unread le is. agrees_recovers v opened contents c torn r
      (unread_agrees v opened c torn block unread (same_but_torn block n c torn le is));
  record_slot = unread_record;
  descriptor = unread_descriptor;
  home = unread_home;
}
