use Rattle.device.proofs.Public.{leaves_weaker}
use Rattle.kept_blocks.specs.Blocks.{homes_in}
use Rattle.log_commits.specs.Commit.{next_logged}
use Rattle.log_commits.specs.Told.{IsThis}
use Rattle.log_commits.proofs.Public.{tells_by_byte}
use Rattle.log_pager.specs.Pager.{records_put}
use Rattle.log_room.proofs.Made.{commit_end, commit_first, commit_kept, commit_later, commit_log, commit_number}
use Rattle.log_room.proofs.Made.{commit_puts, commit_stays, commit_sure}
use Rattle.log_room.proofs.room.pager_commit.Goals as goal

pub returns : goal.returns
returns g c =
    let disk = g.D.Device in
    let old = c.args.pager.now in
    let new = c.commit.new.self in
    let result = c.commit.result in
    let made = c.commit.ensures in
    let this = next_logged old.store.tail (homes_in old.staged) in
    record {
      leads = record {
        log = commit_log disk old new result made.idle made.noted made.unchanged made.spent;
        len = made.len;
        honest = made.honest;
        later = commit_later disk old new result made.idle made.did made.failed made.unchanged;
        held = λ contents is. leaves_weaker (made.leaves contents is.honest is.over) (λ x left. left.up_to);
        leaves = λ contents is byte. leaves_weaker (made.leaves contents is.honest is.over) (λ x left.
            left.recovers (tells_by_byte (IsThis this (records_put old.staged)) old.store.tail.log
            old.store.tail.number x byte));
        first = λ text has. commit_first disk old new g.met.D.Device.since_now text has result made.idle made.did
            made.failed made.unchanged;
      };
      some = c.requires.some;
      value = made.value;
      kept = commit_kept disk old new result made.kept;
      puts = commit_puts disk old new result made.over;
      number = commit_number disk old new result c.requires.some made.noted;
      sure = commit_sure disk old new result c.requires.some made.sure;
      stays = commit_stays disk old new result made.stays;
      end = commit_end disk old new result made.unchanged;
    }
