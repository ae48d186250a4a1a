use Rattle.std.proofs.Common.{◌≡◌, ◌⊎◌, ℕ, List, subst, ◌∙◌}
use Rattle.page_entry.specs.declared.refusal.Refusal.TheVariants.{Device}
use Rattle.volume_codec.specs.Super.{SuperValue}
use Rattle.volume_codec.specs.Lengths.{IsLengths}
use Rattle.volume_codec.specs.Refusals.{RefusesLengths}
use Rattle.log_codec.specs.Log.{LogValue, first_log_home}
use Rattle.log_codec.specs.Chain.{contents_of_log}
use Rattle.log_volume.specs.Super.{table_of, log_of}
use Rattle.log_recovery.specs.Reading.{HoldsFound, chain_of}
use Rattle.log_opening.specs.Opening.{RefusesLogOpening}
use Rattle.log_opening.specs.inside.Keeping.{IsLookedAt}
use Rattle.log_opening.proofs.Volumes.{refuses_look, refuses_lengths, looked_still, found_recovers, lengths_home}
use Rattle.log_opening.proofs.volume.find_volume.Goals as goal

pub returns-in-Err-look-clause-refused : goal.returns-in-Err-look-clause-refused
returns-in-Err-look-clause-refused g c = λ honest.
    let bytes = g.D.Device.seen c.args.device.now in
    let table = c.in-Ok.table in
    let read = c.read_first.ensures.read in
    let e = c.in-Err-look.refusal in
    let P : LogValue → Type 0 = λ l. RefusesLogOpening l (g.D.Device.seen c.read_first.new.device) e in
    let Q : List ℕ → Type 0 = λ l. RefusesLogOpening (log_of table) l e in
    refuses_look bytes table (c.in-Ok.ensures.ok honest) c.one_log_super.ensures.one c.one_log_super.ensures.magic e
    (subst Q read.same (subst P c.log-log.ensures.value (c.in-Err-look.ensures.refused (read.honest.1 honest))))

pub returns-in-Err-find_lengths-clause-refused : goal.returns-in-Err-find_lengths-clause-refused
returns-in-Err-find_lengths-clause-refused g c = λ honest.
    let bytes = g.D.Device.seen c.args.device.now in
    let table = c.in-Ok.table in
    let found = c.in-Ok-look.looked.found in
    let chain = chain_of found.commits.items in
    let read = c.read_first.ensures.read in
    let first = read.honest.1 honest in
    let looked = c.in-Ok-look.ensures.looked first in
    let same : g.D.Device.seen c.look.new.device ≡ bytes = c.look.ensures.unwritten.same first ∙ read.same in
    let e = c.in-Err-find_lengths.refusal in
    let log = c.log-log.ensures.value in
    let H : LogValue → Type 0 = λ l. HoldsFound l found (g.D.Device.seen c.look.new.device) in
    let holds : HoldsFound (log_of table) found bytes =
    subst (λ (l : List ℕ). HoldsFound (log_of table) found l) same (subst H log looked.holds) in
    let G : LogValue → Type 0 = λ l. (e ≡ Device) ⊎ RefusesLengths c.table-2.result.now
    (contents_of_log l found.start.position chain (g.D.Device.seen c.look.new.device) (first_log_home l.ring)) e in
    let T : SuperValue → Type 0 = λ t. (e ≡ Device) ⊎ RefusesLengths t
    (contents_of_log (log_of table) found.start.position chain (g.D.Device.seen c.look.new.device)
    (first_log_home table.ring)) e in
    let B : List ℕ → Type 0 = λ l. (e ≡ Device) ⊎ RefusesLengths (table_of table)
    (contents_of_log (log_of table) found.start.position chain l (first_log_home table.ring)) e in
    let contents = contents_of_log (log_of table) found.start.position chain bytes in
    let recovers = found_recovers (log_of table) found bytes holds in
    refuses_lengths bytes table (c.in-Ok.ensures.ok honest) c.one_log_super.ensures.one c.one_log_super.ensures.magic
    contents recovers
    (λ others other. c.one_log.ensures.contents (log_of table) contents others bytes (first_log_home table.ring)
    c.log-log.ensures.log recovers other (lengths_home table c.log-log.ensures.log)) e
    (subst B same (subst T c.table-2.ensures (subst G log
    (c.in-Err-find_lengths.ensures.refused (c.look.ensures.counted.honest.1 first)))))

pub returns-clause-found : goal.returns-clause-found
returns-clause-found g c = λ honest.
    let bytes = g.D.Device.seen c.args.device.now in
    let table = c.in-Ok.table in
    let found = c.in-Ok-look.looked.found in
    let chain = chain_of found.commits.items in
    let read = c.read_first.ensures.read in
    let first = read.honest.1 honest in
    let same : g.D.Device.seen c.look.new.device ≡ bytes = c.look.ensures.unwritten.same first ∙ read.same in
    let log = c.log-log.ensures.value in
    let lengths = c.in-Ok-find_lengths.lengths.items in
    let L : LogValue → Type 0 =
    λ l. IsLookedAt g.D.Device l found c.in-Ok-look.looked.next c.find_lengths.new.device in
    let G : LogValue → Type 0 = λ l. IsLengths c.table-2.result.now lengths
    (contents_of_log l found.start.position chain (g.D.Device.seen c.look.new.device) (first_log_home l.ring)) in
    let T : SuperValue → Type 0 = λ t. IsLengths t lengths
    (contents_of_log (log_of table) found.start.position chain (g.D.Device.seen c.look.new.device)
    (first_log_home table.ring)) in
    let B : List ℕ → Type 0 = λ l. IsLengths (table_of table) lengths
    (contents_of_log (log_of table) found.start.position chain l (first_log_home table.ring)) in
    record {
      super_block = c.in-Ok.ensures.ok honest;
      looked = subst L log (looked_still g.D.Device c.log-log.result found c.in-Ok-look.looked.next c.look.new.device
          c.find_lengths.new.device (c.in-Ok-look.ensures.looked first) c.find_lengths.ensures.read);
      lengths_are = subst B same (subst T c.table-2.ensures (subst G log
          (c.in-Ok-find_lengths.ensures.ok (c.look.ensures.counted.honest.1 first))));
    }
