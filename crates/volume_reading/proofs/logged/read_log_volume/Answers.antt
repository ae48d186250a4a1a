use Rattle.std.proofs.Common.{◌≡◌, ◌⊎◌, ℕ, List, subst, ◌∙◌}
use Rattle.page_entry.specs.declared.refusal.Refusal.TheVariants.{Device}
use Rattle.volume_codec.specs.Super.{SuperValue}
use Rattle.volume_codec.specs.Lengths.{AreLengths, IsLengths}
use Rattle.volume_codec.specs.Refusals.{RefusesLengths}
use Rattle.log_codec.specs.Log.{LogValue, first_log_home}
use Rattle.log_codec.specs.Chain.{contents_of_log}
use Rattle.log_volume.specs.Super.{table_of, log_of}
use Rattle.log_recovery.specs.Reading.{HoldsFound, RefusesLog, chain_of}
use Rattle.log_opening.proofs.Public.{found_recovers, lengths_home}
use Rattle.volume_reading.proofs.Read.{recovers_to, by_log, by_lengths}
use Rattle.volume_reading.proofs.logged.read_log_volume.Goals as goal

pub returns-in-Err-read_log-clause-refused : goal.returns-in-Err-read_log-clause-refused
returns-in-Err-read_log-clause-refused g c = λ honest.
    let bytes = g.D.Device.seen c.args.device.now in
    let table = c.in-Ok.table in
    let read = c.read_first.ensures.read in
    let e = c.in-Err-read_log.refusal in
    let P : LogValue → Type 0 = λ l. RefusesLog l (g.D.Device.seen c.read_first.new.device) e in
    let Q : List ℕ → Type 0 = λ l. RefusesLog (log_of table) l e in
    by_log bytes table (c.in-Ok.ensures.ok honest) c.one_log_super.ensures.one c.one_log_super.ensures.magic e
    (subst Q read.same (subst P c.log-geometry.ensures.value
    (c.in-Err-read_log.ensures.refused (read.honest.1 honest))))

pub returns-in-Err-find_lengths-clause-refused : goal.returns-in-Err-find_lengths-clause-refused
returns-in-Err-find_lengths-clause-refused g c = λ honest.
    let bytes = g.D.Device.seen c.args.device.now in
    let table = c.in-Ok.table in
    let found = c.in-Ok-read_log.log in
    let chain = chain_of found.commits.items in
    let read = c.read_first.ensures.read in
    let first = read.honest.1 honest in
    let same : g.D.Device.seen c.read_log.new.device ≡ bytes = c.read_log.ensures.read.same ∙ read.same in
    let e = c.in-Err-find_lengths.refusal in
    let log = c.log-geometry.ensures.value in
    let H : LogValue → Type 0 = λ l. HoldsFound l found (g.D.Device.seen c.read_first.new.device) in
    let holds : HoldsFound (log_of table) found bytes = subst (λ (l : List ℕ). HoldsFound (log_of table) found l)
    read.same (subst H log (c.in-Ok-read_log.ensures.holds first)) in
    let G : LogValue → Type 0 = λ l. (e ≡ Device) ⊎ RefusesLengths c.table-2.result.now
    (contents_of_log l found.start.position chain (g.D.Device.seen c.read_log.new.device) (first_log_home l.ring)) e in
    let T : SuperValue → Type 0 = λ t. (e ≡ Device) ⊎ RefusesLengths t
    (contents_of_log (log_of table) found.start.position chain (g.D.Device.seen c.read_log.new.device)
    (first_log_home table.ring)) e in
    let B : List ℕ → Type 0 = λ l. (e ≡ Device) ⊎ RefusesLengths (table_of table)
    (contents_of_log (log_of table) found.start.position chain l (first_log_home table.ring)) e in
    let contents = contents_of_log (log_of table) found.start.position chain bytes in
    let recovers = found_recovers (log_of table) found bytes holds in
    by_lengths bytes table (c.in-Ok.ensures.ok honest) c.one_log_super.ensures.one c.one_log_super.ensures.magic
    contents recovers
    (λ others other. c.one_log.ensures.contents (log_of table) contents others bytes (first_log_home table.ring)
    c.log-geometry.ensures.log recovers other (lengths_home table c.log-geometry.ensures.log)) e
    (subst B same (subst T c.table-2.ensures (subst G log
    (c.in-Err-find_lengths.ensures.refused (c.read_log.ensures.read.honest.1 first)))))

pub returns-clause-found : goal.returns-clause-found
returns-clause-found g c = λ honest.
    let bytes = g.D.Device.seen c.args.device.now in
    let table = c.in-Ok.table in
    let found = c.in-Ok-read_log.log in
    let chain = chain_of found.commits.items in
    let read = c.read_first.ensures.read in
    let first = read.honest.1 honest in
    let same : g.D.Device.seen c.read_log.new.device ≡ bytes = c.read_log.ensures.read.same ∙ read.same in
    let log = c.log-geometry.ensures.value in
    let lengths = c.in-Ok-find_lengths.lengths.items in
    let H : LogValue → Type 0 = λ l. HoldsFound l found (g.D.Device.seen c.read_first.new.device) in
    let holds : HoldsFound (log_of table) found bytes = subst (λ (l : List ℕ). HoldsFound (log_of table) found l)
    read.same (subst H log (c.in-Ok-read_log.ensures.holds first)) in
    let G : LogValue → Type 0 = λ l. IsLengths c.table-2.result.now lengths
    (contents_of_log l found.start.position chain (g.D.Device.seen c.read_log.new.device) (first_log_home l.ring)) in
    let T : SuperValue → Type 0 = λ t. IsLengths t lengths
    (contents_of_log (log_of table) found.start.position chain (g.D.Device.seen c.read_log.new.device)
    (first_log_home table.ring)) in
    let B : List ℕ → Type 0 = λ l. IsLengths (table_of table) lengths
    (contents_of_log (log_of table) found.start.position chain l (first_log_home table.ring)) in
    let are = subst B same (subst T c.table-2.ensures (subst G log
    (c.in-Ok-find_lengths.ensures.ok (c.read_log.ensures.read.honest.1 first)))) in
    record {
      super_block = c.in-Ok.ensures.ok honest;
      log = holds;
      lengths_are = are;
      recovers = recovers_to table bytes (contents_of_log (log_of table) found.start.position chain bytes) lengths
          (c.in-Ok.ensures.ok honest) (found_recovers (log_of table) found bytes holds) are;
    }

pub returns-clause-count : goal.returns-clause-count
returns-clause-count g c =
    let P : SuperValue → Type 0 = λ t. AreLengths t c.in-Ok-find_lengths.lengths.items in
    (subst P c.table-2.ensures c.in-Ok-find_lengths.ensures.fit).count

pub returns-clause-lengths : goal.returns-clause-lengths
returns-clause-lengths g c =
    let P : SuperValue → Type 0 = λ t. AreLengths t c.in-Ok-find_lengths.lengths.items in
    subst P c.table-2.ensures c.in-Ok-find_lengths.ensures.fit
