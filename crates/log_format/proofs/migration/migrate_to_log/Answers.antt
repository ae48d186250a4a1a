use Rattle.std.proofs.Common.{◌≡◌, inl, inr, refl, sym, ◌∙◌, ap, subst, arith}
use Rattle.std.specs.Prelude.{is_ok}
use Rattle.std.proofs.lemmas.Result.{MatchResult-weaker}
use Rattle.page_entry.specs.declared.refusal.Refusal.{Refusal}
use Rattle.page_entry.specs.declared.refusal.Refusal.TheVariants.{Device}
use Rattle.volume_codec.specs.Super.{total_pages}
use Rattle.recovery.specs.Migration.{asked_of}
use Rattle.recovery.proofs.Public.{unwritten_none, accounts_then, copied_as, copies_as, kept_none}
use Rattle.log_codec.specs.Log.{LogValue, first_log_file_home}
use Rattle.log_format.specs.Asked.{RefusesLogFormat}
use Rattle.log_format.specs.Formatting.{finishing_works}
use Rattle.log_format.proofs.Begun.{did_all_kept, begun_refused}
use Rattle.log_format.proofs.Filled.{asked_files}
use Rattle.log_format.proofs.Migrated.{copied_crash, copied_others, copied_kept, copied_long, laid_long}
use Rattle.log_format.proofs.Migrated.{final_others, final_crash, final_migrated, laid_stays_honest}
use Rattle.log_format.proofs.migration.migrate_to_log.Goals.{After-first_file_home}
use Rattle.log_format.proofs.migration.migrate_to_log.Goals as goal

-- the new table's files are the volume's, and they lie behind the lengths
new_files : (g : _) (c : After-first_file_home g)
    → (c.first_file_home.result ≡ first_log_file_home c.in-Ok.table.ring)
    × (c.args.old.now.table.files ≡ c.in-Ok.table.files)
new_files g c = (
  c.first_file_home.ensures.value ∙ ap (λ (log : LogValue). first_log_file_home log.ring) c.log.ensures.value,
  sym (asked_files g.D.Device c.args.old.now c.in-Ok.ensures.well_formed c.args.sealing c.args.ring c.in-Ok.table
      c.in-Ok.ensures.laid.shape.asked),
)

pub copy_files-requires : goal.copy_files-requires
copy_files-requires g c =
    let at = new_files g (goal.at.copy_files-requires g c).After-first_file_home in
    let long = laid_long g.E.Device c.args.sealing c.args.ring c.args.old.now c.args.new.now
    c.begin.new.new c.in-Ok.table c.in-Ok.ensures.laid in
    omega (arith, long, at.0, ap total_pages at.1)

pub finish-requires : goal.finish-requires
finish-requires g c =
    let at = new_files g (goal.at.finish-requires g c).After-first_file_home in
    let copies = copies_as at.0 at.1 c.in-Ok-copy_files.ensures.copies in
    let long = copied_long g.D.Device g.E.Device c.args.sealing c.args.ring c.args.old.now c.in-Ok.ensures.well_formed
    c.args.new.now c.begin.new.new c.in-Ok.table c.in-Ok.ensures.laid copies in
    omega (arith, long, c.in-Ok.ensures.laid.shape.asked.fits.log.some_homes)

-- where nothing was copied

pub returns-in-Err-clause-unwritten : goal.returns-in-Err-clause-unwritten
returns-in-Err-clause-unwritten g c =
    λ honest. unwritten_none (λ l since. g.met.D.Device.since_now c.args.old.now.device l since)

pub returns-in-Err-clause-others : goal.returns-in-Err-clause-others
returns-in-Err-clause-others g c = (begun_refused g.D.Device g.E.Device c.args.sealing c.args.ring c.args.old.now
    c.args.new.now (λ l since. g.met.E.Device.since_now c.args.new.now l since) c.in-Err.refusal c.begin.new.new
    c.in-Err.ensures.laid).others

pub returns-in-Err-clause-crash : goal.returns-in-Err-clause-crash
returns-in-Err-clause-crash g c = λ honest blank. (begun_refused g.D.Device g.E.Device c.args.sealing c.args.ring
    c.args.old.now c.args.new.now (λ l since. g.met.E.Device.since_now c.args.new.now l since) c.in-Err.refusal
    c.begin.new.new c.in-Err.ensures.laid).crash

pub returns-in-Err-clause-refused : goal.returns-in-Err-clause-refused
returns-in-Err-clause-refused g c = (begun_refused g.D.Device g.E.Device c.args.sealing c.args.ring c.args.old.now
    c.args.new.now (λ l since. g.met.E.Device.since_now c.args.new.now l since) c.in-Err.refusal c.begin.new.new
    c.in-Err.ensures.laid).refused

pub returns-in-Err-clause-unchanged : goal.returns-in-Err-clause-unchanged
returns-in-Err-clause-unchanged g c =
    let refused = begun_refused g.D.Device g.E.Device c.args.sealing c.args.ring c.args.old.now
    c.args.new.now (λ l since. g.met.E.Device.since_now c.args.new.now l since) c.in-Err.refusal c.begin.new.new
    c.in-Err.ensures.laid in
    elim refused.unchanged [
      | inl fault ↦ inl fault
      | inr same ↦ inr (same, refl)
    ]

pub returns-in-Err-clause-kept : goal.returns-in-Err-clause-kept
returns-in-Err-clause-kept g c = inr (
  kept_none g.D.Device c.args.old.now.device,
  (begun_refused g.D.Device g.E.Device c.args.sealing c.args.ring c.args.old.now
      c.args.new.now (λ l since. g.met.E.Device.since_now c.args.new.now l since) c.in-Err.refusal c.begin.new.new
      c.in-Err.ensures.laid).kept,
)

-- where a file wasn't copied

pub returns-in-Err-copy_files-clause-others : goal.returns-in-Err-copy_files-clause-others
returns-in-Err-copy_files-clause-others g c = λ honest i not.
    let at = new_files g (goal.at.returns-in-Err-copy_files-clause-others g c).After-first_file_home in
    let copies = copies_as at.0 at.1 c.in-Err-copy_files.ensures.copies in
    copied_others g.D.Device g.E.Device c.args.sealing c.args.ring c.args.old.now c.in-Ok.ensures.well_formed
    c.args.new.now c.begin.new.new c.in-Ok.table c.in-Ok.ensures.laid copies honest i
    (not c.in-Ok.table c.in-Ok.ensures.laid.shape.asked)

pub returns-in-Err-copy_files-clause-crash : goal.returns-in-Err-copy_files-clause-crash
returns-in-Err-copy_files-clause-crash g c = λ honest blank.
    let at = new_files g (goal.at.returns-in-Err-copy_files-clause-crash g c).After-first_file_home in
    let copies = copies_as at.0 at.1 c.in-Err-copy_files.ensures.copies in
    copied_crash g.D.Device g.E.Device c.args.sealing c.args.ring c.args.old.now c.in-Ok.ensures.well_formed
    c.args.new.now c.begin.new.new c.in-Ok.table c.in-Ok.ensures.laid copies

pub returns-in-Err-copy_files-clause-refused : goal.returns-in-Err-copy_files-clause-refused
returns-in-Err-copy_files-clause-refused g c =
    let P : Refusal → Type 0 = RefusesLogFormat c.args.sealing (asked_of c.args.old.now) c.args.ring _ in
    subst P (sym c.in-Err-copy_files.ensures.fault) (c.in-Ok.table, c.in-Ok.ensures.laid.shape)

pub returns-in-Err-copy_files-clause-kept : goal.returns-in-Err-copy_files-clause-kept
returns-in-Err-copy_files-clause-kept g c =
    let at = new_files g (goal.at.returns-in-Err-copy_files-clause-kept g c).After-first_file_home in
    let copies = copies_as at.0 at.1 c.in-Err-copy_files.ensures.copies in
    copied_kept g.D.Device g.E.Device c.args.sealing c.args.ring c.args.old.now c.in-Ok.ensures.well_formed
    c.args.new.now c.begin.new.new c.in-Ok.table c.in-Ok.ensures.laid copies

-- where the super block was written, or wasn't

pub returns-clause-others : goal.returns-clause-others
returns-clause-others g c = λ honest i not.
    let at = new_files g (goal.at.returns-clause-others g c).After-first_file_home in
    let copies = copies_as at.0 at.1 c.in-Ok-copy_files.ensures.copies in
    final_others g.D.Device g.E.Device c.args.sealing c.args.ring c.args.old.now c.in-Ok.ensures.well_formed
    c.args.new.now c.begin.new.new c.in-Ok.table c.in-Ok.ensures.laid copies
    c.finish.ensures.whole c.finish.new.device (is_ok c.finish.result) c.finish.ensures.did honest i
    (not c.in-Ok.table c.in-Ok.ensures.laid.shape.asked)

pub returns-clause-crash : goal.returns-clause-crash
returns-clause-crash g c = λ honest blank.
    let at = new_files g (goal.at.returns-clause-crash g c).After-first_file_home in
    let copies = copies_as at.0 at.1 c.in-Ok-copy_files.ensures.copies in
    final_crash g.D.Device g.E.Device c.args.sealing c.args.ring c.args.old.now c.in-Ok.ensures.well_formed
    c.args.new.now c.begin.new.new c.in-Ok.table c.in-Ok.ensures.laid copies
    c.finish.ensures.whole c.finish.new.device (is_ok c.finish.result) c.finish.ensures.did honest blank
    (λ on_volume. copied_as at.0 refl (c.in-Ok-copy_files.ensures.copied on_volume (laid_stays_honest g.E.Device
    c.args.sealing c.args.ring c.args.old.now c.args.new.now c.begin.new.new c.in-Ok.table c.in-Ok.ensures.laid
    honest)))

pub returns-clause-migrated : goal.returns-clause-migrated
returns-clause-migrated g c = λ on_volume honest blank.
    let at = new_files g (goal.at.returns-clause-migrated g c).After-first_file_home in
    let copies = copies_as at.0 at.1 c.in-Ok-copy_files.ensures.copies in
    final_migrated g.D.Device g.E.Device c.args.sealing c.args.ring c.args.old.now c.in-Ok.ensures.well_formed
    c.args.new.now c.begin.new.new c.in-Ok.table c.in-Ok.ensures.laid copies
    c.finish.ensures.whole c.finish.new.device c.finish.result c.finish.ensures.did on_volume honest blank
    (copied_as at.0 refl (c.in-Ok-copy_files.ensures.copied on_volume (laid_stays_honest g.E.Device c.args.sealing
    c.args.ring c.args.old.now c.args.new.now c.begin.new.new c.in-Ok.table c.in-Ok.ensures.laid honest)))

pub returns-clause-refused : goal.returns-clause-refused
returns-clause-refused g c =
    MatchResult-weaker c.finish.result c.finish.ensures.fault (λ x t. t)
    (λ (e : Refusal) (is : e ≡ Device).
    let P : Refusal → Type 0 = RefusesLogFormat c.args.sealing (asked_of c.args.old.now) c.args.ring _ in
    subst P (sym is) (c.in-Ok.table, c.in-Ok.ensures.laid.shape))

pub returns-clause-unchanged : goal.returns-clause-unchanged
returns-clause-unchanged g c =
    MatchResult-weaker c.finish.result c.finish.ensures.fault (λ x t. t) (λ (e : Refusal) (is : e ≡ Device). inl is)

pub returns-clause-kept : goal.returns-clause-kept
returns-clause-kept g c =
    let at = new_files g (goal.at.returns-clause-kept g c).After-first_file_home in
    let copies = copies_as at.0 at.1 c.in-Ok-copy_files.ensures.copies in
    accounts_then (copied_kept g.D.Device g.E.Device c.args.sealing c.args.ring c.args.old.now
    c.in-Ok.ensures.well_formed c.args.new.now c.begin.new.new c.in-Ok.table c.in-Ok.ensures.laid
    copies)
    (inr (
      kept_none g.D.Device c.copy_files.new.old.device,
      did_all_kept g.E.Device (finishing_works c.in-Ok.table) c.finish.result c.copy_files.new.new
          c.finish.new.device c.finish.ensures.fault c.finish.ensures.did,
    ))
