use Rattle.std.proofs.Common.{◌≡◌, inl, inr, Ok, Err, refl, sym, ap, ◌∙◌, subst, arith}
use Rattle.std.proofs.lemmas.Result.{MatchResult-weaker, err_from_is_err_and, on_ok_weaker}
use Rattle.device.specs.Device.{written, Only}
use Rattle.device.proofs.Moments.{leaves_weaker}
use Rattle.device.proofs.Ranges.{torn_after}
use Rattle.page_entry.specs.declared.refusal.Refusal.{Refusal}
use Rattle.page_entry.specs.declared.refusal.Refusal.TheVariants.{Device}
use Rattle.volume_codec.specs.Layout.{GeometryValue, first_file_home}
use Rattle.volume_codec.specs.Super.{SuperValue, super_text, block_count, total_pages}
use Rattle.volume_codec.proofs.TableLemmas.{one_asked}
use Rattle.recovery.specs.Format.{RefusesFormat}
use Rattle.recovery.specs.Migration.{asked_of, AreAccounted}
use Rattle.recovery.proofs.Copied.{unwritten_none, accounts_then, accounts_err, copies_honest}
use Rattle.recovery.proofs.Copied.{copied_as, copies_as}
use Rattle.recovery.proofs.Formatted.{both_ok}
use Rattle.recovery.proofs.Kept.{kept_none, kept_ok, kept_err}
use Rattle.recovery.proofs.Migrated.{migrated, laying_left, time_of_copying}
use Rattle.recovery.proofs.Migrated.{time_of_filling, asked_files}
use Rattle.recovery.proofs.migration.migrate.Goals.{After-first_file_home}
use Rattle.recovery.proofs.migration.migrate.Goals as goal

-- the new table's files are the volume's, and they lie behind its lengths
new_files : (g : _) (c : After-first_file_home g) → let table = c.in_ok-table.table in
    (c.first_file_home.result ≡ first_file_home table.layout table.slots)
    × (c.args.old.now.table.files ≡ table.files)
new_files g c = (
  c.first_file_home.ensures.value
      ∙ ap (λ (v : GeometryValue). first_file_home v.layout v.slots) c.geometry.ensures.value,
  sym (asked_files g.D.Device c.args.old.now c.in_ok-table.ensures.well_formed c.args.layout c.args.slots
      c.in_ok-table.table c.in_ok-table.ensures.ok.asked),
)

pub copy_files-requires : goal.copy_files-requires
copy_files-requires g c =
    let at = new_files g (goal.at.copy_files-requires g c).After-first_file_home in
    let laid = c.in_ok-table.ensures in
    omega (arith, laid.ok.long, laid.kept.len, at.0, ap total_pages at.1)

pub finish-requires-clause-long : goal.finish-requires-clause-long
finish-requires-clause-long g c = omega (
  arith,
  c.in_ok-table.ensures.ok.long,
  c.in_ok-table.ensures.kept.len,
  (copies_honest c.in_ok-copy_files.ensures.copies).2,
)

pub finish-requires-clause-fits : goal.finish-requires-clause-fits
finish-requires-clause-fits g c = c.in_ok-table.ensures.ok.asked.fits

pub returns-in_err-table-clause-unwritten : goal.returns-in_err-table-clause-unwritten
returns-in_err-table-clause-unwritten g c =
    λ honest. unwritten_none (λ l since. g.met.D.Device.since_now c.args.old.now.device l since)

pub returns-in_err-table-clause-past : goal.returns-in_err-table-clause-past
returns-in_err-table-clause-past g c =
    λ honest table i asked le. torn_after (c.in_err-table.ensures.torn honest table asked) i (omega (arith, le))

pub returns-in_err-table-clause-unchanged : goal.returns-in_err-table-clause-unchanged
returns-in_err-table-clause-unchanged g c =
    let p = err_from_is_err_and c.from_residual.result c.from_residual.ensures.1 in
    rw (p.1, p.2) (elim c.in_err-table.ensures.unchanged [
      | inl fault ↦ inl fault
      | inr same ↦ inr (same, refl)
    ])

pub returns-in_err-table-clause-kept : goal.returns-in_err-table-clause-kept
returns-in_err-table-clause-kept g c =
    let p = err_from_is_err_and c.from_residual.result c.from_residual.ensures.1 in
    inr (
      kept_none g.D.Device c.args.old.now.device,
      kept_err c.from_residual.result (p.1 ∙ ap Err p.2) c.in_err-table.ensures.kept,
    )

pub returns-in_err-copy_files-clause-past : goal.returns-in_err-copy_files-clause-past
returns-in_err-copy_files-clause-past g c = λ honest table i asked le.
    let laid = c.in_ok-table.ensures in
    let same = ap (λ (v : SuperValue). block_count v) (one_asked c.args.layout
    (asked_of c.args.old.now) c.args.slots table c.in_ok-table.table asked laid.ok.asked) in
    let at = new_files g (goal.at.returns-in_err-copy_files-clause-past g c).After-first_file_home in
    let copies = copies_as at.0 at.1 c.in_err-copy_files.ensures.copies in
    torn_after (copies.torn (laid.kept.honest.1 honest)) i (omega (arith, le, same))
    ∙ torn_after (laid.torn honest table asked) i (omega (arith, le))

pub returns-in_err-copy_files-clause-refused : goal.returns-in_err-copy_files-clause-refused
returns-in_err-copy_files-clause-refused g c =
    let p = err_from_is_err_and c.from_residual-in_err-copy_files.result c.from_residual-in_err-copy_files.ensures.1 in
    let P : Refusal → Type 0 = RefusesFormat c.args.layout (asked_of c.args.old.now) c.args.slots _ in
    rw (p.1, p.2) (subst P (sym c.in_err-copy_files.ensures.fault) (c.in_ok-table.table, c.in_ok-table.ensures.ok))

pub returns-in_err-copy_files-clause-kept : goal.returns-in_err-copy_files-clause-kept
returns-in_err-copy_files-clause-kept g c =
    let p = err_from_is_err_and c.from_residual-in_err-copy_files.result c.from_residual-in_err-copy_files.ensures.1 in
    let first : AreAccounted {X = Unit {0}} g.D.Device g.E.Device c.args.old.now.device c.args.new.now
    (Ok tt) c.args.old.now.device c.begin.new.new =
    inr (kept_none g.D.Device c.args.old.now.device, kept_ok tt c.in_ok-table.ensures.kept) in
    accounts_err {X = Unit {0}} c.from_residual-in_err-copy_files.result (p.1 ∙ ap Err p.2)
    (accounts_then first c.in_err-copy_files.ensures.copies.accounts)

pub returns-clause-past : goal.returns-clause-past
returns-clause-past g c = λ honest table i asked le.
    let laid = c.in_ok-table.ensures in
    let at = new_files g (goal.at.returns-clause-past g c).After-first_file_home in
    let copies = copies_as at.0 at.1 c.in_ok-copy_files.ensures.copies in
    let honest_1 = laid.kept.honest.1 honest in
    let same = ap (λ (v : SuperValue). block_count v) (one_asked c.args.layout
    (asked_of c.args.old.now) c.args.slots table c.in_ok-table.table asked laid.ok.asked) in
    torn_after (c.finish.ensures.finishes.torn ((copies_honest copies).1 honest_1)) i (omega (arith, le))
    ∙ torn_after (copies.torn honest_1) i (omega (arith, le, same))
    ∙ torn_after (laid.torn honest table asked) i (omega (arith, le))

pub returns-clause-refused : goal.returns-clause-refused
returns-clause-refused g c =
    MatchResult-weaker c.finish.result c.finish.ensures.fault (λ x t. t)
    (λ (e : Refusal) (is : e ≡ Device).
    let P : Refusal → Type 0 = RefusesFormat c.args.layout (asked_of c.args.old.now) c.args.slots _ in
    subst P (sym is) (c.in_ok-table.table, c.in_ok-table.ensures.ok))

pub returns-clause-unchanged : goal.returns-clause-unchanged
returns-clause-unchanged g c =
    MatchResult-weaker c.finish.result c.finish.ensures.fault (λ x t. t) (λ (e : Refusal) (is : e ≡ Device). inl is)

pub returns-clause-kept : goal.returns-clause-kept
returns-clause-kept g c =
    let first : AreAccounted {X = Unit {0}} g.D.Device g.E.Device c.args.old.now.device c.args.new.now
    (Ok tt) c.args.old.now.device c.begin.new.new =
    inr (kept_none g.D.Device c.args.old.now.device, kept_ok tt c.in_ok-table.ensures.kept) in
    accounts_then (accounts_then first c.in_ok-copy_files.ensures.copies.accounts)
    (inr (kept_none g.D.Device c.copy_files.new.old.device, c.finish.ensures.finishes.kept))

pub returns-clause-migrated : goal.returns-clause-migrated
returns-clause-migrated g c = λ honest other.
    let laid = c.in_ok-table.ensures in
    let at = new_files g (goal.at.returns-clause-migrated g c).After-first_file_home in
    let copies = copies_as at.0 at.1 c.in_ok-copy_files.ensures.copies in
    let other_1 = laid.kept.honest.1 other in
    let other_2 = (copies_honest copies).1 other_1 in
    let finishes = c.finish.ensures.finishes in
    let seen = g.E.Device.seen in
    on_ok_weaker c.finish.result
    (λ (both : (seen c.finish.new.device ≡ written (seen c.copy_files.new.new) 0 (super_text c.in_ok-table.table))
    × Only (g.E.Device.may_leave c.finish.new.device) (seen c.finish.new.device)).
    migrated g.D.Device g.E.Device c.args.layout c.args.slots c.args.old.now c.args.new.now c.begin.new.new
    c.copy_files.new.new c.finish.new.device c.in_ok-table.table laid.ok laid.well_formed honest
    (laid.emptied other) (laid.torn other c.in_ok-table.table laid.ok.asked) (copies.torn other_1)
    (copied_as at.0 refl (c.in_ok-copy_files.ensures.copied honest other_1)) both.0 both.1)
    (both_ok _ _ c.finish.result (finishes.done other_2) (finishes.synced other_2))

pub returns-in_err-table-clause-crash : goal.returns-in_err-table-clause-crash
returns-in_err-table-clause-crash g c = λ honest. leaves_weaker c.in_err-table.ensures.time
    (laying_left g.D.Device g.E.Device c.args.layout c.args.slots c.args.old.now c.args.new.now)

pub returns-in_err-copy_files-clause-crash : goal.returns-in_err-copy_files-clause-crash
returns-in_err-copy_files-clause-crash g c = λ honest.
    let laid = c.in_ok-table.ensures in
    let at = new_files g (goal.at.returns-in_err-copy_files-clause-crash g c).After-first_file_home in
    time_of_copying g.D.Device g.E.Device c.args.layout c.args.slots c.args.old.now c.args.new.now c.begin.new.new
    c.in_ok-table.table laid.ok laid.time laid.left (copies_as at.0 at.1 c.in_err-copy_files.ensures.copies)

pub returns-clause-crash : goal.returns-clause-crash
returns-clause-crash g c = λ honest.
    let laid = c.in_ok-table.ensures in
    let at = new_files g (goal.at.returns-clause-crash g c).After-first_file_home in
    let copies = copies_as at.0 at.1 c.in_ok-copy_files.ensures.copies in
    let honest_1 = laid.kept.honest.1 honest in
    time_of_filling g.D.Device g.E.Device c.args.layout c.args.slots c.args.old.now c.args.new.now c.begin.new.new
    c.in_ok-table.table laid.ok laid.time laid.left copies
    laid.well_formed (laid.emptied honest)
    (λ on_volume. copied_as at.0 refl (c.in_ok-copy_files.ensures.copied on_volume honest_1)) honest_1
    ((copies_honest copies).1 honest_1) c.finish.ensures.finishes
