use Rattle.std.proofs.Common.{◌≡◌, ◌-◌, ◌*◌, inl, inr, take, length, Err, sym, ap, ◌∙◌, subst, arith}
use Rattle.std.proofs.lemmas.Result.{err_from_is_err_and}
use Rattle.device.specs.Device.{Torn}
use Rattle.device.proofs.Moments.{leaves_at_start, leaves_weaker}
use Rattle.page_entry.specs.declared.refusal.Refusal.{Refusal}
use Rattle.volume_codec.specs.Files.{asked_by}
use Rattle.volume_codec.specs.Super.{SuperValue, IsAsked, block_count}
use Rattle.volume_codec.proofs.TableLemmas.{one_asked}
use Rattle.recovery.specs.Format.{HasShape, RefusesFormat}
use Rattle.recovery.specs.Migration.{asked_of}
use Rattle.recovery.proofs.Kept.{kept_err}
use Rattle.recovery.proofs.Formatted.{asked_few}
use Rattle.recovery.proofs.Migrated.{shape_again, laid_again}
use Rattle.recovery.proofs.migration.begin.Goals.{In_ok-table}
use Rattle.recovery.proofs.migration.begin.Goals as goal

-- the files that are asked for are the volume's
its_files : (g : _) (c : In_ok-table g)
    → asked_by (take c.file_count.result c.specs_of-specs.result) ≡ asked_of c.args.old.now
its_files g c = ap (λ n. asked_by (take n c.specs_of-specs.result)) c.file_count.ensures.value
    ∙ c.specs_of-specs.ensures.specs

-- the table has their shape
its_shape : (g : _) (c : In_ok-table g) → HasShape c.args.layout (asked_of c.args.old.now) c.args.slots
    (length (g.E.Device.seen c.args.new.now)) c.in_ok-table.table
its_shape g c = shape_again c.args.layout c.args.slots _ _ _ _ c.in_ok-table.table (its_files g c) c.len.ensures
    c.in_ok-table.ensures.ok

-- and is the only one that they can have
its_table : (g : _) (c : In_ok-table g) (table : SuperValue)
    → IsAsked c.args.layout (asked_of c.args.old.now) c.args.slots table → c.in_ok-table.table ≡ table
its_table g c table asked = one_asked c.args.layout (asked_of c.args.old.now) c.args.slots c.in_ok-table.table table
    (its_shape g c).asked asked

pub lay_out-requires : goal.lay_out-requires
lay_out-requires g c = record {
  long = omega (arith, c.in_ok-table.ensures.ok.long, c.len.ensures);
  few = asked_few c.args.layout c.args.slots _ c.in_ok-table.table c.in_ok-table.ensures.ok.asked;
}

pub returns-in_err-lay_out-clause-torn : goal.returns-in_err-lay_out-clause-torn
returns-in_err-lay_out-clause-torn g c = λ honest table asked.
    let P : SuperValue → Type 0 = λ v. Torn 4096 (4096 * block_count v - 4096) (g.E.Device.seen c.args.new.now)
    (g.E.Device.seen c.lay_out.new.device) in
    subst P (its_table g (goal.at.returns-in_err-lay_out-clause-torn g c).In_ok-table table asked)
    (c.in_err-lay_out.ensures.overwrites.torn honest)

pub returns-in_err-lay_out-clause-kept : goal.returns-in_err-lay_out-clause-kept
returns-in_err-lay_out-clause-kept g c =
    let p = err_from_is_err_and c.from_residual-in_err-lay_out.result c.from_residual-in_err-lay_out.ensures.1 in
    kept_err {X = Unit {0}} c.from_residual-in_err-lay_out.result
    (p.1 ∙ ap Err p.2) c.in_err-lay_out.ensures.overwrites.kept

pub returns-in_err-lay_out-clause-refused : goal.returns-in_err-lay_out-clause-refused
returns-in_err-lay_out-clause-refused g c =
    let shape = its_shape g (goal.at.returns-in_err-lay_out-clause-refused g c).In_ok-table in
    let p = err_from_is_err_and c.from_residual-in_err-lay_out.result c.from_residual-in_err-lay_out.ensures.1 in
    let P : Refusal → Type 0 = RefusesFormat c.args.layout (asked_of c.args.old.now) c.args.slots _ in
    rw (p.1, p.2) (subst P (sym c.in_err-lay_out.ensures.fault) (c.in_ok-table.table, shape))

pub returns-clause-emptied : goal.returns-clause-emptied
returns-clause-emptied g c = λ honest.
    laid_again g.D.Device c.args.old.now c.specs_of-specs.ensures.well_formed _ c.in_ok-table.table _
    (its_files g (goal.at.returns-clause-emptied g c).In_ok-table) (c.in_ok-lay_out.ensures.emptied honest)

pub returns-clause-torn : goal.returns-clause-torn
returns-clause-torn g c = λ honest table asked.
    let P : SuperValue → Type 0 = λ v. Torn 4096 (4096 * block_count v - 4096) (g.E.Device.seen c.args.new.now)
    (g.E.Device.seen c.lay_out.new.device) in
    subst P (its_table g (goal.at.returns-clause-torn g c).In_ok-table table asked)
    (c.in_ok-lay_out.ensures.overwrites.torn honest)

pub returns-in_err-table-clause-time : goal.returns-in_err-table-clause-time
returns-in_err-table-clause-time g c =
    leaves_at_start (λ l since. inl (g.met.E.Device.since_now c.args.new.now l since))

pub returns-in_err-lay_out-clause-time : goal.returns-in_err-lay_out-clause-time
returns-in_err-lay_out-clause-time g c =
    let shape = its_shape g (goal.at.returns-in_err-lay_out-clause-time g c).In_ok-table in
    leaves_weaker c.in_err-lay_out.ensures.overwrites.time (λ l torn. inr (c.in_ok-table.table, shape, torn))

pub returns-clause-time : goal.returns-clause-time
returns-clause-time g c =
    let shape = its_shape g (goal.at.returns-clause-time g c).In_ok-table in
    leaves_weaker c.in_ok-lay_out.ensures.overwrites.time (λ l torn. inr (c.in_ok-table.table, shape, torn))

pub returns-clause-left : goal.returns-clause-left
returns-clause-left g c = c.in_ok-lay_out.ensures.overwrites.left
