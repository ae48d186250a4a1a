use Rattle.std.proofs.Common.{inr, true, false, length, subst, ℕ}
use Rattle.volume_codec.specs.Files.{asked_by, lengths_asked}
use Rattle.device.proofs.Public.{leaves_weaker}
use Rattle.log_format.specs.Asked.{HasLogShape}
use Rattle.log_format.proofs.Crash.{left_by_works}
use Rattle.log_format.proofs.Made.{AreBlocks, formatted_log, others_same}
use Rattle.log_format.proofs.formatting.format_log.Goals.{After-write_fresh}
use Rattle.log_format.proofs.formatting.format_log.Goals as goal

-- the table is what was asked for, and what is written of it are blocks
formed : (g : _) (c : After-write_fresh g) → let files = asked_by c.args.files.now in
    HasLogShape c.args.sealing files c.args.ring (length (g.D.Device.seen c.args.device.now)) c.in_ok-table.table
    × AreBlocks c.in_ok-table.table (lengths_asked files)
formed g c =
    let P : ℕ → Type 0 = λ size. HasLogShape c.args.sealing (asked_by c.args.files.now) c.args.ring size
    c.in_ok-table.table in (
      subst P c.len.ensures c.in_ok-table.ensures.ok,
      record {
        table_is = c.write_fresh.ensures.table;
        lengths_are = c.write_fresh.ensures.lengths;
        start_is = c.write_fresh.ensures.start;
      },
    )

pub returns-in-Ok-clause-formatted : goal.returns-in-Ok-clause-formatted
returns-in-Ok-clause-formatted g c = λ honest blank.
    let has = formed g (goal.at.returns-in-Ok-clause-formatted g c).After-write_fresh in
    formatted_log g.D.Device c.args.device.now c.write_fresh.new.device c.args.sealing (asked_by c.args.files.now)
    c.args.ring c.in_ok-table.table has.0 has.1 c.in-Ok.ensures.did honest blank

pub returns-in-Ok-clause-others : goal.returns-in-Ok-clause-others
returns-in-Ok-clause-others g c = λ honest i not.
    let has = formed g (goal.at.returns-in-Ok-clause-others g c).After-write_fresh in
    others_same g.D.Device c.args.device.now c.write_fresh.new.device c.in_ok-table.table
    (lengths_asked (asked_by c.args.files.now)) true has.0.asked.fits.log has.0.long has.1 c.in-Ok.ensures.did honest
    i (not c.in_ok-table.table has.0.asked)

pub returns-clause-others : goal.returns-clause-others
returns-clause-others g c = λ honest i not.
    let has = formed g (goal.at.returns-clause-others g c).After-write_fresh in
    others_same g.D.Device c.args.device.now c.write_fresh.new.device c.in_ok-table.table
    (lengths_asked (asked_by c.args.files.now)) false has.0.asked.fits.log has.0.long has.1 c.in-Err.ensures.did honest
    i (not c.in_ok-table.table has.0.asked)

pub returns-in-Ok-clause-crash : goal.returns-in-Ok-clause-crash
returns-in-Ok-clause-crash g c = λ honest blank.
    let has = formed g (goal.at.returns-in-Ok-clause-crash g c).After-write_fresh in
    leaves_weaker (left_by_works g.D.Device c.args.device.now c.write_fresh.new.device c.in_ok-table.table
    (lengths_asked (asked_by c.args.files.now)) has.0.asked.fits.log has.0.long has.1 honest blank true
    c.in-Ok.ensures.did) (λ l made. inr (c.in_ok-table.table, has.0, made))

pub returns-clause-crash : goal.returns-clause-crash
returns-clause-crash g c = λ honest blank.
    let has = formed g (goal.at.returns-clause-crash g c).After-write_fresh in
    leaves_weaker (left_by_works g.D.Device c.args.device.now c.write_fresh.new.device c.in_ok-table.table
    (lengths_asked (asked_by c.args.files.now)) has.0.asked.fits.log has.0.long has.1 honest blank false
    c.in-Err.ensures.did) (λ l made. inr (c.in_ok-table.table, has.0, made))
