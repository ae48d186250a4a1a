use Rattle.std.proofs.Common.{◌≡◌, inl, inr, ap, sym, subst, arith}
use Rattle.std.proofs.lemmas.Result.{MatchResult-weaker, on_ok_weaker}
use Rattle.device.specs.Device.{Only}
use Rattle.device.proofs.Moments.{leaves_weaker}
use Rattle.page_entry.specs.declared.refusal.Refusal.{Refusal}
use Rattle.page_entry.specs.declared.refusal.Refusal.TheVariants.{Device}
use Rattle.volume_codec.specs.Files.{asked_by, lengths_asked}
use Rattle.volume_codec.specs.Super.{SuperValue, block_count}
use Rattle.volume_codec.proofs.TableLemmas.{one_asked}
use Rattle.recovery.specs.Counts.{Rises}
use Rattle.recovery.specs.Format.{IsBlank, RefusesFormat, format_calls}
use Rattle.recovery.proofs.Formatted.{asked_few, both_ok, shape_here}
use Rattle.recovery.proofs.formatting.format_as.Goals as goal

pub write_table-requires-clause-room : goal.write_table-requires-clause-room
write_table-requires-clause-room g c = record {
  long = omega (arith, c.in_ok-table.ensures.ok.long, c.len.ensures);
  few = asked_few c.args.layout c.args.slots c.args.files.now c.in_ok-table.table c.in_ok-table.ensures.ok.asked;
}

pub write_table-requires-clause-fits : goal.write_table-requires-clause-fits
write_table-requires-clause-fits g c = c.in_ok-table.ensures.ok.asked.fits

pub returns-clause-refused : goal.returns-clause-refused
returns-clause-refused g c =
    let shape = shape_here c.args.layout
    (asked_by c.args.files.now) c.args.slots _ _ _ c.len.ensures c.in_ok-table.ensures.ok in
    MatchResult-weaker c.write_table.result c.write_table.ensures.fault (λ x t. t)
    (λ (e : Refusal) (is : e ≡ Device).
    let P : Refusal → Type 0 = RefusesFormat c.args.layout (asked_by c.args.files.now) c.args.slots _ in
    subst P (sym is) (c.in_ok-table.table, shape))

pub returns-clause-unchanged : goal.returns-clause-unchanged
returns-clause-unchanged g c = MatchResult-weaker c.write_table.result c.write_table.ensures.fault (λ x t. t)
    (λ (e : Refusal) (is : e ≡ Device). inl is)

pub returns-clause-crash : goal.returns-clause-crash
returns-clause-crash g c = λ honest.
    let shape = shape_here c.args.layout
    (asked_by c.args.files.now) c.args.slots _ _ _ c.len.ensures c.in_ok-table.ensures.ok in
    leaves_weaker (c.write_table.ensures.crash honest) (λ l partly. inr (c.in_ok-table.table, shape, partly))

pub returns-clause-most : goal.returns-clause-most
returns-clause-most g c = λ table asked small.
    let same = one_asked c.args.layout
    (asked_by c.args.files.now) c.args.slots table c.in_ok-table.table asked c.in_ok-table.ensures.ok.asked in
    let count = ap (λ (v : SuperValue). format_calls v) same in
    omega (arith, small, count, c.write_table.ensures.most)

pub returns-clause-formatted : goal.returns-clause-formatted
returns-clause-formatted g c = λ honest.
    let shape = shape_here c.args.layout
    (asked_by c.args.files.now) c.args.slots _ _ _ c.len.ensures c.in_ok-table.ensures.ok in
    on_ok_weaker c.write_table.result
    (λ (both : IsBlank c.in_ok-table.table (lengths_asked (asked_by c.args.files.now))
    (g.D.Device.seen c.write_table.new.device)
    × Only (g.D.Device.may_leave c.write_table.new.device) (g.D.Device.seen c.write_table.new.device)).
    record {
      table = c.in_ok-table.table;
      shape = shape;
      blank = both.0;
      synced = both.1;
      past = c.write_table.ensures.past honest;
    })
    (both_ok _ _ c.write_table.result (c.write_table.ensures.blank honest) (c.write_table.ensures.synced honest))

pub returns-clause-past : goal.returns-clause-past
returns-clause-past g c = λ honest table i asked low.
    let same = one_asked c.args.layout
    (asked_by c.args.files.now) c.args.slots table c.in_ok-table.table asked c.in_ok-table.ensures.ok.asked in
    let blocks = ap (λ (v : SuperValue). block_count v) same in
    c.write_table.ensures.past honest i (omega (arith, low, blocks))

pub returns-clause-calls : goal.returns-clause-calls
returns-clause-calls g c =
    on_ok_weaker c.write_table.result
    (λ (rises : Rises (format_calls c.in_ok-table.table) (g.D.Device.calls_made c.args.device.now)
    (g.D.Device.calls_made c.write_table.new.device)).
    λ table asked small.
    let same = one_asked c.args.layout
    (asked_by c.args.files.now) c.args.slots table c.in_ok-table.table asked c.in_ok-table.ensures.ok.asked in
    let count = ap (λ (v : SuperValue). format_calls v) same in
    omega (arith, small, count, rises))
    c.write_table.ensures.calls
