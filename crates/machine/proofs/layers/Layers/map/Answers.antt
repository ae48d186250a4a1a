use Rattle.machine.proofs.Names.{refl, sym, ap, subst, arith, err_from_is_err_and}
use Rattle.machine.proofs.Names.{SpacesState, Act, Answers, with_spaces}
use Rattle.machine.proofs.Names.{state_in}
use Rattle.page_entry.specs.declared.refusal.Refusal.TheVariants as refusals
use Rattle.machine.specs.declared.act.Reply.TheVariants.{Mapped, Refused}
use Rattle.machine.proofs.sound.Admitted.{free_below}
use Rattle.machine.proofs.code.Parts.{reserved_free}
use Rattle.machine.proofs.code.Refusals.{maps-no_file, maps-unadded, map-adding}
use Rattle.machine.proofs.layers.Layers.map.Goals as goal

pub returns-then-file-file_count-clause-rules : goal.returns-then-file-file_count-clause-rules
returns-then-file-file_count-clause-rules g c = λ disk.
    let s = state_in c.args.self.now in
    let m = c.in-Map in
    subst (λ (act : Act). Answers s disk c.args.p act (Refused refusals.NoFile) s) (sym m.is) (
      maps-no_file s c.args.p m.space m.va m.len m.file m.offset m.prot m.access
          (c.in_ok-range.range, c.in_ok-range.page) c.in_ok-admit_free.ensures.ok (sym c.in_ok-range.ensures)
          (omega (arith, c.file_count.ensures.value, c.if-file-file_count.true)),
      refl,
    )

pub returns-in_err-map-clause-rules : goal.returns-in_err-map-clause-rules
returns-in_err-map-clause-rules g c = λ disk.
    let s = state_in c.args.self.now in
    let m = c.in-Map in
    let p = err_from_is_err_and c.from_residual-in_err-map.result c.from_residual-in_err-map.ensures.1 in
    rw (p.1, p.2, c.in_err-map.ensures.err)
    (subst (λ (act : Act). Answers s disk c.args.p act (Refused c.in_err-map.field-0.0) s) (sym m.is) (
      maps-unadded s c.args.p m.space m.va m.len m.file m.offset m.prot m.access (
        c.in_ok-range.range,
        c.in_ok-range.page,
      ) c.in_err-map.field-0.0 c.in_ok-admit_free.ensures.ok (sym c.in_ok-range.ensures)
          (omega (arith, c.file_count.ensures.value, c.if-file-file_count.false)) c.in_err-map.ensures.refused,
      refl,
    ))

pub returns-clause-rules : goal.returns-clause-rules
returns-clause-rules g c = λ disk.
    let s = state_in c.args.self.now in
    let m = c.in-Map in
    subst (λ (act : Act). Answers s disk c.args.p act Mapped (with_spaces s c.map.new.self.map)) (sym m.is) (
      map-adding s c.args.p m.space m.va m.len m.file m.offset m.prot m.access
          (c.in_ok-range.range, c.in_ok-range.page) _ c.in_ok-admit_free.ensures.ok (sym c.in_ok-range.ensures)
          (omega (arith, c.file_count.ensures.value, c.if-file-file_count.false)) c.in_ok-map.ensures.allowed,
      (
        (c.in_ok-range.range, c.in_ok-range.page),
        sym c.in_ok-range.ensures,
        ap (λ (x : SpacesState). with_spaces s x.map) c.in_ok-map.ensures.mapped,
      ),
    )

pub returns-clause-quiet : goal.returns-clause-quiet
returns-clause-quiet g c = record {
  same_device = refl;
  same_table = refl;
  still_reserved =
      λ _. reserved_free _ _ (free_below c.args.self.now.shootdown c.args.p c.in_ok-admit_free.ensures.ok).1;
}
