use Rattle.machine.proofs.Names.{refl, ap, ◌∙◌, arith, ShootdownState, with_shootdown, state_in}
use Rattle.machine.proofs.code.Refusals.{reclaim-past, reclaim-allowed}
use Rattle.machine.proofs.code.Parts.{in_memory-found, quiet_begun}
use Rattle.machine.proofs.layers.Layers.reclaim.Goals as goal

pub returns-then-page-pages_in_file-clause-rules :
    goal.returns-then-page-pages_in_file-clause-rules
returns-then-page-pages_in_file-clause-rules g c = λ disk. (
  reclaim-past (state_in c.args.self.now) c.args.p c.args.page c.in_ok-admit_free.ensures.ok
      (omega (arith, c.file_count.ensures.value, c.if-page-file_count.false))
      (omega (arith, c.pages_in_file.ensures, c.if-page-pages_in_file.true)),
  refl,
)

pub returns-then-is_none-clause-rules : goal.returns-then-is_none-clause-rules
returns-then-is_none-clause-rules g c = λ disk. (
  reclaim-allowed (state_in c.args.self.now) c.args.p c.args.page c.in_ok-admit_free.ensures.ok
      (omega (arith, c.file_count.ensures.value, c.if-page-file_count.false))
      (omega (arith, c.pages_in_file.ensures, c.if-page-pages_in_file.false)),
  (
    in_memory-found c.args.self.now.frames c.args.page c.find.result c.find.ensures.found c.find.ensures.none
        ∙ c.if-is_none.ensures,
    refl,
  ),
)

pub returns-clause-rules : goal.returns-clause-rules
returns-clause-rules g c = λ disk. (
  reclaim-allowed (state_in c.args.self.now) c.args.p c.args.page c.in_ok-admit_free.ensures.ok
      (omega (arith, c.file_count.ensures.value, c.if-page-file_count.false))
      (omega (arith, c.pages_in_file.ensures, c.if-page-pages_in_file.false)),
  (
    in_memory-found c.args.self.now.frames c.args.page c.find.result c.find.ensures.found c.find.ensures.none
        ∙ c.if-is_none.ensures,
    ap (λ (s : ShootdownState). with_shootdown (state_in c.args.self.now) s) c.begin.ensures.begun,
  ),
)

pub returns-clause-quiet : goal.returns-clause-quiet
returns-clause-quiet g c =
    quiet_begun refl refl (ap (λ (s : ShootdownState). s.lock) c.begin.ensures.begun) tt
