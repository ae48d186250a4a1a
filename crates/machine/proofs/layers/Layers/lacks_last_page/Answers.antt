use Rattle.machine.proofs.Names.{◌/◌, ◌∙◌, refl, arith, state_in}
use Rattle.machine.proofs.code.Resizes.{none_answered, small_page, lacks_by}
use Rattle.machine.proofs.layers.Layers.lacks_last_page.Goals as goal

pub overflow_cast-page : goal.overflow_cast-page
overflow_cast-page g c = omega (
  arith,
  c.file_length-old.ensures,
  small_page (state_in c.args.self.now) c.requires.sound c.args.file c.requires.there,
)

pub returns : goal.returns
returns g c =
    none_answered c.find.result c.is_none.result c.is_none.ensures
    ∙ lacks_by (state_in c.args.self.now) c.args.file c.args.length c.file_length-old.result
    (c.file_length-old.result / 4096) c.find.result c.file_length-old.ensures refl
    (omega (arith, c.if-length-old.false)) c.if-old-eq0.false c.find.ensures.found c.find.ensures.none
