use Rattle.std.proofs.Common.{refl, sym, ◌∙◌}
use Rattle.log_room.proofs.room.check_end.Goals as goal

pub returns-in_default : goal.returns-in_default
returns-in_default g c = record {
  state = c.ends.ensures.state;
  byte = λ byte. absurd (cc (sym (c.ends.ensures.byte byte).0 ∙ c.in_default.is));
  read = c.ends.ensures.read;
  len = c.ends.ensures.len;
  ends = λ honest. tt;
  failed = refl;
}

pub returns-in_default-2 : goal.returns-in_default-2
returns-in_default-2 g c = record {
  state = c.ends.ensures.state;
  byte = λ byte. absurd (cc (sym (c.ends.ensures.byte byte).0 ∙ c.in_default.is));
  read = c.ends.ensures.read;
  len = c.ends.ensures.len;
  ends = λ honest. tt;
  failed = refl;
}
