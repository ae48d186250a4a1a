use Rattle.std.proofs.Common.{◌≤◌, Bool, length, subst, sym, arith}
use Rattle.std.specs.Prelude.{◌↔◌, IsTrue, Result, IfOk}
use Rattle.page_entry.specs.declared.refusal.Refusal.{Refusal}
use Rattle.volume_files.specs.Layouts.{HasLogMagic}
use Rattle.volume_files.proofs.LogMagic.{magic_of_block}
use Rattle.volume_files.proofs.log_magic.has_log.Goals.{in-Ok, in-Err}
use Rattle.volume_files.proofs.log_magic.has_log.Goals as goal

pub returns-clause-found : goal.returns-clause-found
returns-clause-found g c = λ honest.
    let seen = g.D.Device.seen c.args.device.now in
    let long : 4096 ≤ length seen = omega (arith, c.len.ensures, c.if-len-lt-PAGE.false) in
    let P : Result Bool Refusal → Type 0 = λ r. IfOk r (λ found. IsTrue found ↔ HasLogMagic seen) in
    elim c.match-read.branch [
      | in-Ok w ↦ subst P (sym w.result-is) (magic_of_block seen c.read.new.buffer w.begins_with_log_magic.result long
          (w.in-Ok.ensures.bytes honest) w.begins_with_log_magic.ensures.yes w.begins_with_log_magic.ensures.no)
      | in-Err w ↦ subst P (sym w.result-is) tt
    ]
