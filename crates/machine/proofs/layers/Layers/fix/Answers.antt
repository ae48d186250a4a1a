use Rattle.machine.proofs.Names.{◌≡◌, ◌*◌, ◌/◌, Some, sym, ap, ◌∙◌, arith, false≢true, err_from_is_err_and, page_at}
use Rattle.machine.proofs.Names.{place_of_fault, reason_against, state_in}
use Rattle.page_entry.specs.declared.refusal.Refusal.TheVariants as refusals
use Rattle.machine.specs.declared.act.Act.TheVariants as acts
use Rattle.machine.proofs.sound.Uses.{fault_file}
use Rattle.machine.proofs.code.Fixes.{refused_by, refused_unread, fix-not_free, fix-leads, fix-past}
use Rattle.machine.proofs.code.Fixes.{IsFaultAt, fault_at, seen_same, same_reads, refused_fix, served_fix}
use Rattle.machine.proofs.code.Marks.{page_there}
use Rattle.machine.proofs.layers.Layers.fix.Goals.{After-fix}
use Rattle.machine.proofs.layers.Layers.fix.Goals as goal

pub returns-in_err-admit_free-clause-rules : goal.returns-in_err-admit_free-clause-rules
returns-in_err-admit_free-clause-rules g c =
    let s = state_in c.args.self.now in
    let p = err_from_is_err_and c.from_residual.result c.from_residual.ensures.1 in
    rw (p.1, p.2) (refused_by _ s _ c.args.p c.args.va c.args.write _
    (fix-not_free s c.args.p c.args.va c.args.write _ c.in_err-admit_free.ensures.err))

pub returns-in_err-place-clause-rules : goal.returns-in_err-place-clause-rules
returns-in_err-place-clause-rules g c =
    let s = state_in c.args.self.now in
    let leads = ap (λ q. place_of_fault s.hardware.spaces q c.args.va c.args.write) (sym c.space-pcid.ensures.space)
    ∙ sym c.in_err-place.ensures in
    let p = err_from_is_err_and c.from_residual-in_err-place.result c.from_residual-in_err-place.ensures.1 in
    rw (p.1, p.2) (refused_by _ s _ c.args.p c.args.va c.args.write _
    (fix-leads s c.args.p c.args.va c.args.write _ c.in_ok-admit_free.ensures.ok leads))

module _ (g : _) (c : goal.Then-length-from g) where
  past : reason_against (state_in c.args.self.now) c.args.p (acts.Fix c.args.va c.args.write) ≡ Some refusals.BusAdrErr
  past =
      let s = state_in c.args.self.now in
      let place = c.in_ok-place.place in
      let leads = ap (λ q. place_of_fault s.hardware.spaces q c.args.va c.args.write) (sym c.space-pcid.ensures.space)
      ∙ sym c.in_ok-place.ensures in
      fix-past s c.args.p c.args.va c.args.write place c.in_ok-admit_free.ensures.ok leads
      (omega (arith, c.file_length-length.ensures, c.from.ensures, c.if-length-from.true))

pub returns-then-length-from-clause-rules : goal.returns-then-length-from-clause-rules
returns-then-length-from-clause-rules g c =
    refused_by _ (state_in c.args.self.now) _ c.args.p c.args.va c.args.write refusals.BusAdrErr (past g c)

pub returns-then-length-from-clause-device : goal.returns-then-length-from-clause-device
returns-then-length-from-clause-device g c = λ reads.
    absurd (false≢true (sym (refused_unread
    (state_in c.args.self.now) c.args.p c.args.va c.args.write refusals.BusAdrErr (past g c)) ∙ reads))

pub home_block-requires-clause-page : goal.home_block-requires-clause-page
home_block-requires-clause-page g c =
    let s = state_in c.args.self.now in
    let place = c.in_ok-place.place in
    let leads = ap (λ q. place_of_fault s.hardware.spaces q c.args.va c.args.write) (sym c.space-pcid.ensures.space)
    ∙ sym c.in_ok-place.ensures in
    (page_there s (page_at place) c.requires.sound (record {
      there = fault_file s c.requires.sound c.args.p c.args.va c.args.write place leads;
      inside = omega (arith, c.file_length-length.ensures, c.from.ensures, c.if-length-from.false);
    })).page

-- the fault that is fixed
the_fault : (g : _) (c : After-fix g)
    → IsFaultAt (state_in c.args.self.now) c.args.p c.args.va c.args.write (record {
      pcid = c.space-pcid.result;
      page = c.args.va / 4096;
      place = c.in_ok-place.place;
      write = c.args.write;
      home = 4096 * c.from-2.result;
      length = c.file_length-length.result;
      broken = c.is_broken.result;
    })
the_fault g c =
    fault_at (state_in c.args.self.now) c.args.p c.args.va c.args.write c.in_ok-place.place c.space-pcid.result
    c.from-2.result c.file_length-length.result c.is_broken.result c.in_ok-admit_free.ensures.ok
    c.space-pcid.ensures.space c.in_ok-place.ensures (c.from-2.ensures ∙ c.home_block.ensures.home)
    c.file_length-length.ensures c.is_broken.ensures

pub returns-in_err-fix-clause-rules : goal.returns-in_err-fix-clause-rules
returns-in_err-fix-clause-rules g c =
    let s = state_in c.args.self.now in
    let p = err_from_is_err_and c.from_residual-in_err-fix.result c.from_residual-in_err-fix.ensures.1 in
    let at = the_fault g (goal.at.returns-in_err-fix-clause-rules g c).After-fix in
    rw (p.1, p.2, c.in_err-fix.ensures.unchanged.0, c.in_err-fix.ensures.unchanged.1)
    (refused_fix s c.args.p c.args.va c.args.write _ at _ _ _ _
    (λ honest. seen_same g.D.Device.seen c.args.self.now.device c.fix.new.device _ c.fix.ensures.untouched
    (λ reads. (c.fix.ensures.device reads).same honest)) c.in_err-fix.ensures.refused)

pub returns-in_err-fix-clause-untouched : goal.returns-in_err-fix-clause-untouched
returns-in_err-fix-clause-untouched g c = λ none.
    let s = state_in c.args.self.now in
    let at = the_fault g (goal.at.returns-in_err-fix-clause-untouched g c).After-fix in
    c.fix.ensures.untouched (sym (same_reads s c.args.p c.args.va c.args.write _ at) ∙ none)

pub returns-in_err-fix-clause-device : goal.returns-in_err-fix-clause-device
returns-in_err-fix-clause-device g c = λ reads.
    let s = state_in c.args.self.now in
    let p = err_from_is_err_and c.from_residual-in_err-fix.result c.from_residual-in_err-fix.ensures.1 in
    let at = the_fault g (goal.at.returns-in_err-fix-clause-device g c).After-fix in
    rw p.1 (c.in_err-fix.ensures.device (sym (same_reads s c.args.p c.args.va c.args.write _ at) ∙ reads))

pub returns-clause-rules : goal.returns-clause-rules
returns-clause-rules g c =
    let s = state_in c.args.self.now in
    let at = the_fault g (goal.at.returns-clause-rules g c).After-fix in
    served_fix s c.args.p c.args.va c.args.write _ at c.fix.new.spaces.map c.fix.new.frames _ _ _
    (λ honest. seen_same g.D.Device.seen c.args.self.now.device c.fix.new.device _ c.fix.ensures.untouched
    (λ reads. (c.fix.ensures.device reads).same honest))
    c.in_ok-fix.ensures.done

pub returns-clause-untouched : goal.returns-clause-untouched
returns-clause-untouched g c = λ none.
    let s = state_in c.args.self.now in
    let at = the_fault g (goal.at.returns-clause-untouched g c).After-fix in
    c.fix.ensures.untouched (sym (same_reads s c.args.p c.args.va c.args.write _ at) ∙ none)

pub returns-clause-device : goal.returns-clause-device
returns-clause-device g c = λ reads.
    let s = state_in c.args.self.now in
    let at = the_fault g (goal.at.returns-clause-device g c).After-fix in
    c.in_ok-fix.ensures.device (sym (same_reads s c.args.p c.args.va c.args.write _ at) ∙ reads)
