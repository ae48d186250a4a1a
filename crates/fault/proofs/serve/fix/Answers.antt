use Rattle.std.proofs.Common.{Some, sym, ap, subst, ◌∙◌}
use Rattle.spaces.specs.Spaces.{SpacesState, entry_at, with_entry}
use Rattle.spaces.specs.Changes.{Grows}
use Rattle.checkpoint.specs.Backing.{AreBacked}
use Rattle.fault.specs.Fault.{fixed_entry}
use Rattle.fault.proofs.ServedLaws.{AreBacked-served, Grows-fixed}
use Rattle.fault.proofs.serve.fix.Goals as goal

pub returns-clause-done : goal.returns-clause-done
returns-clause-done g c =
    let found = c.in_ok-frame.ensures.found in
    let fault = c.args.fault in
    let spaces = c.args.spaces.now.map in
    record {
      allowed = found.allowed;
      bytes = found.bytes;
      read = found.read;
      served = record {
        frame = c.in_ok-frame.frame;
        mid = found.mid;
        brought = found.brought;
        copied = found.copied;
        entry = ap (λ (s : SpacesState). s.map) c.map_page.ensures
            ∙ ap (λ can. with_entry spaces fault.pcid fault.page
            (Some (fixed_entry (entry_at spaces fault.pcid fault.page) c.in_ok-frame.frame can fault.write)))
            c.can_write-writable.ensures;
      };
    }

pub returns-clause-backed : goal.returns-clause-backed
returns-clause-backed g c =
    let found = c.in_ok-frame.ensures.found in
    let fault = c.args.fault in
    subst (AreBacked c.frame_for.new.frames c.args.checkpoint.now)
    (ap (λ (s : SpacesState). s.map) (sym c.map_page.ensures))
    (AreBacked-served c.args.frames.now found.mid c.frame_for.new.frames c.args.checkpoint.now c.args.spaces.now.map
    fault.pcid fault.page fault.place fault.write _ c.can_write-writable.result found.bytes c.in_ok-frame.frame
    c.requires.mapped found.brought found.copied c.can_write-writable.ensures c.requires.backed)

pub returns-clause-grows : goal.returns-clause-grows
returns-clause-grows g c =
    let fault = c.args.fault in
    subst (Grows c.args.spaces.now.map) (ap (λ (s : SpacesState). s.map) (sym c.map_page.ensures))
    (Grows-fixed c.args.spaces.now.map fault.pcid fault.page c.in_ok-frame.frame
    c.can_write-writable.result fault.write)
