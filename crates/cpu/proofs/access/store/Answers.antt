use Rattle.std.proofs.Common.{◌≡◌, ◌/◌, ◌%◌, true, refl, ap, ◌∙◌}
use Rattle.std.proofs.lemmas.Result.{err_from_is_err_and}
use Rattle.frames.specs.Frames.{with_bytes}
use Rattle.cpu.specs.Access.{hardware}
use Rattle.cpu.proofs.Uses.{IsReachable-OnlyUses, in_use-written}
use Rattle.cpu.proofs.Refusals.{Stores-refused}
use Rattle.cpu.proofs.Translations.{Reaches, reached, in_use}
use Rattle.cpu.proofs.access.store.Goals as goal
use Rattle.cpu.proofs.access.store.Goals.{In_ok-frame}

-- the frame that the access reaches
reaches : (g : _) (c : In_ok-frame g)
    → Reaches (hardware c.args.shootdown.now c.args.spaces.now.map c.args.frames.now) c.args.p (c.args.va / 4096) true
    c.in_ok-frame.frame (hardware c.translate.new.shootdown c.translate.new.spaces.map c.args.frames.now)
reaches g c =
    reached {s = c.args.shootdown.now} c.requires c.in_ok-at.ensures.ok.0 c.in_ok-frame.ensures.ok

pub write-requires-clause-in_use : goal.write-requires-clause-in_use
write-requires-clause-in_use g c =
    in_use c.requires (reaches g (goal.at.write-requires-clause-in_use g c).In_ok-frame)

pub returns-clause-stored : goal.returns-clause-stored
returns-clause-stored g c =
    let memory = c.args.frames.now in
    let frame = c.in_ok-frame.frame in
    let mid = hardware c.translate.new.shootdown c.translate.new.spaces.map memory in
    let written : c.write.new.self ≡ with_bytes memory frame (c.args.va % 4096) c.args.bytes.now =
    ◌∙◌ {b = with_bytes memory frame c.in_ok-at.at c.args.bytes.now} c.write.ensures
    (ap (λ at. with_bytes memory frame at c.args.bytes.now) c.in_ok-at.ensures.ok.2) in
    record {
      running = c.in_ok-at.ensures.ok.0;
      access = c.in_ok-at.ensures.ok.1;
      frame = frame;
      mid = mid;
      translation = c.in_ok-frame.ensures.ok memory;
      written = λ i. hardware c.translate.new.shootdown c.translate.new.spaces.map (written i);
    }

pub returns-clause-through : goal.returns-clause-through
returns-clause-through g c =
    let memory = c.args.frames.now in
    let r = reaches g (goal.at.returns-clause-through g c).In_ok-frame in
    record {
      entry = r.entry;
      present = r.present;
      allowed = r.writable refl;
      written = ◌∙◌ {b = with_bytes memory c.in_ok-frame.frame c.in_ok-at.at c.args.bytes.now} c.write.ensures
          (λ i. with_bytes memory (r.frame_is i) (c.in_ok-at.ensures.ok.2 i) c.args.bytes.now);
    }

pub returns-clause-dirty : goal.returns-clause-dirty
returns-clause-dirty g c = (reaches g (goal.at.returns-clause-dirty g c).In_ok-frame).dirty refl

pub returns-clause-reachable : goal.returns-clause-reachable
returns-clause-reachable g c =
    let memory = c.args.frames.now in
    IsReachable-OnlyUses c.args.spaces.now c.translate.new.spaces c.args.shootdown.now c.translate.new.shootdown memory
    c.write.new.self c.translate.ensures.uses
    (in_use-written memory c.write.new.self c.in_ok-frame.frame c.in_ok-at.at c.args.bytes.now c.write.ensures)
    c.requires (c.translate.ensures.coherent c.requires.coheres)

pub returns-in_err-at-clause-stored : goal.returns-in_err-at-clause-stored
returns-in_err-at-clause-stored g c =
    let p = err_from_is_err_and c.from_residual.result c.from_residual.ensures.1 in
    rw (p.1, p.2) (Stores-refused (hardware c.args.shootdown.now c.args.spaces.now.map c.args.frames.now) c.args.p
    c.args.va c.args.bytes.now _ (c.in_err-at.ensures.err c.args.spaces.now.map c.args.frames.now))
