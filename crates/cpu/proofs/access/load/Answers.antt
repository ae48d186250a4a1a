use Rattle.std.proofs.Common.{◌≡◌, ◌+◌, ◌-◌, ◌/◌, take, drop, false, ap, ◌∙◌, arith}
use Rattle.std.proofs.lemmas.Result.{err_from_is_err_and}
use Rattle.frames.specs.Frames.{frame_at, bytes_of}
use Rattle.cpu.specs.Access.{hardware}
use Rattle.cpu.proofs.Refusals.{Loads-refused}
use Rattle.cpu.proofs.Translations.{Reaches, reached, in_use}
use Rattle.cpu.proofs.access.load.Goals as goal
use Rattle.cpu.proofs.access.load.Goals.{In_ok-frame}

-- the frame that the access reaches
reaches : (g : _) (c : In_ok-frame g)
    → Reaches (hardware c.args.shootdown.now c.args.spaces.now.map c.args.frames.now) c.args.p (c.args.va / 4096) false
    c.in_ok-frame.frame (hardware c.translate.new.shootdown c.translate.new.spaces.map c.args.frames.now)
reaches g c =
    reached {s = c.args.shootdown.now} c.requires c.in_ok-at.ensures.ok.0 c.in_ok-frame.ensures.ok

pub bytes-requires : goal.bytes-requires
bytes-requires g c = in_use c.requires (reaches g (goal.at.bytes-requires g c).In_ok-frame)

pub returns-clause-through : goal.returns-clause-through
returns-clause-through g c =
    let memory = c.args.frames.now in
    let r = reaches g (goal.at.returns-clause-through g c).In_ok-frame in
    let count : c.in_ok-at.at + c.args.count - c.in_ok-at.at ≡ c.args.count = omega arith in
    let bytes : c.bytes.result.now ≡ bytes_of (frame_at memory r.entry.frame) =
    c.bytes.ensures.bytes
    ∙ ap (λ f. bytes_of (frame_at memory f)) r.frame_is in
    record {
      entry = r.entry;
      present = r.present;
      read = λ i. take (count i) (drop (c.in_ok-at.ensures.ok.2 i) (bytes i));
    }

pub returns-in_err-at-clause-loaded : goal.returns-in_err-at-clause-loaded
returns-in_err-at-clause-loaded g c =
    let p = err_from_is_err_and c.from_residual.result c.from_residual.ensures.1 in
    rw (p.1, p.2) (Loads-refused (hardware c.args.shootdown.now c.args.spaces.now.map c.args.frames.now) c.args.p
    c.args.va c.args.count _ (c.in_err-at.ensures.err c.args.spaces.now.map c.args.frames.now))
