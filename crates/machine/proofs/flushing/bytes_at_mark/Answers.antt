use Rattle.std.proofs.Common.{◌≡◌, Some, sym, ◌∙◌, subst}
use Rattle.std.specs.Option.{IfSome}
use Rattle.frames.specs.Frames.{frame_at, copy_at, page_of}
use Rattle.machine.proofs.sound.Frames.{in_use}
use Rattle.machine.proofs.sound.Records.{mark_bytes-copied, mark_bytes-framed}
use Rattle.machine.proofs.code.Parts.{in_memory-found}
use Rattle.machine.proofs.flushing.bytes_at_mark.Goals as goal

pub copy_bytes-requires : goal.copy_bytes-requires
copy_bytes-requires g c = in_use (copy_at c.args.frames.now c.in-Some.copy) c.args.page c.in-Some.ensures.found

pub unwrap-frame-requires : goal.unwrap-frame-requires
unwrap-frame-requires g c = sym (in_memory-found c.args.frames.now c.args.page c.find.result c.find.ensures.found
    c.find.ensures.none) ∙ c.requires.there

pub bytes-requires : goal.bytes-requires
bytes-requires g c =
    let has = subst (λ o. IfSome o (λ frame. page_of (frame_at c.args.frames.now frame) ≡ Some c.args.page))
    c.unwrap-frame.ensures c.find.ensures.found in
    in_use (frame_at c.args.frames.now c.unwrap-frame.result) c.args.page has

pub returns-in-Some : goal.returns-in-Some
returns-in-Some g c = c.copy_bytes.ensures.bytes
    ∙ sym (mark_bytes-copied c.args.frames.now c.args.page c.in-Some.copy c.requires.memory c.in-Some.ensures.found)

pub returns-in-None : goal.returns-in-None
returns-in-None g c =
    let has = subst (λ o. IfSome o (λ frame. page_of (frame_at c.args.frames.now frame) ≡ Some c.args.page))
    c.unwrap-frame.ensures c.find.ensures.found in
    c.bytes.ensures.bytes ∙ sym (mark_bytes-framed c.args.frames.now c.args.page c.unwrap-frame.result c.requires.memory
    c.in-None.ensures.none has)
