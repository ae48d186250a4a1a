use Rattle.std.proofs.Common.{None, get_or, sym, ◌∙◌, ap, arith}
use Rattle.slab.specs.Slab.{get}
use Rattle.frames.specs.Frames.{page_of}
use Rattle.frames.proofs.PageLemmas.{page_of-frames_by, page_of-past}
use Rattle.frames.proofs.pages.Pages.page.Goals as goal

pub returns-then-number-len : goal.returns-then-number-len
returns-then-number-len g c =
    let found = page_of-frames_by (get c.self.inside.pages) c.self.inside.bytes.items c.args.number
    (omega (arith, c.self.inside.bytes.ok.0, c.if-number-len.true)) in
    c.copied.ensures ∙ c.get.ensures ∙ sym found ∙ ap (λ s. page_of (get_or s c.args.number None)) c.self.view_is

pub returns-else-number-len : goal.returns-else-number-len
returns-else-number-len g c =
    let past = page_of-past (get c.self.inside.pages) c.self.inside.bytes.items c.args.number
    (omega (arith, c.self.inside.bytes.ok.0, c.if-number-len.false)) in
    sym past ∙ ap (λ s. page_of (get_or s c.args.number None)) c.self.view_is
