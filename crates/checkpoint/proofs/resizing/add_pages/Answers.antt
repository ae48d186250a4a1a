use Rattle.std.proofs.Common.{◌+◌, count_by, is_none, sym, ap, subst, ◌∙◌, arith}
use Rattle.std.proofs.lemmas.Bool.{false≢true}
use Rattle.frames.specs.Frames.{FramesState, Frame, zero_page}
use Rattle.frames.proofs.Public.{free_less}
use Rattle.checkpoint.specs.inside.Resized.{AddsPages}
use Rattle.checkpoint.proofs.Added.{AddsPages-more, free_left, page_in}
use Rattle.checkpoint.proofs.resizing.add_pages.Goals as goal

-- a frame is left for each page that comes
pub unreachable-requires : goal.unreachable-requires
unreachable-requires g c = false≢true (c.in_default.ensures.ok
    ∙ free_left c.loop-page.frames.frames (omega (arith, c.loop-page.invariant.room, c.loop-page-test.true)))

pub loop-page-preserved : goal.loop-page-preserved
loop-page-preserved g c =
    let now = c.loop-page.frames in
    let page = c.loop-page.page in
    let frame = c.in-Ok._frame in
    let taken = c.in-Ok.ensures.taken in
    let free = c.in-Ok.ensures.was_free in
    record {
      adds = subst (AddsPages c.args.file c.args.first (page + 1) c.args.frames.now) (sym taken)
          (AddsPages-more c.args.file c.args.first page c.args.frames.now now frame c.loop-page.auto.page free
          c.loop-page.invariant.adds);
      room = omega (
        arith,
        c.loop-page.invariant.room,
        free_less now frame (page_in c.args.file page) zero_page free,
        ap (λ (s : FramesState). count_by (is_none {T = Frame}) s.frames) taken,
      );
    }
