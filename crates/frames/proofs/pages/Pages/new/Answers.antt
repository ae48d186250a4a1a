use Rattle.std.proofs.Common.{None, length, replicate, ap, ◌∙◌, arith}
use Rattle.std.proofs.lemmas.List.{length-replicate}
use Rattle.slab.specs.Slab.{get}
use Rattle.frames.specs.Frames.{zero_page}
use Rattle.frames.proofs.PageLemmas.{frames_by-none}
use Rattle.frames.proofs.pages.Pages.new.Goals as goal

pub invariant_of-result : goal.invariant_of-result
invariant_of-result g c =
    let size = ap length c.in_ok-bytes.ensures ∙ length-replicate c.args.count zero_page in
    record {
      numbered = omega (arith, size);
      room = omega (arith, size, c.in_ok-pages.ensures.room);
      reserved = λ number past. c.in_ok-pages.ensures.reserved number (omega (arith, size));
    }

pub returns : goal.returns
returns g c =
    let size = ap length c.in_ok-bytes.ensures ∙ length-replicate c.args.count zero_page in
    frames_by-none (get c.in_ok-pages.pages) c.in_ok-bytes.bytes.items
    (λ k h. c.in_ok-pages.ensures.free k (omega (arith, size)))
    ∙ ap (λ n. replicate n None) size
