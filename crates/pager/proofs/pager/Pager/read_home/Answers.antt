use Rattle.std.proofs.Common.{◌≡◌, ℕ, ◌+◌, ◌*◌, ◌-◌, List, subst, sym, ap, ◌∙◌, arith, take, drop, length, Result, Ok}
use Rattle.std.proofs.Common.{Err}
use Rattle.std.specs.Prelude.{OnOk, slice_range}
use Rattle.volume_codec.specs.Layout.{block_at}
use Rattle.pager.specs.State.{PagerState}
use Rattle.pager.proofs.pager.Pager.read_home.Goals as goal

block_range : (bytes : List ℕ) (at block n : ℕ) → at ≡ block → n ≡ 4096
    → slice_range bytes (4096 * at) (4096 * at + n) ≡ block_at bytes block
block_range bytes at block n same size =
    let count : 4096 * at + n - 4096 * at ≡ 4096 = omega arith in
    ap (λ k. take k (drop (4096 * at) bytes)) count ∙ ap (λ k. take 4096 (drop (4096 * k) bytes)) same

on_ok : {X E : Type 0} (r : Result X E) (P Q : Type 0) → (P → Q) → OnOk r P → OnOk r Q
on_ok (Ok x) P Q f ok = f ok
on_ok (Err e) P Q f ok = tt

pub returns-clause-bytes : goal.returns-clause-bytes
returns-clause-bytes g c honest =
    let seen = g.D.Device.seen in
    let size : length c.args.buffer.now ≡ 4096 = omega (arith, c.fits-buffer) in
    let honest_inside = subst (λ (s : PagerState g.row.D.Denot). g.D.Device.is_honest s.device)
    (sym c.self.view_is) honest in
    on_ok c.read.result _ _ (λ (e : c.read.new.buffer ≡ slice_range (seen c.self.inside.device)
    (4096 * c.from.result) (4096 * c.from.result + length c.args.buffer.now)).
    e ∙ block_range (seen c.self.inside.device) c.from.result c.args.home (length c.args.buffer.now) c.from.ensures size
    ∙ ap (λ (s : PagerState g.row.D.Denot). block_at (seen s.device) c.args.home) c.self.view_is)
    (c.read.ensures.bytes honest_inside)
