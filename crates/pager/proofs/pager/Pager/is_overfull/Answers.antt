use Rattle.std.proofs.Common.{◌≡◌, ℕ, ◌+◌, ◌-◌, ◌/◌, ◌<◌, true, false, List, [], Option, Some, None, ap, sym, ◌∙◌}
use Rattle.std.proofs.Common.{subst, arith}
use Rattle.std.proofs.Common.{Bor, refl}
use Rattle.std.specs.Prelude.{is_some, nat_lt}
use Rattle.std.specs.Option.{option_copied}
use Rattle.volume_codec.specs.Layout.{lengths_blocks}
use Rattle.volume_codec.specs.Super.{pages_of}
use Rattle.journal.specs.Pages.{home_of}
use Rattle.kept_blocks.specs.Blocks.{bytes_in}
use Rattle.pager.specs.State.{PagerState, file_length, reserved}
use Rattle.pager.specs.Calls.{is_overfull, restaged, end_page}
use Rattle.pager.specs.inside.Resizing.{MayHaveLength}
use Rattle.pager.proofs.Inside.{state_of}
use Rattle.pager.proofs.Ends.{added_to, added_some, added_none}
use Rattle.pager.proofs.Resizing.{overfull_grown}
use Rattle.pager.proofs.pager.Pager.is_overfull.Goals.{then-is_some, else-is_some}
use Rattle.pager.proofs.pager.Pager.is_overfull.Goals as goal

some_copied : (o : Option (Bor (List ℕ))) → is_some (option_copied o) ≡ is_some o
some_copied None = refl
some_copied (Some x) = refl

pub returns : goal.returns
returns g c =
    let s = state_of c.self.inside in
    let back = λ (P : PagerState g.row.D.Denot → Type 0) (p : P c.args.self.now). subst P (sym c.self.view_is) p in
    let may = back (λ p. MayHaveLength p.table c.args.file c.args.to) c.requires.may in
    let from_is : c.args.from ≡ file_length s.lengths c.args.file =
    back (λ p. c.args.from ≡ file_length p.lengths c.args.file) c.requires.from in
    let grows : file_length s.lengths c.args.file < c.args.to = omega (arith, from_is, c.requires.more) in
    let home = home_of s.table (end_page c.args.file (file_length s.lengths c.args.file)) in
    let many = pages_of c.args.to - (file_length s.lengths c.args.file / 4096 + 1) in
    let home_is : c.last_block-home.result ≡ home =
    c.last_block-home.ensures.home ∙ ap (λ n. home_of s.table (end_page c.args.file n)) from_is in
    let there : c.is_some.result ≡ is_some (bytes_in s.staged home) =
    c.is_some.ensures ∙ sym (some_copied c.get.result) ∙ ap is_some (c.get.ensures ∙ ap (bytes_in s.staged) home_is) in
    let more : c.if-is_some.more ≡ added_to (bytes_in s.staged home) many = elim c.if-is_some.branch [
      | then-is_some w ↦ (let is = added_some (bytes_in s.staged home) many (sym there ∙ w.if-is_some.true) in
          omega (arith, w.more-is, is, home_is, c.block_after.ensures.home, grows))
      | else-is_some w ↦ (let is = added_none (bytes_in s.staged home) many (sym there ∙ w.if-is_some.false) in
          omega (arith, w.more-is, is, home_is, c.block_after.ensures.home, grows))
    ] in
    let kept : c.reserved.result ≡ reserved s.table s.staged =
    back (λ p. c.reserved.result ≡ reserved p.table p.staged) c.reserved.ensures.value in
    let blocks : c.lengths_blocks.result ≡ lengths_blocks s.table.layout =
    back (λ p. c.lengths_blocks.result ≡ lengths_blocks p.table.layout) c.lengths_blocks.ensures.value in
    (λ i. nat_lt (s.most + blocks i) (c.len.ensures i + more i + kept i))
    ∙ sym (overfull_grown g.D.Device.seen s c.self.invariant.sound c.args.file c.args.to may grows)
    ∙ ap (λ (p : PagerState g.row.D.Denot). is_overfull p.table p.most
    (restaged p.table p.lengths c.args.file c.args.to [] p.staged)) c.self.view_is
