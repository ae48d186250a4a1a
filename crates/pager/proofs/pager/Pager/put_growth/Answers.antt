use Rattle.std.proofs.Common.{◌≡◌, ◌%◌, ◌<◌, ℕ, List, false, [], ap, sym, ◌∙◌, subst, arith, set}
use Rattle.volume_codec.specs.Layout.{first_home}
use Rattle.journal.specs.Pages.{home_of}
use Rattle.kept_blocks.specs.Blocks.{cut_to}
use Rattle.pager.specs.State.{PagerState, file_length}
use Rattle.pager.specs.Calls.{is_overfull, restaged, resized_to, end_page}
use Rattle.pager.specs.inside.Sound.{IsSound}
use Rattle.pager.specs.inside.Resizing.{MayHaveLength}
use Rattle.pager.proofs.Inside.{state_of}
use Rattle.pager.proofs.Resizing.{none_added, resized_grown, sound_grown}
use Rattle.pager.proofs.pager.Pager.put_growth.Goals.{After-self-1}
use Rattle.pager.proofs.pager.Pager.put_growth.Goals as goal

pub grow-requires-clause-none : goal.grow-requires-clause-none
grow-requires-clause-none g c q above below =
    let s : PagerState g.row.D.Denot = state_of c.self.inside in
    let from_is : c.length_at-from.result ≡ file_length s.lengths c.args.file =
    c.length_at-from.ensures ∙ ap (λ (l : List ℕ). file_length l c.args.file) c.deref.ensures.value in
    let back = λ (P : PagerState g.row.D.Denot → Type 0) (p : P c.args.self.now). subst P (sym c.self.view_is) p in
    let home_is : c.last_block-home.result
    ≡ home_of s.table (end_page c.args.file (file_length s.lengths c.args.file)) =
    c.last_block-home.ensures.home ∙ ap (λ n. home_of s.table (end_page c.args.file n)) from_is in
    none_added g.D.Device.seen s c.self.invariant.sound c.args.file c.args.to
    (back (λ p. MayHaveLength p.table c.args.file c.args.to) c.requires.may)
    (back (λ p. file_length p.lengths c.args.file < c.args.to) c.requires.more) q (omega (arith, above, home_is))
    (omega (arith, below, c.block_after-high.ensures.home))

module _ (g : _) (c : After-self-1 g) where
  abbrev t : PagerState g.row.D.Denot
  t = state_of c.self.inside

  from_is : c.length_at-from.result ≡ file_length t.lengths c.args.file
  from_is = c.length_at-from.ensures ∙ ap (λ (l : List ℕ). file_length l c.args.file) c.deref.ensures.value

  may : MayHaveLength t.table c.args.file c.args.to
  may = subst (λ (p : PagerState g.row.D.Denot). MayHaveLength p.table c.args.file c.args.to) (sym c.self.view_is)
      c.requires.may

  grows : file_length t.lengths c.args.file < c.args.to
  grows = subst (λ (p : PagerState g.row.D.Denot). file_length p.lengths c.args.file < c.args.to) (sym c.self.view_is)
      c.requires.more

  staged_is : c.grow.new.self ≡ restaged t.table t.lengths c.args.file c.args.to c.args.last.now t.staged
  staged_is = c.in-Ok.ensures.ok
      ∙ resized_grown g.D.Device.seen t c.self.invariant.sound c.args.file c.args.to may grows
      c.last_block-home.result c.block_after-high.result c.first_home-first.result c.cut_off.new.page
      c.text_with-text.result c.args.last.now
      (c.last_block-home.ensures.home ∙ ap (λ n. home_of t.table (end_page c.args.file n)) from_is)
      c.block_after-high.ensures.home
      (c.first_home-first.ensures.value ∙ ap (λ v. first_home v.layout v.slots) c.geometry.ensures.value)
      (c.cut_off.ensures ∙ ap (λ n. cut_to (n % 4096) c.args.last.now) from_is)
      c.text_with-text.ensures.text

  new_is : record t {
    lengths = set c.text_with-text.new.lengths.items c.args.file c.args.to;
    staged = c.grow.new.self;
  } ≡ resized_to t c.args.file c.args.to c.args.last.now t.device
  new_is = λ i. record t {
    lengths = set (c.text_with-text.ensures.same i) c.args.file c.args.to;
    staged = staged_is i;
  }

pub invariant_of-self : goal.invariant_of-self
invariant_of-self g c = record {
  sound = subst (IsSound g.D.Device.seen) (sym (new_is g c))
      (sound_grown g.D.Device.seen (t g c) c.self.invariant.sound c.args.file c.args.to (may g c) c.args.last.now
      (grows g c) (subst (λ (p : PagerState g.row.D.Denot). is_overfull p.table p.most
      (restaged p.table p.lengths c.args.file c.args.to [] p.staged) ≡ false) (sym c.self.view_is) c.requires.room));
  lists = c.self.invariant.lists;
  homes = c.self.invariant.homes;
}

pub returns-in-Ok-clause-ok : goal.returns-in-Ok-clause-ok
returns-in-Ok-clause-ok g c = new_is g c
    ∙ ap (λ (p : PagerState g.row.D.Denot). resized_to p c.args.file c.args.to c.args.last.now p.device) c.self.view_is
