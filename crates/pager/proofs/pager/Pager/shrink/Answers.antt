use Rattle.std.proofs.Common.{◌≡◌, ℕ, ◌+◌, ◌%◌, ◌<◌, false, List, [], ap, sym, ◌∙◌, subst, arith, set, refl}
use Rattle.volume_codec.specs.Layout.{first_home}
use Rattle.volume_codec.specs.Super.{first_home_of, pages_of}
use Rattle.pager.specs.State.{PagerState, file_length}
use Rattle.pager.specs.Calls.{is_overfull, restaged, resized_to}
use Rattle.pager.specs.inside.Sound.{IsSound}
use Rattle.pager.proofs.Capacities.{length_fits}
use Rattle.pager.proofs.Inside.{state_of, IsAsked, asked_of}
use Rattle.pager.proofs.Resizing.{shrunk_room, resized_shrunk, sound_shrunk}
use Rattle.pager.proofs.pager.Pager.shrink.Goals.{After-block_after-low, After-self-1}
use Rattle.pager.proofs.pager.Pager.shrink.Goals as goal

module _ (g : _) (c : After-block_after-low g) where
  abbrev s : PagerState g.row.D.Denot
  s = state_of c.self.inside

  asked : IsAsked s c.args.file c.args.from c.args.to
  asked = asked_of s c.args.self.now c.args.file c.args.from c.args.to c.self.view_is c.requires.may c.requires.from

  room : is_overfull c.args.self.now.table c.args.self.now.most (restaged c.args.self.now.table c.args.self.now.lengths
      c.args.file c.args.to [] c.args.self.now.staged) ≡ false
  room = subst (λ (p : PagerState g.row.D.Denot). is_overfull p.table p.most
      (restaged p.table p.lengths c.args.file c.args.to [] p.staged) ≡ false) c.self.view_is
      (shrunk_room g.D.Device.seen s c.self.invariant.sound c.args.file c.args.to asked.may
      (omega (arith, asked.from_is, c.requires.less)))

pub block_after-high-requires-clause-fits : goal.block_after-high-requires-clause-fits
block_after-high-requires-clause-fits g c = omega (
  arith,
  (asked g c).from_is,
  length_fits c.self.inside.table c.self.inside.lengths.items c.self.invariant.sound.lengths c.args.file,
)

pub last_block-home-requires-clause-fits : goal.last_block-home-requires-clause-fits
last_block-home-requires-clause-fits g c =
    let a = (goal.at.last_block-home-requires-clause-fits g c).After-block_after-low in
    omega (
      arith,
      (asked g a).from_is,
      length_fits c.self.inside.table c.self.inside.lengths.items c.self.invariant.sound.lengths c.args.file,
      c.requires.less,
    )

module _ (g : _) (c : After-self-1 g) where
  abbrev t : PagerState g.row.D.Denot
  t = state_of c.self.inside

  asked_now : IsAsked t c.args.file c.args.from c.args.to
  asked_now = asked_of t c.args.self.now c.args.file c.args.from c.args.to c.self.view_is c.requires.may c.requires.from

  shrinks : c.args.to < file_length t.lengths c.args.file
  shrinks = omega (arith, asked_now.from_is, c.requires.less)

  staged_is : (last : List ℕ) → c.shrink.new.self ≡ restaged t.table t.lengths c.args.file c.args.to last t.staged
  staged_is last = c.in-Ok.ensures.ok
      ∙ resized_shrunk g.D.Device.seen t c.self.invariant.sound c.args.file c.args.to asked_now.may shrinks
      c.block_after-low.result c.block_after-high.result c.last_block-home.result c.first_home-first.result
      (c.args.to % 4096) c.text_with-text.result last c.block_after-low.ensures.home
      (c.block_after-high.ensures.home ∙ ap (λ n. first_home_of t.table c.args.file + pages_of n) asked_now.from_is)
      c.last_block-home.ensures.home
      (c.first_home-first.ensures.value ∙ ap (λ v. first_home v.layout v.slots) c.geometry.ensures.value)
      refl c.text_with-text.ensures.text

  new_is : (last : List ℕ) → record t {
    lengths = set c.text_with-text.new.lengths.items c.args.file c.args.to;
    staged = c.shrink.new.self;
  } ≡ resized_to t c.args.file c.args.to last t.device
  new_is last = λ i. record t {
    lengths = set (c.text_with-text.ensures.same i) c.args.file c.args.to;
    staged = staged_is last i;
  }

pub invariant_of-self : goal.invariant_of-self
invariant_of-self g c =
    record {
      sound = subst (IsSound g.D.Device.seen) (sym (new_is g c []))
          (sound_shrunk g.D.Device.seen (t g c) c.self.invariant.sound c.args.file c.args.to (asked_now g c).may []
          (shrinks g c));
      lists = c.self.invariant.lists;
      homes = c.self.invariant.homes;
    }

pub returns-in-Ok-clause-room : goal.returns-in-Ok-clause-room
returns-in-Ok-clause-room g c = room g (goal.at.returns-in-Ok-clause-room g c).After-block_after-low

pub returns-in-Ok-clause-ok : goal.returns-in-Ok-clause-ok
returns-in-Ok-clause-ok g c last = new_is g c last
    ∙ ap (λ (p : PagerState g.row.D.Denot). resized_to p c.args.file c.args.to last p.device) c.self.view_is

pub returns-in-Err-clause-room : goal.returns-in-Err-clause-room
returns-in-Err-clause-room g c = room g (goal.at.returns-in-Err-clause-room g c).After-block_after-low
