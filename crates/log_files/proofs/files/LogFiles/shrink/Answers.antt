use Rattle.std.proofs.Common.{◌≡◌, ℕ, ◌+◌, ◌%◌, ◌<◌, false, List, [], ap, sym, ◌∙◌, subst, arith, set, refl}
use Rattle.std.specs.Prelude.{nat_lt}
use Rattle.volume_codec.specs.Super.{pages_of}
use Rattle.kept_blocks.specs.Blocks.{Blocks}
use Rattle.pager.specs.State.{file_length}
use Rattle.pager.proofs.Public.{length_fits}
use Rattle.log_codec.specs.Log.{LogValue, first_log_home}
use Rattle.log_volume.specs.Super.{table_of}
use Rattle.log_files.specs.State.{LogFilesState, log_first_home_of, pages_put}
use Rattle.log_files.specs.Calls.{log_restaged, log_resized_to}
use Rattle.log_files.specs.inside.Sound.{IsSoundLogFiles}
use Rattle.log_files.proofs.Resizing.{room_shrunk, resized_shrunk, sound_shrunk}
use Rattle.log_files.proofs.Seen.{files_state_of, IsAskedLength, asked_length, over_now}
use Rattle.log_files.proofs.files.LogFiles.shrink.Goals.{After-home_after-low, After-self-1}
use Rattle.log_files.proofs.files.LogFiles.shrink.Goals as goal

module _ (g : _) (c : After-home_after-low g) where
  abbrev s : LogFilesState g.row.D.Denot
  s = files_state_of c.self.inside

  asked : IsAskedLength s c.args.file c.args.from c.args.to
  asked = asked_length s c.args.self.now c.args.file c.args.from c.args.to c.self.view_is c.requires.may
      c.requires.from

  room : nat_lt c.args.self.now.most (pages_put c.args.self.now.table (log_restaged c.args.self.now.table
      c.args.self.now.lengths c.args.file c.args.to [] c.args.self.now.pager.staged)) ≡ false
  room = subst (λ (p : LogFilesState g.row.D.Denot). nat_lt p.most (pages_put p.table
      (log_restaged p.table p.lengths c.args.file c.args.to [] p.pager.staged)) ≡ false) c.self.view_is
      (room_shrunk g.D.Device.seen s c.self.invariant c.args.file c.args.to asked.may
      (omega (arith, asked.from_is, c.requires.less)))

pub home_after-high-requires-clause-fits : goal.home_after-high-requires-clause-fits
home_after-high-requires-clause-fits g c = omega (
  arith,
  (asked g c).from_is,
  length_fits (table_of c.self.inside.table) c.self.inside.lengths.items c.self.invariant.lengths c.args.file,
)

pub end_home-home-requires-clause-fits : goal.end_home-home-requires-clause-fits
end_home-home-requires-clause-fits g c =
    let a = (goal.at.end_home-home-requires-clause-fits g c).After-home_after-low in
    omega (
      arith,
      (asked g a).from_is,
      length_fits (table_of c.self.inside.table) c.self.inside.lengths.items c.self.invariant.lengths c.args.file,
      c.requires.less,
    )

module _ (g : _) (c : After-self-1 g) where
  abbrev t : LogFilesState g.row.D.Denot
  t = files_state_of c.self.inside

  asked_now : IsAskedLength t c.args.file c.args.from c.args.to
  asked_now = asked_length t c.args.self.now c.args.file c.args.from c.args.to c.self.view_is c.requires.may
      c.requires.from

  shrinks : c.args.to < file_length t.lengths c.args.file
  shrinks = omega (arith, asked_now.from_is, c.requires.less)

  pager_is : (last : List ℕ) → c.shrink.new.self ≡ record t.pager {
    staged = log_restaged t.table t.lengths c.args.file c.args.to last t.pager.staged;
  }
  pager_is last = c.in-Ok.ensures.ok
      ∙ ap (λ (m : Blocks). record t.pager { staged = m })
      (resized_shrunk g.D.Device.seen t c.self.invariant c.args.file c.args.to asked_now.may shrinks
      c.home_after-low.result c.home_after-high.result c.end_home-home.result c.first_home-first.result
      (c.args.to % 4096) c.text_with-text.result last c.home_after-low.ensures.home
      (c.home_after-high.ensures.home ∙ ap (λ n. log_first_home_of t.table c.args.file + pages_of n) asked_now.from_is)
      c.end_home-home.ensures.home
      (c.first_home-first.ensures.value ∙ ap (λ (l : LogValue). first_log_home l.ring) c.log.ensures.value)
      refl c.text_with-text.ensures.text)

  new_is : (last : List ℕ) → record t {
    lengths = set c.text_with-text.new.lengths.items c.args.file c.args.to;
    pager = c.shrink.new.self;
  } ≡ log_resized_to t c.args.file c.args.to last t.pager.device
  new_is last = λ i. record t {
    lengths = set (c.text_with-text.ensures.same i) c.args.file c.args.to;
    pager = pager_is last i;
  }

pub invariant_of-self : goal.invariant_of-self
invariant_of-self g c = subst (IsSoundLogFiles g.D.Device.seen) (sym (new_is g c []))
    (sound_shrunk g.D.Device.seen (t g c) c.self.invariant c.args.file c.args.to (asked_now g c).may [] (shrinks g c))

pub returns-in-Ok-clause-room : goal.returns-in-Ok-clause-room
returns-in-Ok-clause-room g c = room g (goal.at.returns-in-Ok-clause-room g c).After-home_after-low

pub returns-in-Ok-clause-ok : goal.returns-in-Ok-clause-ok
returns-in-Ok-clause-ok g c last = new_is g c last
    ∙ ap (λ (p : LogFilesState g.row.D.Denot). log_resized_to p c.args.file c.args.to last p.pager.device)
    c.self.view_is

pub returns-in-Ok-clause-over : goal.returns-in-Ok-clause-over
returns-in-Ok-clause-over g c = λ contents over.
    over_now g.D.Device (files_state_of c.self.inside) c.args.self.now c.shrink.new.self contents c.self.view_is
    (c.shrink.ensures.over contents) over

pub returns-in-Err-clause-room : goal.returns-in-Err-clause-room
returns-in-Err-clause-room g c = room g (goal.at.returns-in-Err-clause-room g c).After-home_after-low
