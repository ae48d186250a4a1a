use Rattle.std.proofs.Common.{◌≡◌, ◌%◌, ◌<◌, ℕ, List, false, [], ap, sym, ◌∙◌, subst, arith, set}
use Rattle.std.specs.Prelude.{nat_lt}
use Rattle.kept_blocks.specs.Blocks.{Blocks, cut_to}
use Rattle.pager.specs.State.{file_length}
use Rattle.pager.specs.Calls.{end_page}
use Rattle.log_codec.specs.Log.{LogValue, first_log_home}
use Rattle.log_files.specs.State.{LogFilesState, log_home_of, pages_put}
use Rattle.log_files.specs.Calls.{log_restaged, log_resized_to}
use Rattle.log_files.specs.inside.Sound.{IsSoundLogFiles, MayHaveLogLength}
use Rattle.log_files.proofs.Resizing.{none_added, resized_grown, sound_grown}
use Rattle.log_files.proofs.Seen.{files_state_of, over_now}
use Rattle.log_files.proofs.files.LogFiles.put_growth.Goals.{After-self-1}
use Rattle.log_files.proofs.files.LogFiles.put_growth.Goals as goal

pub grow-requires-clause-none : goal.grow-requires-clause-none
grow-requires-clause-none g c q above below =
    let s : LogFilesState g.row.D.Denot = files_state_of c.self.inside in
    let from_is : c.length_at-from.result ≡ file_length s.lengths c.args.file =
    c.length_at-from.ensures ∙ ap (λ (l : List ℕ). file_length l c.args.file) c.deref.ensures.value in
    let back = λ (P : LogFilesState g.row.D.Denot → Type 0) (p : P c.args.self.now). subst P (sym c.self.view_is) p in
    let home_is : c.end_home-home.result
    ≡ log_home_of s.table (end_page c.args.file (file_length s.lengths c.args.file)) =
    c.end_home-home.ensures.home ∙ ap (λ n. log_home_of s.table (end_page c.args.file n)) from_is in
    none_added g.D.Device.seen s c.self.invariant c.args.file c.args.to
    (back (λ p. MayHaveLogLength p.table c.args.file c.args.to) c.requires.may)
    (back (λ p. file_length p.lengths c.args.file < c.args.to) c.requires.more) q (omega (arith, above, home_is))
    (omega (arith, below, c.home_after-high.ensures.home))

module _ (g : _) (c : After-self-1 g) where
  abbrev t : LogFilesState g.row.D.Denot
  t = files_state_of c.self.inside

  from_is : c.length_at-from.result ≡ file_length t.lengths c.args.file
  from_is = c.length_at-from.ensures ∙ ap (λ (l : List ℕ). file_length l c.args.file) c.deref.ensures.value

  may : MayHaveLogLength t.table c.args.file c.args.to
  may = subst (λ (p : LogFilesState g.row.D.Denot). MayHaveLogLength p.table c.args.file c.args.to) (sym c.self.view_is)
      c.requires.may

  grows : file_length t.lengths c.args.file < c.args.to
  grows = subst (λ (p : LogFilesState g.row.D.Denot). file_length p.lengths c.args.file < c.args.to)
      (sym c.self.view_is) c.requires.more

  pager_is : c.grow.new.self ≡ record t.pager {
    staged = log_restaged t.table t.lengths c.args.file c.args.to c.args.last.now t.pager.staged;
  }
  pager_is = c.in-Ok.ensures.ok
      ∙ ap (λ (m : Blocks). record t.pager { staged = m })
      (resized_grown g.D.Device.seen t c.self.invariant c.args.file c.args.to may grows
      c.end_home-home.result c.home_after-high.result c.first_home-first.result c.cut_off.new.page
      c.text_with-text.result c.args.last.now
      (c.end_home-home.ensures.home ∙ ap (λ n. log_home_of t.table (end_page c.args.file n)) from_is)
      c.home_after-high.ensures.home
      (c.first_home-first.ensures.value ∙ ap (λ (l : LogValue). first_log_home l.ring) c.log.ensures.value)
      (c.cut_off.ensures ∙ ap (λ n. cut_to (n % 4096) c.args.last.now) from_is)
      c.text_with-text.ensures.text)

  new_is : record t {
    lengths = set c.text_with-text.new.lengths.items c.args.file c.args.to;
    pager = c.grow.new.self;
  } ≡ log_resized_to t c.args.file c.args.to c.args.last.now t.pager.device
  new_is = λ i. record t {
    lengths = set (c.text_with-text.ensures.same i) c.args.file c.args.to;
    pager = pager_is i;
  }

pub invariant_of-self : goal.invariant_of-self
invariant_of-self g c = subst (IsSoundLogFiles g.D.Device.seen) (sym (new_is g c))
    (sound_grown g.D.Device.seen (t g c) c.self.invariant c.args.file c.args.to (may g c) c.args.last.now
    (grows g c) (subst (λ (p : LogFilesState g.row.D.Denot). nat_lt p.most (pages_put p.table
    (log_restaged p.table p.lengths c.args.file c.args.to [] p.pager.staged)) ≡ false) (sym c.self.view_is)
    c.requires.room))

pub returns-in-Ok-clause-ok : goal.returns-in-Ok-clause-ok
returns-in-Ok-clause-ok g c = new_is g c
    ∙ ap (λ (p : LogFilesState g.row.D.Denot). log_resized_to p c.args.file c.args.to c.args.last.now p.pager.device)
    c.self.view_is

pub returns-in-Ok-clause-over : goal.returns-in-Ok-clause-over
returns-in-Ok-clause-over g c = λ contents over.
    over_now g.D.Device (files_state_of c.self.inside) c.args.self.now c.grow.new.self contents c.self.view_is
    (c.grow.ensures.over contents) over
