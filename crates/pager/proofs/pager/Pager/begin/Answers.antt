use Rattle.std.proofs.Common.{◌≡◌, ◌+◌, ◌<◌, List, [], ◌∷◌, ◌++◌, subst, sym, ap, ◌∙◌, arith, false}
use Rattle.std.specs.Prelude.{is_ok, IsOk, ◌≢◌, ◌^◌, ◌-◌}
use Rattle.journal.specs.LedTo.{MayBegin}
use Rattle.std.proofs.lemmas.Bool.{cond-true}
use Rattle.journal.specs.WriteOuts.{WriteOutsValue, begun, is_busy}
use Rattle.kept_blocks.specs.Blocks.{Blocks, homes_in}
use Rattle.pager.specs.State.{PagerState}
use Rattle.pager.specs.Calls.{after_commit}
use Rattle.pager.specs.inside.Sound.{IsSound}
use Rattle.pager.proofs.Beginning.{with_batch, committed_some, room_for_batch, as_many_records, begun_sound, may_begin}
use Rattle.pager.proofs.Inside.{state_of}
use Rattle.pager.proofs.pager.Pager.begin.Goals as goal

module _ (g : _) (c : goal.Joined-push g) where
  abbrev state : PagerState g.row.D.Denot
  state = state_of c.self.inside

  free : is_busy state.write_outs ≡ false
  free = ap (λ (s : PagerState g.row.D.Denot). is_busy s.write_outs) c.self.view_is ∙ c.requires.free

  outs : c.begin_blocks.new.self ≡ begun state.write_outs (state.marks + 1) (homes_in state.staged)
  outs = c.begin_blocks.ensures
      ∙ (λ i. begun state.write_outs (c.from.ensures i) ((c.deref.ensures.value ∙ c.list_homes.ensures.items) i))

  pushed : c.push.new.self.items ≡ state.records ++ state.staged ∷ []
  pushed =
      let size = c.self.inside.records.ok.0 in
      let ok : IsOk c.push.result = c.push.ensures.succeeds (omega (
        arith,
        room_for_batch g.D.Device.seen state c.self.invariant.sound free,
        as_many_records g.D.Device.seen state c.self.invariant.sound,
        size,
        c.self.invariant.lists,
      )) in
      c.push.ensures.items
      ∙ cond-true (is_ok c.push.result) (state.records ++ c.replace-blocks.result ∷ []) state.records ok
      ∙ ap (λ (b : Blocks). state.records ++ b ∷ []) c.replace-blocks.ensures.value

  none : c.replace-blocks.new.dest ≡ []
  none = c.replace-blocks.ensures.after ∙ c.new.ensures

pub invariant_of-self : goal.invariant_of-self
invariant_of-self g c =
    let s = state g c in
    record {
      sound = subst (λ (b : Blocks). IsSound g.D.Device.seen (record (with_batch s s.staged) {
        staged = b;
        write_outs = c.begin_blocks.new.self;
        records = c.push.new.self.items;
      })) (sym (none g c))
          (subst (λ (o : WriteOutsValue). IsSound g.D.Device.seen (record (with_batch s s.staged) {
            write_outs = o;
            records = c.push.new.self.items;
          })) (sym (outs g c))
          (subst (λ (l : List Blocks). IsSound g.D.Device.seen (record (with_batch s s.staged) { records = l }))
          (sym (pushed g c)) (begun_sound g.D.Device.seen s c.self.invariant.sound (free g c))));
      lists = omega (arith, c.push.ensures.capacity, c.self.invariant.lists);
      homes = omega (arith, c.list_homes.ensures.room, c.clear.ensures.capacity, c.self.invariant.homes);
    }

pub returns-clause-committed : goal.returns-clause-committed
returns-clause-committed g c =
    let s = state g c in
    (λ i. record s {
      staged = none g c i;
      write_outs = outs g c i;
      records = pushed g c i;
      marks = s.marks + 1;
    })
    ∙ sym (committed_some s s.staged (λ e. c.requires.some (ap (λ (p :
    PagerState g.row.D.Denot). p.staged) (sym c.self.view_is) ∙ e)))
    ∙ ap (λ (p : PagerState g.row.D.Denot). after_commit p) c.self.view_is

pub returns-clause-begins : goal.returns-clause-begins
returns-clause-begins g c =
    let back = λ (P : PagerState g.row.D.Denot → Type 0) (p : P c.args.self.now). subst P (sym c.self.view_is) p in
    subst (λ (p : PagerState g.row.D.Denot). MayBegin p.write_outs (p.marks + 1) (homes_in p.staged)) c.self.view_is
    (may_begin g.D.Device.seen (state g c) c.self.invariant.sound
    (back (λ p. p.write_outs.broken ≡ false) c.requires.whole) (free g c)
    (back (λ p. p.staged ≢ []) c.requires.some) (back (λ p. p.marks < 2 ^ 32 - 1) c.requires.marks))
