use Rattle.std.proofs.Common.{◌≡◌, ℕ, ◌≤◌, ◌<◌, List, subst, sym, false, Result, Ok, Err, inl, inr, ◌⊎◌}
use Rattle.std.specs.Prelude.{OnOk, OnErr}
use Rattle.std.specs.Vec.{vec_capacity}
use Rattle.volume_codec.specs.Layout.{first_home}
use Rattle.volume_codec.specs.Super.{block_count}
use Rattle.kept_blocks.specs.Blocks.{Blocks, with_home, bytes_in}
use Rattle.pager.specs.State.{PagerState, is_full, IsBeforeEnd}
use Rattle.pager.specs.inside.Sound.{IsPager}
use Rattle.kept_blocks.proofs.Public.{rising_put, bytes_put}
use Rattle.std.proofs.Common.{◌∙◌, eqb, Some, arith}
use Rattle.std.proofs.lemmas.Bool.{cond-false, ne_eqb}
use Rattle.pager.proofs.Rooms.{few_put}
use Rattle.pager.proofs.pager.Pager.stage.Goals.{in-Ok-put, in-Err}
use Rattle.pager.proofs.Inside.{state_of}
use Rattle.pager.proofs.pager.Pager.stage.Goals as goal

put_cases : {X E : Type 0} (r : Result X E) (P Q : Type 0) → OnOk r P → OnErr r Q → P ⊎ Q
put_cases (Ok x) P Q ok err = inl ok
put_cases (Err e) P Q ok err = inr err

pub staged_more : {D : Type 0} (seen : D → List ℕ) (s : PagerState D) (list_room home_room home : ℕ) (v : List ℕ)
    → IsPager seen s list_room home_room → first_home s.table.layout s.table.slots ≤ home
    → home < block_count s.table → IsBeforeEnd s.table s.lengths home
    → is_full s.table s.most s.staged home ≡ false
    → IsPager seen (record s { staged = with_home s.staged home v }) list_room home_room
staged_more seen s list_room home_room home v p low within before room = record {
  sound = record {
    fits = p.sound.fits;
    long = p.sound.long;
    lengths = p.sound.lengths;
    geometry = p.sound.geometry;
    rising = rising_put s.staged (first_home s.table.layout s.table.slots) (block_count s.table) home v p.sound.rising
        low within;
    ends = λ file q past next. bytes_put s.staged home v q
        ∙ cond-false (eqb q home) (Some v) (bytes_in s.staged q) (ne_eqb q home (λ same. before file
        (omega (arith, past, same)) (omega (arith, next, same)))) ∙ p.sound.ends file q past next;
    few = few_put s.table s.most s.staged (first_home s.table.layout s.table.slots) (block_count s.table) home v
        p.sound.rising p.sound.few room;
    most = p.sound.most;
    tied = p.sound.tied;
    few_batches = p.sound.few_batches;
    marked = p.sound.marked;
  };
  lists = p.lists;
  homes = p.homes;
}

pub invariant_of-self : goal.invariant_of-self
invariant_of-self g c =
    let s : PagerState g.row.D.Denot = state_of c.self.inside in
    let with = λ (m : Blocks). IsPager g.D.Device.seen (record s { staged = m })
    (vec_capacity c.self.inside.records) (vec_capacity c.self.inside.homes) in
    let low = subst (λ (p : PagerState g.row.D.Denot). first_home p.table.layout p.table.slots ≤ c.args.home)
    (sym c.self.view_is) c.requires.low in
    let within = subst (λ (p : PagerState g.row.D.Denot). c.args.home < block_count p.table)
    (sym c.self.view_is) c.requires.within in
    let before = subst (λ (p : PagerState g.row.D.Denot). IsBeforeEnd p.table p.lengths c.args.home)
    (sym c.self.view_is) c.requires.before in
    let room = subst (λ (p : PagerState g.row.D.Denot). is_full p.table p.most p.staged c.args.home ≡ false)
    (sym c.self.view_is) c.requires.room in
    elim (put_cases c.put.result _ _ c.put.ensures.ok c.put.ensures.err) [
      | inl e ↦ subst with (sym e) (staged_more g.D.Device.seen s (vec_capacity c.self.inside.records)
          (vec_capacity c.self.inside.homes) c.args.home c.in-Ok.block.value c.self.invariant low within before room)
      | inr e ↦ subst with (sym e) c.self.invariant
    ]
