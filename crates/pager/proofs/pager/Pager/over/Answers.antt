use Rattle.std.proofs.Common.{◌≡◌, ℕ, ◌*◌, ◌≤◌, List, length, subst, sym, refl, arith}
use Rattle.std.specs.Vec.{vec_capacity}
use Rattle.volume_codec.specs.Layout.{max_frames}
use Rattle.volume_codec.specs.Super.{SuperValue, Fits, block_count}
use Rattle.volume_codec.specs.Lengths.{AreLengths}
use Rattle.recovery.specs.Volume.{VolumeState}
use Rattle.pager.specs.State.{PagerState, newly_opened}
use Rattle.pager.specs.inside.Sound.{IsSound, IsPager}
use Rattle.pager.proofs.pager.Pager.over.Goals as goal

fresh_sound : {D : Type 0} (seen : D → List ℕ) (v : VolumeState D) (most : ℕ) → Fits v.table
    → 4096 * block_count v.table ≤ length (seen v.device) → AreLengths v.table v.lengths
    → most ≤ max_frames v.table.layout v.table.slots → IsSound seen (newly_opened v most)
fresh_sound seen v most fits long lengths few = record {
  fits = fits;
  long = long;
  lengths = lengths;
  geometry = refl;
  rising = tt;
  ends = λ file home past next. refl;
  few = omega arith;
  most = few;
  tied = refl;
  few_batches = omega arith;
  marked = tt;
}

pub invariant_of-result : goal.invariant_of-result
invariant_of-result g c =
    let v : VolumeState g.row.D.Denot = c.args.volume in
    let well = c.into_parts-table.ensures.well_formed in
    let most = c.most_pages-most.result in
    let table : c.into_parts-table.result.0 ≡ v.table = c.into_parts-table.ensures.table in
    let device : c.into_parts-table.result.1 ≡ v.device = c.into_parts-table.ensures.device in
    let few : most ≤ max_frames v.table.layout v.table.slots =
    subst (λ (t : SuperValue). most ≤ max_frames t.layout t.slots) table
    (omega (arith, c.most_pages-most.ensures)) in
    let s : PagerState g.row.D.Denot = newly_opened v most in
    let p : IsPager g.D.Device.seen s (vec_capacity c.args.room.records) (vec_capacity c.args.room.homes) = record {
      sound = fresh_sound g.D.Device.seen v most well.fits well.long well.lengths few;
      lists = c.requires.list_room;
      homes = c.requires.home_room;
    } in
    let same : s ≡ record {
      table = c.into_parts-table.result.0;
      lengths = c.args.room.lengths.items;
      most = most;
      staged = c.new.result;
      write_outs = c.args.room.write_outs;
      records = c.args.room.records.items;
      marks = 0;
      device = c.into_parts-table.result.1;
    } = λ i. record {
      table = sym table i;
      lengths = sym c.requires.lengths_are i;
      most = most;
      staged = sym c.new.ensures i;
      write_outs = sym c.requires.outs i;
      records = sym c.requires.none i;
      marks = 0;
      device = sym device i;
    } in
    subst (λ (t : PagerState g.row.D.Denot).
    IsPager g.D.Device.seen t (vec_capacity c.args.room.records) (vec_capacity c.args.room.homes)) same p
