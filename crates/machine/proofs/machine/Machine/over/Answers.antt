use Rattle.machine.proofs.Names.{false, sym, ap, subst, AreLengths, ShootdownState}
use Rattle.machine.proofs.machine.Machine.over.Goals as goal
use Rattle.machine.proofs.sound.AtBoot.{fresh_sound, lengths_within}
use Rattle.machine.proofs.code.Parts.{reserved_free}

pub invariant_of-result : goal.invariant_of-result
invariant_of-result g c =
    let table = c.args.volume.table in
    let room = c.requires.room in
    let well_formed = c.into_parts-table.ensures.well_formed in
    let are = subst (AreLengths table) (sym room.lengths_are) well_formed.lengths in
    rw (c.into_parts-table.ensures.table, c.into_parts-table.ensures.device) (record {
      sound = fresh_sound _ (record {
        shape = c.args.shape;
        fits = c.requires.shaped;
        as_booted = λ i. record {
          table = table;
          lengths = c.args.room.lengths.items;
          hardware = record { shootdown = room.shootdown i; spaces = (room.spaces i).map; memory = room.frames i };
          checkpoint = room.checkpoint i;
          write_outs = room.write_outs i;
          marks = 0;
          resized = false;
        };
      }) well_formed.fits are.count (lengths_within table.files _ are.count are.within);
      long = well_formed.long;
      reserved = reserved_free _ _ (ap (λ (s : ShootdownState). s.lock) room.shootdown);
    })
