use Rattle.std.proofs.Common.{◌≡◌, ◌+◌, ◌-◌, ◌*◌, drop, sym, ap, ◌∙◌, arith}
use lib.Lanes.{mask_l, chunk}
use Rattle.page_table.proofs.Masks.{dirties, mask_more, mask_small, lanes_small, lanes_read, none_left, length_lanes}
use Rattle.page_table.proofs.lanes.dirty_word.Goals as goal

pub loop-from-init : goal.loop-from-init
loop-from-init c = record {
  within = omega arith;
  eighth = omega arith;
  made = sym (none_left 64 c.args.entries.now (omega (arith, c.requires)));
}

pub overflow_mul-word : goal.overflow_mul-word
overflow_mul-word c =
    let inv = c.loop-from.invariant in
    let small = mask_small c.args.entries.now c.loop-from.from c.requires (omega arith) inv.within in
    record { fits = omega (arith, small, inv.made) }

read : (c : goal.After-dirty_lanes)
    → c.dirty_lanes.result ≡ mask_l (dirties (chunk (c.loop-from.from - 8) 8 c.args.entries.now))
read c = c.dirty_lanes.ensures ∙ ap (λ l. mask_l (dirties l)) (lanes_read c.args.entries.now (c.loop-from.from - 8))

pub overflow_add-word : goal.overflow_add-word
overflow_add-word c =
    let inv = c.loop-from.invariant in
    let small = mask_small c.args.entries.now c.loop-from.from c.requires (omega arith) inv.within in
    let few = lanes_small (chunk (c.loop-from.from - 8) 8 c.args.entries.now)
    (length_lanes c.args.entries.now (c.loop-from.from - 8) (omega (arith, c.requires, inv.within))) in
    record { fits = omega (arith, small, few, inv.made, read c) }

pub loop-from-preserved : goal.loop-from-preserved
loop-from-preserved c =
    let inv = c.loop-from.invariant in
    record {
      within = omega arith;
      eighth = omega arith;
      made = ap (λ w. w * 256 + c.dirty_lanes.result) inv.made
          ∙ ap (λ m. mask_l (dirties (drop c.loop-from.from c.args.entries.now)) * 256 + m) (read c)
          ∙ ap (λ n. mask_l (dirties (drop n c.args.entries.now)) * 256
          + mask_l (dirties (chunk (c.loop-from.from - 8) 8 c.args.entries.now)))
          {x = c.loop-from.from} {y = c.loop-from.from - 8 + 8} (omega arith)
          ∙ sym (mask_more c.args.entries.now (c.loop-from.from - 8) (omega (arith, c.requires, inv.within)));
    }
