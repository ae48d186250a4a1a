use Rattle.std.proofs.Common.{◌≡◌, false, get_or, length, sym, ◌∙◌, ap, subst, arith}
use Rattle.std.specs.Prelude.{is_some, nat_eq, IfSome}
use Rattle.std.specs.HashMap.{get}
use Rattle.deferred_disk.specs.Deferred.{block_of}
use Rattle.deferred_disk.specs.inside.Blocks.{Known, room_bytes}
use Rattle.deferred_disk.proofs.Rooms.{flag_at, no_flag, block_at, length-flags_of}
use Rattle.deferred_disk.proofs.blocks.Blocks.room.Goals as goal

pub returns-then-block-self-clause-known : goal.returns-then-block-self-clause-known
returns-then-block-self-clause-known g c =
    sym (no_flag (get nat_eq c.self.inside.rooms) c.self.inside.count c.args.block
    (omega (arith, c.if-block-self.true)))
    ∙ ap (λ (k : Known). get_or k.flags c.args.block false) c.self.view_is

pub returns-in-Some-clause-known : goal.returns-in-Some-clause-known
returns-in-Some-clause-known g c =
    ap is_some c.in-Some.ensures.value
    ∙ sym (flag_at (get nat_eq c.self.inside.rooms) c.self.inside.count c.args.block
    (omega (arith, c.if-block-self.false)))
    ∙ ap (λ (k : Known). get_or k.flags c.args.block false) c.self.view_is

pub returns-in-Some-clause-bytes : goal.returns-in-Some-clause-bytes
returns-in-Some-clause-bytes g c =
    c.bytes.ensures ∙ ap room_bytes c.in-Some.ensures.value
    ∙ sym (block_at (get nat_eq c.self.inside.rooms) c.self.invariant.0 c.self.inside.count c.args.block
    (omega (arith, c.if-block-self.false)))
    ∙ ap (λ (k : Known). block_of k.bytes c.args.block) c.self.view_is

pub returns-in-Some-clause-whole : goal.returns-in-Some-clause-whole
returns-in-Some-clause-whole g c =
    ap length c.bytes.ensures
    ∙ subst (λ o. IfSome o (λ bytes. length bytes ≡ 4096)) (sym c.in-Some.ensures.value)
    (c.self.invariant.0 c.args.block)

pub returns-in-None-clause-known : goal.returns-in-None-clause-known
returns-in-None-clause-known g c =
    ap is_some c.in-None.ensures.value
    ∙ sym (flag_at (get nat_eq c.self.inside.rooms) c.self.inside.count c.args.block
    (omega (arith, c.if-block-self.false)))
    ∙ ap (λ (k : Known). get_or k.flags c.args.block false) c.self.view_is

pub returns-then-block-self-clause-blank : goal.returns-then-block-self-clause-blank
returns-then-block-self-clause-blank g c = λ lt. absurd (omega (
  arith,
  c.if-block-self.true,
  lt,
  length-flags_of (get nat_eq c.self.inside.rooms) c.self.inside.count,
  ap (λ (k : Known). length k.flags) c.self.view_is,
))

pub returns-in-None-clause-blank : goal.returns-in-None-clause-blank
returns-in-None-clause-blank g c = λ lt.
    sym (ap (λ (k : Known). block_of k.bytes c.args.block) c.self.view_is)
    ∙ block_at (get nat_eq c.self.inside.rooms) c.self.invariant.0 c.self.inside.count c.args.block
    (omega (arith, c.if-block-self.false))
    ∙ sym (ap room_bytes c.in-None.ensures.value)
