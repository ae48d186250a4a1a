use Rattle.std.proofs.Common.{rules, ◌≡◌, ◌≤◌, ◌+◌, ◌-◌, ◌^◌, min, max, length, subst, arith}
use Rattle.device.proofs.Public.{torn_from_none}
use Rattle.new_volume.specs.NewFile.{NewValue}
use Rattle.new_volume.proofs.Zeros.{still_blank}
use Rattle.new_volume.proofs.new_file.NewFileBlockFile.write_all_at.Goals as goal

pub returns-then-is_zero-clause-left : goal.returns-then-is_zero-clause-left
returns-then-is_zero-clause-left g c = λ l may.
    torn_from_none c.args.at (length c.args.bytes.now)
    (subst (λ (file : NewValue _). g.F.BlockFile.may_leave file.inner l) c.self.view_is may)

pub invariant_of-self-2 : goal.invariant_of-self-2
invariant_of-self-2 g c = λ honest.
    let seen = g.F.BlockFile.seen in
    let was = c.write_all_at.ensures.honest.0 honest in
    let bytes = c.args.bytes.now in
    let sum : c.saturating_add.result ≡ min (c.args.at + length bytes) (2 ^ 64 - 1) = search rules in
    let end : c.max-self-inside.result ≡ max c.self.inside.end c.saturating_add.result = search rules in
    let small : c.self.inside.size ≤ 2 ^ 64 - 1 = search rules in
    still_blank c.write_all_at.result c.args.at c.self.inside.end c.max-self-inside.result c.self.inside.size bytes
    (seen c.self.inside.inner) (seen c.write_all_at.new.self) (omega (arith, end))
    (λ i past low. omega (arith, end, sum, small, past, low)) (c.write_all_at.ensures.len was)
    (c.write_all_at.ensures.written was) (λ failed. c.write_all_at.ensures.torn failed was) (c.self.invariant was)
