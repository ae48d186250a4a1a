use Rattle.std.proofs.Common.{◌≡◌, length, ap, sym, subst, ◌∙◌, Result, Ok, Err}
use Rattle.std.specs.Prelude.{OnErr}
use Rattle.std.specs.Option.{option_map}
use Rattle.kept_blocks.specs.Blocks.{Blocks, AreWholeBlocks, with_home, bytes_in}
use Rattle.kept_blocks.proofs.Putting.{seen_as, seen_put, seen_get}
use Rattle.kept_blocks.proofs.Whole.{whole_with}
use Rattle.kept_blocks.proofs.blocks.Blocks.put.Goals as goal

pub returns-clause-ok : goal.returns-clause-ok
returns-clause-ok g c =
    ap (seen_as (λ b. b.value)) c.in_ok-insert.ensures.entries
    ∙ seen_put (λ b. b.value) c.self.inside.tree.entries c.args.home c.args.bytes
    ∙ ap (λ (m : Blocks). with_home m c.args.home c.args.bytes.value) c.self.view_is

err_as : {X E : Type 0} (r : Result X E) (P : Type 0) → P → OnErr r P
err_as (Ok x) P p = tt
err_as (Err e) P p = p

pub returns-in_err-insert-clause-absent : goal.returns-in_err-insert-clause-absent
returns-in_err-insert-clause-absent g c = err_as c.from_residual.result _
    (sym (ap (λ (m : Blocks). bytes_in m c.args.home) c.self.view_is)
    ∙ sym (seen_get (λ b. b.value) c.self.inside.tree.entries c.args.home)
    ∙ ap (option_map (λ b. b.value)) c.in_err-insert.ensures.absent)

pub invariant_of-self-2 : goal.invariant_of-self-2
invariant_of-self-2 g c =
    let P : Blocks → Type 0 = λ l. AreWholeBlocks l in
    let size : length c.args.bytes.value ≡ 4096 =
    sym (ap length c.deref.ensures) ∙ c.has_whole_block.ensures in
    subst P (sym (ap (seen_as (λ b. b.value)) c.in_ok-insert.ensures.entries
    ∙ seen_put (λ b. b.value) c.self.inside.tree.entries c.args.home c.args.bytes))
    (whole_with (seen_as (λ b. b.value) c.self.inside.tree.entries) c.args.home c.args.bytes.value size
    c.self.invariant)
