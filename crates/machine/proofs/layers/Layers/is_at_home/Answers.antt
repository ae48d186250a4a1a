use Rattle.machine.proofs.Names.{◌≡◌, ◌-◌, ◌*◌, List, ℕ, not, take, sym, ap, ◌∙◌, subst, arith, false≢true, padded}
use Rattle.machine.proofs.Names.{length_of, HasBlock, state_in}
use Rattle.machine.proofs.layers.Layers.is_at_home.Goals.{then-not-is_dirty, else-not-is_dirty}
use Rattle.machine.proofs.layers.Layers.is_at_home.Goals as goal

-- a page has zeros after its first bytes
abbrev IsCut : ℕ → List ℕ → Type 0
IsCut n bytes = bytes ≡ padded 4096 (take n bytes)

pub returns-then-not-has_block : goal.returns-then-not-has_block
returns-then-not-has_block g c =
    let s = state_in c.args.self.now in
    let page = c.args.page in
    let length = length_of s page.file - 4096 * page.page in
    let left : c.saturating_sub-left.result ≡ length =
    omega (arith, c.saturating_sub-left.ensures, c.file_length.ensures, c.from.ensures) in
    elim c.if-not-is_dirty.branch [
      | then-not-is_dirty w ↦ (
        λ cut. record {
          clean = λ dirty. absurd (false≢true (w.if-not-is_dirty.ensures.1 dirty));
          written = λ has. absurd (false≢true (sym (ap not (w.has_block.ensures.1
              (subst (HasBlock s.write_outs) (sym w.home_block.ensures.home) has)))
              ∙ sym w.value-is ∙ c.if-not-has_block.true));
          plain = subst (IsCut length) c.bytes.ensures.bytes
              (subst (λ n. IsCut n c.bytes.result.now) left (c.is_cut.ensures.0 cut));
        },
        λ home. c.is_cut.ensures.1 (subst (λ n. IsCut n c.bytes.result.now) (sym left)
            (subst (IsCut length) (sym c.bytes.ensures.bytes) home.plain)),
      )
      | else-not-is_dirty w ↦
          absurd (false≢true (sym (ap not w.if-not-is_dirty.false) ∙ sym w.value-is ∙ c.if-not-has_block.true))
    ]
