use Rattle.std.proofs.Common.{rules, ◌≡◌, ◌/◌, ap, ◌∙◌}
use Rattle.page_entry.specs.Entry.{entry_of, bits_of}
use Rattle.page_entry.proofs.Bits.{read_back}
use Rattle.page_entry.proofs.entry.Entry.from_bits.Goals as goal

-- the entry that was made has other bits, so these are no entry's
pub returns-else-bits-clause-some : goal.returns-else-bits-clause-some
returns-else-bits-clause-some c =
    let frame : c.in_ok-frame.frame ≡ c.args.bits / 4096 = search rules in
    let made : c.with_dirty-entry.result ≡ entry_of c.args.bits =
    rw (
      c.with_dirty-entry.ensures,
      c.with_accessed.ensures,
      c.with_writable.ensures,
      c.with_frame.ensures,
      c.with_present.ensures,
      c.absent.ensures,
      c.contains.ensures tt,
      c.contains-2.ensures tt,
      c.contains-3.ensures tt,
      c.contains-4.ensures tt,
      frame,
    ) (read_back c.args.bits) in
    (λ e. cc, λ is. absurd (c.if-bits.false (c.bits.ensures.bits ∙ ap bits_of made ∙ is.named)))
