use Rattle.std.proofs.Common.{rules, ◌≡◌, ℕ, List, subst, sym, ◌∙◌}
use Rattle.volume_codec.specs.Layout.{descriptor_block, descriptor_blocks, blocks_at}
use Rattle.volume_codec.specs.Recovery.{IsOpen}
use Rattle.recovery.specs.Reading.{RefusesJournal}
use Rattle.recovery.proofs.Public.{refuses_read}
use Rattle.inspection.proofs.reading.read_journal.Goals as goal

pub returns-clause-refused : goal.returns-clause-refused
returns-clause-refused g c = λ honest.
    let seen = g.D.Device.seen c.args.device.now in
    let geometry = c.args.geometry.now in
    let read = c.in_ok-gate.ensures.read in
    let opens : c.in_ok-gate.gate ≡ 0xA7 = search rules in
    let gate : IsOpen seen geometry.slots c.args.journal = sym (c.in_ok-gate.ensures.gate honest) ∙ opens in
    let P : List ℕ → Type 0 = λ bytes. RefusesJournal geometry
    (blocks_at bytes (descriptor_block geometry.slots c.args.journal) (descriptor_blocks geometry.slots))
    c.in-Err.refusal in
    refuses_read geometry seen c.args.journal c.in-Err.refusal c.requires.there gate
    (subst P read.same (c.in-Err.ensures.refused (read.honest.1 honest)))
