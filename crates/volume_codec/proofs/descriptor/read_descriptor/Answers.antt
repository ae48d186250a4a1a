use Rattle.std.proofs.Common.{List, ℕ, true≢false, ap, sym, subst, ◌∙◌, arith}
use Rattle.volume_codec.specs.Descriptor.{RiseWithin, IsDescribed, IsDescriptor, descriptor_text}
use Rattle.volume_codec.proofs.Functional.{reads_descriptor_block, read_descriptor_value}
use Rattle.volume_codec.proofs.Functional.{refuses_described, found_homes, fallen_homes}
use Rattle.volume_codec.proofs.descriptor.read_descriptor.Goals as goal
use Rattle.volume_codec.proofs.descriptor.read_descriptor.Goals.{After-deref-2}
use Rattle.volume_codec.proofs.descriptor.read_descriptor.Goals.{then-mark-eq0-via-then-mark-eq0}
use Rattle.volume_codec.proofs.descriptor.read_descriptor.Goals.{then-mark-eq0-via-else-mark-eq0+then-count-eq0}
use Rattle.volume_codec.proofs.descriptor.read_descriptor.Goals.{then-mark-eq0-via-else-mark-eq0+else-count-eq0+then-count-slots}

pub returns-then-mark-eq0-clause-refused : goal.returns-then-mark-eq0-clause-refused
returns-then-mark-eq0-clause-refused g c = λ d is.
    let r = reads_descriptor_block c.args.geometry.now d c.args.bytes.now c.slots-slots.ensures.geometry is in
    let i = is.described in
    elim c.then-mark-eq0.branch [
      | then-mark-eq0-via-then-mark-eq0 w ↦
          absurd (omega (arith, r.mark, i.some_mark, c.u64_at-mark.ensures, w.if-mark-eq0.true))
      | then-mark-eq0-via-else-mark-eq0+then-count-eq0 w ↦
          absurd (omega (arith, r.count, i.homes.some, c.u32_at-count.ensures, w.if-count-eq0.true))
      | then-mark-eq0-via-else-mark-eq0+else-count-eq0+then-count-slots w ↦ absurd (omega (
        arith,
        r.count,
        i.homes.few,
        c.u32_at-count.ensures,
        c.slots-slots.ensures.value,
        w.if-count-slots.true,
      ))
    ]

pub returns-then-not-rise_within-clause-refused : goal.returns-then-not-rise_within-clause-refused
returns-then-not-rise_within-clause-refused g c =
    refuses_described c.args.geometry.now c.args.bytes.now
    (record { mark = c.u64_at-mark.result; homes = c.deref.result.now })
    (λ d is. read_descriptor_value c.args.geometry.now d c.args.bytes.now c.u64_at-mark.result c.u32_at-count.result
    c.deref.result.now c.slots-slots.ensures.geometry is
    c.u64_at-mark.ensures c.u32_at-count.ensures (c.deref.ensures.value ∙ c.in_ok-homes.ensures))
    (λ i.
    let rises = c.rise_within.ensures.1 (fallen_homes c.args.geometry.now c.deref.result.now _ _
    c.first_home.ensures.value c.block_count.ensures.value i.homes) in
    true≢false (sym rises ∙ c.if-not-rise_within.true))

-- the mark and the home blocks that are read
described : (g : _) (c : After-deref-2 g) → IsDescribed c.args.geometry.now
    (record { mark = c.u64_at-mark.result; homes = c.deref-2.result.now })
described g c =
    let rises = c.rise_within.ensures.0 c.if-not-rise_within.false in
    let same = c.deref.ensures.value ∙ sym c.deref-2.ensures.value in
    let P : List ℕ → Type 0 = λ homes. RiseWithin c.first_home.result c.block_count.result homes in
    record {
      some_mark = omega arith;
      small_mark = omega arith;
      homes = found_homes c.args.geometry.now c.args.bytes.now c.deref-2.result.now c.u32_at-count.result _ _
          (c.deref-2.ensures.value ∙ c.in_ok-homes.ensures)
          (omega arith) (omega (arith, c.slots-slots.ensures.value)) c.first_home.ensures.value
          c.block_count.ensures.value (subst P same rises);
    }

pub is_spelled-requires-clause-described : goal.is_spelled-requires-clause-described
is_spelled-requires-clause-described g c =
    described g (goal.at.is_spelled-requires-clause-described g c).After-deref-2

pub returns-then-not-is_spelled-clause-refused : goal.returns-then-not-is_spelled-clause-refused
returns-then-not-is_spelled-clause-refused g c =
    let geometry = c.args.geometry.now in
    λ d is.
    let same = read_descriptor_value geometry d c.args.bytes.now c.u64_at-mark.result c.u32_at-count.result
    c.deref-2.result.now c.slots-slots.ensures.geometry is c.u64_at-mark.ensures c.u32_at-count.ensures
    (c.deref-2.ensures.value ∙ c.in_ok-homes.ensures) in
    let spelled = c.is_spelled.ensures.1 (is.spelled ∙ ap (descriptor_text geometry.slots) (sym same)) in
    absurd (true≢false (sym spelled ∙ c.if-not-is_spelled.true))

pub returns-clause-ok : goal.returns-clause-ok
returns-clause-ok g c =
    let Q : List ℕ → Type 0 = λ homes. IsDescriptor c.args.geometry.now
    (record { mark = c.u64_at-mark.result; homes = homes }) c.args.bytes.now in
    subst Q c.deref-2.ensures.value (record {
      described = described g (goal.at.returns-clause-ok g c).After-deref-2;
      spelled = c.is_spelled.ensures.0 c.if-not-is_spelled.false;
    })
