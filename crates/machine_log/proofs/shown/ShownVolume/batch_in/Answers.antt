use Rattle.std.proofs.Common.{◌≡◌, ℕ, List, Some, ap, sym, subst, ◌∙◌, refl}
use Rattle.std.specs.Prelude.{IfSome}
use Rattle.volume_codec.specs.Layout.{GeometryValue, block_at}
use Rattle.volume_codec.specs.Descriptor.{DescriptorValue, IsDescriptor}
use Rattle.volume_codec.specs.Recovery.{Batch}
use Rattle.machine_log.specs.Shown.{ShownValue, MayOpen}
use Rattle.machine_log.specs.inside.Closing.{HasText}
use Rattle.machine_log.proofs.shown.ShownVolume.batch_in.Goals as goal

pub returns : goal.returns
returns g c =
    let s : ShownValue = c.args.self.now in
    let d : DescriptorValue = c.in-Ok.descriptor in
    let journal = c.args.journal in
    let geometry : c.self.inside.geometry ≡ s.geometry = ap (λ (v : ShownValue). v.geometry) c.self.view_is in
    let batch : Batch = record { journal = journal; mark = d.mark; homes = d.homes } in
    let is : IsDescriptor s.geometry d c.in-Some.bytes.items =
    subst (λ (g : GeometryValue). IsDescriptor g d c.in-Some.bytes.items) geometry
    (subst (IsDescriptor c.self.inside.geometry d) c.deref.ensures.value c.in-Ok.ensures.ok) in
    let text : HasText s journal c.in-Some.bytes.items =
    subst (λ found. IfSome found (λ bytes. HasText s journal bytes.items)) c.in-Some.is c.in_ok-bytes.ensures in
    let may : MayOpen s batch = record {
      is_batch = record { there = c.requires.there; described = is.described };
      newer = c.is_newer.ensures c.if-not-is_newer.false batch (sym c.mark.ensures);
      closed = sym c.is_open.ensures ∙ c.if-is_open.false;
      described = λ i lt. text.each i lt ∙ ap (λ (l : List ℕ). Some (block_at l i)) is.spelled;
    } in
    subst (λ (b : Batch). (b.journal ≡ journal) × MayOpen s b) (sym c.new.ensures) (refl, may)
