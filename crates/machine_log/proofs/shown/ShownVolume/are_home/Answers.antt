use Rattle.std.proofs.Common.{◌≡◌, ℕ, List, Some, arith, ap, sym, subst, ◌∙◌, length, inl, inr, get_or}
use Rattle.std.specs.Option.{option_copied}
use Rattle.std.proofs.lemmas.Bool.{cases_eq}
use Rattle.volume_codec.specs.Layout.{record_block}
use Rattle.kept_blocks.specs.Blocks.{bytes_in}
use Rattle.machine_log.specs.Shown.{ShownValue, HasHomeBlock}
use Rattle.machine_log.proofs.shown.ShownVolume.are_home.Goals as goal

pub loop-place-init : goal.loop-place-init
loop-place-init g c i lt = absurd (omega (arith, lt))

pub loop-place-preserved-then-has_record : goal.loop-place-preserved-then-has_record
loop-place-preserved-then-has_record g c = λ i lt. elim (cases_eq i c.loop-place.place) [
  | inl here ↦
      (let at = c.loop-place.place in
      let is : get_or c.homes-home-items.result.now at 0 ≡ get_or c.args.oldest.now.homes i 0 =
      ap (λ (l : List ℕ). get_or l at 0) c.homes-home-items.ensures
      ∙ ap (λ k. get_or c.args.oldest.now.homes k 0) (sym here) in
      inl (subst (HasHomeBlock c.args.newer.now) is (c.has_record.ensures.0 c.if-has_record.true)))
  | inr other ↦ c.loop-place.invariant i (omega (arith, lt))
]

pub overflow_cast-place : goal.overflow_cast-place
overflow_cast-place g c =
    record {
      fits = omega (
        arith,
        c.loop-place-test.true,
        ap length c.homes-home-items.ensures,
        c.requires.batch.described.homes.few,
        ap (λ (s : ShownValue). s.geometry.slots) c.self.view_is,
        c.slots-slots.ensures.value,
        c.slots-slots.type_inv,
      );
    }

pub loop-place-preserved : goal.loop-place-preserved
loop-place-preserved g c = λ i lt. elim (cases_eq i c.loop-place.place) [
  | inl here ↦
      (let at = c.loop-place.place in
      let s = c.self.inside in
      let homes = c.args.oldest.now.homes in
      let is : get_or c.homes-home-items.result.now at 0 ≡ get_or homes i 0 =
      ap (λ (l : List ℕ). get_or l at 0) c.homes-home-items.ensures ∙ ap (λ k. get_or homes k 0) (sym here) in
      let there : bytes_in s.blocks (get_or homes i 0) ≡ Some c.in-Some-Some.bytes.now =
      ap (bytes_in s.blocks) (sym is) ∙ sym c.get.ensures ∙ ap option_copied c.in-Some-Some.is-0 in
      let place : record_block s.geometry.slots c.args.oldest.now.journal i ≡ c.record_block-record.result =
      ap (λ k. record_block s.geometry.slots c.args.oldest.now.journal k) here
      ∙ ap (λ j. record_block s.geometry.slots j at) (sym c.journal.ensures)
      ∙ sym c.record_block-record.ensures.value in
      let recorded : bytes_in s.blocks (record_block s.geometry.slots c.args.oldest.now.journal i)
      ≡ Some c.in-Some-Some.bytes.now =
      ap (bytes_in s.blocks) place ∙ sym c.get-in-loop-place.ensures ∙ ap option_copied c.in-Some-Some.is-1
      ∙ ap Some (sym (c.are_equal.ensures.0 c.if-are_equal.true)) in
      inr (subst (λ (s : ShownValue). (block : List ℕ) × (bytes_in s.blocks (get_or homes i 0) ≡ Some block)
      × (bytes_in s.blocks (record_block s.geometry.slots c.args.oldest.now.journal i) ≡ Some block))
      c.self.view_is (c.in-Some-Some.bytes.now, there, recorded)))
  | inr other ↦ c.loop-place.invariant i (omega (arith, lt))
]

pub returns : goal.returns
returns g c = λ e i lt. c.loop-place.invariant i
    (omega (arith, lt, c.loop-place-test.false, ap length c.homes-home-items.ensures))
