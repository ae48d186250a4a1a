use Rattle.std.proofs.Common.{ℕ, ◌≡◌, ◌<◌, ◌+◌, ◌∷◌, [], List, Some, length, length-append, sym, ap, ◌∙◌, subst, arith}
use Rattle.std.specs.Prelude.{slice_get}
use Rattle.service.specs.Gathering.{CpuState, idle_cpu}
use Rattle.service.proofs.Counting.{one_pushed}
use Rattle.service.proofs.starting.seated.Goals as goal

pub loop-p-preserved : goal.loop-p-preserved
loop-p-preserved g c =
    let so_far = c.loop-p.invariant in
    let before = c.loop-p.cpus.items in
    let cpu = c.into_cpu.result in
    let n = c.loop-p.p in
    let P : List CpuState → Type 0 = λ l. (i : ℕ) → i < n + 1 → slice_get l i ≡ Some (idle_cpu i) in
    let pushed = c.push_reserved.ensures.items in
    let split = c.split_off.ensures in (
      omega (arith, so_far.0, c.take_last-seat.ensures.len),
      omega (arith, so_far.1, split.parts_left),
      omega (arith, so_far.2, split.amount_left),
      omega (arith, so_far.3, c.push_reserved.ensures.capacity),
      ap (λ (l : List CpuState). length l) pushed ∙ length-append before (cpu ∷ []) ∙ ap (λ k. k + 1) so_far.4,
      subst P (sym pushed) (one_pushed idle_cpu before cpu n so_far.4 c.into_cpu.ensures so_far.5),
    )
