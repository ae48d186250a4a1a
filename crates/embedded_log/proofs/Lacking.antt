-- An opening that is refused by a read of a block that isn't known.
use Rattle.std.proofs.Common.{◌≡◌, ℕ, ◌+◌, ◌<◌, ◌^◌, Some, inl, refl, arith}
use Rattle.std.proofs.lemmas.Bool.Decides.{nat_tests}
use Rattle.std.specs.Prelude.{false}
use Rattle.device.specs.Count.{raised}
use Rattle.device.specs.inside.Laws.{since_now_of}
use Rattle.deferred_disk.specs.Deferred.{Deferred, as_memory, after_read}
use Rattle.page_entry.specs.declared.refusal.Refusal.TheVariants as refusals
use Rattle.embedded_log.specs.Opening.{RefusesEmbeddedLog, LeavesByOpening}

raised_once : (n : ℕ) → n + 1 < 2 ^ 64 → raised n ≡ n + 1
raised_once n few = grind (arith, nat_tests)

left_lacking : (disk : Deferred) (block : ℕ) → LeavesByOpening disk (after_read disk (Some block) false)
left_lacking disk block = λ well. record {
  later = omega arith;
  each = λ c since. inl (since_now_of (as_memory disk) c since);
  before = λ t c le left. inl left;
  keeps = λ t c le left. left;
}

pub refuses_lacking_log : (disk : Deferred) (block : ℕ)
    → RefusesEmbeddedLog disk refusals.Device (after_read disk (Some block) false)
refuses_lacking_log disk block = record {
  reason = λ well. tt;
  unwritten = λ other. absurd (other refl);
  crash = left_lacking disk block;
  counted = record {
    honest = (λ well. well, λ well. well);
    same_length = refl;
    carried = refl;
    faults = λ few. raised_once disk.faults few;
  };
}
