-- The first block of a disk, and openings that it keeps from being made.
use Rattle.std.proofs.Common.{◌≡◌, ◌≢◌, ◌<◌, ◌+◌, ◌*◌, ℕ, Bool, true, false, cond, List, get_or, take, length}
use Rattle.std.proofs.Common.{inl, inr, ap, sym, ◌∙◌, subst, arith, Option, Some, None}
use Rattle.std.specs.Prelude.{nat_le, slice_range}
use Rattle.std.proofs.lemmas.Bool.Decides.{nat_tests}
use Rattle.std.proofs.lemmas.List.{take-take}
use Rattle.device.specs.Memory.{seen_of}
use Rattle.deferred_disk.specs.Deferred.{Deferred, as_memory, lacked_by_read, IsSuppliedWell}
use Rattle.page_entry.specs.declared.refusal.Refusal.{Refusal}
use Rattle.page_entry.specs.declared.refusal.Refusal.TheVariants as refusals
use Rattle.recovery.specs.Opening.{RefusesOpening}
use Rattle.volume_codec.specs.declared.layout.Layout.{Layout}
use Rattle.volume_codec.specs.Layout.{magic_of}
use Rattle.volume_codec.specs.Recovery.{IsNotAVolume}
use Rattle.pager.specs.Calls.{RefusesPagerOpening}
use Rattle.embedded.specs.declared.reading.Unread.{Unread}
use Rattle.embedded.specs.declared.reading.Unread.TheVariants.{Refused}
use Rattle.embedded.specs.Reading.{pager_refusal}
use Rattle.embedded.specs.Recorded.{deferred_disk}

-- a read of the first block lacks none if it is known
pub first_known : (known : List Bool) → get_or known 0 false ≡ true → lacked_by_read known 0 4096 ≡ None
first_known known is =
    let none : Option ℕ = None in
    ap (λ (v : Bool). cond v none (Some 0)) is

-- a disk that has it is long enough
pub long_enough : (bytes : List ℕ) → nat_le (4096 * 0 + 4096) (length bytes) ≡ true → length bytes < 4096 → ⊥
long_enough bytes is short = grind (arith, nat_tests)

-- the magic of the block is that of the disk
pub same_magic : (bytes block : List ℕ) → block ≡ slice_range bytes 0 4096 → take 8 block ≡ take 8 bytes
same_magic bytes block is = ap (take 8) is ∙ take-take 8 4096 bytes (omega arith)

-- so the disk has a volume with journals, or a damaged one, if the block has a magic
pub has_volume : (bytes block : List ℕ) → (length bytes < 4096 → ⊥) → take 8 block ≡ take 8 bytes
    → (((layout : Layout) → take 8 block ≢ magic_of layout) → ⊥) → IsNotAVolume bytes → ⊥
has_volume bytes block long same some (inl short) = long short
has_volume bytes block long same some (inr none) = some (λ layout is. none layout (sym same ∙ is))

-- and it has none if the block has no magic
pub has_none : (bytes block : List ℕ) → take 8 block ≡ take 8 bytes
    → ((layout : Layout) → take 8 block ≢ magic_of layout) → IsNotAVolume bytes
has_none bytes block same none = inr (λ layout is. none layout (same ∙ is))

-- an opening that was made is refused for another reason
pub refused_else : (disk : Deferred) → (IsNotAVolume (seen_of (as_memory disk)) → ⊥) → IsSuppliedWell disk
    → (why : Unread) (after : Deferred) → RefusesPagerOpening deferred_disk disk (pager_refusal why) after
    → why ≡ Refused refusals.NotAVolume → ⊥
refused_else disk never well why after refused is =
    let same : pager_refusal why ≡ refusals.NotAVolume = ap pager_refusal is in
    elim refused [
      | inl opens ↦ never
          (subst (λ (r : Refusal). RefusesOpening (seen_of (as_memory disk)) r) same (opens.ended well).reason)
      | inr memory ↦ absurd (let e : refusals.OutOfMemory ≡ refusals.NotAVolume = sym memory.0 ∙ same in cc)
    ]
