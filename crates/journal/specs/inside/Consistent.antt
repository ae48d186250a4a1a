-- When write-outs are consistent with a device.
use Rattle.std.specs.Prelude.{ℕ, ◌≡◌, false, MatchBool, List, []}
use Rattle.device.specs.Device.{Only}
use Rattle.volume_codec.specs.Layout.{IsHome, block_at}
use Rattle.volume_codec.specs.Super.{SuperValue, geometry_of}
use Rattle.volume_codec.specs.Recovery.{IsVolume}
use Rattle.journal.specs.WriteOuts.{WriteOutsValue, current_stage, HasBlock}
use Rattle.journal.specs.Crash.{LeftBefore, LeftWithin}
use Rattle.journal.specs.inside.Sound.{IsSound}
use Rattle.journal.specs.inside.Tied.{IsTied}

-- The write-outs are consistent with a device that reads `seen`, and of which a crash may leave the lists of
-- `may_leave`.
pub record IsConsistent (v : SuperValue) (outs : WriteOutsValue) (old new : ℕ → List ℕ) (seen : List ℕ)
    (may_leave : List ℕ → Type 0) : Type 0 where
  pub geometry : outs.geometry ≡ geometry_of v
  pub left : (c : List ℕ) → may_leave c
      → MatchBool outs.broken (LeftWithin v old new (current_stage outs) c)
      (LeftBefore v old new (current_stage outs) c)
  pub reads : outs.broken ≡ false → (b : ℕ) → IsHome (geometry_of v) b → (HasBlock outs b → ⊥) → block_at seen b ≡ new b
  pub rests : outs.broken ≡ false → outs.batches ≡ [] → IsVolume v [] seen × Only may_leave seen
  pub sound : IsSound outs
  pub tied : outs.broken ≡ false → IsTied v outs.batches old new seen may_leave
