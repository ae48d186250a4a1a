-- What is answered about the bytes of a device that is only read.
use Rattle.std.specs.Prelude.{ℕ, ◌≡◌, ◌⊎◌, List, Result, Ok, Err, IfErr}
use Rattle.page_entry.specs.declared.refusal.Refusal.{Refusal}
use Rattle.page_entry.specs.declared.refusal.Refusal.TheVariants.{Device, OutOfMemory, NotAVolume, Damaged}
use Rattle.volume_codec.specs.Files.{File}
use Rattle.volume_codec.specs.Recovery.{RecoversTo, IsNotAVolume, IsDamaged}

-- The refusal doesn't depend on the bytes: a device call failed, or memory was refused.
abbrev pub IsOfNoBytes : Refusal → Type 0
IsOfNoBytes Device = Unit {0}
IsOfNoBytes OutOfMemory = Unit {0}
IsOfNoBytes _ = ⊥

-- The answer is this refusal, or one that doesn't depend on the bytes.
abbrev pub IsRefused : {X : Type 0} → Refusal → Result X Refusal → Type 0
IsRefused refusal (Ok found) = ⊥
IsRefused refusal (Err other) = (other ≡ refusal) ⊎ IsOfNoBytes other

-- The answer judges the bytes as an opening does. It is NotAVolume if they are no volume, Damaged if they are a damaged
-- one, and no refusal if they recover to files. In each case it may also be Device or OutOfMemory.
pub record IsJudged {X : Type 0} (bytes : List ℕ) (result : Result X Refusal) : Type 0 where
  pub none : IsNotAVolume bytes → IsRefused NotAVolume result
  pub damaged : IsDamaged bytes → IsRefused Damaged result
  pub whole : (files : List File) → RecoversTo bytes files → IfErr result IsOfNoBytes
