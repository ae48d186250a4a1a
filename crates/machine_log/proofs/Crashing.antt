-- What a crash of the volume's device leaves, by what one of the disk might have left.
use Rattle.std.proofs.Common.{◌≡◌, ◌⊎◌, ℕ, List, [], inl, inr, arith}
use Rattle.device.specs.declared.device.Device.{Ghosts}
use Rattle.device.specs.Memory.{left_since_of, moment_of}
use Rattle.volume_codec.specs.Descriptor.{DescriptorValue, IsDescriptor}
use Rattle.volume_codec.specs.Files.{File}
use Rattle.volume_codec.specs.Layout.{IsHome}
use Rattle.volume_codec.specs.Recovery.{Recovers, RecoversTo}
use Rattle.volume_codec.specs.Super.{SuperValue, geometry_of}
use Rattle.log_codec.specs.declared.sealing.Sealing.TheVariants.{ByDigest}
use Rattle.log_volume.specs.Super.{FitsLog}
use Rattle.machine_log.specs.Serving.{IsShownTable, StandsFor}
use Rattle.machine_log.specs.Disk.{LogDiskValue, left_at, moment_in}
use Rattle.machine_log.specs.Laws.{StandsForOne, StandsSince}
use Rattle.machine_log.specs.inside.Keeping.{AreBacked, AreBackedBy, AreFollowed, AreMoments, IsHeld, RecoverAlike}
use Rattle.machine_log.proofs.Alike.{stands}
use Rattle.machine_log.proofs.Moments.{left_between, left_in}
use Rattle.machine_log.proofs.Times.{as_at}
use Rattle.machine_log.proofs.Told.{told}

-- no bytes are no volume
none_recover : (files : List File) → RecoversTo [] files → ⊥
none_recover files to = omega (arith, to.recovers.volume.long)

module _ {D : Type 0} (disk : Ghosts D)
    (one_contents : (v w : SuperValue) (contents others : ℕ → List ℕ) (bytes : List ℕ)
    → Recovers v contents bytes → Recovers w others bytes
    → (v ≡ w) × ((b : ℕ) → IsHome (geometry_of v) b → contents b ≡ others b))
    (one_recovery : (bytes : List ℕ) (files others : List File) → RecoversTo bytes files → RecoversTo bytes others
    → files ≡ others)
    (self : LogDiskValue D) (fits : FitsLog self.volume) (table : IsShownTable self.volume self.table)
    (are : AreMoments (moment_of self.memory) (disk.moment self.device) self.moments)
    (backed : AreBacked disk self.device self.volume self.table self.memory self.moments) where
  alike_stand : (c w : List ℕ) → RecoverAlike self.volume self.table c w → StandsFor c w
  alike_stand c w = stands one_contents one_recovery self.volume self.table c w table fits

  pub stands_since : (old : LogDiskValue D) → StandsSince disk old self
  stands_since old c left tells =
      by (left_between disk self old (λ u c w. RecoverAlike self.volume self.table c w) backed c left)
    where
      t : ℕ
      t = moment_in disk.moment old

      by : ((w : List ℕ) × left_since_of self.memory (moment_of old.memory) w × RecoverAlike self.volume self.table c w
          × ((w : List ℕ) → left_since_of self.memory (moment_of old.memory) w → left_in self t w))
          ⊎ ((w : List ℕ) → left_in self t w) → StandsForOne (left_at disk.moment self t) c
      by (inl found) =
          (found.0, as_at disk.moment self are t found.0 (found.3 found.0 found.1), alike_stand c found.0 found.2)
      by (inr any) = ([], as_at disk.moment self are t [] (any []), λ files to. absurd (none_recover files to))

-- the same of bytes from which only commits can be read that the disk made
module _ {D : Type 0} (disk : Ghosts D)
    (one_contents : (v w : SuperValue) (contents others : ℕ → List ℕ) (bytes : List ℕ)
    → Recovers v contents bytes → Recovers w others bytes
    → (v ≡ w) × ((b : ℕ) → IsHome (geometry_of v) b → contents b ≡ others b))
    (one_recovery : (bytes : List ℕ) (files others : List File) → RecoversTo bytes files → RecoversTo bytes others
    → files ≡ others)
    (self : LogDiskValue D) (begun : self.memory.start ≡ 0)
    (one_descriptor : (d e : DescriptorValue) (bytes : List ℕ) → IsDescriptor (geometry_of self.table) d bytes
    → IsDescriptor (geometry_of self.table) e bytes → d ≡ e)
    (fits : FitsLog self.volume) (table : IsShownTable self.volume self.table)
    (are : AreMoments (moment_of self.memory) (disk.moment self.device) self.moments)
    (followed : AreFollowed self.volume self.table self.memory.first self.memory.changes)
    (held : AreBackedBy (IsHeld self.volume self.table self.log_start self.memory.first self.memory.changes) disk
    self.device self.memory self.moments) (key : ℕ) (digest : self.volume.sealing ≡ ByDigest key) where
  pub stands_told : (old : LogDiskValue D) → StandsSince disk old self
  stands_told old c left tells = by (left_between disk self old Held held c left)
    where
      Held : ℕ → List ℕ → List ℕ → Type 0
      Held = IsHeld self.volume self.table self.log_start self.memory.first self.memory.changes

      t : ℕ
      t = moment_in disk.moment old

      u : ℕ
      u = moment_of old.memory

      by : ((w : List ℕ) × left_since_of self.memory u w × Held u c w
          × ((w : List ℕ) → left_since_of self.memory u w → left_in self t w))
          ⊎ ((w : List ℕ) → left_in self t w) → StandsForOne (left_at disk.moment self t) c
      by (inl is) =
          let found = told self begun one_descriptor c tells key digest u is.0 is.1 is.2 followed in (
            found.0,
            as_at disk.moment self are t found.0 (is.3 found.0 found.1),
            stands one_contents one_recovery self.volume self.table c found.0 table fits found.2,
          )
      by (inr any) = ([], as_at disk.moment self are t [] (any []), λ files to. absurd (none_recover files to))
