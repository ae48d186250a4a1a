-- The super block that a caller asks for, in layouts 5 and 6.
use Rattle.std.specs.Prelude.{◌≡◌, ℕ, ◌*◌, ◌≤◌, List, map}
use Rattle.std.specs.List.{AllByRecursion}
use Rattle.page_entry.specs.declared.refusal.Refusal.{Refusal}
use Rattle.page_entry.specs.declared.refusal.Refusal.TheVariants.{Device, OutOfMemory, BadShape}
use Rattle.volume_codec.specs.Files.{AskedFile}
use Rattle.log_codec.specs.declared.sealing.Sealing.{Sealing}
use Rattle.log_volume.specs.Super.{LogSuperValue, FitsLog, log_of}

-- The super block `v` has the requested kind of seal, files and number of log blocks. No file is longer than its
-- capacity, and `v` obeys the rules of the format.
pub record IsLogAsked (sealing : Sealing) (files : List AskedFile) (ring : ℕ) (v : LogSuperValue) : Type 0 where
  pub sealing_is : v.sealing ≡ sealing
  pub files_are : v.files ≡ map (λ f. record { name = f.name; capacity = f.capacity }) files
  pub ring_is : v.ring ≡ ring
  pub lengths : AllByRecursion (λ f. f.length ≤ f.capacity) files
  pub fits : FitsLog v

-- `v` is requested, and a device of `bytes` bytes is long enough for its volume.
pub record HasLogShape (sealing : Sealing) (files : List AskedFile) (ring bytes : ℕ) (v : LogSuperValue) : Type 0 where
  pub asked : IsLogAsked sealing files ring v
  pub long : 4096 * (log_of v).blocks ≤ bytes

-- Why a request fails: it has a bad shape exactly if no super block is as requested. Only if there is such a super
-- block may it fail for lack of memory.
abbrev pub RefusesLogTable : Sealing → List AskedFile → ℕ → Refusal → Type 0
RefusesLogTable sealing files ring BadShape = (v : LogSuperValue) → IsLogAsked sealing files ring v → ⊥
RefusesLogTable sealing files ring OutOfMemory = (v : LogSuperValue) × IsLogAsked sealing files ring v
RefusesLogTable sealing files ring _ = ⊥

-- Why formatting fails: the shape is bad, or memory or a device call fails although the shape is good.
abbrev pub RefusesLogFormat : Sealing → List AskedFile → ℕ → ℕ → Refusal → Type 0
RefusesLogFormat sealing files ring bytes BadShape =
    (v : LogSuperValue) → HasLogShape sealing files ring bytes v → ⊥
RefusesLogFormat sealing files ring bytes OutOfMemory =
    (v : LogSuperValue) × HasLogShape sealing files ring bytes v
RefusesLogFormat sealing files ring bytes Device = (v : LogSuperValue) × HasLogShape sealing files ring bytes v
RefusesLogFormat sealing files ring bytes _ = ⊥
