-- A disk over a file: the calls that it makes of the file, and the bytes that it reads from the file.
use Rattle.std.specs.Prelude.{⊤, ◌≡◌, ℕ, Bool, if◌then◌else◌, List, [], ◌∷◌}
use Rattle.std.specs.Prelude.{◌++◌, length, take, replicate, Option, Some, None}
use Rattle.device.specs.Count.{raised}

-- A call of a file, and whether it succeeded. A read has its offset and the bytes in the buffer afterwards. A write has
-- its offset and its bytes. `sync_all` syncs all data and metadata. `sync_data` syncs the data, and the metadata needed
-- to read them.
pub data FileCall : Type 0 where
  read : ℕ → List ℕ → Bool → FileCall
  write : ℕ → List ℕ → Bool → FileCall
  sync_all : Bool → FileCall
  sync_data : Bool → FileCall

-- If the calls of a file are known, this call was made after them.
abbrev pub IsCalledOnce : Option (List FileCall) → Option (List FileCall) → FileCall → Type 0
IsCalledOnce None new call = ⊤
IsCalledOnce (Some calls) None call = ⊥
IsCalledOnce (Some calls) (Some more) call = more ≡ calls ++ call ∷ []

-- a file, its length when the disk was made, and the disk's counts
pub record Opened (F : Type 0) : Type 0 where
  pub file : F
  pub size : ℕ
  pub calls : ℕ
  pub faults : ℕ

-- a disk of which no call has been made
abbrev pub disk_over : {F : Type 0} → F → ℕ → Opened F
disk_over file size = record { file = file; size = size; calls = 0; faults = 0 }

-- the disk after a call that left the file in this state, and that succeeded or failed
abbrev pub after_call : {F : Type 0} → Opened F → F → Bool → Opened F
after_call disk file done = record disk {
  file = file;
  calls = raised disk.calls;
  faults = if done then disk.faults else raised disk.faults;
}

-- The bytes of a file as a disk of n bytes reads them: the first n, with zeros past the end of the file.
unfoldable pub fitted : ℕ → List ℕ → List ℕ
fitted n bytes = take n (bytes ++ replicate n 0)

-- The disk is over an honest file that is as long as the disk.
abbrev pub IsOverHonest : {F : Type 0} → (F → Type 0) → (F → List ℕ) → Opened F → Type 0
IsOverHonest is_honest seen disk = is_honest disk.file × (length (seen disk.file) ≡ disk.size)

-- A crash may leave any bytes.
abbrev pub any_list : {F : Type 0} → F → List ℕ → Type 0
any_list file c = ⊤

abbrev pub any_time : {F : Type 0} → F → ℕ → List ℕ → Type 0
any_time file t c = ⊤
