-- What holds of the fields, where it is said of what contracts see.
use Rattle.std.proofs.Common.{◌≡◌, ◌⊎◌, ℕ, List, inl, inr, Result, Ok, Err, subst, sym}
use Rattle.std.specs.Prelude.{OnOk, OnErr}
use Rattle.device.specs.declared.device.Device.{Ghosts}
use Rattle.pager.specs.State.{file_length}
use Rattle.log_pager.specs.Pager.{LogPagerValue, IsPagerOver}
use Rattle.log_files.specs.State.{LogFilesState}
use Rattle.log_files.specs.inside.Sound.{MayHaveLogLength}
pub use Rattle.log_files.specs.inside.Fields.{files_state_of}

pub ended_by : {X E : Type 0} (r : Result X E) (P Q : Type 0) → OnOk r P → OnErr r Q → P ⊎ Q
ended_by (Ok x) P Q ok err = inl ok
ended_by (Err e) P Q ok err = inr err

-- a pager that is over a device
pub over_now : {D : Type 0} (disk : Ghosts D) (s now : LogFilesState D) (p : LogPagerValue D)
    (contents : ℕ → List ℕ) → s ≡ now → (IsPagerOver disk s.pager contents → IsPagerOver disk p contents)
    → IsPagerOver disk now.pager contents → IsPagerOver disk p contents
over_now {D} disk s now p contents same by over =
    by (subst (λ (q : LogFilesState D). IsPagerOver disk q.pager contents) (sym same) over)

-- a file, of this length now, may have another
pub record IsAskedLength {D : Type 0} (s : LogFilesState D) (file from to : ℕ) : Type 0 where
  pub may : MayHaveLogLength s.table file to
  pub from_is : from ≡ file_length s.lengths file

pub asked_length : {D : Type 0} (s now : LogFilesState D) (file from to : ℕ) → s ≡ now
    → MayHaveLogLength now.table file to → from ≡ file_length now.lengths file → IsAskedLength s file from to
asked_length s now file from to same may is =
    subst (λ p. IsAskedLength p file from to) (sym same) (record { may = may; from_is = is })
