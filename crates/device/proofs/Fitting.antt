-- What a file says of a call, as a disk over it does.
use Rattle.std.proofs.Common.{◌≡◌, ◌↔◌, ℕ, ◌+◌, Bool, List, length, Result, OnOk, IsErr, sym, ◌∙◌, ap, subst}
use Rattle.std.specs.Prelude.{slice_range}
use Rattle.device.specs.Device.{written, Torn, Only}
use Rattle.device.specs.File.{Opened, IsOverHonest, fitted, after_call}
use Rattle.device.specs.declared.block_file.BlockFile.{Ghosts}
use Rattle.device.specs.inside.Fitted.{fitted_size, whole_fitted}

-- A file before a call of a disk over it and after.
module _ {F : Type 0} (file : Ghosts F) (old new : Opened F) (done : Bool)
    (counted : new ≡ after_call old new.file done) where
  size : new.size ≡ old.size
  size = ap (λ (disk : Opened _). disk.size) counted

  -- an honest file is given as it is
  before : IsOverHonest file.is_honest file.seen old → fitted old.size (file.seen old.file) ≡ file.seen old.file
  before honest = whole_fitted old.size (file.seen old.file) honest.1

  after : IsOverHonest file.is_honest file.seen old → length (file.seen new.file) ≡ length (file.seen old.file)
      → fitted new.size (file.seen new.file) ≡ file.seen new.file
  after honest kept = whole_fitted new.size (file.seen new.file) (kept ∙ honest.1 ∙ sym size)

  pub read_over : {T E : Type 0} (result : Result T E) (at count : ℕ) (buffer : List ℕ)
      → (file.is_honest old.file → OnOk result (buffer ≡ slice_range (file.seen old.file) at (at + count)))
      → IsOverHonest file.is_honest file.seen old
      → OnOk result (buffer ≡ slice_range (fitted old.size (file.seen old.file)) at (at + count))
  read_over result at count buffer read honest =
      let P : List ℕ → Type 0 = λ l. OnOk result (buffer ≡ slice_range l at (at + count)) in
      subst P (sym (before honest)) (read honest.0)

  pub same_over : file.seen new.file ≡ file.seen old.file
      → fitted new.size (file.seen new.file) ≡ fitted old.size (file.seen old.file)
  same_over same = ap (λ k. fitted k (file.seen new.file)) size ∙ ap (λ (l : List ℕ). fitted old.size l) same

  -- where only an honest file is known to give the same
  pub kept_over : (file.is_honest old.file → file.seen new.file ≡ file.seen old.file)
      → IsOverHonest file.is_honest file.seen old
      → fitted new.size (file.seen new.file) ≡ fitted old.size (file.seen old.file)
  kept_over same honest = same_over (same honest.0)

  pub write_over : {T E : Type 0} (result : Result T E) (at : ℕ) (bytes : List ℕ)
      → (file.is_honest old.file → length (file.seen new.file) ≡ length (file.seen old.file))
      → (file.is_honest old.file → OnOk result (file.seen new.file ≡ written (file.seen old.file) at bytes))
      → IsOverHonest file.is_honest file.seen old
      → OnOk result (fitted new.size (file.seen new.file) ≡ written (fitted old.size (file.seen old.file)) at bytes)
  write_over result at bytes kept wrote honest =
      let P : List ℕ → Type 0 = λ l. OnOk result (l ≡ written (fitted old.size (file.seen old.file)) at bytes) in
      let Q : List ℕ → Type 0 = λ l. OnOk result (file.seen new.file ≡ written l at bytes) in
      subst P (sym (after honest (kept honest.0))) (subst Q (sym (before honest)) (wrote honest.0))

  pub torn_over : {T E : Type 0} (result : Result T E) (at count : ℕ)
      → (file.is_honest old.file → length (file.seen new.file) ≡ length (file.seen old.file))
      → (IsErr result → file.is_honest old.file → Torn at count (file.seen old.file) (file.seen new.file))
      → IsErr result → IsOverHonest file.is_honest file.seen old
      → Torn at count (fitted old.size (file.seen old.file)) (fitted new.size (file.seen new.file))
  torn_over result at count kept torn failed honest =
      let P : List ℕ → Type 0 = λ l. Torn at count (fitted old.size (file.seen old.file)) l in
      let Q : List ℕ → Type 0 = λ l. Torn at count l (file.seen new.file) in
      subst P (sym (after honest (kept honest.0))) (subst Q (sym (before honest)) (torn failed honest.0))

  pub durable_over : {T E : Type 0} (result : Result T E)
      → (file.is_honest old.file → OnOk result (Only (file.may_leave new.file) (file.seen old.file)))
      → IsOverHonest file.is_honest file.seen old
      → OnOk result (Only (file.may_leave new.file) (fitted old.size (file.seen old.file)))
  durable_over result durable honest =
      let P : List ℕ → Type 0 = λ l. OnOk result (Only (file.may_leave new.file) l) in
      subst P (sym (before honest)) (durable honest.0)

  -- A disk over a file that stays honest and as long is as honest as before; and it is as long as before.
  pub stays_over : file.is_honest new.file ↔ file.is_honest old.file
      → (file.is_honest old.file → length (file.seen new.file) ≡ length (file.seen old.file))
      → (IsOverHonest file.is_honest file.seen new ↔ IsOverHonest file.is_honest file.seen old)
      × (length (fitted new.size (file.seen new.file)) ≡ length (fitted old.size (file.seen old.file)))
  stays_over honest kept = (
    (
      (λ over. (honest.0 over.0, sym (kept (honest.0 over.0)) ∙ over.1 ∙ size)),
      (λ over. (honest.1 over.0, kept over.0 ∙ over.1 ∙ sym size)),
    ),
    fitted_size new.size (file.seen new.file) ∙ size ∙ sym (fitted_size old.size (file.seen old.file)),
  )
