-- What the host does with the disk of an embedded pager between two requests.
use Rattle.std.specs.Prelude.{◌≡◌, ◌-◌, true, false}
use Rattle.deferred_disk.specs.Deferred.{Deferred, after_forget, with_waiting}
use Rattle.embedded.specs.declared.tending.Supplying.{Supplying}
use Rattle.embedded.specs.declared.tending.Forgetting.{Forgetting}
use Rattle.embedded.specs.declared.tending.Carrying.{Carrying}
use Rattle.embedded.specs.Supplying.{with_supplied, is_free}

-- A block was supplied, or memory for it was refused.
pub record HasSupplied (old : Supplying) (before after : Deferred) (new : Supplying) : Type 0 where
  pub ok : new.refused ≡ false → after ≡ with_supplied before old.block old.bytes.now
  pub err : new.refused ≡ true → after ≡ before

-- A block was forgotten, if it is free.
pub record HasForgotten (old : Forgetting) (before after : Deferred) (new : Forgetting) : Type 0 where
  pub free : new.done ≡ is_free before old.block
  pub forgotten : new.done ≡ true → after ≡ after_forget before old.block
  pub kept : new.done ≡ false → after ≡ before

-- The oldest waiting call was carried out.
abbrev pub HasCarried : Carrying → Deferred → Deferred → Carrying → Type 0
HasCarried old before after new = after ≡ with_waiting before (before.waiting - 1)
