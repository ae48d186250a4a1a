-- The faults that the parts of a line can have.
use Rattle.std.specs.Prelude.{◌≡◌, ⊤, None}
use Rattle.serde_json.specs.Data.{Data}
use Rattle.serde_json.specs.Find.{as_array}
use Rattle.session.specs.declared.request_fault.RequestFault.{RequestFault}
use Rattle.session.specs.declared.request_fault.RequestFault.TheVariants as fault

-- The contents of a list can have this fault.
abbrev pub IsFaultInside : RequestFault → Type 0
IsFaultInside (fault.Long most) = ⊥
IsFaultInside fault.NotUtf8 = ⊥
IsFaultInside (fault.NotJson cause) = ⊥
IsFaultInside fault.NotAList = ⊥
IsFaultInside why = ⊤

-- The value is no list, or the contents of a list can have this fault.
abbrev pub IsFaultIn : RequestFault → Data → Type 0
IsFaultIn fault.NotAList value = as_array value ≡ None
IsFaultIn why value = IsFaultInside why
