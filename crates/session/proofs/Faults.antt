-- Why a line is no request.
use Rattle.std.proofs.Common.{◌≡◌, ◌⊎◌, inl, inr, List, ℕ, Option, Some, None, ◌∙◌, ap}
use Rattle.serde_json.specs.Data.{Data}
use Rattle.serde_json.specs.Find.{as_array}
use Rattle.serde_json.specs.Read.{read}
use Rattle.scripts.specs.Arguments.{if_some}
use Rattle.session.specs.declared.request_fault.RequestFault.{RequestFault}
use Rattle.session.specs.declared.request_fault.RequestFault.TheVariants as fault
use Rattle.session.specs.Asked.{IsMemory}
use Rattle.session.specs.Causes.{IsFaultOf}
use Rattle.session.specs.Requests.{request_in, request_of}
use Rattle.session.specs.inside.Faults.{IsFaultIn, IsFaultInside}

pub inside_in : (why : RequestFault) (value : Data) → IsFaultInside why → IsFaultIn why value
inside_in fault.NotAList value is = absurd is
inside_in (fault.Long most) value is = is
inside_in fault.NotUtf8 value is = is
inside_in (fault.NotJson cause) value is = is
inside_in why value is = tt

no_request : (line : List ℕ) (value : Data) → read line ≡ Some value → request_of value ≡ None
    → request_in line ≡ None
no_request line value is none = ap (λ (o : Option Data). if_some o request_of) is ∙ none

pub fault_of : (why : RequestFault) (line : List ℕ) (value : Data) → read line ≡ Some value
    → IsMemory why ⊎ (request_of value ≡ None) → IsFaultIn why value → IsMemory why ⊎ IsFaultOf why line
fault_of (fault.Memory cause) line value is none of = inl tt
fault_of fault.NotAList line value is none of = inr (ap (λ (o : Option Data). if_some o as_array) is ∙ of)
fault_of (fault.Long most) line value is none of = absurd of
fault_of fault.NotUtf8 line value is none of = absurd of
fault_of (fault.NotJson cause) line value is none of = absurd of
fault_of fault.Empty line value is (inl memory) of = absurd memory
fault_of fault.Empty line value is (inr none) of = inr (no_request line value is none)
fault_of (fault.Step cause) line value is (inl memory) of = absurd memory
fault_of (fault.Step cause) line value is (inr none) of = inr (no_request line value is none)
fault_of (fault.Steps number found cause) line value is (inl memory) of = absurd memory
fault_of (fault.Steps number found cause) line value is (inr none) of = inr (no_request line value is none)
fault_of (fault.Bytes most) line value is (inl memory) of = absurd memory
fault_of (fault.Bytes most) line value is (inr none) of = inr (no_request line value is none)
