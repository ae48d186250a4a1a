-- The grammar of requests.
use Rattle.std.specs.Prelude.{ℕ, nat_le, List, [], ◌∷◌, length, if◌then◌else◌, codes}
use Rattle.std.specs.Prelude.{Option, Some, None, is_some, option_map}
use Rattle.std.specs.Result.{result_ok}
use Rattle.std.specs.Str.{bytes_eq}
use Rattle.hex.specs.Hex.{decode_of}
use Rattle.serde_json.specs.Data.{Data}
use Rattle.serde_json.specs.Read.{read}
use Rattle.serde_json.specs.Find.{as_str, as_array}
use Rattle.scripts.specs.Arguments.{if_some, whole_number, byte_of, short_of, long_of, list_of, all_of}
use Rattle.scripts.specs.declared.form.Form.TheVariants.{Session}
use Rattle.scripts.specs.Forms.{has_form}
use Rattle.scripts.specs.Script.{step_of, shape_of}
use Rattle.machine.specs.declared.act.Shape.{Shape}
use Rattle.machine.specs.declared.act.Step.{Step}

-- What a request asks for: steps, a load, a store, a commit, or a new length of a file. A load has an address and a
-- number of bytes. A store has an address and its bytes.
pub data Asked : Type 0 where
  asks_steps : List Step → Asked
  asks_load : ℕ → ℕ → ℕ → Asked
  asks_store : ℕ → ℕ → List ℕ → Asked
  asks_commit : ℕ → Asked
  asks_length : ℕ → ℕ → ℕ → Asked

-- the number of bytes to load, at most 64 KiB
abbrev pub count_of : Data → Option ℕ
count_of = whole_number 65536

-- the bytes in hexadecimal digits, two for each of at most 64 KiB
abbrev pub digits_of : List ℕ → Option (List ℕ)
digits_of digits = if nat_le (length digits) 131072 then result_ok (decode_of digits) else None

abbrev pub bytes_in_digits : Data → Option (List ℕ)
bytes_in_digits value = if_some (as_str value) digits_of

-- a request with a processor and two arguments
abbrev pub with_two : (ℕ → Data → Data → Option Asked) → Data → List Data → Option Asked
with_two what p (first ∷ second ∷ []) = if_some (byte_of p) (λ p. what p first second)
with_two what p _ = None

-- a load, with an address and a count
abbrev pub load_of : Data → List Data → Option Asked
load_of = with_two (λ p va count.
    if_some (long_of va) (λ va. if_some (count_of count) (λ count. Some (asks_load p va count))))

-- a store, with an address and the digits of the bytes
abbrev pub store_of : Data → List Data → Option Asked
store_of = with_two (λ p va digits.
    if_some (long_of va) (λ va. if_some (bytes_in_digits digits) (λ bytes. Some (asks_store p va bytes))))

abbrev pub commit_of : Data → List Data → Option Asked
commit_of p [] = if_some (byte_of p) (λ p. Some (asks_commit p))
commit_of p _ = None

-- a new length, with a file and the length in bytes
abbrev pub set_length_of : Data → List Data → Option Asked
set_length_of = with_two (λ p file length.
    if_some (short_of file) (λ file. if_some (long_of length) (λ length. Some (asks_length p file length))))

-- one step, as in a script
abbrev pub step_alone : Data → Option Asked
step_alone value = option_map (λ step. asks_steps (step ∷ [])) (step_of value)

-- a request with a name: a range, a commit or a length; any other name is that of a step
abbrev pub named_request : Data → Option (List ℕ) → Data → List Data → Option Asked
named_request value None p arguments = step_alone value
named_request value (Some name) p arguments =
    if bytes_eq name (codes "loads") then load_of p arguments
    else if bytes_eq name (codes "stores") then store_of p arguments
    else if bytes_eq name (codes "commit") then commit_of p arguments
    else if bytes_eq name (codes "setlength") then set_length_of p arguments
    else step_alone value

-- a list whose first item isn't a list
abbrev pub single_request : Data → Data → List Data → Option Asked
single_request value p (name ∷ arguments) = named_request value (as_str name) p arguments
single_request value p [] = step_alone value

-- one step or more, made in order
abbrev pub steps_together : List Data → Option Asked
steps_together items = option_map asks_steps (all_of step_of items)

abbrev pub items_request : Data → List Data → Option Asked
items_request value (first ∷ rest) =
    if is_some (as_array first) then steps_together (first ∷ rest) else single_request value first rest
items_request value [] = None

abbrev pub request_of : Data → Option Asked
request_of value = if_some (as_array value) (λ items. items_request value (list_of items))

-- the request in a line, if it contains one
abbrev pub request_in : List ℕ → Option Asked
request_in line = if_some (read line) request_of

-- the shape in an object that has no other members
abbrev pub shape_said : Data → Option Shape
shape_said value = if has_form Session value then shape_of value else None

-- the shape in the first line of a session
abbrev pub shape_in : List ℕ → Option Shape
shape_in line = if_some (read line) shape_said
