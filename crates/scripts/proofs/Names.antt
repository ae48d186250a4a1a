-- The names of an object's members.
use Rattle.std.proofs.Common.{◌≡◌, List, [], ◌∷◌, Bool, true, false, not, find}
use Rattle.std.proofs.Common.{string_bytes, String, Option, Some, option_map, refl, cond}
use Rattle.std.specs.declared.alloc.Global.{Global}
use Rattle.std.specs.Map.{keys_of}
use Rattle.serde_json.specs.View.{members_view}
use Rattle.serde_json.specs.declared.value.Value.{Value}
use Rattle.scripts.specs.declared.form.Form.{Form}
use Rattle.scripts.specs.Forms.{is_member, unknown_of}

this_or_rest : (b : Bool) (name : String Global) (rest : Option (String Global)) → cond b (Some (string_bytes name))
    (option_map string_bytes rest) ≡ option_map string_bytes (cond b (Some name) rest)
this_or_rest true name rest = refl
this_or_rest false name rest = refl

-- the first unknown name, as a key of the map that an object is
pub unknown_in_entries : (form : Form) (es : List (String Global × Value)) → unknown_of form (members_view es)
    ≡ option_map string_bytes (find (λ name. not (is_member form (string_bytes name))) (keys_of es))
unknown_in_entries form [] = refl
unknown_in_entries form (e ∷ es) = rw (unknown_in_entries form es)
    (this_or_rest (not (is_member form (string_bytes e.0))) e.0
    (find (λ name. not (is_member form (string_bytes name))) (keys_of es)))
