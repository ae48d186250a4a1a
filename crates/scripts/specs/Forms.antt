-- The members of a script, of a script for threads, and of the first lines of a trace and of a session.
use Rattle.std.specs.Prelude.{ℕ, List, [], ◌∷◌, Bool, true, false, not, find, codes, Option, Some, None}
use Rattle.std.specs.List.{list_any}
use Rattle.std.specs.Str.{bytes_eq}
use Rattle.serde_json.specs.Data.{Data, Members, no_members, member}
use Rattle.serde_json.specs.Find.{as_object}
use Rattle.scripts.specs.declared.form.Form.{Form}
use Rattle.scripts.specs.declared.form.Form.TheVariants.{Script, ThreadScript, Trace, Session}

-- the names of a form's members
abbrev pub members_of_form : Form → List (List ℕ)
members_of_form Script = codes "cpus" ∷ codes "tlb" ∷ codes "frames" ∷ codes "copies" ∷ codes "steps" ∷ []
members_of_form ThreadScript = codes "cpus" ∷ codes "tlb" ∷ codes "frames" ∷ codes "copies" ∷ codes "trace"
    ∷ codes "steps" ∷ codes "programs" ∷ []
members_of_form Trace = codes "cpus" ∷ codes "tlb" ∷ codes "frames" ∷ codes "copies" ∷ codes "trace" ∷ []
members_of_form Session = codes "cpus" ∷ codes "tlb" ∷ codes "frames" ∷ codes "copies" ∷ []

-- whether the form has a member with this name
abbrev pub is_member : Form → List ℕ → Bool
is_member form name = list_any (λ known. bytes_eq name known) (members_of_form form)

-- the names of an object's members
abbrev pub names_of : Members → List (List ℕ)
names_of no_members = []
names_of (member name value rest) = name ∷ names_of rest

-- the first name that is not that of a member of the form
abbrev pub unknown_of : Form → Members → Option (List ℕ)
unknown_of form members = find (λ name. not (is_member form name)) (names_of members)

abbrev pub is_nothing : {A : Type 0} → Option A → Bool
is_nothing None = true
is_nothing (Some x) = false

-- whether there are members, and each has a name of the form
abbrev pub are_known : Form → Option Members → Bool
are_known form None = false
are_known form (Some members) = is_nothing (unknown_of form members)

-- whether a value is an object, and each of its members has a name of the form
abbrev pub has_form : Form → Data → Bool
has_form form value = are_known form (as_object value)
