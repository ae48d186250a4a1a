-- Acts in a script: the name and the arguments of each.
use Rattle.std.specs.Prelude.{ℕ, List, [], ◌∷◌, find, codes, Option, Some, None}
use Rattle.std.specs.Str.{bytes_eq}
use Rattle.serde_json.specs.Data.{Data}
use Rattle.scripts.specs.Arguments.{if_some, byte_of, short_of, page_number_of, long_of, flags_of}
use Rattle.scripts.specs.Arguments.{prot_of, access_of, keep_of, write_of, few_bytes_of}
use Rattle.machine.specs.declared.act.Act.{Act}
use Rattle.machine.specs.declared.act.Act.TheVariants.{Load, Store, Fill, Evict, Switch, Idle, Wake, Fix}
use Rattle.machine.specs.declared.act.Act.TheVariants.{Create, Destroy, Map, Unmap, Protect, Reclaim}
use Rattle.machine.specs.declared.act.Act.TheVariants.{Msync, SetLength, Ack, Change, Resume, Flush}

-- an act without arguments
abbrev pub without_more : Act → List Data → Option Act
without_more act [] = Some act
without_more act _ = None

-- acts with one, two and three arguments, each read with its own function
abbrev pub of_one : {A : Type 0} → (Data → Option A) → (A → Act) → List Data → Option Act
of_one first act (x ∷ []) = if_some (first x) (λ a. Some (act a))
of_one first act _ = None

abbrev pub of_two : {A B : Type 0} → (Data → Option A) → (Data → Option B) → (A → B → Act) → List Data → Option Act
of_two first second act (x ∷ y ∷ []) = if_some (first x) (λ a. if_some (second y) (λ b. Some (act a b)))
of_two first second act _ = None

abbrev pub of_three : {A B C : Type 0} → (Data → Option A) → (Data → Option B) → (Data → Option C) → (A → B → C → Act)
    → List Data → Option Act
of_three first second third act (x ∷ y ∷ z ∷ []) =
    if_some (first x) (λ a. if_some (second y) (λ b. if_some (third z) (λ c. Some (act a b c))))
of_three first second third act _ = None

-- the arguments of map: a space, an address, a length, a file, an offset, rights, and the access with which the file
-- was opened
abbrev pub map_of : List Data → Option Act
map_of (space ∷ va ∷ len ∷ file ∷ offset ∷ prot ∷ access ∷ []) =
    if_some (short_of space) (λ space. if_some (long_of va) (λ va. if_some (long_of len) (λ len.
    if_some (short_of file) (λ file. if_some (long_of offset) (λ offset.
    if_some (prot_of prot) (λ prot. if_some (access_of access) (λ access.
    Some (Map space va len file offset prot access))))))))
map_of _ = None

-- the arguments of protect: a space, an address, a length and rights
abbrev pub protect_of : List Data → Option Act
protect_of (space ∷ va ∷ len ∷ prot ∷ []) =
    if_some (short_of space) (λ space. if_some (long_of va) (λ va. if_some (long_of len) (λ len.
    if_some (prot_of prot) (λ prot. Some (Protect space va len prot)))))
protect_of _ = None

-- the acts by name, each with the function that reads its arguments
abbrev pub acts_by_name : List (List ℕ × (List Data → Option Act))
acts_by_name =
    -- an address and a count; an address and bytes
    (codes "load", of_two long_of byte_of Load)
    ∷ (codes "store", of_two long_of few_bytes_of Store)
    -- a page: an address divided by 4,096; a slot
    ∷ (codes "fill", of_one long_of Fill)
    ∷ (codes "evict", of_one byte_of Evict)
    -- a space and whether entries are kept
    ∷ (codes "switch", of_two short_of keep_of Switch)
    ∷ (codes "idle", without_more Idle)
    ∷ (codes "wake", without_more Wake)
    -- an address, and whether the access is a write
    ∷ (codes "fix", of_two long_of write_of Fix)
    ∷ (codes "create", without_more Create)
    -- a space
    ∷ (codes "destroy", of_one short_of Destroy)
    ∷ (codes "map", map_of)
    -- a space, an address and a length
    ∷ (codes "unmap", of_three short_of long_of long_of Unmap)
    ∷ (codes "protect", protect_of)
    -- a file and one of its pages
    ∷ (codes "reclaim", of_two short_of page_number_of Reclaim)
    -- an address, a length and flags
    ∷ (codes "msync", of_three long_of long_of flags_of Msync)
    -- a file and its new length in bytes
    ∷ (codes "setlength", of_two short_of long_of SetLength)
    ∷ (codes "ack", without_more Ack)
    ∷ (codes "change", without_more Change)
    ∷ (codes "resume", without_more Resume)
    ∷ (codes "flush", without_more Flush) ∷ []

-- the act with this name and these arguments
abbrev pub act_of : List ℕ → List Data → Option Act
act_of name arguments = if_some (find (λ row. bytes_eq name row.0) acts_by_name) (λ row. row.1 arguments)
