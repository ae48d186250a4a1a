-- An access that is refused by its processor or its range is answered as such.
use Rattle.std.proofs.Common.{ℕ, List, length, Err, refl}
use Rattle.page_entry.specs.declared.refusal.Refusal.{Refusal}
use Rattle.page_entry.specs.declared.refusal.Refusal.TheVariants.{Fault}
use Rattle.cpu.specs.Access.{Hardware, AccessRefused, Loads, Stores}

pub Loads-refused : (h : Hardware) (p va count : ℕ) (why : Refusal) → AccessRefused h p va count why
    → Loads h p va count (Err why) h
Loads-refused h p va count (Fault code) refused = absurd refused
Loads-refused h p va count why refused = (refused, refl)

pub Stores-refused : (h : Hardware) (p va : ℕ) (bytes : List ℕ) (why : Refusal)
    → AccessRefused h p va (length bytes) why
    → Stores h p va bytes (Err why) h
Stores-refused h p va bytes (Fault code) refused = absurd refused
Stores-refused h p va bytes why refused = (refused, refl)
