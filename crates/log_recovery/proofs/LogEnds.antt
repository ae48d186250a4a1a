-- A log doesn't end where the next commit lies.
use Rattle.std.proofs.Common.{◌≡◌, ℕ, ◌*◌, ◌≤◌, List, [], length, ap, subst, arith}
use Rattle.page_entry.specs.declared.refusal.Refusal.{Refusal}
use Rattle.page_entry.specs.declared.refusal.Refusal.TheVariants.{Damaged}
use Rattle.log_codec.specs.Log.{LogValue, IsLog}
use Rattle.log_codec.specs.Commit.{LogDescriptor}
use Rattle.log_codec.specs.Chain.{IsNextCommit, LogEndsAt}
use Rattle.log_codec.proofs.Public.{goes_on}
use Rattle.log_recovery.specs.inside.Commit.{RefusesNext}

pub not_end : (g : LogValue) (epoch p number left : ℕ) (d : LogDescriptor) (bytes : List ℕ) → IsLog g
    → 4096 * g.blocks ≤ length bytes → IsNextCommit g epoch p number left d bytes
    → LogEndsAt g.sealing g epoch p number left bytes → ⊥
not_end g epoch p number left d bytes log long is ends =
    let on = goes_on g epoch p number left d [] bytes log long is ends in
    let counts = ap length on.1 in omega (arith, counts)

pub damaged_there : (g : LogValue) (epoch p number left : ℕ) (bytes : List ℕ) (e : Refusal)
    → RefusesNext g epoch p number left bytes e → e ≡ Damaged
    → LogEndsAt g.sealing g epoch p number left bytes → ⊥
damaged_there g epoch p number left bytes e refuses is ends =
    let P : Refusal → Type 0 = λ r. RefusesNext g epoch p number left bytes r in subst P is refuses [] ends
