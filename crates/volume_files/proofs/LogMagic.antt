-- The magic of a layout with a log, in the first block.
use Rattle.std.proofs.Common.{◌≡◌, ◌≢◌, ℕ, ◌≤◌, ◌⊎◌, inl, inr, Bool, true, false, List, length, take, refl, sym, subst}
use Rattle.std.specs.Prelude.{◌↔◌, IsTrue, codes}
use Rattle.std.proofs.lemmas.Bool.{both_ways}
use Rattle.volume_codec.specs.Layout.{block_at}
use Rattle.volume_files.specs.Layouts.{HasLogMagic}

-- a block begins with such a magic
abbrev Begins : List ℕ → Type 0
Begins block = (take 8 block ≡ codes "FAMSYNC5") ⊎ (take 8 block ≡ codes "FAMSYNC6")

pub magic_of_block : (bytes block : List ℕ) (found : Bool) → 4096 ≤ length bytes → block ≡ block_at bytes 0
    → (found ≡ true → (take 8 block ≡ codes "FAMSYNC5") ⊎ (take 8 block ≡ codes "FAMSYNC6"))
    → (found ≡ false → (take 8 block ≢ codes "FAMSYNC5") × (take 8 block ≢ codes "FAMSYNC6"))
    → IsTrue found ↔ HasLogMagic bytes
magic_of_block bytes block true long is begins lacks =
    (λ e. (long, subst Begins is (begins refl)), λ has. refl)
magic_of_block bytes block false long is begins lacks =
    (λ e. absurd (both_ways false refl e), λ has. absurd (neither (subst Begins (sym is) has.1)))
  where
    neither : Begins block → ⊥
    neither (inl five) = (lacks refl).0 five
    neither (inr six) = (lacks refl).1 six
