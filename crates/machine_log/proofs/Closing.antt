-- The gate of the oldest batch closes, and blocks are forgotten.
use Rattle.std.proofs.Common.{◌≡◌, ℕ, zero, suc, ◌+◌, ◌*◌, ◌-◌}
use Rattle.std.proofs.Common.{List, [], ◌∷◌, ◌++◌, Option, Some, None}
use Rattle.std.proofs.Common.{length, length-append, get_or, take, inl, inr, refl, sym, ap, subst, ◌∙◌, arith}
use Rattle.std.proofs.lemmas.Bool.{cases_Bool, cond-true, cond-false}
use Rattle.std.proofs.lemmas.List.{take_at}
use Rattle.device.specs.Device.{written}
use Rattle.volume_codec.specs.Layout.{GeometryValue, gate_block}
use Rattle.volume_codec.specs.Recovery.{Batch}
use Rattle.kept_blocks.specs.Blocks.{Blocks, bytes_in, without_run}
use Rattle.kept_blocks.proofs.Public.{bytes_without, is_outside}
use Rattle.machine_log.specs.Shown.{ShownValue, StaysShown}
use Rattle.machine_log.specs.inside.Closing.{ClosesOldest}
use Rattle.machine_log.proofs.Gates.{close_stays}

-- each block that these keep, those keep with the same bytes
abbrev pub AreFewer : Blocks → Blocks → Type 0
AreFewer some blocks = (q : ℕ) (bytes : List ℕ) → bytes_in some q ≡ Some bytes → bytes_in blocks q ≡ Some bytes

none_some : {X : Type 0} {x : X} → None ≡ Some x → ⊥
none_some {X} {x} e = subst (λ (o : Option X). elim o as (λ _. Type 0) [ None ↦ Unit {0} | Some y ↦ ⊥ ]) e tt

pub fewer_run : (blocks : Blocks) (low high : ℕ) → AreFewer (without_run blocks low high) blocks
fewer_run blocks low high q bytes is = elim (cases_Bool (is_outside low high q)) [
  | inl outside ↦ sym (cond-true (is_outside low high q) (bytes_in blocks q) None outside)
      ∙ sym (bytes_without low high blocks q) ∙ is
  | inr inside ↦ absurd (none_some (sym (cond-false (is_outside low high q) (bytes_in blocks q) None inside)
      ∙ sym (bytes_without low high blocks q) ∙ is))
]

pub fewer_as : (some same blocks : Blocks) → AreFewer some blocks → same ≡ some → AreFewer same blocks
fewer_as some same blocks fewer e = subst (λ b. AreFewer b blocks) (sym e) fewer

front_of : {X : Type 0} (newer : List X) (oldest : X) (all : List X) → all ≡ newer ++ oldest ∷ []
    → take (length all - 1) all ≡ newer
front_of newer oldest all parts =
    let n : length all - 1 ≡ length newer =
    omega (arith, ap length parts, length-append newer (oldest ∷ [])) in
    ap (λ k. take k all) n ∙ ap (take (length newer)) parts ∙ take_at newer (oldest ∷ []) (length newer) refl

-- what is left of the volume, whichever blocks are kept
pub closes : (s : ShownValue) (j : ℕ) (geometry : GeometryValue) (blocks : Blocks) (opened : List Batch)
    (some : Blocks) (left : List Batch)
    → record { geometry = geometry; blocks = blocks; opened = opened } ≡ s → ClosesOldest s j
    → left ≡ take (length opened - 1) opened → AreFewer some blocks
    → StaysShown s (record { geometry = geometry; blocks = some; opened = left })
    (λ seen. written seen (4096 * gate_block s.geometry.slots j) (0 ∷ []))
closes s j geometry blocks opened some left view may rest fewer =
    let opened_is : opened ≡ s.opened = ap (λ (v : ShownValue). v.opened) view in
    let newer : may.newer ≡ left = sym (rest ∙ front_of may.newer may.oldest opened (opened_is ∙ may.parts)) in
    subst (λ v. StaysShown s v (λ seen. written seen (4096 * gate_block s.geometry.slots j) (0 ∷ [])))
    (ap (λ (l : List Batch). let v : ShownValue = record { geometry = s.geometry; blocks = some; opened = l } in v)
    newer
    ∙ ap (λ (v : ShownValue). let w : ShownValue = record { geometry = v.geometry; blocks = some; opened = left } in w)
    (sym view))
    (close_stays s j some may (λ q bytes is. ap (λ (v : ShownValue). bytes_in v.blocks q) (sym view)
    ∙ fewer q bytes is))

-- a list is its front and its last element
pub last_of : (all : List Batch) (n : ℕ) (last : Batch) → length all ≡ n + 1
    → last ≡ get_or all n last → all ≡ take n all ++ last ∷ []
last_of [] n last size is = absurd (omega (arith, size))
last_of (one ∷ []) zero last size is = ap (λ (b : Batch). b ∷ []) (sym is)
last_of (one ∷ next ∷ all) zero last size is = absurd (omega (arith, size))
last_of (one ∷ all) (suc n) last size is =
    ap (λ (l : List Batch). one ∷ l) (last_of all n last (omega (arith, size)) is)
