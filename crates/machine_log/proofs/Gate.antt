-- The byte of a gate.
use Rattle.std.proofs.Common.{◌≡◌, ◌==◌, ℕ, zero, suc, ◌+◌, ◌-◌, ◌*◌, ◌<◌}
use Rattle.std.proofs.Common.{◌≤◌, true, false, List, [], ◌∷◌, length, take, drop}
use Rattle.std.proofs.Common.{get_or, inl, inr, refl, sym, ap, subst, ◌∙◌, arith}
use Rattle.std.specs.Prelude.{slice_range}
use Rattle.std.specs.List.{AllByRecursion}
use Rattle.std.proofs.lemmas.Bool.{both_ways, eqb-true, or_cases}
use Rattle.std.proofs.lemmas.List.{length-take, length-drop, get_or-take, get_or-drop, ext_get_or}
use Rattle.device.specs.Memory.{seen_of}
use Rattle.volume_codec.specs.Layout.{GeometryValue, gate_block, block_at, journals_of}
use Rattle.volume_codec.specs.Super.{SuperValue, geometry_of}
use Rattle.volume_codec.specs.Recovery.{Batch, IsOpen, IsOpenBatch, has_journal}
use Rattle.machine_log.specs.Shown.{ShownValue, HasShown}
use Rattle.machine_log.specs.Disk.{LogDiskValue}

open_of : (t : SuperValue) (bytes : List ℕ) (opened : List Batch) (j : ℕ)
    → AllByRecursion (IsOpenBatch (geometry_of t) bytes) opened → has_journal opened j ≡ true
    → IsOpen bytes t.slots j
open_of t bytes [] j each has = absurd (both_ways false refl has)
open_of t bytes (batch ∷ older) j each has = elim (or_cases (batch.journal == j) (has_journal older j) has) [
  | inl here ↦ subst (IsOpen bytes t.slots) (eqb-true batch.journal j here) each.0.gate
  | inr later ↦ open_of t bytes older j each.1 later
]

pub open_byte : (t : SuperValue) (shown : ShownValue) (bytes : List ℕ) (j : ℕ) → HasShown t shown bytes
    → has_journal shown.opened j ≡ true → get_or bytes (4096 * gate_block t.slots j) 0 ≡ 0xA7
open_byte t shown bytes j h has = open_of t bytes shown.opened j h.volume.journals.each has

-- one byte of a list, and one block
pub one_byte : (bytes : List ℕ) (at byte : ℕ) → at + 1 ≤ length bytes → get_or bytes at 0 ≡ byte
    → byte ∷ [] ≡ slice_range bytes at (at + 1)
one_byte bytes at byte fits is = sym (ext_get_or 0 (slice_range bytes at (at + 1)) (byte ∷ []) size each)
  where
    size : length (slice_range bytes at (at + 1)) ≡ 1
    size = omega (arith, fits, length-take (at + 1 - at) (drop at bytes), length-drop at bytes)

    each : (k : ℕ) → k < length (slice_range bytes at (at + 1))
        → get_or (slice_range bytes at (at + 1)) k 0 ≡ get_or (byte ∷ []) k 0
    each zero lt =
        let place : at + 0 ≡ at = omega arith in
        get_or-take (at + 1 - at) (drop at bytes) 0 0 (omega arith) ∙ get_or-drop at bytes 0 0
        ∙ ap (λ n. get_or bytes n 0) place ∙ is
    each (suc k) lt = absurd (omega (arith, lt, size))

-- a block of a disk, by its offset
pub one_block : (bytes : List ℕ) (at block n : ℕ) → at ≡ 4096 * block → n ≡ 4096
    → block_at bytes block ≡ slice_range bytes at (at + n)
one_block bytes at block n place size =
    let part : at + n - at ≡ 4096 = omega (arith, size) in
    ap (λ k. take 4096 (drop k bytes)) (sym place) ∙ ap (λ k. take k (drop at bytes)) (sym part)

pub closed_byte : (t : SuperValue) (shown : ShownValue) (bytes : List ℕ) (j : ℕ) → HasShown t shown bytes
    → j < journals_of t.layout → has_journal shown.opened j ≡ false → get_or bytes (4096 * gate_block t.slots j) 0 ≡ 0
closed_byte t shown bytes j h lt none =
    let P : GeometryValue → Type 0 = λ g. (j : ℕ) → j < journals_of g.layout → has_journal shown.opened j ≡ false
    → get_or bytes (4096 * gate_block g.slots j) 0 ≡ 0 in
    subst P h.geometry h.closed j lt none

-- what a disk has at the gate block of a journal
pub byte_there : {D : Type 0} {disk value : LogDiskValue D} {block byte : ℕ} (j : ℕ) → disk ≡ value
    → block ≡ gate_block value.table.slots j
    → get_or (seen_of disk.memory) (4096 * gate_block disk.table.slots j) 0 ≡ byte
    → get_or (seen_of value.memory) (4096 * block) 0 ≡ byte
byte_there {D} {disk} {value} {block} {byte} j view is there =
    subst (λ (d : LogDiskValue D). get_or (seen_of d.memory) (4096 * block) 0 ≡ byte) view
    (ap (λ b. get_or (seen_of disk.memory) (4096 * b) 0)
    (is ∙ ap (λ (d : LogDiskValue D). gate_block d.table.slots j) (sym view)) ∙ there)
