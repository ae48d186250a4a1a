-- Layouts, and where the parts of a volume lie in them.
use Rattle.std.proofs.Common.{◌≡◌, ◌≢◌, inl, inr, ℕ, suc, ◌+◌, ◌*◌, ◌<◌, ◌≤◌, List, length, get_or, refl, ap, arith}
use Rattle.std.proofs.lemmas.Bool.{cases_lt}
use Rattle.std.proofs.lemmas.Nat.{mul-le}
use Rattle.volume_codec.specs.declared.layout.Layout.{Layout}
use Rattle.volume_codec.specs.declared.layout.Layout.TheVariants.{One, Two, Three, Four}
use Rattle.volume_codec.specs.Layout.{GeometryValue, IsGeometry, number_of, magic_of, journals_of, max_slots}
use Rattle.volume_codec.specs.Layout.{descriptor_blocks, journal_blocks, gate_block, descriptor_block, record_block}
use Rattle.volume_codec.specs.Layout.{first_home, first_file_home}

-- no two layouts have one number
pub number_of-injective : (a b : Layout) → number_of a ≡ number_of b → a ≡ b
number_of-injective One One h = refl
number_of-injective One Two h = absurd (omega arith)
number_of-injective One Three h = absurd (omega arith)
number_of-injective Two One h = absurd (omega arith)
number_of-injective Two Two h = refl
number_of-injective Two Three h = absurd (omega arith)
number_of-injective Three One h = absurd (omega arith)
number_of-injective Three Two h = absurd (omega arith)
number_of-injective Three Three h = refl
number_of-injective One Four h = absurd (omega arith)
number_of-injective Two Four h = absurd (omega arith)
number_of-injective Three Four h = absurd (omega arith)
number_of-injective Four One h = absurd (omega arith)
number_of-injective Four Two h = absurd (omega arith)
number_of-injective Four Three h = absurd (omega arith)
number_of-injective Four Four h = refl

-- nor one magic: its last byte is the digit of the number
last_of_magic : (layout : Layout) → get_or (magic_of layout) 7 0 ≡ 48 + number_of layout
last_of_magic One = refl
last_of_magic Two = refl
last_of_magic Three = refl
last_of_magic Four = refl

pub magic_of-injective : (a b : Layout) → magic_of a ≡ magic_of b → a ≡ b
magic_of-injective a b h =
    let last = ap (λ (bytes : List ℕ). get_or bytes 7 0) h in
    number_of-injective a b (omega (arith, last, last_of_magic a, last_of_magic b))

-- a magic has eight bytes
pub length-magic_of : (layout : Layout) → length (magic_of layout) ≡ 8
length-magic_of One = refl
length-magic_of Two = refl
length-magic_of Three = refl
length-magic_of Four = refl

-- a volume has one journal, two or four
pub few_journals : (layout : Layout) → (0 < journals_of layout) × (journals_of layout ≤ 4)
few_journals One = (omega arith, omega arith)
few_journals Two = (omega arith, omega arith)
few_journals Three = (omega arith, omega arith)
few_journals Four = (omega arith, omega arith)

-- and at most so many slots in each
pub few_slots : (layout : Layout) → max_slots layout ≤ 65535
few_slots One = omega arith
few_slots Two = omega arith
few_slots Three = omega arith
few_slots Four = omega arith

-- a descriptor has a block, and one alone up to so many slots
pub descriptor_blocks-some : (slots : ℕ) → 0 < descriptor_blocks slots
descriptor_blocks-some slots = omega arith

pub descriptor_blocks-one : (slots : ℕ) → slots ≤ 1020 → descriptor_blocks slots ≡ 1
descriptor_blocks-one slots le = omega arith

-- the blocks of a journal end before those of the next
next_journal : (j k w : ℕ) → j < k → j * w + w ≤ k * w
next_journal j k w h = let m = mul-le (suc j) w k w (omega arith) (omega arith) in let e = step j w in omega arith
  where
    step : (j w : ℕ) → suc j * w ≡ j * w + w
    step j w = omega arith

-- a journal's parts lie before every home block
pub gate_block-low : (layout : Layout) (slots j : ℕ) → j < journals_of layout
    → gate_block slots j < first_home layout slots
gate_block-low layout slots j h = let m = next_journal j (journals_of layout) (journal_blocks slots) h in omega arith

pub descriptor_block-low : (layout : Layout) (slots j i : ℕ) → j < journals_of layout → i < descriptor_blocks slots
    → descriptor_block slots j + i < first_home layout slots
descriptor_block-low layout slots j i h l =
    let m = next_journal j (journals_of layout) (journal_blocks slots) h in omega arith

pub descriptor_end-low : (layout : Layout) (slots j : ℕ) → j < journals_of layout
    → descriptor_block slots j + descriptor_blocks slots ≤ first_home layout slots
descriptor_end-low layout slots j h =
    let m = next_journal j (journals_of layout) (journal_blocks slots) h in omega arith

pub record_block-low : (layout : Layout) (slots j i : ℕ) → j < journals_of layout → i < slots
    → record_block slots j i < first_home layout slots
record_block-low layout slots j i h l =
    let m = next_journal j (journals_of layout) (journal_blocks slots) h in omega arith

-- and before the parts of the next journal
pub record_block-apart : (slots j k i : ℕ) → j < k → i < slots → record_block slots j i < gate_block slots k
record_block-apart slots j k i h l = let m = next_journal j k (journal_blocks slots) h in omega arith

pub descriptor_block-apart : (slots j k i : ℕ) → j < k → i < descriptor_blocks slots
    → descriptor_block slots j + i < gate_block slots k
descriptor_block-apart slots j k i h l = let m = next_journal j k (journal_blocks slots) h in omega arith

-- no two journals have one gate
pub gates_apart : (slots j k : ℕ) → gate_block slots j ≡ gate_block slots k → j ≡ k
gates_apart slots j k same = elim (cases_lt j k) [
  | inl before ↦ let m = next_journal j k (journal_blocks slots) before in absurd (omega arith)
  | inr from_k ↦ elim (cases_lt k j) [
    | inl after ↦ let m = next_journal k j (journal_blocks slots) after in absurd (omega arith)
    | inr here ↦ omega arith
  ]
]

-- and no gate lies in another part of a journal
pub gate_not_descriptor : (slots j k i : ℕ) → i < descriptor_blocks slots
    → gate_block slots k ≢ descriptor_block slots j + i
gate_not_descriptor slots j k i l same = elim (cases_lt j k) [
  | inl before ↦ let m = descriptor_block-apart slots j k i before l in omega arith
  | inr from_k ↦ elim (cases_lt k j) [
    | inl after ↦ let m = next_journal k j (journal_blocks slots) after in omega arith
    | inr here ↦ let e : k ≡ j = omega arith in let f = ap (gate_block slots) e in omega arith
  ]
]

pub gate_not_record : (slots j k i : ℕ) → i < slots → gate_block slots k ≢ record_block slots j i
gate_not_record slots j k i h same = elim (cases_lt j k) [
  | inl before ↦ let m = record_block-apart slots j k i before h in omega arith
  | inr from_k ↦ elim (cases_lt k j) [
    | inl after ↦ let m = next_journal k j (journal_blocks slots) after in omega arith
    | inr here ↦ let e : k ≡ j = omega arith in let f = ap (gate_block slots) e in omega arith
  ]
]

-- the files' home blocks are home blocks
pub first_home-le : (layout : Layout) (slots : ℕ) → first_home layout slots ≤ first_file_home layout slots
first_home-le layout slots = omega arith

-- every home block, and so every part of a journal, lies within the volume
pub first_home-within : (g : GeometryValue) → IsGeometry g → first_home g.layout g.slots < g.blocks
first_home-within g is = omega (arith, first_home-le g.layout g.slots, is.some_homes)
