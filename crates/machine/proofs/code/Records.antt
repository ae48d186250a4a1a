-- The page whose record a step of a write-out writes, and the mark that a step answers.
use Rattle.machine.proofs.Names.{ℕ, suc, ◌≡◌, ◌<◌, ◌≤◌, ◌-◌, ◌*◌, ◌^◌, Bool, true, false, cond, List, [], ◌∷◌, ◌++◌}
use Rattle.machine.proofs.Names.{length, take, Option, Some, None, sym, ap, ◌∙◌, arith, All}
use Rattle.machine.proofs.Names.{option_map_or, take_all, append-nil, zeros}
use Rattle.machine.proofs.Names.{padded, zeros-nil, Stage, Committing, Finishing, answer_at, Broken}
use Rattle.machine.proofs.Names.{WriteOut, next_stage, answer_of}
use Rattle.machine.proofs.Names.{gives_way, moving, outs_moving, next_answer, is_in_memory, State, length_of}
use Rattle.machine.proofs.Names.{IsInFile, IsSound, next_page, bytes_at_mark, HasSmallMark}
use Rattle.machine.proofs.Names.{is_page_next, cond-true, cond-false, cut_at_end, lengths_text}
use Rattle.machine.specs.Rules.{next_record}
use Rattle.machine.proofs.sound.Frames.{held_in_memory}
use Rattle.machine.proofs.sound.Sharing.{shared}
use Rattle.machine.proofs.sound.Records.{next_recorded, size_at_mark}

-- a page whose record is to be written is frozen, in memory, and one of a file
pub record IsNextPage (s : State) : Type 0 where
  pub some : 0 < length s.checkpoint.frozen
  pub there : is_in_memory s.hardware.memory (next_page s) ≡ true
  pub file : IsInFile s (next_page s)

pub is_next_page : (s : State) → IsSound s → is_page_next s ≡ true → IsNextPage s
is_next_page s sound page =
    let is = next_recorded s sound page in
    let held = held_in_memory s.hardware.memory (next_page s) is.there in
    record { some = is.some; there = is.there; file = sound.memory.in_files held.0 (next_page s) held.1 }

-- the record of a page, and any other
pub page_record : (s : State) → is_page_next s ≡ true
    → next_record s ≡ cut_at_end s (next_page s) (bytes_at_mark s.hardware.memory (next_page s))
page_record s page = cond-true (is_page_next s)
    (cut_at_end s (next_page s) (bytes_at_mark s.hardware.memory (next_page s))) (lengths_text s.lengths) page

pub other_record : (s : State) → is_page_next s ≡ false → next_record s ≡ lengths_text s.lengths
other_record s other = cond-false (is_page_next s)
    (cut_at_end s (next_page s) (bytes_at_mark s.hardware.memory (next_page s))) (lengths_text s.lengths) other

-- a page that ends before its file does is its own record
pub whole_record : (s : State) → IsSound s → is_page_next s ≡ true → is_in_memory s.hardware.memory (next_page s) ≡ true
    → 4096 ≤ length_of s (next_page s).file - 4096 * (next_page s).page
    → bytes_at_mark s.hardware.memory (next_page s) ≡ next_record s
whole_record s sound page there covered =
    let bytes : List ℕ = bytes_at_mark s.hardware.memory (next_page s) in
    let left : ℕ = length_of s (next_page s).file - 4096 * (next_page s).page in
    let size : length bytes ≡ 4096 = size_at_mark s.hardware.memory (next_page s) sound.memory.memory there in
    let all : take left bytes ≡ bytes = take_all left bytes (omega (arith, size, covered)) in
    let none : 4096 - length bytes ≡ 0 = omega (arith, size) in
    sym (ap (padded 4096) all ∙ ap (λ k. bytes ++ zeros k) none
    ∙ ap (λ (z : List ℕ). bytes ++ z) zeros-nil ∙ append-nil bytes)
    ∙ sym (page_record s page)

-- ---- marks have 32 bits

small-answer_at : (mark : ℕ) (stage : Stage) → mark < 2 ^ 32 → HasSmallMark (answer_at mark stage)
small-answer_at mark Committing small = small
small-answer_at mark Finishing small = small
small-answer_at mark stage small = tt

small-answer_of : (w : WriteOut) (stage : Option Stage) → w.batch.mark < 2 ^ 32
    → HasSmallMark (option_map_or (answer_at w.batch.mark) stage Broken)
small-answer_of w None small = tt
small-answer_of w (Some stage) small = small-answer_at w.batch.mark stage small

small-moving : (shares : Bool) (batches : List WriteOut) → All (λ w. w.batch.mark < 2 ^ 32) batches
    → HasSmallMark (option_map_or answer_of (moving shares batches) Broken)
small-moving shares [] all = tt
small-moving shares (w ∷ newer) all =
    by (gives_way shares w newer) (small-moving shares newer (λ k d within. all (suc k) d (omega (arith, within))))
  where
    by : (b : Bool) → HasSmallMark (option_map_or answer_of (moving shares newer) Broken)
        → HasSmallMark (option_map_or answer_of (cond b (moving shares newer) (Some w)) Broken)
    by true later = later
    by false later = small-answer_of w (next_stage w) (all 0 w (omega arith))

pub small-next_answer : (s : State) → IsSound s → HasSmallMark (next_answer s.write_outs)
small-next_answer s sound =
    by s.write_outs.broken (small-moving (shared s.write_outs) s.write_outs.batches
    (λ k d within. omega (arith, (sound.write_outs.marked k d within).1, sound.write_outs.few_marks)))
  where
    by : (b : Bool) → HasSmallMark (option_map_or answer_of (outs_moving s.write_outs) Broken)
        → HasSmallMark (cond b Broken (option_map_or answer_of (outs_moving s.write_outs) Broken))
    by true small = tt
    by false small = small
