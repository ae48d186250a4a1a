-- Replies of a run: whether a store has no mark yet, and a mark that is written out, one step more.
use Rattle.std.proofs.Common.{◌≡◌, ◌≢◌, ℕ, zero, suc, ◌+◌, ◌<◌, Bool, true, false, List, [], ◌∷◌, ◌++◌}
use Rattle.std.proofs.Common.{length, map, drop, get_or, Some, None, refl, sym, ◌∙◌, ap, subst, inl, inr}
use Rattle.std.specs.Prelude.{slice_get}
use Rattle.std.specs.List.{AllByRecursion}
use Rattle.std.proofs.lemmas.Bool.{false≢true}
use Rattle.std.proofs.lemmas.List.{drop_more, length-append, map-append}
use Rattle.device.specs.declared.device.Device.{Ghosts}
use Rattle.machine.specs.declared.act.Reply.{Reply}
use Rattle.machine.specs.declared.act.Reply.TheVariants.{Marked, Committed}
use Rattle.machine.specs.declared.act.Step.{Step}
use Rattle.machine.specs.Runs.{StepTaken, StepsTaken}
use Rattle.machine.specs.State.{Whole}
use Rattle.machine.specs.Unmarked.{unmarked_by}
use Rattle.volume_codec.specs.Super.{geometry_of}
use Rattle.crash_table.specs.inside.Kept.{unmarked_after, is_under_way, flush_by, GoesOn, most_flushes}
use Rattle.crash_table.specs.inside.Kept.{HasCommitted, HasGivenUp}

-- what the replies from one on leave of a flag
pub flag_after : (replies : List Reply) (i : ℕ) (reply : Reply) (flag : Bool) → i < length replies
    → reply ≡ get_or replies i reply
    → unmarked_after flag (drop i replies) ≡ unmarked_after (unmarked_by flag reply) (drop (i + 1) replies)
flag_after replies i reply flag below at =
    ap (unmarked_after flag) (drop_more replies i reply below)
    ∙ ap (λ (r : Reply). unmarked_after (unmarked_by flag r) (drop (i + 1) replies)) (sym at)

-- so many steps of the write-outs were made, none of which committed anything
abbrev pub IsUnderWay : {D : Type 0} → Ghosts D → Whole D → ℕ → ℕ → Whole D → Type 0
IsUnderWay disk old p made new = (going : List Reply) × GoesOn disk old p going new × (length going ≡ made)

pub not_begun : {D : Type 0} (disk : Ghosts D) (old : Whole D) (p : ℕ) → IsUnderWay disk old p 0 old
not_begun disk old p = ([], (refl, tt), refl)

-- where steps were made, this one comes after them
abbrev pub ComesAfter : {D : Type 0} → Ghosts D → Whole D → Step → Reply → Whole D → Type 0
ComesAfter {D} disk mid step reply new =
    (start : Whole D) (steps : List Step) (replies : List Reply) → StepsTaken disk start steps replies mid
    → StepsTaken disk start (steps ++ step ∷ []) (replies ++ reply ∷ []) new

each_more : (going : List Reply) (reply : Reply) → AllByRecursion (λ r. is_under_way r ≡ true) going
    → is_under_way reply ≡ true → AllByRecursion (λ r. is_under_way r ≡ true) (going ++ reply ∷ [])
each_more [] reply each last = (last, tt)
each_more (first ∷ going) reply each last = (each.0, each_more going reply each.1 last)

-- one more that commits nothing
pub goes_on : {D : Type 0} (disk : Ghosts D) (old mid new : Whole D) (p made : ℕ) (reply : Reply)
    → IsUnderWay disk old p made mid → ComesAfter disk mid (flush_by p) reply new → is_under_way reply ≡ true
    → IsUnderWay disk old p (made + 1) new
goes_on disk old mid new p made reply (going, (taken, each), count) after under_way = (
  going ++ reply ∷ [],
  (
    subst (λ steps. StepsTaken disk old steps (going ++ reply ∷ []) new)
        (sym (map-append (λ (r : Reply). flush_by p) going (reply ∷ [])))
        (after old (map (λ (r : Reply). flush_by p) going) going taken),
    each_more going reply each under_way,
  ),
  length-append going (reply ∷ []) ∙ ap (λ n. n + 1) count,
)

pub none_marked : (going : List Reply) → AllByRecursion (λ r. is_under_way r ≡ true) going
    → (i k : ℕ) → slice_get going i ≡ Some (Marked k) → ⊥
none_marked [] each i k here = let c : None ≡ Some (Marked k) = here in cc
none_marked (reply ∷ going) each zero k here =
    let marked : reply ≡ Marked k = cc in false≢true (ap is_under_way (sym marked) ∙ each.0)
none_marked (reply ∷ going) each (suc i) k here = none_marked going each.1 i k here

-- and the last, that the mark is committed
pub is_out : {D : Type 0} (disk : Ghosts D) (old mid new : Whole D) (p made : ℕ) (reply : Reply) (number : ℕ)
    → IsUnderWay disk old p made mid → StepTaken disk mid (flush_by p) reply new → reply ≡ Committed number
    → HasCommitted disk old p number new
is_out disk old mid new p made reply number (going, goes, count) taken committed = record {
  going = going;
  mid = mid;
  earlier = goes;
  last = subst (λ r. StepTaken disk mid (flush_by p) r new) committed taken;
}

-- or it is answered otherwise
pub is_answered_otherwise : {D : Type 0} (disk : Ghosts D) (old mid new : Whole D) (p made : ℕ) (reply : Reply)
    (number : ℕ) → IsUnderWay disk old p made mid → StepTaken disk mid (flush_by p) reply new
    → is_under_way reply ≡ false → reply ≢ Committed number → HasGivenUp disk old p number new
is_answered_otherwise disk old mid new p made reply number (going, goes, count) taken not_on other =
    inr (going, mid, reply, goes, taken, not_on, other)

-- or there were as many steps as come up to a commit
pub is_too_long : {D : Type 0} (disk : Ghosts D) (old new : Whole D) (p made number : ℕ)
    → IsUnderWay disk old p made new → made ≡ most_flushes (geometry_of old.state.table)
    → HasGivenUp disk old p number new
is_too_long disk old new p made number (going, goes, count) most = inl (going, goes, count ∙ most)
