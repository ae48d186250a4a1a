-- Pieces of a range, one after the other.
use Rattle.std.proofs.Common.{◌≡◌, ◌<◌, ◌≤◌, inl, inr, ℕ, ◌+◌, Bool, true, false, List, [], ◌∷◌, ◌++◌, length}
use Rattle.std.proofs.Common.{length-append, take, get_or, arith, refl, sym, ◌∙◌, ap, subst}
use Rattle.std.proofs.lemmas.List.{append_assoc, append-nil, take_more}
use Rattle.machine.specs.declared.act.Reply.{Reply}
use Rattle.machine.specs.declared.act.Reply.TheVariants.{Bytes, Stored}
use Rattle.machine.specs.declared.act.Act.TheVariants.{Load, Store}
use Rattle.machine.specs.declared.act.Step.{Step}
use Rattle.device.specs.declared.device.Device.{Ghosts}
use Rattle.machine.specs.State.{Whole}
use Rattle.session.specs.declared.notes.Notes.{Notes}
use Rattle.session.specs.declared.ranges.Reached.TheVariants.{All, Refused, NoMemory}
use Rattle.session.specs.Ends.{EndsRange}
use Rattle.session.specs.Ranges.{MakesStepsThat, LoadsRange, LoadsReached, StoresRange, StoresReached}
use Rattle.session.specs.Steps.{Makes, ArePaging, behind, AreLoads, AreStores}
use Rattle.session.specs.inside.Paging.{EndsBy, StopsAt}
use Rattle.session.proofs.Each.{ended_by}
use Rattle.session.proofs.Stretches.{makes_then}

-- steps that read and store nothing
pub loads_none : (p va at : ℕ) (steps : List Step) (replies : List Reply) → ArePaging p steps replies
    → AreLoads p va at at steps replies []
loads_none p va at [] [] paging = (refl, refl)
loads_none p va at (step ∷ steps) (reply ∷ replies) paging = inl (paging.0, loads_none p va at steps replies paging.1)
loads_none p va at [] (reply ∷ replies) paging = absurd paging
loads_none p va at (step ∷ steps) [] paging = absurd paging

pub loads_then : (p va from mid to : ℕ) (steps : List Step) (replies : List Reply) (bytes : List ℕ) (steps' : List Step)
    (replies' : List Reply) (bytes' : List ℕ)
    → AreLoads p va from mid steps replies bytes → AreLoads p va mid to steps' replies' bytes'
    → AreLoads p va from to (steps ++ steps') (replies ++ replies') (bytes ++ bytes')
loads_then p va from mid to [] [] bytes steps' replies' bytes' first later =
    let P : ℕ → Type 0 = λ n. AreLoads p va n to steps' replies' bytes' in
    let Q : List ℕ → Type 0 = λ b. AreLoads p va from to steps' replies' (b ++ bytes') in
    subst Q (sym first.1) (subst P (sym first.0) later)
loads_then p va from mid to (step ∷ steps) (reply ∷ replies) bytes steps' replies' bytes' (inl paging) later =
    inl (paging.0, loads_then p va from mid to steps replies bytes steps' replies' bytes' paging.1 later)
loads_then p va from mid to (step ∷ steps) (reply ∷ replies) bytes steps' replies' bytes'
    (inr (count, few, rest, step-is, reply-is, bytes-are, more)) later =
    inr (
      count,
      few,
      rest ++ bytes',
      step-is,
      reply-is,
      ap (λ b. b ++ bytes') bytes-are ∙ append_assoc few rest bytes',
      loads_then p va (from + count) mid to steps replies rest steps' replies' bytes' more later,
    )
loads_then p va from mid to [] (reply ∷ replies) bytes steps' replies' bytes' first later = absurd first
loads_then p va from mid to (step ∷ steps) [] bytes steps' replies' bytes' first later = absurd first

-- one piece, after steps that read and store nothing
loads_piece : (p va from at count : ℕ) (few : List ℕ) → at ≡ behind va from
    → (steps : List Step) (replies : List Reply)
    → EndsBy (record { p = p; act = Load at count }) (Bytes few) steps replies
    → AreLoads p va from (from + count) steps replies few
loads_piece p va from at count few is steps replies last =
    let step : Step = record { p = p; act = Load at count } in
    let alone : AreLoads p va from (from + count) (step ∷ []) (Bytes few ∷ []) few = inr (
      count,
      few,
      [],
      ap (λ n. record { p = p; act = Load n count }) is,
      refl,
      sym (append-nil few),
      (refl, refl),
    ) in
    ended_by (λ s r. AreLoads p va from (from + count) s r few) step (Bytes few) steps replies last
    (loads_then p va from from (from + count) last.front last.replied [] (step ∷ []) (Bytes few ∷ []) few
    (loads_none p va from last.front last.replied last.paging) alone)

pub loads_more : (p va done at count : ℕ) (bytes few : List ℕ) → at ≡ behind va done
    → (steps : List Step) (replies : List Reply) (steps' : List Step) (replies' : List Reply)
    → LoadsRange p va done bytes steps replies
    → EndsBy (record { p = p; act = Load at count }) (Bytes few) steps' replies'
    → LoadsRange p va (done + count) (bytes ++ few) (steps ++ steps') (replies ++ replies')
loads_more p va done at count bytes few is steps replies steps' replies' first last =
    loads_then p va 0 done (done + count) steps replies bytes steps' replies' few first
    (loads_piece p va done at count few is steps' replies' last)

-- steps that read and store nothing
pub stores_none : (p va at : ℕ) (steps : List Step) (replies : List Reply) → ArePaging p steps replies
    → AreStores p va at steps replies []
stores_none p va at [] [] paging = refl
stores_none p va at (step ∷ steps) (reply ∷ replies) paging = inl (paging.0, stores_none p va at steps replies paging.1)
stores_none p va at [] (reply ∷ replies) paging = absurd paging
stores_none p va at (step ∷ steps) [] paging = absurd paging

pub stores_then : (p va from : ℕ) (steps : List Step) (replies : List Reply) (bytes : List ℕ) (steps' : List Step)
    (replies' : List Reply) (bytes' : List ℕ)
    → AreStores p va from steps replies bytes → AreStores p va (from + length bytes) steps' replies' bytes'
    → AreStores p va from (steps ++ steps') (replies ++ replies') (bytes ++ bytes')
stores_then p va from [] [] bytes steps' replies' bytes' first later =
    let P : ℕ → Type 0 = λ n. AreStores p va n steps' replies' bytes' in
    let Q : List ℕ → Type 0 = λ b. AreStores p va from steps' replies' (b ++ bytes') in
    let here : from + length bytes ≡ from = omega (arith, ap (λ (b : List ℕ). length b) first) in
    subst Q (sym first) (subst P here later)
stores_then p va from (step ∷ steps) (reply ∷ replies) bytes steps' replies' bytes' (inl paging) later =
    inl (paging.0, stores_then p va from steps replies bytes steps' replies' bytes' paging.1 later)
stores_then p va from (step ∷ steps) (reply ∷ replies) bytes steps' replies' bytes'
    (inr (few, rest, step-is, reply-is, bytes-are, more)) later =
    let P : ℕ → Type 0 = λ n. AreStores p va n steps' replies' bytes' in
    let here : from + length bytes ≡ from + length few + length rest =
    omega (arith, ap (λ (b : List ℕ). length b) bytes-are, length-append few rest) in
    inr (
      few,
      rest ++ bytes',
      step-is,
      reply-is,
      ap (λ b. b ++ bytes') bytes-are ∙ append_assoc few rest bytes',
      stores_then p va (from + length few) steps replies rest steps' replies' bytes' more (subst P here later),
    )
stores_then p va from [] (reply ∷ replies) bytes steps' replies' bytes' first later = absurd first
stores_then p va from (step ∷ steps) [] bytes steps' replies' bytes' first later = absurd first

-- what ends a range comes after its pieces
loads_ended : (p va from to : ℕ) (steps : List Step) (replies : List Reply) (bytes : List ℕ) (at : ℕ)
    (write : Bool) (reply : Reply) (all : ℕ)
    (steps' : List Step) (replies' : List Reply)
    → AreLoads p va from to steps replies bytes → EndsRange p at write reply all steps' replies'
    → EndsRange p at write reply all (steps ++ steps') (replies ++ replies')
loads_ended p va from to [] [] bytes at write reply all steps' replies' first ended = ended
loads_ended p va from to (step ∷ steps) (other ∷ replies) bytes at write reply all steps' replies' (inl paging) ended =
    inl (loads_ended p va from to steps replies bytes at write reply all steps' replies' paging.1 ended)
loads_ended p va from to (step ∷ steps) (other ∷ replies) bytes at write reply all steps' replies'
    (inr (count, few, rest, step-is, reply-is, bytes-are, more)) ended =
    inl (loads_ended p va (from + count) to steps replies rest at write reply all steps' replies' more ended)
loads_ended p va from to [] (other ∷ replies) bytes at write reply all steps' replies' first ended = absurd first
loads_ended p va from to (step ∷ steps) [] bytes at write reply all steps' replies' first ended = absurd first

stores_ended : (p va from : ℕ) (steps : List Step) (replies : List Reply) (bytes : List ℕ) (at : ℕ) (write : Bool)
    (reply : Reply) (all : ℕ)
    (steps' : List Step) (replies' : List Reply)
    → AreStores p va from steps replies bytes → EndsRange p at write reply all steps' replies'
    → EndsRange p at write reply all (steps ++ steps') (replies ++ replies')
stores_ended p va from [] [] bytes at write reply all steps' replies' first ended = ended
stores_ended p va from (step ∷ steps) (other ∷ replies) bytes at write reply all steps' replies' (inl paging) ended =
    inl (stores_ended p va from steps replies bytes at write reply all steps' replies' paging.1 ended)
stores_ended p va from (step ∷ steps) (other ∷ replies) bytes at write reply all steps' replies'
    (inr (few, rest, step-is, reply-is, bytes-are, more)) ended =
    inl (stores_ended p va (from + length few) steps replies rest at write reply all steps' replies' more ended)
stores_ended p va from [] (other ∷ replies) bytes at write reply all steps' replies' first ended = absurd first
stores_ended p va from (step ∷ steps) [] bytes at write reply all steps' replies' first ended = absurd first

-- and no further one
pub loads_refused : (p va count done at : ℕ) (bytes : List ℕ) (reply : Reply) → done < count → at ≡ behind va done
    → (all : ℕ) (steps : List Step) (replies : List Reply) (steps' : List Step) (replies' : List Reply)
    → LoadsRange p va done bytes steps replies → StopsAt p at false reply all steps' replies'
    → LoadsReached p va count bytes (Refused done reply) all (steps ++ steps') (replies ++ replies')
loads_refused p va count done at bytes reply fewer is all steps replies steps' replies' first (paging, ends) = (
  fewer,
  subst (λ b. AreLoads p va 0 done (steps ++ steps') (replies ++ replies') b) (append-nil bytes)
      (loads_then p va 0 done done steps replies bytes steps' replies' [] first
      (loads_none p va done steps' replies' paging)),
  loads_ended p va 0 done steps replies bytes (behind va done) false reply all steps' replies' first
      (subst (λ n. EndsRange p n false reply all steps' replies') is ends),
)

-- a piece that is stored, after steps that read and store nothing
pub stores_piece : (p va from at : ℕ) (few : List ℕ) → at ≡ behind va from → (steps : List Step) (replies : List Reply)
    → EndsBy (record { p = p; act = Store at few }) Stored steps replies → AreStores p va from steps replies few
stores_piece p va from at few is steps replies last =
    let step : Step = record { p = p; act = Store at few } in
    let nothing : from + 0 ≡ from = omega arith in
    let alone : AreStores p va from (step ∷ []) (Stored ∷ []) few =
    inr (few, [], ap (λ n. record { p = p; act = Store n few }) is, refl, sym (append-nil few), refl) in
    ended_by (λ s r. AreStores p va from s r few) step Stored steps replies last
    (stores_then p va from last.front last.replied [] (step ∷ []) (Stored ∷ []) few
    (stores_none p va from last.front last.replied last.paging)
    (subst (λ n. AreStores p va n (step ∷ []) (Stored ∷ []) few) (sym nothing) alone))

-- more was stored
pub stores_more : (p va done : ℕ) (bytes few now : List ℕ) → length bytes ≡ done → bytes ++ few ≡ now
    → (steps : List Step) (replies : List Reply) (steps' : List Step) (replies' : List Reply)
    → StoresRange p va bytes steps replies → AreStores p va done steps' replies' few
    → StoresRange p va now (steps ++ steps') (replies ++ replies')
stores_more p va done bytes few now long all steps replies steps' replies' first later =
    let here : done ≡ 0 + length bytes = omega (arith, long) in
    subst (λ b. AreStores p va 0 (steps ++ steps') (replies ++ replies') b) all
    (stores_then p va 0 steps replies bytes steps' replies' few first
    (subst (λ n. AreStores p va n steps' replies' few) here later))

-- and no further one
pub stores_refused : (p va done at : ℕ) (bytes : List ℕ) (reply : Reply) → done < length bytes → at ≡ behind va done
    → (all : ℕ) (steps : List Step) (replies : List Reply) (steps' : List Step) (replies' : List Reply)
    → StoresRange p va (take done bytes) steps replies → StopsAt p at true reply all steps' replies'
    → StoresReached p va bytes (Refused done reply) all (steps ++ steps') (replies ++ replies')
stores_refused p va done at bytes reply fewer is all steps replies steps' replies' first (paging, ends) = (
  fewer,
  subst (λ b. AreStores p va 0 (steps ++ steps') (replies ++ replies') b) (append-nil (take done bytes))
      (stores_then p va 0 steps replies (take done bytes) steps' replies' [] first
      (stores_none p va (0 + length (take done bytes)) steps' replies' paging)),
  stores_ended p va 0 steps replies (take done bytes) (behind va done) true reply all steps' replies' first
      (subst (λ n. EndsRange p n true reply all steps' replies') is ends),
)

-- where memory is refused, what was loaded was loaded all the same
pub loads_cut : (p va count done : ℕ) (bytes bytes' : List ℕ) → done ≤ count
    → (all : ℕ) (steps : List Step) (replies : List Reply) → LoadsRange p va done bytes steps replies
    → LoadsReached p va count bytes' NoMemory all steps replies
loads_cut p va count done bytes bytes' fits all steps replies it = (done, bytes, fits, it)

pub loads_all : (p va count done : ℕ) (bytes : List ℕ) → done ≡ count → (all : ℕ) (steps : List Step)
    (replies : List Reply) → LoadsRange p va done bytes steps replies
    → LoadsReached p va count bytes All all steps replies
loads_all p va count done bytes whole all steps replies it =
    subst (λ n. AreLoads p va 0 n steps replies bytes) whole it

pub stores_all : (p va : ℕ) (some bytes : List ℕ) → some ≡ bytes → (all : ℕ) (steps : List Step)
    (replies : List Reply) → StoresRange p va some steps replies → StoresReached p va bytes All all steps replies
stores_all p va some bytes whole all steps replies it = subst (λ b. AreStores p va 0 steps replies b) whole it

-- one more of the steps that were asked for
pub first_more : {D : Type 0} (disk : Ghosts D) (old mid new : Whole D) (before between after : Notes)
    (wanted : List Step) (i : ℕ) (step : Step) (reply : Reply) → i < length wanted → step ≡ get_or wanted i step
    → MakesStepsThat disk old before (λ steps replies. steps ≡ take i wanted) mid between
    → Makes disk mid between (step ∷ []) (reply ∷ []) new after
    → MakesStepsThat disk old before (λ steps replies. steps ≡ take (i + 1) wanted) new after
first_more disk old mid new before between after wanted i step reply below at first made = record {
  steps = first.steps ++ step ∷ [];
  replies = first.replies ++ reply ∷ [];
  makes = makes_then disk old mid new before between after first.steps first.replies (step ∷ [])
      (reply ∷ []) first.makes made;
  holds = ap (λ s. s ++ step ∷ []) first.holds ∙ ap (λ s. take i wanted ++ s ∷ []) at
      ∙ sym (take_more wanted i step below);
}
