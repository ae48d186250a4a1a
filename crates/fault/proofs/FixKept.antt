-- What serving a fault keeps beside entries: how many frames there are, and what is in memory.
use Rattle.std.proofs.Common.{ℕ, ◌≡◌, Bool, true, false, cond, List, [], length, Some, Result}
use Rattle.std.proofs.Common.{Ok, Err, IfOk, OnErr, refl, sym, subst, ◌∙◌, inl, inr, arith}
use Rattle.std.specs.List.{All}
use Rattle.std.proofs.lemmas.List.{length-set}
use Rattle.std.proofs.lemmas.List.Elements.{Contains-get_or}
use Rattle.page_entry.specs.declared.numbers.FilePage.{FilePage}
use Rattle.page_entry.specs.declared.refusal.Refusal.{Refusal}
use Rattle.frames.specs.Frames.{FramesState}
use Rattle.spaces.specs.Spaces.{Spaces, SpacesState}
use Rattle.checkpoint.specs.Checkpoint.{CheckpointState, Gathers}
use Rattle.checkpoint.proofs.Public.{has_page-list_any, list_any-has_page, Holds-with_page}
use Rattle.fault.specs.declared.page_fault.PageFault.{PageFault}
use Rattle.fault.specs.Fault.{is_in_memory, Brings, CopiesOut}
use Rattle.fault.specs.Fixing.{FixDone}

-- there are as many frames, and what was in memory still is
pub record AreKept (memory new : FramesState) : Type 0 where
  pub same_count : length new.frames ≡ length memory.frames
  pub stay : (owner : FilePage) → is_in_memory memory owner ≡ true → is_in_memory new owner ≡ true

AreKept-same : (memory : FramesState) → AreKept memory memory
AreKept-same memory = record { same_count = refl; stay = λ owner there. there }

AreKept-then : {old mid new : FramesState} → AreKept old mid → AreKept mid new → AreKept old new
AreKept-then first second = record {
  same_count = second.same_count ∙ first.same_count;
  stay = λ owner there. second.stay owner (first.stay owner there);
}

-- a page comes into a frame
AreKept-brought : (memory mid : FramesState) (owner : FilePage) (bytes : List ℕ) (frame : ℕ)
    → Brings memory owner bytes frame mid
    → AreKept memory mid
AreKept-brought memory mid owner bytes frame (inl there) = subst (AreKept memory) (sym there.1) (AreKept-same memory)
AreKept-brought memory mid owner bytes frame (inr read) = subst (AreKept memory) (sym read.2) (record {
  same_count = length-set memory.frames frame (Some (record { page = owner; bytes = bytes }));
  stay = λ page there.
      let has = has_page-list_any memory.frames page there in
      list_any-has_page _ page has.number (Holds-with_page memory frame owner bytes has.number page read.1 has.holds);
})

-- its bytes are copied, or aren't
AreKept-copied : (b : Bool) (mid new : FramesState) (frame : ℕ) → CopiesOut b mid frame new → AreKept mid new
AreKept-copied false mid new frame same = subst (AreKept mid) (sym same) (AreKept-same mid)
AreKept-copied true mid new frame copied =
    subst (AreKept mid) (sym copied.2) (record { same_count = refl; stay = λ owner there. there })

-- a fault is served
pub AreKept-fixed : {honest : Type 0} {disk : List ℕ} (spaces new_spaces : Spaces)
    (memory new : FramesState) (c : CheckpointState) (fault : PageFault)
    → FixDone honest disk spaces memory c fault new_spaces new
    → AreKept memory new
AreKept-fixed spaces new_spaces memory new c fault done =
    let served = done.served in
    AreKept-then (AreKept-brought memory served.mid _ done.bytes served.frame served.brought)
    (AreKept-copied _ served.mid new served.frame served.copied)

-- so frozen pages stay in memory
pub All-in_memory : (memory new : FramesState) (pages : List FilePage)
    → AreKept memory new → All (λ page. is_in_memory memory page ≡ true) pages
    → All (λ page. is_in_memory new page ≡ true) pages
All-in_memory memory new pages kept all k d within = kept.stay _ (all k d within)

-- also where a fault is refused
pub All-in_memory_fixed : (honest : Type 0) (disk : List ℕ) (spaces new_spaces : SpacesState)
    (memory new : FramesState) (c : CheckpointState) (fault : PageFault) (r : Result (Unit {0}) Refusal)
    → IfOk r (λ _. FixDone honest disk spaces.map memory c fault new_spaces.map new)
    → OnErr r ((new_spaces ≡ spaces) × (new ≡ memory)) → All (λ page. is_in_memory memory page ≡ true) c.frozen
    → All (λ page. is_in_memory new page ≡ true) c.frozen
All-in_memory_fixed honest disk spaces new_spaces memory new c fault (Ok done) served refused all =
    All-in_memory memory new c.frozen (AreKept-fixed spaces.map new_spaces.map memory new c fault served) all
All-in_memory_fixed honest disk spaces new_spaces memory new c fault (Err why) served refused all =
    subst (λ m. All (λ page. is_in_memory m page ≡ true) c.frozen) (sym refused.1) all

-- the pages that a mark froze are in memory
pub All-frozen : (spaces : Spaces) (memory : FramesState)
    (old new : CheckpointState) (freezes : Bool) (pages : List FilePage)
    → Gathers spaces memory old new freezes pages
    → All (λ page. is_in_memory memory page ≡ true) new.frozen
All-frozen spaces memory old new freezes pages gathers =
    subst (All (λ page. is_in_memory memory page ≡ true)) (sym gathers.frozen) (by_freezing freezes)
  where
    gathered : All (λ page. is_in_memory memory page ≡ true) pages
    gathered k d within =
        let h = (gathers.gathered.dirty _).0 (Contains-get_or pages k d within) in
        list_any-has_page memory.frames _ h.0 h.1

    by_freezing : (b : Bool) → All (λ page. is_in_memory memory page ≡ true) (cond b pages [])
    by_freezing true = gathered
    by_freezing false = λ k d within. absurd (omega arith)
