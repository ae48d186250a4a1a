-- Copy frames that become free with the pages whose bytes they keep.
use Rattle.std.proofs.Common.{ℕ, suc, ◌≡◌, ◌+◌, ◌<◌, ◌||◌, true, false, cond, List, [], ◌∷◌}
use Rattle.std.proofs.Common.{◌++◌, length, map, get_or, take, Option, Some, None, refl, ap, ◌∙◌}
use Rattle.std.specs.List.{list_any}
use Rattle.std.proofs.lemmas.List.{take_more}
use Rattle.page_entry.specs.declared.numbers.FilePage.{FilePage}
use Rattle.frames.specs.Frames.{FramesState, Frame, without_copies}
use Rattle.checkpoint.specs.Checkpoint.{CheckpointState, same_page, freed_copy, freed_if, freed_if_frozen}
use Rattle.checkpoint.specs.Checkpoint.{without_copy_of, without_frozen_copies, AreCopiesOfFrozen}
use Rattle.checkpoint.specs.inside.Notes.{without_copies_of}
use Rattle.checkpoint.proofs.PagesInUse.{same_page-sym}

without_copies_of-push : (memory : FramesState) (owners : List FilePage) (owner : FilePage)
    → without_copies_of memory (owners ++ owner ∷ []) ≡ without_copy_of (without_copies_of memory owners) owner
without_copies_of-push memory [] owner = refl
without_copies_of-push memory (o ∷ owners) owner = without_copies_of-push (without_copy_of memory o) owners owner

-- one page more
pub without_copies_of-more : (memory : FramesState) (owners : List FilePage) (i : ℕ) (d : FilePage) → i < length owners
    → without_copies_of memory (take (i + 1) owners)
    ≡ without_copy_of (without_copies_of memory (take i owners)) (get_or owners i d)
without_copies_of-more memory owners i d within =
    ap (without_copies_of memory) (take_more owners i d within)
    ∙ without_copies_of-push memory (take i owners) (get_or owners i d)

-- a copy that becomes free with one of these pages
abbrev freed_in : List FilePage → Option Frame → Option Frame
freed_in owners None = None
freed_in owners (Some copy) = freed_if (list_any (same_page copy.page) owners) copy

freed_in-cons : (owner : FilePage) (owners : List FilePage) (copy : Option Frame)
    → freed_in owners (freed_copy owner copy) ≡ freed_in (owner ∷ owners) copy
freed_in-cons owner owners None = refl
freed_in-cons owner owners (Some f) =
    ap (λ b. freed_in owners (cond b None (Some f))) (same_page-sym owner f.page)
    ∙ elim (same_page f.page owner)
    as (λ b. freed_in owners (cond b None (Some f)) ≡ freed_if (b || list_any (same_page f.page) owners) f) [
      | true ↦ refl
      | false ↦ refl
    ]

map-freed_in : (owner : FilePage) (owners : List FilePage) (copies : List (Option Frame))
    → map (freed_in owners) (map (freed_copy owner) copies) ≡ map (freed_in (owner ∷ owners)) copies
map-freed_in owner owners [] = refl
map-freed_in owner owners (c ∷ copies) = λ i. freed_in-cons owner owners c i ∷ map-freed_in owner owners copies i

freed_in-nil : (copies : List (Option Frame)) → copies ≡ map (freed_in []) copies
freed_in-nil [] = refl
freed_in-nil (None ∷ copies) = ap (λ rest. None ∷ rest) (freed_in-nil copies)
freed_in-nil (Some f ∷ copies) = ap (λ rest. Some f ∷ rest) (freed_in-nil copies)

without_copies_of-map : (memory : FramesState) (owners : List FilePage)
    → without_copies_of memory owners ≡ record memory { copies = map (freed_in owners) memory.copies }
without_copies_of-map memory [] =
    ap (λ (copies : List (Option Frame)). record memory { copies = copies }) (freed_in-nil memory.copies)
without_copies_of-map memory (owner ∷ owners) =
    without_copies_of-map (without_copy_of memory owner) owners
    ∙ ap (λ (copies : List (Option Frame)). record memory { copies = copies }) (map-freed_in owner owners memory.copies)

same_freed : (c : CheckpointState) (copies : List (Option Frame))
    → map (freed_in c.frozen) copies ≡ map (freed_if_frozen c) copies
same_freed c [] = refl
same_freed c (None ∷ copies) = ap (λ rest. None ∷ rest) (same_freed c copies)
same_freed c (Some f ∷ copies) =
    ap (λ rest. freed_if (list_any (same_page f.page) c.frozen) f ∷ rest) (same_freed c copies)

-- the copies of the frozen pages
pub without_copies_of-frozen : (memory : FramesState) (c : CheckpointState)
    → without_copies_of memory c.frozen ≡ without_frozen_copies memory c
without_copies_of-frozen memory c =
    without_copies_of-map memory c.frozen
    ∙ ap (λ (copies : List (Option Frame)). record memory { copies = copies }) (same_freed c memory.copies)

all_freed : (c : CheckpointState) (copies : List (Option Frame))
    → ((k : ℕ) (f : Frame) → get_or copies k None ≡ Some f → list_any (same_page f.page) c.frozen ≡ true)
    → map (freed_if_frozen c) copies ≡ map (λ copy. None) copies
all_freed c [] frozen = refl
all_freed c (None ∷ copies) frozen = ap (λ rest. None ∷ rest) (all_freed c copies (λ k f at. frozen (suc k) f at))
all_freed c (Some f ∷ copies) frozen =
    let gone : freed_if (list_any (same_page f.page) c.frozen) f ≡ None = ap (λ b. freed_if b f) (frozen 0 f refl) in
    let rest = all_freed c copies (λ k f at. frozen (suc k) f at) in
    λ i. gone i ∷ rest i

-- where each copy is of a frozen page, none is left
pub without_frozen_copies-all : (memory : FramesState) (c : CheckpointState) → AreCopiesOfFrozen memory c
    → without_frozen_copies memory c ≡ without_copies memory
without_frozen_copies-all memory c are =
    ap (λ (copies : List (Option Frame)). record memory { copies = copies }) (all_freed c memory.copies are)
