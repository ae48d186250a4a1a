-- That every change of the frames leaves whole pages, and a page in one frame and one copy at most.
use Rattle.std.proofs.Common.{◌≡◌, ◌≢◌, ◌⊎◌, ◌+◌, ◌<◌, ◌≤◌, ℕ, zero, suc, List, [], ◌∷◌, length, get_or, set}
use Rattle.std.proofs.Common.{replicate, Option, Some, None, IsSome, refl, sym, ap, subst, ◌∙◌, inl, inr, ⊎_elim, All}
use Rattle.std.proofs.lemmas.Bool.{cases_eq}
use Rattle.page_entry.specs.declared.numbers.FilePage.{FilePage}
use Rattle.frames.specs.Frames.{Frame, FramesState, frame_at, page_of, bytes_of, overwrite_frame}
use Rattle.frames.specs.Frames.{all_free, with_page, without_frame, with_bytes, with_copy}
use Rattle.frames.specs.Frames.{without_copy, HasNoFrame, HasNoCopy, IsPage, AreFrames}
use Rattle.frames.proofs.WholePages.{IsPage-overwrite}

-- whole pages, and each page once
record AreOnce (xs : List (Option Frame)) : Type 0 where
  pub whole : (n : ℕ) → IsSome (get_or xs n None) → IsPage (bytes_of (get_or xs n None))
  pub one : (a b : ℕ) (page : FilePage) → page_of (get_or xs a None) ≡ Some page
      → page_of (get_or xs b None) ≡ Some page
      → a ≡ b

-- a place of a list after a write: what was there, or what was written
pub after_set : {X : Type 0} (xs : List (Option X)) (k : ℕ) (x : Option X) (n : ℕ)
    → (get_or (set xs k x) n None ≡ get_or xs n None) ⊎ ((n ≡ k) × (get_or (set xs k x) n None ≡ x))
after_set [] k x n = inl refl
after_set (y ∷ ys) zero x zero = inr (refl, refl)
after_set (y ∷ ys) zero x (suc n) = inl refl
after_set (y ∷ ys) (suc k) x zero = inl refl
after_set (y ∷ ys) (suc k) x (suc n) =
    ⊎_elim (λ same. inl same) (λ here. inr (ap (λ m. suc m) here.0, here.1)) (after_set ys k x n)

AreOnce-set : (xs : List (Option Frame)) (k : ℕ) (x : Option Frame) → AreOnce xs → (IsSome x → IsPage (bytes_of x))
    → ((n : ℕ) (page : FilePage) → n ≢ k → page_of x ≡ Some page → page_of (get_or xs n None) ≢ Some page)
    → AreOnce (set xs k x)
AreOnce-set xs k x once whole alone = record {
  whole = λ n. ⊎_elim
      (λ same. subst (λ f. IsSome f → IsPage (bytes_of f)) (sym same) (once.whole n))
      (λ here. subst (λ f. IsSome f → IsPage (bytes_of f)) (sym here.1) whole)
      (after_set xs k x n);
  one = λ a b page ha hb. ⊎_elim
      (λ old_a. ⊎_elim
      (λ old_b. once.one a b page (ap page_of (sym old_a) ∙ ha) (ap page_of (sym old_b) ∙ hb))
      (λ new_b. ⊎_elim
      (λ same. same ∙ sym new_b.0)
      (λ differs. absurd (alone a page differs (ap page_of (sym new_b.1) ∙ hb) (ap page_of (sym old_a) ∙ ha)))
      (cases_eq a k))
      (after_set xs k x b))
      (λ new_a. ⊎_elim
      (λ old_b. ⊎_elim
      (λ same. new_a.0 ∙ sym same)
      (λ differs. absurd (alone b page differs (ap page_of (sym new_a.1) ∙ ha) (ap page_of (sym old_b) ∙ hb)))
      (cases_eq b k))
      (λ new_b. new_a.0 ∙ sym new_b.0)
      (after_set xs k x b))
      (after_set xs k x a);
}

frames_once : (s : FramesState) → AreFrames s → AreOnce s.frames
frames_once s are = record { whole = are.frames; one = are.one_frame }

copies_once : (s : FramesState) → AreFrames s → AreOnce s.copies
copies_once s are = record { whole = are.copies; one = are.one_copy }

AreFrames-frames : (s : FramesState) (frames : List (Option Frame)) → AreFrames s → AreOnce frames
    → AreFrames (record s { frames = frames })
AreFrames-frames s frames are once =
    record { frames = once.whole; copies = are.copies; one_frame = once.one; one_copy = are.one_copy }

AreFrames-copies : (s : FramesState) (copies : List (Option Frame)) → AreFrames s → AreOnce copies
    → AreFrames (record s { copies = copies })
AreFrames-copies s copies are once =
    record { frames = are.frames; copies = once.whole; one_frame = are.one_frame; one_copy = once.one }

AreOnce-none : (xs : List (Option Frame)) → ((n : ℕ) → get_or xs n None ≡ None) → AreOnce xs
AreOnce-none xs free = record {
  whole = λ n used. let none = free n in absurd (cc);
  one = λ a b page ha hb. let none = free a in absurd (cc);
}

get_or_none : (n k : ℕ) → get_or (replicate {A = Option Frame} n None) k None ≡ None
get_or_none zero k = refl
get_or_none (suc n) zero = refl
get_or_none (suc n) (suc k) = get_or_none n k

pub AreFrames-all_free : (frames copies : ℕ) → AreFrames (all_free frames copies)
AreFrames-all_free frames copies =
    let f = AreOnce-none (replicate frames None) (get_or_none frames) in
    let c = AreOnce-none (replicate copies None) (get_or_none copies) in
    record { frames = f.whole; copies = c.whole; one_frame = f.one; one_copy = c.one }

-- a frame gets a page that no frame has
pub AreFrames-with_page : (s : FramesState) (frame : ℕ) (page : FilePage) (bytes : List ℕ)
    → HasNoFrame s page → IsPage bytes → AreFrames s
    → AreFrames (with_page s frame page bytes)
AreFrames-with_page s frame page bytes none is are =
    AreFrames-frames s _ are (AreOnce-set s.frames frame (Some (record { page = page; bytes = bytes }))
    (frames_once s are) (λ _. is) (λ n other _ same. let one : page ≡ other = cc in
    subst (λ p. page_of (get_or s.frames n None) ≢ Some p) one (none n)))

pub AreFrames-without_frame : (s : FramesState) (frame : ℕ) → AreFrames s → AreFrames (without_frame s frame)
AreFrames-without_frame s frame are =
    AreFrames-frames s _ are
    (AreOnce-set s.frames frame None (frames_once s are) (λ used. absurd (cc)) (λ n page _ e. absurd (cc)))

overwritten_whole : (f : Option Frame) (at : ℕ) (bytes : List ℕ) → at + length bytes ≤ 4096
    → All (λ byte. byte < 256) bytes → (IsSome f → IsPage (bytes_of f)) → IsSome (overwrite_frame f at bytes)
    → IsPage (bytes_of (overwrite_frame f at bytes))
overwritten_whole None at bytes within small whole used = absurd (cc)
overwritten_whole (Some f) at bytes within small whole used =
    IsPage-overwrite f.bytes at bytes (whole refl) within small

page_of-overwritten : (f : Option Frame) (at : ℕ) (bytes : List ℕ) → page_of (overwrite_frame f at bytes) ≡ page_of f
page_of-overwritten None at bytes = refl
page_of-overwritten (Some f) at bytes = refl

-- bytes are written into a frame
pub AreFrames-with_bytes : (s : FramesState) (frame at : ℕ) (bytes : List ℕ)
    → at + length bytes ≤ 4096 → All (λ byte. byte < 256) bytes → AreFrames s
    → AreFrames (with_bytes s frame at bytes)
AreFrames-with_bytes s frame at bytes within small are =
    AreFrames-frames s _ are (AreOnce-set s.frames frame (overwrite_frame (frame_at s frame) at bytes)
    (frames_once s are) (overwritten_whole (frame_at s frame) at bytes within small (are.frames frame))
    (λ n page differs here there.
    differs (are.one_frame n frame page there (sym (page_of-overwritten (frame_at s frame) at bytes) ∙ here))))

-- a frame is copied whose page no copy has
pub AreFrames-with_copy : (s : FramesState) (copy frame : ℕ)
    → ((page : FilePage) → page_of (frame_at s frame) ≡ Some page → HasNoCopy s page) → AreFrames s
    → AreFrames (with_copy s copy frame)
AreFrames-with_copy s copy frame none are =
    AreFrames-copies s _ are (AreOnce-set s.copies copy (frame_at s frame) (copies_once s are) (are.frames frame)
    (λ n page _ here. none page here n))

pub AreFrames-without_copy : (s : FramesState) (copy : ℕ) → AreFrames s → AreFrames (without_copy s copy)
AreFrames-without_copy s copy are =
    AreFrames-copies s _ are
    (AreOnce-set s.copies copy None (copies_once s are) (λ used. absurd (cc)) (λ n page _ e. absurd (cc)))
