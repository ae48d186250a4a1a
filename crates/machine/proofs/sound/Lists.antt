-- Frames and copies that have whole pages, each page once.
use Rattle.machine.proofs.Names.{◌≡◌, ◌≢◌, ℕ, List, length, get_or, set, Option, Some, None, is_some, IsSome, refl, sym}
use Rattle.machine.proofs.Names.{ap, ◌∙◌, ⊎_elim, zero, suc, Bool, true, false, cond, replicate, cases_eq, FilePage}
use Rattle.machine.proofs.Names.{FramesState, Frame, frame_at, bytes_of, page_of, after_set, IsMemory}

-- what is there is some
pub some_from : {X : Type 0} (o : Option X) → IsSome o → (x : X) × (o ≡ Some x)
some_from None h = absurd (cc)
some_from (Some x) h = (x, refl)

pub same_some : {X : Type 0} {x y : X} → Some x ≡ Some y → x ≡ y
same_some e = cc

-- what stays where a test doesn't take it away was there
pub kept_some : {X : Type 0} (b : Bool) (o : Option X) (x : X) → cond b None o ≡ Some x → o ≡ Some x
kept_some true o x e = absurd (cc)
kept_some false o x e = e

pub get_or-replicate-same : {X : Type 0} (n k : ℕ) (d : X) → get_or (replicate n d) k d ≡ d
get_or-replicate-same zero k d = refl
get_or-replicate-same (suc n) zero d = refl
get_or-replicate-same (suc n) (suc k) d = get_or-replicate-same n k d

-- the frame that has a page
pub held_frame : (o : Option Frame) (owner : FilePage) → page_of o ≡ Some owner
    → (f : Frame) × (o ≡ Some f) × (f.page ≡ owner)
held_frame None owner e = absurd (cc)
held_frame (Some f) owner e = (f, refl, same_some e)

-- whole pages, and each page once
pub record AreOnce (xs : List (Option Frame)) : Type 0 where
  pub whole : (n : ℕ) (f : Frame) → get_or xs n None ≡ Some f → length f.bytes ≡ 4096
  pub one : (a b : ℕ) (x y : Frame) → get_or xs a None ≡ Some x → get_or xs b None ≡ Some y → x.page ≡ y.page → a ≡ b

pub once_frames : (memory : FramesState) → IsMemory memory → AreOnce memory.frames
once_frames memory is = record {
  whole = λ n f at. sym (ap (λ (o : Option Frame). length (bytes_of o)) at) ∙ is.frames_whole n (ap is_some at);
  one = λ a b x y ha hb same.
      is.one_frame a b x.page (ap page_of ha) (ap page_of hb ∙ ap (λ (p : FilePage). Some p) (sym same));
}

pub once_copies : (memory : FramesState) → IsMemory memory → AreOnce memory.copies
once_copies memory is = record { whole = is.copies_whole; one = is.one_copy }

pub memory_from : (memory : FramesState) → AreOnce memory.frames → AreOnce memory.copies → IsMemory memory
memory_from memory frames copies = record {
  frames_whole = λ n used. let f = some_from (frame_at memory n) used in
      ap (λ (o : Option Frame). length (bytes_of o)) f.1 ∙ frames.whole n f.0 f.1;
  copies_whole = copies.whole;
  one_frame = λ a b owner ha hb.
      let x = held_frame (frame_at memory a) owner ha in
      let y = held_frame (frame_at memory b) owner hb in
      frames.one a b x.0 y.0 x.1 y.1 (x.2 ∙ sym y.2);
  one_copy = copies.one;
}

-- another at one place: a whole page that is at no other
pub AreOnce-set : (xs : List (Option Frame)) (k : ℕ) (x : Option Frame) → AreOnce xs
    → ((f : Frame) → x ≡ Some f → length f.bytes ≡ 4096)
    → ((n : ℕ) (f g : Frame) → n ≢ k → x ≡ Some f → get_or xs n None ≡ Some g → f.page ≡ g.page → ⊥)
    → AreOnce (set xs k x)
AreOnce-set xs k x once whole alone = record {
  whole =
      λ n f at. ⊎_elim (λ old. once.whole n f (sym old ∙ at)) (λ new. whole f (sym new.1 ∙ at)) (after_set xs k x n);
  one = λ a b f g ha hb same. ⊎_elim
      (λ old_a. ⊎_elim
      (λ old_b. once.one a b f g (sym old_a ∙ ha) (sym old_b ∙ hb) same)
      (λ new_b. ⊎_elim (λ here. here ∙ sym new_b.0)
      (λ other. absurd (alone a g f other (sym new_b.1 ∙ hb) (sym old_a ∙ ha) (sym same))) (cases_eq a k))
      (after_set xs k x b))
      (λ new_a. ⊎_elim
      (λ old_b. ⊎_elim (λ here. new_a.0 ∙ sym here)
      (λ other. absurd (alone b f g other (sym new_a.1 ∙ ha) (sym old_b ∙ hb) same)) (cases_eq b k))
      (λ new_b. new_a.0 ∙ sym new_b.0)
      (after_set xs k x b))
      (after_set xs k x a);
}

-- some of them
pub AreOnce-fewer : (xs ys : List (Option Frame))
    → ((n : ℕ) (f : Frame) → get_or ys n None ≡ Some f → get_or xs n None ≡ Some f) → AreOnce xs → AreOnce ys
AreOnce-fewer xs ys were once = record {
  whole = λ n f at. once.whole n f (were n f at);
  one = λ a b x y ha hb same. once.one a b x y (were a x ha) (were b y hb) same;
}

-- none of them
pub AreOnce-none : (xs : List (Option Frame)) → ((n : ℕ) → get_or xs n None ≡ None) → AreOnce xs
AreOnce-none xs none = record {
  whole = λ n f at. let free = none n in absurd (cc);
  one = λ a b x y ha hb same. let free = none a in absurd (cc);
}
