-- Bytes of a file in memory that become zeros from one on.
use Rattle.std.proofs.Common.{ℕ, zero, suc, ◌≡◌, ◌≢◌, ◌+◌, ◌-◌, ◌*◌, ◌/◌, ◌%◌, ◌≤◌, eqb, List, [], ◌++◌, length, take}
use Rattle.std.proofs.Common.{drop, replicate, Option, Some, None, IsSome, refl, sym, ap, subst, ◌∙◌, inl, inr, arith}
use Rattle.std.specs.Option.{option_map}
use Rattle.std.proofs.lemmas.Bool.{cases_eq, cases_Bool, cond-true, cond-false}
use Rattle.std.proofs.lemmas.Bool.{eqb-true, eq-eqb, false≢true, false_from_ne_true}
use Rattle.std.proofs.lemmas.List.{append-nil, take_all, drop_all, length-set, length-replicate}
use Rattle.page_entry.specs.declared.numbers.FilePage.{FilePage}
use Rattle.frames.specs.Frames.{FramesState, Frame, frame_at, page_of, blank_bytes, zero_page}
use Rattle.frames.specs.Frames.{overwrite, overwrite_frame, with_bytes, bytes_of, IsPage, AreFrames}
use Rattle.frames.proofs.Public.{frame_at-with_bytes_same, frame_at-with_bytes_other}
use Rattle.checkpoint.specs.Checkpoint.{Holds, same_page}
use Rattle.checkpoint.specs.Resizing.{cut_page, cut_frame}
use Rattle.checkpoint.specs.inside.Resized.{BeginBefore, CutsPage, CutsFile, cut_if_page}
use Rattle.checkpoint.proofs.PagesInUse.{same_page-true, same_page-refl}
use Rattle.checkpoint.proofs.Dropped.{HeldFrame, held_frame}

-- the rest of so many zeros
drop-replicate : (n k : ℕ) → drop {A = ℕ} k (replicate n 0) ≡ replicate (n - k) 0
drop-replicate zero zero = let none : 0 ≡ 0 - 0 = omega arith in ap (λ n. replicate {A = ℕ} n 0) none
drop-replicate zero (suc k) = let none : 0 ≡ 0 - suc k = omega arith in ap (λ n. replicate {A = ℕ} n 0) none
drop-replicate (suc n) zero = let all : suc n ≡ suc n - 0 = omega arith in ap (λ n. replicate {A = ℕ} n 0) all
drop-replicate (suc n) (suc k) =
    let rest : n - k ≡ suc n - suc k = omega arith in
    drop-replicate n k ∙ ap (λ n. replicate {A = ℕ} n 0) rest

drop-blank : (n k : ℕ) → drop k (blank_bytes n) ≡ blank_bytes (n - k)
unfolding blank_bytes
drop-blank n k = drop-replicate n k

drop-zero_page : (k : ℕ) → drop k zero_page ≡ blank_bytes (4096 - k)
unfolding zero_page
drop-zero_page k = drop-blank 4096 k

length-blank : (n : ℕ) → length (blank_bytes n) ≡ n
unfolding blank_bytes
length-blank n = length-replicate n 0

pub rest-zero_page : (k : ℕ) (zeros : List ℕ) → zeros ≡ zero_page
    → take (4096 - k) (drop k zeros) ≡ blank_bytes (4096 - k)
rest-zero_page k zeros is =
    let rest : drop k zeros ≡ blank_bytes (4096 - k) = ap (drop k) is ∙ drop-zero_page k in
    take_all (4096 - k) (drop k zeros) (omega (arith, ap length rest, length-blank (4096 - k))) ∙ rest

blank-none : (n : ℕ) → n ≡ 0 → blank_bytes n ≡ []
unfolding blank_bytes
blank-none n none = ap (λ k. replicate k 0) none

-- a page that is cut past its last byte stays
cut_page-whole : (at : ℕ) (bytes : List ℕ) → length bytes ≡ 4096 → 4096 ≤ at → cut_page at bytes ≡ bytes
cut_page-whole at bytes size past =
    (λ i. take_all at bytes (omega (arith, size)) i ++ blank-none (4096 - at) (omega (arith, past)) i)
    ∙ append-nil bytes

-- zeros written to the page's end cut it
overwrite-cut : (at : ℕ) (bytes zeros : List ℕ) → length bytes ≡ 4096 → at ≤ 4096 → zeros ≡ blank_bytes (4096 - at)
    → overwrite bytes at zeros ≡ cut_page at bytes
overwrite-cut at bytes zeros size within is =
    let long : length zeros ≡ 4096 - at = ap length is ∙ length-blank (4096 - at) in
    let rest : drop (at + length zeros) bytes ≡ [] =
    drop_all (at + length zeros) bytes (omega (arith, size, long, within)) in
    ap (λ r. take at bytes ++ zeros ++ r) rest ∙ append-nil (take at bytes ++ zeros) ∙ ap (λ z. take at bytes ++ z) is

-- so does a frame of a page that ends before the byte, or of another file
cut_frame-whole : (file end : ℕ) (f : Frame) → length f.bytes ≡ 4096
    → (f.page.file ≡ file → 4096 * f.page.page + 4096 ≤ end)
    → cut_frame file end f ≡ f
cut_frame-whole file end f size within =
    elim (cases_eq f.page.file file) [
      | inl same ↦
          cond-true (eqb f.page.file file) (record f { bytes = cut_page (end - 4096 * f.page.page) f.bytes }) f
          (eq-eqb f.page.file file same)
          ∙ ap (λ bytes. record f { bytes = bytes }) (cut_page-whole (end - 4096 * f.page.page) f.bytes size (let less =
          within same in omega arith))
      | inr other ↦ cond-false (eqb f.page.file file) (record f { bytes = cut_page (end - 4096 * f.page.page) f.bytes })
          f (false_from_ne_true (eqb f.page.file file) (λ e. other (eqb-true f.page.file file e)))
    ]

module _ (memory : FramesState) (are : AreFrames memory) where
  size : (frame : ℕ) (f : Frame) → frame_at memory frame ≡ Some f → length f.bytes ≡ 4096
  size frame f at = whole (frame_at memory frame) at (are.frames frame)
    where
      whole : (o : Option Frame) → o ≡ Some f → (IsSome o → IsPage (bytes_of o)) → length f.bytes ≡ 4096
      whole o is page = let here = subst (λ o. IsSome o → IsPage (bytes_of o)) is page in (here refl).size

  -- no frame has the page
  pub CutsPage-none : (owner : FilePage) (at : ℕ) → ((frame : ℕ) → page_of (frame_at memory frame) ≢ Some owner)
      → CutsPage owner at memory memory
  CutsPage-none owner at none = record {
    frames = λ frame. stays (frame_at memory frame) (none frame);
    same_count = refl;
    same_copies = refl;
  }
    where
      stays : (o : Option Frame) → page_of o ≢ Some owner → o ≡ option_map (cut_if_page owner at) o
      stays None other = refl
      stays (Some f) other =
          ap (λ (g : Frame). Some g) (sym (cond-false (same_page owner f.page)
          (record f { bytes = cut_page at f.bytes }) f (false_from_ne_true (same_page owner f.page)
          (λ same. other (ap (λ p. Some p) (sym (same_page-true owner f.page same)))))))

  -- a frame has it, and gets zeros up to its end
  pub CutsPage-written : (owner : FilePage) (at frame : ℕ) (zeros : List ℕ)
      → Holds memory frame owner → at ≤ 4096 → zeros ≡ blank_bytes (4096 - at)
      → CutsPage owner at memory (with_bytes memory frame at zeros)
  CutsPage-written owner at frame zeros holds within is = record {
    frames = λ k. elim (cases_eq k frame) [
      | inl here ↦ ap (frame_at (with_bytes memory frame at zeros)) here
          ∙ this
          ∙ ap (λ n. option_map (cut_if_page owner at) (frame_at memory n)) (sym here)
      | inr other ↦ frame_at-with_bytes_other memory frame at zeros k other
          ∙ (CutsPage-other k other (frame_at memory k) refl)
    ];
    same_count = length-set memory.frames frame _;
    same_copies = refl;
  }
    where
      f : HeldFrame memory frame owner
      f = held_frame memory frame owner holds

      cut_this : overwrite_frame (Some f.held) at zeros ≡ Some (cut_if_page owner at f.held)
      cut_this =
          ap (λ bytes. Some (record f.held { bytes = bytes }))
          (overwrite-cut at f.held.bytes zeros (size frame f.held f.at) within is)
          ∙ ap (λ (g : Frame). Some g)
          (sym (cond-true (same_page owner f.held.page) (record f.held { bytes = cut_page at f.held.bytes }) f.held
          (ap (same_page owner) f.is ∙ same_page-refl owner)))

      this : frame_at (with_bytes memory frame at zeros) frame
          ≡ option_map (cut_if_page owner at) (frame_at memory frame)
      this =
          frame_at-with_bytes_same memory frame at zeros
          ∙ ap (λ o. overwrite_frame o at zeros) f.at ∙ cut_this ∙ ap (option_map (cut_if_page owner at)) (sym f.at)

      CutsPage-other : (k : ℕ) → k ≢ frame → (o : Option Frame) → frame_at memory k ≡ o
          → o ≡ option_map (cut_if_page owner at) o
      CutsPage-other k other None _ = refl
      CutsPage-other k other (Some g) there =
          ap (λ (g : Frame). Some g) (sym (cond-false (same_page owner g.page)
          (record g { bytes = cut_page at g.bytes }) g (false_from_ne_true (same_page owner g.page) (λ same.
          other (are.one_frame k frame owner
          (ap page_of there ∙ ap (λ p. Some p) (sym (same_page-true owner g.page same))) holds)))))

  -- a file that ends where a page does
  pub CutsFile-whole : (file end : ℕ) → BeginBefore memory file end → end % 4096 ≡ 0 → CutsFile file end memory memory
  CutsFile-whole file end before no_rest = record {
    frames = λ frame. stays frame (frame_at memory frame) refl;
    same_count = refl;
    same_copies = refl;
  }
    where
      stays : (frame : ℕ) (o : Option Frame) → frame_at memory frame ≡ o → o ≡ option_map (cut_frame file end) o
      stays frame None is = refl
      stays frame (Some f) is =
          ap (λ (g : Frame). Some g) (sym (cut_frame-whole file end f (size frame f is) (λ same. let less =
          before frame f.page (ap page_of is) same in omega (arith, less, no_rest))))

  -- one that ends inside a page
  pub CutsFile-page : (file end at last : ℕ) (new : FramesState) → BeginBefore memory file end
      → at ≡ end % 4096 → last ≡ end / 4096 → CutsPage (record { file = file; page = last }) at memory new
      → CutsFile file end memory new
  CutsFile-page file end at last new before is_at is_last cuts = record {
    frames = λ frame. cuts.frames frame ∙ same frame (frame_at memory frame) refl;
    same_count = cuts.same_count;
    same_copies = cuts.same_copies;
  }
    where
      owner : FilePage
      owner = record { file = file; page = last }

      same : (frame : ℕ) (o : Option Frame) → frame_at memory frame ≡ o
          → option_map (cut_if_page owner at) o ≡ option_map (cut_frame file end) o
      same frame None is = refl
      same frame (Some f) is = ap (λ (g : Frame). Some g) (elim (cases_Bool (same_page owner f.page)) [
        | inl here ↦
            let one : owner ≡ f.page = same_page-true owner f.page here in
            let page : last ≡ f.page.page = ap (λ (p : FilePage). p.page) one in
            cond-true (same_page owner f.page) (record f { bytes = cut_page at f.bytes }) f here
            ∙ ap (λ n. record f { bytes = cut_page n f.bytes }) (omega (arith, is_at, is_last, page))
            ∙ sym (cond-true (eqb f.page.file file) (record f { bytes = cut_page (end - 4096 * f.page.page) f.bytes }) f
            (eq-eqb f.page.file file (ap (λ (p : FilePage). p.file) (sym one))))
        | inr elsewhere ↦
            cond-false (same_page owner f.page) (record f { bytes = cut_page at f.bytes }) f elsewhere
            ∙ sym (cut_frame-whole file end f (size frame f is) (λ in_file.
            let less = before frame f.page (ap page_of is) in_file in
            let other : f.page.page ≢ last = λ page.
            absurd (false≢true (sym elsewhere ∙ ap (same_page owner) (λ i. record { file = in_file i; page = page i })
            ∙ same_page-refl owner)) in
            omega (arith, less, other, is_last)))
      ])
