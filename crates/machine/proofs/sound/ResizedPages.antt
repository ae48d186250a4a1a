-- What a change of a file's length leaves of frames, entries and notes, one by one.
use Rattle.machine.proofs.Names.{◌≡◌, ◌⊎◌, ℕ, ◌-◌, ◌*◌, ◌<◌, Bool, true, false, cond, eqb, leb, List, length}
use Rattle.machine.proofs.Names.{get_or, ◌++◌, Option, Some, None, refl, sym, ap, ◌∙◌, subst, inl, inr, arith, min}
use Rattle.machine.proofs.Names.{cases_Bool, cases_lt, both_ways, false_from_ne_true, cond-false, cond-true, and_parts}
use Rattle.machine.proofs.Names.{and_from, eq-eqb, eqb-true, le-leb, leb-true, list_any, not, ◌&&◌, length-take, Mapped}
use Rattle.machine.proofs.Names.{FilePage, FramesState, Frame, frame_at, bytes_of, page_of, Spaces, entry_at, place_at}
use Rattle.machine.proofs.Names.{place_at-EditsEntries, CheckpointState, Holds, is_held, is_of_page}
use Rattle.machine.proofs.Names.{same_page, AreBacked, page_at, cut_file, IsMemory, length-zeros, take}
use Rattle.machine.proofs.Names.{IsAdded, PagesResized, cut_frame, cut_page, is_past}
use Rattle.frames.specs.Frames.{zero_page, blank_bytes}
use Rattle.volume_codec.specs.Text.{zeros}
use Rattle.spaces.specs.Changes.{is_place_past, without_past}
use Rattle.history.proofs.Public.{some_same, none_some}
use Rattle.history.proofs.Public.{cut, length-cut_file}
use Rattle.machine.proofs.sound.Lists.{held_frame}
use Rattle.machine.proofs.sound.Frames.{in_use, its_page}

-- ---- zeros

blank_is_zeros : (n : ℕ) → blank_bytes n ≡ zeros n
unfolding blank_bytes zeros
blank_is_zeros n = refl

zero_is_blank : zero_page ≡ blank_bytes 4096
unfolding zero_page
zero_is_blank = refl

pub zero_is_zeros : zero_page ≡ zeros 4096
zero_is_zeros = zero_is_blank ∙ blank_is_zeros 4096

pub length-zero_page : length zero_page ≡ 4096
length-zero_page = ap length zero_is_zeros ∙ length-zeros 4096

-- a page that is cut, as histories have it
pub cut_page-cut : (n : ℕ) (bytes : List ℕ) → length bytes ≡ 4096 → cut_page n bytes ≡ cut n bytes
cut_page-cut n bytes size =
    let rest : 4096 - n ≡ 4096 - length (take n bytes) = omega (arith, size, length-take n bytes) in
    ap (λ (z : List ℕ). take n bytes ++ z) (blank_is_zeros (4096 - n) ∙ ap zeros rest)

-- ---- pages that stay

pub stays_before : (file n : ℕ) (owner : FilePage) → (owner.file ≡ file → 4096 * owner.page < n)
    → is_past file n owner ≡ false
stays_before file n owner before = false_from_ne_true (is_past file n owner) (λ e.
    let parts = and_parts (eqb owner.file file) (leb n (4096 * owner.page)) e in
    let lt = before (eqb-true owner.file file parts.0) in
    let le = leb-true n (4096 * owner.page) parts.1 in absurd (omega (arith, lt, le)))

pub before_stays : (file n : ℕ) (owner : FilePage) → is_past file n owner ≡ false → owner.file ≡ file
    → 4096 * owner.page < n
before_stays file n owner stays same = elim (cases_lt (4096 * owner.page) n) [
  | inl lt ↦ lt
  | inr le ↦ absurd (both_ways (is_past file n owner) stays (and_from (eqb owner.file file) (leb n (4096 * owner.page))
      (eq-eqb owner.file file same) (le-leb n (4096 * owner.page) le)))
]

-- ---- a frame that is cut

page_of_cut : (file end : ℕ) (f : Frame) → (cut_frame file end f).page ≡ f.page
page_of_cut file end f =
    let other : Frame = record f { bytes = cut_page (end - 4096 * f.page.page) f.bytes } in
    elim (eqb f.page.file file) as (λ b. (cond b other f).page ≡ f.page) [ true ↦ refl | false ↦ refl ]

bytes_of_cut : (file end : ℕ) (f : Frame) → length f.bytes ≡ 4096
    → (cut_frame file end f).bytes ≡ cut_file (λ k page. f.bytes) file end f.page.file f.page.page
bytes_of_cut file end f size =
    let n : ℕ = end - 4096 * f.page.page in
    let other : Frame = record f { bytes = cut_page n f.bytes } in
    elim (eqb f.page.file file) as (λ b. (cond b other f).bytes ≡ cond b (cut n f.bytes) f.bytes)
    [ true ↦ cut_page-cut n f.bytes size | false ↦ refl ]

-- ---- frames, entries and notes after it

module _ {spaces : Spaces} {memory : FramesState} {c : CheckpointState} {file old n : ℕ} {spaces' : Spaces}
    {memory' : FramesState} {c' : CheckpointState}
    (pages : PagesResized spaces memory c file old n spaces' memory' c') (is : IsMemory memory) where
  frame_stays : (k : ℕ) (f : Frame) → frame_at memory k ≡ Some f → is_past file n f.page ≡ false
      → frame_at memory' k ≡ Some (cut_frame file (min old n) f)
  frame_stays k f at stays =
      pages.used k f at ∙ cond-false (is_past file n f.page) None (Some (cut_frame file (min old n) f)) stays

  frame_goes : (k : ℕ) (f : Frame) → frame_at memory k ≡ Some f → is_past file n f.page ≡ true
      → frame_at memory' k ≡ None
  frame_goes k f at goes =
      pages.used k f at ∙ cond-true (is_past file n f.page) None (Some (cut_frame file (min old n) f)) goes

  -- a page that isn't past the end stays in its frame
  pub held_after : (k : ℕ) (owner : FilePage) → Holds memory k owner → is_past file n owner ≡ false
      → Holds memory' k owner
  held_after k owner holds stays =
      let f = held_frame (frame_at memory k) owner holds in
      ap page_of (frame_stays k f.0 f.1 (ap (is_past file n) f.2 ∙ stays))
      ∙ ap (λ (o : FilePage). Some o) (page_of_cut file (min old n) f.0 ∙ f.2)

  -- a frame has the page that it had, or one that was added
  pub record HeldStill (k : ℕ) (owner : FilePage) : Type 0 where
    pub held : Holds memory k owner
    pub stays : is_past file n owner ≡ false
    pub bytes : bytes_of (frame_at memory' k)
        ≡ cut_file (λ f page. bytes_of (frame_at memory k)) file (min old n) owner.file owner.page

  pub record HeldNow (k : ℕ) (owner : FilePage) : Type 0 where
    pub free : frame_at memory k ≡ None
    pub file_is : owner.file ≡ file
    pub added : IsAdded old n owner.page
    pub bytes : bytes_of (frame_at memory' k) ≡ zero_page

  pub held_cases : (k : ℕ) (owner : FilePage) → Holds memory' k owner → HeldStill k owner ⊎ HeldNow k owner
  held_cases k owner holds = by (frame_at memory k) refl
    where
      by : (x : Option Frame) → frame_at memory k ≡ x → HeldStill k owner ⊎ HeldNow k owner
      by None free = elim (pages.free k free) [
        | inl none ↦ absurd (none_some owner (sym (ap page_of none) ∙ holds))
        | inr new ↦
            (let here : record { file = file; page = new.0 }
            ≡ owner = some_same _ owner (sym (ap page_of new.2) ∙ holds) in
            inr (record {
              free = free;
              file_is = sym (ap (λ (o : FilePage). o.file) here);
              added = subst (IsAdded old n) (ap (λ (o : FilePage). o.page) here) new.1;
              bytes = ap bytes_of new.2;
            }))
      ]
      by (Some f) at = elim (cases_Bool (is_past file n f.page)) [
        | inl past ↦ absurd (none_some owner (sym (ap page_of (frame_goes k f at past)) ∙ holds))
        | inr stays ↦
            (let now = frame_stays k f at stays in
            let here : f.page ≡ owner = some_same f.page owner
            (sym (ap (λ (o : FilePage). Some o) (page_of_cut file (min old n) f)) ∙ sym (ap page_of now) ∙ holds) in
            let size : length f.bytes ≡ 4096 = sym (ap (λ (o : Option Frame). length (bytes_of o)) at) ∙ is.frames_whole
            k (in_use (frame_at memory k) owner (ap page_of at ∙ ap (λ (o : FilePage). Some o) here)) in
            inl (record {
              held = ap page_of at ∙ ap (λ (o : FilePage). Some o) here;
              stays = sym (ap (is_past file n) here) ∙ stays;
              bytes = ap bytes_of now ∙ bytes_of_cut file (min old n) f size
                  ∙ (λ i. cut_file (λ g page. bytes_of (sym at i)) file (min old n) (here i).file (here i).page);
            }))
      ]

  -- ---- frames

  pub IsMemory-resized : IsMemory memory'
  IsMemory-resized = record {
    frames_whole = λ k used.
        let page = its_page (frame_at memory' k) used in
        elim (held_cases k page.0 page.1) [
          | inl still ↦
              ap length still.bytes
              ∙ length-cut_file (λ f at. bytes_of (frame_at memory k)) file (min old n) page.0.file page.0.page
              (is.frames_whole k (in_use (frame_at memory k) page.0 still.held))
          | inr now ↦ ap length now.bytes ∙ length-zero_page
        ];
    copies_whole = λ copy kept at.
        is.copies_whole copy kept (sym (ap (λ (l : List (Option Frame)). get_or l copy None) pages.same_copies) ∙ at);
    one_frame = pages.once;
    one_copy = λ a b x y at_a at_b same. is.one_copy a b x y
        (sym (ap (λ (l : List (Option Frame)). get_or l a None) pages.same_copies) ∙ at_a)
        (sym (ap (λ (l : List (Option Frame)). get_or l b None) pages.same_copies) ∙ at_b) same;
  }

  -- ---- entries

  pub place_still : (q at : ℕ) → place_at spaces' q at ≡ place_at spaces q at
  place_still = place_at-EditsEntries (without_past file n spaces) spaces spaces' pages.cleared

  -- an entry that is there was, and is of no page past the end
  pub entry_was : (q at : ℕ) (entry : Mapped) → entry_at spaces' q at ≡ Some entry
      → (entry_at spaces q at ≡ Some entry) × (is_place_past file n (place_at spaces q at) ≡ false)
  entry_was q at entry present =
      by (is_place_past file n (place_at spaces q at)) refl (sym (pages.cleared.entries q at) ∙ present)
    where
      by : (b : Bool) → is_place_past file n (place_at spaces q at) ≡ b
          → cond b None (entry_at spaces q at) ≡ Some entry
          → (entry_at spaces q at ≡ Some entry) × (is_place_past file n (place_at spaces q at) ≡ false)
      by true past e = absurd (none_some entry e)
      by false stays e = (e, stays)

  pub entry_stays : (q at : ℕ) (entry : Mapped) → entry_at spaces q at ≡ Some entry
      → is_place_past file n (place_at spaces q at) ≡ false → entry_at spaces' q at ≡ Some entry
  entry_stays q at entry present stays = pages.cleared.entries q at
      ∙ cond-false (is_place_past file n (place_at spaces q at)) None (entry_at spaces q at) stays ∙ present

  held_as : (owner : FilePage) → is_held memory' c' owner ≡ is_held memory c owner
  held_as owner =
      λ i. list_any (same_page owner) (pages.frozen i) && not (list_any (is_of_page owner) (pages.same_copies i))

  pub AreBacked-resized : AreBacked memory c spaces → AreBacked memory' c' spaces'
  AreBacked-resized backed q at entry present =
      let was = entry_was q at entry present in
      let b = backed q at entry was.0 in
      record {
        place = b.place;
        mapped = place_still q at ∙ b.mapped;
        held = held_after entry.frame (page_at b.place) b.held (sym (ap (is_place_past file n) b.mapped) ∙ was.1);
        allowed = b.allowed;
        thawed = λ writable. held_as (page_at b.place) ∙ b.thawed writable;
      }
