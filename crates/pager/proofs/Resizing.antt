-- A file's length becomes another: what is put then has room in a commit, and lies before the ends of files.
use Rattle.std.proofs.Common.{◌≡◌, ◌≢◌, ℕ, ◌+◌, ◌-◌, ◌/◌, ◌%◌, ◌<◌, ◌≤◌, Bool, false, List, []}
use Rattle.std.proofs.Common.{length, take, get_or, set, Option, Some, None, refl, ap, sym, ◌∙◌, subst, arith, inl, inr}
use Rattle.std.proofs.Common.{eqb, ltb, if◌then◌else◌}
use Rattle.std.specs.Prelude.{is_some, nat_lt}
use Rattle.std.specs.Option.{option_map}
use Rattle.std.proofs.lemmas.Bool.{cond-true, cond-false, cases_lt, cases_eq, cases_Bool, eq-eqb, ne_eqb, lt-ltb}
use Rattle.std.proofs.lemmas.Bool.{false≢true}
use Rattle.std.proofs.lemmas.Bool.Decides.{nat_tests}
use Rattle.std.proofs.lemmas.List.{get_or-set_same, get_or-set_other, take-take}
use Rattle.volume_codec.specs.Layout.{first_home, lengths_blocks}
use Rattle.volume_codec.specs.Lengths.{lengths_text}
use Rattle.volume_codec.specs.Super.{SuperValue, block_count, first_home_of, pages_of, total_pages}
use Rattle.volume_codec.specs.Descriptor.{RiseWithin}
use Rattle.volume_codec.specs.Text.{zeros}
use Rattle.volume_codec.proofs.Public.{first_home_of-next, first_home_of-le, total_pages-take_le}
use Rattle.journal.specs.Pages.{home_of}
use Rattle.kept_blocks.specs.Blocks.{Blocks, homes_in, bytes_in, with_home, with_zeros, without_run, cut_in, cut_to}
use Rattle.pager.specs.State.{PagerState, file_length, reserved}
use Rattle.pager.specs.Calls.{end_page, grown, shrunk, restaged, is_overfull, resized_to}
use Rattle.pager.specs.inside.Sound.{IsSound}
use Rattle.pager.specs.inside.Resizing.{MayHaveLength}
use Rattle.pager.proofs.Capacities.{end_within, last_within, are_set}
use Rattle.pager.proofs.Ends.{MayReach, lengths_put, at_other, added_to, none_behind, rises_grown, first_same}
use Rattle.pager.proofs.Ends.{count_grown, ends_grown, rises_shrunk, first_there, count_shrunk, ends_shrunk}
use Rattle.kept_blocks.proofs.Public.{rising_put, length_put}

-- files lie one after another
homes_rise : (v : SuperValue) (i j : ℕ) → i ≤ j → first_home_of v i ≤ first_home_of v j
homes_rise v i j le = omega (
  arith,
  total_pages-take_le (take j v.files) i,
  ap total_pages (take-take i j v.files le),
)

-- and no home block is of two files
pub one_file : (v : SuperValue) (f file q : ℕ) → f ≢ file → first_home_of v f ≤ q → q < first_home_of v (f + 1)
    → first_home_of v file ≤ q → q < first_home_of v (file + 1) → ⊥
one_file v f file q other low high from to = elim (cases_lt f file) [
  | inl less ↦ absurd (omega (arith, high, from, homes_rise v (f + 1) file (omega (arith, less))))
  | inr more ↦ absurd (omega (arith, to, low, homes_rise v (file + 1) f (omega (arith, more, other))))
]

one_more : (o : Option (List ℕ)) (n b : ℕ) → b ≡ 1
    → (if is_some o then n else n + 1) ≡ n + (if is_some o then 0 else b)
one_more None n b is = omega (arith, is)
one_more (Some x) n b is = omega arith

module _ {D : Type 0} (seen : D → List ℕ) (s : PagerState D) (sound : IsSound seen s) (file to : ℕ)
    (may : MayHaveLength s.table file to) where
  abbrev table : SuperValue
  table = s.table

  abbrev from : ℕ
  from = file_length s.lengths file

  abbrev first : ℕ
  first = first_home table.layout table.slots

  abbrev home : ℕ
  home = home_of table (end_page file from)

  abbrev text : List ℕ
  text = lengths_text (set s.lengths file to)

  abbrev body : List ℕ → Blocks
  body last = if ltb from to then grown table file from to last s.staged else shrunk table file from to s.staged

  block : lengths_blocks table.layout ≡ 1
  block = may.block

  -- the lengths' block is put, so none is reserved
  none_reserved : (last : List ℕ) → reserved table (restaged table s.lengths file to last s.staged) ≡ 0
  none_reserved last = ap (λ (o : Option (List ℕ)). if is_some o then 0 else lengths_blocks table.layout)
      (lengths_put first text (body last))

  may_reach : MayReach (first_home_of table) s.lengths file to first (block_count table) s.staged
  may_reach = record {
    one_file = one_file table;
    there = let count = sound.lengths.count in omega (arith, count, may.there);
    rising = sound.rising;
    ends = sound.ends;
    low = omega (arith, block);
    file_ends = omega (arith, first_home_of-next table file may.there, may.fits);
    end_in = end_within table file to may.there may.fits;
  }

  -- ---- a growth

  module _ (grows : from < to) where
    abbrev many : ℕ
    many = pages_of to - (from / 4096 + 1)

    body_grown : (last : List ℕ) → body last ≡ grown table file from to last s.staged
    body_grown last = cond-true (ltb from to) (grown table file from to last s.staged)
        (shrunk table file from to s.staged) (lt-ltb from to grows)

    pub none_added : (q : ℕ) → home < q → q < first_home_of table file + pages_of to → bytes_in s.staged q ≡ None
    none_added = none_behind may_reach grows home refl

    -- how many blocks are put then
    pub grown_size : (last : List ℕ) → length (restaged table s.lengths file to last s.staged)
        ≡ length s.staged + added_to (bytes_in s.staged home) many + reserved table s.staged
    grown_size last =
        let pages = count_grown may_reach grows home refl last in
        let lengths = length_put (grown table file from to last s.staged) first (block_count table) first text
        (rises_grown may_reach grows home refl last)
        ∙ ap (λ (o : Option (List ℕ)). added_to o (length (grown table file from to last s.staged)))
        (first_same may_reach grows home refl last)
        ∙ one_more (bytes_in s.staged first) (length (grown table file from to last s.staged))
        (lengths_blocks table.layout) block in
        let same = ap (λ (m : Blocks). length (with_home m first text)) (body_grown last) in
        omega (arith, pages, lengths, same)

    pub overfull_grown : is_overfull table s.most (restaged table s.lengths file to [] s.staged)
        ≡ nat_lt (s.most + lengths_blocks table.layout)
        (length s.staged + added_to (bytes_in s.staged home) many + reserved table s.staged)
    overfull_grown = ap (nat_lt (s.most + lengths_blocks table.layout))
        (let size = grown_size [] in let none = none_reserved [] in
        let sum : length (restaged table s.lengths file to [] s.staged)
        + reserved table (restaged table s.lengths file to [] s.staged)
        ≡ length s.staged + added_to (bytes_in s.staged home) many + reserved table s.staged =
        omega (arith, size, none) in sum)

    -- what the code puts
    pub resized_grown : (at high start : ℕ) (page spelled last : List ℕ) → at ≡ home
        → high ≡ first_home_of table file + pages_of to → start ≡ first → page ≡ cut_to (from % 4096) last
        → spelled ≡ text → with_home (with_home (with_zeros s.staged (at + 1) (high - (at + 1))) at page) start
        spelled
        ≡ restaged table s.lengths file to last s.staged
    resized_grown at high start page spelled last at_is high_is start_is page_is spelled_is =
        let count : high - (at + 1) ≡ many = omega (arith, at_is, high_is) in
        (λ i. with_home (with_home (with_zeros s.staged (at_is i + 1) (count i)) (at_is i) (page_is i)) (start_is i)
        (spelled_is i))
        ∙ ap (λ (m : Blocks). with_home m first text) (sym (body_grown last))

  -- ---- a shrink

  module _ (shrinks : to < from) where
    abbrev cut_home : ℕ
    cut_home = home_of table (end_page file to)

    body_shrunk : (last : List ℕ) → body last ≡ shrunk table file from to s.staged
    body_shrunk last = cond-false (ltb from to) (grown table file from to last s.staged)
        (shrunk table file from to s.staged) (let test : ltb from to ≡ false = grind (arith, nat_tests, shrinks) in
        test)

    pub shrunk_size : (last : List ℕ) → length (restaged table s.lengths file to last s.staged)
        ≤ length s.staged + reserved table s.staged
    shrunk_size last =
        let lengths = length_put (shrunk table file from to s.staged) first (block_count table) first text
        (rises_shrunk may_reach shrinks cut_home)
        ∙ ap (λ (b : Bool). if b then length (shrunk table file from to s.staged)
        else length (shrunk table file from to s.staged) + 1) (first_there may_reach shrinks cut_home)
        ∙ one_more (bytes_in s.staged first) (length (shrunk table file from to s.staged))
        (lengths_blocks table.layout) block in
        let same = ap (λ (m : Blocks). length (with_home m first text)) (body_shrunk last) in
        omega (arith, lengths, same, count_shrunk may_reach shrinks cut_home)

    pub shrunk_room : is_overfull table s.most (restaged table s.lengths file to [] s.staged) ≡ false
    shrunk_room =
        let few : length (restaged table s.lengths file to [] s.staged)
        + reserved table (restaged table s.lengths file to [] s.staged) ≤ s.most + lengths_blocks table.layout =
        omega (arith, shrunk_size [], none_reserved [], sound.few) in
        grind (arith, nat_tests, few)

    pub resized_shrunk : (low high at start n : ℕ) (spelled last : List ℕ)
        → low ≡ first_home_of table file + pages_of to → high ≡ first_home_of table file + pages_of from
        → at ≡ cut_home → start ≡ first → n ≡ to % 4096 → spelled ≡ text
        → with_home (cut_in (without_run s.staged low high) at n) start spelled
        ≡ restaged table s.lengths file to last s.staged
    resized_shrunk low high at start n spelled last low_is high_is at_is start_is n_is spelled_is =
        (λ i. with_home (cut_in (without_run s.staged (low_is i) (high_is i)) (at_is i) (n_is i)) (start_is i)
        (spelled_is i))
        ∙ ap (λ (m : Blocks). with_home m first text) (sym (body_shrunk last))

  -- ---- either

  sound_with : (last : List ℕ) → RiseWithin first (block_count table) (homes_in (body last))
      → ((f q : ℕ) → first_home_of table f + pages_of (get_or (set s.lengths file to) f 0) ≤ q
      → q < first_home_of table (f + 1) → bytes_in (body last) q ≡ None)
      → length (restaged table s.lengths file to last s.staged) ≤ s.most + lengths_blocks table.layout
      → IsSound seen (resized_to s file to last s.device)
  sound_with last rising ends few = record {
    fits = sound.fits;
    long = sound.long;
    lengths = are_set table s.lengths file to sound.lengths may.fits;
    geometry = sound.geometry;
    rising = rising_put (body last) first (block_count table) first text rising (omega arith)
        (let last_in = first_home_of-le table 0 in omega (arith, last_in, block));
    ends = λ f q past next. at_other first text (body last) q (omega (arith, past, block)) ∙ ends f q past next;
    few = omega (arith, few, none_reserved last);
    most = sound.most;
    tied = sound.tied;
    few_batches = sound.few_batches;
    marked = sound.marked;
  }

  pub sound_grown : (last : List ℕ) → from < to
      → is_overfull table s.most (restaged table s.lengths file to [] s.staged) ≡ false
      → IsSound seen (resized_to s file to last s.device)
  sound_grown last grows room =
      let fits : length (restaged table s.lengths file to [] s.staged)
      + reserved table (restaged table s.lengths file to [] s.staged) ≤ s.most + lengths_blocks table.layout =
      grind (arith, nat_tests, room) in
      sound_with last
      (subst (λ (m : Blocks). RiseWithin first (block_count table) (homes_in m)) (sym (body_grown grows last))
      (rises_grown may_reach grows home refl last))
      (λ f q past next. ap (λ (m : Blocks). bytes_in m q) (body_grown grows last)
      ∙ ends_grown may_reach grows home refl last f q past next)
      (omega (arith, fits, grown_size grows last, grown_size grows []))

  pub sound_shrunk : (last : List ℕ) → to < from → IsSound seen (resized_to s file to last s.device)
  sound_shrunk last shrinks = sound_with last
      (subst (λ (m : Blocks). RiseWithin first (block_count table) (homes_in m)) (sym (body_shrunk shrinks last))
      (rises_shrunk may_reach shrinks (cut_home shrinks)))
      (λ f q past next. ap (λ (m : Blocks). bytes_in m q) (body_shrunk shrinks last)
      ∙ ends_shrunk may_reach shrinks (cut_home shrinks) f q past next)
      (omega (arith, shrunk_size shrinks last, sound.few))
