-- Contents of home blocks that have the files after a history, and those after one event more.
use Rattle.std.proofs.Common.{◌≡◌, ◌≢◌, ◌⊎◌, ℕ, ◌+◌, ◌-◌, ◌*◌, ◌/◌, ◌%◌, ◌<◌, ◌≤◌, Bool, true, false, List}
use Rattle.std.proofs.Common.{[], ◌∷◌, ◌++◌, length, map, take, drop, get_or, set, refl, ap, sym, ◌∙◌, subst, arith}
use Rattle.std.proofs.Common.{inl, inr, eqb, if◌then◌else◌}
use Rattle.std.specs.Prelude.{min}
use Rattle.std.proofs.lemmas.Bool.{cond-false, cond-true, cases_lt, cases_eq, cases_Bool, eq-eqb, ne_eqb}
use Rattle.std.proofs.lemmas.List.{append-nil, length-drop, length-take, get_or-set_same, get_or-set_other, take_all}
use Rattle.std.proofs.lemmas.List.{take-take}
use Rattle.device.specs.Device.{written}
use Rattle.page_entry.specs.declared.numbers.FilePage.{FilePage}
use Rattle.volume_codec.specs.Files.{File}
use Rattle.volume_codec.specs.Layout.{first_home, first_file_home, lengths_blocks}
use Rattle.volume_codec.specs.Lengths.{AreLengths, HasLengths, lengths_in}
use Rattle.volume_codec.specs.Super.{SuperValue, block_count, capacities_in, first_home_of, total_pages, pages_of}
use Rattle.volume_codec.specs.Recovery.{files_in, files_from, blocks_from}
use Rattle.volume_codec.specs.Text.{padded, zeros}
use Rattle.volume_codec.proofs.Public.{has_lengths-same, lengths_in-same, length-padded, length-zeros}
use Rattle.journal.specs.Pages.{home_of}
use Rattle.history.specs.History.{Event, Store, SetLength, Memory, memory_of, after, stored, cut_file}
use Rattle.history.specs.History.{lengths_of, lengths_after, file_bytes, part}
use Rattle.history.specs.inside.Contents.{HasParts}
use Rattle.history.proofs.Public.{capacity_at, total_pages-before, total_pages-within, take-padded_take, in_table}
use Rattle.history.proofs.Public.{length-page_of, named_from, lengths_from, file_bytes-from, page_in_blocks}
use Rattle.history.proofs.Public.{after_store, stored_there, stored_elsewhere, length-stored, lengths_store}
use Rattle.history.proofs.Public.{cut, length-cut, cut-whole, cut-none, take-cut, cut_file-there, cut_file-other}
use Rattle.history.proofs.Public.{length-cut_file, after_set_length, lengths_set_length}
use Rattle.kept_blocks.specs.Blocks.{cut_to}
use Rattle.kept_blocks.proofs.Public.{is_outside, outside_below, outside_above}
use Rattle.pager.specs.State.{file_length, up_to_end}
use Rattle.pager.specs.Calls.{end_page}
use Rattle.pager.specs.inside.Contents.{HaveFiles}
use Rattle.pager.proofs.Capacities.{length_fits, are_set}

-- the page is one of a file, and begins before its end
pub record IsInFile (v : SuperValue) (lengths : List ℕ) (owner : FilePage) : Type 0 where
  pub there : owner.file < length v.files
  pub inside : 4096 * owner.page < get_or lengths owner.file 0

-- ---- where pages lie

module _ (v : SuperValue) (lengths : List ℕ) (are : AreLengths v lengths) where
  pub page_below : (owner : FilePage) → IsInFile v lengths owner
      → owner.page < pages_of (capacity_at v.files owner.file)
  page_below owner is = omega (arith, is.inside, length_fits v lengths are owner.file)

  pub home_below : (owner : FilePage) → IsInFile v lengths owner → home_of v owner < block_count v
  home_below owner is = omega (arith, total_pages-within v.files owner.file is.there, page_below owner is)

  -- no two pages have one home block
  pub same_home : (a b : FilePage) → IsInFile v lengths a → IsInFile v lengths b → home_of v a ≡ home_of v b → a ≡ b
  same_home a b is_a is_b same = elim (cases_eq a.file b.file) [
    | inl file ↦
        (let page : a.page ≡ b.page = omega (arith, same, ap (λ i. total_pages (take i v.files)) file) in
        (λ i. record { file = file i; page = page i }))
    | inr other ↦ elim (cases_lt a.file b.file) [
      | inl less ↦ absurd (omega (
        arith,
        same,
        total_pages-before v.files a.file b.file less is_a.there,
        page_below a is_a,
      ))
      | inr more ↦ (let less : b.file < a.file = omega (arith, more, other) in absurd (omega (
        arith,
        same,
        total_pages-before v.files b.file a.file less is_b.there,
        page_below b is_b,
      )))
    ]
  ]

  -- a home block of a page of one file, up to some end, is of no page of another
  pub other_home : (file end : ℕ) → file < length v.files → end ≤ get_or lengths file 0 → (owner : FilePage)
      → owner.file ≢ file → IsInFile v lengths owner → first_home_of v file ≤ home_of v owner
      → home_of v owner < first_home_of v file + pages_of end → ⊥
  other_home file end there le owner other is low high =
      let own : FilePage = record { file = file; page = home_of v owner - first_home_of v file } in
      let same : home_of v owner ≡ home_of v own = omega (arith, low) in
      let inside : IsInFile v lengths own = record { there = there; inside = omega (arith, low, high, le) } in
      other (ap (λ (o : FilePage). o.file) (same_home owner own is inside same))

-- the part of a page that was put
put_part : (lengths : List ℕ) (owner : FilePage) (old bytes : List ℕ) → length old ≡ 4096 → length bytes ≡ 4096
    → part lengths owner (up_to_end lengths owner bytes) ≡ part lengths owner (written old 0 bytes)
put_part lengths owner old bytes size_old size =
    let n = get_or lengths owner.file 0 - 4096 * owner.page in
    take-padded_take 4096 n bytes size ∙ sym (ap (take n) replaced)
  where
    empty : (l : List ℕ) → length l ≡ 0 → l ≡ []
    empty [] e = refl
    empty (x ∷ l) e = absurd (omega (arith, e))

    replaced : written old 0 bytes ≡ bytes
    replaced =
        let rest : length (drop (0 + length bytes) old) ≡ 0 =
        omega (arith, length-drop (0 + length bytes) old, size_old, size) in
        ap (λ (l : List ℕ). bytes ++ l) (empty (drop (0 + length bytes) old) rest) ∙ append-nil bytes

-- fewer of the same first bytes
take_fewer : (m n : ℕ) (xs ys : List ℕ) → m ≤ n → take n xs ≡ take n ys → take m xs ≡ take m ys
take_fewer m n xs ys le same = sym (take-take m n xs le) ∙ ap (take m) same ∙ take-take m n ys le

-- ---- the files of the start

module _ (v : SuperValue) (contents : ℕ → List ℕ) (lengths : List ℕ) (files : List File)
    (whole : (b : ℕ) → b < block_count v → length (contents b) ≡ 4096) (fits : HasLengths v contents)
    (files_are : files ≡ files_in v contents) (said : lengths ≡ lengths_in v contents) where
  start_are : AreLengths v lengths
  start_are = subst (AreLengths v) (sym said) fits.are

  files_of_start : files ≡ files_from contents (first_file_home v.layout v.slots) v.files lengths
  files_of_start = files_are ∙ ap (files_from contents (first_file_home v.layout v.slots) v.files) (sym said)

  page_first : (owner : FilePage) → IsInFile v lengths owner
      → memory_of files owner.file owner.page ≡ up_to_end lengths owner (contents (home_of v owner))
  page_first owner is =
      let b = first_file_home v.layout v.slots + total_pages (take owner.file v.files) in
      let n = pages_of (capacity_at v.files owner.file) in
      let bytes : file_bytes files owner.file ≡ take (get_or lengths owner.file 0) (blocks_from contents b n) =
      ap (λ (l : List File). file_bytes l owner.file) files_of_start
      ∙ file_bytes-from contents (first_file_home v.layout v.slots) v.files lengths owner.file is.there
      start_are.count in
      let before = total_pages-within v.files owner.file is.there in
      let inside = is.inside in
      ap (λ (l : List ℕ). padded 4096 (take 4096 (drop (4096 * owner.page) l))) bytes
      ∙ ap (padded 4096) (page_in_blocks contents b n (get_or lengths owner.file 0) owner.page
      (λ i low high. whole i (omega (arith, before, high)))
      (page_below v lengths start_are owner is) (omega (arith, inside)))

  first_parts : HasParts v lengths contents (memory_of files)
  first_parts owner there inside =
      let is : IsInFile v lengths owner = record { there = there; inside = inside } in
      sym (ap (part lengths owner) (page_first owner is)
      ∙ take-padded_take 4096 (get_or lengths owner.file 0 - 4096 * owner.page) (contents (home_of v owner))
      (whole (home_of v owner) (home_below v lengths start_are owner is)))

  pub lengths_start : lengths_of files ≡ lengths
  lengths_start = ap lengths_of files_of_start
      ∙ lengths_from contents (first_file_home v.layout v.slots) v.files lengths start_are.count
      (λ i. length_fits v lengths start_are i) whole

  pub named_start : map in_table files ≡ v.files
  named_start = ap (map in_table) files_of_start
      ∙ named_from contents (first_file_home v.layout v.slots) v.files lengths start_are.count

  pub starts : HaveFiles files v contents []
  starts = record {
    whole = λ file page. length-page_of (file_bytes files file) page;
    blocks = λ b low high. whole b high;
    fits = fits;
    same_lengths = sym said ∙ sym lengths_start;
    parts = subst (λ (l : List ℕ). HasParts v l contents (memory_of files)) (sym lengths_start) first_parts;
  }

-- ---- a length

-- A file grows. The page in which it ended has zeros from the old end on, and so has each page after it.
pub record Grows (table : SuperValue) (lengths : List ℕ) (file to : ℕ) (old new : ℕ → List ℕ) : Type 0 where
  pub more : file_length lengths file < to
  pub last : (let end = file_length lengths file in let home = home_of table (end_page file end) in
      new home ≡ cut_to (end % 4096) (old home))
  pub added : (b : ℕ) → first_file_home table.layout table.slots ≤ b
      → home_of table (end_page file (file_length lengths file)) < b → b < first_home_of table file + pages_of to
      → new b ≡ zeros 4096
  pub others : (b : ℕ) → first_file_home table.layout table.slots ≤ b
      → (home_of table (end_page file (file_length lengths file)) ≤ b
      → b < first_home_of table file + pages_of to → ⊥)
      → new b ≡ old b

-- the page in which a file ends then, with zeros from there on, and any other page as it is
abbrev pub cut_at : SuperValue → ℕ → ℕ → ℕ → List ℕ → List ℕ
cut_at table file to b x = if eqb b (home_of table (end_page file to)) then cut_to (to % 4096) x else x

-- whether a home block is of no page past the new end
abbrev pub stays_in : SuperValue → List ℕ → ℕ → ℕ → ℕ → Bool
stays_in table lengths file to b = is_outside (first_home_of table file + pages_of to)
    (first_home_of table file + pages_of (file_length lengths file)) b

-- A file shrinks. The page in which it ends then has zeros from there on, or is as it was. Pages past the new end may
-- have any bytes.
pub record Shrinks (table : SuperValue) (lengths : List ℕ) (file to : ℕ) (old new : ℕ → List ℕ) : Type 0 where
  pub less : to < file_length lengths file
  pub kept : (b : ℕ) → first_file_home table.layout table.slots ≤ b → stays_in table lengths file to b ≡ true
      → (new b ≡ old b) ⊎ (new b ≡ cut_at table file to b (old b))
  pub past : (b : ℕ) → first_file_home table.layout table.slots ≤ b → b < block_count table
      → stays_in table lengths file to b ≡ false → length (new b) ≡ 4096

module _ (files : List File) (table : SuperValue) (history : List Event) (lengths : List ℕ) (old : ℕ → List ℕ)
    (has : HaveFiles files table old history) (said : lengths_after (lengths_of files) history ≡ lengths) where
  abbrev before : Memory
  before = after (memory_of files) history

  -- each file has a length that it may have
  pub lengths_may : AreLengths table lengths
  lengths_may = subst (AreLengths table) (has.same_lengths ∙ said) has.fits.are

  -- what the contents have of each page of the files
  pub parts_are : HasParts table lengths old (after (memory_of files) history)
  parts_are = subst (λ (l : List ℕ). HasParts table l old (after (memory_of files) history)) said has.parts

  -- ---- a page is put

  module _ (owner : FilePage) (bytes : List ℕ) (new : ℕ → List ℕ) (own : IsInFile table lengths owner)
      (size : length bytes ≡ 4096) (there : new (home_of table owner) ≡ up_to_end lengths owner bytes)
      (elsewhere : (b : ℕ) → b ≢ home_of table owner → new b ≡ old b) where
    abbrev offset : ℕ
    offset = 4096 * owner.page

    abbrev event : Event
    event = Store owner.file offset bytes

    abbrev home : ℕ
    home = home_of table owner

    at_zero : 4096 * owner.page + 0 ≡ offset
    at_zero = omega arith

    abbrev later : Memory
    later = stored before owner.file (4096 * owner.page + 0) bytes

    memory_now : after (memory_of files) (history ++ event ∷ []) ≡ later
    memory_now = after_store (memory_of files) history owner.file offset bytes
        ∙ ap (λ n. stored before owner.file n bytes) (sym at_zero)

    there_at : (b : ℕ) → b ≡ home → new b ≡ up_to_end lengths owner bytes
    there_at b is = ap new is ∙ there

    -- the block of the lengths stays
    lengths_stay : 0 < lengths_blocks table.layout
        → old (first_home table.layout table.slots) ≡ new (first_home table.layout table.slots)
    lengths_stay some = sym (elsewhere (first_home table.layout table.slots) (λ e. omega (arith, e, some)))

    put_parts : HasParts table lengths new later
    put_parts page in_files inside = elim (cases_eq (home_of table page) home) [
      | inl same ↦
          (let is = same_home table lengths lengths_may page owner
          (record { there = in_files; inside = inside }) own same in
          ap (part lengths page) (there_at (home_of table page) same)
          ∙ ap (λ (o : FilePage). part lengths o (up_to_end lengths owner bytes)) is
          ∙ put_part lengths owner (before owner.file owner.page) bytes (has.whole owner.file owner.page) size
          ∙ sym (ap (part lengths owner) (stored_there before owner.file owner.page 0 bytes (omega arith)))
          ∙ ap (λ (o : FilePage). part lengths o (later o.file o.page)) (sym is))
      | inr other ↦
          (let apart : page.file ≡ owner.file → page.page ≡ owner.page → ⊥ = λ file number.
          other (ap (home_of table) (λ i. record { file = file i; page = number i })) in
          ap (part lengths page) (elsewhere (home_of table page) other)
          ∙ parts_are page in_files inside
          ∙ sym (ap (part lengths page)
          (stored_elsewhere before owner.file owner.page 0 bytes page.file page.page (omega arith) apart)))
    ]

    pub stored_has : HaveFiles files table new (history ++ Store owner.file (4096 * owner.page) bytes ∷ [])
    stored_has = record {
      whole = λ file page. ap (λ (m : Memory). length (m file page)) memory_now
          ∙ length-stored before owner.file owner.page 0 bytes file page has.whole (omega (arith, size))
          (omega arith);
      blocks = λ b low high. elim (cases_eq b home) [
        | inl same ↦ ap length (there_at b same) ∙ length-padded 4096
            (take (get_or lengths owner.file 0 - 4096 * owner.page) bytes)
            (omega (arith, size, length-take (get_or lengths owner.file 0 - 4096 * owner.page) bytes))
        | inr other ↦ ap length (elsewhere b other) ∙ has.blocks b low high
      ];
      fits = has_lengths-same table old new lengths_stay has.fits;
      same_lengths = sym (lengths_in-same table old new lengths_stay) ∙ has.same_lengths ∙ sym lengths_now;
      parts = subst (λ (m : Memory). HasParts table (lengths_after (lengths_of files) (history ++ event ∷ [])) new m)
          (sym memory_now)
          (subst (λ (l : List ℕ). HasParts table l new later) (sym (lengths_now ∙ said)) put_parts);
    }
      where
        lengths_now : lengths_after (lengths_of files) (history ++ event ∷ []) ≡ lengths_after (lengths_of files)
            history
        lengths_now = lengths_store (lengths_of files) history owner.file offset bytes

  -- ---- a file's length becomes another

  module _ (file to : ℕ) (new : ℕ → List ℕ) (there : file < length lengths)
      (fits : to ≤ get_or (capacities_in table) file 0) (has_lengths : HasLengths table new)
      (says : lengths_in table new ≡ set lengths file to) where
    abbrev from : ℕ
    from = file_length lengths file

    abbrev resized : List ℕ
    resized = set lengths file to

    abbrev change : Event
    change = SetLength file from to

    abbrev last_home : ℕ
    last_home = home_of table (end_page file from)

    abbrev first : ℕ
    first = first_file_home table.layout table.slots

    in_files : file < length table.files
    in_files = omega (arith, there, lengths_may.count)

    are_resized : AreLengths table resized
    are_resized = are_set table lengths file to lengths_may fits

    long_there : get_or resized file 0 ≡ to
    long_there = get_or-set_same lengths file to 0 there

    long_elsewhere : (other : ℕ) → other ≢ file → get_or resized other 0 ≡ get_or lengths other 0
    long_elsewhere other apart = get_or-set_other lengths file other to 0 apart

    -- a page of another file whose home block stays
    part_elsewhere : (owner : FilePage) → IsInFile table resized owner → owner.file ≢ file
        → new (home_of table owner) ≡ old (home_of table owner)
        → part resized owner (new (home_of table owner))
        ≡ part resized owner (cut_file before file (min from to) owner.file owner.page)
    part_elsewhere owner is other stays =
        let long = long_elsewhere owner.file other in
        ap (part resized owner) stays
        ∙ ap (λ n. take (n - 4096 * owner.page) (old (home_of table owner))) long
        ∙ parts_are owner is.there (omega (arith, is.inside, long))
        ∙ sym (ap (part resized owner) (cut_file-other before file (min from to) owner.file owner.page other)
        ∙ ap (λ n. take (n - 4096 * owner.page) (before owner.file owner.page)) long)

    memory_then : after (memory_of files) (history ++ change ∷ []) ≡ cut_file before file (min from to)
    memory_then = after_set_length history file from to (memory_of files)

    -- ---- a growth

    module _ (grows : Grows table lengths file to old new) where
      last_below : last_home < block_count table
      last_below = omega (arith, fits, grows.more, total_pages-within table.files file in_files)

      at_last : (b : ℕ) → b ≡ last_home → new b ≡ cut_to (from % 4096) (old last_home)
      at_last b is = ap new is ∙ grows.last

      module _ (owner : FilePage) (same : owner.file ≡ file) (inside : 4096 * owner.page < to) where
        abbrev bytes : List ℕ
        bytes = before owner.file owner.page

        abbrev b : ℕ
        b = home_of table owner

        place : b ≡ first_home_of table file + owner.page
        place = ap (λ f. first_home_of table f + owner.page) same

        then_long : get_or lengths owner.file 0 ≡ from
        then_long = ap (λ f. get_or lengths f 0) same

        owner_there : owner.file < length table.files
        owner_there = omega (arith, same, in_files)

        cut_is : cut_file before file (min from to) owner.file owner.page ≡ cut (from - 4096 * owner.page) bytes
        cut_is = cut_file-there before file (min from to) owner.file owner.page same
            ∙ ap (λ n. cut n bytes) (let low : min from to - 4096 * owner.page ≡ from - 4096 * owner.page =
            omega (arith, grows.more) in low)

        agree : 4096 * owner.page < from
            → take (from - 4096 * owner.page) (old b) ≡ take (from - 4096 * owner.page) bytes
        agree was = subst (λ n. take (n - 4096 * owner.page) (old b) ≡ take (n - 4096 * owner.page) bytes) then_long
            (parts_are owner owner_there (omega (arith, was, then_long)))

        grown_page : new b ≡ cut_file before file (min from to) owner.file owner.page
        grown_page = elim (cases_eq owner.page (from / 4096)) [
          | inl is ↦
              (let at : b ≡ last_home = omega (arith, place, is) in
              let left : from % 4096 ≡ from - 4096 * owner.page = omega (arith, is) in
              at_last b at
              ∙ (λ i. cut (left i) (old (sym at i)))
              ∙ ap (padded 4096) (elim (cases_lt (4096 * owner.page) from) [
                | inl was ↦ agree was
                | inr none ↦ (let zero_left : from - 4096 * owner.page ≡ 0 = omega (arith, none) in
                    ap (λ n. take n (old b)) zero_left ∙ sym (ap (λ n. take n bytes) zero_left))
              ])
              ∙ sym cut_is)
          | inr other ↦ elim (cases_lt owner.page (from / 4096)) [
            | inl earlier ↦
                (let past : 4096 ≤ from - 4096 * owner.page = omega (arith, earlier) in
                let inside_then : 4096 * owner.page < from = omega (arith, earlier) in
                let high : b < block_count table =
                omega (arith, place, fits, inside, total_pages-within table.files file in_files) in
                grows.others b (omega arith) (λ low high. omega (arith, place, low, earlier))
                ∙ sym (take_all (from - 4096 * owner.page) (old b)
                (omega (arith, past, has.blocks b (omega arith) high)))
                ∙ agree inside_then
                ∙ take_all (from - 4096 * owner.page) bytes (omega (arith, past, has.whole owner.file owner.page))
                ∙ sym (cut_is ∙ cut-whole (from - 4096 * owner.page) bytes (has.whole owner.file owner.page) past))
            | inr later ↦
                (let zero_left : from - 4096 * owner.page ≡ 0 = omega (arith, later, other) in
                grows.added b (omega arith) (omega (arith, place, later, other)) (omega (arith, place, inside))
                ∙ sym (cut_is ∙ cut-none (from - 4096 * owner.page) bytes zero_left))
          ]
        ]

      grown_parts : HasParts table resized new (cut_file before file (min from to))
      grown_parts owner own inside = elim (cases_eq owner.file file) [
        | inl same ↦
            (let long : get_or resized owner.file 0 ≡ to = ap (λ f. get_or resized f 0) same ∙ long_there in
            ap (part resized owner) (grown_page owner same (omega (arith, long, inside))))
        | inr other ↦
            (let is : IsInFile table resized owner = record { there = own; inside = inside } in
            part_elsewhere owner is other (grows.others (home_of table owner) (omega arith) (λ low high.
            other_home table resized are_resized file to in_files (omega (arith, long_there)) owner other is
            (omega (arith, low)) high)))
      ]

      grown_size : (b : ℕ) → first ≤ b → b < block_count table → length (new b) ≡ 4096
      grown_size b low high = elim (cases_eq b last_home) [
        | inl is ↦ ap length (at_last b is) ∙ length-cut (from % 4096) (old last_home)
            (omega (arith, has.blocks last_home (omega arith) last_below))
        | inr other ↦ elim (cases_lt b last_home) [
          | inl less ↦ ap length (grows.others b low (λ past _. omega (arith, past, less))) ∙ has.blocks b low high
          | inr more ↦ elim (cases_lt b (first_home_of table file + pages_of to)) [
            | inl added ↦ ap length (grows.added b low (omega (arith, more, other)) added) ∙ length-zeros 4096
            | inr past ↦ ap length (grows.others b low (λ _ added. omega (arith, past, added)))
                ∙ has.blocks b low high
          ]
        ]
      ]

    -- ---- a shrink

    module _ (shrinks : Shrinks table lengths file to old new) where
      abbrev low_end : ℕ
      low_end = first_home_of table file + pages_of to

      abbrev high_end : ℕ
      high_end = first_home_of table file + pages_of from

      abbrev cut_home : ℕ
      cut_home = home_of table (end_page file to)

      not_cut : (b : ℕ) (x : List ℕ) → b ≢ cut_home → cut_at table file to b x ≡ x
      not_cut b x other = cond-false (eqb b cut_home) (cut_to (to % 4096) x) x (ne_eqb b cut_home other)

      is_cut : (b : ℕ) (x : List ℕ) → b ≡ cut_home → cut_at table file to b x ≡ cut (to % 4096) x
      is_cut b x is = cond-true (eqb b cut_home) (cut_to (to % 4096) x) x (eq-eqb b cut_home is)

      size_cut : (b : ℕ) (x : List ℕ) → length x ≡ 4096 → length (cut_at table file to b x) ≡ 4096
      size_cut b x size = elim (cases_eq b cut_home) [
        | inl is ↦ ap length (is_cut b x is) ∙ length-cut (to % 4096) x (omega (arith, size))
        | inr other ↦ ap length (not_cut b x other) ∙ size
      ]

      module _ (owner : FilePage) (same : owner.file ≡ file) (inside : 4096 * owner.page < to) where
        abbrev left : ℕ
        left = to - 4096 * owner.page

        abbrev page_bytes : List ℕ
        page_bytes = before owner.file owner.page

        abbrev at : ℕ
        at = home_of table owner

        place_is : at ≡ first_home_of table file + owner.page
        place_is = ap (λ f. first_home_of table f + owner.page) same

        was_long : get_or lengths owner.file 0 ≡ from
        was_long = ap (λ f. get_or lengths f 0) same

        is_there : owner.file < length table.files
        is_there = omega (arith, same, in_files)

        was_inside : IsInFile table lengths owner
        was_inside = record { there = is_there; inside = omega (arith, inside, shrinks.less, was_long) }

        size_there : length (old at) ≡ 4096
        size_there = has.blocks at (omega arith) (home_below table lengths lengths_may owner was_inside)

        agreed : take left (old at) ≡ take left page_bytes
        agreed = take_fewer left (from - 4096 * owner.page) (old at) page_bytes (omega (arith, shrinks.less))
            (subst (λ n. take (n - 4096 * owner.page) (old at) ≡ take (n - 4096 * owner.page) page_bytes) was_long
            (parts_are owner is_there was_inside.inside))

        kept_part : take left (new at) ≡ take left (old at)
        kept_part = elim (shrinks.kept at (omega arith)
            (outside_below low_end high_end at (omega (arith, place_is, inside)))) [
              | inl same_bytes ↦ ap (take left) same_bytes
              | inr cut_bytes ↦ elim (cases_eq at cut_home) [
                | inl is ↦
                    (let n : to % 4096 ≡ left = omega (arith, place_is, is, inside) in
                    ap (take left) (cut_bytes ∙ is_cut at (old at) is ∙ ap (λ m. cut m (old at)) n)
                    ∙ take-cut left (old at) size_there)
                | inr other ↦ ap (take left) (cut_bytes ∙ not_cut at (old at) other)
              ]
            ]

        shrunk_page : take left (new at) ≡ take left (cut_file before file (min from to) owner.file owner.page)
        shrunk_page = kept_part ∙ agreed
            ∙ sym (ap (take left) (cut_file-there before file (min from to) owner.file owner.page same
            ∙ ap (λ n. cut n page_bytes) (let low : min from to - 4096 * owner.page ≡ left =
            omega (arith, shrinks.less) in low))
            ∙ take-cut left page_bytes (has.whole owner.file owner.page))

      shrunk_parts : HasParts table resized new (cut_file before file (min from to))
      shrunk_parts owner own inside = elim (cases_eq owner.file file) [
        | inl same ↦
            (let long : get_or resized owner.file 0 ≡ to = ap (λ f. get_or resized f 0) same ∙ long_there in
            subst (λ n. take (n - 4096 * owner.page) (new (home_of table owner))
            ≡ take (n - 4096 * owner.page) (cut_file before file (min from to) owner.file owner.page)) (sym long)
            (shrunk_page owner same (omega (arith, long, inside))))
        | inr other ↦
            (let long = long_elsewhere owner.file other in
            let b = home_of table owner in
            let is : IsInFile table lengths owner = record { there = own; inside = omega (arith, inside, long) } in
            let out = other_home table lengths lengths_may file from in_files (omega arith) owner other is in
            let outside : stays_in table lengths file to b ≡ true =
            elim (cases_lt b low_end) [
              | inl less ↦ outside_below low_end high_end b less
              | inr more ↦ elim (cases_lt b high_end) [
                | inl inner ↦ absurd (out (omega (arith, more)) inner)
                | inr past ↦ outside_above low_end high_end b (omega (arith, past))
              ]
            ] in
            let not_last : b ≢ cut_home = λ e. out (omega (arith, e)) (omega (arith, e, shrinks.less)) in
            part_elsewhere owner (record { there = own; inside = inside }) other
            (elim (shrinks.kept b (omega arith) outside) [
              | inl as_it_was ↦ as_it_was
              | inr cut_bytes ↦ cut_bytes ∙ not_cut b (old b) not_last
            ]))
      ]

      shrunk_size : (b : ℕ) → first ≤ b → b < block_count table → length (new b) ≡ 4096
      shrunk_size b low high = elim (cases_Bool (stays_in table lengths file to b)) [
        | inl outside ↦ elim (shrinks.kept b low outside) [
          | inl same ↦ ap length same ∙ has.blocks b low high
          | inr cut_bytes ↦ ap length cut_bytes ∙ size_cut b (old b) (has.blocks b low high)
        ]
        | inr gone ↦ shrinks.past b low high gone
      ]

    -- ---- either

    pub lengths_resized : lengths_after (lengths_of files)
        (history ++ SetLength file (file_length lengths file) to ∷ []) ≡ set lengths file to
    lengths_resized = lengths_set_length history file from to (lengths_of files)
        ∙ ap (λ (l : List ℕ). set l file to) said

    pub resized_has : Grows table lengths file to old new ⊎ Shrinks table lengths file to old new
        → HaveFiles files table new (history ++ SetLength file (file_length lengths file) to ∷ [])
    resized_has changes = record {
      whole = λ f page. ap (λ (m : Memory). length (m f page)) memory_then
          ∙ length-cut_file before file (min from to) f page (has.whole f page);
      blocks = λ b low high. elim changes [
        | inl grows ↦ grown_size grows b low high
        | inr shrinks ↦ shrunk_size shrinks b low high
      ];
      fits = has_lengths;
      same_lengths = says ∙ sym lengths_resized;
      parts = subst (λ (m : Memory). HasParts table (lengths_after (lengths_of files) (history ++ change ∷ [])) new m)
          (sym memory_then)
          (subst (λ (l : List ℕ). HasParts table l new (cut_file before file (min from to))) (sym lengths_resized)
          (elim changes [ inl grows ↦ grown_parts grows | inr shrinks ↦ shrunk_parts shrinks ]));
    }
