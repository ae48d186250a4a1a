-- What copying files from a volume to another device leaves, piece by piece and file by file.
use Rattle.std.proofs.Common.{◌≡◌, ◌≤◌, ◌<◌, ◌⊎◌, inl, inr, ℕ, ◌+◌, ◌-◌, ◌*◌, ◌/◌, ◌%◌, List}
use Rattle.std.proofs.Common.{[], ◌++◌, length, take, drop, get_or, slice_index, slice_range, Result, Ok, Err, refl}
use Rattle.std.proofs.Common.{sym, ◌∙◌, ap, subst, arith, append_assoc, length-append, length-take}
use Rattle.std.specs.Prelude.{is_ok, IfErr}
use Rattle.std.proofs.Math.Seq.{take-add}
use Rattle.std.proofs.lemmas.Bool.{cases_lt, cases_eq}
use Rattle.std.proofs.lemmas.List.{take_at, drop_at, drop-drop, take-take, append-nil, take-append-drop}
use Rattle.device.specs.Device.{written, Torn}
use Rattle.device.specs.Did.{Did}
use Rattle.device.specs.Work.{WriteAt}
use Rattle.device.specs.declared.device.Device.{Ghosts}
use Rattle.device.proofs.Moments.{leaves_at_start, leaves_weaker, leaves_on}
use Rattle.device.proofs.Ranges.{length-written, written_before, written_after, part_written}
use Rattle.device.proofs.Ranges.{torn_by_write, torn_none, torn_twice, torn_wider, torn_after, torn_from_none}
use Rattle.page_entry.specs.declared.refusal.Refusal.{Refusal}
use Rattle.page_entry.specs.declared.refusal.Refusal.TheVariants.{Device}
use Rattle.volume_codec.specs.Files.{TableFile}
use Rattle.volume_codec.specs.Layout.{block_at}
use Rattle.volume_codec.specs.Lengths.{AreLengths}
use Rattle.volume_codec.specs.Super.{SuperValue, total_pages}
use Rattle.volume_codec.specs.Text.{zeros}
use Rattle.volume_codec.proofs.Blocks.{get_or-block_at}
use Rattle.volume_codec.proofs.Places.{total_pages-take_le}
use Rattle.recovery.specs.Counts.{IsAccounted}
use Rattle.recovery.specs.Migration.{AreAccounted, Copies, home_at, AreCopied}
use Rattle.recovery.specs.Opening.{IsUnwritten}
use Rattle.recovery.specs.Volume.{VolumeState, files_of}
use Rattle.recovery.proofs.BlockRanges.{range-take}
use Rattle.recovery.proofs.Erased.{get_or-zeros}
use Rattle.recovery.proofs.FileBytes.{file_end}
use Rattle.recovery.proofs.Kept.{kept_none, kept_ok, kept_then, kept_err, unwritten_then}
use Rattle.recovery.proofs.Writing.{did_kept, write_torn}

-- a write after another, where that ends
pub written_append : (s : List ℕ) (to mid : ℕ) (xs ys : List ℕ) → mid ≡ to + length xs → to + length xs ≤ length s
    → written (written s to xs) mid ys ≡ written s to (xs ++ ys)
written_append s to mid xs ys place room =
    let front = take to s ++ xs in
    let whole : length front ≡ mid = omega (arith, length-append (take to s) xs, length-take to s) in
    let first : take mid (written s to xs) ≡ front = take_at front (drop (to + length xs) s) mid whole in
    let end : to + length xs + length ys ≡ to + length (xs ++ ys) = omega (arith, length-append xs ys) in
    let rest : drop (mid + length ys) (written s to xs) ≡ drop (to + length (xs ++ ys)) s =
    sym (drop-drop (length ys) mid (written s to xs))
    ∙ ap (drop (length ys)) (drop_at front (drop (to + length xs) s) mid whole)
    ∙ drop-drop (length ys) (to + length xs) s
    ∙ ap (λ k. drop k s) end in
    ap (λ (l : List ℕ). l ++ ys ++ drop (mid + length ys) (written s to xs)) first
    ∙ ap (λ (l : List ℕ). front ++ ys ++ l) rest
    ∙ ap (λ (l : List ℕ). l ++ drop (to + length (xs ++ ys)) s) (append_assoc (take to s) xs ys)

pub written_nil : (s : List ℕ) (to : ℕ) → written s to [] ≡ s
written_nil s to =
    let end : to + 0 ≡ to = omega arith in
    ap (λ (l : List ℕ). l ++ drop (to + 0) s) (append-nil (take to s))
    ∙ ap (λ k. take to s ++ drop k s) end ∙ take-append-drop to s

-- one piece more
pub piece_more : (s mid new bytes : List ℕ) (to at n : ℕ) → mid ≡ written s to (take at bytes)
    → new ≡ written mid (to + at) (slice_range bytes at (at + n)) → at + n ≤ length bytes → to + length bytes ≤ length s
    → new ≡ written s to (take (at + n) bytes)
piece_more s mid new bytes to at n was is fits room =
    let part : at + n - at ≡ n = omega arith in
    let size : length (take at bytes) ≡ at = omega (arith, length-take at bytes) in
    is ∙ ap (λ k. written mid (to + at) (take k (drop at bytes))) part
    ∙ ap (λ (l : List ℕ). written l (to + at) (take n (drop at bytes))) was
    ∙ written_append s to (to + at) (take at bytes) (take n (drop at bytes)) (omega (arith, size))
    (omega (arith, size, room))
    ∙ ap (written s to) (sym (take-add at n bytes))

-- no call yet
pub unwritten_none : {D : Type 0} {disk : Ghosts D} {device : D}
    → ((c : List ℕ) → disk.left_since device (disk.moment device) c → disk.may_leave device c)
    → IsUnwritten disk device device
unwritten_none now = record { same = refl; left = λ c may. may; time = leaves_at_start now }

-- calls of two devices, one after another
module _ {D E : Type 0} {disk : Ghosts D} {other : Ghosts E} where
  pub accounts_both : {X : Type 0} {old new : D} {before after : E} {x : X}
      → AreAccounted disk other old before (Ok x) new after
      → IsAccounted {X = Unit {0}} disk old (Ok tt) new × IsAccounted {X = Unit {0}} other before (Ok tt) after
  accounts_both (inl a) = (kept_ok tt a.0, a.1)
  accounts_both (inr a) = (a.0, kept_ok tt a.1)

  pub accounts_then : {X Y : Type 0} {old mid new : D} {before between after : E} {x : X} {result : Result Y Refusal}
      → AreAccounted disk other old before (Ok x) mid between → AreAccounted disk other mid between result new after
      → AreAccounted disk other old before result new after
  accounts_then first (inl second) = let a = accounts_both first in inl (kept_then a.0 second.0, kept_then a.1 second.1)
  accounts_then first (inr second) = let a = accounts_both first in inr (kept_then a.0 second.0, kept_then a.1 second.1)

  pub accounts_err : {X Y : Type 0} {old new : D} {before after : E} {e : Refusal} (result : Result Y Refusal)
      → result ≡ Err e → AreAccounted {X = X} disk other old before (Err e) new after
      → AreAccounted disk other old before result new after
  accounts_err result is (inl a) = inl (kept_err result is a.0, a.1)
  accounts_err result is (inr a) = inr (a.0, kept_err result is a.1)

  -- each is as honest and as long
  accounts_cases : {X : Type 0} {old new : D} {before after : E} {result : Result X Refusal}
      → AreAccounted disk other old before result new after
      → (disk.is_honest old → disk.is_honest new) × (other.is_honest before → other.is_honest after)
      × (length (other.seen after) ≡ length (other.seen before))
  accounts_cases (inl a) = (a.0.honest.1, a.1.honest.1, a.1.len)
  accounts_cases (inr a) = (a.0.honest.1, a.1.honest.1, a.1.len)

  module _ {at n : ℕ} {old : VolumeState D} {before : E} where
    -- no call yet
    pub copies_none : ((c : List ℕ) → disk.left_since old.device (disk.moment old.device) c
        → disk.may_leave old.device c)
        → ((c : List ℕ) → other.left_since before (other.moment before) c → other.may_leave before c)
        → Copies {X = Unit {0}} disk other at n old before (Ok tt) old before
    copies_none now there = record {
      table = refl;
      lengths = refl;
      unwritten = λ honest. unwritten_none now;
      torn = λ honest. torn_none at n (other.seen before);
      left = λ c may. torn_from_none at n may;
      time = leaves_at_start (λ c since. torn_from_none at n (there c since));
      accounts = inl (kept_none disk old.device, kept_none other before);
    }

    -- a read alone
    pub copies_read : {X : Type 0} {new : VolumeState D} {result : Result X Refusal} → new.table ≡ old.table
        → new.lengths ≡ old.lengths → (disk.is_honest old.device → IsUnwritten disk old.device new.device)
        → IsAccounted disk old.device result new.device
        → ((c : List ℕ) → other.left_since before (other.moment before) c → other.may_leave before c)
        → Copies disk other at n old before result new before
    copies_read table lengths unwritten kept there = record {
      table = table;
      lengths = lengths;
      unwritten = unwritten;
      torn = λ honest. torn_none at n (other.seen before);
      left = λ c may. torn_from_none at n may;
      time = leaves_at_start (λ c since. torn_from_none at n (there c since));
      accounts = inl (kept, kept_none other before);
    }

    -- a read and a write
    pub copies_piece : {X Y : Type 0} {new : VolumeState D} {after : E} {x : X} (bytes : List ℕ)
        (result : Result Y Refusal) → Copies disk other at n old before (Ok x) new before → length bytes ≡ n
        → at + n ≤ length (other.seen before)
        → IfErr result (λ refusal. refusal ≡ Device) → Did other before (WriteAt at bytes) (is_ok result) after
        → Copies disk other at n old before result new after
    copies_piece bytes result read size room fault did = record {
      table = read.table;
      lengths = read.lengths;
      unwritten = read.unwritten;
      torn = λ honest. torn_wider (write_torn at bytes (is_ok result) (omega (arith, size, room)) did honest) at n
          (omega arith) (omega (arith, size));
      left = λ c may. let torn = did.left c may in
          (torn.0, torn.1, torn_wider torn.2 at n (omega arith) (omega (arith, size)));
      time = leaves_weaker did.time
          (λ c torn. (torn.0, torn.1, torn_wider torn.2 at n (omega arith) (omega (arith, size))));
      accounts = inr ((accounts_both read.accounts).0, did_kept result fault did);
    }

    pub copies_then : {X Y : Type 0} {mid new : VolumeState D} {between after : E} {x : X} {result : Result Y Refusal}
        → Copies disk other at n old before (Ok x) mid between → Copies disk other at n mid between result new after
        → Copies disk other at n old before result new after
    copies_then first second =
        let kept = accounts_both first.accounts in
        record {
          table = second.table ∙ first.table;
          lengths = second.lengths ∙ first.lengths;
          unwritten = λ honest. unwritten_then (first.unwritten honest) (second.unwritten (kept.0.honest.1 honest));
          torn = λ honest. torn_twice (first.torn honest) (second.torn (kept.1.honest.1 honest));
          left = λ c may. let last = second.left c may in let torn = first.left last.0 last.1 in
              (torn.0, torn.1, torn_twice torn.2 last.2);
          time = leaves_on first.time second.time
              (λ c last. let torn = first.left last.0 last.1 in (torn.0, torn.1, torn_twice torn.2 last.2));
          accounts = accounts_then first.accounts second.accounts;
        }

    -- as part of a wider range
    pub copies_wider : {X : Type 0} {new : VolumeState D} {after : E} {result : Result X Refusal}
        → Copies disk other at n old before result new after → (from size : ℕ) → from ≤ at → at + n ≤ from + size
        → Copies disk other from size old before result new after
    copies_wider copies from size low high = record {
      table = copies.table;
      lengths = copies.lengths;
      unwritten = copies.unwritten;
      torn = λ honest. torn_wider (copies.torn honest) from size low high;
      left = λ c may. let torn = copies.left c may in (torn.0, torn.1, torn_wider torn.2 from size low high);
      time = leaves_weaker copies.time (λ c torn. (torn.0, torn.1, torn_wider torn.2 from size low high));
      accounts = copies.accounts;
    }

    -- a call failed as another did
    pub copies_err : {X Y : Type 0} {new : VolumeState D} {after : E} {e : Refusal} (result : Result Y Refusal)
        → result ≡ Err e → Copies {X = X} disk other at n old before (Err e) new after
        → Copies disk other at n old before result new after
    copies_err result is copies = record {
      table = copies.table;
      lengths = copies.lengths;
      unwritten = copies.unwritten;
      torn = copies.torn;
      left = copies.left;
      time = copies.time;
      accounts = accounts_err result is copies.accounts;
    }

    -- the files stay
    pub files_stay : {X : Type 0} {new : VolumeState D} {after : E} {result : Result X Refusal}
        → Copies disk other at n old before result new after → disk.is_honest old.device
        → files_of new.table (disk.seen new.device) ≡ files_of old.table (disk.seen old.device)
    files_stay {X} {new} copies honest = ap (λ (t : SuperValue). files_of t (disk.seen new.device)) copies.table
        ∙ ap (files_of old.table) (copies.unwritten honest).same

    pub copies_honest : {X : Type 0} {new : VolumeState D} {after : E} {result : Result X Refusal}
        → Copies disk other at n old before result new after
        → (disk.is_honest old.device → disk.is_honest new.device) × (other.is_honest before → other.is_honest after)
        × (length (other.seen after) ≡ length (other.seen before))
    copies_honest copies = accounts_cases copies.accounts

-- files lie one after another, from any block on
pub home_at-le : (first : ℕ) (files : List TableFile) (i : ℕ) → home_at first files i ≤ first + total_pages files
home_at-le first files i = omega (arith, total_pages-take_le files i)

home_at-mono : (first : ℕ) (files : List TableFile) (i j : ℕ) → i ≤ j → home_at first files i ≤ home_at first files j
home_at-mono first files i j le =
    omega (arith, total_pages-take_le (take j files) i, ap total_pages (take-take i j files le))

pub home_at-end : (first : ℕ) (table : SuperValue) (lengths : List ℕ) → AreLengths table lengths → (file : ℕ)
    → file < length table.files
    → 4096 * home_at first table.files file + slice_index lengths file ≤ 4096 * home_at first table.files (file + 1)
home_at-end first table lengths are file there = omega (arith, file_end table lengths are file there)

-- a part beside a torn range stays
part_before : {at n : ℕ} {old new : List ℕ} → Torn at n old new → (from size : ℕ) → from + size ≤ at
    → take size (drop from new) ≡ take size (drop from old)
part_before {at} {n} {old} {new} torn from size fits =
    sym (range-take from size at new fits) ∙ ap (λ (l : List ℕ). take size (drop from l)) torn.before
    ∙ range-take from size at old fits

part_after : {at n : ℕ} {old new : List ℕ} → Torn at n old new → (from size : ℕ) → at + n ≤ from
    → take size (drop from new) ≡ take size (drop from old)
part_after {at} {n} {old} {new} torn from size past =
    let place : at + n + (from - (at + n)) ≡ from = omega (arith, past) in
    let rest : drop from new ≡ drop from old =
    ap (λ k. drop k new) (sym place) ∙ sym (drop-drop (from - (at + n)) (at + n) new)
    ∙ ap (drop (from - (at + n))) torn.after
    ∙ drop-drop (from - (at + n)) (at + n) old ∙ ap (λ k. drop k old) place in
    ap (take size) rest

-- none yet
pub copied_none : (first : ℕ) (files : List TableFile) (lengths : List ℕ) (bytes : ℕ → List ℕ) (start : List ℕ)
    → AreCopied first files lengths bytes 0 start start
copied_none first files lengths bytes start =
    record { same_length = refl; each = λ file h. absurd (omega arith); others = λ i out. refl }

-- the files are those of another table, whose blocks begin there
module _ {first home : ℕ} {files others : List TableFile} (place : first ≡ home) (same : files ≡ others) where
  pub copied_as : {lengths start now : List ℕ} {bytes : ℕ → List ℕ}
      → AreCopied first files lengths bytes (length files) start now
      → AreCopied home others lengths bytes (length others) start now
  copied_as {lengths} {start} {now} {bytes} copied =
      let P : ℕ → Type 0 = λ k. AreCopied k files lengths bytes (length files) start now in
      let Q : List TableFile → Type 0 = λ fs. AreCopied home fs lengths bytes (length fs) start now in
      subst Q same (subst P place copied)

  pub copies_as : {D E X : Type 0} {disk : Ghosts D} {other : Ghosts E} {old new : VolumeState D} {before after : E}
      {result : Result X Refusal}
      → Copies disk other (4096 * first) (4096 * total_pages files) old before result new after
      → Copies disk other (4096 * home) (4096 * total_pages others) old before result new after
  copies_as copies =
      copies_wider copies (4096 * home) (4096 * total_pages others) (omega (arith, place))
      (omega (arith, place, ap total_pages same))

-- one file more
pub copied_more : (first : ℕ) (table : SuperValue) (lengths : List ℕ) (bytes : ℕ → List ℕ) (k at : ℕ)
    (start mid new : List ℕ) → AreLengths table lengths → k < length table.files
    → AreCopied first table.files lengths bytes k start mid → at ≡ 4096 * home_at first table.files k
    → length (bytes k) ≡ slice_index lengths k → at + slice_index lengths k ≤ length mid
    → new ≡ written mid at (bytes k) → AreCopied first table.files lengths bytes (k + 1) start new
copied_more first table lengths bytes k at start mid new are there copied place size room is = record {
  same_length = ap length is ∙ length-written mid at (bytes k) fits ∙ copied.same_length;
  each = λ file h. elim (cases_eq file k) [
    | inl same ↦ subst P (sym same) here
    | inr other ↦
        let ends = home_at-end first table lengths are file (omega (arith, h, other, there)) in
        let next = home_at-mono first table.files (file + 1) k (omega (arith, h, other)) in
        part_before torn (4096 * home_at first table.files file) (slice_index lengths file)
        (omega (arith, ends, next, place))
        ∙ copied.each file (omega (arith, h, other))
  ];
  others = λ i out. elim (out k (omega arith)) [
    | inl before ↦ byte i ∙ written_before mid at (bytes k) i fits (omega (arith, before, place))
        ∙ copied.others i (λ file h. out file (omega (arith, h)))
    | inr past ↦ byte i ∙ written_after mid at (bytes k) i fits (omega (arith, past, place, size))
        ∙ copied.others i (λ file h. out file (omega (arith, h)))
  ];
}
  where
    fits : at + length (bytes k) ≤ length mid
    fits = omega (arith, size, room)

    torn : Torn at (length (bytes k)) mid new
    torn = let Q : List ℕ → Type 0 = λ l. Torn at (length (bytes k)) mid l in
        subst Q (sym is) (torn_by_write mid at (bytes k) fits)

    byte : (i : ℕ) → get_or new i 0 ≡ get_or (written mid at (bytes k)) i 0
    byte i = ap (λ (l : List ℕ). get_or l i 0) is

    P : ℕ → Type 0
    P file = take (slice_index lengths file) (drop (4096 * home_at first table.files file) new) ≡ bytes file

    here : P k
    here =
        let part : slice_index lengths k ≡ at + length (bytes k) - at = omega (arith, size) in
        ap (λ n. take n (drop (4096 * home_at first table.files k) new)) part
        ∙ ap (λ p. take (at + length (bytes k) - at) (drop p new)) (sym place)
        ∙ ap (λ (l : List ℕ). slice_range l at (at + length (bytes k))) is
        ∙ part_written mid at (bytes k) fits

-- a byte of a block of zeros
zero_byte : (bytes : List ℕ) (i : ℕ) → block_at bytes (i / 4096) ≡ zeros 4096 → get_or bytes i 0 ≡ 0
zero_byte bytes i blank =
    let place : 4096 * (i / 4096) + i % 4096 ≡ i = omega arith in
    ap (λ k. get_or bytes k 0) (sym place) ∙ sym (get_or-block_at bytes (i / 4096) (i % 4096) 0 (omega arith))
    ∙ ap (λ (block : List ℕ). get_or block (i % 4096) 0) blank ∙ get_or-zeros 4096 (i % 4096)

-- all of them, and then block 0 was torn
module _ (first : ℕ) (some : 1 ≤ first) (table : SuperValue) (lengths : List ℕ) (bytes : ℕ → List ℕ)
    (laid copied final : List ℕ) (each : AreCopied first table.files lengths bytes (length table.files) laid copied)
    (torn : Torn 0 4096 copied final) where
  -- each file's bytes are there
  pub copied_part : (file : ℕ) → file < length table.files
      → take (slice_index lengths file) (drop (4096 * home_at first table.files file) final) ≡ bytes file
  copied_part file there =
      part_after torn (4096 * home_at first table.files file) (slice_index lengths file) (omega (arith, some))
      ∙ each.each file there

  -- and zeros past them, where the blocks were zeros
  pub copied_tail : AreLengths table lengths
      → ((b : ℕ) → first ≤ b → b < first + total_pages table.files → block_at laid b ≡ zeros 4096) → (file i : ℕ)
      → file < length table.files → 4096 * home_at first table.files file + slice_index lengths file ≤ i
      → i < 4096 * home_at first table.files (file + 1) → slice_index final i ≡ 0
  copied_tail are blank file i there low high =
      torn_after torn i (omega (arith, some, low)) ∙ each.others i out
      ∙ zero_byte laid i
      (blank (i / 4096) (omega (arith, low)) (omega (arith, high, home_at-le first table.files (file + 1))))
    where
      out : (other : ℕ) → other < length table.files → (i < 4096 * home_at first table.files other)
          ⊎ (4096 * home_at first table.files other + slice_index lengths other ≤ i)
      out other h = elim (cases_lt other file) [
        | inl before ↦ inr (omega (
          arith,
          home_at-end first table lengths are other h,
          home_at-mono first table.files (other + 1) file (omega (arith, before)),
          low,
        ))
        | inr from ↦ elim (cases_eq other file) [
          | inl same ↦ inr (subst (λ k. 4096 * home_at first table.files k + slice_index lengths k ≤ i) (sym same) low)
          | inr apart ↦ inl (omega (
            arith,
            high,
            home_at-mono first table.files (file + 1) other (omega (arith, from, apart)),
          ))
        ]
      ]
