-- What is on a disk as it first syncs.
use Rattle.std.proofs.Common.{◌≡◌, ◌<◌, ◌≤◌, ⊎_elim, ℕ, zero, suc, ◌+◌, Bool, true, false, List, []}
use Rattle.std.proofs.Common.{◌∷◌, ◌++◌, length, drop, get_or, refl, sym, ◌∙◌, ap, subst, arith}
use Rattle.std.proofs.lemmas.Bool.{cases_lt}
use Rattle.std.proofs.lemmas.Bool.Decides.{nat_tests}
use Rattle.std.specs.Prelude.{◌&&◌, ◌||◌, nat_eq, nat_le, nat_lt, if◌then◌else◌}
use Rattle.device.specs.Device.{written}
use Rattle.device.specs.Memory.{DiskChange, content_after, is_unsynced}
use Rattle.device.specs.Memory.DiskChange.{write, sync}
use Rattle.device.proofs.Public.{length-written, written_before, written_after}
use Rattle.least_syncs.specs.Commit.{AreWithin, syncs_of, before_sync}

not_zero : (n : ℕ) → nat_eq (suc n) 0 ≡ false
not_zero n = grind (arith, nat_tests)

-- what holds of both branches holds of the one that is taken
either : (P : List DiskChange → Type 0) (n : ℕ) (x y : List DiskChange) → (n ≡ 0 → P x) → P y
    → P (if nat_eq n 0 then x else y)
either P zero x y here there = here refl
either P (suc n) x y here there = subst (λ b. P (if b then x else y)) (sym (not_zero n)) there

within_older : (n : ℕ) (change : DiskChange) (older : List DiskChange) → AreWithin n (change ∷ older)
    → AreWithin n older
within_older n (write at bytes) older within = within.1
within_older n sync older within = within

pub within_early : (n : ℕ) (calls past : List DiskChange) → AreWithin n (calls ++ past)
    → AreWithin n (before_sync calls ++ past)
within_early n [] past within = within
within_early n (change ∷ older) past within =
    either (λ l. AreWithin n (l ++ past)) (syncs_of (change ∷ older)) (change ∷ older) (before_sync older)
    (λ none. within)
    (within_early n older past (within_older n change (older ++ past) within))

pub within_past : (n : ℕ) (calls past : List DiskChange) → AreWithin n (calls ++ past) → AreWithin n past
within_past n [] past within = within
within_past n (change ∷ older) past within = within_past n older past (within_older n change (older ++ past) within)

pub no_syncs : (changes : List DiskChange) → syncs_of (before_sync changes) ≡ 0
no_syncs [] = refl
no_syncs (change ∷ older) =
    either (λ l. syncs_of l ≡ 0) (syncs_of (change ∷ older)) (change ∷ older) (before_sync older) (λ none. none)
    (no_syncs older)

-- it is the disk's record at an earlier moment
pub earlier : (calls past : List DiskChange)
    → (newer : ℕ) × (newer ≤ length calls) × (drop newer (calls ++ past) ≡ before_sync calls ++ past)
earlier [] past = (0, omega arith, refl)
earlier (change ∷ older) past =
    let before = earlier older past in
    either (λ l. (newer : ℕ) × (newer ≤ length (change ∷ older)) × (drop newer (change ∷ older ++ past) ≡ l ++ past))
    (syncs_of (change ∷ older)) (change ∷ older) (before_sync older)
    (λ none. (0, omega arith, refl)) (suc before.0, omega (arith, before.1), before.2)

pub all_early : (changes : List DiskChange) → syncs_of changes ≡ 0 → before_sync changes ≡ changes
all_early [] none = refl
all_early (change ∷ older) none = ap (λ n. if nat_eq n 0 then change ∷ older else before_sync older) none

pub length_content : (first : List ℕ) (changes : List DiskChange) → AreWithin (length first) changes
    → length (content_after first changes) ≡ length first
length_content first [] within = refl
length_content first (write at bytes ∷ older) within =
    let before = length_content first older within.1 in
    length-written (content_after first older) at bytes (omega (arith, within.0, before)) ∙ before
length_content first (sync ∷ older) within = length_content first older within

pub not_older : (here before : Bool) → (here || before) ≡ false → before ≡ false
not_older false before none = none
not_older true before none = cc (none)

inside : (at n i : ℕ) (before : Bool) → at ≤ i → i < at + n → ((nat_le at i && nat_lt i (at + n)) || before) ≡ true
inside at n i before le lt = grind (arith, nat_tests)

-- a place outside a write keeps its byte
unreached : (old : List ℕ) (at : ℕ) (bytes : List ℕ) (i : ℕ) (before : Bool)
    → at + length bytes ≤ length old → ((nat_le at i && nat_lt i (at + length bytes)) || before) ≡ false
    → get_or (written old at bytes) i 0 ≡ get_or old i 0
unreached old at bytes i before fits none = ⊎_elim
    (λ (lt : i < at). written_before old at bytes i fits lt)
    (λ (le : at ≤ i). ⊎_elim
    (λ (lt : i < at + length bytes). cc (inside at (length bytes) i before le lt, none))
    (λ (past : at + length bytes ≤ i). written_after old at bytes i fits past)
    (cases_lt i (at + length bytes)))
    (cases_lt i at)

-- where a place isn't unsynced, the newest write leaves its byte, and it wasn't unsynced before
left_out : (first : List ℕ) (at : ℕ) (bytes : List ℕ) (older : List DiskChange) (i : ℕ)
    → AreWithin (length first) (write at bytes ∷ older) → is_unsynced (write at bytes ∷ older) i ≡ false
    → (get_or (content_after first (write at bytes ∷ older)) i 0 ≡ get_or (content_after first older) i 0)
    × (is_unsynced older i ≡ false)
left_out first at bytes older i within unwritten =
    let old = content_after first older in
    let before = is_unsynced older i in
    let fits : at + length bytes ≤ length old = omega (arith, within.0, length_content first older within.1) in (
      unreached old at bytes i before fits unwritten,
      not_older (nat_le at i && nat_lt i (at + length bytes)) before unwritten,
    )

-- a place that isn't unsynced keeps, without a sync, the byte that it had before
pub as_before : (first : List ℕ) (calls past : List DiskChange) (i : ℕ)
    → AreWithin (length first) (calls ++ past) → syncs_of calls ≡ 0 → is_unsynced (calls ++ past) i ≡ false
    → get_or (content_after first (calls ++ past)) i 0 ≡ get_or (content_after first past) i 0
as_before first [] past i within none unwritten = refl
as_before first (write at bytes ∷ older) past i within none unwritten =
    let out = left_out first at bytes (older ++ past) i within unwritten in
    out.0 ∙ as_before first older past i within.1 none out.1
as_before first (sync ∷ older) past i within none unwritten = absurd (omega (arith, none))

-- with one sync at most, each place has what it had at the sync, unless it was written since
pub as_at_sync : (first : List ℕ) (calls past : List DiskChange) (i : ℕ)
    → AreWithin (length first) (calls ++ past) → syncs_of calls ≤ 1 → is_unsynced (calls ++ past) i ≡ false
    → get_or (content_after first (before_sync calls ++ past)) i 0 ≡ get_or (content_after first (calls ++ past)) i 0
as_at_sync first [] past i within few unwritten = refl
as_at_sync first (write at bytes ∷ older) past i within few unwritten =
    let now = write at bytes ∷ older in
    let out = left_out first at bytes (older ++ past) i within unwritten in
    either (λ l. get_or (content_after first (l ++ past)) i 0 ≡ get_or (content_after first (now ++ past)) i 0)
    (syncs_of older) now (before_sync older) (λ none. refl)
    (as_at_sync first older past i within.1 few out.1 ∙ sym out.0)
as_at_sync first (sync ∷ older) past i within few unwritten =
    either (λ l. get_or (content_after first (l ++ past)) i 0 ≡ get_or (content_after first (older ++ past)) i 0)
    (syncs_of older + 1) (sync ∷ older) (before_sync older) (λ none. refl)
    (ap (λ (l : List DiskChange). get_or (content_after first (l ++ past)) i 0) (all_early older (omega (arith, few))))
