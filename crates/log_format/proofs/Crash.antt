-- What a crash leaves of a new volume with a log: while it is written behind block 0, and as block 0 is written.
use Rattle.std.proofs.Common.{◌≡◌, ◌≤◌, inl, inr, ℕ, ◌+◌, ◌-◌, ◌*◌, Bool, true, false}
use Rattle.std.proofs.Common.{List, [], ◌∷◌, length, take, sym, ◌∙◌, ap, subst, refl, arith}
use Rattle.std.proofs.lemmas.List.{take-take}
use Rattle.device.specs.Device.{Torn, TornFrom, Only, LeavesOnly}
use Rattle.device.specs.Did.{Did}
use Rattle.device.specs.Work.{WriteAt, Sync}
use Rattle.device.specs.declared.device.Device.{Ghosts}
use Rattle.device.proofs.Public.{leaves_weaker, leaves_then, torn_after, torn_twice, torn_from_none}
use Rattle.device.proofs.Ranges.{torn_wider}
use Rattle.volume_codec.specs.Lengths.{lengths_text}
use Rattle.new_volume.specs.Formatting.{IsZero, DidAll}
use Rattle.log_codec.specs.Log.{IsLog, first_log_home}
use Rattle.log_codec.specs.Start.{start_text}
use Rattle.log_volume.specs.Super.{LogSuperValue, log_of, log_super_text}
use Rattle.log_format.specs.Fresh.{IsFreshBehind, first_log_start}
use Rattle.log_format.specs.Formatting.{log_works, laying_works, finishing_works, IsPartlyMade}
use Rattle.log_format.proofs.Laid.{AreLaidBlocks, laid_on, laid_is, laid_fresh, same_behind}
use Rattle.log_format.proofs.Made.{AreBlocks, laid_blocks}
use Rattle.log_format.proofs.Works.{did_split}

-- one of these lists, with other bytes in the blocks of a volume but block 0
abbrev pub IsBehind : ℕ → (List ℕ → Type 0) → List ℕ → Type 0
IsBehind blocks lists c = TornFrom 4096 (4096 * blocks - 4096) lists c

-- and with the same block 0
pub partly_behind : (blocks : ℕ) (made lists : List ℕ → Type 0) (c : List ℕ) → 1 ≤ blocks → IsBehind blocks lists c
    → IsPartlyMade blocks made lists c
partly_behind blocks made lists c some torn = record {
  before = torn.0;
  left = torn.1;
  within = torn_wider torn.2 0 (4096 * blocks) (omega arith) (omega (arith, some));
  first = inl (sym (take-take 4096 4096 c (omega arith)) ∙ ap (take 4096) torn.2.before
      ∙ take-take 4096 4096 torn.0 (omega arith));
}

-- block 0 is torn once the rest is made
partly_torn : (blocks : ℕ) (made lists : List ℕ → Type 0) (l c : List ℕ) → 1 ≤ blocks → IsBehind blocks lists l
    → Torn 0 4096 l c → made c → IsPartlyMade blocks made lists c
partly_torn blocks made lists l c some was torn rest = record {
  before = was.0;
  left = was.1;
  within = torn_twice (torn_wider was.2 0 (4096 * blocks) (omega arith) (omega (arith, some)))
      (torn_wider torn 0 (4096 * blocks) (omega arith) (omega (arith, some)));
  first = inr rest;
}

module _ {D : Type 0} (disk : Ghosts D) (blocks : ℕ) (lists : List ℕ → Type 0) where
  -- what a crash may leave of a device is one of these lists, with other bytes behind block 0
  abbrev pub StaysBehind : D → Type 0
  StaysBehind d = (c : List ℕ) → disk.may_leave d c → IsBehind blocks lists c

  pub behind_torn : (at n : ℕ) (d : D) → 4096 ≤ at → at + n ≤ 4096 * blocks → StaysBehind d → (c : List ℕ)
      → TornFrom at n (disk.may_leave d) c → IsBehind blocks lists c
  behind_torn at n d low high before c torn =
      let was = before torn.0 torn.1 in
      (was.0, was.1, torn_twice was.2 (torn_wider torn.2 4096 (4096 * blocks - 4096) low (omega (arith, high))))

  behind_write : (at : ℕ) (bytes : List ℕ) (done : Bool) (d e : D) → 4096 ≤ at → at + length bytes ≤ 4096 * blocks
      → StaysBehind d → Did disk d (WriteAt at bytes) done e
      → StaysBehind e × LeavesOnly disk.moment disk.left_since d e (IsBehind blocks lists)
  behind_write at bytes done d e low high before did = (
    λ c left. behind_torn at (length bytes) d low high before c (did.left c left),
    leaves_weaker did.time (λ c torn. behind_torn at (length bytes) d low high before c torn),
  )

  -- the start and the lengths are written
  pub laying_left : (table : LogSuperValue) (lengths : List ℕ) (done : Bool) (old new : D)
      → IsLog (log_of table) → (log_of table).blocks ≡ blocks → AreLaidBlocks lengths → StaysBehind old
      → DidAll disk old (laying_works table lengths) done new
      → StaysBehind new × LeavesOnly disk.moment disk.left_since old new (IsBehind blocks lists)
  laying_left table lengths done old new log all are before did = by did
    where
      start : (done : Bool) (e : D) → Did disk old (WriteAt 8192 (start_text first_log_start)) done e
          → StaysBehind e × LeavesOnly disk.moment disk.left_since old e (IsBehind blocks lists)
      start done e did = behind_write 8192 (start_text first_log_start) done old e (omega arith)
          (omega (arith, all, are.start_is, log.some_homes, log.some_ring)) before did

      put : (done : Bool) (d e : D) → StaysBehind d
          → Did disk d (WriteAt (4096 * first_log_home table.ring) (lengths_text lengths)) done e
          → StaysBehind e × LeavesOnly disk.moment disk.left_since d e (IsBehind blocks lists)
      put done d e stays did =
          behind_write (4096 * first_log_home table.ring) (lengths_text lengths) done d e (omega arith)
          (omega (arith, all, are.lengths_are, log.some_homes)) stays did

      by : DidAll disk old (laying_works table lengths) done new
          → StaysBehind new × LeavesOnly disk.moment disk.left_since old new (IsBehind blocks lists)
      by (inl failed) = start false new failed.1
      by (inr (d, one, inl failed)) =
          let first = start true d one in
          let second = put false d new first.0 failed.1 in
          (second.0, leaves_then first.1 second.1)
      by (inr (d, one, inr (e, two, end))) =
          let first = start true d one in
          let second = put true d e first.0 two in
          let P : D → Type 0 =
          λ x. StaysBehind x × LeavesOnly disk.moment disk.left_since old x (IsBehind blocks lists) in
          subst P (sym end.1) (second.0, leaves_then first.1 second.1)

module _ {D : Type 0} (disk : Ghosts D) (table : LogSuperValue) (blocks : ℕ) (some : 1 ≤ blocks)
    (made lists : List ℕ → Type 0) (whole : length (log_super_text table) ≡ 4096) where
  abbrev Leaves : D → D → Type 0
  Leaves d e = LeavesOnly disk.moment disk.left_since d e (IsPartlyMade blocks made lists)

  torn_last : (d : D) (bytes : List ℕ) → StaysBehind disk blocks lists d → Only (disk.may_leave d) bytes
      → ((c : List ℕ) → Torn 0 4096 bytes c → made c)
      → (c : List ℕ) → TornFrom 0 (length (log_super_text table)) (disk.may_leave d) c
      → IsPartlyMade blocks made lists c
  torn_last d bytes before only rest c (l, left, torn) =
      let near : Torn 0 4096 l c = torn_wider torn 0 4096 (omega arith) (omega (arith, whole)) in
      let P : List ℕ → Type 0 = λ x. Torn 0 4096 x c in
      partly_torn blocks made lists l c some (before l left) near (rest c (subst P (only l left) near))

  -- from the write of block 0 on
  from_last : (done : Bool) (d new : D) (bytes : List ℕ) → StaysBehind disk blocks lists d
      → Only (disk.may_leave d) bytes → ((c : List ℕ) → Torn 0 4096 bytes c → made c)
      → DidAll disk d (WriteAt 0 (log_super_text table) ∷ Sync ∷ []) done new → Leaves d new
  from_last done d new bytes before only rest (inl (failed, did)) =
      leaves_weaker did.time (torn_last d bytes before only rest)
  from_last done d new bytes before only rest (inr (e, did, inl (failed, sync))) =
      leaves_then (leaves_weaker did.time (torn_last d bytes before only rest))
      (leaves_weaker sync.time (λ c left. torn_last d bytes before only rest c (did.left c left)))
  from_last done d new bytes before only rest (inr (e, did, inr (f, sync, end))) =
      let P : D → Type 0 = λ x. Leaves d x in
      subst P (sym end.1) (leaves_then (leaves_weaker did.time (torn_last d bytes before only rest))
      (leaves_weaker sync.time (λ c left. torn_last d bytes before only rest c (did.left c left))))

  -- the rest is made: it is synced, and then block 0 is written
  pub finishing_left : (done : Bool) (d new : D) → StaysBehind disk blocks lists d → disk.is_honest d
      → ((c : List ℕ) → Torn 0 4096 (disk.seen d) c → made c)
      → DidAll disk d (finishing_works table) done new → Leaves d new
  finishing_left done d new before honest rest (inl (failed, did)) =
      leaves_weaker did.time (λ c left. partly_behind blocks made lists c some (before c left))
  finishing_left done d new before honest rest (inr (e, did, more)) =
      leaves_then (leaves_weaker did.time (λ c left. partly_behind blocks made lists c some (before c left)))
      (from_last done e new (disk.seen d) (λ c left. before c (did.left c left)) (did.durable honest refl refl) rest
      more)

-- all works of a new volume
pub left_by_works : {D : Type 0} (disk : Ghosts D) (old new : D) (table : LogSuperValue) (lengths : List ℕ)
    → IsLog (log_of table) → 4096 * (log_of table).blocks ≤ length (disk.seen old) → AreBlocks table lengths
    → disk.is_honest old → IsZero (disk.seen old) → (done : Bool) → DidAll disk old (log_works table lengths) done new
    → LeavesOnly disk.moment disk.left_since old new
    (IsPartlyMade (log_of table).blocks (IsFreshBehind table lengths) (disk.may_leave old))
left_by_works {D} disk old new table lengths log long blocks honest blank done did =
    elim (did_split disk (laying_works table lengths) (finishing_works table) done old new did) [
      | inl short ↦ leaves_weaker (laid false new short.1).1 partly
      | inr (d, first, second) ↦
          let is = laid_is disk old d table lengths first honest in
          let was = laid true d first in
          leaves_then (leaves_weaker was.1 partly)
          (finishing_left disk table (log_of table).blocks (omega (arith, log.some_homes)) (IsFreshBehind table lengths)
          (disk.may_leave old) blocks.table_is done d new was.0 is.0 (rest d is.1) second)
    ]
  where
    partly : (c : List ℕ) → IsBehind (log_of table).blocks (disk.may_leave old) c
        → IsPartlyMade (log_of table).blocks (IsFreshBehind table lengths) (disk.may_leave old) c
    partly c behind = partly_behind (log_of table).blocks (IsFreshBehind table lengths) (disk.may_leave old) c
        (omega (arith, log.some_homes)) behind

    laid : (done : Bool) (e : D) → DidAll disk old (laying_works table lengths) done e
        → StaysBehind disk (log_of table).blocks (disk.may_leave old) e
        × LeavesOnly disk.moment disk.left_since old e (IsBehind (log_of table).blocks (disk.may_leave old))
    laid done e did = laying_left disk (log_of table).blocks (disk.may_leave old) table lengths done old e log refl
        (laid_blocks blocks) (λ c left. torn_from_none 4096 (4096 * (log_of table).blocks - 4096) left) did

    rest : (d : D) → disk.seen d ≡ laid_on table lengths (disk.seen old) → (c : List ℕ)
        → Torn 0 4096 (disk.seen d) c → IsFreshBehind table lengths c
    rest d is c torn =
        let P : List ℕ → Type 0 = λ l. Torn 0 4096 l c in
        let near = subst P is torn in
        same_behind table log (laid_on table lengths (disk.seen old)) c near.same_length
        (λ i past. torn_after near i (omega (arith, past))) lengths
        (laid_fresh table lengths (disk.seen old) log long (laid_blocks blocks) blank)
