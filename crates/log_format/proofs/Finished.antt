-- What follows of a volume with a log that was finished: the rest was synced, and block 0 written and synced.
use Rattle.std.proofs.Common.{◌≡◌, ◌≤◌, ℕ, ◌+◌, ◌-◌, ◌*◌, Bool, true, List, [], ◌∷◌, length, get_or}
use Rattle.std.proofs.Common.{inr, refl, sym, ◌∙◌, ap, subst, arith}
use Rattle.std.specs.List.{AllByRecursion}
use Rattle.device.specs.Device.{written, Torn, Only}
use Rattle.device.specs.Work.{WriteAt, Sync}
use Rattle.device.specs.declared.device.Device.{Ghosts}
use Rattle.device.proofs.Public.{written_within}
use Rattle.device.proofs.Ranges.{torn_by_write, torn_wider}
use Rattle.volume_codec.specs.Layout.{block_at}
use Rattle.new_volume.specs.Formatting.{DidAll}
use Rattle.new_volume.proofs.Public.{IsInside, IsOutOf, done_first, all_same, block_is}
use Rattle.log_volume.specs.Super.{LogSuperValue, log_super_text}
use Rattle.log_format.specs.Formatting.{finishing_works}

-- a device with a table in block 0, all of it synced, and the other bytes of another device
pub record IsFinished {D : Type 0} (disk : Ghosts D) (table : LogSuperValue) (old new : D) : Type 0 where
  pub table_is : block_at (disk.seen new) 0 ≡ log_super_text table
  pub torn : Torn 0 4096 (disk.seen old) (disk.seen new)
  pub synced : Only (disk.may_leave new) (disk.seen new)

module _ {D : Type 0} (disk : Ghosts D) (table : LogSuperValue) (whole : length (log_super_text table) ≡ 4096)
    (old new : D) (long : 4096 ≤ length (disk.seen old)) (honest : disk.is_honest old) where
  pub finished_is : DidAll disk old (finishing_works table) true new → IsFinished disk table old new
  finished_is did =
      let text = log_super_text table in
      let last = WriteAt 0 text in
      let one = done_first disk old new Sync (last ∷ Sync ∷ []) did in
      let two = done_first disk one.0 new last (Sync ∷ []) one.2 in
      let three = done_first disk two.0 new Sync [] two.2 in
      let h_1 = one.1.honest.1 honest in
      let h_2 = two.1.honest.1 h_1 in
      let bytes : disk.seen three.0 ≡ written (disk.seen old) 0 text =
      three.1.seen h_2 ∙ two.1.seen h_1 ∙ ap (λ (l : List ℕ). written l 0 text) (one.1.seen honest) in
      let fits : 0 + length text ≤ length (disk.seen old) = omega (arith, whole, long) in
      let torn : Torn 0 4096 (disk.seen old) (disk.seen three.0) =
      let R : List ℕ → Type 0 = λ l. Torn 0 4096 (disk.seen old) l in
      subst R (sym bytes) (torn_wider (torn_by_write (disk.seen old) 0 text fits) 0 4096 (omega arith)
      (omega (arith, whole))) in
      let P : D → Type 0 = λ d. IsFinished disk table old d in
      let Q : List ℕ → Type 0 = Only (disk.may_leave three.0) in
      subst P (sym three.2.1) (record {
        table_is = block_is (disk.seen three.0) text 0 whole (omega (arith, torn.same_length, long)) (λ k low.
            let place : 4096 * 0 + k - 0 ≡ k = omega arith in
            ap (λ (l : List ℕ). get_or l (4096 * 0 + k) 0) bytes
            ∙ written_within (disk.seen old) 0 text (4096 * 0 + k) fits (omega arith) (omega (arith, low, whole))
            ∙ ap (λ p. get_or text p 0) place);
        torn = torn;
        synced = subst Q (sym (three.1.seen h_2)) (three.1.durable h_2 refl refl);
      })

  pub finishing_inside : AllByRecursion (IsInside (length (disk.seen old))) (finishing_works table)
  finishing_inside = (tt, (omega (arith, whole, long), (tt, tt)))

  pub finishing_out : (i : ℕ) → 4096 ≤ i → AllByRecursion (IsOutOf i) (finishing_works table)
  finishing_out i past = (tt, (inr (omega (arith, past, whole)), (tt, tt)))

  -- also where a call failed
  pub finishing_same : (done : Bool) → DidAll disk old (finishing_works table) done new → (i : ℕ) → 4096 ≤ i
      → get_or (disk.seen new) i 0 ≡ get_or (disk.seen old) i 0
  finishing_same done did i past =
      all_same disk old new (finishing_works table) done did honest finishing_inside i (finishing_out i past)
