-- How a home block is read.
use Rattle.std.proofs.Common.{◌≡◌, ℕ, ◌*◌, ◌<◌, ◌≤◌, Bool, true, false, List, length, Option, Some, None, refl}
use Rattle.std.proofs.Common.{arith, if◌then◌else◌}
use Rattle.std.specs.Prelude.{is_some, nat_lt, ◌||◌}
use Rattle.std.proofs.lemmas.Bool.{lt-ltb}
use Rattle.std.proofs.lemmas.Bool.Decides.{nat_tests}
use Rattle.device.specs.declared.device.Device.{Ghosts}
use Rattle.kept_blocks.specs.Blocks.{bytes_in}
use Rattle.log_codec.specs.Log.{LogValue, IsLog}
use Rattle.log_codec.specs.Chain.{IsLogHome}
use Rattle.log_home.specs.declared.index.Newest.{Newest}
use Rattle.log_home.specs.Index.{find_in}
use Rattle.log_store.specs.Store.{block_by, store_block}
use Rattle.log_store.specs.Sound.{IsNoted, IsStore}
use Rattle.log_pager.specs.declared.fault.PagerFault.{PagerFault}
use Rattle.log_pager.specs.declared.fault.PagerFault.TheVariants.{Full, Short, Store}
use Rattle.log_pager.specs.Pager.{LogPagerValue, RefusesPagerRead, pager_read_calls}

block_within : (g : LogValue) (home : ℕ) (o : Option Newest) → IsLog g → IsLogHome g home → IsNoted g home o
    → block_by home o < g.blocks
block_within g home None log is noted = is.high
block_within g home (Some newest) log is noted = omega (arith, noted.1, log.some_homes)

call_by : (o : Option (List ℕ)) (short within : Bool) → o ≡ None → short ≡ false → within ≡ true
    → ◌≡◌ {A = ℕ} (if is_some o || short then 0 else (if within then 1 else 0)) 1
call_by None false true none long there = refl
call_by None true w none long there = absurd (cc)
call_by None false false none long there = absurd (cc)
call_by (Some x) short w none long there = absurd (cc)

module _ {D : Type 0} (disk : Ghosts D) (p : LogPagerValue D) (home : ℕ)
    (long : 4096 * p.store.tail.log.blocks ≤ length (disk.seen p.device)) where
  -- a home block that isn't put takes one call
  pub one_call : IsLog p.store.tail.log → IsStore p.store → IsLogHome p.store.tail.log home
      → bytes_in p.staged home ≡ None → pager_read_calls disk p home ≡ 1
  one_call log store is none =
      call_by (bytes_in p.staged home) (nat_lt (length (disk.seen p.device)) (4096 * p.store.tail.log.blocks))
      (nat_lt (store_block p.store home) p.store.tail.log.blocks) none (grind (arith, nat_tests, long))
      (lt-ltb (store_block p.store home) p.store.tail.log.blocks
      (block_within p.store.tail.log home (find_in p.store.entries home) log is (store.noted home)))

  -- a home block that isn't read isn't put
  pub none_put : (fault : PagerFault) → RefusesPagerRead disk p home fault → bytes_in p.staged home ≡ None
  none_put Full r = absurd r
  none_put Short r = absurd (omega (arith, r, long))
  none_put (Store fault) r = r.0
