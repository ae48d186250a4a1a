-- An opening: what a crash leaves of it, and what it leaves itself.
use Rattle.std.proofs.Common.{◌≡◌, inl, inr, ℕ, zero, suc, ◌+◌, ◌≤◌, Bool, not, List, [], ◌∷◌, length, get_or}
use Rattle.std.proofs.Common.{sym, ap, subst, ◌∙◌, arith}
use Rattle.device.specs.declared.device.Device.{Ghosts}
use Rattle.device.specs.Device.{LeavesOnly, Only, Torn}
use Rattle.device.proofs.Public.{leaves_then, leaves_weaker, written_within}
use Rattle.volume_codec.specs.Layout.{block_at}
use Rattle.log_codec.specs.declared.start.LogStart.{LogStart}
use Rattle.log_codec.specs.Log.{LogValue, IsLog}
use Rattle.log_codec.specs.Start.{IsLogStart, counts_second}
use Rattle.log_codec.specs.Commit.{LogDescriptor}
use Rattle.log_codec.specs.Chain.{LogEndsAt, HasLog, LogRecovers, IsLogHome}
use Rattle.log_recovery.specs.declared.found.FoundLog.{FoundLog}
use Rattle.log_recovery.specs.Reading.{chain_of}
use Rattle.log_opening.specs.Opening.{IsNextStart, SameAround, RecoversAlike, LeftByLogOpening, OpensLog}
use Rattle.log_opening.specs.Opening.{HasWrittenNothing}
use Rattle.log_opening.specs.CutOff.{IsCutOff, AllRecoverTo}
use Rattle.log_opening.specs.inside.Keeping.{KeepsLog, KeptFrom, WritesKeeping, IsReady, HasSwitched, IsLookedAt}
use Rattle.log_opening.proofs.Blocks.{AgreesOut, agrees_torn, agrees_written}
use Rattle.log_opening.proofs.Recovered.{alike_before, alike_within, log_behind, recovered_behind, around_behind}

-- the log ends behind its commits, in the next epoch
ends_next : (g : LogValue) (s : LogStart) (chain : List LogDescriptor) (bytes : List ℕ) (next : LogStart)
    → IsNextStart g s chain bytes next
    → LogEndsAt g.sealing g next.epoch next.position next.number g.ring bytes
ends_next g s chain bytes next is =
    let P : ℕ → Type 0 = λ p. LogEndsAt g.sealing g next.epoch p (s.number + length chain) g.ring bytes in
    let Q : ℕ → Type 0 = λ n. LogEndsAt g.sealing g next.epoch next.position n g.ring bytes in
    subst Q (sym is.number_is) (subst P (sym is.position_is) is.ends)

-- the byte that a switch wrote selects the start that counts from then on
pub selected_by : {D : Type 0} (disk : Ghosts D) (second : Bool) (old new : D) → 8192 ≤ length (disk.seen old)
    → HasSwitched disk second old new → counts_second (get_or (disk.seen new) 4096 0) ≡ second
selected_by disk second old new long switched =
    let bytes : List ℕ = switched.byte ∷ [] in
    let fits : 4096 + length bytes ≤ length (disk.seen old) = omega (arith, long) in
    ap counts_second (ap (λ (l : List ℕ). get_or l 4096 0) switched.seen_is
    ∙ written_within (disk.seen old) 4096 bytes 4096 fits (omega arith) (omega arith))
    ∙ switched.counts

module _ {D Z : Type 0} (disk : Ghosts D) (g : LogValue) (found : FoundLog Z) (next : LogStart) (old : D)
    (log : IsLog g) (looked : IsLookedAt disk g found next old) where
  abbrev s : LogStart
  s = found.start

  abbrev chain : List LogDescriptor
  chain = chain_of found.commits.items

  abbrev second : Bool
  second = found.second

  counts : counts_second (get_or (disk.seen old) 4096 0) ≡ second
  counts = sym looked.holds.selected

  -- a crash before the byte of block 1 is written
  pub crash_preparing : (new : D) → WritesKeeping disk g s chain second old new
      → LeavesOnly disk.moment disk.left_since old new (LeftByLogOpening disk g old)
  crash_preparing new keeps =
      let P : List ℕ → Type 0 = LeftByLogOpening disk g old in
      let alike : (c : List ℕ) → KeptFrom g s chain second (disk.may_leave old) c → P c = λ c kept.
      let K : List ℕ → Type 0 = λ d. KeepsLog g s chain second d c in
      inr (alike_before g s chain second (disk.seen old) log looked.holds.log counts c
      (subst K (looked.synced kept.0 kept.1) kept.2)) in
      leaves_weaker keeps.time alike

  module _ (prepared : D) (keeps : WritesKeeping disk g s chain second old prepared)
      (ready : IsReady g s chain second next (disk.seen old) (disk.seen prepared)) (is : IsLogStart g.ring next) where
    -- a crash within its write, or behind it
    pub crash_switching : (new : D)
        → LeavesOnly disk.moment disk.left_since prepared new (Torn 4096 1 (disk.seen prepared))
        → LeavesOnly disk.moment disk.left_since old new (LeftByLogOpening disk g old)
    crash_switching new torn =
        let P : List ℕ → Type 0 = LeftByLogOpening disk g old in
        let kept : List ℕ = disk.seen prepared in
        let alike : (c : List ℕ) → Torn 4096 1 kept c → P c = λ c is_torn.
        inr (alike_within g s chain second (disk.seen old) log looked.holds.log counts kept next ready is
        (ends_next g s chain (disk.seen old) next looked.next_is) c (agrees_torn 4096 1 kept c is_torn)) in
        leaves_then (crash_preparing prepared keeps) (leaves_weaker torn alike)

    pub has_opened : (new : D) → 8192 ≤ length (disk.seen prepared)
        → HasSwitched disk (not second) prepared new → OpensLog disk g old next new
    has_opened new long switched =
        let kept : List ℕ = disk.seen prepared in
        let bytes : List ℕ = switched.byte ∷ [] in
        let fits : 4096 + length bytes ≤ length kept = omega (arith, long) in
        let agrees : AgreesOut 4096 1 kept (disk.seen new) =
        agrees_written 4096 bytes kept (disk.seen new) fits switched.seen_is in
        let ends = ends_next g s chain (disk.seen old) next looked.next_is in
        let has = looked.holds.log in
        record {
          start = s;
          chain = chain;
          held = has;
          next_is = looked.next_is;
          log = log_behind g s chain second (disk.seen old) log has counts kept next ready is ends (disk.seen new)
              agrees (selected_by disk (not second) prepared new long switched);
          recovers = recovered_behind g s chain second (disk.seen old) log has counts kept next ready is ends
              (disk.seen new) agrees;
          around = around_behind g s chain second (disk.seen old) log has counts kept next ready is ends
              (disk.seen new) agrees;
          synced = switched.synced;
        }

-- ---- a device that was only read before

pub opened_before : {D : Type 0} (disk : Ghosts D) (g : LogValue) (old mid new : D) (next : LogStart)
    → disk.seen mid ≡ disk.seen old → OpensLog disk g mid next new → OpensLog disk g old next new
opened_before disk g old mid new next same opened = record {
  start = opened.start;
  chain = opened.chain;
  held = subst (λ (l : List ℕ). HasLog g opened.start opened.chain l) same opened.held;
  next_is = subst (λ (l : List ℕ). IsNextStart g opened.start opened.chain l next) same opened.next_is;
  log = opened.log;
  recovers = subst (λ (l : List ℕ). LogRecovers g (block_at (disk.seen new)) l) same opened.recovers;
  around = subst (λ (l : List ℕ). SameAround g l (disk.seen new)) same opened.around;
  synced = opened.synced;
}

pub crash_behind : {D : Type 0} (disk : Ghosts D) (g : LogValue) (old mid new : D) → disk.is_honest old
    → HasWrittenNothing disk old mid → LeavesOnly disk.moment disk.left_since mid new (LeftByLogOpening disk g mid)
    → LeavesOnly disk.moment disk.left_since old new (LeftByLogOpening disk g old)
crash_behind disk g old mid new honest nothing leaves =
    let P : List ℕ → Type 0 = LeftByLogOpening disk g old in
    let through : (c : List ℕ) → LeftByLogOpening disk g mid c → P c = λ c left. elim left [
      | inl was ↦ inl (nothing.left c was)
      | inr alike ↦ inr (subst (λ (l : List ℕ). RecoversAlike g l c) (nothing.same honest) alike)
    ] in
    leaves_then (leaves_weaker nothing.time (λ c left. inl left)) (leaves_weaker leaves through)

-- ---- openings that are cut off

only_left : {D : Type 0} (disk : Ghosts D) (g : LogValue) (n : ℕ) (first device : D) → IsCutOff disk g n first device
    → Only (disk.may_leave device) (disk.seen device)
only_left disk g zero first device is = is.only
only_left disk g (suc n) first device is = is.4.only

pub recovers_cut_off : {D : Type 0} (disk : Ghosts D) (g : LogValue) (contents : ℕ → List ℕ)
    → ((others : ℕ → List ℕ) (bytes : List ℕ) (b : ℕ) → LogRecovers g contents bytes → LogRecovers g others bytes
    → IsLogHome g b → contents b ≡ others b)
    → (n : ℕ) (first device : D) → AllRecoverTo g contents (disk.may_leave first) → IsCutOff disk g n first device
    → LogRecovers g contents (disk.seen device)
recovers_cut_off disk g contents one zero first device all is = all (disk.seen device) is.left
recovers_cut_off disk g contents one (suc n) first device all is =
    let before = is.0 in
    let was = recovers_cut_off disk g contents one n first before all is.2 in
    elim (is.3.each (disk.seen device) is.4.left) [
      | inl left ↦
          let same = only_left disk g n first before is.2 (disk.seen device) left in
          subst (λ (l : List ℕ). LogRecovers g contents l) (sym same) was
      | inr alike ↦ record {
        start = alike.is.start;
        chain = alike.is.chain;
        log = alike.is.log;
        contents_are = λ b home. one alike.contents (disk.seen before) b was alike.was home
            ∙ alike.is.contents_are b home;
      }
    ]
