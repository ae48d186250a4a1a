-- A store that is over a device stays so in each step.
use Rattle.std.proofs.Common.{◌≡◌, ℕ, ◌+◌, List, [], ◌++◌, Bool, true, false, length, take, refl, sym, ap, subst}
use Rattle.std.proofs.Common.{◌∙◌, arith}
use Rattle.std.specs.Prelude.{None, Result, Ok, Err, IfOk, OnOk}
use Rattle.std.specs.List.{Contains}
use Rattle.std.proofs.lemmas.List.{append-nil, take_all}
use Rattle.device.specs.declared.device.Device.{Ghosts}
use Rattle.device.specs.Device.{Only, LeavesOnly}
use Rattle.device.proofs.Public.{leaves_at_start, leaves_weaker}
use Rattle.log_codec.specs.Commit.{LogDescriptor}
use Rattle.log_codec.specs.Chain.{chain_blocks}
use Rattle.log_commits.specs.declared.behind.OldCommits.{OldCommits}
use Rattle.log_commits.specs.Tail.{TailValue}
use Rattle.log_commits.specs.Homes.{AreWrittenHome}
use Rattle.log_commits.specs.Behind.{HoldsCommits, AreOldest, IsReadyToMove, LeavesCommits, LeftUnchanged}
use Rattle.log_commits.specs.Behind.{MoveLeaves, tail_behind}
use Rattle.log_commits.proofs.Public.{left_unchanged}
use Rattle.log_home.specs.Index.{IsIndexOf}
use Rattle.log_home.specs.Work.{HomeWorkValue, AreHome, stepped}
use Rattle.log_home.proofs.Public.{newest_some, home_in, index_forgot}
use Rattle.log_store.specs.declared.stage.HomeStage.{HomeStage}
use Rattle.log_store.specs.declared.stage.HomeStage.TheVariants.{Resting, Copying, Written, Sure}
use Rattle.log_store.specs.declared.fault.Progress.{Progress}
use Rattle.log_store.specs.declared.fault.Progress.TheVariants.{Idle, Began, Copied, Wrote, Synced, Moved}
use Rattle.log_store.specs.declared.fault.StoreFault.{StoreFault}
use Rattle.log_store.specs.Store.{StoreValue, IsStoreOver, IsStageOver, IsStartWritten, IsWritingHome, HasMovedStart}
use Rattle.log_store.specs.Store.{StepsBy, begun_work, working}
use Rattle.log_store.specs.Step.{MakesStoreStep, StaysOver}
use Rattle.log_store.proofs.Stores.{start_seen, start_kept}

module _ {D : Type 0} (disk : Ghosts D) where
  -- ---- the first step

  begun_store : (s : StoreValue) (contents : ℕ → List ℕ) (device : D) → IsStoreOver disk s contents device
      → disk.may_leave device (disk.seen device) → IsStoreOver disk (working s (begun_work s)) contents device
  begun_store s contents device over seen =
      let holds = over.holds (disk.seen device) seen in
      let chain : List LogDescriptor = over.chain in
      record {
        chain = chain;
        holds = over.holds;
        index = over.index;
        work = record {
          ds = chain;
          younger = [];
          parts = sym (append-nil chain);
          oldest = record {
            number = holds.held.number_is
                ∙ ap (λ (l : List LogDescriptor). s.tail.start.number + length l) holds.chain_is;
            blocks = holds.held.used_is ∙ ap chain_blocks holds.chain_is;
          };
          all = λ b logged.
              let some = newest_some chain b logged s.tail.log.ring None s.tail.start.position in
              home_in s.entries b some.0 (over.index b ∙ some.1);
          home = λ b has. absurd (nothing b has);
        };
      }
    where
      nothing : (b : ℕ) → Contains [] b → ⊥
      nothing b (k, lt, is) = absurd (omega arith)

  begun_any : (s after : StoreValue) (progress : Progress) (contents : ℕ → List ℕ) (device : D)
      → StepsBy s Resting after progress → IsStoreOver disk s contents device
      → disk.may_leave device (disk.seen device) → IsStoreOver disk after contents device
  begun_any s after Idle contents device is over seen =
      let P : StoreValue → Type 0 = λ v. IsStoreOver disk v contents device in subst P (sym is.1) over
  begun_any s after Began contents device is over seen =
      let P : StoreValue → Type 0 = λ v. IsStoreOver disk v contents device in
      subst P (sym is.1) (begun_store s contents device over seen)
  begun_any s after Copied contents device is over seen = absurd is
  begun_any s after Wrote contents device is over seen = absurd is
  begun_any s after Synced contents device is over seen = absurd is
  begun_any s after Moved contents device is over seen = absurd is

  begun_result : (r : Result Progress StoreFault) (s after : StoreValue) (contents : ℕ → List ℕ) (device : D)
      → IfOk r (StepsBy s Resting after) → IsStoreOver disk s contents device
      → disk.may_leave device (disk.seen device) → OnOk r (IsStoreOver disk after contents device)
  begun_result (Ok progress) s after contents device is over seen =
      begun_any s after progress contents device is over seen
  begun_result (Err fault) s after contents device is over seen = tt

  -- it makes no call
  pub stays_begun : (r : Result Progress StoreFault) (s after : StoreValue) (device : D)
      → IfOk r (StepsBy s Resting after)
      → ((c : List ℕ) → disk.left_since device (disk.moment device) c → disk.may_leave device c)
      → (disk.is_honest device → disk.may_leave device (disk.seen device))
      → StaysOver disk s Resting r after device device
  stays_begun r s after device is now seen = record {
    leaves = λ contents honest over.
        leaves_at_start {P = LeftUnchanged s.tail contents}
        (λ c left. left_unchanged s.tail contents c (over.holds c (now c left)).held);
    store = λ contents honest over. begun_result r s after contents device is over (seen honest);
  }

  -- ---- a step at its stage

  -- the stage of a store
  at_stage : (s : StoreValue) (stage : HomeStage) (contents : ℕ → List ℕ) (device : D) → s.stage ≡ stage
      → (over : IsStoreOver disk s contents device) → IsStageOver disk s stage contents over.chain device
  at_stage s stage contents device is over =
      let P : HomeStage → Type 0 = λ v. IsStageOver disk s v contents over.chain device in subst P is over.work

  -- what a step at the store's own stage does
  pub made_at : {s after : StoreValue} {stage : HomeStage} {r : Result Progress StoreFault} {old new : D}
      → s.stage ≡ stage → MakesStoreStep disk s stage r after old new → MakesStoreStep disk s s.stage r after old new
  made_at {s} {after} {stage} {r} {old} {new} is made =
      subst (λ (v : HomeStage). MakesStoreStep disk s v r after old new) (sym is) made

  pub stays_at : {s after : StoreValue} {stage : HomeStage} {r : Result Progress StoreFault} {old new : D}
      → s.stage ≡ stage → StaysOver disk s stage r after old new → StaysOver disk s s.stage r after old new
  stays_at {s} {after} {stage} {r} {old} {new} is stays =
      subst (λ (v : HomeStage). StaysOver disk s v r after old new) (sym is) stays

  -- ---- the calls of the tail

  -- a read finds what a crash may leave
  abbrev pub IsSeen : D → Type 0
  IsSeen device = disk.is_honest device → disk.may_leave device (disk.seen device)

  -- a call that changes no contents
  abbrev pub Leaves : StoreValue → D → D → Type 0
  Leaves s old new = (contents : ℕ → List ℕ) (chain : List LogDescriptor) → disk.is_honest old
      → IsIndexOf s.tail.log s.tail.start.position chain s.entries
      → ((c : List ℕ) → disk.may_leave old c → HoldsCommits s.second s.tail contents chain c)
      → LeavesCommits disk s.second s.tail contents chain old new

  -- a call after which one home block more is written
  abbrev pub Copies : StoreValue → HomeWorkValue → D → D → Type 0
  Copies s after old new = (contents : ℕ → List ℕ) (ds younger : List LogDescriptor) → disk.is_honest old
      → HoldsCommits s.second s.tail contents (ds ++ younger) (disk.seen old) → AreOldest s.tail s.work.oldest ds
      → IsIndexOf s.tail.log s.tail.start.position (ds ++ younger) s.entries
      → AreHome s.tail.log contents ds younger (take s.work.done s.work.homes) (disk.seen old)
      → AreHome s.tail.log contents ds younger (take after.done s.work.homes) (disk.seen new)

  -- a call after which the start is written
  abbrev pub Starts : StoreValue → OldCommits → D → D → Type 0
  Starts s oldest old new = (contents : ℕ → List ℕ) (ds younger : List LogDescriptor) → disk.is_honest old
      → ((c : List ℕ) → disk.may_leave old c → HoldsCommits s.second s.tail contents (ds ++ younger) c)
      → AreOldest s.tail oldest ds → AreWrittenHome s.tail.log contents ds younger (disk.seen old)
      → IsReadyToMove s.second s.tail oldest contents ds younger (disk.seen new)

  -- calls that select the start
  abbrev pub Selects : StoreValue → OldCommits → Bool → D → D → Type 0
  Selects s oldest done old new = (contents : ℕ → List ℕ) (ds younger : List LogDescriptor) → disk.is_honest old
      → Only (disk.may_leave old) (disk.seen old)
      → IsReadyToMove s.second s.tail oldest contents ds younger (disk.seen old)
      → MoveLeaves disk s.second s.tail oldest contents younger done old new

  -- what a crash within such a call leaves
  unchanged : (s : StoreValue) (old new : D) → Leaves s old new → (contents : ℕ → List ℕ)
      → disk.is_honest old → IsStoreOver disk s contents old
      → LeavesOnly disk.moment disk.left_since old new (LeftUnchanged s.tail contents)
  unchanged s old new leaves contents honest over =
      leaves_weaker (leaves contents over.chain honest over.index over.holds).crash
      (λ c is. left_unchanged s.tail contents c is.held)

  -- A step that fails in it. The store `b` is `s` by its parts.
  pub stays_failed : {b s after : StoreValue} {stage : HomeStage} {fault : StoreFault} {old new : D} → b ≡ s
      → Leaves b old new → StaysOver disk s stage (Err fault) after old new
  stays_failed {b} {s} {after} {stage} {fault} {old} {new} is leaves =
      subst (λ (v : StoreValue). StaysOver disk v stage (Err fault) after old new) is (record {
        leaves = unchanged b old new leaves;
        store = λ contents honest over. tt;
      })

  -- a step that is made in it
  stays_made : {b s after : StoreValue} {stage : HomeStage} {progress : Progress} {old new : D} (next : StoreValue)
      → b ≡ s → after ≡ next → Leaves b old new
      → ((contents : ℕ → List ℕ) → disk.is_honest old → IsStoreOver disk b contents old
      → IsStoreOver disk next contents new)
      → StaysOver disk s stage (Ok progress) after old new
  stays_made {b} {s} {after} {stage} {progress} {old} {new} next is ends leaves store =
      subst (λ (v : StoreValue). StaysOver disk v stage (Ok progress) after old new) is
      (subst (λ (v : StoreValue). StaysOver disk b stage (Ok progress) v old new) (sym ends) (record {
        leaves = unchanged b old new leaves;
        store = store;
      }))

  -- ---- home blocks are copied, and the start is written

  module _ (s : StoreValue) (contents : ℕ → List ℕ) (old new : D) (over : IsStoreOver disk s contents old)
      (work : IsWritingHome disk s s.work contents over.chain old)
      (leaves : LeavesCommits disk s.second s.tail contents over.chain old new) where
    -- the log with its commits in the two parts
    parts_hold : (c : List ℕ) → disk.may_leave old c
        → HoldsCommits s.second s.tail contents (work.ds ++ work.younger) c
    parts_hold c may =
        let P : List LogDescriptor → Type 0 = λ l. HoldsCommits s.second s.tail contents l c in
        subst P work.parts (over.holds c may)

    parts_index : IsIndexOf s.tail.log s.tail.start.position (work.ds ++ work.younger) s.entries
    parts_index =
        let P : List LogDescriptor → Type 0 = λ l. IsIndexOf s.tail.log s.tail.start.position l s.entries in
        subst P work.parts over.index

    copied_store : (after : HomeWorkValue) → after ≡ stepped s.work
        → AreHome s.tail.log contents work.ds work.younger (take after.done s.work.homes) (disk.seen new)
        → IsStoreOver disk (working s (stepped s.work)) contents new
    copied_store after is home = record {
      chain = over.chain;
      holds = leaves.left;
      index = over.index;
      work = record {
        ds = work.ds;
        younger = work.younger;
        parts = work.parts;
        oldest = work.oldest;
        all = work.all;
        home =
            let P : HomeWorkValue → Type 0 = λ w.
            AreHome s.tail.log contents work.ds work.younger (take w.done s.work.homes) (disk.seen new) in
            subst P is home;
      };
    }

    all_written : s.work.done ≡ length s.work.homes
        → AreWrittenHome s.tail.log contents work.ds work.younger (disk.seen old)
    all_written done = λ b is_home logged.
        let w : HomeWorkValue = s.work in
        let P : List ℕ → Type 0 = λ l. Contains l b in
        let all : w.homes ≡ take w.done w.homes = sym (take_all w.done w.homes (omega (arith, done))) in
        work.home b (subst P all (work.all b logged)) is_home logged

    started_store : IsReadyToMove s.second s.tail s.work.oldest contents work.ds work.younger (disk.seen new)
        → IsStoreOver disk (record s { stage = Written }) contents new
    started_store ready = record {
      chain = over.chain;
      holds = leaves.left;
      index = over.index;
      work = record { ds = work.ds; younger = work.younger; parts = work.parts; ready = ready };
    }

  pub stays_copied : {b s after : StoreValue} {tail : TailValue} {work : HomeWorkValue} {old new : D} → b ≡ s
      → s.stage ≡ Copying → IsSeen old → tail ≡ b.tail → work ≡ stepped b.work
      → after ≡ record b { tail = tail; work = work } → Leaves b old new → Copies b work old new
      → StaysOver disk s Copying (Ok Copied) after old new
  stays_copied {b} {s} {after} {tail} {work} {old} {new} is stage seen tail_is work_is ends leaves copies =
      let at : b.stage ≡ Copying = ap (λ (v : StoreValue). v.stage) is ∙ stage in
      let same : record b { tail = tail; work = work } ≡ working b (stepped b.work) =
      λ i. record b { tail = tail_is i; stage = at i; work = work_is i } in
      stays_made (working b (stepped b.work)) is (ends ∙ same) leaves (λ contents honest over.
      let home = at_stage b Copying contents old at over in
      copied_store b contents old new over home (leaves contents over.chain honest over.index over.holds) work work_is
      (copies contents home.ds home.younger honest
      (parts_hold b contents old new over home (leaves contents over.chain honest over.index over.holds)
      (disk.seen old) (seen honest)) home.oldest
      (parts_index b contents old new over home (leaves contents over.chain honest over.index over.holds)) home.home))

  pub stays_started : {b s after : StoreValue} {tail : TailValue} {oldest : OldCommits} {old new : D} → b ≡ s
      → s.stage ≡ Copying → s.work.done ≡ length s.work.homes → tail ≡ b.tail → oldest ≡ b.work.oldest
      → after ≡ record b { tail = tail; stage = Written } → Leaves b old new → Starts b oldest old new
      → StaysOver disk s Copying (Ok Wrote) after old new
  stays_started {b} {s} {after} {tail} {oldest} {old} {new} is stage done tail_is oldest_is ends leaves starts =
      let at : b.stage ≡ Copying = ap (λ (v : StoreValue). v.stage) is ∙ stage in
      let all : b.work.done ≡ length b.work.homes =
      subst (λ (v : StoreValue). v.work.done ≡ length v.work.homes) (sym is) done in
      let same : record b { tail = tail; stage = Written } ≡ record b { stage = Written } =
      λ i. record b { tail = tail_is i; stage = Written } in
      stays_made (record b { stage = Written }) is (ends ∙ same) leaves (λ contents honest over.
      let home = at_stage b Copying contents old at over in
      let left = leaves contents over.chain honest over.index over.holds in
      started_store b contents old new over home left
      (subst (λ (o : OldCommits). Starts b o old new) oldest_is starts contents home.ds home.younger honest
      (parts_hold b contents old new over home left) home.oldest (all_written b contents old new over home left all)))

  -- ---- the start is made sure of

  sure_store : (s : StoreValue) (contents : ℕ → List ℕ) (old new : D) (over : IsStoreOver disk s contents old)
      → IsStartWritten disk s s.work.oldest contents over.chain old
      → LeavesCommits disk s.second s.tail contents over.chain old new → disk.seen new ≡ disk.seen old
      → Only (disk.may_leave new) (disk.seen new) → IsStoreOver disk (record s { stage = Sure }) contents new
  sure_store s contents old new over is leaves same only =
      let after : StoreValue = record s { stage = Sure } in
      let seen = start_seen disk s s.work.oldest contents over.chain old new same is in
      record {
        chain = over.chain;
        holds = leaves.left;
        index = over.index;
        work = (start_kept disk s after s.work.oldest contents over.chain new refl refl seen, only);
      }

  pub stays_sure : {b s after : StoreValue} {tail : TailValue} {old new : D} → b ≡ s → s.stage ≡ Written
      → tail ≡ b.tail → after ≡ record b { tail = tail; stage = Sure } → Leaves b old new
      → (disk.is_honest old → Only (disk.may_leave new) (disk.seen new) × (disk.seen new ≡ disk.seen old))
      → StaysOver disk s Written (Ok Synced) after old new
  stays_sure {b} {s} {after} {tail} {old} {new} is stage tail_is ends leaves sure =
      let at : b.stage ≡ Written = ap (λ (v : StoreValue). v.stage) is ∙ stage in
      let same : record b { tail = tail; stage = Sure } ≡ record b { stage = Sure } =
      λ i. record b { tail = tail_is i; stage = Sure } in
      stays_made (record b { stage = Sure }) is (ends ∙ same) leaves (λ contents honest over.
      sure_store b contents old new over (at_stage b Written contents old at over)
      (leaves contents over.chain honest over.index over.holds) (sure honest).1 (sure honest).0)

  -- ---- the start is selected

  moved_store : (s after : StoreValue) (contents : ℕ → List ℕ) (old new : D)
      (over : IsStoreOver disk s contents old) → disk.may_leave old (disk.seen old)
      → (is : IsStartWritten disk s s.work.oldest contents over.chain old)
      → MoveLeaves disk s.second s.tail s.work.oldest contents is.younger true old new
      → HasMovedStart s after s.work.oldest → IsStoreOver disk after contents new
  moved_store s after contents old new over seen is leaves has =
      let oldest : OldCommits = s.work.oldest in
      let younger : List LogDescriptor = is.younger in
      let moved = leaves.moved refl in
      let P : TailValue → Type 0 = λ t. HoldsCommits after.second t contents younger (disk.seen new) in
      let Q : Bool → Type 0 = λ v. HoldsCommits v (tail_behind s.tail oldest) contents younger (disk.seen new) in
      let there : P after.tail = subst P (sym has.tail) (subst Q (sym has.second) moved) in
      let R : List ℕ → Type 0 = λ l. HoldsCommits after.second after.tail contents younger l in
      let S : TailValue → Type 0 = λ t. IsIndexOf t.log t.start.position younger after.entries in
      let T : HomeStage → Type 0 = λ v. IsStageOver disk after v contents younger new in
      let H : List LogDescriptor → Type 0 = λ l. HoldsCommits s.second s.tail contents l (disk.seen old) in
      let I : List LogDescriptor → Type 0 = λ l. IsIndexOf s.tail.log s.tail.start.position l s.entries in
      record {
        chain = younger;
        holds = λ c may. subst R (sym (leaves.durable refl c may)) there;
        index = subst S (sym has.tail) (index_forgot s.second s.tail contents oldest is.ds younger (disk.seen old)
            s.entries after.entries (subst H is.parts (over.holds (disk.seen old) seen)) is.ready.oldest_are
            (subst I is.parts over.index) has.found);
        work = subst T (sym has.stage) tt;
      }

  select_leaves : (s : StoreValue) (done : Bool) (old new : D) → s.stage ≡ Sure → Selects s s.work.oldest done old new
      → (contents : ℕ → List ℕ) → disk.is_honest old → IsStoreOver disk s contents old
      → LeavesOnly disk.moment disk.left_since old new (LeftUnchanged s.tail contents)
  select_leaves s done old new stage selects contents honest over =
      let at = at_stage s Sure contents old stage over in
      (selects contents at.0.ds at.0.younger honest at.1 at.0.ready).crash

  pub select_failed : {b s after : StoreValue} {fault : StoreFault} {oldest : OldCommits} {old new : D} → b ≡ s
      → s.stage ≡ Sure → oldest ≡ b.work.oldest → Selects b oldest false old new
      → StaysOver disk s Sure (Err fault) after old new
  select_failed {b} {s} {after} {fault} {oldest} {old} {new} is stage oldest_is selects =
      let at : b.stage ≡ Sure = ap (λ (v : StoreValue). v.stage) is ∙ stage in
      let own = subst (λ (o : OldCommits). Selects b o false old new) oldest_is selects in
      subst (λ (v : StoreValue). StaysOver disk v Sure (Err fault) after old new) is (record {
        leaves = select_leaves b false old new at own;
        store = λ contents honest over. tt;
      })

  pub stays_selected : {b s after : StoreValue} {oldest : OldCommits} {old new : D} → b ≡ s → s.stage ≡ Sure
      → oldest ≡ b.work.oldest → IsSeen old → HasMovedStart b after oldest → Selects b oldest true old new
      → StaysOver disk s Sure (Ok Moved) after old new
  stays_selected {b} {s} {after} {oldest} {old} {new} is stage oldest_is seen has selects =
      let at : b.stage ≡ Sure = ap (λ (v : StoreValue). v.stage) is ∙ stage in
      let own = subst (λ (o : OldCommits). Selects b o true old new) oldest_is selects in
      let moved = subst (λ (o : OldCommits). HasMovedStart b after o) oldest_is has in
      subst (λ (v : StoreValue). StaysOver disk v Sure (Ok Moved) after old new) is (record {
        leaves = select_leaves b true old new at own;
        store = λ contents honest over.
            let sure = at_stage b Sure contents old at over in
            moved_store b after contents old new over (seen honest) sure.0
            (own contents sure.0.ds sure.0.younger honest sure.1 sure.0.ready) moved;
      })
