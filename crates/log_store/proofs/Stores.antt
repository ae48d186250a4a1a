-- A store that is over a device stays so.
use Rattle.std.proofs.Common.{◌≡◌, ℕ, ◌+◌, ◌%◌, List, [], ◌∷◌, ◌++◌, Bool, true, false}
use Rattle.std.proofs.Common.{length, take, get_or, inl, inr, refl, sym, ap, subst, ◌∙◌, append_assoc}
use Rattle.std.specs.Prelude.{Option, Some, None, not}
use Rattle.std.proofs.lemmas.Bool.{false≢true}
use Rattle.volume_codec.specs.Layout.{block_at}
use Rattle.device.specs.Device.{Only}
use Rattle.device.proofs.Public.{leaves_at_start}
use Rattle.device.specs.declared.device.Device.{Ghosts}
use Rattle.log_codec.specs.declared.sealing.Sealing.{Sealing}
use Rattle.log_codec.specs.declared.sealing.Sealing.TheVariants.{ByByte, ByDigest}
use Rattle.log_codec.specs.declared.start.LogStart.{LogStart}
use Rattle.log_codec.specs.Log.{LogValue, log_descriptor_blocks}
use Rattle.log_codec.specs.Start.{counts_second}
use Rattle.log_codec.specs.Commit.{LogDescriptor}
use Rattle.log_codec.specs.Chain.{HasLog, IsLogHome, newest_or, chain_end}
use Rattle.log_commits.specs.declared.behind.OldCommits.{OldCommits}
use Rattle.log_commits.specs.Tail.{TailValue, tail_at}
use Rattle.log_commits.specs.Commit.{CommitLeaves, LeftByCommit, committed_to, next_logged, tail_after}
use Rattle.log_commits.specs.Behind.{HoldsCommits, AreOldest, IsReadyToMove, IsSameOutside}
use Rattle.log_commits.specs.Behind.{tail_behind}
use Rattle.log_commits.specs.Selecting.{IsSureBy}
use Rattle.log_commits.proofs.Public.{held_at_start, left_before, newest_cases, ready_kept}
use Rattle.log_home.specs.declared.index.Newest.{Newest}
use Rattle.log_home.specs.Index.{Entries, find_in, recorded_or, newest_of_chain, IsIndexOf}
use Rattle.log_home.specs.Work.{HomeWorkValue, AreHome}
use Rattle.log_home.proofs.Public.{none_some, newest_block, newest_some}
use Rattle.log_home.proofs.Public.{index_noted, index_passed, home_kept}
use Rattle.log_store.specs.declared.stage.HomeStage.{HomeStage}
use Rattle.log_store.specs.declared.stage.HomeStage.TheVariants.{Resting, Copying, Written, Sure}
use Rattle.log_store.specs.Store.{StoreValue, IsStoreOver, IsStageOver, IsStartWritten, IsWritingHome, IsSelectable}
use Rattle.log_store.specs.Store.{KeepsStore, HasNoted, block_by, store_block, fresh_store}
use Rattle.log_store.specs.Store.{committing_tail, selection, selection_by, second_by, stage_by, tail_by, unless_old}

module _ {D : Type 0} (disk : Ghosts D) where
  -- ---- a log without commits

  pub opened : (device : D) (g : LogValue) (start : LogStart) (second spent : Bool)
      → Only (disk.may_leave device) (disk.seen device) → HasLog g start [] (disk.seen device)
      → second ≡ counts_second (get_or (disk.seen device) 4096 0)
      → IsStoreOver disk (fresh_store (tail_at g start spent) second) (block_at (disk.seen device)) device
  opened device g start second spent only has selected =
      let t : TailValue = tail_at g start spent in
      let contents : ℕ → List ℕ = block_at (disk.seen device) in
      let P : List ℕ → Type 0 = λ l. HoldsCommits second t contents [] l in
      let there : P (disk.seen device) = record {
        held = held_at_start g start spent (disk.seen device) has;
        chain_is = refl;
        selected = selected;
      } in
      record {
        chain = [];
        holds = λ c may. subst P (sym (only c may)) there;
        index = λ b. refl;
        work = tt;
      }

  -- ---- a call that only reads

  pub start_seen : (s : StoreValue) (oldest : OldCommits) (contents : ℕ → List ℕ) (chain : List LogDescriptor)
      (old new : D) → disk.seen new ≡ disk.seen old → IsStartWritten disk s oldest contents chain old
      → IsStartWritten disk s oldest contents chain new
  start_seen s oldest contents chain old new same is =
      let P : List ℕ → Type 0 = λ l. IsReadyToMove s.second s.tail oldest contents is.ds is.younger l in
      record { ds = is.ds; younger = is.younger; parts = is.parts; ready = subst P (sym same) is.ready }

  stage_seen : (s : StoreValue) (stage : HomeStage) (contents : ℕ → List ℕ) (chain : List LogDescriptor) (old new : D)
      → disk.seen new ≡ disk.seen old → ((c : List ℕ) → disk.may_leave new c → disk.may_leave old c)
      → IsStageOver disk s stage contents chain old → IsStageOver disk s stage contents chain new
  stage_seen s Resting contents chain old new same left is = tt
  stage_seen s Copying contents chain old new same left is =
      let w : HomeWorkValue = s.work in
      let P : List ℕ → Type 0 =
      λ l. AreHome s.tail.log contents is.ds is.younger (take w.done w.homes) l in
      record {
        ds = is.ds;
        younger = is.younger;
        parts = is.parts;
        oldest = is.oldest;
        all = is.all;
        home = subst P (sym same) is.home;
      }
  stage_seen s Written contents chain old new same left is = start_seen s s.work.oldest contents chain old new same is
  stage_seen s Sure contents chain old new same left is = (
    start_seen s s.work.oldest contents chain old new same is.0,
    λ c may. is.1 c (left c may) ∙ sym same,
  )

  pub read_only : (s : StoreValue) (contents : ℕ → List ℕ) (old new : D) → disk.seen new ≡ disk.seen old
      → ((c : List ℕ) → disk.may_leave new c → disk.may_leave old c) → IsStoreOver disk s contents old
      → IsStoreOver disk s contents new
  read_only s contents old new same left over = record {
    chain = over.chain;
    holds = λ c may. over.holds c (left c may);
    index = over.index;
    work = stage_seen s s.stage contents over.chain old new same left over.work;
  }

  -- ---- a call that is refused

  pub start_kept : (s after : StoreValue) (oldest : OldCommits) (contents : ℕ → List ℕ) (chain : List LogDescriptor)
      (device : D) → after.tail ≡ s.tail → after.second ≡ s.second
      → IsStartWritten disk s oldest contents chain device → IsStartWritten disk after oldest contents chain device
  start_kept s after oldest contents chain device tail second is =
      let P : TailValue → Type 0 = λ t.
      IsReadyToMove after.second t oldest contents is.ds is.younger (disk.seen device) in
      let Q : Bool → Type 0 = λ v.
      IsReadyToMove v s.tail oldest contents is.ds is.younger (disk.seen device) in
      record {
        ds = is.ds;
        younger = is.younger;
        parts = is.parts;
        ready = subst P (sym tail) (subst Q (sym second) is.ready);
      }

  stage_kept : (s after : StoreValue) (stage : HomeStage) (contents : ℕ → List ℕ) (chain : List LogDescriptor)
      (device : D) → after.tail ≡ s.tail → after.second ≡ s.second → after.work ≡ s.work
      → IsStageOver disk s stage contents chain device → IsStageOver disk after stage contents chain device
  stage_kept s after Resting contents chain device tail second work is = tt
  stage_kept s after Copying contents chain device tail second work is =
      let W : HomeWorkValue → Type 0 = λ w. IsWritingHome disk after w contents chain device in
      let w : HomeWorkValue = s.work in
      let P : TailValue → Type 0 = λ t. AreOldest t w.oldest is.ds in
      let Q : TailValue → Type 0 = λ t.
      AreHome t.log contents is.ds is.younger (take w.done w.homes) (disk.seen device) in
      let there : W w = record {
        ds = is.ds;
        younger = is.younger;
        parts = is.parts;
        oldest = subst P (sym tail) is.oldest;
        all = is.all;
        home = subst Q (sym tail) is.home;
      } in
      subst W (sym work) there
  stage_kept s after Written contents chain device tail second work is =
      let W : HomeWorkValue → Type 0 = λ w. IsStartWritten disk after w.oldest contents chain device in
      subst W (sym work) (start_kept s after s.work.oldest contents chain device tail second is)
  stage_kept s after Sure contents chain device tail second work is =
      let W : HomeWorkValue → Type 0 = λ w. IsStartWritten disk after w.oldest contents chain device in
      (subst W (sym work) (start_kept s after s.work.oldest contents chain device tail second is.0), is.1)

  kept_store : (s after : StoreValue) (contents : ℕ → List ℕ) (device : D) → KeepsStore s after
      → IsStoreOver disk s contents device → IsStoreOver disk after contents device
  kept_store s after contents device kept over =
      let P : TailValue → Type 0 = λ t. (c : List ℕ) → disk.may_leave device c
      → HoldsCommits after.second t contents over.chain c in
      let Q : Bool → Type 0 = λ v. (c : List ℕ) → disk.may_leave device c
      → HoldsCommits v s.tail contents over.chain c in
      let R : TailValue → Type 0 = λ t. IsIndexOf t.log t.start.position over.chain after.entries in
      let S : HomeStage → Type 0 = λ v. IsStageOver disk after v contents over.chain device in
      record {
        chain = over.chain;
        holds = subst P (sym kept.tail) (subst Q (sym kept.second) over.holds);
        index = subst R (sym kept.tail) (λ b. kept.found b ∙ over.index b);
        work = subst S (sym kept.stage)
            (stage_kept s after s.stage contents over.chain device kept.tail kept.second kept.work over.work);
      }

  -- the same, where `b` is the store by its parts
  pub kept_by : {b s after : StoreValue} {old new : D} → b ≡ s → KeepsStore b after → new ≡ old
      → (contents : ℕ → List ℕ) → IsStoreOver disk s contents old → IsStoreOver disk after contents new
  kept_by {b} {s} {after} {old} {new} is kept same contents over =
      let P : D → Type 0 = λ device. IsStoreOver disk after contents device in
      let Q : StoreValue → Type 0 = λ v. IsStoreOver disk v contents old in
      subst P (sym same) (kept_store b after contents old kept (subst Q (sym is) over))

  -- what a read finds
  pub read_is : (s : StoreValue) (contents : ℕ → List ℕ) (device : D) → IsStoreOver disk s contents device
      → disk.may_leave device (disk.seen device) → (home : ℕ) → IsLogHome s.tail.log home
      → contents home ≡ block_at (disk.seen device) (store_block s home)
  read_is s contents device over seen home is_home =
      let holds = over.holds (disk.seen device) seen in
      let ring : ℕ = s.tail.log.ring in
      let p : ℕ = s.tail.start.position in
      let chain : List LogDescriptor = over.chain in
      let P : List LogDescriptor → Type 0 =
      λ l. contents home ≡ block_at (disk.seen device) (newest_or ring home p l home) in
      let whole = subst P holds.chain_is (holds.held.contents_are home is_home) in
      whole ∙ ap (block_at (disk.seen device)) (by_find ring p chain (find_in s.entries home)
      (sym (over.index home)))
    where
      by_find : (ring p : ℕ) (chain : List LogDescriptor) (o : Option Newest)
          → newest_of_chain ring None p chain home ≡ o
          → newest_or ring home p chain home ≡ block_by home o
      by_find ring p chain None is = elim (newest_cases chain home) [
        | inl has ↦
            let some = newest_some chain home has ring None p in absurd (none_some (sym is ∙ some.1))
        | inr none ↦ none ring home p
      ]
      by_find ring p chain (Some n) is =
          newest_block ring None home p chain home (λ m never. absurd (none_some never)) n is

  -- ---- a commit

  -- the parts of the log's commits: those that are written home if a start is written behind them, and the others
  pub record Parts (s : StoreValue) (contents : ℕ → List ℕ) (chain : List LogDescriptor) (device : D) : Type 0 where
    pub ds : List LogDescriptor
    pub younger : List LogDescriptor
    pub parts : chain ≡ ds ++ younger
    pub may : IsSelectable disk s.second s.tail contents ds younger (selection s) device

  pub parts_of : (s : StoreValue) (contents : ℕ → List ℕ) (device : D) (over : IsStoreOver disk s contents device)
      → Parts s contents over.chain device
  parts_of s contents device over = by s.tail.log.sealing s.stage refl refl over.work
    where
      Selectable : Option OldCommits → List LogDescriptor → List LogDescriptor → Type 0
      Selectable o ds younger = IsSelectable disk s.second s.tail contents ds younger o device

      none : selection s ≡ None → Parts s contents over.chain device
      none is =
          let P : Option OldCommits → Type 0 = λ o. IsSelectable disk s.second s.tail contents [] over.chain o device in
          record { ds = []; younger = over.chain; parts = refl; may = subst P (sym is) refl }

      some : (is : IsStartWritten disk s s.work.oldest contents over.chain device)
          → IsSureBy disk s.tail.log.sealing device → selection s ≡ Some s.work.oldest
          → Parts s contents over.chain device
      some is sure chosen =
          let P : Option OldCommits → Type 0 =
          λ o. IsSelectable disk s.second s.tail contents is.ds is.younger o device in
          record { ds = is.ds; younger = is.younger; parts = is.parts; may = subst P (sym chosen) (is.ready, sure) }

      chosen_by : (sealing : Sealing) (stage : HomeStage) → s.tail.log.sealing ≡ sealing → s.stage ≡ stage
          → selection s ≡ selection_by sealing stage s.work.oldest
      chosen_by sealing stage is at =
          ap (λ (v : Sealing). selection_by v s.stage s.work.oldest) is
          ∙ ap (λ (v : HomeStage). selection_by sealing v s.work.oldest) at

      sure_by : (sealing : Sealing) → Only (disk.may_leave device) (disk.seen device) → IsSureBy disk sealing device
      sure_by ByByte only = tt
      sure_by (ByDigest key) only = only

      by : (sealing : Sealing) (stage : HomeStage) → s.tail.log.sealing ≡ sealing → s.stage ≡ stage
          → IsStageOver disk s stage contents over.chain device → Parts s contents over.chain device
      by ByByte Resting is at work = none (chosen_by ByByte Resting is at)
      by (ByDigest key) Resting is at work = none (chosen_by (ByDigest key) Resting is at)
      by ByByte Copying is at work = none (chosen_by ByByte Copying is at)
      by (ByDigest key) Copying is at work = none (chosen_by (ByDigest key) Copying is at)
      by ByByte Written is at work =
          let P : Sealing → Type 0 = λ v. IsSureBy disk v device in
          some work (subst P (sym is) tt) (chosen_by ByByte Written is at)
      by (ByDigest key) Written is at work = none (chosen_by (ByDigest key) Written is at)
      by ByByte Sure is at work =
          some work.0 (sure_by s.tail.log.sealing work.1) (chosen_by ByByte Sure is at)
      by (ByDigest key) Sure is at work =
          some work.0 (sure_by s.tail.log.sealing work.1) (chosen_by (ByDigest key) Sure is at)

  start_more : (s after : StoreValue) (oldest : OldCommits) (contents : ℕ → List ℕ) (chain : List LogDescriptor)
      (old new : D) (homes records : List ℕ) → after.tail ≡ tail_after s.tail homes → after.second ≡ s.second
      → IsSameOutside s.tail.log (disk.seen old) (disk.seen new)
      → HoldsCommits s.second (tail_after s.tail homes) (committed_to contents homes records)
      (chain ++ next_logged s.tail homes ∷ []) (disk.seen new)
      → IsStartWritten disk s oldest contents chain old
      → IsStartWritten disk after oldest (committed_to contents homes records)
      (chain ++ next_logged s.tail homes ∷ []) new
  start_more s after oldest contents chain old new homes records tail second outside holds is =
      let d : LogDescriptor = next_logged s.tail homes in
      let more : List LogDescriptor = is.younger ++ d ∷ [] in
      let newer : ℕ → List ℕ = committed_to contents homes records in
      let H : List LogDescriptor → Type 0 = λ l.
      HoldsCommits s.second (tail_after s.tail homes) newer l (disk.seen new) in
      let parts : chain ++ d ∷ [] ≡ (is.ds ++ is.younger) ++ d ∷ [] =
      ap (λ (l : List LogDescriptor). l ++ d ∷ []) is.parts in
      let P : TailValue → Type 0 = λ t. IsReadyToMove after.second t oldest newer is.ds more (disk.seen new) in
      let Q : Bool → Type 0 = λ v.
      IsReadyToMove v (tail_after s.tail homes) oldest newer is.ds more (disk.seen new) in
      record {
        ds = is.ds;
        younger = more;
        parts = parts ∙ append_assoc is.ds is.younger (d ∷ []);
        ready = subst P (sym tail) (subst Q (sym second) (ready_kept s.second s.tail oldest contents is.ds is.younger
            homes records (disk.seen old) (disk.seen new) outside is.ready (subst H parts holds)));
      }

  stage_more : (s after : StoreValue) (stage : HomeStage) (contents : ℕ → List ℕ) (chain : List LogDescriptor)
      (old new : D) (homes records : List ℕ) → after.tail ≡ tail_after s.tail homes → after.second ≡ s.second
      → after.work ≡ s.work → IsSameOutside s.tail.log (disk.seen old) (disk.seen new)
      → Only (disk.may_leave new) (disk.seen new)
      → HoldsCommits s.second (tail_after s.tail homes) (committed_to contents homes records)
      (chain ++ next_logged s.tail homes ∷ []) (disk.seen new)
      → IsStageOver disk s stage contents chain old
      → IsStageOver disk after (stage_by stage None) (committed_to contents homes records)
      (chain ++ next_logged s.tail homes ∷ []) new
  stage_more s after Resting contents chain old new homes records tail second work outside only holds is = tt
  stage_more s after Copying contents chain old new homes records tail second work outside only holds is =
      let d : LogDescriptor = next_logged s.tail homes in
      let more : List LogDescriptor = is.younger ++ d ∷ [] in
      let newer : ℕ → List ℕ = committed_to contents homes records in
      let w : HomeWorkValue = s.work in
      let W : HomeWorkValue → Type 0 = λ v. IsWritingHome disk after v newer (chain ++ d ∷ []) new in
      let P : TailValue → Type 0 = λ t. AreOldest t w.oldest is.ds in
      let Q : TailValue → Type 0 = λ t. AreHome t.log newer is.ds more (take w.done w.homes) (disk.seen new) in
      let oldest : P (tail_after s.tail homes) =
      record { number = is.oldest.number; blocks = is.oldest.blocks } in
      let there : W w = record {
        ds = is.ds;
        younger = more;
        parts = ap (λ (l : List LogDescriptor). l ++ d ∷ []) is.parts ∙ append_assoc is.ds is.younger (d ∷ []);
        oldest = subst P (sym tail) oldest;
        all = is.all;
        home = subst Q (sym tail) (home_kept s.tail contents is.ds is.younger (take w.done w.homes) homes records
            (disk.seen old) (disk.seen new) outside is.home);
      } in
      subst W (sym work) there
  stage_more s after Written contents chain old new homes records tail second work outside only holds is =
      let W : HomeWorkValue → Type 0 = λ v. IsStartWritten disk after v.oldest (committed_to contents homes records)
      (chain ++ next_logged s.tail homes ∷ []) new in (
        subst W (sym work) (start_more s after s.work.oldest contents chain old new homes records tail second outside
            holds is),
        only,
      )
  stage_more s after Sure contents chain old new homes records tail second work outside only holds is =
      let W : HomeWorkValue → Type 0 = λ v. IsStartWritten disk after v.oldest (committed_to contents homes records)
      (chain ++ next_logged s.tail homes ∷ []) new in (
        subst W (sym work) (start_more s after s.work.oldest contents chain old new homes records tail second outside
            holds is.0),
        only,
      )

  -- what the parts of a store say once a commit is made, whose record is noted in the index
  pub record Committed (s after : StoreValue) (noted : Entries) (homes : List ℕ) (o : Option OldCommits) : Type 0 where
    pub tail : after.tail ≡ tail_after (tail_by s.tail o) homes
    pub second : after.second ≡ second_by s.second o
    pub stage : after.stage ≡ stage_by s.stage o
    pub work : after.work ≡ s.work
    pub records : (b : ℕ) → find_in noted b ≡ recorded_or s.tail.log.ring (find_in s.entries b)
        ((s.tail.position + log_descriptor_blocks (length homes)) % s.tail.log.ring) s.tail.number homes b
    pub found : (b : ℕ) → find_in after.entries b ≡ unless_old o (find_in noted b)

  module _ (s after : StoreValue) (noted : Entries) (contents : ℕ → List ℕ) (old new : D) (homes records : List ℕ)
      (over : IsStoreOver disk s contents old) (seen : disk.may_leave old (disk.seen old))
      (durable : Only (disk.may_leave new) (disk.seen new)) where
    abbrev d : LogDescriptor
    d = next_logged s.tail homes

    abbrev newer : ℕ → List ℕ
    newer = committed_to contents homes records

    before : HoldsCommits s.second s.tail contents over.chain (disk.seen old)
    before = over.holds (disk.seen old) seen

    place : s.tail.position ≡ chain_end s.tail.start.position over.chain % s.tail.log.ring
    place =
        before.held.position_is
        ∙ ap (λ (l : List LogDescriptor). chain_end s.tail.start.position l % s.tail.log.ring) before.chain_is

    index_more : {o : Option OldCommits} → Committed s after noted homes o
        → IsIndexOf s.tail.log s.tail.start.position (over.chain ++ d ∷ []) noted
    index_more is =
        index_noted s.tail.log s.tail.start.position s.tail.position
        ((s.tail.position + log_descriptor_blocks (length homes)) % s.tail.log.ring) over.chain d s.entries noted
        over.index place refl is.records

    holds_with : (o : Option OldCommits) (chain : List LogDescriptor) → Committed s after noted homes o
        → HoldsCommits (second_by s.second o) (tail_after (tail_by s.tail o) homes) newer chain (disk.seen new)
        → (c : List ℕ) → disk.may_leave new c → HoldsCommits after.second after.tail newer chain c
    holds_with o chain is holds c may =
        let P : TailValue → Type 0 = λ t. HoldsCommits after.second t newer chain (disk.seen new) in
        let Q : Bool → Type 0 = λ v.
        HoldsCommits v (tail_after (tail_by s.tail o) homes) newer chain (disk.seen new) in
        let R : List ℕ → Type 0 = λ l. HoldsCommits after.second after.tail newer chain l in
        subst R (sym (durable c may)) (subst P (sym is.tail) (subst Q (sym is.second) holds))

    committed_plain : Committed s after noted homes None
        → IsSameOutside s.tail.log (disk.seen old) (disk.seen new)
        → HoldsCommits s.second (tail_after s.tail homes) newer (over.chain ++ d ∷ []) (disk.seen new)
        → IsStoreOver disk after newer new
    committed_plain is outside holds =
        let S : TailValue → Type 0 = λ t. IsIndexOf t.log t.start.position (over.chain ++ d ∷ []) after.entries in
        let T : HomeStage → Type 0 = λ v. IsStageOver disk after v newer (over.chain ++ d ∷ []) new in
        record {
          chain = over.chain ++ d ∷ [];
          holds = holds_with None (over.chain ++ d ∷ []) is holds;
          index = subst S (sym is.tail) (λ b. is.found b ∙ index_more is b);
          work = subst T (sym is.stage) (stage_more s after s.stage contents over.chain old new homes records is.tail
              is.second is.work outside durable holds over.work);
        }

    committed_selecting : (oldest : OldCommits) (ds younger : List LogDescriptor) → over.chain ≡ ds ++ younger
        → AreOldest s.tail oldest ds → Committed s after noted homes (Some oldest)
        → HoldsCommits (not s.second) (tail_after (tail_behind s.tail oldest) homes) newer (younger ++ d ∷ [])
        (disk.seen new)
        → IsStoreOver disk after newer new
    committed_selecting oldest ds younger parts are is holds =
        let chain : List LogDescriptor = younger ++ d ∷ [] in
        let S : TailValue → Type 0 = λ t. IsIndexOf t.log t.start.position chain after.entries in
        let T : HomeStage → Type 0 = λ v. IsStageOver disk after v newer chain new in
        let H : List LogDescriptor → Type 0 = λ l. HoldsCommits s.second s.tail contents l (disk.seen old) in
        let I : List LogDescriptor → Type 0 = λ l. IsIndexOf s.tail.log s.tail.start.position (l ++ d ∷ []) noted in
        record {
          chain = chain;
          holds = holds_with (Some oldest) chain is holds;
          index = subst S (sym is.tail) (index_passed s.second s.tail contents oldest ds younger d (disk.seen old) noted
              after.entries (subst H parts before) are refl (subst I parts (index_more is)) is.found);
          work = subst T (sym is.stage) tt;
        }

    pub committed_store : (is : Parts s contents over.chain old) → Committed s after noted homes (selection s)
        → (selection s ≡ None → IsSameOutside s.tail.log (disk.seen old) (disk.seen new))
        → HoldsCommits (second_by s.second (selection s)) (tail_after (committing_tail s) homes) newer
        (is.younger ++ d ∷ []) (disk.seen new)
        → IsStoreOver disk after newer new
    committed_store is made outside holds = by (selection s) is.may made outside holds
      where
        by : (o : Option OldCommits) → IsSelectable disk s.second s.tail contents is.ds is.younger o old
            → Committed s after noted homes o
            → (o ≡ None → IsSameOutside s.tail.log (disk.seen old) (disk.seen new))
            → HoldsCommits (second_by s.second o) (tail_after (tail_by s.tail o) homes) newer (is.younger ++ d ∷ [])
            (disk.seen new)
            → IsStoreOver disk after newer new
        by None none made outside holds =
            let whole : over.chain ≡ is.younger =
            is.parts ∙ ap (λ (l : List LogDescriptor). l ++ is.younger) none in
            let H : List LogDescriptor → Type 0 = λ l.
            HoldsCommits s.second (tail_after s.tail homes) newer (l ++ d ∷ []) (disk.seen new) in
            committed_plain made (outside refl) (subst H (sym whole) holds)
        by (Some oldest) may made outside holds =
            committed_selecting oldest is.ds is.younger is.parts may.0.oldest_are made holds

  -- ---- the calls of the tail

  -- A commit of a tail by its second start or by its first one, which selects what `o` says: what its calls leave, and
  -- what the device holds then.
  abbrev pub Commits : Bool → TailValue → Option OldCommits → List ℕ → List ℕ → Bool → D → D → Type 0
  Commits second t o homes records done old new =
      (contents : ℕ → List ℕ) (ds younger : List LogDescriptor) → disk.is_honest old
      → ((c : List ℕ) → disk.may_leave old c → HoldsCommits second t contents (ds ++ younger) c)
      → IsSelectable disk second t contents ds younger o old
      → CommitLeaves disk (tail_by t o) contents homes records done old new

  abbrev pub Then : Bool → TailValue → Option OldCommits → List ℕ → List ℕ → (ℕ → List ℕ) → List LogDescriptor → D
      → Type 0
  Then second t o homes records contents younger new =
      HoldsCommits (second_by second o) (tail_after (tail_by t o) homes) (committed_to contents homes records)
      (younger ++ next_logged t homes ∷ []) (disk.seen new)

  abbrev pub Holds : Bool → TailValue → Option OldCommits → List ℕ → List ℕ → D → D → Type 0
  Holds second t o homes records old new =
      (contents : ℕ → List ℕ) (ds younger : List LogDescriptor) → disk.is_honest old
      → ((c : List ℕ) → disk.may_leave old c → HoldsCommits second t contents (ds ++ younger) c)
      → IsSelectable disk second t contents ds younger o old → Then second t o homes records contents younger new

  -- the log with its commits in the two parts
  both_hold : (s : StoreValue) (contents : ℕ → List ℕ) (old : D) (over : IsStoreOver disk s contents old)
      → (is : Parts s contents over.chain old)
      → (c : List ℕ) → disk.may_leave old c → HoldsCommits s.second s.tail contents (is.ds ++ is.younger) c
  both_hold s contents old over is c may =
      let P : List LogDescriptor → Type 0 = λ l. HoldsCommits s.second s.tail contents l c in
      subst P is.parts (over.holds c may)

  pub commit_leaves : {b s : StoreValue} {o : Option OldCommits} {homes records : List ℕ} {done : Bool} {old new : D}
      → b ≡ s → o ≡ selection b → Commits b.second b.tail o homes records done old new → (contents : ℕ → List ℕ)
      → disk.is_honest old → IsStoreOver disk s contents old
      → CommitLeaves disk (committing_tail s) contents homes records done old new
  commit_leaves {b} {s} {o} {homes} {records} {done} {old} {new} is chosen commits contents honest over =
      let Q : StoreValue → Type 0 = λ v. IsStoreOver disk v contents old
      → CommitLeaves disk (committing_tail v) contents homes records done old new in
      let own =
      subst (λ (v : Option OldCommits). Commits b.second b.tail v homes records done old new) chosen commits in
      subst Q is (λ whole.
      let parts = parts_of b contents old whole in
      own contents parts.ds parts.younger honest (both_hold b contents old whole parts) parts.may) over

  pub commit_over : {b s after : StoreValue} {noted : Entries} {o : Option OldCommits} {homes records : List ℕ}
      {old new : D} → b ≡ s → o ≡ selection b → (disk.is_honest old → disk.may_leave old (disk.seen old))
      → Committed b after noted homes o
      → (o ≡ None → disk.is_honest old → IsSameOutside b.tail.log (disk.seen old) (disk.seen new))
      → Commits b.second b.tail o homes records true old new → Holds b.second b.tail o homes records old new
      → (contents : ℕ → List ℕ)
      → disk.is_honest old → IsStoreOver disk s contents old
      → IsStoreOver disk after (committed_to contents homes records) new
  commit_over {b} {s} {after} {noted} {o} {homes} {records} {old} {new} is chosen seen made outside commits holds
      contents honest over =
      let Q : StoreValue → Type 0 = λ v. IsStoreOver disk v contents old
      → IsStoreOver disk after (committed_to contents homes records) new in
      let O : Option OldCommits → Type 0 = λ v. v ≡ None
      → IsSameOutside b.tail.log (disk.seen old) (disk.seen new) in
      subst Q is (λ whole.
      let parts = parts_of b contents old whole in
      let held = both_hold b contents old whole parts in
      let own =
      subst (λ (v : Option OldCommits). Commits b.second b.tail v homes records true old new) chosen commits in
      let then = subst (λ (v : Option OldCommits). Holds b.second b.tail v homes records old new) chosen holds in
      committed_store b after noted contents old new homes records whole (seen honest)
      ((own contents parts.ds parts.younger honest held parts.may).durable refl) parts
      (subst (λ (v : Option OldCommits). Committed b after noted homes v) chosen made)
      (subst O chosen (λ none. outside none honest))
      (then contents parts.ds parts.younger honest held parts.may)) over

  -- the commit is noted
  pub has_noted : {b after : StoreValue} {noted : Entries} {o : Option OldCommits} {homes : List ℕ}
      → o ≡ selection b → Committed b after noted homes o → HasNoted b after homes
  has_noted {b} {after} {noted} {o} {homes} chosen made =
      let own = subst (λ (v : Option OldCommits). Committed b after noted homes v) chosen made in
      record {
        tail = own.tail;
        second = own.second;
        stage = own.stage;
        work = own.work;
        found = λ k. own.found k ∙ ap (unless_old (selection b)) (own.records k);
      }

  -- a commit that makes no call
  pub refused_commit : (s : StoreValue) (contents : ℕ → List ℕ) (homes records : List ℕ) (old : D)
      → ((c : List ℕ) → disk.left_since old (disk.moment old) c → disk.may_leave old c)
      → IsStoreOver disk s contents old → CommitLeaves disk (committing_tail s) contents homes records false old old
  refused_commit s contents homes records old now over = by (selection s)
    where
      by : (o : Option OldCommits) → CommitLeaves disk (tail_by s.tail o) contents homes records false old old
      by None =
          let P : List ℕ → Type 0 = LeftByCommit s.tail contents homes records in
          record {
            crash = leaves_at_start {P = P}
                (λ c left. left_before s.tail contents homes records c (over.holds c (now c left)).held);
            durable = λ made. absurd (false≢true made);
            committed = λ made. absurd (false≢true made);
          }
      by (Some oldest) =
          let P : List ℕ → Type 0 = LeftByCommit (tail_behind s.tail oldest) contents homes records in
          record {
            crash = leaves_at_start {P = P}
                (λ c left.
                let is = left_before s.tail contents homes records c (over.holds c (now c left)).held in
                record { up_to = is.up_to; recovers = is.recovers });
            durable = λ made. absurd (false≢true made);
            committed = λ made. absurd (false≢true made);
          }
