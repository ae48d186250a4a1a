-- A pager that is over its device stays so.
use Rattle.std.proofs.Common.{◌≡◌, ℕ, ◌+◌, ◌-◌, ◌*◌, ◌<◌, ◌≤◌, List, [], ◌++◌, length, inl, inr, refl, sym, ap}
use Rattle.std.proofs.Common.{subst, ◌∙◌, arith, Bool}
use Rattle.std.specs.Prelude.{Result, Ok, Err, OnOk, OnErr, Option, Some, None}
use Rattle.device.specs.declared.device.Device.{Ghosts}
use Rattle.device.specs.Device.{LeavesOnly}
use Rattle.device.proofs.Public.{leaves_at_start}
use Rattle.volume_codec.specs.Descriptor.{RiseWithin}
use Rattle.log_codec.specs.Log.{LogValue, first_log_home}
use Rattle.log_codec.specs.Commit.{LogDescriptor}
use Rattle.log_codec.specs.Chain.{IsLogHome, LogRecovers}
use Rattle.log_commits.specs.Tail.{TailValue}
use Rattle.log_commits.proofs.Public.{left_before}
use Rattle.log_commits.specs.Commit.{LeftByCommit, committed_to}
use Rattle.log_commits.specs.Behind.{HoldsCommits}
use Rattle.log_commits.specs.declared.behind.OldCommits.{OldCommits}
use Rattle.log_store.specs.declared.stage.HomeStage.{HomeStage}
use Rattle.log_store.specs.declared.stage.HomeStage.TheVariants.{Resting, Copying, Written, Sure}
use Rattle.log_store.specs.declared.fault.Progress.{Progress}
use Rattle.log_store.specs.Store.{StoreValue, IsStoreOver, IsStageOver, IsStartWritten, StepsBy, committing_tail}
use Rattle.log_store.specs.Store.{selection, tail_by}
use Rattle.log_store.proofs.Public.{step_cases}
use Rattle.kept_blocks.specs.Blocks.{Blocks, AreWholeBlocks, homes_in, with_home, with_zeros, without_run, cut_in}
use Rattle.kept_blocks.proofs.Public.{rising_put, rising_zeros, rising_without, homes_cut}
use Rattle.log_pager.specs.Pager.{LogPagerValue, IsPagerOver, LeftByPut, contents_put, records_put}
use Rattle.log_pager.proofs.Blocks.{contents_none, committed_is}

module _ {D : Type 0} (disk : Ghosts D) (f h : ℕ → List ℕ) (same : (b : ℕ) → h b ≡ f b) where
  holds_as : (second : Bool) (t : TailValue) (chain : List LogDescriptor) (bytes : List ℕ)
      → HoldsCommits second t f chain bytes → HoldsCommits second t h chain bytes
  holds_as second t chain bytes is = record {
    held = record {
      chain = is.held.chain;
      log = is.held.log;
      next = is.held.next;
      position_is = is.held.position_is;
      number_is = is.held.number_is;
      used_is = is.held.used_is;
      contents_are = λ b home. same b ∙ is.held.contents_are b home;
    };
    chain_is = is.chain_is;
    selected = is.selected;
  }

  start_as : (s : StoreValue) (oldest : OldCommits) (chain : List LogDescriptor) (device : D)
      → IsStartWritten disk s oldest f chain device → IsStartWritten disk s oldest h chain device
  start_as s oldest chain device is = record {
    ds = is.ds;
    younger = is.younger;
    parts = is.parts;
    ready = record {
      holds = holds_as s.second s.tail (is.ds ++ is.younger) (disk.seen device) is.ready.holds;
      oldest_are = is.ready.oldest_are;
      start = is.ready.start;
      written = λ b is_home logged. elim (is.ready.written b is_home logged) [
        | inl younger ↦ inl younger
        | inr there ↦ inr (there ∙ sym (same b))
      ];
    };
  }

  stage_as : (s : StoreValue) (stage : HomeStage) (chain : List LogDescriptor) (device : D)
      → IsStageOver disk s stage f chain device → IsStageOver disk s stage h chain device
  stage_as s Resting chain device is = tt
  stage_as s Copying chain device is = record {
    ds = is.ds;
    younger = is.younger;
    parts = is.parts;
    oldest = is.oldest;
    all = is.all;
    home = λ b has is_home logged. elim (is.home b has is_home logged) [
      | inl younger ↦ inl younger
      | inr there ↦ inr (there ∙ sym (same b))
    ];
  }
  stage_as s Written chain device is = start_as s s.work.oldest chain device is
  stage_as s Sure chain device is = (start_as s s.work.oldest chain device is.0, is.1)

  pub store_as : (s : StoreValue) (device : D) → IsStoreOver disk s f device → IsStoreOver disk s h device
  store_as s device is = record {
    chain = is.chain;
    holds = λ c may. holds_as s.second s.tail is.chain c (is.holds c may);
    index = is.index;
    work = stage_as s s.stage is.chain device is.work;
  }

-- what a crash within a commit of the blocks leaves, by the tail of the store
pub left_as : (s : StoreValue) (contents : ℕ → List ℕ) (es : Blocks) → AreWholeBlocks es → (c : List ℕ)
    → LeftByCommit (committing_tail s) contents (homes_in es) (records_put es) c → LeftByPut s.tail contents es c
left_as s contents es whole c left = by (selection s) left
  where
    with_blocks : LogRecovers s.tail.log (committed_to contents (homes_in es) (records_put es)) c
        → LogRecovers s.tail.log (contents_put contents es) c
    with_blocks after = record {
      start = after.start;
      chain = after.chain;
      log = after.log;
      contents_are = λ b home. sym (committed_is contents es whole b) ∙ after.contents_are b home;
    }

    by : (o : Option OldCommits) → LeftByCommit (tail_by s.tail o) contents (homes_in es) (records_put es) c
        → LeftByPut s.tail contents es c
    by None is = record {
      up_to = is.up_to;
      recovers = λ tells. elim (is.recovers tells) [ inl before ↦ inl before | inr after ↦ inr (with_blocks after) ];
    }
    by (Some oldest) is = record {
      up_to = is.up_to;
      recovers = λ tells. elim (is.recovers tells) [ inl before ↦ inl before | inr after ↦ inr (with_blocks after) ];
    }

-- what one leaves before any device call
pub put_refused : {D : Type 0} (disk : Ghosts D) (s : LogPagerValue D) (contents : ℕ → List ℕ)
    → AreWholeBlocks s.staged
    → ((c : List ℕ) → disk.left_since s.device (disk.moment s.device) c → disk.may_leave s.device c)
    → IsPagerOver disk s contents
    → LeavesOnly disk.moment disk.left_since s.device s.device (LeftByPut s.store.tail contents s.staged)
put_refused disk s contents whole now over =
    leaves_at_start {P = LeftByPut s.store.tail contents s.staged} (λ c left.
    let t : TailValue = s.store.tail in
    let is = left_before t contents (homes_in s.staged) (records_put s.staged) c (over.store.holds c (now c left)).held
    in record {
      up_to = is.up_to;
      recovers = λ tells. elim (is.recovers tells) [
        | inl before ↦ inl before
        | inr after ↦ inr (record {
          start = after.start;
          chain = after.chain;
          log = after.log;
          contents_are = λ b home. sym (committed_is contents s.staged whole b) ∙ after.contents_are b home;
        })
      ];
    })

-- the same, by the parts of the pager
pub refused_in : {D : Type 0} (disk : Ghosts D) {inside self : LogPagerValue D} → inside ≡ self
    → AreWholeBlocks inside.staged
    → ((device : D) (c : List ℕ) → disk.left_since device (disk.moment device) c → disk.may_leave device c)
    → (contents : ℕ → List ℕ) → IsPagerOver disk self contents
    → LeavesOnly disk.moment disk.left_since self.device self.device (LeftByPut self.store.tail contents self.staged)
refused_in {D} disk {inside} {self} is whole now contents over =
    let P : LogPagerValue D → Type 0 = λ v. AreWholeBlocks v.staged in
    put_refused disk self contents (subst P is whole) (now self.device) over

-- a step keeps the geometry
pub steps_log : (old : StoreValue) (stage : HomeStage) (new : StoreValue) (progress : Progress)
    → StepsBy old stage new progress → new.tail.log ≡ old.tail.log
steps_log old stage new progress =
    let P : HomeStage → Progress → StoreValue → Type 0 = λ v made s. s.tail.log ≡ old.tail.log in
    step_cases old new P (λ none. refl) (λ used. refl) (λ apart. refl) (λ done. refl) refl
    (λ has. ap (λ (t : TailValue). t.log) has.tail) stage progress

module _ {D : Type 0} (disk : Ghosts D) (s t : LogPagerValue D) (contents : ℕ → List ℕ)
    (log : t.store.tail.log ≡ s.store.tail.log)
    (size : length (disk.seen t.device) ≡ length (disk.seen s.device)) where
  long_kept : IsPagerOver disk s contents → 4096 * t.store.tail.log.blocks ≤ length (disk.seen t.device)
  long_kept over =
      let blocks : t.store.tail.log.blocks ≡ s.store.tail.log.blocks = ap (λ (g : LogValue). g.blocks) log in
      omega (arith, over.long, size, blocks)

  -- with the same blocks put
  pub pager_kept : t.staged ≡ s.staged → IsStoreOver disk t.store contents t.device
      → IsPagerOver disk s contents → IsPagerOver disk t contents
  pager_kept staged store over =
      let P : LogValue → Type 0 = λ g. RiseWithin (first_log_home g.ring) g.blocks (homes_in s.staged) in
      let Q : List (ℕ × List ℕ) → Type 0 = λ l.
      RiseWithin (first_log_home t.store.tail.log.ring) t.store.tail.log.blocks (homes_in l) in
      record { store = store; long = long_kept over; rising = subst Q (sym staged) (subst P (sym log) over.rising) }

  -- with none put
  pub pager_emptied : (newer : ℕ → List ℕ) → t.staged ≡ [] → IsStoreOver disk t.store newer t.device
      → IsPagerOver disk s contents → IsPagerOver disk t newer
  pager_emptied newer staged store over =
      let Q : List (ℕ × List ℕ) → Type 0 = λ l.
      RiseWithin (first_log_home t.store.tail.log.ring) t.store.tail.log.blocks (homes_in l) in
      record { store = store; long = long_kept over; rising = subst Q (sym staged) tt }

-- with other blocks put, or not
by_result : {X E : Type 0} (r : Result X E) (P Q R : Type 0) → OnOk r P → OnErr r Q → (P → R) → (Q → R) → R
by_result (Ok x) P Q R p q f g = f p
by_result (Err e) P Q R p q f g = g q

module _ {X E D : Type 0} (disk : Ghosts D) (r : Result X E) (s : LogPagerValue D) (contents : ℕ → List ℕ)
    (new : Blocks) where
  abbrev low : ℕ
  low = first_log_home s.store.tail.log.ring

  abbrev high : ℕ
  high = s.store.tail.log.blocks

  staged_over : (added : Blocks) → (RiseWithin low high (homes_in s.staged) → RiseWithin low high (homes_in added))
      → OnOk r (new ≡ added) → OnErr r (new ≡ s.staged)
      → IsPagerOver disk s contents → IsPagerOver disk (record s { staged = new }) contents
  staged_over added rises ok err over =
      let P : Blocks → Type 0 = λ l. RiseWithin low high (homes_in l) in
      let Q : Type 0 = IsPagerOver disk (record s { staged = new }) contents in
      let there : P new → Q = λ rising. record { store = over.store; long = over.long; rising = rising } in
      by_result r (new ≡ added) (new ≡ s.staged) Q ok err
      (λ is. there (subst P (sym is) (rises over.rising))) (λ is. there (subst P (sym is) over.rising))

  pub put_over : (home : ℕ) (v : List ℕ) → IsLogHome s.store.tail.log home
      → OnOk r (new ≡ with_home s.staged home v) → OnErr r (new ≡ s.staged)
      → IsPagerOver disk s contents → IsPagerOver disk (record s { staged = new }) contents
  put_over home v is_home = staged_over (with_home s.staged home v)
      (λ rising. rising_put s.staged low high home v rising is_home.low is_home.high)

  pub grown_over : (home end first : ℕ) (last text : List ℕ) → IsLogHome s.store.tail.log first → end ≤ high
      → first < home → home < end
      → OnOk r (new ≡ with_home (with_home (with_zeros s.staged (home + 1) (end - (home + 1))) home last) first text)
      → OnErr r (new ≡ s.staged) → IsPagerOver disk s contents
      → IsPagerOver disk (record s { staged = new }) contents
  grown_over home end first last text is_home fits before lt =
      let least : low ≤ first = is_home.low in
      let zeros : Blocks = with_zeros s.staged (home + 1) (end - (home + 1)) in
      staged_over (with_home (with_home zeros home last) first text)
      (λ rising. rising_put (with_home zeros home last) low high first text
      (rising_put zeros low high home last
      (rising_zeros s.staged low high (home + 1) (end - (home + 1)) rising (omega (arith, least, before))
      (omega (arith, fits, lt))) (omega (arith, least, before)) (omega (arith, fits, lt)))
      least is_home.high)

  pub shrunk_over : (from to home left first : ℕ) (text : List ℕ) → IsLogHome s.store.tail.log first
      → OnOk r (new ≡ with_home (cut_in (without_run s.staged from to) home left) first text)
      → OnErr r (new ≡ s.staged) → IsPagerOver disk s contents
      → IsPagerOver disk (record s { staged = new }) contents
  shrunk_over from to home left first text is_home =
      let kept : Blocks = without_run s.staged from to in
      staged_over (with_home (cut_in kept home left) first text)
      (λ rising. rising_put (cut_in kept home left) low high first text
      (subst (RiseWithin low high) (sym (homes_cut kept home left)) (rising_without from to low high s.staged rising))
      is_home.low is_home.high)

-- none put: the contents are those of the commits
pub none_put : {D : Type 0} (disk : Ghosts D) (s : LogPagerValue D) (contents : ℕ → List ℕ) → length s.staged ≡ 0
    → IsPagerOver disk s contents → IsPagerOver disk s (contents_put contents s.staged)
none_put disk s contents none over = record {
  store = store_as disk contents (contents_put contents s.staged) (contents_none contents s.staged none) s.store
      s.device over.store;
  long = over.long;
  rising = over.rising;
}
