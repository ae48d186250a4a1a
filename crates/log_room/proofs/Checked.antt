-- A commit, after which the log is read behind its tail.
use Rattle.std.proofs.Common.{◌≡◌, ◌≢◌, ◌⊎◌, ◌≤◌, ℕ, ◌+◌, List, [], ◌∷◌, refl, sym, ap, subst, ◌∙◌, length, inl, inr}
use Rattle.std.proofs.Common.{arith}
use Rattle.std.specs.Prelude.{⊤, Result, Ok, Err}
use Rattle.device.specs.declared.device.Device.{Ghosts}
use Rattle.device.specs.Device.{LeavesOnly}
use Rattle.device.proofs.Public.{leaves_then, leaves_weaker}
use Rattle.kept_blocks.specs.Blocks.{Blocks}
use Rattle.log_codec.specs.declared.sealing.Sealing.TheVariants.{ByByte}
use Rattle.log_codec.specs.Log.{LogValue}
use Rattle.log_codec.specs.Chain.{LogRecovers}
use Rattle.log_commits.specs.Tail.{EndsAtTail}
use Rattle.log_store.specs.Store.{IsStoreOver, StoreValue}
use Rattle.log_store.proofs.Public.{read_only}
use Rattle.log_pager.specs.declared.fault.PagerFault.{PagerFault}
use Rattle.log_pager.specs.Pager.{LogPagerValue, IsPagerOver, contents_put}
use Rattle.log_pager.proofs.Public.{none_put, pager_kept}
use Rattle.log_room.specs.Room.{commits_of}
use Rattle.log_room.specs.inside.Leading.{ChecksEnd, Commits, CommitsPut, HasStepped, Leads}

module _ {D : Type 0} (disk : Ghosts D)
    (now_is_since : (d : D) (r : ℕ) (c : List ℕ) → r ≤ disk.moment d → disk.may_leave d c → disk.left_since d r c) where
  -- a pager that was only read
  pub over_read : (result : Result ⊤ PagerFault) (b c : LogPagerValue D) → ChecksEnd disk b result c
      → (contents : ℕ → List ℕ) → IsPagerOver disk b contents → IsPagerOver disk c contents
  over_read result b c check contents over =
      let store = ap (λ (p : LogPagerValue D). p.store) check.state in
      let read = read_only disk b.store contents b.device c.device check.read.same check.read.left over.store in
      pager_kept disk b c contents (ap (λ (s : StoreValue). s.tail.log) store) check.len
      (ap (λ (p : LogPagerValue D). p.staged) check.state)
      (subst (λ (s : StoreValue). IsStoreOver disk s contents c.device) (sym store) read) over

  pub leads_checked : (result : Result ⊤ PagerFault) (a b c : LogPagerValue D) → Leads disk a b
      → ChecksEnd disk b result c → Leads disk a c
  leads_checked result a b c leads check = record {
    log = ap (λ (p : LogPagerValue D). p.store.tail.log) check.state ∙ leads.log;
    len = check.len ∙ leads.len;
    honest = (
      λ well. leads.honest.0 (check.read.honest.0 well),
      λ well. check.read.honest.1 (leads.honest.1 well),
    );
    later = omega (arith, leads.later, check.read.time.later);
    held = λ contents is.
        leaves_then (leads.held contents is) (leaves_weaker check.read.time (λ x left.
        (leads.held contents is).each x (now_is_since b.device (disk.moment a.device) x leads.later left)));
    leaves = λ contents is byte.
        let sealed = ap (λ (g : LogValue). g.sealing) leads.log ∙ byte in
        subst (λ (p : LogPagerValue D). LeavesOnly disk.moment disk.left_since a.device p.device
        (λ x. LogRecovers a.store.tail.log contents x
        ⊎ LogRecovers a.store.tail.log (contents_put contents a.staged) x)) (sym (check.byte sealed).1)
        (leads.leaves contents is byte);
    first = λ text has.
        let before = leads.first text has in
        record {
          crash = leaves_then before.crash (leaves_weaker check.read.time before.left);
          left = λ x left. before.left x (check.read.left x left);
        };
  }

  -- ---- a commit

  none_there : (blocks : Blocks) → length blocks ≡ 0 → blocks ≡ []
  none_there [] none = refl
  none_there (block ∷ blocks) none = absurd (omega (arith, none))

  none_more : (n : ℕ) (blocks : Blocks) → length blocks ≡ 0 → n ≡ n + commits_of blocks
  none_more n [] none = omega arith
  none_more n (block ∷ blocks) none = absurd (omega (arith, none))

  one_more : (n m : ℕ) (blocks : Blocks) → blocks ≢ [] → m ≡ n + 1 → m ≡ n + commits_of blocks
  one_more n m [] some is = absurd (some refl)
  one_more n m (block ∷ blocks) some is = is

  pub commit_none : (a : LogPagerValue D) → HasStepped disk a a → length a.staged ≡ 0
      → Commits disk a (Ok tt) a
  commit_none a stepped none = record {
    leads = stepped.leads;
    value = none_there a.staged none;
    kept = tt;
    puts = λ contents is. none_put disk a contents none is.over;
    numbers = none_more a.store.tail.number a.staged none;
    ends = λ contents is ended. ended;
    stays = tt;
    end = tt;
  }

  pub commit_failed : {fault : PagerFault} {a b : LogPagerValue D} → CommitsPut disk a (Err fault) b
      → Commits disk a (Err fault) b
  commit_failed made = record {
    leads = made.leads;
    value = tt;
    kept = λ other. made.kept;
    puts = tt;
    numbers = tt;
    ends = tt;
    stays = made.stays;
    end = made.end;
  }

  module _ {a b c : LogPagerValue D} (made : CommitsPut disk a (Ok tt) b) where
    pub commit_checked : ChecksEnd disk b (Ok tt) c → Commits disk a (Ok tt) c
    commit_checked check = record {
      leads = leads_checked (Ok tt) a b c made.leads check;
      value = ap (λ (p : LogPagerValue D). p.staged) check.state ∙ made.value;
      kept = tt;
      puts = λ contents is.
          over_read (Ok tt) b c check (contents_put contents a.staged) (made.puts contents is);
      numbers =
          let same = ap (λ (p : LogPagerValue D). p.store.tail.number) check.state in
          one_more a.store.tail.number c.store.tail.number a.staged made.some (same ∙ made.number);
      ends = λ contents is ended x left.
          let seen = made.sure contents is x (check.read.left x left) in
          let there = check.ends (made.leads.honest.1 is.honest) in
          let at_b : EndsAtTail b.store.tail x = subst (EndsAtTail b.store.tail) (sym seen) there in
          subst (λ (p : LogPagerValue D). EndsAtTail p.store.tail x) (sym check.state) at_b;
      stays = tt;
      end = tt;
    }

    pub commit_unchecked : {fault : PagerFault} → ChecksEnd disk b (Err fault) c → Commits disk a (Err fault) c
    commit_unchecked {fault} check = record {
      leads = leads_checked (Err fault) a b c made.leads check;
      value = tt;
      kept = λ is. elim is [
        | inl other ↦ absurd (other check.failed)
        | inr byte ↦ absurd (sealed_fails check (ap (λ (g : LogValue). g.sealing) made.leads.log ∙ byte))
      ];
      puts = tt;
      numbers = tt;
      ends = tt;
      stays = λ not_commit not_move. absurd (not_commit check.failed);
      end = λ not_commit. absurd (not_commit check.failed);
    }
      where
        sealed_fails : {fault : PagerFault} → ChecksEnd disk b (Err fault) c → b.store.tail.log.sealing ≡ ByByte → ⊥
        sealed_fails {fault} check byte = absurd (cc (check.byte byte).0)

  pub commit_read : (result : Result ⊤ PagerFault) {a b c : LogPagerValue D} → CommitsPut disk a (Ok tt) b
      → ChecksEnd disk b result c → Commits disk a result c
  commit_read (Ok x) made check = commit_checked made check
  commit_read (Err fault) made check = commit_unchecked made check
