-- A commit whose records are in the caller's room: what its calls leave, and what the device holds then.
use Rattle.std.proofs.Common.{◌≡◌, ◌*◌, ◌≤◌, ◌++◌, ◌∷◌, [], Bool, true, false, ℕ, List, length, inl, refl, sym, ap}
use Rattle.std.proofs.Common.{subst, ◌∙◌, arith}
use Rattle.std.specs.Prelude.{not, Result, IsErr, is_ok}
use Rattle.device.specs.declared.device.Device.{Ghosts}
use Rattle.log_codec.specs.Commit.{LogDescriptor, log_body, log_seal}
use Rattle.log_codec.specs.Log.{log_descriptor_blocks}
use Rattle.log_codec.specs.Start.{counts_second}
use Rattle.log_commits.specs.declared.behind.OldCommits.{OldCommits}
use Rattle.log_commits.specs.Calls.{DidAll}
use Rattle.log_commits.specs.Tail.{TailValue, IsTail, HoldsLog}
use Rattle.log_commits.specs.Commit.{CommitLeaves, MayCommit}
use Rattle.log_commits.specs.Commit.{commit_works, committed_to, next_logged, records_in, tail_after}
use Rattle.log_commits.specs.Behind.{HasCommits, HoldsCommits, IsReadyToMove, IsSameOutside, MayMove, tail_behind}
use Rattle.log_commits.specs.Selecting.{IsSureBy, selecting_works}
use Rattle.log_commits.proofs.Filling.{length-head_of, length-records}
use Rattle.log_commits.proofs.Left.{IsBegun, leaves, leaves_chain, leaves_outside}
use Rattle.log_commits.proofs.Moving.{is_failed}
use Rattle.log_commits.proofs.Selected.{selecting_left, selecting_leaves}

module _ {D : Type 0} (disk : Ghosts D) (t : TailValue) (homes room : List ℕ) (tail : IsTail t)
    (may : MayCommit t homes (length room)) (old : D) (long : 4096 * t.log.blocks ≤ length (disk.seen old))
    (seen_is_left : (device : D) → disk.is_honest device → disk.may_leave device (disk.seen device)) where
  abbrev records : List ℕ
  records = records_in homes room

  head_size : length (log_seal t.log.sealing t.start.epoch (next_logged t homes) records
      ++ log_body (next_logged t homes)) ≡ 4096 * log_descriptor_blocks (length homes)
  head_size = length-head_of t.log.sealing t.start.epoch (next_logged t homes) records may.size.few

  records_size : length records ≡ 4096 * length homes
  records_size = length-records homes room may.room_is

  abbrev begun : (contents : ℕ → List ℕ) → disk.is_honest old
      → ((c : List ℕ) → disk.may_leave old c → HoldsLog t contents c)
      → IsBegun disk t contents homes records (length room) old
  begun contents honest held = record {
    log = tail.log;
    may = may;
    head_size = head_size;
    records_size = records_size;
    honest = honest;
    long = long;
    held = held;
    seen_is_left = seen_is_left;
  }

  pub room_outside : {new : D} (done : Bool) → DidAll disk old (commit_works t homes records) done new
      → disk.is_honest old → IsSameOutside t.log (disk.seen old) (disk.seen new)
  room_outside {new} done did honest =
      leaves_outside disk t homes records (length room) tail.log may head_size records_size old new long done did
      honest

  pub room_leaves : {new : D} (contents : ℕ → List ℕ) → disk.is_honest old
      → ((c : List ℕ) → disk.may_leave old c → HoldsLog t contents c)
      → (done : Bool) → DidAll disk old (commit_works t homes records) done new
      → CommitLeaves disk t contents homes records done old new
  room_leaves {new} contents honest held done did =
      leaves (begun contents honest held) done did

  pub room_commits : {new : D} (second : Bool) (contents : ℕ → List ℕ) (chain : List LogDescriptor)
      → disk.is_honest old → HasCommits disk second t contents chain old
      → DidAll disk old (commit_works t homes records) true new
      → HoldsCommits second (tail_after t homes) (committed_to contents homes records)
      (chain ++ next_logged t homes ∷ []) (disk.seen new)
  room_commits {new} second contents chain honest held did =
      let more = leaves_chain (begun contents honest (λ x left. (held x left).held)) true did refl in
      let before = held (disk.seen old) (seen_is_left old honest) in
      let same = room_outside true did honest in
      let next : LogDescriptor = next_logged t homes in
      record {
        held = more.0;
        chain_is = more.1 ∙ ap (λ (l : List LogDescriptor). l ++ next ∷ []) before.chain_is;
        selected = before.selected ∙ ap counts_second (sym (same.places 4096 (inl (omega arith))));
      }

  pub room_selecting : {new : D} (contents : ℕ → List ℕ) (oldest : OldCommits) → MayMove t oldest → (second : Bool)
      (ds younger : List LogDescriptor) → disk.is_honest old
      → HasCommits disk second t contents (ds ++ younger) old
      → IsReadyToMove second t oldest contents ds younger (disk.seen old) → IsSureBy disk t.log.sealing old
      → (done : Bool) → DidAll disk old (selecting_works t second homes records) done new
      → CommitLeaves disk (tail_behind t oldest) contents homes records done old new
  room_selecting {new} contents oldest can second ds younger honest held ready sure done did =
      selecting_leaves disk t contents homes records (length room) oldest tail.log may can second ds younger head_size
      records_size old honest long held ready seen_is_left done sure did

  pub room_selected : {new : D} (contents : ℕ → List ℕ) (oldest : OldCommits) → MayMove t oldest → (second : Bool)
      (ds younger : List LogDescriptor) → disk.is_honest old
      → HasCommits disk second t contents (ds ++ younger) old
      → IsReadyToMove second t oldest contents ds younger (disk.seen old) → IsSureBy disk t.log.sealing old
      → DidAll disk old (selecting_works t second homes records) true new
      → HoldsCommits (not second) (tail_after (tail_behind t oldest) homes) (committed_to contents homes records)
      (younger ++ next_logged t homes ∷ []) (disk.seen new)
  room_selected {new} contents oldest can second ds younger honest held ready sure did =
      (selecting_left disk t contents homes records (length room) oldest tail.log may can second ds younger head_size
      records_size old honest long held ready seen_is_left true sure did).committed refl

-- a call that failed leaves what it does by its answer
pub by_answer : {D T E : Type 0} (disk : Ghosts D) {t : TailValue} {contents : ℕ → List ℕ} {homes records : List ℕ}
    {old new : D} (result : Result T E) → IsErr result → CommitLeaves disk t contents homes records false old new
    → CommitLeaves disk t contents homes records (is_ok result) old new
by_answer disk {t} {contents} {homes} {records} {old} {new} result failed left =
    subst (λ (b : Bool). CommitLeaves disk t contents homes records b old new) (sym (is_failed result failed)) left
