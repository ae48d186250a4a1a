-- What the calls leave that write home and move the start.
use Rattle.std.proofs.Common.{◌≡◌, ℕ, ◌+◌, ◌-◌, ◌*◌, ◌%◌, ◌<◌, ◌≤◌, ◌^◌, List, [], ◌∷◌, ◌++◌}
use Rattle.std.proofs.Common.{Bool, true, false, length, get_or, inl, inr, refl, sym, ap, subst, ◌∙◌, arith}
use Rattle.std.specs.Prelude.{not, Result, Ok, Err, IsErr, is_ok}
use Rattle.std.proofs.lemmas.Bool.{false≢true}
use Rattle.std.proofs.lemmas.Nat.{mod_below}
use Rattle.std.proofs.lemmas.List.{take_all}
use Rattle.volume_codec.specs.Layout.{block_at}
use Rattle.device.specs.Device.{written, Torn, TornFrom, Only}
use Rattle.device.specs.Work.{WriteAt, CopyBlock, Sync}
use Rattle.device.specs.Did.{Did}
use Rattle.device.specs.declared.device.Device.{Ghosts}
use Rattle.device.proofs.Public.{leaves_at_start, leaves_weaker, leaves_then, done_seen, written_within}
use Rattle.log_codec.specs.declared.start.LogStart.{LogStart}
use Rattle.log_codec.specs.Log.{IsLog, first_log_home}
use Rattle.log_codec.specs.Start.{IsLogStart, start_block, start_text, counts_second}
use Rattle.log_codec.specs.Commit.{LogDescriptor}
use Rattle.log_commits.specs.declared.behind.OldCommits.{OldCommits}
use Rattle.log_commits.specs.Calls.{DidAll}
use Rattle.log_commits.specs.Tail.{TailValue}
use Rattle.log_commits.specs.Homes.{IsLoggedHome, AreWrittenHome}
use Rattle.log_commits.specs.Behind.{HoldsCommits, AreOldest, IsReadyToMove, LeavesCommits, LeftUnchanged, MoveLeaves}
use Rattle.log_commits.specs.Behind.{start_behind, tail_behind, selecting, start_work, select_works, move_works}
use Rattle.log_commits.proofs.Kept.{start_most, selects, homes_torn, other_torn, length-start_text}
use Rattle.log_commits.proofs.Kept.{written_block, written_elsewhere, moves, either}
use Rattle.log_commits.proofs.Told.{left_unchanged}
use Rattle.log_commits.proofs.Works.{one_did}

pub is_failed : {T E : Type 0} (result : Result T E) → IsErr result → is_ok result ≡ false
is_failed (Ok x) is = absurd (false≢true is)
is_failed (Err e) is = refl

module _ {D : Type 0} (disk : Ghosts D) (t : TailValue) (contents : ℕ → List ℕ) (second : Bool)
    (chain : List LogDescriptor) (old : D)
    (held : (c : List ℕ) → disk.may_leave old c → HoldsCommits second t contents chain c) where
  abbrev Holds : List ℕ → Type 0
  Holds = HoldsCommits second t contents chain

  -- no call was made
  pub leaves_as_before : ((c : List ℕ) → disk.left_since old (disk.moment old) c → disk.may_leave old c)
      → LeavesCommits disk second t contents chain old old
  leaves_as_before now = record {
    crash = leaves_at_start {P = Holds} (λ c left. held c (now c left));
    left = held;
  }

  pub leaves_home : {new : D} (done : Bool) (home : ℕ) (bytes : List ℕ) → IsLog t.log
      → first_log_home t.log.ring ≤ home
      → ((b : ℕ) → home ≤ b → 4096 * b < 4096 * home + length bytes → IsLoggedHome chain b)
      → Did disk old (WriteAt (4096 * home) bytes) done new → LeavesCommits disk second t contents chain old new
  leaves_home {new} done home bytes log first logged did =
      let torn : (c : List ℕ) → TornFrom (4096 * home) (length bytes) (disk.may_leave old) c → Holds c = λ c from.
      homes_torn t contents from.0 c log second chain (held from.0 from.1) home (length bytes) first logged from.2 in
      record { crash = leaves_weaker did.time torn; left = λ c may. torn c (did.left c may) }

  pub leaves_copy : {new : D} (done : Bool) (block home : ℕ) → IsLog t.log → first_log_home t.log.ring ≤ home
      → IsLoggedHome chain home → Did disk old (CopyBlock block home) done new
      → LeavesCommits disk second t contents chain old new
  leaves_copy {new} done block home log first logged did =
      let P : ℕ → Type 0 = λ b. IsLoggedHome chain b in
      let torn : (c : List ℕ) → TornFrom (4096 * home) 4096 (disk.may_leave old) c → Holds c = λ c from.
      homes_torn t contents from.0 c log second chain (held from.0 from.1) home 4096 first
      (λ b least most. subst P (omega arith) logged) from.2 in
      record { crash = leaves_weaker did.time torn; left = λ c may. torn c (did.left c may) }

  pub leaves_sync : {new : D} (done : Bool) → Did disk old Sync done new
      → LeavesCommits disk second t contents chain old new
  leaves_sync done did = record { crash = leaves_weaker did.time held; left = λ c may. held c (did.left c may) }

  pub leaves_start : {new : D} (done : Bool) (s : LogStart) → IsLog t.log
      → Did disk old (WriteAt (4096 * start_block (not second)) (start_text s)) done new
      → LeavesCommits disk second t contents chain old new
  leaves_start {new} done s log did =
      let torn : (c : List ℕ)
      → TornFrom (4096 * start_block (not second)) (length (start_text s)) (disk.may_leave old) c → Holds c =
      λ c from.
      let P : ℕ → Type 0 = λ n. Torn (4096 * start_block (not second)) n from.0 c in
      other_torn t contents from.0 c log second chain (held from.0 from.1) (subst P (length-start_text s) from.2) in
      record { crash = leaves_weaker did.time torn; left = λ c may. torn c (did.left c may) }

-- ---- the start is selected

module _ {D : Type 0} (disk : Ghosts D) (t : TailValue) (contents : ℕ → List ℕ) (oldest : OldCommits)
    (log : IsLog t.log) (second : Bool) (ds younger : List LogDescriptor)
    (seen_is_left : (device : D) → disk.is_honest device → disk.may_leave device (disk.seen device)) where
  abbrev Left : List ℕ → Type 0
  Left = LeftUnchanged t contents

  abbrev Leaves : D → Bool → D → Type 0
  Leaves old done new = MoveLeaves disk second t oldest contents younger done old new

  -- no call was made
  pub leaves_refused : (old : D) (done : Bool) → done ≡ false
      → ((c : List ℕ) → disk.left_since old (disk.moment old) c → disk.may_leave old c)
      → ((c : List ℕ) → disk.may_leave old c → HoldsCommits second t contents (ds ++ younger) c)
      → Leaves old done old
  leaves_refused old done failed now held = record {
    crash = leaves_at_start {P = Left} (λ c left. left_unchanged t contents c (held c (now c left)).held);
    durable = λ made. absurd (false≢true (sym failed ∙ made));
    moved = λ made. absurd (false≢true (sym failed ∙ made));
  }

  -- a sync that was made sure of
  durable_by : {mid new : D} (done : Bool) → disk.is_honest mid → Did disk mid Sync done new → done ≡ true
      → Only (disk.may_leave new) (disk.seen new)
  durable_by {mid} {new} done is did made = λ c may.
      did.durable is made refl c may ∙ sym (done_seen did is made)

  module _ (old : D) (honest : disk.is_honest old) (only : Only (disk.may_leave old) (disk.seen old))
      (ready : IsReadyToMove second t oldest contents ds younger (disk.seen old)) where
    torn_byte : (c : List ℕ) → TornFrom 4096 1 (disk.may_leave old) c → Torn 4096 1 (disk.seen old) c
    torn_byte c from =
        let P : List ℕ → Type 0 = λ l. Torn 4096 1 l c in subst P (only from.0 from.1) from.2

    by_byte : (c : List ℕ) → TornFrom 4096 1 (disk.may_leave old) c → Left c
    by_byte c from =
        either t contents oldest log second ds younger (disk.seen old) ready c (torn_byte c from)

    pub select_leaves : {new : D} (done : Bool) → 16384 ≤ length (disk.seen old)
        → DidAll disk old (select_works second) done new → Leaves old done new
    select_leaves {new} done long (inl failed) = record {
      crash = leaves_weaker failed.0.time by_byte;
      durable = λ made. absurd (false≢true (sym failed.1 ∙ made));
      moved = λ made. absurd (false≢true (sym failed.1 ∙ made));
    }
    select_leaves {new} done long (inr both) =
        let one : D = both.0 in
        let did = both.1 in
        let sync = one_did disk Sync both.2 in
        let is = did.honest.1 honest in
        record {
          crash = leaves_then {P = Left} (leaves_weaker did.time by_byte)
              (leaves_weaker sync.time (λ c may. by_byte c (did.left c may)));
          durable = durable_by done is sync;
          moved = λ made.
              let c : List ℕ = disk.seen one in
              let same : disk.seen new ≡ c = done_seen sync is made in
              let Q : List ℕ → Type 0 =
              λ l. HoldsCommits (not second) (tail_behind t oldest) contents younger l in
              let byte : get_or c 4096 0 ≡ selecting (not second) =
              ap (λ (l : List ℕ). get_or l 4096 0) (done_seen did honest refl)
              ∙ written_within (disk.seen old) 4096 (selecting (not second) ∷ []) 4096 (omega arith) (omega arith)
              (omega arith) in
              subst Q (sym same) (moves t contents oldest log second ds younger (disk.seen old) ready c
              (torn_byte c (did.left c (seen_is_left one is)))
              (selects (not second) ∙ ap counts_second (sym byte)));
        }

  -- ---- the whole move

  module _ (old : D) (honest : disk.is_honest old)
      (held : (c : List ℕ) → disk.may_leave old c → HoldsCommits second t contents (ds ++ younger) c)
      (are : AreOldest t oldest ds) (small : oldest.below < 2 ^ 64)
      (home : AreWrittenHome t.log contents ds younger (disk.seen old)) where
    by_start : {new : D} (done : Bool) → Did disk old (start_work t second oldest) done new
        → LeavesCommits disk second t contents (ds ++ younger) old new
    by_start done did =
        leaves_start disk t contents second (ds ++ younger) old held done (start_behind t oldest) log did

    recovering : (c : List ℕ) → HoldsCommits second t contents (ds ++ younger) c → Left c
    recovering c is = left_unchanged t contents c is.held

    is_start : IsLogStart t.log.ring (start_behind t oldest)
    is_start =
        let before = (held (disk.seen old) (seen_is_left old honest)).held.log.start.start in
        record {
          within = mod_below (t.start.position + oldest.blocks) t.log.ring (omega (arith, log.some_ring));
          some_number = omega (arith, are.number, before.some_number);
          small_number = small;
          some_epoch = before.some_epoch;
          small_epoch = before.small_epoch;
        }

    pub ready_by : {one : D} → 16384 ≤ length (disk.seen old) → Did disk old (start_work t second oldest) true one
        → IsReadyToMove second t oldest contents ds younger (disk.seen one)
    ready_by {one} long did =
        let place : ℕ = start_block (not second) in
        let text : List ℕ = start_text (start_behind t oldest) in
        let size = length-start_text (start_behind t oldest) in
        let most = start_most (not second) in
        let fits : 4096 * place + length text ≤ length (disk.seen old) = omega (arith, size, most) in
        let whole : length text % 4096 ≡ 0 = omega (arith, size) in
        let is : disk.seen one ≡ written (disk.seen old) (4096 * place) text = done_seen did honest refl in
        let zero_more : place - place ≡ 0 = omega arith in
        let spelled : block_at (disk.seen one) place ≡ text =
        ap (λ (l : List ℕ). block_at l place) is
        ∙ written_block (disk.seen old) text place place fits whole (omega arith) (omega (arith, size))
        ∙ ap (block_at text) zero_more ∙ take_all 4096 text (omega (arith, size)) in
        let others : (b : ℕ) → 4 ≤ b → block_at (disk.seen one) b ≡ block_at (disk.seen old) b = λ b le.
        ap (λ (l : List ℕ). block_at l b) is
        ∙ written_elsewhere (disk.seen old) text place b fits whole (inr (omega (arith, size, most))) in
        record {
          holds = (by_start true did).left (disk.seen one) (seen_is_left one (did.honest.1 honest));
          oldest_are = are;
          start = record { start = is_start; spelled = spelled };
          written = λ b is_home logged. elim (home b is_home logged) [
            | inl has ↦ inl has
            | inr there ↦ inr (others b (omega (arith, is_home.low)) ∙ there)
          ];
        }

    pub move_leaves : {new : D} (done : Bool) → 16384 ≤ length (disk.seen old)
        → DidAll disk old (move_works t second oldest) done new → Leaves old done new
    move_leaves {new} done long (inl failed) = record {
      crash = leaves_weaker (by_start false failed.0).crash recovering;
      durable = λ made. absurd (false≢true (sym failed.1 ∙ made));
      moved = λ made. absurd (false≢true (sym failed.1 ∙ made));
    }
    move_leaves {new} done long (inr (one, did, inl failed)) =
        let first = by_start true did in
        record {
          crash = leaves_then {P = Left} (leaves_weaker first.crash recovering)
              (leaves_weaker failed.0.time (λ c may. recovering c (first.left c may)));
          durable = λ made. absurd (false≢true (sym failed.1 ∙ made));
          moved = λ made. absurd (false≢true (sym failed.1 ∙ made));
        }
    move_leaves {new} done long (inr (one, did, inr (two, sync, rest))) =
        let first = by_start true did in
        let one_honest = did.honest.1 honest in
        let two_honest = sync.honest.1 one_honest in
        let same : disk.seen two ≡ disk.seen one = done_seen sync one_honest refl in
        let P : List ℕ → Type 0 = λ l. IsReadyToMove second t oldest contents ds younger l in
        let last = select_leaves two two_honest (durable_by true one_honest sync refl)
        (subst P (sym same) (ready_by long did)) done
        (omega (arith, did.same_length, sync.same_length)) rest in
        record {
          crash = leaves_then {P = Left} (leaves_then {P = Left} (leaves_weaker first.crash recovering)
              (leaves_weaker sync.time (λ c may. recovering c (first.left c may)))) last.crash;
          durable = last.durable;
          moved = last.moved;
        }
