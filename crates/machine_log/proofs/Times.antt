-- What a crash leaves of a disk at a moment, where its moments are in order.
use Rattle.std.proofs.Common.{◌≡◌, ℕ, ◌≤◌, List, [], ◌∷◌, sym, subst, arith, inl, inr, ⊎_elim}
use Rattle.std.specs.List.{AllByRecursion}
use Rattle.device.specs.Device.{LeavesOnly}
use Rattle.device.specs.Memory.{left_since_of, moment_of}
use Rattle.machine_log.specs.Disk.{LogDiskValue, joint_moment, left_at, moment_in}
use Rattle.machine_log.specs.inside.Keeping.{AreMoments}
use Rattle.machine_log.proofs.Moments.{left_in}

-- ---- moments in order

both_pairs : (P Q R : ℕ × ℕ → Type 0) (pairs : List (ℕ × ℕ)) → ((m : ℕ × ℕ) → P m → Q m → R m)
    → AllByRecursion P pairs → AllByRecursion Q pairs → AllByRecursion R pairs
both_pairs P Q R [] all p q = tt
both_pairs P Q R (m ∷ pairs) all p q = (all m p.0 q.0, both_pairs P Q R pairs all p.1 q.1)

module _ {D : Type 0} (moment : D → ℕ) (disk : LogDiskValue D)
    (are : AreMoments (moment_of disk.memory) (moment disk.device) disk.moments) where
  abbrev At : ℕ → List ℕ → ℕ × ℕ → Type 0
  At t w m = joint_moment m.0 m.1 ≡ t → m.0 ≤ moment_of disk.memory → left_since_of disk.memory m.0 w

  abbrev In : ℕ → List ℕ → ℕ × ℕ → Type 0
  In t w m = joint_moment m.0 m.1 ≡ t → left_since_of disk.memory m.0 w

  abbrev now : ℕ × ℕ
  now = (moment_of disk.memory, moment disk.device)

  under_all : AllByRecursion (λ m. m.0 ≤ moment_of disk.memory) disk.moments
  under_all = subst (AllByRecursion (λ m. m.0 ≤ moment_of disk.memory)) (sym are.newest) (
    omega arith,
    both_pairs (λ m. (m.0 ≤ moment_of disk.memory) × (m.1 ≤ moment disk.device))
        (λ m. (m.0 ≤ moment_of disk.memory) × (m.1 ≤ moment disk.device)) (λ m. m.0 ≤ moment_of disk.memory)
        are.older (λ m p q. p.0) are.each are.each,
  )

  pub as_at : (t : ℕ) (w : List ℕ) → left_in disk t w → left_at moment disk t w
  as_at t w left = (
    λ same under. (subst (AllByRecursion (In t w)) are.newest left).0 same,
    both_pairs (In t w) (In t w) (At t w) disk.moments (λ m p q same under. p same) left left,
  )

  pub as_in : (t : ℕ) (w : List ℕ) → left_at moment disk t w → left_in disk t w
  as_in t w left = both_pairs (At t w) (λ m. m.0 ≤ moment_of disk.memory) (In t w) disk.moments
      (λ m p under same. p same under) left.1 under_all

pub leaves_at : {D : Type 0} (moment : D → ℕ) (old new : LogDiskValue D) (P : List ℕ → Type 0)
    → AreMoments (moment_of old.memory) (moment old.device) old.moments
    → AreMoments (moment_of new.memory) (moment new.device) new.moments
    → LeavesOnly (moment_in moment) left_in old new P → LeavesOnly (moment_in moment) (left_at moment) old new P
leaves_at moment old new P old_are new_are leaves = record {
  later = leaves.later;
  each = λ w left. leaves.each w (as_in moment new new_are (moment_in moment old) w left);
  before = λ t w le left. ⊎_elim (λ was. inl (as_at moment old old_are t w was)) (λ has. inr has)
      (leaves.before t w le (as_in moment new new_are t w left));
  keeps = λ t w le left. as_at moment new new_are t w (leaves.keeps t w le (as_in moment old old_are t w left));
}
