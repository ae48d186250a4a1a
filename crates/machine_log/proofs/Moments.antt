-- The moments of a disk over a log: what a crash leaves of the disk, by pairs of a moment of it and one of the device.
use Rattle.std.proofs.Common.{◌≡◌, ◌≢◌, ◌⊎◌, inl, inr, ⊎_elim, ℕ, ◌+◌, ◌*◌, ◌-◌, ◌≤◌, List, [], ◌∷◌, length}
use Rattle.std.proofs.Common.{refl, sym, ap, subst, ◌∙◌, arith}
use Rattle.std.specs.List.{AllByRecursion}
use Rattle.std.proofs.lemmas.Bool.{cases_eq, cases_lt}
use Rattle.device.specs.Device.{LeavesOnly}
use Rattle.device.specs.Memory.{Recorded, left_since_of, may_leave_of, moment_of}
use Rattle.device.specs.declared.device.Device.{Ghosts}
use Rattle.device.specs.inside.Laws.{now_is_since_of, since_now_of}
use Rattle.machine_log.specs.Disk.{LogDiskValue, joint_moment, moment_in}
use Rattle.machine_log.specs.inside.Keeping.{AreBackedBy, AreMoments}

-- ---- one number for two moments

later_by : (u r a b : ℕ) → joint_moment u r ≤ joint_moment (u + a) (r + b)
later_by u r a b = omega arith

pub joint_later : (u r v s : ℕ) → u ≤ v → r ≤ s → joint_moment u r ≤ joint_moment v s
joint_later u r v s first second =
    let up : u + (v - u) ≡ v = omega arith in
    let over : r + (s - r) ≡ s = omega arith in
    subst (λ n. joint_moment u r ≤ joint_moment n s) up
    (subst (λ n. joint_moment u r ≤ joint_moment (u + (v - u)) n) over (later_by u r (v - u) (s - r)))

-- the squares of two sums differ by more than an addend of the smaller sum
sum_later : (a k r s : ℕ) → r ≤ a → a * a + r ≡ (a + 1 + k) * (a + 1 + k) + s → ⊥
sum_later a k r s le same = omega (arith, le, same)

sum_under : (a b r s : ℕ) → r ≤ a → a * a + r ≡ b * b + s → b ≤ a
sum_under a b r s le same = ⊎_elim
    (λ less.
    let more : b ≡ a + 1 + (b - a - 1) = omega (arith, less) in
    absurd (sum_later a (b - a - 1) r s le (subst (λ n. a * a + r ≡ n * n + s) more same)))
    (λ under. under)
    (cases_lt a b)

pub joint_one : (u r v s : ℕ) → joint_moment u r ≡ joint_moment v s → (u ≡ v) × (r ≡ s)
joint_one u r v s same =
    let over = sum_under (u + r) (v + s) r s (omega arith) same in
    let under = sum_under (v + s) (u + r) s r (omega arith) (sym same) in
    let sums : u + r ≡ v + s = omega (arith, over, under) in
    let squares : r ≡ s = omega (arith, same, ap (λ n. n * n) sums) in
    (omega (arith, sums, squares), squares)

-- ---- lists of moments

-- what a crash since this moment might have left, where each moment of the disk is one of these
abbrev pub left_in : {D : Type 0} → LogDiskValue D → ℕ → List ℕ → Type 0
left_in disk t w =
    AllByRecursion (λ m. joint_moment m.0 m.1 ≡ t → left_since_of disk.memory m.0 w) disk.moments

-- neither moment is later than these
abbrev IsBefore : ℕ → ℕ → ℕ × ℕ → Type 0
IsBefore u r m = (m.0 ≤ u) × (m.1 ≤ r)

-- if the pair has the number t, a crash since its moment of the disk might have left w
abbrev IsLeftAt : Recorded → ℕ → List ℕ → ℕ × ℕ → Type 0
IsLeftAt memory t w m = joint_moment m.0 m.1 ≡ t → left_since_of memory m.0 w

-- each list that a crash of the device left since the moment of the pair has one beside it that a crash of the disk
-- left
abbrev IsBackedBy : {D : Type 0} → (ℕ → List ℕ → List ℕ → Type 0) → Ghosts D → D → Recorded → ℕ × ℕ → Type 0
IsBackedBy R disk device memory m =
    (c : List ℕ) → disk.left_since device m.1 c → (w : List ℕ) × left_since_of memory m.0 w × R m.0 c w

-- each pair that has P has Q
map_pairs : (P Q : ℕ × ℕ → Type 0) (moments : List (ℕ × ℕ)) → ((m : ℕ × ℕ) → P m → Q m) → AllByRecursion P moments
    → AllByRecursion Q moments
map_pairs P Q [] implies each = tt
map_pairs P Q (m ∷ moments) implies each =
    (implies m each.0, map_pairs P Q moments implies each.1)

-- what each pair has
all_pairs : (P : ℕ × ℕ → Type 0) (moments : List (ℕ × ℕ)) → ((m : ℕ × ℕ) → P m) → AllByRecursion P moments
all_pairs P [] has = tt
all_pairs P (m ∷ moments) has = (has m, all_pairs P moments has)

-- each pair that has P and Q has R
both_pairs : (P Q R : ℕ × ℕ → Type 0) (moments : List (ℕ × ℕ)) → ((m : ℕ × ℕ) → P m → Q m → R m)
    → AllByRecursion P moments → AllByRecursion Q moments → AllByRecursion R moments
both_pairs P Q R [] implies each also = tt
both_pairs P Q R (m ∷ moments) implies each also =
    (implies m each.0 also.0, both_pairs P Q R moments implies each.1 also.1)

-- each pair has P, or there is S
or_pairs : (P : ℕ × ℕ → Type 0) (S : Type 0) (moments : List (ℕ × ℕ)) → AllByRecursion (λ m. P m ⊎ S) moments
    → AllByRecursion P moments ⊎ S
or_pairs P S [] each = inl tt
or_pairs P S (m ∷ moments) each = by each.0 (or_pairs P S moments each.1)
  where
    by : P m ⊎ S → AllByRecursion P moments ⊎ S → AllByRecursion P (m ∷ moments) ⊎ S
    by (inl one) (inl others) = inl (one, others)
    by (inl one) (inr s) = inr s
    by (inr s) others = inr s

-- one of the pairs has this number and B, or none has this number
find_joint : (t : ℕ) (B : ℕ × ℕ → Type 0) (moments : List (ℕ × ℕ)) → AllByRecursion B moments
    → AllByRecursion (λ m. joint_moment m.0 m.1 ≢ t) moments
    ⊎ ((m : ℕ × ℕ) × (joint_moment m.0 m.1 ≡ t) × B m)
find_joint t B [] each = inl tt
find_joint t B (m ∷ moments) each =
    by (cases_eq (joint_moment m.0 m.1) t) (find_joint t B moments each.1)
  where
    by : (joint_moment m.0 m.1 ≡ t) ⊎ (joint_moment m.0 m.1 ≢ t)
        → AllByRecursion (λ m. joint_moment m.0 m.1 ≢ t) moments
        ⊎ ((m : ℕ × ℕ) × (joint_moment m.0 m.1 ≡ t) × B m)
        → AllByRecursion (λ m. joint_moment m.0 m.1 ≢ t) (m ∷ moments)
        ⊎ ((m : ℕ × ℕ) × (joint_moment m.0 m.1 ≡ t) × B m)
    by (inl same) rest = inr (m, same, each.0)
    by (inr other) (inl others) = inl (other, others)
    by (inr other) (inr found) = inr found

-- no pair is later than the newest
moments_each : (u r : ℕ) (moments : List (ℕ × ℕ)) → AreMoments u r moments
    → AllByRecursion (IsBefore u r) moments
moments_each u r moments are =
    subst (AllByRecursion (IsBefore u r)) (sym are.newest) ((omega arith, omega arith), are.each)

-- the newest pair has what each has
newest_has : (P : ℕ × ℕ → Type 0) (u r : ℕ) (moments : List (ℕ × ℕ)) → AreMoments u r moments
    → AllByRecursion P moments → P (u, r)
newest_has P u r moments are each = (subst (AllByRecursion P) are.newest each).0

-- a call adds its pair as the newest
pub moments_next : (u r v s : ℕ) (older newer : List (ℕ × ℕ)) → AreMoments u r older → newer ≡ (v, s) ∷ older
    → u ≤ v → r ≤ s → AreMoments v s newer
moments_next u r v s older newer are newest first second = record {
  older = older;
  newest = newest;
  each = map_pairs (IsBefore u r) (IsBefore v s) older
      (λ m under. (omega (arith, under.0, first), omega (arith, under.1, second)))
      (moments_each u r older are);
}

-- ---- records of one disk that differ in counts alone

same_left : (a b : Recorded) → b.first ≡ a.first → b.changes ≡ a.changes → b.start ≡ a.start → (t : ℕ) (w : List ℕ)
    → (left_since_of a t w → left_since_of b t w) × (left_since_of b t w → left_since_of a t w)
same_left a b first changes start t w =
    let P : Recorded → Type 0 = λ disk. left_since_of disk t w in
    let same : record b { calls = a.calls; faults = a.faults } ≡ a =
    λ i. record {
      first = first i;
      changes = changes i;
      start = start i;
      calls = a.calls;
      faults = a.faults;
    } in
    (subst P (sym same), subst P same)

same_now : (a b : Recorded) → b.changes ≡ a.changes → b.start ≡ a.start → moment_of b ≡ moment_of a
same_now a b changes start = omega (arith, start, ap length changes)

-- ---- what a crash leaves of the disk

module _ {D : Type 0} (moment : D → ℕ) (old : LogDiskValue D)
    (are : AreMoments (moment_of old.memory) (moment old.device) old.moments) where
  -- no pair so far is later than now
  each_so_far : AllByRecursion (IsBefore (moment_of old.memory) (moment old.device)) old.moments
  each_so_far = moments_each (moment_of old.memory) (moment old.device) old.moments are

  -- a crash now is one since any moment so far
  pub now_is_since : (t : ℕ) (w : List ℕ) → t ≤ moment_in moment old → may_leave_of old.memory w → left_in old t w
  now_is_since t w le left =
      map_pairs (IsBefore (moment_of old.memory) (moment old.device))
      (IsLeftAt old.memory t w) old.moments
      (λ m under same. now_is_since_of old.memory m.0 w under.0 left) each_so_far

  -- since now there is nothing else
  pub since_now : (w : List ℕ) → left_in old (moment_in moment old) w → may_leave_of old.memory w
  since_now w left = since_now_of old.memory w
      (newest_has (IsLeftAt old.memory (moment_in moment old) w)
      (moment_of old.memory) (moment old.device) old.moments are left refl)

  -- ---- after calls of the device

  module _ (new : LogDiskValue D) (newest : new.moments ≡ (moment_of new.memory, moment new.device) ∷ old.moments)
      (later : moment old.device ≤ moment new.device) where
    older_left : (t : ℕ) (w : List ℕ) → left_in new t w
        → AllByRecursion (IsLeftAt new.memory t w) old.moments
    older_left t w left =
        (subst (AllByRecursion (IsLeftAt new.memory t w)) newest left).1

    pub leaves_on_disk : {P : List ℕ → Type 0} → LeavesOnly moment_of left_since_of old.memory new.memory P
        → LeavesOnly (moment_in moment) left_in old new P
    leaves_on_disk {P} leaves = record {
      later = joint_later (moment_of old.memory) (moment old.device) (moment_of new.memory) (moment new.device)
          leaves.later later;
      each = λ w left. leaves.each w (
          newest_has (IsLeftAt new.memory (moment_in moment old) w)
          (moment_of old.memory) (moment old.device) old.moments are (older_left (moment_in moment old) w left) refl
          );
      before = λ t w le left.
          or_pairs (IsLeftAt old.memory t w) (P w) old.moments
          (both_pairs (IsBefore (moment_of old.memory) (moment old.device)) (IsLeftAt new.memory t w)
          (λ m. IsLeftAt old.memory t w m ⊎ P w) old.moments
          (λ m under was. before_one t w m under.0 was (cases_eq (joint_moment m.0 m.1) t))
          each_so_far (older_left t w left));
      keeps = kept;
    }
      where
        before_one : (t : ℕ) (w : List ℕ) (m : ℕ × ℕ) → m.0 ≤ moment_of old.memory
            → IsLeftAt new.memory t w m → (joint_moment m.0 m.1 ≡ t) ⊎ (joint_moment m.0 m.1 ≢ t)
            → IsLeftAt old.memory t w m ⊎ P w
        before_one t w m under was (inl same) =
            ⊎_elim (λ before. inl (λ at. before)) (λ has. inr has) (leaves.before m.0 w under (was same))
        before_one t w m under was (inr other) = inl (λ at. absurd (other at))

        kept : (t : ℕ) (w : List ℕ) → t ≤ moment_in moment old → left_in old t w → left_in new t w
        kept t w le left =
            let now : joint_moment (moment_of new.memory) (moment new.device) ≡ t
            → left_since_of new.memory (moment_of new.memory) w =
            λ at.
            let back = joint_later (moment_of old.memory) (moment old.device) (moment_of new.memory)
            (moment new.device) leaves.later later in
            let same : joint_moment (moment_of old.memory) (moment old.device) ≡ t = omega (arith, at, back, le) in
            let one = joint_one (moment_of old.memory) (moment old.device) (moment_of new.memory) (moment new.device)
            (same ∙ sym at) in
            subst (λ u. left_since_of new.memory u w) one.0
            (leaves.keeps (moment_of old.memory) w (omega arith)
            (newest_has (IsLeftAt old.memory t w)
            (moment_of old.memory) (moment old.device) old.moments are left same)) in
            subst (AllByRecursion (IsLeftAt new.memory t w)) (sym newest) (
              now,
              both_pairs (IsBefore (moment_of old.memory) (moment old.device))
                  (IsLeftAt old.memory t w)
                  (IsLeftAt new.memory t w) old.moments
                  (λ m under was at. leaves.keeps m.0 w under.0 (was at))
                  each_so_far left,
            )

    pub moments_on_disk : moment_of old.memory ≤ moment_of new.memory
        → AreMoments (moment_of new.memory) (moment new.device) new.moments
    moments_on_disk first =
        moments_next (moment_of old.memory) (moment old.device) (moment_of new.memory) (moment new.device)
        old.moments new.moments are newest first later

  -- ---- after a call that changes counts alone

  module _ (new : LogDiskValue D) (first : new.memory.first ≡ old.memory.first)
      (changes : new.memory.changes ≡ old.memory.changes) (start : new.memory.start ≡ old.memory.start)
      (device : new.device ≡ old.device) (moments : new.moments ≡ old.moments) where
    pub leaves_same : LeavesOnly (moment_in moment) left_in old new (may_leave_of old.memory)
    leaves_same = record {
      later = joint_later (moment_of old.memory) (moment old.device) (moment_of new.memory) (moment new.device)
          (omega (arith, same_now old.memory new.memory changes start)) (omega (arith, ap moment device));
      each = λ w left. since_now w (back (moment_in moment old) w left);
      before = λ t w le left. inl (back t w left);
      keeps = λ t w le left. subst
          (AllByRecursion (IsLeftAt new.memory t w)) (sym moments)
          (map_pairs (IsLeftAt old.memory t w)
          (IsLeftAt new.memory t w) old.moments
          (λ m was at. (same_left old.memory new.memory first changes start m.0 w).0 (was at)) left);
    }
      where
        back : (t : ℕ) (w : List ℕ) → left_in new t w → left_in old t w
        back t w left =
            map_pairs (IsLeftAt new.memory t w)
            (IsLeftAt old.memory t w) old.moments
            (λ m was at. (same_left old.memory new.memory first changes start m.0 w).1 (was at))
            (subst (AllByRecursion (IsLeftAt new.memory t w)) moments left)

    pub moments_same : AreMoments (moment_of new.memory) (moment new.device) new.moments
    moments_same =
        let P : ℕ → Type 0 = λ u. AreMoments u (moment new.device) new.moments in
        let Q : ℕ → Type 0 = λ r. AreMoments (moment_of old.memory) r new.moments in
        subst P (sym (same_now old.memory new.memory changes start)) (subst Q (sym (ap moment device))
        (subst (AreMoments (moment_of old.memory) (moment old.device)) (sym moments) are))

-- ---- what a crash leaves of the device, beside what it leaves of the disk

module _ {D : Type 0} (disk : Ghosts D) where
  -- What a crash of the device left since an earlier state has one beside it that a crash of the disk might have left
  -- since then. If no moment is that of the earlier state, nothing is said of the disk.
  pub left_between : (self old : LogDiskValue D) (R : ℕ → List ℕ → List ℕ → Type 0)
      → AreBackedBy R disk self.device self.memory self.moments
      → (c : List ℕ) → disk.left_since self.device (disk.moment old.device) c
      → ((w : List ℕ) × left_since_of self.memory (moment_of old.memory) w × R (moment_of old.memory) c w
      × ((w : List ℕ) → left_since_of self.memory (moment_of old.memory) w
      → left_in self (moment_in disk.moment old) w))
      ⊎ ((w : List ℕ) → left_in self (moment_in disk.moment old) w)
  left_between self old R backed c left =
      by (find_joint (moment_in disk.moment old) (IsBackedBy R disk self.device self.memory) self.moments backed)
    where
      by : AllByRecursion (λ m. joint_moment m.0 m.1 ≢ moment_in disk.moment old) self.moments
          ⊎ ((m : ℕ × ℕ) × (joint_moment m.0 m.1 ≡ moment_in disk.moment old)
          × IsBackedBy R disk self.device self.memory m)
          → ((w : List ℕ) × left_since_of self.memory (moment_of old.memory) w × R (moment_of old.memory) c w
          × ((w : List ℕ) → left_since_of self.memory (moment_of old.memory) w
          → left_in self (moment_in disk.moment old) w))
          ⊎ ((w : List ℕ) → left_in self (moment_in disk.moment old) w)
      by (inl none) = inr (λ w.
          map_pairs (λ m. joint_moment m.0 m.1 ≢ moment_in disk.moment old)
          (IsLeftAt self.memory (moment_in disk.moment old) w)
          self.moments (λ m other same. absurd (other same)) none)
      by (inr found) =
          let one = joint_one found.0.0 found.0.1 (moment_of old.memory) (disk.moment old.device) found.1 in
          let at = found.2 c (subst (λ r. disk.left_since self.device r c) (sym one.1) left) in
          inl (
            at.0,
            subst (λ u. left_since_of self.memory u at.0) one.0 at.1,
            subst (λ u. R u c at.0) one.0 at.2,
            λ w there. all_pairs (IsLeftAt self.memory (moment_in disk.moment old) w) self.moments (λ m same.
                subst (λ u. left_since_of self.memory u w)
                (sym (joint_one m.0 m.1 (moment_of old.memory) (disk.moment old.device) same).0) there),
          )

  -- after calls of the device
  pub backed_on : (old new : LogDiskValue D) (R S : ℕ → List ℕ → List ℕ → Type 0) {P Q : List ℕ → Type 0}
      → AreMoments (moment_of old.memory) (disk.moment old.device) old.moments
      → new.moments ≡ (moment_of new.memory, disk.moment new.device) ∷ old.moments
      → LeavesOnly moment_of left_since_of old.memory new.memory P
      → LeavesOnly disk.moment disk.left_since old.device new.device Q
      → ((u : ℕ) (c w : List ℕ) → R u c w → S u c w)
      → ((c : List ℕ) → Q c → (w : List ℕ) × (may_leave_of old.memory w ⊎ may_leave_of new.memory w)
      × ((u : ℕ) → u ≤ moment_of old.memory → S u c w))
      → ((c : List ℕ) → disk.may_leave new.device c
      → (w : List ℕ) × may_leave_of new.memory w × S (moment_of new.memory) c w)
      → ((c : List ℕ) → disk.left_since new.device (disk.moment new.device) c → disk.may_leave new.device c)
      → AreBackedBy R disk old.device old.memory old.moments
      → AreBackedBy S disk new.device new.memory new.moments
  backed_on old new R S {P} {Q} are newest leaves calls grows between now law backed =
      let Was : ℕ × ℕ → Type 0 = IsBackedBy R disk old.device old.memory in
      let Is : ℕ × ℕ → Type 0 = IsBackedBy S disk new.device new.memory in
      let first : Is (moment_of new.memory, disk.moment new.device) = λ c left.
      let r = now c (law c left) in
      (r.0, now_is_since_of new.memory (moment_of new.memory) r.0 (omega arith) r.1, r.2) in
      let others : AllByRecursion Is old.moments =
      both_pairs (IsBefore (moment_of old.memory) (disk.moment old.device)) Was Is old.moments
      (λ m under was c left. by m under.0 c (⊎_elim (λ before. inl (was c before)) (λ has. inr (between c has))
      (calls.before m.1 c under.1 left)))
      (moments_each (moment_of old.memory) (disk.moment old.device) old.moments are) backed in
      subst (AllByRecursion Is) (sym newest) (first, others)
    where
      by : (m : ℕ × ℕ) → m.0 ≤ moment_of old.memory → (c : List ℕ)
          → ((w : List ℕ) × left_since_of old.memory m.0 w × R m.0 c w)
          ⊎ ((w : List ℕ) × (may_leave_of old.memory w ⊎ may_leave_of new.memory w)
          × ((u : ℕ) → u ≤ moment_of old.memory → S u c w))
          → (w : List ℕ) × left_since_of new.memory m.0 w × S m.0 c w
      by m under c (inl was) = (was.0, leaves.keeps m.0 was.0 under was.1, grows m.0 c was.0 was.2)
      by m under c (inr is) = (
        is.0,
        ⊎_elim (λ left. leaves.keeps m.0 is.0 under (now_is_since_of old.memory m.0 is.0 under left))
            (λ left. now_is_since_of new.memory m.0 is.0 (omega (arith, under, leaves.later)) left) is.1,
        is.2 m.0 under,
      )
