-- Which write-outs make a step: one alone, or where it is a shared sync, that one and all newer ones.
use Rattle.machine.proofs.Names.{ℕ, ◌≡◌, ◌⊎◌, inl, inr, Bool, true, false, cond, List, [], ◌∷◌, ◌++◌, length, map, drop}
use Rattle.machine.proofs.Names.{Option, Some, None, suc, refl, sym, ap, ◌∙◌, subst, Contains, AllByRecursion, list_any}
use Rattle.machine.proofs.Names.{cond_both, cond-true, cond-false, or_parts, Contains-append_right, WriteOut}
use Rattle.machine.proofs.Names.{advanced_of}
use Rattle.machine.proofs.Names.{is_ahead, may_share, WriteOutsValue, is_at, gives_way, joined, moving, moved}
use Rattle.machine.proofs.Names.{shares_syncs, has_writes, not, ◌&&◌, arith, or_from, and_right, not_from_true}
use Rattle.machine.proofs.Names.{both_ways, Done, Broken, Stage, Recording, Describing, SyncingRecords}
use Rattle.machine.proofs.Names.{Opening, Committing, Applying, SyncingHomes, Closing, Finishing, answer_at}
use Rattle.machine.proofs.Names.{is_committed}
use Rattle.machine.proofs.Names.{next_stage, has_committed, has_uncommitted, answer_of, option_map_or}

-- whether the write-outs of a volume share their syncs, and they after a step
abbrev pub shared : WriteOutsValue → Bool
shared outs = shares_syncs outs.geometry.layout

abbrev pub outs_moved : WriteOutsValue → List WriteOut
outs_moved outs = moved (shared outs) outs.batches

-- ---- each of them

-- each is as it was, or has made one more step, and then this holds of it
abbrev pub AreStepped : (WriteOut → Type 0) → List WriteOut → List WriteOut → Type 0
AreStepped P [] [] = Unit {0}
AreStepped P (x ∷ xs) (y ∷ ys) = ((y ≡ x) ⊎ ((y ≡ advanced_of x) × P x)) × AreStepped P xs ys
AreStepped P xs ys = ⊥

pub none_stepped : (P : WriteOut → Type 0) (xs : List WriteOut) → AreStepped P xs xs
none_stepped P [] = tt
none_stepped P (x ∷ xs) = (inl refl, none_stepped P xs)

all_stepped : (P : WriteOut → Type 0) (xs : List WriteOut) → AllByRecursion P xs → AreStepped P xs (map advanced_of xs)
all_stepped P [] all = tt
all_stepped P (x ∷ xs) all = (inr (refl, all.0), all_stepped P xs all.1)

pub stepped_as : (P Q : WriteOut → Type 0) (xs ys : List WriteOut) → ((x : WriteOut) → P x → Q x)
    → AreStepped P xs ys → AreStepped Q xs ys
stepped_as P Q [] [] so are = tt
stepped_as P Q (x ∷ xs) (y ∷ ys) so are = (one are.0, stepped_as P Q xs ys so are.1)
  where
    one : ((y ≡ x) ⊎ ((y ≡ advanced_of x) × P x)) → ((y ≡ x) ⊎ ((y ≡ advanced_of x) × Q x))
    one (inl same) = inl same
    one (inr step) = inr (step.0, so x step.1)
stepped_as P Q xs ys so are = absurd are

pub stepped_rest : (P : WriteOut → Type 0) (xs ys : List WriteOut) → AreStepped P xs ys
    → AreStepped P (drop 1 xs) (drop 1 ys)
stepped_rest P [] [] are = tt
stepped_rest P (x ∷ xs) (y ∷ ys) are = are.1
stepped_rest P xs ys are = absurd are

pub length-stepped : (P : WriteOut → Type 0) (xs ys : List WriteOut) → AreStepped P xs ys → length ys ≡ length xs
length-stepped P [] [] are = refl
length-stepped P (x ∷ xs) (y ∷ ys) are = ap suc (length-stepped P xs ys are.1)
length-stepped P xs ys are = absurd are

-- ---- by a step

pub none_have : (has : WriteOut → Bool) (batches : List WriteOut) → list_any has batches ≡ false
    → AllByRecursion (λ w. has w ≡ false) batches
none_have has [] none = tt
none_have has (w ∷ newer) none =
    let parts = or_parts (has w) (list_any has newer) none in
    (parts.0, none_have has newer parts.1)

-- where syncs are shared, none that is newer than the one that makes the step is ahead of it
pub none_ahead : (w : WriteOut) (newer : List WriteOut) → gives_way true w newer ≡ false
    → list_any (is_at is_ahead) newer ≡ false
none_ahead w newer first = (or_parts (list_any (is_at is_ahead) newer)
    (not (is_at has_writes w) && list_any (is_at has_writes) newer) first).0

-- those that share its step aren't ahead
pub joined_stepped : (shares : Bool) (w : WriteOut) (newer : List WriteOut) → gives_way shares w newer ≡ false
    → AreStepped (λ x. is_at is_ahead x ≡ false) newer (joined shares w newer)
joined_stepped true w newer first = cond_both (is_at may_share w) (map advanced_of newer) newer
    (λ (l : List WriteOut). AreStepped (λ x. is_at is_ahead x ≡ false) newer l)
    (λ e. all_stepped (λ x. is_at is_ahead x ≡ false) newer
    (none_have (is_at is_ahead) newer (none_ahead w newer first)))
    (λ e. none_stepped (λ x. is_at is_ahead x ≡ false) newer)
joined_stepped false w newer first = none_stepped (λ x. is_at is_ahead x ≡ false) newer

-- it makes the step, or shares one
abbrev pub Makes : Bool → List WriteOut → WriteOut → Type 0
Makes shares batches x = (moving shares batches ≡ Some x) ⊎ (is_at is_ahead x ≡ false)

pub each_stepped : (shares : Bool) (batches : List WriteOut)
    → AreStepped (Makes shares batches) batches (moved shares batches)
each_stepped shares [] = tt
each_stepped shares (w ∷ newer) = by (gives_way shares w newer) refl (each_stepped shares newer)
  where
    by : (b : Bool) → gives_way shares w newer ≡ b → AreStepped (Makes shares newer) newer (moved shares newer)
        → AreStepped (λ x. (cond b (moving shares newer) (Some w) ≡ Some x) ⊎ (is_at is_ahead x ≡ false)) (w ∷ newer)
        (cond b (w ∷ moved shares newer) (advanced_of w ∷ joined shares w newer))
    by true later rest = (inl refl, rest)
    by false first rest = (
      inr (refl, inl refl),
      stepped_as (λ x. is_at is_ahead x ≡ false) (λ x. (Some w ≡ Some x) ⊎ (is_at is_ahead x ≡ false)) newer
          (joined shares w newer) (λ x behind. inr behind) (joined_stepped shares w newer first),
    )

-- the one that makes the step
pub record IsStep (shares : Bool) (batches : List WriteOut) (w : WriteOut) : Type 0 where
  pub older : List WriteOut
  pub newer : List WriteOut
  pub are : batches ≡ older ++ w ∷ newer
  pub first : gives_way shares w newer ≡ false
  pub after : moved shares batches ≡ older ++ advanced_of w ∷ joined shares w newer

pub step_of : (shares : Bool) (batches : List WriteOut) (w : WriteOut) → moving shares batches ≡ Some w
    → IsStep shares batches w
step_of shares [] w is = absurd (cc)
step_of shares (x ∷ newer) w is = by (gives_way shares x newer) refl (λ rest. step_of shares newer w rest) is
  where
    by : (b : Bool) → gives_way shares x newer ≡ b → (moving shares newer ≡ Some w → IsStep shares newer w)
        → cond b (moving shares newer) (Some x) ≡ Some w → IsStep shares (x ∷ newer) w
    by true later within is =
        let rest = within is in
        record {
          older = x ∷ rest.older;
          newer = rest.newer;
          are = ap (λ (l : List WriteOut). x ∷ l) rest.are;
          first = rest.first;
          after = cond-true (gives_way shares x newer) (x ∷ moved shares newer)
              (advanced_of x ∷ joined shares x newer) later ∙ ap (λ (l : List WriteOut). x ∷ l) rest.after;
        }
    by false none within is =
        let same : x ≡ w = cc in
        record {
          older = [];
          newer = newer;
          are = ap (λ (y : WriteOut). y ∷ newer) same;
          first = sym (ap (λ (y : WriteOut). gives_way shares y newer) same) ∙ none;
          after = cond-false (gives_way shares x newer) (x ∷ moved shares newer)
              (advanced_of x ∷ joined shares x newer) none
              ∙ ap (λ (y : WriteOut). advanced_of y ∷ joined shares y newer) same;
        }

pub moving_there : (shares : Bool) (batches : List WriteOut) (w : WriteOut) → moving shares batches ≡ Some w
    → Contains batches w
moving_there shares batches w is =
    let step = step_of shares batches w is in
    subst (λ (l : List WriteOut). Contains l w) (sym step.are)
    (Contains-append_right step.older (w ∷ step.newer) w (0, omega arith, refl))

pub joined-none : (shares : Bool) (w : WriteOut) → joined shares w [] ≡ []
joined-none true w = cond_both (is_at may_share w) [] [] (λ (l : List WriteOut). l ≡ []) (λ e. refl) (λ e. refl)
joined-none false w = refl

-- ---- a step that ends a write-out

-- it is at its last stage
pub done_stage : (w : WriteOut) (mark : ℕ) → answer_of w ≡ Done mark
    → (next_stage w ≡ Some Finishing) × (w.batch.mark ≡ mark)
done_stage w mark e = by (next_stage w) e
  where
    same_mark : (m n : ℕ) → Done m ≡ Done n → m ≡ n
    same_mark m n e = cc

    by : (o : Option Stage) → option_map_or (answer_at w.batch.mark) o Broken ≡ Done mark
        → (o ≡ Some Finishing) × (w.batch.mark ≡ mark)
    by None e = absurd (cc)
    by (Some (Recording i)) e = absurd (cc)
    by (Some (Describing i)) e = absurd (cc)
    by (Some SyncingRecords) e = absurd (cc)
    by (Some Opening) e = absurd (cc)
    by (Some Committing) e = absurd (cc)
    by (Some (Applying i)) e = absurd (cc)
    by (Some SyncingHomes) e = absurd (cc)
    by (Some Closing) e = absurd (cc)
    by (Some Finishing) e = (refl, same_mark w.batch.mark mark e)

-- none is before it
ends_before : (shares : Bool) (x y : WriteOut) (newer : List WriteOut) → next_stage y ≡ Some Finishing
    → gives_way shares y newer ≡ false → gives_way shares x (y ∷ newer) ≡ false
ends_before true x y newer stage first =
    let ahead : is_at is_ahead y ≡ false = ap (λ (o : Option Stage). option_map_or is_ahead o false) stage in
    let writes : is_at has_writes y ≡ false = ap (λ (o : Option Stage). option_map_or has_writes o false) stage in
    let parts = or_parts (list_any (is_at is_ahead) newer)
    (not (is_at has_writes y) && list_any (is_at has_writes) newer) first in
    let others : list_any (is_at has_writes) newer ≡ false =
    sym (ap (λ b. not b && list_any (is_at has_writes) newer) writes) ∙ parts.1 in
    or_from (list_any (is_at is_ahead) (y ∷ newer))
    (not (is_at has_writes x) && list_any (is_at has_writes) (y ∷ newer))
    (or_from (is_at is_ahead y) (list_any (is_at is_ahead) newer) ahead parts.0)
    (and_right (not (is_at has_writes x)) (list_any (is_at has_writes) (y ∷ newer))
    (or_from (is_at has_writes y) (list_any (is_at has_writes) newer) writes others))
ends_before false x y newer stage first =
    or_from (not (has_committed y)) (has_uncommitted newer) (not_from_true (has_committed y)
    (ap (λ (o : Option Stage). option_map_or is_committed o true) stage)) first

ends_first : (shares : Bool) (batches : List WriteOut) (w : WriteOut) → moving shares batches ≡ Some w
    → next_stage w ≡ Some Finishing → (x : WriteOut) → gives_way shares x batches ≡ false
ends_first shares [] w is stage x = absurd (cc)
ends_first shares (y ∷ newer) w is stage x =
    by (gives_way shares y newer) refl (λ rest. ends_first shares newer w rest stage y) is
  where
    by : (b : Bool) → gives_way shares y newer ≡ b
        → (moving shares newer ≡ Some w → gives_way shares y newer ≡ false)
        → cond b (moving shares newer) (Some y) ≡ Some w → gives_way shares x (y ∷ newer) ≡ false
    by true later within e = absurd (both_ways (gives_way shares y newer) (within e) later)
    by false first within e =
        let same : y ≡ w = cc in
        ends_before shares x y newer (ap next_stage same ∙ stage) first

-- it is the oldest, and those that share its step aren't ahead
pub record IsEnding (shares : Bool) (batches : List WriteOut) (mark : ℕ) : Type 0 where
  pub oldest : WriteOut
  pub newer : List WriteOut
  pub are : batches ≡ oldest ∷ newer
  pub is : moving shares batches ≡ Some oldest
  pub stage : next_stage oldest ≡ Some Finishing
  pub mark_is : oldest.batch.mark ≡ mark
  pub first : gives_way shares oldest newer ≡ false
  pub after : drop 1 (moved shares batches) ≡ joined shares oldest newer
  pub stepped : AreStepped (λ x. is_at is_ahead x ≡ false) newer (drop 1 (moved shares batches))

pub ending : (shares : Bool) (batches : List WriteOut) (mark : ℕ)
    → option_map_or answer_of (moving shares batches) Broken ≡ Done mark → IsEnding shares batches mark
ending shares [] mark e = absurd (cc)
ending shares (x ∷ newer) mark e = by (moving shares (x ∷ newer)) refl e
  where
    at_once : (w : WriteOut) → next_stage w ≡ Some Finishing → w.batch.mark ≡ mark
        → moving shares (x ∷ newer) ≡ Some w → (b : Bool) → gives_way shares x newer ≡ b
        → cond b (moving shares newer) (Some x) ≡ Some w → IsEnding shares (x ∷ newer) mark
    at_once w stage marks is true later rest =
        absurd (both_ways (gives_way shares x newer) (ends_first shares newer w rest stage x) later)
    at_once w stage marks is false first rest =
        let same : x ≡ w = cc in
        let left : drop 1 (moved shares (x ∷ newer)) ≡ joined shares x newer = ap (drop 1)
        (cond-false (gives_way shares x newer) (x ∷ moved shares newer) (advanced_of x ∷ joined shares x newer)
        first) in
        record {
          oldest = x;
          newer = newer;
          are = refl;
          is = is ∙ ap Some (sym same);
          stage = ap next_stage same ∙ stage;
          mark_is = ap (λ (y : WriteOut). y.batch.mark) same ∙ marks;
          first = first;
          after = left;
          stepped = subst (AreStepped (λ y. is_at is_ahead y ≡ false) newer) (sym left)
              (joined_stepped shares x newer first);
        }

    by : (o : Option WriteOut) → moving shares (x ∷ newer) ≡ o → option_map_or answer_of o Broken ≡ Done mark
        → IsEnding shares (x ∷ newer) mark
    by None is e = absurd (cc)
    by (Some w) is e = let at = done_stage w mark e in at_once w at.0 at.1 is (gives_way shares x newer) refl is
