-- The place of the write-out that makes the next step, where syncs are shared.
use Rattle.std.proofs.Common.{◌≡◌, ℕ, zero, suc, ◌<◌, Bool, true, false, List, [], ◌∷◌, ◌++◌, length}
use Rattle.std.proofs.Common.{get_or, set, Option, Some, None, refl, sym, ap, ◌∙◌, subst, arith}
use Rattle.std.proofs.Common.{length-append}
use Rattle.std.specs.Prelude.{IfSome, IfNone}
use Rattle.std.specs.List.{AllByRecursion, list_any}
use Rattle.std.proofs.lemmas.Bool.{or_from, or_parts}
use Rattle.volume_codec.specs.Layout.{GeometryValue}
use Rattle.journal.specs.Stage.{has_writes, is_ahead}
use Rattle.journal.specs.WriteOut.{WriteOut, advanced_of}
use Rattle.journal.specs.WriteOuts.{is_at, moving, moved}
use Rattle.journal.specs.inside.Sound.{IsWriteOut, IsOlder, AreInOrder}
use Rattle.journal.specs.inside.Room.{IsFirst, IsLone, IsJoint}
use Rattle.journal.proofs.Alls.{all_back}
use Rattle.journal.proofs.Tying.{stage_of}
use Rattle.journal.proofs.Moving.{lone_at_end, lone_writer, joint_all, not_ahead, joins_at}

-- ---- one at a place, in its list

pub get-middle : (older : List WriteOut) (w : WriteOut) (newer : List WriteOut) (d : WriteOut)
    → get_or (older ++ w ∷ newer) (length older) d ≡ w
get-middle [] w newer d = refl
get-middle (x ∷ older) w newer d = get-middle older w newer d

pub set-middle : (older : List WriteOut) (w x : WriteOut) (newer : List WriteOut)
    → set (older ++ w ∷ newer) (length older) x ≡ older ++ x ∷ newer
set-middle [] w x newer = refl
set-middle (y ∷ older) w x newer = ap (λ (l : List WriteOut). y ∷ l) (set-middle older w x newer)

lone_in : (shares : Bool) (older : List WriteOut) (w : WriteOut) (newer : List WriteOut)
    → (moving shares (older ++ w ∷ newer) ≡ Some w)
    × (moved shares (older ++ w ∷ newer) ≡ older ++ advanced_of w ∷ newer)
    → IsLone shares (older ++ w ∷ newer) (length older)
lone_in shares older w newer moves = record {
  within = omega (arith, length-append older (w ∷ newer));
  mover = λ d. moves.0 ∙ ap Some (sym (get-middle older w newer d));
  after = λ d. moves.1 ∙ sym (set-middle older w (advanced_of w) newer)
      ∙ ap (λ (x : WriteOut). set (older ++ w ∷ newer) (length older) (advanced_of x))
      (sym (get-middle older w newer d));
}

-- a list in two parts
record IsSplit (batches : List WriteOut) (at : ℕ) : Type 0 where
  older : List WriteOut
  it : WriteOut
  newer : List WriteOut
  are : batches ≡ older ++ it ∷ newer
  size : length older ≡ at

split_at : (batches : List WriteOut) (at : ℕ) → at < length batches → IsSplit batches at
split_at [] at lt = absurd (omega (arith, lt))
split_at (w ∷ newer) zero lt = record { older = []; it = w; newer = newer; are = refl; size = refl }
split_at (w ∷ newer) (suc at) lt =
    let rest = split_at newer at (omega (arith, lt)) in
    record {
      older = w ∷ rest.older;
      it = rest.it;
      newer = rest.newer;
      are = ap (λ (l : List WriteOut). w ∷ l) rest.are;
      size = ap suc rest.size;
    }

-- all but the newest are committed, so that none of them is ahead
behind_before : (older : List WriteOut) (w : WriteOut) (newer : List WriteOut) → AreInOrder (older ++ w ∷ newer)
    → AllByRecursion (λ x. is_at is_ahead x ≡ false) older
behind_before [] w newer ordered = tt
behind_before (x ∷ older) w newer ordered = (
  not_ahead x (all_back (IsOlder x) older (w ∷ newer) ordered.0).0.committed,
  behind_before older w newer ordered.1,
)

none_ahead : (batches : List WriteOut) (last : ℕ) → suc last ≡ length batches → AreInOrder batches
    → ((d : WriteOut) → is_at is_ahead (get_or batches last d) ≡ false)
    → list_any (is_at is_ahead) batches ≡ false
none_ahead [] last e ordered behind = refl
none_ahead (w ∷ []) zero e ordered behind = or_from (is_at is_ahead w) false (behind w) refl
none_ahead (w ∷ []) (suc last) e ordered behind = absurd (omega (arith, e))
none_ahead (w ∷ x ∷ newer) zero e ordered behind = absurd (omega (arith, e))
none_ahead (w ∷ x ∷ newer) (suc last) e ordered behind =
    or_from (is_at is_ahead w) (list_any (is_at is_ahead) (x ∷ newer)) (not_ahead w ordered.0.0.committed)
    (none_ahead (x ∷ newer) last (omega (arith, e)) ordered.1 behind)

any_back : (has : WriteOut → Bool) (older newer : List WriteOut) → list_any has (older ++ newer) ≡ false
    → list_any has newer ≡ false
any_back has [] newer none = none
any_back has (x ∷ older) newer none =
    any_back has older newer (or_parts (has x) (list_any has (older ++ newer)) none).1

-- ---- the newest

pub newest_is_lone : (batches : List WriteOut) (last : ℕ) → suc last ≡ length batches
    → ((d : WriteOut) → is_at is_ahead (get_or batches last d) ≡ true) → IsLone true batches last
newest_is_lone batches last e ahead =
    let s = split_at batches last (omega (arith, e)) in
    let none : s.newer ≡ [] = empty s.newer
    (omega (arith, e, ap length s.are, length-append s.older (s.it ∷ s.newer), s.size)) in
    let own : is_at is_ahead s.it ≡ true =
    ap (is_at is_ahead) (sym (get-middle s.older s.it s.newer s.it)
    ∙ ap (λ n. get_or (s.older ++ s.it ∷ s.newer) n s.it) s.size
    ∙ ap (λ (l : List WriteOut). get_or l last s.it) (sym s.are))
    ∙ ahead s.it in
    subst (λ n. IsLone true batches n) s.size
    (subst (λ (l : List WriteOut). IsLone true l (length s.older))
    (sym (s.are ∙ ap (λ (l : List WriteOut). s.older ++ s.it ∷ l) none))
    (lone_in true s.older s.it [] (lone_at_end s.older s.it own)))
  where
    empty : (l : List WriteOut) → length l ≡ 0 → l ≡ []
    empty [] e = refl
    empty (x ∷ l) e = absurd (omega (arith, e))

-- ---- the oldest that writes

no_writes : (older : List WriteOut) (rest : List WriteOut)
    → ((i : ℕ) (d : WriteOut) → i < length older → is_at has_writes (get_or (older ++ rest) i d) ≡ false)
    → AllByRecursion (λ x. is_at has_writes x ≡ false) older
no_writes [] rest before = tt
no_writes (x ∷ older) rest before = (
  before 0 x (omega arith),
  no_writes older rest (λ i d lt. before (suc i) d (omega (arith, lt))),
)

pub first_writes : (g : GeometryValue) (batches : List WriteOut) (at last : ℕ) → IsFirst (is_at has_writes) batches at
    → suc last ≡ length batches → AllByRecursion (IsWriteOut g) batches → AreInOrder batches
    → ((d : WriteOut) → is_at is_ahead (get_or batches last d) ≡ false) → IsLone true batches at
first_writes g batches at last first e each ordered behind =
    let s = split_at batches at first.within in
    let own = (all_back (IsWriteOut g) s.older (s.it ∷ s.newer) (subst (AllByRecursion (IsWriteOut g)) s.are each)).0 in
    let stage = stage_of s.it own.going in
    let ahead_none = any_back (is_at is_ahead) s.older (s.it ∷ s.newer)
    (subst (λ (l : List WriteOut). list_any (is_at is_ahead) l ≡ false) s.are
    (none_ahead batches last e ordered behind))
    in
    let parts = or_parts (is_at is_ahead s.it) (list_any (is_at is_ahead) s.newer) ahead_none in
    let writes : is_at has_writes s.it ≡ true =
    ap (is_at has_writes) (sym (get-middle s.older s.it s.newer s.it)
    ∙ ap (λ n. get_or (s.older ++ s.it ∷ s.newer) n s.it) s.size
    ∙ ap (λ (l : List WriteOut). get_or l at s.it) (sym s.are))
    ∙ first.it s.it in
    let before = no_writes s.older (s.it ∷ s.newer) (λ i d lt.
    subst (λ (l : List WriteOut). is_at has_writes (get_or l i d) ≡ false) s.are
    (first.before i d (omega (arith, lt, s.size)))) in
    subst (λ n. IsLone true batches n) s.size
    (subst (λ (l : List WriteOut). IsLone true l (length s.older)) (sym s.are)
    (lone_in true s.older s.it s.newer
    (lone_writer s.older s.it s.newer stage.0 stage.1 before writes parts.0 parts.1)))

-- ---- all of them

pub all_join : (g : GeometryValue) (batches : List WriteOut) (last : ℕ) → (batches ≡ [] → ⊥)
    → list_any (is_at has_writes) batches ≡ false
    → suc last ≡ length batches → AllByRecursion (IsWriteOut g) batches → AreInOrder batches
    → ((d : WriteOut) → is_at is_ahead (get_or batches last d) ≡ false) → IsJoint true batches
all_join g [] last some none e each ordered behind = absurd (some refl)
all_join g (w ∷ newer) last some none e each ordered behind =
    let ahead_none = or_parts (is_at is_ahead w) (list_any (is_at is_ahead) newer)
    (none_ahead (w ∷ newer) last e ordered behind) in
    let writes_none = or_parts (is_at has_writes w) (list_any (is_at has_writes) newer) none in
    let stage = stage_of w each.0.going in
    let joins = joins_at w stage.0 stage.1 writes_none.0 ahead_none.0 in
    let moves = joint_all w newer joins ahead_none.1 writes_none.1 in
    record { mover = λ d. moves.0; syncs = λ d. joins; after = moves.1 }

pub none_at_all : (has : WriteOut → Bool) (batches : List WriteOut)
    → ((i : ℕ) (d : WriteOut) → i < length batches → has (get_or batches i d) ≡ false) → list_any has batches ≡ false
none_at_all has [] none = refl
none_at_all has (w ∷ newer) none = or_from (has w) (list_any has newer) (none 0 w (omega arith))
    (none_at_all has newer (λ i d lt. none (suc i) d (omega (arith, lt))))

-- ---- options

pub some_weaker : (P Q : ℕ → Type 0) (o : Option ℕ) → ((n : ℕ) → P n → Q n) → IfSome o P → IfSome o Q
some_weaker P Q None step is = tt
some_weaker P Q (Some n) step is = step n is

pub none_weaker : (P Q : Type 0) (o : Option ℕ) → (P → Q) → IfNone o P → IfNone o Q
none_weaker P Q None step is = step is
none_weaker P Q (Some n) step is = tt
