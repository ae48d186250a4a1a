-- The list of write-outs that the code keeps, and the write-out whose step comes next.
use Rattle.std.proofs.Common.{◌≡◌, ℕ, zero, suc, ◌+◌, ◌<◌, ◌≤◌, Bool, true, false, not, ◌||◌, cond, List}
use Rattle.std.proofs.Common.{[], ◌∷◌, ◌++◌, length, drop, get_or, set, map, Option, Some, refl}
use Rattle.std.proofs.Common.{sym, ap, ◌∙◌, subst, arith, length-append, option_to_list}
use Rattle.std.specs.Prelude.{IfSome}
use Rattle.std.specs.List.{AllByRecursion, Contains}
use Rattle.std.proofs.lemmas.Bool.{cond-true}
use Rattle.std.proofs.lemmas.List.{get_or_default, length-map}
use Rattle.volume_codec.specs.Layout.{GeometryValue}
use Rattle.journal.specs.WriteOut.{WriteOut, has_committed, advanced_of, begun_of}
use Rattle.journal.specs.declared.flushed.Flushed.{Flushed}
use Rattle.journal.specs.declared.flushed.Flushed.TheVariants.{Going, Committed, Done, Device, Broken}
use Rattle.journal.specs.Work.{has_done}
use Rattle.journal.specs.WriteOut.{broken_after}
use Rattle.journal.specs.inside.Queued.{QueuedWriteOut, queued_of, queued_after}
use Rattle.journal.specs.WriteOuts.{WriteOutsValue, has_uncommitted, shares_syncs, moving, moved, current, advanced}
use Rattle.journal.specs.WriteOuts.{following, next_batch, begun, batches_after, outs_after}
use Rattle.journal.specs.inside.Sound.{IsWriteOut, AreInOrder, IsSound}
use Rattle.journal.specs.inside.Room.{write_outs_in, rooms_in, IsCurrent, IsLone, HasRoom, kept_after, spare_after}
use Rattle.journal.proofs.Alls.{all-append, all_front, all_back, all_at}
use Rattle.journal.proofs.Batches.{current-oldest, advanced-oldest, committed_parts}

-- ---- the write-outs in the code's list

get-write_outs : (queued : List QueuedWriteOut) (i : ℕ) (d : QueuedWriteOut)
    → get_or (write_outs_in queued) i d.write_out ≡ (get_or queued i d).write_out
get-write_outs [] i d = refl
get-write_outs (f ∷ queued) zero d = refl
get-write_outs (f ∷ queued) (suc i) d = get-write_outs queued i d

pub length-write_outs : (queued : List QueuedWriteOut) → length (write_outs_in queued) ≡ length queued
length-write_outs queued = length-map queued (λ f. f.write_out)

-- there is one
pub some_queued : (queued : List QueuedWriteOut) → (write_outs_in queued ≡ [] → ⊥) → 0 < length queued
some_queued [] some = absurd (some refl)
some_queued (one ∷ queued) some = omega arith

-- what stands at a place
pub at_place : (queued : List QueuedWriteOut) (i : ℕ) (f : QueuedWriteOut)
    → i < length queued → f ≡ get_or queued i f → (d : WriteOut)
    → get_or (write_outs_in queued) i d ≡ f.write_out
at_place queued i f lt is d =
    get_or_default (write_outs_in queued) i d f.write_out (omega (arith, lt, length-write_outs queued))
    ∙ get-write_outs queued i f
    ∙ ap (λ (x : QueuedWriteOut). x.write_out) (sym is)

-- ---- a home block of one of them

pub found_block : (queued : List QueuedWriteOut) (i : ℕ) (f : QueuedWriteOut) (b : ℕ)
    → i < length queued → f ≡ get_or queued i f → Contains f.write_out.batch.homes b
    → (w : WriteOut) × Contains (write_outs_in queued) w × Contains w.batch.homes b
found_block queued i f b lt is has =
    (f.write_out, (i, omega (arith, lt, length-write_outs queued), at_place queued i f lt is f.write_out), has)

pub no_block : (queued : List QueuedWriteOut) (b : ℕ)
    → ((i : ℕ) (d : QueuedWriteOut) → i < length queued → Contains (get_or queued i d).write_out.batch.homes b → ⊥)
    → ((w : WriteOut) × Contains (write_outs_in queued) w × Contains w.batch.homes b)
    → ⊥
no_block queued b none found = by queued none found.0 found.1.0 found.1.1 found.1.2 found.2
  where
    by : (queued : List QueuedWriteOut)
        → ((i : ℕ) (d : QueuedWriteOut) → i < length queued → Contains (get_or queued i d).write_out.batch.homes b → ⊥)
        → (w : WriteOut) (i : ℕ) → i < length (write_outs_in queued)
        → get_or (write_outs_in queued) i w ≡ w → Contains w.batch.homes b
        → ⊥
    by [] none w i lt is has = absurd (omega arith)
    by (f ∷ queued) none w zero lt is has =
        none 0 f (omega arith) (subst (λ (x : WriteOut). Contains x.batch.homes b) (sym is) has)
    by (f ∷ queued) none w (suc i) lt is has =
        by queued (λ k d within. none (suc k) d (omega arith)) w i (omega arith) is has

-- ---- the one whose step comes next

-- only the newest may not be committed
pub newest_tells : (batches : List WriteOut) (n : ℕ) (d : WriteOut) → suc n ≡ length batches → AreInOrder batches
    → has_uncommitted batches ≡ not (has_committed (get_or batches n d))
newest_tells [] n d e ordered = absurd (omega arith)
newest_tells (w ∷ []) zero d e ordered = or_false (not (has_committed w))
  where
    or_false : (b : Bool) → (b || false) ≡ b
    or_false true = refl
    or_false false = refl
newest_tells (w ∷ []) (suc n) d e ordered = absurd (omega arith)
newest_tells (w ∷ x ∷ newer) zero d e ordered = absurd (omega arith)
newest_tells (w ∷ x ∷ newer) (suc n) d e ordered =
    ap (λ b. not b || has_uncommitted (x ∷ newer)) ordered.0.0.committed
    ∙ newest_tells (x ∷ newer) n d (omega arith) ordered.1

-- of the last, which isn't committed, holds what holds of one alone, and of one more before it
from_last : (P : List WriteOut → ℕ → Type 0) → ((w : WriteOut) → P (w ∷ []) 0)
    → ((w x : WriteOut) (newer : List WriteOut) (n : ℕ) → has_uncommitted (x ∷ newer) ≡ true → P (x ∷ newer) n
    → P (w ∷ x ∷ newer) (suc n))
    → (batches : List WriteOut) (n : ℕ) (d : WriteOut) → suc n ≡ length batches → AreInOrder batches
    → has_uncommitted batches ≡ true → P batches n
from_last P alone before [] n d e ordered has = absurd (omega arith)
from_last P alone before (w ∷ []) zero d e ordered has = alone w
from_last P alone before (w ∷ []) (suc n) d e ordered has = absurd (omega arith)
from_last P alone before (w ∷ x ∷ newer) zero d e ordered has = absurd (omega arith)
from_last P alone before (w ∷ x ∷ newer) (suc n) d e ordered has =
    let rest : has_uncommitted (x ∷ newer) ≡ true =
    newest_tells (x ∷ newer) n d (omega arith) ordered.1
    ∙ sym (newest_tells (w ∷ x ∷ newer) (suc n) d e ordered)
    ∙ has in
    before w x newer n rest (from_last P alone before (x ∷ newer) n d (omega arith) ordered.1 rest)

last_current : (batches : List WriteOut) (n : ℕ) (d : WriteOut)
    → suc n ≡ length batches → AreInOrder batches → has_uncommitted batches ≡ true
    → current batches ≡ Some (get_or batches n d)
last_current batches n d e ordered has = from_last (λ l n. current l ≡ Some (get_or l n d)) (λ w. refl)
    (λ w x newer n rest is. cond-true (has_uncommitted (x ∷ newer)) (current (x ∷ newer)) (Some w) rest ∙ is)
    batches n d e ordered has

last_advanced : (batches : List WriteOut) (n : ℕ) (d : WriteOut)
    → suc n ≡ length batches → AreInOrder batches → has_uncommitted batches ≡ true
    → advanced batches ≡ set batches n (advanced_of (get_or batches n d))
last_advanced batches n d e ordered has =
    from_last (λ l n. advanced l ≡ set l n (advanced_of (get_or l n d))) (λ w. refl)
    (λ w x newer n rest is.
    cond-true (has_uncommitted (x ∷ newer)) (w ∷ advanced (x ∷ newer)) (advanced_of w ∷ x ∷ newer) rest
    ∙ ap (λ (l : List WriteOut). w ∷ l) is) batches n d e ordered has

last_is_current : (batches : List WriteOut) (n : ℕ) → suc n ≡ length batches
    → AreInOrder batches → has_uncommitted batches ≡ true
    → IsCurrent batches n
last_is_current batches n e ordered has =
    record { within = omega arith; current = λ d. last_current batches n d e ordered has }

-- without shared syncs it makes the next step
last_is_lone : (batches : List WriteOut) (n : ℕ) → suc n ≡ length batches
    → AreInOrder batches → has_uncommitted batches ≡ true
    → IsLone false batches n
last_is_lone batches n e ordered has = record {
  within = omega arith;
  mover = λ d. last_current batches n d e ordered has;
  after = λ d. last_advanced batches n d e ordered has;
}

-- the last, which isn't committed, is the one whose stage decides, and without shared syncs it makes the next step
pub last_place : (queued : List QueuedWriteOut) (n : ℕ) → suc n ≡ length queued → AreInOrder (write_outs_in queued)
    → has_uncommitted (write_outs_in queued) ≡ true
    → IsCurrent (write_outs_in queued) n × IsLone false (write_outs_in queued) n
last_place queued n e ordered has =
    let end : suc n ≡ length (write_outs_in queued) = omega (arith, e, length-write_outs queued) in
    (last_is_current (write_outs_in queued) n end ordered has, last_is_lone (write_outs_in queued) n end ordered has)

pub first_is_lone : (batches : List WriteOut) → (batches ≡ [] → ⊥) → has_uncommitted batches ≡ false
    → IsLone false batches 0
first_is_lone [] some none = absurd (some refl)
first_is_lone (w ∷ newer) some none =
    let parts = committed_parts w newer none in
    record {
      within = omega arith;
      mover = λ d. current-oldest w newer parts.1;
      after = λ d. advanced-oldest w newer parts.1;
    }

-- ---- a batch begins

write_outs-push : (queued : List QueuedWriteOut) (f : QueuedWriteOut)
    → write_outs_in (queued ++ f ∷ []) ≡ write_outs_in queued ++ f.write_out ∷ []
write_outs-push [] f = refl
write_outs-push (x ∷ queued) f = ap (λ (l : List WriteOut). x.write_out ∷ l) (write_outs-push queued f)

rooms-push : (queued : List QueuedWriteOut) (f : QueuedWriteOut)
    → rooms_in (queued ++ f ∷ []) ≡ rooms_in queued ++ f.room ∷ []
rooms-push [] f = refl
rooms-push (x ∷ queued) f = ap (λ (l : List ℕ). x.room ∷ l) (rooms-push queued f)

-- the value's write-outs, as the code's list has them
pub begun_view : (outs : WriteOutsValue) (queued queued' : List QueuedWriteOut)
    (mark : ℕ) (homes : List ℕ) (room next : ℕ)
    → outs.batches ≡ write_outs_in queued
    → queued' ≡ queued ++ queued_of outs.geometry.slots (next_batch outs mark homes) room ∷ []
    → next ≡ following outs.geometry.layout outs.next
    → record outs { next = next; batches = write_outs_in queued' } ≡ begun outs mark homes
begun_view outs queued queued' mark homes room next are pushed turn =
    let list : write_outs_in queued' ≡ outs.batches ++ begun_of outs.geometry.slots (next_batch outs mark homes) ∷ [] =
    ap write_outs_in pushed
    ∙ write_outs-push queued (queued_of outs.geometry.slots (next_batch outs mark homes) room)
    ∙ ap (λ (l : List WriteOut). l ++ begun_of outs.geometry.slots (next_batch outs mark homes) ∷ []) (sym are) in
    λ i. record outs { next = turn i; batches = list i }

pub begun_room : (outs : WriteOutsValue) (queued queued' : List QueuedWriteOut) (spare spare' : List ℕ)
    (queued_room queued_room' spare_room spare_room' : ℕ) (mark : ℕ) (homes : List ℕ) (list_room room : ℕ)
    → HasRoom outs queued queued_room spare spare_room → IsSound (begun outs mark homes)
    → queued' ≡ queued ++ queued_of outs.geometry.slots (next_batch outs mark homes) room ∷ []
    → spare ≡ spare' ++ list_room ∷ []
    → list_room ≤ room → queued_room ≤ queued_room' → spare_room ≤ spare_room'
    → HasRoom (begun outs mark homes) queued' queued_room' spare' spare_room'
begun_room outs queued queued' spare spare' queued_room queued_room' spare_room spare_room' mark homes list_room room
    has sound pushed popped bigger more more_spare =
    let rooms = subst (AllByRecursion (λ r. outs.geometry.slots ≤ r)) popped has.spare_are in
    record {
      sound = sound;
      queued_are = subst (AllByRecursion (λ r. outs.geometry.slots ≤ r))
          (sym (ap rooms_in pushed
          ∙ rooms-push queued (queued_of outs.geometry.slots (next_batch outs mark homes) room)))
          (all-append (λ r. outs.geometry.slots ≤ r) (rooms_in queued) (room ∷ []) has.queued_are
          (omega (arith, bigger, (all_back (λ r. outs.geometry.slots ≤ r) spare' (list_room ∷ []) rooms).0), tt));
      spare_are = all_front (λ r. outs.geometry.slots ≤ r) spare' (list_room ∷ []) rooms;
      count = omega (
        arith,
        has.count,
        ap length pushed,
        ap length popped,
        length-append queued (queued_of outs.geometry.slots (next_batch outs mark homes) room ∷ []),
        length-append spare' (list_room ∷ []),
      );
      room = omega (arith, has.room, more);
      spare_fits = omega (arith, has.spare_fits, more_spare);
    }

-- a list that is taken from the end
pub popped_last : {X : Type 0} (f : X → ℕ) (old new : List X) (o : Option X) (x : X)
    → old ≡ new ++ option_to_list o → o ≡ Some x
    → map f old ≡ map f new ++ f x ∷ []
popped_last f old new o x is some = ap (map f) (is ∙ ap (λ (p : Option _). new ++ option_to_list p) some) ∙ by new
  where
    by : (l : List _) → map f (l ++ x ∷ []) ≡ map f l ++ f x ∷ []
    by [] = refl
    by (y ∷ l) = ap (λ r. f y ∷ r) (by l)

-- ---- a step of one of them

write_outs-set : (queued : List QueuedWriteOut) (i : ℕ) (f : QueuedWriteOut)
    → write_outs_in (set queued i f) ≡ set (write_outs_in queued) i f.write_out
write_outs-set [] i f = refl
write_outs-set (x ∷ queued) zero f = refl
write_outs-set (x ∷ queued) (suc i) f = ap (λ (l : List WriteOut). x.write_out ∷ l) (write_outs-set queued i f)

set-same : (batches : List WriteOut) (i : ℕ) (d : WriteOut) → i < length batches
    → set batches i (get_or batches i d) ≡ batches
set-same [] i d lt = absurd (omega arith)
set-same (w ∷ batches) zero d lt = refl
set-same (w ∷ batches) (suc i) d lt = ap (λ (l : List WriteOut). w ∷ l) (set-same batches i d (omega arith))

pub rooms-set : (queued : List QueuedWriteOut) (i : ℕ) (f f' : QueuedWriteOut) → f ≡ get_or queued i f
    → f'.room ≡ f.room → rooms_in (set queued i f') ≡ rooms_in queued
rooms-set [] i f f' here same = refl
rooms-set (x ∷ queued) zero f f' here same =
    ap (λ r. r ∷ rooms_in queued) (same ∙ ap (λ (y : QueuedWriteOut). y.room) here)
rooms-set (x ∷ queued) (suc i) f f' here same =
    ap (λ (l : List ℕ). x.room ∷ l) (rooms-set queued i f f' here same)

pub room_after : (f : QueuedWriteOut) (answer : Flushed) → (queued_after f answer).room ≡ f.room
room_after f answer = refl

pub lone_batches : (shares : Bool) (queued : List QueuedWriteOut) (at : ℕ) (f f' : QueuedWriteOut) (answer : Flushed)
    → f ≡ get_or queued at f → IsLone shares (write_outs_in queued) at → f' ≡ queued_after f answer
    → (answer ≡ Broken → ⊥)
    → write_outs_in (set queued at f')
    ≡ cond (has_done answer) (moved shares (write_outs_in queued)) (write_outs_in queued)
lone_batches shares queued at f f' answer here lone after not_broken = by answer after not_broken
  where
    place : (d : WriteOut) → get_or (write_outs_in queued) at d ≡ f.write_out
    place d = at_place queued at f (omega (arith, lone.within, length-write_outs queued)) here d

    goes : f'.write_out ≡ advanced_of f.write_out
        → write_outs_in (set queued at f') ≡ moved shares (write_outs_in queued)
    goes is =
        write_outs-set queued at f'
        ∙ ap (set (write_outs_in queued) at) (is ∙ ap advanced_of (sym (place f.write_out)))
        ∙ sym (lone.after f.write_out)

    by : (a : Flushed) → f' ≡ queued_after f a → (a ≡ Broken → ⊥)
        → write_outs_in (set queued at f')
        ≡ cond (has_done a) (moved shares (write_outs_in queued)) (write_outs_in queued)
    by Going is sane = goes (ap (λ (x : QueuedWriteOut). x.write_out) is)
    by (Committed mark) is sane = goes (ap (λ (x : QueuedWriteOut). x.write_out) is)
    by (Done mark) is sane = goes (ap (λ (x : QueuedWriteOut). x.write_out) is)
    by Device is sane =
        write_outs-set queued at f'
        ∙ ap (set (write_outs_in queued) at) (ap (λ (x : QueuedWriteOut). x.write_out) is ∙ sym (place f.write_out))
        ∙ set-same (write_outs_in queued) at f.write_out lone.within
    by Broken is sane = absurd (sane refl)

-- ---- after a step, when the oldest may leave

write_outs-rest : (queued : List QueuedWriteOut) → write_outs_in (drop 1 queued) ≡ drop 1 (write_outs_in queued)
write_outs-rest [] = refl
write_outs-rest (x ∷ queued) = refl

pub after_view : (outs : WriteOutsValue) (queued : List QueuedWriteOut) (answer : Flushed) → (answer ≡ Broken → ⊥)
    → write_outs_in queued
    ≡ cond (has_done answer) (moved (shares_syncs outs.geometry.layout) outs.batches) outs.batches
    → record outs {
      batches = write_outs_in (kept_after answer queued);
      broken = broken_after answer outs.broken;
    } ≡ outs_after outs answer
after_view outs queued answer not_broken are =
    ap (λ (l : List WriteOut). record outs { batches = l; broken = broken_after answer outs.broken })
    (by answer not_broken are)
  where
    by : (a : Flushed) → (a ≡ Broken → ⊥)
        → write_outs_in queued ≡ cond (has_done a) (moved (shares_syncs outs.geometry.layout) outs.batches) outs.batches
        → write_outs_in (kept_after a queued) ≡ batches_after (shares_syncs outs.geometry.layout) a outs.batches
    by Going sane is = is
    by (Committed mark) sane is = is
    by (Done mark) sane is = write_outs-rest queued ∙ ap (drop 1) is
    by Device sane is = is
    by Broken sane is = absurd (sane refl)

kept_all : (P : ℕ → Type 0) (answer : Flushed) (l : List QueuedWriteOut) → AllByRecursion P (rooms_in l)
    → AllByRecursion P (rooms_in (kept_after answer l))
kept_all P (Done mark) [] all = tt
kept_all P (Done mark) (x ∷ l) all = all.1
kept_all P Going l all = all
kept_all P (Committed mark) l all = all
kept_all P Device l all = all
kept_all P Broken l all = all

spare_all : (slots : ℕ) (answer : Flushed) (l : List QueuedWriteOut) (spare : List ℕ)
    → AllByRecursion (λ r. slots ≤ r) (rooms_in l) → AllByRecursion (λ r. slots ≤ r) spare
    → AllByRecursion (λ r. slots ≤ r) (spare_after answer l spare)
spare_all slots (Done mark) [] spare rooms all = all
spare_all slots (Done mark) (x ∷ l) spare rooms all =
    all-append (λ r. slots ≤ r) spare (x.room ∷ []) all (rooms.0, tt)
spare_all slots Going l spare rooms all = all
spare_all slots (Committed mark) l spare rooms all = all
spare_all slots Device l spare rooms all = all
spare_all slots Broken l spare rooms all = all

same_count : (answer : Flushed) (l : List QueuedWriteOut) (spare : List ℕ)
    → length (kept_after answer l) + length (spare_after answer l spare) ≡ length l + length spare
same_count (Done mark) [] spare = refl
same_count (Done mark) (x ∷ l) spare = omega (arith, length-append spare (x.room ∷ []))
same_count Going l spare = refl
same_count (Committed mark) l spare = refl
same_count Device l spare = refl
same_count Broken l spare = refl

-- and the room
pub after_room : (outs : WriteOutsValue) (queued queued' : List QueuedWriteOut) (answer : Flushed)
    (spare spare' : List ℕ) (queued_room queued_room' spare_room spare_room' : ℕ)
    → HasRoom outs queued queued_room spare spare_room → IsSound (outs_after outs answer)
    → rooms_in queued' ≡ rooms_in queued
    → spare' ≡ spare_after answer queued' spare → queued_room ≤ queued_room' → spare_room ≤ spare_room'
    → HasRoom (outs_after outs answer) (kept_after answer queued') queued_room' spare' spare_room'
after_room outs queued queued' answer spare spare' queued_room queued_room' spare_room spare_room' has sound same spares
    more more_spare =
    let rooms = subst (AllByRecursion (λ r. outs.geometry.slots ≤ r)) (sym same) has.queued_are in
    let size : length queued' ≡ length queued = omega (
      arith,
      ap length same,
      length-map queued' (λ (one : QueuedWriteOut). one.room),
      length-map queued (λ (one : QueuedWriteOut). one.room),
    ) in
    record {
      sound = sound;
      queued_are = kept_all (λ r. outs.geometry.slots ≤ r) answer queued' rooms;
      spare_are = subst (AllByRecursion (λ r. outs.geometry.slots ≤ r)) (sym spares)
          (spare_all outs.geometry.slots answer queued' spare rooms has.spare_are);
      count = ap (λ (l : List ℕ). length (kept_after answer queued') + length l) spares
          ∙ same_count answer queued' spare
          ∙ ap (λ n. n + length spare) size
          ∙ has.count;
      room = omega (arith, has.room, more);
      spare_fits = omega (arith, has.spare_fits, more_spare);
    }

-- ---- the one at a place that makes the next step

module _ (shares : Bool) (queued : List QueuedWriteOut) (place : Option ℕ) (at : ℕ) (f : QueuedWriteOut)
    (is : place ≡ Some at) (here : f ≡ get_or queued at f)
    (lone : IfSome place (IsLone shares (write_outs_in queued))) where
  pub lone_there : IsLone shares (write_outs_in queued) at
  lone_there = subst (λ (o : Option ℕ). IfSome o (IsLone shares (write_outs_in queued))) is lone

  stands : (d : WriteOut) → get_or (write_outs_in queued) at d ≡ f.write_out
  stands d = at_place queued at f (omega (arith, lone_there.within, length-write_outs queued)) here d

  pub lone_mover : moving shares (write_outs_in queued) ≡ Some f.write_out
  lone_mover = lone_there.mover f.write_out ∙ ap Some (stands f.write_out)

  pub lone_own : (g : GeometryValue) → AllByRecursion (IsWriteOut g) (write_outs_in queued) → IsWriteOut g f.write_out
  lone_own g each = all_at (IsWriteOut g) (write_outs_in queued) f.write_out each
      (at, lone_there.within, stands f.write_out)
