-- A step changes no batch: their home blocks and marks stay, but for those of one that is done.
use Rattle.std.proofs.Common.{◌≡◌, ℕ, ◌≤◌, Bool, true, false, List, [], ◌∷◌, length, map, drop}
use Rattle.std.proofs.Common.{refl, ap, sym, ◌∙◌, arith}
use Rattle.std.specs.List.{AllByRecursion}
use Rattle.std.proofs.lemmas.Bool.{cond_both}
use Rattle.std.proofs.lemmas.List.{length-map, length-drop}
use Rattle.journal.specs.declared.flushed.Flushed.{Flushed}
use Rattle.journal.specs.declared.flushed.Flushed.TheVariants.{Going, Committed, Done, Device, Broken}
use Rattle.journal.specs.Stage.{may_share}
use Rattle.journal.specs.WriteOut.{WriteOut, advanced_of}
use Rattle.journal.specs.WriteOuts.{gives_way, is_at, joined, moved, batches_after}
use Rattle.kept_blocks.specs.Blocks.{Blocks, homes_in}
use Rattle.pager.specs.Calls.{records_after}

abbrev pub batch_homes : List WriteOut → List (List ℕ)
batch_homes batches = map (λ (w : WriteOut). w.batch.homes) batches

homes_advanced : (batches : List WriteOut) → batch_homes (map advanced_of batches) ≡ batch_homes batches
homes_advanced [] = refl
homes_advanced (w ∷ newer) = ap (λ (l : List (List ℕ)). w.batch.homes ∷ l) (homes_advanced newer)

homes_joined : (shares : Bool) (w : WriteOut) (newer : List WriteOut)
    → batch_homes (joined shares w newer) ≡ batch_homes newer
homes_joined true w newer = cond_both (is_at may_share w) (map advanced_of newer) newer
    (λ (l : List WriteOut). batch_homes l ≡ batch_homes newer) (λ e. homes_advanced newer) (λ e. refl)
homes_joined false w newer = refl

homes_moved : (shares : Bool) (batches : List WriteOut) → batch_homes (moved shares batches) ≡ batch_homes batches
homes_moved shares [] = refl
homes_moved shares (w ∷ newer) = cond_both (gives_way shares w newer) (w ∷ moved shares newer)
    (advanced_of w ∷ joined shares w newer) (λ (l : List WriteOut). batch_homes l ≡ batch_homes (w ∷ newer))
    (λ e. ap (λ (l : List (List ℕ)). w.batch.homes ∷ l) (homes_moved shares newer))
    (λ e. ap (λ (l : List (List ℕ)). w.batch.homes ∷ l) (homes_joined shares w newer))

drop_map : {X Y : Type 0} (f : X → Y) (xs : List X) → map f (drop 1 xs) ≡ drop 1 (map f xs)
drop_map f [] = refl
drop_map f (x ∷ xs) = refl

-- the write-outs have their blocks after a step, too
pub tied_after : (shares : Bool) (answer : Flushed) (batches : List WriteOut) (records : List Blocks)
    → batch_homes batches ≡ map homes_in records
    → batch_homes (batches_after shares answer batches) ≡ map homes_in (records_after answer records)
tied_after shares Going batches records tied = homes_moved shares batches ∙ tied
tied_after shares (Committed mark) batches records tied = homes_moved shares batches ∙ tied
tied_after shares (Done mark) batches records tied =
    drop_map (λ (w : WriteOut). w.batch.homes) (moved shares batches)
    ∙ ap (drop 1) (homes_moved shares batches ∙ tied) ∙ sym (drop_map homes_in records)
tied_after shares Device batches records tied = tied
tied_after shares Broken batches records tied = tied

-- there are no more of them
fewer_moved : (shares : Bool) (batches : List WriteOut) → length (moved shares batches) ≤ length batches
fewer_moved shares batches = omega (
  arith,
  ap length (homes_moved shares batches),
  length-map (moved shares batches) (λ (w : WriteOut). w.batch.homes),
  length-map batches (λ (w : WriteOut). w.batch.homes),
)

pub fewer_after : (shares : Bool) (answer : Flushed) (batches : List WriteOut)
    → length (batches_after shares answer batches) ≤ length batches
fewer_after shares Going batches = fewer_moved shares batches
fewer_after shares (Committed mark) batches = fewer_moved shares batches
fewer_after shares (Done mark) batches =
    omega (arith, length-drop 1 (moved shares batches), fewer_moved shares batches)
fewer_after shares Device batches = omega arith
fewer_after shares Broken batches = omega arith

-- what holds of each write-out
abbrev pub AllOf : (WriteOut → Type 0) → List WriteOut → Type 0
AllOf P batches = AllByRecursion P batches

module _ (P : WriteOut → Type 0) (keep : (w : WriteOut) → P w → P (advanced_of w)) where
  all_advanced : (batches : List WriteOut) → AllOf P batches → AllOf P (map advanced_of batches)
  all_advanced [] all = tt
  all_advanced (w ∷ newer) all = (keep w all.0, all_advanced newer all.1)

  all_joined : (shares : Bool) (w : WriteOut) (newer : List WriteOut) → AllOf P newer
      → AllOf P (joined shares w newer)
  all_joined true w newer all = cond_both (is_at may_share w) (map advanced_of newer) newer (AllOf P)
      (λ e. all_advanced newer all) (λ e. all)
  all_joined false w newer all = all

  pub all_moved : (shares : Bool) (batches : List WriteOut) → AllOf P batches → AllOf P (moved shares batches)
  all_moved shares [] all = tt
  all_moved shares (w ∷ newer) all = cond_both (gives_way shares w newer) (w ∷ moved shares newer)
      (advanced_of w ∷ joined shares w newer) (AllOf P)
      (λ e. (all.0, all_moved shares newer all.1)) (λ e. (keep w all.0, all_joined shares w newer all.1))

  all_dropped : (batches : List WriteOut) → AllOf P batches → AllOf P (drop 1 batches)
  all_dropped [] all = tt
  all_dropped (w ∷ newer) all = all.1

  -- what a step keeps of each holds of each after it
  pub all_after : (shares : Bool) (answer : Flushed) (batches : List WriteOut) → AllOf P batches
      → AllOf P (batches_after shares answer batches)
  all_after shares Going batches all = all_moved shares batches all
  all_after shares (Committed mark) batches all = all_moved shares batches all
  all_after shares (Done mark) batches all = all_dropped (moved shares batches) (all_moved shares batches all)
  all_after shares Device batches all = all
  all_after shares Broken batches all = all
