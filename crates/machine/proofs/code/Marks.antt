-- The batch of a mark: the pages that it gathers, unless the machine is broken.
use Rattle.machine.proofs.Names.{ℕ, ◌≡◌, ◌<◌, ◌+◌, ◌++◌, Bool, true, false, not, cond, List, [], ◌∷◌, length, get_or}
use Rattle.machine.proofs.Names.{refl, sym, ap, ◌∙◌, subst, arith, both_ways, All, FilePage, first_home}
use Rattle.machine.proofs.Names.{is_busy, begun, CheckpointState, Gathers, State, IsInFile, IsSound, HasHome, MayBegin}
use Rattle.machine.proofs.Names.{IsPageOf, mark_homes, with_batch, with_homes}
use Rattle.machine.proofs.code.Parts.{pages-in_file}
use Rattle.machine.proofs.sound.ByMark.{gathered_there}
use Rattle.machine.proofs.sound.Homes.{home-below}
use Rattle.machine.proofs.sound.Uses.{batch_homes, newest_mark}

-- a page that begins before the end of its file is one of the file's, and has a home block
pub page_there : (s : State) (owner : FilePage) → IsSound s → IsInFile s owner → IsPageOf s.table owner
page_there s owner sound is = record {
  file = is.there;
  page = omega (arith, is.inside, sound.within owner.file, pages-in_file s.table.files owner.file is.there);
}

has_home : (s : State) (owner : FilePage) → IsSound s → IsInFile s owner → HasHome s.table owner
has_home s owner sound is = record { file = is.there; within = home-below s sound.within owner is }

module _ (s : State) (sound : IsSound s) (noted : CheckpointState) (pages : List FilePage)
    (gathers : Gathers s.hardware.spaces s.hardware.memory s.checkpoint noted (not s.write_outs.broken) pages) where
  -- either they are frozen, or none is
  by_pages : (P : List FilePage → Type 0) → P [] → P pages → P noted.frozen
  by_pages P none all = subst P (sym gathers.frozen) (by s.write_outs.broken)
    where
      by : (broken : Bool) → P (cond (not broken) pages [])
      by true = none
      by false = all

  pub frozen_there : All (HasHome s.table) noted.frozen
  frozen_there =
      by_pages (All (HasHome s.table)) (λ k d within. absurd (omega (arith, within)))
      (λ k d within. has_home s (get_or pages k d) sound
      ((gathered_there s noted (not s.write_outs.broken) pages sound.memory gathers).1 k d within))

  frozen_if : (broken : Bool) → s.write_outs.broken ≡ broken → noted.frozen ≡ cond (not broken) pages []
  frozen_if broken is = gathers.frozen ∙ ap (λ b. cond (not b) pages []) is

  -- a broken machine writes nothing, since no length was set
  none_broken : s.write_outs.broken ≡ true → mark_homes s [] ≡ []
  none_broken broken = by s.resized refl
    where
      by : (set : Bool) → s.resized ≡ set → (cond set (first_home s.table.layout s.table.slots ∷ []) [] ++ []) ≡ []
      by true is = absurd (both_ways s.write_outs.broken (sound.write_outs.quiescent is).1 broken)
      by false is = refl

  -- the home blocks of what is frozen: all, or none
  by_homes : (P : List ℕ → Type 0) → P [] → (s.write_outs.broken ≡ false → P (mark_homes s pages))
      → P (mark_homes s noted.frozen)
  by_homes P none all = by s.write_outs.broken refl
    where
      by : (broken : Bool) → s.write_outs.broken ≡ broken → P (mark_homes s noted.frozen)
      by true is =
          subst P (sym (ap (λ (owners : List FilePage). mark_homes s owners) (frozen_if true is) ∙ none_broken is)) none
      by false is = subst P (sym (ap (λ (owners : List FilePage). mark_homes s owners) (frozen_if false is))) (all is)

  pub may_begin : (s.write_outs.broken ≡ false → is_busy s.write_outs ≡ false) → 0 < length (mark_homes s noted.frozen)
      → MayBegin s.write_outs (s.marks + 1) (mark_homes s noted.frozen)
  may_begin ready = by_homes (λ (l : List ℕ). 0 < length l → MayBegin s.write_outs (s.marks + 1) l)
      (λ some. absurd (omega (arith, some))) (λ whole some. record {
        whole = whole;
        free = ready whole;
        some_mark = omega arith;
        small_mark = omega (arith, sound.write_outs.few_marks);
        are_homes = batch_homes s sound noted (not s.write_outs.broken) pages gathers some;
        newest = newest_mark s sound;
      })

  pub with_homes-batch : (mark : ℕ)
      → with_homes s.write_outs mark (mark_homes s noted.frozen) ≡ with_batch s mark (mark_homes s pages)
  with_homes-batch mark = by s.write_outs.broken refl
    where
      none : (homes : List ℕ) → s.write_outs.broken ≡ true → s.write_outs ≡ with_batch s mark homes
      none [] is = refl
      none (home ∷ homes) is = ap (λ b. cond b s.write_outs (begun s.write_outs mark (home ∷ homes))) (sym is)

      all : (homes : List ℕ) → s.write_outs.broken ≡ false
          → with_homes s.write_outs mark homes ≡ with_batch s mark homes
      all [] is = refl
      all (home ∷ homes) is = ap (λ b. cond b s.write_outs (begun s.write_outs mark (home ∷ homes))) (sym is)

      by : (broken : Bool) → s.write_outs.broken ≡ broken
          → with_homes s.write_outs mark (mark_homes s noted.frozen) ≡ with_batch s mark (mark_homes s pages)
      by true is = ap (λ (l : List ℕ). with_homes s.write_outs mark l)
          (ap (λ (owners : List FilePage). mark_homes s owners) (frozen_if true is) ∙ none_broken is)
          ∙ none (mark_homes s pages) is
      by false is = ap (λ (owners : List FilePage). with_homes s.write_outs mark (mark_homes s owners))
          (frozen_if false is) ∙ all (mark_homes s pages) is
