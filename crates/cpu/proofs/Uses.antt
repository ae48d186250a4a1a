-- Page tables whose entries are only used: nothing grows but accessed and dirty bits, so coherence is kept.
use Rattle.std.proofs.Common.{◌≡◌, ℕ, Bool, true, false, cond, not, eqb, ◌&&◌, ◌||◌, arith, List}
use Rattle.std.proofs.Common.{Option, Some, None, is_some, Result, Ok, Err, refl, sym, ap, ◌∙◌, subst}
use Rattle.std.proofs.lemmas.Bool.Decides.{nat_tests}
use Rattle.page_entry.specs.Entry.{Mapped, frame_of, is_writable, is_dirty}
use Rattle.frames.specs.Frames.{FramesState, frame_at, with_bytes}
use Rattle.frames.proofs.Public.{in_use-with_bytes}
use Rattle.pcid_tlb.specs.declared.CachedEntry.{CachedEntry}
use Rattle.spaces.specs.Spaces.{Spaces, SpacesState, AreSpaces, has_space, entry_at, with_entry}
use Rattle.spaces.specs.Changes.{Grows}
use Rattle.spaces.proofs.Public.{entry_at-with_entry, places-with_entry, has_space-with_entry, has_space-place_at}
use Rattle.shootdown.specs.Shootdown.{ShootdownState}
use Rattle.shootdown.specs.Coherence.{Agrees, Coheres}
use Rattle.shootdown.proofs.Public.{IsNoWider-same_places, Coheres-grown}
use Rattle.cpu.specs.Access.{hardware, walk, IsReachable}
use Rattle.cpu.specs.Keeping.{IsUsed, IsUsedAt, OnlyUses}

IsUsed-refl : (m : Mapped) → IsUsed m m
IsUsed-refl m = record { same_frame = refl; same_writable = refl; still_accessed = λ h. h; still_dirty = λ h. h }

IsUsedAt-refl : (o : Option Mapped) → IsUsedAt o o
IsUsedAt-refl None = refl
IsUsedAt-refl (Some m) = (m, refl, IsUsed-refl m)

-- ---- what a walk notes

-- a walk by an entry that allows the access
pub record WalksBy (o : Option Mapped) (write : Bool) (now : Mapped) : Type 0 where
  pub was : Mapped
  pub present : o ≡ Some was
  pub used : IsUsed was now
  pub writable : write ≡ true → was.writable ≡ true
  pub dirty : write ≡ true → now.dirty ≡ true

allowed : (write writable : Bool) → (write && not writable) ≡ false → write ≡ true → writable ≡ true
allowed true true test is = refl
allowed true false test is = absurd (cc)
allowed false writable test is = absurd (cc)

or_left : (a b : Bool) → a ≡ true → (a || b) ≡ true
or_left true b is = refl
or_left false b is = absurd (cc)

or_right : (a b : Bool) → b ≡ true → (a || b) ≡ true
or_right true b is = refl
or_right false b is = is

pub walks_by : (o : Option Mapped) (write : Bool) (now : Mapped) → walk o write ≡ Ok now → WalksBy o write now
walks_by None write now is = absurd (cc)
walks_by (Some was) write now is = by_test (write && not was.writable) refl is
  where
    by_test : (b : Bool) → (write && not was.writable) ≡ b
        → cond {A = Result Mapped ℕ} b (Err 7) (Ok (record was { accessed = true; dirty = was.dirty || write }))
        ≡ Ok now
        → WalksBy (Some was) write now
    by_test true test is = absurd (cc)
    by_test false test is =
        let same : record was { accessed = true; dirty = was.dirty || write } ≡ now = cc in
        subst (WalksBy (Some was) write) same (record {
          was = was;
          present = refl;
          used = record {
            same_frame = refl;
            same_writable = refl;
            still_accessed = λ h. refl;
            still_dirty = λ h. or_left was.dirty write h;
          };
          writable = allowed write was.writable test;
          dirty = λ h. or_right was.dirty write h;
        })

-- ---- what a use keeps

pub entry_at-noted : (spaces : Spaces) (pcid page : ℕ) (entry : Mapped)
    → entry_at (with_entry spaces pcid page (Some entry)) pcid page ≡ Some entry
entry_at-noted spaces pcid page entry =
    let set = entry_at-with_entry spaces pcid page (Some entry) pcid page in
    let here : (eqb pcid pcid && eqb page page) ≡ true = grind (arith, nat_tests) in
    set ∙ ap (λ b. cond b (Some entry) (entry_at spaces pcid page)) here

module _ (old : SpacesState) (pcid page : ℕ) (was now : Mapped) where
  pub OnlyUses-with_entry : has_space old.map pcid ≡ true → entry_at old.map pcid page ≡ Some was → IsUsed was now
      → OnlyUses old (record old { map = with_entry old.map pcid page (Some now) })
  OnlyUses-with_entry there present used = record {
    same_spaces = has_space-with_entry old.map pcid page (Some now) there;
    same_places = places-with_entry old.map pcid page (Some now);
    entries = λ q at.
        by_test q at (eqb q pcid) refl (eqb at page) refl (entry_at-with_entry old.map pcid page (Some now) q at);
    still_prepared = refl;
  }
    where
      used_at : (o new : Option Mapped) → o ≡ Some was → new ≡ Some now → IsUsedAt o new
      used_at o new before after = subst (λ o. IsUsedAt o new) (sym before) (now, after, used)

      by_test : (q at : ℕ) (a : Bool) → eqb q pcid ≡ a → (b : Bool) → eqb at page ≡ b
          → entry_at (with_entry old.map pcid page (Some now)) q at ≡ cond (a && b) (Some now) (entry_at old.map q at)
          → IsUsedAt (entry_at old.map q at) (entry_at (with_entry old.map pcid page (Some now)) q at)
      by_test q at true same true too set =
          let e : q ≡ pcid = grind (arith, nat_tests) in
          let f : at ≡ page = grind (arith, nat_tests) in
          used_at _ _ (ap (λ k. entry_at old.map k at) e ∙ ap (entry_at old.map pcid) f ∙ present) set
      by_test q at true same false other set =
          subst (IsUsedAt (entry_at old.map q at)) (sym set) (IsUsedAt-refl (entry_at old.map q at))
      by_test q at false other b _ set =
          subst (IsUsedAt (entry_at old.map q at)) (sym set) (IsUsedAt-refl (entry_at old.map q at))

used_from : (old new : SpacesState) → OnlyUses old new
    → (pcid page : ℕ) (entry : Mapped) → entry_at old.map pcid page ≡ Some entry
    → (now : Mapped) × (entry_at new.map pcid page ≡ Some now) × IsUsed entry now
used_from old new uses pcid page entry is =
    subst (λ o. IsUsedAt o (entry_at new.map pcid page)) is (uses.entries pcid page)

pub Grows-OnlyUses : (old new : SpacesState) → OnlyUses old new → Grows old.map new.map
Grows-OnlyUses old new uses = λ pcid page entry is.
    let now = used_from old new uses pcid page entry is in (
      now.0,
      now.1,
      record {
        same_frame = now.2.same_frame;
        still_writable = λ h. now.2.same_writable ∙ h;
        still_dirty = now.2.still_dirty;
      },
    )

-- an entry that is there was there, with the same frame
was_there : (o new : Option Mapped) (now : Mapped) → IsUsedAt o new → new ≡ Some now
    → (was : Mapped) × (o ≡ Some was) × (now.frame ≡ was.frame)
was_there None new now used is = absurd (cc)
was_there (Some was) new now used is =
    let same : used.0 ≡ now = cc in
    (was, refl, sym (ap (λ (m : Mapped). m.frame) same) ∙ used.2.same_frame)

some_before : (o new : Option Mapped) → IsUsedAt o new → is_some new ≡ true → is_some o ≡ true
some_before None new used is = absurd (cc)
some_before (Some was) new used is = refl

pub Coheres-OnlyUses : (old new : SpacesState) (s : ShootdownState) → OnlyUses old new → Coheres old.map s
    → Coheres new.map s
Coheres-OnlyUses old new s uses coheres =
    Coheres-grown old.map new.map s (Grows-OnlyUses old new uses)
    (λ lock held. IsNoWider-same_places lock.change old.map new.map uses.same_places
    (λ pcid page. some_before (entry_at old.map pcid page) (entry_at new.map pcid page) (uses.entries pcid page)))
    coheres

-- bytes are written into a frame: the same frames are in use
pub in_use-written : (memory after : FramesState) (frame at : ℕ) (bytes : List ℕ)
    → after ≡ with_bytes memory frame at bytes → (other : ℕ)
    → is_some (frame_at after other) ≡ is_some (frame_at memory other)
in_use-written memory after frame at bytes written other =
    ap (λ (m : FramesState). is_some (frame_at m other)) written
    ∙ in_use-with_bytes memory frame at bytes other

-- entries map frames that are in use as before
pub IsReachable-OnlyUses : (old new : SpacesState) (s now : ShootdownState) (memory after : FramesState)
    → OnlyUses old new → ((frame : ℕ) → is_some (frame_at after frame) ≡ is_some (frame_at memory frame))
    → IsReachable (hardware s old.map memory) → Coheres new.map now
    → IsReachable (hardware now new.map after)
IsReachable-OnlyUses old new s now memory after uses in_use reachable coheres = record {
  coheres = coheres;
  in_use = λ pcid page entry is.
      let before =
      was_there (entry_at old.map pcid page) (entry_at new.map pcid page) entry (uses.entries pcid page) is in
      in_use entry.frame
      ∙ ap (λ f. is_some (frame_at memory f)) before.2
      ∙ reachable.in_use pcid page before.0 before.1;
}

-- ---- a walk in the code

noted_at : (old new : SpacesState) (pcid page : ℕ) (entry : Option Mapped) (now : Mapped)
    → entry ≡ Some now → new ≡ record old { map = with_entry old.map pcid page entry }
    → new ≡ record old { map = with_entry old.map pcid page (Some now) }
noted_at old new pcid page entry now is noted =
    noted
    ∙ ap (λ (e : Option Mapped). record old { map = with_entry old.map pcid page e }) is

pub OnlyUses-walked : (old new : SpacesState) (pcid page : ℕ) (write : Bool) (o entry : Option Mapped)
    → AreSpaces old.map → o ≡ entry_at old.map pcid page
    → ((now : Mapped) × (entry ≡ Some now) × (walk o write ≡ Ok now))
    → new ≡ record old { map = with_entry old.map pcid page entry }
    → OnlyUses old new
OnlyUses-walked old new pcid page write o entry are at (now, is, walked) noted =
    let by = walks_by o write now walked in
    let present : entry_at old.map pcid page ≡ Some by.was = sym at ∙ by.present in
    let place = are.mapped pcid page by.was present in
    let there = has_space-place_at old.map pcid page (ap is_some place.1) in
    subst (OnlyUses old) (sym (noted_at old new pcid page entry now is noted))
    (OnlyUses-with_entry old pcid page by.was now there present by.used)

-- what is cached of the entry agrees with the tables
pub Agrees-walked : (old new : SpacesState) (pcid page : ℕ) (entry : Option Mapped) (e : CachedEntry) → (now : Mapped)
    → entry ≡ Some now → new ≡ record old { map = with_entry old.map pcid page entry } → e.pcid ≡ pcid
    → e.page ≡ page → e.frame ≡ frame_of entry → e.writable ≡ is_writable entry → e.dirty ≡ is_dirty entry
    → Agrees new.map e
Agrees-walked old new pcid page entry e now is noted pcid_is page_is frame writable dirty =
    let here =
    ap (λ (s : SpacesState). entry_at s.map pcid page) (noted_at old new pcid page entry now is noted)
    ∙ entry_at-noted old.map pcid page now in (
      now,
      ap (λ k. entry_at new.map k e.page) pcid_is ∙ ap (entry_at new.map pcid) page_is ∙ here,
      record {
        same_frame = frame ∙ ap frame_of is;
        writable = λ h. sym (ap is_writable is) ∙ sym writable ∙ h;
        dirty = λ h. sym (ap is_dirty is) ∙ sym dirty ∙ h;
      },
    )
