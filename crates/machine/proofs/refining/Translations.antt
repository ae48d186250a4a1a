-- What a translation that is made goes through, where a load that is made reads, and where a store that is made writes.
use Rattle.std.proofs.lemmas.Bool.{or_right}
use Rattle.machine.proofs.Names.{ℕ, ◌≡◌, ◌⊎◌, Bool, true, false, not, ◌&&◌, ◌||◌, cond, Option, Some, None, Result, Ok}
use Rattle.machine.proofs.Names.{Err, refl, sym, ap, ◌∙◌, subst, inl, inr, ◌≢◌, ◌/◌, ◌%◌, List, take, drop, and_parts}
use Rattle.machine.proofs.Names.{not-false, Mapped, CachedEntry, cached, cached-All, entry_at, place_at, with_entry}
use Rattle.machine.proofs.Names.{Coheres, Agrees, IsUsable, processor_at, current, not_running, is_there, running}
use Rattle.machine.proofs.Names.{is_there_below, Hardware, serves, walk, walked, walked_to, translated, translated_by}
use Rattle.machine.proofs.Names.{filled_by, LoadMade, StoreMade, Place, may_write, FramesState, frame_at, bytes_of}
use Rattle.machine.proofs.Names.{with_bytes, places-with_entry, has_space-with_entry, CheckpointState, Holds, IsDirty}
use Rattle.machine.proofs.Names.{is_held, AreBacked, page_at, has_space-entry}
use Rattle.history.proofs.Public.{some_same}
use Rattle.machine.proofs.refining.DirtyFrames.{dirty_at, dirty_kept, dirty_back, dirty_there}
use Rattle.machine.proofs.refining.ObservedSpaces.{AreProcessorsObserved, observed_still}
use Rattle.machine.proofs.refining.ObservedSpaces.{ObservedSpaces, AreSpacesObserved, spaces_still}

-- ---- the entry that a translation goes through, also where a cached entry served it

-- A translation that reached a frame: through the table's entry, which stays and was dirty before a store, or is noted
-- and cached.
pub record IsTranslated (h : Hardware) (p page : ℕ) (write : Bool) (frame : ℕ) (new : Hardware) : Type 0 where
  pub entry : Mapped
  pub present : entry_at h.spaces (current h.shootdown p) page ≡ Some entry
  pub same_frame : frame ≡ entry.frame
  pub allowed : write ≡ true → entry.writable ≡ true
  pub reached : ((new ≡ h) × (write ≡ true → entry.dirty ≡ true))
      ⊎ (new ≡ walked h p page (record entry { accessed = true; dirty = entry.dirty || write }))

same_ok : {X E : Type 0} (x y : X) → ◌≡◌ {A = Result X E} (Ok x) (Ok y) → x ≡ y
same_ok x y e = cc

same_pair : {X Y : Type 0} {E : Type 0} (a c : X) (b d : Y) → ◌≡◌ {A = Result (X × Y) E} (Ok (a, b)) (Ok (c, d))
    → (a ≡ c) × (b ≡ d)
same_pair a c b d e = let pairs : (a, b) ≡ (c, d) = same_ok (a, b) (c, d) e in
    (ap (λ x. x.0) pairs, ap (λ x. x.1) pairs)

module _ (h : Hardware) (p page : ℕ) (write : Bool) (frame : ℕ) (new : Hardware) where
  by_walk : (o : Option Mapped) → entry_at h.spaces (current h.shootdown p) page ≡ o
      → walked_to h p page (walk o write) ≡ Ok (frame, new) → IsTranslated h p page write frame new
  by_walk None present made = absurd (cc)
  by_walk (Some entry) present made = go (write && not entry.writable) refl made
    where
      noted : Mapped
      noted = record entry { accessed = true; dirty = entry.dirty || write }

      go : (b : Bool) → (write && not entry.writable) ≡ b → walked_to h p page
          (cond b (Err 7) (Ok (record entry { accessed = true; dirty = entry.dirty || write }))) ≡ Ok (frame, new)
          → IsTranslated h p page write frame new
      go true refused made = absurd (cc)
      go false allowed made =
          let both = same_pair entry.frame frame
          (walked h p page (record entry { accessed = true; dirty = entry.dirty || write })) new made in
          record {
            entry = entry;
            present = present;
            same_frame = sym both.0;
            allowed = λ is. not-false entry.writable (subst (λ b. (b && not entry.writable) ≡ false) is allowed);
            reached = inr (sym both.1);
          }

  by_cached : Coheres h.spaces h.shootdown → not_running h.shootdown p ≡ None → (o : Option CachedEntry)
      → cached (processor_at h.shootdown p).tlb (current h.shootdown p) page ≡ o
      → translated_by h p page write o ≡ Ok (frame, new) → IsTranslated h p page write frame new
  by_cached coheres runs None found made = by_walk (entry_at h.spaces (current h.shootdown p) page) refl made
  by_cached coheres runs (Some e) found made = go (serves write e) refl made
    where
      go : (b : Bool) → serves write e ≡ b → cond b (Ok (e.frame, h))
          (walked_to h p page (walk (entry_at h.spaces (current h.shootdown p) page) write)) ≡ Ok (frame, new)
          → IsTranslated h p page write frame new
      go false unserved made = by_walk (entry_at h.spaces (current h.shootdown p) page) refl made
      go true served made =
          let is_running = running h.shootdown p runs in
          let covered = coheres.covered p (is_there_below h.shootdown p is_running.0) in
          let here = cached-All (λ x. IsUsable (processor_at h.shootdown p) x → Agrees h.spaces x)
          (processor_at h.shootdown p).tlb (current h.shootdown p) page e covered found in
          let agrees = here.2 (inr (is_running.1, here.0)) in
          let both = same_pair e.frame frame h new made in
          let writes : write ≡ true → (e.writable && e.dirty) ≡ true =
          λ is. subst (λ b. (not b || (e.writable && e.dirty)) ≡ true) is served in
          record {
            entry = agrees.0;
            present = (λ i. entry_at h.spaces (sym here.0 i) (sym here.1 i)) ∙ agrees.1;
            same_frame = sym both.0 ∙ agrees.2.same_frame;
            allowed = λ is. agrees.2.writable (and_parts e.writable e.dirty (writes is)).0;
            reached = inl (sym both.1, λ is. agrees.2.dirty (and_parts e.writable e.dirty (writes is)).1);
          }

  -- each translation that is made on a coherent machine is one
  pub is_translated : Coheres h.spaces h.shootdown → not_running h.shootdown p ≡ None
      → translated h p page write ≡ Ok (frame, new) → IsTranslated h p page write frame new
  is_translated coheres runs made =
      by_cached coheres runs (cached (processor_at h.shootdown p).tlb (current h.shootdown p) page) refl made

  -- frames stay
  pub memory-translated : IsTranslated h p page write frame new → new.memory ≡ h.memory
  memory-translated t = elim t.reached [
    | inl kept ↦ ap (λ (x : Hardware). x.memory) kept.0
    | inr noted ↦ ap (λ (x : Hardware). x.memory) noted
  ]

-- a fill caches an entry that is there
pub filled_cases : (h : Hardware) (p page : ℕ) (there : Bool) (new : Hardware) (o : Option Mapped)
    → entry_at h.spaces (current h.shootdown p) page ≡ o → (there, new) ≡ filled_by h p page o
    → (new ≡ h) ⊎ ((entry : Mapped) × (entry_at h.spaces (current h.shootdown p) page ≡ Some entry)
    × (new ≡ walked h p page (record entry { accessed = true })))
filled_cases h p page there new None present made = inl (ap (λ (x : Bool × Hardware). x.1) made)
filled_cases h p page there new (Some entry) present made = inr (entry, present, ap (λ (x : Bool × Hardware). x.1) made)

-- ---- where a load that is made reads, and a store that is made writes

-- what a load that was made read
pub record HasLoaded (h : Hardware) (p va count : ℕ) (bytes : List ℕ) : Type 0 where
  pub place : Place
  pub leads : place_at h.spaces (current h.shootdown p) (va / 4096) ≡ Some place
  pub frame : ℕ
  pub holds : Holds h.memory frame (page_at place)
  pub read : bytes ≡ take count (drop (va % 4096) (bytes_of (frame_at h.memory frame)))

pub has_loaded : (h : Hardware) (c : CheckpointState) (p va count : ℕ) (bytes : List ℕ) (new : Hardware)
    → Coheres h.spaces h.shootdown → AreBacked h.memory c h.spaces → LoadMade h p va count bytes new
    → HasLoaded h p va count bytes
has_loaded h c p va count bytes new coheres backed made =
    let t = is_translated h p (va / 4096) false made.frame new coheres made.running made.translation in
    let was = backed (current h.shootdown p) (va / 4096) t.entry t.present in
    record {
      place = was.place;
      leads = was.mapped;
      frame = t.entry.frame;
      holds = was.held;
      read = made.read ∙ ap (λ f. take count (drop (va % 4096) (bytes_of (frame_at h.memory f)))) t.same_frame;
    }

-- the hardware is as observed after it where it was before
pub record KeepsObserved (h new : Hardware) : Type 0 where
  pub lock : new.shootdown.lock ≡ h.shootdown.lock
  pub processors : (spaces : List ℕ) (runs : List Bool) → AreProcessorsObserved spaces runs h.shootdown
      → AreProcessorsObserved spaces runs new.shootdown
  pub spaces : (observed : ObservedSpaces) → AreSpacesObserved observed h.spaces → AreSpacesObserved observed new.spaces

-- so it is after a walk
observed_walked : (h : Hardware) (p page : ℕ) (old now : Mapped) → is_there h.shootdown p ≡ true
    → entry_at h.spaces (current h.shootdown p) page ≡ Some old → KeepsObserved h (walked h p page now)
observed_walked h p page old now there present = record {
  lock = refl;
  processors = λ spaces runs t.
      observed_still spaces runs h.shootdown p _ (is_there_below h.shootdown p there) t refl refl;
  spaces = λ observed t. spaces_still observed h.spaces (with_entry h.spaces (current h.shootdown p) page (Some now))
      (has_space-with_entry h.spaces (current h.shootdown p) page (Some now)
      (has_space-entry h.spaces (current h.shootdown p) page old present))
      (places-with_entry h.spaces (current h.shootdown p) page (Some now)) t;
}

-- what a store that was made wrote
pub record HasStored (h : Hardware) (c : CheckpointState) (p va : ℕ) (bytes : List ℕ) (new : Hardware) : Type 0 where
  pub place : Place
  pub leads : place_at h.spaces (current h.shootdown p) (va / 4096) ≡ Some place
  pub allowed : may_write place.rights ≡ true
  pub frame : ℕ
  pub holds : Holds h.memory frame (page_at place)
  -- its page isn't held back
  pub thawed : is_held h.memory c (page_at place) ≡ false
  pub memory : new.memory ≡ with_bytes h.memory frame (va % 4096) bytes
  pub observed : KeepsObserved h new
  -- its frame is dirty from then on, and each other as before
  pub dirty_now : IsDirty new.spaces c frame
  pub dirty_still : (f : ℕ) → IsDirty h.spaces c f → IsDirty new.spaces c f
  pub dirty_before : (f : ℕ) → f ≢ frame → IsDirty new.spaces c f → IsDirty h.spaces c f

pub has_stored : (h : Hardware) (c : CheckpointState) (p va : ℕ) (bytes : List ℕ) (new : Hardware)
    → Coheres h.spaces h.shootdown → AreBacked h.memory c h.spaces → StoreMade h p va bytes new
    → HasStored h c p va bytes new
has_stored h c p va bytes new coheres backed made =
    let t = is_translated h p (va / 4096) true made.frame made.mid coheres made.running made.translation in
    let pcid = current h.shootdown p in
    let page = va / 4096 in
    let was = backed pcid page t.entry t.present in
    let now : Mapped = record t.entry { accessed = true; dirty = t.entry.dirty || true } in
    let observed : KeepsObserved h made.mid = elim t.reached [
      | inl kept ↦ subst (KeepsObserved h) (sym kept.0)
          (record { lock = refl; processors = λ spaces runs t. t; spaces = λ observed t. t })
      | inr noted ↦ subst (KeepsObserved h) (sym noted)
          (observed_walked h p page t.entry now (running h.shootdown p made.running).0 t.present)
    ] in
    subst (HasStored h c p va bytes) (sym made.written) (record {
      place = was.place;
      leads = was.mapped;
      allowed = was.allowed (t.allowed refl);
      frame = t.entry.frame;
      holds = was.held;
      thawed = was.thawed (t.allowed refl);
      memory = ap (λ (m : FramesState). with_bytes m made.frame (va % 4096) bytes) (memory-translated h p page true
          made.frame made.mid t) ∙ ap (λ f. with_bytes h.memory f (va % 4096) bytes) t.same_frame;
      observed = record { lock = observed.lock; processors = observed.processors; spaces = observed.spaces };
      dirty_now = elim t.reached [
        | inl kept ↦ dirty_at made.mid.spaces c pcid page t.entry.frame t.entry
            (ap (λ (x : Hardware). entry_at x.spaces pcid page) kept.0 ∙ t.present) refl (kept.1 refl)
        | inr noted ↦ subst (λ (x : Hardware). IsDirty x.spaces c t.entry.frame) (sym noted)
            (dirty_there h.spaces pcid page now c (or_right t.entry.dirty true refl))
      ];
      dirty_still = λ f is. elim t.reached [
        | inl kept ↦ subst (λ (x : Hardware). IsDirty x.spaces c f) (sym kept.0) is
        | inr noted ↦ subst (λ (x : Hardware). IsDirty x.spaces c f) (sym noted) (dirty_kept h.spaces pcid page now c f
            (λ old at _. (
              ap (λ (m : Mapped). m.frame) (some_same t.entry old (sym t.present ∙ at)),
              or_right t.entry.dirty true refl,
            )) is)
      ];
      dirty_before = λ f other is. elim t.reached [
        | inl kept ↦ subst (λ (x : Hardware). IsDirty x.spaces c f) kept.0 is
        | inr noted ↦ dirty_back h.spaces pcid page now c f (λ _ here. absurd (other (sym here)))
            (subst (λ (x : Hardware). IsDirty x.spaces c f) noted is)
      ];
    })
