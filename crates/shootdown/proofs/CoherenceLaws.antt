-- What each call, each growth of the page tables and each change of them keeps of coherence.
use Rattle.std.proofs.Common.{◌≡◌, ◌≢◌, ℕ, ◌<◌, ◌⊎◌, inl, inr, Bool, true, false, cond, not, eqb, List, []}
use Rattle.std.proofs.Common.{◌∷◌, length, get_or, Option, Some, None, refl, sym, ap, ◌∙◌, subst, arith, All}
use Rattle.std.proofs.lemmas.Bool.{cases_eq, not-true, false_from_ne_true, eq-eqb}
use Rattle.std.proofs.lemmas.List.Elements.{All-filter, filter_passes}
use Rattle.std.proofs.lemmas.List.{length-replicate, get_or-replicate}
use Rattle.pcid_tlb.specs.declared.CachedEntry.{CachedEntry}
use Rattle.pcid_tlb.specs.declared.Invpcid.TheVariants.{SingleContext}
use Rattle.pcid_tlb.specs.Tlb.{TlbState, filled, evicted, without_page}
use Rattle.pcid_tlb.proofs.Public.{All-kept, All-cr3_loaded, All-evicted, All-filled}
use Rattle.spaces.specs.declared.change.Change.{Change}
use Rattle.spaces.specs.Spaces.{Spaces, entry_at}
use Rattle.spaces.specs.Changes.{affects, touches, Grows, ChangesOnlyAffected}
use Rattle.shootdown.specs.declared.lock.Lock.{Lock}
use Rattle.shootdown.specs.declared.proc_state.ProcState.{ProcState}
use Rattle.shootdown.specs.declared.proc_state.ProcState.TheVariants.{Active, Interrupted, Stalled, Initiating, Idle}
use Rattle.shootdown.specs.Processors.{Processor, fresh_processor, is_running, queue_drops}
use Rattle.shootdown.specs.Processors.{notified, drained, woken, switched, IsProcessor}
use Rattle.shootdown.specs.Shootdown.{ShootdownState, fresh_shootdown, processor_at, state_of, current}
use Rattle.shootdown.specs.Shootdown.{with_processor, interrupted, actions_of, state_when_begun, begun}
use Rattle.shootdown.specs.Shootdown.{stalled, finished, resumed, idled, switched_to, destroyed, IsShootdown}
use Rattle.shootdown.specs.Coherence.{IsUsable, Agrees, IsCovered, Coheres}
use Rattle.shootdown.specs.Coherence.{KeepsCoherence, IsUnused, IsForgotten, IsNoWider}
use Rattle.shootdown.specs.inside.Notifying.{state_begun}
use Rattle.shootdown.proofs.Notified.{notified-queue, notified_all-queue, queue_kept-notified, queue_kept-notified_all}
use Rattle.shootdown.proofs.Notified.{queue_drops-notified, queue_drops-notified_all, queue_drops-notified_any}
use Rattle.spaces.proofs.Public.{touches_affected}
use Rattle.shootdown.proofs.Sent.{sent}
use Rattle.shootdown.proofs.ShootdownLaws.{at-with_processor, uninterrupted, begun_one, length-begun}
use Rattle.shootdown.proofs.ShootdownLaws.{processor_at-begun, processor_at-destroyed, length-destroyed}

-- ---- processor by processor

-- one processor coheres with the tables, where the lock is held so
pub record CoheresAt (spaces : Spaces) (lock : Option Lock) (x : Processor) : Type 0 where
  pub covered : IsCovered spaces x
  pub warned : (held : Lock) → lock ≡ Some held → (pcid page : ℕ)
      → get_or x.may_cache pcid false ≡ true → affects spaces held.change pcid page ≡ true
      → queue_drops x.queue pcid page ≡ true
  pub away : (held : Lock) → lock ≡ Some held → x.state ≡ Active → touches spaces held.change x.space ≡ false

pub at_from_Coheres : {spaces : Spaces} {s : ShootdownState} → Coheres spaces s → (p : ℕ) → p < length s.processors
    → CoheresAt spaces s.lock (processor_at s p)
at_from_Coheres coheres p within = record {
  covered = coheres.covered p within;
  warned = λ held is pcid page may affected. coheres.warned held is p pcid page within may affected;
  away = λ held is active. coheres.away held is p within active;
}

pub Coheres-from_each : (spaces : Spaces) (s : ShootdownState)
    → ((p : ℕ) → p < length s.processors → CoheresAt spaces s.lock (processor_at s p))
    → Coheres spaces s
Coheres-from_each spaces s each = record {
  covered = λ p within. (each p within).covered;
  warned = λ held is p pcid page within may affected. (each p within).warned held is pcid page may affected;
  away = λ held is p within active. (each p within).away held is active;
}

-- one processor is another that coheres
pub Coheres-with_processor : (spaces : Spaces) (s : ShootdownState) (p : ℕ) (x : Processor)
    → p < length s.processors → CoheresAt spaces s.lock x → Coheres spaces s
    → Coheres spaces (with_processor s p x)
Coheres-with_processor spaces s p x there at coheres =
    Coheres-from_each spaces (with_processor s p x) (at-with_processor (λ q y. CoheresAt spaces s.lock y) s p x there at
    (λ q within other. at_from_Coheres coheres q within))

-- while the lock is free, it is enough that all its entries agree with the tables
CoheresAt-free : (spaces : Spaces) (x : Processor) → All (Agrees spaces) x.tlb.entries → CoheresAt spaces None x
CoheresAt-free spaces x all = record {
  covered = λ k d within usable. all k d within;
  warned = λ held is. absurd (cc);
  away = λ held is. absurd (cc);
}

-- in another state, that runs only where it ran, and is active only where it was
CoheresAt-with_state : (spaces : Spaces) (lock : Option Lock) (x : Processor) (state : ProcState)
    → (is_running state ≡ true → is_running x.state ≡ true)
    → (state ≡ Active → x.state ≡ Active) → CoheresAt spaces lock x
    → CoheresAt spaces lock (record x { state = state })
CoheresAt-with_state spaces lock x state ran active at = record {
  covered = λ k d within usable. at.covered k d within (still (get_or x.tlb.entries k d) usable);
  warned = at.warned;
  away = λ held is now. at.away held is (active now);
}
  where
    still : (e : CachedEntry) → IsUsable (record x { state = state }) e → IsUsable x e
    still e (inl kept) = inl kept
    still e (inr runs) = inr (ran runs.0, runs.1)

-- with another TLB
CoheresAt-with_tlb : (spaces : Spaces) (lock : Option Lock) (x : Processor) (t : TlbState)
    → All (λ e. IsUsable x e → Agrees spaces e) t.entries → CoheresAt spaces lock x
    → CoheresAt spaces lock (record x { tlb = t })
CoheresAt-with_tlb spaces lock x t covered at = record {
  covered = covered;
  warned = at.warned;
  away = at.away;
}

-- what it keeps when it carries out its queue agrees with the tables
Agrees-drained : (spaces : Spaces) (x : Processor) → IsCovered spaces x → All (Agrees spaces) (drained x).tlb.entries
Agrees-drained spaces x covered = λ k d within.
    let kept : CachedEntry → Bool = λ e. not (queue_drops x.queue e.pcid e.page) in
    All-filter kept (λ e. IsUsable x e → Agrees spaces e) x.tlb.entries covered k d within
    (inl (not-true _ (filter_passes kept x.tlb.entries k d within)))

-- ---- the calls

pub Coheres-stalled : (s : ShootdownState) (p : ℕ) → p < length s.processors → KeepsCoherence s (stalled s p)
Coheres-stalled s p there spaces coheres =
    Coheres-with_processor spaces s p _ there (CoheresAt-with_state spaces s.lock (processor_at s p) Stalled
    (λ runs. absurd (cc)) (λ active. absurd (cc)) (at_from_Coheres coheres p there)) coheres

pub Coheres-idled : (s : ShootdownState) (p : ℕ) → p < length s.processors → KeepsCoherence s (idled s p)
Coheres-idled s p there spaces coheres =
    Coheres-with_processor spaces s p _ there (CoheresAt-with_state spaces s.lock (processor_at s p) Idle
    (λ runs. absurd (cc)) (λ active. absurd (cc)) (at_from_Coheres coheres p there)) coheres

pub Coheres-resumed : (s : ShootdownState) (p : ℕ) → p < length s.processors → s.lock ≡ None
    → KeepsCoherence s (resumed s p)
Coheres-resumed s p there free spaces coheres =
    let at = CoheresAt-free spaces (woken (processor_at s p))
    (Agrees-drained spaces (processor_at s p) (coheres.covered p there)) in
    Coheres-with_processor spaces s p _ there
    (subst (λ (lock : Option Lock). CoheresAt spaces lock (woken (processor_at s p))) (sym free) at) coheres

pub Coheres-switched_to : (s : ShootdownState) (p pcid : ℕ) (keep : Bool) → p < length s.processors → s.lock ≡ None
    → KeepsCoherence s (switched_to s p pcid keep)
Coheres-switched_to s p pcid keep there free spaces coheres =
    let d = drained (processor_at s p) in
    let at = CoheresAt-free spaces (switched (processor_at s p) pcid keep) (All-cr3_loaded (Agrees spaces) d.tlb pcid
    keep (Agrees-drained spaces (processor_at s p) (coheres.covered p there))) in
    Coheres-with_processor spaces s p _ there
    (subst (λ (lock : Option Lock). CoheresAt spaces lock (switched (processor_at s p) pcid keep)) (sym free) at)
    coheres

-- the lock is free after it
unlocked : (spaces : Spaces) (lock : Option Lock) (x : Processor) → CoheresAt spaces lock x → CoheresAt spaces None x
unlocked spaces lock x at = record {
  covered = at.covered;
  warned = λ held is. absurd (cc);
  away = λ held is. absurd (cc);
}

pub Coheres-finished : (s : ShootdownState) (p : ℕ) → p < length s.processors → KeepsCoherence s (finished s p)
Coheres-finished s p there spaces coheres =
    let x = woken (processor_at s p) in
    Coheres-from_each spaces (finished s p)
    (at-with_processor (λ q y. CoheresAt spaces None y) s p x there
    (CoheresAt-free spaces x (Agrees-drained spaces (processor_at s p) (coheres.covered p there)))
    (λ q within other. unlocked spaces s.lock (processor_at s q) (at_from_Coheres coheres q within)))

-- ---- fills and evictions

pub Coheres-evicted : (s : ShootdownState) (p slot : ℕ) → p < length s.processors
    → KeepsCoherence s (with_processor s p (record (processor_at s p) { tlb = evicted (processor_at s p).tlb slot }))
Coheres-evicted s p slot there spaces coheres =
    let x = processor_at s p in
    Coheres-with_processor spaces s p _ there
    (CoheresAt-with_tlb spaces s.lock x (evicted x.tlb slot)
    (All-evicted (λ e. IsUsable x e → Agrees spaces e) x.tlb slot (coheres.covered p there))
    (at_from_Coheres coheres p there)) coheres

pub Coheres-without_page : (s : ShootdownState) (p pcid page : ℕ) → p < length s.processors
    → KeepsCoherence s
    (with_processor s p (record (processor_at s p) { tlb = without_page (processor_at s p).tlb pcid page }))
Coheres-without_page s p pcid page there spaces coheres =
    let x = processor_at s p in
    Coheres-with_processor spaces s p _ there
    (CoheresAt-with_tlb spaces s.lock x (without_page x.tlb pcid page)
    (All-kept (λ e. IsUsable x e → Agrees spaces e) _ x.tlb (coheres.covered p there))
    (at_from_Coheres coheres p there)) coheres

pub Coheres-filled : (spaces : Spaces) (s : ShootdownState) (p : ℕ) (e : CachedEntry)
    → p < length s.processors → Agrees spaces e → Coheres spaces s
    → Coheres spaces (with_processor s p (record (processor_at s p) { tlb = filled (processor_at s p).tlb e }))
Coheres-filled spaces s p e there agrees coheres =
    let x = processor_at s p in
    Coheres-with_processor spaces s p _ there
    (CoheresAt-with_tlb spaces s.lock x (filled x.tlb e)
    (All-filled (λ e. IsUsable x e → Agrees spaces e) x.tlb e (coheres.covered p there) (λ usable. agrees))
    (at_from_Coheres coheres p there)) coheres

-- ---- the begin of a change

was_running : (touched : Bool) (state : ProcState) → is_running (state_when_begun touched state) ≡ true
    → is_running state ≡ true
was_running true Active runs = refl
was_running true Interrupted runs = runs
was_running true Stalled runs = runs
was_running true Initiating runs = runs
was_running true Idle runs = runs
was_running false state runs = runs

untouched : (touched : Bool) (state : ProcState) → state_when_begun touched state ≡ Active → touched ≡ false
untouched true Active now = absurd (cc)
untouched true Interrupted now = absurd (cc)
untouched true Stalled now = absurd (cc)
untouched true Initiating now = absurd (cc)
untouched true Idle now = absurd (cc)
untouched false state now = refl

-- whoever runs once a change has begun ran before, and whoever is then active is in no space that it touches
runs_begun : (p : ℕ) (spaces : Spaces) (change : Change) (i : ℕ) (x : Processor)
    → is_running (state_begun p spaces change i x) ≡ true
    → is_running x.state ≡ true
runs_begun p spaces change i x = go (eqb i p)
  where
    go : (b : Bool) → is_running (cond b Initiating (state_when_begun (touches spaces change x.space) x.state)) ≡ true
        → is_running x.state ≡ true
    go true runs = absurd (cc)
    go false runs = was_running (touches spaces change x.space) x.state runs

away_begun : (p : ℕ) (spaces : Spaces) (change : Change) (i : ℕ) (x : Processor)
    → state_begun p spaces change i x ≡ Active
    → touches spaces change x.space ≡ false
away_begun p spaces change i x = go (eqb i p)
  where
    go : (b : Bool) → cond b Initiating (state_when_begun (touches spaces change x.space) x.state) ≡ Active
        → touches spaces change x.space ≡ false
    go true active = absurd (cc)
    go false active = untouched (touches spaces change x.space) x.state active

CoheresAt-begun : (p : ℕ) (spaces : Spaces) (change : Change) (i : ℕ) (x : Processor) → IsCovered spaces x
    → CoheresAt spaces (Some (record { holder = p; change = change })) (begun_one p spaces change i x)
CoheresAt-begun p spaces change i x covered =
    let actions = actions_of spaces change in
    let y : Processor = record x { state = state_begun p spaces change i x } in
    let new = begun_one p spaces change i x in
    let same : new ≡ record y { queue = new.queue } = notified_all-queue actions y in
    let tlb : new.tlb ≡ x.tlb = ap (λ (z : Processor). z.tlb) same in
    let state : new.state ≡ state_begun p spaces change i x = ap (λ (z : Processor). z.state) same in
    let space : new.space ≡ x.space = ap (λ (z : Processor). z.space) same in
    let flags : new.may_cache ≡ x.may_cache = ap (λ (z : Processor). z.may_cache) same in
    let usable : (e : CachedEntry) → IsUsable new e → IsUsable x e = λ e uses. was_usable e uses state space in
    record {
      covered = subst (λ (t : TlbState). All (λ e. IsUsable new e → Agrees spaces e) t.entries) (sym tlb)
          (λ k d within uses. covered k d within (usable (get_or x.tlb.entries k d) uses));
      warned = λ held is pcid page may affected.
          let change_is : change ≡ held.change = cc in
          queue_drops-notified_any actions y pcid page (ap (λ (fs : List Bool). get_or fs pcid false) (sym flags) ∙ may)
          (sent spaces change pcid page (ap (λ (c : Change). affects spaces c pcid page) change_is ∙ affected));
      away = λ held is active.
          let change_is : change ≡ held.change = cc in
          sym (ap (λ (c : Change). touches spaces c new.space) change_is)
          ∙ ap (touches spaces change) space
          ∙ away_begun p spaces change i x (sym state ∙ active);
    }
  where
    was_usable : (e : CachedEntry) → IsUsable (begun_one p spaces change i x) e
        → (begun_one p spaces change i x).state ≡ state_begun p spaces change i x
        → (begun_one p spaces change i x).space ≡ x.space
        → IsUsable x e
    was_usable e (inl kept) state space = inl (queue_kept-notified_all (actions_of spaces change)
        (record x { state = state_begun p spaces change i x }) e.pcid e.page kept)
    was_usable e (inr runs) state space =
        inr (runs_begun p spaces change i x (sym (ap is_running state) ∙ runs.0), runs.1 ∙ space)

-- a change begins while the lock is free
pub Coheres-begun : (spaces : Spaces) (s : ShootdownState) (p : ℕ) (change : Change) → Coheres spaces s
    → Coheres spaces (begun s p spaces change)
Coheres-begun spaces s p change coheres =
    Coheres-from_each spaces (begun s p spaces change) (λ q within.
    let below : q < length s.processors = omega (arith, length-begun s p spaces change) in
    subst (CoheresAt spaces (Some (record { holder = p; change = change })))
    (sym (processor_at-begun s p spaces change q below))
    (CoheresAt-begun p spaces change q (processor_at s q) (coheres.covered q below)))

-- ---- nobody uses what is about to change

ran_active : (state : ProcState) → is_running state ≡ true → state ≢ Interrupted → state ≡ Active
ran_active Active runs not = refl
ran_active Interrupted runs not = absurd (not refl)
ran_active Stalled runs not = absurd (cc)
ran_active Initiating runs not = absurd (cc)
ran_active Idle runs not = absurd (cc)

-- While the lock is held for a change and nobody is interrupted, nobody uses what it affects.
pub IsUnused-from_Coheres : (spaces : Spaces) (change : Change) (s : ShootdownState) (lock : Lock)
    → IsShootdown s → Coheres spaces s → s.lock ≡ Some lock → lock.change ≡ change → interrupted s ≡ 0
    → IsUnused spaces change s
IsUnused-from_Coheres spaces change s lock is coheres held same quiet =
    let away : (p : ℕ) → p < length s.processors → is_running (state_of s p) ≡ true
    → touches spaces change (current s p) ≡ false =
    λ p within runs.
    let active = ran_active (state_of s p) runs (uninterrupted s.processors quiet p (fresh_processor 1) within) in
    sym (ap (λ (c : Change). touches spaces c (current s p)) same) ∙ coheres.away lock held p within active in
    record {
      away = away;
      unused = λ p within k d below affected uses.
          let x = processor_at s p in
          let e = get_or x.tlb.entries k d in
          let warned : get_or x.may_cache e.pcid false ≡ true → queue_drops x.queue e.pcid e.page ≡ true = λ may.
          coheres.warned lock held p e.pcid e.page within may
          (ap (λ (c : Change). affects spaces c e.pcid e.page) same ∙ affected) in
          unusable p e uses warned ((is.each p within).known k d below) (away p within)
          (touches_affected spaces change e.pcid e.page affected);
    }
  where
    unusable : (p : ℕ) (e : CachedEntry) → IsUsable (processor_at s p) e
        → (get_or (processor_at s p).may_cache e.pcid false ≡ true
        → queue_drops (processor_at s p).queue e.pcid e.page ≡ true)
        → get_or (processor_at s p).may_cache e.pcid false ≡ true
        → (is_running (state_of s p) ≡ true → touches spaces change (current s p) ≡ false)
        → touches spaces change e.pcid ≡ true
        → ⊥
    unusable p e (inl kept) warned known away touched = let drops = warned known in cc
    unusable p e (inr runs) warned known away touched =
        let free = away runs.0 in
        let there = ap (touches spaces change) (sym runs.1) ∙ touched in
        cc

-- ---- the page tables grow, or change

Agrees-grown : (old new : Spaces) → Grows old new → (e : CachedEntry) → Agrees old e → Agrees new e
Agrees-grown old new grows e (entry, present, backed) =
    let grown = grows e.pcid e.page entry present in
    let keeps = grown.2 in (
      grown.0,
      grown.1,
      record {
        same_frame = backed.same_frame ∙ sym keeps.same_frame;
        writable = λ writable. keeps.still_writable (backed.writable writable);
        dirty = λ dirty. keeps.still_dirty (backed.dirty dirty);
      },
    )

still_warned : (old new : Spaces) (s : ShootdownState)
    → ((lock : Lock) → s.lock ≡ Some lock → IsNoWider lock.change old new) → Coheres old s
    → ((p : ℕ) → p < length s.processors → IsCovered new (processor_at s p))
    → Coheres new s
still_warned old new s wider coheres covered = record {
  covered = covered;
  warned = λ lock held p pcid page within may affected.
      coheres.warned lock held p pcid page within may ((wider lock held).affected pcid page affected);
  away = λ lock held p within active. false_from_ne_true _ (λ touched. let before =
      (wider lock held).touched (current s p) touched in let free = coheres.away lock held p within active in cc);
}

-- The tables grow: coherence is kept, where a change that is under way then affects nothing more.
pub Coheres-grown : (old new : Spaces) (s : ShootdownState) → Grows old new
    → ((lock : Lock) → s.lock ≡ Some lock → IsNoWider lock.change old new) → Coheres old s
    → Coheres new s
Coheres-grown old new s grows wider coheres =
    still_warned old new s wider coheres (λ p within k d below uses.
    Agrees-grown old new grows (get_or (processor_at s p).tlb.entries k d) (coheres.covered p within k d below uses))

-- The change is made: entries change at pages alone that it affects, which nobody uses.
pub Coheres-changed : (change : Change) (old new : Spaces) (s : ShootdownState) → ChangesOnlyAffected change old new
    → IsUnused old change s → ((lock : Lock) → s.lock ≡ Some lock → IsNoWider lock.change old new) → Coheres old s
    → Coheres new s
Coheres-changed change old new s only unused wider coheres =
    still_warned old new s wider coheres (λ p within k d below uses.
    let e = get_or (processor_at s p).tlb.entries k d in
    let apart : affects old change e.pcid e.page ≡ false =
    false_from_ne_true _ (λ affected. unused.unused p within k d below affected uses) in
    let before = coheres.covered p within k d below uses in
    (before.0, only e.pcid e.page apart ∙ before.1, before.2))

-- ---- a space is destroyed

-- no processor that is notified to drop a PCID, and isn't in it, may use a cached entry of it
unused_when_notified : (x : Processor) (pcid : ℕ) (e : CachedEntry) → x.space ≢ pcid
    → get_or x.may_cache e.pcid false ≡ true → e.pcid ≡ pcid → IsUsable (notified x (SingleContext pcid)) e
    → ⊥
unused_when_notified x pcid e elsewhere known here (inl kept) =
    let drops = queue_drops-notified x (SingleContext pcid) e.pcid e.page known (eq-eqb e.pcid pcid here) in cc
unused_when_notified x pcid e elsewhere known here (inr runs) =
    elsewhere (sym (ap (λ (z : Processor). z.space) (notified-queue x (SingleContext pcid))) ∙ sym runs.1 ∙ here)

pub IsForgotten-destroyed : (s : ShootdownState) (pcid : ℕ) → IsShootdown s
    → ((p : ℕ) → p < length s.processors → current s p ≢ pcid)
    → IsForgotten (destroyed s pcid) pcid
IsForgotten-destroyed s pcid is elsewhere = λ q within.
    let below : q < length s.processors = omega (arith, length-destroyed s pcid) in
    let x = processor_at s q in
    let tlb : (notified x (SingleContext pcid)).tlb ≡ x.tlb =
    ap (λ (z : Processor). z.tlb) (notified-queue x (SingleContext pcid)) in
    let unused : All (λ e. e.pcid ≡ pcid → IsUsable (notified x (SingleContext pcid)) e → ⊥)
    (notified x (SingleContext pcid)).tlb.entries =
    subst (λ (t : TlbState). All (λ e. e.pcid ≡ pcid → IsUsable (notified x (SingleContext pcid)) e → ⊥) t.entries)
    (sym tlb)
    (λ k d inside here uses. unused_when_notified x pcid (get_or x.tlb.entries k d) (elsewhere q below)
    ((is.each q below).known k d inside) here uses) in
    subst (λ (y : Processor). All (λ e. e.pcid ≡ pcid → IsUsable y e → ⊥) y.tlb.entries)
    (sym (processor_at-destroyed s pcid q below)) unused

CoheresAt-destroyed : (old new : Spaces) (pcid : ℕ) (lock : Option Lock) (x : Processor) → IsProcessor x
    → x.space ≢ pcid → ((q page : ℕ) → q ≢ pcid → entry_at new q page ≡ entry_at old q page)
    → ((held : Lock) → lock ≡ Some held → IsNoWider held.change old new) → CoheresAt old lock x
    → CoheresAt new lock (notified x (SingleContext pcid))
CoheresAt-destroyed old new pcid lock x is elsewhere others wider at =
    let y = notified x (SingleContext pcid) in
    let same : y ≡ record x { queue = y.queue } = notified-queue x (SingleContext pcid) in
    let tlb : y.tlb ≡ x.tlb = ap (λ (z : Processor). z.tlb) same in
    let state : y.state ≡ x.state = ap (λ (z : Processor). z.state) same in
    let space : y.space ≡ x.space = ap (λ (z : Processor). z.space) same in
    let flags : y.may_cache ≡ x.may_cache = ap (λ (z : Processor). z.may_cache) same in
    record {
      covered = subst (λ (t : TlbState). All (λ e. IsUsable y e → Agrees new e) t.entries) (sym tlb) (λ k d within uses.
          let e = get_or x.tlb.entries k d in
          agrees e (cases_eq e.pcid pcid) uses (is.known k d within) (at.covered k d within) state space);
      warned = λ held is q page may affected.
          dropped q page (at.warned held is q page (ap (λ (fs : List Bool). get_or fs q false) (sym flags) ∙ may)
          ((wider held is).affected q page affected));
      away = λ held is active. false_from_ne_true _ (λ touched.
          let before = (wider held is).touched y.space touched in
          let here : touches old held.change x.space ≡ true = ap (touches old held.change) (sym space) ∙ before in
          let free = at.away held is (sym state ∙ active) in cc);
    }
  where
    dropped : (q page : ℕ) → queue_drops x.queue q page ≡ true
        → queue_drops (notified x (SingleContext pcid)).queue q page ≡ true
    dropped q page drops = queue_drops-notified_all (SingleContext pcid ∷ []) x q page drops

    usable : (e : CachedEntry) → IsUsable (notified x (SingleContext pcid)) e
        → (notified x (SingleContext pcid)).state ≡ x.state → (notified x (SingleContext pcid)).space ≡ x.space
        → IsUsable x e
    usable e (inl kept) state space = inl (queue_kept-notified x (SingleContext pcid) e.pcid e.page kept)
    usable e (inr runs) state space = inr (sym (ap is_running state) ∙ runs.0, runs.1 ∙ space)

    agrees : (e : CachedEntry) → (e.pcid ≡ pcid) ⊎ (e.pcid ≡ pcid → ⊥) → IsUsable (notified x (SingleContext pcid)) e
        → get_or x.may_cache e.pcid false ≡ true → (IsUsable x e → Agrees old e)
        → (notified x (SingleContext pcid)).state ≡ x.state → (notified x (SingleContext pcid)).space ≡ x.space
        → Agrees new e
    agrees e (inl here) uses known covered state space =
        absurd (unused_when_notified x pcid e elsewhere known here uses)
    agrees e (inr other) uses known covered state space =
        let before = covered (usable e uses state space) in
        (before.0, others e.pcid e.page other ∙ before.1, before.2)

-- A space goes that is nobody's current one; whoever may cache its PCID is notified.
pub Coheres-destroyed : (old new : Spaces) (s : ShootdownState) (pcid : ℕ)
    → IsShootdown s → ((p : ℕ) → p < length s.processors → current s p ≢ pcid)
    → ((q page : ℕ) → q ≢ pcid → entry_at new q page ≡ entry_at old q page)
    → ((lock : Lock) → s.lock ≡ Some lock → IsNoWider lock.change old new) → Coheres old s
    → Coheres new (destroyed s pcid)
Coheres-destroyed old new s pcid is elsewhere others wider coheres =
    Coheres-from_each new (destroyed s pcid) (λ q within.
    let below : q < length s.processors = omega (arith, length-destroyed s pcid) in
    subst (CoheresAt new s.lock) (sym (processor_at-destroyed s pcid q below))
    (CoheresAt-destroyed old new pcid s.lock (processor_at s q) (is.each q below) (elsewhere q below) others wider
    (at_from_Coheres coheres q below)))

-- ---- boot: nothing is cached

pub Coheres-fresh : (spaces : Spaces) (cpus tlb : ℕ) → Coheres spaces (fresh_shootdown cpus tlb)
Coheres-fresh spaces cpus tlb =
    Coheres-from_each spaces (fresh_shootdown cpus tlb) (λ p within.
    let same : processor_at (fresh_shootdown cpus tlb) p ≡ fresh_processor tlb =
    get_or-replicate cpus p (fresh_processor tlb) (fresh_processor 1)
    (omega (arith, length-replicate cpus (fresh_processor tlb))) in
    subst (CoheresAt spaces None) (sym same)
    (CoheresAt-free spaces (fresh_processor tlb) (λ k d below. absurd (omega arith))))

-- ---- what coherence says of entries that may be used
