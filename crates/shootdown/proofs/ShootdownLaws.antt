-- What each call keeps of the processors and the lock.
use Rattle.std.proofs.Common.{◌≡◌, ◌≢◌, ℕ, zero, suc, ◌+◌, ◌<◌, ◌≤◌, ◌↔◌, ◌⊎◌, inl, inr, Bool}
use Rattle.std.proofs.Common.{true, false, cond, if◌then◌else◌, ◌==◌, not, eqb, List, [], ◌∷◌}
use Rattle.std.proofs.Common.{◌++◌, length, map, get_or, replicate, Option, Some, None, is_some}
use Rattle.std.proofs.Common.{refl, sym, ap, ◌∙◌, subst, arith, get_or-set_same, get_or-set_other}
use Rattle.std.specs.List.{count_by, list_any}
use Rattle.std.specs.Option.{option_map, option_or}
use Rattle.std.proofs.lemmas.List.Sums.{fold_push}
use Rattle.std.proofs.lemmas.List.Folds.{list_any_at}
use Rattle.std.proofs.lemmas.Bool.{cases_eq, eqb-true, eqb-false, eq-eqb, ltb-true, lt-ltb}
use Rattle.std.proofs.lemmas.List.Sums.{get_or-le-sum_by}
use Rattle.std.proofs.lemmas.List.{get_or_read, length-set, length-map, length-replicate, get_or-replicate}
use Rattle.page_entry.specs.declared.refusal.Refusal.TheVariants as refusals
use Rattle.pcid_tlb.specs.declared.Invpcid.{Invpcid}
use Rattle.pcid_tlb.specs.declared.Invpcid.TheVariants.{SingleContext}
use Rattle.spaces.specs.declared.change.Change.{Change}
use Rattle.spaces.specs.Spaces.{Spaces}
use Rattle.spaces.specs.Changes.{touches}
use Rattle.shootdown.specs.declared.lock.Lock.{Lock}
use Rattle.shootdown.specs.declared.proc_state.ProcState.{ProcState}
use Rattle.shootdown.specs.declared.proc_state.ProcState.TheVariants.{Active, Interrupted, Stalled, Initiating, Idle}
use Rattle.shootdown.specs.Processors.{Processor, fresh_processor, is_running, notified}
use Rattle.shootdown.specs.Processors.{notified_all, drained, woken, pcids, IsProcessor}
use Rattle.shootdown.specs.Shootdown.{ShootdownState, fresh_shootdown, processor_at, state_of, current}
use Rattle.shootdown.specs.Shootdown.{with_processor, is_there, not_running, not_free, is_interrupted}
use Rattle.shootdown.specs.Shootdown.{interrupted, actions_of, state_when_begun, begun_from, begun, stalled}
use Rattle.shootdown.specs.Shootdown.{finished, resumed, idled, switched_to, destroyed, IsShootdown}
use Rattle.shootdown.specs.inside.Notifying.{each_from, state_begun}
use Rattle.shootdown.specs.Calls.{not_there, holder_of}
use Rattle.shootdown.proofs.Each.{length-each_from, get_or-each_from}
use Rattle.shootdown.proofs.Notified.{notified-queue, notified_all-queue}
use Rattle.shootdown.proofs.Notified.{IsProcessor-notified, IsProcessor-notified_all}
use Rattle.pcid_tlb.specs.declared.CachedEntry.{CachedEntry}
use Rattle.pcid_tlb.specs.Tlb.{filled, without_page, evicted}
use Rattle.shootdown.proofs.ProcessorLaws.{IsProcessor-filled, IsProcessor-without_page}
use Rattle.shootdown.proofs.ProcessorLaws.{IsProcessor-evicted, IsProcessor-with_state}
use Rattle.shootdown.proofs.ProcessorLaws.{IsProcessor-drained, IsProcessor-loaded, IsProcessor-fresh}

-- ---- which processor is where

-- one processor is another; all others are as they were
pub processor_at-with_same : (s : ShootdownState) (p : ℕ) (x : Processor) → p < length s.processors
    → processor_at (with_processor s p x) p ≡ x
processor_at-with_same s p x within = get_or-set_same s.processors p x (fresh_processor 1) within

pub processor_at-with_other : (s : ShootdownState) (p : ℕ) (x : Processor) (q : ℕ) → q ≢ p
    → processor_at (with_processor s p x) q ≡ processor_at s q
processor_at-with_other s p x q other = get_or-set_other s.processors p q x (fresh_processor 1) other

pub length-with_processor : (s : ShootdownState) (p : ℕ) (x : Processor)
    → length (with_processor s p x).processors ≡ length s.processors
length-with_processor s p x = length-set s.processors p x

-- what holds of a processor, and of the new one, holds after it
pub at-with_processor : (P : ℕ → Processor → Type 0) (s : ShootdownState) (p : ℕ) (x : Processor)
    → p < length s.processors → P p x → ((q : ℕ) → q < length s.processors → q ≢ p → P q (processor_at s q))
    → (q : ℕ) → q < length (with_processor s p x).processors
    → P q (processor_at (with_processor s p x) q)
at-with_processor P s p x there here others q within = go (cases_eq q p)
  where
    go : (q ≡ p) ⊎ (q ≡ p → ⊥) → P q (processor_at (with_processor s p x) q)
    go (inl same) = subst (λ (n : ℕ). P n (processor_at (with_processor s p x) n)) (sym same)
        (subst (P p) (sym (processor_at-with_same s p x there)) here)
    go (inr other) = subst (P q) (sym (processor_at-with_other s p x q other))
        (others q (omega (arith, length-with_processor s p x)) other)

-- ---- what the invariant says of another list of processors

-- one processor is another
pub IsShootdown-with_processor : (s : ShootdownState) (p : ℕ) (x : Processor) → IsShootdown s
    → p < length s.processors → IsProcessor x → (s.lock ≡ None → (x.state ≢ Initiating) × (x.state ≢ Interrupted))
    → ((lock : Lock) → s.lock ≡ Some lock → (x.state ≡ Initiating) ↔ (p ≡ lock.holder))
    → IsShootdown (with_processor s p x)
IsShootdown-with_processor s p x is there processor free held = record {
  some = omega (arith, is.some, length-with_processor s p x);
  few = omega (arith, is.few, length-with_processor s p x);
  each = at-with_processor (λ q y. IsProcessor y) s p x there processor (λ q within other. is.each q within);
  free = λ none. at-with_processor (λ q y. (y.state ≢ Initiating) × (y.state ≢ Interrupted)) s p x there (free none)
      (λ q within other. is.free none q within);
  held = λ lock some. (
    let below = (is.held lock some).0 in omega (arith, below, length-with_processor s p x),
    at-with_processor (λ q y. (y.state ≡ Initiating) ↔ (q ≡ lock.holder)) s p x there (held lock some)
        (λ q within other. (is.held lock some).1 q within),
  );
}

-- it is in the same state
pub IsShootdown-same_state : (s : ShootdownState) (p : ℕ) (x : Processor)
    → IsShootdown s → p < length s.processors → IsProcessor x → x.state ≡ state_of s p
    → IsShootdown (with_processor s p x)
IsShootdown-same_state s p x is there processor same =
    IsShootdown-with_processor s p x is there processor
    (λ none.
    subst (λ (state : ProcState). (state ≢ Initiating) × (state ≢ Interrupted)) (sym same) (is.free none p there))
    (λ lock some.
    subst (λ (state : ProcState). (state ≡ Initiating) ↔ (p ≡ lock.holder)) (sym same) ((is.held lock some).1 p there))

-- one that didn't initiate is in another state in which it doesn't
pub IsShootdown-with_state : (s : ShootdownState) (p : ℕ) (x : Processor) → IsShootdown s → p < length s.processors
    → IsProcessor x → state_of s p ≢ Initiating → x.state ≢ Initiating → x.state ≢ Interrupted
    → IsShootdown (with_processor s p x)
IsShootdown-with_state s p x is there processor before now uninterrupted =
    IsShootdown-with_processor s p x is there processor (λ none. (now, uninterrupted))
    (λ lock some.
    (λ initiating. absurd (now initiating), λ holds. absurd (before (((is.held lock some).1 p there).1 holds))))

pub is_there_below : (s : ShootdownState) (p : ℕ) → is_there s p ≡ true → p < length s.processors
is_there_below s p there = ltb-true p (length s.processors) there

pub IsShootdown-stalled : (s : ShootdownState) (p : ℕ) → IsShootdown s
    → p < length s.processors → state_of s p ≡ Interrupted
    → IsShootdown (stalled s p)
IsShootdown-stalled s p is there interrupted =
    IsShootdown-with_state s p _ is there (IsProcessor-with_state (processor_at s p) Stalled (is.each p there))
    (λ initiating. cc) (λ initiating. cc) (λ still. cc)

pub IsShootdown-idled : (s : ShootdownState) (p : ℕ) → IsShootdown s → p < length s.processors → state_of s p ≡ Active
    → IsShootdown (idled s p)
IsShootdown-idled s p is there active =
    IsShootdown-with_state s p _ is there (IsProcessor-with_state (processor_at s p) Idle (is.each p there))
    (λ initiating. cc) (λ initiating. cc) (λ still. cc)

IsProcessor-woken : (x : Processor) → IsProcessor x → IsProcessor (woken x)
IsProcessor-woken x is = IsProcessor-with_state (drained x) Active (IsProcessor-drained x is)

-- a processor that waited goes on while the lock is free
pub IsShootdown-resumed : (s : ShootdownState) (p : ℕ) → IsShootdown s → p < length s.processors → s.lock ≡ None
    → IsShootdown (resumed s p)
IsShootdown-resumed s p is there free =
    IsShootdown-with_state s p _ is there (IsProcessor-woken (processor_at s p) (is.each p there))
    (is.free free p there).0 (λ initiating. cc) (λ still. cc)

pub IsShootdown-switched_to : (s : ShootdownState) (p pcid : ℕ) (keep : Bool)
    → IsShootdown s → p < length s.processors → pcid < pcids
    → IsShootdown (switched_to s p pcid keep)
IsShootdown-switched_to s p pcid keep is there small =
    IsShootdown-same_state s p _ is there (IsProcessor-loaded (drained (processor_at s p)) pcid keep small
    (IsProcessor-drained (processor_at s p) (is.each p there))) refl

-- ---- the end of a change

uninterrupted_state : (state : ProcState) → is_interrupted state ≡ false → state ≢ Interrupted
uninterrupted_state state not is = let now = ap is_interrupted (sym is) in cc

-- nobody is interrupted where the count of those is 0
pub uninterrupted : (xs : List Processor) → count_by (λ x. is_interrupted x.state) xs ≡ 0
    → (k : ℕ) (d : Processor) → k < length xs
    → (get_or xs k d).state ≢ Interrupted
uninterrupted xs none k d within = uninterrupted_state _ (go (is_interrupted (get_or xs k d).state) (omega (
  arith,
  get_or-le-sum_by (λ x. cond (is_interrupted x.state) 1 0) xs k d within,
)))
  where
    go : (b : Bool) → cond b 1 0 ≤ 0 → b ≡ false
    go true few = absurd (omega arith)
    go false few = refl

pub IsShootdown-finished : (s : ShootdownState) (p : ℕ) (lock : Lock)
    → IsShootdown s → s.lock ≡ Some lock → lock.holder ≡ p → interrupted s ≡ 0
    → IsShootdown (finished s p)
IsShootdown-finished s p lock is held holder quiet =
    let holds = is.held lock held in
    let there : p < length s.processors = subst (λ (q : ℕ). q < length s.processors) holder holds.0 in
    let x = woken (processor_at s p) in
    record {
      some = omega (arith, is.some, length-with_processor s p x);
      few = omega (arith, is.few, length-with_processor s p x);
      each = at-with_processor (λ q y. IsProcessor y) s p x there
          (IsProcessor-woken (processor_at s p) (is.each p there)) (λ q within other. is.each q within);
      free = λ none. at-with_processor (λ q y. (y.state ≢ Initiating) × (y.state ≢ Interrupted)) s p x there
          (λ initiating. cc, λ still. cc)
          (λ q within other. (
            λ initiating. other ((holds.1 q within).0 initiating ∙ holder),
            uninterrupted s.processors quiet q (fresh_processor 1) within,
          ));
      held = λ next some. absurd (cc);
    }

-- ---- the begin of a change

-- the processor with number i, when processor p begins a change
abbrev pub begun_one : ℕ → Spaces → Change → ℕ → Processor → Processor
begun_one p spaces change i x =
    notified_all (record x {
      state = if i == p then Initiating else state_when_begun (touches spaces change x.space) x.state;
    }) (actions_of spaces change)

pub begun_from_each : (p : ℕ) (spaces : Spaces) (change : Change) (i : ℕ) (xs : List Processor)
    → begun_from i p spaces change xs ≡ each_from (begun_one p spaces change) i xs
begun_from_each p spaces change i [] = refl
begun_from_each p spaces change i (x ∷ xs) =
    ap (λ (ys : List Processor). begun_one p spaces change i x ∷ ys) (begun_from_each p spaces change (i + 1) xs)

pub length-begun : (s : ShootdownState) (p : ℕ) (spaces : Spaces) (change : Change)
    → length (begun s p spaces change).processors ≡ length s.processors
length-begun s p spaces change =
    ap length (begun_from_each p spaces change 0 s.processors)
    ∙ length-each_from (begun_one p spaces change) 0 s.processors

pub processor_at-begun : (s : ShootdownState) (p : ℕ) (spaces : Spaces) (change : Change) (q : ℕ)
    → q < length s.processors
    → processor_at (begun s p spaces change) q ≡ begun_one p spaces change q (processor_at s q)
processor_at-begun s p spaces change q within =
    ap (λ (ys : List Processor). get_or ys q (fresh_processor 1)) (begun_from_each p spaces change 0 s.processors)
    ∙ get_or-each_from (begun_one p spaces change) 0 s.processors q (fresh_processor 1) (fresh_processor 1) within
    ∙ ap (λ n. begun_one p spaces change n (processor_at s q)) (omega arith)

pub state-begun_one : (p : ℕ) (spaces : Spaces) (change : Change) (i : ℕ) (x : Processor)
    → (begun_one p spaces change i x).state ≡ state_begun p spaces change i x
state-begun_one p spaces change i x = ap (λ (y : Processor). y.state)
    (notified_all-queue (actions_of spaces change) (record x { state = state_begun p spaces change i x }))

-- nobody else initiates
interrupted_or_same : (touched : Bool) (state : ProcState) → state ≢ Initiating
    → state_when_begun touched state ≢ Initiating
interrupted_or_same true Active before = λ now. cc
interrupted_or_same true Interrupted before = λ now. cc
interrupted_or_same true Stalled before = λ now. cc
interrupted_or_same true Initiating before = before
interrupted_or_same true Idle before = λ now. cc
interrupted_or_same false state before = before

initiates : (p : ℕ) (spaces : Spaces) (change : Change) (i : ℕ) (x : Processor) → x.state ≢ Initiating
    → (state_begun p spaces change i x ≡ Initiating) ↔ (i ≡ p)
initiates p spaces change i x before = go (eqb i p) refl
  where
    go : (b : Bool) → eqb i p ≡ b
        → (cond b Initiating (state_when_begun (touches spaces change x.space) x.state) ≡ Initiating) ↔ (i ≡ p)
    go true same = (λ now. eqb-true i p same, λ here. refl)
    go false other = (
      λ now. absurd (interrupted_or_same (touches spaces change x.space) x.state before now),
      λ here. absurd (eqb-false i p other here),
    )

-- the current spaces stay
pub current-begun : (s : ShootdownState) (p : ℕ) (spaces : Spaces) (change : Change) (q : ℕ) → q < length s.processors
    → current (begun s p spaces change) q ≡ current s q
current-begun s p spaces change q within =
    ap (λ (y : Processor). y.space)
    (processor_at-begun s p spaces change q within ∙ notified_all-queue (actions_of spaces change)
    (record (processor_at s q) { state = state_begun p spaces change q (processor_at s q) }))

pub IsShootdown-begun : (s : ShootdownState) (p : ℕ) (spaces : Spaces) (change : Change)
    → IsShootdown s → p < length s.processors → s.lock ≡ None
    → IsShootdown (begun s p spaces change)
IsShootdown-begun s p spaces change is there free =
    let same = length-begun s p spaces change in
    record {
      some = omega (arith, is.some, same);
      few = omega (arith, is.few, same);
      each = λ q within.
          let below : q < length s.processors = omega (arith, same) in
          subst IsProcessor (sym (processor_at-begun s p spaces change q below))
          (IsProcessor-notified_all (actions_of spaces change)
          (record (processor_at s q) { state = state_begun p spaces change q (processor_at s q) })
          (IsProcessor-with_state (processor_at s q) (state_begun p spaces change q (processor_at s q))
          (is.each q below)));
      free = λ none. absurd (cc);
      held = λ lock some.
          let holder : p ≡ lock.holder = cc in (
            subst (λ (q : ℕ). q < length (begun s p spaces change).processors) holder (omega (arith, same)),
            λ q within.
                let below : q < length s.processors = omega (arith, same) in
                let state : state_of (begun s p spaces change) q ≡ state_begun p spaces change q (processor_at s q) =
                ap (λ (y : Processor). y.state) (processor_at-begun s p spaces change q below)
                ∙ state-begun_one p spaces change q (processor_at s q) in
                subst (λ (st : ProcState). (st ≡ Initiating) ↔ (q ≡ lock.holder)) (sym state)
                (subst (λ (h : ℕ). (state_begun p spaces change q (processor_at s q) ≡ Initiating) ↔ (q ≡ h)) holder
                (initiates p spaces change q (processor_at s q) (is.free free q below).0)),
          );
    }

-- ---- a space is destroyed

get_or-map : (f : Processor → Processor) (xs : List Processor) (k : ℕ) (d : Processor) → k < length xs
    → get_or (map f xs) k d ≡ f (get_or xs k d)
get_or-map f [] k d within = absurd (omega arith)
get_or-map f (x ∷ xs) zero d within = refl
get_or-map f (x ∷ xs) (suc k) d within = get_or-map f xs k d (omega arith)

pub processor_at-destroyed : (s : ShootdownState) (pcid q : ℕ) → q < length s.processors
    → processor_at (destroyed s pcid) q ≡ notified (processor_at s q) (SingleContext pcid)
processor_at-destroyed s pcid q within =
    get_or-map (λ x. notified x (SingleContext pcid)) s.processors q (fresh_processor 1) within

pub length-destroyed : (s : ShootdownState) (pcid : ℕ) → length (destroyed s pcid).processors ≡ length s.processors
length-destroyed s pcid = length-map s.processors (λ x. notified x (SingleContext pcid))

-- the current spaces stay
pub current-destroyed : (s : ShootdownState) (pcid q : ℕ) → q < length s.processors
    → current (destroyed s pcid) q ≡ current s q
current-destroyed s pcid q within = ap (λ (y : Processor). y.space)
    (processor_at-destroyed s pcid q within ∙ notified-queue (processor_at s q) (SingleContext pcid))

pub IsShootdown-destroyed : (s : ShootdownState) (pcid : ℕ) → IsShootdown s → IsShootdown (destroyed s pcid)
IsShootdown-destroyed s pcid is =
    let same = length-destroyed s pcid in
    let state : (q : ℕ) → q < length s.processors → state_of (destroyed s pcid) q ≡ state_of s q = λ q below.
    ap (λ (y : Processor). y.state) (processor_at-destroyed s pcid q below)
    ∙ ap (λ (y : Processor). y.state) (notified-queue (processor_at s q) (SingleContext pcid)) in
    record {
      some = omega (arith, is.some, same);
      few = omega (arith, is.few, same);
      each = λ q within.
          let below : q < length s.processors = omega (arith, same) in
          subst IsProcessor (sym (processor_at-destroyed s pcid q below))
          (IsProcessor-notified (processor_at s q) (SingleContext pcid) (is.each q below));
      free = λ none q within.
          let below : q < length s.processors = omega (arith, same) in
          subst (λ (st : ProcState). (st ≢ Initiating) × (st ≢ Interrupted)) (sym (state q below))
          (is.free none q below);
      held = λ lock some. (
        let holder = (is.held lock some).0 in omega (arith, holder, same),
        λ q within.
            let below : q < length s.processors = omega (arith, same) in
            subst (λ (st : ProcState). (st ≡ Initiating) ↔ (q ≡ lock.holder)) (sym (state q below))
            ((is.held lock some).1 q below),
      );
    }

-- ---- fills and evictions

pub IsShootdown-filled : (s : ShootdownState) (p : ℕ) (e : CachedEntry)
    → IsShootdown s → p < length s.processors → e.pcid ≡ current s p
    → IsShootdown (with_processor s p (record (processor_at s p) { tlb = filled (processor_at s p).tlb e }))
IsShootdown-filled s p e is there here =
    IsShootdown-same_state s p _ is there (IsProcessor-filled (processor_at s p) e here (is.each p there)) refl

pub IsShootdown-without_page : (s : ShootdownState) (p pcid page : ℕ) → IsShootdown s → p < length s.processors
    → IsShootdown
    (with_processor s p (record (processor_at s p) { tlb = without_page (processor_at s p).tlb pcid page }))
IsShootdown-without_page s p pcid page is there =
    IsShootdown-same_state s p _ is there (IsProcessor-without_page (processor_at s p) pcid page (is.each p there)) refl

pub IsShootdown-evicted : (s : ShootdownState) (p slot : ℕ) → IsShootdown s → p < length s.processors
    → IsShootdown (with_processor s p (record (processor_at s p) { tlb = evicted (processor_at s p).tlb slot }))
IsShootdown-evicted s p slot is there =
    IsShootdown-same_state s p _ is there (IsProcessor-evicted (processor_at s p) slot (is.each p there)) refl

-- ---- boot

pub IsShootdown-fresh : (cpus tlb : ℕ) → 0 < cpus → cpus ≤ 16 → 0 < tlb → IsShootdown (fresh_shootdown cpus tlb)
IsShootdown-fresh cpus tlb some few roomy =
    let same = length-replicate cpus (fresh_processor tlb) in
    let at : (q : ℕ) → q < length (replicate cpus (fresh_processor tlb))
    → processor_at (fresh_shootdown cpus tlb) q ≡ fresh_processor tlb = λ q within.
    get_or-replicate cpus q (fresh_processor tlb) (fresh_processor 1) (omega (arith, same)) in
    record {
      some = omega (arith, same);
      few = omega (arith, same);
      each = λ q within. subst IsProcessor (sym (at q within)) (IsProcessor-fresh tlb roomy);
      free = λ none q within. subst (λ (y : Processor). (y.state ≢ Initiating) × (y.state ≢ Interrupted))
          (sym (at q within)) (λ initiating. cc, λ still. cc);
      held = λ lock some. absurd (cc);
    }

-- ---- how the code moves one processor

-- what was read at a processor's place is that processor
pub read_at : (s now : ShootdownState) (p : ℕ) (x : Processor)
    → s ≡ now → is_there now p ≡ true → x ≡ get_or s.processors p x
    → x ≡ processor_at now p
read_at s now p x is there read =
    let below : p < length s.processors =
    subst (λ (t : ShootdownState). p < length t.processors) (sym is) (is_there_below now p there) in
    get_or_read s.processors p x below read (fresh_processor 1) ∙ ap (λ (t : ShootdownState). processor_at t p) is

-- so where a move of it was stored there, the definition's move was made
pub moved_to : (s now : ShootdownState) (p : ℕ) (x y : Processor) (move : Processor → Processor)
    → s ≡ now → is_there now p ≡ true → x ≡ get_or s.processors p x → y ≡ move x
    → with_processor s p y ≡ with_processor now p (move (processor_at now p))
moved_to s now p x y move is there read made =
    ap (with_processor s p) (made ∙ ap move (read_at s now p x is there read))
    ∙ ap (λ (t : ShootdownState). with_processor t p (move (processor_at now p))) is

pub not_there_none : (s : ShootdownState) (p : ℕ) → is_there s p ≡ true → not_there s p ≡ None
not_there_none s p there = ap (λ b. cond b None (Some refusals.Einval)) there

-- who holds the lock
pub held_by : (lock : Option Lock) (p : ℕ) → option_map (λ l. l.holder) lock ≡ Some p
    → (l : Lock) × (lock ≡ Some l) × (l.holder ≡ p)
held_by None p held = absurd (cc)
held_by (Some l) p held = (l, refl, cc)

pub holder_there : (s : ShootdownState) (p : ℕ) → IsShootdown s → holder_of s ≡ Some p → is_there s p ≡ true
holder_there s p is held =
    let lock = held_by s.lock p held in
    lt-ltb p (length s.processors) (subst (λ (q : ℕ). q < length s.processors) lock.2 (is.held lock.0 lock.1).0)

-- nobody is in a space that isn't current
pub elsewhere : (xs : List Processor) (pcid : ℕ)
    → list_any (λ x. x.space == pcid) xs ≡ false → (k : ℕ) (d : Processor) → k < length xs
    → (get_or xs k d).space ≢ pcid
elsewhere xs pcid none k d within here =
    let found = list_any_at (λ x. x.space == pcid) xs k d within (eq-eqb (get_or xs k d).space pcid here) in
    cc

pub none_unless_some : (lock : Option Lock) → is_some lock ≡ false → lock ≡ None
none_unless_some None not = refl
none_unless_some (Some l) not = absurd (cc)

-- who doesn't find the lock held is admitted while it is free
pub admitted : (s : ShootdownState) (p : ℕ) → not_free s p ≡ None → (is_there s p ≡ true) × (s.lock ≡ None)
admitted s p free = go (is_there s p) refl (is_running (state_of s p)) refl (is_some s.lock) refl free
  where
    go : (there : Bool) → is_there s p ≡ there → (runs : Bool)
        → is_running (state_of s p) ≡ runs → (locked : Bool) → is_some s.lock ≡ locked
        → option_or (cond (not there) (Some refusals.Einval) (cond runs None (Some refusals.Stalled)))
        (cond locked (Some refusals.Locked) None) ≡ None
        → (is_there s p ≡ true) × (s.lock ≡ None)
    go true there true runs false unlocked none = (there, none_unless_some s.lock unlocked)
    go true there true runs true locked none = absurd (cc)
    go true there false runs locked is none = absurd (cc)
    go false there runs is locked held none = absurd (cc)

-- who is admitted is there, and goes on with loads and stores
pub running : (s : ShootdownState) (p : ℕ) → not_running s p ≡ None
    → (is_there s p ≡ true) × (is_running (state_of s p) ≡ true)
running s p none = go (is_there s p) refl (is_running (state_of s p)) refl none
  where
    go : (there : Bool) → is_there s p ≡ there → (runs : Bool) → is_running (state_of s p) ≡ runs
        → cond (not there) (Some refusals.Einval) (cond runs None (Some refusals.Stalled)) ≡ None
        → (is_there s p ≡ true) × (is_running (state_of s p) ≡ true)
    go true there true runs free = (there, runs)
    go true there false runs free = absurd (cc)
    go false there runs is free = absurd (cc)

-- ---- how the code begins a change

pub begun_from-parts : (p : ℕ) (spaces : Spaces) (change : Change) (i : ℕ) (xs : List Processor)
    → map (λ x. notified_all x (actions_of spaces change))
    (each_from (λ k x. record x { state = state_begun p spaces change k x }) i xs) ≡ begun_from i p spaces change xs
begun_from-parts p spaces change i [] = refl
begun_from-parts p spaces change i (x ∷ xs) =
    ap (λ (ys : List Processor). begun_one p spaces change i x ∷ ys) (begun_from-parts p spaces change (i + 1) xs)

-- one invalidation more
pub notified-map_notified_all : (actions : List Invpcid) (a : Invpcid) (xs : List Processor)
    → map (λ x. notified x a) (map (λ x. notified_all x actions) xs) ≡ map (λ x. notified_all x (actions ++ a ∷ [])) xs
notified-map_notified_all actions a [] = refl
notified-map_notified_all actions a (x ∷ xs) =
    let one = sym (fold_push notified x actions a) in
    let rest = notified-map_notified_all actions a xs in
    λ i. one i ∷ rest i
