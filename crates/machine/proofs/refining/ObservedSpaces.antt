-- Processors and spaces as they are observed: where each processor is, whether it goes on, and what each space maps.
use Rattle.machine.proofs.Names.{set-get_or, ℕ, ◌≡◌, ◌<◌, Bool, true, false, cond, eqb, List, length, get_or, set, refl}
use Rattle.machine.proofs.Names.{sym, ap, ◌∙◌, inl, inr, arith, ◌≢◌, not, ◌&&◌, ◌||◌, Option, Some, None, is_some}
use Rattle.machine.proofs.Names.{unwrap_or, subst, cases_eq, cond-true, cond-false, eq-eqb, ne_eqb, length-set}
use Rattle.machine.proofs.Names.{get_or-set_same, get_or-set_other, Invpcid, SingleContext, Change, Spaces}
use Rattle.machine.proofs.Names.{AddressSpace, empty_space, has_space, space_at, with_space, touches, ProcState, Active}
use Rattle.machine.proofs.Names.{Initiating, Processor, is_running, is_concerned, queued, notified, ShootdownState}
use Rattle.machine.proofs.Names.{processor_at, state_of, current, with_processor, state_when_begun, destroyed}
use Rattle.machine.proofs.Names.{processor_at-with_same, processor_at-with_other, length-with_processor}
use Rattle.machine.proofs.Names.{processor_at-begun, state-begun_one, current-begun, length-begun}
use Rattle.machine.proofs.Names.{processor_at-destroyed, length-destroyed, current-destroyed, nat_cmp, nat_cmp_total}
use Rattle.machine.proofs.Names.{unsigned_tied, Places, has_space-with_space, space_at-with_space_same}
use Rattle.machine.proofs.Names.{space_at-with_space_other, has_space-remove, space_at-remove}
use Rattle.shootdown.specs.Shootdown.{begun}
use Rattle.std.specs.FinMap as maps

-- ---- the processors as they are observed: the current space of each, and whether it goes on

-- these current spaces and these running processors
pub record AreProcessorsObserved (spaces : List ℕ) (runs : List Bool) (s : ShootdownState) : Type 0 where
  pub processors : length spaces ≡ length s.processors
  pub same_current : (p : ℕ) → p < length spaces → get_or spaces p 0 ≡ current s p
  pub as_many : length runs ≡ length s.processors
  pub same_running : (p : ℕ) → p < length runs → get_or runs p false ≡ is_running (state_of s p)

-- the same of processors that are in the same spaces, and go on where these did
pub observed_same : (spaces : List ℕ) (runs : List Bool) (s new : ShootdownState)
    → length new.processors ≡ length s.processors → ((q : ℕ) → q < length s.processors → current new q ≡ current s q)
    → ((q : ℕ) → q < length s.processors → is_running (state_of new q) ≡ is_running (state_of s q))
    → AreProcessorsObserved spaces runs s → AreProcessorsObserved spaces runs new
observed_same spaces runs s new as_many same_current same_running t = record {
  processors = t.processors ∙ sym as_many;
  same_current = λ q within. t.same_current q within ∙ sym (same_current q (omega (arith, t.processors)));
  as_many = t.as_many ∙ sym as_many;
  same_running = λ q within. t.same_running q within ∙ sym (same_running q (omega (arith, t.as_many)));
}

-- one processor is another, in a space and going on or not
module _ (spaces : List ℕ) (runs : List Bool) (s : ShootdownState) (p : ℕ) (x : Processor)
    (there : p < length s.processors) (t : AreProcessorsObserved spaces runs s) where
  -- of each processor, that it is as was observed, or is the other one
  each : {X : Type 0} (part : Processor → X) (values : List X) (d y : X) → length values ≡ length s.processors
      → ((q : ℕ) → q < length values → get_or values q d ≡ part (processor_at s q)) → part x ≡ y
      → (q : ℕ) → q < length (set values p y)
      → get_or (set values p y) q d ≡ part (processor_at (with_processor s p x) q)
  each part values d y as_many same is q within =
      let size = length-set values p y in
      elim (cases_eq q p) [
        | inl here ↦
            ap (λ n. get_or (set values p y) n d) here ∙ get_or-set_same values p y d (omega (arith, as_many)) ∙ sym is
            ∙ sym (ap part (ap (processor_at (with_processor s p x)) here ∙ processor_at-with_same s p x there))
        | inr other ↦
            get_or-set_other values p q y d other ∙ same q (omega (arith, size))
            ∙ sym (ap part (processor_at-with_other s p x q other))
      ]

  -- it is in this space, and goes on or doesn't
  observed_replaced : (space : ℕ) (b : Bool) → x.space ≡ space → is_running x.state ≡ b
      → AreProcessorsObserved (set spaces p space) (set runs p b) (with_processor s p x)
  observed_replaced space b in_it goes = record {
    processors = length-set spaces p space ∙ t.processors ∙ sym (length-with_processor s p x);
    same_current = each (λ (y : Processor). y.space) spaces 0 space t.processors t.same_current in_it;
    as_many = length-set runs p b ∙ t.as_many ∙ sym (length-with_processor s p x);
    same_running = each (λ (y : Processor). is_running y.state) runs false b t.as_many t.same_running goes;
  }

  -- what was observed of it may be observed again
  same_space : set spaces p (current s p) ≡ spaces
  same_space = ap (set spaces p) (sym (t.same_current p (omega (arith, t.processors)))) ∙ set-get_or spaces p 0

  same_run : set runs p (is_running (state_of s p)) ≡ runs
  same_run = ap (set runs p) (sym (t.same_running p (omega (arith, t.as_many)))) ∙ set-get_or runs p false

  -- it goes on from now on, or doesn't
  pub observed_running : (b : Bool) → x.space ≡ current s p → is_running x.state ≡ b
      → AreProcessorsObserved spaces (set runs p b) (with_processor s p x)
  observed_running b space state = subst (λ l. AreProcessorsObserved l (set runs p b) (with_processor s p x)) same_space
      (observed_replaced (current s p) b space state)

  -- it is in another space
  pub observed_switched : (pcid : ℕ) → x.space ≡ pcid → is_running x.state ≡ is_running (state_of s p)
      → AreProcessorsObserved (set spaces p pcid) runs (with_processor s p x)
  observed_switched pcid space state =
      subst (λ l. AreProcessorsObserved (set spaces p pcid) l (with_processor s p x)) same_run
      (observed_replaced pcid (is_running (state_of s p)) space state)

  -- only what isn't observed of it changes
  pub observed_still : x.space ≡ current s p → is_running x.state ≡ is_running (state_of s p)
      → AreProcessorsObserved spaces runs (with_processor s p x)
  observed_still space state = subst (λ l. AreProcessorsObserved spaces l (with_processor s p x)) same_run
      (observed_running (is_running (state_of s p)) space state)

-- who goes on still does when a change begins: an interrupted one until it stalls
running_when_begun : (touched : Bool) (state : ProcState)
    → is_running (state_when_begun touched state) ≡ is_running state
running_when_begun true Active = refl
running_when_begun true state = refl
running_when_begun false state = refl

-- a change begins: its initiator stops
pub observed_begun : (spaces : List ℕ) (runs : List Bool) (s : ShootdownState) (p : ℕ) (m : Spaces) (change : Change)
    → p < length s.processors → AreProcessorsObserved spaces runs s
    → AreProcessorsObserved spaces (set runs p false) (begun s p m change)
observed_begun spaces runs s p m change there t =
    let state : (q : ℕ) → q < length s.processors → state_of (begun s p m change) q
    ≡ cond (eqb q p) Initiating (state_when_begun (touches m change (current s q)) (state_of s q)) = λ q within.
    ap (λ (y : Processor). y.state) (processor_at-begun s p m change q within)
    ∙ state-begun_one p m change q (processor_at s q) in
    record {
      processors = t.processors ∙ sym (length-begun s p m change);
      same_current = λ q within. t.same_current q within
          ∙ sym (current-begun s p m change q (omega (arith, t.processors)));
      as_many = length-set runs p false ∙ t.as_many ∙ sym (length-begun s p m change);
      same_running = λ q within.
          let size = length-set runs p false in
          let below : q < length s.processors = omega (arith, t.as_many, size) in
          elim (cases_eq q p) [
            | inl here ↦
                ap (λ n. get_or (set runs p false) n false) here
                ∙ get_or-set_same runs p false false (omega (arith, t.as_many))
                ∙ sym (ap is_running (state q below ∙ cond-true (eqb q p) Initiating _ (eq-eqb q p here)))
            | inr other ↦
                get_or-set_other runs p q false false other ∙ t.same_running q (omega (arith, size))
                ∙ sym (ap is_running (state q below ∙ cond-false (eqb q p) Initiating _ (ne_eqb q p other))
                ∙ running_when_begun (touches m change (current s q)) (state_of s q))
          ];
    }

-- who is notified of an invalidation goes on as before
state-notified : (x : Processor) (a : Invpcid) → (notified x a).state ≡ x.state
state-notified x a =
    elim (is_concerned x a) as (λ b. (cond b (record x { queue = queued x.queue a }) x).state ≡ x.state)
    [ true ↦ refl | false ↦ refl ]

-- a space is destroyed
pub observed_destroyed : (spaces : List ℕ) (runs : List Bool) (s : ShootdownState) (pcid : ℕ)
    → AreProcessorsObserved spaces runs s → AreProcessorsObserved spaces runs (destroyed s pcid)
observed_destroyed spaces runs s pcid =
    observed_same spaces runs s (destroyed s pcid) (length-destroyed s pcid)
    (λ q within. current-destroyed s pcid q within)
    (λ q within. ap (λ (y : Processor). is_running y.state) (processor_at-destroyed s pcid q within)
    ∙ ap is_running (state-notified (processor_at s q) (SingleContext pcid)))

-- ---- the spaces as they are observed: which there are, and what each maps

abbrev pub ObservedSpaces : Type 0
ObservedSpaces = maps.FinMap nat_cmp Places

-- these spaces, each of which maps these places
pub record AreSpacesObserved (observed : ObservedSpaces) (m : Spaces) : Type 0 where
  pub same_spaces : (pcid : ℕ) → maps.contains_key observed pcid ≡ has_space m pcid
  pub same_places : (pcid : ℕ) → unwrap_or (maps.get observed pcid) maps.empty ≡ (space_at m pcid).places

-- the same of spaces that map the same
pub spaces_still : (observed : ObservedSpaces) (m new : Spaces) → ((q : ℕ) → has_space new q ≡ has_space m q)
    → ((q : ℕ) → (space_at new q).places ≡ (space_at m q).places) → AreSpacesObserved observed m
    → AreSpacesObserved observed new
spaces_still observed m new spaces places t = record {
  same_spaces = λ q. t.same_spaces q ∙ sym (spaces q);
  same_places = λ q. t.same_places q ∙ sym (places q);
}

module _ (observed : ObservedSpaces) (n : ℕ) where
  get-observed_insert : (places : Places) (q : ℕ)
      → maps.get (maps.insert observed n places) q ≡ cond (eqb q n) (Some places) (maps.get observed q)
  get-observed_insert places q = maps.get-insert nat_cmp_total observed n places q
      ∙ ap (λ b. cond b (Some places) (maps.get observed q)) (unsigned_tied q n)

  get-observed_remove : (q : ℕ) → maps.get (maps.remove observed n) q ≡ cond (eqb q n) None (maps.get observed q)
  get-observed_remove q = maps.get-remove nat_cmp_total observed n q
      ∙ ap (λ b. cond b None (maps.get observed q)) (unsigned_tied q n)

  -- one space maps other places
  pub spaces_with : (m new : Spaces) (places : Places) → ((q : ℕ) → has_space new q ≡ (eqb q n || has_space m q))
      → (space_at new n).places ≡ places → ((q : ℕ) → q ≢ n → (space_at new q).places ≡ (space_at m q).places)
      → AreSpacesObserved observed m → AreSpacesObserved (maps.insert observed n places) new
  spaces_with m new places spaces here others t = record {
    same_spaces = λ q.
        ap is_some (get-observed_insert places q) ∙ either (eqb q n) (maps.get observed q)
        ∙ ap (λ b. eqb q n || b) (t.same_spaces q) ∙ sym (spaces q);
    same_places = λ q. elim (cases_eq q n) [
      | inl same ↦
          ap (λ o. unwrap_or o maps.empty)
          (get-observed_insert places q ∙ ap (λ b. cond b (Some places) (maps.get observed q)) (eq-eqb q n same))
          ∙ sym here ∙ sym (ap (λ k. (space_at new k).places) same)
      | inr other ↦
          ap (λ o. unwrap_or o maps.empty)
          (get-observed_insert places q ∙ ap (λ b. cond b (Some places) (maps.get observed q)) (ne_eqb q n other))
          ∙ t.same_places q ∙ sym (others q other)
    ];
  }
    where
      either : (b : Bool) (o : Option Places) → is_some (cond b (Some places) o) ≡ (b || is_some o)
      either true o = refl
      either false o = refl

  -- one is gone
  pub spaces_without : (m : Spaces) → AreSpacesObserved observed m
      → AreSpacesObserved (maps.remove observed n) (maps.remove m n)
  spaces_without m t = record {
    same_spaces = λ q.
        ap is_some (get-observed_remove q) ∙ either (eqb q n) (maps.get observed q)
        ∙ ap (λ b. not (eqb q n) && b) (t.same_spaces q) ∙ sym (has_space-remove m n q);
    same_places = λ q.
        ap (λ o. unwrap_or o maps.empty) (get-observed_remove q)
        ∙ by_test (eqb q n) q ∙ sym (ap (λ (x : AddressSpace). x.places) (space_at-remove m n q));
  }
    where
      either : (b : Bool) (o : Option Places) → is_some (cond b None o) ≡ (not b && is_some o)
      either true o = refl
      either false o = refl

      by_test : (b : Bool) (q : ℕ)
          → unwrap_or (cond b None (maps.get observed q)) maps.empty ≡ (cond b empty_space (space_at m q)).places
      by_test true q = refl
      by_test false q = t.same_places q

  -- one is made, or replaced
  pub spaces_made : (m : Spaces) (space : AddressSpace) → AreSpacesObserved observed m
      → AreSpacesObserved (maps.insert observed n space.places) (with_space m n space)
  spaces_made m space =
      spaces_with m (with_space m n space) space.places (has_space-with_space m n space)
      (ap (λ (x : AddressSpace). x.places) (space_at-with_space_same m n space))
      (λ q other. ap (λ (x : AddressSpace). x.places) (space_at-with_space_other m n space q other))
