-- Loads, stores and faults are answered by what was observed.
use Rattle.machine.proofs.Names.{ℕ, ◌≡◌, ◌/◌, ◌<◌, length, get_or, ap, ◌∙◌, arith, ◌*◌, ◌^◌, ◌≤◌, Bool, true, false}
use Rattle.machine.proofs.Names.{not, ◌&&◌, ◌||◌, is_none, is_absent, cond, leb, List}
use Rattle.machine.proofs.Names.{Option, Some, None, is_some, Result, Ok, Err, refl}
use Rattle.machine.proofs.Names.{subst, inl, inr, ◌+◌, ◌%◌, take, drop, eqb, sym, [], ◌∷◌, Places, may_write, place_at}
use Rattle.machine.proofs.Names.{Spaces, entry_at, current, is_there, state_of, processor_at, not_running, State}
use Rattle.machine.proofs.Names.{length_of, Whole, Observed, places_in, place_observed}
use Rattle.machine.proofs.Names.{length_observed, observe, IsArranged, IsLatest}
use Rattle.machine.proofs.Names.{option_or, not-true, leb-false, leb-true, ltb-false, and_parts, cond-true, and_from}
use Rattle.machine.proofs.Names.{and_right, eq-eqb, not_from_true, not_from_false, false≢true, Refusal, Place, has_free}
use Rattle.machine.proofs.Names.{FramesState, frame_at, with_copy, page_of, is_running, admitted, is_there_below}
use Rattle.machine.proofs.Names.{running, page_at, allowed_place, place_of_fault, is_in_memory, copies_out, Brings}
use Rattle.machine.proofs.Names.{CopiesOut, fixed_entry, Act, Reply, served_refusal}
use Rattle.machine.proofs.Names.{reason_against, Acts, Answers, FixMade}
use Rattle.machine.proofs.Names.{Accesses, Rules, LeadsTo, IsInside, IsFreeToAct}
use Rattle.machine.proofs.Names.{LoadsLatest, StoresAtPlace, IsAnswered, IsAccessOf, ServesNext}
use Rattle.machine.proofs.Names.{FaultsAreServed, length-take, length-drop, get_or-set_same, File, Hardware, LoadMade}
use Rattle.machine.proofs.Names.{StoreMade, IsAccess, AccessRefused, serves, walk, walked_to, translated, translated_by}
use Rattle.machine.proofs.Names.{memory_of, after, IsSound, IsLawful, list_any, slice_get_within, Mapped, FilePage}
use Rattle.machine.proofs.Names.{CachedEntry, cached, entry_at-with_entry, CheckpointState, Holds, is_of_page}
use Rattle.machine.proofs.Names.{is_frozen, is_copied, is_held, list_any-has_page, Ghosts, Step, StepIsSafe, Throughout}
use Rattle.std.specs.FinMap as maps
use Rattle.page_entry.specs.declared.refusal.Refusal.TheVariants as refusals
use Rattle.machine.specs.declared.act.Act.TheVariants as acts
use Rattle.machine.specs.declared.act.Reply.TheVariants as replies
use Rattle.history.proofs.Public.{some_same, none_some}
use Rattle.machine.proofs.refining.Faults.{by_test, or_of_and, led_to, servable}
use Rattle.machine.proofs.sound.Admitted.{free_of, served_at_fix, both_none}
use Rattle.machine.proofs.refining.Translations.{has_loaded, has_stored}

-- ---- the place that is observed of an address is the machine's

module _ {observed : Observed} {s : State} (a : IsArranged observed s) where
  pub place_is : (p va : ℕ) → p < length s.hardware.shootdown.processors
      → place_observed observed p va ≡ place_at s.hardware.spaces (current s.hardware.shootdown p) (va / 4096)
  place_is p va there =
      let here : get_or observed.current p 0 ≡ current s.hardware.shootdown p =
      a.same_current p (omega (arith, a.processors)) in
      ap (λ pcid. maps.get (places_in observed pcid) (va / 4096)) here
      ∙ ap (λ (places : Places). maps.get places (va / 4096)) (a.same_places (current s.hardware.shootdown p))

  pub length_is : (file : ℕ) → length_observed observed file ≡ length_of s file
  length_is file = ap (λ lengths. get_or lengths file 0) a.same_lengths

-- ---- faults are answered by where their address leads, as it is observed

module _ (files : List File) (observed : Observed) (s : State) (p va : ℕ) (write : Bool)
    (a : IsArranged observed s) where
  -- the law of this refusal
  abbrev Law : Refusal → Type 0
  Law why = IsLawful files observed p (acts.Fix va write) (replies.Refused why)

  because : (why reason : Refusal) → Law reason → Some reason ≡ Some why → Law why
  because why reason law same = subst Law (some_same reason why same) law

  abbrev Led : Type 0
  Led = (place : Place) × LeadsTo observed p va write place × IsInside observed place

  -- a place that allows the access, as it is observed
  leads : (place : Place) → p < length s.hardware.shootdown.processors
      → place_at s.hardware.spaces (current s.hardware.shootdown p) (va / 4096) ≡ Some place
      → (not write || may_write place.rights) ≡ true → LeadsTo observed p va write place
  leads place there mapped allowed = record { leads = place_is a p va there ∙ mapped; allowed = allowed }

  inside_observed : (place : Place) → 4096 * place.page < length_of s place.file → IsInside observed place
  inside_observed place lt = omega (arith, length_is a place.file)

  past_observed : (place : Place) → length_of s place.file ≤ 4096 * place.page → IsInside observed place → ⊥
  past_observed place le inside = let same = length_is a place.file in absurd (omega arith)

  -- ---- reasons that come before the address

  free_to_act : is_there s.hardware.shootdown p ≡ true → is_running (state_of s.hardware.shootdown p) ≡ true
      → is_some s.hardware.shootdown.lock ≡ false → IsFreeToAct observed p
  free_to_act there runs free =
      let below : p < length observed.running =
      (let within = is_there_below s.hardware.shootdown p there in omega (arith, a.as_many)) in
      record { there = below; running = a.same_running p below ∙ runs; free = a.same_locked ∙ free }

  -- ---- reasons of a fault at a place

  module _ (place : Place) (led : LeadsTo observed p va write place) where
    by_end : (why : Refusal) → served_refusal s write (Ok place) ≡ Some why → Law why
    by_end why e =
        by_test (leb (length_of s place.file) (4096 * place.page)) e (λ past is. because why refusals.BusAdrErr (
          place,
          led,
          past_observed place (leb-true (length_of s place.file) (4096 * place.page) past),
        ) is) (λ within later.
        let all : Led =
        (place, led, inside_observed place (leb-false (length_of s place.file) (4096 * place.page) within)) in
        by_test (copies_out s.hardware.memory s.checkpoint (page_at place) write && not
        (has_free s.hardware.memory.copies)) later (λ held is. because why refusals.Held all is) (λ thawed later.
        by_test (is_in_memory s.hardware.memory (page_at place)) later
        (λ there is. absurd (none_some why is)) (λ gone later.
        by_test (not (has_free s.hardware.memory.frames)) later
        (λ full is. because why refusals.NoFrame all is) (λ free later.
        by_test s.write_outs.broken later (λ broken is. because why refusals.Device all is)
        (λ whole is. absurd (none_some why is))))))

  -- ---- reasons of the address

  -- the reason against a fault that leads somewhere, or doesn't
  abbrev reason_of : Result Place Refusal → Option Refusal
  reason_of r = option_or (served_refusal s write r) None

  none_more : (o : Option Refusal) (why : Refusal) → option_or o None ≡ Some why → o ≡ Some why
  none_more None why e = e
  none_more (Some x) why e = e

  module _ (there : is_there s.hardware.shootdown p ≡ true) (free : IsFreeToAct observed p) where
    below : p < length s.hardware.shootdown.processors
    below = is_there_below s.hardware.shootdown p there

    by_rights : (place : Place) → place_at s.hardware.spaces (current s.hardware.shootdown p) (va / 4096) ≡ Some place
        → (forbidden : Bool) → (write && not (may_write place.rights)) ≡ forbidden → (why : Refusal)
        → reason_of (cond forbidden (Err refusals.SegvAccErr) (Ok place)) ≡ Some why → Law why
    by_rights place mapped true forbidden why e =
        let parts = and_parts write (not (may_write place.rights)) forbidden in
        because why refusals.SegvAccErr
        (place, place_is a p va below ∙ mapped, parts.0, not-true (may_write place.rights) parts.1) e
    by_rights place mapped false allowed why e =
        by_end place (leads place below mapped (or_of_and write (may_write place.rights) allowed)) why
        (none_more (served_refusal s write (Ok place)) why e)

    by_place : va < 2 ^ 47 → (o : Option Place)
        → place_at s.hardware.spaces (current s.hardware.shootdown p) (va / 4096) ≡ o → (why : Refusal)
        → reason_of (allowed_place write o) ≡ Some why → Law why
    by_place small None none why e = because why refusals.SegvMapErr (small, place_is a p va below ∙ none) e
    by_place small (Some place) mapped why e = by_rights place mapped (write && not (may_write place.rights)) refl why e

    by_address : (past : Bool) → leb (2 ^ 47) va ≡ past → (why : Refusal)
        → reason_of (cond past (Err refusals.Einval)
        (allowed_place write (place_at s.hardware.spaces (current s.hardware.shootdown p) (va / 4096)))) ≡ Some why
        → Law why
    by_address true past why e = because why refusals.Einval (inr (free, leb-true (2 ^ 47) va past)) e
    by_address false within why e = by_place (leb-false (2 ^ 47) va within)
        (place_at s.hardware.spaces (current s.hardware.shootdown p) (va / 4096)) refl why e

  -- ---- all reasons, in their order

  abbrev rest : Option Refusal
  rest = option_or
      (served_refusal s write (place_of_fault s.hardware.spaces (current s.hardware.shootdown p) va write)) None

  by_lock : is_there s.hardware.shootdown p ≡ true → is_running (state_of s.hardware.shootdown p) ≡ true
      → (locked : Bool) → is_some s.hardware.shootdown.lock ≡ locked → (why : Refusal)
      → option_or (cond locked (Some refusals.Locked) None) rest ≡ Some why → Law why
  by_lock there runs true locked why e = because why refusals.Locked (a.same_locked ∙ locked) e
  by_lock there runs false free why e = by_address there (free_to_act there runs free) (leb (2 ^ 47) va) refl why e

  by_state : is_there s.hardware.shootdown p ≡ true → (runs : Bool)
      → is_running (state_of s.hardware.shootdown p) ≡ runs → (why : Refusal)
      → option_or (option_or (cond runs None (Some refusals.Stalled))
      (cond (is_some s.hardware.shootdown.lock) (Some refusals.Locked) None)) rest ≡ Some why → Law why
  by_state there true runs why e = by_lock there runs (is_some s.hardware.shootdown.lock) refl why e
  by_state there false stalled why e =
      let below : p < length observed.running =
      (let within = is_there_below s.hardware.shootdown p there in omega (arith, a.as_many)) in
      because why refusals.Stalled (below, a.same_running p below ∙ stalled) e

  by_number : (there : Bool) → is_there s.hardware.shootdown p ≡ there → (why : Refusal)
      → option_or (option_or (cond (not there) (Some refusals.Einval)
      (cond (is_running (state_of s.hardware.shootdown p)) None (Some refusals.Stalled)))
      (cond (is_some s.hardware.shootdown.lock) (Some refusals.Locked) None)) rest ≡ Some why → Law why
  by_number false gone why e =
      let past = ltb-false p (length s.hardware.shootdown.processors) gone in
      because why refusals.Einval (inl (omega (arith, a.as_many))) e
  by_number true there why e = by_state there (is_running (state_of s.hardware.shootdown p)) refl why e

  -- a refused fault is refused for where its address leads, or for what comes before
  pub refused_by : (why : Refusal) → reason_against s p (acts.Fix va write) ≡ Some why → Law why
  refused_by why e = by_number (is_there s.hardware.shootdown p) refl why e

  -- a fault against whose service nothing is leads to a place inside its file
  pub led_by : (place : Place) → reason_against s p (acts.Fix va write) ≡ None
      → place_of_fault s.hardware.spaces (current s.hardware.shootdown p) va write ≡ Ok place → Led
  led_by place allowed led =
      let at = led_to s.hardware.spaces (current s.hardware.shootdown p) va write place led in
      let there = is_there_below s.hardware.shootdown p (admitted s.hardware.shootdown p (free_of s p _ allowed)).0 in
      let fit = servable s.hardware.memory s.checkpoint s.write_outs.broken place (length_of s place.file) write
      (served_at_fix s p va write place allowed led) in
      (place, leads place there at.mapped at.allowed, inside_observed place fit.inside)

module _ (files : List File) (observed : Observed) (s : State) (disk : List ℕ) (p : ℕ) (new : State) (disk' : List ℕ)
    (a : IsArranged observed s) where
  -- a fault whose page is read leads to a place inside its file
  read_by : (va : ℕ) (write : Bool) (reason : Option Refusal) → reason_against s p (acts.Fix va write) ≡ reason
      → (leads : Result Place Refusal)
      → place_of_fault s.hardware.spaces (current s.hardware.shootdown p) va write ≡ leads
      → (is_none reason && is_absent s leads) ≡ true
      → IsLawful files observed p (acts.Fix va write) (replies.Refused refusals.Device)
  read_by va write None none (Ok place) leads e = led_by files observed s p va write a place none leads
  read_by va write None none (Err why) leads e = absurd (cc)
  read_by va write (Some why) some leads is e = absurd (cc)

  faults : (va : ℕ) (write : Bool) (reply : Reply) → Answers s disk p (acts.Fix va write) reply new
      → IsLawful files observed p (acts.Fix va write) reply
  faults va write replies.Fixed made = led_by files observed s p va write a made.1.place made.0 made.1.leads
  faults va write (replies.Refused refusals.Device) rule = elim rule.0 [
    | inl refused ↦ refused_by files observed s p va write a refusals.Device refused
    | inr reads ↦ read_by va write (reason_against s p (acts.Fix va write)) refl
        (place_of_fault s.hardware.spaces (current s.hardware.shootdown p) va write) refl reads
  ]
  faults va write (replies.Refused why) rule = refused_by files observed s p va write a why rule.0
  faults va write reply rule = absurd rule.1

-- ---- loads, stores and faults are answered by what was observed

length_part : (at count : ℕ) (xs : List ℕ) → at + count ≤ length xs → length (take count (drop at xs)) ≡ count
length_part at count xs fits = omega (arith, length-take count (drop at xs), length-drop at xs)

module _ (files : List File) (observed : Observed) (s : State) (disk : List ℕ) (p : ℕ) (new : State) (disk' : List ℕ)
    (sound : IsSound s) (a : IsArranged observed s) (latest : IsLatest files observed s) where
  -- ---- loads

  loads : (va count : ℕ) (bytes : List ℕ) (h : Hardware) → LoadMade s.hardware p va count bytes h
      → LoadsLatest files observed p va count bytes
  loads va count bytes h made =
      let r = has_loaded s.hardware s.checkpoint p va count bytes h sound.spaces.coheres sound.memory.backed made in
      let there = is_there_below s.hardware.shootdown p (running s.hardware.shootdown p made.running).0 in
      let is =
      r.read ∙ ap (λ page. take count (drop (va % 4096) page)) (latest.latest r.frame (page_at r.place) r.holds) in
      let page = after (memory_of files) observed.history r.place.file r.place.page in
      let size : length page ≡ 4096 = latest.whole r.place.file r.place.page in
      let inside = made.access.inside in
      record {
        as_many = ap length is ∙ length_part (va % 4096) count page (omega (arith, size, inside));
        place = r.place;
        leads = place_is a p va there ∙ r.leads;
        latest = is;
      }

  -- ---- stores

  stores : (va : ℕ) (bytes : List ℕ) (h : Hardware) → StoreMade s.hardware p va bytes h → StoresAtPlace observed p va
  stores va bytes h made =
      let w = has_stored s.hardware s.checkpoint p va bytes h sound.spaces.coheres sound.memory.backed made in
      let there = is_there_below s.hardware.shootdown p (running s.hardware.shootdown p made.running).0 in
      let inside = (sound.memory.in_files w.frame (page_at w.place) w.holds).inside in
      record {
        place = w.place;
        leads = place_is a p va there ∙ w.leads;
        allowed = w.allowed;
        inside = omega (arith, length_is a w.place.file, inside);
      }

  -- ---- each step is answered by what was observed

  pub lawful_act : (act : Act) (reply : Reply) → Acts s disk p act reply new disk' → IsLawful files observed p act reply
  lawful_act (acts.Load va count) (replies.Bytes bytes) rule = loads va count bytes rule.0.0 rule.0.1
  lawful_act (acts.Store va bytes) replies.Stored rule = stores va bytes rule.0.0 rule.0.1
  lawful_act (acts.Fix va write) reply rule = faults files observed s disk p new disk' a va write reply rule.0
  lawful_act act reply rule = tt

pub lawful : (files : List File) (observed : Observed) (s : State) (disk : List ℕ) (p : ℕ) (act : Act) (reply : Reply)
    (new : State) (disk' : List ℕ) → IsSound s → IsArranged observed s → IsLatest files observed s
    → Acts s disk p act reply new disk' → IsLawful files observed p act reply
lawful files observed s disk p act reply new disk' sound a latest rule =
    lawful_act files observed s disk p new disk' sound a latest act reply rule

-- ---- a page that has an entry which allows the access is reached

none_err : {X E : Type 0} (x : X) (e : E) → ◌≡◌ {A = Result X E} (Ok x) (Err e) → ⊥
none_err x e same = cc

module _ (h : Hardware) (p page : ℕ) (write : Bool) (entry : Mapped)
    (present : entry_at h.spaces (current h.shootdown p) page ≡ Some entry)
    (writable : write ≡ true → entry.writable ≡ true) (code : ℕ) where
  not_refused : (write && not entry.writable) ≡ false
  not_refused = by_write write writable
    where
      by_write : (w : Bool) → (w ≡ true → entry.writable ≡ true) → (w && not entry.writable) ≡ false
      by_write true is = ap not (is refl)
      by_write false is = refl

  walks : walked_to h p page (walk (Some entry) write) ≡ Err code → ⊥
  walks fault = go (write && not entry.writable) not_refused fault
    where
      go : (b : Bool) → b ≡ false → walked_to h p page
          (cond b (Err 7) (Ok (record entry { accessed = true; dirty = entry.dirty || write }))) ≡ Err code → ⊥
      go true refused fault = false≢true (sym refused)
      go false fine fault = cc

  walks_there : walked_to h p page (walk (entry_at h.spaces (current h.shootdown p) page) write) ≡ Err code → ⊥
  walks_there fault = walks (subst (λ o. walked_to h p page (walk o write) ≡ Err code) present fault)

  translates_by : (o : Option CachedEntry) → translated_by h p page write o ≡ Err code → ⊥
  translates_by None fault = walks_there fault
  translates_by (Some e) fault = go (serves write e) fault
    where
      go : (b : Bool) → cond b (Ok (e.frame, h))
          (walked_to h p page (walk (entry_at h.spaces (current h.shootdown p) page) write)) ≡ Err code → ⊥
      go true fault = none_err (e.frame, h) code fault
      go false fault = walks_there fault

  translates : translated h p page write ≡ Err code → ⊥
  translates fault = translates_by (cached (processor_at h.shootdown p).tlb (current h.shootdown p) page) fault

-- ---- what a served fault leaves

-- the processor goes on, and the page has an entry, writable where that was asked for
record IsReady (s : State) (p va : ℕ) (write : Bool) : Type 0 where
  runs : not_running s.hardware.shootdown p ≡ None
  entry : Mapped
  present : entry_at s.hardware.spaces (current s.hardware.shootdown p) (va / 4096) ≡ Some entry
  writable : write ≡ true → entry.writable ≡ true

-- the entry that serves a write is writable
fixed_writable : (o : Option Mapped) (frame : ℕ) (can write : Bool) → (write ≡ true → can ≡ true) → write ≡ true
    → (fixed_entry o frame can write).writable ≡ true
fixed_writable None frame can write right is = right is
fixed_writable (Some entry) frame can write right is = go (not write || entry.writable) refl
  where
    own : (w v : Bool) → w ≡ true → (not w || v) ≡ true → v ≡ true
    own true v is e = e
    own false v is e = absurd (false≢true is)

    go : (b : Bool) → (not write || entry.writable) ≡ b
        → (cond b entry (record entry { writable = can })).writable ≡ true
    go true stays = own write entry.writable is stays
    go false changes = right is

held_in_mid : (memory mid : FramesState) (owner : FilePage) (bytes : List ℕ) (frame : ℕ)
    → Brings memory owner bytes frame mid → Holds mid frame owner × (mid.copies ≡ memory.copies)
held_in_mid memory mid owner bytes frame (inl there) = (
  subst (λ (m : FramesState). Holds m frame owner) (sym there.1) there.0,
  ap (λ (m : FramesState). m.copies) there.1,
)
held_in_mid memory mid owner bytes frame (inr read) = (
  subst (λ (m : FramesState). Holds m frame owner) (sym read.2) (ap page_of (get_or-set_same memory.frames frame
      (Some (record { page = owner; bytes = bytes })) None (slice_get_within memory.frames frame None read.1))),
  ap (λ (m : FramesState). m.copies) read.2,
)

-- no page is held any more once a fault for a write to it was served
not_held : (memory mid new : FramesState) (c : CheckpointState) (owner : FilePage) (frame : ℕ) (b : Bool)
    → b ≡ is_held memory c owner → Holds mid frame owner → mid.copies ≡ memory.copies → CopiesOut b mid frame new
    → is_held new c owner ≡ false
not_held memory mid new c owner frame false is holds same kept =
    ap (λ (m : FramesState). is_held m c owner) kept
    ∙ ap (λ copies. is_frozen c owner && not (list_any (is_of_page owner) copies)) same ∙ sym is
not_held memory mid new c owner frame true is holds same copied =
    let copies = (with_copy mid copied.0 frame).copies in
    let copy : is_copied (with_copy mid copied.0 frame) owner ≡ true =
    list_any-has_page copies owner copied.0 (ap page_of (get_or-set_same mid.copies copied.0 (frame_at mid frame) None
    (slice_get_within mid.copies copied.0 None copied.1)) ∙ holds) in
    ap (λ (m : FramesState). is_held m c owner) copied.2
    ∙ and_right (is_frozen c owner) (not (is_copied (with_copy mid copied.0 frame) owner))
    (not_from_true (is_copied (with_copy mid copied.0 frame) owner) copy)

ready_after_fix : (s : State) (disk : List ℕ) (p va : ℕ) (write : Bool) (new : State)
    → reason_against s p (acts.Fix va write) ≡ None → FixMade s disk p va write new → IsReady new p va write
ready_after_fix s disk p va write new allowed made =
    let pcid = current s.hardware.shootdown p in
    let owner = page_at made.place in
    let can = may_write made.place.rights && not (is_held made.memory s.checkpoint owner) in
    let entry = fixed_entry (entry_at s.hardware.spaces pcid (va / 4096)) made.served.frame can write in
    let led = led_to s.hardware.spaces pcid va write made.place made.leads in
    let mid = held_in_mid s.hardware.memory made.served.mid owner _ made.served.frame made.served.brought in
    let right : write ≡ true → can ≡ true = λ is.
    and_from (may_write made.place.rights) (not (is_held made.memory s.checkpoint owner))
    (subst (λ w. (not w || may_write made.place.rights) ≡ true) is led.allowed)
    (not_from_false (is_held made.memory s.checkpoint owner) (not_held s.hardware.memory made.served.mid made.memory
    s.checkpoint owner made.served.frame (copies_out s.hardware.memory s.checkpoint owner write)
    (ap (λ w. w && is_held s.hardware.memory s.checkpoint owner) is) mid.0 mid.1 made.served.copied)) in
    subst (λ (x : State). IsReady x p va write) (sym made.done) (record {
      runs = (both_none (not_running s.hardware.shootdown p) _ (free_of s p _ allowed)).0;
      entry = entry;
      present = ap (λ (m : Spaces). entry_at m pcid (va / 4096)) made.served.entry
          ∙ entry_at-with_entry s.hardware.spaces pcid (va / 4096) (Some entry) pcid (va / 4096)
          ∙ cond-true (eqb pcid pcid && eqb (va / 4096) (va / 4096)) (Some entry) _ (and_from (eqb pcid pcid)
          (eqb (va / 4096) (va / 4096)) (eq-eqb pcid pcid refl) (eq-eqb (va / 4096) (va / 4096) refl));
      writable =
          λ is. fixed_writable (entry_at s.hardware.spaces pcid (va / 4096)) made.served.frame can write right is;
    })

-- ---- the access that follows

module _ (s : State) (disk : List ℕ) (p va : ℕ) (write : Bool) (new : State) (disk' : List ℕ)
    (ready : IsReady s p va write) where
  there : (at : ℕ) → at / 4096 ≡ va / 4096
      → entry_at s.hardware.spaces (current s.hardware.shootdown p) (at / 4096) ≡ Some ready.entry
  there at same = ap (entry_at s.hardware.spaces (current s.hardware.shootdown p)) same ∙ ready.present

  never : (why : Refusal) → not_running s.hardware.shootdown p ≡ Some why → ⊥
  never why e = none_some why (sym ready.runs ∙ e)
    where
      none_some : (x : Refusal) → ◌≡◌ {A = Option Refusal} None (Some x) → ⊥
      none_some x e = cc

  not_refused_now : (at count : ℕ) (why : Refusal) → IsAccess at count → AccessRefused s.hardware p at count why → ⊥
  not_refused_now at count refusals.Einval access (inl gone) = never refusals.Einval gone
  not_refused_now at count refusals.Einval access (inr other) = other.1 access
  not_refused_now at count refusals.Stalled access stalled = never refusals.Stalled stalled
  not_refused_now at count why access refused = refused

  load_answers : (at count : ℕ) (reply : Reply) (h : Hardware) → IsAccess at count → at / 4096 ≡ va / 4096
      → Accesses s.hardware p (acts.Load at count) reply h → IsAnswered (acts.Load at count) reply
  load_answers at count (replies.Bytes bytes) h access same rule = tt
  load_answers at count (replies.Refused (refusals.Fault code)) h access same rule = translates s.hardware p
      (at / 4096) false ready.entry (there at same) (λ is. absurd (false≢true is)) code rule.fault
  load_answers at count (replies.Refused why) h access same rule = not_refused_now at count why access rule.0
  load_answers at count reply h access same rule = rule

  store_answers : (at : ℕ) (bytes : List ℕ) (reply : Reply) (h : Hardware) → IsAccess at (length bytes)
      → at / 4096 ≡ va / 4096 → write ≡ true → Accesses s.hardware p (acts.Store at bytes) reply h
      → IsAnswered (acts.Store at bytes) reply
  store_answers at bytes replies.Stored h access same is rule = tt
  store_answers at bytes (replies.Refused (refusals.Fault code)) h access same is rule =
      translates s.hardware p (at / 4096) true ready.entry (there at same) (λ _. ready.writable is) code rule.fault
  store_answers at bytes (replies.Refused why) h access same is rule =
      not_refused_now at (length bytes) why access rule.0
  store_answers at bytes reply h access same is rule = rule

  answers : (act : Act) (reply : Reply) → IsAccessOf va write act → Acts s disk p act reply new disk'
      → IsAnswered act reply
  answers (acts.Load at count) reply access rule = load_answers at count reply rule.0.0 access.0 access.1 rule.0.1
  answers (acts.Store at bytes) reply access rule =
      store_answers at bytes reply rule.0.0 access.0 access.1 access.2 rule.0.1
  answers act reply access rule = absurd access

-- a served fault, and then the same processor's access of that page
pub access_answers : (s : State) (disk : List ℕ) (p va : ℕ) (write : Bool) (mid : State) (between : List ℕ) (act : Act)
    (reply : Reply) (new : State) (disk' : List ℕ)
    → Answers s disk p (acts.Fix va write) replies.Fixed mid → IsAccessOf va write act
    → Acts mid between p act reply new disk' → IsAnswered act reply
access_answers s disk p va write mid between act reply new disk' made access rule =
    answers mid between p va write new disk' (ready_after_fix s disk p va write mid made.0 made.1) act reply access rule

-- ---- of every run: the access of its page that follows a served fault at once answers

module _ {D : Type 0} (disk : Ghosts D) (files : List File) where
  -- over an honest device the rules hold of its own bytes
  abbrev RuleOf : Whole D → Step → Reply → Whole D → Type 0
  RuleOf old step reply new = Rules old.state (disk.seen old.device) step reply new.state (disk.seen new.device)

  rule_of : (observed : Observed) (old : Whole D) (step : Step) (reply : Reply) (new : Whole D)
      → StepIsSafe disk files observed old step reply new → RuleOf old step reply new
  rule_of observed old step reply new safe = (safe.taken.made safe.honest).answered

  serves_through : (observed : Observed) (s : State) (bytes : List ℕ) (p : ℕ) (act : Act)
      (reply : Reply) (mid : Whole D)
      (steps : List Step) (replies : List Reply) (new : Whole D)
      → Acts s bytes p act reply mid.state (disk.seen mid.device)
      → Throughout (StepIsSafe disk files) observed mid steps replies new → ServesNext p act reply steps replies
  serves_through observed s bytes p (acts.Fix va write) replies.Fixed mid (next ∷ steps) (reply ∷ more) new rule run =
      λ same access.
      access_answers s bytes p va write mid.state (disk.seen mid.device) next.act reply run.0.state
      (disk.seen run.0.device) rule.0 access
      (subst (λ q. Acts mid.state (disk.seen mid.device) q next.act reply run.0.state (disk.seen run.0.device)) same
      (rule_of observed mid next reply run.0 run.1))
  serves_through observed s bytes p act reply mid steps more new rule run = tt

  pub served_throughout : (observed : Observed) (old : Whole D) (steps : List Step)
      (replies : List Reply) (new : Whole D)
      → Throughout (StepIsSafe disk files) observed old steps replies new → FaultsAreServed steps replies
  served_throughout observed old [] replies new run = tt
  served_throughout observed old (step ∷ steps) [] new run = tt
  served_throughout observed old (step ∷ steps) (reply ∷ rest) new run = (
    serves_through (observe observed step reply) old.state
        (disk.seen old.device) step.p step.act reply run.0 steps rest new
        (rule_of observed old step reply run.0 run.1) run.2,
    served_throughout (observe observed step reply) run.0 steps rest new run.2,
  )
