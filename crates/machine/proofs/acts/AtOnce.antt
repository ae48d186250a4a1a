-- Bytes that are loaded or stored at once, through a cached entry, as steps of one byte each.
use Rattle.machine.proofs.Names.{ℕ, ◌≡◌, ◌+◌, ◌-◌, ◌/◌, ◌%◌, ◌^◌, ◌<◌, ◌≤◌, ◌&&◌, nat_lt, Bool, true, false, cond}
use Rattle.machine.proofs.Names.{List, [], ◌∷◌, ◌++◌, length, take, drop, Option, Some, None, is_none, IsSome, Ok, refl}
use Rattle.machine.proofs.Names.{sym, ap, ◌∙◌, subst, arith, common_steps, set, get_or, set-get_or, Ghosts, Step, State}
use Rattle.machine.proofs.Names.{Whole, StepTaken, StepsTaken, IsSound, with_hardware, Hardware, StoreMade, LoadMade}
use Rattle.machine.proofs.Names.{IsAccess, serves, translated_by, CachedEntry, cached, current, tlb_of}
use Rattle.machine.proofs.Names.{not_running, Frame, FramesState, frame_at, bytes_of, overwrite, overwrite_frame}
use Rattle.machine.proofs.Names.{with_bytes, leaves_at_start, Rules, Reply, length-take, ShootdownState}
use Rattle.machine.proofs.Names.{Layers, state_in, whole_in, AreLayers, drop-drop, nat_tests, zero, suc}
use Rattle.machine.proofs.Names.{LeavesOnly, TornFromWork, Work}
use Rattle.std.proofs.Math.Nat.{min-le_left}
use Rattle.cpu.specs.Access.{frame_served, walking}
use Rattle.cpu.specs.AtOnce.{frame_cached, in_page, count_at_once, stored_at_once, loaded_at_once}
use Rattle.machine.specs.AtOnce.{store_steps, store_replies, load_steps, load_replies}
use Rattle.machine.specs.declared.act.Act.TheVariants as acts
use Rattle.machine.specs.declared.act.Reply.TheVariants as replies
use Rattle.machine.proofs.code.Acting.{SinceNow, MakesNoCall, no_work, device_stays, calls_stay}
use Rattle.machine.proofs.sound.Kept.{sound_kept}

-- ---- frames with bytes written twice

overwrite-nil : (page : List ℕ) (at : ℕ) → overwrite page at [] ≡ page
overwrite-nil page at = grind (arith, common_steps)

overwrite-suc : (x : ℕ) (xs : List ℕ) (at : ℕ) (bytes : List ℕ)
    → overwrite (x ∷ xs) (suc at) bytes ≡ x ∷ overwrite xs at bytes
overwrite-suc x xs at bytes =
    let e : suc at + length bytes ≡ suc (at + length bytes) = omega arith in
    ap (λ n. take (suc at) (x ∷ xs) ++ bytes ++ drop n (x ∷ xs)) e

overwrite-zero : (xs : List ℕ) (bytes : List ℕ) → overwrite xs 0 bytes ≡ bytes ++ drop (length bytes) xs
overwrite-zero xs bytes =
    let e : 0 + length bytes ≡ length bytes = omega arith in
    ap (λ n. bytes ++ drop n xs) e

overwrite-twice : (page : List ℕ) (at byte : ℕ) (bytes : List ℕ) → at < length page
    → overwrite (overwrite page at (byte ∷ [])) (at + 1) bytes ≡ overwrite page at (byte ∷ bytes)
overwrite-twice [] at byte bytes within = absurd (omega (arith, within))
overwrite-twice (x ∷ xs) zero byte bytes within =
    ap (λ (page : List ℕ). overwrite page (suc 0) bytes) (overwrite-zero (x ∷ xs) (byte ∷ []))
    ∙ overwrite-suc byte xs 0 bytes ∙ ap (λ (rest : List ℕ). byte ∷ rest) (overwrite-zero xs bytes)
    ∙ sym (overwrite-zero (x ∷ xs) (byte ∷ bytes))
overwrite-twice (x ∷ xs) (suc at) byte bytes within =
    let e : suc at + 1 ≡ suc (at + 1) = omega arith in
    ap (λ n. overwrite (overwrite (x ∷ xs) (suc at) (byte ∷ [])) n bytes) e
    ∙ ap (λ (page : List ℕ). overwrite page (suc (at + 1)) bytes) (overwrite-suc x xs at (byte ∷ []))
    ∙ overwrite-suc x (overwrite xs at (byte ∷ [])) (at + 1) bytes
    ∙ ap (λ (rest : List ℕ). x ∷ rest) (overwrite-twice xs at byte bytes (omega (arith, within)))
    ∙ sym (overwrite-suc x xs at (byte ∷ bytes))

set-set : {X : Type 0} (xs : List X) (k : ℕ) (x y : X) → set (set xs k x) k y ≡ set xs k y
set-set [] k x y = refl
set-set (z ∷ xs) zero x y = refl
set-set (z ∷ xs) (suc k) x y = ap (λ (rest : List _). z ∷ rest) (set-set xs k x y)

get-set : (xs : List (Option Frame)) (k at byte : ℕ) (bytes : List ℕ)
    → (IsSome (get_or xs k None) → at < length (bytes_of (get_or xs k None)))
    → overwrite_frame (get_or (set xs k (overwrite_frame (get_or xs k None) at (byte ∷ []))) k None) (at + 1) bytes
    ≡ overwrite_frame (get_or xs k None) at (byte ∷ bytes)
get-set [] k at byte bytes within = refl
get-set (None ∷ xs) zero at byte bytes within = refl
get-set (Some f ∷ xs) zero at byte bytes within =
    ap (λ (all : List ℕ). Some (record f { bytes = all })) (overwrite-twice f.bytes at byte bytes (within refl))
get-set (x ∷ xs) (suc k) at byte bytes within = get-set xs k at byte bytes within

-- no byte is written
with_bytes-nil : (memory : FramesState) (frame at : ℕ) → with_bytes memory frame at [] ≡ memory
with_bytes-nil memory frame at =
    ap (λ (frames : List (Option Frame)). record memory { frames = frames })
    (ap (set memory.frames frame) (same (frame_at memory frame)) ∙ set-get_or memory.frames frame None)
  where
    same : (o : Option Frame) → overwrite_frame o at [] ≡ o
    same None = refl
    same (Some f) = ap (λ (all : List ℕ). Some (record f { bytes = all })) (overwrite-nil f.bytes at)

-- a byte is written, and the rest behind it
with_bytes-twice : (memory : FramesState) (frame at byte : ℕ) (bytes : List ℕ)
    → (IsSome (frame_at memory frame) → at < length (bytes_of (frame_at memory frame)))
    → with_bytes (with_bytes memory frame at (byte ∷ [])) frame (at + 1) bytes
    ≡ with_bytes memory frame at (byte ∷ bytes)
with_bytes-twice memory frame at byte bytes within =
    ap (λ (frames : List (Option Frame)). record memory { frames = frames })
    (ap (set (set memory.frames frame (overwrite_frame (frame_at memory frame) at (byte ∷ []))) frame)
    (get-set memory.frames frame at byte bytes within)
    ∙ set-set memory.frames frame (overwrite_frame (frame_at memory frame) at (byte ∷ []))
    (overwrite_frame (frame_at memory frame) at (byte ∷ bytes)))

-- ---- what is cached serves each access

served_by : (h : Hardware) (p page : ℕ) (write : Bool) (o : Option CachedEntry) (frame : ℕ)
    → frame_served write o ≡ Some frame → translated_by h p page write o ≡ Ok (frame, h)
served_by h p page write None frame is = absurd (cc)
served_by h p page write (Some e) frame is = by (serves write e) is
  where
    by : (b : Bool) → cond b (Some e.frame) None ≡ Some frame
        → cond b (Ok (e.frame, h)) (walking h p page write) ≡ Ok (frame, h)
    by true is = cc
    by false is = absurd (cc)

-- a processor that goes on has cached an entry of a page that serves such accesses, and reaches this frame by it
pub record Serves (x : ShootdownState) (p page : ℕ) (write : Bool) (frame : ℕ) : Type 0 where
  pub running : not_running x p ≡ None
  pub served : frame_served write (cached (tlb_of x p) (current x p) page) ≡ Some frame

chosen : (b : Bool) (o : Option ℕ) (frame : ℕ) → cond b o None ≡ Some frame → (b ≡ true) × (o ≡ Some frame)
chosen true o frame is = (refl, is)
chosen false o frame is = absurd (cc)

both_tests : {X : Type 0} (o : Option X) (va : ℕ) → (is_none o && nat_lt va (2 ^ 47)) ≡ true
    → (o ≡ None) × (va < 2 ^ 47)
both_tests None va is = (refl, grind (arith, nat_tests))
both_tests (Some x) va is = absurd (cc)

serving : (h : Hardware) (p va : ℕ) (write : Bool) (frame : ℕ) → frame_cached h.shootdown p va write ≡ Some frame
    → Serves h.shootdown p (va / 4096) write frame × (va < 2 ^ 47)
serving h p va write frame is =
    let both = chosen (is_none (not_running h.shootdown p) && nat_lt va (2 ^ 47))
    (frame_served write (cached (tlb_of h.shootdown p) (current h.shootdown p) (va / 4096))) frame is in
    let tests = both_tests (not_running h.shootdown p) va both.0 in
    (record { running = tests.0; served = both.1 }, tests.1)

-- ---- one byte

one_byte : (va : ℕ) (left : ℕ) → va < 2 ^ 47 → va % 4096 + (left + 1) ≤ 4096 → IsAccess va 1
one_byte va left small inside =
    record { some = omega arith; few = omega arith; small = small; inside = omega (arith, inside) }

-- the page of the next byte, where one is left
next_place : (va left : ℕ) → va % 4096 + (left + 2) ≤ 4096
    → ((va + 1) / 4096 ≡ va / 4096) × ((va + 1) % 4096 ≡ va % 4096 + 1)
next_place va left inside = (omega (arith, inside), omega (arith, inside))

next_small : (va left : ℕ) → va < 2 ^ 47 → va % 4096 + (left + 2) ≤ 4096 → va + 1 < 2 ^ 47
next_small va left small inside = omega (arith, small, inside)

module _ {D : Type 0} (disk : Ghosts D) (since_now : SinceNow disk) (device : D) (p : ℕ) where
  -- a machine with this state, over the same device
  abbrev pub over : State → Whole D
  over s = record { state = s; device = device }

  -- an act that makes no device call is a step of it
  taken : (s new : State) (step : Step) (reply : Reply) → MakesNoCall step.act
      → ((d : List ℕ) → Rules s d step reply new d) → StepTaken disk (over s) step reply (over new)
  taken s new step reply none rule =
      let work = no_work s step.act reply none in record {
        answered = ([], [], rule []);
        made = λ honest. record {
          answered = rule (disk.seen device);
          left = λ c may. subst (λ (w : Work). TornFromWork w (disk.may_leave device) c) (sym work) may;
          durable = λ other sync. absurd (let both = sym work ∙ sync in cc);
          within = subst (λ (w : Work). LeavesOnly disk.moment disk.left_since device device
              (TornFromWork w (disk.may_leave device))) (sym work)
              (leaves_at_start (λ c left. since_now device c left));
          unread = λ from to refused copy few calls. absurd (let both = sym work ∙ copy in cc);
        };
        device = device_stays disk s step.p step.act reply device none;
        calls = calls_stay s step.p step.act reply _ _ none;
        honest = (λ h. h, λ h. h);
        len = refl;
      }

  -- ---- stores

  -- the machine after bytes were written into a frame
  abbrev pub written : State → ℕ → ℕ → List ℕ → State
  written s frame at bytes =
      with_hardware s (record s.hardware { memory = with_bytes s.hardware.memory frame at bytes })

  stored_byte : (s : State) (va frame byte left : ℕ) → Serves s.hardware.shootdown p (va / 4096) true frame
      → va < 2 ^ 47 → va % 4096 + (left + 1) ≤ 4096
      → (d : List ℕ) → Rules s d (record { p = p; act = acts.Store va (byte ∷ []) }) replies.Stored
      (written s frame (va % 4096) (byte ∷ [])) d
  stored_byte s va frame byte left hits small inside d =
      let made : StoreMade s.hardware p va (byte ∷ [])
      (record s.hardware { memory = with_bytes s.hardware.memory frame (va % 4096) (byte ∷ []) }) = record {
        running = hits.running;
        access = one_byte va left small inside;
        frame = frame;
        mid = s.hardware;
        translation = served_by s.hardware p (va / 4096) true
            (cached (tlb_of s.hardware.shootdown p) (current s.hardware.shootdown p) (va / 4096)) frame hits.served;
        written = refl;
      } in
      ((record s.hardware { memory = with_bytes s.hardware.memory frame (va % 4096) (byte ∷ []) }, made, refl), refl)

  whole_page : (s : State) (frame at : ℕ) → IsSound s → at < 4096 → IsSome (frame_at s.hardware.memory frame)
      → at < length (bytes_of (frame_at s.hardware.memory frame))
  whole_page s frame at sound few is = omega (arith, few, sound.memory.memory.frames_whole frame is)

  pub stores_taken : (bytes : List ℕ) (s : State) (va frame : ℕ) → IsSound s
      → Serves s.hardware.shootdown p (va / 4096) true frame → va < 2 ^ 47 → va % 4096 + length bytes ≤ 4096
      → StepsTaken disk (over s) (store_steps p va bytes) (store_replies bytes)
      (over (written s frame (va % 4096) bytes)) × IsSound (written s frame (va % 4096) bytes)
  stores_taken [] s va frame sound hits small inside =
      let same : written s frame (va % 4096) [] ≡ s = ap (λ (memory : FramesState). with_hardware s
      (record s.hardware { memory = memory })) (with_bytes-nil s.hardware.memory frame (va % 4096)) in
      (ap over same, subst IsSound (sym same) sound)
  stores_taken (byte ∷ []) s va frame sound hits small inside =
      let mid = written s frame (va % 4096) (byte ∷ []) in
      let rule = stored_byte s va frame byte 0 hits small inside in (
        (over mid, taken s mid _ replies.Stored tt rule, refl),
        sound_kept s [] (record { p = p; act = acts.Store va (byte ∷ []) }) replies.Stored mid [] sound (rule []),
      )
  stores_taken (byte ∷ next ∷ bytes) s va frame sound hits small inside =
      let mid = written s frame (va % 4096) (byte ∷ []) in
      let more : va % 4096 + (length bytes + 2) ≤ 4096 = omega (arith, inside) in
      let rule = stored_byte s va frame byte (length bytes + 1) hits small (omega (arith, inside)) in
      let sound' : IsSound mid =
      sound_kept s [] (record { p = p; act = acts.Store va (byte ∷ []) }) replies.Stored mid [] sound (rule []) in
      let place = next_place va (length bytes) more in
      let rest = stores_taken (next ∷ bytes) mid (va + 1) frame sound'
      (subst (λ page. Serves s.hardware.shootdown p page true frame) (sym place.0) hits)
      (next_small va (length bytes) small more) (omega (arith, more, place.1)) in
      let same : written mid frame ((va + 1) % 4096) (next ∷ bytes)
      ≡ written s frame (va % 4096) (byte ∷ next ∷ bytes) =
      ap (λ (memory : FramesState). with_hardware s (record s.hardware { memory = memory }))
      (ap (λ at. with_bytes mid.hardware.memory frame at (next ∷ bytes)) place.1
      ∙ with_bytes-twice s.hardware.memory frame (va % 4096) byte (next ∷ bytes)
      (whole_page s frame (va % 4096) sound (omega (arith, more)))) in (
        (
          over mid,
          taken s mid _ replies.Stored tt rule,
          subst (λ (x : State). StepsTaken disk (over mid) (store_steps p (va + 1) (next ∷ bytes))
              (store_replies (next ∷ bytes)) (over x)) same rest.0,
        ),
        subst IsSound same rest.1,
      )

  -- ---- loads

  loaded_byte : (s : State) (va frame byte left : ℕ) (bytes : List ℕ)
      → Serves s.hardware.shootdown p (va / 4096) false frame → va < 2 ^ 47 → va % 4096 + (left + 1) ≤ 4096
      → byte ∷ [] ≡ take 1 (drop (va % 4096) (bytes_of (frame_at s.hardware.memory frame)))
      → (d : List ℕ) → Rules s d (record { p = p; act = acts.Load va 1 }) (replies.Bytes (byte ∷ [])) s d
  loaded_byte s va frame byte left bytes hits small inside read d =
      let made : LoadMade s.hardware p va 1 (byte ∷ []) s.hardware = record {
        running = hits.running;
        access = one_byte va left small inside;
        frame = frame;
        translation = served_by s.hardware p (va / 4096) false
            (cached (tlb_of s.hardware.shootdown p) (current s.hardware.shootdown p) (va / 4096)) frame hits.served;
        read = read;
      } in
      ((s.hardware, made, refl), refl)

  first_of_page : (page : List ℕ) (at byte count : ℕ) (bytes : List ℕ) → byte ∷ bytes ≡ take count (drop at page)
      → byte ∷ [] ≡ take 1 (drop at page)
  first_of_page page at byte count bytes is = from (drop at page) count is
    where
      from : (xs : List ℕ) (count : ℕ) → byte ∷ bytes ≡ take count xs → byte ∷ [] ≡ take 1 xs
      from [] zero is = absurd (cc)
      from [] (suc count) is = absurd (cc)
      from (x ∷ xs) zero is = absurd (cc)
      from (x ∷ xs) (suc count) is = cc

  rest_of_page : (page : List ℕ) (at byte count : ℕ) (bytes : List ℕ) → byte ∷ bytes ≡ take (suc count) (drop at page)
      → bytes ≡ take count (drop (at + 1) page)
  rest_of_page page at byte count bytes is = from (drop at page) is ∙ ap (take count) (drop-drop 1 at page)
    where
      from : (xs : List ℕ) → byte ∷ bytes ≡ take (suc count) xs → bytes ≡ take count (drop 1 xs)
      from [] is = absurd (cc)
      from (x ∷ xs) is = cc

  pub loads_taken : (bytes : List ℕ) (s : State) (va frame : ℕ) → Serves s.hardware.shootdown p (va / 4096) false frame
      → va < 2 ^ 47 → va % 4096 + length bytes ≤ 4096
      → bytes ≡ take (length bytes) (drop (va % 4096) (bytes_of (frame_at s.hardware.memory frame)))
      → StepsTaken disk (over s) (load_steps p va bytes) (load_replies bytes) (over s)
  loads_taken [] s va frame hits small inside read = refl
  loads_taken (byte ∷ []) s va frame hits small inside read =
      (over s, taken s s _ _ tt (loaded_byte s va frame byte 0 [] hits small inside read), refl)
  loads_taken (byte ∷ next ∷ bytes) s va frame hits small inside read =
      let page = bytes_of (frame_at s.hardware.memory frame) in
      let more : va % 4096 + (length bytes + 2) ≤ 4096 = omega (arith, inside) in
      let place = next_place va (length bytes) more in
      let rest = rest_of_page page (va % 4096) byte (length (next ∷ bytes)) (next ∷ bytes) read in (
        over s,
        taken s s _ _ tt
            (loaded_byte s va frame byte (length bytes + 1) (next ∷ bytes) hits small (omega (arith, inside))
            (first_of_page page (va % 4096) byte (suc (length (next ∷ bytes))) (next ∷ bytes) read)),
        loads_taken (next ∷ bytes) s (va + 1) frame
            (subst (λ page. Serves s.hardware.shootdown p page false frame) (sym place.0) hits)
            (next_small va (length bytes) small more) (omega (arith, more, place.1))
            (subst (λ at. next ∷ bytes ≡ take (length (next ∷ bytes)) (drop at page)) (sym place.1) rest),
      )

-- ---- the layers of a machine

in_page-few : (va count : ℕ) → in_page va count ≤ 4096 - va % 4096
in_page-few va count = omega arith

taken_inside : (va : ℕ) (bytes : List ℕ) (count : ℕ) → va % 4096 + length (take (in_page va count) bytes) ≤ 4096
taken_inside va bytes count = omega (
  arith,
  length-take (in_page va count) bytes,
  min-le_left (in_page va count) (length bytes),
  in_page-few va count,
)

module _ {D Z : Type 0} (disk : Ghosts D) (since_now : SinceNow disk) (m : Layers D Z) (p va : ℕ) where
  -- with these frames
  abbrev pub framed : FramesState → Layers D Z
  framed frames = record m { frames = frames }

  -- steps led from the machine's layers to those with these frames
  abbrev pub StoresTo : List ℕ → FramesState → Type 0
  StoresTo bytes frames =
      StepsTaken disk (whole_in m) (store_steps p va bytes) (store_replies bytes) (whole_in (framed frames))
      × AreLayers disk.seen (framed frames)

  stores_by : (bytes : List ℕ) (o : Option ℕ) → AreLayers disk.seen m → frame_cached m.shootdown p va true ≡ o
      → StoresTo (take (count_at_once o va (length bytes)) bytes) (stored_at_once o m.frames va bytes)
  stores_by bytes None are is = (refl, are)
  stores_by bytes (Some frame) are is =
      let s = serving (state_in m).hardware p va true frame is in
      let made = stores_taken disk since_now m.device p (take (in_page va (length bytes)) bytes)
      (state_in m) va frame are.sound s.0 s.1 (taken_inside va bytes (length bytes)) in
      (made.0, record { sound = made.1; long = are.long; reserved = are.reserved })

  pub stores_at_once : (bytes : List ℕ) (count : ℕ) (frames : FramesState) → AreLayers disk.seen m
      → count ≡ count_at_once (frame_cached m.shootdown p va true) va (length bytes)
      → frames ≡ stored_at_once (frame_cached m.shootdown p va true) m.frames va bytes
      → StoresTo (take count bytes) frames
  stores_at_once bytes count frames are counted stored =
      rw (counted, stored) (stores_by bytes (frame_cached m.shootdown p va true) are refl)

  loads_by : (count : ℕ) (o : Option ℕ) → AreLayers disk.seen m → frame_cached m.shootdown p va false ≡ o
      → StepsTaken disk (whole_in m) (load_steps p va (loaded_at_once o m.frames va count))
      (load_replies (loaded_at_once o m.frames va count)) (whole_in m)
  loads_by count None are is = refl
  loads_by count (Some frame) are is =
      let s = serving (state_in m).hardware p va false frame is in
      let page = drop (va % 4096) (bytes_of (frame_at m.frames frame)) in
      let all : take (in_page va count) page ≡ take (length (take (in_page va count) page)) page =
      grind (arith, common_steps) in
      loads_taken disk since_now m.device p (take (in_page va count) page) (state_in m) va frame s.0 s.1
      (taken_inside va page count) all

  pub loads_at_once : (count : ℕ) (bytes : List ℕ) → AreLayers disk.seen m
      → bytes ≡ loaded_at_once (frame_cached m.shootdown p va false) m.frames va count
      → StepsTaken disk (whole_in m) (load_steps p va bytes) (load_replies bytes) (whole_in m)
  loads_at_once count bytes are loaded = rw (loaded) (loads_by count (frame_cached m.shootdown p va false) are refl)
