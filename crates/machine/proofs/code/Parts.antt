-- What the layers' calls say of the lock, of frames, of files and of what is reserved.
use Rattle.machine.proofs.Names.{ℕ, Some, Ok, Change, HandsOut, State, MayChange, ◌≡◌, Option, sym, IfSome, IfNone}
use Rattle.machine.proofs.Names.{FilePage, FramesState, frame_at, page_of, HasNoFrame, list_any-found, is_in_memory}
use Rattle.machine.proofs.Names.{zero, suc, ◌<◌, ◌-◌, List, [], ◌∷◌, length, map, slice_index, ◌==◌, true, false}
use Rattle.machine.proofs.Names.{cond, refl}
use Rattle.machine.proofs.Names.{ap, ◌∙◌, arith, nat_tests, TableFile, pages_of, pages_in_file, None, subst, Rights}
use Rattle.machine.proofs.Names.{PageRange, Lock, Layers, IsReserved, AreReserved, IsQuiet, Bool, Result, Err, Refusal}
use Rattle.machine.proofs.Names.{Mapped, entry_at, current, Hardware, Accesses, Fills, Evicts, filled_by}
use Rattle.machine.proofs.Names.{◌+◌, ◌++◌, take, slice_get, slice_get_within, get_or_from_slice_get}
use Rattle.machine.specs.declared.act.Act.TheVariants as acts
use Rattle.machine.specs.declared.act.Reply.TheVariants as replies
use Rattle.std.proofs.lemmas.List.{take_more}
use Rattle.std.specs.Option.{is_some}

-- ---- the holder of the lock, once its change is handed out

pub may_change : (s : State) (p : ℕ) (change : Change) → HandsOut s.hardware.shootdown p (Ok (Some change))
    → MayChange s p change
may_change s p change hands = record { allowed = hands.0; lock = hands.1 }

-- ---- whether a page is in memory, by the search for its frame

pub in_memory-found : (memory : FramesState) (owner : FilePage) (found : Option ℕ)
    → IfSome found (λ frame. page_of (frame_at memory frame) ≡ Some owner) → IfNone found (HasNoFrame memory owner)
    → is_in_memory memory owner ≡ is_some found
in_memory-found memory owner found some none = sym (list_any-found memory.frames owner found some none)

-- ---- what the table says of a file, by its number

pub pages-in_file : (files : List TableFile) (file : ℕ) → file < length files
    → pages_of (slice_index (map (λ (f : TableFile). f.capacity) files) file) ≡ pages_in_file files file
pages-in_file [] file below = absurd (omega (arith, below))
pages-in_file (f ∷ files) zero below = refl
pages-in_file (f ∷ files) (suc file) below =
    let before : file ≡ suc file - 1 = omega arith in
    let other : false ≡ (suc file == 0) = grind (arith, nat_tests) in
    pages-in_file files file (omega (arith, below)) ∙ ap (pages_in_file files) before
    ∙ ap (λ b. cond b (pages_of f.capacity) (pages_in_file files (suc file - 1))) other

-- ---- one length more of a list

pub taken_more : (lengths : List ℕ) (i n : ℕ) → slice_get lengths i ≡ Some n
    → take (i + 1) lengths ≡ take i lengths ++ n ∷ []
taken_more lengths i n at =
    take_more lengths i 0 (slice_get_within lengths i n at)
    ∙ ap (λ k. take i lengths ++ k ∷ []) (get_or_from_slice_get lengths i n 0 at)

-- ---- what is reserved for a change that is under way stays reserved

same_lock : {a b : Lock} → Some a ≡ Some b → a ≡ b
same_lock e = cc

-- the lock and what is prepared are as before
pub reserved_same : (old new : Option Lock) (was now : Option (ℕ × PageRange × Option Rights)) → new ≡ old → now ≡ was
    → AreReserved old was → AreReserved new now
reserved_same old new was now lock prepared are =
    λ held is. subst (IsReserved held.change) (sym prepared) (are held (sym lock ∙ is))

-- nothing is under way
pub reserved_free : (lock : Option Lock) (now : Option (ℕ × PageRange × Option Rights)) → lock ≡ None
    → AreReserved lock now
reserved_free lock now free = λ held is. absurd (cc)

-- a change began
pub reserved_begun : (lock : Option Lock) (held : Lock) (now : Option (ℕ × PageRange × Option Rights))
    → lock ≡ Some held → IsReserved held.change now → AreReserved lock now
reserved_begun lock held now is reserved =
    λ other was. subst (λ (x : Lock). IsReserved x.change now) (same_lock (sym is ∙ was)) reserved

-- ---- acts that leave the device and the table

module _ {D Z : Type 0} {old new : Layers D Z} (device : new.device ≡ old.device) (table : new.table ≡ old.table) where
  pub quiet_same : new.shootdown.lock ≡ old.shootdown.lock → new.spaces.prepared ≡ old.spaces.prepared → IsQuiet old new
  quiet_same lock prepared =
      record { same_device = device; same_table = table; still_reserved = reserved_same _ _ _ _ lock prepared }

  pub quiet_begun : {held : Lock} → new.shootdown.lock ≡ Some held → IsReserved held.change new.spaces.prepared
      → IsQuiet old new
  quiet_begun lock reserved =
      record { same_device = device; same_table = table; still_reserved = λ _. reserved_begun _ _ _ lock reserved }

-- ---- loads, stores, fills and evictions leave the lock as it is

lock-filled_by : (h : Hardware) (p page : ℕ) (entry : Option Mapped)
    → (filled_by h p page entry).1.shootdown.lock ≡ h.shootdown.lock
lock-filled_by h p page None = refl
lock-filled_by h p page (Some entry) = refl

pub lock-fills : (h : Hardware) (p page : ℕ) (answer : Result Bool Refusal) (new : Hardware) → Fills h p page answer new
    → new.shootdown.lock ≡ h.shootdown.lock
lock-fills h p page (Ok there) new fills =
    ap (λ (x : Bool × Hardware). x.1.shootdown.lock) fills.1
    ∙ lock-filled_by h p page (entry_at h.spaces (current h.shootdown p) page)
lock-fills h p page (Err why) new fills = ap (λ (x : Hardware). x.shootdown.lock) fills.2

pub lock-evicts : (h : Hardware) (p slot : ℕ) (answer : Result Bool Refusal) (new : Hardware)
    → Evicts h p slot answer new → new.shootdown.lock ≡ h.shootdown.lock
lock-evicts h p slot (Ok there) new evicts = ap (λ (x : Hardware). x.shootdown.lock) evicts.2
lock-evicts h p slot (Err why) new evicts = ap (λ (x : Hardware). x.shootdown.lock) evicts.2

-- what they are answered, by whether there was something to do
pub fills_so : (h : Hardware) (p page : ℕ) (there : Bool) (new : Hardware) → Fills h p page (Ok there) new
    → Accesses h p (acts.Fill page) (cond there replies.Filled replies.Nothing) new
fills_so h p page true new fills = fills
fills_so h p page false new fills = fills

pub evicts_so : (h : Hardware) (p slot : ℕ) (there : Bool) (new : Hardware) → Evicts h p slot (Ok there) new
    → Accesses h p (acts.Evict slot) (cond there replies.Evicted replies.Nothing) new
evicts_so h p slot true new evicts = evicts
evicts_so h p slot false new evicts = evicts
