-- Reading the open journals one by one, each put to its place among those before it, the newest first.
use Rattle.std.proofs.Common.{◌≡◌, ◌<◌, ◌≤◌, inl, inr, ℕ, zero, suc, ◌+◌, Bool, true, false, ◌==◌, ◌||◌, List, [], ◌∷◌}
use Rattle.std.proofs.Common.{length, drop, get_or, map, Result, Ok, Err, refl, sym, ◌∙◌, ap, subst, arith}
use Rattle.std.proofs.Common.{◌↔◌, ◌-◌, ◌*◌, slice_range, set, take}
use Rattle.std.specs.List.{AllByRecursion, insert}
use Rattle.std.proofs.lemmas.Bool.{cases_eq, eq-eqb, eqb-true}
use Rattle.std.proofs.lemmas.List.{drop_more, drop_all, get_or-take, get_or-drop, get_or-set_same, get_or-set_other}
use Rattle.std.proofs.lemmas.List.Edits.{length-insert}
use Rattle.device.specs.declared.device.Device.{Ghosts}
use Rattle.page_entry.specs.declared.refusal.Refusal.{Refusal}
use Rattle.page_entry.specs.declared.refusal.Refusal.TheVariants.{Device, OutOfMemory, Damaged}
use Rattle.volume_codec.specs.Layout.{GeometryValue, IsGeometry, journals_of, descriptor_block, descriptor_blocks}
use Rattle.volume_codec.specs.Layout.{gate_block, blocks_at}
use Rattle.volume_codec.specs.Descriptor.{IsDescriptor}
use Rattle.volume_codec.specs.Recovery.{Batch, IsOpenBatch, IsOpen, IsNewer, AreFalling, has_journal, AreOpen}
use Rattle.volume_codec.proofs.Batches.{IsAmong, batch_of, each_among, among_open, falling_among}
use Rattle.recovery.specs.Counts.{HasCause, IsAccounted}
use Rattle.recovery.specs.declared.opening.OpenJournal.{OpenJournal}
use Rattle.recovery.specs.inside.Reading.{batch_of as batch_found, batches_of, AreRead, HasMark, IsPlaceOf, IsAdded}
use Rattle.recovery.specs.inside.Reading.{RefusesAdding}
use Rattle.recovery.specs.inside.Reading.{RefusesJournal, RefusesJournals}
use Rattle.recovery.proofs.Kept.{kept_err}

-- what holds of each and of one more
pub each_insert : {X : Type 0} (P : X → Type 0) (xs : List X) (i : ℕ) (x : X) → AllByRecursion P xs → P x
    → AllByRecursion P (insert xs i x)
each_insert P xs zero x each here = (here, each)
each_insert P [] (suc i) x each here = (here, tt)
each_insert P (y ∷ xs) (suc i) x each here = (each.0, each_insert P xs i x each.1 here)

pub each_weaker : {X : Type 0} (P Q : X → Type 0) (xs : List X) → ((x : X) → P x → Q x) → AllByRecursion P xs
    → AllByRecursion Q xs
each_weaker P Q [] h each = tt
each_weaker P Q (x ∷ xs) h each = (h x each.0, each_weaker P Q xs h each.1)

-- images of a list with one more
pub map_insert : {X Y : Type 0} (f : X → Y) (xs : List X) (i : ℕ) (x : X)
    → map f (insert xs i x) ≡ insert (map f xs) i (f x)
map_insert f xs zero x = refl
map_insert f [] (suc i) x = refl
map_insert {X} {Y} f (y ∷ xs) (suc i) x = ap (λ (l : List Y). f y ∷ l) (map_insert f xs i x)

or_true : (a b : Bool) → b ≡ true → a || b ≡ true
or_true true b e = refl
or_true false b e = e

-- a journal that has a batch still has one
has_journal-insert : (batches : List Batch) (i : ℕ) (batch : Batch) (j : ℕ) → has_journal batches j ≡ true
    → has_journal (insert batches i batch) j ≡ true
has_journal-insert batches zero batch j e = or_true (batch.journal == j) (has_journal batches j) e
has_journal-insert [] (suc i) batch j e = or_true (batch.journal == j) false e
has_journal-insert (b ∷ bs) (suc i) batch j e = by (b.journal == j) e (has_journal-insert bs i batch j)
  where
    by : (t : Bool) → t || has_journal bs j ≡ true
        → (has_journal bs j ≡ true → has_journal (insert bs i batch) j ≡ true)
        → t || has_journal (insert bs i batch) j ≡ true
    by true e rest = refl
    by false e rest = rest e

has_journal-inserted : (batches : List Batch) (i : ℕ) (batch : Batch) (j : ℕ) → batch.journal ≡ j
    → has_journal (insert batches i batch) j ≡ true
has_journal-inserted batches zero batch j e =
    ap (λ (t : Bool). t || has_journal batches j) (eq-eqb batch.journal j e)
has_journal-inserted [] (suc i) batch j e = ap (λ (t : Bool). t || false) (eq-eqb batch.journal j e)
has_journal-inserted (b ∷ bs) (suc i) batch j e = or_true (b.journal == j) _ (has_journal-inserted bs i batch j e)

-- ---- the place of a mark

pub place_within : (mark : ℕ) (batches : List Batch) (place : ℕ) → IsPlaceOf mark batches place
    → place ≤ length batches
place_within mark [] place is = omega (arith, is)
place_within mark (b ∷ bs) zero is = omega arith
place_within mark (b ∷ bs) (suc place) is = omega (arith, place_within mark bs place is.1)

falling_insert : (batch : Batch) (batches : List Batch) (place : ℕ) → IsPlaceOf batch.mark batches place
    → AreFalling batches → AreFalling (insert batches place batch)
falling_insert batch [] zero is falls = (tt, tt)
falling_insert batch [] (suc place) is falls = absurd (omega (arith, is))
falling_insert batch (b ∷ bs) zero is falls = (is, falls)
falling_insert batch (b ∷ bs) (suc place) is falls =
    (newer bs place is.1 falls.0, falling_insert batch bs place is.1 falls.1)
  where
    newer : (bs : List Batch) (place : ℕ) → IsPlaceOf batch.mark bs place → IsNewer b bs
        → IsNewer b (insert bs place batch)
    newer [] zero at first = is.0
    newer [] (suc place) at first = absurd (omega (arith, at))
    newer (c ∷ cs) zero at first = is.0
    newer (c ∷ cs) (suc place) at first = first

-- what is added keeps the order, and holds what all hold
pub added_falling : (batch : Batch) (old new : List Batch) → IsAdded batch old new → AreFalling old → AreFalling new
added_falling batch old new added falls =
    subst AreFalling (sym added.2) (falling_insert batch old added.0 added.1 falls)

pub added_each : (P : Batch → Type 0) (batch : Batch) (old new : List Batch) → IsAdded batch old new
    → AllByRecursion P old → P batch → AllByRecursion P new
added_each P batch old new added each here =
    subst (AllByRecursion P) (sym added.2) (each_insert P old added.0 batch each here)

pub added_length : (batch : Batch) (old new : List Batch) → IsAdded batch old new → length new ≡ length old + 1
added_length batch old new added =
    ap length added.2 ∙ length-insert old added.0 batch (place_within batch.mark old added.0 added.1)

-- ---- the next journal

-- it is open
pub read_added : (g : GeometryValue) (bytes : List ℕ) (n : ℕ) (old new : List Batch) (batch : Batch)
    → AreRead g bytes n old → IsOpenBatch g bytes batch → batch.journal ≡ n → IsAdded batch old new
    → AreRead g bytes (n + 1) new
read_added g bytes n old new batch are is at added = record {
  each = added_each (IsOpenBatch g bytes) batch old new added are.each is;
  low = added_each (λ b. b.journal < n + 1) batch old new added
      (each_weaker (λ b. b.journal < n) (λ b. b.journal < n + 1) old (λ b h. omega arith) are.low) (omega arith);
  all = λ j h o.
      let P : List Batch → Type 0 = λ l. has_journal l j ≡ true in
      subst P (sym added.2) (elim (cases_eq j n) [
        | inl same ↦ has_journal-inserted old added.0 batch j (at ∙ sym same)
        | inr other ↦ has_journal-insert old added.0 batch j (are.all j (omega arith) o)
      ]);
}

-- or it isn't
pub read_closed : (g : GeometryValue) (bytes : List ℕ) (n : ℕ) (batches : List Batch) → AreRead g bytes n batches
    → (IsOpen bytes g.slots n → ⊥) → AreRead g bytes (n + 1) batches
read_closed g bytes n batches are closed = record {
  each = are.each;
  low = each_weaker (λ b. b.journal < n) (λ b. b.journal < n + 1) batches (λ b h. omega arith) are.low;
  all = λ j h o. elim (cases_eq j n) [
    | inl same ↦ absurd (closed (subst (IsOpen bytes g.slots) same o))
    | inr other ↦ are.all j (omega arith) o
  ];
}

-- all were read
pub all_read : (g : GeometryValue) (bytes : List ℕ) (batches : List Batch)
    → AreRead g bytes (journals_of g.layout) batches
    → AreFalling batches → AreOpen g batches bytes
all_read g bytes batches are falls = record { each = are.each; all = are.all; falling = falls }

-- ---- refusals

-- of two batches among falling ones with one mark each is the other
falling_apart : (batches : List Batch) (x y : Batch) → AreFalling batches → IsAmong x batches → IsAmong y batches
    → x.mark ≡ y.mark → x.journal ≡ y.journal
falling_apart [] x y falls h k same = absurd h
falling_apart (b ∷ bs) x y falls (inl e) (inl f) same = ap (λ (z : Batch). z.journal) (sym e ∙ f)
falling_apart (b ∷ bs) x y falls (inl e) (inr k) same =
    let m = falling_among b y bs falls k in let n = ap (λ (z : Batch). z.mark) e in absurd (omega arith)
falling_apart (b ∷ bs) x y falls (inr h) (inl f) same =
    let m = falling_among b x bs falls h in let n = ap (λ (z : Batch). z.mark) f in absurd (omega arith)
falling_apart (b ∷ bs) x y falls (inr h) (inr k) same = falling_apart bs x y falls.1 h k same

marked : (mark : ℕ) (batches : List Batch) → HasMark mark batches
    → (x : Batch) × IsAmong x batches × (x.mark ≡ mark)
marked mark [] has = absurd has
marked mark (b ∷ bs) (inl same) = (b, inl refl, same)
marked mark (b ∷ bs) (inr has) = let r = marked mark bs has in (r.0, inr r.1, r.2)

-- no list of open batches has two with one mark
pub one_mark_refused : (g : GeometryValue) (bytes : List ℕ) (n : ℕ) (found : List Batch) (batch : Batch) → IsGeometry g
    → AreRead g bytes n found → IsOpenBatch g bytes batch → batch.journal ≡ n → HasMark batch.mark found
    → (batches : List Batch) → AreOpen g batches bytes → ⊥
one_mark_refused g bytes n found batch is are opened at has batches o =
    let other = marked batch.mark found has in
    let a = among_open g batches bytes other.0 is o
    (each_among (IsOpenBatch g bytes) other.0 found are.each other.1) in
    let b = among_open g batches bytes batch is o opened in
    let same = falling_apart batches other.0 batch o.falling a b other.2 in
    let low = each_among (λ (x : Batch). x.journal < n) other.0 found are.low other.1 in
    omega (arith, same, low, at)

-- the journal isn't added
pub refuses_added : (g : GeometryValue) (bytes : List ℕ) (n : ℕ) (found : List Batch) (batch : Batch) (e : Refusal)
    → IsGeometry g → AreRead g bytes n found → IsOpenBatch g bytes batch → batch.journal ≡ n
    → RefusesAdding batch found e → RefusesJournals g bytes e
refuses_added g bytes n found batch Damaged is are opened at refuses =
    one_mark_refused g bytes n found batch is are opened at refuses
refuses_added g bytes n found batch OutOfMemory is are opened at refuses = tt
refuses_added g bytes n found batch _ is are opened at refuses = absurd refuses

-- and no device call failed then
pub adding_kept : {D X Y : Type 0} {disk : Ghosts D} {old new : D} {x : X} (batch : Batch)
    (found : List Batch) (e : Refusal)
    (result : Result Y Refusal) → result ≡ Err e → RefusesAdding batch found e → IsAccounted disk old (Ok x) new
    → IsAccounted disk old result new
adding_kept {D} {X} {Y} {disk} {old} {new} batch found e result is refuses kept =
    kept_err {X = X} result is (record { honest = kept.honest; len = kept.len; cause = by e refuses })
  where
    by : (e : Refusal) → RefusesAdding batch found e → HasCause (disk.faults_met old) (disk.faults_met new) e
    by Damaged refuses = kept.cause
    by OutOfMemory refuses = kept.cause
    by _ refuses = absurd refuses

-- the descriptor of an open journal is refused
pub refuses_read : (g : GeometryValue) (bytes : List ℕ) (j : ℕ) (e : Refusal) → j < journals_of g.layout
    → IsOpen bytes g.slots j
    → RefusesJournal g (blocks_at bytes (descriptor_block g.slots j) (descriptor_blocks g.slots)) e
    → RefusesJournals g bytes e
refuses_read g bytes j Damaged there gate refuses = λ batches o.
    let b = batch_of batches j (o.all j there gate) in
    let is = each_among (IsOpenBatch g bytes) b.0 batches o.each b.1 in
    let P : ℕ → Type 0 = λ k. IsDescriptor g (record { mark = b.0.mark; homes = b.0.homes })
    (blocks_at bytes (descriptor_block g.slots k) (descriptor_blocks g.slots)) in
    refuses (record { mark = b.0.mark; homes = b.0.homes }) (subst P b.2 is.descriptor)
refuses_read g bytes j OutOfMemory there gate refuses = tt
refuses_read g bytes j Device there gate refuses = tt
refuses_read g bytes j _ there gate refuses = absurd refuses

-- ---- one journal after another, where the place of a mark is sought

module _ {Z : Type 0} (mark : ℕ) (found : List (OpenJournal Z)) (i : ℕ) (e : OpenJournal Z) (h : i < length found)
    (is : e ≡ get_or found i e) where
  next_is : drop i found ≡ e ∷ drop (i + 1) found
  next_is = drop_more found i e h ∙ ap (λ (x : OpenJournal Z). x ∷ drop (i + 1) found) (sym is)

  -- the place from this journal on, by the place after it
  pub place_here : e.descriptor.mark < mark → IsPlaceOf mark (batches_of (drop i found)) 0
  place_here lower =
      let P : List (OpenJournal Z) → Type 0 = λ l. IsPlaceOf mark (batches_of l) 0 in subst P (sym next_is) lower

  pub place_past : (k : ℕ) → mark < e.descriptor.mark → IsPlaceOf mark (batches_of (drop (i + 1) found)) k
      → IsPlaceOf mark (batches_of (drop i found)) (suc k)
  place_past k higher rest =
      let P : List (OpenJournal Z) → Type 0 = λ l. IsPlaceOf mark (batches_of l) (suc k) in
      subst P (sym next_is) (higher, rest)

  pub mark_here : e.descriptor.mark ≡ mark → HasMark mark (batches_of (drop i found))
  mark_here same =
      let P : List (OpenJournal Z) → Type 0 = λ l. HasMark mark (batches_of l) in subst P (sym next_is) (inl same)

  pub mark_past : HasMark mark (batches_of (drop (i + 1) found)) → HasMark mark (batches_of (drop i found))
  mark_past rest =
      let P : List (OpenJournal Z) → Type 0 = λ l. HasMark mark (batches_of l) in subst P (sym next_is) (inr rest)

pub place_end : {Z : Type 0} (mark : ℕ) (found : List (OpenJournal Z)) (i : ℕ) → length found ≤ i
    → IsPlaceOf mark (batches_of (drop i found)) 0
place_end {Z} mark found i h =
    let P : List (OpenJournal Z) → Type 0 = λ l. IsPlaceOf mark (batches_of l) 0 in
    subst P (sym (drop_all i found h)) refl

-- ---- a journal is put to its place

length-batches : {Z : Type 0} (found : List (OpenJournal Z)) → length (batches_of found) ≡ length found
length-batches [] = refl
length-batches (journal ∷ found) = ap suc (length-batches found)

pub place_in : {Z : Type 0} (mark : ℕ) (found : List (OpenJournal Z)) (place : ℕ)
    → IsPlaceOf mark (batches_of found) place → place ≤ length found
place_in mark found place is = omega (arith, place_within mark (batches_of found) place is, length-batches found)

pub added_at : {Z : Type 0} (opened : OpenJournal Z) (items old new : List (OpenJournal Z)) (mark place : ℕ)
    → mark ≡ opened.descriptor.mark → items ≡ old → IsPlaceOf mark (batches_of items) place
    → new ≡ insert old place opened → IsAdded (batch_found opened) (batches_of old) (batches_of new)
added_at {Z} opened items old new mark place marked same is inserted =
    let P : ℕ → Type 0 = λ m. IsPlaceOf m (batches_of items) place in
    let Q : List (OpenJournal Z) → Type 0 = λ l. IsPlaceOf opened.descriptor.mark (batches_of l) place in (
      place,
      subst Q same (subst P marked is),
      ap (λ (l : List (OpenJournal Z)). batches_of l) inserted
          ∙ map_insert (λ (journal : OpenJournal Z). batch_found journal) old place opened,
    )

-- ---- the gates

-- a byte that was read opens a gate, where it is the first of the gate's block
pub gate_read : (bytes start buffer : List ℕ) (slots n at size : ℕ) → bytes ≡ start → at ≡ 4096 * gate_block slots n
    → 0 < size
    → buffer ≡ slice_range bytes at (at + size) → ((get_or buffer 0 0 == 0xA7) ≡ true) ↔ IsOpen start slots n
gate_read bytes start buffer slots n at size same is some read =
    let part : at + size - at ≡ size = omega arith in
    let first : at + 0 ≡ 4096 * gate_block slots n = omega (arith, is) in
    let byte : get_or buffer 0 0 ≡ get_or start (4096 * gate_block slots n) 0 =
    ap (λ (l : List ℕ). get_or l 0 0) (read ∙ ap (λ k. take k (drop at bytes)) part)
    ∙ get_or-take size (drop at bytes) 0 0 some ∙ get_or-drop at bytes 0 0
    ∙ ap (λ k. get_or bytes k 0) first ∙ ap (λ (l : List ℕ). get_or l (4096 * gate_block slots n) 0) same in
    (λ e. sym byte ∙ eqb-true (get_or buffer 0 0) 0xA7 e, λ o. eq-eqb (get_or buffer 0 0) 0xA7 (byte ∙ o))

-- one gate more
pub gate_more : (gates : List Bool) (n : ℕ) (is_open : Bool) (P : ℕ → Type 0) → n < length gates
    → ((is_open ≡ true) ↔ P n)
    → ((j : ℕ) → j < n → ((get_or gates j false ≡ true) ↔ P j))
    → (j : ℕ) → j < n + 1 → ((get_or (set gates n is_open) j false ≡ true) ↔ P j)
gate_more gates n is_open P there here before j lt = elim (cases_eq j n) [
  | inl same ↦
      let at = ap (λ k. get_or (set gates n is_open) k false) same ∙ get_or-set_same gates n is_open false there in
      (λ e. subst P (sym same) (here.0 (sym at ∙ e)), λ p. at ∙ here.1 (subst P same p))
  | inr other ↦
      let at = get_or-set_other gates n j is_open false other in
      let b = before j (omega arith) in
      (λ e. b.0 (sym at ∙ e), λ p. at ∙ b.1 p)
]
