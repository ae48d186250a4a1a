-- The block that has the lengths, where journals are open.
use Rattle.std.proofs.Common.{◌≡◌, ◌≢◌, ◌<◌, ◌≤◌, ◌⊎◌, inl, inr, ℕ, suc, ◌+◌, ◌*◌, List, [], ◌∷◌}
use Rattle.std.proofs.Common.{length, drop, get_or, sym, ◌∙◌, ap, subst, arith}
use Rattle.std.specs.Prelude.{Result, Ok, Err, MatchResult}
use Rattle.std.specs.Ordering.{nat_cmp}
use Rattle.std.specs.List.Sorted.{IsBinarySearchResult}
use Rattle.std.proofs.lemmas.List.Sorted.{searched}
use Rattle.std.proofs.lemmas.Bool.{cases_eq, cases_lt}
use Rattle.std.proofs.lemmas.List.{drop_more, drop_all}
use Rattle.std.proofs.lemmas.List.Sums.{sum_by-cons}
use Rattle.std.specs.List.{AllByRecursion}
use Rattle.page_entry.specs.declared.refusal.Refusal.{Refusal}
use Rattle.page_entry.specs.declared.refusal.Refusal.TheVariants.{Device, OutOfMemory, Damaged}
use Rattle.volume_codec.specs.Layout.{GeometryValue, lengths_blocks, first_home, record_block, block_at}
use Rattle.volume_codec.specs.Super.{SuperValue, Fits, capacities_in}
use Rattle.volume_codec.specs.Descriptor.{RiseWithin}
use Rattle.volume_codec.specs.Lengths.{IsLengths, HasLengths, lengths_in}
use Rattle.volume_codec.specs.Recovery.{Batch, IsVolume, recovered_block, contents_in}
use Rattle.volume_codec.proofs.Batches.{one_contents}
use Rattle.volume_codec.proofs.Lengths.{fixed_lengths, fixed_has_lengths, said_lengths}
use Rattle.volume_codec.proofs.Lengths.{lengths_block-home, reads_lengths, has_lengths-same}
use Rattle.volume_codec.proofs.Public.{rising_apart}
use Rattle.volume_codec.proofs.Recovered.{recovered_block-at, recovered_block-other}
use Rattle.journal.specs.WriteOut.{IsBatch}
use Rattle.recovery.specs.declared.opening.OpenJournal.{OpenJournal}
use Rattle.recovery.specs.Counts.{Rises, RisesWithin}
use Rattle.recovery.specs.Opening.{FindsWithin, RefusesOpening}
use Rattle.recovery.specs.inside.Reading.{batch_of, batches_of, carrying_all, AreFound, JudgesWithin, RefusesStored}
use Rattle.recovery.proofs.Judged.{magic_at}
use Rattle.recovery.proofs.Reopened.{own_contents}

-- the next of the open journals
next_is : {Z : Type 0} (found : List (OpenJournal Z)) (i : ℕ) (e : OpenJournal Z) → i < length found
    → e ≡ get_or found i e → drop i found ≡ e ∷ drop (i + 1) found
next_is {Z} found i e h is = drop_more found i e h ∙ ap (λ (x : OpenJournal Z). x ∷ drop (i + 1) found) (sym is)

pub batch_next : {Z : Type 0} (g : GeometryValue) (found : List (OpenJournal Z)) (i : ℕ) (e : OpenJournal Z)
    → i < length found → e ≡ get_or found i e → AllByRecursion (IsBatch g) (batches_of (drop i found))
    → IsBatch g (batch_of e) × AllByRecursion (IsBatch g) (batches_of (drop (i + 1) found))
batch_next {Z} g found i e h is each =
    let P : List (OpenJournal Z) → Type 0 = λ l. AllByRecursion (IsBatch g) (batches_of l) in
    let next = subst P (next_is found i e h is) each in
    (next.0, next.1)

-- where the next of the open journals comes first
pub recovered_next : {Z : Type 0} (g : GeometryValue) (found : List (OpenJournal Z)) (i : ℕ) (e : OpenJournal Z)
    → i < length found → e ≡ get_or found i e → (b : ℕ)
    → recovered_block g.slots (batches_of (drop i found)) b
    ≡ recovered_block g.slots (batch_of e ∷ batches_of (drop (i + 1) found)) b
recovered_next {Z} g found i e h is b =
    ap (λ (l : List (OpenJournal Z)). recovered_block g.slots (batches_of l) b) (next_is found i e h is)

-- where none is left, a home block is where it belongs
pub recovered_none : {Z : Type 0} (g : GeometryValue) (found : List (OpenJournal Z)) (i b : ℕ) → length found ≤ i
    → b ≡ recovered_block g.slots (batches_of (drop i found)) b
recovered_none {Z} g found i b h =
    sym (ap (λ (l : List (OpenJournal Z)). recovered_block g.slots (batches_of l) b) (drop_all i found h))

-- numbers of which those before a place are below b, and the others above it
none_of : (homes : List ℕ) (b : ℕ) → ((k : ℕ) → k < length homes → get_or homes k 0 ≢ b)
    → AllByRecursion (λ home. home ≢ b) homes
none_of [] b apart = tt
none_of (n ∷ ns) b apart = (apart 0 (omega arith), none_of ns b (λ k h. apart (suc k) (omega arith)))

rise_ordered : (low high : ℕ) (homes : List ℕ) → RiseWithin low high homes → (i j : ℕ) → i ≤ j → j < length homes
    → get_or homes i 0 ≤ get_or homes j 0
rise_ordered low high homes rise i j le lt = elim (cases_eq i j) [
  | inl same ↦ omega (arith, ap (λ k. get_or homes k 0) same)
  | inr other ↦ (let above = rising_apart low high homes i j rise (omega arith) lt in omega (arith, above))
]

-- what a binary search finds of a home block in a batch
pub record_found : (g : GeometryValue) (batch : Batch) (b : ℕ) (r : Result ℕ ℕ) → IsBatch g batch
    → IsBinarySearchResult (λ y. nat_cmp y b) batch.homes r → (older : List Batch)
    → MatchResult r (λ i. recovered_block g.slots (batch ∷ older) b ≡ record_block g.slots batch.journal i)
    (λ i. recovered_block g.slots (batch ∷ older) b ≡ recovered_block g.slots older b)
record_found g batch b (Ok i) is found older =
    let rise = is.described.homes.rising in
    let at = searched batch.homes b (Ok i) found (rise_ordered _ _ batch.homes rise) in
    ap (recovered_block g.slots (batch ∷ older)) (sym at.1)
    ∙ recovered_block-at g.slots (first_home g.layout g.slots) g.blocks batch older i rise at.0
record_found g batch b (Err i) is found older =
    let at = searched batch.homes b (Err i) found (rise_ordered _ _ batch.homes is.described.homes.rising) in
    recovered_block-other g.slots b batch older (none_of batch.homes b (λ k h. apart k h (cases_lt k i) at.1 at.2))
  where
    apart : (k : ℕ) → k < length batch.homes → (k < i) ⊎ (i ≤ k)
        → ((k : ℕ) → k < i → get_or batch.homes k 0 < b)
        → ((k : ℕ) → i ≤ k → k < length batch.homes → b < get_or batch.homes k 0) → get_or batch.homes k 0 ≢ b
    apart k h (inl below) under over = λ same. omega (arith, under k below, same)
    apart k h (inr above) under over = λ same. omega (arith, over k above h, same)

-- without a block for lengths the capacities are found
pub found_fixed : (table : SuperValue) (batches : List Batch) (bytes lengths : List ℕ) → lengths_blocks table.layout ≡ 0
    → lengths ≡ capacities_in table → AreFound table batches bytes lengths
found_fixed table batches bytes lengths none are =
    let contents = contents_in table.slots batches bytes in
    record { fit = fixed_has_lengths table contents none; are = are ∙ sym (fixed_lengths table contents none) }

-- with one they are what it says
pub found_said : (table : SuperValue) (batches : List Batch) (bytes lengths : List ℕ) (at : ℕ) → Fits table
    → 0 < lengths_blocks table.layout → at ≡ recovered_block table.slots batches (first_home table.layout table.slots)
    → IsLengths table lengths (block_at bytes at) → AreFound table batches bytes lengths
found_said table batches bytes lengths at fits some is says =
    let contents = contents_in table.slots batches bytes in
    let here : block_at bytes at ≡ contents (first_home table.layout table.slots) = ap (block_at bytes) is in
    let P : List ℕ → Type 0 = λ block. IsLengths table lengths block in
    let said = subst P here says in
    let are : lengths ≡ lengths_in table contents =
    sym (reads_lengths table lengths _ fits said) ∙ sym (said_lengths table contents some) in
    let Q : List ℕ → Type 0 = λ l. IsLengths table l (contents (first_home table.layout table.slots)) in
    let own = subst Q are said in
    record { fit = record { are = own.are; spelled = λ more. own.spelled }; are = are }

-- a block that says none is damaged
pub refuses_stored : (table : SuperValue) (batches : List Batch) (bytes : List ℕ) (at : ℕ) (e : Refusal)
    → 4096 ≤ length bytes → 0 < lengths_blocks table.layout
    → at ≡ recovered_block table.slots batches (first_home table.layout table.slots) → IsVolume table batches bytes
    → RefusesStored table (block_at bytes at) e → RefusesOpening bytes e
refuses_stored table batches bytes at Damaged long some is volume refuses = record {
  long = long;
  layout = table.layout;
  magic = magic_at table bytes volume.super_block;
  lost = λ files r.
      let contents = contents_in table.slots batches bytes in
      let one = one_contents table r.table contents r.contents bytes
      (own_contents table batches bytes volume) r.recovers in
      let P : SuperValue → Type 0 = λ v. HasLengths v r.contents in
      let has = has_lengths-same table r.contents contents (λ more. sym (one.1 (first_home table.layout table.slots)
      (lengths_block-home table more))) (subst P (sym one.0) r.lengths) in
      refuses (lengths_in table contents)
      (record { are = has.are; spelled = ap (block_at bytes) is ∙ has.spelled some });
}
refuses_stored table batches bytes at OutOfMemory long some is volume refuses = tt
refuses_stored table batches bytes at Device long some is volume refuses = tt
refuses_stored table batches bytes at _ long some is volume refuses = absurd refuses

-- the open journals are found within two calls for each, after block 0 was read and synced
pub judges_within : (journals same old first second new : ℕ) → journals ≡ same → Rises 1 old first
    → Rises 1 first second → RisesWithin (2 * journals) second new → RisesWithin (2 + 2 * same) old new
judges_within journals same old first second new is one two more = λ small. omega (arith, small, is, one, two, more)

-- how many calls carry out the next of the open journals and those after it
pub carrying_next : {Z : Type 0} (found : List (OpenJournal Z)) (i : ℕ) (e : OpenJournal Z) → i < length found
    → e ≡ get_or found i e → carrying_all (batches_of (drop i found))
    ≡ 2 * length e.descriptor.homes + 4 + carrying_all (batches_of (drop (i + 1) found))
carrying_next {Z} found i e h is =
    ap (λ (l : List (OpenJournal Z)). carrying_all (batches_of l)) (next_is found i e h is)
    ∙ sum_by-cons (λ (batch : Batch). 2 * length batch.homes + 4) (batch_of e) (batches_of (drop (i + 1) found))

pub carrying_end : {Z : Type 0} (found : List (OpenJournal Z)) (i : ℕ) → length found ≤ i
    → carrying_all (batches_of (drop i found)) ≡ 0
carrying_end {Z} found i h = ap (λ (l : List (OpenJournal Z)). carrying_all (batches_of l)) (drop_all i found h)

-- the open journals are found within as many calls as they and the lengths
pub finds_of_judges : (bytes : List ℕ) (old new : ℕ) → JudgesWithin bytes old new → FindsWithin bytes old new
finds_of_judges bytes old new (inl one) = inl one
finds_of_judges bytes old new (inr (table, is, more)) = inr (table, is, λ small. omega (arith, small, more))

-- what holds of a list of open journals holds of an equal one
pub carried_of : {Z : Type 0} {found items : List (OpenJournal Z)} (g : GeometryValue) → found ≡ items
    → AllByRecursion (IsBatch g) (batches_of items) → AllByRecursion (IsBatch g) (batches_of found)
carried_of {Z} g same carry = let P : List (OpenJournal Z) → Type 0 = λ l. AllByRecursion (IsBatch g) (batches_of l) in
    subst P (sym same) carry

pub volume_of : {Z : Type 0} {found items : List (OpenJournal Z)} {old new : List ℕ} (table : SuperValue)
    → found ≡ items → old ≡ new → IsVolume table (batches_of items) old → IsVolume table (batches_of found) new
volume_of {Z} {found} {items} {old} {new} table same bytes is =
    let P : List (OpenJournal Z) → Type 0 = λ l. IsVolume table (batches_of l) new in
    let Q : List ℕ → Type 0 = λ b. IsVolume table (batches_of items) b in
    subst P (sym same) (subst Q bytes is)

pub found_of : {Z : Type 0} {found items : List (OpenJournal Z)} {old new lengths : List ℕ} (table : SuperValue)
    → found ≡ items → old ≡ new → AreFound table (batches_of found) old lengths
    → AreFound table (batches_of items) new lengths
found_of {Z} {found} {items} {old} {new} {lengths} table same bytes is =
    let P : List (OpenJournal Z) → Type 0 = λ l. AreFound table (batches_of l) new lengths in
    let Q : List ℕ → Type 0 = λ b. AreFound table (batches_of found) b lengths in
    subst P same (subst Q bytes is)
