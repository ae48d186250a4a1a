-- What a read finds of a batch, while other blocks are written.
use Rattle.std.proofs.Common.{◌≡◌, ◌≢◌, ℕ, ◌+◌, ◌*◌, ◌<◌, ◌≤◌, ◌⊎◌, inl, inr, Bool, true}
use Rattle.std.proofs.Common.{false, List, [], ◌∷◌, length, get_or, refl, sym, ap, ◌∙◌, subst, arith}
use Rattle.std.specs.Prelude.{MatchBool, IsTrue, Result, Ok, Err, is_ok, ◌↔◌}
use Rattle.std.specs.Ordering.{nat_cmp}
use Rattle.std.specs.List.{Contains}
use Rattle.std.specs.List.Sorted.{IsBinarySearchResult}
use Rattle.std.proofs.lemmas.List.Sorted.{searched}
use Rattle.std.proofs.lemmas.List.{get_or_default}
use Rattle.std.proofs.lemmas.Bool.{cases_eq, cases_lt, both_ways}
use Rattle.std.specs.List.{AllByRecursion}
use Rattle.volume_codec.specs.Layout.{GeometryValue, IsHome, journals_of, gate_block}
use Rattle.volume_codec.specs.Layout.{descriptor_block, descriptor_blocks, record_block, first_home}
use Rattle.volume_codec.specs.Layout.{block_at, blocks_at}
use Rattle.volume_codec.specs.Super.{SuperValue, geometry_of}
use Rattle.volume_codec.specs.Descriptor.{RiseWithin, AreHomes, descriptor_text}
use Rattle.volume_codec.specs.Recovery.{Batch, IsOpen}
use Rattle.volume_codec.proofs.Public.{rising_at, rising_apart, length-descriptor_text}
use Rattle.journal.specs.WriteOut.{IsBatch}
use Rattle.journal.specs.inside.Tied.{Progress, is_open, applied, durable_in, IsCovered, IsWritten, AreWritten}
use Rattle.journal.proofs.Blocks.{blocks_joined}
use Rattle.journal.proofs.Changes.{SameBut}
use Rattle.journal.proofs.Places.{gates_apart, gate-below, descriptor-below, record-below, descriptors_apart}
use Rattle.journal.proofs.Places.{gate_no_descriptor, gate_no_record, descriptor_no_record, records_apart}

-- ---- a batch's home blocks and its descriptor

-- a home block of a batch is one of the volume's
pub home_at : (g : GeometryValue) (homes : List ℕ) (i : ℕ) → AreHomes g homes → i < length homes
    → IsHome g (get_or homes i 0)
home_at g homes i are lt =
    let r = rising_at (first_home g.layout g.slots) g.blocks homes i are.rising lt in
    record { low = r.0; high = r.1 }

-- where each block of a descriptor is there, all of it is
pub descriptor_there : (g : GeometryValue) (batch : Batch) (bytes : List ℕ) → IsBatch g batch
    → ((i : ℕ) → i < descriptor_blocks g.slots → block_at bytes (descriptor_block g.slots batch.journal + i)
    ≡ block_at (descriptor_text g.slots (record { mark = batch.mark; homes = batch.homes })) i)
    → blocks_at bytes (descriptor_block g.slots batch.journal) (descriptor_blocks g.slots)
    ≡ descriptor_text g.slots (record { mark = batch.mark; homes = batch.homes })
descriptor_there g batch bytes is each =
    blocks_joined bytes (descriptor_text g.slots (record { mark = batch.mark; homes = batch.homes }))
    (descriptor_block g.slots batch.journal) (descriptor_blocks g.slots)
    (length-descriptor_text g.slots batch.mark batch.homes is.described.homes.few) each

-- ---- what is written stays

module _ (v : SuperValue) (new : ℕ → List ℕ) where
  -- a block that has no part in what is found of this write-out
  pub record IsBeside (p : Progress) (x : ℕ) : Type 0 where
    pub no_gate : x ≢ gate_block v.slots p.batch.journal
    pub no_record : (i : ℕ) → i < length p.batch.homes → x ≢ record_block v.slots p.batch.journal i
    pub no_descriptor : (i : ℕ) → i < descriptor_blocks v.slots → x ≢ descriptor_block v.slots p.batch.journal + i
    pub no_home : (i : ℕ) → i < length p.batch.homes → i < applied (length p.batch.homes) p.stage
        → x ≢ get_or p.batch.homes i 0

  -- where newer batches have the same records, or more
  pub written_more : (newer newer' : List Batch) (p : Progress) (seen : List ℕ)
      → ((b : ℕ) → IsCovered newer b → IsCovered newer' b) → IsWritten v new newer p seen
      → IsWritten v new newer' p seen
  written_more newer newer' p seen more is = record {
    records = is.records;
    descriptor = is.descriptor;
    homes = λ i within lt. elim (is.homes i within lt) [
      | inl covered ↦ inl (more (get_or p.batch.homes i 0) covered)
      | inr same ↦ inr same
    ];
    gate = is.gate;
  }

  -- a block that has no part in its journal
  pub record IsPast (p : Progress) (x : ℕ) : Type 0 where
    pub no_gate : x ≢ gate_block v.slots p.batch.journal
    pub no_record : (i : ℕ) → i < length p.batch.homes → x ≢ record_block v.slots p.batch.journal i
    pub no_descriptor : (i : ℕ) → i < descriptor_blocks v.slots → x ≢ descriptor_block v.slots p.batch.journal + i

  written_by : (newer : List Batch) (p : Progress) (x : ℕ) (seen seen' : List ℕ) → IsWritten v new newer p seen
      → IsPast p x → ((i : ℕ) → i < length p.batch.homes → i < applied (length p.batch.homes) p.stage
      → IsCovered newer (get_or p.batch.homes i 0) ⊎ (x ≢ get_or p.batch.homes i 0))
      → SameBut x seen seen' → IsWritten v new newer p seen'
  written_by newer p x seen seen' is past no_home same = record {
    records = λ i within lt.
        same.blocks (record_block v.slots p.batch.journal i) (λ e. past.no_record i within (sym e))
        ∙ is.records i within lt;
    descriptor = λ i within lt.
        same.blocks (descriptor_block v.slots p.batch.journal + i) (λ e. past.no_descriptor i within (sym e))
        ∙ is.descriptor i within lt;
    homes = λ i within lt. elim (is.homes i within lt) [
      | inl covered ↦ inl covered
      | inr at ↦ elim (no_home i within lt) [
        | inl covered ↦ inl covered
        | inr other ↦ inr (same.blocks (get_or p.batch.homes i 0) (λ e. other (sym e)) ∙ at
            ∙ sym (same.blocks (record_block v.slots p.batch.journal i) (λ e. past.no_record i within (sym e))))
      ]
    ];
    gate = by (is_open p.stage) is.gate;
  }
    where
      first : get_or seen' (4096 * gate_block v.slots p.batch.journal) 0
          ≡ get_or seen (4096 * gate_block v.slots p.batch.journal) 0
      first = same.firsts (gate_block v.slots p.batch.journal) (λ e. past.no_gate (sym e))

      by : (b : Bool) → MatchBool b (IsOpen seen v.slots p.batch.journal) (IsOpen seen v.slots p.batch.journal → ⊥)
          → MatchBool b (IsOpen seen' v.slots p.batch.journal) (IsOpen seen' v.slots p.batch.journal → ⊥)
      by true opens = first ∙ opens
      by false shut = λ opens. shut (sym first ∙ opens)

  pub written_kept : (newer : List Batch) (p : Progress) (x : ℕ) (seen seen' : List ℕ) → IsWritten v new newer p seen
      → IsBeside p x → SameBut x seen seen' → IsWritten v new newer p seen'
  written_kept newer p x seen seen' is beside same = written_by newer p x seen seen' is
      (record { no_gate = beside.no_gate; no_record = beside.no_record; no_descriptor = beside.no_descriptor })
      (λ i within lt. inr (beside.no_home i within lt)) same

  -- a home block of which a newer batch has a record
  pub written_over : (newer : List Batch) (p : Progress) (x : ℕ) (seen seen' : List ℕ) → IsWritten v new newer p seen
      → IsPast p x → IsCovered newer x → SameBut x seen seen' → IsWritten v new newer p seen'
  written_over newer p x seen seen' is past covered same = written_by newer p x seen seen' is past
      (λ i within lt. elim (cases_eq x (get_or p.batch.homes i 0)) [
        | inl e ↦ inl (subst (IsCovered newer) e covered)
        | inr other ↦ inr other
      ]) same

  pub all_kept : (progress : List Progress) (x : ℕ) (seen seen' : List ℕ) → AreWritten v new seen progress
      → AllByRecursion (λ (p : Progress). IsBeside p x) progress → SameBut x seen seen'
      → AreWritten v new seen' progress
  all_kept [] x seen seen' are beside same = tt
  all_kept (p ∷ newer) x seen seen' are beside same = (
    written_kept (durable_in newer) p x seen seen' are.0 beside.0 same,
    all_kept newer x seen seen' are.1 beside.1 same,
  )

  -- ---- blocks that have no part in it

  pub beside_gate : (p : Progress) (j : ℕ) → IsBatch (geometry_of v) p.batch
      → p.batch.journal ≢ j → j < journals_of v.layout
      → IsBeside p (gate_block v.slots j)
  beside_gate p j is other lt = record {
    no_gate = gates_apart v.slots j p.batch.journal (λ e. other (sym e));
    no_record = λ i within e.
        gate_no_record v.slots j p.batch.journal i (omega (arith, within, is.described.homes.few)) e;
    no_descriptor = λ i within e. gate_no_descriptor v.slots j p.batch.journal i within e;
    no_home = λ i within some e. let h = home_at (geometry_of v) p.batch.homes i is.described.homes within in
        absurd (omega (arith, e, h.low, gate-below v.layout v.slots j lt));
  }

  pub beside_record : (p : Progress) (j i : ℕ) → IsBatch (geometry_of v) p.batch
      → p.batch.journal ≢ j → j < journals_of v.layout → i < v.slots
      → IsBeside p (record_block v.slots j i)
  beside_record p j i is other lt fits = record {
    no_gate = λ e. gate_no_record v.slots p.batch.journal j i fits (sym e);
    no_record = λ l within e. records_apart v.slots j p.batch.journal i l (λ same. other (sym same)) fits
        (omega (arith, within, is.described.homes.few)) e;
    no_descriptor = λ l within e. descriptor_no_record v.slots p.batch.journal j l i within fits (sym e);
    no_home = λ l within some e. let h = home_at (geometry_of v) p.batch.homes l is.described.homes within in
        absurd (omega (arith, e, h.low, record-below v.layout v.slots j i lt fits));
  }

  pub beside_descriptor : (p : Progress) (j i : ℕ) → IsBatch (geometry_of v) p.batch
      → p.batch.journal ≢ j → j < journals_of v.layout → i < descriptor_blocks v.slots
      → IsBeside p (descriptor_block v.slots j + i)
  beside_descriptor p j i is other lt fits = record {
    no_gate = λ e. gate_no_descriptor v.slots p.batch.journal j i fits (sym e);
    no_record = λ l within e. descriptor_no_record v.slots j p.batch.journal i l fits
        (omega (arith, within, is.described.homes.few)) e;
    no_descriptor = λ l within e.
        descriptors_apart v.slots j p.batch.journal i l (λ same. other (sym same)) fits within e;
    no_home = λ l within some e. let h = home_at (geometry_of v) p.batch.homes l is.described.homes within in
        absurd (omega (arith, e, h.low, descriptor-below v.layout v.slots j i lt fits));
  }

  -- a home block has no part in a journal
  pub past_home : (p : Progress) (x : ℕ) → IsBatch (geometry_of v) p.batch → IsHome (geometry_of v) x → IsPast p x
  past_home p x is home = record {
    no_gate = λ e. absurd (omega (arith, e, home.low, gate-below v.layout v.slots p.batch.journal is.there));
    no_record = λ l within e. absurd (omega (
      arith,
      e,
      home.low,
      record-below v.layout v.slots p.batch.journal l is.there (omega (arith, within, is.described.homes.few)),
    ));
    no_descriptor = λ l within e.
        absurd (omega (arith, e, home.low, descriptor-below v.layout v.slots p.batch.journal l is.there within));
  }

  -- nor in a write-out that wrote none of its own
  pub beside_home : (p : Progress) (x : ℕ) → IsBatch (geometry_of v) p.batch
      → IsHome (geometry_of v) x → applied (length p.batch.homes) p.stage ≡ 0
      → IsBeside p x
  beside_home p x is home none =
      let past = past_home p x is home in
      record {
        no_gate = past.no_gate;
        no_record = past.no_record;
        no_descriptor = past.no_descriptor;
        no_home = λ l within some e. absurd (omega (arith, some, none));
      }

-- ---- what a binary search finds in numbers that rise

rise_ordered : (low high : ℕ) (homes : List ℕ) → RiseWithin low high homes → (i j : ℕ) → i ≤ j → j < length homes
    → get_or homes i 0 ≤ get_or homes j 0
rise_ordered low high homes rise i j le lt = elim (cases_eq i j) [
  | inl same ↦ omega (arith, ap (λ k. get_or homes k 0) same)
  | inr other ↦ (let above = rising_apart low high homes i j rise (omega arith) lt in omega (arith, above))
]

pub searched_rising : (low high : ℕ) (homes : List ℕ) (x : ℕ) (r : Result ℕ ℕ)
    → RiseWithin low high homes → IsBinarySearchResult (λ y. nat_cmp y x) homes r
    → IsTrue (is_ok r) ↔ Contains homes x
searched_rising low high homes x (Ok i) rise is =
    let at = searched homes x (Ok i) is (rise_ordered low high homes rise) in
    (λ e. (i, at.0, get_or_default homes i x 0 at.0 ∙ at.1), λ has. refl)
searched_rising low high homes x (Err i) rise is =
    let at = searched homes x (Err i) is (rise_ordered low high homes rise) in
    (λ e. absurd (both_ways false refl e), λ has. absurd (nowhere has.0 has.1 has.2 (cases_lt has.0 i) at.1 at.2))
  where
    nowhere : (k : ℕ) → k < length homes → get_or homes k x ≡ x → (k < i) ⊎ (i ≤ k)
        → ((k : ℕ) → k < i → get_or homes k 0 < x) → ((k : ℕ) → i ≤ k → k < length homes → x < get_or homes k 0)
        → ⊥
    nowhere k lt e (inl below) under over = omega (arith, under k below, sym (get_or_default homes k x 0 lt) ∙ e)
    nowhere k lt e (inr above) under over = omega (arith, over k above lt, sym (get_or_default homes k x 0 lt) ∙ e)
