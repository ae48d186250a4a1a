-- What bytes recover to while blocks are torn, gates open and gates close.
use Rattle.std.proofs.Common.{◌≡◌, ◌≢◌, ℕ, ◌+◌, ◌*◌, ◌<◌, ◌≤◌, inl, inr, true, false, ◌==◌, List}
use Rattle.std.proofs.Common.{[], ◌∷◌, ◌++◌, length, get_or, refl, sym, ap, ◌∙◌, subst, arith}
use Rattle.std.specs.List.{AllByRecursion, Contains}
use Rattle.std.proofs.lemmas.Bool.{cases_eq, eq-eqb, both_ways, or_left, or_right, or_cases, eqb-true}
use Rattle.volume_codec.specs.Layout.{IsHome, journals_of, gate_block, descriptor_block, descriptor_blocks}
use Rattle.volume_codec.specs.Layout.{record_block, first_home, block_at, blocks_at}
use Rattle.volume_codec.specs.Super.{SuperValue, IsSuper, geometry_of, block_count}
use Rattle.volume_codec.specs.Descriptor.{IsDescriptor, descriptor_text}
use Rattle.volume_codec.specs.Recovery.{Batch, IsOpen, IsOpenBatch, IsNewer, AreFalling}
use Rattle.volume_codec.specs.Recovery.{has_journal, IsVolume, recovered_block, contents_in}
use Rattle.journal.specs.WriteOut.{IsBatch}
use Rattle.journal.specs.Recovered.{RecoversBy, IsUnread}
use Rattle.journal.proofs.Alls.{in_of, all_map, all_both, all-append, all_front, all_of}
use Rattle.journal.proofs.Blocks.{blocks_same}
use Rattle.journal.proofs.Changes.{SameBut}
use Rattle.journal.proofs.Places.{gate-below, descriptor-below, record-below, gate-above}
use Rattle.journal.proofs.Places.{descriptor-above, record-above, gates_apart, descriptors_apart}
use Rattle.journal.proofs.Places.{gate_no_descriptor, gate_no_record, descriptor_no_record, records_apart}
use Rattle.journal.proofs.RecoveredBlocks.{IsSlot, AreFew, AreHome, record_or-cases}
use Rattle.journal.proofs.RecoveredBlocks.{recovered-cases, recovered-recorded}
use Rattle.journal.proofs.RecoveredBlocks.{recovered-without_oldest, covered_of, lacks, lacking, has-below, apart_by}

-- these bytes hold a volume in which the journals of these batches are open, and perhaps others, and whose home blocks
-- have these contents by them
pub record HoldsBy (v : SuperValue) (opened : List Batch) (contents : ℕ → List ℕ) (bytes : List ℕ) : Type 0 where
  pub super_block : IsSuper v (block_at bytes 0)
  pub long : 4096 * block_count v ≤ length bytes
  pub each : AllByRecursion (IsOpenBatch (geometry_of v) bytes) opened
  pub falling : AreFalling opened
  pub contents_are : (b : ℕ) → IsHome (geometry_of v) b → contents b ≡ contents_in v.slots opened bytes b

-- a batch that is older than all of these comes last
pub falling_push : (front : List Batch) (oldest : Batch) → AreFalling front
    → AllByRecursion (λ (b : Batch). oldest.mark < b.mark) front → AreFalling (front ++ oldest ∷ [])
falling_push [] oldest falling lower = (tt, tt)
falling_push (batch ∷ []) oldest falling lower = (lower.0, (tt, tt))
falling_push (batch ∷ next ∷ front) oldest falling lower =
    (falling.0, falling_push (next ∷ front) oldest falling.1 lower.1)

falling_front : (front : List Batch) (oldest : Batch) → AreFalling (front ++ oldest ∷ []) → AreFalling front
falling_front [] oldest falling = tt
falling_front (batch ∷ []) oldest falling = (tt, tt)
falling_front (batch ∷ next ∷ front) oldest falling = (falling.0, falling_front (next ∷ front) oldest falling.1)

module _ (v : SuperValue) where
  -- what recovery reads stays the same, but for gates
  pub record StaysBy (opened : List Batch) (c new : List ℕ) : Type 0 where
    pub super_block : block_at new 0 ≡ block_at c 0
    pub same_length : length new ≡ length c
    pub descriptors : AllByRecursion
        (λ (batch : Batch). blocks_at new (descriptor_block v.slots batch.journal) (descriptor_blocks v.slots)
        ≡ blocks_at c (descriptor_block v.slots batch.journal) (descriptor_blocks v.slots))
        opened
    pub recovered : (b : ℕ) → IsHome (geometry_of v) b
        → block_at new (recovered_block v.slots opened b) ≡ block_at c (recovered_block v.slots opened b)

  pub holds_kept : (opened : List Batch) (contents : ℕ → List ℕ) (c new : List ℕ)
      → HoldsBy v opened contents c → StaysBy opened c new
      → AllByRecursion (λ (batch : Batch). IsOpen new v.slots batch.journal) opened
      → HoldsBy v opened contents new
  holds_kept opened contents c new h a opens = record {
    super_block = subst (IsSuper v) (sym a.super_block) h.super_block;
    long = subst (λ n. 4096 * block_count v ≤ n) (sym a.same_length) h.long;
    each = all_both (λ (batch : Batch) both same. let r : IsOpenBatch (geometry_of v) new batch = record {
      there = both.0.there;
      gate = both.1;
      descriptor = subst (IsDescriptor (geometry_of v) (record { mark = batch.mark; homes = batch.homes }))
          (sym same) both.0.descriptor;
    } in r) opened (all_both (λ (batch : Batch) is opens.
        let r : IsOpenBatch (geometry_of v) c batch × IsOpen new v.slots batch.journal = (is, opens) in
        r) opened h.each opens) a.descriptors;
    falling = h.falling;
    contents_are = λ b home. h.contents_are b home ∙ sym (a.recovered b home);
  }

  pub holds_of : (opened : List Batch) (contents : ℕ → List ℕ) (c : List ℕ) → RecoversBy v opened contents c
      → HoldsBy v opened contents c
  holds_of opened contents c r = record {
    super_block = r.volume.super_block;
    long = r.volume.long;
    each = r.volume.journals.each;
    falling = r.volume.journals.falling;
    contents_are = r.contents_are;
  }

  -- where no other journal is open
  pub holds_recovers : (opened : List Batch) (contents : ℕ → List ℕ) (c : List ℕ) → HoldsBy v opened contents c
      → ((j : ℕ) → j < journals_of v.layout → IsOpen c v.slots j → has_journal opened j ≡ true)
      → RecoversBy v opened contents c
  holds_recovers opened contents c h all = record {
    volume = record {
      super_block = h.super_block;
      long = h.long;
      journals = record { each = h.each; all = all; falling = h.falling };
    };
    contents_are = h.contents_are;
  }

  -- and so do the gates
  pub record Agrees (opened : List Batch) (c new : List ℕ) : Type 0 where
    pub stays : StaysBy opened c new
    pub gates : (j : ℕ) → j < journals_of v.layout
        → (IsOpen new v.slots j → IsOpen c v.slots j) × (IsOpen c v.slots j → IsOpen new v.slots j)

  pub agrees_recovers : (opened : List Batch) (contents : ℕ → List ℕ) (c new : List ℕ)
      → RecoversBy v opened contents c → Agrees opened c new
      → RecoversBy v opened contents new
  agrees_recovers opened contents c new r a =
      holds_recovers opened contents new
      (holds_kept opened contents c new (holds_of opened contents c r) a.stays
      (all_map (λ (batch : Batch) is. (a.gates batch.journal is.there).1 is.gate) opened r.volume.journals.each))
      (λ j lt is. r.volume.journals.all j lt ((a.gates j lt).0 is))

  -- ---- what a volume's batches have

  pub few_each : (opened : List Batch) (c : List ℕ) → AllByRecursion (IsOpenBatch (geometry_of v) c) opened
      → AreFew v.slots opened
  few_each opened c each = all_map (λ batch is. is.descriptor.described.homes.few) opened each

  pub few_in : (opened : List Batch) (c : List ℕ) → IsVolume v opened c → AreFew v.slots opened
  few_in opened c volume = few_each opened c volume.journals.each

  pub there_in : (opened : List Batch) (c : List ℕ) → IsVolume v opened c
      → AllByRecursion (λ (batch : Batch). batch.journal < journals_of v.layout) opened
  there_in opened c volume = all_map (λ batch is. is.there) opened volume.journals.each

  -- a closed journal has no batch
  pub lacks_shut : (opened : List Batch) (c : List ℕ) (j : ℕ) → IsVolume v opened c → (IsOpen c v.slots j → ⊥)
      → has_journal opened j ≡ false
  lacks_shut opened c j volume shut =
      lacking opened j (all_map {P = IsOpenBatch (geometry_of v) c} {Q = λ (batch : Batch). batch.journal ≢ j}
      (λ batch is e. shut (subst (IsOpen c v.slots) e is.gate)) opened volume.journals.each)

  -- a journal without a batch is closed
  pub shut_lacking : (opened : List Batch) (c : List ℕ) (j : ℕ) → IsVolume v opened c
      → j < journals_of v.layout → has_journal opened j ≡ false → IsOpen c v.slots j
      → ⊥
  shut_lacking opened c j volume lt none is = both_ways (has_journal opened j) none (volume.journals.all j lt is)

  -- a descriptor of which no block is written
  descriptor_same : (j x : ℕ) (c new : List ℕ)
      → ((i : ℕ) → i < descriptor_blocks v.slots → x ≢ descriptor_block v.slots j + i) → SameBut x c new
      → blocks_at new (descriptor_block v.slots j) (descriptor_blocks v.slots)
      ≡ blocks_at c (descriptor_block v.slots j) (descriptor_blocks v.slots)
  descriptor_same j x c new apart same =
      blocks_same new c (descriptor_block v.slots j) (descriptor_block v.slots j) (descriptor_blocks v.slots)
      (λ i lt. same.blocks (descriptor_block v.slots j + i) (λ e. apart i lt (sym e)))

  -- ---- blocks that recovery doesn't read

  pub unread_agrees : (opened : List Batch) (c new : List ℕ) (x : ℕ) → IsUnread v opened x → SameBut x c new
      → Agrees opened c new
  unread_agrees opened c new x unread same = record {
    stays = record {
      super_block = same.blocks 0 (λ e. unread.not_super (sym e));
      same_length = same.same_length;
      descriptors = all_map {P = λ (batch : Batch). (i : ℕ) → i < descriptor_blocks v.slots
          → x ≢ descriptor_block v.slots batch.journal + i}
          (λ batch not. descriptor_same batch.journal x c new not same) opened unread.not_descriptor;
      recovered = λ b home. same.blocks (recovered_block v.slots opened b) (λ e. unread.not_recovered b home (sym e));
    };
    gates = λ j lt.
        let e = same.firsts (gate_block v.slots j) (λ e. unread.not_gate j lt (sym e)) in
        (λ is. sym e ∙ is, λ is. e ∙ is);
  }

  -- a block below all homes, which is no record slot of the batches, stands for no home block
  not_recovered : (opened : List Batch) (x : ℕ) → AreFew v.slots opened → x < first_home v.layout v.slots
      → ((k i : ℕ) → has_journal opened k ≡ true → i < v.slots → x ≢ record_block v.slots k i)
      → (b : ℕ) → IsHome (geometry_of v) b
      → x ≢ recovered_block v.slots opened b
  not_recovered opened x few low no_slot b home e =
      elim (recovered-cases v.slots opened b few) [
        | inl is ↦ no_slot is.journal is.slot is.has is.within (e ∙ is.at)
        | inr same ↦ absurd (omega (arith, e, same, home.low))
      ]

  pub unread_record : (opened : List Batch) (c : List ℕ) (j i : ℕ) → IsVolume v opened c
      → j < journals_of v.layout → i < v.slots → has_journal opened j ≡ false
      → IsUnread v opened (record_block v.slots j i)
  unread_record opened c j i volume lt within none = record {
    not_super = record-above v.slots j i;
    not_gate = λ k there e. gate_no_record v.slots k j i within (sym e);
    not_descriptor =
        all_of _ opened (λ (batch : Batch) l lt e. descriptor_no_record v.slots batch.journal j l i lt within (sym e));
    not_recovered = not_recovered opened (record_block v.slots j i) (few_in opened c volume)
        (record-below v.layout v.slots j i lt within)
        (λ k l has fits e.
        records_apart v.slots j k i l (λ same. apart_by opened j k none has (sym same)) within fits e);
  }

  pub unread_descriptor : (opened : List Batch) (c : List ℕ) (j i : ℕ)
      → IsVolume v opened c → j < journals_of v.layout → i < descriptor_blocks v.slots → has_journal opened j ≡ false
      → IsUnread v opened (descriptor_block v.slots j + i)
  unread_descriptor opened c j i volume lt within none = record {
    not_super = descriptor-above v.slots j i;
    not_gate = λ k there e. gate_no_descriptor v.slots k j i within (sym e);
    not_descriptor = all_map {P = λ (batch : Batch). batch.journal ≢ j}
        {Q = λ (batch : Batch). (l : ℕ) → l < descriptor_blocks v.slots
        → descriptor_block v.slots j + i ≢ descriptor_block v.slots batch.journal + l}
        (λ batch not l fits e. descriptors_apart v.slots j batch.journal i l (λ same. not (sym same)) within fits e)
        opened (lacks opened j none);
    not_recovered = not_recovered opened (descriptor_block v.slots j + i) (few_in opened c volume)
        (descriptor-below v.layout v.slots j i lt within)
        (λ k l has fits e. descriptor_no_record v.slots j k i l within fits e);
  }

  -- a home block that has a record
  pub unread_home : (opened : List Batch) (c : List ℕ) (batch : Batch) (x : ℕ) → IsVolume v opened c
      → Contains opened batch → Contains batch.homes x → IsHome (geometry_of v) x
      → IsUnread v opened x
  unread_home opened c batch x volume there recorded home = record {
    not_super = λ e. absurd (omega (arith, home.low, e));
    not_gate = λ k lt e. absurd (omega (arith, home.low, e, gate-below v.layout v.slots k lt));
    not_descriptor = all_map {P = λ (b : Batch). b.journal < journals_of v.layout}
        {Q = λ (b : Batch). (l : ℕ) → l < descriptor_blocks v.slots → x ≢ descriptor_block v.slots b.journal + l}
        (λ b lt l fits e. absurd (omega (arith, home.low, e, descriptor-below v.layout v.slots b.journal l lt fits)))
        opened (there_in opened c volume);
    not_recovered = λ b is e. elim (cases_eq b x) [
      | inl same ↦ no_slot (subst (λ n. IsSlot v.slots opened (recovered_block v.slots opened n)) same
          (recovered-recorded v.slots opened b (few_in opened c volume)
          (covered_of opened batch b (in_of opened batch there) (subst (Contains batch.homes) (sym same) recorded))))
          (e ∙ ap (recovered_block v.slots opened) same)
      | inr other ↦ elim (recovered-cases v.slots opened b (few_in opened c volume)) [
        | inl slot ↦ far slot e
        | inr same ↦ other (sym (e ∙ same))
      ]
    ];
  }
    where
      far : {y : ℕ} → IsSlot v.slots opened y → x ≢ y
      far slot e = absurd (omega (
        arith,
        home.low,
        e,
        slot.at,
        record-below v.layout v.slots slot.journal slot.slot
            (has-below (journals_of v.layout) opened slot.journal (there_in opened c volume) slot.has) slot.within,
      ))

      no_slot : IsSlot v.slots opened (recovered_block v.slots opened x) → x ≢ recovered_block v.slots opened x
      no_slot slot e = far slot e

  -- ---- gates

  -- the block of a gate changes
  gate_written : (opened : List Batch) (c new : List ℕ) (j : ℕ) → AreFew v.slots opened
      → j < journals_of v.layout → SameBut (gate_block v.slots j) c new → StaysBy opened c new
  gate_written opened c new j few lt same = record {
    super_block = same.blocks 0 (λ e. gate-above v.slots j (sym e));
    same_length = same.same_length;
    descriptors = all_of _ opened (λ (batch : Batch). descriptor_same batch.journal (gate_block v.slots j) c new
        (λ i lt. gate_no_descriptor v.slots j batch.journal i lt) same);
    recovered = λ b home. same.blocks (recovered_block v.slots opened b)
        (λ e. not_recovered opened (gate_block v.slots j) few (gate-below v.layout v.slots j lt)
        (λ k l has fits at. gate_no_record v.slots j k l fits at) b home (sym e));
  }

  -- a gate keeps its state, whatever its block has
  pub gate_agrees : (opened : List Batch) (c new : List ℕ) (j : ℕ) → IsVolume v opened c
      → j < journals_of v.layout → SameBut (gate_block v.slots j) c new
      → (IsOpen new v.slots j → IsOpen c v.slots j) → (IsOpen c v.slots j → IsOpen new v.slots j)
      → Agrees opened c new
  gate_agrees opened c new j volume lt same was stays = record {
    stays = gate_written opened c new j (few_in opened c volume) lt same;
    gates = λ k there. elim (cases_eq k j) [
      | inl is ↦ subst (λ n. (IsOpen new v.slots n → IsOpen c v.slots n) × (IsOpen c v.slots n → IsOpen new v.slots n))
          (sym is) (was, stays)
      | inr other ↦ (let e = same.firsts (gate_block v.slots k) (gates_apart v.slots k j other) in
          (λ is. sym e ∙ is, λ is. e ∙ is))
    ];
  }

  -- ---- batches that come and go

  -- a newer batch, whose records and descriptor are there
  pub holds_newest : (opened : List Batch) (old new : ℕ → List ℕ) (batch : Batch) (c : List ℕ)
      → HoldsBy v opened old c → IsBatch (geometry_of v) batch → IsNewer batch opened → IsOpen c v.slots batch.journal
      → blocks_at c (descriptor_block v.slots batch.journal) (descriptor_blocks v.slots)
      ≡ descriptor_text v.slots (record { mark = batch.mark; homes = batch.homes })
      → ((i : ℕ) → i < length batch.homes
      → block_at c (record_block v.slots batch.journal i) ≡ new (get_or batch.homes i 0))
      → ((b : ℕ) → (Contains batch.homes b → ⊥) → new b ≡ old b)
      → HoldsBy v (batch ∷ opened) new c
  holds_newest opened old new batch c h is_batch newer opens descriptor records outside = record {
    super_block = h.super_block;
    long = h.long;
    each = (
      record {
        there = is_batch.there;
        gate = opens;
        descriptor = record { described = is_batch.described; spelled = descriptor };
      },
      h.each,
    );
    falling = (newer, h.falling);
    contents_are = λ b home.
        elim (record_or-cases (recovered_block v.slots opened b) (record_block v.slots batch.journal 0) batch.homes b) [
          | inl at ↦
              (let place : record_block v.slots batch.journal 0 + at.0 ≡ record_block v.slots batch.journal at.0 =
              omega arith in
              sym (ap (block_at c) (at.3 ∙ place) ∙ records at.0 at.1 ∙ ap new at.2))
          | inr none ↦ outside b none.0 ∙ h.contents_are b home ∙ sym (ap (block_at c) none.1)
        ];
  }

  -- an older one, whose home blocks are written
  pub holds_oldest : (front : List Batch) (oldest : Batch) (contents : ℕ → List ℕ) (c : List ℕ)
      → HoldsBy v front contents c → IsOpenBatch (geometry_of v) c oldest
      → AllByRecursion (λ (b : Batch). oldest.mark < b.mark) front → AreHome v.slots front oldest c
      → HoldsBy v (front ++ oldest ∷ []) contents c
  holds_oldest front oldest contents c h is lower are = record {
    super_block = h.super_block;
    long = h.long;
    each = all-append (IsOpenBatch (geometry_of v) c) front (oldest ∷ []) h.each (is, tt);
    falling = falling_push front oldest h.falling lower;
    contents_are = λ b home. h.contents_are b home ∙ sym (recovered-without_oldest v.slots front oldest c are b);
  }

  pub holds_without : (front : List Batch) (oldest : Batch) (contents : ℕ → List ℕ) (c : List ℕ)
      → HoldsBy v (front ++ oldest ∷ []) contents c → AreHome v.slots front oldest c
      → HoldsBy v front contents c
  holds_without front oldest contents c h are = record {
    super_block = h.super_block;
    long = h.long;
    each = all_front (IsOpenBatch (geometry_of v) c) front (oldest ∷ []) h.each;
    falling = falling_front front oldest h.falling;
    contents_are = λ b home. h.contents_are b home ∙ recovered-without_oldest v.slots front oldest c are b;
  }

  -- ---- a gate whose journal none of these batches has

  gate_stays : (opened : List Batch) (contents : ℕ → List ℕ) (j : ℕ) (c new : List ℕ) → HoldsBy v opened contents c
      → j < journals_of v.layout → has_journal opened j ≡ false → SameBut (gate_block v.slots j) c new
      → HoldsBy v opened contents new
  gate_stays opened contents j c new h lt none same =
      holds_kept opened contents c new h (gate_written opened c new j (few_each opened c h.each) lt same)
      (all_both {P = IsOpenBatch (geometry_of v) c} {Q = λ (other : Batch). other.journal ≢ j}
      {R = λ (other : Batch). IsOpen new v.slots other.journal} (λ other is apart.
      same.firsts (gate_block v.slots other.journal) (gates_apart v.slots other.journal j apart) ∙ is.gate)
      opened h.each (lacks opened j none))

  other_gate : (j k : ℕ) (c new : List ℕ) → k ≢ j → SameBut (gate_block v.slots j) c new → IsOpen new v.slots k
      → IsOpen c v.slots k
  other_gate j k c new other same is = sym (same.firsts (gate_block v.slots k) (gates_apart v.slots k j other)) ∙ is

  -- a gate opens over records and a descriptor that are there
  pub gate_opens : (opened : List Batch) (old new : ℕ → List ℕ) (batch : Batch) (c c' : List ℕ)
      → RecoversBy v opened old c → IsBatch (geometry_of v) batch
      → IsNewer batch opened → has_journal opened batch.journal ≡ false
      → blocks_at c (descriptor_block v.slots batch.journal) (descriptor_blocks v.slots)
      ≡ descriptor_text v.slots (record { mark = batch.mark; homes = batch.homes })
      → ((i : ℕ) → i < length batch.homes
      → block_at c (record_block v.slots batch.journal i) ≡ new (get_or batch.homes i 0))
      → ((b : ℕ) → (Contains batch.homes b → ⊥) → new b ≡ old b)
      → SameBut (gate_block v.slots batch.journal) c c' → IsOpen c' v.slots batch.journal
      → RecoversBy v (batch ∷ opened) new c'
  gate_opens opened old new batch c c' r is_batch newer none descriptor records outside same is_open =
      holds_recovers (batch ∷ opened) new c'
      (holds_newest opened old new batch c'
      (gate_stays opened old batch.journal c c' (holds_of opened old c r) is_batch.there none same)
      is_batch newer is_open
      (descriptor_same batch.journal (gate_block v.slots batch.journal) c c'
      (λ i lt. gate_no_descriptor v.slots batch.journal batch.journal i lt) same ∙ descriptor)
      (λ i lt. same.blocks (record_block v.slots batch.journal i) (λ e.
      gate_no_record v.slots batch.journal batch.journal i (omega (arith, lt, is_batch.described.homes.few)) (sym e))
      ∙ records i lt)
      outside)
      (λ j lt is. elim (cases_eq j batch.journal) [
        | inl here ↦ or_left (batch.journal == j) (has_journal opened j) (eq-eqb batch.journal j (sym here))
        | inr other ↦ or_right (batch.journal == j) (has_journal opened j)
            (r.volume.journals.all j lt (other_gate batch.journal j c c' other same is))
      ])

  pub has_front : (front : List Batch) (oldest : Batch) (j : ℕ)
      → oldest.journal ≢ j → has_journal (front ++ oldest ∷ []) j ≡ true
      → has_journal front j ≡ true
  has_front [] oldest j other has = absurd (elim (or_cases (oldest.journal == j) false has) [
    | inl e ↦ other (eqb-true oldest.journal j e)
    | inr e ↦ both_ways false refl e
  ])
  has_front (batch ∷ front) oldest j other has =
      elim (or_cases (batch.journal == j) (has_journal (front ++ oldest ∷ []) j) has) [
        | inl here ↦ or_left (batch.journal == j) (has_journal front j) here
        | inr later ↦ or_right (batch.journal == j) (has_journal front j) (has_front front oldest j other later)
      ]

  -- the gate of the oldest batch closes: each of its blocks is at home, or has a record in a newer batch
  pub gate_closes : (front : List Batch) (oldest : Batch) (contents : ℕ → List ℕ) (c c' : List ℕ)
      → RecoversBy v (front ++ oldest ∷ []) contents c
      → oldest.journal < journals_of v.layout → has_journal front oldest.journal ≡ false
      → AreHome v.slots front oldest c
      → SameBut (gate_block v.slots oldest.journal) c c' → (IsOpen c' v.slots oldest.journal → ⊥)
      → RecoversBy v front contents c'
  gate_closes front oldest contents c c' r lt none home same shut =
      holds_recovers front contents c'
      (gate_stays front contents oldest.journal c c' (holds_without front oldest contents c
      (holds_of (front ++ oldest ∷ []) contents c r) home) lt none same)
      (λ j there is. elim (cases_eq j oldest.journal) [
        | inl here ↦ absurd (shut (subst (IsOpen c' v.slots) here is))
        | inr other ↦ has_front front oldest j (λ e. other (sym e))
            (r.volume.journals.all j there (other_gate oldest.journal j c c' other same is))
      ])
