-- Which blocks write-outs leave firm, and what follows for the batches whose gates are surely open.
use Rattle.std.proofs.Common.{◌≡◌, ◌≢◌, ℕ, ◌+◌, ◌*◌, ◌<◌, ◌≤◌, inl, inr, true, false, cond, ◌==◌, List}
use Rattle.std.proofs.Common.{Bool, [], ◌∷◌, ◌++◌, length, drop, get_or, refl, sym, ap, ◌∙◌, subst, arith}
use Rattle.std.specs.Prelude.{MatchBool}
use Rattle.std.specs.List.{AllByRecursion, Contains}
use Rattle.std.proofs.lemmas.Bool.{both_ways, cond_both, cond-true, or_left, or_right, eq-eqb}
use Rattle.std.proofs.lemmas.List.{get_or-take, get_or-drop, get_or_default}
use Rattle.volume_codec.specs.Layout.{IsHome, journals_of, gate_block, descriptor_block, descriptor_blocks}
use Rattle.volume_codec.specs.Layout.{record_block, first_home, block_at, blocks_at}
use Rattle.volume_codec.specs.Descriptor.{descriptor_text}
use Rattle.volume_codec.specs.Super.{SuperValue, IsSuper, geometry_of, block_count}
use Rattle.volume_codec.specs.Recovery.{Batch, IsOpen, IsOpenBatch, AreFalling, has_journal, recovered_block}
use Rattle.journal.specs.declared.stage.Stage.{Stage}
use Rattle.journal.specs.declared.stage.Stage.TheVariants.{Recording, Describing, SyncingRecords, Opening}
use Rattle.journal.specs.declared.stage.Stage.TheVariants.{Committing, Applying, SyncingHomes, Closing, Finishing}
use Rattle.journal.specs.Stage.{is_committed}
use Rattle.journal.specs.WriteOut.{IsBatch}
use Rattle.journal.specs.inside.Tied.{Progress, IsInJournal, IsFirmFor, IsLeft, is_recording}
use Rattle.journal.specs.inside.Tied.{is_switching, is_applying, is_durable, is_open, described}
use Rattle.journal.specs.inside.Tied.{durable_in, IsCovered, IsWritten, AreWritten, kept_in, IsSeen}
use Rattle.journal.proofs.Alls.{IsIn, all_map, all_each, all_in, all-append, in_left, in_right}
use Rattle.journal.proofs.Places.{gate-below, descriptor-below, record-below, gate-above}
use Rattle.journal.proofs.Places.{descriptor-above, record-above, descriptors_apart, gate_no_descriptor}
use Rattle.journal.proofs.Places.{gate_no_record, descriptor_no_record, records_apart}
use Rattle.journal.proofs.RecoveredBlocks.{IsSlot, AreFew, recovered-cases}
use Rattle.journal.proofs.RecoveredBlocks.{recovered-recorded, covered_of, lacking, has-below}
use Rattle.journal.proofs.Recovering.{HoldsBy, falling_push}
use Rattle.journal.proofs.Written.{home_at, descriptor_there}
use Rattle.journal.proofs.Tying.{false_true, IsBefore, AreOrdered, AreGoing, one_stage}

-- ---- stages

pub durable_facts : (s : Stage) → is_durable s ≡ true
    → (is_open s ≡ true) × ((d : ℕ) → described d s ≡ d) × (is_switching s ≡ false) × (is_recording s ≡ false)
    × (is_committed s ≡ true)
durable_facts (Recording i) e = false_true e
durable_facts (Describing i) e = false_true e
durable_facts SyncingRecords e = false_true e
durable_facts Opening e = false_true e
durable_facts Committing e = false_true e
durable_facts (Applying i) e = (refl, λ d. refl, refl, refl, refl)
durable_facts SyncingHomes e = (refl, λ d. refl, refl, refl, refl)
durable_facts Closing e = (refl, λ d. refl, refl, refl, refl)
durable_facts Finishing e = false_true e

pub applying_durable : (s : Stage) → is_applying s ≡ true → is_durable s ≡ true
applying_durable (Recording i) e = false_true e
applying_durable (Describing i) e = false_true e
applying_durable SyncingRecords e = false_true e
applying_durable Opening e = false_true e
applying_durable Committing e = false_true e
applying_durable (Applying i) e = refl
applying_durable SyncingHomes e = refl
applying_durable Closing e = false_true e
applying_durable Finishing e = false_true e

-- ---- batches whose gates are surely open

pub durable_all : (P : Batch → Type 0) (progress : List Progress)
    → AllByRecursion (λ (p : Progress). is_durable p.stage ≡ true → P p.batch) progress
    → AllByRecursion P (durable_in progress)
durable_all P [] all = tt
durable_all P (p ∷ newer) all =
    all-append P (durable_in newer) (cond (is_durable p.stage) (p.batch ∷ []) []) (durable_all P newer all.1)
    (cond_both (is_durable p.stage) (p.batch ∷ []) [] (AllByRecursion P) (λ e. (all.0 e, tt)) (λ e. tt))

pub durable_there : (progress : List Progress) (p : Progress) → IsIn p progress → is_durable p.stage ≡ true
    → IsIn p.batch (durable_in progress)
durable_there [] p there durable = absurd there
durable_there (q ∷ newer) p (inl is) durable =
    in_right (durable_in newer) (cond (is_durable q.stage) (q.batch ∷ []) []) p.batch
    (subst (IsIn p.batch)
    (sym (cond-true (is_durable q.stage) (q.batch ∷ []) [] (ap (λ (x : Progress). is_durable x.stage) is ∙ durable)))
    (inl (ap (λ (x : Progress). x.batch) is)))
durable_there (q ∷ newer) p (inr later) durable =
    in_left (durable_in newer) (cond (is_durable q.stage) (q.batch ∷ []) []) p.batch
    (durable_there newer p later durable)

pub durable_falling : (progress : List Progress) → AreOrdered progress → AreFalling (durable_in progress)
durable_falling [] ordered = tt
durable_falling (p ∷ newer) ordered =
    cond_both (is_durable p.stage) (p.batch ∷ []) [] (λ (l : List Batch). AreFalling (durable_in newer ++ l))
    (λ e. falling_push (durable_in newer) p.batch (durable_falling newer ordered.1)
    (durable_all (λ (b : Batch). p.batch.mark < b.mark) newer
    (all_map {P = IsBefore p} {Q = λ (q : Progress). is_durable q.stage ≡ true → p.batch.mark < q.batch.mark}
    (λ q before durable. before.marks) newer ordered.0)))
    (λ e.
    subst AreFalling (sym (Rattle.std.proofs.lemmas.List.append-nil (durable_in newer)))
    (durable_falling newer ordered.1))

pub has_in : (batches : List Batch) (batch : Batch) → IsIn batch batches → has_journal batches batch.journal ≡ true
has_in [] batch there = absurd there
has_in (x ∷ older) batch (inl is) = or_left (x.journal == batch.journal) (has_journal older batch.journal)
    (eq-eqb x.journal batch.journal (ap (λ (b : Batch). b.journal) is))
has_in (x ∷ older) batch (inr later) =
    or_right (x.journal == batch.journal) (has_journal older batch.journal) (has_in older batch later)

-- what a read finds of one of them
pub written_at : (v : SuperValue) (new : ℕ → List ℕ) (seen : List ℕ) (progress : List Progress) (p : Progress)
    → AreWritten v new seen progress → IsIn p progress → (newer : List Batch) × IsWritten v new newer p seen
written_at v new seen [] p are there = absurd there
written_at v new seen (q ∷ newer) p are (inl is) =
    (durable_in newer, subst (λ (x : Progress). IsWritten v new (durable_in newer) x seen) is are.0)
written_at v new seen (q ∷ newer) p are (inr later) = written_at v new seen newer p are.1 later

-- ---- firm blocks

-- a block's first byte
pub first_same : (c d : List ℕ) (b : ℕ) → block_at c b ≡ block_at d b → get_or c (4096 * b) 0 ≡ get_or d (4096 * b) 0
first_same c d b same = sym (first c) ∙ ap (λ (l : List ℕ). get_or l 0 0) same ∙ first d
  where
    first : (l : List ℕ) → get_or (block_at l b) 0 0 ≡ get_or l (4096 * b) 0
    first l =
        get_or-take 4096 (drop (4096 * b) l) 0 0 (omega arith)
        ∙ get_or-drop (4096 * b) l 0 0
        ∙ ap (λ k. get_or l k 0) (let e : 4096 * b + 0 ≡ 4096 * b = omega arith in e)

module _ (v : SuperValue) (progress : List Progress) (going : AreGoing (geometry_of v) progress) where
  abbrev pub IsFirm : ℕ → Type 0
  IsFirm b = AllByRecursion (λ (p : Progress). IsFirmFor v.slots p b) progress

  batch_of : (p : Progress) → IsIn p progress → IsBatch (geometry_of v) p.batch
  batch_of p there = all_in (λ (q : Progress). IsBatch (geometry_of v) q.batch) progress p going.each there

  pub home_of : (p : Progress) (b : ℕ) → IsIn p progress → Contains p.batch.homes b → IsHome (geometry_of v) b
  home_of p b there has = subst (IsHome (geometry_of v)) (sym (get_or_default p.batch.homes has.0 b 0 has.1) ∙ has.2)
      (home_at (geometry_of v) p.batch.homes has.0 (batch_of p there).described.homes has.1)

  low_firm : (x : ℕ) → x < first_home v.layout v.slots
      → ((p : Progress) → IsIn p progress → is_recording p.stage ≡ true → IsInJournal v.slots p.batch.journal x → ⊥)
      → ((p : Progress) → IsIn p progress → is_switching p.stage ≡ true → x ≢ gate_block v.slots p.batch.journal)
      → IsFirm x
  low_firm x low no_part no_gate = all_each (λ (p : Progress). IsFirmFor v.slots p x) progress (λ p there. record {
    journal = no_part p there;
    gate = no_gate p there;
    home = λ e has. let home = home_of p x there has in absurd (omega (arith, low, home.low));
  })

  pub super_firm : IsFirm 0
  super_firm = low_firm 0 (omega arith)
      (λ p there rec part. elim part [
        | inl at ↦ descriptor-above v.slots p.batch.journal at.0 (sym at.2)
        | inr at ↦ record-above v.slots p.batch.journal at.0 (sym at.2)
      ])
      (λ p there sw at. gate-above v.slots p.batch.journal (sym at))

  pub gate_firm : (j : ℕ) → j < journals_of v.layout
      → AllByRecursion (λ (q : Progress). is_switching q.stage ≡ true → q.batch.journal ≢ j) progress
      → IsFirm (gate_block v.slots j)
  gate_firm j lt others = low_firm (gate_block v.slots j) (gate-below v.layout v.slots j lt)
      (λ p there rec part. elim part [
        | inl at ↦ gate_no_descriptor v.slots j p.batch.journal at.0 at.1 at.2
        | inr at ↦ gate_no_record v.slots j p.batch.journal at.0 at.1 at.2
      ])
      (λ p there sw at. Rattle.journal.proofs.Places.gates_apart v.slots j p.batch.journal (λ e.
      all_in (λ (q : Progress). is_switching q.stage ≡ true → q.batch.journal ≢ j) progress p others there sw (sym e))
      at)

  pub descriptor_firm : (j i : ℕ) → j < journals_of v.layout → i < descriptor_blocks v.slots
      → AllByRecursion (λ (q : Progress). is_recording q.stage ≡ true → q.batch.journal ≢ j) progress
      → IsFirm (descriptor_block v.slots j + i)
  descriptor_firm j i lt within others = low_firm (descriptor_block v.slots j + i)
      (descriptor-below v.layout v.slots j i lt within)
      (λ p there rec part. let other =
      all_in (λ (q : Progress). is_recording q.stage ≡ true → q.batch.journal ≢ j) progress p others there rec in
      elim part [
        | inl at ↦ descriptors_apart v.slots j p.batch.journal i at.0 (λ e. other (sym e)) within at.1 at.2
        | inr at ↦ descriptor_no_record v.slots j p.batch.journal i at.0 within at.1 at.2
      ])
      (λ p there sw at. gate_no_descriptor v.slots p.batch.journal j i within (sym at))

  pub record_firm : (j i : ℕ) → j < journals_of v.layout → i < v.slots
      → AllByRecursion (λ (q : Progress). is_recording q.stage ≡ true → q.batch.journal ≢ j) progress
      → IsFirm (record_block v.slots j i)
  record_firm j i lt within others = low_firm (record_block v.slots j i) (record-below v.layout v.slots j i lt within)
      (λ p there rec part. let other =
      all_in (λ (q : Progress). is_recording q.stage ≡ true → q.batch.journal ≢ j) progress p others there rec in
      elim part [
        | inl at ↦ descriptor_no_record v.slots p.batch.journal j at.0 i at.1 within (sym at.2)
        | inr at ↦ records_apart v.slots j p.batch.journal i at.0 (λ e. other (sym e)) within at.1 at.2
      ])
      (λ p there sw at. gate_no_record v.slots p.batch.journal j i within (sym at))

  pub home_firm : (b : ℕ) → IsHome (geometry_of v) b
      → ((p : Progress) → IsIn p progress → is_applying p.stage ≡ true → Contains p.batch.homes b → ⊥) → IsFirm b
  home_firm b home none = all_each (λ (p : Progress). IsFirmFor v.slots p b) progress (λ p there. record {
    journal = λ rec part. low p there part;
    gate = λ sw at.
        absurd (omega (arith, home.low, at, gate-below v.layout v.slots p.batch.journal (batch_of p there).there));
    home = none p there;
  })
    where
      low : (p : Progress) → IsIn p progress → IsInJournal v.slots p.batch.journal b → ⊥
      low p there (inl at) = absurd (omega (
        arith,
        home.low,
        at.2,
        descriptor-below v.layout v.slots p.batch.journal at.0 (batch_of p there).there at.1,
      ))
      low p there (inr at) = absurd (omega (
        arith,
        home.low,
        at.2,
        record-below v.layout v.slots p.batch.journal at.0 (batch_of p there).there at.1,
      ))

  -- where a write-out isn't at such a stage, none that is has its journal
  pub not_at : (has : Stage → Bool) (p : Progress) → IsIn p progress → has p.stage ≡ false
      → AllByRecursion (λ (q : Progress). has q.stage ≡ true → q.batch.journal ≢ p.batch.journal) progress
  not_at has p there not = all_map {P = λ (q : Progress). q.batch.journal ≡ p.batch.journal → q.stage ≡ p.stage}
      {Q = λ (q : Progress). has q.stage ≡ true → q.batch.journal ≢ p.batch.journal}
      (λ q same its e. both_ways (has p.stage) not (ap has (sym (same e)) ∙ its)) progress
      (one_stage progress p going.ordered there)

  -- what stands for home blocks
  few_durable : AreFew v.slots (durable_in progress)
  few_durable = durable_all (λ (b : Batch). length b.homes ≤ v.slots) progress
      (all_map {P = λ (p : Progress). IsBatch (geometry_of v) p.batch}
      {Q = λ (p : Progress). is_durable p.stage ≡ true → length p.batch.homes ≤ v.slots}
      (λ p is durable. is.described.homes.few) progress going.each)

  there_durable : AllByRecursion (λ (b : Batch). b.journal < journals_of v.layout) (durable_in progress)
  there_durable = durable_all (λ (b : Batch). b.journal < journals_of v.layout) progress
      (all_map {P = λ (p : Progress). IsBatch (geometry_of v) p.batch}
      {Q = λ (p : Progress). is_durable p.stage ≡ true → p.batch.journal < journals_of v.layout}
      (λ p is durable. is.there) progress going.each)

  -- no record is written in the journal of a sure batch
  durable_apart : (j : ℕ) → has_journal (durable_in progress) j ≡ true
      → AllByRecursion (λ (q : Progress). is_recording q.stage ≡ true → q.batch.journal ≢ j) progress
  durable_apart j has =
      all_each (λ (q : Progress). is_recording q.stage ≡ true → q.batch.journal ≢ j) progress (λ q there rec e.
      both_ways (has_journal (durable_in progress) j)
      (lacking (durable_in progress) j (durable_all (λ (b : Batch). b.journal ≢ j) progress
      (all_map {P = λ (p : Progress). p.batch.journal ≡ q.batch.journal → p.stage ≡ q.stage}
      {Q = λ (p : Progress). is_durable p.stage ≡ true → p.batch.journal ≢ j}
      (λ p same durable is.
      both_ways (is_recording q.stage)
      (durable_facts q.stage (ap is_durable (sym (same (is ∙ sym e))) ∙ durable)).3 rec)
      progress (one_stage progress q going.ordered there)))) has)

  pub covered_durable : (p : Progress) (b : ℕ) → IsIn p progress → is_applying p.stage ≡ true → Contains p.batch.homes b
      → IsCovered (durable_in progress) b
  covered_durable p b there applying has =
      covered_of (durable_in progress) p.batch b
      (durable_there progress p there (applying_durable p.stage applying)) has

  pub recovered_firm : (b : ℕ) → IsHome (geometry_of v) b → IsFirm (recovered_block v.slots (durable_in progress) b)
  recovered_firm b home = elim (recovered-cases v.slots (durable_in progress) b few_durable) [
    | inl slot ↦ subst IsFirm (sym slot.at)
        (record_firm slot.journal slot.slot
        (has-below (journals_of v.layout) (durable_in progress) slot.journal there_durable slot.has) slot.within
        (durable_apart slot.journal slot.has))
    | inr same ↦ subst IsFirm (sym same) (home_firm b home (λ p there applying has.
        no_slot same
        (recovered-recorded v.slots (durable_in progress) b few_durable (covered_durable p b there applying has))))
  ]
    where
      no_slot : recovered_block v.slots (durable_in progress) b ≡ b
          → IsSlot v.slots (durable_in progress) (recovered_block v.slots (durable_in progress) b)
          → ⊥
      no_slot same slot = absurd (omega (
        arith,
        home.low,
        same,
        slot.at,
        record-below v.layout v.slots slot.journal slot.slot
            (has-below (journals_of v.layout) (durable_in progress) slot.journal there_durable slot.has) slot.within,
      ))

  -- ---- what a crash leaves of them

  module _ (old new : ℕ → List ℕ) (seen c : List ℕ) (s : IsSeen v progress old new seen)
      (l : IsLeft v.slots progress seen c) where
    pub gate_left : (j : ℕ) → IsFirm (gate_block v.slots j) → IsOpen c v.slots j → IsOpen seen v.slots j
    gate_left j firm is = sym (first_same c seen (gate_block v.slots j) (l.firm (gate_block v.slots j) firm)) ∙ is

    pub gate_kept : (j : ℕ) → IsFirm (gate_block v.slots j) → IsOpen seen v.slots j → IsOpen c v.slots j
    gate_kept j firm is = first_same c seen (gate_block v.slots j) (l.firm (gate_block v.slots j) firm) ∙ is

    -- a descriptor that was written before the last sync
    pub descriptor_left : (p : Progress) → IsIn p progress → is_recording p.stage ≡ false
        → described (descriptor_blocks v.slots) p.stage ≡ descriptor_blocks v.slots
        → blocks_at c (descriptor_block v.slots p.batch.journal) (descriptor_blocks v.slots)
        ≡ descriptor_text v.slots (record { mark = p.batch.mark; homes = p.batch.homes })
    descriptor_left p there not all =
        let w = (written_at v new seen progress p s.written there).1 in
        let is_batch = batch_of p there in
        descriptor_there (geometry_of v) p.batch c is_batch (λ i lt.
        l.firm (descriptor_block v.slots p.batch.journal + i)
        (descriptor_firm p.batch.journal i is_batch.there lt (not_at is_recording p there not))
        ∙ w.descriptor i lt (omega (arith, lt, all)))

    pub durable_open : (p : Progress) → IsIn p progress → is_durable p.stage ≡ true
        → IsOpenBatch (geometry_of v) c p.batch
    durable_open p there durable =
        let w = (written_at v new seen progress p s.written there).1 in
        let facts = durable_facts p.stage durable in
        let is_batch = batch_of p there in
        record {
          there = is_batch.there;
          gate = gate_kept p.batch.journal
              (gate_firm p.batch.journal is_batch.there (not_at is_switching p there facts.2))
              (subst (λ b. MatchBool b (IsOpen seen v.slots p.batch.journal) (IsOpen seen v.slots p.batch.journal → ⊥))
              facts.0 w.gate);
          descriptor = record {
            described = is_batch.described;
            spelled = descriptor_left p there facts.3 (facts.1 (descriptor_blocks v.slots));
          };
        }

    pub holds_left : HoldsBy v (durable_in progress) (kept_in progress old new) c
    holds_left = record {
      super_block = subst (IsSuper v) (sym (l.firm 0 super_firm)) s.super_block;
      long = subst (λ n. 4096 * block_count v ≤ n) (sym l.same_length) s.long;
      each = durable_all (IsOpenBatch (geometry_of v) c) progress
          (all_each (λ (p : Progress). is_durable p.stage ≡ true → IsOpenBatch (geometry_of v) c p.batch)
          progress durable_open);
      falling = durable_falling progress going.ordered;
      contents_are = λ b home.
          s.contents b home ∙ sym (l.firm (recovered_block v.slots (durable_in progress) b) (recovered_firm b home));
    }
