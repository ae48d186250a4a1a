-- A step of a write-out among others, whose device calls succeed: what a read finds after it, and what a crash leaves.
use Rattle.std.proofs.Common.{◌≡◌, ◌≢◌, ℕ, ◌+◌, ◌*◌, ◌<◌, ◌≤◌, ◌⊎◌, inl, inr, Bool, true, false}
use Rattle.std.proofs.Common.{not, ◌||◌, cond, ◌==◌, List, [], ◌∷◌, ◌++◌, length, get_or, Option}
use Rattle.std.proofs.Common.{Some, None, refl, sym, ap, ◌∙◌, subst, arith, append_assoc}
use Rattle.std.specs.Prelude.{MatchBool}
use Rattle.std.specs.List.{AllByRecursion, Contains}
use Rattle.std.proofs.lemmas.Bool.{both_ways, cases_eq, cases_order, cases_Bool, cond_both}
use Rattle.std.proofs.lemmas.Bool.{eqb-true, or_from, or_parts, not_from_true, not_from_false}
use Rattle.std.proofs.lemmas.List.{append-nil}
use Rattle.std.proofs.lemmas.List.Elements.{Contains-get_or}
use Rattle.device.specs.Device.{written, Torn}
use Rattle.volume_codec.specs.Layout.{GeometryValue, IsHome, journals_of, gate_block}
use Rattle.volume_codec.specs.Layout.{descriptor_block, descriptor_blocks, record_block, first_home, block_at}
use Rattle.volume_codec.specs.Super.{SuperValue, IsSuper, geometry_of, block_count}
use Rattle.volume_codec.specs.Descriptor.{descriptor_text}
use Rattle.volume_codec.specs.Recovery.{Batch, IsOpen, Recovers, contents_in}
use Rattle.volume_codec.proofs.Public.{rising_apart, length-descriptor_text}
use Rattle.journal.specs.declared.stage.Stage.{Stage}
use Rattle.journal.specs.declared.stage.Stage.TheVariants.{Recording, Describing, SyncingRecords, Opening}
use Rattle.journal.specs.declared.stage.Stage.TheVariants.{Committing, Applying, SyncingHomes, Closing, Finishing}
use Rattle.journal.specs.Stage.{is_committed}
use Rattle.journal.specs.Work.{Work, Sync, work_at, worked, TornFromWork}
use Rattle.journal.specs.WriteOut.{IsBatch}
use Rattle.journal.specs.Crash.{LeftBefore, LeftWithin}
use Rattle.journal.specs.inside.Tied.{Progress, IsInJournal, IsFirmFor, IsLeft, is_recording, is_switching}
use Rattle.journal.specs.inside.Tied.{is_applying, is_applied, is_durable, is_open, durable_in, recorded, described}
use Rattle.journal.specs.inside.Tied.{applied, IsCovered, IsWritten, AreWritten, is_under_way, kept_in, IsSeen}
use Rattle.journal.proofs.Alls.{all_map, all_both, all_in, all-append, all_front, all_back, all_replaced, in_right}
use Rattle.journal.proofs.Changes.{SameBut, same_but_torn, torn-written, block-written, first-written, length-block_at}
use Rattle.journal.proofs.Places.{gate-below, descriptor-below, record-below}
use Rattle.journal.proofs.Places.{gate_no_descriptor, gate_no_record, descriptor_no_record}
use Rattle.journal.proofs.Stages.{next_of, next_in}
use Rattle.journal.proofs.RecoveredBlocks.{covered_of, recovered-without_oldest}
use Rattle.journal.proofs.Recovering.{HoldsBy, holds_newest}
use Rattle.journal.proofs.Written.{IsBeside, written_more, written_kept, written_over, all_kept, beside_gate}
use Rattle.journal.proofs.Written.{beside_record, beside_descriptor, past_home, beside_home, home_at}
use Rattle.journal.proofs.Written.{descriptor_there}
use Rattle.journal.proofs.Tying.{false_true, IsBefore, AreOrdered, AreGoing, last_of}
use Rattle.journal.proofs.Firm.{durable_all, durable_there, first_same, super_firm, gate_firm, recovered_firm}
use Rattle.journal.proofs.Firm.{holds_left}
use Rattle.journal.proofs.Leaving.{IsGateOpening, covered_front, newer_than, under_way, left_recovers}

-- ---- the next stage

-- what is written before a stage of a write-out of k blocks, whose descriptor has d, and what is sure and loose then
record Extent : Type 0 where
  pub recorded : ℕ
  pub described : ℕ
  pub applied : ℕ
  pub gate_open : Bool
  pub durable : Bool
  pub committed : Bool
  pub recording : Bool
  pub applying : Bool

abbrev extent : ℕ → ℕ → Stage → Extent
extent k d s = record {
  recorded = recorded k s;
  described = described d s;
  applied = applied k s;
  gate_open = is_open s;
  durable = is_durable s;
  committed = is_committed s;
  recording = is_recording s;
  applying = is_applying s;
}

-- where so many records, blocks of the descriptor and home blocks are written: before its gate is open, or after that
abbrev written_to : ℕ → ℕ → ℕ → Bool → Extent
written_to records texts homes late = record {
  recorded = records;
  described = texts;
  applied = homes;
  gate_open = late;
  durable = late;
  committed = late;
  recording = not late;
  applying = late;
}

-- after one block more of n, whether it is the last one or another follows
one_more : (k d i n : ℕ) (last other : Stage) (to : ℕ → Extent) → extent k d last ≡ to n
    → extent k d other ≡ to (i + 1) → extent k d (cond (i + 1 == n) last other) ≡ to (i + 1)
one_more k d i n last other to at_end before = cond_both (i + 1 == n) last other (λ s. extent k d s ≡ to (i + 1))
    (λ e. at_end ∙ ap to (sym (eqb-true (i + 1) n e))) (λ e. before)

-- what is sure stays so
record StaysSure (s s' : Stage) : Type 0 where
  committed : is_committed s ≡ is_committed s'
  durable : is_durable s ≡ is_durable s'

stays_sure : (k d records texts homes : ℕ) (late : Bool) (s s' : Stage)
    → extent k d s' ≡ written_to records texts homes late → is_committed s ≡ late → is_durable s ≡ late
    → StaysSure s s'
stays_sure k d records texts homes late s s' to committed durable = record {
  committed = committed ∙ sym (ap (λ (x : Extent). x.committed) to);
  durable = durable ∙ sym (ap (λ (x : Extent). x.durable) to);
}

-- two home blocks of a batch are apart
homes_apart : (v : SuperValue) (batch : Batch) → IsBatch (geometry_of v) batch
    → (i k : ℕ) → i ≢ k → i < length batch.homes → k < length batch.homes
    → get_or batch.homes i 0 ≢ get_or batch.homes k 0
homes_apart v batch is i k other lt within e =
    elim (cases_order i k) [
      | inl same ↦ other same
      | inr (inl below) ↦ omega (
        arith,
        e,
        rising_apart (first_home v.layout v.slots)
            (block_count v) batch.homes i k is.described.homes.rising below within,
      )
      | inr (inr above) ↦ omega (
        arith,
        e,
        rising_apart (first_home v.layout v.slots) (block_count v) batch.homes k i is.described.homes.rising above lt,
      )
    ]

-- ---- a write-out in the place of another

abbrev pub at : Batch → Stage → Progress
at batch s = record { batch = batch; stage = s }

durable_same : (older newer : List Progress) (batch : Batch) (s s' : Stage) → is_durable s ≡ is_durable s'
    → durable_in (older ++ at batch s ∷ newer) ≡ durable_in (older ++ at batch s' ∷ newer)
durable_same [] newer batch s s' same = ap (λ b. durable_in newer ++ cond b (batch ∷ []) []) same
durable_same (q ∷ older) newer batch s s' same =
    ap (λ (l : List Batch). l ++ cond (is_durable q.stage) (q.batch ∷ []) []) (durable_same older newer batch s s' same)

way_same : (older newer : List Progress) (batch : Batch) (s s' : Stage) → is_committed s ≡ is_committed s'
    → is_under_way (older ++ at batch s ∷ newer) ≡ is_under_way (older ++ at batch s' ∷ newer)
way_same [] newer batch s s' same = ap (λ b. not b || is_under_way newer) same
way_same (q ∷ older) newer batch s s' same =
    ap (λ b. not (is_committed q.stage) || b) (way_same older newer batch s s' same)

-- where each is committed
pub not_way : (progress : List Progress) → AllByRecursion (λ (p : Progress). is_committed p.stage ≡ true) progress
    → is_under_way progress ≡ false
not_way [] all = refl
not_way (p ∷ newer) all = or_from (not (is_committed p.stage)) (is_under_way newer)
    (not_from_true (is_committed p.stage) all.0) (not_way newer all.1)

pub all_committed : (progress : List Progress) → is_under_way progress ≡ false
    → AllByRecursion (λ (p : Progress). is_committed p.stage ≡ true) progress
all_committed [] none = tt
all_committed (p ∷ newer) none =
    let parts = or_parts (not (is_committed p.stage)) (is_under_way newer) none in (
      elim (cases_Bool (is_committed p.stage)) [
        | inl e ↦ e
        | inr e ↦ absurd (both_ways (not (is_committed p.stage)) parts.0 (not_from_false (is_committed p.stage) e))
      ],
      all_committed newer parts.1,
    )

pub durable_push : (older : List Progress) (p : Progress)
    → durable_in (older ++ p ∷ []) ≡ cond (is_durable p.stage) (p.batch ∷ []) [] ++ durable_in older
durable_push [] p = sym (append-nil (cond (is_durable p.stage) (p.batch ∷ []) []))
durable_push (q ∷ older) p =
    ap (λ (l : List Batch). l ++ cond (is_durable q.stage) (q.batch ∷ []) []) (durable_push older p)
    ∙ append_assoc (cond (is_durable p.stage) (p.batch ∷ []) []) (durable_in older)
    (cond (is_durable q.stage) (q.batch ∷ []) [])

early_unapplied : (k : ℕ) (s : Stage) → is_committed s ≡ false → applied k s ≡ 0
early_unapplied k (Recording i) early = refl
early_unapplied k (Describing i) early = refl
early_unapplied k SyncingRecords early = refl
early_unapplied k Opening early = refl
early_unapplied k Committing early = refl
early_unapplied k (Applying i) early = false_true (sym early)
early_unapplied k SyncingHomes early = false_true (sym early)
early_unapplied k Closing early = false_true (sym early)
early_unapplied k Finishing early = false_true (sym early)

-- those that follow have written none of their home blocks, while those of this one aren't sure
pub waiting : (p : Progress) (newer : List Progress) → AllByRecursion (IsBefore p) newer → is_applied p.stage ≡ false
    → AllByRecursion (λ (q : Progress). applied (length q.batch.homes) q.stage ≡ 0) newer
waiting p newer after unsure = all_map {P = IsBefore p}
    {Q = λ (q : Progress). applied (length q.batch.homes) q.stage ≡ 0} none newer after
  where
    none : (q : Progress) → IsBefore p q → applied (length q.batch.homes) q.stage ≡ 0
    none q before = elim (cases_Bool (is_committed q.stage)) [
      | inr early ↦ early_unapplied (length q.batch.homes) q.stage early
      | inl late ↦ elim (before.waits late) [
        | inl first ↦ ap (applied (length q.batch.homes)) first
        | inr sure ↦ absurd (both_ways (is_applied p.stage) unsure sure.1)
      ]
    ]

-- more batches have more records
covered_split : (front rest : List Batch) (b : ℕ) → IsCovered (front ++ rest) b → IsCovered front b ⊎ IsCovered rest b
covered_split [] rest b covered = inr covered
covered_split (x ∷ front) rest b (inl has) = inl (inl has)
covered_split (x ∷ front) rest b (inr later) =
    elim (covered_split front rest b later) [ inl there ↦ inl (inr there) | inr there ↦ inr there ]

covered_back : (front rest : List Batch) (b : ℕ) → IsCovered rest b → IsCovered (front ++ rest) b
covered_back [] rest b covered = covered
covered_back (x ∷ front) rest b covered = inr (covered_back front rest b covered)

covered_more : (older newer : List Progress) (batch : Batch) (s s' : Stage)
    → (is_durable s ≡ true → is_durable s' ≡ true) → (b : ℕ) → IsCovered (durable_in (older ++ at batch s ∷ newer)) b
    → IsCovered (durable_in (older ++ at batch s' ∷ newer)) b
covered_more [] newer batch s s' durable b covered =
    elim (covered_split (durable_in newer) (cond (is_durable s) (batch ∷ []) []) b covered) [
      | inl there ↦ covered_front (durable_in newer) (cond (is_durable s') (batch ∷ []) []) b there
      | inr own ↦ covered_back (durable_in newer) (cond (is_durable s') (batch ∷ []) []) b
          (elim (cases_Bool (is_durable s)) [
            | inl is ↦ subst (λ t. IsCovered (cond t (batch ∷ []) []) b) (is ∙ sym (durable is)) own
            | inr not ↦ (let never : ⊥ = subst (λ t. IsCovered (cond t (batch ∷ []) []) b) not own in absurd never)
          ])
    ]
covered_more (q ∷ older) newer batch s s' durable b covered =
    elim (covered_split (durable_in (older ++ at batch s ∷ newer))
    (cond (is_durable q.stage) (q.batch ∷ []) []) b covered) [
      | inl there ↦ covered_front (durable_in (older ++ at batch s' ∷ newer))
          (cond (is_durable q.stage) (q.batch ∷ []) []) b
          (covered_more older newer batch s s' durable b there)
      | inr own ↦ covered_back (durable_in (older ++ at batch s' ∷ newer))
          (cond (is_durable q.stage) (q.batch ∷ []) []) b own
    ]

-- those that are older than one, and the journals of the others are apart from its own
older_than : (older newer : List Progress) (p : Progress) → AreOrdered (older ++ p ∷ newer)
    → AllByRecursion (λ (q : Progress). IsBefore q p) older
older_than [] newer p ordered = tt
older_than (q ∷ older) newer p ordered = (
  all_in (IsBefore q) (older ++ p ∷ newer) p ordered.0 (in_right older (p ∷ newer) p (inl refl)),
  older_than older newer p ordered.1,
)

pub newer_than_it : (older newer : List Progress) (p : Progress) → AreOrdered (older ++ p ∷ newer)
    → AllByRecursion (IsBefore p) newer
newer_than_it [] newer p ordered = ordered.0
newer_than_it (q ∷ older) newer p ordered = newer_than_it older newer p ordered.1

apart_of : (older newer : List Progress) (p : Progress) → AreOrdered (older ++ p ∷ newer)
    → AllByRecursion (λ (q : Progress). q.batch.journal ≢ p.batch.journal) older
    × AllByRecursion (λ (q : Progress). q.batch.journal ≢ p.batch.journal) newer
apart_of older newer p ordered = (
  all_map (λ q before. before.journals) older (older_than older newer p ordered),
  all_map {P = IsBefore p} (λ q before e. before.journals (sym e)) newer (newer_than_it older newer p ordered),
)

-- ---- what is found of all of them

own_of : (v : SuperValue) (new : ℕ → List ℕ) (older newer : List Progress) (p : Progress) (seen : List ℕ)
    → AreWritten v new seen (older ++ p ∷ newer)
    → IsWritten v new (durable_in newer) p seen × AreWritten v new seen newer
own_of v new [] newer p seen are = are
own_of v new (q ∷ older) newer p seen are = own_of v new older newer p seen are.1

-- what is found of an older one stays while this block is written, where the batch is at this stage
abbrev Stays : SuperValue → (ℕ → List ℕ) → List Progress → Batch → Stage → ℕ → Progress → Type 0
Stays v new newer batch s x q = (l : List Progress) (seen seen' : List ℕ) → SameBut x seen seen'
    → IsWritten v new (durable_in (l ++ at batch s ∷ newer)) q seen
    → IsWritten v new (durable_in (l ++ at batch s ∷ newer)) q seen'

module _ (v : SuperValue) (new : ℕ → List ℕ) (older newer : List Progress) (batch : Batch) (s s' : Stage) where
  written_same : (seen : List ℕ) → (is_durable s ≡ true → is_durable s' ≡ true)
      → IsWritten v new (durable_in newer) (at batch s') seen → AreWritten v new seen (older ++ at batch s ∷ newer)
      → AreWritten v new seen (older ++ at batch s' ∷ newer)
  written_same seen durable own are = by older are
    where
      by : (l : List Progress) → AreWritten v new seen (l ++ at batch s ∷ newer)
          → AreWritten v new seen (l ++ at batch s' ∷ newer)
      by [] are = (own, are.1)
      by (q ∷ l) are = (written_more v new _ _ q seen (covered_more l newer batch s s' durable) are.0, by l are.1)

  -- where a block is written that has no part in the others
  written_with : (x : ℕ) (seen seen' : List ℕ) → (is_durable s ≡ true → is_durable s' ≡ true) ⊎ (older ≡ [])
      → AllByRecursion (Stays v new newer batch s' x) older
      × AllByRecursion (λ (q : Progress). IsBeside v new q x) newer
      → SameBut x seen seen' → IsWritten v new (durable_in newer) (at batch s') seen'
      → AreWritten v new seen (older ++ at batch s ∷ newer)
      → AreWritten v new seen' (older ++ at batch s' ∷ newer)
  written_with x seen seen' (inr none) beside same own are =
      subst (λ (l : List Progress).
      AreWritten v new seen (l ++ at batch s ∷ newer) → AreWritten v new seen' (l ++ at batch s' ∷ newer)) (sym none)
      (λ rest. (own, all_kept v new newer x seen seen' rest.1 beside.1 same)) are
  written_with x seen seen' (inl durable) beside same own are = by older beside.0 are
    where
      by : (l : List Progress) → AllByRecursion (Stays v new newer batch s' x) l
          → AreWritten v new seen (l ++ at batch s ∷ newer)
          → AreWritten v new seen' (l ++ at batch s' ∷ newer)
      by [] all are = (own, all_kept v new newer x seen seen' are.1 beside.1 same)
      by (q ∷ l) all are = (
        all.0 l seen seen' same (written_more v new _ _ q seen (covered_more l newer batch s s' durable) are.0),
        by l all.1 are.1,
      )

module _ (v : SuperValue) (old new : ℕ → List ℕ) where
  -- what a read finds, and what a crash may leave
  pub record IsTiedAt (progress : List Progress) (seen : List ℕ) (may : List ℕ → Type 0) : Type 0 where
    pub seen_is : IsSeen v progress old new seen
    pub left_are : (c : List ℕ) → may c → IsLeft v.slots progress seen c

  pub left_same : (progress : List Progress) (seen c : List ℕ) → c ≡ seen → IsLeft v.slots progress seen c
  left_same progress seen c same =
      record { same_length = ap length same; firm = λ b is. ap (λ (l : List ℕ). block_at l b) same }

  -- without a batch that isn't committed New is Old
  abbrev IsOutside : Progress → Type 0
  IsOutside p = is_committed p.stage ≡ false → (b : ℕ) → (Contains p.batch.homes b → ⊥) → new b ≡ old b

  abbrev IsApart : ℕ → Progress → Type 0
  IsApart j p = p.batch.journal ≢ j

  -- what a read finds after a step that changed loose blocks alone
  seen_moves : (progress : List Progress) → AreGoing (geometry_of v) progress
      → (seen seen' : List ℕ) → IsLeft v.slots progress seen seen' → IsSuper v (block_at seen 0)
      → 4096 * block_count v ≤ length seen → AreWritten v new seen' progress
      → ((j : ℕ) → j < journals_of v.layout → AllByRecursion (IsApart j) progress → IsOpen seen v.slots j → ⊥)
      → ((b : ℕ) → IsHome (geometry_of v) b
      → kept_in progress old new b ≡ contents_in v.slots (durable_in progress) seen b)
      → AllByRecursion IsOutside progress
      → IsSeen v progress old new seen'
  seen_moves progress going seen seen' left super_block long are shut contents outside = record {
    super_block = subst (IsSuper v) (sym (left.firm 0 (super_firm v progress going))) super_block;
    long = subst (λ n. 4096 * block_count v ≤ n) (sym left.same_length) long;
    written = are;
    shut = λ j lt none opens.
        let firm = gate_firm v progress going j lt (all_map (λ p other sw. other) progress none) in
        shut j lt none
        (sym (first_same seen' seen (gate_block v.slots j) (left.firm (gate_block v.slots j) firm)) ∙ opens);
    contents = λ b home. contents b home ∙ sym (left.firm _ (recovered_firm v progress going b home));
    outside = outside;
  }

  -- one write-out among older and newer ones: one that isn't committed is the newest, one that is the oldest, and all
  -- are committed
  module _ (older newer : List Progress) (batch : Batch) (seen : List ℕ) (may may' : List ℕ → Type 0) where
    abbrev with_stage : Stage → List Progress
    with_stage s = older ++ at batch s ∷ newer

    contents_with : (s s' : Stage) → is_durable s ≡ is_durable s' → is_committed s ≡ is_committed s' → (b : ℕ)
        → kept_in (with_stage s) old new b ≡ contents_in v.slots (durable_in (with_stage s)) seen b
        → kept_in (with_stage s') old new b ≡ contents_in v.slots (durable_in (with_stage s')) seen b
    contents_with s s' durable committed b e =
        sym (ap (λ t. cond t old new b) (way_same older newer batch s s' committed)) ∙ e
        ∙ ap (λ (l : List Batch). contents_in v.slots l seen b) (durable_same older newer batch s s' durable)

    -- a step from one stage to another
    pub record IsStep (s s' : Stage) : Type 0 where
      pub going : AreGoing (geometry_of v) (with_stage s)
      pub going' : AreGoing (geometry_of v) (with_stage s')
      pub tied : IsTiedAt (with_stage s) seen may

    module _ (s s' : Stage) (step : IsStep s s') where
      is_batch : IsBatch (geometry_of v) batch
      is_batch =
          (all_back (λ (p : Progress). IsBatch (geometry_of v) p.batch) older (at batch s ∷ newer) step.going.each).0

      own : IsWritten v new (durable_in newer) (at batch s) seen
      own = (own_of v new older newer (at batch s) seen step.tied.seen_is.written).0

      room : (x : ℕ) → x < first_home v.layout v.slots → 4096 * x + 4096 ≤ length seen
      room x lt = omega (arith, lt, step.tied.seen_is.long)

      -- the journals of the others are apart
      others : (x : ℕ)
          → ((q : Progress) → IsBatch (geometry_of v) q.batch → q.batch.journal ≢ batch.journal → IsBeside v new q x)
          → AllByRecursion (Stays v new newer batch s' x) older
          × AllByRecursion (λ (q : Progress). IsBeside v new q x) newer
      others x beside =
          let apart = apart_of older newer (at batch s) step.going.ordered in
          let each = step.going.each in (
            all_both {R = Stays v new newer batch s' x}
                (λ q is other l seen seen' same w. written_kept v new _ q x seen seen' w (beside q is other) same) older
                (all_front (λ (p : Progress). IsBatch (geometry_of v) p.batch) older (at batch s ∷ newer) each) apart.0,
            all_both beside newer
                (all_back (λ (p : Progress). IsBatch (geometry_of v) p.batch) older (at batch s ∷ newer) each).1
                apart.1,
          )

      moved : (seen' : List ℕ) → IsLeft v.slots (with_stage s') seen seen' → is_committed s ≡ is_committed s'
          → AreWritten v new seen' (with_stage s')
          → ((b : ℕ) → kept_in (with_stage s) old new b ≡ contents_in v.slots (durable_in (with_stage s)) seen b
          → kept_in (with_stage s') old new b ≡ contents_in v.slots (durable_in (with_stage s')) seen b)
          → IsSeen v (with_stage s') old new seen'
      moved seen' left committed are contents =
          let is = step.tied.seen_is in
          seen_moves (with_stage s') step.going' seen seen' left is.super_block is.long are
          (λ j lt none.
          is.shut j lt (all_replaced (IsApart j) older (at batch s') (at batch s) newer (λ other. other) none))
          (λ b home. contents b (is.contents b home))
          (all_replaced IsOutside older (at batch s) (at batch s') newer
          (λ before e. before (committed ∙ e)) is.outside)

      -- it writes to one block, which is loose from then on
      write : (x n : ℕ) (bytes : List ℕ) → length bytes ≡ n → n ≤ 4096 → 4096 * x + 4096 ≤ length seen
          → ((b : ℕ) → IsFirmFor v.slots (at batch s') b → IsFirmFor v.slots (at batch s) b × (b ≢ x))
          → is_committed s ≡ is_committed s' → (is_durable s ≡ true → is_durable s' ≡ true) ⊎ (older ≡ [])
          → AllByRecursion (Stays v new newer batch s' x) older
          × AllByRecursion (λ (q : Progress). IsBeside v new q x) newer
          → (SameBut x seen (written seen (4096 * x) bytes)
          → IsWritten v new (durable_in newer) (at batch s') (written seen (4096 * x) bytes))
          → ((b : ℕ) → kept_in (with_stage s) old new b ≡ contents_in v.slots (durable_in (with_stage s)) seen b
          → kept_in (with_stage s') old new b ≡ contents_in v.slots (durable_in (with_stage s')) seen b)
          → ((c : List ℕ) → may' c → (d : List ℕ) × may d × Torn (4096 * x) n d c)
          → IsTiedAt (with_stage s') (written seen (4096 * x) bytes) may'
      write x n bytes size few fits loose committed durable beside its contents torn =
          let seen' = written seen (4096 * x) bytes in
          let same = same_but_torn x (length bytes) seen seen' (omega (arith, size))
          (torn-written (4096 * x) bytes seen (omega (arith, fits, size))) in
          record {
            seen_is = moved seen'
                (record { same_length = same.same_length; firm = λ b is. same.blocks b (loosened b is).1 }) committed
                (written_with v new older newer batch s s' x seen seen' durable beside same
                (its same) step.tied.seen_is.written) contents;
            left_are = λ c may_c.
                let d = torn c may_c in
                let other = same_but_torn x n d.0 c few d.2 in
                let l = step.tied.left_are d.0 d.1 in
                record {
                  same_length = other.same_length ∙ l.same_length ∙ sym same.same_length;
                  firm = λ b is. let f = loosened b is in other.blocks b f.1 ∙ l.firm b f.0 ∙ sym (same.blocks b f.1);
                };
          }
        where
          loosened : (b : ℕ) → AllByRecursion (λ (p : Progress). IsFirmFor v.slots p b) (with_stage s')
              → AllByRecursion (λ (p : Progress). IsFirmFor v.slots p b) (with_stage s) × (b ≢ x)
          loosened b all = (
            all_replaced (λ (p : Progress). IsFirmFor v.slots p b) older (at batch s') (at batch s) newer
                (λ mine. (loose b mine).0) all,
            (loose b (all_in (λ (p : Progress). IsFirmFor v.slots p b) (with_stage s') (at batch s') all
                (in_right older (at batch s' ∷ newer) (at batch s') (inl refl)))).1,
          )

      -- it syncs
      sync : is_durable s ≡ is_durable s' → is_committed s ≡ is_committed s'
          → IsWritten v new (durable_in newer) (at batch s') seen → ((c : List ℕ) → may' c → c ≡ seen)
          → IsTiedAt (with_stage s') seen may'
      sync durable committed its synced = record {
        seen_is = moved seen (left_same (with_stage s') seen seen refl) committed
            (written_same v new older newer batch s s' seen (λ e. sym durable ∙ e) its step.tied.seen_is.written)
            (contents_with s s' durable committed);
        left_are = λ c may_c. left_same (with_stage s') seen c (synced c may_c);
      }

    -- ---- each step

    gate_of : (s s' : Stage) → IsStep s s' → (x : ℕ) → x ≢ gate_block v.slots batch.journal
        → (seen' : List ℕ) → SameBut x seen seen' → is_open s ≡ is_open s'
        → MatchBool (is_open s') (IsOpen seen' v.slots batch.journal) (IsOpen seen' v.slots batch.journal → ⊥)
    gate_of s s' step x other seen' same opens =
        let first = same.firsts (gate_block v.slots batch.journal) (λ e. other (sym e)) in
        subst (λ n. MatchBool (is_open s') (n ≡ 0xA7) (n ≡ 0xA7 → ⊥)) (sym first)
        (subst (λ b. MatchBool b (IsOpen seen v.slots batch.journal) (IsOpen seen v.slots batch.journal → ⊥)) opens
        (own s s' step).gate)

    -- while it is recorded, each block of its journal is loose
    loose_in : (s s' : Stage) → is_switching s ≡ false → is_applying s ≡ false → is_recording s' ≡ true
        → (x : ℕ) → IsInJournal v.slots batch.journal x → (b : ℕ) → IsFirmFor v.slots (at batch s') b
        → IsFirmFor v.slots (at batch s) b × (b ≢ x)
    loose_in s s' no_gate no_home loose x there b firm = (
      record {
        journal = λ e. firm.journal loose;
        gate = λ e. false_true (sym no_gate ∙ e);
        home = λ e. false_true (sym no_home ∙ e);
      },
      λ e. firm.journal loose (subst (IsInJournal v.slots batch.journal) (sym e) there),
    )

    record_step : (i : ℕ) (bytes : List ℕ) → (step : IsStep (Recording i) (next_in v.slots batch (Recording i)))
        → i < length batch.homes → length bytes ≡ 4096 → bytes ≡ new (get_or batch.homes i 0)
        → ((c : List ℕ) → may' c → TornFromWork (work_at (geometry_of v) batch bytes (Recording i)) may c)
        → IsTiedAt (with_stage (next_in v.slots batch (Recording i)))
        (worked seen (work_at (geometry_of v) batch bytes (Recording i))) may'
    record_step i bytes step lt size is_new left =
        let s = Recording i in
        let s' = next_in v.slots batch s in
        let to = one_more (length batch.homes) (descriptor_blocks v.slots) i (length batch.homes) (Describing 0)
        (Recording (i + 1)) (λ n. written_to n 0 0 false) refl refl in
        let stays = stays_sure _ _ _ _ _ false s s' to refl refl in
        let there = (is_batch s s' step).there in
        let few : i < v.slots = omega (arith, lt, (is_batch s s' step).described.homes.few) in
        let x = record_block v.slots batch.journal i in
        let fits = room s s' step x (record-below v.layout v.slots batch.journal i there few) in
        let w = own s s' step in
        write s s' step x (length bytes) bytes refl (omega (arith, size)) fits
        (loose_in s s' refl refl (ap (λ (y : Extent). y.recording) to) x (inr (i, few, refl))) stays.committed
        (inl (λ e. false_true e))
        (others s s' step x (λ q is apart. beside_record v new q batch.journal i is apart there few))
        (λ same. record {
          records = λ l within less. elim (cases_eq l i) [
            | inl here ↦ ap (λ n. block_at (written seen (4096 * x) bytes) (record_block v.slots batch.journal n)) here
                ∙ block-written x bytes seen size fits
                ∙ is_new
                ∙ ap (λ n. new (get_or batch.homes n 0)) (sym here)
            | inr other ↦ same.blocks (record_block v.slots batch.journal l) (λ e. other (omega arith))
                ∙ w.records l within (omega (arith, less, ap (λ (x : Extent). x.recorded) to))
          ];
          descriptor = λ l within less. absurd (omega (arith, less, ap (λ (x : Extent). x.described) to));
          homes = λ l within less. absurd (omega (arith, less, ap (λ (x : Extent). x.applied) to));
          gate = gate_of s s' step x (λ e. gate_no_record v.slots batch.journal batch.journal i few (sym e)) _ same
              (sym (ap (λ (x : Extent). x.gate_open) to));
        })
        (contents_with s s' stays.durable stays.committed) left

    describe_step : (i : ℕ) (bytes : List ℕ) → (step : IsStep (Describing i) (next_in v.slots batch (Describing i)))
        → i < descriptor_blocks v.slots
        → ((c : List ℕ) → may' c → TornFromWork (work_at (geometry_of v) batch bytes (Describing i)) may c)
        → IsTiedAt (with_stage (next_in v.slots batch (Describing i)))
        (worked seen (work_at (geometry_of v) batch bytes (Describing i))) may'
    describe_step i bytes step lt left =
        let s = Describing i in
        let s' = next_in v.slots batch s in
        let to = one_more (length batch.homes) (descriptor_blocks v.slots) i (descriptor_blocks v.slots) SyncingRecords
        (Describing (i + 1)) (λ n. written_to (length batch.homes) n 0 false) refl refl in
        let stays = stays_sure _ _ _ _ _ false s s' to refl refl in
        let is = is_batch s s' step in
        let text = descriptor_text v.slots (record { mark = batch.mark; homes = batch.homes }) in
        let long = length-descriptor_text v.slots batch.mark batch.homes is.described.homes.few in
        let block = block_at text i in
        let size : length block ≡ 4096 = length-block_at text i (omega (arith, long, lt)) in
        let first = descriptor_block v.slots batch.journal in
        let x = first + i in
        let fits = room s s' step x (descriptor-below v.layout v.slots batch.journal i is.there lt) in
        let w = own s s' step in
        write s s' step x (length block) block refl (omega (arith, size)) fits
        (loose_in s s' refl refl (ap (λ (y : Extent). y.recording) to) x (inl (i, lt, refl))) stays.committed
        (inl (λ e. false_true e))
        (others s s' step x (λ q q_is apart. beside_descriptor v new q batch.journal i q_is apart is.there lt))
        (λ same. record {
          records = λ l within less.
              same.blocks (record_block v.slots batch.journal l) (λ e. descriptor_no_record v.slots batch.journal
              batch.journal i l lt (omega (arith, within, is.described.homes.few)) (sym e))
              ∙ w.records l within within;
          descriptor = λ l within less. elim (cases_eq l i) [
            | inl here ↦ ap (λ n. block_at (written seen (4096 * x) block) (first + n)) here
                ∙ block-written x block seen size fits
                ∙ ap (block_at text) (sym here)
            | inr other ↦ same.blocks (first + l) (λ e. other (omega arith))
                ∙ w.descriptor l within (omega (arith, less, ap (λ (x : Extent). x.described) to))
          ];
          homes = λ l within less. absurd (omega (arith, less, ap (λ (x : Extent). x.applied) to));
          gate = gate_of s s' step x (λ e. gate_no_descriptor v.slots batch.journal batch.journal i lt (sym e)) _ same
              (sym (ap (λ (x : Extent). x.gate_open) to));
        })
        (contents_with s s' stays.durable stays.committed) left

    open_step : (bytes : List ℕ) → (step : IsStep Opening Committing)
        → ((c : List ℕ) → may' c → TornFromWork (work_at (geometry_of v) batch bytes Opening) may c)
        → IsTiedAt (with_stage Committing) (worked seen (work_at (geometry_of v) batch bytes Opening)) may'
    open_step bytes step left =
        let is = is_batch Opening Committing step in
        let x = gate_block v.slots batch.journal in
        let fits = room Opening Committing step x (gate-below v.layout v.slots batch.journal is.there) in
        let w = own Opening Committing step in
        write Opening Committing step x 1 (0xA7 ∷ []) refl (omega arith) fits
        (λ b f.
        (record { journal = λ e. false_true e; gate = λ e. false_true e; home = λ e. false_true e }, f.gate refl))
        refl (inl (λ e. false_true e))
        (others Opening Committing step x (λ q q_is apart. beside_gate v new q batch.journal q_is apart is.there))
        (λ same. record {
          records = λ l within less.
              same.blocks (record_block v.slots batch.journal l) (λ e. gate_no_record v.slots batch.journal
              batch.journal l (omega (arith, within, is.described.homes.few)) (sym e))
              ∙ w.records l within less;
          descriptor = λ l within less. same.blocks (descriptor_block v.slots batch.journal + l)
              (λ e. gate_no_descriptor v.slots batch.journal batch.journal l within (sym e))
              ∙ w.descriptor l within less;
          homes = λ l within less. absurd (omega (arith, less));
          gate = first-written x 0xA7 seen (omega (arith, fits));
        })
        (contents_with Opening Committing refl refl) left

    -- a home block, while those of older ones are sure and newer ones have written none
    apply_step : (i : ℕ) (bytes : List ℕ) → (step : IsStep (Applying i) (next_in v.slots batch (Applying i)))
        → i < length batch.homes → AllByRecursion (λ (q : Progress). is_applied q.stage ≡ true) older
        → AllByRecursion (λ (q : Progress). applied (length q.batch.homes) q.stage ≡ 0) newer
        → ((c : List ℕ) → may' c → TornFromWork (work_at (geometry_of v) batch bytes (Applying i)) may c)
        → IsTiedAt (with_stage (next_in v.slots batch (Applying i)))
        (worked seen (work_at (geometry_of v) batch bytes (Applying i))) may'
    apply_step i bytes step lt sure waits left =
        let s = Applying i in
        let s' = next_in v.slots batch s in
        let to = one_more (length batch.homes) (descriptor_blocks v.slots) i (length batch.homes) SyncingHomes
        (Applying (i + 1)) (λ n. written_to 0 (descriptor_blocks v.slots) n true) refl refl in
        let loose : is_applying s' ≡ true = ap (λ (x : Extent). x.applying) to in
        let stays = stays_sure _ _ _ _ _ true s s' to refl refl in
        let durable : is_durable s' ≡ true = ap (λ (x : Extent). x.durable) to in
        let is = is_batch s s' step in
        let few : i < v.slots = omega (arith, lt, is.described.homes.few) in
        let home = home_at (geometry_of v) batch.homes i is.described.homes lt in
        let x = get_or batch.homes i 0 in
        let from = record_block v.slots batch.journal i in
        let fits : 4096 * x + 4096 ≤ length seen = omega (arith, home.high, step.tied.seen_is.long) in
        let size : length (block_at seen from) ≡ 4096 =
        length-block_at seen from (room s s' step from (record-below v.layout v.slots batch.journal i is.there few)) in
        let w = own s s' step in
        let low : (y : ℕ) → y < first_home v.layout v.slots → y ≢ x =
        λ y below e. absurd (omega (arith, e, home.low, below)) in
        let slot : (l : ℕ) → l < length batch.homes → record_block v.slots batch.journal l ≢ x =
        λ l within. low (record_block v.slots batch.journal l)
        (record-below v.layout v.slots batch.journal l is.there (omega (arith, within, is.described.homes.few))) in
        write s s' step x 4096 (block_at seen from) size (omega arith) fits
        (λ b f. (
          record { journal = λ e. false_true e; gate = λ e. false_true e; home = λ e. f.home loose },
          λ e. f.home loose (subst (Contains batch.homes) (sym e) (Contains-get_or batch.homes i 0 lt)),
        ))
        stays.committed (inl (λ e. durable)) (
          all_both {P = λ (q : Progress). IsBatch (geometry_of v) q.batch} {R = Stays v new newer batch s' x}
              (λ q q_is its l seen seen' same w. written_over v new _ q x seen seen' w (past_home v new q x q_is home)
              (covered_of (durable_in (l ++ at batch s' ∷ newer)) batch x
              (durable_there (l ++ at batch s' ∷ newer) (at batch s') (in_right l (at batch s' ∷ newer) (at batch s')
              (inl refl)) durable) (Contains-get_or batch.homes i 0 lt)) same) older
              (all_front (λ (p : Progress). IsBatch (geometry_of v) p.batch) older
              (at batch s ∷ newer) step.going.each) sure,
          all_both {P = λ (q : Progress). IsBatch (geometry_of v) q.batch}
              (λ q q_is wait. beside_home v new q x q_is home wait) newer
              (all_back (λ (p : Progress). IsBatch (geometry_of v) p.batch) older
              (at batch s ∷ newer) step.going.each).1 waits,
        )
        (λ same. record {
          records = λ l within less. absurd (omega (arith, less, ap (λ (x : Extent). x.recorded) to));
          descriptor = λ l within less. same.blocks (descriptor_block v.slots batch.journal + l)
              (low (descriptor_block v.slots batch.journal + l)
              (descriptor-below v.layout v.slots batch.journal l is.there within))
              ∙ w.descriptor l within within;
          homes = λ l within less. elim (cases_eq l i) [
            | inl here ↦
                inr (subst (λ n. block_at (written seen (4096 * x) (block_at seen from)) (get_or batch.homes n 0)
                ≡ block_at (written seen (4096 * x) (block_at seen from)) (record_block v.slots batch.journal n))
                (sym here)
                (block-written x (block_at seen from) seen size fits ∙ sym (same.blocks from (slot i lt))))
            | inr other ↦ elim (w.homes l within (omega (arith, less, ap (λ (x : Extent). x.applied) to))) [
              | inl covered ↦ inl covered
              | inr as_record ↦ inr (same.blocks (get_or batch.homes l 0) (homes_apart v batch is l i other within lt)
                  ∙ as_record ∙ sym (same.blocks (record_block v.slots batch.journal l) (slot l within)))
            ]
          ];
          gate = gate_of s s' step x
              (λ e. low (gate_block v.slots batch.journal) (gate-below v.layout v.slots batch.journal is.there) (sym e))
              _ same (sym (ap (λ (x : Extent). x.gate_open) to));
        })
        (contents_with s s' stays.durable stays.committed) left

    close_step : (bytes : List ℕ) → (step : IsStep Closing Finishing) → older ≡ []
        → ((c : List ℕ) → may' c → TornFromWork (work_at (geometry_of v) batch bytes Closing) may c)
        → IsTiedAt (with_stage Finishing) (worked seen (work_at (geometry_of v) batch bytes Closing)) may'
    close_step bytes step oldest left =
        let is = is_batch Closing Finishing step in
        let x = gate_block v.slots batch.journal in
        let fits = room Closing Finishing step x (gate-below v.layout v.slots batch.journal is.there) in
        let w = own Closing Finishing step in
        let closed : get_or (written seen (4096 * x) (0 ∷ [])) (4096 * x) 0 ≡ 0 =
        first-written x 0 seen (omega (arith, fits)) in
        write Closing Finishing step x 1 (0 ∷ []) refl (omega arith) fits
        (λ b f.
        (record { journal = λ e. false_true e; gate = λ e. false_true e; home = λ e. false_true e }, f.gate refl))
        refl (inr oldest)
        (others Closing Finishing step x (λ q q_is apart. beside_gate v new q batch.journal q_is apart is.there))
        (λ same. record {
          records = λ l within less. absurd (omega (arith, less));
          descriptor = λ l within less. same.blocks (descriptor_block v.slots batch.journal + l)
              (λ e. gate_no_descriptor v.slots batch.journal batch.journal l within (sym e))
              ∙ w.descriptor l within less;
          homes = λ l within less. elim (w.homes l within less) [
            | inl covered ↦ inl covered
            | inr as_record ↦ inr (same.blocks (get_or batch.homes l 0) (λ e. let h =
                home_at (geometry_of v) batch.homes l is.described.homes within in
                absurd (omega (arith, e, h.low, gate-below v.layout v.slots batch.journal is.there)))
                ∙ as_record
                ∙ sym (same.blocks (record_block v.slots batch.journal l) (λ e. gate_no_record v.slots batch.journal
                batch.journal l (omega (arith, within, is.described.homes.few)) (sym e))))
          ];
          gate = λ opens. absurd (omega (arith, closed, opens));
        })
        (λ b. subst (λ (l : List Progress). kept_in (l ++ at batch Closing ∷ newer) old new b
        ≡ contents_in v.slots (durable_in (l ++ at batch Closing ∷ newer)) seen b
        → kept_in (l ++ at batch Finishing ∷ newer) old new b
        ≡ contents_in v.slots (durable_in (l ++ at batch Finishing ∷ newer)) seen b) (sym oldest)
        (λ e. e ∙ recovered-without_oldest v.slots (durable_in newer) batch seen (λ i lt. w.homes i lt lt) b
        ∙ ap (λ (l : List Batch). contents_in v.slots l seen b) (sym (append-nil (durable_in newer))))) left

  -- the newest is committed once its open gate is sure
  commit_step : (older : List Progress) (batch : Batch) (seen : List ℕ) (may may' : List ℕ → Type 0)
      → IsStep older [] batch seen may may' Committing (Applying 0) → ((c : List ℕ) → may' c → c ≡ seen)
      → IsTiedAt (older ++ at batch (Applying 0) ∷ []) seen may'
  commit_step older batch seen may may' step synced =
      let newest = λ (s : Stage). older ++ at batch s ∷ [] in
      let is = step.tied.seen_is in
      let w = own older [] batch seen may may' Committing (Applying 0) step in
      let it = in_right older (at batch Committing ∷ []) (at batch Committing) (inl refl) in
      let early : is_under_way (newest Committing) ≡ true =
      under_way (newest Committing) (at batch Committing) it refl in
      let late : is_under_way (newest (Applying 0)) ≡ false =
      not_way (newest (Applying 0))
      (all-append (λ (p : Progress). is_committed p.stage ≡ true) older (at batch (Applying 0) ∷ [])
      (all_map {P = λ (q : Progress). IsBefore q (at batch Committing)}
      (λ q before. before.committed) older (older_than older [] (at batch Committing) step.going.ordered))
      (refl, tt)) in
      let base = subst (λ (l : List Batch). HoldsBy v l old seen) (durable_push older (at batch Committing))
      (subst (λ (f : ℕ → List ℕ). HoldsBy v (durable_in (newest Committing)) f seen) (ap (λ b. cond b old new) early)
      (holds_left v (newest Committing) step.going old new seen seen is
      (left_same (newest Committing) seen seen refl))) in
      let lower = durable_all (λ (b : Batch). b.mark < batch.mark) older
      (all_map {P = λ (q : Progress). IsBefore q (at batch Committing)} (λ q before durable. before.marks) older
      (older_than older [] (at batch Committing) step.going.ordered)) in
      let all = holds_newest v (durable_in older) old new batch seen base
      (is_batch older [] batch seen may may' Committing (Applying 0) step) (newer_than batch (durable_in older) lower)
      w.gate
      (descriptor_there (geometry_of v) batch seen
      (is_batch older [] batch seen may may' Committing (Applying 0) step) (λ i lt. w.descriptor i lt lt))
      (λ i lt. w.records i lt lt)
      (all_in IsOutside (newest Committing) (at batch Committing) is.outside it refl) in
      record {
        seen_is = seen_moves (newest (Applying 0)) step.going' seen seen
            (left_same (newest (Applying 0)) seen seen refl) is.super_block is.long
            (written_same v new older [] batch Committing (Applying 0) seen (λ e. false_true e)
            (record {
              records = λ l within less. absurd (omega (arith, less));
              descriptor = w.descriptor;
              homes = λ l within less. absurd (omega (arith, less));
              gate = w.gate;
            }) is.written)
            (λ j lt none. is.shut j lt
            (all_replaced (IsApart j) older (at batch (Applying 0)) (at batch Committing) [] (λ other. other) none))
            (λ b home. ap (λ t. cond t old new b) late ∙ all.contents_are b home
            ∙ ap (λ (l : List Batch). contents_in v.slots l seen b) (sym (durable_push older (at batch (Applying 0)))))
            (all_replaced IsOutside older (at batch Committing) (at batch (Applying 0)) []
            (λ before e. false_true (sym e)) is.outside);
        left_are = λ c may_c. left_same (newest (Applying 0)) seen c (synced c may_c);
      }

  -- the last step of the oldest: its gate is surely closed
  pub finish_step : (batch : Batch) (newer : List Progress) (seen : List ℕ) (may may' : List ℕ → Type 0)
      → AreGoing (geometry_of v) newer → IsTiedAt (at batch Finishing ∷ newer) seen may
      → ((c : List ℕ) → may' c → c ≡ seen)
      → IsTiedAt newer seen may'
  finish_step batch newer seen may may' going' tied synced =
      let is = tied.seen_is in
      record {
        seen_is = seen_moves newer going' seen seen (left_same newer seen seen refl) is.super_block is.long is.written.1
            (λ j lt others. elim (cases_eq batch.journal j) [
              | inl mine ↦ (λ opens. is.written.0.gate (subst (IsOpen seen v.slots) (sym mine) opens))
              | inr other ↦ is.shut j lt (other, others)
            ])
            (λ b home.
            is.contents b home ∙ ap (λ (l : List Batch). contents_in v.slots l seen b) (append-nil (durable_in newer)))
            is.outside.1;
        left_are = λ c may_c. left_same newer seen c (synced c may_c);
      }

  -- ---- a step of any stage but the last, whose device calls succeed

  module _ (older newer : List Progress) (batch : Batch) (seen : List ℕ) (may : List ℕ → Type 0) (bytes : List ℕ) where
    -- what it takes
    abbrev pub IsPlaced : Stage → Type 0
    IsPlaced (Recording i) = (i < length batch.homes) × (length bytes ≡ 4096) × (bytes ≡ new (get_or batch.homes i 0))
    IsPlaced (Describing i) = i < descriptor_blocks v.slots
    IsPlaced Committing = newer ≡ []
    IsPlaced (Applying i) =
        (i < length batch.homes) × AllByRecursion (λ (q : Progress). is_applied q.stage ≡ true) older
        × AllByRecursion (λ (q : Progress). applied (length q.batch.homes) q.stage ≡ 0) newer
    IsPlaced Closing = older ≡ []
    IsPlaced Finishing = ⊥
    IsPlaced s = Unit {0}

    pub step_after : (s : Stage) (may' : List ℕ → Type 0)
        → IsStep older newer batch seen may may' s (next_in v.slots batch s) → IsPlaced s
        → ((c : List ℕ) → may' c → TornFromWork (work_at (geometry_of v) batch bytes s) may c)
        → (work_at (geometry_of v) batch bytes s ≡ Sync → (c : List ℕ) → may' c → c ≡ seen)
        → IsTiedAt (older ++ at batch (next_in v.slots batch s) ∷ newer)
        (worked seen (work_at (geometry_of v) batch bytes s)) may'
    step_after (Recording i) may' step placed left durable =
        record_step older newer batch seen may may' i bytes step placed.0 placed.1 placed.2 left
    step_after (Describing i) may' step placed left durable =
        describe_step older newer batch seen may may' i bytes step placed left
    step_after SyncingRecords may' step placed left durable =
        let w = own older newer batch seen may may' SyncingRecords Opening step in
        sync older newer batch seen may may' SyncingRecords Opening step refl refl
        (record {
          records = w.records;
          descriptor = w.descriptor;
          homes = λ l within less. absurd (omega (arith, less));
          gate = w.gate;
        }) (durable refl)
    step_after Opening may' step placed left durable = open_step older newer batch seen may may' bytes step left
    step_after Committing may' step placed left durable =
        subst (λ (l : List Progress). IsStep older l batch seen may may' Committing (Applying 0)
        → IsTiedAt (older ++ at batch (Applying 0) ∷ l) seen may') (sym placed)
        (λ alone. commit_step older batch seen may may' alone (durable refl)) step
    step_after (Applying i) may' step placed left durable =
        apply_step older newer batch seen may may' i bytes step placed.0 placed.1 placed.2 left
    step_after SyncingHomes may' step placed left durable =
        let w = own older newer batch seen may may' SyncingHomes Closing step in
        sync older newer batch seen may may' SyncingHomes Closing step refl refl
        (record { records = w.records; descriptor = w.descriptor; homes = w.homes; gate = w.gate }) (durable refl)
    step_after Closing may' step placed left durable = close_step older newer batch seen may may' bytes step placed left
    step_after Finishing may' step placed left durable = absurd placed

  -- ---- what a crash leaves

  -- where all are committed, New; else Old, or New while a gate opens
  abbrev pub IsOutcome : Stage → List ℕ → Type 0
  IsOutcome s c =
      MatchBool (is_committed s) (Recovers v new c) (Recovers v old c ⊎ ((s ≡ Committing) × Recovers v new c))

  module _ (older newer : List Progress) (batch : Batch) (s : Stage) (seen c : List ℕ) (may : List ℕ → Type 0)
      (going : AreGoing (geometry_of v) (older ++ at batch s ∷ newer))
      (none : is_committed s ≡ true → is_under_way (older ++ at batch s ∷ newer) ≡ false)
      (tied : IsTiedAt (older ++ at batch s ∷ newer) seen may) (left : may c) where
    found : Recovers v (kept_in (older ++ at batch s ∷ newer) old new) c
        ⊎ (IsGateOpening (older ++ at batch s ∷ newer) × Recovers v new c)
    found = left_recovers v (older ++ at batch s ∷ newer) going old new seen c tied.seen_is (tied.left_are c left)

    pub outcome : IsOutcome s c
    outcome = by (is_committed s) refl
      where
        its_stage : is_committed s ≡ false → IsGateOpening (older ++ at batch s ∷ newer) → s ≡ Committing
        its_stage early g = elim
            (all_in (λ (q : Progress). (q ≡ at batch s) ⊎ IsBefore q (at batch s)) (older ++ at batch s ∷ newer) g.it
            (last_of (older ++ at batch s ∷ newer) (at batch s) going.ordered early
            (in_right older (at batch s ∷ newer) (at batch s) (inl refl))) g.there) [
              | inl same ↦ ap (λ (q : Progress). q.stage) (sym same) ∙ g.stage
              | inr before ↦ absurd (both_ways (is_committed g.it.stage) (ap is_committed g.stage) before.committed)
            ]

        by : (b : Bool) → is_committed s ≡ b
            → MatchBool b (Recovers v new c) (Recovers v old c ⊎ ((s ≡ Committing) × Recovers v new c))
        by true late = elim found [
          | inl kept ↦ subst (λ (f : ℕ → List ℕ). Recovers v f c) (ap (λ b. cond b old new) (none late)) kept
          | inr opens ↦ opens.1
        ]
        by false early = elim found [
          | inl kept ↦ inl (subst (λ (f : ℕ → List ℕ). Recovers v f c)
              (ap (λ b. cond b old new) (under_way (older ++ at batch s ∷ newer) (at batch s)
              (in_right older (at batch s ∷ newer) (at batch s) (inl refl)) early)) kept)
          | inr opens ↦ inr (its_stage early opens.0, opens.1)
        ]

  -- as it is told of the stage of the next step
  pub outcome_before : (s : Stage) (c : List ℕ) → IsOutcome s c → LeftBefore v old new (Some s) c
  outcome_before (Recording i) c (inl is) = is
  outcome_before (Describing i) c (inl is) = is
  outcome_before SyncingRecords c (inl is) = is
  outcome_before Opening c (inl is) = is
  outcome_before Committing c (inl is) = inl is
  outcome_before (Recording i) c (inr is) = cc
  outcome_before (Describing i) c (inr is) = cc
  outcome_before SyncingRecords c (inr is) = cc
  outcome_before Opening c (inr is) = cc
  outcome_before Committing c (inr is) = inr is.1
  outcome_before (Applying i) c is = is
  outcome_before SyncingHomes c is = is
  outcome_before Closing c is = is
  outcome_before Finishing c is = is

  -- what may be left before a step may be left within it
  pub before_within : (o : Option Stage) (c : List ℕ) → LeftBefore v old new o c → LeftWithin v old new o c
  before_within None c left = left
  before_within (Some (Recording i)) c left = left
  before_within (Some (Describing i)) c left = left
  before_within (Some SyncingRecords) c left = left
  before_within (Some Opening) c left = inl left
  before_within (Some Committing) c left = left
  before_within (Some (Applying i)) c left = left
  before_within (Some SyncingHomes) c left = left
  before_within (Some Closing) c left = left
  before_within (Some Finishing) c left = left

  -- where a step writes, what a crash leaves within it is what one leaves after it
  after_within : (k d : ℕ) (s : Stage) (c : List ℕ) → s ≢ Committing → IsOutcome (next_of k d s) c
      → LeftWithin v old new (Some s) c
  after_within k d (Recording i) c other is =
      cond_both (i + 1 == k) (Describing 0) (Recording (i + 1)) (λ t. IsOutcome t c → Recovers v old c)
      (λ e found. elim found [ inl old_is ↦ old_is | inr new_is ↦ cc ])
      (λ e found. elim found [ inl old_is ↦ old_is | inr new_is ↦ cc ]) is
  after_within k d (Describing i) c other is =
      cond_both (i + 1 == d) SyncingRecords (Describing (i + 1)) (λ t. IsOutcome t c → Recovers v old c)
      (λ e found. elim found [ inl old_is ↦ old_is | inr new_is ↦ cc ])
      (λ e found. elim found [ inl old_is ↦ old_is | inr new_is ↦ cc ]) is
  after_within k d SyncingRecords c other (inl is) = is
  after_within k d SyncingRecords c other (inr is) = cc
  after_within k d Opening c other (inl is) = inl is
  after_within k d Opening c other (inr is) = inr is.1
  after_within k d Committing c other is = absurd (other refl)
  after_within k d (Applying i) c other is = cond_both (i + 1 == k) SyncingHomes (Applying (i + 1))
      (λ t. IsOutcome t c → Recovers v new c) (λ e found. found) (λ e found. found) is
  after_within k d SyncingHomes c other is = is
  after_within k d Closing c other is = is
  after_within k d Finishing c other is = is

  pub is_sync : (g : GeometryValue) (batch : Batch) (bytes : List ℕ) (s : Stage)
      → (work_at g batch bytes s ≡ Sync) ⊎ ((work_at g batch bytes s ≢ Sync) × (s ≢ Committing) × (s ≢ Finishing))
  is_sync g batch bytes (Recording i) = inr (λ e. cc, λ e. cc, λ e. cc)
  is_sync g batch bytes (Describing i) = inr (λ e. cc, λ e. cc, λ e. cc)
  is_sync g batch bytes SyncingRecords = inl refl
  is_sync g batch bytes Opening = inr (λ e. cc, λ e. cc, λ e. cc)
  is_sync g batch bytes Committing = inl refl
  is_sync g batch bytes (Applying i) = inr (λ e. cc, λ e. cc, λ e. cc)
  is_sync g batch bytes SyncingHomes = inl refl
  is_sync g batch bytes Closing = inr (λ e. cc, λ e. cc, λ e. cc)
  is_sync g batch bytes Finishing = inl refl

  pub step_within : (older newer : List Progress) (batch : Batch)
      (seen : List ℕ) (may : List ℕ → Type 0) (bytes : List ℕ) (s : Stage)
      → AreGoing (geometry_of v) (older ++ at batch s ∷ newer)
      → (s ≢ Finishing → AreGoing (geometry_of v) (older ++ at batch (next_in v.slots batch s) ∷ newer))
      → (s ≢ Finishing → IsPlaced older newer batch seen may bytes s)
      → ((t : Stage) → is_committed t ≡ true → is_under_way (older ++ at batch t ∷ newer) ≡ false)
      → IsTiedAt (older ++ at batch s ∷ newer) seen may → (c : List ℕ)
      → TornFromWork (work_at (geometry_of v) batch bytes s) may c
      → LeftWithin v old new (Some s) c
  step_within older newer batch seen may bytes s going going' placed none tied c torn =
      elim (is_sync (geometry_of v) batch bytes s) [
        | inl syncs ↦ before_within (Some s) c (outcome_before s c (outcome older newer batch s seen c may going
            (none s) tied (subst (λ (work : Work). TornFromWork work may c) syncs torn)))
        | inr writes ↦
            (let s' = next_in v.slots batch s in
            let may' = TornFromWork (work_at (geometry_of v) batch bytes s) may in
            let next = going' writes.2 in
            after_within (length batch.homes) (descriptor_blocks v.slots) s c writes.1
            (outcome older newer batch s' (worked seen (work_at (geometry_of v) batch bytes s)) c may' next (none s')
            (step_after older newer batch seen may bytes s may' (record { going = going; going' = next; tied = tied })
            (placed writes.2) (λ d t. t) (λ e d t. absurd (writes.0 e))) torn))
      ]
