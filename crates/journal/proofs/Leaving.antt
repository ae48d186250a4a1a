-- What a crash leaves recovers: bytes that differ from what a read finds in loose blocks alone.
use Rattle.std.proofs.Common.{◌≡◌, ◌≢◌, ℕ, ◌*◌, ◌<◌, ◌⊎◌, inl, inr, true, false, not, cond, ◌==◌, List}
use Rattle.std.proofs.Common.{[], ◌∷◌, ◌++◌, length, get_or, refl, sym, ap, ◌∙◌, subst, ⊎_elim, arith}
use Rattle.std.specs.Prelude.{MatchBool}
use Rattle.std.specs.List.{AllByRecursion, Contains}
use Rattle.std.proofs.lemmas.Bool.{both_ways, cases_eq, cond-false, or_left, or_right, or_cases, eq-eqb}
use Rattle.std.proofs.lemmas.List.{append-nil}
use Rattle.volume_codec.specs.Layout.{journals_of, gate_block, descriptor_blocks, record_block, block_at}
use Rattle.volume_codec.specs.Super.{SuperValue, geometry_of}
use Rattle.volume_codec.specs.Recovery.{Batch, IsOpen, IsNewer, has_journal, Recovers}
use Rattle.journal.specs.declared.stage.Stage.{Stage}
use Rattle.journal.specs.declared.stage.Stage.TheVariants.{Recording, Describing, SyncingRecords, Opening}
use Rattle.journal.specs.declared.stage.Stage.TheVariants.{Committing, Applying, SyncingHomes, Closing, Finishing}
use Rattle.journal.specs.Stage.{is_committed}
use Rattle.journal.specs.WriteOut.{IsBatch}
use Rattle.journal.specs.Recovered.{RecoversBy}
use Rattle.journal.specs.inside.Tied.{Progress, IsLeft, is_recording, is_switching, is_applying, is_durable}
use Rattle.journal.specs.inside.Tied.{is_open, durable_in, IsCovered, IsWritten, is_under_way, kept_in, IsSeen}
use Rattle.journal.proofs.Alls.{IsIn, all_map, all_each, all_in, all-append}
use Rattle.journal.proofs.RecoveredBlocks.{record_or-cases, covered_of}
use Rattle.journal.proofs.Recovering.{HoldsBy, holds_newest, holds_oldest, holds_recovers}
use Rattle.journal.proofs.Written.{home_at}
use Rattle.journal.proofs.Tying.{false_true, IsBefore, AreGoing, last_of, not_finishing}
use Rattle.journal.proofs.Firm.{durable_facts, applying_durable, durable_all, durable_there, has_in}
use Rattle.journal.proofs.Firm.{written_at, gate_firm, record_firm, home_firm}
use Rattle.journal.proofs.Firm.{not_at, gate_left, descriptor_left, holds_left}

pub recovers_of : (v : SuperValue) (opened : List Batch) (contents : ℕ → List ℕ) (c : List ℕ)
    → RecoversBy v opened contents c
    → Recovers v contents c
recovers_of v opened contents c r = record { batches = opened; volume = r.volume; contents_are = r.contents_are }

-- ---- stages

pub is_last : (stage : Stage) → (stage ≡ Finishing) ⊎ (stage ≢ Finishing)
is_last (Recording i) = inr (λ e. cc)
is_last (Describing i) = inr (λ e. cc)
is_last SyncingRecords = inr (λ e. cc)
is_last Opening = inr (λ e. cc)
is_last Committing = inr (λ e. cc)
is_last (Applying i) = inr (λ e. cc)
is_last SyncingHomes = inr (λ e. cc)
is_last Closing = inr (λ e. cc)
is_last Finishing = inl refl

is_committing : (stage : Stage) → (stage ≡ Committing) ⊎ (stage ≢ Committing)
is_committing (Recording i) = inr (λ e. cc)
is_committing (Describing i) = inr (λ e. cc)
is_committing SyncingRecords = inr (λ e. cc)
is_committing Opening = inr (λ e. cc)
is_committing Committing = inl refl
is_committing (Applying i) = inr (λ e. cc)
is_committing SyncingHomes = inr (λ e. cc)
is_committing Closing = inr (λ e. cc)
is_committing Finishing = inr (λ e. cc)

-- the gate is surely open, it is surely closed, or it changes
gate_cases : (s : Stage)
    → (is_durable s ≡ true) ⊎ ((is_switching s ≡ false) × (is_open s ≡ false)) ⊎ (s ≡ Committing) ⊎ (s ≡ Finishing)
gate_cases (Recording i) = inr (inl (refl, refl))
gate_cases (Describing i) = inr (inl (refl, refl))
gate_cases SyncingRecords = inr (inl (refl, refl))
gate_cases Opening = inr (inl (refl, refl))
gate_cases Committing = inr (inr (inl refl))
gate_cases (Applying i) = inl refl
gate_cases SyncingHomes = inl refl
gate_cases Closing = inl refl
gate_cases Finishing = inr (inr (inr refl))

-- one that has some stage, or none
find : (progress : List Progress)
    → ((w : Progress) × IsIn w progress × (w.stage ≡ Committing))
    ⊎ AllByRecursion (λ (q : Progress). q.stage ≢ Committing) progress
find [] = inr tt
find (p ∷ newer) = elim (is_committing p.stage) [
  | inl is ↦ inl (p, inl refl, is)
  | inr other ↦ elim (find newer) [
    | inl found ↦ inl (found.0, inr found.1, found.2)
    | inr none ↦ inr (other, none)
  ]
]

-- one that has this journal, or none
find_journal : (progress : List Progress) (j : ℕ)
    → ((p : Progress) × IsIn p progress × (p.batch.journal ≡ j))
    ⊎ AllByRecursion (λ (p : Progress). p.batch.journal ≢ j) progress
find_journal [] j = inr tt
find_journal (p ∷ newer) j = elim (cases_eq p.batch.journal j) [
  | inl is ↦ inl (p, inl refl, is)
  | inr other ↦ elim (find_journal newer j) [
    | inl found ↦ inl (found.0, inr found.1, found.2)
    | inr none ↦ inr (other, none)
  ]
]

covered_or : (batches : List Batch) (b : ℕ) → IsCovered batches b ⊎ (IsCovered batches b → ⊥)
covered_or [] b = inr (λ never. never)
covered_or (batch ∷ older) b = elim (record_or-cases 0 0 batch.homes b) [
  | inl at ↦ inl (inl (at.0, at.1, Rattle.std.proofs.lemmas.List.get_or_default batch.homes at.0 b 0 at.1 ∙ at.2))
  | inr none ↦ elim (covered_or older b) [
    | inl covered ↦ inl (inr covered)
    | inr bare ↦ inr (⊎_elim none.0 bare)
  ]
]

pub covered_front : (front rest : List Batch) (b : ℕ) → IsCovered front b → IsCovered (front ++ rest) b
covered_front [] rest b covered = absurd covered
covered_front (x ∷ front) rest b (inl has) = inl has
covered_front (x ∷ front) rest b (inr later) = inr (covered_front front rest b later)

pub newer_than : (batch : Batch) (batches : List Batch) → AllByRecursion (λ (b : Batch). b.mark < batch.mark) batches
    → IsNewer batch batches
newer_than batch [] all = tt
newer_than batch (next ∷ older) all = all.0

has_push : (front : List Batch) (batch : Batch) (j : ℕ) → has_journal front j ≡ true
    → has_journal (front ++ batch ∷ []) j ≡ true
has_push [] batch j has = false_true has
has_push (x ∷ front) batch j has = elim (or_cases (x.journal == j) (has_journal front j) has) [
  | inl here ↦ or_left (x.journal == j) (has_journal (front ++ batch ∷ []) j) here
  | inr later ↦ or_right (x.journal == j) (has_journal (front ++ batch ∷ []) j) (has_push front batch j later)
]

has_last : (front : List Batch) (batch : Batch) (j : ℕ) → batch.journal ≡ j → has_journal (front ++ batch ∷ []) j ≡ true
has_last [] batch j e = or_left (batch.journal == j) false (eq-eqb batch.journal j e)
has_last (x ∷ front) batch j e =
    or_right (x.journal == j) (has_journal (front ++ batch ∷ []) j) (has_last front batch j e)

-- one that isn't committed
pub under_way : (progress : List Progress) (w : Progress) → IsIn w progress → is_committed w.stage ≡ false
    → is_under_way progress ≡ true
under_way [] w there early = absurd there
under_way (p ∷ newer) w (inl same) early = or_left (not (is_committed p.stage)) (is_under_way newer)
    (ap not (ap (λ (x : Progress). is_committed x.stage) same ∙ early))
under_way (p ∷ newer) w (inr later) early =
    or_right (not (is_committed p.stage)) (is_under_way newer) (under_way newer w later early)

-- ---- what is found after a crash

-- the gate of a batch opens
pub record IsGateOpening (progress : List Progress) : Type 0 where
  pub it : Progress
  pub there : IsIn it progress
  pub stage : it.stage ≡ Committing

module _ (v : SuperValue) (progress : List Progress) (going : AreGoing (geometry_of v) progress) (old new : ℕ → List ℕ)
    (seen c : List ℕ)
    (s : IsSeen v progress old new seen) (l : IsLeft v.slots progress seen c) where
  batch_of : (p : Progress) → IsIn p progress → IsBatch (geometry_of v) p.batch
  batch_of p there = all_in (λ (q : Progress). IsBatch (geometry_of v) q.batch) progress p going.each there

  -- these are batches of open gates: with them the contents are those of committed batches; every gate that is open has
  -- one, but perhaps one that isn't committed
  record IsFound (opened : List Batch) : Type 0 where
    pub holds : HoldsBy v opened (kept_in progress old new) c
    pub queued : AllByRecursion
        (λ (q : Progress).
        q.stage ≢ Committing → IsOpen c v.slots q.batch.journal → has_journal opened q.batch.journal ≡ true)
        progress
    pub lower : (w : Progress) → IsIn w progress → is_committed w.stage ≡ false
        → AllByRecursion (λ (b : Batch). b.mark < w.batch.mark) opened

  -- a batch of which a newer one is under way
  below : (w : Progress) → IsIn w progress → is_committed w.stage ≡ false
      → (p : Progress) → IsIn p progress → is_committed p.stage ≡ true
      → p.batch.mark < w.batch.mark
  below w there early p there_p late = elim (all_in (λ (q : Progress). (q ≡ w) ⊎ IsBefore q w) progress p
      (last_of progress w going.ordered early there) there_p) [
        | inl same ↦
            absurd
            (both_ways (is_committed w.stage) early (ap (λ (x : Progress). is_committed x.stage) (sym same) ∙ late))
        | inr before ↦ before.marks
      ]

  durable_lower : (w : Progress) → IsIn w progress → is_committed w.stage ≡ false
      → AllByRecursion (λ (b : Batch). b.mark < w.batch.mark) (durable_in progress)
  durable_lower w there early = durable_all (λ (b : Batch). b.mark < w.batch.mark) progress
      (all_each (λ (p : Progress). is_durable p.stage ≡ true → p.batch.mark < w.batch.mark) progress
      (λ p there_p durable. below w there early p there_p (durable_facts p.stage durable).4))

  -- every gate that is open, but perhaps that of one that isn't committed, has one of these batches
  queued_by : (opened : List Batch)
      → ((q : Progress) → IsIn q progress → is_durable q.stage ≡ true → has_journal opened q.batch.journal ≡ true)
      → ((q : Progress) → IsIn q progress → q.stage ≡ Finishing
      → IsOpen c v.slots q.batch.journal → has_journal opened q.batch.journal ≡ true)
      → AllByRecursion (λ (q : Progress).
      q.stage ≢ Committing → IsOpen c v.slots q.batch.journal → has_journal opened q.batch.journal ≡ true) progress
  queued_by opened durable last = all_each (λ (q : Progress).
      q.stage ≢ Committing → IsOpen c v.slots q.batch.journal → has_journal opened q.batch.journal ≡ true)
      progress (λ q there other opens.
      elim (gate_cases q.stage) [
        | inl is ↦ durable q there is
        | inr (inl is) ↦
            (let w = (written_at v new seen progress q s.written there).1 in
            absurd (subst (λ b.
            MatchBool b (IsOpen seen v.slots q.batch.journal) (IsOpen seen v.slots q.batch.journal → ⊥)) is.1 w.gate
            (gate_left v progress going old new seen c s l q.batch.journal (gate_firm v progress going q.batch.journal
            (batch_of q there).there (not_at v progress going is_switching q there is.0)) opens)))
        | inr (inr (inl is)) ↦ absurd (other is)
        | inr (inr (inr is)) ↦ last q there is opens
      ])

  durable_has : (q : Progress) → IsIn q progress → is_durable q.stage ≡ true
      → has_journal (durable_in progress) q.batch.journal ≡ true
  durable_has q there is = has_in (durable_in progress) q.batch (durable_there progress q there is)

  -- where no gate that closes is open
  found_durable : ((q : Progress) → IsIn q progress → q.stage ≡ Finishing → IsOpen c v.slots q.batch.journal → ⊥)
      → IsFound (durable_in progress)
  found_durable shut = record {
    holds = holds_left v progress going old new seen c s l;
    queued = queued_by (durable_in progress) durable_has (λ q there is opens. absurd (shut q there is opens));
    lower = durable_lower;
  }

  -- where the gate of a batch is open that closes: all its home blocks are written
  home_or : (p : Progress) (newer : List Batch) → IsIn p progress → p.stage ≡ Finishing → IsWritten v new newer p seen
      → ((b : ℕ) → IsCovered newer b → IsCovered (durable_in progress) b) → (i : ℕ) → i < length p.batch.homes
      → IsCovered (durable_in progress) (get_or p.batch.homes i 0)
      ⊎ (block_at c (get_or p.batch.homes i 0) ≡ block_at c (record_block v.slots p.batch.journal i))
  home_or p newer there is w within i lt =
      let x = get_or p.batch.homes i 0 in
      let is_batch = batch_of p there in
      let all : i < Rattle.journal.specs.inside.Tied.applied (length p.batch.homes) p.stage =
      subst (λ (t : Stage). i < Rattle.journal.specs.inside.Tied.applied (length p.batch.homes) t) (sym is) lt in
      elim (covered_or (durable_in progress) x) [
        | inl covered ↦ inl covered
        | inr bare ↦ elim (w.homes i lt all) [
          | inl covered ↦ inl (within x covered)
          | inr same ↦ inr (
              l.firm x
              (home_firm v progress going x (home_at (geometry_of v) p.batch.homes i is_batch.described.homes lt)
              (λ q there_q applying has. bare (covered_of (durable_in progress) q.batch x
              (durable_there progress q there_q (applying_durable q.stage applying)) has)))
              ∙ same
              ∙ sym (l.firm (record_block v.slots p.batch.journal i) (record_firm v progress going p.batch.journal i
              is_batch.there (omega (arith, lt, is_batch.described.homes.few))
              (not_at v progress going is_recording p there (ap is_recording is)))))
        ]
      ]

  found_closing : (p : Progress) (newer : List Batch) → IsIn p progress → p.stage ≡ Finishing
      → IsWritten v new newer p seen → ((b : ℕ) → IsCovered newer b → IsCovered (durable_in progress) b)
      → AllByRecursion (λ (b : Batch). p.batch.mark < b.mark) (durable_in progress)
      → ((q : Progress) → IsIn q progress → q.stage ≡ Finishing → q ≡ p) → IsOpen c v.slots p.batch.journal
      → IsFound (durable_in progress ++ p.batch ∷ [])
  found_closing p newer there is w within lower only opens = record {
    holds = holds_oldest v (durable_in progress) p.batch (kept_in progress old new) c
        (holds_left v progress going old new seen c s l)
        (record {
          there = is_batch.there;
          gate = opens;
          descriptor = record {
            described = is_batch.described;
            spelled = descriptor_left v progress going old new seen c s l p there (ap is_recording is)
                (ap (Rattle.journal.specs.inside.Tied.described (descriptor_blocks v.slots)) is);
          };
        }) lower (home_or p newer there is w within);
    queued = queued_by (durable_in progress ++ p.batch ∷ [])
        (λ q there_q durable. has_push (durable_in progress) p.batch q.batch.journal (durable_has q there_q durable))
        (λ q there_q last opened. has_last (durable_in progress) p.batch q.batch.journal
        (ap (λ (x : Progress). x.batch.journal) (sym (only q there_q last))));
    lower = λ x there_x early.
        all-append (λ (b : Batch). b.mark < x.batch.mark) (durable_in progress) (p.batch ∷ [])
        (durable_lower x there_x early)
        (below x there_x early p there (ap is_committed is), tt);
  }
    where
      is_batch : IsBatch (geometry_of v) p.batch
      is_batch = batch_of p there

  -- ---- with the batch that isn't committed

  all_queued : (opened : List Batch)
      → AllByRecursion (λ (q : Progress). IsOpen c v.slots q.batch.journal → has_journal opened q.batch.journal ≡ true)
      progress
      → (j : ℕ) → j < journals_of v.layout → IsOpen c v.slots j
      → has_journal opened j ≡ true
  all_queued opened queued j lt opens = elim (find_journal progress j) [
    | inl found ↦ subst (λ k. has_journal opened k ≡ true) found.2
        (all_in (λ (q : Progress). IsOpen c v.slots q.batch.journal → has_journal opened q.batch.journal ≡ true)
        progress found.0 queued found.1 (subst (IsOpen c v.slots) (sym found.2) opens))
    | inr none ↦
        absurd (s.shut j lt none (gate_left v progress going old new seen c s l j (gate_firm v progress going j lt
        (all_map {P = λ (p : Progress). p.batch.journal ≢ j}
        {Q = λ (p : Progress). is_switching p.stage ≡ true → p.batch.journal ≢ j} (λ p other sw. other) progress none))
        opens))
  ]

  -- any other one is committed
  others_queued : (w : Progress) → IsIn w progress → w.stage ≡ Committing → (opened : List Batch)
      → IsFound opened → (more : List Batch) → ((j : ℕ) → has_journal opened j ≡ true → has_journal more j ≡ true)
      → (IsOpen c v.slots w.batch.journal → has_journal more w.batch.journal ≡ true)
      → AllByRecursion (λ (q : Progress). IsOpen c v.slots q.batch.journal → has_journal more q.batch.journal ≡ true)
      progress
  others_queued w there is opened found more in_more own =
      all_each (λ (q : Progress). IsOpen c v.slots q.batch.journal → has_journal more q.batch.journal ≡ true) progress
      (λ q there_q opens.
      elim (all_in (λ (x : Progress). (x ≡ w) ⊎ IsBefore x w) progress q
      (last_of progress w going.ordered (ap is_committed is) there) there_q) [
        | inl same ↦
            subst (λ (x : Progress). IsOpen c v.slots x.batch.journal → has_journal more x.batch.journal ≡ true)
            (sym same) own opens
        | inr before ↦ in_more q.batch.journal
            (all_in (λ (x : Progress).
            x.stage ≢ Committing → IsOpen c v.slots x.batch.journal → has_journal opened x.batch.journal ≡ true)
            progress q found.queued there_q
            (λ e. both_ways (is_committed q.stage) (ap is_committed e) before.committed) opens)
      ])

  with_newest : (w : Progress) → IsIn w progress → w.stage ≡ Committing
      → (opened : List Batch) → IsFound opened → IsOpen c v.slots w.batch.journal
      → HoldsBy v (w.batch ∷ opened) new c
  with_newest w there is opened found opens =
      let is_batch = batch_of w there in
      let written = (written_at v new seen progress w s.written there).1 in
      let firm = not_at v progress going is_recording w there (ap is_recording is) in
      let early : is_committed w.stage ≡ false = ap is_committed is in
      let kept : kept_in progress old new ≡ old = ap (λ b. cond b old new) (under_way progress w there early) in
      holds_newest v opened old new w.batch c
      (subst (λ (f : ℕ → List ℕ). HoldsBy v opened f c) kept found.holds) is_batch
      (newer_than w.batch opened (found.lower w there early)) opens
      (descriptor_left v progress going old new seen c s l w there (ap is_recording is)
      (ap (Rattle.journal.specs.inside.Tied.described (descriptor_blocks v.slots)) is))
      (λ i lt. l.firm (record_block v.slots w.batch.journal i) (record_firm v progress going w.batch.journal i
      is_batch.there (omega (arith, lt, is_batch.described.homes.few)) firm)
      ∙ written.records i lt
      (subst (λ (t : Stage). i < Rattle.journal.specs.inside.Tied.recorded (length w.batch.homes) t) (sym is) lt))
      (all_in (λ (p : Progress).
      is_committed p.stage ≡ false → (b : ℕ) → (Contains p.batch.homes b → ⊥) → new b ≡ old b)
      progress w s.outside there early)

  recovers_found : (opened : List Batch) → IsFound opened
      → Recovers v (kept_in progress old new) c ⊎ (IsGateOpening progress × Recovers v new c)
  recovers_found opened found = elim (find progress) [
    | inr none ↦ inl (recovers_of v opened (kept_in progress old new) c
        (holds_recovers v opened (kept_in progress old new) c found.holds (all_queued opened
        (Rattle.journal.proofs.Alls.all_both {P = λ (q : Progress). q.stage ≢ Committing} {Q = λ (q : Progress).
        q.stage ≢ Committing → IsOpen c v.slots q.batch.journal → has_journal opened q.batch.journal ≡ true}
        {R = λ (q : Progress). IsOpen c v.slots q.batch.journal → has_journal opened q.batch.journal ≡ true}
        (λ q other queued. queued other) progress none found.queued))))
    | inl w ↦ elim (cases_eq (get_or c (4096 * gate_block v.slots w.0.batch.journal) 0) 0xA7) [
      | inl opens ↦ inr (
        record { it = w.0; there = w.1; stage = w.2 },
        recovers_of v (w.0.batch ∷ opened) new c
            (holds_recovers v (w.0.batch ∷ opened) new c (with_newest w.0 w.1 w.2 opened found opens)
            (all_queued (w.0.batch ∷ opened) (others_queued w.0 w.1 w.2 opened found (w.0.batch ∷ opened)
            (λ j has. or_right (w.0.batch.journal == j) (has_journal opened j) has)
            (λ is. or_left (w.0.batch.journal == w.0.batch.journal) (has_journal opened w.0.batch.journal)
            (eq-eqb w.0.batch.journal w.0.batch.journal refl))))),
      )
      | inr shut ↦ inl (recovers_of v opened (kept_in progress old new) c
          (holds_recovers v opened (kept_in progress old new) c found.holds
          (all_queued opened (others_queued w.0 w.1 w.2 opened found opened (λ j has. has) (λ is. absurd (shut is))))))
    ]
  ]

-- A crash leaves what recovers to the contents by committed batches, or to New where a gate opens. (The gate of the
-- oldest is the only one that closes.)
pub left_recovers : (v : SuperValue) (progress : List Progress)
    (going : AreGoing (geometry_of v) progress) (old new : ℕ → List ℕ) (seen c : List ℕ)
    → IsSeen v progress old new seen → IsLeft v.slots progress seen c
    → Recovers v (kept_in progress old new) c ⊎ (IsGateOpening progress × Recovers v new c)
left_recovers v [] going old new seen c s l = recovers_found v [] going old new seen c s l []
    (found_durable v [] going old new seen c s l (λ q there is opens. there))
left_recovers v (p ∷ newer) going old new seen c s l = elim (is_last p.stage) [
  | inr other ↦ recovers_found v (p ∷ newer) going old new seen c s l (durable_in (p ∷ newer))
      (found_durable v (p ∷ newer) going old new seen c s l (λ q there is opens. none_last other q there is))
  | inl is ↦ elim (cases_eq (get_or c (4096 * gate_block v.slots p.batch.journal) 0) 0xA7) [
    | inr shut ↦ recovers_found v (p ∷ newer) going old new seen c s l (durable_in (p ∷ newer))
        (found_durable v (p ∷ newer) going old new seen c s l
        (λ q there last opens.
        shut (subst (λ (x : Progress). IsOpen c v.slots x.batch.journal) (only q there last) opens)))
    | inl opens ↦ recovers_found v (p ∷ newer) going old new seen c s l (durable_in (p ∷ newer) ++ p.batch ∷ [])
        (found_closing v (p ∷ newer) going old new seen c s l p (durable_in newer) (inl refl) is s.written.0
        (λ b covered. covered_front (durable_in newer) (cond (is_durable p.stage) (p.batch ∷ []) []) b covered)
        (all-append (λ (b : Batch). p.batch.mark < b.mark) (durable_in newer)
        (cond (is_durable p.stage) (p.batch ∷ []) [])
        (durable_all (λ (b : Batch). p.batch.mark < b.mark) newer
        (all_map {P = IsBefore p} {Q = λ (q : Progress). is_durable q.stage ≡ true → p.batch.mark < q.batch.mark}
        (λ q before durable. before.marks) newer going.ordered.0))
        (subst (AllByRecursion (λ (b : Batch). p.batch.mark < b.mark))
        (sym (cond-false (is_durable p.stage) (p.batch ∷ []) [] (ap is_durable is))) tt))
        only opens)
  ]
]
  where
    only : (q : Progress) → IsIn q (p ∷ newer) → q.stage ≡ Finishing → q ≡ p
    only q (inl same) last = sym same
    only q (inr later) last = absurd
        (all_in (λ (x : Progress). x.stage ≢ Finishing) newer q (not_finishing p newer going.ordered.0) later last)

    none_last : p.stage ≢ Finishing → (q : Progress) → IsIn q (p ∷ newer) → q.stage ≡ Finishing → ⊥
    none_last other q there last = other (ap (λ (x : Progress). x.stage) (sym (only q there last)) ∙ last)

-- where all gates are surely open, what a read finds recovers by their batches
pub seen_recovers : (v : SuperValue) (progress : List Progress)
    (going : AreGoing (geometry_of v) progress) (old new : ℕ → List ℕ) (seen : List ℕ)
    → AllByRecursion (λ (p : Progress). is_durable p.stage ≡ true) progress → IsSeen v progress old new seen
    → RecoversBy v (durable_in progress) (kept_in progress old new) seen
seen_recovers v progress going old new seen durable s =
    let l : IsLeft v.slots progress seen seen = record { same_length = refl; firm = λ b is. refl } in
    holds_recovers v (durable_in progress) (kept_in progress old new) seen
    (holds_left v progress going old new seen seen s l)
    (all_queued v progress going old new seen seen s l (durable_in progress) (all_each (λ (q : Progress).
    IsOpen seen v.slots q.batch.journal → has_journal (durable_in progress) q.batch.journal ≡ true) progress
    (λ q there opens. has_in (durable_in progress) q.batch
    (durable_there progress q there (all_in (λ (p : Progress). is_durable p.stage ≡ true) progress q durable there)))))
