-- What bytes recover to from which only commits can be read that the disk made.
use Rattle.std.proofs.Common.{◌≡◌, ◌⊎◌, inl, inr, ℕ, ◌+◌, ◌*◌, ◌-◌, ◌≤◌, Bool, true, false, List, [], ◌∷◌, ◌++◌}
use Rattle.std.proofs.Common.{length, map, drop, get_or, refl, sym, ap, subst, ◌∙◌, append_assoc, arith}
use Rattle.std.proofs.Common.{length-append, if◌then◌else◌}
use Rattle.std.specs.Prelude.{MatchBool}
use Rattle.std.proofs.lemmas.Bool.{cases_lt}
use Rattle.std.proofs.lemmas.List.{drop_at}
use Rattle.device.specs.Memory.{DiskChange, content_after, left_since_of}
use Rattle.device.specs.Memory.DiskChange.{write, sync}
use Rattle.volume_codec.specs.Descriptor.{DescriptorValue, IsDescriptor}
use Rattle.volume_codec.specs.Layout.{blocks_at, descriptor_block, descriptor_blocks, gate_block, journal_blocks}
use Rattle.volume_codec.specs.Layout.{record_block}
use Rattle.volume_codec.specs.Recovery.{Batch, IsOpenBatch, Recovers}
use Rattle.volume_codec.specs.Super.{SuperValue, geometry_of}
use Rattle.log_codec.specs.declared.sealing.Sealing.{Sealing}
use Rattle.log_codec.specs.declared.sealing.Sealing.TheVariants.{ByDigest}
use Rattle.log_codec.specs.Commit.{LogDescriptor}
use Rattle.log_codec.specs.Chain.{LogRecovers}
use Rattle.log_volume.specs.Super.{LogSuperValue, log_of}
use Rattle.log_commits.specs.Tail.{HoldsUpTo}
use Rattle.log_commits.specs.Commit.{committed_to}
use Rattle.log_commits.specs.Told.{ReadsMade, TellsTornBy, IsThis}
use Rattle.log_commits.proofs.Public.{told_end, told_next}
use Rattle.machine_log.specs.Serving.{volume_home}
use Rattle.machine_log.specs.Disk.{LogDiskValue}
use Rattle.machine_log.specs.Made.{IsCommitOf, IsTold, batch_homes, batch_records, gate_write, gates_opened, opens_gate}
use Rattle.machine_log.specs.inside.Keeping.{AreFollowed, IsHeld, OpensGate, RecoverAlike, StaysAlike, shown_contents}

-- ---- gates that were opened

gates_more : (newer : List DiskChange) (change : DiskChange) (older : List DiskChange) → opens_gate change ≡ true
    → gates_opened older + 1 ≤ gates_opened (newer ++ change ∷ older)
gates_more [] change older opens = omega (arith, ap {B = ℕ} (λ (b : Bool). if b then 1 else 0) opens)
gates_more (other ∷ newer) change older opens = omega (arith, gates_more newer change older opens)

-- the one that opens the gate after as many others
same_gate : (newer others : List DiskChange) (a b : DiskChange) (older rest : List DiskChange)
    → newer ++ a ∷ older ≡ others ++ b ∷ rest → opens_gate a ≡ true → opens_gate b ≡ true
    → gates_opened older ≡ gates_opened rest → (a ≡ b) × (older ≡ rest)
same_gate [] [] a b older rest is opens also same = (ap (λ (l : List DiskChange). get_or l 0 a) is, ap (drop 1) is)
same_gate [] (x ∷ others) a b older rest is opens also same =
    let more = gates_more others b rest also in
    absurd (omega (arith, same, more, ap gates_opened (ap (drop 1) is)))
same_gate (x ∷ newer) [] a b older rest is opens also same =
    let more = gates_more newer a older opens in
    absurd (omega (arith, same, more, ap gates_opened (ap (drop 1) is)))
same_gate (x ∷ newer) (y ∷ others) a b older rest is opens also same =
    same_gate newer others a b older rest (ap (drop 1) is) opens also same

-- two journals have two gates
gate_apart : (k i d : ℕ) → 1 + i * (1 + k) ≡ 1 + (i + 1 + d) * (1 + k) → ⊥
gate_apart k i d same = omega (arith, same)

one_gate : (slots i j : ℕ) → gate_block slots i ≡ gate_block slots j → i ≡ j
one_gate slots i j same = elim (cases_lt i j) [
  | inl less ↦
      (let k : ℕ = journal_blocks slots - 1 in
      let d : ℕ = j - i - 1 in
      let size : journal_blocks slots ≡ 1 + k = omega arith in
      let more : j ≡ i + 1 + d = omega (arith, less) in
      let G : ℕ → ℕ → Type 0 = λ s x. 1 + i * s ≡ 1 + x * s in
      absurd (gate_apart k i d (subst (λ s. G s (i + 1 + d)) size (subst (G (journal_blocks slots)) more same))))
  | inr most ↦ elim (cases_lt j i) [
    | inr least ↦ omega (arith, most, least)
    | inl less ↦
        (let k : ℕ = journal_blocks slots - 1 in
        let d : ℕ = i - j - 1 in
        let size : journal_blocks slots ≡ 1 + k = omega arith in
        let more : i ≡ j + 1 + d = omega (arith, less) in
        let G : ℕ → ℕ → Type 0 = λ s x. 1 + j * s ≡ 1 + x * s in
        absurd (gate_apart k j d (subst (λ s. G s (j + 1 + d)) size (subst (G (journal_blocks slots)) more (sym
        same)))))
  ]
]

abbrev offset : DiskChange → ℕ
offset (write at bytes) = at
offset sync = 0

same_block : (a b : ℕ) → 4096 * a ≡ 4096 * b → a ≡ b
same_block a b same = omega (arith, same)

-- ---- bytes that a crash left

module _ {D : Type 0} (self : LogDiskValue D) (begun : self.memory.start ≡ 0)
    (one_descriptor : (d e : DescriptorValue) (bytes : List ℕ) → IsDescriptor (geometry_of self.table) d bytes
    → IsDescriptor (geometry_of self.table) e bytes → d ≡ e)
    (c : List ℕ) (tells : IsTold self c) (key : ℕ) (digest : self.volume.sealing ≡ ByDigest key)
    (moment : ℕ) (w : List ℕ) (left : left_since_of self.memory moment w)
    (held : IsHeld self.volume self.table self.log_start self.memory.first self.memory.changes moment c w) where
  abbrev v : LogSuperValue
  v = self.volume

  abbrev t : SuperValue
  t = self.table

  abbrev n0 : ℕ
  n0 = self.log_start.number

  abbrev bytes_after : List DiskChange → List ℕ
  bytes_after older = content_after self.memory.first older

  abbrev older : List DiskChange
  older = held.older

  reads : ReadsMade (IsCommitOf self) (log_of v) n0 c
  reads = subst (λ (x : Sealing). TellsTornBy x (IsCommitOf self) (log_of v) n0 c) digest tells

  -- a crash of the disk since the moment might have left what it had after these changes
  left_at : (before newer : List DiskChange) → self.memory.changes ≡ before ++ (newer ++ older)
      → left_since_of self.memory moment (bytes_after (newer ++ older))
  left_at before [] is = subst (left_since_of self.memory moment) held.seen left
  left_at before (change ∷ newer) is =
      let late = held.late in
      let size : length self.memory.changes ≡ length before + length (change ∷ (newer ++ older)) =
      ap length is ∙ length-append before (change ∷ (newer ++ older)) in
      let more : length (newer ++ older) ≡ length newer + length older = length-append newer older in
      let rest : drop (length before) self.memory.changes ≡ change ∷ (newer ++ older) =
      ap (drop (length before)) is ∙ drop_at before (change ∷ (newer ++ older)) (length before) refl in (
        length before,
        omega (arith, size),
        omega (arith, size, more, late, begun),
        record {
          same_length = ap (λ (l : List DiskChange). length (bytes_after l)) (sym rest);
          synced = λ i none. ap (λ (l : List DiskChange). get_or (bytes_after l) i 0) (sym rest);
        },
      )

  abbrev Found : Type 0
  Found = (w : List ℕ) × left_since_of self.memory moment w × RecoverAlike v t c w

  abbrev Holds : List DiskChange → Type 0
  Holds changes = (contents : ℕ → List ℕ) × Recovers t (shown_contents v t contents) (bytes_after changes)
      × HoldsUpTo (log_of v) (n0 + gates_opened changes) contents c

  found : (changes : List DiskChange) → left_since_of self.memory moment (bytes_after changes)
      → (contents : ℕ → List ℕ) → Recovers t (shown_contents v t contents) (bytes_after changes)
      → LogRecovers (log_of v) contents c → Found
  found changes left contents recovers log = (
    bytes_after changes,
    left,
    record { contents = contents; first = held.text; volume = log; disk = recovers },
  )

  -- the commit of a gate
  abbrev this : List DiskChange → Batch → LogDescriptor
  this changes batch = record { number = n0 + gates_opened changes; homes = batch_homes v t batch }

  -- a commit with this number is that of this gate
  only : (before : List DiskChange) (change : DiskChange) (changes : List DiskChange)
      (is : self.memory.changes ≡ before ++ change ∷ changes)
      (g : OpensGate v t self.memory.first change changes) (d : LogDescriptor) (records : List ℕ)
      → opens_gate change ≡ true → IsCommitOf self d records → d.number ≡ n0 + gates_opened changes
      → IsThis (this changes g.batch) (batch_records t g.batch (bytes_after (change ∷ changes))) d records
  only before change changes is g d records opens made number =
      let same = same_gate made.newer before (gate_write t made.batch) change made.older changes (sym made.opened ∙ is)
      refl opens (omega (arith, number, made.number)) in
      let journal : made.batch.journal ≡ g.batch.journal = one_gate t.slots made.batch.journal g.batch.journal
      (same_block (gate_block t.slots made.batch.journal) (gate_block t.slots g.batch.journal)
      (ap offset (same.0 ∙ g.change_is))) in
      let there : gate_write t made.batch ∷ made.older ≡ change ∷ changes =
      ap (λ (x : DiskChange). x ∷ made.older) same.0 ∙ ap (λ (l : List DiskChange). change ∷ l) same.1 in
      let says : IsOpenBatch (geometry_of t) (bytes_after (change ∷ changes)) made.batch =
      subst (λ (l : List DiskChange). IsOpenBatch (geometry_of t) (bytes_after l) made.batch) there made.says in
      let Said : ℕ → Type 0 = λ j. IsDescriptor (geometry_of t)
      (record { mark = made.batch.mark; homes = made.batch.homes })
      (blocks_at (bytes_after (change ∷ changes)) (descriptor_block t.slots j) (descriptor_blocks t.slots)) in
      let one = one_descriptor (record { mark = made.batch.mark; homes = made.batch.homes })
      (record { mark = g.batch.mark; homes = g.batch.homes }) _ (subst Said journal says.descriptor)
      g.says.descriptor in
      let homes : made.batch.homes ≡ g.batch.homes = ap (λ (x : DescriptorValue). x.homes) one in (
        λ i. record {
          number = number i;
          homes = (made.homes ∙ ap (λ (l : List ℕ). map (volume_home v t) l) homes) i;
        },
        made.records_are
            ∙ ap (λ (l : List DiskChange). batch_records t made.batch (bytes_after l)) there
            ∙ ap (λ (j : ℕ). blocks_at (bytes_after (change ∷ changes)) (record_block t.slots j 0)
            (length made.batch.homes)) journal
            ∙ ap (λ (l : List ℕ). blocks_at (bytes_after (change ∷ changes)) (record_block t.slots g.batch.journal 0)
            (length l)) homes,
      )

  -- one change later
  step : (before : List DiskChange) (change : DiskChange) (newer : List DiskChange)
      → self.memory.changes ≡ before ++ change ∷ (newer ++ older)
      → MatchBool (opens_gate change) (OpensGate v t self.memory.first change (newer ++ older))
      (StaysAlike v t self.memory.first change (newer ++ older))
      → Holds (newer ++ older) → Found ⊎ Holds (change ∷ (newer ++ older))
  step before change newer is follows holds = by (opens_gate change) refl
    where
      changes : List DiskChange
      changes = newer ++ older

      by : (opens : Bool) → opens_gate change ≡ opens → Found ⊎ Holds (change ∷ (newer ++ older))
      by false closed = inr (
        holds.0,
        (subst (λ (b : Bool). MatchBool b (OpensGate v t self.memory.first change (newer ++ older))
            (StaysAlike v t self.memory.first change (newer ++ older))) closed follows) holds.0 holds.1,
        subst (λ (n : ℕ). HoldsUpTo (log_of v) n holds.0 c)
            (omega (arith, ap {B = ℕ} (λ (b : Bool). if b then 1 else 0) closed)) holds.2,
      )
      by true opens =
          let g : OpensGate v t self.memory.first change (newer ++ older) =
          subst (λ (b : Bool). MatchBool b (OpensGate v t self.memory.first change (newer ++ older))
          (StaysAlike v t self.memory.first change (newer ++ older))) opens follows in
          let records : List ℕ = batch_records t g.batch (bytes_after (change ∷ (newer ++ older))) in
          elim (told_next (log_of v) (n0 + gates_opened (newer ++ older)) holds.0 c holds.2 (IsCommitOf self) key n0
          digest reads (omega arith) (this (newer ++ older) g.batch) records refl
          (λ d others made number. only before change (newer ++ older) is g d others opens made number)) [
            | inl more ↦ inr (
              committed_to holds.0 (batch_homes v t g.batch) records,
              g.recovers holds.0 holds.1,
              subst (λ (n : ℕ). HoldsUpTo (log_of v) n (committed_to holds.0 (batch_homes v t g.batch) records) c)
                  (omega (arith, ap {B = ℕ} (λ (b : Bool). if b then 1 else 0) opens)) more,
            )
            | inr old ↦ inl (found (newer ++ older)
                (left_at (before ++ change ∷ []) newer
                (is ∙ sym (append_assoc before (change ∷ []) (newer ++ older)))) holds.0 holds.1 old)
          ]

  -- all changes since
  fold : (before newer : List DiskChange) → self.memory.changes ≡ before ++ (newer ++ older)
      → AreFollowed v t self.memory.first (newer ++ older) → Found ⊎ Holds (newer ++ older)
  fold before [] is followed = inr (
    held.contents,
    subst (Recovers t (shown_contents v t held.contents)) held.seen held.recovers,
    held.holds,
  )
  fold before (change ∷ newer) is followed =
      elim (fold (before ++ change ∷ []) newer (is ∙ sym (append_assoc before (change ∷ []) (newer ++ older)))
      followed.1) [
        | inl there ↦ inl there
        | inr holds ↦ step before change newer is followed.0 holds
      ]

  pub told : AreFollowed v t self.memory.first self.memory.changes → Found
  told followed = elim (fold [] held.newer held.parts
      (subst (AreFollowed v t self.memory.first) held.parts followed)) [
        | inl there ↦ there
        | inr holds ↦ found (held.newer ++ older) (left_at [] held.newer held.parts) holds.0 holds.1
            (told_end (log_of v) (n0 + gates_opened (held.newer ++ older)) holds.0 c holds.2 (IsCommitOf self) key n0
            digest reads (omega arith) (λ d records made number.
            let more = gates_more made.newer (gate_write t made.batch) made.older refl in
            omega (arith, number, made.number, more, ap gates_opened (sym made.opened ∙ held.parts))))
      ]
