-- What a volume recovers to once a block is written, a gate opens, or the gate of the oldest batch closes.
use Rattle.std.proofs.Common.{◌≡◌, ◌≢◌, ℕ, suc, ◌+◌, ◌*◌, ◌<◌, ◌≤◌, false, List, [], ◌∷◌, ◌++◌, length}
use Rattle.std.proofs.Common.{Option, Some, None, inl, inr, refl, sym, ap, subst, ◌∙◌, arith, get_or, eqb, ◌==◌}
use Rattle.std.specs.List.{AllByRecursion, Contains}
use Rattle.std.proofs.lemmas.Bool.{cases_eq, cases_Bool, cond-true, cond-false}
use Rattle.std.proofs.lemmas.Bool.{eq-eqb, ne_eqb, both_ways, or_left, or_right}
use Rattle.std.proofs.lemmas.List.{get_or_default}
use Rattle.device.specs.Device.{written}
use Rattle.volume_codec.specs.Layout.{GeometryValue, IsHome, block_at, journals_of, gate_block, first_home}
use Rattle.volume_codec.specs.Layout.{descriptor_block, record_block}
use Rattle.volume_codec.specs.Super.{SuperValue, block_count, geometry_of}
use Rattle.volume_codec.specs.Recovery.{Batch, IsOpenBatch, has_journal, IsVolume, contents_in}
use Rattle.volume_codec.specs.Recovery.{recovered_block}
use Rattle.volume_codec.specs.Descriptor.{RiseWithin}
use Rattle.kept_blocks.specs.Blocks.{Blocks, bytes_in, with_home}
use Rattle.kept_blocks.proofs.Public.{bytes_put}
use Rattle.journal.specs.Recovered.{RecoversBy, IsUnread}
use Rattle.journal.proofs.Public.{all_at, all_back, SameBut, same_but_torn, torn-written, block-written}
use Rattle.journal.proofs.Public.{first-written, AreHome, agrees_recovers, unread_agrees, unread_record}
use Rattle.journal.proofs.Public.{unread_descriptor, unread_home, gate_opens, gate_closes, gate-below}
use Rattle.journal.proofs.Public.{descriptor-below, record-below, gate_no_descriptor, gate_no_record}
use Rattle.journal.proofs.Public.{home_at, descriptor_there, gates_apart, has_front}
use Rattle.machine_log.specs.Shown.{ShownValue, HasShown, IsNoGate, StaysShown, HasHomeBlock}
use Rattle.machine_log.specs.Shown.{IsAdmitted, MayOpen, HasRecords, OpensShown}
use Rattle.machine_log.specs.inside.Closing.{AreHomeBy, ClosesOldest}
use Rattle.machine_log.proofs.Records.{one_has, covered}

some_is : {X : Type 0} {x y : X} → Some x ≡ Some y → x ≡ y
some_is {X} {x} {y} e = ap (λ (o : Option X). elim o [ None ↦ x | Some z ↦ z ]) e

-- the block of a record of the newest batch, and that of a home block of which it has none
abbrev RecordOfNewest : Type 0
RecordOfNewest = (slots low high : ℕ) (batch : Batch) (older : List Batch) (i : ℕ) → RiseWithin low high batch.homes
    → i < length batch.homes
    → recovered_block slots (batch ∷ older) (get_or batch.homes i 0) ≡ record_block slots batch.journal i

abbrev NoRecord : Type 0
NoRecord = (slots b : ℕ) (batch : Batch) (older : List Batch) → AllByRecursion (λ home. home ≢ b) batch.homes
    → recovered_block slots (batch ∷ older) b ≡ recovered_block slots older b

pub all_other : (homes : List ℕ) (b : ℕ) → (Contains homes b → ⊥) → AllByRecursion (λ home. home ≢ b) homes
all_other [] b not = tt
all_other (home ∷ homes) b not = (
  λ e. not (0, omega arith, e),
  all_other homes b (λ has. not (suc has.0, omega (arith, has.1), has.2)),
)

-- a journal that none of these batches has
not_has : (batch : Batch) (older : List Batch) (j : ℕ) → has_journal (batch ∷ older) j ≡ false
    → has_journal older j ≡ false
not_has batch older j none = elim (cases_Bool (has_journal older j)) [
  | inl has ↦ absurd (both_ways (has_journal (batch ∷ older) j) none
      (or_right (batch.journal == j) (has_journal older j) has))
  | inr not ↦ not
]

not_has_last : (t : SuperValue) (newer : List Batch) (oldest : Batch) (j : ℕ) → has_journal newer j ≡ false
    → (j ≡ oldest.journal → ⊥)
    → has_journal (newer ++ oldest ∷ []) j ≡ false
not_has_last t newer oldest j none other = elim (cases_Bool (has_journal (newer ++ oldest ∷ []) j)) [
  | inl has ↦ absurd (both_ways (has_journal newer j) none (has_front t newer oldest j (λ e. other (sym e)) has))
  | inr not ↦ not
]

-- what volumes of one geometry have in common
abbrev as_shown : SuperValue → Blocks → List Batch → ShownValue
as_shown t blocks opened = record { geometry = geometry_of t; blocks = blocks; opened = opened }

module _ (t : SuperValue) (blocks : Blocks) (opened : List Batch) (seen : List ℕ)
    (h : HasShown t (as_shown t blocks opened) seen) where
  abbrev s : ShownValue
  s = as_shown t blocks opened

  own : RecoversBy t opened (contents_in t.slots opened seen) seen
  own = record { volume = h.volume; contents_are = λ b home. refl }

  -- ---- blocks that are written

  within_volume : (b : ℕ) → b < block_count t → 4096 * b + 4096 ≤ length seen
  within_volume b lt = omega (arith, h.long, lt)

  homes_low : first_home t.layout t.slots ≤ block_count t
  homes_low = omega arith

  of_home : (b : ℕ) → HasHomeBlock opened b → IsHome (geometry_of t) b
  of_home b has =
      let one = one_has opened b has in
      let is = all_at (IsOpenBatch (geometry_of t) seen) opened one.0 h.volume.journals.each one.1 in
      let at = one.2 in
      let home = home_at (geometry_of t) one.0.homes at.0 is.descriptor.described.homes at.1 in
      subst (IsHome (geometry_of t)) (place one.0.homes at.0 b at.1 at.2) home
    where
      place : (homes : List ℕ) (i b : ℕ) → i < length homes → get_or homes i b ≡ b → get_or homes i 0 ≡ b
      place homes i b lt e = get_or_default homes i 0 b lt ∙ e

  is_low : (b : ℕ) → IsAdmitted s b → b < block_count t
  is_low b (inl (j, lt, closed, inl (i, within, e))) =
      omega (arith, e, descriptor-below t.layout t.slots j i lt within, homes_low)
  is_low b (inl (j, lt, closed, inr (i, within, e))) =
      omega (arith, e, record-below t.layout t.slots j i lt within, homes_low)
  is_low b (inr has) = (of_home b has).high

  unread : (b : ℕ) → IsAdmitted s b → IsUnread t opened b
  unread b (inl (j, lt, closed, inl (i, within, e))) =
      subst (IsUnread t opened) (sym e) (unread_descriptor t opened seen j i h.volume lt within closed)
  unread b (inl (j, lt, closed, inr (i, within, e))) =
      subst (IsUnread t opened) (sym e) (unread_record t opened seen j i h.volume lt within closed)
  unread b (inr has) =
      let one = one_has opened b has in
      unread_home t opened seen one.0 b h.volume one.1 one.2 (of_home b has)

  no_gate : (b : ℕ) → IsAdmitted s b → IsNoGate (geometry_of t) b
  no_gate b (inl (j, lt, closed, inl (i, within, e))) k there same =
      gate_no_descriptor t.slots k j i within (sym same ∙ e)
  no_gate b (inl (j, lt, closed, inr (i, within, e))) k there same =
      gate_no_record t.slots k j i within (sym same ∙ e)
  no_gate b (inr has) k there same =
      absurd (omega (arith, same, (of_home b has).low, gate-below t.layout t.slots k there))

  module _ (b : ℕ) (block : List ℕ) (admitted : IsAdmitted s b) (size : length block ≡ 4096) where
    abbrev after : List ℕ
    after = written seen (4096 * b) block

    fits : 4096 * b + length block ≤ length seen
    fits = omega (arith, size, within_volume b (is_low b admitted))

    same : SameBut b seen after
    same = same_but_torn b (length block) seen after (omega (arith, size)) (torn-written (4096 * b) block seen fits)

    write_recovers : (contents : ℕ → List ℕ) → RecoversBy t opened contents seen → RecoversBy t opened contents after
    write_recovers contents r =
        agrees_recovers t opened contents seen after r (unread_agrees t opened seen after b (unread b admitted) same)

    kept_written : (q : ℕ) (bytes : List ℕ) → bytes_in (with_home blocks b block) q ≡ Some bytes
        → IsNoGate (geometry_of t) q × (block_at after q ≡ bytes)
    kept_written q bytes is = elim (cases_eq q b) [
      | inl here ↦
          (let new : Some block ≡ Some bytes =
          sym (cond-true (eqb q b) (Some block) (bytes_in blocks q) (eq-eqb q b here))
          ∙ sym (bytes_put blocks b block q)
          ∙ is in (
            subst (IsNoGate (geometry_of t)) (sym here) (no_gate b admitted),
            ap (block_at after) here ∙ block-written b block seen size (within_volume b (is_low b admitted))
                ∙ some_is new,
          ))
      | inr other ↦
          (let old : bytes_in blocks q ≡ Some bytes =
          sym (cond-false (eqb q b) (Some block) (bytes_in blocks q) (ne_eqb q b other))
          ∙ sym (bytes_put blocks b block q) ∙ is in
          let was = h.kept q bytes old in
          (was.0, same.blocks q other ∙ was.1))
    ]

    write_shown : HasShown t (as_shown t (with_home blocks b block) opened) after
    write_shown = record {
      geometry = refl;
      long = same.same_length ∙ h.long;
      volume = (write_recovers (contents_in t.slots opened seen) own).volume;
      closed = λ j lt none. same.firsts (gate_block t.slots j) (λ e. no_gate b admitted j lt (sym e))
          ∙ h.closed j lt none;
      kept = kept_written;
    }

  -- ---- gates

  module _ (j byte : ℕ) (lt : j < journals_of t.layout) where
    abbrev turned : List ℕ
    turned = written seen (4096 * gate_block t.slots j) (byte ∷ [])

    gate_fits : 4096 * gate_block t.slots j + 1 ≤ length seen
    gate_fits = omega (
      arith,
      within_volume (gate_block t.slots j)
          (omega (arith, gate-below t.layout t.slots j lt, homes_low)),
    )

    gate_same : SameBut (gate_block t.slots j) seen turned
    gate_same = same_but_torn (gate_block t.slots j) 1 seen turned (omega arith)
        (torn-written (4096 * gate_block t.slots j) (byte ∷ []) seen gate_fits)

    gate_byte_is : get_or turned (4096 * gate_block t.slots j) 0 ≡ byte
    gate_byte_is = first-written (gate_block t.slots j) byte seen gate_fits

    -- blocks that are kept, or some of them, are as before
    gate_kept : (some : Blocks)
        → ((q : ℕ) (bytes : List ℕ) → bytes_in some q ≡ Some bytes → bytes_in blocks q ≡ Some bytes)
        → (q : ℕ) (bytes : List ℕ) → bytes_in some q ≡ Some bytes
        → IsNoGate (geometry_of t) q × (block_at turned q ≡ bytes)
    gate_kept some fewer q bytes is =
        let was = h.kept q bytes (fewer q bytes is) in
        (was.0, gate_same.blocks q (was.0 j lt) ∙ was.1)

  module _ (batch : Batch) (may : MayOpen s batch) where
    abbrev opened_bytes : List ℕ
    opened_bytes = turned batch.journal 0xA7 may.is_batch.there

    open_recovers' : (before after : ℕ → List ℕ) → RecoversBy t opened before seen
        → ((i : ℕ) → i < length batch.homes
        → block_at seen (record_block t.slots batch.journal i) ≡ after (get_or batch.homes i 0))
        → ((b : ℕ) → (Contains batch.homes b → ⊥) → after b ≡ before b)
        → RecoversBy t (batch ∷ opened) after opened_bytes
    open_recovers' before after r records others =
        gate_opens t opened before after batch seen opened_bytes r may.is_batch may.newer may.closed
        (descriptor_there (geometry_of t) batch seen may.is_batch
        (λ i lt. (h.kept (descriptor_block t.slots batch.journal + i) _ (may.described i lt)).1))
        records others (gate_same batch.journal 0xA7 may.is_batch.there)
        (gate_byte_is batch.journal 0xA7 may.is_batch.there)

    open_recovers : (before after : ℕ → List ℕ) → RecoversBy t opened before seen → HasRecords s batch before after
        → RecoversBy t (batch ∷ opened) after opened_bytes
    open_recovers before after r records =
        open_recovers' before after r
        (λ i lt. (h.kept (record_block t.slots batch.journal i) _ (records.records i lt)).1) records.others

    module _ (newest : RecordOfNewest) (none : NoRecord) where
      open_volume : IsVolume t (batch ∷ opened) opened_bytes
      open_volume = (open_recovers' (contents_in t.slots opened seen) (contents_in t.slots (batch ∷ opened) seen) own
          (λ i lt. ap (block_at seen)
          (sym (newest t.slots (first_home t.layout t.slots) (block_count t) batch opened i rising lt)))
          (λ b not. ap (block_at seen) (none t.slots b batch opened (all_other batch.homes b not)))).volume
        where
          rising : RiseWithin (first_home t.layout t.slots) (block_count t) batch.homes
          rising = may.is_batch.described.homes.rising

      open_shown : HasShown t (as_shown t blocks (batch ∷ opened)) opened_bytes
      open_shown = record {
        geometry = refl;
        long = (gate_same batch.journal 0xA7 may.is_batch.there).same_length ∙ h.long;
        volume = open_volume;
        closed = λ j lt none. elim (cases_eq j batch.journal) [
          | inl here ↦ absurd (both_ways (has_journal (batch ∷ opened) j) none
              (or_left (batch.journal == j) (has_journal opened j) (eq-eqb batch.journal j (sym here))))
          | inr other ↦
              (gate_same batch.journal 0xA7 may.is_batch.there).firsts (gate_block t.slots j)
              (gates_apart t.slots j batch.journal other)
              ∙ h.closed j lt (not_has batch opened j none)
        ];
        kept = gate_kept batch.journal 0xA7 may.is_batch.there blocks (λ q bytes is. is);
      }

  module _ (newer : List Batch) (oldest : Batch) (parts : opened ≡ newer ++ oldest ∷ [])
      (alone : has_journal newer oldest.journal ≡ false) (home : AreHomeBy s newer oldest) where
    oldest_there : oldest.journal < journals_of t.layout
    oldest_there = (all_back (IsOpenBatch (geometry_of t) seen) newer (oldest ∷ [])
        (subst (λ (l : List Batch). AllByRecursion (IsOpenBatch (geometry_of t) seen) l) parts
        h.volume.journals.each)).0.there

    abbrev closed_bytes : List ℕ
    closed_bytes = turned oldest.journal 0 oldest_there

    are_home : AreHome t.slots newer oldest seen
    are_home i within = elim (home i within) [
      | inl has ↦ inl (covered newer (get_or oldest.homes i 0) has)
      | inr (block, there, recorded) ↦ inr ((h.kept (get_or oldest.homes i 0) block there).1
          ∙ sym (h.kept (record_block t.slots oldest.journal i) block recorded).1)
    ]

    close_recovers : (contents : ℕ → List ℕ) → RecoversBy t opened contents seen
        → RecoversBy t newer contents closed_bytes
    close_recovers contents r =
        gate_closes t newer oldest contents seen closed_bytes
        (subst (λ (l : List Batch). RecoversBy t l contents seen) parts r) oldest_there alone are_home
        (gate_same oldest.journal 0 oldest_there)
        (λ is. absurd (omega (arith, sym (gate_byte_is oldest.journal 0 oldest_there) ∙ is)))

    close_shown : (some : Blocks)
        → ((q : ℕ) (bytes : List ℕ) → bytes_in some q ≡ Some bytes → bytes_in blocks q ≡ Some bytes)
        → HasShown t (as_shown t some newer) closed_bytes
    close_shown some fewer = record {
      geometry = refl;
      long = (gate_same oldest.journal 0 oldest_there).same_length ∙ h.long;
      volume = (close_recovers (contents_in t.slots opened seen) own).volume;
      closed = λ j lt none. elim (cases_eq j oldest.journal) [
        | inl here ↦ ap (λ k. get_or closed_bytes (4096 * gate_block t.slots k) 0) here
            ∙ gate_byte_is oldest.journal 0 oldest_there
        | inr other ↦
            (gate_same oldest.journal 0 oldest_there).firsts (gate_block t.slots j)
            (gates_apart t.slots j oldest.journal other)
            ∙ h.closed j lt (ap (λ (l : List Batch). has_journal l j) parts ∙ not_has_last t newer oldest j none other)
      ];
      kept = gate_kept oldest.journal 0 oldest_there some fewer;
    }

-- ---- for every volume that a value may be of

pub write_stays : (s : ShownValue) (b : ℕ) (block : List ℕ) → IsAdmitted s b → length block ≡ 4096
    → StaysShown s (record s { blocks = with_home s.blocks b block }) (λ seen. written seen (4096 * b) block)
write_stays s b block admitted size = record {
  shown = λ t seen h. (by t seen h).0;
  recovers = λ t seen contents h r. (by t seen h).1 contents r;
}
  where
    by : (t : SuperValue) (seen : List ℕ) → HasShown t s seen
        → HasShown t (record s { blocks = with_home s.blocks b block }) (written seen (4096 * b) block)
        × ((contents : ℕ → List ℕ) → RecoversBy t s.opened contents seen
        → RecoversBy t s.opened contents (written seen (4096 * b) block))
    by t seen h =
        let P : GeometryValue → Type 0 = λ g.
        IsAdmitted (record { geometry = g; blocks = s.blocks; opened = s.opened }) b
        → HasShown t (record { geometry = g; blocks = s.blocks; opened = s.opened }) seen
        → HasShown t (record { geometry = g; blocks = with_home s.blocks b block; opened = s.opened })
        (written seen (4096 * b) block)
        × ((contents : ℕ → List ℕ) → RecoversBy t s.opened contents seen
        → RecoversBy t s.opened contents (written seen (4096 * b) block)) in
        subst P (sym h.geometry) (λ admitted h. (
          write_shown t s.blocks s.opened seen h b block admitted size,
          write_recovers t s.blocks s.opened seen h b block admitted size,
        )) admitted h

pub open_opens : (s : ShownValue) (batch : Batch) → MayOpen s batch → RecordOfNewest → NoRecord
    → OpensShown s batch (record s { opened = batch ∷ s.opened })
open_opens s batch may newest none = record {
  shown = λ t seen h. (by t seen h).0;
  recovers = λ t seen before after h r records. (by t seen h).1 before after r records;
}
  where
    by : (t : SuperValue) (seen : List ℕ) → HasShown t s seen
        → HasShown t (record s { opened = batch ∷ s.opened })
        (written seen (4096 * gate_block s.geometry.slots batch.journal) (0xA7 ∷ []))
        × ((before after : ℕ → List ℕ) → RecoversBy t s.opened before seen → HasRecords s batch before after
        → RecoversBy t (batch ∷ s.opened) after
        (written seen (4096 * gate_block s.geometry.slots batch.journal) (0xA7 ∷ [])))
    by t seen h =
        let P : GeometryValue → Type 0 = λ g.
        let s' : ShownValue = record { geometry = g; blocks = s.blocks; opened = s.opened } in
        let after' : List ℕ = written seen (4096 * gate_block g.slots batch.journal) (0xA7 ∷ []) in
        MayOpen s' batch → HasShown t s' seen
        → HasShown t (record { geometry = g; blocks = s.blocks; opened = batch ∷ s.opened }) after'
        × ((before after : ℕ → List ℕ) → RecoversBy t s.opened before seen → HasRecords s' batch before after
        → RecoversBy t (batch ∷ s.opened) after after') in
        subst P (sym h.geometry) (λ may h. (
          open_shown t s.blocks s.opened seen h batch may newest none,
          open_recovers t s.blocks s.opened seen h batch may,
        )) may h

pub close_stays : (s : ShownValue) (j : ℕ) (some : Blocks) (closes : ClosesOldest s j)
    → ((q : ℕ) (bytes : List ℕ) → bytes_in some q ≡ Some bytes → bytes_in s.blocks q ≡ Some bytes)
    → StaysShown s (record { geometry = s.geometry; blocks = some; opened = closes.newer })
    (λ seen. written seen (4096 * gate_block s.geometry.slots j) (0 ∷ []))
close_stays s j some closes fewer = record {
  shown = λ t seen h. (by t seen h).0;
  recovers = λ t seen contents h r. (by t seen h).1 contents r;
}
  where
    by : (t : SuperValue) (seen : List ℕ) → HasShown t s seen
        → HasShown t (record { geometry = s.geometry; blocks = some; opened = closes.newer })
        (written seen (4096 * gate_block s.geometry.slots j) (0 ∷ []))
        × ((contents : ℕ → List ℕ) → RecoversBy t s.opened contents seen
        → RecoversBy t closes.newer contents (written seen (4096 * gate_block s.geometry.slots j) (0 ∷ [])))
    by t seen h =
        let oldest = closes.oldest in
        let Q : ℕ → Type 0 = λ k.
        HasShown t (record { geometry = s.geometry; blocks = some; opened = closes.newer })
        (written seen (4096 * gate_block s.geometry.slots k) (0 ∷ []))
        × ((contents : ℕ → List ℕ) → RecoversBy t s.opened contents seen
        → RecoversBy t closes.newer contents (written seen (4096 * gate_block s.geometry.slots k) (0 ∷ []))) in
        let P : GeometryValue → Type 0 = λ g.
        let s' : ShownValue = record { geometry = g; blocks = s.blocks; opened = s.opened } in
        let after' : List ℕ = written seen (4096 * gate_block g.slots oldest.journal) (0 ∷ []) in
        AreHomeBy s' closes.newer oldest → HasShown t s' seen
        → HasShown t (record { geometry = g; blocks = some; opened = closes.newer }) after'
        × ((contents : ℕ → List ℕ) → RecoversBy t s.opened contents seen
        → RecoversBy t closes.newer contents after') in
        let alone = ap (has_journal closes.newer) closes.journal_is ∙ closes.alone in
        subst Q closes.journal_is (subst P (sym h.geometry) (λ home h. (
          close_shown t s.blocks s.opened seen h closes.newer oldest closes.parts alone home some fewer,
          close_recovers t s.blocks s.opened seen h closes.newer oldest closes.parts alone home,
        )) closes.home h)
