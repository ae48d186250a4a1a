-- A disk keeps what it keeps where a gate opens, and its batch is committed.
use Rattle.std.proofs.Common.{◌≡◌, ◌≢◌, ◌⊎◌, inl, inr, ℕ, zero, suc, ◌+◌, ◌*◌, ◌<◌, ◌≤◌, Bool, true, false, not}
use Rattle.std.proofs.Common.{List, [], ◌∷◌, length, map, take, drop, get_or, refl, sym, ap, subst, ◌∙◌, arith, Some}
use Rattle.std.proofs.Common.{eqb, if◌then◌else◌}
use Rattle.std.specs.Prelude.{MatchBool}
use Rattle.std.specs.List.{AllByRecursion, Contains}
use Rattle.std.proofs.lemmas.Bool.{eq-eqb, eqb-true, false≢true}
use Rattle.std.proofs.lemmas.List.{drop-drop, drop-take, get_or_default, take-take}
use Rattle.device.specs.Device.{LeavesOnly, written}
use Rattle.device.specs.Memory.{DiskChange, seen_of, moment_of}
use Rattle.device.specs.Memory.DiskChange.{write}
use Rattle.device.specs.declared.device.Device.{Ghosts}
use Rattle.device.proofs.Public.{leaves_weaker}
use Rattle.volume_codec.specs.Layout.{GeometryValue, block_at, blocks_at, first_home, gate_block, record_block}
use Rattle.volume_codec.specs.Recovery.{Batch, IsOpenBatch}
use Rattle.volume_codec.specs.Super.{SuperValue, geometry_of}
use Rattle.journal.specs.Recovered.{RecoversBy}
use Rattle.journal.proofs.Public.{home_at}
use Rattle.machine_log.specs.Shown.{ShownValue, HasShown, HasRecords, MayOpen, OpensShown}
use Rattle.log_codec.specs.declared.sealing.Sealing.TheVariants.{ByByte}
use Rattle.log_codec.specs.Log.{LogValue, first_log_home}
use Rattle.log_codec.specs.Chain.{LogRecovers}
use Rattle.log_codec.specs.declared.start.LogStart.{LogStart}
use Rattle.kept_blocks.specs.Blocks.{bytes_in}
use Rattle.log_commits.specs.Commit.{committed_to}
use Rattle.log_volume.specs.Super.{LogSuperValue, log_super_text}
use Rattle.log_pager.specs.Pager.{LogPagerValue}
use Rattle.machine_log.specs.Serving.{volume_home}
use Rattle.machine_log.specs.Made.{batch_homes, batch_records, gate_write, gates_opened, opens_gate}
use Rattle.machine_log.specs.inside.Committing.{CommitsBatch, HasPut, moved_home}
use Rattle.machine_log.specs.inside.Committing.{with_batch}
use Rattle.machine_log.specs.inside.Keeping.{RecoverAlike, IsHonestBelow, IsOverLog, IsKeptDisk, changed}
use Rattle.machine_log.specs.inside.Keeping.{shown_contents}
use Rattle.machine_log.specs.inside.Keeping.{OpensGate, StaysAlike}
use Rattle.machine_log.proofs.Kept.{OneContents, by_opened, held_as, kept_next, write_within, write_keeps}
use Rattle.machine_log.proofs.Kept.{write_old_left}

-- what leaves this and leaves that leaves both
leaves_both : {D : Type 0} {moment : D → ℕ} {left_since : D → ℕ → List ℕ → Type 0} {old new : D}
    {P Q : List ℕ → Type 0} → LeavesOnly moment left_since old new P → LeavesOnly moment left_since old new Q
    → LeavesOnly moment left_since old new (λ c. P c × Q c)
leaves_both first second = record {
  later = first.later;
  each = λ c left. (first.each c left, second.each c left);
  before = λ t c le left. elim (first.before t c le left) [
    | inl was ↦ inl was
    | inr one ↦ elim (second.before t c le left) [ inl was ↦ inl was | inr two ↦ inr (one, two) ]
  ];
  keeps = first.keeps;
}

-- records that are put are those of the batch
has_records : (v : LogSuperValue) (t : SuperValue) (shown : ShownValue) (batch : Batch) (low first : ℕ)
    (old new : ℕ → List ℕ) → shown.geometry ≡ geometry_of t → MayOpen shown batch
    → low ≡ first_home t.layout t.slots → first ≡ first_log_home v.ring → HasPut shown batch low first old new
    → HasRecords shown batch (shown_contents v t old) (shown_contents v t new)
has_records v t shown batch low first old new same may low_is first_is put = record {
  records = λ i lt. put.records i lt ∙ ap (λ q. Some (new q)) (place (get_or batch.homes i 0) (above i lt));
  others = λ b not. put.others (volume_home v t b) (λ i lt e. elsewhere b not i lt e);
}
  where
    place : (home : ℕ) → first_home t.layout t.slots ≤ home → moved_home first low home ≡ volume_home v t home
    place home above = omega (arith, above, low_is, first_is)

    above : (i : ℕ) → i < length batch.homes → first_home t.layout t.slots ≤ get_or batch.homes i 0
    above i lt =
        let home = home_at shown.geometry batch.homes i may.is_batch.described.homes lt in
        subst (λ (g : GeometryValue). first_home g.layout g.slots ≤ get_or batch.homes i 0) same home.low

    elsewhere : (b : ℕ) → (Contains batch.homes b → ⊥) → (i : ℕ) → i < length batch.homes
        → volume_home v t b ≡ moved_home first low (get_or batch.homes i 0) → ⊥
    elsewhere b not i lt e =
        not (i, lt, get_or_default batch.homes i b 0 lt ∙ omega (arith, e, above i lt, low_is, first_is))

one_left : (bytes : List ℕ) (block m n : ℕ) → m ≡ n + 1
    → drop 4096 (blocks_at bytes block m) ≡ blocks_at bytes (block + 1) n
one_left bytes block m n more =
    let size : 4096 * m ≡ 4096 + 4096 * n = omega (arith, more) in
    let next : 4096 * block + 4096 ≡ 4096 * (block + 1) = omega arith in
    ap (λ k. drop 4096 (take k (drop (4096 * block) bytes))) size
    ∙ drop-take 4096 (4096 * n) (drop (4096 * block) bytes)
    ∙ ap (take (4096 * n)) (drop-drop 4096 (4096 * block) bytes)
    ∙ ap (λ k. take (4096 * n) (drop k bytes)) next

-- record i of these home blocks, one block after the other, is what new contents have there; elsewhere they are old
committed_at : (old new : ℕ → List ℕ) (bytes : List ℕ) (home : ℕ → ℕ) (q : ℕ) (homes : List ℕ) (block : ℕ)
    → ((i : ℕ) → i < length homes → new (home (get_or homes i 0)) ≡ block_at bytes (block + i))
    → (((i : ℕ) → i < length homes → q ≢ home (get_or homes i 0)) → new q ≡ old q)
    → committed_to old (map home homes) (blocks_at bytes block (length homes)) q ≡ new q
committed_at old new bytes home q [] block each others = sym (others (λ i lt. absurd (omega (arith, lt))))
committed_at old new bytes home q (h ∷ homes) block each others = by (eqb q (home h)) refl
    (λ other. committed_at old new bytes home q homes (block + 1)
    (λ i lt. let next : block + suc i ≡ block + 1 + i = omega arith in
    each (suc i) (omega (arith, lt)) ∙ ap (block_at bytes) next)
    (λ apart. others (apart_too other apart)))
  where
    apart_too : q ≢ home h → ((i : ℕ) → i < length homes → q ≢ home (get_or homes i 0)) → (i : ℕ)
        → i < length (h ∷ homes) → q ≢ home (get_or (h ∷ homes) i 0)
    apart_too other apart zero lt same = other same
    apart_too other apart (suc i) lt same = apart i (omega (arith, lt)) same

    by : (same : Bool) → eqb q (home h) ≡ same
        → (q ≢ home h
        → committed_to old (map home homes) (blocks_at bytes (block + 1) (length homes)) q ≡ new q)
        → (if same then take 4096 (blocks_at bytes block (length (h ∷ homes)))
        else committed_to old (map home homes) (drop 4096 (blocks_at bytes block (length (h ∷ homes)))) q) ≡ new q
    by true here rest =
        let same = eqb-true q (home h) here in
        let none : block + 0 ≡ block = omega arith in
        take-take 4096 (4096 * length (h ∷ homes)) (drop (4096 * block) bytes) (omega arith)
        ∙ ap (block_at bytes) (sym none) ∙ sym (each 0 (omega arith)) ∙ ap new (sym same)
    by false differs rest =
        ap (λ (l : List ℕ). committed_to old (map home homes) l q) (one_left bytes block (length (h ∷ homes)) (length
        homes) (omega arith))
        ∙ rest (λ same. false≢true (sym differs ∙ eq-eqb q (home h) same))

module _ {D : Type 0} (disk : Ghosts D)
    (since_now : (d : D) (c : List ℕ) → disk.left_since d (disk.moment d) c → disk.may_leave d c)
    (now_is_since : (d : D) (r : ℕ) (c : List ℕ) → r ≤ disk.moment d → disk.may_leave d c → disk.left_since d r c)
    (v : LogSuperValue) (t : SuperValue) (start : LogStart) (first_bytes : List ℕ) (changes : List DiskChange)
    (moments : List (ℕ × ℕ)) (pager : LogPagerValue D) (shown : ShownValue)
    (kept : IsKeptDisk disk v t start first_bytes changes moments pager shown false)
    (batch : Batch) (may : MayOpen shown batch) (low first at : ℕ) (bytes : List ℕ)
    (low_is : low ≡ first_home t.layout t.slots) (first_is : first ≡ first_log_home v.ring)
    (at_is : 4096 * gate_block shown.geometry.slots batch.journal ≡ at) (bytes_are : bytes ≡ 0xA7 ∷ []) where
  abbrev old_seen : List ℕ
  old_seen = seen_of (changed first_bytes changes)

  abbrev new_seen : List ℕ
  new_seen = written old_seen at bytes

  turned : written old_seen (4096 * gate_block shown.geometry.slots batch.journal) (0xA7 ∷ []) ≡ new_seen
  turned = ap (λ n. written old_seen n (0xA7 ∷ [])) at_is ∙ ap (written old_seen at) (sym bytes_are)

  shows_new : (opened : ShownValue) → OpensShown shown batch opened → HasShown t opened new_seen
  shows_new opened opens = subst (HasShown t opened) turned (opens.shown t old_seen (kept.shows refl))

  recovers_new : (opened : ShownValue) → OpensShown shown batch opened → (old new : ℕ → List ℕ)
      → RecoversBy t shown.opened (shown_contents v t old) old_seen → HasPut shown batch low first old new
      → RecoversBy t opened.opened (shown_contents v t new) new_seen
  recovers_new opened opens old new was put =
      subst (RecoversBy t opened.opened (shown_contents v t new)) turned
      (opens.recovers t old_seen (shown_contents v t old) (shown_contents v t new) (kept.shows refl) was
      (has_records v t shown batch low first old new (kept.shows refl).geometry may low_is first_is put))

  -- the write opens the gate of the batch
  turns : write at bytes ≡ gate_write t batch
  turns = ap (λ n. write n bytes)
      (sym at_is ∙ ap (λ (g : GeometryValue). 4096 * gate_block g.slots batch.journal) (kept.shows refl).geometry)
      ∙ ap (write (4096 * gate_block t.slots batch.journal)) bytes_are

  is_opening : opens_gate (write at bytes) ≡ true
  is_opening = ap opens_gate turns

  -- the home blocks of the batch in the volume
  place : (i : ℕ) → i < length batch.homes
      → moved_home first low (get_or batch.homes i 0) ≡ volume_home v t (get_or batch.homes i 0)
  place i lt =
      let home = home_at shown.geometry batch.homes i may.is_batch.described.homes lt in
      let above = subst (λ (g : GeometryValue). first_home g.layout g.slots ≤ get_or batch.homes i 0)
      (kept.shows refl).geometry home.low in
      omega (arith, above, low_is, first_is)

  module _ (opened : ShownValue) (opens : OpensShown shown batch opened) (opened_is : opened ≡ with_batch shown batch)
    where
      -- contents with the records are those that the commit leaves
      is_committed : (old new : ℕ → List ℕ) → HasPut shown batch low first old new → (q : ℕ)
          → committed_to old (batch_homes v t batch) (batch_records t batch new_seen) q ≡ new q
      is_committed old new put q = committed_at old new new_seen (volume_home v t) q batch.homes
          (record_block t.slots batch.journal 0)
          (λ i lt.
          let kept_new = (shows_new opened opens).kept (record_block t.slots batch.journal i)
          (new (moved_home first low (get_or batch.homes i 0)))
          (ap (λ (s : ShownValue). bytes_in s.blocks (record_block t.slots batch.journal i)) opened_is
          ∙ ap (λ (g : GeometryValue). bytes_in shown.blocks (record_block g.slots batch.journal i))
          (sym (kept.shows refl).geometry)
          ∙ put.records i lt) in
          let next : record_block t.slots batch.journal i ≡ record_block t.slots batch.journal 0 + i = omega arith in
          ap new (sym (place i lt)) ∙ sym kept_new.1 ∙ ap (block_at new_seen) next)
          (λ apart. put.others q (λ i lt same. apart i lt (same ∙ place i lt)))

      follows : OneContents → (after : (ℕ → List ℕ) → ℕ → List ℕ)
          → ((contents : ℕ → List ℕ) → HasPut shown batch low first contents (after contents))
          → OpensGate v t first_bytes (write at bytes) changes
      follows one after put = record {
        batch = batch;
        change_is = turns;
        says =
            let each = (shows_new opened opens).volume.journals.each in
            (subst (λ (s : ShownValue). AllByRecursion (IsOpenBatch (geometry_of t) new_seen) s.opened) opened_is
            each).0;
        recovers = λ contents is.
            let by = recovers_new opened opens contents (after contents)
            (by_opened disk since_now now_is_since v t start first_bytes changes moments pager shown kept one contents
            is)
            (put contents) in
            record {
              batches = opened.opened;
              volume = by.volume;
              contents_are = λ b home.
                  is_committed contents (after contents) (put contents) (volume_home v t b) ∙ by.contents_are b home;
            };
      }

  pub kept_commit : OneContents → (done failed : Bool) (after : LogPagerValue D) (opened : ShownValue)
      → CommitsBatch disk pager shown batch low first done after opened → failed ≡ not done
      → at + length bytes ≤ length old_seen
      → IsKeptDisk disk v t start first_bytes (write at bytes ∷ changes)
      ((moment_of (changed first_bytes (write at bytes ∷ changes)), disk.moment after.device) ∷ moments) after opened
      failed
  kept_commit one done failed after opened made is fits =
      kept_next disk since_now now_is_since v t start first_bytes changes moments pager shown kept after opened
      (write at bytes)
      failed (record {
        log = made.log ∙ kept.log;
        number = λ works. made.number (is_done works) ∙ one_more (kept.number refl);
        within = write_within disk since_now now_is_since v t start first_bytes changes moments pager shown kept at
            bytes fits;
        keeps = write_keeps disk since_now now_is_since v t start first_bytes changes moments pager shown kept at bytes
            fits;
        old_left = write_old_left disk since_now now_is_since v t start first_bytes changes moments pager shown kept at
            bytes fits;
        later = made.later;
        honest = made.honest.0;
        shows = λ works. shows_new opened made.opens;
        none_put = λ works. made.none_put (is_done works);
        over = λ honest works.
            let was = kept.over honest refl in
            record {
              contents = made.after was.contents;
              over = made.over (is_done works) was.contents honest was.over;
              ended = made.ended (is_done works) was.contents honest was.over was.ended;
              first = (made.stays (log_super_text v) was.first).left;
              recovers = recovers_new opened made.opens was.contents (made.after was.contents) was.recovers
                  (made.put was.contents);
            };
        leaves = λ honest.
            let was = kept.over honest.0 refl in
            leaves_weaker (leaves_both (made.leaves was.contents honest.0 (sealed honest) was.over)
            (made.stays (log_super_text v) was.first).crash) (λ c both. by_case was c both.1 both.0);
        follows = subst (λ (b : Bool). MatchBool b (OpensGate v t first_bytes (write at bytes) changes)
            (StaysAlike v t first_bytes (write at bytes) changes)) (sym is_opening)
            (follows opened made.opens made.opened_is one made.after made.put);
        held = λ honest.
            let was = kept.over honest refl in
            leaves_weaker (leaves_both (made.held was.contents honest was.over)
            (made.stays (log_super_text v) was.first).crash) (λ c both. (
              was.contents,
              record {
                batches = shown.opened;
                volume = was.recovers.volume;
                contents_are = was.recovers.contents_are;
              },
              held_as disk since_now now_is_since v t start first_bytes changes moments pager shown kept was.contents c
                  both.0,
              both.1,
            ));
      })
    where
      is_done : failed ≡ false → done ≡ true
      is_done works = by done (sym is ∙ works)
        where
          by : (d : Bool) → not d ≡ false → d ≡ true
          by true e = refl
          by false e = absurd (cc)

      one_more : pager.store.tail.number ≡ start.number + gates_opened changes
          → pager.store.tail.number + 1 ≡ start.number + gates_opened (write at bytes ∷ changes)
      one_more number = omega (arith, number, ap {B = ℕ} (λ (b : Bool). if b then 1 else 0) is_opening)

      sealed : IsHonestBelow disk v pager → pager.store.tail.log.sealing ≡ ByByte
      sealed honest = ap (λ (g : LogValue). g.sealing) kept.log ∙ honest.1

      by_case : (was : IsOverLog disk v t pager shown old_seen) (c : List ℕ) → block_at c 0 ≡ log_super_text v
          → LogRecovers pager.store.tail.log was.contents c
          ⊎ LogRecovers pager.store.tail.log (made.after was.contents) c
          → RecoverAlike v t c old_seen ⊎ RecoverAlike v t c new_seen
      by_case was c text (inl old) = inl (record {
        contents = was.contents;
        first = text;
        volume = subst (λ (g : LogValue). LogRecovers g was.contents c) kept.log old;
        disk = record {
          batches = shown.opened;
          volume = was.recovers.volume;
          contents_are = was.recovers.contents_are;
        };
      })
      by_case was c text (inr recovered) =
          let r = recovers_new opened made.opens was.contents (made.after was.contents) was.recovers
          (made.put was.contents) in
          inr (record {
            contents = made.after was.contents;
            first = text;
            volume = subst (λ (g : LogValue). LogRecovers g (made.after was.contents) c) kept.log recovered;
            disk = record {
              batches = opened.opened;
              volume = r.volume;
              contents_are = r.contents_are;
            };
          })
