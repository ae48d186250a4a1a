-- What holds of each pager that calls have led to, and what a crash leaves of it.
use Rattle.std.proofs.Common.{◌≡◌, ◌⊎◌, ℕ, zero, suc, ◌+◌, Bool, true, false, List, [], ◌∷◌, ◌++◌}
use Rattle.std.proofs.Common.{length}
use Rattle.std.proofs.Common.{map, Option, Some, None, refl, ap, sym, ◌∙◌, subst, arith, inl, inr}
use Rattle.std.proofs.Common.{append_assoc}
use Rattle.std.specs.Prelude.{unwrap_or}
use Rattle.std.specs.List.{Contains}
use Rattle.std.specs.Option.{option_map_or, option_or}
use Rattle.std.proofs.lemmas.Bool.{cases_Bool, both_ways, cond-false}
use Rattle.std.proofs.lemmas.List.{append-nil}
use Rattle.std.proofs.lemmas.List.Elements.{Contains-append_left, Contains-append_right, Contains-append_cases}
use Rattle.device.specs.declared.device.Device.{Ghosts}
use Rattle.device.proofs.Public.{done_seen}
use Rattle.volume_codec.specs.Super.{SuperValue}
use Rattle.volume_codec.specs.Recovery.{Recovers}
use Rattle.journal.specs.Work.{has_done}
use Rattle.journal.specs.declared.stage.Stage.{Stage}
use Rattle.journal.specs.declared.stage.Stage.TheVariants.{Recording, Describing, SyncingRecords, Opening}
use Rattle.journal.specs.declared.stage.Stage.TheVariants.{Committing, Applying, SyncingHomes, Closing, Finishing}
use Rattle.journal.specs.declared.flushed.Flushed.{Flushed}
use Rattle.journal.specs.declared.flushed.Flushed.TheVariants.{Going, Committed, Done, Device, Broken}
use Rattle.journal.specs.Stage.{is_committed}
use Rattle.journal.specs.Crash.{LeftWithin}
use Rattle.journal.specs.WriteOut.{WriteOut, begun_of, answer_of}
use Rattle.journal.specs.Work.{TornFromWork}
use Rattle.volume_codec.specs.Text.{zeros}
use Rattle.journal.specs.WriteOuts.{moving, batches_after}
use Rattle.journal.specs.WriteOuts.{has_uncommitted, shares_syncs, current_stage, outs_after}
use Rattle.journal.specs.WriteOuts.{outs_home, next_answer, next_work, begun, next_batch}
use Rattle.journal.specs.inside.Consistent.{IsConsistent}
use Rattle.journal.proofs.Public.{consistent_begun, consistent_within, consistent_after}
use Rattle.journal.proofs.Public.{consistent_failed, stage_committed}
use Rattle.recovery.specs.Reading.{IsOnlyRead}
use Rattle.kept_blocks.specs.Blocks.{Blocks, homes_in, bytes_in, newest_in}
use Rattle.pager.specs.State.{PagerState, record_for}
use Rattle.pager.specs.Calls.{after_commit, after_step, next_bytes}
use Rattle.pager.specs.Calls.{records_after}
use Rattle.pager.specs.Calls.{committed_with, first_reason, reason_if}
use Rattle.page_entry.specs.declared.refusal.Refusal.{Refusal}
use Rattle.page_entry.specs.declared.refusal.Refusal.TheVariants as Refused
use Rattle.std.specs.Prelude.{◌||◌, ◌-◌, ◌^◌, nat_eq, nat_le}
use Rattle.volume_codec.specs.Layout.{journals_of}
use Rattle.volume_codec.specs.Descriptor.{AreHomes}
use Rattle.journal.specs.LedTo.{MayBegin}
use Rattle.history.specs.History.{Event, Mark, Acknowledge, IsMarked, IsDurablePrefix, Memory}
use Rattle.history.specs.History.{memory_of, after, lengths_of, lengths_after, with_length}
use Rattle.history.specs.inside.Contents.{HasAcknowledged, HasParts}
use Rattle.history.proofs.Public.{after-append, begins_more, in_history, acknowledged_more, only_one, in_table}
use Rattle.std.proofs.lemmas.List.Sums.{fold-append}
use Rattle.volume_codec.specs.Files.{File}
use Rattle.volume_codec.specs.Super.{Fits}
use Rattle.pager.specs.inside.Contents.{written_over, HaveFiles}
use Rattle.pager.specs.Histories.{marked_with, acknowledged_by, IsPagerStep, IsBegunCommit}
use Rattle.kept_blocks.proofs.Public.{newest_push}
use Rattle.pager.proofs.Stepping.{batch_homes, tied_after, AllOf, all_after}
use Rattle.pager.proofs.Beginning.{map_push}
use Rattle.pager.proofs.Outs.{none_after, none_uncommitted, never_device, committing, by_mover}
use Rattle.pager.proofs.Records.{record_found, absent, newest_rest}

-- what is kept of the calls
pub record Keeps {D : Type 0} (disk : Ghosts D) (files : List File) (history : List Event) (s : PagerState D)
    : Type 0 where
  pub old : ℕ → List ℕ
  pub new : ℕ → List ℕ
  pub earlier : List Event
  pub later : List Event
  pub old_rest : List Event
  pub new_rest : List Event
  pub old_begins : earlier ++ old_rest ≡ history
  pub new_begins : later ++ new_rest ≡ history
  pub old_marked : IsMarked earlier
  pub new_marked : IsMarked later
  pub old_has : HaveFiles files s.table old earlier
  pub new_has : HaveFiles files s.table new later
  pub current : HaveFiles files s.table (written_over s.staged new) history
  pub lengths : lengths_after (lengths_of files) history ≡ s.lengths
  pub named : map in_table files ≡ s.table.files
  pub table : Fits s.table
  pub consistent : IsConsistent s.table s.write_outs old new (disk.seen s.device) (disk.may_leave s.device)
  pub old_acknowledged : has_uncommitted s.write_outs.batches ≡ true → HasAcknowledged earlier history
  pub new_acknowledged : HasAcknowledged later history
  pub marks : AllOf (λ w. Contains later (Mark w.batch.mark)) s.write_outs.batches
  pub records : (b : ℕ) (x : List ℕ) → newest_in s.records b ≡ Some x → x ≡ new b
  pub tied : batch_homes s.write_outs.batches ≡ map homes_in s.records

-- ---- histories that grow

-- events that change no file
pub record IsQuiet (events : List Event) : Type 0 where
  pub memory : (m : Memory) → after m events ≡ m
  pub lengths : (l : List ℕ) → lengths_after l events ≡ l

pub have_more : (files : List File) (table : SuperValue) (contents : ℕ → List ℕ) (history events : List Event)
    → IsQuiet events → HaveFiles files table contents history → HaveFiles files table contents (history ++ events)
have_more files table contents history events quiet has =
    let memory : after (memory_of files) (history ++ events) ≡ after (memory_of files) history =
    after-append (memory_of files) history events ∙ quiet.memory (after (memory_of files) history) in
    let lengths : lengths_after (lengths_of files) (history ++ events) ≡ lengths_after (lengths_of files) history =
    fold-append with_length (lengths_of files) history events
    ∙ quiet.lengths (lengths_after (lengths_of files) history) in
    record {
      whole = λ file page. ap (λ (m : Memory). length (m file page)) memory ∙ has.whole file page;
      blocks = has.blocks;
      fits = has.fits;
      same_lengths = has.same_lengths ∙ sym lengths;
      parts = subst (λ (m : Memory). HasParts table (lengths_after (lengths_of files) (history ++ events)) contents m)
          (sym memory)
          (subst (λ (l : List ℕ). HasParts table l contents (after (memory_of files) history)) (sym lengths)
          has.parts);
    }

pub lengths_more : (files : List File) (history events : List Event) → IsQuiet events
    → lengths_after (lengths_of files) (history ++ events) ≡ lengths_after (lengths_of files) history
lengths_more files history events quiet = fold-append with_length (lengths_of files) history events
    ∙ quiet.lengths (lengths_after (lengths_of files) history)

-- an event that acknowledges nothing
pub not_acknowledged : (prefix history : List Event) (event : Event)
    → ((number : ℕ) → Acknowledge number ≡ event → ⊥) → HasAcknowledged prefix history
    → HasAcknowledged prefix (history ++ event ∷ [])
not_acknowledged prefix history event other has = acknowledged_more prefix history (event ∷ [])
    (λ number there. absurd (other number (sym (only_one event (Acknowledge number) there)))) has

-- ---- a call that makes no commit and no step

-- what is kept after it: it changes no more than the lengths, what is put, and the device
pub keeps_call : {D : Type 0} (disk : Ghosts D) (files : List File) (history : List Event) (s : PagerState D)
    (event : Event) (lengths : List ℕ) (staged : Blocks) (device : D) (k : Keeps disk files history s)
    → ((number : ℕ) → Acknowledge number ≡ event → ⊥)
    → HaveFiles files s.table (written_over staged k.new) (history ++ event ∷ [])
    → lengths_after (lengths_of files) (history ++ event ∷ []) ≡ lengths
    → IsConsistent s.table s.write_outs k.old k.new (disk.seen device) (disk.may_leave device)
    → Keeps disk files (history ++ event ∷ []) (record s { lengths = lengths; staged = staged; device = device })
keeps_call disk files history s event lengths staged device k other has now consistent = record {
  old = k.old;
  new = k.new;
  earlier = k.earlier;
  later = k.later;
  old_rest = k.old_rest ++ event ∷ [];
  new_rest = k.new_rest ++ event ∷ [];
  old_begins = begins_more k.earlier k.old_rest history (event ∷ []) k.old_begins;
  new_begins = begins_more k.later k.new_rest history (event ∷ []) k.new_begins;
  old_marked = k.old_marked;
  new_marked = k.new_marked;
  old_has = k.old_has;
  new_has = k.new_has;
  current = has;
  lengths = now;
  named = k.named;
  table = k.table;
  consistent = consistent;
  old_acknowledged = λ has. not_acknowledged k.earlier history event other (k.old_acknowledged has);
  new_acknowledged = not_acknowledged k.later history event other k.new_acknowledged;
  marks = k.marks;
  records = k.records;
  tied = k.tied;
}

-- ---- a commit

all_weaken : (P Q : WriteOut → Type 0) (batches : List WriteOut) → ((w : WriteOut) → P w → Q w) → AllOf P batches
    → AllOf Q batches
all_weaken P Q [] so all = tt
all_weaken P Q (w ∷ newer) so all = (so w all.0, all_weaken P Q newer so all.1)

all_push : (P : WriteOut → Type 0) (batches : List WriteOut) (w : WriteOut) → AllOf P batches → P w
    → AllOf P (batches ++ w ∷ [])
all_push P [] w all own = (own, tt)
all_push P (x ∷ batches) w all own = (all.0, all_push P batches w all.1 own)

pushed_record : (o p : Option (List ℕ)) (x d e : List ℕ) → option_or o p ≡ Some x → (p ≡ Some x → x ≡ d)
    → e ≡ unwrap_or o d → x ≡ e
pushed_record None p x d e is older same = older is ∙ sym same
pushed_record (Some y) p x d e is older same = some_same y x is ∙ sym same
  where
    some_same : (y x : List ℕ) → Some y ≡ Some x → x ≡ y
    some_same y x e = cc

module _ {D : Type 0} (disk : Ghosts D) (files : List File) (history : List Event) (s : PagerState D)
    (k : Keeps disk files history s) where
  abbrev number : ℕ
  number = s.marks + 1

  quiet_mark : IsQuiet (Mark number ∷ [])
  quiet_mark = record { memory = λ m. refl; lengths = λ l. refl }

  quiet_both : IsQuiet (Mark number ∷ Acknowledge number ∷ [])
  quiet_both = record { memory = λ m. refl; lengths = λ l. refl }

  later_mark : (other : ℕ) → Contains k.later (Mark other) → Contains (history ++ Mark number ∷ []) (Mark other)
  later_mark other there = Contains-append_left history (Mark number ∷ []) (Mark other)
      (in_history k.later k.new_rest history (Mark other) k.new_begins there)

  own_mark : Contains (history ++ Mark number ∷ []) (Mark number)
  own_mark = Contains-append_right history (Mark number ∷ []) (Mark number) (0, omega arith, refl)

  keeps_empty : has_uncommitted s.write_outs.batches ≡ false → s.staged ≡ []
      → Keeps disk files (history ++ Mark number ∷ Acknowledge number ∷ []) (record s { marks = number })
  keeps_empty free none = record {
    old = k.old;
    new = k.new;
    earlier = k.earlier;
    later = history ++ Mark number ∷ [];
    old_rest = k.old_rest ++ Mark number ∷ Acknowledge number ∷ [];
    new_rest = Acknowledge number ∷ [];
    old_begins = begins_more k.earlier k.old_rest history (Mark number ∷ Acknowledge number ∷ []) k.old_begins;
    new_begins = append_assoc history (Mark number ∷ []) (Acknowledge number ∷ []);
    old_marked = k.old_marked;
    new_marked = inr (history, number, refl);
    old_has = k.old_has;
    new_has = have_more files s.table k.new history (Mark number ∷ []) quiet_mark
        (subst (λ (m : Blocks). HaveFiles files s.table (written_over m k.new) history) none k.current);
    current = have_more files s.table (written_over s.staged k.new) history (Mark number ∷ Acknowledge number ∷ [])
        quiet_both k.current;
    lengths = lengths_more files history (Mark number ∷ Acknowledge number ∷ []) quiet_both ∙ k.lengths;
    named = k.named;
    table = k.table;
    consistent = k.consistent;
    old_acknowledged = λ has. absurd (both_ways (has_uncommitted s.write_outs.batches) free has);
    new_acknowledged = λ other there. elim (Contains-append_cases history (Mark number ∷ Acknowledge number ∷ [])
        (Acknowledge other) there) [
          | inl before ↦ later_mark other (k.new_acknowledged other before)
          | inr now ↦ subst (λ n. Contains (history ++ Mark number ∷ []) (Mark n)) (own other now) own_mark
        ];
    marks = all_weaken (λ w. Contains k.later (Mark w.batch.mark))
        (λ w. Contains (history ++ Mark number ∷ []) (Mark w.batch.mark)) s.write_outs.batches
        (λ w there. later_mark w.batch.mark there) k.marks;
    records = k.records;
    tied = k.tied;
  }
    where
      own : (other : ℕ) → Contains (Mark number ∷ Acknowledge number ∷ []) (Acknowledge other) → number ≡ other
      own other (zero, lt, is) = absurd (cc)
      own other (suc zero, lt, is) = cc
      own other (suc (suc n), lt, is) = absurd (omega (arith, lt))

  keeps_some : (blocks : Blocks) → s.staged ≡ blocks → MayBegin s.write_outs number (homes_in s.staged)
      → Keeps disk files (history ++ Mark number ∷ []) (record s {
        staged = [];
        write_outs = begun s.write_outs number (homes_in blocks);
        records = s.records ++ blocks ∷ [];
        marks = number;
      })
  keeps_some blocks is may =
      let w = begun_of s.write_outs.geometry.slots (next_batch s.write_outs number (homes_in blocks)) in
      let next = written_over blocks k.new in
      let has = have_more files s.table next history (Mark number ∷ []) quiet_mark
      (subst (λ (m : Blocks). HaveFiles files s.table (written_over m k.new) history) is k.current) in
      let are = subst (λ (m : Blocks). AreHomes s.write_outs.geometry (homes_in m)) is may.are_homes in
      record {
        old = k.new;
        new = next;
        earlier = k.later;
        later = history ++ Mark number ∷ [];
        old_rest = k.new_rest ++ Mark number ∷ [];
        new_rest = [];
        old_begins = begins_more k.later k.new_rest history (Mark number ∷ []) k.new_begins;
        new_begins = append-nil (history ++ Mark number ∷ []);
        old_marked = k.new_marked;
        new_marked = inr (history, number, refl);
        old_has = k.new_has;
        new_has = has;
        current = has;
        lengths = lengths_more files history (Mark number ∷ []) quiet_mark ∙ k.lengths;
        named = k.named;
        table = k.table;
        consistent = consistent_begun s.table s.write_outs k.old k.new next number (homes_in blocks)
            (disk.seen s.device) (disk.may_leave s.device) may.whole may.free may.some_mark may.small_mark are
            may.newest (λ b none. ap (λ o. unwrap_or o (k.new b)) (absent blocks b none)) k.consistent;
        old_acknowledged = λ has. not_acknowledged k.later history (Mark number) (λ n e. cc) k.new_acknowledged;
        new_acknowledged = λ other there. later_mark other
            (not_acknowledged k.later history (Mark number) (λ n e. cc) k.new_acknowledged other there);
        marks = all_push (λ x. Contains (history ++ Mark number ∷ []) (Mark x.batch.mark)) s.write_outs.batches w
            (all_weaken (λ x. Contains k.later (Mark x.batch.mark))
            (λ x. Contains (history ++ Mark number ∷ []) (Mark x.batch.mark)) s.write_outs.batches
            (λ x there. later_mark x.batch.mark there) k.marks) own_mark;
        records = λ b x e. pushed_record (bytes_in blocks b) (newest_in s.records b) x (k.new b) (next b)
            (sym (newest_push s.records blocks b) ∙ e) (k.records b x) refl;
        tied = map_push (λ (x : WriteOut). x.batch.homes) s.write_outs.batches w
            ∙ ap (λ (l : List (List ℕ)). l ++ homes_in blocks ∷ []) k.tied ∙ sym (map_push homes_in s.records blocks);
      }

free_of : (a b c d : Bool) (x y : Refusal) → first_reason (reason_if a x ∷ reason_if ((b || c) || d) y ∷ []) ≡ None
    → b ≡ false
free_of true b c d x y e = absurd (cc)
free_of false true c d x y e = absurd (cc)
free_of false false c d x y e = refl

pub keeps_committed : {D : Type 0} (disk : Ghosts D) (files : List File) (history : List Event)
    (s : PagerState D) → IsBegunCommit s → Keeps disk files history s
    → Keeps disk files (history ++ marked_with (s.marks + 1) s.staged) (after_commit s)
keeps_committed disk files history s commit k = by s.staged refl
  where
    no_block : (block : ℕ × List ℕ) (blocks : Blocks) → block ∷ blocks ≡ [] → ⊥
    no_block block blocks e = cc

    by : (blocks : Blocks) → s.staged ≡ blocks
        → Keeps disk files (history ++ marked_with (s.marks + 1) blocks) (committed_with s blocks)
    by [] is = keeps_empty disk files history s k
        (free_of s.write_outs.broken (has_uncommitted s.write_outs.batches)
        (nat_eq (length s.write_outs.batches) (journals_of s.write_outs.geometry.layout))
        (nat_le (2 ^ 32 - 1) s.marks) Refused.Broken Refused.Busy commit.admitted) is
    by (block ∷ blocks) is = keeps_some disk files history s k (block ∷ blocks) is
        (commit.may (λ e. no_block block blocks (sym is ∙ e)))

-- ---- a read

pub only_read : {D : Type 0} (disk : Ghosts D) (files : List File) (history : List Event) (s : PagerState D)
    (after : D) → IsOnlyRead disk s.device after → (k : Keeps disk files history s)
    → IsConsistent s.table s.write_outs k.old k.new (disk.seen after) (disk.may_leave after)
only_read disk files history s after read k =
    subst (λ (l : List ℕ). IsConsistent s.table s.write_outs k.old k.new l (disk.may_leave after)) (sym read.same)
    (record {
      geometry = k.consistent.geometry;
      left = λ c may. k.consistent.left c (read.left c may);
      reads = k.consistent.reads;
      rests = λ whole none. (
        (k.consistent.rests whole none).0,
        λ c may. (k.consistent.rests whole none).1 c (read.left c may),
      );
      sound = k.consistent.sound;
      tied = λ whole. record {
        seen_is = (k.consistent.tied whole).seen_is;
        left_are = λ c may. (k.consistent.tied whole).left_are c (read.left c may);
      };
    })

pub keeps_read : {D : Type 0} (disk : Ghosts D) (files : List File) (history : List Event) (s : PagerState D)
    (after : D) → IsOnlyRead disk s.device after → Keeps disk files history s
    → Keeps disk files history (record s { device = after })
keeps_read disk files history s after read k = record {
  old = k.old;
  new = k.new;
  earlier = k.earlier;
  later = k.later;
  old_rest = k.old_rest;
  new_rest = k.new_rest;
  old_begins = k.old_begins;
  new_begins = k.new_begins;
  old_marked = k.old_marked;
  new_marked = k.new_marked;
  old_has = k.old_has;
  new_has = k.new_has;
  current = k.current;
  lengths = k.lengths;
  named = k.named;
  table = k.table;
  consistent = only_read disk files history s after read k;
  old_acknowledged = k.old_acknowledged;
  new_acknowledged = k.new_acknowledged;
  marks = k.marks;
  records = k.records;
  tied = k.tied;
}

-- ---- a step

module _ (answer : Flushed) where
  acknowledged_now : (number : ℕ) → Contains (acknowledged_by answer) (Acknowledge number) → answer ≡ Committed number
  acknowledged_now number there = by answer there
    where
      by : (a : Flushed) → Contains (acknowledged_by a) (Acknowledge number) → a ≡ Committed number
      by Going there = absurd (omega (arith, there.1))
      by (Committed mark) (zero, lt, is) = ap Committed (same mark number is)
        where
          same : (m n : ℕ) → Acknowledge m ≡ Acknowledge n → m ≡ n
          same m n e = cc
      by (Committed mark) (suc n, lt, is) = absurd (omega (arith, lt))
      by (Done mark) there = absurd (omega (arith, there.1))
      by Device there = absurd (omega (arith, there.1))
      by Broken there = absurd (omega (arith, there.1))

  acked : (prefix history : List Event) → HasAcknowledged prefix history
      → ((number : ℕ) → answer ≡ Committed number → Contains prefix (Mark number))
      → HasAcknowledged prefix (history ++ acknowledged_by answer)
  acked prefix history has now number there =
      elim (Contains-append_cases history (acknowledged_by answer) (Acknowledge number) there) [
        | inl before ↦ has number before
        | inr own ↦ now number (acknowledged_now number own)
      ]

  quiet_answer : IsQuiet (acknowledged_by answer)
  quiet_answer = by answer
    where
      by : (a : Flushed) → IsQuiet (acknowledged_by a)
      by Going = record { memory = λ m. refl; lengths = λ l. refl }
      by (Committed mark) = record { memory = λ m. refl; lengths = λ l. refl }
      by (Done mark) = record { memory = λ m. refl; lengths = λ l. refl }
      by Device = record { memory = λ m. refl; lengths = λ l. refl }
      by Broken = record { memory = λ m. refl; lengths = λ l. refl }

  found_before : (records : List Blocks) (b : ℕ) (x : List ℕ) → newest_in (records_after answer records) b ≡ Some x
      → newest_in records b ≡ Some x
  found_before records b x e = by answer e
    where
      by : (a : Flushed) → newest_in (records_after a records) b ≡ Some x → newest_in records b ≡ Some x
      by Going e = e
      by (Committed mark) e = e
      by (Done mark) e = newest_rest records b x e
      by Device e = e
      by Broken e = e

done_unless : (answer : Flushed) → (answer ≡ Device → ⊥) → has_done answer ≡ true
done_unless Going other = refl
done_unless (Committed mark) other = refl
done_unless (Done mark) other = refl
done_unless Device other = absurd (other refl)
done_unless Broken other = refl

module _ {D : Type 0} (disk : Ghosts D) (files : List File) (history : List Event) (s : PagerState D)
    (answer : Flushed) (after : D) (step : IsPagerStep disk s answer after) (k : Keeps disk files history s) where
  abbrev old : ℕ → List ℕ
  old = k.old

  abbrev new : ℕ → List ℕ
  new = k.new

  abbrev shares : Bool
  shares = shares_syncs s.write_outs.geometry.layout

  -- the step is given the block of New
  is_new : (home : ℕ) → outs_home s.write_outs ≡ Some home → next_bytes s ≡ new home
  is_new home e =
      let found = record_found s.write_outs s.records k.tied home e in
      ap (record_for s.records) e ∙ ap (λ o. unwrap_or o (zeros 4096)) found.1 ∙ k.records home found.0 found.1

  pub step_within : (c : List ℕ) → TornFromWork (next_work s.write_outs (next_bytes s)) (disk.may_leave s.device) c
      → LeftWithin s.table old new (current_stage s.write_outs) c
  step_within c torn = consistent_within s.table old new s.write_outs (disk.seen s.device) (disk.may_leave s.device)
      (next_bytes s) step.a_block k.consistent step.whole step.some is_new c torn

  stepped_done : answer ≡ next_answer s.write_outs
      → IsConsistent s.table (outs_after s.write_outs answer) old new (disk.seen after) (disk.may_leave after)
  stepped_done is =
      let done = done_unless answer (λ e. never_device s.write_outs (sym is ∙ e)) in
      subst (λ (a : Flushed). IsConsistent s.table (outs_after s.write_outs a) old new (disk.seen after)
      (disk.may_leave after)) (sym is)
      (subst (λ (l : List ℕ). IsConsistent s.table (outs_after s.write_outs (next_answer s.write_outs)) old new l
      (disk.may_leave after)) (sym (done_seen step.did step.honest done))
      (consistent_after s.table old new s.write_outs (disk.seen s.device) (disk.may_leave s.device) (next_bytes s)
      step.a_block k.consistent step.whole step.some is_new (disk.may_leave after) step.did.left
      (step.did.durable step.honest done)))

  stepped_failed : answer ≡ Device
      → IsConsistent s.table (outs_after s.write_outs answer) old new (disk.seen after) (disk.may_leave after)
  stepped_failed is =
      subst (λ (a : Flushed). IsConsistent s.table (outs_after s.write_outs a) old new (disk.seen after)
      (disk.may_leave after)) (sym is)
      (consistent_failed s.table old new s.write_outs (disk.seen s.device) (disk.may_leave s.device) (next_bytes s)
      step.a_block k.consistent step.whole step.some is_new (disk.seen after) (disk.may_leave after) step.did.left)

  stepped : IsConsistent s.table (outs_after s.write_outs answer) old new (disk.seen after) (disk.may_leave after)
  stepped = elim step.answered [ inl is ↦ stepped_done is | inr is ↦ stepped_failed is ]

  -- it answers by the write-out that makes it
  answered_by : (number : ℕ) → answer ≡ Committed number
      → option_map_or answer_of (moving shares s.write_outs.batches) Broken ≡ Committed number
  answered_by number is = elim step.answered [
    | inl same ↦ sym (cond-false s.write_outs.broken Broken
        (option_map_or answer_of (moving shares s.write_outs.batches) Broken) step.whole) ∙ sym same ∙ is
    | inr failed ↦ absurd (not_both number (sym is ∙ failed))
  ]
    where
      not_both : (n : ℕ) → Committed n ≡ Device → ⊥
      not_both n e = cc

  mark_there : (number : ℕ) → answer ≡ Committed number → Contains k.later (Mark number)
  mark_there number is = by (moving shares s.write_outs.batches) refl (answered_by number is)
    where
      by : (o : Option WriteOut) → moving shares s.write_outs.batches ≡ o
          → option_map_or answer_of o Broken ≡ Committed number → Contains k.later (Mark number)
      by None at e = absurd (cc)
      by (Some w) at e =
          let there = by_mover (λ x. Contains k.later (Mark x.batch.mark)) shares s.write_outs.batches k.marks w at in
          subst (λ n. Contains k.later (Mark n)) (committing w number e).mark_is there

  none_now : (number : ℕ) → answer ≡ Committed number
      → has_uncommitted (batches_after shares answer s.write_outs.batches) ≡ false
  none_now number is =
      ap (λ (a : Flushed). has_uncommitted (batches_after shares a s.write_outs.batches)) is
      ∙ none_uncommitted shares s.write_outs.batches number k.consistent.sound.ordered (answered_by number is)

  pub keeps_stepped : Keeps disk files (history ++ acknowledged_by answer) (after_step s answer after)
  keeps_stepped = record {
    old = k.old;
    new = k.new;
    earlier = k.earlier;
    later = k.later;
    old_rest = k.old_rest ++ acknowledged_by answer;
    new_rest = k.new_rest ++ acknowledged_by answer;
    old_begins = begins_more k.earlier k.old_rest history (acknowledged_by answer) k.old_begins;
    new_begins = begins_more k.later k.new_rest history (acknowledged_by answer) k.new_begins;
    old_marked = k.old_marked;
    new_marked = k.new_marked;
    old_has = k.old_has;
    new_has = k.new_has;
    current = have_more files s.table (written_over s.staged k.new) history (acknowledged_by answer)
        (quiet_answer answer) k.current;
    lengths = lengths_more files history (acknowledged_by answer) (quiet_answer answer) ∙ k.lengths;
    named = k.named;
    table = k.table;
    consistent = stepped;
    old_acknowledged = λ has.
        elim (cases_Bool (has_uncommitted s.write_outs.batches)) [
          | inl was ↦ acked answer k.earlier history (k.old_acknowledged was)
              (λ number is. absurd (both_ways (has_uncommitted (batches_after shares answer s.write_outs.batches))
              (none_now number is) has))
          | inr none ↦ absurd (both_ways (has_uncommitted (batches_after shares answer s.write_outs.batches))
              (none_after shares answer s.write_outs.batches none) has)
        ];
    new_acknowledged = acked answer k.later history k.new_acknowledged mark_there;
    marks = all_after (λ (w : WriteOut). Contains k.later (Mark w.batch.mark)) (λ w there. there) shares answer
        s.write_outs.batches k.marks;
    records = λ b x e. k.records b x (found_before answer s.records b x e);
    tied = tied_after shares answer s.write_outs.batches s.records k.tied;
  }

-- ---- what a crash leaves

old_or_new : (v : SuperValue) (old new : ℕ → List ℕ) (o : Option Stage) (c : List ℕ) → LeftWithin v old new o c
    → (Recovers v old c × (option_map_or is_committed o true ≡ false)) ⊎ Recovers v new c
old_or_new v old new None c left = inr left
old_or_new v old new (Some (Recording i)) c left = inl (left, refl)
old_or_new v old new (Some (Describing i)) c left = inl (left, refl)
old_or_new v old new (Some SyncingRecords) c left = inl (left, refl)
old_or_new v old new (Some Opening) c (inl left) = inl (left, refl)
old_or_new v old new (Some Opening) c (inr left) = inr left
old_or_new v old new (Some Committing) c (inl left) = inl (left, refl)
old_or_new v old new (Some Committing) c (inr left) = inr left
old_or_new v old new (Some (Applying i)) c left = inr left
old_or_new v old new (Some SyncingHomes) c left = inr left
old_or_new v old new (Some Closing) c left = inr left
old_or_new v old new (Some Finishing) c left = inr left

-- these bytes recover to contents that have the files after a durable prefix of the history
pub record IsDurable (files : List File) (v : SuperValue) (history : List Event) (c : List ℕ) : Type 0 where
  pub prefix : List Event
  pub contents : ℕ → List ℕ
  pub durable : IsDurablePrefix prefix history
  pub has : HaveFiles files v contents prefix
  pub recovers : Recovers v contents c

durable_as : {files : List File} {v : SuperValue} {history : List Event} {c : List ℕ} (prefix rest : List Event)
    (contents : ℕ → List ℕ) → prefix ++ rest ≡ history → IsMarked prefix → HasAcknowledged prefix history
    → HaveFiles files v contents prefix → Recovers v contents c → IsDurable files v history c
durable_as prefix rest contents begins marked acknowledged has recovers = record {
  prefix = prefix;
  contents = contents;
  durable = record { rest = rest; begins = begins; marked = marked; acknowledged = acknowledged };
  has = has;
  recovers = recovers;
}

pub durable_left : {D : Type 0} (disk : Ghosts D) (files : List File) (history : List Event) (s : PagerState D)
    (k : Keeps disk files history s) (c : List ℕ) → LeftWithin s.table k.old k.new (current_stage s.write_outs) c
    → IsDurable files s.table history c
durable_left disk files history s k c left =
    elim (old_or_new s.table k.old k.new (current_stage s.write_outs) c left) [
      | inl was ↦ durable_as k.earlier k.old_rest k.old k.old_begins k.old_marked (k.old_acknowledged (early was.1))
          k.old_has was.0
      | inr is ↦ durable_as k.later k.new_rest k.new k.new_begins k.new_marked k.new_acknowledged k.new_has is
    ]
  where
    early : option_map_or is_committed (current_stage s.write_outs) true ≡ false
        → has_uncommitted s.write_outs.batches ≡ true
    early e = elim (cases_Bool (has_uncommitted s.write_outs.batches)) [
      | inl has ↦ has
      | inr none ↦ absurd (both_ways (option_map_or is_committed (current_stage s.write_outs) true) e
          (stage_committed s.write_outs.batches none))
    ]
