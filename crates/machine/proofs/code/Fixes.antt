-- How faults are served, by what the layer below did.
use Rattle.machine.proofs.Names.{ℕ, ◌≡◌, inl, inr, ◌*◌, ◌/◌, ◌≤◌, ◌&&◌, ◌||◌, not, Bool, true, false, cond, List, []}
use Rattle.machine.proofs.Names.{◌∷◌, ◌++◌, length, take, Some, None, is_none, Result, Ok, refl, sym, ap, ◌∙◌}
use Rattle.machine.proofs.Names.{subst, ⊎_elim, arith, drop_at, take_all, Refusal, Place, may_write, cond-false}
use Rattle.machine.proofs.Names.{block_at, length-zeros, FramesState, has_free, Spaces, current, not_free, page_at}
use Rattle.machine.proofs.Names.{FaultServed, is_in_memory, copies_out, place_of_fault, fault_refusal, FixRefused}
use Rattle.machine.proofs.Names.{FixDone, refusal_of, reads_home, block_from, State, length_of, home_of, page_from}
use Rattle.machine.proofs.Names.{served_refusal, reason_against, is_absent}
use Rattle.machine.proofs.Names.{reads_page, Answers, with_hardware, AnswersBy}
use Rattle.page_entry.specs.declared.refusal.Refusal.TheVariants as refusals
use Rattle.machine.specs.declared.act.Act.TheVariants as acts
use Rattle.fault.specs.declared.page_fault.PageFault.{PageFault}
use Rattle.fault.specs.Fixing.{cut_to_length as cut_by}
use Rattle.machine.specs.declared.act.Reply.TheVariants as replies
use Rattle.volume_codec.specs.Text.{zeros}
use Rattle.machine.proofs.refining.Faults.{led_to}
use Rattle.machine.proofs.code.Refusals.{passed, found, alone, at_most}

-- ---- refused before anything is read

pub fixes_refused : (s : State) (d : List ℕ) (p va : ℕ) (write : Bool) (why : Refusal)
    → reason_against s p (acts.Fix va write) ≡ Some why → Answers s d p (acts.Fix va write) (replies.Refused why) s
fixes_refused s d p va write refusals.Device is = (inl is, refl)
fixes_refused s d p va write why is = (is, refl)

pub refused_by : (honest : Type 0) (s : State) (disk : List ℕ) (p va : ℕ) (write : Bool) (why : Refusal)
    → reason_against s p (acts.Fix va write) ≡ Some why
    → AnswersBy honest (λ d d'. Answers s d p (acts.Fix va write) (replies.Refused why) s × (d' ≡ d)) disk disk
refused_by honest s disk p va write why is = record {
  some_disk = ([], [], (fixes_refused s [] p va write why is, refl));
  own_disk = λ h. (fixes_refused s disk p va write why is, refl);
}

-- nothing is read then
pub refused_unread : (s : State) (p va : ℕ) (write : Bool) (why : Refusal)
    → reason_against s p (acts.Fix va write) ≡ Some why → reads_page s p va write ≡ false
refused_unread s p va write why is =
    ap (λ r. is_none r && is_absent s (place_of_fault s.hardware.spaces (current s.hardware.shootdown p) va write)) is

-- the processor may not act
pub fix-not_free : (s : State) (p va : ℕ) (write : Bool) (why : Refusal) → not_free s.hardware.shootdown p ≡ Some why
    → reason_against s p (acts.Fix va write) ≡ Some why
fix-not_free s p va write why is =
    found (not_free s.hardware.shootdown p) (served_refusal s write
    (place_of_fault s.hardware.spaces (current s.hardware.shootdown p) va write) ∷ []) why is

-- by where the address leads
pub fix-leads : (s : State) (p va : ℕ) (write : Bool) (leads : Result Place Refusal)
    → not_free s.hardware.shootdown p ≡ None
    → place_of_fault s.hardware.spaces (current s.hardware.shootdown p) va write ≡ leads
    → reason_against s p (acts.Fix va write) ≡ served_refusal s write leads
fix-leads s p va write leads free is =
    let served = served_refusal s write (place_of_fault s.hardware.spaces (current s.hardware.shootdown p) va write) in
    passed (not_free s.hardware.shootdown p) (served ∷ []) (served_refusal s write leads) free
    (alone served ∙ ap (served_refusal s write) is)

-- the page begins past the file's end
pub fix-past : (s : State) (p va : ℕ) (write : Bool) (place : Place) → not_free s.hardware.shootdown p ≡ None
    → place_of_fault s.hardware.spaces (current s.hardware.shootdown p) va write ≡ Ok place
    → length_of s place.file ≤ 4096 * place.page → reason_against s p (acts.Fix va write) ≡ Some refusals.BusAdrErr
fix-past s p va write place free leads past =
    let copies = copies_out s.hardware.memory s.checkpoint (page_at place) write
    && not (has_free s.hardware.memory.copies) in
    let rest = cond copies (Some refusals.Held)
    (cond (is_in_memory s.hardware.memory (page_at place)) None (cond (not (has_free s.hardware.memory.frames))
    (Some refusals.NoFrame) (cond s.write_outs.broken (Some refusals.Device) None))) in
    fix-leads s p va write (Ok place) free leads
    ∙ ap (λ b. cond b (Some refusals.BusAdrErr) rest) (at_most (length_of s place.file) (4096 * place.page) past)

-- a device of which one page was read at most
pub seen_same : {D : Type 0} (seen : D → List ℕ) (old new : D) (reads : Bool) → (reads ≡ false → new ≡ old)
    → (reads ≡ true → seen new ≡ seen old) → seen new ≡ seen old
seen_same seen old new true untouched read = read refl
seen_same seen old new false untouched read = ap seen (untouched refl)

-- ---- a fault that leads to a place

-- what the layer below is told of the fault at an address
pub record IsFaultAt (s : State) (p va : ℕ) (write : Bool) (fault : PageFault) : Type 0 where
  pub free : not_free s.hardware.shootdown p ≡ None
  pub leads : place_of_fault s.hardware.spaces (current s.hardware.shootdown p) va write ≡ Ok fault.place
  pub pcid : fault.pcid ≡ current s.hardware.shootdown p
  pub page : fault.page ≡ va / 4096
  pub stores : fault.write ≡ write
  pub home : fault.home ≡ 4096 * home_of s.table (page_at fault.place)
  pub length_is : fault.length ≡ length_of s fault.place.file
  pub broken : fault.broken ≡ s.write_outs.broken

pub fault_at : (s : State) (p va : ℕ) (write : Bool) (place : Place) (pcid home length_is : ℕ) (broken : Bool)
    → not_free s.hardware.shootdown p ≡ None → pcid ≡ current s.hardware.shootdown p
    → Ok place ≡ place_of_fault s.hardware.spaces pcid va write → home ≡ home_of s.table (page_at place)
    → length_is ≡ length_of s place.file → broken ≡ s.write_outs.broken
    → IsFaultAt s p va write (record {
      pcid = pcid;
      page = va / 4096;
      place = place;
      write = write;
      home = 4096 * home;
      length = length_is;
      broken = broken;
    })
fault_at s p va write place pcid home length_is broken free space leads at_home as_long whole = record {
  free = free;
  leads = ap (λ q. place_of_fault s.hardware.spaces q va write) (sym space) ∙ sym leads;
  pcid = space;
  page = refl;
  stores = refl;
  home = ap (λ n. 4096 * n) at_home;
  length_is = as_long;
  broken = whole;
}

module _ (s : State) (p va : ℕ) (write : Bool) (fault : PageFault) (at : IsFaultAt s p va write fault) where
  pub same_refusal : reason_against s p (acts.Fix va write) ≡ refusal_of s.hardware.memory s.checkpoint fault
  same_refusal =
      fix-leads s p va write (Ok fault.place) at.free at.leads
      ∙ (λ i. fault_refusal s.hardware.memory s.checkpoint (sym at.broken i) fault.place
      (sym at.length_is i) (sym at.stores i))
      ∙ sym (cond-false (fault.write && not (may_write fault.place.rights)) _ _
      (ap (λ b. b && not (may_write fault.place.rights)) at.stores ∙ and_not write (may_write fault.place.rights)
      (led_to s.hardware.spaces (current s.hardware.shootdown p) va write fault.place at.leads).allowed))
    where
      and_not : (a b : Bool) → (not a || b) ≡ true → (a && not b) ≡ false
      and_not true true e = refl
      and_not true false e = absurd (cc)
      and_not false b e = refl

  pub same_reads : reads_page s p va write ≡ reads_home s.hardware.memory s.checkpoint fault
  same_reads = λ i. is_none (same_refusal i) && is_absent s (at.leads i)

  -- it was refused, or its read failed
  pub refused_fix : (honest : Type 0) (disk disk' : List ℕ) (why : Refusal) → (honest → disk' ≡ disk)
      → FixRefused s.hardware.memory s.checkpoint fault why
      → AnswersBy honest (λ d d'. Answers s d p (acts.Fix va write) (replies.Refused why) s × (d' ≡ d)) disk disk'
  refused_fix honest disk disk' why same refused =
      let all : (d : List ℕ) → Answers s d p (acts.Fix va write) (replies.Refused why) s = λ d. ⊎_elim
      (λ first. fixes_refused s d p va write why (same_refusal ∙ first))
      (λ failed. subst (λ (x : Refusal). Answers s d p (acts.Fix va write) (replies.Refused x) s) (sym failed.1)
      (inr (same_reads ∙ failed.0), refl)) refused in
      record { some_disk = ([], [], (all [], refl)); own_disk = λ h. (all disk, same h) }

  -- ---- it was served

  -- the device with a block at the page's home, and elsewhere any bytes
  home : ℕ
  home = home_of s.table (page_at fault.place)

  with_block : List ℕ → List ℕ
  with_block block = zeros (4096 * home) ++ block

  block_there : (block : List ℕ) → length block ≡ 4096 → block_at (with_block block) home ≡ block
  unfolding home with_block
  block_there block size =
      ap (take 4096) (drop_at (zeros (4096 * home)) block (4096 * home) (length-zeros (4096 * home))) ∙ all
    where
      all : take 4096 block ≡ block
      all = take_all 4096 block (omega (arith, size))

  -- the page that is read where its home block has these bytes
  page_read : (d block bytes : List ℕ) → bytes ≡ cut_by fault.length fault.place.page block → block_at d home ≡ block
      → bytes ≡ page_from s d (page_at fault.place)
  unfolding home zeros
  page_read d block bytes cut there =
      cut ∙ ap (λ n. cut_by n fault.place.page block) at.length_is
      ∙ ap (λ (x : List ℕ). cut_by (length_of s fault.place.file) fault.place.page x) (sym there)

  module _ (spaces' : Spaces) (memory' : FramesState) where
    ServedWith : List ℕ → Type 0
    ServedWith bytes = FaultServed s.hardware.spaces s.hardware.memory s.checkpoint (current s.hardware.shootdown p)
        (va / 4096) fault.place write bytes spaces' memory'

    -- a page that was in memory isn't read
    unread : (bytes other : List ℕ) → is_in_memory s.hardware.memory (page_at fault.place) ≡ true → ServedWith bytes
        → ServedWith other
    unfolding ServedWith
    unread bytes other there served = record {
      frame = served.frame;
      mid = served.mid;
      brought = ⊎_elim (λ had. inl had) (λ read. absurd (let both = sym there ∙ read.0 in cc)) served.brought;
      copied = served.copied;
      entry = served.entry;
    }

    here : (bytes : List ℕ) → FaultServed s.hardware.spaces s.hardware.memory s.checkpoint fault.pcid fault.page
        fault.place fault.write bytes spaces' memory' → ServedWith bytes
    unfolding ServedWith
    here bytes served =
        subst (λ w. FaultServed s.hardware.spaces s.hardware.memory s.checkpoint (current s.hardware.shootdown p)
        (va / 4096) fault.place w bytes spaces' memory') at.stores
        (subst (λ n. FaultServed s.hardware.spaces s.hardware.memory s.checkpoint
        (current s.hardware.shootdown p) n fault.place fault.write bytes spaces' memory') at.page
        (subst (λ n. FaultServed s.hardware.spaces s.hardware.memory s.checkpoint n fault.page fault.place fault.write
        bytes spaces' memory') at.pcid served))

    new : State
    new = with_hardware s (record s.hardware { spaces = spaces'; memory = memory' })

    fixed : refusal_of s.hardware.memory s.checkpoint fault ≡ None → (d : List ℕ)
        → ServedWith (page_from s d (page_at fault.place)) → Answers s d p (acts.Fix va write) replies.Fixed new
    unfolding ServedWith new
    fixed allowed d served = (
      same_refusal ∙ allowed,
      record {
        place = fault.place;
        leads = at.leads;
        spaces = spaces';
        memory = memory';
        served = served;
        done = refl;
      },
    )

    pub served_fix : (honest : Type 0) (disk disk' : List ℕ) → (honest → disk' ≡ disk)
        → FixDone honest disk s.hardware.spaces s.hardware.memory s.checkpoint fault spaces' memory'
        → AnswersBy honest (λ d d'. Answers s d p (acts.Fix va write) replies.Fixed
        (with_hardware s (record s.hardware { spaces = spaces'; memory = memory' })) × (d' ≡ d)) disk disk'
    unfolding ServedWith new home
    served_fix honest disk disk' same done = by (is_in_memory s.hardware.memory (page_at fault.place)) refl
      where
        was : ServedWith done.bytes
        was = here done.bytes done.served

        by : (b : Bool) → is_in_memory s.hardware.memory (page_at fault.place) ≡ b
            → AnswersBy honest (λ d d'. Answers s d p (acts.Fix va write) replies.Fixed
            (with_hardware s (record s.hardware { spaces = spaces'; memory = memory' })) × (d' ≡ d)) disk disk'
        by true there = record {
          some_disk = (
            [],
            [],
            (fixed done.allowed [] (unread done.bytes (page_from s [] (page_at fault.place)) there was), refl),
          );
          own_disk = λ h.
              (fixed done.allowed disk (unread done.bytes (page_from s disk (page_at fault.place)) there was), same h);
        }
        by false absent =
            let read = done.read (λ i. is_none (done.allowed i) && not (absent i)) in
            let d = with_block read.block in
            record {
              some_disk = (
                d,
                d,
                (
                  fixed done.allowed d (subst ServedWith
                      (page_read d read.block done.bytes read.cut (block_there read.block read.whole.size)) was),
                  refl,
                ),
              );
              own_disk = λ h. (
                fixed done.allowed disk (subst ServedWith (page_read disk read.block done.bytes read.cut
                    (sym (read.there h ∙ ap (block_from disk) at.home))) was),
                same h,
              );
            }
