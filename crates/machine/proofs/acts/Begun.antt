-- The moves of changes that begin.
use Rattle.machine.proofs.Names.{ℕ, ◌≡◌, ◌+◌, ◌-◌, ◌<◌, ◌^◌, ◌||◌, not, leb, true, List, [], ◌∷◌, length, Some}
use Rattle.machine.proofs.Names.{None, Ok, refl, arith, or_parts, leb-false, Rights, PageRange, FilePage, is_busy}
use Rattle.machine.proofs.Names.{Change, maps_each, judged_range, judged_protection, judged_range-ok}
use Rattle.machine.proofs.Names.{judged_protection-ok, not_free, current, is_in_memory, State, refuse_if, why_not}
use Rattle.machine.proofs.Names.{zero, suc, sym, ◌∙◌, ◌≢◌, ◌≤◌, cond, cond-false}
use Rattle.machine.proofs.Names.{eqb, ltb, eqb-false, ltb-false, ne_eqb, WriteOut}
use Rattle.machine.proofs.Names.{lengths_blocks, capacity_of, length_of, lacks_frames, lacks_last_page, length_refusal}
use Rattle.machine.proofs.Names.{resize_refusal, Resizing}
use Rattle.machine.proofs.Names.{pages_in_file, is_msync, reason_against, MsyncFlags}
use Rattle.machine.proofs.Names.{begin_change, CanBegin, IsPrepared, pending_in, Beginning, Move, Begin}
use Rattle.page_entry.specs.declared.refusal.Refusal.TheVariants as refusals
use Rattle.machine.specs.declared.act.Act.TheVariants as acts
use Rattle.spaces.specs.declared.change.Change.TheVariants as changes
use Rattle.machine.proofs.sound.Admitted.{first_none, refuse_none}

positive : (n : ℕ) → (n ≡ 0 → ⊥) → 0 < n
positive zero other = absurd (other refl)
positive (suc n) other = omega arith

empty : (xs : List WriteOut) → length xs ≤ 0 → xs ≡ []
empty [] none = refl
empty (x ∷ xs) none = absurd (omega (arith, none))

module _ {disk : List ℕ} (s : State) (p : ℕ) {new : State} where
  begins : (change : Change) → CanBegin s p change → new ≡ begin_change s p change
      → Move disk s (Beginning p (pending_in (Some change))) new
  begins change may is = Begin (record { p = p; change = change; may = may; effect_is = refl; done = is })

  pub unmap_moves : (pcid va len : ℕ) (range : PageRange) → reason_against s p (acts.Unmap pcid va len) ≡ None
      → judged_range s.hardware.spaces pcid va len ≡ Ok range
      → new ≡ begin_change s p (changes.Unmap pcid range)
      → Move disk s (Beginning p (pending_in (Some (changes.Unmap pcid range)))) new
  unmap_moves pcid va len range none judged is =
      begins (changes.Unmap pcid range) (record {
        free = (first_none (not_free s.hardware.shootdown p)
            (why_not (judged_range s.hardware.spaces pcid va len) ∷ []) none).0;
        prepared = judged_range-ok s.hardware.spaces pcid va len range judged;
        whole = λ e. cc;
      }) is

  pub protect_moves : (pcid va len : ℕ) (prot : Rights) (range : PageRange)
      → reason_against s p (acts.Protect pcid va len prot) ≡ None
      → judged_protection s.hardware.spaces pcid va len prot ≡ Ok range
      → new ≡ begin_change s p (changes.Protect pcid range prot)
      → Move disk s (Beginning p (pending_in (Some (changes.Protect pcid range prot)))) new
  protect_moves pcid va len prot range none judged is =
      let fit = judged_protection-ok s.hardware.spaces pcid va len prot range judged in
      let user = judged_range-ok s.hardware.spaces pcid va len range fit.0 in
      begins (changes.Protect pcid range prot) (record {
        free = (first_none (not_free s.hardware.shootdown p)
            (why_not (judged_protection s.hardware.spaces pcid va len prot) ∷ []) none).0;
        prepared = (user.0, user.1, fit.1);
        whole = λ e. cc;
      }) is

  pub reclaim_moves : (owner : FilePage) → reason_against s p (acts.Reclaim owner.file owner.page) ≡ None
      → is_in_memory s.hardware.memory owner ≡ true
      → new ≡ begin_change s p (changes.Reclaim owner) → Move disk s (Beginning p None) new
  reclaim_moves owner none there is =
      let no_file = refuse_if (leb (length s.table.files) owner.file) refusals.NoFile in
      let no_page = refuse_if (leb (pages_in_file s.table.files owner.file) owner.page) refusals.Einval in
      let parts = first_none (not_free s.hardware.shootdown p) (no_file ∷ no_page ∷ []) none in
      let two = first_none no_file (no_page ∷ []) parts.1 in
      let file = leb-false (length s.table.files) owner.file
      (refuse_none (leb (length s.table.files) owner.file) refusals.NoFile two.0) in
      let page = leb-false (pages_in_file s.table.files owner.file) owner.page (refuse_none
      (leb (pages_in_file s.table.files owner.file) owner.page) refusals.Einval (first_none no_page [] two.1).0) in
      begins (changes.Reclaim owner)
      (record { free = parts.0; prepared = (file, page, there); whole = λ e. cc }) is

  pub set_length_moves : (file to : ℕ) → reason_against s p (acts.SetLength file to) ≡ None → to ≢ length_of s file
      → new ≡ begin_change s p (changes.SetLength file to) → Move disk s (Beginning p (Some (Resizing file to))) new
  set_length_moves file to none differs is =
      let outer = length_refusal s file to in
      let inner = cond (eqb to (length_of s file)) None (resize_refusal s file to) in
      let parts = first_none (not_free s.hardware.shootdown p) (outer ∷ inner ∷ []) none in
      let two = first_none outer (inner ∷ []) parts.1 in
      let no_block = refuse_if (eqb (lengths_blocks s.table.layout) 0) refusals.Einval in
      let no_file = refuse_if (leb (length s.table.files) file) refusals.NoFile in
      let too_long = refuse_if (ltb (capacity_of s file) to) refusals.Einval in
      let block = first_none no_block (no_file ∷ too_long ∷ []) two.0 in
      let file_there = first_none no_file (too_long ∷ []) block.1 in
      let resizes : resize_refusal s file to ≡ None = sym (cond-false (eqb to (length_of s file)) None
      (resize_refusal s file to) (ne_eqb to (length_of s file) differs)) ∙ (first_none inner [] two.1).0 in
      let broken = refuse_if s.write_outs.broken refusals.Broken in
      let busy = refuse_if (ltb 0 (length s.write_outs.batches)) refusals.Busy in
      let absent = refuse_if (lacks_last_page s file to) refusals.NotResident in
      let full = refuse_if (lacks_frames s file to) refusals.NoFrame in
      let whole = first_none broken (busy ∷ absent ∷ full ∷ []) resizes in
      let done = first_none busy (absent ∷ full ∷ []) whole.1 in
      let resident = first_none absent (full ∷ []) done.1 in
      let some = eqb-false (lengths_blocks s.table.layout) 0
      (refuse_none (eqb (lengths_blocks s.table.layout) 0) refusals.Einval block.0) in
      let prepared : IsPrepared s (changes.SetLength file to) = record {
        block = positive (lengths_blocks s.table.layout) some;
        there = leb-false (length s.table.files) file
            (refuse_none (leb (length s.table.files) file) refusals.NoFile file_there.0);
        within = ltb-false (capacity_of s file) to
            (refuse_none (ltb (capacity_of s file) to) refusals.Einval (first_none too_long [] file_there.1).0);
        differs = differs;
        whole = refuse_none s.write_outs.broken refusals.Broken whole.0;
        done = empty s.write_outs.batches (ltb-false 0 (length s.write_outs.batches)
            (refuse_none (ltb 0 (length s.write_outs.batches)) refusals.Busy done.0));
        resident = refuse_none (lacks_last_page s file to) refusals.NotResident resident.0;
        room = refuse_none (lacks_frames s file to) refusals.NoFrame (first_none full [] resident.1).0;
      } in
      begins (changes.SetLength file to) (record { free = parts.0; prepared = prepared; whole = λ e. cc }) is

  pub msync_moves : (va len : ℕ) (flags : MsyncFlags) → reason_against s p (acts.Msync va len flags) ≡ None
      → new ≡ begin_change s p changes.Checkpoint → Move disk s (Beginning p None) new
  msync_moves va len flags none is =
      let invalid = refuse_if (not (is_msync va len flags)) refusals.Einval in
      let unmapped = refuse_if
      (not (maps_each s.hardware.spaces (current s.hardware.shootdown p) va len)) refusals.Enomem in
      let broken = refuse_if s.write_outs.broken refusals.Broken in
      let is_full = is_busy s.write_outs || leb (2 ^ 32 - 1) s.marks in
      let busy = refuse_if is_full refusals.Busy in
      let parts = first_none (not_free s.hardware.shootdown p) (invalid ∷ unmapped ∷ broken ∷ busy ∷ []) none in
      let later = first_none broken (busy ∷ [])
      (first_none unmapped (broken ∷ busy ∷ []) (first_none invalid (unmapped ∷ broken ∷ busy ∷ []) parts.1).1).1 in
      let two = or_parts (is_busy s.write_outs) (leb (2 ^ 32 - 1) s.marks)
      (refuse_none is_full refusals.Busy (first_none busy [] later.1).0) in
      let few : s.marks + 1 < 2 ^ 32 = omega (arith, leb-false (2 ^ 32 - 1) s.marks two.1) in
      begins changes.Checkpoint (record {
        free = parts.0;
        prepared = (few, λ whole. two.0);
        whole = λ e. refuse_none s.write_outs.broken refusals.Broken later.0;
      }) is
