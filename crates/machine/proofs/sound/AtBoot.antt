-- A fresh machine is sound.
use Rattle.machine.proofs.Names.{ℕ, zero, suc, ◌≡◌, ◌≤◌, false, List, [], ◌∷◌}
use Rattle.machine.proofs.Names.{length, map, get_or, slice_get, replicate, Option}
use Rattle.machine.proofs.Names.{None, Some, TableFile, refl, sym, ap, ◌∙◌, arith}
use Rattle.machine.proofs.Names.{false≢true, eq-eqb, length-replicate, get_or-replicate, FilePage, Frame, all_free}
use Rattle.machine.proofs.Names.{page_of, SuperValue, Fits, first_spaces, has_space, has_space-first_spaces}
use Rattle.machine.proofs.Names.{entry_at-first_spaces, place_at-first_spaces, AreSpaces-first_spaces, fresh_processor}
use Rattle.machine.proofs.Names.{fresh_shootdown, processor_at, IsShootdown-fresh, Coheres-fresh, Holds, Shape, State}
use Rattle.machine.proofs.Names.{length_of, IsShape, fresh, IsFresh, capacity_of, AreSpacesSound, IsMemorySound}
use Rattle.machine.proofs.Names.{AreWriteOutsSound, IsSound}
use Rattle.machine.proofs.sound.Lists.{get_or-replicate-same, memory_from, AreOnce-none}
use Rattle.machine.proofs.sound.Groups.{unchanged_sound}

module _ (table : SuperValue) (lengths : List ℕ) (shape : Shape) (is : IsShape table shape) where
  fresh_spaces : AreSpacesSound (fresh table lengths shape)
  fresh_spaces = record {
    tables = record {
      spaces = AreSpaces-first_spaces;
      shootdown = IsShootdown-fresh shape.cpus shape.tlb (omega (arith, is.some_processors)) is.few_processors
          (omega (arith, is.some_entries));
      coheres = Coheres-fresh first_spaces shape.cpus shape.tlb;
      current = λ p within.
          let at : processor_at (fresh_shootdown shape.cpus shape.tlb) p ≡ fresh_processor shape.tlb =
          get_or-replicate shape.cpus p (fresh_processor shape.tlb) (fresh_processor 1)
          (omega (arith, within, length-replicate shape.cpus (fresh_processor shape.tlb))) in
          ap (λ x. has_space first_spaces x.space) at ∙ has_space-first_spaces 0 ∙ eq-eqb 0 0 refl;
      in_table = λ pcid page place mapped. absurd (let none = place_at-first_spaces pcid page in cc);
    };
    prepared = λ lock held. absurd (cc);
  }

  -- no frame has a page
  holds_none : (frame : ℕ) (owner : FilePage) → Holds (all_free shape.frames shape.copies) frame owner → ⊥
  holds_none frame owner holds =
      let none = ap page_of (get_or-replicate-same {X = Option Frame} shape.frames frame None) in cc

  fresh_memory : IsMemorySound (fresh table lengths shape)
  fresh_memory = record {
    memory = memory_from (all_free shape.frames shape.copies)
        (AreOnce-none (replicate shape.frames None) (λ n. get_or-replicate-same shape.frames n None))
        (AreOnce-none (replicate shape.copies None) (λ n. get_or-replicate-same shape.copies n None));
    few_frames = omega (arith, is.few_frames, length-replicate {A = Option Frame} shape.frames None);
    in_files = λ frame owner holds. absurd (holds_none frame owner holds);
    backed = λ pcid page entry present. absurd (let none = entry_at-first_spaces pcid page in cc);
    notes = length-replicate shape.frames false ∙ sym (length-replicate shape.frames None);
    noted = λ frame noted. absurd (false≢true (sym (get_or-replicate-same shape.frames frame false) ∙ noted));
    frozen = λ k d within. absurd (omega arith);
    rising = tt;
    copied = λ copy kept there.
        absurd (let none = get_or-replicate-same {X = Option Frame} shape.copies copy None in cc);
  }

  fresh_write_outs : AreWriteOutsSound (fresh table lengths shape)
  fresh_write_outs = record {
    geometry = refl;
    few_batches = omega arith;
    older = tt;
    homes = λ k d within. absurd (omega arith);
    sources = λ k d within. absurd (omega arith);
    marked = λ k d within. absurd (omega arith);
    few_marks = omega arith;
    quiescent = λ set. absurd (false≢true set);
    frozen = refl;
  }

  fresh_state_sound : Fits table → length lengths ≡ length table.files
      → ((file : ℕ) → length_of (fresh table lengths shape) file ≤ capacity_of (fresh table lengths shape) file)
      → IsSound (fresh table lengths shape)
  fresh_state_sound fits same within = record {
    fits = fits;
    lengths = same;
    within = within;
    spaces = fresh_spaces;
    memory = fresh_memory;
    write_outs = fresh_write_outs;
  }

-- each length is at most its file's capacity, and where there is no file both are 0
pub lengths_within : (fs : List TableFile) (lengths : List ℕ) → length lengths ≡ length fs
    → ((i n : ℕ) (f : TableFile) → slice_get fs i ≡ Some f → slice_get lengths i ≡ Some n → n ≤ f.capacity)
    → (file : ℕ) → get_or lengths file 0 ≤ get_or (map (λ (f : TableFile). f.capacity) fs) file 0
lengths_within [] [] count within file = omega arith
lengths_within [] (n ∷ lengths) count within file = absurd (omega (arith, count))
lengths_within (f ∷ fs) [] count within file = absurd (omega (arith, count))
lengths_within (f ∷ fs) (n ∷ lengths) count within zero = within 0 n f refl refl
lengths_within (f ∷ fs) (n ∷ lengths) count within (suc file) =
    lengths_within fs lengths (omega (arith, count)) (λ i m g at size. within (suc i) m g at size) file

pub fresh_sound : (s : State) → IsFresh s → Fits s.table → length s.lengths ≡ length s.table.files
    → ((file : ℕ) → length_of s file ≤ capacity_of s file) → IsSound s
fresh_sound s is fits same within = unchanged_sound (fresh s.table s.lengths is.shape) s is.as_booted
    (fresh_state_sound s.table s.lengths is.shape is.fits fits same within)
