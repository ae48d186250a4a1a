-- The table of the disk: what is asked for, and what it says then.
use Rattle.std.proofs.Common.{◌≡◌, ◌<◌, ◌≤◌, ℕ, zero, suc, ◌+◌, List, [], ◌∷◌, ◌++◌, length, take, map, set, slice_get}
use Rattle.std.proofs.Common.{Some, refl, sym, ap, subst, ◌∙◌, add-one, arith}
use Rattle.std.specs.List.{AllByRecursion}
use Rattle.std.proofs.lemmas.List.{take_more_set, map_push}
use Rattle.page_entry.specs.declared.refusal.Refusal.{Refusal}
use Rattle.page_entry.specs.declared.refusal.Refusal.TheVariants.{BadShape, OutOfMemory}
use Rattle.volume_codec.specs.declared.file_spec.FileSpec.{FileSpec}
use Rattle.volume_codec.specs.declared.layout.Layout.{Layout}
use Rattle.volume_codec.specs.declared.layout.Layout.TheVariants.{One, Two, Three, Four}
use Rattle.volume_codec.specs.Files.{TableFile, AskedFile, asked_by}
use Rattle.volume_codec.specs.Layout.{number_of}
use Rattle.volume_codec.specs.Refusals.{RefusesTable}
use Rattle.volume_codec.specs.Super.{SuperValue, IsAsked, IsLengthIn}
use Rattle.log_codec.specs.Log.{IsCommitSize}
use Rattle.log_volume.specs.Super.{LogSuperValue}
use Rattle.machine_log.specs.Opening.{RefusesShown}
use Rattle.machine_log.specs.Serving.{IsShownTable}
use Rattle.machine_log.specs.inside.Opened.{asked_whole}

-- ---- the files that are asked for

-- one file more
whole_next : (fs : List TableFile) (name : List ℕ) (i n : ℕ)
    → slice_get (map (λ (f : TableFile). f.name) fs) i ≡ Some name
    → slice_get (map (λ (f : TableFile). f.capacity) fs) i ≡ Some n
    → take (suc i) (asked_whole fs)
    ≡ take i (asked_whole fs) ++ (let f : AskedFile = record { name = name; length = n; capacity = n } in f) ∷ []
whole_next [] name i n named sized = cc
whole_next (f ∷ fs) name zero n named sized =
    let is : f.name ≡ name = cc in
    let long : f.capacity ≡ n = cc in
    ap (λ (x : List ℕ). (let r : AskedFile = record { name = x; length = f.capacity; capacity = f.capacity } in r)
    ∷ []) is
    ∙ ap (λ (x : ℕ). (let r : AskedFile = record { name = name; length = x; capacity = x } in r) ∷ []) long
whole_next (f ∷ fs) name (suc i) n named sized =
    ap (λ (r : List AskedFile). (let f : AskedFile =
    record { name = f.name; length = f.capacity; capacity = f.capacity } in f) ∷ r)
    (whole_next fs name i n named sized)

pub specs_next : (files : List FileSpec) (fs : List TableFile) (i : ℕ) (f : FileSpec) → i < length files
    → asked_by (take i files) ≡ take i (asked_whole fs)
    → slice_get (map (λ (f : TableFile). f.name) fs) i ≡ Some f.name.now
    → slice_get (map (λ (f : TableFile). f.capacity) fs) i ≡ Some f.length
    → slice_get (map (λ (f : TableFile). f.capacity) fs) i ≡ Some f.capacity
    → asked_by (take (i + 1) (set files i f)) ≡ take (i + 1) (asked_whole fs)
specs_next files fs i f there was named sized grows =
    let whole : f.length ≡ f.capacity = cc in
    ap (λ (r : List FileSpec). asked_by r) (take_more_set files i f there)
    ∙ map_push (λ (f : FileSpec). let r : AskedFile =
    record { name = f.name.now; length = f.length; capacity = f.capacity } in r) (take i files) f
    ∙ ap (λ (r : List AskedFile).
    r ++ (let x : AskedFile = record { name = f.name.now; length = f.length; capacity = f.capacity } in x) ∷ []) was
    ∙ ap (λ n. take i (asked_whole fs)
    ++ (let x : AskedFile = record { name = f.name.now; length = f.length; capacity = n } in x) ∷ []) (sym whole)
    ∙ sym (ap (λ j. take j (asked_whole fs)) (add-one i) ∙ whole_next fs f.name.now i f.length named sized)

whole_files : (fs : List TableFile)
    → map (λ (f : AskedFile). let r : TableFile = record { name = f.name; capacity = f.capacity } in r)
    (asked_whole fs) ≡ fs
whole_files [] = refl
whole_files (f ∷ fs) = ap (λ (r : List TableFile). f ∷ r) (whole_files fs)

whole_lengths : (layout : Layout) (fs : List TableFile)
    → AllByRecursion (λ f. IsLengthIn layout f.length f.capacity) (asked_whole fs)
whole_lengths layout [] = tt
whole_lengths layout (f ∷ fs) = ((omega arith, λ none. refl), whole_lengths layout fs)

-- ---- the table that is asked for

is_four : (layout : Layout) → number_of layout ≡ 4 → layout ≡ Four
is_four One same = absurd (omega (arith, same))
is_four Two same = absurd (omega (arith, same))
is_four Three same = absurd (omega (arith, same))
is_four Four same = refl

module _ (v : LogSuperValue) (slots : ℕ) (size : IsCommitSize v.ring slots)
    (most : (n : ℕ) → IsCommitSize v.ring n → n ≤ slots) where
  pub table_shown : (t : SuperValue) (asked : List AskedFile) (asked_slots : ℕ) → asked_slots ≡ slots
      → asked ≡ asked_whole v.files → IsAsked 4 asked asked_slots t → IsShownTable v t
  table_shown t asked asked_slots same whole is = record {
    layout = is_four t.layout is.layout_is;
    files = is.files_are
        ∙ ap (map (λ (f : AskedFile). let r : TableFile = record { name = f.name; capacity = f.capacity } in r)) whole
        ∙ whole_files v.files;
    slots = subst (IsCommitSize v.ring) (sym (is.slots_are ∙ same)) size;
    most = λ n may. omega (arith, most n may, is.slots_are, same);
    fits = is.fits;
  }

  table_asked : (t : SuperValue) → IsShownTable v t → IsAsked 4 (asked_whole v.files) slots t
  table_asked t is = record {
    layout_is = ap number_of is.layout;
    files_are = is.files ∙ sym (whole_files v.files);
    slots_are = omega (arith, most t.slots is.slots, is.most slots size);
    lengths = whole_lengths t.layout v.files;
    fits = is.fits;
  }

  pub refuses_shown : (refusal : Refusal) (asked : List AskedFile) (asked_slots : ℕ) → asked_slots ≡ slots
      → asked ≡ asked_whole v.files → RefusesTable 4 asked asked_slots refusal → RefusesShown v refusal
  refuses_shown BadShape asked asked_slots same whole none = λ t is.
      let P : List AskedFile → Type 0 = λ l. IsAsked 4 l asked_slots t in
      let Q : ℕ → Type 0 = λ n. IsAsked 4 (asked_whole v.files) n t in
      none t (subst P (sym whole) (subst Q (sym same) (table_asked t is)))
  refuses_shown OutOfMemory asked asked_slots same whole is = tt
  refuses_shown _ asked asked_slots same whole none = absurd none
