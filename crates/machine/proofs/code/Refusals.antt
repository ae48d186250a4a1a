-- Why an act is refused: the first of several reasons.
use Rattle.machine.proofs.Names.{ℕ, ◌≡◌, ◌<◌, ◌≤◌, Bool, true, false, nat_le, List, [], ◌∷◌, Option, Some, None, refl}
use Rattle.machine.proofs.Names.{ap, ◌∙◌, arith, le-leb, nat_tests, option_or, Refusal, refuse_if, first_of, cond}
use Rattle.machine.proofs.Names.{length, not, unwrap_or, Ok, sym, subst, Place, Rights, PageRange, Places, allows}
use Rattle.machine.proofs.Names.{any_mapped, is_mappable, add_refusal, space_at, judged_mapping, not_free, State}
use Rattle.machine.proofs.Names.{mapping_refusal, reason_against, Refuses, FilePage, pages_in_file}
use Rattle.page_entry.specs.declared.refusal.Refusal.TheVariants as refusals
use Rattle.machine.specs.declared.act.Act.TheVariants as acts

-- ---- the first of several reasons

-- a reason that doesn't hold is passed over
pub passed : (reason : Option Refusal) (reasons : List (Option Refusal)) (first : Option Refusal) → reason ≡ None
    → first_of reasons ≡ first → first_of (reason ∷ reasons) ≡ first
passed reason reasons first none rest = ap (λ r. option_or r (first_of reasons)) none ∙ rest

-- one that holds is the first
pub found : (reason : Option Refusal) (reasons : List (Option Refusal)) (why : Refusal) → reason ≡ Some why
    → first_of (reason ∷ reasons) ≡ Some why
found reason reasons why some = ap (λ r. option_or r (first_of reasons)) some

-- a reason alone
pub alone : (reason : Option Refusal) → first_of (reason ∷ []) ≡ reason
alone None = refl
alone (Some why) = refl

pub holds : (test : Bool) (why : Refusal) → test ≡ true → refuse_if test why ≡ Some why
holds test why is = ap (λ b. refuse_if b why) is

pub fails : (test : Bool) (why : Refusal) → test ≡ false → refuse_if test why ≡ None
fails test why is = ap (λ b. refuse_if b why) is

pub at_most : (a b : ℕ) → a ≤ b → nat_le a b ≡ true
at_most a b is = le-leb a b is

pub above : (a b : ℕ) → b < a → nat_le a b ≡ false
above a b is = grind (arith, nat_tests)

-- ---- why a mapping is refused

-- any refusal but that memory was refused
abbrev IsJudged : Refusal → Type 0
IsJudged refusals.OutOfMemory = ⊥
IsJudged why = Unit {0}

judged_as : (known why : Refusal) → IsJudged known → ◌≡◌ {A = Option Refusal} (Some known) (Some why) → IsJudged why
judged_as known why judged e = let same : known ≡ why = cc in subst IsJudged same judged

judged-add : (places : Places) (range : PageRange) (place : Place) (why : Refusal)
    → add_refusal places range place ≡ Some why → IsJudged why
judged-add places range place why is =
    by (is_mappable range place.page) (allows place.access place.rights) (any_mapped places range.first range.count) is
  where
    by : (a b c : Bool) → cond (not a) (Some refusals.Einval)
        (cond (not b) (Some refusals.Eacces) (cond c (Some refusals.Overlap) None)) ≡ Some why → IsJudged why
    by false b c e = judged_as refusals.Einval why tt e
    by true false c e = judged_as refusals.Eacces why tt e
    by true true true e = judged_as refusals.Overlap why tt e
    by true true false e = absurd (cc)

maps-judged : (s : State) (p pcid va len file offset : ℕ) (prot access : Rights) (why : Refusal) → IsJudged why
    → reason_against s p (acts.Map pcid va len file offset prot access) ≡ Some why
    → Refuses s p (acts.Map pcid va len file offset prot access) why
maps-judged s p pcid va len file offset prot access refusals.OutOfMemory judged some = absurd judged
maps-judged s p pcid va len file offset prot access why judged some = some

-- why these pages of a file that is there may not be added
abbrev adding : State → ℕ → ℕ → Rights → Rights → PageRange × ℕ → Option Refusal
adding s pcid file prot access pages =
    add_refusal (space_at s.hardware.spaces pcid).places pages.0
    (record { file = file; page = pages.1; rights = prot; access = access })

-- there is no such file
pub maps-no_file : (s : State) (p pcid va len file offset : ℕ) (prot access : Rights) (pages : PageRange × ℕ)
    → not_free s.hardware.shootdown p ≡ None
    → judged_mapping s.hardware.spaces pcid va len offset ≡ Ok pages → length s.table.files ≤ file
    → Refuses s p (acts.Map pcid va len file offset prot access) refusals.NoFile
maps-no_file s p pcid va len file offset prot access pages free judged past =
    let why = mapping_refusal s pcid file prot access (judged_mapping s.hardware.spaces pcid va len offset) in
    let missing = refuse_if (nat_le (length s.table.files) file) refusals.NoFile in
    passed (not_free s.hardware.shootdown p) (why ∷ []) (Some refusals.NoFile) free
    (alone why ∙ ap (mapping_refusal s pcid file prot access) judged
    ∙ found missing (adding s pcid file prot access pages ∷ []) refusals.NoFile
    (holds (nat_le (length s.table.files) file) refusals.NoFile (at_most (length s.table.files) file past)))

-- of a file that is there
pub map-adding : (s : State) (p pcid va len file offset : ℕ) (prot access : Rights) (pages : PageRange × ℕ)
    (reason : Option Refusal) → not_free s.hardware.shootdown p ≡ None
    → judged_mapping s.hardware.spaces pcid va len offset ≡ Ok pages → file < length s.table.files
    → add_refusal (space_at s.hardware.spaces pcid).places pages.0
    (record { file = file; page = pages.1; rights = prot; access = access }) ≡ reason
    → reason_against s p (acts.Map pcid va len file offset prot access) ≡ reason
map-adding s p pcid va len file offset prot access pages reason free judged below is =
    let why = mapping_refusal s pcid file prot access (judged_mapping s.hardware.spaces pcid va len offset) in
    passed (not_free s.hardware.shootdown p) (why ∷ []) reason free
    (alone why ∙ ap (mapping_refusal s pcid file prot access) judged
    ∙ passed (refuse_if (nat_le (length s.table.files) file) refusals.NoFile)
    (adding s pcid file prot access pages ∷ []) reason
    (fails _ refusals.NoFile (above (length s.table.files) file below))
    (alone (adding s pcid file prot access pages) ∙ is))

-- the pages weren't added: for a reason, or since memory was refused
pub maps-unadded : (s : State) (p pcid va len file offset : ℕ) (prot access : Rights) (pages : PageRange × ℕ)
    (why : Refusal) → not_free s.hardware.shootdown p ≡ None
    → judged_mapping s.hardware.spaces pcid va len offset ≡ Ok pages → file < length s.table.files
    → why ≡ unwrap_or (add_refusal (space_at s.hardware.spaces pcid).places pages.0
    (record { file = file; page = pages.1; rights = prot; access = access })) refusals.OutOfMemory
    → Refuses s p (acts.Map pcid va len file offset prot access) why
maps-unadded s p pcid va len file offset prot access pages why free judged below is =
    subst (Refuses s p (acts.Map pcid va len file offset prot access)) (sym is)
    (by (adding s pcid file prot access pages) refl)
  where
    by : (reason : Option Refusal) → adding s pcid file prot access pages ≡ reason
        → Refuses s p (acts.Map pcid va len file offset prot access) (unwrap_or reason refusals.OutOfMemory)
    by None e = (map-adding s p pcid va len file offset prot access pages None free judged below e, tt)
    by (Some x) e =
        maps-judged s p pcid va len file offset prot access x
        (judged-add (space_at s.hardware.spaces pcid).places pages.0
        (record { file = file; page = pages.1; rights = prot; access = access }) x e)
        (map-adding s p pcid va len file offset prot access pages (Some x) free judged below e)

-- ---- why a reclaim is refused

-- of a file that is there
of_file : (s : State) (p : ℕ) (owner : FilePage) (reason : Option Refusal) → not_free s.hardware.shootdown p ≡ None
    → owner.file < length s.table.files
    → refuse_if (nat_le (pages_in_file s.table.files owner.file) owner.page) refusals.Einval ≡ reason
    → reason_against s p (acts.Reclaim owner.file owner.page) ≡ reason
of_file s p owner reason free file is =
    let missing = refuse_if (nat_le (length s.table.files) owner.file) refusals.NoFile in
    let past = refuse_if (nat_le (pages_in_file s.table.files owner.file) owner.page) refusals.Einval in
    passed (not_free s.hardware.shootdown p) (missing ∷ past ∷ []) reason free
    (passed missing (past ∷ []) reason (fails (nat_le (length s.table.files) owner.file) refusals.NoFile
    (above (length s.table.files) owner.file file)) (alone past ∙ is))

pub reclaim-past : (s : State) (p : ℕ) (owner : FilePage) → not_free s.hardware.shootdown p ≡ None
    → owner.file < length s.table.files
    → pages_in_file s.table.files owner.file ≤ owner.page
    → reason_against s p (acts.Reclaim owner.file owner.page) ≡ Some refusals.Einval
reclaim-past s p owner free file past =
    of_file s p owner (Some refusals.Einval) free file (holds (nat_le (pages_in_file s.table.files owner.file)
    owner.page) refusals.Einval (at_most (pages_in_file s.table.files owner.file) owner.page past))

pub reclaim-allowed : (s : State) (p : ℕ) (owner : FilePage) → not_free s.hardware.shootdown p ≡ None
    → owner.file < length s.table.files
    → owner.page < pages_in_file s.table.files owner.file
    → reason_against s p (acts.Reclaim owner.file owner.page) ≡ None
reclaim-allowed s p owner free file within =
    of_file s p owner None free file (fails (nat_le (pages_in_file s.table.files owner.file) owner.page) refusals.Einval
    (above (pages_in_file s.table.files owner.file) owner.page within))
