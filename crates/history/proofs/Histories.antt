-- Histories that grow: the memory after them, the pages that they touch, their prefixes and their marks.
use Rattle.std.proofs.Common.{◌≡◌, ◌≢◌, ℕ, ◌+◌, ◌*◌, ◌/◌, ◌%◌, ◌<◌, ◌≤◌, Bool, true, false, ◌&&◌, eqb, if◌then◌else◌}
use Rattle.std.proofs.Common.{List, [], ◌∷◌, ◌++◌, length, refl, sym, ap, ◌∙◌, inl, inr, arith, ◌⊎◌, cond, subst}
use Rattle.std.proofs.Common.{append_assoc, ◌-◌, ◌||◌}
use Rattle.std.proofs.lemmas.Bool.{cond-true, cond-false, cond_both, and_from, and_left, and_right, eq-eqb, ne_eqb}
use Rattle.std.proofs.lemmas.Bool.{cases_eq, both_ways, eqb-true, and_parts, false_from_ne_true, or_from, or_left}
use Rattle.std.proofs.lemmas.Bool.{or_right, or_parts, cases_Bool}
use Rattle.std.proofs.lemmas.List.{append-nil}
use Rattle.volume_codec.specs.Files.{File}
use Rattle.device.specs.Device.{written}
use Rattle.device.proofs.Public.{length-written}
use Rattle.history.specs.History.{Memory, Event, Mark, Acknowledge, memory_of, stored, after, is_touched, has_unmarked}
use Rattle.history.specs.History.{lengths_after, with_length, with_event, since_mark, is_change, is_change_of}
use Rattle.history.specs.History.{cut_file, Store, SetLength}
use Rattle.std.specs.List.{Contains, fold, list_any}
use Rattle.std.proofs.lemmas.List.Sums.{fold-append}
use Rattle.std.proofs.lemmas.List.Folds.{list_any-append}
use Rattle.std.specs.Prelude.{min}
use Rattle.history.specs.inside.Contents.{is_resize, has_resized, HasAcknowledged}
use Rattle.std.proofs.lemmas.List.Elements.{Contains-append_left, Contains-append_cases}
use Rattle.history.proofs.Lists.{contains_none, first_or, only_one}

-- ---- memory

pub after-append : (memory : Memory) (history events : List Event)
    → after memory (history ++ events) ≡ after (after memory history) events
after-append memory [] events = refl
after-append memory (Store file offset bytes ∷ history) events =
    after-append (stored memory file offset bytes) history events
after-append memory (SetLength file from to ∷ history) events =
    after-append (cut_file memory file (min from to)) history events
after-append memory (event ∷ history) events = after-append memory history events

pub after_store : (memory : Memory) (history : List Event) (file offset : ℕ) (bytes : List ℕ)
    → after memory (history ++ Store file offset bytes ∷ []) ≡ stored (after memory history) file offset bytes
after_store memory history file offset bytes = after-append memory history _

-- a store's place is in its page
own_place : (file page at : ℕ) → at < 4096 → (eqb file file && eqb page ((4096 * page + at) / 4096)) ≡ true
own_place file page at small =
    let place : (4096 * page + at) / 4096 ≡ page = omega arith in
    and_from (eqb file file) (eqb page ((4096 * page + at) / 4096)) (eq-eqb file file refl)
    (eq-eqb page ((4096 * page + at) / 4096) (sym place))

-- and in no other page of its file, nor of another one
other_place : (file page at f p : ℕ) (same : Bool) → (f ≢ file → same ≡ false) → at < 4096
    → (f ≡ file → p ≡ page → ⊥) → (same && eqb p ((4096 * page + at) / 4096)) ≡ false
other_place file page at f p same apart small other =
    let place : (4096 * page + at) / 4096 ≡ page = omega arith in
    elim (cases_eq f file) [
      | inl is ↦ and_right same (eqb p ((4096 * page + at) / 4096))
          (ne_eqb p ((4096 * page + at) / 4096) (λ e. other is (e ∙ place)))
      | inr ne ↦ and_left same (eqb p ((4096 * page + at) / 4096)) (apart ne)
    ]

-- the page of a store
pub stored_there : (memory : Memory) (file page at : ℕ) (bytes : List ℕ) → at < 4096
    → stored memory file (4096 * page + at) bytes file page ≡ written (memory file page) at bytes
stored_there memory file page at bytes small =
    let inner : (4096 * page + at) % 4096 ≡ at = omega arith in
    cond-true (eqb file file && eqb page ((4096 * page + at) / 4096))
    (written (memory file page) ((4096 * page + at) % 4096) bytes) (memory file page) (own_place file page at small)
    ∙ ap (λ k. written (memory file page) k bytes) inner

-- every other page
pub stored_elsewhere : (memory : Memory) (file page at : ℕ) (bytes : List ℕ) (f p : ℕ) → at < 4096
    → (f ≡ file → p ≡ page → ⊥) → stored memory file (4096 * page + at) bytes f p ≡ memory f p
stored_elsewhere memory file page at bytes f p small other =
    cond-false (eqb f file && eqb p ((4096 * page + at) / 4096))
    (written (memory f p) ((4096 * page + at) % 4096) bytes) (memory f p)
    (other_place file page at f p (eqb f file) (ne_eqb f file) small other)

-- pages keep their size
pub length-stored : (memory : Memory) (file page at : ℕ) (bytes : List ℕ) (f p : ℕ)
    → ((f p : ℕ) → length (memory f p) ≡ 4096) → at + length bytes ≤ 4096 → at < 4096
    → length (stored memory file (4096 * page + at) bytes f p) ≡ 4096
length-stored memory file page at bytes f p whole fits small =
    let inner : (4096 * page + at) % 4096 ≡ at = omega arith in
    cond_both (eqb f file && eqb p ((4096 * page + at) / 4096))
    (written (memory f p) ((4096 * page + at) % 4096) bytes) (memory f p) (λ (l : List ℕ). length l ≡ 4096)
    (λ e. length-written (memory f p) ((4096 * page + at) % 4096) bytes (omega (arith, inner, whole f p)) ∙ whole f p)
    (λ e. whole f p)

-- ---- touched pages

or_none : (b t : Bool) → t ≡ false → (b || (t || false)) ≡ b
or_none true t none = refl
or_none false t none = or_from t false none refl

-- one event more that is no mark
any_more : (test : Event → Bool) (history : List Event) (event : Event)
    → fold with_event (since_mark history) (event ∷ []) ≡ since_mark history ++ event ∷ []
    → list_any test (since_mark (history ++ event ∷ [])) ≡ (list_any test (since_mark history) || (test event || false))
any_more test history event is =
    ap (list_any test) (fold-append with_event [] history (event ∷ []) ∙ is)
    ∙ list_any-append test (since_mark history) (event ∷ [])

-- after a mark, acknowledged at once or not, no page is touched and no length was set
any_mark : (test : Event → Bool) (history : List Event) (number : ℕ) (waits : Bool) → test (Acknowledge number) ≡ false
    → list_any test (since_mark (history ++ Mark number ∷ (if waits then [] else Acknowledge number ∷ []))) ≡ false
any_mark test history number true none = ap (list_any test) (fold-append with_event [] history (Mark number ∷ []))
any_mark test history number false none = ap (list_any test) (fold-append with_event [] history
    (Mark number ∷ Acknowledge number ∷ [])) ∙ or_from (test (Acknowledge number)) false none refl

pub touched_mark : (history : List Event) (number : ℕ) (waits : Bool) (file page : ℕ)
    → is_touched (history ++ Mark number ∷ (if waits then [] else Acknowledge number ∷ [])) file page ≡ false
touched_mark history number waits file page = any_mark (is_change_of file page) history number waits refl

pub resized_mark : (history : List Event) (number : ℕ) (waits : Bool)
    → has_resized (history ++ Mark number ∷ (if waits then [] else Acknowledge number ∷ [])) ≡ false
resized_mark history number waits = any_mark is_resize history number waits refl

pub touched_there : (history : List Event) (file page at : ℕ) (bytes : List ℕ) → at < 4096
    → is_touched (history ++ Store file (4096 * page + at) bytes ∷ []) file page ≡ true
touched_there history file page at bytes small =
    any_more (is_change_of file page) history (Store file (4096 * page + at) bytes) refl
    ∙ or_right (is_touched history file page) (eqb file file && eqb page ((4096 * page + at) / 4096) || false)
    (or_left (eqb file file && eqb page ((4096 * page + at) / 4096)) false (own_place file page at small))

pub touched_elsewhere : (history : List Event) (file page at : ℕ) (bytes : List ℕ) (f p : ℕ) → at < 4096
    → (f ≡ file → p ≡ page → ⊥)
    → is_touched (history ++ Store file (4096 * page + at) bytes ∷ []) f p ≡ is_touched history f p
touched_elsewhere history file page at bytes f p small other =
    any_more (is_change_of f p) history (Store file (4096 * page + at) bytes) refl
    ∙ or_none (is_touched history f p) (eqb file f && eqb p ((4096 * page + at) / 4096))
    (other_place file page at f p (eqb file f) (λ ne. ne_eqb file f (λ e. ne (sym e))) small other)

-- ---- events that store nothing and mark nothing

-- events that leave memory, lengths and the touched pages as they are
pub record AreQuiet (history events : List Event) : Type 0 where
  pub memory : (memory : Memory) → after memory (history ++ events) ≡ after memory history
  pub lengths : (lengths : List ℕ) → lengths_after lengths (history ++ events) ≡ lengths_after lengths history
  pub touched : (file page : ℕ) → is_touched (history ++ events) file page ≡ is_touched history file page
  pub resized : has_resized (history ++ events) ≡ has_resized history

pub quiet_nothing : (history : List Event) → AreQuiet history []
quiet_nothing history = record {
  memory = λ memory. after-append memory history [];
  lengths = λ lengths. fold-append with_length lengths history [];
  touched = λ file page. ap (list_any (is_change_of file page)) (fold-append with_event [] history []);
  resized = ap (list_any is_resize) (fold-append with_event [] history []);
}

pub quiet_acknowledge : (history : List Event) (number : ℕ) → AreQuiet history (Acknowledge number ∷ [])
quiet_acknowledge history number = record {
  memory = λ memory. after-append memory history (Acknowledge number ∷ []);
  lengths = λ lengths. fold-append with_length lengths history (Acknowledge number ∷ []);
  touched = λ file page. any_more (is_change_of file page) history (Acknowledge number) refl
      ∙ or_none (is_touched history file page) false refl;
  resized = any_more is_resize history (Acknowledge number) refl ∙ or_none (has_resized history) false refl;
}

-- a store sets no length
pub lengths_store : (lengths : List ℕ) (history : List Event) (file offset : ℕ) (bytes : List ℕ)
    → lengths_after lengths (history ++ Store file offset bytes ∷ []) ≡ lengths_after lengths history
lengths_store lengths history file offset bytes = fold-append with_length lengths history (Store file offset bytes ∷ [])

pub resized_store : (history : List Event) (file offset : ℕ) (bytes : List ℕ)
    → has_resized (history ++ Store file offset bytes ∷ []) ≡ has_resized history
resized_store history file offset bytes =
    any_more is_resize history (Store file offset bytes) refl ∙ or_none (has_resized history) false refl

-- ---- changes since the last mark

any_weaker : (test more : Event → Bool) (events : List Event)
    → ((event : Event) → test event ≡ true → more event ≡ true) → list_any test events ≡ true
    → list_any more events ≡ true
any_weaker test more [] goes is = is
any_weaker test more (event ∷ events) goes is = elim (cases_Bool (test event)) [
  | inl here ↦ or_left (more event) (list_any more events) (goes event here)
  | inr other ↦ or_right (more event) (list_any more events)
      (any_weaker test more events goes (ap (λ b. b || list_any test events) (sym other) ∙ is))
]

change_of_some : (file page : ℕ) (event : Event) → is_change_of file page event ≡ true → is_change event ≡ true
change_of_some file page (Store f offset bytes) is = refl
change_of_some file page (SetLength f from to) is = refl
change_of_some file page (Mark number) is = is
change_of_some file page (Acknowledge number) is = is

-- a page that was touched after the last mark is a change after it
pub unmarked_by_touched : (history : List Event) (file page : ℕ) → is_touched history file page ≡ true
    → has_unmarked history ≡ true
unmarked_by_touched history file page is =
    any_weaker (is_change_of file page) is_change (since_mark history) (change_of_some file page) is

-- so is a length that was set
resize_of_some : (event : Event) → is_resize event ≡ true → is_change event ≡ true
resize_of_some (Store f offset bytes) is = refl
resize_of_some (SetLength f from to) is = refl
resize_of_some (Mark number) is = is
resize_of_some (Acknowledge number) is = is

pub unmarked_by_resized : (history : List Event) → has_resized history ≡ true → has_unmarked history ≡ true
unmarked_by_resized history is = any_weaker is_resize is_change (since_mark history) resize_of_some is

-- ---- a mark, and what comes with it

-- what a mark adds to a history
abbrev pub marked_by : List Event → ℕ → List Event
marked_by history number = Mark number ∷ (cond (has_unmarked history) [] (Acknowledge number ∷ []))

pub after_mark : (memory : Memory) (history : List Event) (number : ℕ)
    → after memory (history ++ Mark number ∷ []) ≡ after memory history
after_mark memory history number = after-append memory history (Mark number ∷ [])

pub after_marked : (memory : Memory) (history : List Event) (number : ℕ)
    → after memory (history ++ marked_by history number) ≡ after memory history
after_marked memory history number = by (has_unmarked history)
  where
    by : (waits : Bool)
        → after memory (history ++ Mark number ∷ (cond waits [] (Acknowledge number ∷ []))) ≡ after memory history
    by true = after-append memory history (Mark number ∷ [])
    by false = after-append memory history (Mark number ∷ Acknowledge number ∷ [])

pub lengths_mark : (lengths : List ℕ) (history : List Event) (number : ℕ)
    → lengths_after lengths (history ++ Mark number ∷ []) ≡ lengths_after lengths history
lengths_mark lengths history number = fold-append with_length lengths history (Mark number ∷ [])

pub lengths_marked : (lengths : List ℕ) (history : List Event) (number : ℕ)
    → lengths_after lengths (history ++ marked_by history number) ≡ lengths_after lengths history
lengths_marked lengths history number = by (has_unmarked history)
  where
    by : (waits : Bool) → lengths_after lengths (history ++ Mark number ∷ (cond waits [] (Acknowledge number ∷ [])))
        ≡ lengths_after lengths history
    by true = fold-append with_length lengths history (Mark number ∷ [])
    by false = fold-append with_length lengths history (Mark number ∷ Acknowledge number ∷ [])

pub acknowledge_same : (m n : ℕ) → Acknowledge m ≡ Acknowledge n → m ≡ n
acknowledge_same m n e = cc

mark_not : (m n : ℕ) → Mark m ≡ Acknowledge n → ⊥
mark_not m n e = cc

-- what a mark acknowledges is that mark, and only where nothing waits
pub only_itself : (history : List Event) (number n : ℕ) → Contains (marked_by history number) (Acknowledge n)
    → (has_unmarked history ≡ false) × (number ≡ n)
only_itself history number n has = by (has_unmarked history) has
  where
    by : (waits : Bool) → Contains (Mark number ∷ (cond waits [] (Acknowledge number ∷ []))) (Acknowledge n)
        → (waits ≡ false) × (number ≡ n)
    by true has = absurd (mark_not number n (only_one (Mark number) (Acknowledge n) has))
    by false has = elim (first_or (Mark number) (Acknowledge number ∷ []) (Acknowledge n) has) [
      | inl e ↦ absurd (mark_not number n e)
      | inr rest ↦ (refl, acknowledge_same number n (only_one (Acknowledge number) (Acknowledge n) rest))
    ]

mark_same : (m n : ℕ) → Mark m ≡ Mark n → m ≡ n
mark_same m n e = cc

acknowledge_not : (m n : ℕ) → Acknowledge m ≡ Mark n → ⊥
acknowledge_not m n e = cc

-- an acknowledgement is no mark
pub acknowledge_no_mark : (number n : ℕ) → Contains (Acknowledge number ∷ []) (Mark n) → ⊥
acknowledge_no_mark number n has = acknowledge_not number n (only_one (Acknowledge number) (Mark n) has)

-- and what a mark adds has no other mark
pub only_marked : (history : List Event) (number n : ℕ) → Contains (marked_by history number) (Mark n) → number ≡ n
only_marked history number n has = by (has_unmarked history) has
  where
    by : (waits : Bool) → Contains (Mark number ∷ (cond waits [] (Acknowledge number ∷ []))) (Mark n) → number ≡ n
    by true has = mark_same number n (only_one (Mark number) (Mark n) has)
    by false has = elim (first_or (Mark number) (Acknowledge number ∷ []) (Mark n) has)
        [ inl e ↦ mark_same number n e | inr rest ↦ absurd (acknowledge_no_mark number n rest) ]

-- ---- events that acknowledge nothing and mark nothing: none, or a store

abbrev pub IsQuiet : List Event → Type 0
IsQuiet events = (events ≡ [])
    ⊎ ((file : ℕ) × (offset : ℕ) × (bytes : List ℕ) × (events ≡ Store file offset bytes ∷ []))

-- what is among them is a store
quiet_store : (events : List Event) (e : Event) → IsQuiet events → Contains events e
    → (file : ℕ) × (offset : ℕ) × (bytes : List ℕ) × (Store file offset bytes ≡ e)
quiet_store events e (inl none) has = absurd (contains_none e (subst (λ (l : List Event). Contains l e) none has))
quiet_store events e (inr store) has = (
  store.0,
  store.1,
  store.2,
  only_one (Store store.0 store.1 store.2) e (subst (λ (l : List Event). Contains l e) store.3 has),
)

pub quiet_acknowledges : (events : List Event) (n : ℕ) → IsQuiet events → Contains events (Acknowledge n) → ⊥
quiet_acknowledges events n quiet has = let store = (quiet_store events (Acknowledge n) quiet has).3 in cc

pub quiet_marks : (events : List Event) (n : ℕ) → IsQuiet events → Contains events (Mark n) → ⊥
quiet_marks events n quiet has = let store = (quiet_store events (Mark n) quiet has).3 in cc

-- a page that a longer history hasn't touched, the shorter one hasn't, and its bytes are the same
pub record IsUntouched (memory : Memory) (history events : List Event) (file page : ℕ) : Type 0 where
  pub before : is_touched history file page ≡ false
  pub same : after memory (history ++ events) file page ≡ after memory history file page

untouched_store : (memory : Memory) (history : List Event) (file page f offset : ℕ) (bytes : List ℕ)
    → is_touched (history ++ Store f offset bytes ∷ []) file page ≡ false
    → IsUntouched memory history (Store f offset bytes ∷ []) file page
untouched_store memory history file page f offset bytes is =
    let here = eqb f file && eqb page (offset / 4096) in
    let was = or_parts (is_touched history file page) (here || false)
    (sym (any_more (is_change_of file page) history (Store f offset bytes) refl) ∙ is) in
    let other : here ≡ false = (or_parts here false was.1).0 in
    let elsewhere : (eqb file f && eqb page (offset / 4096)) ≡ false =
    false_from_ne_true (eqb file f && eqb page (offset / 4096)) (λ e.
    let parts = and_parts (eqb file f) (eqb page (offset / 4096)) e in
    both_ways here other
    (and_from (eqb f file) (eqb page (offset / 4096)) (eq-eqb f file (sym (eqb-true file f parts.0))) parts.1)) in
    record {
      before = was.0;
      same = ap (λ (m : Memory). m file page) (after-append memory history (Store f offset bytes ∷ []))
          ∙ cond-false (eqb file f && eqb page (offset / 4096)) _ (after memory history file page) elsewhere;
    }

pub quiet_untouched : (memory : Memory) (history events : List Event) (file page : ℕ) → IsQuiet events
    → is_touched (history ++ events) file page ≡ false → IsUntouched memory history events file page
quiet_untouched memory history events file page (inl none) is =
    subst (λ (l : List Event). is_touched (history ++ l) file page ≡ false → IsUntouched memory history l file page)
    (sym none)
    (λ is. record {
      before = sym (ap (λ (l : List Event). is_touched l file page) (append-nil history)) ∙ is;
      same = ap (λ (l : List Event). after memory l file page) (append-nil history);
    }) is
quiet_untouched memory history events file page (inr store) is =
    subst (λ (l : List Event). is_touched (history ++ l) file page ≡ false → IsUntouched memory history l file page)
    (sym store.3)
    (untouched_store memory history file page store.0 store.1 store.2) is

-- ---- prefixes

-- a prefix of a history is one of a longer history
pub begins_more : (prefix rest history events : List Event) → prefix ++ rest ≡ history
    → prefix ++ (rest ++ events) ≡ history ++ events
begins_more prefix rest history events e =
    sym (append_assoc prefix rest events) ∙ ap (λ (l : List Event). l ++ events) e

-- what is in a prefix is in the history
pub in_history : (prefix rest history : List Event) (e : Event) → prefix ++ rest ≡ history → Contains prefix e
    → Contains history e
in_history prefix rest history e begins has =
    subst (λ (l : List Event). Contains l e) begins (Contains-append_left prefix rest e has)

-- events that acknowledge nothing need nothing of a prefix
pub acknowledged_more : (prefix history events : List Event)
    → ((n : ℕ) → Contains events (Acknowledge n) → Contains prefix (Mark n)) → HasAcknowledged prefix history
    → HasAcknowledged prefix (history ++ events)
acknowledged_more prefix history events more has n there = elim (Contains-append_cases history events
    (Acknowledge n) there) [ inl before ↦ has n before | inr now ↦ more n now ]

-- ---- pages that changed

-- where no length was set, a change that is in no mark yet touched some page
some_changed : (events : List Event) → list_any is_change events ≡ true → list_any is_resize events ≡ false
    → (file page : ℕ) × (list_any (is_change_of file page) events ≡ true)
some_changed [] some none = absurd (both_ways false refl some)
some_changed (Store f offset bytes ∷ events) some none = (
  f,
  offset / 4096,
  or_left (eqb f f && eqb (offset / 4096) (offset / 4096)) (list_any (is_change_of f (offset / 4096)) events) (and_from
      (eqb f f) (eqb (offset / 4096) (offset / 4096)) (eq-eqb f f refl) (eq-eqb (offset / 4096) (offset / 4096) refl)),
)
some_changed (SetLength f from to ∷ events) some none = absurd (both_ways true none refl)
some_changed (Mark number ∷ events) some none = some_changed events some none
some_changed (Acknowledge number ∷ events) some none = some_changed events some none

pub some_touched : (history : List Event) → has_resized history ≡ false → has_unmarked history ≡ true
    → (file page : ℕ) × (is_touched history file page ≡ true)
some_touched history none some = some_changed (since_mark history) some none

-- ---- events that touch no page

-- events that touch no page and change none
abbrev pub AreCalm : List File → List Event → List Event → Type 0
AreCalm files history events = (file page : ℕ) → is_touched (history ++ events) file page ≡ false
    → IsUntouched (memory_of files) history events file page

pub calm_of : (files : List File) (history events : List Event) → AreQuiet history events → AreCalm files history events
calm_of files history events quiet file page is = record {
  before = sym (quiet.touched file page) ∙ is;
  same = ap (λ (m : Memory). m file page) (quiet.memory (memory_of files));
}
