-- Pages that are tried one after the other, and the write-outs in between.
use Rattle.std.proofs.Common.{◌≡◌, ◌≢◌, inl, inr, ℕ, suc, ◌+◌, ◌≤◌, arith, Bool, true, false, not, if◌then◌else◌}
use Rattle.std.proofs.Common.{List, [], ◌∷◌, ◌++◌, refl, sym, ◌∙◌, ap, subst, Contains}
use Rattle.std.proofs.lemmas.Bool.{false≢true}
use Rattle.std.proofs.lemmas.List.{append-nil}
use Rattle.std.proofs.lemmas.List.Elements.{Contains-append_right}
use Rattle.page_entry.specs.declared.numbers.FilePage.{FilePage}
use Rattle.machine.specs.declared.act.Act.TheVariants as acts
use Rattle.machine.specs.declared.act.Reply.{Reply}
use Rattle.machine.specs.declared.act.Reply.TheVariants as replies
use Rattle.machine.specs.declared.act.Step.{Step}
use Rattle.session.specs.declared.files.FileLine.{FileLine}
use Rattle.session.specs.declared.files.Files.{Files}
use Rattle.session.specs.Files.{page_after}
use Rattle.session.specs.Ends.{AreFruitless, AreForRoom, MakesRoom, is_fruitless, is_written_in, reports_reclaimed}
use Rattle.session.specs.Ends.{tried_in, tried_after, is_written_after}
use Rattle.session.specs.Lengths.{AnswersChange, AreOthers, change_steps, change_replies, flush_by, reports_begun}
use Rattle.session.specs.Steps.{AreEach, Passes, is_for_room, reports_flushed, reports_reclaim}
use Rattle.session.specs.Turns.{InTurn, TakesTurns}
use Rattle.session.specs.inside.Trying.{reclaim_by, TriesPage, TriesInVain, Tries, IsWriting, WritesHome, EndsInVain}
use Rattle.session.specs.inside.Trying.{MakesRoomLater}
use Rattle.session.proofs.Each.{each_of_change, each_then}
use Rattle.session.proofs.Rooms.{change_has, change_replied_in, change_room, change_vain, flush_vain, reclaim_kept}
use Rattle.session.proofs.Rooms.{reclaimed_is, vain_room}
use Rattle.session.proofs.Turns.{turns_changed}

-- ---- counting goes on

tried_then : (Is : Step → Reply → Type 0) (before : ℕ) (steps : List Step) (replied : List Reply) (steps' : List Step)
    (replied' : List Reply) → AreEach Is steps replied
    → tried_in before (steps ++ steps') (replied ++ replied') ≡ tried_in (tried_in before steps replied) steps' replied'
tried_then Is before [] [] steps' replied' are = refl
tried_then Is before (step ∷ steps) (reply ∷ replied) steps' replied' are =
    tried_then Is (tried_after before step.act reply) steps replied steps' replied' are.1
tried_then Is before [] (reply ∷ replied) steps' replied' are = absurd are
tried_then Is before (step ∷ steps) [] steps' replied' are = absurd are

written_then : (Is : Step → Reply → Type 0) (before : Bool) (steps : List Step) (replied : List Reply)
    (steps' : List Step) (replied' : List Reply) → AreEach Is steps replied
    → is_written_in before (steps ++ steps') (replied ++ replied')
    ≡ is_written_in (is_written_in before steps replied) steps' replied'
written_then Is before [] [] steps' replied' are = refl
written_then Is before (step ∷ steps) (reply ∷ replied) steps' replied' are =
    written_then Is (is_written_after before step.act reply) steps replied steps' replied' are.1
written_then Is before [] (reply ∷ replied) steps' replied' are = absurd are
written_then Is before (step ∷ steps) [] steps' replied' are = absurd are

-- ---- a change

module _ (p : ℕ) (answer : Reply) where
  even_change : (others : List ℕ) → AreOthers p others
      → AreEach (λ step reply. Unit {0}) (change_steps p others) (change_replies answer others)
  even_change others differ =
      each_of_change (λ step reply. Unit {0}) p answer others differ tt (λ other not. tt) (λ other not. tt)

  change_tried : (before : ℕ) (others : List ℕ) → AreOthers p others
      → tried_in before (change_steps p others) (change_replies answer others) ≡ before
  change_tried before [] differ = refl
  change_tried before (other ∷ others) differ =
      tried_then (λ step reply. Unit {0}) before (change_steps p others) (change_replies answer others)
      (record { p = other; act = acts.Resume } ∷ []) (replies.Resumed ∷ []) (even_change others differ.1)
      ∙ change_tried before others differ.1

  change_written : (before : Bool) (others : List ℕ) → AreOthers p others
      → is_written_in before (change_steps p others) (change_replies answer others) ≡ before
  change_written before [] differ = refl
  change_written before (other ∷ others) differ =
      written_then (λ step reply. Unit {0}) before (change_steps p others) (change_replies answer others)
      (record { p = other; act = acts.Resume } ∷ []) (replies.Resumed ∷ []) (even_change others differ.1)
      ∙ change_written before others differ.1

-- ---- one page

module _ (p : ℕ) (page : FilePage) where
  unbegun_tries : (reply : Reply) → Tries p false 1 (reclaim_by p page ∷ []) (reply ∷ [])
  unbegun_tries reply =
      record { vain = ((refl, refl), tt); tried = λ before. omega arith; written = λ before. refl }

  begun_tries : (begun answer : Reply) (steps : List Step) (replied : List Reply)
      → reports_reclaim answer ≡ true → AnswersChange p answer steps replied
      → Tries p (reports_reclaimed answer) 1 (reclaim_by p page ∷ steps) (begun ∷ replied)
  begun_tries begun answer steps replied is change = go (reports_reclaimed answer) refl
    where
      go : (b : Bool) → reports_reclaimed answer ≡ b
          → Tries p b 1 (reclaim_by p page ∷ steps) (begun ∷ replied)
      go true made = (
        (
          (refl, refl),
          change_has (AreForRoom p) p answer steps replied change (change_room p answer change.others change.differ is),
        ),
        Contains-append_right (begun ∷ []) replied replies.Reclaimed
            (subst (Contains replied) (reclaimed_is answer made) (change_replied_in p answer steps replied change)),
      )
      go false kept = record {
        vain = (
          (refl, refl),
          change_has (AreFruitless p) p answer steps replied change
              (change_vain p answer change.others change.differ (reclaim_kept answer is kept)),
        );
        tried = λ before.
            let all : tried_in (suc before) steps replied ≡ suc before =
            change_has (λ steps replied. tried_in (suc before) steps replied ≡ suc before) p answer steps replied
            change (change_tried p answer (suc before) change.others change.differ) in
            omega (arith, all);
        written = λ before.
            change_has (λ steps replied. is_written_in before steps replied ≡ before) p answer steps replied change
            (change_written p answer before change.others change.differ);
      }

  page_tries : (left : Bool) (steps : List Step) (replied : List Reply) → TriesPage p page left steps replied
      → Tries p left 1 steps replied
  page_tries left (step ∷ steps) (reply ∷ replied) (is, inl (unbegun, stays, none, silent)) =
      subst (λ b. Tries p b 1 (step ∷ steps) (reply ∷ replied)) (sym stays)
      (subst (λ (s : Step). Tries p false 1 (s ∷ steps) (reply ∷ replied)) (sym is)
      (subst (λ (l : List Step). Tries p false 1 (reclaim_by p page ∷ l) (reply ∷ replied)) (sym none)
      (subst (λ (l : List Reply). Tries p false 1 (reclaim_by p page ∷ []) (reply ∷ l)) (sym silent)
      (unbegun_tries reply))))
  page_tries left (step ∷ steps) (reply ∷ replied) (is, inr (answer, reclaims, leaves, change)) =
      subst (λ b. Tries p b 1 (step ∷ steps) (reply ∷ replied)) (sym leaves)
      (subst (λ (s : Step). Tries p (reports_reclaimed answer) 1 (s ∷ steps) (reply ∷ replied)) (sym is)
      (begun_tries reply answer steps replied reclaims change))
  page_tries left [] [] it = absurd it
  page_tries left [] (reply ∷ replied) it = absurd it
  page_tries left (step ∷ steps) [] it = absurd it

  page_turns : {A : Type 0} (lines : List (FileLine A)) (left : Bool) (steps : List Step) (replied : List Reply)
      → TriesPage p page left steps replied → TakesTurns lines page steps replied (page_after lines page)
  page_turns lines left (step ∷ steps) (reply ∷ replied) (is, inl (unbegun, stays, none, silent)) =
      subst (λ (s : Step). TakesTurns lines page (s ∷ steps) (reply ∷ replied) (page_after lines page)) (sym is) (
        (refl, λ begun. absurd (false≢true (sym unbegun ∙ ap reports_begun begun))),
        subst (λ (l : List Step). TakesTurns lines (page_after lines page) l replied (page_after lines page)) (sym none)
            (subst (λ (l : List Reply). TakesTurns lines (page_after lines page) [] l (page_after lines page))
            (sym silent) refl),
      )
  page_turns lines left (step ∷ steps) (reply ∷ replied) (is, inr (answer, reclaims, leaves, change)) =
      subst (λ (s : Step). TakesTurns lines page (s ∷ steps) (reply ∷ replied) (page_after lines page)) (sym is) (
        (
          refl,
          λ begun. record {
            answer = answer;
            reclaims = reclaims;
            changing = steps;
            changed = replied;
            change = change;
            later = [];
            more = [];
            steps_are = sym (append-nil steps);
            replies_are = sym (append-nil replied);
          },
        ),
        turns_changed lines (page_after lines page) p answer steps replied change,
      )
  page_turns lines left [] [] it = absurd it
  page_turns lines left [] (reply ∷ replied) it = absurd it
  page_turns lines left (step ∷ steps) [] it = absurd it

  -- the one whose turn it is
  pub tries_in_turn : {A : Type 0} (old mid new : Files A) (left : Bool) → page ≡ old.next
      → mid.next ≡ page_after old.lines.items old.next → mid.lines.items ≡ old.lines.items → new ≡ mid
      → (steps : List Step) (replied : List Reply) → TriesPage p page left steps replied
      → InTurn old (λ _. Tries p left 1) new steps replied
  tries_in_turn {A} old mid new left now next lines same steps replied it = record {
    does = page_tries left steps replied it;
    lines = ap (λ (f : Files A). f.lines.items) same ∙ lines;
    turns = subst (λ (f : Files A). TakesTurns old.lines.items old.next steps replied f.next) (sym same)
        (subst (λ t. TakesTurns old.lines.items old.next steps replied t) (sym next)
        (subst (λ t. TakesTurns old.lines.items t steps replied (page_after old.lines.items t)) now
        (page_turns old.lines.items left steps replied it)));
  }

-- ---- one page after the other

module _ (p : ℕ) where
  pub vain_none : TriesInVain p 0 [] []
  vain_none = record { vain = tt; tried = λ before. omega arith; written = λ before. refl }

  pub vain_then : (count more : ℕ) (steps : List Step) (replied : List Reply) (steps' : List Step)
      (replied' : List Reply) → TriesInVain p count steps replied → TriesInVain p more steps' replied'
      → TriesInVain p (count + more) (steps ++ steps') (replied ++ replied')
  vain_then count more steps replied steps' replied' first later = record {
    vain = each_then (Passes is_fruitless p) steps replied steps' replied' first.vain later.vain;
    tried = λ before. omega (
      arith,
      tried_then (Passes is_fruitless p) before steps replied steps' replied' first.vain,
      first.tried before,
      later.tried (tried_in before steps replied),
    );
    written = λ before.
        written_then (Passes is_fruitless p) before steps replied steps' replied' first.vain
        ∙ later.written (is_written_in before steps replied) ∙ first.written before;
  }

  -- these are enough
  pub vain_enough : (count all : ℕ) → all ≤ count → (steps : List Step) (replied : List Reply)
      → TriesInVain p count steps replied → TriesInVain p all steps replied
  vain_enough count all enough steps replied it = record {
    vain = it.vain;
    tried = λ before. omega (arith, enough, it.tried before);
    written = it.written;
  }

  -- and then one leaves memory
  pub room_then : (some all : ℕ) (steps : List Step) (replied : List Reply) (steps' : List Step)
      (replied' : List Reply) → AreFruitless p steps replied → MakesRoom p true some steps' replied'
      → MakesRoom p true all (steps ++ steps') (replied ++ replied')
  room_then some all steps replied steps' replied' first later = (
    each_then (Passes is_for_room p) steps replied steps' replied' (vain_room p steps replied first) later.0,
    Contains-append_right replied replied' replies.Reclaimed later.1,
  )

  pub left_then : (count some all : ℕ) (steps : List Step) (replied : List Reply) (steps' : List Step)
      (replied' : List Reply) → TriesInVain p count steps replied → Tries p true some steps' replied'
      → Tries p true all (steps ++ steps') (replied ++ replied')
  left_then count some all steps replied steps' replied' first later =
      room_then some all steps replied steps' replied' first.vain later

  -- ---- the write-outs

  pub writing_none : IsWriting p false [] []
  writing_none = record { vain = tt; tried = λ none before. omega arith }

  abbrev pub IsOnlyFlush : Reply → List Step → List Reply → Type 0
  IsOnlyFlush reply steps replied = (steps ≡ flush_by p ∷ []) × (replied ≡ reply ∷ [])

  flushed_then : (P : List Step → List Reply → Type 0) (reply : Reply) (steps : List Step) (replied : List Reply)
      (steps' : List Step) (replied' : List Reply) → IsOnlyFlush reply steps' replied'
      → P (steps ++ flush_by p ∷ []) (replied ++ reply ∷ []) → P (steps ++ steps') (replied ++ replied')
  flushed_then P reply steps replied steps' replied' only holds =
      subst (λ (l : List Reply). P (steps ++ steps') (replied ++ l)) (sym only.1)
      (subst (λ (l : List Step). P (steps ++ l) (replied ++ reply ∷ [])) (sym only.0) holds)

  pub writing_more : (some : Bool) (reply : Reply) (steps : List Step) (replied : List Reply)
      (steps' : List Step) (replied' : List Reply) → IsWriting p some steps replied
      → IsOnlyFlush reply steps' replied' → IsWriting p true (steps ++ steps') (replied ++ replied')
  writing_more some reply steps replied steps' replied' first only =
      flushed_then (IsWriting p true) reply steps replied steps' replied' only (record {
        vain = each_then (Passes is_fruitless p) steps replied (flush_by p ∷ []) (reply ∷ []) first.vain
            (flush_vain p reply);
        tried = λ none. absurd (false≢true (sym none));
      })

  pub writing_ends : (some : Bool) (reply : Reply) → reports_flushed reply ≡ false → (steps : List Step)
      (replied : List Reply) (steps' : List Step) (replied' : List Reply) → IsWriting p some steps replied
      → IsOnlyFlush reply steps' replied' → WritesHome p some (steps ++ steps') (replied ++ replied')
  writing_ends some reply unmade steps replied steps' replied' first only =
      flushed_then (WritesHome p some) reply steps replied steps' replied' only (record {
        writing = record {
          vain = each_then (Passes is_fruitless p) steps replied (flush_by p ∷ []) (reply ∷ []) first.vain
              (flush_vain p reply);
          tried = λ none before.
              let last : tried_in before (steps ++ flush_by p ∷ []) (replied ++ reply ∷ [])
              ≡ tried_in before steps replied =
              tried_then (Passes is_fruitless p) before steps replied (flush_by p ∷ []) (reply ∷ []) first.vain
              ∙ ap (λ b. if b then 0 else tried_in before steps replied) unmade in
              omega (arith, last, first.tried none before);
        };
        written = λ before.
            written_then (Passes is_fruitless p) before steps replied (flush_by p ∷ []) (reply ∷ []) first.vain
            ∙ ap not unmade;
      })

  -- ---- all of it

  -- the write-outs had no step to make
  pub ends_at_once : (all : ℕ) (steps : List Step) (replied : List Reply) → WritesHome p false steps replied
      → MakesRoomLater p false all steps replied
  ends_at_once all steps replied it = record {
    vain = it.writing.vain;
    tried = λ before enough. omega (arith, enough, it.writing.tried refl before);
    written = it.written;
  }

  -- or they had some, and the pages were tried again
  pub tries_again_later : (left : Bool) (all : ℕ) (steps : List Step) (replied : List Reply) (steps' : List Step)
      (replied' : List Reply) → WritesHome p true steps replied → Tries p left all steps' replied'
      → MakesRoomLater p left all (steps ++ steps') (replied ++ replied')
  tries_again_later true all steps replied steps' replied' first later =
      room_then all all steps replied steps' replied' first.writing.vain later
  tries_again_later false all steps replied steps' replied' first later = record {
    vain = each_then (Passes is_fruitless p) steps replied steps' replied' first.writing.vain later.vain;
    tried = λ before enough. omega (
      arith,
      tried_then (Passes is_fruitless p) before steps replied steps' replied' first.writing.vain,
      later.tried (tried_in before steps replied),
    );
    written = λ before.
        written_then (Passes is_fruitless p) before steps replied steps' replied' first.writing.vain
        ∙ later.written (is_written_in before steps replied) ∙ first.written before;
  }

  -- after all were tried in vain
  pub room_later : (left : Bool) (all : ℕ) (steps : List Step) (replied : List Reply) (steps' : List Step)
      (replied' : List Reply) → Tries p false all steps replied → MakesRoomLater p left all steps' replied'
      → MakesRoom p left all (steps ++ steps') (replied ++ replied')
  room_later true all steps replied steps' replied' first later =
      room_then all all steps replied steps' replied' first.vain later
  room_later false all steps replied steps' replied' first later = (
    each_then (Passes is_fruitless p) steps replied steps' replied' first.vain later.vain,
    omega (
      arith,
      tried_then (Passes is_fruitless p) 0 steps replied steps' replied' first.vain,
      later.tried (tried_in 0 steps replied) (omega (arith, first.tried 0)),
    ),
    written_then (Passes is_fruitless p) false steps replied steps' replied' first.vain
        ∙ later.written (is_written_in false steps replied),
  )
