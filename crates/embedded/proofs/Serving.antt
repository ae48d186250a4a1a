-- What an embedded volume has served stays so by further calls, and a commit adds its mark.
use Rattle.std.proofs.Common.{◌≡◌, ◌≤◌, ℕ, ◌+◌, ◌-◌, ◌^◌, Bool, true, false, List, [], ◌++◌, length, Option, Some, None}
use Rattle.std.proofs.Common.{IfSome, Result, Ok, Err, OnOk, OnErr, if◌then◌else◌, refl, sym, ◌∙◌, ap, subst, arith}
use Rattle.std.proofs.lemmas.Bool.Decides.{nat_tests}
use Rattle.std.specs.Prelude.{⊤, min, nat_le}
use Rattle.std.proofs.lemmas.List.Elements.{Contains-append_right}
use Rattle.deferred_disk.specs.Deferred.{Deferred, as_memory, carried_moment, IsSuppliedWell, recorded_calls}
use Rattle.device.specs.Memory.{moment_of, seen_of}
use Rattle.device.specs.inside.Laws.{since_now_of}
use Rattle.volume_codec.specs.Files.{File}
use Rattle.volume_codec.specs.Recovery.{RecoversTo}
use Rattle.volume_codec.specs.Super.{SuperValue}
use Rattle.recovery.specs.Opening.{Opens, HasOpened}
use Rattle.recovery.specs.Reading.{IsOnlyRead}
use Rattle.recovery.specs.Volume.{IsWellFormed, files_of}
use Rattle.page_entry.specs.declared.numbers.FilePage.{FilePage}
use Rattle.page_entry.specs.declared.refusal.Refusal.{Refusal}
use Rattle.pager.specs.Calls.{after_put, put_refusal, after_length, last_page, set_length_refusal}
use Rattle.history.specs.History.{Event, Acknowledge}
use Rattle.pager.specs.State.{PagerState, newly_opened, volume_in}
use Rattle.pager.specs.Histories.{HasCome, HasGone, Stays}
use Rattle.pager.proofs.Public.{come_on, gone_on, left_since}
use Rattle.embedded.specs.Embedded.{HasPassedMark, HasNeeded, HasMadeCalls, ServesWell, made_calls}
use Rattle.embedded.specs.Embedded.{acknowledged_by_calls, over_device}
use Rattle.embedded.specs.Recorded.{deferred_disk}
use Rattle.embedded.specs.Steps.{Commits}
use Rattle.embedded.proofs.Leading.{Leads, Any, Acknowledges, leads_put, leads_read, leads_length, leads_commit}

-- ---- an opening

pub serves_opened : (before : Deferred) (pager : PagerState Deferred) (most : ℕ)
    → ((a b : Deferred) (table : SuperValue) → HasOpened deferred_disk a table b
    → RecoversTo (seen_of (as_memory a)) (files_of table (seen_of (as_memory b))))
    → Opens deferred_disk before (Ok pager.table) pager.device → pager ≡ newly_opened (volume_in pager) most
    → IsWellFormed deferred_disk (volume_in pager) → ServesWell pager None 0 None
serves_opened before pager most recover opens is formed = λ well.
    let files = files_of pager.table (seen_of (as_memory pager.device)) in
    record {
      before = before;
      files = files;
      recovered = recover before pager.device pager.table (opens.ended (opens.kept.honest.0 well));
      history = [];
      come = subst (λ (s : PagerState Deferred). HasCome deferred_disk files [] s) (sym is)
          (record {
            volume = volume_in pager;
            most = most;
            rest = formed.at_rest well;
            files_are = refl;
            gone = Stays;
          });
      commits = tt;
      durable = tt;
    }

-- ---- further calls

module _ (files : List File) (old new : PagerState Deferred) (events : List Event)
    (gone : HasGone deferred_disk old events new) where
  reached_on : (mark : ℕ) → HasPassedMark files mark old → HasPassedMark files mark new
  reached_on mark it = record {
    earlier = it.earlier;
    mid = it.mid;
    came = it.came;
    acknowledges = it.acknowledges;
    later = it.later ++ events;
    gone = gone_on deferred_disk it.mid it.later old it.gone gone;
  }

  needed_on : (due : ℕ) (committed : Option ℕ) → IfSome committed (λ mark. HasNeeded files due mark old)
      → IfSome committed (λ mark. HasNeeded files due mark new)
  unfolding reached_on
  needed_on due None it = tt
  needed_on due (Some mark) it = (reached_on mark it.0, it.1)

  made_on : carried_moment old.device ≤ carried_moment new.device → (acknowledged : Option ℕ)
      → IfSome acknowledged (λ mark. HasMadeCalls files mark old)
      → IfSome acknowledged (λ mark. HasMadeCalls files mark new)
  unfolding reached_on
  made_on more None it = tt
  made_on more (Some mark) it = (reached_on mark it.0, omega (arith, more, it.1))

module _ (old new : PagerState Deferred) (due : ℕ) (committed acknowledged : Option ℕ) where
  pub serves_later : (IsSuppliedWell new.device → IsSuppliedWell old.device)
      → (IsSuppliedWell new.device → (events : List Event) × HasGone deferred_disk old events new)
      → carried_moment old.device ≤ carried_moment new.device
      → ServesWell old committed due acknowledged → ServesWell new committed due acknowledged
  serves_later well goes more served = λ is.
      let had = served (well is) in
      let gone = goes is in
      record {
        before = had.before;
        files = had.files;
        recovered = had.recovered;
        history = had.history ++ gone.0;
        come = come_on deferred_disk had.files had.history old had.come gone.1;
        commits = needed_on had.files old new gone.0 gone.1 due committed had.commits;
        durable = made_on had.files old new gone.0 gone.1 more acknowledged had.durable;
      }

  pub serves_on : (E : List Event → Type 0) → Leads E old new → ServesWell old committed due acknowledged
      → ServesWell new committed due acknowledged
  serves_on E leads served =
      serves_later leads.well (λ is. let it = leads.goes is in (it.0, it.2)) (omega (arith, leads.carried)) served

  -- ---- a commit

  pub serves_commit : (mark : ℕ) → Leads (Acknowledges mark) old new → ServesWell old committed due acknowledged
      → ServesWell new (Some mark) (recorded_calls new.device) acknowledged
  serves_commit mark leads served = λ is.
      let had = served (leads.well is) in
      let it = leads.goes is in
      let come = come_on deferred_disk had.files had.history old had.come it.2 in
      record {
        before = had.before;
        files = had.files;
        recovered = had.recovered;
        history = had.history ++ it.0;
        come = come;
        commits = (
          record {
            earlier = had.history ++ it.0;
            mid = new;
            came = come;
            acknowledges = Contains-append_right had.history it.0 (Acknowledge mark) it.1;
            later = [];
            gone = Stays;
          },
          omega arith,
        );
        durable = made_on had.files old new it.0 it.2 (omega (arith, leads.carried)) acknowledged had.durable;
      }

-- ---- an acknowledgement

-- time doesn't go back
later : (files : List File) (mark : ℕ) (pager : PagerState Deferred) (it : HasPassedMark files mark pager)
    → moment_of (as_memory it.mid.device) ≤ length pager.device.changes
later files mark pager it =
    let since = left_since deferred_disk (λ d. since_now_of (as_memory d)) files it.earlier it.mid it.came it.gone in
    omega (arith, since.later)

le_true : (a b : ℕ) → nat_le a b ≡ true → a ≤ b
le_true a b is = grind (arith, nat_tests)

-- where as many calls were made as a commit needs, all that were recorded then were made
enough : (moment due all waiting : ℕ) → moment ≤ all → due ≡ min moment (2 ^ 64 - 1)
    → due ≤ min all (2 ^ 64 - 1) - waiting → moment ≤ 0 + all - waiting
enough moment due all waiting before is made = omega (arith, before, is, made)

made_now : (files : List File) (due : ℕ) (pager : PagerState Deferred) → due ≤ made_calls pager.device
    → (committed : Option ℕ) → IfSome committed (λ mark. HasNeeded files due mark pager)
    → IfSome committed (λ mark. HasMadeCalls files mark pager)
made_now files due pager made None it = tt
made_now files due pager made (Some mark) it = (
  it.0,
  enough (moment_of (as_memory it.0.mid.device)) due (length pager.device.changes) pager.device.waiting
      (later files mark pager it.0) it.1 made,
)

module _ (pager : PagerState Deferred) (due : ℕ) (committed before : Option ℕ) where
  pub serves_confirmed : ServesWell pager committed due before
      → ServesWell pager committed due
      (acknowledged_by_calls (made_calls pager.device) due committed before)
  serves_confirmed served = λ well.
      let had = served well in
      record {
        before = had.before;
        files = had.files;
        recovered = had.recovered;
        history = had.history;
        come = had.come;
        commits = had.commits;
        durable = either had.files (nat_le due (made_calls pager.device)) refl had.commits had.durable;
      }
    where
      either : (files : List File) (made : Bool) → nat_le due (made_calls pager.device) ≡ made
          → IfSome committed (λ mark. HasNeeded files due mark pager)
          → IfSome before (λ mark. HasMadeCalls files mark pager)
          → IfSome (if made then committed else before) (λ mark. HasMadeCalls files mark pager)
      either files true is commits durable =
          made_now files due pager (le_true due (made_calls pager.device) is) committed commits
      either files false is commits durable = durable

-- ---- a page that is put

pub serves_put : (old new : PagerState Deferred) (due : ℕ) (committed acknowledged : Option ℕ) (owner : FilePage)
    (bytes : List ℕ) (result : Result ⊤ Refusal) → length bytes ≡ 4096 → OnOk result (put_refusal old owner ≡ None)
    → OnOk result (new ≡ after_put old owner bytes) → OnErr result (new ≡ old)
    → ServesWell old committed due acknowledged → ServesWell new committed due acknowledged
serves_put old new due committed acknowledged owner bytes (Ok done) page allowed is same =
    subst (λ (s : PagerState Deferred).
    ServesWell old committed due acknowledged → ServesWell s committed due acknowledged) (sym is)
    (serves_on old (after_put old owner bytes) due committed acknowledged Any
    (leads_put old owner bytes (record { admitted = allowed; a_page = page })))
serves_put old new due committed acknowledged owner bytes (Err why) page allowed is same =
    subst (λ (s : PagerState Deferred). ServesWell s committed due acknowledged) (sym same)

-- a page that is read
pub serves_read : (old new : PagerState Deferred) (due : ℕ) (committed acknowledged : Option ℕ)
    → new ≡ over_device old new.device → IsOnlyRead deferred_disk old.device new.device
    → carried_moment new.device ≡ carried_moment old.device
    → ServesWell old committed due acknowledged → ServesWell new committed due acknowledged
serves_read old new due committed acknowledged is read carried =
    serves_on old new due committed acknowledged Any
    (subst (λ (s : PagerState Deferred). Leads Any old s) (sym is)
    (leads_read old new.device (λ _. read) read.honest.0 carried))

-- a length that is set
pub serves_length : (old new : PagerState Deferred) (due : ℕ) (committed acknowledged : Option ℕ) (file to : ℕ)
    (result : Result ⊤ Refusal) → OnOk result (set_length_refusal old file to ≡ None)
    → (IsSuppliedWell old.device
    → OnOk result (new ≡ after_length old file to (last_page old (deferred_disk.seen old.device) file) new.device))
    → OnErr result (new ≡ over_device old new.device) → IsOnlyRead deferred_disk old.device new.device
    → carried_moment new.device ≡ carried_moment old.device
    → ServesWell old committed due acknowledged → ServesWell new committed due acknowledged
serves_length old new due committed acknowledged file to (Ok done) allowed set same read carried =
    serves_on old new due committed acknowledged Any (leads_length old new file to allowed set read carried)
serves_length old new due committed acknowledged file to (Err why) allowed set same read carried =
    serves_read old new due committed acknowledged same read carried

-- an acknowledgement, by these counts
pub serves_noted : (pager : PagerState Deferred) (due made : ℕ) (committed before noted : Option ℕ)
    → made ≡ made_calls pager.device → noted ≡ acknowledged_by_calls made due committed before
    → ServesWell pager committed due before → ServesWell pager committed due noted
serves_noted pager due made committed before noted counts notes served =
    subst (λ (a : Option ℕ). ServesWell pager committed due a)
    (sym (notes ∙ ap (λ (n : ℕ). acknowledged_by_calls n due committed before) counts))
    (serves_confirmed pager due committed before served)

pub serves_marked : (old new : PagerState Deferred) (due : ℕ) (committed acknowledged : Option ℕ) (mark : ℕ)
    (now made : ℕ) (noted : Option ℕ) → Commits old mark new → now ≡ recorded_calls new.device
    → made ≡ made_calls new.device → noted ≡ acknowledged_by_calls made now (Some mark) acknowledged
    → ServesWell old committed due acknowledged → ServesWell new (Some mark) now noted
serves_marked old new due committed acknowledged mark now made noted commits counted counts notes served =
    serves_noted new now made (Some mark) acknowledged noted counts notes
    (subst (λ (n : ℕ). ServesWell new (Some mark) n acknowledged) (sym counted)
    (serves_commit old new due committed acknowledged mark (leads_commit mark old new commits) served))
