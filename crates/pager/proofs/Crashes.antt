-- What a crash leaves, and what callers see, by the files that were opened and the history of the calls.
use Rattle.std.proofs.Common.{◌≡◌, ℕ, ◌<◌, false, List, [], length, None, ap, ◌∙◌, arith}
use Rattle.device.specs.Device.{LeavesOnly}
use Rattle.device.specs.declared.device.Device.{Ghosts}
use Rattle.device.proofs.Public.{leaves_weaker}
use Rattle.page_entry.specs.declared.numbers.FilePage.{FilePage}
use Rattle.volume_codec.specs.Files.{File}
use Rattle.volume_codec.specs.Layout.{IsHome}
use Rattle.volume_codec.specs.Super.{geometry_of}
use Rattle.volume_codec.specs.Text.{padded}
use Rattle.journal.specs.Pages.{home_of}
use Rattle.journal.specs.declared.flushed.Flushed.{Flushed}
use Rattle.journal.proofs.Public.{consistent_left}
use Rattle.history.specs.History.{Event, memory_of, after}
use Rattle.history.specs.Reading.{ReadsBack}
use Rattle.history.specs.inside.Contents.{AreContentsOf}
use Rattle.history.proofs.Public.{prefix_has}
use Rattle.pager.specs.State.{PagerState, newly_opened, up_to_end, current_in}
use Rattle.pager.specs.Calls.{page_refusal}
use Rattle.pager.specs.Histories.{IsPagerStep, HasCome, HasGone, Stays, ThenPut, ThenCommitted, ThenStepped, ThenRead}
use Rattle.pager.specs.Histories.{ThenResized}
use Rattle.pager.proofs.Histories.{Keeps, keeps_committed, keeps_stepped, keeps_read, durable_left, step_within}
use Rattle.pager.proofs.Histories.{IsDurable}
use Rattle.pager.proofs.Having.{IsInFile, home_below}
use Rattle.pager.proofs.Files.{page_allowed, are_now, parts_now, keeps_opened, keeps_put}
use Rattle.pager.proofs.Files.{seen_now}
use Rattle.pager.proofs.Resized.{keeps_resized}

keeps_gone : {D : Type 0} (disk : Ghosts D) (files : List File) (start : PagerState D) → Keeps disk files [] start
    → {history : List Event} {s : PagerState D} → HasGone disk start history s → Keeps disk files history s
keeps_gone disk files start k Stays = k
keeps_gone disk files start k (ThenPut history s owner bytes put gone) =
    keeps_put disk files history s (keeps_gone disk files start k gone) owner bytes put
keeps_gone disk files start k (ThenCommitted history s commit gone) =
    keeps_committed disk files history s commit (keeps_gone disk files start k gone)
keeps_gone disk files start k (ThenStepped history s answer after step gone) =
    keeps_stepped disk files history s answer after step (keeps_gone disk files start k gone)
keeps_gone disk files start k (ThenRead history s after read gone) =
    keeps_read disk files history s after read (keeps_gone disk files start k gone)
keeps_gone disk files start k (ThenResized history s file to after resize gone) =
    keeps_resized disk files history s file to after resize (keeps_gone disk files start k gone)

pub keeps : {D : Type 0} (disk : Ghosts D) {files : List File} {history : List Event} {s : PagerState D}
    → HasCome disk files history s → Keeps disk files history s
keeps disk {files} come = keeps_gone disk files (newly_opened come.volume come.most)
    (keeps_opened disk files come.volume come.most come.rest come.files_are) come.gone

module _ {D : Type 0} (disk : Ghosts D) (files : List File) (history : List Event) (s : PagerState D)
    (k : Keeps disk files history s) where
  read_back : (c : List ℕ) → IsDurable files s.table history c → ReadsBack files history c
  read_back c found =
      let are : AreContentsOf files history s.table found.contents found.prefix = record {
        rest = found.durable.rest;
        begins = found.durable.begins;
        marked = found.durable.marked;
        whole = found.has.whole;
        fits = found.has.fits;
        same_lengths = found.has.same_lengths;
        parts = found.has.parts;
      } in
      record {
        prefix = found.prefix;
        durable = found.durable;
        recovers = record {
          table = s.table;
          contents = found.contents;
          recovers = found.recovers;
          lengths = found.has.fits;
          files_are = prefix_has files s.table k.named history found.contents found.prefix are;
        };
      }

  pub left_durable : (c : List ℕ) → disk.may_leave s.device c → ReadsBack files history c
  left_durable c left = read_back c (durable_left disk files history s k c
      (consistent_left s.table k.old k.new s.write_outs (disk.seen s.device) (disk.may_leave s.device) k.consistent
      c left))

  pub within_durable : (answer : Flushed) (after : D) → IsPagerStep disk s answer after
      → LeavesOnly disk.moment disk.left_since s.device after (ReadsBack files history)
  within_durable answer after step = leaves_weaker step.did.time
      (λ c torn. read_back c (durable_left disk files history s k c
      (step_within disk files history s answer after step k c torn)))

  -- each page reads as it was put last
  pub reads_latest : s.write_outs.broken ≡ false → (owner : FilePage) → page_refusal s.lengths owner ≡ None
      → up_to_end s.lengths owner (current_in s.staged s.records (disk.seen s.device) (home_of s.table owner))
      ≡ up_to_end s.lengths owner (after (memory_of files) history owner.file owner.page)
  reads_latest whole owner allowed =
      let page = page_allowed s.lengths owner allowed in
      let are = are_now disk files history s k in
      let there : owner.file < length s.table.files = omega (arith, page.0, are.count) in
      let is : IsInFile s.table s.lengths owner = record { there = there; inside = page.1 } in
      let home : IsHome (geometry_of s.table) (home_of s.table owner) = record {
        low = omega arith;
        high = home_below s.table s.lengths are owner is;
      } in
      ap (up_to_end s.lengths owner) (seen_now disk files history s k whole (home_of s.table owner) home)
      ∙ ap (padded 4096) (parts_now disk files history s k owner there page.1)
