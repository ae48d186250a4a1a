use Rattle.std.proofs.Common.{◌≡◌, inl, inr, ℕ, List, length, take, refl, ◌∙◌, ap, subst}
use Rattle.volume_codec.specs.Files.{File}
use Rattle.volume_codec.specs.Layout.{block_at}
use Rattle.engine.proofs.Public.{begins, taken_kept}
use Rattle.machine.specs.Crashes.{Begins}
use Rattle.machine.specs.Reached.{IsReached}
use Rattle.log_volume.specs.Files.{RecoversToLog, log_files_in}
use Rattle.machine_log.specs.Disk.{LogDiskValue, shown_by}
use Rattle.machine_log.specs.Laws.{WorksUnlessFailed}
use Rattle.machine_log.specs.Survival.{AnyBytes, AreAnswered, EndsOnLog, StaysOnLog, SurvivesOnLog}
use Rattle.machine_log.proofs.Booting.{honest_after, left_after_boot, left_in_boot, opens_of}
use Rattle.machine_log.proofs.Reopened.{finds, found_after, keeps, one_files, opened_left}
use Rattle.machine_log.proofs.Standing.{taken_of}
use Rattle.machine_log.proofs.Surviving.{after_reads, ends_by, survive}
use Rattle.machine_log.proofs.running.run.Goals as goal

pub returns-in-Ok-boot-clause-ran : goal.returns-in-Ok-boot-clause-ran
returns-in-Ok-boot-clause-ran g c =
    let disk = g.D.Device in
    let device = c.args.device in
    let shown = c.in-Ok.disk in
    let start = c.in-Ok-boot.machine in
    let last = c.make_steps.new.machine in
    let replies = c.make_steps.ensures.0 in
    let steps = take (length replies) c.args.steps.now in
    let stand = c.make_steps.ensures.2 in
    let started = c.in-Ok-boot.ensures.started in
    let taken = taken_of disk start steps replies last stand in
    let magic = c.one_log_super.ensures.magic in
    let unique = one_files c.one_log_super.ensures.one c.one_log.ensures.contents in
    let opens = c.files_of_openings.ensures.opened in
    let crashed = c.files_of_openings.ensures.crashed in
    let works : WorksUnlessFailed disk last.device =
    subst (WorksUnlessFailed disk) c.device.ensures c.works_unless_failed.ensures in
    let survives : disk.is_honest device → (files : List File) × RecoversToLog (disk.seen device) files
    × AreAnswered files start steps replies × SurvivesOnLog disk files device shown start steps replies last
    × (last.device.memory.faults ≡ 0 → EndsOnLog AnyBytes disk files start steps replies last) =
    λ honest.
    let opened = c.in-Ok.ensures.opened honest in
    let files = log_files_in shown.volume (block_at (disk.seen shown.device)) in
    let here = (opens device shown.device shown.volume opened.lengths shown.log_start opened.opened).1 in
    let on_disk = c.in-Ok.ensures.files honest files here in
    let shown_honest = c.in-Ok.ensures.counted.honest.1 honest in
    let first = begins (shown_by disk) shown c.args.shape start started shown_honest in
    let B : List File → Type 0 = λ l. Begins (shown_by disk) l start in
    let begun : B files = subst B (c.one_reading.ensures.files ((shown_by disk).seen shown) first.0 files first.1
    on_disk) first.2 in
    let reached : IsReached (shown_by disk) files start steps replies last =
    record { begins = begun; taken = taken } in
    let still : disk.is_honest last.device.device =
    (taken_kept (shown_by disk) start steps replies last taken).0.1 begun.honest in (
      files,
      here,
      record {
        lawful = c.runs_keep_the_laws.ensures.lawful files start last steps replies reached;
        served = c.faults_are_served.ensures start last steps replies taken;
      },
      survive disk files start begun g.met.D.Device.now_is_since c.runs_keep_the_laws.ensures.since
          (found_after disk magic unique opens crashed) device shown c.args.shape steps replies last started
          shown_honest on_disk c.in-Ok.ensures.synced c.in-Ok-boot.ensures.stands
          c.crashed_since_opening.ensures.left g.met.D.Device.seen_is_left (keeps disk magic unique opens crashed)
          (finds disk magic unique opens crashed)
          (λ all list left. opened_left disk magic unique opens crashed files device all here list
          ((c.in-Ok.ensures.crash honest).each list left)) stand,
      λ none. ends_by disk files start (found_after disk magic unique opens crashed)
          (finds disk magic unique opens crashed) AnyBytes steps replies last still
          (g.met.D.Device.seen_is_left last.device.device still)
          (λ list may any. after_reads disk files start last steps replies reached
          c.runs_keep_the_laws.ensures.since (works none) still list may),
    ) in (
      replies,
      c.make_steps.ensures.1,
      record {
        shown = shown;
        start = start;
        last = last;
        is_shown = record {
          fresh = c.in-Ok.ensures.fresh;
          table = c.in-Ok.ensures.shown;
          opened = c.in-Ok.ensures.opened;
        };
        started = started;
        made = taken;
        ended = c.into_device-in-Ok-boot.ensures ∙ ap (λ (d : LogDiskValue _). d.device) c.into_device.ensures;
        survives = survives;
      },
    )

pub returns-in-Err-boot-clause-refused : goal.returns-in-Err-boot-clause-refused
returns-in-Err-boot-clause-refused g c =
    let disk = g.D.Device in
    let device = c.args.device in
    let shown = c.in-Ok.disk in
    let failed = c.in-Err-boot.ensures.refused in
    let after = failed.0 in
    let opens = opens_of disk shown c.args.shape after _ failed.1 in
    let magic = c.one_log_super.ensures.magic in
    let unique = one_files c.one_log_super.ensures.one c.one_log.ensures.contents in
    let opened_by = c.files_of_openings.ensures.opened in
    let crashed = c.files_of_openings.ensures.crashed in
    let kept : disk.is_honest device → (files : List File) × RecoversToLog (disk.seen device) files
    × StaysOnLog disk files device shown.device after =
    λ honest.
    let opened = c.in-Ok.ensures.opened honest in
    let files = log_files_in shown.volume (block_at (disk.seen shown.device)) in
    let here = (opened_by device shown.device shown.volume opened.lengths shown.log_start opened.opened).1 in
    let on_disk = c.in-Ok.ensures.files honest files here in
    let synced = c.in-Ok.ensures.synced in
    let left_as = c.crashed_since_opening.ensures.left in
    let shown_honest = c.in-Ok.ensures.counted.honest.1 honest in
    let after_honest = honest_after disk left_as files shown after opens.0 opens.1 shown_honest on_disk synced
    failed.2 in (
      files,
      here,
      record {
        opening = λ all. keeps disk magic unique opened_by crashed files
            (disk.left_since shown.device (disk.moment device))
            (λ list left. opened_left disk magic unique opened_by crashed files device all here list
            ((c.in-Ok.ensures.crash honest).each list left));
        booting = keeps disk magic unique opened_by crashed files _
            (λ list left. left_in_boot disk left_as files shown after opens.0 opens.1 shown_honest on_disk synced
            failed.2 list left.0 left.1);
        found = λ tells. finds disk magic unique opened_by crashed files after.device
            (left_after_boot disk left_as files shown after opens.0 opens.1 shown_honest on_disk synced failed.2
            g.met.D.Device.now_is_since (disk.seen after.device)
            (g.met.D.Device.seen_is_left after.device after_honest) tells);
        honest = after_honest;
      },
    ) in (
      inr (record {
        shown = shown;
        is_shown = record {
          fresh = c.in-Ok.ensures.fresh;
          table = c.in-Ok.ensures.shown;
          opened = c.in-Ok.ensures.opened;
        };
        left = after;
        refused = failed.1;
        ended = failed.3;
        kept = kept;
      }),
      refl,
    )

pub returns-in-Err-clause-refused : goal.returns-in-Err-clause-refused
returns-in-Err-clause-refused g c =
    let disk = g.D.Device in
    let device = c.args.device in
    let after = c.in-Err.refused.1 in
    let magic = c.one_log_super.ensures.magic in
    let unique = one_files c.one_log_super.ensures.one c.one_log.ensures.contents in
    let opened_by = c.files_of_openings.ensures.opened in
    let crashed = c.files_of_openings.ensures.crashed in (
      inl (record {
        reason = c.in-Err.ensures.refused;
        unwritten = c.in-Err.ensures.unwritten;
        counted = c.in-Err.ensures.counted;
        kept = λ honest files all.
            let leaves = c.in-Err.ensures.crash honest in
            let here = all (disk.seen device) (g.met.D.Device.seen_is_left device honest) in
            let each : (list : List ℕ) → disk.left_since after (disk.moment device) list → RecoversToLog list files =
            λ list left. opened_left disk magic unique opened_by crashed files device all here list
            (leaves.each list left) in
            let still = c.in-Err.ensures.counted.honest.1 honest in (
              keeps disk magic unique opened_by crashed files (disk.left_since after (disk.moment device)) each,
              finds disk magic unique opened_by crashed files after
                  (each (disk.seen after) (g.met.D.Device.now_is_since after (disk.moment device) (disk.seen after)
                  leaves.later (g.met.D.Device.seen_is_left after still))),
            );
      }),
      refl,
    )
