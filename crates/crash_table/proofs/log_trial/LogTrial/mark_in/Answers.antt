use Rattle.std.proofs.Common.{◌≡◌, List, map, sym, ap, subst, ◌∙◌}
use Rattle.device.specs.Memory.{seen_of}
use Rattle.volume_codec.specs.Files.{File}
use Rattle.log_volume.specs.Files.{RecoversToLog}
use Rattle.crash_table.specs.Marks.{IsMarkOf}
use Rattle.crash_table.specs.Trials.{TrialValue}
use Rattle.crash_table.specs.LogTrials.{IsAtMarkByLog}
use Rattle.crash_table.proofs.LogLeft.{at_mark_by_log}
use Rattle.crash_table.proofs.log_trial.LogTrial.mark_in.Goals as goal

pub returns : goal.returns
returns g c =
    let inside = c.self.inside in
    let is = c.files-before.ensures.twin in
    let has = c.self.invariant in
    let replies = c.args.replies.now in
    let number = c.in_ok-number.number in
    let read = map (λ v. v.items) c.in_ok-found.found.items in
    let found = c.in_ok-found.ensures.read in
    let M : List _ → Type 0 = λ l. IsMarkOf inside.other replies (map (λ v. v.items) l) number in
    let first = λ (none : number ≡ 0).
    sym c.files-before.ensures.bytes ∙ c.are_first.ensures c.if-not-are_first.false none
    ∙ ap (map (λ v. v.items)) c.deref-2.ensures.value in
    let at = at_mark_by_log inside.twin.now is inside.other inside.shape inside.steps.now replies read found.0 number
    has.0 has.1 has.2 found.2 (subst M c.deref.ensures.value c.in_ok-number.ensures) first
    (c.is_durable.ensures.0 c.if-not-is_durable.false) in
    let P : TrialValue → Type 0 = λ t. (files : List File) × RecoversToLog t.image files × (read : List File)
    × RecoversToLog (seen_of c.args.disk.now) read × IsAtMarkByLog files t.shape t.steps replies read number in
    subst P c.self.view_is (is.found, is.by_log, found.0, found.1, at)
