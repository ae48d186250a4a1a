use Rattle.std.proofs.Common.{◌≡◌, ◌<◌, false, subst, sym, inl, inr}
use Rattle.log_codec.specs.Log.{first_log_home}
use Rattle.log_volume.specs.Super.{log_of}
use Rattle.log_pager.specs.Pager.{LogPagerValue}
use Rattle.log_files.specs.State.{LogFilesState, takes_no_page}
use Rattle.log_files.specs.inside.Sound.{IsSoundLogFiles, IsInsideFile}
use Rattle.log_files.proofs.Rooms.{sound_put}
use Rattle.log_files.proofs.Seen.{files_state_of, ended_by, over_now}
use Rattle.log_files.proofs.files.LogFiles.stage.Goals as goal

pub invariant_of-self : goal.invariant_of-self
invariant_of-self g c =
    let s : LogFilesState g.row.D.Denot = files_state_of c.self.inside in
    let with : LogPagerValue g.row.D.Denot → Type 0 = λ p. IsSoundLogFiles g.D.Device.seen (record s { pager = p }) in
    let back : (P : LogFilesState g.row.D.Denot → Type 0) → P c.args.self.now → P s = λ P p.
    subst P (sym c.self.view_is) p in
    let low = back (λ p. first_log_home p.table.ring < c.args.home) c.requires.low in
    let within = back (λ p. c.args.home < (log_of p.table).blocks) c.requires.within in
    let inside = back (λ p. IsInsideFile p.table p.lengths c.args.home) c.requires.inside in
    let room = back (λ p. takes_no_page p.table p.most p.pager.staged c.args.home ≡ false) c.requires.room in
    elim (ended_by c.put_block.result _ _ c.put_block.ensures.put c.put_block.ensures.unchanged) [
      | inl e ↦ subst with (sym e) (sound_put g.D.Device.seen s c.args.home c.in-Ok.block.value c.self.invariant low
          within inside room)
      | inr e ↦ subst with (sym e) c.self.invariant
    ]

pub returns-clause-over : goal.returns-clause-over
returns-clause-over g c = λ contents over.
    over_now g.D.Device (files_state_of c.self.inside) c.args.self.now c.put_block.new.self contents c.self.view_is
    (c.put_block.ensures.over contents) over
