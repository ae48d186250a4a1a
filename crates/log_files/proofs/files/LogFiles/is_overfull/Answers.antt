use Rattle.std.proofs.Common.{◌≡◌, ◌+◌, ◌-◌, ◌/◌, ◌<◌, [], ap, sym, ◌∙◌}
use Rattle.std.proofs.Common.{subst, arith}
use Rattle.std.specs.Prelude.{is_some, nat_lt}
use Rattle.volume_codec.specs.Super.{pages_of}
use Rattle.kept_blocks.specs.Blocks.{bytes_in}
use Rattle.pager.specs.State.{file_length}
use Rattle.pager.specs.Calls.{end_page}
use Rattle.pager.proofs.Public.{added_to, added_some, added_none}
use Rattle.log_files.specs.State.{LogFilesState, log_home_of, pages_put}
use Rattle.log_files.specs.Calls.{log_restaged}
use Rattle.log_files.proofs.Resizing.{pages_grown}
use Rattle.log_files.proofs.Seen.{files_state_of, asked_length}
use Rattle.log_files.proofs.files.LogFiles.is_overfull.Goals.{then-is_put, else-is_put}
use Rattle.log_files.proofs.files.LogFiles.is_overfull.Goals as goal

pub returns : goal.returns
returns g c =
    let s : LogFilesState g.row.D.Denot = files_state_of c.self.inside in
    let asked = asked_length s c.args.self.now c.args.file c.args.from c.args.to c.self.view_is c.requires.may
    c.requires.from in
    let from_is = asked.from_is in
    let grows : file_length s.lengths c.args.file < c.args.to = omega (arith, from_is, c.requires.more) in
    let home = log_home_of s.table (end_page c.args.file (file_length s.lengths c.args.file)) in
    let many = pages_of c.args.to - (file_length s.lengths c.args.file / 4096 + 1) in
    let home_is : c.end_home-home.result ≡ home =
    c.end_home-home.ensures.home ∙ ap (λ n. log_home_of s.table (end_page c.args.file n)) from_is in
    let there : c.is_put.result ≡ is_some (bytes_in s.pager.staged home) =
    c.is_put.ensures ∙ ap (λ q. is_some (bytes_in s.pager.staged q)) home_is in
    let more : c.if-is_put.more ≡ added_to (bytes_in s.pager.staged home) many = elim c.if-is_put.branch [
      | then-is_put w ↦ (let is = added_some (bytes_in s.pager.staged home) many (sym there ∙ w.if-is_put.true) in
          omega (arith, w.more-is, is, home_is, c.home_after.ensures.home, grows))
      | else-is_put w ↦ (let is = added_none (bytes_in s.pager.staged home) many (sym there ∙ w.if-is_put.false) in
          omega (arith, w.more-is, is, home_is, c.home_after.ensures.home, grows))
    ] in
    let put : c.staged_pages.result ≡ pages_put s.table s.pager.staged =
    subst (λ (p : LogFilesState g.row.D.Denot). c.staged_pages.result ≡ pages_put p.table p.pager.staged)
    (sym c.self.view_is) c.staged_pages.ensures in
    (λ i. nat_lt s.most (put i + more i))
    ∙ sym (ap (nat_lt s.most)
    (pages_grown g.D.Device.seen s c.self.invariant c.args.file c.args.to asked.may grows []))
    ∙ ap (λ (p : LogFilesState g.row.D.Denot). nat_lt p.most (pages_put p.table
    (log_restaged p.table p.lengths c.args.file c.args.to [] p.pager.staged))) c.self.view_is
