use Rattle.std.proofs.Common.{◌≡◌, ◌≢◌, ℕ, List, [], ap, sym, ◌∙◌}
use Rattle.pager.specs.State.{file_length}
use Rattle.pager.proofs.Public.{on_ok}
use Rattle.log_files.specs.State.{LogFilesState}
use Rattle.log_files.specs.Calls.{log_resized_to}
use Rattle.log_files.proofs.Setting.{changed_after, changed_some}
use Rattle.log_files.proofs.files.LogFiles.set_length.Goals.{After-length_at-from}
use Rattle.log_files.proofs.files.LogFiles.set_length.Goals as goal

from_is : (g : _) (c : After-length_at-from g)
    → c.length_at-from.result ≡ file_length c.args.self.now.lengths c.args.file
from_is g c = c.length_at-from.ensures ∙ ap (λ (l : List ℕ). file_length l c.args.file) c.deref.ensures.value
    ∙ ap (λ (p : LogFilesState g.row.D.Denot). file_length p.lengths c.args.file) c.self.view_is

differs : (g : _) (c : After-length_at-from g) → c.args.length ≢ c.length_at-from.result
    → c.args.length ≢ file_length c.args.self.now.lengths c.args.file
differs g c other = λ same. other (same ∙ sym (from_is g c))

pub returns-else-length-from-2-clause-some : goal.returns-else-length-from-2-clause-some
returns-else-length-from-2-clause-some g c =
    let a = (goal.at.returns-else-length-from-2-clause-some g c).After-length_at-from in
    on_ok c.grow.result _ _ (changed_some c.args.self.now c.args.file c.args.length c.grow.new.self _
    (differs g a c.if-length-from.false)) c.grow.ensures.some

pub returns-then-length-from-2-clause-some : goal.returns-then-length-from-2-clause-some
returns-then-length-from-2-clause-some g c =
    let a = (goal.at.returns-then-length-from-2-clause-some g c).After-length_at-from in
    on_ok c.shrink.result _ _ (λ e. (
      [],
      e
          ∙ ap (log_resized_to c.args.self.now c.args.file c.args.length []) (sym c.shrink.ensures.device)
          ∙ changed_after c.args.self.now c.args.file c.args.length _ _
          (differs g a c.if-length-from.false),
    )) (c.shrink.ensures.ok [])

pub returns-then-length-from-2-clause-over : goal.returns-then-length-from-2-clause-over
returns-then-length-from-2-clause-over g c = λ contents honest over. c.shrink.ensures.over contents over
