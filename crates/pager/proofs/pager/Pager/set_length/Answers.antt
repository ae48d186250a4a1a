use Rattle.std.proofs.Common.{◌≡◌, ◌≢◌, ℕ, List, [], ap, sym, ◌∙◌, subst, arith}
use Rattle.page_entry.specs.declared.refusal.Refusal.TheVariants.{OutOfMemory}
use Rattle.recovery.specs.Reading.{IsOnlyRead}
use Rattle.pager.specs.State.{PagerState, file_length}
use Rattle.pager.specs.Calls.{RefusesSetLength, last_page, resized_to}
use Rattle.pager.proofs.Setting.{ok_as, on_ok, if_err, same_after, changed_after, changed_some, changed_reason}
use Rattle.pager.proofs.Setting.{no_calls, refuses_memory, room_free, read_nothing}
use Rattle.pager.proofs.pager.Pager.set_length.Goals.{After-length_at-from}
use Rattle.pager.proofs.pager.Pager.set_length.Goals as goal

from_is : (g : _) (c : After-length_at-from g)
    → c.length_at-from.result ≡ file_length c.args.self.now.lengths c.args.file
from_is g c = c.length_at-from.ensures ∙ ap (λ (l : List ℕ). file_length l c.args.file) c.deref.ensures.value
    ∙ ap (λ (p : PagerState g.row.D.Denot). file_length p.lengths c.args.file) c.self.view_is

differs : (g : _) (c : After-length_at-from g) → c.args.length ≢ c.length_at-from.result
    → c.args.length ≢ file_length c.args.self.now.lengths c.args.file
differs g c other = λ same. other (same ∙ sym (from_is g c))

-- ---- the file has this length already

pub returns-then-length-from-clause-set : goal.returns-then-length-from-clause-set
returns-then-length-from-clause-set g c honest =
    let a = (goal.at.returns-then-length-from-clause-set g c).After-length_at-from in
    same_after c.args.self.now c.args.file c.args.length _ _ (c.if-length-from.true ∙ from_is g a)

pub returns-then-length-from-clause-some : goal.returns-then-length-from-clause-some
returns-then-length-from-clause-some g c =
    let a = (goal.at.returns-then-length-from-clause-some g c).After-length_at-from in
    ([], same_after c.args.self.now c.args.file c.args.length [] _ (c.if-length-from.true ∙ from_is g a))

pub returns-then-length-from-clause-calls : goal.returns-then-length-from-clause-calls
returns-then-length-from-clause-calls g c small =
    let a = (goal.at.returns-then-length-from-clause-calls g c).After-length_at-from in
    let none = no_calls c.args.self.now c.args.file c.args.length
    (omega (arith, c.if-length-from.true, from_is g a)) in
    omega (arith, none)

-- ---- a growth

pub grow-requires-clause-reason : goal.grow-requires-clause-reason
grow-requires-clause-reason g c =
    let a = (goal.at.grow-requires-clause-reason g c).After-length_at-from in
    changed_reason c.args.self.now c.args.file c.args.length c.in_ok-admit_length.ensures.ok
    (differs g a c.if-length-from.false)
    (sym (c.if-is_broken.ensures ∙ ap (λ (p : PagerState g.row.D.Denot). p.write_outs.broken) c.self.view_is))

pub returns-else-length-from-2-clause-set : goal.returns-else-length-from-2-clause-set
returns-else-length-from-2-clause-set g c honest =
    let a = (goal.at.returns-else-length-from-2-clause-set g c).After-length_at-from in
    on_ok c.grow.result _ _ (λ e. e ∙ changed_after c.args.self.now c.args.file c.args.length _ _
    (differs g a c.if-length-from.false)) (c.grow.ensures.set honest)

pub returns-else-length-from-2-clause-some : goal.returns-else-length-from-2-clause-some
returns-else-length-from-2-clause-some g c =
    let a = (goal.at.returns-else-length-from-2-clause-some g c).After-length_at-from in
    on_ok c.grow.result _ _ (changed_some c.args.self.now c.args.file c.args.length c.grow.new.self _
    (differs g a c.if-length-from.false)) c.grow.ensures.some

-- ---- a shrink

pub returns-then-length-from-2-clause-ok : goal.returns-then-length-from-2-clause-ok
returns-then-length-from-2-clause-ok g c =
    let a = (goal.at.returns-then-length-from-2-clause-ok g c).After-length_at-from in
    ok_as c.shrink.result _ (changed_reason c.args.self.now c.args.file c.args.length c.in_ok-admit_length.ensures.ok
    (differs g a c.if-length-from.false)
    (sym (c.if-is_broken.ensures ∙ ap (λ (p : PagerState g.row.D.Denot). p.write_outs.broken) c.self.view_is))
    ∙ room_free _ c.shrink.ensures.room)

pub returns-then-length-from-2-clause-set : goal.returns-then-length-from-2-clause-set
returns-then-length-from-2-clause-set g c honest =
    let a = (goal.at.returns-then-length-from-2-clause-set g c).After-length_at-from in
    on_ok c.shrink.result _ _ (λ e. e
    ∙ ap (resized_to c.args.self.now c.args.file c.args.length (last_page c.args.self.now
    (g.D.Device.seen c.args.self.now.device) c.args.file)) (sym c.shrink.ensures.device)
    ∙ changed_after c.args.self.now c.args.file c.args.length _ _
    (differs g a c.if-length-from.false)) (c.shrink.ensures.ok _)

pub returns-then-length-from-2-clause-some : goal.returns-then-length-from-2-clause-some
returns-then-length-from-2-clause-some g c =
    let a = (goal.at.returns-then-length-from-2-clause-some g c).After-length_at-from in
    on_ok c.shrink.result _ _ (λ e. (
      [],
      e
          ∙ ap (resized_to c.args.self.now c.args.file c.args.length []) (sym c.shrink.ensures.device)
          ∙ changed_after c.args.self.now c.args.file c.args.length _ _
          (differs g a c.if-length-from.false),
    )) (c.shrink.ensures.ok [])

pub returns-then-length-from-2-clause-refused : goal.returns-then-length-from-2-clause-refused
returns-then-length-from-2-clause-refused g c =
    let a = (goal.at.returns-then-length-from-2-clause-refused g c).After-length_at-from in
    let other = differs g a c.if-length-from.false in
    if_err c.shrink.result (λ why. why ≡ OutOfMemory) (RefusesSetLength c.args.self.now c.args.file c.args.length)
    (refuses_memory c.args.self.now c.args.file c.args.length
    (changed_reason c.args.self.now c.args.file c.args.length c.in_ok-admit_length.ensures.ok other
    (sym (c.if-is_broken.ensures ∙ ap (λ (p : PagerState g.row.D.Denot). p.write_outs.broken) c.self.view_is))
    ∙ room_free _ c.shrink.ensures.room) other) c.shrink.ensures.memory

pub returns-then-length-from-2-clause-read : goal.returns-then-length-from-2-clause-read
returns-then-length-from-2-clause-read g c =
    subst (IsOnlyRead g.D.Device c.args.self.now.device) (sym c.shrink.ensures.device)
    (read_nothing g.D.Device c.args.self.now.device g.met.D.Device.since_now)

pub returns-then-length-from-2-clause-carried : goal.returns-then-length-from-2-clause-carried
returns-then-length-from-2-clause-carried g c = ap g.D.Device.carried c.shrink.ensures.device

pub returns-then-length-from-2-clause-calls : goal.returns-then-length-from-2-clause-calls
returns-then-length-from-2-clause-calls g c small =
    let a = (goal.at.returns-then-length-from-2-clause-calls g c).After-length_at-from in
    let none = no_calls c.args.self.now c.args.file c.args.length
    (omega (arith, c.if-length-from-2.true, from_is g a)) in
    ap g.D.Device.calls_made c.shrink.ensures.device ∙ omega (arith, none)
