use Rattle.std.proofs.Common.{◌≡◌, ℕ, Bool, List, ◌+◌, ◌<◌, length, take, sym, subst, ◌∙◌, arith}
use Rattle.std.specs.Prelude.{min, slice_get}
use Rattle.std.proofs.lemmas.Option.{slice_get_within}
use Rattle.volume_codec.specs.Layout.{block_at}
use Rattle.log_codec.specs.Commit.{LogDescriptor}
use Rattle.log_commits.specs.Behind.{HasCommits, LeavesCommits, MayCopyHome}
use Rattle.log_commits.proofs.Public.{leaves_as_before, length-block}
use Rattle.log_home.specs.Index.{IsIndexOf}
use Rattle.log_home.specs.Work.{HomeWorkValue, AreHome}
use Rattle.log_home.proofs.Chained.{logged_by}
use Rattle.log_home.proofs.Steps.{next_is, skipped_next, copied_more}
use Rattle.log_home.proofs.work.HomeWork.step.Goals.{After-copy_home}
use Rattle.log_home.proofs.work.HomeWork.step.Goals as goal

-- a copy leaves the log with these commits
leaves_copied : (g : _) (c : After-copy_home g) (second : Bool) (contents : ℕ → List ℕ) (chain : List LogDescriptor)
    → g.D.Device.is_honest c.args.device.now
    → IsIndexOf c.args.tail.now.log c.args.tail.now.start.position chain c.args.index.now
    → HasCommits g.D.Device second c.args.tail.now contents chain c.args.device.now
    → LeavesCommits g.D.Device second c.args.tail.now contents chain c.args.device.now c.copy_home.new.device
leaves_copied g c second contents chain honest index held =
    let t = c.args.tail.now in
    let w : HomeWorkValue = c.args.self.now in
    let home = c.in-Some.home in
    let copy = next_is w.oldest (slice_get w.homes w.done) c.args.index.now home c.in-Some.newest
    (sym c.in-Some.ensures) in
    c.copy_home.ensures.leaves second contents chain honest
    (logged_by t.log.ring t.start.position chain home c.in-Some.newest (sym (index home) ∙ copy.1)) held

pub returns-in-None-clause-leaves : goal.returns-in-None-clause-leaves
returns-in-None-clause-leaves g c = λ second contents chain honest index held.
    leaves_as_before g.D.Device c.args.tail.now contents second chain c.args.device.now held
    (g.met.D.Device.since_now c.args.device.now)

pub returns-in_err-copy_home-in-Some-clause-leaves : goal.returns-in_err-copy_home-in-Some-clause-leaves
returns-in_err-copy_home-in-Some-clause-leaves g c =
    leaves_copied g (goal.at.returns-in_err-copy_home-in-Some-clause-leaves g c).After-copy_home

pub returns-in_ok-copy_home-in-Some-clause-leaves : goal.returns-in_ok-copy_home-in-Some-clause-leaves
returns-in_ok-copy_home-in-Some-clause-leaves g c =
    leaves_copied g (goal.at.returns-in_ok-copy_home-in-Some-clause-leaves g c).After-copy_home

pub returns-in-None-clause-home : goal.returns-in-None-clause-home
returns-in-None-clause-home g c = λ second contents ds younger honest holds are index before.
    let w : HomeWorkValue = c.args.self.now in
    let P : HomeWorkValue → Type 0 = λ v. AreHome c.args.tail.now.log contents ds younger (take v.done w.homes)
    (g.D.Device.seen c.args.device.now) in
    subst P (sym c.pass.ensures) (skipped_next c.args.tail.now contents second ds younger c.args.index.now index
    w.homes w.done (g.D.Device.seen c.args.device.now) w.oldest holds are (sym c.in-None.ensures) before)

pub returns-in_ok-copy_home-in-Some-clause-home : goal.returns-in_ok-copy_home-in-Some-clause-home
returns-in_ok-copy_home-in-Some-clause-home g c = λ second contents ds younger honest holds are index before.
    let t = c.args.tail.now in
    let w : HomeWorkValue = c.args.self.now in
    let old = g.D.Device.seen c.args.device.now in
    let new = g.D.Device.seen c.copy_home.new.device in
    let home = c.in-Some.home in
    let n = c.in-Some.newest in
    let copy = next_is w.oldest (slice_get w.homes w.done) c.args.index.now home n (sym c.in-Some.ensures) in
    let may : MayCopyHome t n.block home = c.in_ok-copy_home-in-Some.ensures.may in
    let size : length (block_at old n.block) ≡ 4096 =
    length-block old n.block (omega (arith, may.most, may.is_home.low, may.is_home.high, c.requires.long)) in
    let P : HomeWorkValue → Type 0 = λ v. AreHome t.log contents ds younger (take v.done w.homes) new in
    let Q : ℕ → Type 0 = λ k. AreHome t.log contents ds younger (take k w.homes) new in
    let lt : w.done < length w.homes = slice_get_within w.homes w.done home copy.0 in
    let most : w.done + 1 ≡ min (w.done + 1) (length w.homes) = omega (arith, lt) in
    subst P (sym c.pass-in-Some.ensures) (subst Q most
    (copied_more t contents second ds younger c.args.index.now index w.homes w.done old new home n holds copy.0 copy.1
    size (c.in_ok-copy_home-in-Some.ensures.copied honest) before))
