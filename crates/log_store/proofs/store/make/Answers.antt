use Rattle.std.proofs.Common.{◌++◌, List, Option, None, sym, subst}
use Rattle.std.specs.Prelude.{OnOk, is_ok}
use Rattle.log_codec.specs.Commit.{LogDescriptor}
use Rattle.log_commits.specs.declared.behind.OldCommits.{OldCommits}
use Rattle.log_commits.specs.Commit.{records_in}
use Rattle.log_store.specs.Store.{IsSelectable}
use Rattle.log_store.proofs.Stores.{Commits, Then}
use Rattle.log_store.proofs.store.make.Goals as goal

pub returns-in-None-clause-leaves : goal.returns-in-None-clause-leaves
returns-in-None-clause-leaves g c =
    let records = records_in c.args.homes.now c.args.room.now in
    subst (λ (o : Option OldCommits). Commits g.D.Device c.args.second c.args.tail.now o c.args.homes.now records
    (is_ok c.commit.result) c.args.device.now c.commit.new.device) (sym c.in-None.is)
    (λ contents ds younger honest held may.
    c.commit.ensures.leaves contents honest (λ x left. (held x left).held))

pub returns-in-None-clause-commits : goal.returns-in-None-clause-commits
returns-in-None-clause-commits g c = λ contents ds younger honest held.
    let t = c.args.tail.now in
    let Q : Option OldCommits → List LogDescriptor → Type 0 = λ o l. OnOk c.commit.result (Then g.D.Device
    c.args.second t o c.args.homes.now (records_in c.args.homes.now c.args.room.now) contents l c.commit.new.device) in
    subst (λ (o : Option OldCommits). IsSelectable g.D.Device c.args.second t contents ds younger o c.args.device.now
    → Q o younger) (sym c.in-None.is) (λ none. subst (λ (l : List LogDescriptor). Q None (l ++ younger)) none
    (c.commit.ensures.commits c.args.second contents (ds ++ younger) honest held))

pub returns-in-Some-clause-commits : goal.returns-in-Some-clause-commits
returns-in-Some-clause-commits g c = λ contents ds younger honest held.
    let records = records_in c.args.homes.now c.args.room.now in
    subst (λ (o : Option OldCommits).
    IsSelectable g.D.Device c.args.second c.args.tail.now contents ds younger o c.args.device.now
    → OnOk c.commit_selecting.result (Then g.D.Device c.args.second c.args.tail.now o c.args.homes.now records contents
    younger c.commit_selecting.new.device)) (sym c.in-Some.is)
    (λ may. c.commit_selecting.ensures.commits contents ds younger honest held may.0 may.1)
