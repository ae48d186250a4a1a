use Rattle.std.proofs.Common.{◌≡◌, ◌+◌, ◌%◌, ℕ, length, refl, ap, subst}
use Rattle.log_codec.specs.Log.{IsLog, log_descriptor_blocks}
use Rattle.log_commits.specs.Commit.{records_in}
use Rattle.log_home.specs.Index.{find_in, recorded_or}
use Rattle.log_store.specs.declared.fault.StoreFault.TheVariants.{Commit}
use Rattle.log_store.specs.Store.{StoreValue}
use Rattle.log_store.proofs.Stores.{Committed, kept_by, commit_leaves, commit_over, has_noted, refused_commit}
use Rattle.log_store.proofs.Sound.{noted_as, sound_noted}
use Rattle.log_store.proofs.store.LogStore.commit.Goals.{After-note}
use Rattle.log_store.proofs.store.LogStore.commit.Goals as goal

module _ (g : _) (c : After-note g) where
  abbrev ring : ℕ
  ring = c.self.inside.tail.log.ring

  -- the commit's records are noted
  noted : (b : ℕ) → find_in c.note.new.self b ≡ recorded_or ring (find_in c.self.inside.index b)
      ((c.self.inside.tail.position + log_descriptor_blocks (length c.args.homes.now)) % ring)
      c.self.inside.tail.number c.args.homes.now b
  noted =
      noted_as c.self.inside.tail c.log-log.result c.position.result c.in-Some.head c.position_behind-records.result
      c.number-number.result c.args.homes.now c.self.inside.index c.admit.new.self c.note.new.self c.log-log.ensures
      c.position.ensures c.in-Some.ensures.some.0 c.position_behind-records.ensures.value c.number-number.ensures
      c.admit.ensures.same c.note.ensures

pub returns-in_default-clause-leaves : goal.returns-in_default-clause-leaves
returns-in_default-clause-leaves g c = λ contents honest over.
    refused_commit g.D.Device c.args.self.now contents c.args.homes.now (records_in c.args.homes.now c.args.room.now)
    c.args.device.now (g.met.D.Device.since_now c.args.device.now) over

pub returns-then-is_err-clause-leaves : goal.returns-then-is_err-clause-leaves
returns-then-is_err-clause-leaves g c = λ contents honest over.
    refused_commit g.D.Device c.args.self.now contents c.args.homes.now (records_in c.args.homes.now c.args.room.now)
    c.args.device.now (g.met.D.Device.since_now c.args.device.now) over

pub returns-in-Ok-clause-leaves : goal.returns-in-Ok-clause-leaves
returns-in-Ok-clause-leaves g c =
    commit_leaves g.D.Device c.self.view_is c.selection-select.ensures c.in-Ok.ensures.leaves

pub returns-in-Err-clause-leaves : goal.returns-in-Err-clause-leaves
returns-in-Err-clause-leaves g c =
    commit_leaves g.D.Device c.self.view_is c.selection-select.ensures c.in-Err.ensures.leaves

pub returns-in-Ok-clause-store : goal.returns-in-Ok-clause-store
returns-in-Ok-clause-store g c =
    commit_over g.D.Device c.self.view_is c.selection-select.ensures
    (g.met.D.Device.seen_is_left c.args.device.now) (record {
      tail = c.in-Ok.ensures.value;
      second = c.second_by-self-inside.ensures;
      stage = c.stage_by-self-inside.ensures;
      work = refl;
      records = noted g (goal.at.returns-in-Ok-clause-store g c).After-note;
      found = c.forget_freed.ensures;
    }) c.in-Ok.ensures.outside c.in-Ok.ensures.leaves c.in-Ok.ensures.commits

pub returns-then-is_err-clause-kept : goal.returns-then-is_err-clause-kept
returns-then-is_err-clause-kept g c = λ contents honest over other.
    kept_by g.D.Device c.self.view_is
    (record { tail = refl; second = refl; stage = refl; work = refl; found = c.admit.ensures.same }) refl contents over

pub returns-in-Err-clause-kept : goal.returns-in-Err-clause-kept
returns-in-Err-clause-kept g c = λ contents honest over other.
    let same = c.in-Err.ensures.keeps.unchanged (λ is. other (ap Commit is)) in
    kept_by g.D.Device c.self.view_is
    (record { tail = same.0; second = refl; stage = refl; work = refl; found = c.admit.ensures.same }) same.1 contents
    over

pub invariant_of-self-in-Ok : goal.invariant_of-self-in-Ok
invariant_of-self-in-Ok g c =
    let before : StoreValue = record {
      tail = c.self.inside.tail;
      second = c.self.inside.second;
      entries = c.self.inside.index;
      stage = c.self.inside.stage;
      work = c.self.inside.work;
    } in
    let after : StoreValue = record {
      tail = c.make.new.tail;
      second = c.second_by-self-inside.result;
      entries = c.forget_freed.new.index;
      stage = c.stage_by-self-inside.result;
      work = c.self.inside.work;
    } in
    let made : Committed g.D.Device before after c.note.new.self c.args.homes.now c.selection-select.result = record {
      tail = c.in-Ok.ensures.value;
      second = c.second_by-self-inside.ensures;
      stage = c.stage_by-self-inside.ensures;
      work = refl;
      records = noted g (goal.at.invariant_of-self-in-Ok g c).After-note;
      found = c.forget_freed.ensures;
    } in
    sound_noted before after c.args.homes.now (has_noted g.D.Device c.selection-select.ensures made)
    (subst IsLog c.log-log.ensures c.position_behind-records.ensures.log) c.in-Ok.ensures.may.rising c.self.invariant
