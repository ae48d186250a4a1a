use Rattle.std.proofs.Common.{◌≡◌, ◌+◌, ◌++◌, ◌∷◌, [], ◌∙◌, ℕ, List, rules, ap, subst, arith, length, Option, IfSome}
use Rattle.std.proofs.Common.{length-append}
use Rattle.std.proofs.lemmas.List.{append-nil}
use Rattle.log_codec.specs.Log.{log_commit_blocks}
use Rattle.log_codec.specs.Commit.{LogDescriptor}
use Rattle.log_codec.specs.Chain.{IsChain}
use Rattle.log_recovery.specs.declared.found.FoundCommit.{FoundCommit}
use Rattle.log_recovery.specs.Reading.{chain_of}
use Rattle.log_recovery.specs.inside.Commit.{IsPlacedCommit, FindsNext}
use Rattle.log_recovery.proofs.Chained.{end_more, room_more, places_more, on_more}
use Rattle.log_recovery.proofs.OnlyReading.{reads_then}
use Rattle.log_recovery.proofs.reading.read_chain.Goals as goal

pub returns-in_default-clause-chain : goal.returns-in_default-clause-chain
returns-in_default-clause-chain g c = λ honest.
    let i = c.loop-commits.invariant in
    let bytes = g.D.Device.seen c.args.device.now in
    let start = c.args.start in
    let chain = chain_of c.loop-commits.commits.items in
    let N : List ℕ → Type 0 = λ l. FindsNext c.args.log.now start.epoch c.loop-commits.position c.loop-commits.number
    c.loop-commits.left l c.in_ok-next.next in
    let found = subst N i.read.same (c.in_ok-next.ensures.found (i.read.honest.1 honest)) in
    let E : Option (FoundCommit g.row.A.Denot) → Type 0 = λ next. FindsNext c.args.log.now start.epoch
    c.loop-commits.position c.loop-commits.number c.loop-commits.left bytes next in
    let on = i.on honest in
    let P : List LogDescriptor → Type 0 =
    λ l. IsChain c.args.log.now start.epoch start.position start.number c.args.log.now.ring l bytes in
    subst P (append-nil chain) (on.whole [] (subst E c.in_default.is found))

pub loop-commits-preserved : goal.loop-commits-preserved
loop-commits-preserved g c =
    let i = c.loop-commits.invariant in
    let e = c.in_ok-next.ensures in
    let bytes = g.D.Device.seen c.args.device.now in
    let start = c.args.start in
    let log = c.args.log.now in
    let commit = c.in-Some.commit in
    let cs = c.loop-commits.commits.items in
    let new = c.push.new.self.items in
    let pushed : new ≡ cs ++ commit ∷ [] = search rules in
    let S : Option (FoundCommit g.row.A.Denot) → Type 0 =
    λ next. IfSome next (IsPlacedCommit log c.loop-commits.position c.loop-commits.number c.loop-commits.left) in
    let E : Option (FoundCommit g.row.A.Denot) → Type 0 = λ next. FindsNext log start.epoch
    c.loop-commits.position c.loop-commits.number c.loop-commits.left (g.D.Device.seen c.loop-commits.device) next in
    let placed = subst S c.in-Some.is e.placed in
    let blocks : ℕ = commit.head + length c.deref-homes.result.now in
    let size : blocks ≡ log_commit_blocks (length commit.homes.items) =
    omega (arith, ap length c.deref-homes.ensures.value, placed.head) in
    record {
      read = reads_then i.read e.read;
      len = e.len ∙ i.len;
      faults = e.faults ∙ i.faults;
      position = end_more cs commit new blocks pushed size start.position c.loop-commits.position i.position;
      number = omega (arith, i.number, ap length pushed, length-append cs (commit ∷ []));
      room = omega (arith, i.room, size, placed.room);
      blocks = room_more cs commit new blocks pushed size c.loop-commits.left log.ring
          (omega (arith, size, placed.room)) i.blocks;
      placed = places_more cs commit new blocks pushed size log start.position c.loop-commits.position
          c.loop-commits.number c.loop-commits.left i.position i.placed placed;
      on = λ honest. on_more cs commit new blocks pushed size log start.epoch start.position start.number
          c.loop-commits.position c.loop-commits.number c.loop-commits.left bytes
          (g.D.Device.seen c.loop-commits.device) c.ring-ring.ensures.log c.requires.long i.read.same (i.on honest)
          (subst E c.in-Some.is (e.found (i.read.honest.1 honest)));
    }
