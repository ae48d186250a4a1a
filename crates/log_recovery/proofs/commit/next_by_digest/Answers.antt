use Rattle.std.proofs.Common.{◌≡◌, ◌∙◌, sym, subst}
use Rattle.std.proofs.lemmas.Bool.{false≢true}
use Rattle.std.proofs.lemmas.Slice.Eq.{bytes_eq-Decides}
use Rattle.log_codec.specs.declared.sealing.Sealing.{Sealing}
use Rattle.log_codec.specs.Commit.{log_seal}
use Rattle.log_codec.specs.Chain.{LogEndsAt}
use Rattle.log_recovery.specs.Reading.{logged_of}
use Rattle.log_recovery.proofs.Commits.{records_there, found_there, none_sealed, digest_there}
use Rattle.log_recovery.proofs.commit.next_by_digest.Goals.{After-eq}
use Rattle.log_recovery.proofs.commit.next_by_digest.Goals as goal

-- the seal that was computed is that of the commit's records
seal_there : (g : _) (c : After-eq g) → g.D.Device.is_honest c.args.device.now
    → c.in_ok-seal-in-Ok.seal ≡ log_seal c.args.log.now.sealing c.args.epoch (logged_of c.in-Ok.commit)
    (records_there c.args.log.now c.args.position (logged_of c.in-Ok.commit) (g.D.Device.seen c.args.device.now))
seal_there g c honest =
    let commit = c.in-Ok.commit in
    let e = c.in-Ok.ensures in
    digest_there c.args.log.now c.args.key c.args.epoch c.args.position commit.position (logged_of commit)
    (g.D.Device.seen c.args.device.now) (g.D.Device.seen c.read_descriptor.new.device) c.in_ok-seal-in-Ok.seal
    c.requires.sealing e.placed.position e.read.same (c.in_ok-seal-in-Ok.ensures.seal (e.read.honest.1 honest))

pub returns-then-eq-clause-found : goal.returns-then-eq-clause-found
returns-then-eq-clause-found g c = λ honest.
    let bytes = g.D.Device.seen c.args.device.now in
    let commit = c.in-Ok.commit in
    let e = c.in-Ok.ensures in
    let seal = seal_there g (goal.at.returns-then-eq-clause-found g c).After-eq honest in
    let equal = (bytes_eq-Decides c.seal_at.result c.in_ok-seal-in-Ok.seal).0 (sym c.eq.ensures ∙ c.if-eq.true) in
    found_there c.args.log.now c.args.epoch c.args.position c.args.number c.args.left (logged_of commit)
    c.args.first.now bytes c.requires.log c.requires.long (c.requires.first honest) (e.described honest)
    (sym c.seal_at.ensures ∙ equal ∙ seal) e.placed.number e.placed.room

pub returns-else-eq-clause-found : goal.returns-else-eq-clause-found
returns-else-eq-clause-found g c = λ honest.
    let bytes = g.D.Device.seen c.args.device.now in
    let commit = c.in-Ok.commit in
    let e = c.in-Ok.ensures in
    let seal = seal_there g (goal.at.returns-else-eq-clause-found g c).After-eq honest in
    let decides = bytes_eq-Decides c.seal_at.result c.in_ok-seal-in-Ok.seal in
    let P : Sealing → Type 0 = λ s. LogEndsAt s c.args.log.now c.args.epoch c.args.position c.args.number c.args.left
    bytes in
    subst P (sym c.requires.sealing) (none_sealed c.args.log.now c.args.epoch c.args.position c.args.number c.args.left
    (logged_of commit) c.args.first.now bytes c.requires.log c.requires.long (c.requires.first honest)
    (e.described honest)
    (λ same. false≢true (sym c.if-eq.false ∙ c.eq.ensures ∙ decides.1 (c.seal_at.ensures ∙ same ∙ sym seal))))
