use Rattle.std.proofs.Common.{◌≡◌, ◌∙◌, ℕ, List, arith, ap, subst, sym, refl}
use Rattle.log_codec.specs.Log.{ring_bytes}
use Rattle.log_codec.specs.Commit.{LogDescriptor, IsLogDescriptor}
use Rattle.log_codec.specs.Broken.{BreaksLogRule}
use Rattle.page_entry.specs.declared.refusal.Refusal.{Refusal}
use Rattle.log_recovery.specs.Reading.{FailedOnce}
use Rattle.log_recovery.specs.inside.Commit.{RefusesHead, refusal_by}
use Rattle.log_recovery.proofs.Commits.{none_first, none_sized, refused_by, described_size}
use Rattle.log_recovery.proofs.OnlyReading.{no_fault}
use Rattle.log_recovery.proofs.commit.read_descriptor.Goals as goal

pub returns-in_default-clause-refused : goal.returns-in_default-clause-refused
returns-in_default-clause-refused g c = λ honest epoch d next.
    none_first c.args.log.now c.args.position c.args.number c.args.left c.args.first.now
    (g.D.Device.seen c.args.device.now) _ c.requires.log c.requires.long (c.requires.first honest)
    c.in_default.ensures.refused epoch d next

pub returns-then-head-count-clause-refused : goal.returns-then-head-count-clause-refused
returns-then-head-count-clause-refused g c = λ honest epoch d next.
    none_sized c.args.log.now c.args.position c.args.number c.args.left c.in-Ok.count c.args.first.now
    (g.D.Device.seen c.args.device.now) c.requires.log c.requires.long (c.requires.first honest)
    c.in-Ok.ensures.ok.3
    (λ room. omega (arith, room, c.if-head-count.true, c.in-Some.ensures.some.0, c.spare.ensures)) epoch d next

-- the descriptor that was decoded, and its size
pub returns-in-Ok-decode_descriptor-clause-placed : goal.returns-in-Ok-decode_descriptor-clause-placed
returns-in-Ok-decode_descriptor-clause-placed g c =
    let homes = c.in-Ok-decode_descriptor.homes.items in
    let d : LogDescriptor = record { number = c.args.number; homes = homes } in
    let P : List ℕ → Type 0 = λ l. IsLogDescriptor c.args.log.now d l in
    let is = subst P c.deref.ensures.value c.in-Ok-decode_descriptor.ensures.ok in
    let size = described_size c.args.log.now d c.in_ok-bytes.bytes.items c.args.first.now c.in-Some.head c.in-Ok.count
    c.requires.log is c.in_ok-bytes.ensures.size c.in_ok-bytes.ensures.begins c.in-Ok.ensures.ok.3 in
    record {
      position = refl;
      number = refl;
      head = size.0;
      logged = is.logged;
      room = omega (arith, size.0, size.1, c.if-head-count.false, c.spare.ensures);
    }

pub returns-in-Ok-decode_descriptor-clause-described : goal.returns-in-Ok-decode_descriptor-clause-described
returns-in-Ok-decode_descriptor-clause-described g c = λ honest.
    let homes = c.in-Ok-decode_descriptor.homes.items in
    let d : LogDescriptor = record { number = c.args.number; homes = homes } in
    let P : List ℕ → Type 0 = λ l. IsLogDescriptor c.args.log.now d l in
    let is = subst P c.deref.ensures.value c.in-Ok-decode_descriptor.ensures.ok in
    let size = described_size c.args.log.now d c.in_ok-bytes.bytes.items c.args.first.now c.in-Some.head c.in-Ok.count
    c.requires.log is c.in_ok-bytes.ensures.size c.in_ok-bytes.ensures.begins c.in-Ok.ensures.ok.3 in
    subst P (c.in_ok-bytes.ensures.head honest ∙ ap (λ n. ring_bytes c.args.log.now.ring
    (g.D.Device.seen c.args.device.now) c.args.position n) size.0) is

pub returns : goal.returns
returns g c =
    let bytes = g.D.Device.seen c.args.device.now in
    let broken = c.in-Err.broken in
    let old = g.D.Device.faults_met c.args.device.now in
    let new = g.D.Device.faults_met c.read_head.new.device in
    let P : List ℕ → Type 0 = λ l. BreaksLogRule c.args.log.now c.args.number l broken in
    let R : Refusal → Type 0 = λ r.
    RefusesHead c.args.log.now c.args.position c.args.number c.args.left bytes r in
    let F : Refusal → Type 0 = λ r. FailedOnce old new r in
    let same : refusal_by broken ≡ c.refusal_of.result = sym c.refusal_of.ensures in
    record {
      described = λ honest. tt;
      placed = tt;
      refused = λ honest. subst R same (refused_by c.args.log.now c.args.position c.args.number c.args.left
          c.in-Ok.count c.args.first.now bytes c.in_ok-bytes.bytes.items broken c.requires.log c.requires.long
          (c.requires.first honest) c.in-Ok.ensures.ok.3
          (c.in_ok-bytes.ensures.head honest ∙ ap (λ n. ring_bytes c.args.log.now.ring bytes c.args.position n)
          c.in-Some.ensures.some.0) (subst P c.deref.ensures.value c.in-Err.ensures.refused));
      read = c.read_head.ensures.read;
      faults = subst F same (no_fault old new broken c.in_ok-bytes.ensures.faults);
    }
