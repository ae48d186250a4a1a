use Rattle.std.proofs.Common.{◌≡◌, length, sym, ◌∙◌, ap, subst}
use Rattle.recovery.proofs.Public.{some_at}
use Rattle.volume_reading.proofs.Public.{file_at}
use Rattle.volume_files.proofs.copying.copy_named.Goals as goal

pub returns-in-None-clause-absent : goal.returns-in-None-clause-absent
returns-in-None-clause-absent g c = λ honest same.
    c.in-None.ensures.none (g.D.Device.seen c.args.device.now) (c.requires.found honest)

pub returns-in-Ok-copy_pages-clause-copied : goal.returns-in-Ok-copy_pages-clause-copied
returns-in-Ok-copy_pages-clause-copied g c = λ honest fair.
    let volume = c.args.volume.now in
    let seen = g.D.Device.seen c.args.device.now in
    let files = g.V.FoundFiles.files volume seen in
    let i = c.in-Some.file in
    let is = c.requires.found honest in
    let long = c.length-bytes.ensures.long seen is in
    let f = some_at files i (c.in-Some.ensures.listed seen is) in
    let bytes = file_at files i f.0 f.1 in
    let still = subst g.F.BlockFile.is_honest c.into_parts.ensures fair in
    let was = c.in-Ok-copy_pages.ensures.honest.0 still in
    let room : length (g.F.BlockFile.seen c.in-Ok.new.inner) ≡ g.V.FoundFiles.size volume i =
    c.in-Ok.ensures was ∙ c.length-bytes.ensures.value in
    record {
      number = i;
      file = f.0;
      there = f.1;
      named = c.in-Some.ensures.named seen f.0 is f.1;
      whole = ap g.F.BlockFile.seen c.into_parts.ensures ∙ c.in-Ok-copy_pages.ensures.copied honest was room ∙ bytes;
      counted = sym long ∙ ap length bytes;
    }
