use Rattle.std.proofs.Common.{rules, ◌≡◌, ◌<◌, ◌*◌, ap, sym, ◌∙◌, arith}
use Rattle.std.proofs.lemmas.List.{ext_get_or}
use Rattle.recovery.specs.Volume.{bytes_of}
use Rattle.recovery.proofs.Public.{read_then}
use Rattle.volume_reading.specs.Reading.{part_of, page_count}
use Rattle.volume_reading.proofs.PageCopy.{copied_more}
use Rattle.volume_reading.proofs.pages.copy_pages.Goals as goal

pub loop-page-preserved : goal.loop-page-preserved
loop-page-preserved g c =
    let before = c.loop-page.invariant in
    let volume = c.args.volume.now in
    let file = c.args.file in
    let page = c.loop-page.page in
    let n = c.length-bytes.result in
    let seen = g.D.Device.seen c.args.device.now in
    let wrote = c.in_default-write_all_at.ensures in record {
      read = read_then before.read c.in_default.ensures.read;
      faults = c.in_default.ensures.kept.cause ∙ before.faults;
      honest = (λ h. before.honest.0 (wrote.honest.0 h), λ h. wrote.honest.1 (before.honest.1 h));
      size = λ fair. wrote.len (before.honest.1 fair) ∙ before.size fair;
      each = λ honest fair room i low within.
          let bytes = bytes_of (g.V.FoundFiles.files volume seen) file in
          let index = c.length-bytes.ensures.value in
          let long = c.length-bytes.ensures.long seen (c.requires.found honest) in
          let is = c.in_default.ensures.page (before.read.honest.1 honest)
          ∙ ap (λ bytes. part_of (bytes_of (g.V.FoundFiles.files volume bytes) file) page) before.read.same in
          let below : 4096 * page < n = search rules in
          copied_more bytes (g.F.BlockFile.seen c.loop-page.out) (g.F.BlockFile.seen c.write_all_at.new.self)
          c.read_page.new.part page n long (before.size fair ∙ room ∙ sym index) below is
          (wrote.written (before.honest.1 fair))
          (λ k lower inside. before.each honest fair room k lower (omega (arith, inside, index))) i low
          (omega (arith, within, index));
    }

pub returns-clause-copied : goal.returns-clause-copied
returns-clause-copied g c = λ honest fair room.
    let volume = c.args.volume.now in
    let file = c.args.file in
    let n = c.length-bytes.result in
    let seen = g.D.Device.seen c.args.device.now in
    let index = c.length-bytes.ensures.value in
    let long = c.length-bytes.ensures.long seen (c.requires.found honest) in
    let all : c.loop-page.page ≡ page_count n = search rules in
    let size = c.loop-page.invariant.size fair in
    ext_get_or 0 (g.F.BlockFile.seen c.loop-page.out) (bytes_of (g.V.FoundFiles.files volume seen) file)
    (omega (arith, size, room, index, long))
    (λ i low. c.loop-page.invariant.each honest fair room i (omega (arith, low, size, room, index, all))
    (omega (arith, low, size, room)))
