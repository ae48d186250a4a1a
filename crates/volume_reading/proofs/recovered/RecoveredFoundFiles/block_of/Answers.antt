use Rattle.std.proofs.Common.{rules, ◌≡◌, ◌+◌, ap, arith}
use Rattle.volume_codec.specs.Layout.{GeometryValue}
use Rattle.volume_codec.specs.Super.{first_home_of}
use Rattle.volume_codec.specs.Recovery.{recovered_block}
use Rattle.volume_reading.proofs.FilesFound.{page_within, page_of_file}
use Rattle.volume_reading.proofs.recovered.RecoveredFoundFiles.block_of.Goals as goal

pub overflow_cast-home : goal.overflow_cast-home
overflow_cast-home g c =
    let home = page_within _ c.args.self.now c.args.file c.args.page c.self.view_is c.self.invariant c.requires.there
    c.requires.within in
    omega (arith, home.0, home.1)

pub overflow_add-home : goal.overflow_add-home
overflow_add-home g c =
    let home = page_within _ c.args.self.now c.args.file c.args.page c.self.view_is c.self.invariant c.requires.there
    c.requires.within in
    omega (arith, c.first_home.ensures, home.0, home.1)

pub find_block-requires-clause-within : goal.find_block-requires-clause-within
find_block-requires-clause-within g c =
    let home = page_within _ c.args.self.now c.args.file c.args.page c.self.view_is c.self.invariant c.requires.there
    c.requires.within in
    omega (arith, c.first_home.ensures, ap (λ (h : GeometryValue). h.blocks) c.geometry.ensures.value, home.0)

pub returns-clause-page : goal.returns-clause-page
returns-clause-page g c = λ bytes is.
    let volume = c.args.self.now in
    let at : c.find_block.result ≡ recovered_block volume.table.slots volume.batches
    (first_home_of volume.table c.args.file + c.args.page) = search rules in
    page_of_file volume bytes is c.args.file c.requires.there c.args.page c.find_block.result c.requires.within at
