use Rattle.std.proofs.Common.{rules, ◌≡◌, ◌-◌, ◌*◌, take, slice_index, sym, ap, subst, ◌∙◌, arith}
use Rattle.volume_codec.specs.Layout.{block_at}
use Rattle.log_codec.specs.Log.{LogValue}
use Rattle.log_codec.specs.Chain.{newest_or}
use Rattle.log_recovery.specs.Reading.{IsFoundLog, chain_of}
use Rattle.volume_reading.specs.Logged.{logged_home}
use Rattle.volume_reading.proofs.Homes.{page_below}
use Rattle.volume_reading.proofs.LoggedFiles.{length_within, page_of_file}
use Rattle.volume_reading.proofs.files.LoggedVolumeFoundFiles.block_of.Goals as goal

pub overflow_cast-page : goal.overflow_cast-page
overflow_cast-page g c =
    let volume = c.args.self.now in
    let within = length_within volume c.requires.sound.lengths c.args.file c.requires.there in
    let below = page_below volume.table c.args.file c.args.page c.requires.there
    (omega (arith, within, c.requires.within)) in
    omega (arith, below, c.log-log.ensures.log.few_blocks)

pub home_of-home-requires-clause-page : goal.home_of-home-requires-clause-page
home_of-home-requires-clause-page g c =
    let within = length_within c.args.self.now c.requires.sound.lengths c.args.file c.requires.there in
    omega (arith, within, c.requires.within)

pub newest_block-requires-clause-found : goal.newest_block-requires-clause-found
newest_block-requires-clause-found g c =
    let P : LogValue → Type 0 = λ l. IsFoundLog l c.args.self.now.log in
    subst P (sym c.log-log.ensures.value) c.requires.sound.log

pub newest_block-requires-clause-home : goal.newest_block-requires-clause-home
newest_block-requires-clause-home g c =
    omega (arith, c.home_of-home.ensures.within, ap (λ (l : LogValue). l.blocks) c.log-log.ensures.value)

pub returns-clause-within : goal.returns-clause-within
returns-clause-within g c =
    omega (arith, c.newest_block.ensures.within, ap (λ (l : LogValue). l.blocks) c.log-log.ensures.value)

pub returns-clause-page : goal.returns-clause-page
returns-clause-page g c = λ bytes is.
    let volume = c.args.self.now in
    let left = slice_index volume.lengths.items c.args.file - 4096 * c.args.page in
    let chain = chain_of volume.log.commits.items in
    let home : c.home_of-home.result ≡ logged_home volume.table c.args.file c.args.page = search rules in
    let block : c.newest_block.result ≡ newest_or volume.table.ring (logged_home volume.table c.args.file c.args.page)
    volume.log.start.position chain (logged_home volume.table c.args.file c.args.page) =
    c.newest_block.ensures.value
    ∙ ap (λ (l : LogValue). newest_or l.ring c.home_of-home.result volume.log.start.position chain
    c.home_of-home.result) c.log-log.ensures.value
    ∙ ap (λ h. newest_or volume.table.ring h volume.log.start.position chain h) home in
    page_of_file volume bytes is c.args.file c.requires.there c.args.page c.requires.within
    ∙ ap (λ b. take left (block_at bytes b)) (sym block)
