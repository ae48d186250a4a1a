use Rattle.std.proofs.Common.{◌∙◌, ap, arith}
use Rattle.volume_codec.specs.Super.{SuperValue, first_home_of}
use Rattle.log_codec.specs.Log.{LogValue}
use Rattle.volume_reading.proofs.Homes.{page_below}
use Rattle.volume_reading.proofs.log_pages.home_of.Goals as goal

pub overflow_add-result : goal.overflow_add-result
overflow_add-result g c =
    let below = page_below c.args.volume.now.table c.args.file c.args.page c.requires.there c.requires.page in
    let first = c.first_home.ensures ∙ ap (λ (t : SuperValue). first_home_of t c.args.file) c.table-table.ensures in
    let ring = c.ring.ensures.value ∙ ap (λ (l : LogValue). l.ring) c.log-log.ensures.value in
    omega (arith, below, first, ring, c.log-log.ensures.log.few_blocks)

pub overflow_add-result-2 : goal.overflow_add-result-2
overflow_add-result-2 g c =
    let below = page_below c.args.volume.now.table c.args.file c.args.page c.requires.there c.requires.page in
    let first = c.first_home.ensures ∙ ap (λ (t : SuperValue). first_home_of t c.args.file) c.table-table.ensures in
    let ring = c.ring.ensures.value ∙ ap (λ (l : LogValue). l.ring) c.log-log.ensures.value in
    omega (arith, below, first, ring, c.log-log.ensures.log.few_blocks)

pub overflow_add-result-3 : goal.overflow_add-result-3
overflow_add-result-3 g c =
    let below = page_below c.args.volume.now.table c.args.file c.args.page c.requires.there c.requires.page in
    let first = c.first_home.ensures ∙ ap (λ (t : SuperValue). first_home_of t c.args.file) c.table-table.ensures in
    let ring = c.ring.ensures.value ∙ ap (λ (l : LogValue). l.ring) c.log-log.ensures.value in
    omega (arith, below, first, ring, c.log-log.ensures.log.few_blocks)

pub returns-clause-within : goal.returns-clause-within
returns-clause-within g c =
    let below = page_below c.args.volume.now.table c.args.file c.args.page c.requires.there c.requires.page in
    let first = c.first_home.ensures ∙ ap (λ (t : SuperValue). first_home_of t c.args.file) c.table-table.ensures in
    let ring = c.ring.ensures.value ∙ ap (λ (l : LogValue). l.ring) c.log-log.ensures.value in
    omega (arith, below, first, ring)
