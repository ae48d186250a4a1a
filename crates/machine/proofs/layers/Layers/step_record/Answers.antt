use Rattle.machine.proofs.Names.{◌≡◌, ◌<◌, ◌≤◌, ◌-◌, ◌*◌, List, length, get_or, true, sym, ap, subst, ◌∙◌, arith}
use Rattle.machine.proofs.Names.{FilePage, is_in_memory, next_work, length_of, next_page, bytes_at_mark, state_in}
use Rattle.machine.proofs.code.Records.{is_next_page, whole_record}
use Rattle.machine.proofs.layers.Layers.step_record.Goals.{After-frozen}
use Rattle.machine.proofs.layers.Layers.step_record.Goals as goal

pub bounds-frozen-0 : goal.bounds-frozen-0
bounds-frozen-0 g c =
    subst (λ (pages : List FilePage). 0 < length pages) (sym c.frozen.ensures.frozen)
    (is_next_page (state_in c.args.self.now) c.requires.ready.sound c.requires.record).some

pub file_length-requires-clause-there : goal.file_length-requires-clause-there
file_length-requires-clause-there g c =
    subst (λ (pages : List FilePage). (get_or pages 0 (record { file = 0; page = 0 })).file
    < length c.args.self.now.table.files) (sym c.frozen.ensures.frozen)
    (is_next_page (state_in c.args.self.now) c.requires.ready.sound c.requires.record).file.there

pub overflow_mul-from : goal.overflow_mul-from
overflow_mul-from g c =
    let first : List FilePage → FilePage = λ pages. get_or pages 0 (record { file = 0; page = 0 }) in
    let pages = c.frozen.ensures.frozen in
    let file = ap (λ (x : List FilePage). (first x).file) pages in
    let page = ap (λ (x : List FilePage). (first x).page) pages in
    let inside = (is_next_page (state_in c.args.self.now) c.requires.ready.sound c.requires.record).file.inside in
    let length_is = c.file_length.ensures in
    let same = ap (λ n. get_or c.args.self.now.lengths.items n 0) file in
    omega (arith, c.from.ensures, page, inside, length_is, same, c.file_length.type_inv)

-- the first frozen page is in memory
page_there : (g : _) (c : After-frozen g)
    → is_in_memory c.args.self.now.frames (get_or c.frozen.result.now 0 (record { file = 0; page = 0 })) ≡ true
page_there g c =
    subst (λ (pages : List FilePage).
    is_in_memory c.args.self.now.frames (get_or pages 0 (record { file = 0; page = 0 })) ≡ true)
    (sym c.frozen.ensures.frozen)
    (is_next_page (state_in c.args.self.now) c.requires.ready.sound c.requires.record).there

pub bytes_at_mark-requires-clause-there : goal.bytes_at_mark-requires-clause-there
bytes_at_mark-requires-clause-there g c =
    page_there g (goal.at.bytes_at_mark-requires-clause-there g c).After-frozen

pub step_with-requires-clause-there : goal.step_with-requires-clause-there
step_with-requires-clause-there g c = page_there g (goal.at.step_with-requires-clause-there g c).After-frozen

pub step_with-requires-clause-bytes : goal.step_with-requires-clause-bytes
step_with-requires-clause-bytes g c =
    let s = state_in c.args.self.now in
    let first : List FilePage → FilePage = λ pages. get_or pages 0 (record { file = 0; page = 0 }) in
    let pages = c.frozen.ensures.frozen in
    let file = ap (λ (x : List FilePage). (first x).file) pages in
    let page = ap (λ (x : List FilePage). (first x).page) pages in
    let length_is = c.file_length.ensures in
    let same = ap (λ n. get_or c.args.self.now.lengths.items n 0) file in
    let covered : 4096 ≤ length_of s (next_page s).file - 4096 * (next_page s).page =
    omega (arith, c.from.ensures, page, length_is, same, c.saturating_sub-left.ensures, c.if-left-ge-PAGE.true) in
    ap (λ (x : List FilePage). next_work s.write_outs (bytes_at_mark s.hardware.memory (first x))) pages
    ∙ ap (next_work s.write_outs) (whole_record s c.requires.ready.sound c.requires.record
    (is_next_page s c.requires.ready.sound c.requires.record).there covered)
