use Rattle.std.proofs.Common.{◌≡◌, ◌/◌, length, arith}
use Rattle.page_table.proofs.Marked.{HasMarks-blank}
use Rattle.page_table.proofs.Tables.{root_words, IsTable-root, table_of-root, blank_walk}
use Rattle.page_table.proofs.table.Table.new.Goals as goal

pub invariant_of-result : goal.invariant_of-result
invariant_of-result g c =
    let long : length c.resize.new.self.items ≡ 512 =
    omega (arith, c.in_ok-resize.ensures.len, c.resize.new.self.ok.0) in
    let blank = root_words c.new-words.result.items c.resize.new.self.items 512 _ c.new-words.ensures.items
    c.in_ok-resize.ensures.items in
    record {
      table = IsTable-root c.resize.new.self.items long blank;
      marks = HasMarks-blank c.resize.new.self.items c.resize-2.new.self.items c.resize-3.new.self.items
          (omega (arith, long, c.in_ok-resize-2.ensures.len, c.resize-2.new.self.ok.0))
          (omega (arith, long, c.in_ok-resize-3.ensures.len, c.resize-3.new.self.ok.0))
          (λ q. blank_walk c.resize.new.self.items long blank 2 (q / 512)) (root_words c.new-present.result.items
          c.resize-2.new.self.items 8 _ c.new-present.ensures.items c.in_ok-resize-2.ensures.items)
          (root_words c.new-in_use.result.items c.resize-3.new.self.items 1 _ c.new-in_use.ensures.items
          c.in_ok-resize-3.ensures.items);
    }

pub returns : goal.returns
returns g c =
    table_of-root c.resize.new.self.items (omega (arith, c.in_ok-resize.ensures.len, c.resize.new.self.ok.0))
    (root_words c.new-words.result.items c.resize.new.self.items 512 _ c.new-words.ensures.items
    c.in_ok-resize.ensures.items)
