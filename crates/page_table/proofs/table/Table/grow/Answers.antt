use Rattle.std.proofs.Common.{◌≡◌, ◌≤◌, ℕ, ◌+◌, ◌*◌, ◌/◌, List, length, get_or, sym, ap, ◌∙◌, subst, arith}
use Rattle.std.proofs.lemmas.List.{with_items_is}
use Rattle.page_table.specs.Table.{TableState, HasGrown, GrowsOver}
use Rattle.page_table.specs.inside.Nodes.{needed, IsTree, table_of}
use Rattle.page_table.proofs.Tables.{GrowsOver-none, GrowsOver-linked, HasGrown-needed}
use Rattle.page_table.proofs.Tables.{needed-none, needed-alike, IsTree-alike, alike_with_zeros}
use Rattle.page_table.proofs.Marked.{HasMarks-extended, HasMarks-grown, Extends-none}
use Rattle.page_table.proofs.table.Table.grow.Given as given
use Rattle.page_table.proofs.table.Table.grow.Goals.{After-needed-count}
use Rattle.page_table.proofs.table.Table.grow.Goals as goal

-- nothing is needed
pub returns-then-count-eq0-clause-ok : goal.returns-then-count-eq0-clause-ok
returns-then-count-eq0-clause-ok g c =
    let range = c.args.range in
    let none : needed c.self.inside.words.items range.start range.end ≡ 0 =
    ap (λ (ws : List ℕ). needed ws range.start range.end) (sym c.deref.ensures.value)
    ∙ sym c.needed-count.ensures.value
    ∙ c.if-count-eq0.true in
    GrowsOver-none range.start range.end c.args.self.now (subst (HasGrown range.start range.end) c.self.view_is
    (HasGrown-needed c.self.inside.words.items range.start range.end (omega arith) none))

-- where each page of the range has grown, none is needed
none_needed : (g : given.Over) (c : After-needed-count g)
    → HasGrown c.args.range.start c.args.range.end c.args.self.now → c.needed-count.result ≡ 0
none_needed g c all =
    let range = c.args.range in
    let none = needed-none c.self.inside.words.items range.start range.end (omega arith)
    (subst (HasGrown range.start range.end) (sym c.self.view_is) all) in
    c.needed-count.ensures.value ∙ ap (λ (ws : List ℕ). needed ws range.start range.end) c.deref.ensures.value ∙ none

-- something is needed, so not each page of the range has grown
pub returns-in_default-clause-enough : goal.returns-in_default-clause-enough
returns-in_default-clause-enough g c = λ all.
    let none = none_needed g (goal.at.returns-in_default-clause-enough g c).After-needed-count all in
    absurd (let some = c.if-count-eq0.false in omega arith)

-- the nodes that are made are blank
alike : (g : given.Over) (c : goal.After-deref_mut g) (i : ℕ)
    → get_or c.deref_mut.result.now i 0 ≡ get_or c.self.inside.words.items i 0
alike g c i =
    ap (λ (l : List ℕ). get_or l i 0) c.deref_mut.ensures.value
    ∙ alike_with_zeros c.self.inside.words.items c.resize.new.self.items
    ((c.len.result / 512 + c.needed-count.result) * 512) _
    (omega (arith, c.len.ensures, c.self.inside.words.ok.0, c.self.invariant.table.whole))
    c.in-Ok-resize.ensures.items i

pub link_pages-requires-clause-tree : goal.link_pages-requires-clause-tree
link_pages-requires-clause-tree g c =
    let used : length c.self.inside.words.items / 512 ≡ c.len.result / 512 =
    omega (arith, c.len.ensures, c.self.inside.words.ok.0) in
    subst (IsTree c.deref_mut.result.now) used (IsTree-alike c.self.inside.words.items c.deref_mut.result.now
    (length c.self.inside.words.items / 512) (alike g c) (omega (
      arith,
      ap length c.deref_mut.ensures.value,
      c.in-Ok-resize.ensures.len,
      c.resize.new.self.ok.0,
      c.len.ensures,
      c.self.inside.words.ok.0,
      c.self.invariant.table.whole,
    )) c.self.invariant.table.tree)

pub link_pages-requires-clause-room : goal.link_pages-requires-clause-room
link_pages-requires-clause-room g c =
    let range = c.args.range in
    let count : needed c.deref_mut.result.now range.start range.end ≡ c.needed-count.result =
    needed-alike c.self.inside.words.items c.deref_mut.result.now range.start range.end (alike g c)
    ∙ ap (λ (ws : List ℕ). needed ws range.start range.end) (sym c.deref.ensures.value)
    ∙ sym c.needed-count.ensures.value in
    omega (arith, count, ap length c.deref_mut.ensures.value, c.in-Ok-resize.ensures.len, c.resize.new.self.ok.0)

-- every node is made, and then linked
pub returns-clause-ok : goal.returns-clause-ok
returns-clause-ok g c =
    let range = c.args.range in
    let new = c.link_pages.new.words in
    let items = with_items_is c.resize.new.self new
    (omega (arith, c.link_pages.ensures.size, ap length c.deref_mut.ensures.value, c.deref_mut.ensures.len)) in
    let same =
    λ (i : ℕ). ap (λ (l : List ℕ). get_or l i 0) c.deref_mut.ensures.value ∙ alike_with_zeros c.self.inside.words.items
    c.resize.new.self.items ((c.len.result / 512 + c.needed-count.result) * 512) _ (omega (
      arith,
      c.len.ensures,
      c.self.inside.words.ok.0,
      c.self.invariant.table.whole,
    )) c.in-Ok-resize.ensures.items i in
    let over = GrowsOver-linked range.start range.end c.self.inside.words.items c.deref_mut.result.now new
    (omega arith) same c.link_pages.ensures in
    let grown = subst (λ (t : TableState). GrowsOver range.start range.end t (table_of new)) c.self.view_is over in
    subst (λ (t : TableState). GrowsOver range.start range.end c.args.self.now t) (sym (ap table_of items)) grown

pub returns-clause-enough : goal.returns-clause-enough
returns-clause-enough g c = λ all.
    let none = none_needed g (goal.at.returns-clause-enough g c).After-needed-count all in
    absurd (let some = c.if-count-eq0.false in omega arith)

-- where room for marks is refused, there may be more of it than before
pub invariant_of-self-in_default-extend : goal.invariant_of-self-in_default-extend
invariant_of-self-in_default-extend g c =
    let ws = c.self.inside.words.items in
    let in_use = c.self.inside.in_use.items in
    rw c.in_default-extend.ensures.err (record {
      table = c.self.invariant.table;
      marks = HasMarks-extended ws c.self.inside.present.items c.extend.new.words.items in_use in_use _ 0
          c.in-Ok.ensures.ok (Extends-none 0 in_use (omega arith)) c.self.invariant.marks;
    })

pub returns-in_default-extend-clause-enough : goal.returns-in_default-extend-clause-enough
returns-in_default-extend-clause-enough g c = λ all.
    let none = none_needed g (goal.at.returns-in_default-extend-clause-enough g c).After-needed-count all in
    absurd (let some = c.if-count-eq0.false in omega arith)

pub invariant_of-self-in_default-resize : goal.invariant_of-self-in_default-resize
invariant_of-self-in_default-resize g c =
    let ws = c.self.inside.words.items in
    rw c.in_default-resize.ensures.items (record {
      table = c.self.invariant.table;
      marks = HasMarks-extended ws c.self.inside.present.items c.extend.new.words.items c.self.inside.in_use.items
          c.extend-2.new.words.items _ _ c.in-Ok.ensures.ok c.in-Ok-extend.ensures.ok c.self.invariant.marks;
    })

pub returns-in_default-resize-clause-enough : goal.returns-in_default-resize-clause-enough
returns-in_default-resize-clause-enough g c = λ all.
    let none = none_needed g (goal.at.returns-in_default-resize-clause-enough g c).After-needed-count all in
    absurd (let some = c.if-count-eq0.false in omega arith)

-- the new nodes have no marks
pub invariant_of-self-2 : goal.invariant_of-self-2
invariant_of-self-2 g c =
    let ws = c.self.inside.words.items in
    let more = c.deref_mut.result.now in
    let new = c.link_pages.new.words in
    let present = c.extend.new.words.items in
    let in_use = c.extend-2.new.words.items in
    let items = with_items_is c.resize.new.self new
    (omega (arith, c.link_pages.ensures.size, ap length c.deref_mut.ensures.value, c.deref_mut.ensures.len)) in
    let same = λ (i : ℕ). ap (λ (l : List ℕ). get_or l i 0) c.deref_mut.ensures.value
    ∙ alike_with_zeros ws c.resize.new.self.items ((c.len.result / 512 + c.needed-count.result) * 512) _ (omega (
      arith,
      c.len.ensures,
      c.self.inside.words.ok.0,
      c.self.invariant.table.whole,
    )) c.in-Ok-resize.ensures.items i in
    let long : length new ≡ (c.len.result / 512 + c.needed-count.result) * 512 = omega (
      arith,
      c.link_pages.ensures.size,
      ap length c.deref_mut.ensures.value,
      c.in-Ok-resize.ensures.len,
      c.resize.new.self.ok.0,
    ) in
    let longer : length ws ≤ length new =
    omega (arith, long, c.len.ensures, c.self.inside.words.ok.0, c.self.invariant.table.whole) in
    let marks = HasMarks-extended ws c.self.inside.present.items present c.self.inside.in_use.items in_use _ _
    c.in-Ok.ensures.ok c.in-Ok-extend.ensures.ok c.self.invariant.marks in
    rw items (record {
      table = c.link_pages.ensures.table;
      marks = HasMarks-grown c.args.range.start c.args.range.end ws more new present in_use
          same longer c.link_pages.ensures marks (omega (arith, long, c.in-Ok.ensures.ok.long))
          (omega (arith, long, c.in-Ok-extend.ensures.ok.long));
    })
