use Rattle.std.proofs.Common.{ℕ, ◌≡◌, List, Option, Some, sym, ap, ◌∙◌, subst, arith}
use Rattle.std.proofs.lemmas.List.{with_items_is}
use Rattle.spaces.specs.declared.change.Change.{Change}
use Rattle.spaces.specs.Spaces.{Spaces}
use Rattle.shootdown.specs.declared.lock.Lock.{Lock}
use Rattle.shootdown.specs.Processors.{Processor}
use Rattle.shootdown.specs.Shootdown.{ShootdownState, begun_from, begun, IsShootdown}
use Rattle.shootdown.proofs.ShootdownLaws.{IsShootdown-begun, is_there_below, admitted}
use Rattle.shootdown.proofs.shootdown.Shootdown.begin.Goals as goal

-- the new state, where the processors are told of the change
new_is : (told processors : List Processor) (lock : Option Lock) (s : ShootdownState) (p : ℕ) (spaces : Spaces)
    (change : Change) → told ≡ begun_from 0 p spaces change processors
    → record { processors = processors; lock = lock } ≡ s
    → record { processors = told; lock = Some (record { holder = p; change = change }) } ≡ begun s p spaces change
new_is told processors lock s p spaces change is view_is =
    ap with_processors is ∙ ap (λ (s : ShootdownState). begun s p spaces change) view_is
  where
    with_processors : List Processor → ShootdownState
    with_processors xs = record { processors = xs; lock = Some (record { holder = p; change = change }) }

pub invariant_of-self : goal.invariant_of-self
invariant_of-self g c =
    let old = c.args.self.now in
    let p = c.args.p in
    let spaces = c.args.spaces.now.map in
    let processors =
    with_items_is c.self.inside.processors c.begin_change.new.processors (omega arith)
    ∙ c.begin_change.ensures
    ∙ ap (begun_from 0 p spaces c.args.change) c.deref_mut.ensures.value in
    let new = new_is _ c.self.inside.processors.items c.self.inside.lock c.args.self.now p spaces c.args.change
    processors c.self.view_is in
    let is : IsShootdown old = subst IsShootdown c.self.view_is c.self.invariant in
    let free = admitted old p c.requires.free in
    subst IsShootdown (sym new) (IsShootdown-begun old p spaces c.args.change is (is_there_below old p free.0) free.1)

pub returns : goal.returns
returns g c = record {
  begun = new_is _ c.self.inside.processors.items c.self.inside.lock c.args.self.now c.args.p c.args.spaces.now.map
      c.args.change
      (with_items_is c.self.inside.processors c.begin_change.new.processors (omega arith)
      ∙ c.begin_change.ensures
      ∙ ap (begun_from 0 c.args.p c.args.spaces.now.map c.args.change) c.deref_mut.ensures.value)
      c.self.view_is;
}
