use Rattle.std.proofs.Common.{◌↔◌, IsTrue, List, ℕ, subst, sym}
use Rattle.std.specs.List.{Contains}
use Rattle.std.specs.List.Sorted.{IsBinarySearchResult}
use Rattle.std.specs.Ordering.{nat_cmp}
use Rattle.volume_codec.specs.Layout.{first_home}
use Rattle.volume_codec.specs.Recovery.{Batch}
use Rattle.journal.proofs.Public.{searched_rising}
use Rattle.machine_log.proofs.opened.OpenJournal.has_block.Goals as goal

pub returns : goal.returns
returns g c =
    let homes = c.self.inside.descriptor.homes in
    let geometry = c.self.inside.geometry in
    let is : IsBinarySearchResult (λ y. nat_cmp y c.args.home) homes c.binary_search.result =
    subst (λ (l : List ℕ). IsBinarySearchResult (λ y. nat_cmp y c.args.home) l c.binary_search.result)
    c.homes.ensures c.binary_search.ensures.position in
    let found = searched_rising (first_home geometry.layout geometry.slots) geometry.blocks homes c.args.home
    c.binary_search.result c.self.invariant.described.homes.rising is in
    subst (λ (b : Batch). IsTrue c.is_ok.result ↔ Contains b.homes c.args.home) c.self.view_is
    (subst (λ t. IsTrue t ↔ Contains homes c.args.home) (sym c.is_ok.ensures.value) found)
