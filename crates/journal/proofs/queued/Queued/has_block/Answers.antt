use Rattle.std.proofs.Common.{◌≡◌, ◌↔◌, IsTrue, List, ℕ, subst, sym}
use Rattle.std.specs.Prelude.{is_ok}
use Rattle.std.specs.List.{Contains}
use Rattle.std.specs.List.Sorted.{IsBinarySearchResult}
use Rattle.std.specs.Ordering.{nat_cmp}
use Rattle.volume_codec.specs.Layout.{first_home}
use Rattle.journal.proofs.Written.{searched_rising}
use Rattle.journal.proofs.queued.Queued.has_block.Goals as goal

pub returns : goal.returns
returns g c =
    let homes = c.self.inside.homes.items in
    let geometry = c.self.invariant.0 in
    let is : IsBinarySearchResult (λ y. nat_cmp y c.args.home) homes c.binary_search.result =
    subst (λ (l : List ℕ). IsBinarySearchResult (λ y. nat_cmp y c.args.home) l c.binary_search.result)
    c.deref.ensures.value c.binary_search.ensures.position in
    let found = searched_rising (first_home geometry.layout geometry.slots) geometry.blocks homes c.args.home
    c.binary_search.result c.self.invariant.1.is_batch.described.homes.rising is in
    let same : c.is_ok.result ≡ is_ok c.binary_search.result = c.is_ok.ensures.value in
    subst (λ f. IsTrue c.is_ok.result ↔ Contains f.write_out.batch.homes c.args.home) c.self.view_is
    (subst (λ b. IsTrue b ↔ Contains homes c.args.home) (sym same) found)
