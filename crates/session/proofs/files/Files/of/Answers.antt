use Rattle.std.proofs.Common.{◌<◌, ◌∙◌, length, map, Some, string_bytes, slice_index, sym, ap, arith}
use Rattle.volume_codec.specs.Files.{TableFile}
use Rattle.volume_codec.specs.Super.{names_in, capacities_in, pages_of}
use Rattle.session.proofs.ListedMore.{listed_more, long_as, mapped_at}
use Rattle.session.proofs.files.Files.of.Goals as goal

pub loop-file-preserved : goal.loop-file-preserved
loop-file-preserved g c =
    let table = c.args.volume.now.table in
    let i = c.loop-file.file in
    let within : i < length (capacities_in table) = omega (
      arith,
      c.loop-file-test.true,
      c.file_count-file-end.ensures.value,
      long_as (λ (f : TableFile). f.capacity) table.files,
    ) in
    let items = c.in_ok-push.ensures.items in
    record {
      names = listed_more (λ line. string_bytes line.name) _ _ _ (names_in table) i items c.loop-file.invariant.names
          (c.name.ensures ∙ ap Some (sym c.in_ok-from_str.ensures.ok));
      lengths = listed_more (λ line. line.length) _ _ _ c.args.volume.now.lengths i items
          c.loop-file.invariant.lengths c.length.ensures;
      pages = listed_more (λ line. line.pages) _ _ _ (map pages_of (capacities_in table)) i items
          c.loop-file.invariant.pages (mapped_at pages_of (capacities_in table) i within ∙ ap Some
          (sym (c.pages.ensures ∙ ap (λ t. pages_of (slice_index (capacities_in t) i)) c.table.ensures.table)));
    }
