use Rattle.std.proofs.Common.{◌≡◌, take, map, string_bytes}
use Rattle.volume_codec.specs.Super.{names_in, capacities_in, pages_of}
use Rattle.session.proofs.files.Files.of.Given as goal

abbrev pub invariant-loop-file : goal.invariant-loop-file
invariant-loop-file g l = record {
  names : map (λ line. string_bytes line.name) l.lines.items ≡ take l.file (names_in l.volume.table);
  lengths : map (λ line. line.length) l.lines.items ≡ take l.file l.volume.lengths;
  pages : map (λ line. line.pages) l.lines.items ≡ take l.file (map pages_of (capacities_in l.volume.table));
}
