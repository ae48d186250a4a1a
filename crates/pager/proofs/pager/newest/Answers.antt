use Rattle.std.proofs.Common.{◌≡◌, ℕ, List, take, ◌++◌, ◌∷◌, [], get_or, ap, ◌∙◌, sym, Option}
use Rattle.std.proofs.Common.{◌<◌, ◌+◌, length}
use Rattle.std.specs.Option.{option_or, option_copied}
use Rattle.std.proofs.lemmas.List.{take_more}
use Rattle.kept_blocks.specs.Blocks.{Blocks, bytes_in, newest_in}
use Rattle.kept_blocks.proofs.Public.{newest_push}
use Rattle.pager.proofs.pager.newest.Goals.{in-Some, in-None}
use Rattle.pager.proofs.pager.newest.Goals as goal

-- what the lists so far have
more : (records : List Blocks) (i : ℕ) (blocks : Blocks) (home : ℕ) → i < length records
    → blocks ≡ get_or records i blocks
    → newest_in (take (i + 1) records) home ≡ option_or (bytes_in blocks home) (newest_in (take i records) home)
more records i blocks home lt is =
    ap (λ (l : List Blocks). newest_in l home)
    (take_more records i blocks lt ∙ ap (λ (b : Blocks). take i records ++ b ∷ []) (sym is))
    ∙ newest_push (take i records) blocks home

pub loop-blocks-preserved : goal.loop-blocks-preserved
loop-blocks-preserved g c =
    let records = c.args.records.now in
    let i = c.loop-blocks.blocks-index in
    let item = c.blocks-item.result in
    let found = more records i item c.args.home c.loop-blocks-test.true c.blocks-item.is in
    let before = λ (o : Option (List ℕ)). option_or o (newest_in (take i records) c.args.home) in
    elim c.match-get.branch [
      | in-Some w ↦ ap option_copied w.found-is ∙ ap before w.in-Some.ensures ∙ sym found
      | in-None w ↦ ap option_copied w.found-is ∙ c.loop-blocks.invariant ∙ ap before w.in-None.ensures ∙ sym found
    ]
