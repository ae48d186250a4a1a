use Rattle.std.proofs.Common.{◌≡◌, ◌+◌, ◌∷◌, ◌++◌, ◌∙◌, sym, rules, map, take, drop, suc, length, ◌<◌, None, Some, []}
use Rattle.std.proofs.Math.Seq.{split_at}
use Rattle.std.proofs.lemmas.List.{take_more, take_more_set, map-append}
use Rattle.serde_json.specs.View.{view}
use Rattle.scripts.specs.Arguments.{byte_of, all_of}
use Rattle.scripts.proofs.AllOf.{all_of-more, all_of-stops, few_of-none}
use Rattle.scripts.proofs.argument.few_bytes.Goals as goal

pub returns-in_err-bytes : goal.returns-in_err-bytes
returns-in_err-bytes c =
    let in_items : c.loop-i.i < length c.args.items.now = search rules in
    let this : None ≡ byte_of (view c.index-items-i.result) = c.in_err-bytes.ensures.value ∙ c.byte.ensures in
    let split : c.args.items.now ≡ take c.loop-i.i c.args.items.now ++ c.index-items-i.result
    ∷ drop (suc c.loop-i.i) c.args.items.now = search (rules, split_at) in
    let none : all_of byte_of (map view c.args.items.now) ≡ None =
    rw (split, map-append view _ _) (all_of-stops byte_of (map view (take c.loop-i.i c.args.items.now))
    (view c.index-items-i.result) (map view (drop (suc c.loop-i.i) c.args.items.now)) this) in
    let refused : c.from_residual.result ≡ None = search rules in
    refused ∙ sym (few_of-none (map view c.args.items.now) none)

pub loop-i-preserved : goal.loop-i-preserved
loop-i-preserved c =
    let in_items : c.loop-i.i < length c.args.items.now = search rules in
    let in_bytes : c.loop-i.i < length c.loop-i.bytes = search rules in
    let this : Some c.in_ok-bytes.field-0 ≡ byte_of (view c.index-items-i.result) =
    c.in_ok-bytes.ensures.value ∙ c.byte.ensures in
    let items : take (c.loop-i.i + 1) c.args.items.now
    ≡ take c.loop-i.i c.args.items.now ++ c.index-items-i.result ∷ [] = search (rules, take_more) in (
      search rules,
      rw (items, take_more_set _ _ _ in_bytes, map-append view _ _)
          (all_of-more byte_of (map view (take c.loop-i.i c.args.items.now)) _
          (view c.index-items-i.result) _ c.loop-i.invariant.1 this),
    )
