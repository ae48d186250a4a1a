use Rattle.std.proofs.Common.{rules, ◌≡◌, ◌<◌, ◌≤◌, ◌^◌, ◌∷◌, [], codes, Some, ◌∙◌, sym, ap, subst}
use Rattle.std.proofs.lemmas.Result.{IfOk-weaker}
use Rattle.serde_json.specs.Data.{depth, string}
use Rattle.serde_json.specs.View.{view}
use Rattle.scripts.specs.Arguments.{few_bytes_of}
use Rattle.scripts.specs.Script.{step_of}
use Rattle.traces.specs.inside.Written.{num, list, bytes_data, store_data}
use Rattle.traces.proofs.Written.{store_reads, store_flat}
use Rattle.traces.proofs.act.store.Goals as goal

pub returns : goal.returns
returns c =
    let a = c.args in
    let bytes = c.as_slice.result.now in
    let small : a.p < 2 ^ 8 = search rules in
    let va : a.va < 2 ^ 64 = search rules in
    let written : view c.in_ok-bytes.bytes ≡ bytes_data bytes = c.in_ok-bytes.ensures.written in
    let few : few_bytes_of (bytes_data bytes) ≡ Some bytes = c.in_ok-bytes.ensures.reads c.as_slice.ensures.few in
    let same : bytes ≡ a.bytes.now = c.as_slice.ensures.same in
    IfOk-weaker c.store_list.result
    (λ value. view value ≡ list (num a.p ∷ string (codes "store") ∷ num a.va ∷ view c.in_ok-bytes.bytes ∷ [])) _
    (λ value is.
    let all : view value ≡ store_data a.p a.va a.bytes.now =
    is ∙ ap (λ b. list (num a.p ∷ string (codes "store") ∷ num a.va ∷ b ∷ [])) (written ∙ ap bytes_data same) in (
      ap step_of all ∙ store_reads a.p a.va a.bytes.now small va
          (subst (λ bytes. few_bytes_of (bytes_data bytes) ≡ Some bytes) same few),
      subst (λ d. depth d ≤ 2) (sym all) (store_flat a.p a.va a.bytes.now),
    ))
    c.store_list.ensures
