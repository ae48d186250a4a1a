use Rattle.std.proofs.Common.{rules, ◌≡◌, ◌<◌, ◌≤◌, ◌^◌, ◌∙◌, sym, ap, subst, arith}
use Rattle.std.proofs.lemmas.Result.{IfOk-weaker}
use Rattle.serde_json.specs.Data.{depth}
use Rattle.serde_json.specs.View.{view}
use Rattle.scripts.specs.Script.{step_of}
use Rattle.traces.specs.inside.Written.{map_data}
use Rattle.traces.proofs.Written.{map_reads}
use Rattle.traces.proofs.act.map_value.Goals as goal

pub returns : goal.returns
returns c =
    let a = c.args in
    let first = c.rights_word-prot.result.now in
    let second = c.rights_word-access.result.now in
    let small : a.p < 2 ^ 8 = search rules in
    let space : a.space < 2 ^ 16 = search rules in
    let va : a.va < 2 ^ 64 = search rules in
    let len : a.len < 2 ^ 64 = search rules in
    let file : a.file < 2 ^ 16 = search rules in
    let offset : a.offset < 2 ^ 64 = search rules in
    IfOk-weaker c.list_value.result
    (λ value. view value ≡ map_data a.p a.space a.va a.len a.file a.offset first second) _
    (λ value is. (
      ap step_of is ∙ map_reads a.p a.space a.va a.len a.file a.offset first second a.prot a.access small space va len
          file offset c.rights_word-prot.ensures.prot c.rights_word-access.ensures.access,
      subst (λ d. depth d ≤ 2) (sym is) (omega arith),
    ))
    c.list_value.ensures
