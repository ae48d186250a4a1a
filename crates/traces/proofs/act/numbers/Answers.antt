use Rattle.std.proofs.Common.{Some, rules, tests}
use Rattle.std.proofs.lemmas.Iterator.{YieldsList-from_slice, YieldsList-from_map_by}
use Rattle.std.proofs.lemmas.Iterator.Consumers.{map_from_collect}
use Rattle.serde_json.specs.View.{view}
use Rattle.scripts.specs.Arguments.{byte_of}
use Rattle.traces.specs.inside.Written.{num}
use Rattle.traces.proofs.act.numbers.Goals as goal

pub returns-clause-written : goal.returns-clause-written
returns-clause-written c = map_from_collect _ c.collect.ensures.ran (YieldsList-from_map_by _ view num
    (YieldsList-from_slice c.args.bytes.now cc) c.map.ensures.closure (λ x r q k. search (rules, tests)))

pub returns-clause-reads : goal.returns-clause-reads
returns-clause-reads c = map_from_collect _ c.collect.ensures.ran (YieldsList-from_map_by _ (λ v. byte_of (view v)) Some
    (YieldsList-from_slice c.args.bytes.now cc) c.map.ensures.closure (λ x r q k. search (rules, tests)))
