use Rattle.std.proofs.Common.{List, subst}
use Rattle.volume_codec.specs.Files.{AskedFile, asked_by}
use Rattle.volume_codec.specs.Refusals.{RefusesTable}
use Rattle.volume_codec.specs.Super.{IsAsked}
use Rattle.log_format.specs.inside.Full.{log_asked}
use Rattle.log_format.proofs.Tables.{one_table, refused_table, found_is}
use Rattle.log_format.proofs.asked.asked_super.Goals as goal

pub returns-in-Err-new-clause-refused : goal.returns-in-Err-new-clause-refused
returns-in-Err-new-clause-refused g c =
    let P : List AskedFile → Type 0 = λ fs. RefusesTable 1 fs 1 c.in-Err-new.refusal in
    refused_table c.args.sealing (asked_by c.args.files.now) c.args.ring c.in-Err-new.refusal
    (subst P c.full_specs-full.ensures c.in-Err-new.ensures.refused) c.in-Ok.ensures.asked

pub returns-in-Some-clause-ok : goal.returns-in-Some-clause-ok
returns-in-Some-clause-ok g c =
    let P : List AskedFile → Type 0 = λ fs. IsAsked 1 fs 1 c.in-Ok-new.table in
    found_is c.args.sealing (asked_by c.args.files.now) c.args.ring c.in-Some.found c.in-Ok-new.table c.in-Ok.log
    (subst P c.full_specs-full.ensures c.in-Ok-new.ensures.ok) c.in-Some.ensures.some.0 c.in-Some.ensures.some.1
    c.in-Ok.ensures.log c.in-Ok.ensures.asked

pub returns-in-None-clause-refused : goal.returns-in-None-clause-refused
returns-in-None-clause-refused g c = λ v asked.
    let files = asked_by c.args.files.now in
    let P : List AskedFile → Type 0 = λ fs. IsAsked 1 fs 1 c.in-Ok-new.table in
    c.in-None.ensures.none (log_asked c.args.sealing files c.args.ring)
    (one_table c.args.sealing files c.args.ring c.in-Ok-new.table
    (subst P c.full_specs-full.ensures c.in-Ok-new.ensures.ok)) c.in-Ok.ensures.log
