use Rattle.std.proofs.Common.{rules, ℕ, ◌-◌, ◌^◌, ◌<◌, List, [], OnOk, false, subst}
use Rattle.std.proofs.lemmas.Fmt.{hex_byte}
use Rattle.std.specs.Fmt.{digits, padded_integral, format_spec}
use Rattle.std.specs.Io.KnownBytes.{Appends}
use Rattle.std.proofs.lemmas.Result.{on_ok_weaker}
use Rattle.inspection.proofs.text.write_gate.Goals as goal

pub returns : goal.returns
returns g c =
    let gate = c.args.gate in
    let small : gate < 256 = search rules in
    let P : List ℕ → Type 0 =
    λ text. Appends (g.W.Write.contents c.args.out.now) (g.W.Write.contents c.write.new.self) text in
    let wrote : OnOk c.write.result (Appends (g.W.Write.contents c.args.out.now) (g.W.Write.contents c.write.new.self)
    (padded_integral (format_spec 32 0 4 2 (2 ^ 64 - 1)) false [] (digits 16 false gate))) = search rules in
    on_ok_weaker c.write.result (subst P (hex_byte false gate small)) wrote
