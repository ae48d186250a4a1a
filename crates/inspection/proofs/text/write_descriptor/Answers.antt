use Rattle.std.proofs.Common.{rules, ◌≡◌, ℕ, List, ◌∷◌, [], length, subst}
use Rattle.std.specs.Io.KnownBytes.{Appends}
use Rattle.inspection.specs.Text.{open_head, homes_text}
use Rattle.inspection.proofs.Writing.{appends_all}
use Rattle.inspection.proofs.text.write_descriptor.Goals as goal

pub returns : goal.returns
returns g c =
    let contents = g.W.Write.contents in
    let d = c.args.descriptor.now in
    let first = contents c.write_open_head.new.out in
    let y = homes_text c.args.table.now d.homes in
    let mark : c.mark-mark.result ≡ d.mark = c.mark-mark.ensures in
    let P : ℕ → Type 0 = λ m.
    Appends (contents c.args.out.now) first (open_head m (length c.homes-homes.result.now)) in
    let Q : List ℕ → Type 0 = λ homes. Appends (contents c.args.out.now) first (open_head d.mark (length homes)) in
    let homes : Appends first (contents c.write_homes.new.out) y = search rules in
    appends_all _ _ _ _ (open_head d.mark (length d.homes)) y (10 ∷ []) c.write_line_end.result
    (subst Q c.homes-homes.ensures (subst P mark c.in_ok-write_open_head.ensures)) homes c.write_line_end.ensures
