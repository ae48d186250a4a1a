use Rattle.std.proofs.Common.{◌≡◌, ◌-◌, ◌++◌, ℕ, List, length, take, replicate, subst}
use Rattle.crash_table.proofs.Shown.{resized_is}
use Rattle.crash_table.proofs.twin.fit.Goals as goal

pub returns : goal.returns
returns g c =
    let n = c.args.count in
    let fit = c.in_ok-fit.fit in
    let new = c.resize.new.self.items in
    let P : ℕ → Type 0 = λ k. new ≡ take n fit.items ++ replicate (n - k) 0 in
    let Q : List ℕ → Type 0 = λ xs. new ≡ take n xs ++ replicate (n - length xs) 0 in
    resized_is n c.args.bytes.now new
    (subst Q c.in_ok-fit.ensures.items (subst P fit.ok.0 c.in_ok-resize.ensures.items))
