use Rattle.std.proofs.Common.{rules, ◌≡◌, ◌≢◌, inl, inr, slice_get, Some, sym, ◌∙◌, subst, ℕ, arith}
use Rattle.std.proofs.lemmas.Bool.{cases_lt}
use Rattle.volume_files.proofs.Names.{place_below}
use Rattle.volume_files.proofs.copying.find.Goals as goal

pub loop-file-preserved : goal.loop-file-preserved
loop-file-preserved g c = λ bytes is i low f at.
    elim (cases_lt i c.loop-file.file) [
      | inl before ↦ c.loop-file.invariant bytes is i before f at
      | inr from ↦
          let here : i ≡ c.loop-file.file = omega (arith, low, from) in
          let P : ℕ → Type 0 = λ k. slice_get (g.V.FoundFiles.files c.args.volume.now bytes) k ≡ Some f in
          let named = c.name.ensures.named bytes f is (subst P here at) in
          let other : c.name.result.now ≢ c.args.name.now = search rules in
          λ same. other (sym named ∙ same)
    ]

pub returns-clause-none : goal.returns-clause-none
returns-clause-none g c = λ bytes is i f at.
    let files = g.V.FoundFiles.files c.args.volume.now bytes in
    let low = place_below files i f at in
    c.loop-file.invariant bytes is i
    (omega (arith, low, c.file_count-file-end.ensures.listed bytes is, c.loop-file-test.false)) f at
