use Rattle.std.proofs.Common.{◌≡◌, ◌<◌, true, false, List, Bool, ℕ, length, get_or}
use Rattle.std.proofs.Common.{replicate, set, sym, ap, ◌∙◌, inl, inr, arith}
use Rattle.std.proofs.lemmas.Bool.{cases_lt, false≢true}
use Rattle.shootdown.specs.Processors.{pcids}
use Rattle.shootdown.specs.inside.Flags.{flags_of}
use Rattle.shootdown.proofs.Flags.{cleared-set, cleared-clear}
use Rattle.shootdown.proofs.Words.{length-flags_of, get_or-flags_of_past, flags_of-marked, flags_of-zeros}
use Rattle.shootdown.proofs.processor.clear_others.Goals as goal

-- a flag that is set is that of a PCID
set_below : (words : List ℕ) (pcid : ℕ) → get_or (flags_of words) pcid false ≡ true → pcid < pcids
set_below words pcid here = elim (cases_lt pcid pcids) [
  | inl below ↦ below
  | inr past ↦ absurd (false≢true (sym (get_or-flags_of_past words pcid past) ∙ here))
]

-- the flags when the words are cleared
cleared : (words filled : List ℕ) → filled ≡ replicate (length words) 0
    → flags_of filled ≡ replicate (length (flags_of words)) false
cleared words filled is =
    ap flags_of is
    ∙ flags_of-zeros (length words) (length (flags_of words)) (length-flags_of words)

pub mark-requires : goal.mark-requires
mark-requires c =
    let below = set_below c.args.flags.now c.args.pcid (sym c.has_flag-kept.ensures ∙ c.if-kept.true) in
    omega (arith, below, c.fill.ensures.len)

pub returns-then-kept : goal.returns-then-kept
returns-then-kept c =
    let words = c.args.flags.now in
    let here = sym c.has_flag-kept.ensures ∙ c.if-kept.true in
    let below = set_below words c.args.pcid here in
    flags_of-marked c.fill.new.self c.mark.new.mask c.args.pcid true below c.mark.ensures
    ∙ ap (λ (flags : List Bool). set flags c.args.pcid true)
    (cleared words c.fill.new.self (c.fill.ensures.after (λ y is. is)))
    ∙ cleared-set (flags_of words) c.args.pcid (omega (arith, below, length-flags_of words)) here

pub returns-else-kept : goal.returns-else-kept
returns-else-kept c =
    let words = c.args.flags.now in
    cleared words c.fill.new.self (c.fill.ensures.after (λ y is. is))
    ∙ cleared-clear (flags_of words) c.args.pcid (sym c.has_flag-kept.ensures ∙ c.if-kept.false)
