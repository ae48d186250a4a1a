use Rattle.std.proofs.Common.{refl, ap, arith, inl, inr, slice_index}
use Rattle.std.proofs.lemmas.Bool.{cases_eq}
use Rattle.volume_codec.specs.Super.{capacities_in, pages_of, first_home_of}
use Rattle.crash_states.proofs.part.Places.home_of.Goals as goal
use Rattle.crash_states.proofs.part.Places.home_of.Goals.{
  else-block-first-via-then-block-first+else-block-first-2,
  else-block-first-via-else-block-first,
}

pub loop-file-preserved : goal.loop-file-preserved
loop-file-preserved g c file page below is =
    let v = c.args.self.now.table in
    elim (cases_eq file c.loop-file.file) [
      | inl here ↦
          let first = ap (first_home_of v) here in
          let pages = ap (λ i. pages_of (slice_index (capacities_in v) i)) here in
          elim c.else-block-first.branch [
            | else-block-first-via-then-block-first+else-block-first-2 w ↦ omega (
              arith,
              is.within,
              is.placed,
              first,
              pages,
              c.first_home-first.ensures,
              w.pages.ensures,
              w.if-block-first-2.false,
            )
            | else-block-first-via-else-block-first w ↦ omega (
              arith,
              is.placed,
              first,
              c.first_home-first.ensures,
              w.if-block-first.false,
            )
          ]
      | inr other ↦ c.loop-file.invariant file page (omega (arith, below, other)) is
    ]

pub returns : goal.returns
returns g c = (
  refl,
  record {
    low = c.requires.low;
    high = c.requires.high;
    none = λ file page is. c.loop-file.invariant file page
        (omega (arith, is.there, c.file_count-file-end.ensures.value, c.loop-file-test.false)) is;
  },
)
