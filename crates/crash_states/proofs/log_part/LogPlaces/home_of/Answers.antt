use Rattle.std.proofs.Common.{◌≡◌, ℕ, List, length, refl, sym, ap, ◌∙◌, arith, inl, inr, slice_index}
use Rattle.std.proofs.lemmas.Bool.{cases_eq}
use Rattle.volume_codec.specs.Super.{SuperValue, capacities_in, pages_of, first_home_of}
use Rattle.log_codec.specs.Log.{LogValue}
use Rattle.log_volume.specs.Super.{table_of}
use Rattle.crash_states.proofs.log_part.LogPlaces.home_of.Goals as goal
use Rattle.crash_states.proofs.log_part.LogPlaces.home_of.Goals.{
  else-said-first-via-then-said-first+else-said-first-2,
  else-said-first-via-else-said-first,
}

pub loop-file-preserved : goal.loop-file-preserved
loop-file-preserved g c file page below is =
    let v = c.args.self.now.table in
    let t = c.table-table.result.now in
    let i = c.loop-file.file in
    let ring = c.ring.ensures.value ∙ ap (λ (l : LogValue). l.ring) c.log-log.ensures.value in
    elim (cases_eq file i) [
      | inl here ↦
          let first : first_home_of t i ≡ first_home_of (table_of v) file =
          ap (λ (s : SuperValue). first_home_of s i) c.table-table.ensures
          ∙ ap (first_home_of (table_of v)) (sym here) in
          let pages : pages_of (slice_index (capacities_in t) i)
          ≡ pages_of (slice_index (capacities_in (table_of v)) file) =
          ap (λ (s : SuperValue). pages_of (slice_index (capacities_in s) i)) c.table-table.ensures
          ∙ ap (λ k. pages_of (slice_index (capacities_in (table_of v)) k)) (sym here) in
          elim c.else-said-first.branch [
            | else-said-first-via-then-said-first+else-said-first-2 w ↦ omega (
              arith,
              is.within,
              is.placed,
              first,
              pages,
              ring,
              c.first_home-first.ensures,
              w.pages.ensures,
              w.if-said-first-2.false,
            )
            | else-said-first-via-else-said-first w ↦ omega (
              arith,
              is.placed,
              first,
              ring,
              c.first_home-first.ensures,
              w.if-said-first.false,
            )
          ]
      | inr other ↦ c.loop-file.invariant file page (omega (arith, below, other)) is
    ]

pub returns : goal.returns
returns g c =
    let count = ap (λ (s : SuperValue). length s.files) c.table-table.ensures in (
      refl,
      record {
        low = c.requires.low;
        high = c.requires.high;
        none = λ file page is. c.loop-file.invariant file page
            (omega (arith, is.there, count, c.file_count-file-end.ensures.value, c.loop-file-test.false)) is;
      },
    )
