-- What home blocks have where blocks are put over them, and some more, or fewer.
use Rattle.std.proofs.Common.{◌≡◌, ◌≢◌, ◌⊎◌, ℕ, ◌+◌, ◌<◌, ◌≤◌, Bool, true, false, List, Option, Some, None, refl, ap}
use Rattle.std.proofs.Common.{sym, ◌∙◌, arith, inl, inr, eqb, if◌then◌else◌}
use Rattle.std.specs.Prelude.{unwrap_or}
use Rattle.std.specs.Option.{option_map}
use Rattle.std.proofs.lemmas.Bool.{cond-false, cond-true, cases_Bool, eq-eqb, ne_eqb}
use Rattle.std.proofs.lemmas.Bool.Decides.{nat_tests}
use Rattle.volume_codec.specs.Text.{zeros}
use Rattle.kept_blocks.specs.Blocks.{Blocks, bytes_in, with_home, with_zeros, without_run, cut_in, cut_to}
use Rattle.kept_blocks.proofs.Public.{bytes_put, bytes_zeros, bytes_without, bytes_cut, is_among, is_outside}
use Rattle.pager.specs.inside.Contents.{written_over}

over_put : (t : Bool) (v x : List ℕ) (o : Option (List ℕ))
    → unwrap_or (if t then Some v else o) x ≡ (if t then v else unwrap_or o x)
over_put true v x o = refl
over_put false v x o = refl

module _ (contents : ℕ → List ℕ) where
  -- ---- one block more

  module _ (blocks : Blocks) (home : ℕ) (v : List ℕ) where
    with_at : (b : ℕ) → written_over (with_home blocks home v) contents b
        ≡ (if eqb b home then v else written_over blocks contents b)
    with_at b = ap (λ o. unwrap_or o (contents b)) (bytes_put blocks home v b)
        ∙ over_put (eqb b home) v (contents b) (bytes_in blocks b)

    pub over_there : (b : ℕ) → b ≡ home → written_over (with_home blocks home v) contents b ≡ v
    over_there b is = with_at b ∙ cond-true (eqb b home) v (written_over blocks contents b) (eq-eqb b home is)

    pub over_elsewhere : (b : ℕ) → b ≢ home
        → written_over (with_home blocks home v) contents b ≡ written_over blocks contents b
    over_elsewhere b other =
        with_at b ∙ cond-false (eqb b home) v (written_over blocks contents b) (ne_eqb b home other)

  -- ---- a run of zeros more

  module _ (blocks : Blocks) (home many : ℕ) where
    zeros_at : (b : ℕ) → written_over (with_zeros blocks home many) contents b
        ≡ (if is_among home many b then zeros 4096 else written_over blocks contents b)
    zeros_at b = ap (λ o. unwrap_or o (contents b)) (bytes_zeros blocks home many b)
        ∙ over_put (is_among home many b) (zeros 4096) (contents b) (bytes_in blocks b)

    pub zeros_there : (b : ℕ) → home ≤ b → b < home + many
        → written_over (with_zeros blocks home many) contents b ≡ zeros 4096
    zeros_there b low high =
        let among : is_among home many b ≡ true = grind (arith, nat_tests, low, high) in
        zeros_at b ∙ cond-true (is_among home many b) (zeros 4096) (written_over blocks contents b) among

    pub zeros_elsewhere : (b : ℕ) → (home ≤ b → b < home + many → ⊥)
        → written_over (with_zeros blocks home many) contents b ≡ written_over blocks contents b
    zeros_elsewhere b out =
        let among : is_among home many b ≡ false = elim (cases_Bool (is_among home many b)) [
          | inl is ↦ absurd (let low : home ≤ b = grind (arith, nat_tests, is) in
              let high : b < home + many = grind (arith, nat_tests, is) in out low high)
          | inr not ↦ not
        ] in
        zeros_at b ∙ cond-false (is_among home many b) (zeros 4096) (written_over blocks contents b) among

  -- ---- a run fewer, and one block cut

  module _ (blocks : Blocks) (low high home n : ℕ) where
    abbrev cut_block : ℕ → List ℕ → List ℕ
    cut_block b x = if eqb b home then cut_to n x else x

    abbrev fewer : Blocks
    fewer = cut_in (without_run blocks low high) home n

    fewer_at : (b : ℕ) → written_over fewer contents b
        ≡ unwrap_or (option_map (cut_block b) (if is_outside low high b then bytes_in blocks b else None)) (contents b)
    fewer_at b = ap (λ o. unwrap_or o (contents b)) (bytes_cut (without_run blocks low high) home n b
        ∙ ap (option_map (cut_block b)) (bytes_without low high blocks b))

    -- a block that isn't taken away is as it was, or cut
    pub fewer_kept : (b : ℕ) → is_outside low high b ≡ true
        → (written_over fewer contents b ≡ written_over blocks contents b)
        ⊎ (written_over fewer contents b ≡ (if eqb b home then cut_to n (written_over blocks contents b)
        else written_over blocks contents b))
    fewer_kept b outside = by (bytes_in blocks b) refl
      where
        at : written_over fewer contents b ≡ unwrap_or (option_map (cut_block b) (bytes_in blocks b)) (contents b)
        at = fewer_at b ∙ ap (λ o. unwrap_or (option_map (cut_block b) o) (contents b))
            (cond-true (is_outside low high b) (bytes_in blocks b) None outside)

        by : (o : Option (List ℕ)) → bytes_in blocks b ≡ o
            → (written_over fewer contents b ≡ written_over blocks contents b)
            ⊎ (written_over fewer contents b ≡ cut_block b (written_over blocks contents b))
        by None is = inl (at ∙ ap (λ o. unwrap_or (option_map (cut_block b) o) (contents b)) is
            ∙ sym (ap (λ o. unwrap_or o (contents b)) is))
        by (Some x) is = inr (at ∙ ap (λ o. unwrap_or (option_map (cut_block b) o) (contents b)) is
            ∙ sym (ap (cut_block b) (ap (λ o. unwrap_or o (contents b)) is)))

    -- one that is has what lay under it
    pub fewer_gone : (b : ℕ) → is_outside low high b ≡ false → written_over fewer contents b ≡ contents b
    fewer_gone b gone = fewer_at b ∙ ap (λ o. unwrap_or (option_map (cut_block b) o) (contents b))
        (cond-false (is_outside low high b) (bytes_in blocks b) None gone)
