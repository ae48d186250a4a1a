-- The records of a commit of blocks.
use Rattle.std.proofs.Common.{◌≡◌, ℕ, ◌+◌, ◌*◌, Bool, true, false, List, [], ◌∷◌, ◌++◌, length, take, drop}
use Rattle.std.proofs.Common.{eqb, refl, ap, ◌∙◌, arith, length-append}
use Rattle.std.specs.Prelude.{Some, if◌then◌else◌, unwrap_or, replicate}
use Rattle.std.proofs.lemmas.List.{take_at, drop_at, append_assoc, length-map, length-replicate}
use Rattle.log_codec.specs.Log.{log_descriptor_blocks, log_commit_blocks}
use Rattle.log_commits.specs.Commit.{committed_to, records_in}
use Rattle.kept_blocks.specs.Blocks.{Blocks, AreWholeBlocks, bytes_in, homes_in}
use Rattle.log_pager.specs.Pager.{records_put, contents_put}

pub length-records_put : (es : Blocks) → AreWholeBlocks es → length (records_put es) ≡ 4096 * length es
length-records_put [] is = refl
length-records_put (e ∷ es) is =
    omega (arith, length-append e.1 (records_put es), is.0, length-records_put es is.1)

pub committed_is : (contents : ℕ → List ℕ) (es : Blocks) → AreWholeBlocks es → (b : ℕ)
    → committed_to contents (homes_in es) (records_put es) b ≡ contents_put contents es b
committed_is contents [] is b = refl
committed_is contents (e ∷ es) is b = by_test (eqb b e.0) (committed_is contents es is.1 b)
  where
    by_test : (same : Bool) → committed_to contents (homes_in es) (records_put es) b ≡ contents_put contents es b
        → (if same then take 4096 (e.1 ++ records_put es)
        else committed_to contents (homes_in es) (drop 4096 (e.1 ++ records_put es)) b)
        ≡ unwrap_or (if same then Some e.1 else bytes_in es b) (contents b)
    by_test true rest = take_at e.1 (records_put es) 4096 is.0
    by_test false rest =
        ap (λ (l : List ℕ). committed_to contents (homes_in es) l b) (drop_at e.1 (records_put es) 4096 is.0) ∙ rest

pub contents_none : (contents : ℕ → List ℕ) (es : Blocks) → length es ≡ 0 → (b : ℕ)
    → contents_put contents es b ≡ contents b
contents_none contents [] none b = refl
contents_none contents (e ∷ es) none b = absurd (omega (arith, none))

module _ (es : Blocks) (is : AreWholeBlocks es) (n : ℕ) (room : List ℕ)
    (head : n ≡ log_descriptor_blocks (length es))
    (spelt : room ≡ (replicate (4096 * n) 0 ++ records_put es) ++ 0 ∷ []) where
  pub room_records : records_in (homes_in es) room ≡ records_put es
  room_records =
      let count : length (homes_in es) ≡ length es = length-map es (λ block. block.0) in
      let parts : room ≡ replicate (4096 * n) 0 ++ (records_put es ++ 0 ∷ []) =
      spelt ∙ append_assoc (replicate (4096 * n) 0) (records_put es) (0 ∷ []) in
      let front : length (replicate (4096 * n) 0) ≡ 4096 * log_descriptor_blocks (length es) =
      length-replicate (4096 * n) 0 ∙ ap (λ k. 4096 * k) head in
      ap (λ k. take (4096 * k) (drop (4096 * log_descriptor_blocks k) room)) count
      ∙ ap (λ (l : List ℕ). take (4096 * length es) (drop (4096 * log_descriptor_blocks (length es)) l)) parts
      ∙ ap (take (4096 * length es)) (drop_at (replicate (4096 * n) 0) (records_put es ++ 0 ∷ [])
      (4096 * log_descriptor_blocks (length es)) front)
      ∙ take_at (records_put es) (0 ∷ []) (4096 * length es) (length-records_put es is)

  pub room_size : length room ≡ 4096 * log_commit_blocks (length es) + 1
  room_size =
      let zeros : List ℕ = replicate (4096 * n) 0 in
      let front : length zeros ≡ 4096 * n = length-replicate (4096 * n) 0 in
      let whole : length room ≡ length zeros + length (records_put es) + 1 =
      ap length spelt ∙ length-append (zeros ++ records_put es) (0 ∷ [])
      ∙ ap (λ k. k + 1) (length-append zeros (records_put es)) in
      omega (arith, whole, front, length-records_put es is, head)
