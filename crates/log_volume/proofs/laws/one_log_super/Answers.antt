use Rattle.std.proofs.Common.{◌≡◌, ℕ, List, ◌++◌, codes, take, drop, refl, sym, ap, ◌∙◌, arith}
use Rattle.volume_codec.specs.Text.{number_text, zeros}
use Rattle.volume_codec.specs.Super.{block_count}
use Rattle.log_codec.specs.declared.sealing.Sealing.{Sealing}
use Rattle.log_codec.specs.Log.{LogValue}
use Rattle.log_volume.specs.Super.{table_of, log_of}
use Rattle.log_volume.proofs.Spelled.{reads_log, says_table, one_sealing, by_parts}
use Rattle.log_volume.proofs.laws.one_log_super.Goals as goal

pub returns-clause-one : goal.returns-clause-one
returns-clause-one c = λ v w block is other.
    let r = reads_log v block is in
    let q = reads_log w block other in
    let sealing = one_sealing v.sealing w.sealing (sym r.magic ∙ q.magic) (sym r.key ∙ q.key) in
    let ring : v.ring ≡ w.ring = sym r.ring ∙ q.ring in
    let blocks : (log_of v).blocks ≡ (log_of w).blocks = sym r.blocks ∙ q.blocks in
    let counted : block_count (table_of v) ≡ block_count (table_of w) = omega (arith, ring, blocks) in
    let table : List ℕ =
    (codes "FAMSYNC1" ++ take 4 (drop 8 block) ++ number_text 4 1 ++ number_text 4 (block_count (table_of v))
    ++ zeros 12) ++ drop 32 block in
    let tables = c.one_reading.ensures.tables (table_of v) (table_of w) table
    (says_table v block table (block_count (table_of v)) is refl refl)
    (says_table w block table (block_count (table_of v)) other counted refl) in
    let logs : log_of v ≡ log_of w =
    ap (λ (s : Sealing). let x : LogValue = record { sealing = s; ring = v.ring; blocks = (log_of v).blocks } in x)
    sealing
    ∙ ap (λ (n : ℕ). let x : LogValue = record { sealing = w.sealing; ring = n; blocks = (log_of v).blocks } in x) ring
    ∙ ap (λ (n : ℕ). let x : LogValue = record { sealing = w.sealing; ring = w.ring; blocks = n } in x) blocks in
    by_parts v w tables logs

pub returns-clause-magic : goal.returns-clause-magic
returns-clause-magic c = λ v block is. (reads_log v block is).magic
