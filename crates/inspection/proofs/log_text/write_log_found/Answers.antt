use Rattle.std.proofs.Common.{rules, ◌≡◌, ℕ, OnOk, length, subst, arith}
use Rattle.std.specs.Io.KnownBytes.{Appends}
use Rattle.std.proofs.lemmas.Result.{on_ok_weaker}
use Rattle.log_codec.specs.Log.{LogValue}
use Rattle.log_codec.specs.Chain.{chain_blocks}
use Rattle.log_volume.specs.Super.{log_of}
use Rattle.log_recovery.specs.Reading.{chain_of}
use Rattle.inspection.specs.LogText.{log_volume_line, log_file_lines, log_line}
use Rattle.inspection.proofs.Writing.{appends_all}
use Rattle.inspection.proofs.log_text.write_log_found.Goals as goal

pub returns : goal.returns
returns g c =
    let contents = g.W.Write.contents in
    let found = c.args.found.now in
    let epoch = found.log.start.epoch in
    let a = log_volume_line (log_of found.table) in
    let b = log_file_lines found.table found.lengths.items (length found.table.files) in
    let d = log_line (length found.log.commits.items) (chain_blocks (chain_of found.log.commits.items)) epoch in
    let P : LogValue → Type 0 = λ log. Appends (contents c.args.out.now) (contents c.write_log_volume.new.out)
    (log_volume_line log) in
    let mid = contents c.write_log_files.new.out in
    let end = contents c.write_log.new.out in
    let R : ℕ → Type 0 = λ n. Appends mid end (log_line n c.used_blocks.result epoch) in
    let S : ℕ → Type 0 = λ n. Appends mid end (log_line (length found.log.commits.items) n epoch) in
    let files : Appends (contents c.write_log_volume.new.out) mid b = search rules in
    let count : c.len.result ≡ length found.log.commits.items = omega (arith, c.len.ensures) in
    let third : OnOk c.write_log.result (Appends mid end d) = on_ok_weaker c.write_log.result
    (λ is. subst S c.used_blocks.ensures (subst R count is)) c.write_log.ensures in
    appends_all _ _ _ _ a b d c.write_log.result (subst P c.log.ensures.value c.in_ok-write_log_volume.ensures) files
    third
