use Rattle.std.proofs.Common.{◌≡◌, ℕ, List, [], ◌∷◌, ◌++◌, ◌+◌, ◌-◌, ◌*◌, true, length, take, ap, subst, ◌∙◌}
use Rattle.std.proofs.Common.{arith, length-append}
use Rattle.std.specs.Prelude.{is_ok}
use Rattle.std.proofs.lemmas.List.{take_at}
use Rattle.device.specs.Work.{Work, WriteAt, Sync}
use Rattle.log_codec.specs.declared.sealing.Sealing.{Sealing}
use Rattle.log_codec.specs.Log.{ring_block}
use Rattle.log_commits.specs.Calls.{DidAll}
use Rattle.log_commits.specs.Ring.{ring_works}
use Rattle.log_commits.specs.Commit.{works_with}
use Rattle.log_commits.specs.Selecting.{last_works}
use Rattle.log_commits.proofs.Works.{did_join}
use Rattle.log_commits.proofs.commit.write_commit.Goals as goal

pub returns-in-Ok : goal.returns-in-Ok
returns-in-Ok g c = λ commit is.
    let ring = c.args.log.now.ring in
    let p = c.args.position in
    let old = c.args.device.now in
    let mid = c.write_ring.new.device in
    let new = c.open_at.new.device in
    let done = is_ok c.open_at.result in
    let zero : p + 0 ≡ p = omega arith in
    let block : c.from-at.result ≡ ring_block ring p =
    c.from-at.ensures ∙ c.block_behind.ensures.value ∙ ap (ring_block ring) zero in
    let last : List Work = last_works c.args.select in
    let P : Sealing → Type 0 = λ s. DidAll g.D.Device old (works_with s ring p commit last) done new in
    let Q : List ℕ → Type 0 = λ l. DidAll g.D.Device old (ring_works ring p 1 l) true mid in
    let R : ℕ → Type 0 = λ b. DidAll g.D.Device mid (Sync ∷ WriteAt (4096 * b) (0xA7 ∷ []) ∷ last) done new in
    subst P c.in-ByByte.ensures.value (did_join g.D.Device (ring_works ring p 1 (commit ++ 0 ∷ []))
    (Sync ∷ WriteAt (4096 * ring_block ring p) (0xA7 ∷ []) ∷ last) old mid new done (subst Q is c.in-Ok.ensures)
    (subst R block c.open_at.ensures))

pub returns-in-Ok-write_ring : goal.returns-in-Ok-write_ring
returns-in-Ok-write_ring g c = λ commit is.
    let ring = c.args.log.now.ring in
    let p = c.args.position in
    let bytes = c.args.bytes.now in
    let old = c.args.device.now in
    let mid = c.write_ring-in-ByDigest.new.device in
    let new = c.finish.new.device in
    let done = is_ok c.finish.result in
    let size : length commit ≡ length bytes - 1 =
    omega (arith, ap length is, length-append commit (0 ∷ [])) in
    let part : take (length bytes - 1) bytes ≡ commit =
    ap (take (length bytes - 1)) is ∙ take_at commit (0 ∷ []) (length bytes - 1) size in
    let last : List Work = last_works c.args.select in
    let P : Sealing → Type 0 = λ s. DidAll g.D.Device old (works_with s ring p commit last) done new in
    let Q : List ℕ → Type 0 = λ l. DidAll g.D.Device old (ring_works ring p 0 l) true mid in
    subst P c.in-ByDigest.ensures.value (did_join g.D.Device (ring_works ring p 0 commit) last old mid new done
    (subst Q part c.in-Ok-write_ring.ensures) c.finish.ensures)
