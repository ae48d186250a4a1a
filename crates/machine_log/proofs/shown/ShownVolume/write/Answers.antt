use Rattle.std.proofs.Common.{◌≡◌, ◌*◌, sym, ap, subst, ◌∙◌, List, ℕ}
use Rattle.device.specs.Device.{written}
use Rattle.device.proofs.Public.{ok_map}
use Rattle.kept_blocks.specs.Blocks.{Blocks, with_home}
use Rattle.machine_log.specs.Shown.{ShownValue, StaysShown}
use Rattle.machine_log.proofs.Gates.{write_stays}
use Rattle.machine_log.proofs.shown.ShownVolume.write.Goals as goal

pub returns-clause-stays : goal.returns-clause-stays
returns-clause-stays g c =
    let s : ShownValue = c.args.self.now in
    let block = c.args.block in
    let bytes = c.args.bytes.now in
    let change : List ℕ → List ℕ = λ seen. written seen (4096 * block) bytes in
    let view = c.self.view_is in
    ok_map c.put.result (λ e.
    let blocks : with_home s.blocks block bytes ≡ c.put.new.self =
    ap (λ (v : ShownValue). with_home v.blocks block bytes) (sym view)
    ∙ ap (with_home c.self.inside.blocks block) (sym c.in_ok-copy.ensures.ok) ∙ sym e in
    subst (λ v. StaysShown s v change) (ap (λ (b : Blocks). let v : ShownValue = record s { blocks = b } in v) blocks
    ∙ ap (λ (v : ShownValue). let w : ShownValue = record v { blocks = c.put.new.self } in w) (sym view))
    (write_stays s block bytes c.requires.admitted c.told-bytes)) c.put.ensures.ok
