use Rattle.std.proofs.Common.{◌≡◌, ℕ, ◌+◌, ◌*◌, ◌/◌, List, [], ◌∷◌, ◌++◌, length, ap, ◌∙◌}
use Rattle.log_codec.specs.Log.{log_descriptor_blocks}
use Rattle.kept_blocks.specs.Blocks.{Blocks}
use Rattle.log_pager.specs.Pager.{records_put}
use Rattle.log_pager.proofs.Blocks.{room_records, room_size}
use Rattle.log_pager.proofs.spelling.spell.Goals as goal

pub returns-clause-records : goal.returns-clause-records
returns-clause-records g c =
    let es : Blocks = c.args.blocks.now in
    let head : (4 * c.len-2.result + 4127) / 4096 ≡ log_descriptor_blocks (length es) =
    ap log_descriptor_blocks c.len-2.ensures in
    room_records es c.list_bytes.ensures.whole _ c.push.new.self.items head
    (c.in_ok-push.ensures.items ∙ ap (λ (l : List ℕ). l ++ 0 ∷ []) (c.in_ok-list_bytes.ensures.bytes
    ∙ ap (λ (l : List ℕ). l ++ records_put es) (c.in_ok-room.ensures.items_if_clones_equal (λ y same. same))))

pub returns-clause-size : goal.returns-clause-size
returns-clause-size g c =
    let es : Blocks = c.args.blocks.now in
    let head : (4 * c.len-2.result + 4127) / 4096 ≡ log_descriptor_blocks (length es) =
    ap log_descriptor_blocks c.len-2.ensures in
    room_size es c.list_bytes.ensures.whole _ c.push.new.self.items head
    (c.in_ok-push.ensures.items ∙ ap (λ (l : List ℕ). l ++ 0 ∷ []) (c.in_ok-list_bytes.ensures.bytes
    ∙ ap (λ (l : List ℕ). l ++ records_put es) (c.in_ok-room.ensures.items_if_clones_equal (λ y same. same))))
