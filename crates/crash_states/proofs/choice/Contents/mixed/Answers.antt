use Rattle.std.proofs.Common.{◌≡◌, ℕ, ◌*◌, List, ◌++◌, length, take, drop, ap, sym, ◌∙◌, arith, add-one}
use Rattle.std.specs.Prelude.{slice_index}
use Rattle.crash_states.specs.Choices.{with_copied, new_bytes, left_of_blocks}
use Rattle.crash_states.specs.Held.{content_of}
use Rattle.crash_states.proofs.Growing.{written_whole}
use Rattle.crash_states.proofs.choice.Contents.mixed.Goals as goal

pub loop-i-preserved : goal.loop-i-preserved
loop-i-preserved g c =
    let i = c.loop-i.i in
    let content = content_of c.args.self.now in
    let bytes = c.loop-i.bytes.items in
    let new = c.mix_block.new.bytes in
    let value : c.deref_mut.result.now ≡ bytes = c.deref_mut.ensures.value in
    let len : length new ≡ length bytes = c.in_ok-mix_block.ensures.same_length ∙ ap length value in
    let sized : length bytes ≡ c.loop-i.bytes.len = omega (arith, c.loop-i.bytes.ok.0) in
    let all : length new ≡ c.loop-i.bytes.len = len ∙ sized in
    let whole : take c.loop-i.bytes.len (new ++ drop (length new) bytes) ≡ new =
    written_whole c.loop-i.bytes.len new bytes sized all in
    record {
      left = whole ∙ c.in_ok-mix_block.ensures.mixed
          ∙ ap (λ (l : List ℕ). with_copied l content.seen (4096 * slice_index content.unsynced i)
          (new_bytes c.args.choice i)) (value ∙ c.loop-i.invariant.left)
          ∙ ap (left_of_blocks c.args.choice content) (sym (add-one i));
      same_length = ap length whole ∙ len ∙ c.loop-i.invariant.same_length;
    }
