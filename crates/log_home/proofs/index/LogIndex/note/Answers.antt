use Rattle.std.proofs.Common.{◌≡◌, ℕ, List, ◌+◌, ◌-◌, ◌<◌, length, drop, get_or, cond, sym, ap, subst, ◌∙◌, arith}
use Rattle.std.specs.Prelude.{Some, Option, is_some, true, ◌==◌}
use Rattle.std.specs.List.{Contains}
use Rattle.std.specs.Map.{lookup}
use Rattle.std.specs.BTreeMap.{is_at, insert_entry}
use Rattle.std.specs.Ordering.{nat_cmp}
use Rattle.std.proofs.lemmas.List.{drop_all, drop_more}
use Rattle.std.proofs.lemmas.Grind.{get_or_default_zero}
use Rattle.log_codec.specs.Log.{ring_block}
use Rattle.log_home.specs.declared.index.Newest.{Newest}
use Rattle.log_home.specs.Index.{Entries, find_in, indexed_homes, recorded_or}
use Rattle.log_home.proofs.Entries.{room_is, room_put, find_put, put_there}
use Rattle.log_home.proofs.index.LogIndex.note.Goals as goal

pub loop-place-init : goal.loop-place-init
loop-place-init g c =
    let homes = c.args.homes.now in
    let entries : Entries = c.self.inside.tree.entries in
    let P : Entries → Type 0 = λ m. (b : ℕ) → Contains homes b → Contains (indexed_homes m) b in
    let room : P entries = subst P (sym c.self.view_is) c.requires.room in
    record {
      most = omega arith;
      found = λ b.
          let o : Option Newest = find_in entries b in
          sym (ap (λ (l : List ℕ). recorded_or c.args.log.now.ring o (c.args.records + length homes) c.args.number l b)
          (drop_all (length homes) homes (omega arith)));
      room = λ b has. room_is entries b (room b has);
    }

pub loop-place-preserved : goal.loop-place-preserved
loop-place-preserved g c =
    let homes = c.args.homes.now in
    let i : ℕ = c.loop-place.place - 1 in
    let some = c.loop-place-test.true in
    let inv = c.loop-place.invariant in
    let lt : i < length homes = omega (arith, some, inv.most) in
    let place : c.loop-place.place ≡ i + 1 = omega (arith, some) in
    let before : Entries = c.loop-place.self-inside.tree.entries in
    let after : Entries = c.insert.new.self.entries in
    let k : ℕ = get_or homes i 0 in
    let ring : ℕ = c.args.log.now.ring in
    let number : ℕ = c.args.number in
    let n : Newest = record { number = number; block = c.block_behind.result } in
    let there : is_some (lookup (is_at (nat_cmp k)) before) ≡ true =
    inv.room k (i, lt, get_or_default_zero homes i k lt) in
    let put : after ≡ insert_entry nat_cmp before k (Some n) =
    put_there c.insert.result _ _ c.insert.ensures.entries c.insert.ensures.absent there in
    let updates = put_there c.insert.result _ _ c.insert.ensures.updates c.insert.ensures.absent there in
    let next : i + 1 + c.args.records ≡ c.args.records + i + 1 = omega arith in
    record {
      most = omega (arith, inv.most);
      found = λ b.
          let o : Option Newest = find_in c.self.inside.tree.entries b in
          let at : ℕ = c.args.records + i in
          let here : Newest = record { number = number; block = ring_block ring at } in
          ap (λ (m : Entries). find_in m b) put ∙ find_put before k (Some n) b
          ∙ ap (λ (x : Option Newest). cond (b == k) (Some n) x)
          (inv.found b
          ∙ ap (λ x. recorded_or ring o (c.args.records + x) number (drop x homes) b) place
          ∙ ap (λ x. recorded_or ring o x number (drop (i + 1) homes) b) (omega arith))
          ∙ ap (λ (x : ℕ). cond (b == k) (Some (record { number = number; block = x }))
          (recorded_or ring o (at + 1) number (drop (i + 1) homes) b)) c.block_behind.ensures.value
          ∙ sym (ap (λ (l : List ℕ). recorded_or ring o at number l b) (drop_more homes i 0 lt));
      room = λ b has. room_put before after k (Some n) b (updates.0 b) (inv.room b has);
    }
