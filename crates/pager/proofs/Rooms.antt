-- Room in a commit for a further block.
use Rattle.std.proofs.Common.{◌≡◌, ℕ, ◌+◌, ◌≤◌, Bool, true, false, List, length, eqb}
use Rattle.std.proofs.Common.{Option, Some, None, refl, sym, subst, arith, if◌then◌else◌, inl, inr}
use Rattle.std.specs.Prelude.{is_some, is_none, nat_le}
use Rattle.std.proofs.lemmas.Bool.{leb-false, and_cases}
use Rattle.volume_codec.specs.Layout.{lengths_blocks, first_home}
use Rattle.volume_codec.specs.Descriptor.{RiseWithin}
use Rattle.volume_codec.specs.Super.{SuperValue}
use Rattle.kept_blocks.specs.Blocks.{Blocks, homes_in, bytes_in, with_home}
use Rattle.pager.specs.State.{reserved, is_full}
use Rattle.kept_blocks.proofs.Public.{bytes_put, length_put}

some_after : (b : Bool) (o : Option (List ℕ)) (v : List ℕ) (n : ℕ)
    → (if is_some (if b then Some v else o) then 0 else n) ≤ (if is_some o then 0 else n)
some_after true None v n = omega arith
some_after true (Some x) v n = omega arith
some_after false o v n = omega arith

-- fewer blocks are reserved once one more is put
pub reserved_put : (table : SuperValue) (staged : Blocks) (k : ℕ) (v : List ℕ)
    → reserved table (with_home staged k v) ≤ reserved table staged
reserved_put table staged k v =
    let first = first_home table.layout table.slots in
    subst (λ (o : Option (List ℕ)). (if is_some o then 0 else lengths_blocks table.layout) ≤ reserved table staged)
    (sym (bytes_put staged k v first))
    (some_after (eqb first k) (bytes_in staged first) v (lengths_blocks table.layout))

more_or_same : (o : Option (List ℕ)) (n : ℕ) → (if is_some o then n else n + 1) ≤ n + 1
more_or_same None n = omega arith
more_or_same (Some x) n = omega arith

same_or_more : (o : Option (List ℕ)) (n : ℕ) → is_none o ≡ false → (if is_some o then n else n + 1) ≡ n
same_or_more None n e = absurd (cc)
same_or_more (Some x) n e = refl

-- a commit with room for a block has room for the others once it is put
pub few_put : (table : SuperValue) (most : ℕ) (staged : Blocks) (low high k : ℕ) (v : List ℕ)
    → RiseWithin low high (homes_in staged)
    → length staged + reserved table staged ≤ most + lengths_blocks table.layout
    → is_full table most staged k ≡ false
    → length (with_home staged k v) + reserved table (with_home staged k v) ≤ most + lengths_blocks table.layout
few_put table most staged low high k v rising few room =
    let less = reserved_put table staged k v in
    let size = length_put staged low high k v rising in
    elim (and_cases (is_none (bytes_in staged k)) (nat_le (most + lengths_blocks table.layout)
    (length staged + reserved table staged)) room) [
      | inl there ↦ (let same = same_or_more (bytes_in staged k) (length staged) there in omega (
        arith,
        size,
        same,
        less,
        few,
      ))
      | inr fits ↦ (let below = leb-false (most + lengths_blocks table.layout) (length staged + reserved table
          staged) fits in
          let more = more_or_same (bytes_in staged k) (length staged) in omega (arith, size, more, less, below))
    ]
