-- Setting and clearing one bit of an entry, as a change of the record that the bits are.
use Rattle.std.proofs.Common.{◌≡◌, ℕ, zero, suc, ◌+◌, ◌-◌, ◌*◌, ◌/◌, ◌%◌, ◌^◌, ◌<◌, ◌≤◌, ◌==◌, Bool, true, false}
use Rattle.std.proofs.Common.{if◌then◌else◌, Option, Some, None, refl, sym, ap, ◌∙◌, subst, arith, is_some, bit_or}
use Rattle.std.specs.Int.RustNames.{bit_and}
use Rattle.std.specs.Int.Bits.{or_add_and}
use Rattle.std.proofs.lemmas.Nat.{and-not, and_comm}
use Rattle.std.proofs.lemmas.Nat.Bits.{and_pow}
use Rattle.std.proofs.lemmas.Bool.Decides.{nat_tests}
use Rattle.bitflags.specs.Sets.{without}
use Rattle.page_entry.specs.Entry.{Mapped, flag_weight, bits_of, has_bit, entry_of, IsEntry}
use Rattle.page_entry.specs.Entry.{with_present_of, with_writable_of, with_accessed_of, with_dirty_of, with_frame_of}
use Rattle.page_entry.specs.inside.Flags.{bit_of, flag_of, with_flag_of}
use Rattle.page_entry.specs.declared.entry.EntryFlag.{EntryFlag}
use Rattle.page_entry.specs.declared.entry.EntryFlag.TheVariants.{Writable, Accessed, Dirty}

-- setting bit k adds its weight where it was clear
or_bit : (n k : ℕ) → bit_or n (2 ^ k) + (n / 2 ^ k % 2) * 2 ^ k ≡ n + 2 ^ k
or_bit n k = ap (λ x. bit_or n (2 ^ k) + x) (sym (and_pow n k)) ∙ or_add_and n (2 ^ k)

-- clearing bit k takes its weight away where it was set
clear_bit : (n k : ℕ) → n < 2 ^ 64 → 2 ^ k < 2 ^ 64 → without 64 n (2 ^ k) + (n / 2 ^ k % 2) * 2 ^ k ≡ n
clear_bit n k small weight =
    ap (λ x. without 64 n (2 ^ k) + x) (sym (and_pow n k) ∙ and_comm n (2 ^ k))
    ∙ (ap (λ x. x + bit_and (2 ^ k) n) (and_comm n (2 ^ 64 - 1 - 2 ^ k)) ∙ and-not 64 (2 ^ k) n weight small)

-- a flag is its weight or nothing
flag_scaled : (b : Bool) (weight : ℕ) → flag_weight b weight ≡ flag_weight b 1 * weight
flag_scaled true weight = omega arith
flag_scaled false weight = omega arith

flag_small : (b : Bool) → flag_weight b 1 ≤ 1
flag_small true = omega arith
flag_small false = omega arith

flag_test : (b : Bool) → (flag_weight b 1 == 1) ≡ b
flag_test true = refl
flag_test false = refl

abbrev bits : ℕ → Bool → Bool → Bool → ℕ
bits f w a d = 1 + flag_weight w 2 + 4 + flag_weight a 32 + flag_weight d 64 + f * 4096

-- the bits as multiples of their weights
scaled : (f : ℕ) (w a d : Bool)
    → bits f w a d ≡ 5 + flag_weight w 1 * 2 + flag_weight a 1 * 32 + flag_weight d 1 * 64 + f * 4096
scaled f w a d = omega (arith, flag_scaled w 2, flag_scaled a 32, flag_scaled d 64)

-- the bits with another value of a flag, as a sum
module _ (m : Mapped) where
  sums : bits_of (Some m)
      ≡ 5 + flag_weight m.writable 1 * 2 + flag_weight m.accessed 1 * 32 + flag_weight m.dirty 1 * 64 + m.frame * 4096
  sums = scaled m.frame m.writable m.accessed m.dirty

  at_bit : (flag : EntryFlag) → bits_of (Some m) / 2 ^ bit_of flag % 2 ≡ flag_weight (flag_of flag (Some m)) 1
  at_bit Writable = omega (arith, sums, flag_small m.writable, flag_small m.accessed, flag_small m.dirty)
  at_bit Accessed = omega (arith, sums, flag_small m.writable, flag_small m.accessed, flag_small m.dirty)
  at_bit Dirty = omega (arith, sums, flag_small m.writable, flag_small m.accessed, flag_small m.dirty)

  has_flag : (flag : EntryFlag) → has_bit (bits_of (Some m)) (bit_of flag) ≡ flag_of flag (Some m)
  has_flag flag = ap (λ x. x == 1) (at_bit flag) ∙ flag_test (flag_of flag (Some m))

  replaced : (flag : EntryFlag) (b : Bool) → bits_of (with_flag_of flag (Some m) b)
      + flag_weight (flag_of flag (Some m)) 1 * 2 ^ bit_of flag ≡ bits_of (Some m) + flag_weight b 1 * 2 ^ bit_of flag
  replaced Writable b = omega (arith, sums, scaled m.frame b m.accessed m.dirty)
  replaced Accessed b = omega (arith, sums, scaled m.frame m.writable b m.dirty)
  replaced Dirty b = omega (arith, sums, scaled m.frame m.writable m.accessed b)

has_present : (f : ℕ) (w a d : Bool) → has_bit (bits f w a d) 0 ≡ true
has_present f w a d = ap (λ x. x == 1) (let e : bits f w a d / 1 % 2 ≡ 1 =
    omega (arith, scaled f w a d, flag_small w, flag_small a, flag_small d) in e)

has_frame : (f : ℕ) (w a d : Bool) → bits f w a d / 4096 ≡ f
has_frame f w a d = omega (arith, scaled f w a d, flag_small w, flag_small a, flag_small d)

small_bits : (f : ℕ) (w a d : Bool) → f < 2 ^ 32 → bits f w a d < 2 ^ 64
small_bits f w a d small = omega (arith, scaled f w a d, flag_small w, flag_small a, flag_small d)

-- a present entry's bits are that entry
again : (f : ℕ) (w a d : Bool)
    → entry_of (bits f w a d) ≡ Some (record { frame = f; writable = w; accessed = a; dirty = d })
again f w a d =
    let m : Mapped = record { frame = f; writable = w; accessed = a; dirty = d } in
    let has_writable : has_bit (bits f w a d) 1 ≡ w = has_flag m Writable in
    let has_accessed : has_bit (bits f w a d) 5 ≡ a = has_flag m Accessed in
    let has_dirty : has_bit (bits f w a d) 6 ≡ d = has_flag m Dirty in
    rw (has_present f w a d, has_frame f w a d, has_writable, has_accessed, has_dirty) refl

-- an entry with a frame of 32 bits
abbrev pub IsSmall : Option Mapped → Type 0
IsSmall None = Unit {0}
IsSmall (Some m) = m.frame < 2 ^ 32

pub entry_of-bits_of : (e : Option Mapped) → entry_of (bits_of e) ≡ e
entry_of-bits_of None = refl
entry_of-bits_of (Some m) = again m.frame m.writable m.accessed m.dirty

frame-bits_of : (e : Option Mapped) → IsSmall e → bits_of e / 4096 < 2 ^ 32
frame-bits_of None s = omega arith
frame-bits_of (Some m) s = rw (has_frame m.frame m.writable m.accessed m.dirty) s

pub IsEntry-bits_of : (e : Option Mapped) → IsSmall e → IsEntry (bits_of e)
IsEntry-bits_of e s = record { named = ap bits_of (entry_of-bits_of e); small = frame-bits_of e s }

small_entry : (e : Option Mapped) (n : ℕ) → bits_of e ≡ n → n / 4096 < 2 ^ 32 → IsSmall e
small_entry None n same s = tt
small_entry (Some m) n same s =
    subst (λ f. f < 2 ^ 32) (ap (λ x. x / 4096) (sym same) ∙ has_frame m.frame m.writable m.accessed m.dirty) s

pub IsSmall-entry_of : (n : ℕ) → IsEntry n → IsSmall (entry_of n)
IsSmall-entry_of n is = small_entry (entry_of n) n is.named is.small

-- a bit as a number is one where its weight is the weight of a set bit
weighed : (bit : ℕ) (weight : ℕ) → bit < 2 → 0 < weight → (bit * weight == weight) ≡ (bit == 1)
weighed zero weight less some = grind (arith, nat_tests)
weighed (suc zero) weight less some = grind (arith, nat_tests)
weighed (suc (suc bit)) weight less some = absurd (omega arith)

-- what a test of one bit says of any number
pub test_bit : (n k : ℕ) → 0 < 2 ^ k → (bit_and n (2 ^ k) == 2 ^ k) ≡ has_bit n k
test_bit n k some = ap (λ x. x == 2 ^ k) (and_pow n k) ∙ weighed (n / 2 ^ k % 2) (2 ^ k) (omega arith) some

-- and of the bits of an entry
pub test_flag : (flag : EntryFlag) (e : Option Mapped)
    → (bit_and (bits_of e) (2 ^ bit_of flag) == 2 ^ bit_of flag) ≡ flag_of flag e
test_flag Writable None = refl
test_flag Accessed None = refl
test_flag Dirty None = refl
test_flag Writable (Some m) = test_bit (bits_of (Some m)) 1 (omega arith) ∙ has_flag m Writable
test_flag Accessed (Some m) = test_bit (bits_of (Some m)) 5 (omega arith) ∙ has_flag m Accessed
test_flag Dirty (Some m) = test_bit (bits_of (Some m)) 6 (omega arith) ∙ has_flag m Dirty

-- the bits with some of them set or cleared
abbrev pub after_set : ℕ → ℕ → Bool → ℕ
after_set n mask set = if set then bit_or n mask else without 64 n mask

-- one bit that is set or cleared takes the place of what it was
set_one : (n m k : ℕ) (was b : Bool) → n < 2 ^ 64 → 2 ^ k < 2 ^ 64 → n / 2 ^ k % 2 ≡ flag_weight was 1
    → m + flag_weight was 1 * 2 ^ k ≡ n + flag_weight b 1 * 2 ^ k → after_set n (2 ^ k) b ≡ m
set_one n m k was true small weight at same =
    let scale : n / 2 ^ k % 2 * 2 ^ k ≡ flag_weight was 1 * 2 ^ k = ap (λ x. x * 2 ^ k) at in
    omega (arith, or_bit n k, scale, same)
set_one n m k was false small weight at same =
    let scale : n / 2 ^ k % 2 * 2 ^ k ≡ flag_weight was 1 * 2 ^ k = ap (λ x. x * 2 ^ k) at in
    omega (arith, clear_bit n k small weight, scale, same)

light : (flag : EntryFlag) → 2 ^ bit_of flag < 2 ^ 64
light Writable = omega arith
light Accessed = omega arith
light Dirty = omega arith

set_flag : (flag : EntryFlag) (e : Option Mapped) (b : Bool) → IsSmall e → is_some e ≡ true
    → after_set (bits_of e) (2 ^ bit_of flag) b ≡ bits_of (with_flag_of flag e b)
set_flag flag None b s h = cc
set_flag flag (Some m) b s h = set_one (bits_of (Some m)) (bits_of (with_flag_of flag (Some m) b)) (bit_of flag)
    (flag_of flag (Some m)) b (small_bits m.frame m.writable m.accessed m.dirty s) (light flag) (at_bit m flag)
    (replaced m flag b)

small_with : (flag : EntryFlag) (e : Option Mapped) (b : Bool) → IsSmall e → IsSmall (with_flag_of flag e b)
small_with Writable None b s = s
small_with Writable (Some m) b s = s
small_with Accessed None b s = s
small_with Accessed (Some m) b s = s
small_with Dirty None b s = s
small_with Dirty (Some m) b s = s

-- a change that computes the bits of another small entry makes that entry
pub record Makes (bits : ℕ) (e : Option Mapped) : Type 0 where
  pub is : IsEntry bits
  pub value : entry_of bits ≡ e

pub makes : (bits : ℕ) (e : Option Mapped) → bits ≡ bits_of e → IsSmall e → Makes bits e
makes bits e same s = record {
  is = subst IsEntry (sym same) (IsEntry-bits_of e s);
  value = ap entry_of same ∙ entry_of-bits_of e;
}

-- setting or clearing the bit of a flag makes the entry with the flag set or clear
pub makes_with_flag : (flag : EntryFlag) (b : Bool) (old : ℕ) (e : Option Mapped) → IsEntry old → entry_of old ≡ e
    → is_some e ≡ true → Makes (after_set old (2 ^ bit_of flag) b) (with_flag_of flag e b)
makes_with_flag flag b old e was view some =
    let small : IsSmall e = subst IsSmall view (IsSmall-entry_of old was) in
    makes (after_set old (2 ^ bit_of flag) b) (with_flag_of flag e b)
    (ap (λ n. after_set n (2 ^ bit_of flag) b) (sym was.named ∙ ap bits_of view) ∙ set_flag flag e b small some)
    (small_with flag e b small)

-- the entry that is made of these bits, one by one
pub read_back : (n : ℕ)
    → with_dirty_of (with_accessed_of (with_writable_of (with_frame_of (with_present_of None (bit_and n 1 == 1))
    (n / 4096)) (bit_and n 2 == 2)) (bit_and n 32 == 32)) (bit_and n 64 == 64) ≡ entry_of n
read_back n =
    rw (test_bit n 0 (omega arith), test_bit n 1 (omega arith), test_bit n 5 (omega arith), test_bit n 6 (omega arith))
    (by_present (has_bit n 0))
  where
    by_present : (b : Bool)
        → with_dirty_of (with_accessed_of (with_writable_of (with_frame_of (with_present_of None b) (n / 4096))
        (has_bit n 1)) (has_bit n 5)) (has_bit n 6) ≡ (if b
        then Some (record { frame = n / 4096; writable = has_bit n 1; accessed = has_bit n 5; dirty = has_bit n 6 })
        else None)
    by_present true = refl
    by_present false = refl
