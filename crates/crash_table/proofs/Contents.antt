-- What a copy of a disk holds while the calls of a run are made.
use Rattle.std.proofs.Common.{◌≡◌, ℕ, zero, suc, ◌+◌, ◌/◌, ◌<◌, ◌≤◌, Bool, true, false, ◌==◌}
use Rattle.std.proofs.Common.{if◌then◌else◌, List, [], ◌∷◌, ◌++◌, length, map, take}
use Rattle.std.proofs.Common.{get_or, slice_get, Option, Some, None, refl, sym}
use Rattle.std.proofs.Common.{◌∙◌, ap, subst, arith, add-one}
use Rattle.std.proofs.lemmas.List.{take_more, map_push}
use Rattle.std.proofs.lemmas.Option.{slice_get-map, slice_get_read, slice_get_past}
use Rattle.std.specs.List.{list_any, Contains}
use Rattle.std.specs.Option.{option_map}
use Rattle.crash_states.specs.declared.call.Call.{Call}
use Rattle.crash_states.specs.declared.call.CallKind.{CallKind}
use Rattle.crash_states.specs.declared.call.CallKind.TheVariants.{Read, Write, Sync}
use Rattle.crash_states.specs.Calls.{DeviceCall, call_of, device_calls_of}
use Rattle.crash_states.specs.Choices.{Content, with_block, with_blocks, begun_write, begun_as, call_begun}
use Rattle.crash_states.specs.Choices.{call_ended, content_before, content_within, blocks_touched}

-- where a block was added there is one
with_block_some : (blocks : List ℕ) (b : ℕ) → 0 < length (with_block blocks b)
with_block_some [] b = omega arith
with_block_some (x ∷ xs) b = some (list_any (λ block. block == b) (x ∷ xs))
  where
    some : (t : Bool) → 0 < length (if t then x ∷ xs else (x ∷ xs) ++ b ∷ [])
    some true = omega arith
    some false = omega arith

with_blocks_some : (blocks : List ℕ) (first n : ℕ) → 0 < n → 0 < length (with_blocks blocks first n)
with_blocks_some blocks first zero some = absurd (omega arith)
with_blocks_some blocks first (suc n) some = with_block_some (with_blocks blocks first n) (first + n)

write_some : (content : Content) (at : ℕ) (bytes : List ℕ) → 0 < length bytes
    → 0 < length (begun_write content at bytes).unsynced
write_some content at [] some = absurd (omega arith)
write_some content at (byte ∷ bytes) some =
    with_blocks_some content.unsynced (at / 4096) (blocks_touched at (length (byte ∷ bytes))) (omega arith)

kind_some : (kind : CallKind) (content : Content) (call : DeviceCall) → kind ≡ Write → 0 < length call.written
    → 0 < length (begun_as kind content call).unsynced
kind_some Read content call is some = absurd cc
kind_some Write content call is some = write_some content call.at call.written some
kind_some Sync content call is some = absurd cc

-- within a write there is a block that was written
pub torn_some : (content : Content) (found : Option DeviceCall) (call : DeviceCall) → found ≡ Some call
    → call.kind ≡ Write → 0 < length call.written → 0 < length (call_begun content found).unsynced
torn_some content found call is kind some =
    let P : Option DeviceCall → Type 0 = λ o. 0 < length (call_begun content o).unsynced in
    subst P (sym is) (kind_some call.kind content call kind some)

-- what an image has comes of an element
pub found_among : {X Y : Type 0} (f : X → Y) (xs : List X) (y : Y) → Contains (map f xs) y
    → (x : X) × Contains xs x × (f x ≡ y)
found_among f [] y (k, below, is) = absurd (omega arith)
found_among f (x ∷ xs) y (zero, below, is) = (x, (0, omega arith, refl), is)
found_among f (x ∷ xs) y (suc k, below, is) =
    let rest = found_among f xs y (k, omega arith, is) in
    (rest.0, (suc rest.1.0, omega (arith, rest.1.1), rest.1.2), rest.2)

-- one state more
pub named_more : {X Y : Type 0} (f : X → Y) (old new : List X) (x : X) (ys : List Y) (i : ℕ) (y : Y) → i < length ys
    → new ≡ old ++ x ∷ [] → f x ≡ get_or ys i y → map f old ≡ take i ys → map f new ≡ take (i + 1) ys
named_more f old new x ys i y below pushed is before =
    ap (map f) pushed ∙ map_push f old x ∙ ap (λ front. front ++ f x ∷ []) before
    ∙ ap (λ last. take i ys ++ last ∷ []) is ∙ sym (take_more ys i y below)

-- the call of an index
pub call_at : {A : Type 0} (kept : List (Call A)) (calls : List DeviceCall) (i : ℕ) (found : Option (Call A))
    → device_calls_of kept ≡ calls → slice_get kept i ≡ found
    → slice_get calls i ≡ option_map (λ (c : Call A). call_of c) found
call_at {A} kept calls i found is there =
    sym (ap (λ (l : List DeviceCall). slice_get l i) is) ∙ slice_get-map (λ (c : Call A). call_of c) kept i
    ∙ ap (option_map (λ (c : Call A). call_of c)) there

-- the call that was read at an index, and that there is none past the last
pub call_read : {A : Type 0} (kept : List (Call A)) (calls : List DeviceCall) (i : ℕ) (call : Call A)
    → device_calls_of kept ≡ calls
    → i < length kept → call ≡ get_or kept i call → slice_get calls i ≡ Some (call_of call)
call_read kept calls i call is below at =
    call_at kept calls i (Some call) is (slice_get_read kept (length kept) i call refl below at)

pub call_past : {A : Type 0} (kept : List (Call A)) (calls : List DeviceCall) (i : ℕ) → device_calls_of kept ≡ calls
    → length kept ≤ i
    → slice_get calls i ≡ None
call_past kept calls i is past = call_at kept calls i None is (slice_get_past kept i past)

-- what is held within a call, and after it
pub within_is : (image : List ℕ) (calls : List DeviceCall) (i : ℕ) (content : Content) (found : Option DeviceCall)
    → content ≡ content_before image calls i → slice_get calls i ≡ found
    → call_begun content found ≡ content_within image calls i
within_is image calls i content found same there =
    ap (λ (k : Content). call_begun k found) same
    ∙ ap (λ (o : Option DeviceCall). call_begun (content_before image calls i) o) (sym there)

pub after_is : (image : List ℕ) (calls : List DeviceCall) (i : ℕ) (content : Content) (found : Option DeviceCall)
    → content ≡ content_before image calls i → slice_get calls i ≡ found
    → call_ended (call_begun content found) found ≡ content_before image calls (i + 1)
after_is image calls i content found same there =
    ap (λ (k : Content). call_ended (call_begun k found) found) same
    ∙ ap (λ (o : Option DeviceCall). call_ended (call_begun (content_before image calls i) o) o) (sym there)
    ∙ ap (content_before image calls) (sym (add-one i))
