-- A machine is as it was made exactly where a look at its layers says so, since space 0 never maps anything.
use Rattle.machine.proofs.Names.{ℕ, ◌≡◌, Bool, true, false, cond, eqb, get_or, Option, Some, None, is_some, unwrap_or}
use Rattle.machine.proofs.Names.{refl, sym, ap, ◌∙◌, arith, nat_cmp, nat_cmp_total, false≢true, nat_tests}
use Rattle.machine.proofs.Names.{Contains-get_or, All-contains, All, Mapped, AddressSpace, Spaces, empty_space}
use Rattle.machine.proofs.Names.{has_space, space_at, first_spaces, AreSpaces, same_spaces, has_space-first_spaces}
use Rattle.machine.proofs.Names.{get-with_space, in_pcids, Contains-pcids, zero, suc, ◌<◌, not, ◌&&◌, List, [], ◌∷◌}
use Rattle.machine.proofs.Names.{length, replicate, subst, length-replicate, get_or-replicate, Frame, has_used}
use Rattle.machine.proofs.Names.{SuperValue, fresh_processor, fresh_checkpoint, none_of, Shape, State, IsShape, IsFresh}
use Rattle.machine.proofs.Names.{fresh, IsSound}
use Rattle.machine.specs.inside.Freshness.{shape_of, LooksFresh}
use Rattle.std.specs.FinMap as maps

-- ---- space 0 alone: it maps nothing

-- a map that answers nothing is empty
empty_map : {X : Type 0} (m : maps.FinMap nat_cmp X) → ((key : ℕ) → maps.get m key ≡ None) → m ≡ maps.empty
empty_map m none = maps.same_map nat_cmp_total maps.nat_cmp-IsAntisymmetric m maps.empty
    (λ key. none key ∙ sym (maps.get-empty nat_cmp key))

-- an entry stands only where a page is mapped, so that a space that maps nothing has none
no_entry : (m : Spaces) → AreSpaces m → (page : ℕ) → maps.get (space_at m 0).entries page ≡ None
no_entry m are page = by (maps.get (space_at m 0).entries page) refl
  where
    by : (o : Option Mapped) → maps.get (space_at m 0).entries page ≡ o → o ≡ None
    by None is = refl
    by (Some entry) is = absurd (let mapped = are.mapped 0 page entry is in let none = are.nowhere page in cc)

empty_first : (m : Spaces) → AreSpaces m → space_at m 0 ≡ empty_space
empty_first m are =
    let entries = empty_map (space_at m 0).entries (no_entry m are) in
    let places = empty_map (space_at m 0).places are.nowhere in
    λ i. record { entries = entries i; places = places i }

there : (o : Option AddressSpace) → is_some o ≡ true → o ≡ Some (unwrap_or o empty_space)
there None some = absurd (cc)
there (Some s) some = refl

missing : (o : Option AddressSpace) → is_some o ≡ false → o ≡ None
missing None none = refl
missing (Some s) none = absurd (cc)

-- no space at all
abbrev nothing : Spaces
nothing = maps.empty

pub first_alone : (m : Spaces) → AreSpaces m → All (λ pcid. pcid ≡ 0) (maps.keys m) → m ≡ first_spaces
first_alone m are only = same_spaces m first_spaces (λ q. get_first q ∙ sym (get-with_space nothing 0 empty_space q))
  where
    other : (q : ℕ) → eqb q 0 ≡ false → (b : Bool) → has_space m q ≡ b → b ≡ false
    other q away false is = refl
    other q away true is = absurd (let here : q ≡ 0 = All-contains (λ pcid. pcid ≡ 0) (maps.keys m) q only
        (Contains-pcids m q is) in let same : eqb q 0 ≡ true = grind (arith, nat_tests) in false≢true (sym away ∙ same))

    by : (q : ℕ) (b : Bool) → eqb q 0 ≡ b → maps.get m q ≡ cond b (Some empty_space) (maps.get nothing q)
    by q true is =
        let zero : q ≡ 0 = grind (arith, nat_tests) in
        ap (maps.get m) zero ∙ there (maps.get m 0) are.first ∙ ap (λ (s : AddressSpace). Some s) (empty_first m are)
    by q false is = missing (maps.get m q) (other q is (has_space m q) refl) ∙ sym (maps.get-empty nat_cmp q)

    get_first : (q : ℕ) → maps.get m q ≡ cond (eqb q 0) (Some empty_space) (maps.get nothing q)
    get_first q = by q (eqb q 0) refl

pub alone_first : (m : Spaces) → m ≡ first_spaces → All (λ pcid. pcid ≡ 0) (maps.keys m)
alone_first m is = λ k d within.
    let there : has_space m (get_or (maps.keys m) k d) ≡ true =
    in_pcids m (get_or (maps.keys m) k d) (Contains-get_or (maps.keys m) k d within) in
    let zero : eqb (get_or (maps.keys m) k d) 0 ≡ true = sym (ap (λ (x : Spaces).
    has_space x (get_or (maps.keys m) k d)) is ∙ has_space-first_spaces (get_or (maps.keys m) k d)) ∙ there in
    grind (arith, nat_tests)

-- ---- a machine is as it was made exactly where a look at its layers says so, since space 0 never maps anything

none_used : {X : Type 0} (xs : List (Option X)) → has_used xs ≡ false → xs ≡ replicate (length xs) None
none_used [] unused = refl
none_used (None ∷ xs) unused = ap (λ xs. None ∷ xs) (none_used xs unused)
none_used (Some x ∷ xs) unused = cc

unused_replicate : (X : Type 0) (n : ℕ) → has_used {X = X} (replicate n None) ≡ false
unused_replicate X zero = refl
unused_replicate X (suc n) = unused_replicate X n

both_unused : (a b : Bool) → (not a && not b) ≡ true → (a ≡ false) × (b ≡ false)
both_unused true b is = cc
both_unused false true is = cc
both_unused false false is = (refl, refl)

pub fresh_by_look : (s : State) → IsSound s → IsShape s.table (shape_of s) → LooksFresh s → IsFresh s
fresh_by_look s sound fits look =
    let unused = both_unused (has_used s.hardware.memory.frames) (has_used s.hardware.memory.copies) look.memory in
    let frames = none_used s.hardware.memory.frames unused.0 in
    let copies = none_used s.hardware.memory.copies unused.1 in
    let spaces = first_alone s.hardware.spaces sound.spaces.spaces look.spaces in
    let checkpoint = look.checkpoint ∙ ap fresh_checkpoint sound.memory.notes in
    let write_outs = look.write_outs ∙ ap none_of sound.write_outs.geometry in
    record {
      shape = shape_of s;
      fits = fits;
      as_booted = λ i. record {
        table = s.table;
        lengths = s.lengths;
        hardware = record {
          shootdown = look.shootdown i;
          spaces = spaces i;
          memory = record { frames = frames i; copies = copies i };
        };
        checkpoint = checkpoint i;
        write_outs = write_outs i;
        marks = look.marks i;
        resized = look.resized i;
      };
    }

-- the shape of a machine that was just made
shape_fresh : (table : SuperValue) (lengths : List ℕ) (shape : Shape) → 0 < shape.cpus
    → shape_of (fresh table lengths shape) ≡ shape
shape_fresh table lengths shape some =
    let sized : (n : ℕ) → length {A = Option Frame} (replicate n None) ≡ n = λ n. length-replicate n None in
    let first = get_or-replicate shape.cpus 0 (fresh_processor shape.tlb) (fresh_processor 1) some in λ i. record {
      cpus = length-replicate shape.cpus (fresh_processor shape.tlb) i;
      tlb = (first i).tlb.capacity;
      frames = sized shape.frames i;
      copies = sized shape.copies i;
    }

look_fresh : (table : SuperValue) (lengths : List ℕ) (shape : Shape) → 0 < shape.cpus
    → LooksFresh (fresh table lengths shape)
look_fresh table lengths shape some =
    let same = shape_fresh table lengths shape some in record {
      shootdown =
          λ i. record { processors = replicate ((sym same i).cpus) (fresh_processor ((sym same i).tlb)); lock = None };
      spaces = alone_first first_spaces refl;
      memory = λ i. not (unused_replicate Frame shape.frames i) && not (unused_replicate Frame shape.copies i);
      checkpoint = ap fresh_checkpoint (sym (length-replicate shape.frames false));
      write_outs = refl;
      marks = refl;
      resized = refl;
    }

pub look_of_fresh : (s : State) → IsFresh s → IsShape s.table (shape_of s) × LooksFresh s
look_of_fresh s is =
    subst (λ (t : State). IsShape t.table (shape_of t) × LooksFresh t) (sym is.as_booted) (
      subst (λ shape. IsShape s.table shape)
          (sym (shape_fresh s.table s.lengths is.shape is.fits.some_processors)) is.fits,
      look_fresh s.table s.lengths is.shape is.fits.some_processors,
    )

-- the same of a state that equals the layers', and of their shape
pub to_fresh : (s t : State) (shape : Shape) → s ≡ t → shape ≡ shape_of s → IsSound s → IsShape s.table shape
    → LooksFresh s → IsFresh t
to_fresh s t shape same is sound fits look =
    subst (λ (t : State). IsFresh t) same (fresh_by_look s sound (subst (λ shape. IsShape s.table shape) is fits) look)

pub from_fresh : (s t : State) (shape : Shape) → s ≡ t → shape ≡ shape_of s → IsFresh t
    → IsShape s.table shape × LooksFresh s
from_fresh s t shape same is fresh =
    let look = look_of_fresh s (subst (λ (t : State). IsFresh t) (sym same) fresh) in
    (subst (λ shape. IsShape s.table shape) (sym is) look.0, look.1)
