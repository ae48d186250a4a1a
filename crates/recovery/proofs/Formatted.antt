-- A device that was erased, its gates closed and its table written is a blank volume, and what a crash leaves of that.
use Rattle.std.proofs.Common.{◌≡◌, ◌≢◌, ◌≤◌, ◌<◌, ◌⊎◌, ℕ, ◌+◌, ◌-◌, ◌*◌, inl, inr, List, ◌++◌, refl}
use Rattle.std.proofs.Common.{length, get_or, length-append, Result, Ok, Err, OnOk, sym, ◌∙◌, ap, subst, arith}
use Rattle.std.proofs.lemmas.List.{ext_get_or, length-map}
use Rattle.device.specs.Device.{written, Torn, TornFrom, LeavesOnly}
use Rattle.device.specs.declared.device.Device.{Ghosts}
use Rattle.device.proofs.Moments.{leaves_weaker, leaves_on}
use Rattle.device.proofs.Ranges.{torn_by_write, torn_after, torn_twice, torn_wider}
use Rattle.volume_codec.specs.Layout.{GeometryValue, journals_of, gate_block, first_home}
use Rattle.volume_codec.specs.Layout.{first_file_home, lengths_blocks, block_at}
use Rattle.volume_codec.specs.Lengths.{lengths_text}
use Rattle.volume_codec.specs.declared.file_spec.FileSpec.{FileSpec}
use Rattle.volume_codec.specs.Files.{AskedFile, asked_by}
use Rattle.volume_codec.specs.Text.{zeros}
use Rattle.volume_codec.specs.Super.{SuperValue, Fits, IsSuper, IsAsked, super_head}
use Rattle.volume_codec.specs.Super.{entries_text, super_text, geometry_of, block_count}
use Rattle.volume_codec.proofs.Blocks.{length-block_at, get_or-block_at, block_at-agree}
use Rattle.volume_codec.proofs.Layouts.{gate_block-low, first_home-within}
use Rattle.volume_codec.proofs.Lengths.{table_file}
use Rattle.volume_codec.proofs.Padding.{length-zeros, length-padded}
use Rattle.volume_codec.proofs.Places.{fits_geometry}
use Rattle.volume_codec.proofs.Spelling.{length-super_head, length-entries_text}
use Rattle.page_entry.specs.declared.refusal.Refusal.{Refusal}
use Rattle.recovery.specs.Format.{HasShape, IsEmptied, IsBlank, IsPartlyFormatted}
use Rattle.recovery.specs.inside.Erasing.{IsErased, AreEmptied, AreClosed}
use Rattle.recovery.specs.inside.Writing.{HasOverwritten, HasFinished}
use Rattle.recovery.proofs.BlockRanges.{block_at-before, block_at-after, block_at-written}
use Rattle.recovery.proofs.Erased.{get_or-zeros}

-- a block all of whose bytes are 0
pub block_zeros : (bytes : List ℕ) (b : ℕ) → 4096 * b + 4096 ≤ length bytes
    → ((i : ℕ) → 4096 * b ≤ i → i < 4096 * b + 4096 → get_or bytes i 0 ≡ 0) → block_at bytes b ≡ zeros 4096
block_zeros bytes b long zero =
    let size = length-block_at bytes b long in
    ext_get_or 0 (block_at bytes b) (zeros 4096) (size ∙ sym (length-zeros 4096))
    (λ k h. get_or-block_at bytes b k 0 (omega (arith, size)) ∙ zero (4096 * b + k) (omega arith) (omega (arith, size))
    ∙ sym (get_or-zeros 4096 k))

-- a super block has 4,096 bytes
pub length-super_text : (v : SuperValue) → Fits v → length (super_text v) ≡ 4096
length-super_text v fits =
    let entries = entries_text (first_file_home v.layout v.slots) v.files in
    length-padded 4096 (super_head v ++ entries)
    (omega (
      arith,
      length-append (super_head v) entries,
      length-super_head v,
      length-entries_text (first_file_home v.layout v.slots) v.files fits.each,
      fits.few_files,
    ))

module _ (table : SuperValue) (g : GeometryValue) (lengths old mid shut : List ℕ) (fits : Fits table)
    (long : 4096 * block_count table ≤ length old) (same : g ≡ geometry_of table)
    (emptying : AreEmptied g lengths old mid) (closing : AreClosed g.slots (journals_of g.layout) mid shut) where
  closed : AreClosed table.slots (journals_of table.layout) mid shut
  closed = let P : GeometryValue → Type 0 =
      λ h. AreClosed h.slots (journals_of h.layout) mid shut in subst P same closing

  homes : AreEmptied (geometry_of table) lengths old mid
  homes = let P : GeometryValue → Type 0 = λ h. AreEmptied h lengths old mid in subst P same emptying

  homes_within : first_home table.layout table.slots < block_count table
  homes_within = first_home-within (geometry_of table) (fits_geometry table fits)

  no_gate : (i : ℕ) → 4096 * first_home table.layout table.slots ≤ i → (j : ℕ) → j < journals_of table.layout
      → i ≢ 4096 * gate_block table.slots j
  no_gate i h j there same = let under = gate_block-low table.layout table.slots j there in omega (arith, same)

  -- the lengths stay where the gates are closed
  stays : (b : ℕ) → first_home table.layout table.slots ≤ b → block_at shut b ≡ block_at mid b
  stays b low = block_at-agree shut mid b closed.same_length
      (λ k from to. closed.others k (no_gate k (omega (arith, low, from))))

  pub laid : IsEmptied table lengths shut
  laid =
      let room = homes_within in
      let size : length shut ≡ length old = closed.same_length ∙ homes.same_length in
      record {
        long = omega (arith, size, long);
        gates = closed.gates;
        lengths_block = λ some. stays (first_home table.layout table.slots) (omega arith) ∙ homes.lengths_block some;
        homes = λ b low high. block_zeros shut b (omega (arith, size, long, high))
            (λ i from to. closed.others i (no_gate i (omega (arith, low, from)))
            ∙ homes.zero i (omega (arith, low, from)) (omega (arith, high, to)));
      }

-- whatever block 0 holds
pub emptied_torn : (table : SuperValue) (lengths shut c : List ℕ) → IsEmptied table lengths shut → Torn 0 4096 shut c
    → IsEmptied table lengths c
emptied_torn table lengths shut c laid torn = record {
  long = omega (arith, laid.long, torn.same_length);
  gates = λ j there. torn_after torn (4096 * gate_block table.slots j) (omega arith) ∙ laid.gates j there;
  lengths_block = λ some. block_at-after torn (first_home table.layout table.slots) (omega arith)
      ∙ laid.lengths_block some;
  homes = λ b low high. block_at-after torn b (omega (arith, low)) ∙ laid.homes b low high;
}

-- a block 0 that was written says the table
pub first_block : (table : SuperValue) (shut new : List ℕ) → Fits table → 4096 ≤ length shut
    → new ≡ written shut 0 (super_text table) → IsSuper table (block_at new 0) × Torn 0 4096 shut new
first_block table shut new fits long is =
    let text = super_text table in
    let whole = length-super_text table fits in
    let fit : 0 + length text ≤ length shut = omega (arith, whole, long) in
    let P : List ℕ → Type 0 = λ bytes. IsSuper table bytes in
    let Q : List ℕ → Type 0 = λ bytes. Torn 0 4096 shut bytes in
    let first : block_at new 0 ≡ text = ap (λ (bytes : List ℕ). block_at bytes 0) is
    ∙ block_at-written shut 0 text whole (omega (arith, whole, fit)) in (
      subst P (sym first) (record { fits = fits; spelled = refl }),
      subst Q (sym is) (torn_wider (torn_by_write shut 0 text fit) 0 4096 (omega arith) (omega (arith, whole))),
    )

pub blank : (table : SuperValue) (lengths shut new : List ℕ) → Fits table → IsEmptied table lengths shut
    → new ≡ written shut 0 (super_text table) → IsBlank table lengths new
blank table lengths shut new fits laid is =
    let first = first_block table shut new fits (omega (arith, laid.long)) is in
    record { super_block = first.0; rest = emptied_torn table lengths shut new laid first.1 }

-- block 0 is as before while what is torn lies past it
pub partly_torn : (table : SuperValue) (lengths : List ℕ) (lists : List ℕ → Type 0) (c : List ℕ) → 1 ≤ block_count table
    → TornFrom 4096 (4096 * block_count table - 4096) lists c → IsPartlyFormatted table lengths lists c
partly_torn table lengths lists c some torn = record {
  before = torn.0;
  left = torn.1;
  within = torn_wider torn.2 0 (4096 * block_count table) (omega arith) (omega (arith, some));
  first = inl (block_at-before torn.2 0 (omega arith));
}

-- once the rest is emptied and synced, block 0 may be torn
pub partly_emptied : (table : SuperValue) (lengths : List ℕ) (lists : List ℕ → Type 0) (shut c : List ℕ)
    → 1 ≤ block_count table → TornFrom 4096 (4096 * block_count table - 4096) lists shut → Torn 0 4096 shut c
    → IsEmptied table lengths c
    → IsPartlyFormatted table lengths lists c
partly_emptied table lengths lists shut c some was torn rest = record {
  before = was.0;
  left = was.1;
  within = torn_twice (torn_wider was.2 0 (4096 * block_count table) (omega arith) (omega (arith, some)))
      (torn_wider torn 0 (4096 * block_count table) (omega arith) (omega (arith, some)));
  first = inr rest;
}

-- it is being laid out, and then its table is being written
module _ {D X : Type 0} (disk : Ghosts D) (table : SuperValue) (lengths : List ℕ) (some : 1 ≤ block_count table) where
  pub time_of_laying : {old new : D} {calls : ℕ} {result : Result X Refusal}
      → HasOverwritten disk 4096 (4096 * block_count table - 4096) calls old result new
      → LeavesOnly disk.moment disk.left_since old new (IsPartlyFormatted table lengths (disk.may_leave old))
  time_of_laying {old} {new} laying =
      leaves_weaker laying.time (λ c torn. partly_torn table lengths (disk.may_leave old) c some torn)

  pub time_of_finishing : {Y : Type 0} {old mid new : D} {calls : ℕ} {result : Result X Refusal}
      {last : Result Y Refusal} {block : List ℕ}
      → HasOverwritten disk 4096 (4096 * block_count table - 4096) calls old result mid → disk.is_honest mid
      → IsEmptied table lengths (disk.seen mid) → HasFinished disk block mid last new
      → LeavesOnly disk.moment disk.left_since old new (IsPartlyFormatted table lengths (disk.may_leave old))
  time_of_finishing {Y} {old} {mid} {new} {calls} {result} {last} {block} laying honest rest finishing =
      leaves_on (time_of_laying laying) (finishing.time honest) each
    where
      each : (c : List ℕ) → disk.may_leave mid c ⊎ (disk.may_leave mid (disk.seen mid) × Torn 0 4096 (disk.seen mid) c)
          → IsPartlyFormatted table lengths (disk.may_leave old) c
      each c (inl may) = partly_torn table lengths (disk.may_leave old) c some (laying.left c may)
      each c (inr torn) =
          partly_emptied table lengths (disk.may_leave old) (disk.seen mid) c some
          (laying.left (disk.seen mid) torn.0) torn.1 (emptied_torn table lengths (disk.seen mid) c rest torn.1)

-- two facts of a call that succeeded
pub both_ok : {T E : Type 0} (A B : Type 0) (r : Result T E) → OnOk r A → OnOk r B → OnOk r (A × B)
both_ok A B (Ok x) a b = (a, b)
both_ok A B (Err e) a b = tt

-- the lengths were written over zeros
pub are_emptied : (g : GeometryValue) (lengths old mid new : List ℕ) (low high : ℕ)
    → low ≡ 4096 * first_home g.layout g.slots → high ≡ 4096 * g.blocks → IsErased low high old mid
    → Torn (4096 * first_home g.layout g.slots) (4096 * lengths_blocks g.layout) mid new
    → (0 < lengths_blocks g.layout → block_at new (first_home g.layout g.slots) ≡ lengths_text lengths)
    → AreEmptied g lengths old new
are_emptied g lengths old mid new low high at_low at_high erased torn said = record {
  same_length = torn.same_length ∙ erased.same_length;
  lengths_block = said;
  zero = λ i from to. torn_after torn i (omega (arith, from))
      ∙ erased.zero i (omega (arith, at_low, from)) (omega (arith, at_high, to));
}

-- no more files are asked for than a table has
pub asked_few : (layout slots : ℕ) (files : List FileSpec) (table : SuperValue)
    → IsAsked layout (asked_by files) slots table → length files ≤ 64
asked_few layout slots files table asked =
    let first = ap length asked.files_are ∙ length-map (asked_by files) table_file in
    let second = length-map files (λ (f : FileSpec).
    let r : AskedFile = record { name = f.name.now; length = f.length; capacity = f.capacity } in r) in
    omega (arith, first, second, asked.fits.few_files)

-- the lengths are written where they are read
pub said_there : (home at : ℕ) (old new block : List ℕ) → at ≡ 4096 * home → 4096 * home + 4096 ≤ length old
    → length block ≡ 4096 → new ≡ written old at block → block_at new home ≡ block
said_there home at old new block place fits whole is =
    let here : new ≡ written old (4096 * home) block = is ∙ ap (λ k. written old k block) place in
    ap (λ (bytes : List ℕ). block_at bytes home) here ∙ block_at-written old home block whole fits

-- the shape of what is asked for on a device of so many bytes
pub shape_here : (layout : ℕ) (files : List AskedFile) (slots bytes size : ℕ) (table : SuperValue) → bytes ≡ size
    → HasShape layout files slots bytes table → HasShape layout files slots size table
shape_here layout files slots bytes size table same shape =
    record { asked = shape.asked; long = omega (arith, same, shape.long) }
