-- The batches of open journals: what the bytes say of them, and which blocks they read.
use Rattle.std.proofs.Common.{◌≡◌, ◌≢◌, ℕ, ◌+◌, ◌-◌, ◌*◌, ◌<◌, ◌≤◌, ◌⊎◌, inl, inr, Bool, true, false, ◌==◌}
use Rattle.std.proofs.Common.{◌||◌, List, [], ◌∷◌, length, take, drop, get_or, refl, sym, ap, subst, ◌∙◌, arith}
use Rattle.std.specs.List.{AllByRecursion}
use Rattle.std.proofs.lemmas.Bool.{eqb-true, false≢true}
use Rattle.std.proofs.lemmas.List.{take-take, length-take, length-take-le, drop-take, get_or-take}
use Rattle.volume_codec.specs.Files.{File}
use Rattle.volume_codec.specs.Layout.{GeometryValue, IsGeometry, IsHome, block_at, blocks_at, journals_of, gate_block}
use Rattle.volume_codec.specs.Layout.{descriptor_block, descriptor_blocks, record_block}
use Rattle.volume_codec.specs.Super.{SuperValue, IsSuper, block_count, geometry_of}
use Rattle.volume_codec.specs.Descriptor.{DescriptorValue, IsDescriptor}
use Rattle.volume_codec.specs.Recovery.{IsOpen, Batch, IsOpenBatch, AreFalling, has_journal, AreOpen, record_or}
use Rattle.volume_codec.specs.Recovery.{recovered_block, contents_in, files_in, IsVolume, Recovers, RecoversTo}
use Rattle.volume_codec.proofs.Layouts.{gate_block-low, descriptor_end-low, record_block-low, first_home-within}
use Rattle.volume_codec.proofs.Blocks.{length-block_at}
use Rattle.volume_codec.proofs.Functional.{one_table, one_descriptor}
use Rattle.volume_codec.proofs.Places.{fits_geometry}
use Rattle.volume_codec.proofs.Recovered.{record_or-cases, files_in-same}

-- the batch is one of these
abbrev pub IsAmong : Batch → List Batch → Type 0
IsAmong batch [] = ⊥
IsAmong batch (b ∷ bs) = (b ≡ batch) ⊎ IsAmong batch bs

-- a journal that has a batch
pub batch_of : (batches : List Batch) (j : ℕ) → has_journal batches j ≡ true
    → (batch : Batch) × IsAmong batch batches × (batch.journal ≡ j)
batch_of [] j h = absurd (false≢true h)
batch_of (b ∷ bs) j h = by (b.journal == j) refl h (batch_of bs j)
  where
    by : (t : Bool) → (b.journal == j) ≡ t → t || has_journal bs j ≡ true
        → (has_journal bs j ≡ true → (batch : Batch) × IsAmong batch bs × (batch.journal ≡ j))
        → (batch : Batch) × IsAmong batch (b ∷ bs) × (batch.journal ≡ j)
    by true e h rest = (b, inl refl, eqb-true b.journal j e)
    by false e h rest = let r = rest h in (r.0, inr r.1, r.2)

-- what holds of each
pub each_among : (P : Batch → Type 0) (batch : Batch) (batches : List Batch) → AllByRecursion P batches
    → IsAmong batch batches → P batch
each_among P batch [] each h = absurd h
each_among P batch (b ∷ bs) each (inl e) = subst P e each.0
each_among P batch (b ∷ bs) each (inr h) = each_among P batch bs each.1 h

-- a journal says one batch
pub one_batch : (g : GeometryValue) (bytes : List ℕ) (a b : Batch) → IsGeometry g → IsOpenBatch g bytes a
    → IsOpenBatch g bytes b → a.journal ≡ b.journal → a ≡ b
one_batch g bytes a b is x y same =
    let P : ℕ → Type 0 = λ j. IsDescriptor g (record { mark = b.mark; homes = b.homes })
    (blocks_at bytes (descriptor_block g.slots j) (descriptor_blocks g.slots)) in
    let d = one_descriptor g _ _ _ is x.descriptor (subst P (sym same) y.descriptor) in
    ap (λ (j : ℕ). let r : Batch = record { journal = j; mark = a.mark; homes = a.homes } in r) same
    ∙ ap
    (λ (d : DescriptorValue). let r : Batch = record { journal = b.journal; mark = d.mark; homes = d.homes } in r) d

-- each open batch is among all of them
pub among_open : (g : GeometryValue) (batches : List Batch) (bytes : List ℕ) (a : Batch) → IsGeometry g
    → AreOpen g batches bytes → IsOpenBatch g bytes a → IsAmong a batches
among_open g batches bytes a is are x =
    let r = batch_of batches a.journal (are.all a.journal x.there x.gate) in
    let P : Batch → Type 0 = λ b. IsAmong b batches in
    subst P (one_batch g bytes r.0 a is (each_among (IsOpenBatch g bytes) r.0 batches are.each r.1) x r.2) r.1

-- the marks fall from the first on
pub falling_among : (b a : Batch) (bs : List Batch) → AreFalling (b ∷ bs) → IsAmong a bs → a.mark < b.mark
falling_among b a [] falls h = absurd h
falling_among b a (c ∷ cs) falls (inl e) = let m = ap (λ (x : Batch). x.mark) e in omega (arith, falls.0)
falling_among b a (c ∷ cs) falls (inr h) = let m = falling_among c a cs falls.1 h in omega (arith, falls.0)

-- lists that fall and have the same batches are one
same_batches : (xs ys : List Batch) → AreFalling xs → AreFalling ys → ((a : Batch) → IsAmong a xs → IsAmong a ys)
    → ((a : Batch) → IsAmong a ys → IsAmong a xs) → xs ≡ ys
same_batches [] [] fx fy to back = refl
same_batches [] (y ∷ ys) fx fy to back = absurd (back y (inl refl))
same_batches (x ∷ xs) [] fx fy to back = absurd (to x (inl refl))
same_batches (x ∷ xs) (y ∷ ys) fx fy to back =
    joined (first (to x (inl refl)) (back y (inl refl))) (λ go come. same_batches xs ys fx.1 fy.1 go come)
  where
    first : IsAmong x (y ∷ ys) → IsAmong y (x ∷ xs) → x ≡ y
    first (inl e) h = sym e
    first (inr h) (inl e) = e
    first (inr h) (inr k) = let a = falling_among y x ys fy h in
        let b = falling_among x y xs fx k in absurd (omega arith)

    rest : x ≡ y → (a : Batch) → IsAmong a xs → IsAmong a (y ∷ ys) → IsAmong a ys
    rest e a h (inl s) = let m = falling_among x a xs fx h in
        let k = ap (λ (z : Batch). z.mark) (e ∙ s) in absurd (omega arith)
    rest e a h (inr k) = k

    rest_back : x ≡ y → (a : Batch) → IsAmong a ys → IsAmong a (x ∷ xs) → IsAmong a xs
    rest_back e a h (inl s) = let m = falling_among y a ys fy h in
        let k = ap (λ (z : Batch). z.mark) (sym e ∙ s) in absurd (omega arith)
    rest_back e a h (inr k) = k

    joined : x ≡ y
        → (((a : Batch) → IsAmong a xs → IsAmong a ys) → ((a : Batch) → IsAmong a ys → IsAmong a xs) → xs ≡ ys)
        → x ∷ xs ≡ y ∷ ys
    joined e tail =
        let tails = tail (λ a h. rest e a h (to a (inr h))) (λ a h. rest_back e a h (back a (inr h))) in
        ap (λ (z : Batch). z ∷ xs) e ∙ ap (λ (zs : List Batch). y ∷ zs) tails

-- bytes have one list of open batches
pub one_list : (g : GeometryValue) (batches others : List Batch) (bytes : List ℕ) → IsGeometry g
    → AreOpen g batches bytes → AreOpen g others bytes → batches ≡ others
one_list g batches others bytes is a b =
    same_batches batches others a.falling b.falling
    (λ x h. among_open g others bytes x is b (each_among (IsOpenBatch g bytes) x batches a.each h))
    (λ x h. among_open g batches bytes x is a (each_among (IsOpenBatch g bytes) x others b.each h))

-- and recover to one table and the same contents
pub one_contents : (v w : SuperValue) (contents others : ℕ → List ℕ) (bytes : List ℕ) → Recovers v contents bytes
    → Recovers w others bytes
    → (v ≡ w) × ((b : ℕ) → IsHome (geometry_of v) b → contents b ≡ others b)
one_contents v w contents others bytes r s =
    let tables = one_table v w (block_at bytes 0) r.volume.super_block s.volume.super_block in
    let P : SuperValue → Type 0 = λ u. Recovers u others bytes in
    let t = subst P (sym tables) s in
    let lists = one_list (geometry_of v) r.batches t.batches bytes
    (fits_geometry v r.volume.super_block.fits) r.volume.journals t.volume.journals in (
      tables,
      λ b home. r.contents_are b home ∙ ap (λ (batches : List Batch). contents_in v.slots batches bytes b) lists
          ∙ sym (t.contents_are b home),
    )

-- so they recover to one list of files
pub one_recovery : (bytes : List ℕ) (files others : List File) → RecoversTo bytes files → RecoversTo bytes others
    → files ≡ others
one_recovery bytes files others r s =
    let same = one_contents r.table s.table r.contents s.contents bytes r.recovers s.recovers in
    r.files_are ∙ files_in-same r.table r.contents s.contents same.1
    ∙ ap (λ (v : SuperValue). files_in v s.contents) same.0 ∙ sym s.files_are

-- what stands for a block of the volume lies within it
pub recovered_block-within : (g : GeometryValue) (bytes : List ℕ) (batches : List Batch) (b : ℕ) → IsGeometry g
    → AllByRecursion (IsOpenBatch g bytes) batches → b < g.blocks → recovered_block g.slots batches b < g.blocks
recovered_block-within g bytes [] b is each h = h
recovered_block-within g bytes (batch ∷ older) b is each h = by (record_or-cases (recovered_block g.slots older b)
    (record_block g.slots batch.journal 0) batch.homes b) (recovered_block-within g bytes older b is each.1 h)
  where
    by : ((i : ℕ) × (i < length batch.homes) × (get_or batch.homes i 0 ≡ b) × (record_or (recovered_block g.slots older
        b) (record_block g.slots batch.journal 0) batch.homes b ≡ record_block g.slots batch.journal 0 + i))
        ⊎ (AllByRecursion (λ home. home ≢ b) batch.homes × (record_or (recovered_block g.slots older b)
        (record_block g.slots batch.journal 0) batch.homes b ≡ recovered_block g.slots older b))
        → recovered_block g.slots older b < g.blocks → recovered_block g.slots (batch ∷ older) b < g.blocks
    by (inl at) rest =
        let few = each.0.descriptor.described.homes.few in
        let low = record_block-low g.layout g.slots batch.journal at.0 each.0.there (omega (arith, at.1)) in
        omega (arith, at.3, first_home-within g is)
    by (inr none) rest = omega (arith, none.1)

-- the blocks of contents are whole
pub length-contents_in : (v : SuperValue) (batches : List Batch) (bytes : List ℕ) (b : ℕ) → IsVolume v batches bytes
    → b < block_count v → length (contents_in v.slots batches bytes b) ≡ 4096
length-contents_in v batches bytes b is h =
    let within = recovered_block-within (geometry_of v) bytes batches b
    (fits_geometry v is.super_block.fits) is.journals.each h in
    length-block_at bytes (recovered_block v.slots batches b) (omega (arith, is.long))

pub length-recovered : (v : SuperValue) (contents : ℕ → List ℕ) (bytes : List ℕ) (b : ℕ) → Recovers v contents bytes
    → IsHome (geometry_of v) b → length (contents b) ≡ 4096
length-recovered v contents bytes b r home =
    ap length (r.contents_are b home) ∙ length-contents_in v r.batches bytes b r.volume home.high

-- the same open batches, where gates that are open were, and the batches' gates and descriptors stay
each_same : (g : GeometryValue) (batches : List Batch) (old new : List ℕ)
    → ((batch : Batch) → IsOpenBatch g old batch → IsAmong batch batches → IsOpen new g.slots batch.journal
    × (blocks_at new (descriptor_block g.slots batch.journal) (descriptor_blocks g.slots)
    ≡ blocks_at old (descriptor_block g.slots batch.journal) (descriptor_blocks g.slots)))
    → AllByRecursion (IsOpenBatch g old) batches → AllByRecursion (IsOpenBatch g new) batches
each_same g [] old new h each = tt
each_same g (b ∷ bs) old new h each =
    let s = h b each.0 (inl refl) in
    let P : List ℕ → Type 0 = λ block. IsDescriptor g (record { mark = b.mark; homes = b.homes }) block in (
      record { there = each.0.there; gate = s.0; descriptor = subst P (sym s.1) each.0.descriptor },
      each_same g bs old new (λ batch is among. h batch is (inr among)) each.1,
    )

pub are_open-same : (g : GeometryValue) (batches : List Batch) (old new : List ℕ)
    → ((j : ℕ) → j < journals_of g.layout → IsOpen new g.slots j → IsOpen old g.slots j)
    → ((batch : Batch) → IsOpenBatch g old batch → IsAmong batch batches → IsOpen new g.slots batch.journal
    × (blocks_at new (descriptor_block g.slots batch.journal) (descriptor_blocks g.slots)
    ≡ blocks_at old (descriptor_block g.slots batch.journal) (descriptor_blocks g.slots)))
    → AreOpen g batches old → AreOpen g batches new
are_open-same g batches old new back stay are = record {
  each = each_same g batches old new stay are.each;
  all = λ j there gate. are.all j there (back j there gate);
  falling = are.falling;
}

-- a block of the first of some bytes
block_at-take : (bytes : List ℕ) (n i : ℕ) → i < n → block_at (take (4096 * n) bytes) i ≡ block_at bytes i
block_at-take bytes n i h =
    let split : 4096 * n ≡ 4096 * i + 4096 * (n - i) = omega arith in
    ap (λ k. take 4096 (drop (4096 * i) (take k bytes))) split ∙ ap (take 4096) (drop-take (4096 * i)
    (4096 * (n - i)) bytes) ∙ take-take 4096 (4096 * (n - i)) (drop (4096 * i) bytes) (omega arith)

pub block_at-front : (bytes other : List ℕ) (n i : ℕ) → take (4096 * n) other ≡ take (4096 * n) bytes → i < n
    → block_at other i ≡ block_at bytes i
block_at-front bytes other n i e h =
    sym (block_at-take other n i h) ∙ ap (λ (front : List ℕ). block_at front i) e ∙ block_at-take bytes n i h

blocks_at-take : (bytes : List ℕ) (n i m : ℕ) → i + m ≤ n → blocks_at (take (4096 * n) bytes) i m ≡ blocks_at bytes i m
blocks_at-take bytes n i m h =
    let split : 4096 * n ≡ 4096 * i + 4096 * (n - i) = omega arith in
    ap (λ k. take (4096 * m) (drop (4096 * i) (take k bytes))) split
    ∙ ap (take (4096 * m)) (drop-take (4096 * i) (4096 * (n - i)) bytes)
    ∙ take-take (4096 * m) (4096 * (n - i)) (drop (4096 * i) bytes) (omega arith)

blocks_at-front : (bytes other : List ℕ) (n i m : ℕ) → take (4096 * n) other ≡ take (4096 * n) bytes → i + m ≤ n
    → blocks_at other i m ≡ blocks_at bytes i m
blocks_at-front bytes other n i m e h =
    sym (blocks_at-take other n i m h) ∙ ap (λ (front : List ℕ). blocks_at front i m) e ∙ blocks_at-take bytes n i m h

-- a volume lies in its first blocks
pub recovers_front : (v : SuperValue) (contents : ℕ → List ℕ) (bytes other : List ℕ) → Recovers v contents bytes
    → take (4096 * block_count v) other ≡ take (4096 * block_count v) bytes → Recovers v contents other
recovers_front v contents bytes other r e =
    let g = geometry_of v in
    let is = fits_geometry v r.volume.super_block.fits in
    let low = first_home-within g is in
    let n = block_count v in
    let whole = length-take-le (4096 * n) bytes r.volume.long in
    let long : 4096 * n ≤ length other = omega (arith, length-take (4096 * n) other, ap length e, whole) in
    let gate : (j : ℕ) → j < journals_of v.layout
    → get_or other (4096 * gate_block v.slots j) 0 ≡ get_or bytes (4096 * gate_block v.slots j) 0 =
    λ j there.
    let under = gate_block-low v.layout v.slots j there in
    sym (get_or-take (4096 * n) other (4096 * gate_block v.slots j) 0 (omega arith))
    ∙ ap (λ (front : List ℕ). get_or front (4096 * gate_block v.slots j) 0) e
    ∙ get_or-take (4096 * n) bytes (4096 * gate_block v.slots j) 0 (omega arith) in
    let same : (i : ℕ) → i < n → block_at other i ≡ block_at bytes i = λ i h. block_at-front bytes other n i e h in
    let P : List ℕ → Type 0 = λ block. IsSuper v block in
    record {
      batches = r.batches;
      volume = record {
        super_block = subst P (sym (same 0 (omega arith))) r.volume.super_block;
        long = long;
        journals = are_open-same g r.batches bytes other
            (λ j there o. sym (gate j there) ∙ o)
            (λ batch b among. (
              gate batch.journal b.there ∙ b.gate,
              let under = descriptor_end-low v.layout v.slots batch.journal b.there in
                  blocks_at-front bytes other n (descriptor_block v.slots batch.journal)
                  (descriptor_blocks v.slots) e (omega arith),
            ))
            r.volume.journals;
      };
      contents_are = λ b home. r.contents_are b home ∙ sym (same (recovered_block v.slots r.batches b)
          (recovered_block-within g bytes r.batches b is r.volume.journals.each home.high));
    }
