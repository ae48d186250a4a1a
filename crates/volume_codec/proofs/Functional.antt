-- Reading what was spelled gives the value back, so the grammar relates at most one value to a block.
use Rattle.std.proofs.Common.{◌≡◌, ℕ, zero, suc, ◌+◌, ◌-◌, ◌*◌, ◌^◌, ◌<◌, ◌≤◌, Bool, true, cond, not, ◌==◌, List}
use Rattle.std.proofs.Common.{[], ◌∷◌, ◌++◌, length, take, drop, refl, sym, ap, subst, ◌∙◌, arith, append_assoc}
use Rattle.std.specs.List.{AllByRecursion, prefix_len, flat_map}
use Rattle.std.proofs.lemmas.List.{take_at, drop_at}
use Rattle.std.proofs.lemmas.Bool.Decides.{nat_tests}
use Rattle.byteorder.specs.Numbers.{big_number-reads_back}
use Rattle.volume_codec.specs.declared.file_spec.FileSpec.{FileSpec}
use Rattle.volume_codec.specs.declared.layout.Layout.{Layout}
use Rattle.volume_codec.specs.Files.{TableFile, asked_by}
use Rattle.volume_codec.specs.Layout.{GeometryValue, IsGeometry, number_of, magic_of}
use Rattle.volume_codec.specs.Layout.{descriptor_blocks, first_home, first_file_home}
use Rattle.volume_codec.specs.Text.{number_text, number_in, numbers_in, zeros, padded}
use Rattle.volume_codec.specs.Super.{SuperValue, IsName, IsNameByte, IsTableFile, Fits, IsSuper, IsAsked, pages_of}
use Rattle.volume_codec.specs.Super.{total_pages, block_count, entry_text, entries_text, super_head, super_text}
use Rattle.volume_codec.specs.Descriptor.{DescriptorValue, RiseWithin, AreHomes}
use Rattle.volume_codec.specs.Descriptor.{IsDescribed, IsDescriptor, descriptor_text}
use Rattle.volume_codec.specs.inside.Reading.{name_in, file_in, table_files_in}
use Rattle.volume_codec.specs.inside.Tables.{files_asked_for, table_of, AreFull}
use Rattle.volume_codec.proofs.Layouts.{magic_of-injective, length-magic_of, few_slots}
use Rattle.volume_codec.proofs.Padding.{length-zeros, length-padded, drop-past}
use Rattle.volume_codec.proofs.ReadingLemmas.{length-numbers_in}
use Rattle.volume_codec.proofs.Spelling.{length-number_text, length-entry_text}
use Rattle.volume_codec.proofs.TableLemmas.{table_asked, full_have}

-- a number is read back
pub number_in-text : (n x : ℕ) (rest : List ℕ) → x < 256 ^ n → number_in n (number_text n x ++ rest) ≡ x
unfolding number_in number_text
number_in-text n x rest h = big_number-reads_back n x rest h

-- nothing stands before zeros
before_zeros : (n : ℕ) → prefix_len (λ b. not (b == 0)) (zeros n) ≡ 0
unfolding zeros
before_zeros zero = refl
before_zeros (suc n) = refl

before_name : (name : List ℕ) (n : ℕ) → AllByRecursion IsNameByte name
    → prefix_len (λ b. not (b == 0)) (name ++ zeros n) ≡ length name
before_name [] n h = before_zeros n
before_name (b ∷ bs) n h =
    let rest = before_name bs n h.1 in
    let test : not (b == 0) ≡ true = grind (arith, nat_tests) in
    ap (λ (t : Bool). cond t (1 + prefix_len (λ b. not (b == 0)) (bs ++ zeros n)) 0) test ∙ omega arith

-- a name is read back
pub name_in-padded : (name rest : List ℕ) → IsName name → name_in (padded 32 name ++ rest) ≡ name
name_in-padded name rest is =
    let field = take_at (padded 32 name) rest 32 (length-padded 32 name is.short) in
    let len = before_name name (32 - length name) is.printable in
    ap (λ (bytes : List ℕ). take (prefix_len (λ b. not (b == 0)) bytes) bytes) field
    ∙ ap (λ (n : ℕ). take n (padded 32 name)) len ∙ take_at name (zeros (32 - length name)) (length name) refl

group_entry : (a b c d e : List ℕ) → a ++ b ++ c ++ d ++ e ≡ a ++ (b ++ (c ++ (d ++ e)))
group_entry a b c d e = simp append_assoc

-- a file is read back
pub file_in-entry : (home : ℕ) (f : TableFile) (rest : List ℕ) → IsTableFile f → f.capacity < 256 ^ 8
    → file_in (entry_text home f ++ rest) ≡ f
file_in-entry home f rest is small =
    let tail = number_text 4 home ++ (number_text 4 (pages_of f.capacity) ++ rest) in
    let e : entry_text home f ++ rest ≡ padded 32 f.name ++ (number_text 8 f.capacity ++ tail) = group_entry
    (padded 32 f.name) (number_text 8 f.capacity) (number_text 4 home) (number_text 4 (pages_of f.capacity)) rest in
    let named = name_in-padded f.name (number_text 8 f.capacity ++ tail) is.named in
    let past = drop_at (padded 32 f.name) (number_text 8 f.capacity ++ tail) 32
    (length-padded 32 f.name is.named.short) in
    let sized = ap (number_in 8) past ∙ number_in-text 8 f.capacity tail small in
    ap file_in e
    ∙ ap (λ (name : List ℕ). let r : TableFile = record {
      name = name;
      capacity = number_in 8 (drop 32 (padded 32 f.name ++ (number_text 8 f.capacity ++ tail)));
    } in r) named
    ∙ ap (λ (n : ℕ). let r : TableFile = record { name = f.name; capacity = n } in r) sized

drop-entry : (home : ℕ) (f : TableFile) (rest : List ℕ) → length f.name ≤ 32
    → drop 48 (entry_text home f ++ rest) ≡ rest
drop-entry home f rest short = drop_at (entry_text home f) rest 48 (length-entry_text home f short)

-- files are read back
pub entries_in-entries : (home : ℕ) (fs : List TableFile) (rest : List ℕ) → AllByRecursion IsTableFile fs
    → AllByRecursion (λ f. f.capacity < 256 ^ 8) fs → table_files_in (length fs) (entries_text home fs ++ rest) ≡ fs
entries_in-entries home [] rest each small = refl
entries_in-entries home (f ∷ fs) rest each small =
    let others = entries_text (home + pages_of f.capacity) fs in
    let e = append_assoc (entry_text home f) others rest in
    let first = file_in-entry home f (others ++ rest) each.0 small.0 in
    let after = drop-entry home f (others ++ rest) each.0.named.short in
    ap (λ (bytes : List ℕ). file_in bytes ∷ table_files_in (length fs) (drop 48 bytes)) e
    ∙ ap (λ (g : TableFile). g ∷ table_files_in (length fs) (drop 48 (entry_text home f ++ (others ++ rest)))) first
    ∙ ap (λ (bytes : List ℕ). f ∷ table_files_in (length fs) bytes) after
    ∙ ap (λ (gs : List TableFile). f ∷ gs) (entries_in-entries (home + pages_of f.capacity) fs rest each.1 small.1)

-- no file is longer than the volume's blocks
pub lengths_small : (fs : List TableFile) → total_pages fs < 2 ^ 32 → AllByRecursion (λ f. f.capacity < 256 ^ 8) fs
lengths_small [] h = tt
lengths_small (f ∷ fs) h = (omega arith, lengths_small fs (omega arith))

group_super : (a b c d e f z : List ℕ) → a ++ b ++ c ++ d ++ e ++ f ++ z ≡ a ++ (b ++ (c ++ (d ++ (e ++ (f ++ z)))))
group_super a b c d e f z = simp append_assoc

-- what the fields of a super block read as
pub record ReadsAs (v : SuperValue) (block : List ℕ) : Type 0 where
  pub magic : take 8 block ≡ magic_of v.layout
  pub count : number_in 4 (drop 8 block) ≡ length v.files
  pub slots : number_in 4 (drop 12 block) ≡ v.slots
  pub files : table_files_in (length v.files) (drop 32 block) ≡ v.files

pub reads_super : (v : SuperValue) → Fits v → ReadsAs v (super_text v)
reads_super v fits =
    let m = magic_of v.layout in
    let magic = length-magic_of v.layout in
    let k = number_text 4 (length v.files) in
    let s = number_text 4 v.slots in
    let b = number_text 4 (block_count v) in
    let entries = entries_text (first_file_home v.layout v.slots) v.files in
    let rest = zeros (4096 - length (super_head v ++ entries)) in
    let e : super_text v ≡ m ++ (k ++ (s ++ (b ++ (zeros 12 ++ (entries ++ rest))))) =
    group_super m k s b (zeros 12) entries rest in
    let lk = length-number_text 4 (length v.files) in
    let ls = length-number_text 4 v.slots in
    let lb = length-number_text 4 (block_count v) in
    let tail = b ++ (zeros 12 ++ (entries ++ rest)) in
    let at8 : drop 8 (super_text v) ≡ k ++ (s ++ tail) = ap (drop 8) e ∙ drop_at m (k ++ (s ++ tail)) 8 magic in
    let at12 : drop 12 (super_text v) ≡ s ++ tail =
    ap (drop 12) e ∙ drop-past m (k ++ (s ++ tail)) 8 4 magic ∙ drop_at k (s ++ tail) 4 lk in
    let at32 : drop 32 (super_text v) ≡ entries ++ rest =
    ap (drop 32) e ∙ drop-past m (k ++ (s ++ tail)) 8 24 magic ∙ drop-past k (s ++ tail) 4 20 lk
    ∙ drop-past s tail 4 16 ls
    ∙ drop-past b (zeros 12 ++ (entries ++ rest)) 4 12 lb ∙ drop_at (zeros 12) (entries ++ rest) 12 (length-zeros 12) in
    record {
      magic = ap (take 8) e ∙ take_at m (k ++ (s ++ tail)) 8 magic;
      count = ap (number_in 4) at8 ∙ number_in-text 4 (length v.files) (s ++ tail) (omega (arith, fits.few_files));
      slots = ap (number_in 4) at12 ∙ number_in-text 4 v.slots tail (omega (arith, fits.few_slots, few_slots v.layout));
      files = ap (table_files_in (length v.files)) at32 ∙ entries_in-entries (first_file_home v.layout v.slots) v.files
          rest fits.each (lengths_small v.files (omega (arith, fits.few_blocks)));
    }

pub reads_block : (v : SuperValue) (block : List ℕ) → IsSuper v block → ReadsAs v block
reads_block v block is =
    let P : List ℕ → Type 0 = λ bytes. ReadsAs v bytes in
    subst P (sym is.spelled) (reads_super v is.fits)

-- each file of a table has a name
pub named_files : (fs : List TableFile) → AllByRecursion IsTableFile fs → AllByRecursion (λ f. IsName f.name) fs
named_files [] h = tt
named_files (f ∷ fs) h = (h.0.named, named_files fs h.1)

-- so the entries of a super block have names
pub entries_named : (v : SuperValue) (block : List ℕ) (count : ℕ) → IsSuper v block → count ≡ number_in 4 (drop 8 block)
    → AllByRecursion (λ f. IsName f.name) (table_files_in count (drop 32 block))
entries_named v block count is counted =
    let r = reads_block v block is in
    let P : List TableFile → Type 0 = λ fs. AllByRecursion (λ f. IsName f.name) fs in
    subst P (sym (ap (λ n. table_files_in n (drop 32 block)) (counted ∙ r.count) ∙ r.files))
    (named_files v.files is.fits.each)

-- the value that the bytes of a super block read as
pub read_value : (layout : Layout) (v : SuperValue) (block : List ℕ) (files : List FileSpec) (count slots : ℕ)
    → IsSuper v block → take 8 block ≡ magic_of layout
    → count ≡ number_in 4 (drop 8 block) → slots ≡ number_in 4 (drop 12 block)
    → (AllByRecursion (λ f. IsName f.name) (table_files_in count (drop 32 block))
    → files_asked_for files ≡ table_files_in count (drop 32 block)) → table_of layout files slots ≡ v
read_value layout v block files count slots is magic counted slotted found =
    let r = reads_block v block is in
    let fs : files_asked_for files ≡ v.files = found (entries_named v block count is counted)
    ∙ ap (λ n. table_files_in n (drop 32 block)) (counted ∙ r.count) ∙ r.files in
    ap (λ (l : Layout). let w : SuperValue = record { layout = l; files = files_asked_for files; slots = slots } in w)
    (magic_of-injective layout v.layout (sym magic ∙ r.magic))
    ∙ ap (λ (gs : List TableFile). let w : SuperValue = record { layout = v.layout; files = gs; slots = slots } in w) fs
    ∙ ap (λ (n : ℕ). let w : SuperValue = record { layout = v.layout; files = v.files; slots = n } in w)
    (slotted ∙ r.slots)

-- a table that nobody could ask for is one of a block that says no value
pub refuses_table : (layout : Layout) (number : ℕ) (block : List ℕ) (files : List FileSpec) (slots : ℕ)
    → number_of layout ≡ number → AreFull files
    → ((v : SuperValue) → IsSuper v block → table_of layout files slots ≡ v)
    → ((v : SuperValue) → IsAsked number (asked_by files) slots v → ⊥) → (v : SuperValue) → IsSuper v block → ⊥
refuses_table layout number block files slots numbered full same none v is =
    let P : SuperValue → Type 0 = λ w. Fits w in
    none (table_of layout files slots) (table_asked layout number files slots numbered (full_have layout files full)
    (subst P (sym (same v is)) is.fits))

-- a block that isn't the spelling of the value that it reads as says no value
pub refuses_spelling : (block spelled : List ℕ) (table : SuperValue) → ((v : SuperValue) → IsSuper v block → table ≡ v)
    → spelled ≡ super_text table → (spelled ≡ block → ⊥)
    → (v : SuperValue) → IsSuper v block → ⊥
refuses_spelling block spelled table same text other v is = other (text ∙ ap super_text (same v is) ∙ sym is.spelled)

-- numbers are read back
pub numbers_in-text : (size : ℕ) (ns : List ℕ) (rest : List ℕ) → AllByRecursion (λ n. n < 256 ^ size) ns
    → numbers_in size (length ns) (flat_map (number_text size) ns ++ rest) ≡ ns
numbers_in-text size [] rest h = refl
numbers_in-text size (n ∷ ns) rest h =
    let others = flat_map (number_text size) ns in
    let e = append_assoc (number_text size n) others rest in
    let after = drop_at (number_text size n) (others ++ rest) size (length-number_text size n) in
    ap (λ (bytes : List ℕ). number_in size bytes ∷ numbers_in size (length ns) (drop size bytes)) e
    ∙ ap (λ k. k ∷ numbers_in size (length ns) (drop size (number_text size n ++ (others ++ rest))))
    (number_in-text size n (others ++ rest) h.0)
    ∙ ap (λ (bytes : List ℕ). n ∷ numbers_in size (length ns) bytes) after
    ∙ ap (λ (ms : List ℕ). n ∷ ms) (numbers_in-text size ns rest h.1)

homes_small : (low high : ℕ) (homes : List ℕ) → high < 2 ^ 32 → RiseWithin low high homes
    → AllByRecursion (λ n. n < 256 ^ 4) homes
homes_small low high [] h rise = tt
homes_small low high (n ∷ ns) h rise = (omega (arith, rise.1), homes_small (n + 1) high ns h rise.2)

group_descriptor : (a b c d z : List ℕ) → a ++ b ++ c ++ d ++ z ≡ a ++ (b ++ (c ++ (d ++ z)))
group_descriptor a b c d z = simp append_assoc

-- what the fields of a descriptor read as
pub record DescriptorReadsAs (d : DescriptorValue) (block : List ℕ) : Type 0 where
  pub mark : number_in 8 block ≡ d.mark
  pub count : number_in 4 (drop 8 block) ≡ length d.homes
  pub homes : numbers_in 4 (length d.homes) (drop 16 block) ≡ d.homes

pub reads_descriptor : (g : GeometryValue) (d : DescriptorValue) → IsGeometry g → IsDescribed g d
    → DescriptorReadsAs d (descriptor_text g.slots d)
reads_descriptor g d fits is =
    let m = number_text 8 d.mark in
    let k = number_text 4 (length d.homes) in
    let homes = flat_map (number_text 4) d.homes in
    let rest = zeros (4096 * descriptor_blocks g.slots - length (m ++ k ++ zeros 4 ++ homes)) in
    let e : descriptor_text g.slots d ≡ m ++ (k ++ (zeros 4 ++ (homes ++ rest))) =
    group_descriptor m k (zeros 4) homes rest in
    let lm = length-number_text 8 d.mark in
    let lk = length-number_text 4 (length d.homes) in
    let tail = zeros 4 ++ (homes ++ rest) in
    let at8 : drop 8 (descriptor_text g.slots d) ≡ k ++ tail = ap (drop 8) e ∙ drop_at m (k ++ tail) 8 lm in
    let at16 : drop 16 (descriptor_text g.slots d) ≡ homes ++ rest =
    ap (drop 16) e ∙ drop-past m (k ++ tail) 8 8 lm ∙ drop-past k tail 4 4 lk
    ∙ drop_at (zeros 4) (homes ++ rest) 4 (length-zeros 4) in
    record {
      mark = ap (number_in 8) e ∙ number_in-text 8 d.mark (k ++ tail) (omega (arith, is.small_mark));
      count = ap (number_in 4) at8
          ∙ number_in-text 4 (length d.homes) tail (omega (arith, is.homes.few, fits.few_slots, few_slots g.layout));
      homes = ap (numbers_in 4 (length d.homes)) at16
          ∙ numbers_in-text 4 d.homes rest (homes_small _ _ d.homes fits.few_blocks is.homes.rising);
    }

pub reads_descriptor_block : (g : GeometryValue) (d : DescriptorValue) (block : List ℕ) → IsGeometry g
    → IsDescriptor g d block → DescriptorReadsAs d block
reads_descriptor_block g d block fits is =
    let P : List ℕ → Type 0 = λ bytes. DescriptorReadsAs d bytes in
    subst P (sym is.spelled) (reads_descriptor g d fits is.described)

-- the value that the bytes of a descriptor read as
pub read_descriptor_value : (g : GeometryValue) (d : DescriptorValue) (block : List ℕ) (mark count : ℕ) (homes : List ℕ)
    → IsGeometry g → IsDescriptor g d block
    → mark ≡ number_in 8 block → count ≡ number_in 4 (drop 8 block) → homes ≡ numbers_in 4 count (drop 16 block)
    → (let w : DescriptorValue = record { mark = mark; homes = homes } in w) ≡ d
read_descriptor_value g d block mark count homes fits is marked counted found =
    let r = reads_descriptor_block g d block fits is in
    let hs : homes ≡ d.homes = found ∙ ap (λ n. numbers_in 4 n (drop 16 block)) (counted ∙ r.count) ∙ r.homes in
    ap (λ (n : ℕ). let w : DescriptorValue = record { mark = n; homes = homes } in w) (marked ∙ r.mark)
    ∙ ap (λ (ns : List ℕ). let w : DescriptorValue = record { mark = d.mark; homes = ns } in w) hs

-- a block whose value breaks the rules, or that isn't its spelling, is one that the grammar relates to no value
pub refuses_described : (g : GeometryValue) (block : List ℕ) (e : DescriptorValue)
    → ((d : DescriptorValue) → IsDescriptor g d block → e ≡ d) → (IsDescribed g e → ⊥)
    → (d : DescriptorValue) → IsDescriptor g d block → ⊥
refuses_described g block e same not_described d is =
    let P : DescriptorValue → Type 0 = λ w. IsDescribed g w in not_described (subst P (sym (same d is)) is.described)

pub refuses_other : (g : GeometryValue) (block written : List ℕ) (e : DescriptorValue)
    → ((d : DescriptorValue) → IsDescriptor g d block → e ≡ d) → written ≡ descriptor_text g.slots e
    → (written ≡ block → ⊥)
    → (d : DescriptorValue) → IsDescriptor g d block → ⊥
refuses_other g block written e same text other d is =
    other (text ∙ ap (descriptor_text g.slots) (same d is) ∙ sym is.spelled)

-- the homes that a reader found keep the rules where its tests passed
pub found_homes : (g : GeometryValue) (block homes : List ℕ) (count low high : ℕ)
    → homes ≡ numbers_in 4 count (drop 16 block) → 0 < count → count ≤ g.slots
    → low ≡ first_home g.layout g.slots → high ≡ g.blocks → RiseWithin low high homes → AreHomes g homes
found_homes g block homes count low high found some few l h rise =
    let len = ap length found ∙ length-numbers_in 4 count (drop 16 block) in
    let l' : low ≡ first_home g.layout g.slots = omega arith in
    let P : ℕ → Type 0 = λ k. RiseWithin k high homes in
    let Q : ℕ → Type 0 = λ k. RiseWithin (first_home g.layout g.slots) k homes in
    record { some = omega arith; few = omega arith; rising = subst Q h (subst P l' rise) }

-- and break them where they don't rise
pub fallen_homes : (g : GeometryValue) (homes : List ℕ) (low high : ℕ) → low ≡ first_home g.layout g.slots
    → high ≡ g.blocks → AreHomes g homes → RiseWithin low high homes
fallen_homes g homes low high l h are =
    let l' : low ≡ first_home g.layout g.slots = omega arith in
    let P : ℕ → Type 0 = λ k. RiseWithin k high homes in
    let Q : ℕ → Type 0 = λ k. RiseWithin (first_home g.layout g.slots) k homes in
    subst P (sym l') (subst Q (sym h) are.rising)

-- a block says at most one table
pub one_table : (v w : SuperValue) (block : List ℕ) → IsSuper v block → IsSuper w block → v ≡ w
one_table v w block is is' =
    let r = reads_block v block is in
    let r' = reads_block w block is' in
    let layouts = magic_of-injective v.layout w.layout (sym r.magic ∙ r'.magic) in
    let files : v.files ≡ w.files =
    sym r.files ∙ ap (λ n. table_files_in n (drop 32 block)) (sym r.count ∙ r'.count) ∙ r'.files in
    ap (λ (l : Layout). let u : SuperValue = record { layout = l; files = v.files; slots = v.slots } in u) layouts
    ∙ ap (λ (fs : List TableFile). let u : SuperValue = record { layout = w.layout; files = fs; slots = v.slots } in u)
    files
    ∙ ap (λ (n : ℕ). let u : SuperValue = record { layout = w.layout; files = w.files; slots = n } in u)
    (sym r.slots ∙ r'.slots)

-- and at most one descriptor
pub one_descriptor : (g : GeometryValue) (d e : DescriptorValue) (block : List ℕ) → IsGeometry g
    → IsDescriptor g d block → IsDescriptor g e block → d ≡ e
one_descriptor g d e block fits is is' =
    let r = reads_descriptor_block g d block fits is in
    let r' = reads_descriptor_block g e block fits is' in
    let homes : d.homes ≡ e.homes =
    sym r.homes ∙ ap (λ n. numbers_in 4 n (drop 16 block)) (sym r.count ∙ r'.count) ∙ r'.homes in
    ap (λ (n : ℕ). let u : DescriptorValue = record { mark = n; homes = d.homes } in u) (sym r.mark ∙ r'.mark)
    ∙ ap (λ (hs : List ℕ). let u : DescriptorValue = record { mark = e.mark; homes = hs } in u) homes
