-- Reading a super block that was spelled gives its value back, and its table is that of layout 1.
use Rattle.std.proofs.Common.{◌≡◌, ◌≢◌, ◌⊎◌, inl, inr, ℕ, ◌+◌, ◌-◌, ◌<◌, ◌^◌, List, ◌++◌, codes, length, take, drop}
use Rattle.std.proofs.Common.{get_or}
use Rattle.std.proofs.Common.{refl, sym, ap, subst, ◌∙◌, arith, append_assoc, length-append}
use Rattle.std.proofs.lemmas.List.{take_at, drop_at, drop-drop}
use Rattle.page_entry.specs.declared.refusal.Refusal.{Refusal}
use Rattle.page_entry.specs.declared.refusal.Refusal.TheVariants.{OutOfMemory, NotAVolume, Damaged}
use Rattle.byteorder.specs.Numbers.{big_number-reads_back}
use Rattle.volume_codec.specs.declared.layout.Layout.TheVariants.{One}
use Rattle.volume_codec.specs.Files.{TableFile}
use Rattle.volume_codec.specs.Layout.{magic_of, first_file_home}
use Rattle.volume_codec.specs.Text.{number_text, number_in, zeros}
use Rattle.volume_codec.specs.Refusals.{RefusesSuper}
use Rattle.volume_codec.specs.Super.{SuperValue, IsSuper, block_count, entries_text, super_head, super_text}
use Rattle.volume_codec.proofs.Public.{length-number_text, length-zeros}
use Rattle.log_codec.specs.declared.sealing.Sealing.{Sealing}
use Rattle.log_codec.specs.declared.sealing.Sealing.TheVariants.{ByByte, ByDigest}
use Rattle.log_codec.specs.Log.{LogValue, ring_block}
use Rattle.log_volume.specs.Super.{LogSuperValue, IsLogSuper, table_of, log_of, log_magic, key_of}
use Rattle.log_volume.specs.Super.{log_super_head, log_super_text, RefusesLogSuper}

-- numbers are read back
reads_back : (n x : ℕ) (rest : List ℕ) → x < 256 ^ n → number_in n (number_text n x ++ rest) ≡ x
unfolding number_text number_in
reads_back n x rest h = big_number-reads_back n x rest h

-- what lies past the first bytes
past : (p q : List ℕ) (n m : ℕ) → length p ≡ n → drop (n + m) (p ++ q) ≡ drop m q
past p q n m h = sym (drop-drop m n (p ++ q)) ∙ ap (drop m) (drop_at p q n h)

pub length-log_magic : (sealing : Sealing) → length (log_magic sealing) ≡ 8
length-log_magic ByByte = refl
length-log_magic (ByDigest key) = refl

pub length-log_head : (v : LogSuperValue) → length (log_super_head v) ≡ 32
length-log_head v =
    let m = log_magic v.sealing in
    let k = number_text 4 (length v.files) in
    let r = number_text 4 v.ring in
    let b = number_text 4 ((log_of v).blocks) in
    let f = number_text 4 (ring_block v.ring 0) in
    let y = number_text 8 (key_of v.sealing) in
    omega (
      arith,
      length-log_magic v.sealing,
      length-number_text 4 (length v.files),
      length-number_text 4 v.ring,
      length-number_text 4 ((log_of v).blocks),
      length-number_text 4 (ring_block v.ring 0),
      length-number_text 8 (key_of v.sealing),
      length-append m k,
      length-append (m ++ k) r,
      length-append (m ++ k ++ r) b,
      length-append (m ++ k ++ r ++ b) f,
      length-append (m ++ k ++ r ++ b ++ f) y,
    )

length-table_head : (v : SuperValue) → length (magic_of v.layout) ≡ 8 → length (super_head v) ≡ 32
length-table_head v eight =
    let m = magic_of v.layout in
    let k = number_text 4 (length v.files) in
    let s = number_text 4 v.slots in
    let b = number_text 4 (block_count v) in
    omega (
      arith,
      eight,
      length-number_text 4 (length v.files),
      length-number_text 4 v.slots,
      length-number_text 4 (block_count v),
      length-zeros 12,
      length-append m k,
      length-append (m ++ k) s,
      length-append (m ++ k ++ s) b,
      length-append (m ++ k ++ s ++ b) (zeros 12),
    )

-- the entries, and zeros to the end
abbrev entries_of : LogSuperValue → List ℕ
entries_of v = entries_text (first_file_home One 1) v.files

abbrev behind_head : LogSuperValue → List ℕ
behind_head v = entries_of v ++ zeros (4096 - length (log_super_head v ++ entries_of v))

head_first : (v : LogSuperValue) → log_super_text v ≡ log_super_head v ++ behind_head v
head_first v =
    append_assoc (log_super_head v) (entries_of v) (zeros (4096 - length (log_super_head v ++ entries_of v)))

table_first : (v : LogSuperValue) → super_text (table_of v) ≡ super_head (table_of v) ++ behind_head v
table_first v =
    let head : List ℕ = super_head (table_of v) in
    let same : 4096 - length (head ++ entries_of v) ≡ 4096 - length (log_super_head v ++ entries_of v) = omega (
      arith,
      length-log_head v,
      length-table_head (table_of v) refl,
      length-append head (entries_of v),
      length-append (log_super_head v) (entries_of v),
    ) in
    append_assoc head (entries_of v) (zeros (4096 - length (head ++ entries_of v)))
    ∙ ap (λ n. head ++ (entries_of v ++ zeros n)) same

-- the text is that of the table, but for its first 32 bytes
pub text_by_table : (v : LogSuperValue) → log_super_text v ≡ log_super_head v ++ drop 32 (super_text (table_of v))
text_by_table v =
    let head : List ℕ = super_head (table_of v) in
    let rest : drop 32 (super_text (table_of v)) ≡ behind_head v =
    ap (drop 32) (table_first v) ∙ drop_at head (behind_head v) 32 (length-table_head (table_of v) refl) in
    head_first v ∙ ap (λ (l : List ℕ). log_super_head v ++ l) (sym rest)

-- and the table's text is what lies behind them, with its own first 32 bytes
pub table_by_text : (v : LogSuperValue) (block : List ℕ) → block ≡ log_super_text v
    → super_text (table_of v) ≡ super_head (table_of v) ++ drop 32 block
table_by_text v block is =
    let rest : drop 32 block ≡ behind_head v = ap (drop 32) (is ∙ head_first v)
    ∙ drop_at (log_super_head v) (behind_head v) 32 (length-log_head v) in
    table_first v ∙ ap (λ (l : List ℕ). super_head (table_of v) ++ l) (sym rest)

group : (a b c d e f z : List ℕ) → (a ++ b ++ c ++ d ++ e ++ f) ++ z ≡ a ++ (b ++ (c ++ (d ++ (e ++ (f ++ z)))))
group a b c d e f z = simp append_assoc

-- what the fields of a super block read as
pub record LogReadsAs (v : LogSuperValue) (block : List ℕ) : Type 0 where
  pub magic : take 8 block ≡ log_magic v.sealing
  pub count : take 4 (drop 8 block) ≡ number_text 4 (length v.files)
  pub ring : number_in 4 (drop 12 block) ≡ v.ring
  pub blocks : number_in 4 (drop 16 block) ≡ (log_of v).blocks
  pub key : number_in 8 (drop 24 block) ≡ key_of v.sealing

pub reads_log : (v : LogSuperValue) (block : List ℕ) → IsLogSuper v block → LogReadsAs v block
reads_log v block is =
    let m : List ℕ = log_magic v.sealing in
    let k : List ℕ = number_text 4 (length v.files) in
    let r : List ℕ = number_text 4 v.ring in
    let b : List ℕ = number_text 4 ((log_of v).blocks) in
    let f : List ℕ = number_text 4 (ring_block v.ring 0) in
    let y : List ℕ = number_text 8 (key_of v.sealing) in
    let z : List ℕ = behind_head v in
    let e : block ≡ m ++ (k ++ (r ++ (b ++ (f ++ (y ++ z))))) =
    is.spelled ∙ head_first v ∙ group m k r b f y z in
    let lm = length-log_magic v.sealing in
    let lk = length-number_text 4 (length v.files) in
    let lr = length-number_text 4 v.ring in
    let lb = length-number_text 4 ((log_of v).blocks) in
    let lf = length-number_text 4 (ring_block v.ring 0) in
    let at8 : drop 8 block ≡ k ++ (r ++ (b ++ (f ++ (y ++ z)))) =
    ap (drop 8) e ∙ drop_at m (k ++ (r ++ (b ++ (f ++ (y ++ z))))) 8 lm in
    let at12 : drop 12 block ≡ r ++ (b ++ (f ++ (y ++ z))) =
    ap (drop 12) e ∙ past m (k ++ (r ++ (b ++ (f ++ (y ++ z))))) 8 4 lm
    ∙ drop_at k (r ++ (b ++ (f ++ (y ++ z)))) 4 lk in
    let at16 : drop 16 block ≡ b ++ (f ++ (y ++ z)) = sym (drop-drop 4 12 block)
    ∙ ap (drop 4) at12 ∙ drop_at r (b ++ (f ++ (y ++ z))) 4 lr in
    let at20 : drop 20 block ≡ f ++ (y ++ z) = sym (drop-drop 4 16 block)
    ∙ ap (drop 4) at16 ∙ drop_at b (f ++ (y ++ z)) 4 lb in
    let at24 : drop 24 block ≡ y ++ z = sym (drop-drop 4 20 block) ∙ ap (drop 4) at20 ∙ drop_at f (y ++ z) 4 lf in
    let log = is.fits.log in
    record {
      magic = ap (take 8) e ∙ take_at m (k ++ (r ++ (b ++ (f ++ (y ++ z))))) 8 lm;
      count = ap (take 4) at8 ∙ take_at k (r ++ (b ++ (f ++ (y ++ z)))) 4 lk;
      ring = ap (number_in 4) at12 ∙ reads_back 4 v.ring (b ++ (f ++ (y ++ z))) (omega (arith, log.few_ring));
      blocks = ap (number_in 4) at16
          ∙ reads_back 4 ((log_of v).blocks) (f ++ (y ++ z)) (omega (arith, log.few_blocks));
      key = ap (number_in 8) at24 ∙ reads_back 8 (key_of v.sealing) z (omega (arith, is.fits.small_key));
    }

-- the block with the first 32 bytes of layout 1 says the table
pub says_table : (v : LogSuperValue) (block other : List ℕ) (blocks : ℕ) → IsLogSuper v block
    → blocks ≡ block_count (table_of v)
    → other ≡ (codes "FAMSYNC1" ++ take 4 (drop 8 block) ++ number_text 4 1 ++ number_text 4 blocks ++ zeros 12)
    ++ drop 32 block
    → IsSuper (table_of v) other
says_table v block other blocks is counted written =
    let r = reads_log v block is in
    let m : List ℕ = codes "FAMSYNC1" in
    let one : List ℕ = number_text 4 1 in
    record {
      fits = is.fits.table;
      spelled = written
          ∙ ap (λ (l : List ℕ). (m ++ l ++ one ++ number_text 4 blocks ++ zeros 12) ++ drop 32 block) r.count
          ∙ ap (λ n. (m ++ number_text 4 (length v.files) ++ one ++ number_text 4 n ++ zeros 12) ++ drop 32 block)
          counted
          ∙ sym (table_by_text v block is.spelled);
    }

-- the layouts' magics differ
magics_differ : {X : Type 0} → log_magic ByByte ≡ log_magic (ByDigest 0) → X
magics_differ e = let digits = ap (λ (l : List ℕ). get_or l 7 0) e in absurd (omega (arith, digits))

-- how a volume seals its commits, by its magic and its key
pub one_sealing : (a b : Sealing) → log_magic a ≡ log_magic b → key_of a ≡ key_of b → a ≡ b
one_sealing ByByte ByByte same key = refl
one_sealing ByByte (ByDigest k) same key = magics_differ same
one_sealing (ByDigest k) ByByte same key = magics_differ (sym same)
one_sealing (ByDigest j) (ByDigest k) same key = ap ByDigest key

-- a value is its table and its log
pub by_parts : (v w : LogSuperValue) → table_of v ≡ table_of w → log_of v ≡ log_of w → v ≡ w
by_parts v w tables logs =
    let files : v.files ≡ w.files = ap (λ (t : SuperValue). t.files) tables in
    let sealing : v.sealing ≡ w.sealing = ap (λ (l : LogValue). l.sealing) logs in
    let ring : v.ring ≡ w.ring = ap (λ (l : LogValue). l.ring) logs in
    ap (λ (s : Sealing). let x : LogSuperValue = record { sealing = s; ring = v.ring; files = v.files } in x) sealing
    ∙ ap (λ (n : ℕ). let x : LogSuperValue = record { sealing = w.sealing; ring = n; files = v.files } in x) ring
    ∙ ap (λ (fs : List TableFile). let x : LogSuperValue =
    record { sealing = w.sealing; ring = w.ring; files = fs } in x) files

-- the log that a super block says
pub same_log : (v : LogSuperValue) (block : List ℕ) (sealing : Sealing) (ring blocks : ℕ) → IsLogSuper v block
    → sealing ≡ v.sealing → ring ≡ number_in 4 (drop 12 block) → blocks ≡ number_in 4 (drop 16 block)
    → (let g : LogValue = record { sealing = sealing; ring = ring; blocks = blocks } in g) ≡ log_of v
same_log v block sealing ring blocks is sealed at counted =
    let r = reads_log v block is in
    ap (λ (s : Sealing). let g : LogValue = record { sealing = s; ring = ring; blocks = blocks } in g) sealed
    ∙ ap (λ (n : ℕ). let g : LogValue = record { sealing = v.sealing; ring = n; blocks = blocks } in g) (at ∙ r.ring)
    ∙ ap (λ (n : ℕ). let g : LogValue = record { sealing = v.sealing; ring = v.ring; blocks = n } in g)
    (counted ∙ r.blocks)

-- the blocks that the table counts
pub same_count : (v : LogSuperValue) (block : List ℕ) (ring blocks : ℕ) → IsLogSuper v block
    → ring ≡ number_in 4 (drop 12 block) → blocks ≡ number_in 4 (drop 16 block)
    → blocks - ring - 1 ≡ block_count (table_of v)
same_count v block ring blocks is at counted =
    let r = reads_log v block is in
    omega (arith, at, counted, r.ring, r.blocks)

-- bytes with another text say nothing
pub other_text : (v : LogSuperValue) (found : LogSuperValue) (text block : List ℕ) → IsLogSuper v block
    → table_of found ≡ table_of v → log_of found ≡ log_of v → text ≡ log_super_text found → text ≡ block
other_text v found text block is tables logs written =
    written ∙ ap log_super_text (by_parts found v tables logs) ∙ sym is.spelled

-- a table that isn't found is one of a block that says no value, or memory was refused
pub refuses_by : (block : List ℕ) (sealing : Sealing) (e : Refusal) → take 8 block ≡ log_magic sealing
    → (e ≡ OutOfMemory) ⊎ (e ≡ Damaged) → (e ≢ OutOfMemory → (v : LogSuperValue) → IsLogSuper v block → ⊥)
    → RefusesLogSuper block e
refuses_by block sealing e magic (inl same) none =
    let P : Refusal → Type 0 = λ r. RefusesLogSuper block r in subst P (sym same) tt
refuses_by block sealing e magic (inr same) none =
    let P : Refusal → Type 0 = λ r. RefusesLogSuper block r in
    subst P (sym same) (sealing, magic, none (λ was. let clash : Damaged ≡ OutOfMemory = sym same ∙ was in cc))

-- a block that says a table of layout 1 is refused for want of memory alone
pub not_refused : (v : LogSuperValue) (block : List ℕ) (e : Refusal) → IsSuper (table_of v) block
    → RefusesSuper block e → e ≡ OutOfMemory
not_refused v block OutOfMemory is h = refl
not_refused v block NotAVolume is h = absurd (h One (ap (take 8) is.spelled))
not_refused v block Damaged is h = absurd (h.2 (table_of v) is)
not_refused v block _ is h = absurd h
