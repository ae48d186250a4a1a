-- The bytes of a commit in the caller's room.
use Rattle.std.proofs.Common.{◌≡◌, ℕ, ◌+◌, ◌-◌, ◌*◌, ◌≤◌, List, ◌++◌, length}
use Rattle.std.proofs.Common.{take, drop, sym, ap, ◌∙◌, arith, append_assoc}
use Rattle.std.proofs.Common.{length-append, length-drop}
use Rattle.std.proofs.Math.Seq.{take-add}
use Rattle.std.proofs.lemmas.List.{take_at, drop_at, drop-drop, length-take-le}
use borrow.Rule.Slice.PartMut.{put_mid}
use Rattle.volume_codec.specs.Layout.{block_at}
use Rattle.volume_codec.specs.Text.{number_text, zeros}
use Rattle.volume_codec.proofs.Public.{length-number_text, length-zeros, length-padded, length-numbers}
use Rattle.std.specs.List.{flat_map}
use Rattle.log_codec.specs.declared.sealing.Sealing.{Sealing}
use Rattle.log_codec.specs.declared.sealing.Sealing.TheVariants.{ByByte, ByDigest}
use Rattle.log_codec.specs.Log.{log_descriptor_blocks, log_commit_blocks}
use Rattle.log_codec.specs.Commit.{LogDescriptor, log_body, log_seal}
use Rattle.log_commits.specs.Commit.{records_in}

-- ---- lengths

length-seal : (sealing : Sealing) (epoch : ℕ) (d : LogDescriptor) (records : List ℕ)
    → length (log_seal sealing epoch d records) ≡ 8
length-seal ByByte epoch d records = omega (arith, length-zeros 7)
length-seal (ByDigest key) epoch d records = length-number_text 8 _

length-body_of : (d : LogDescriptor) → length d.homes ≤ 65535
    → length (log_body d) ≡ 4096 * log_descriptor_blocks (length d.homes) - 8
length-body_of d few =
    let count : List ℕ = number_text 4 (length d.homes) in
    let listed : List ℕ = flat_map (number_text 4) d.homes in
    let fields : length (number_text 8 d.number ++ count ++ zeros 12 ++ listed) ≡ 24 + 4 * length d.homes = omega (
      arith,
      length-append (number_text 8 d.number ++ count ++ zeros 12) listed,
      length-append (number_text 8 d.number ++ count) (zeros 12),
      length-append (number_text 8 d.number) count,
      length-number_text 8 d.number,
      length-number_text 4 (length d.homes),
      length-zeros 12,
      length-numbers 4 d.homes,
    ) in
    length-padded (4096 * log_descriptor_blocks (length d.homes) - 8)
    (number_text 8 d.number ++ count ++ zeros 12 ++ listed) (omega arith)

-- a seal and a body fill the descriptor's blocks
pub length-head_by : (seal : List ℕ) (d : LogDescriptor) → length seal ≡ 8 → length d.homes ≤ 65535
    → length (seal ++ log_body d) ≡ 4096 * log_descriptor_blocks (length d.homes)
length-head_by seal d eight few =
    omega (arith, length-append seal (log_body d), eight, length-body_of d few)

pub length-head_of : (sealing : Sealing) (epoch : ℕ) (d : LogDescriptor) (records : List ℕ) → length d.homes ≤ 65535
    → length (log_seal sealing epoch d records ++ log_body d) ≡ 4096 * log_descriptor_blocks (length d.homes)
length-head_of sealing epoch d records few =
    length-head_by (log_seal sealing epoch d records) d (length-seal sealing epoch d records) few

-- ---- the blocks of the descriptor

-- the first i blocks are those of the text, and the next one is put behind them
pub one_block_more : (text room old block : List ℕ) (i at size : ℕ) → at ≡ 4096 * i → size ≡ 4096
    → 4096 * i + 4096 ≤ length text → length text ≤ length room
    → old ≡ take (4096 * i) text ++ drop (4096 * i) room → block ≡ block_at text i
    → put_mid at size old block ≡ take (4096 * (i + 1)) text ++ drop (4096 * (i + 1)) room
one_block_more text room old block i at size place four fits room_fits is here =
    let a : ℕ = 4096 * i in
    let b : ℕ = 4096 * (i + 1) in
    let next : b ≡ a + 4096 = omega arith in
    let front_size : length (take a text) ≡ a = length-take-le a text (omega arith) in
    let front : take at old ≡ take a text =
    ap (λ k. take k old) place ∙ ap (take a) is ∙ take_at (take a text) (drop a room) a front_size in
    let back : drop size (drop at old) ≡ drop b room =
    ap (λ k. drop k (drop at old)) four ∙ ap (λ k. drop 4096 (drop k old)) place
    ∙ ap (λ (l : List ℕ). drop 4096 (drop a l)) is
    ∙ ap (drop 4096) (drop_at (take a text) (drop a room) a front_size) ∙ drop-drop 4096 a room
    ∙ ap (λ k. drop k room) (sym next) in
    let more : take a text ++ block_at text i ≡ take b text =
    sym (take-add a 4096 text) ∙ ap (λ k. take k text) (sym next) in
    ap (λ (l : List ℕ). l ++ (block ++ drop size (drop at old))) front
    ∙ ap (λ (l : List ℕ). take a text ++ (block ++ l)) back
    ∙ ap (λ (l : List ℕ). take a text ++ (l ++ drop b room)) here
    ∙ sym (append_assoc (take a text) (block_at text i) (drop b room))
    ∙ ap (λ (l : List ℕ). l ++ drop b room) more

-- ---- the records

pub length-records : (homes room : List ℕ) → length room ≡ 4096 * log_commit_blocks (length homes) + 1
    → length (records_in homes room) ≡ 4096 * length homes
length-records homes room size =
    let first : ℕ = 4096 * log_descriptor_blocks (length homes) in
    length-take-le (4096 * length homes) (drop first room) (omega (arith, length-drop first room))
