use Rattle.std.proofs.Common.{◌≡◌, ℕ, ◌+◌, List, [], ◌++◌, length, drop, ◌<◌, ◌^◌, refl, sym, ap, subst, ◌∙◌, arith}
use Rattle.std.proofs.Common.{length-append}
use Rattle.volume_codec.specs.Text.{number_text}
use Rattle.volume_codec.specs.Super.{SuperValue, Fits, super_text}
use Rattle.volume_codec.proofs.Public.{length-number_text}
use Rattle.log_codec.specs.declared.sealing.Sealing.{Sealing}
use Rattle.log_codec.specs.Log.{LogValue, IsLog, ring_block}
use Rattle.log_volume.specs.Super.{LogSuperValue, table_of, log_of, log_magic, key_of}
use Rattle.log_volume.proofs.Spelled.{length-log_magic, text_by_table}
use Rattle.log_volume.proofs.super_block.LogSuper.to_block.Goals as goal

pub returns-clause-text : goal.returns-clause-text
returns-clause-text g c =
    let v : LogSuperValue = c.args.self.now in
    let table : c.self.inside.table ≡ table_of v = c.self.invariant.0 ∙ ap table_of c.self.view_is in
    let log : c.self.inside.log ≡ log_of v = c.self.invariant.1 ∙ ap log_of c.self.view_is in
    let old : List ℕ = super_text (table_of v) in
    let m : List ℕ = log_magic v.sealing in
    let k : List ℕ = number_text 4 (length v.files) in
    let r : List ℕ = number_text 4 v.ring in
    let b : List ℕ = number_text 4 ((log_of v).blocks) in
    let f : List ℕ = number_text 4 (ring_block v.ring 0) in
    let y : List ℕ = number_text 8 (key_of v.sealing) in
    let l8 = length-log_magic v.sealing in
    let l12 : length (m ++ k) ≡ 12 = omega (arith, l8, length-append m k, length-number_text 4 (length v.files)) in
    let l16 : length (m ++ k ++ r) ≡ 16 = omega (arith, l12, length-append (m ++ k) r, length-number_text 4 v.ring) in
    let l20 : length (m ++ k ++ r ++ b) ≡ 20 =
    omega (arith, l16, length-append (m ++ k ++ r) b, length-number_text 4 ((log_of v).blocks)) in
    let l24 : length (m ++ k ++ r ++ b ++ f) ≡ 24 =
    omega (arith, l20, length-append (m ++ k ++ r ++ b) f, length-number_text 4 (ring_block v.ring 0)) in
    let sealing : c.sealing-sealing.result ≡ v.sealing =
    c.sealing-sealing.ensures.value ∙ ap (λ (l : LogValue). l.sealing) log in
    let magic : c.magic_in.result ≡ m = c.magic_in.ensures ∙ ap log_magic sealing in
    let block : c.to_block-block.result ≡ old = c.to_block-block.ensures ∙ ap super_text table in
    let first : c.put.new.block ≡ m ++ drop 8 old = c.put.ensures [] old block refl
    ∙ ap (λ (l : List ℕ). l ++ drop (0 + length l) old) magic ∙ ap (λ n. m ++ drop (0 + n) old) l8 in
    let files : c.file_count.result ≡ length v.files =
    c.file_count.ensures.value ∙ ap (λ (t : SuperValue). length t.files) table in
    let second : c.put_u32.new.block ≡ (m ++ k) ++ drop 12 old = c.put_u32.ensures m old first l8
    ∙ ap (λ n. (m ++ number_text 4 n) ++ drop 12 old) files in
    let ring : c.ring.result ≡ v.ring = c.ring.ensures.value ∙ ap (λ (l : LogValue). l.ring) log in
    let third : c.put_u32-2.new.block ≡ (m ++ k ++ r) ++ drop 16 old = c.put_u32-2.ensures (m ++ k) old second l12
    ∙ ap (λ n. (m ++ k ++ number_text 4 n) ++ drop 16 old) ring in
    let blocks : c.block_count.result ≡ (log_of v).blocks =
    c.block_count.ensures.value ∙ ap (λ (l : LogValue). l.blocks) log in
    let fourth : c.put_u32-3.new.block ≡ (m ++ k ++ r ++ b) ++ drop 20 old =
    c.put_u32-3.ensures (m ++ k ++ r) old third l16
    ∙ ap (λ n. (m ++ k ++ r ++ number_text 4 n) ++ drop 20 old) blocks in
    let there : c.block_behind.result ≡ ring_block v.ring 0 =
    c.block_behind.ensures.value ∙ ap (λ (l : LogValue). ring_block l.ring 0) log in
    let fifth : c.put_u32-4.new.block ≡ (m ++ k ++ r ++ b ++ f) ++ drop 24 old =
    c.put_u32-4.ensures (m ++ k ++ r ++ b) old fourth l20
    ∙ ap (λ n. (m ++ k ++ r ++ b ++ number_text 4 n) ++ drop 24 old) there in
    let key : c.key_in.result ≡ key_of v.sealing = c.key_in.ensures.value ∙ ap key_of sealing in
    let sixth : c.put_u64.new.block ≡ (m ++ k ++ r ++ b ++ f ++ y) ++ drop 32 old =
    c.put_u64.ensures (m ++ k ++ r ++ b ++ f) old fifth l24
    ∙ ap (λ n. (m ++ k ++ r ++ b ++ f ++ number_text 8 n) ++ drop 32 old) key in
    sixth ∙ sym (text_by_table v)

pub returns-clause-says : goal.returns-clause-says
returns-clause-says g c =
    let v : LogSuperValue = c.args.self.now in
    let table : c.self.inside.table ≡ table_of v = c.self.invariant.0 ∙ ap table_of c.self.view_is in
    let log : c.self.inside.log ≡ log_of v = c.self.invariant.1 ∙ ap log_of c.self.view_is in
    let sealing : c.sealing-sealing.result ≡ v.sealing =
    c.sealing-sealing.ensures.value ∙ ap (λ (l : LogValue). l.sealing) log in
    record {
      fits = record {
        table = subst Fits table c.file_count.ensures.fits;
        log = subst IsLog log c.block_count.ensures.log;
        small_key = subst (λ (s : Sealing). key_of s < 2 ^ 64) sealing c.key_in.ensures.small;
      };
      spelled = returns-clause-text g c;
    }
