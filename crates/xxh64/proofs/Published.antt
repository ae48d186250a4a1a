-- Digests that the authors of XXH64 publish, by the definition: a wrong constant or step doesn't pass.
use Rattle.std.proofs.Common.{◌≡◌, codes, refl, []}
use Rattle.xxh64.specs.Xxh64.{lanes_after, words_after, bytes_after, xxh64}

pub digest_of_nothing : xxh64 0 [] ≡ 0xef46db3751d8e999
unfolding lanes_after words_after bytes_after xxh64
digest_of_nothing = refl

pub digest_of_abc : xxh64 0 (codes "abc") ≡ 0x44bc2cf5ad770999
unfolding lanes_after words_after bytes_after xxh64
digest_of_abc = refl

-- one with a stripe, a half word and bytes behind it
pub digest_of_a_sentence : xxh64 0 (codes "Nobody inspects the spammish repetition") ≡ 0xfbcea83c8a378bf1
unfolding lanes_after words_after bytes_after xxh64
digest_of_a_sentence = refl
