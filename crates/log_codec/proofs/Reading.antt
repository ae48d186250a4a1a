-- What the fields of a descriptor read as, so that bytes say at most one value, and what breaks a rule says none.
use Rattle.std.proofs.Common.{◌≡◌, ◌≢◌, ℕ, ◌+◌, ◌-◌, ◌*◌, ◌^◌, ◌<◌, List, [], ◌∷◌, ◌++◌}
use Rattle.std.proofs.Common.{length, take, drop, inl, inr, refl, sym, ap, subst, ◌∙◌, arith, append_assoc}
use Rattle.std.proofs.Common.{length-append}
use Rattle.std.specs.List.{AllByRecursion, flat_map}
use Rattle.std.proofs.lemmas.List.{drop-drop, drop_at, take_at, length-drop}
use Rattle.volume_codec.specs.Descriptor.{RiseWithin}
use Rattle.volume_codec.specs.Text.{number_text, number_in, numbers_in, zeros}
use Rattle.volume_codec.proofs.Public.{length-number_text, length-zeros, length-numbers, length-padded}
use Rattle.volume_codec.proofs.Functional.{number_in-text, numbers_in-text}
use Rattle.log_codec.specs.declared.broken.Broken.{Broken}
use Rattle.log_codec.specs.declared.broken.Broken.TheVariants.{Length, Number, Count, Reserved, Padding, Homes}
use Rattle.log_codec.specs.declared.broken.Broken.TheVariants.{OutOfMemory}
use Rattle.log_codec.specs.Log.{LogValue, IsLog, IsCommitSize, first_log_home, log_descriptor_blocks}
use Rattle.log_codec.specs.Commit.{LogDescriptor, IsCommitNumber, IsLogDescriptor}
use Rattle.log_codec.specs.Broken.{BreaksFirstRule, BreaksLogRule, records_said, homes_said}

-- what stands behind the first part of bytes from a place on
behind : (bytes part more : List ℕ) (i k : ℕ) → drop i bytes ≡ part ++ more → length part ≡ k
    → drop (i + k) bytes ≡ more
behind bytes part more i k is size = sym (drop-drop k i bytes) ∙ ap (drop k) is ∙ drop_at part more k size

homes_below : (low high : ℕ) (homes : List ℕ) → high < 2 ^ 32 → RiseWithin low high homes
    → AllByRecursion (λ n. n < 256 ^ 4) homes
homes_below low high [] h rise = tt
homes_below low high (n ∷ ns) h rise = (omega (arith, rise.1), homes_below (n + 1) high ns h rise.2)

group_fields : (a b z hs rest : List ℕ) → a ++ b ++ z ++ hs ++ rest ≡ a ++ (b ++ (z ++ (hs ++ rest)))
group_fields a b z hs rest = simp append_assoc

-- what the fields of bytes read as that say this descriptor
pub record BodyReadsAs (d : LogDescriptor) (bytes : List ℕ) : Type 0 where
  pub size : length bytes ≡ 4096 * log_descriptor_blocks (length d.homes)
  pub numbered : take 8 (drop 8 bytes) ≡ number_text 8 d.number
  pub number : number_in 8 (drop 8 bytes) ≡ d.number
  pub count : records_said bytes ≡ length d.homes
  pub reserved : take 12 (drop 20 bytes) ≡ zeros 12
  pub homes : numbers_in 4 (length d.homes) (drop 32 bytes) ≡ d.homes
  pub padding : drop (32 + 4 * length d.homes) bytes ≡ zeros (length bytes - (32 + 4 * length d.homes))

pub reads_body : (g : LogValue) (d : LogDescriptor) (bytes : List ℕ) → IsLog g → IsLogDescriptor g d bytes
    → BodyReadsAs d bytes
reads_body g d bytes log is =
    let c : ℕ = length d.homes in
    let n : List ℕ = number_text 8 d.number in
    let k : List ℕ = number_text 4 c in
    let hs : List ℕ = flat_map (number_text 4) d.homes in
    let blocks : ℕ = log_descriptor_blocks c in
    let some = is.logged.size.some in
    let few = is.logged.size.few in
    let fields : length (n ++ k ++ zeros 12 ++ hs) ≡ 24 + 4 * c = omega (
      arith,
      length-append (n ++ k ++ zeros 12) hs,
      length-append (n ++ k) (zeros 12),
      length-append n k,
      length-number_text 8 d.number,
      length-number_text 4 c,
      length-zeros 12,
      length-numbers 4 d.homes,
    ) in
    let rest : List ℕ = zeros (4096 * blocks - 8 - length (n ++ k ++ zeros 12 ++ hs)) in
    let at8 : drop 8 bytes ≡ n ++ (k ++ (zeros 12 ++ (hs ++ rest))) =
    is.spelled ∙ group_fields n k (zeros 12) hs rest in
    let at16 : drop 16 bytes ≡ k ++ (zeros 12 ++ (hs ++ rest)) =
    behind bytes n (k ++ (zeros 12 ++ (hs ++ rest))) 8 8 at8 (length-number_text 8 d.number) in
    let at20 : drop 20 bytes ≡ zeros 12 ++ (hs ++ rest) =
    behind bytes k (zeros 12 ++ (hs ++ rest)) 16 4 at16 (length-number_text 4 c) in
    let at32 : drop 32 bytes ≡ hs ++ rest = behind bytes (zeros 12) (hs ++ rest) 20 12 at20 (length-zeros 12) in
    let end : drop (32 + 4 * c) bytes ≡ rest = behind bytes hs rest 32 (4 * c) at32 (length-numbers 4 d.homes) in
    let body : length (drop 8 bytes) ≡ 4096 * blocks - 8 =
    ap length is.spelled ∙ length-padded (4096 * blocks - 8) (n ++ k ++ zeros 12 ++ hs) (omega arith) in
    let size : length bytes ≡ 4096 * blocks = omega (arith, length-drop 8 bytes) in
    record {
      size = size;
      numbered = ap (take 8) at8 ∙ take_at n (k ++ (zeros 12 ++ (hs ++ rest))) 8 (length-number_text 8 d.number);
      number = ap (number_in 8) at8
          ∙ number_in-text 8 d.number (k ++ (zeros 12 ++ (hs ++ rest))) (omega (arith, is.logged.number.small));
      count = ap (number_in 4) at16 ∙ number_in-text 4 c (zeros 12 ++ (hs ++ rest)) (omega arith);
      reserved = ap (take 12) at20 ∙ take_at (zeros 12) (hs ++ rest) 12 (length-zeros 12);
      homes = ap (numbers_in 4 c) at32
          ∙ numbers_in-text 4 d.homes rest (homes_below _ _ d.homes log.few_blocks is.logged.rising);
      padding = end ∙ ap zeros (omega arith);
    }

-- the value that the fields read as
pub one_value : (g : LogValue) (d e : LogDescriptor) (bytes : List ℕ) → IsLog g → IsLogDescriptor g d bytes
    → IsLogDescriptor g e bytes → d ≡ e
one_value g d e bytes log is other =
    let r = reads_body g d bytes log is in
    let s = reads_body g e bytes log other in
    let homes : d.homes ≡ e.homes =
    sym r.homes ∙ ap (λ n. numbers_in 4 n (drop 32 bytes)) (sym r.count ∙ s.count) ∙ s.homes in
    ap (λ (n : ℕ). let u : LogDescriptor = record { number = n; homes = d.homes } in u) (sym r.number ∙ s.number)
    ∙ ap (λ (hs : List ℕ). let u : LogDescriptor = record { number = e.number; homes = hs } in u) homes

-- bytes that break a rule say no descriptor with this number
pub breaks_all : (g : LogValue) (number : ℕ) (bytes : List ℕ) (broken : Broken) → IsLog g
    → BreaksLogRule g number bytes broken → broken ≢ OutOfMemory → (d : LogDescriptor) → d.number ≡ number
    → IsLogDescriptor g d bytes → ⊥
breaks_all g number bytes Length log (inl short) not d same is =
    let r = reads_body g d bytes log is in let some = is.logged.size.some in omega (arith, r.size)
breaks_all g number bytes Length log (inr other) not d same is =
    let r = reads_body g d bytes log is in other (r.size ∙ ap (λ n. 4096 * log_descriptor_blocks n) (sym r.count))
breaks_all g number bytes Number log (inl none) not d same is =
    let P : ℕ → Type 0 = λ n. IsCommitNumber n in none (subst P same is.logged.number)
breaks_all g number bytes Number log (inr other) not d same is =
    let r = reads_body g d bytes log is in other (r.numbered ∙ ap (number_text 8) same)
breaks_all g number bytes Count log none not d same is =
    let r = reads_body g d bytes log is in
    let P : ℕ → Type 0 = λ n. IsCommitSize g.ring n in none (subst P (sym r.count) is.logged.size)
breaks_all g number bytes Reserved log other not d same is = other (reads_body g d bytes log is).reserved
breaks_all g number bytes Padding log other not d same is =
    let r = reads_body g d bytes log is in
    let P : ℕ → Type 0 = λ n. drop (32 + 4 * n) bytes ≡ zeros (length bytes - (32 + 4 * n)) in
    other (subst P (sym r.count) r.padding)
breaks_all g number bytes Homes log none not d same is =
    let r = reads_body g d bytes log is in
    let P : List ℕ → Type 0 = λ hs. RiseWithin (first_log_home g.ring) g.blocks hs in
    let said : homes_said bytes ≡ d.homes = ap (λ n. numbers_in 4 n (drop 32 bytes)) r.count ∙ r.homes in
    none (subst P (sym said) is.logged.rising)
breaks_all g number bytes OutOfMemory log any not d same is = not refl

-- what the first block breaks, the bytes break that begin with it
pub breaks_first : (g : LogValue) (number : ℕ) (bytes : List ℕ) (broken : Broken)
    → BreaksFirstRule g number bytes broken → BreaksLogRule g number bytes broken
breaks_first g number bytes Length h = inl h
breaks_first g number bytes Number h = h
breaks_first g number bytes Count h = h
breaks_first g number bytes _ h = absurd h
