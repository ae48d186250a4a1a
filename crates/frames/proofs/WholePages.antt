-- Whole pages: a page of zeros, and a page that is written into.
use Rattle.std.proofs.Common.{◌≡◌, ◌+◌, ◌<◌, ◌≤◌, ℕ, List, ◌++◌, length}
use Rattle.std.proofs.Common.{get_or, take, drop, lit<, refl, ◌∙◌, arith, All}
use Rattle.std.proofs.lemmas.List.{length-append, length-take-le, length-drop, length-replicate, get_or-replicate}
use Rattle.std.proofs.lemmas.List.Elements.{All-from_get_or, All-append, All-take, All-drop, All-replicate}
use Rattle.frames.specs.Frames.{blank_bytes, zero_page, overwrite, IsPage}

IsPage-zeros : (n : ℕ) → n ≡ 4096 → IsPage (blank_bytes n)
unfolding blank_bytes
IsPage-zeros n size = record {
  size = length-replicate n 0 ∙ size;
  small = All-replicate (λ byte. byte < 256) n 0 (lit< tt);
}

-- a page of zeros is a page
pub IsPage-zero_page : IsPage zero_page
unfolding zero_page
IsPage-zero_page = IsPage-zeros 4096 refl

get_or-zeros : (n k d : ℕ) → k < n → get_or (blank_bytes n) k d ≡ 0
unfolding blank_bytes
get_or-zeros n k d within = get_or-replicate n k 0 d within

-- each of its bytes is 0
pub get_or-zero_page : (k d : ℕ) → k < 4096 → get_or zero_page k d ≡ 0
unfolding zero_page
get_or-zero_page k d within = get_or-zeros 4096 k d within

-- bytes written into a page leave a page
pub IsPage-overwrite : (page : List ℕ) (at : ℕ) (bytes : List ℕ)
    → IsPage page → at + length bytes ≤ 4096 → All (λ byte. byte < 256) bytes
    → IsPage (overwrite page at bytes)
IsPage-overwrite page at bytes is within small =
    let P : ℕ → Type 0 = λ byte. byte < 256 in
    record {
      size = omega (
        arith,
        is.size,
        length-append (take at page ++ bytes) (drop (at + length bytes) page),
        length-append (take at page) bytes,
        length-take-le at page (omega (arith, is.size)),
        length-drop (at + length bytes) page,
      );
      small = All-append P (take at page ++ bytes) (drop (at + length bytes) page)
          (All-append P (take at page) bytes (All-take P at page is.small) small)
          (All-drop P (at + length bytes) page is.small);
    }

-- a byte array of that length is a page
pub IsPage-array : (bytes : List ℕ) → length bytes ≡ 4096 → ((k : ℕ) → get_or bytes k 0 < 256) → IsPage bytes
IsPage-array bytes size small =
    record { size = size; small = All-from_get_or (λ byte. byte < 256) bytes 0 (λ k h. small k) }
