-- Files with the same bytes are the same.
use Rattle.std.proofs.Common.{◌≡◌, ℕ, ◌+◌, List, [], ◌∷◌, refl, ◌∙◌, ap}
use Rattle.volume_codec.specs.Files.{File}
use Rattle.history.specs.History.{Event, Memory, bytes_of_pages, files_from_memory}
use Rattle.history.specs.History.{files_after, memory_of, after, lengths_of, lengths_after}
use Rattle.crash_table.specs.Marks.{contents_of}

same_from : (k : ℕ) (files : List File) (ns ms : List ℕ) (one other : Memory)
    → contents_of (files_from_memory k files ns one) ≡ contents_of (files_from_memory k files ms other)
    → files_from_memory k files ns one ≡ files_from_memory k files ms other
same_from k [] ns ms one other same = refl
same_from k (f ∷ files) [] [] one other same = refl
same_from k (f ∷ files) [] (m ∷ ms) one other same = cc
same_from k (f ∷ files) (n ∷ ns) [] one other same = cc
same_from k (f ∷ files) (n ∷ ns) (m ∷ ms) one other same =
    let Made : List ℕ → File = λ bytes. record { name = f.name; bytes = bytes; capacity = f.capacity } in
    let left : List ℕ = bytes_of_pages (one k) n in
    let right : List ℕ = bytes_of_pages (other k) m in
    let both : left ∷ contents_of (files_from_memory (k + 1) files ns one)
    ≡ right ∷ contents_of (files_from_memory (k + 1) files ms other) = same in
    let first : left ≡ right = cc in
    let later : contents_of (files_from_memory (k + 1) files ns one)
    ≡ contents_of (files_from_memory (k + 1) files ms other) = cc in
    ap (λ (bytes : List ℕ). Made bytes ∷ files_from_memory (k + 1) files ns one) first
    ∙ ap (λ (l : List File). Made right ∷ l) (same_from (k + 1) files ns ms one other later)

-- files after two histories
pub same_files : (files : List File) (one other : List Event)
    → contents_of (files_after files one) ≡ contents_of (files_after files other)
    → files_after files one ≡ files_after files other
same_files files one other = same_from 0 files (lengths_after (lengths_of files) one)
    (lengths_after (lengths_of files) other) (after (memory_of files) one) (after (memory_of files) other)
