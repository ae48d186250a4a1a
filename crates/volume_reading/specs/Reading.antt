-- The pages of a volume's files.
use Rattle.std.specs.Prelude.{ℕ, zero, suc, ◌+◌, ◌*◌, ◌/◌, List, [], ◌++◌, take, drop}

-- The bytes of page `n`: 4,096, or fewer if the bytes end before that.
abbrev pub part_of : List ℕ → ℕ → List ℕ
part_of bytes n = take 4096 (drop (4096 * n) bytes)

-- The text of the pages before page `n`, in order. `page` writes one page from its offset and its bytes.
abbrev pub pages_text : (ℕ → List ℕ → List ℕ) → List ℕ → ℕ → List ℕ
pages_text page bytes zero = []
pages_text page bytes (suc n) = pages_text page bytes n ++ page (4096 * n) (part_of bytes n)

-- The number of pages of `n` bytes. The last page may be shorter.
abbrev pub page_count : ℕ → ℕ
page_count n = (n + 4095) / 4096
