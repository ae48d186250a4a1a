-- A file that is copied page by page.
use Rattle.std.proofs.Common.{◌≡◌, ◌<◌, ◌≤◌, ℕ, ◌+◌, ◌-◌, ◌*◌, min, inl, inr, List, length, take, drop, get_or}
use Rattle.std.proofs.Common.{◌∙◌, ap, arith, length-take, length-drop}
use Rattle.std.proofs.lemmas.Bool.{cases_lt}
use Rattle.std.proofs.lemmas.List.{get_or-take, get_or-drop}
use Rattle.device.specs.Device.{written}
use Rattle.device.proofs.Public.{written_before, written_within}
use Rattle.volume_reading.specs.Reading.{part_of}

-- one page more
pub copied_more : (bytes old new part : List ℕ) (page n : ℕ) → length bytes ≡ n → length old ≡ n → 4096 * page < n
    → part ≡ part_of bytes page → new ≡ written old (4096 * page) part
    → ((i : ℕ) → i < 4096 * page → i < n → get_or old i 0 ≡ get_or bytes i 0)
    → (i : ℕ) → i < 4096 * (page + 1) → i < n → get_or new i 0 ≡ get_or bytes i 0
copied_more bytes old new part page n long room below is put before i low within =
    let at = 4096 * page in
    let rest = drop at bytes in
    let size : length part ≡ min 4096 (n - at) =
    omega (arith, ap length is, length-take 4096 rest, length-drop at bytes, long) in
    let fits : at + length part ≤ length old = omega (arith, size, room, below) in
    let byte = ap (λ (l : List ℕ). get_or l i 0) put in
    elim (cases_lt i at) [
      | inl lower ↦ byte ∙ written_before old at part i fits lower ∙ before i lower within
      | inr from ↦
          let place : at + (i - at) ≡ i = omega arith in
          let inner : get_or (take 4096 rest) (i - at) 0 ≡ get_or rest (i - at) 0 =
          get_or-take 4096 rest (i - at) 0 (omega (arith, low)) in
          byte ∙ written_within old at part i fits from (omega (arith, size, low, within))
          ∙ ap (λ (l : List ℕ). get_or l (i - at) 0) is ∙ inner ∙ get_or-drop at bytes (i - at) 0
          ∙ ap (λ k. get_or bytes k 0) place
    ]
