-- The state that a disk of deferred calls keeps besides its log.
use Rattle.std.specs.Prelude.{⊤, ◌≡◌, ℕ, ◌+◌, ◌-◌, ◌*◌, ◌/◌, ◌^◌, ◌<◌, ◌≤◌, min, Bool, true}
use Rattle.std.specs.Prelude.{false, Option, List, [], ◌∷◌, length, take, get_or, refl}
use Rattle.std.specs.Coded.{Coded, code_by, coded×, coded_ℕ, coded_bool, coded_list, coded_option}
use Rattle.device.specs.Memory.{DiskChange, content_after}
use Rattle.device.specs.Memory.DiskChange.{write, sync}
use Rattle.deferred_disk.specs.Deferred.{Deferred, AreAlike}
use Rattle.device.specs.inside.Codes.{change_code}
use Rattle.device.specs.inside.Replay.{AreWithin}

-- The block that contains this place is known.
abbrev pub IsKnownAt : List Bool → ℕ → Type 0
IsKnownAt flags i = get_or flags (i / 4096) false ≡ true

-- Each place that one of these changes wrote is in a known block.
abbrev pub AreKnown : List Bool → List DiskChange → Type 0
AreKnown flags [] = ⊤
AreKnown flags (write at bytes ∷ older) =
    ((i : ℕ) → at ≤ i → i < at + length bytes → IsKnownAt flags i) × AreKnown flags older
AreKnown flags (sync ∷ older) = AreKnown flags older

-- Two contents agree in each known block.
abbrev pub AgreeWhereKnown : List Bool → List ℕ → List ℕ → Type 0
AgreeWhereKnown flags bytes seen = (i : ℕ) → IsKnownAt flags i → get_or bytes i 0 ≡ get_or seen i 0

pub record IsKept (first : List ℕ) (changes : List DiskChange) (supplied : List (List ℕ × List ℕ)) (bytes : List ℕ)
    (flags : List Bool) (waiting : List DiskChange) (len : ℕ) : Type 0 where
  pub first_length : length first ≡ 4096 * length flags
  pub bytes_length : length bytes ≡ 4096 * length flags
  pub len_is : len ≡ length first
  pub within : AreWithin (length first) changes
  pub waits : waiting ≡ take (length waiting) changes
  pub reached : AreKnown flags waiting
  pub agrees : AreAlike supplied → AgreeWhereKnown flags bytes (content_after first changes)

-- The count is the number of these changes, or 2^64-1 if there are more.
abbrev pub AreCounted : ℕ → List DiskChange → Type 0
AreCounted count changes = count ≡ min (length changes) (2 ^ 64 - 1)

abbrev pub deferred_code : Coded Deferred
deferred_code =
    code_by (List ℕ × (List DiskChange × (ℕ × (List Bool × (List (List ℕ × List ℕ) × (Option ℕ × (ℕ × ℕ)))))))
    (coded× (coded_list coded_ℕ) (coded× (coded_list change_code) (coded× coded_ℕ
    (coded× (coded_list coded_bool) (coded× (coded_list (coded× (coded_list coded_ℕ) (coded_list coded_ℕ)))
    (coded× (coded_option coded_ℕ) (coded× coded_ℕ coded_ℕ)))))))
    (λ d. (d.first, (d.changes, (d.waiting, (d.known, (d.supplied, (d.wanted, (d.calls, d.faults))))))))
    (λ p. record {
      first = p.0;
      changes = p.1.0;
      waiting = p.1.1.0;
      known = p.1.1.1.0;
      supplied = p.1.1.1.1.0;
      wanted = p.1.1.1.1.1.0;
      calls = p.1.1.1.1.1.1.0;
      faults = p.1.1.1.1.1.1.1;
    })
    (λ _. refl)
