-- Codes by which a proof distinguishes disks: each disk is encoded as the tuple of its parts.
use Rattle.std.specs.Prelude.{◌≡◌, ℕ, Bool, List, Option, Some, None, refl}
use Rattle.std.specs.Coded.{Coded, code_by, coded×, coded_ℕ, coded_bool, coded_list, coded_option}
use Rattle.device.specs.Memory.{DiskChange}
use Rattle.device.specs.Memory.DiskChange.{write, sync}
use Rattle.device.specs.Overlay.{Overlaid}
use Rattle.device.specs.Failing.{Failing}
use Rattle.device.specs.File.{Opened}

-- a disk or a file, and three numbers
abbrev pub numbered_code : {D : Type 0} → Coded D → Coded (D × (ℕ × (ℕ × ℕ)))
numbered_code disk = coded× disk (coded× coded_ℕ (coded× coded_ℕ coded_ℕ))

abbrev pub failing_code : {D : Type 0} → Coded D → Coded (Failing D)
failing_code {D} inner =
    code_by (D × (ℕ × (ℕ × ℕ))) (numbered_code inner) (λ d. (d.inner, (d.fails_at, (d.calls, d.faults))))
    (λ p. record { inner = p.0; fails_at = p.1.0; calls = p.1.1.0; faults = p.1.1.1 }) (λ _. refl)

abbrev pub opened_code : {F : Type 0} → Coded F → Coded (Opened F)
opened_code {F} file =
    code_by (F × (ℕ × (ℕ × ℕ))) (numbered_code file) (λ d. (d.file, (d.size, (d.calls, d.faults))))
    (λ p. record { file = p.0; size = p.1.0; calls = p.1.1.0; faults = p.1.1.1 }) (λ _. refl)

-- the offset and bytes of a write, and nothing for a sync
abbrev pub parts_of : DiskChange → Option (ℕ × List ℕ)
parts_of (write at bytes) = Some (at, bytes)
parts_of sync = None

abbrev pub change_of_parts : Option (ℕ × List ℕ) → DiskChange
change_of_parts (Some parts) = write parts.0 parts.1
change_of_parts None = sync

pub change_again : (change : DiskChange) → change_of_parts (parts_of change) ≡ change
change_again (write at bytes) = refl
change_again sync = refl

abbrev pub change_code : Coded DiskChange
change_code = code_by (Option (ℕ × List ℕ)) (coded_option (coded× coded_ℕ (coded_list coded_ℕ))) parts_of
    change_of_parts change_again

abbrev pub overlaid_code : {D : Type 0} → Coded D → Coded (Overlaid D)
overlaid_code {D} inner =
    code_by (D × (List DiskChange × (Bool × (ℕ × ℕ))))
    (coded× inner (coded× (coded_list change_code) (coded× coded_bool (coded× coded_ℕ coded_ℕ))))
    (λ d. (d.inner, (d.changes, (d.refused, (d.calls, d.faults)))))
    (λ p. record { inner = p.0; changes = p.1.0; refused = p.1.1.0; calls = p.1.1.1.0; faults = p.1.1.1.1 })
    (λ _. refl)
