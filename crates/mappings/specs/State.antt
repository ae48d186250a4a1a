-- The state of the mappings of an address space, as contracts name it.
use Rattle.std.specs.Prelude.{◌≡◌, ℕ, Bool, true, false, refl}
use Rattle.std.specs.Coded.{Coded, code_by, coded×, coded_ℕ, coded_bool}
use Rattle.std.specs.FinMap as fin_map
use Rattle.mappings.specs.declared.place.Place.{Place}
use Rattle.mappings.specs.declared.place.Rights.{Rights}
use Rattle.mappings.specs.declared.place.Rights.TheVariants.{Read, ReadWrite}
use Rattle.mappings.specs.Places.{Places, may_write}

-- The mapped pages, and the number of further mappings for which memory is reserved.
pub record MappingsState : Type 0 where
  pub places : Places
  pub spare : ℕ

-- the rights that allow writing, or those that don't
abbrev pub rights_of : Bool → Rights
rights_of false = Read
rights_of true = ReadWrite

pub rights_of-may_write : (rights : Rights) → rights_of (may_write rights) ≡ rights
rights_of-may_write Read = refl
rights_of-may_write ReadWrite = refl

-- the codes by which a proof distinguishes values
abbrev pub rights_code : Coded Rights
rights_code = code_by Bool coded_bool may_write rights_of rights_of-may_write

abbrev pub place_code : Coded Place
place_code =
    code_by ((ℕ × ℕ) × (Rights × Rights)) (coded× (coded× coded_ℕ coded_ℕ) (coded× rights_code rights_code))
    (λ p. ((p.file, p.page), (p.rights, p.access)))
    (λ c. record { file = c.0.0; page = c.0.1; rights = c.1.0; access = c.1.1 }) (λ _. refl)

abbrev pub mappings_code : Coded MappingsState
mappings_code =
    code_by (Places × ℕ) (coded× (fin_map.code coded_ℕ place_code) coded_ℕ) (λ s. (s.places, s.spare))
    (λ c. record { places = c.0; spare = c.1 }) (λ _. refl)
