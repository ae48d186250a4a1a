-- Reading a volume with a log.
use Rattle.std.proofs.Common.{◌≡◌, ◌⊎◌, inl, inr, ℕ, List, take, sym, ap, subst}
use Rattle.page_entry.specs.declared.refusal.Refusal.{Refusal}
use Rattle.page_entry.specs.declared.refusal.Refusal.TheVariants.{Device, OutOfMemory, Damaged}
use Rattle.volume_codec.specs.Layout.{block_at}
use Rattle.volume_codec.specs.Lengths.{IsLengths}
use Rattle.volume_codec.specs.Recovery.{files_from}
use Rattle.volume_codec.specs.Refusals.{RefusesLengths}
use Rattle.volume_codec.proofs.Public.{reads_lengths}
use Rattle.log_codec.specs.Log.{first_log_home, first_log_file_home}
use Rattle.log_codec.specs.Chain.{LogRecovers}
use Rattle.log_volume.specs.Super.{LogSuperValue, IsLogSuper, table_of, log_of, log_magic}
use Rattle.log_volume.specs.Files.{RecoversToLog, log_lengths_in}
use Rattle.log_recovery.specs.Reading.{RefusesLog}
use Rattle.log_opening.proofs.Public.{refuses_look, refuses_lengths}
use Rattle.volume_reading.specs.Logged.{RefusesLogReading}

-- the files of a volume whose lengths were read
pub recovers_to : (table : LogSuperValue) (bytes : List ℕ) (contents : ℕ → List ℕ) (lengths : List ℕ)
    → IsLogSuper table (block_at bytes 0) → LogRecovers (log_of table) contents bytes
    → IsLengths (table_of table) lengths (contents (first_log_home table.ring))
    → RecoversToLog bytes (files_from contents (first_log_file_home table.ring) table.files lengths)
recovers_to table bytes contents lengths says recovers are =
    let block : List ℕ = contents (first_log_home table.ring) in
    let said : log_lengths_in table contents ≡ lengths =
    reads_lengths (table_of table) lengths block says.fits.table are in
    record {
      table = table;
      contents = contents;
      super_block = says;
      recovers = recovers;
      lengths = subst (λ (l : List ℕ). IsLengths (table_of table) l block) (sym said) are;
      files_are = ap (files_from contents (first_log_file_home table.ring) table.files) (sym said);
    }

module _ (bytes : List ℕ) (table : LogSuperValue) (says : IsLogSuper table (block_at bytes 0))
    (one : (v w : LogSuperValue) (block : List ℕ) → IsLogSuper v block → IsLogSuper w block → v ≡ w)
    (magic : (v : LogSuperValue) (block : List ℕ) → IsLogSuper v block → take 8 block ≡ log_magic v.sealing) where
  pub by_log : (e : Refusal) → RefusesLog (log_of table) bytes e → RefusesLogReading bytes e
  by_log Damaged none = refuses_look bytes table says one magic Damaged none
  by_log Device none = tt
  by_log OutOfMemory none = tt
  by_log _ none = absurd none

  module _ (contents : ℕ → List ℕ) (recovers : LogRecovers (log_of table) contents bytes)
      (same : (others : ℕ → List ℕ) → LogRecovers (log_of table) others bytes
      → contents (first_log_home table.ring) ≡ others (first_log_home table.ring)) where
    of_lengths : (e : Refusal) → RefusesLengths (table_of table) (contents (first_log_home table.ring)) e
        → RefusesLogReading bytes e
    of_lengths Damaged none = refuses_lengths bytes table says one magic contents recovers same Damaged (inr none)
    of_lengths OutOfMemory none = tt
    of_lengths _ none = absurd none

    pub by_lengths : (e : Refusal)
        → (e ≡ Device) ⊎ RefusesLengths (table_of table) (contents (first_log_home table.ring)) e
        → RefusesLogReading bytes e
    by_lengths e (inl is) = subst (λ (r : Refusal). RefusesLogReading bytes r) (sym is) tt
    by_lengths e (inr none) = of_lengths e none
