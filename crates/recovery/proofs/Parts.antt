-- A volume by its table and its open journals, which were read one after the other.
use Rattle.std.proofs.Common.{◌≡◌, ◌≤◌, ℕ, ◌*◌, List, length, subst, arith}
use Rattle.page_entry.specs.declared.refusal.Refusal.{Refusal}
use Rattle.volume_codec.specs.Layout.{GeometryValue, block_at}
use Rattle.volume_codec.specs.Super.{SuperValue, IsSuper, block_count, geometry_of}
use Rattle.volume_codec.specs.Recovery.{Batch, AreOpen, IsVolume}
use Rattle.recovery.specs.Opening.{RefusesOpening}
use Rattle.recovery.specs.Reading.{RefusesJournals}
use Rattle.recovery.proofs.Judged.{refuses_journals}

-- the table was read first, and then nothing was written
module _ (v : SuperValue) (h : GeometryValue) (old new : List ℕ) (is : IsSuper v (block_at old 0))
    (long : 4096 * block_count v ≤ length old) (same : h ≡ geometry_of v) (read : new ≡ old) where
  pub volume_read : (batches : List Batch) → AreOpen h batches new → IsVolume v batches old
  volume_read batches are =
      let P : List ℕ → Type 0 = λ bytes. AreOpen h batches bytes in
      let Q : GeometryValue → Type 0 = λ g. AreOpen g batches old in
      record { super_block = is; long = long; journals = subst Q same (subst P read are) }

  pub journals_refused : (e : Refusal) → RefusesJournals h new e → RefusesOpening old e
  journals_refused e refuses =
      let P : List ℕ → Type 0 = λ bytes. RefusesJournals h bytes e in
      let Q : GeometryValue → Type 0 = λ g. RefusesJournals g old e in
      refuses_journals v old e is (omega (arith, long)) (subst Q same (subst P read refuses))
