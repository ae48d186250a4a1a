-- What was found of a volume by reading alone.
use Rattle.std.proofs.Common.{◌≡◌, ◌⊎◌, inl, inr, ℕ, List, Result, Ok, Err, IfOk, IfErr, refl, subst}
use Rattle.page_entry.specs.declared.refusal.Refusal.{Refusal}
use Rattle.page_entry.specs.declared.refusal.Refusal.TheVariants.{Device, OutOfMemory, NotAVolume, Damaged}
use Rattle.volume_codec.specs.Files.{File}
use Rattle.volume_codec.specs.Super.{SuperValue, geometry_of}
use Rattle.volume_codec.specs.Recovery.{Batch, IsVolume, RecoversTo, IsNotAVolume, IsDamaged, contents_in}
use Rattle.recovery.specs.declared.opening.OpenJournal.{OpenJournal}
use Rattle.recovery.specs.Counts.{Rises}
use Rattle.recovery.specs.Opening.{RefusesOpening, opening_calls}
use Rattle.recovery.specs.Reading.{batches_of, AreFound}
use Rattle.recovery.proofs.Public.{own_contents}
use Rattle.inspection.specs.declared.found.Found.{Found}
use Rattle.inspection.specs.Found.{AreJournals, IsFound}
use Rattle.inspection.specs.Reading.{IsJudged}

-- all that was found
pub found_by_reading : {Z : Type 0} (bytes : List ℕ) (found : Found Z) (batches : List Batch)
    → IsVolume found.table batches bytes → AreJournals (geometry_of found.table) bytes found.journals.items
    → AreFound found.table batches bytes found.lengths.items → Rises (opening_calls found.table batches) 0 found.calls
    → IsFound bytes found
found_by_reading bytes found batches volume journals lengths calls =
    let contents = contents_in found.table.slots batches bytes in
    let recovers = own_contents found.table batches bytes volume in
    record {
      batches = batches;
      volume = volume;
      journals = journals;
      contents = contents;
      recovers = recovers;
      lengths = lengths.are;
      files = record {
        table = found.table;
        contents = contents;
        recovers = recovers;
        lengths = lengths.fit;
        files_are = refl;
      };
      calls = calls;
    }

-- no bytes are of two kinds
abbrev pub AreApart : Type 0
AreApart = (bytes : List ℕ) (files : List File) → RecoversTo bytes files → IsNotAVolume bytes ⊎ IsDamaged bytes → ⊥

-- so what is found, or refused, of bytes is said of their kind
pub judged : {X : Type 0} (bytes : List ℕ) (result : Result X Refusal) → AreApart
    → ((bytes : List ℕ) → IsNotAVolume bytes → IsDamaged bytes → ⊥)
    → IfOk result (λ _. (files : List File) × RecoversTo bytes files) → IfErr result (RefusesOpening bytes)
    → IsJudged bytes result
judged bytes (Ok found) apart differ recovers refused = record {
  none = λ none. absurd (apart bytes recovers.0 recovers.1 (inl none));
  damaged = λ damaged. absurd (apart bytes recovers.0 recovers.1 (inr damaged));
  whole = λ files is. tt;
}
judged bytes (Err NotAVolume) apart differ recovers refused = record {
  none = λ none. inl refl;
  damaged = λ damaged. absurd (differ bytes refused damaged);
  whole = λ files is. absurd (apart bytes files is (inl refused));
}
judged bytes (Err Damaged) apart differ recovers refused = record {
  none = λ none. absurd (differ bytes none refused);
  damaged = λ damaged. inl refl;
  whole = λ files is. absurd (apart bytes files is (inr refused));
}
judged bytes (Err Device) apart differ recovers refused =
    record { none = λ none. inr tt; damaged = λ damaged. inr tt; whole = λ files is. tt }
judged bytes (Err OutOfMemory) apart differ recovers refused =
    record { none = λ none. inr tt; damaged = λ damaged. inr tt; whole = λ files is. tt }
judged bytes (Err _) apart differ recovers refused = absurd refused

-- so it is of an answer that was made of another
pub judged_ok : {X Y : Type 0} (bytes : List ℕ) (result : Result X Refusal) (x : X) (y : Y) → result ≡ Ok x
    → IsJudged bytes result → IsJudged {X = Y} bytes (Ok y)
judged_ok {X} {Y} bytes result x y same is =
    let j = subst (λ (r : Result X Refusal). IsJudged bytes r) same is in
    record { none = j.none; damaged = j.damaged; whole = λ files recovers. tt }

pub judged_err : {X Y : Type 0} (bytes : List ℕ) (result : Result X Refusal) (e : Refusal) → result ≡ Err e
    → IsJudged bytes result → IsJudged {X = Y} bytes (Err e)
judged_err {X} {Y} bytes result e same is =
    let j = subst (λ (r : Result X Refusal). IsJudged bytes r) same is in
    record { none = j.none; damaged = j.damaged; whole = j.whole }

-- what is said of open journals is said of equal ones
pub calls_as : {Z : Type 0} {now items : List (OpenJournal Z)} {calls : ℕ} (table : SuperValue) → now ≡ items
    → Rises (opening_calls table (batches_of now)) 0 calls → Rises (opening_calls table (batches_of items)) 0 calls
calls_as {Z} {now} {items} {calls} table same rises =
    let P : List (OpenJournal Z) → Type 0 = λ l. Rises (opening_calls table (batches_of l)) 0 calls in
    subst P same rises
