-- Opening a device whose super block says a volume with a log.
use Rattle.std.proofs.Common.{◌≡◌, ◌⊎◌, inl, inr, ℕ, List, length, take, Result, Ok, Err}
use Rattle.std.proofs.Common.{refl, sym, ap, subst, ◌∙◌, arith}
use Rattle.device.specs.declared.device.Device.{Ghosts}
use Rattle.device.specs.Device.{LeavesOnly}
use Rattle.device.proofs.Public.{leaves_then, leaves_weaker}
use Rattle.page_entry.specs.declared.refusal.Refusal.{Refusal}
use Rattle.page_entry.specs.declared.refusal.Refusal.TheVariants.{Device, OutOfMemory, NotAVolume, Damaged, Busy}
use Rattle.volume_codec.specs.Files.{File}
use Rattle.volume_codec.specs.Layout.{block_at}
use Rattle.volume_codec.specs.Lengths.{IsLengths}
use Rattle.volume_codec.specs.Refusals.{RefusesLengths}
use Rattle.volume_codec.proofs.Public.{reads_lengths}
use Rattle.log_codec.specs.declared.start.LogStart.{LogStart}
use Rattle.log_codec.specs.Log.{LogValue, IsLog, first_log_home}
use Rattle.log_codec.specs.Chain.{LogRecovers, IsLogHome, contents_of_log}
use Rattle.log_volume.specs.Super.{LogSuperValue, IsLogSuper, RefusesLogSuper, table_of, log_of, log_magic}
use Rattle.log_volume.specs.Files.{RecoversToLog, log_lengths_in, log_files_in}
use Rattle.log_recovery.specs.declared.found.FoundLog.{FoundLog}
use Rattle.log_recovery.specs.Reading.{ReadsAlone, HoldsFound, chain_of}
use Rattle.log_opening.specs.Opening.{HasWrittenNothing, RefusesLogOpening, LeftByLogOpening, RecoversAlike, OpensLog}
use Rattle.log_opening.specs.Opening.{IsCounted, HasFaults}
use Rattle.log_opening.specs.Opening.{IsNextStart}
use Rattle.log_opening.specs.inside.Keeping.{IsLookedAt}
use Rattle.log_opening.specs.Volume.{RefusesVolume, LeftByOpeningVolume, HasOpenedVolume}

-- ---- calls

pub nothing_read : {D : Type 0} (disk : Ghosts D) (old new : D) → ReadsAlone disk old new
    → HasWrittenNothing disk old new
nothing_read disk old new read = record { same = λ honest. read.same; left = read.left; time = read.time }

pub nothing_both : {D : Type 0} (disk : Ghosts D) (old mid new : D) → (disk.is_honest old → disk.is_honest mid)
    → HasWrittenNothing disk old mid → HasWrittenNothing disk mid new → HasWrittenNothing disk old new
nothing_both disk old mid new honest first second = record {
  same = λ h. second.same (honest h) ∙ first.same h;
  left = λ c left. first.left c (second.left c left);
  time = leaves_then first.time (leaves_weaker second.time first.left);
}

pub crash_nothing : {D : Type 0} (disk : Ghosts D) (old new : D) → HasWrittenNothing disk old new
    → LeavesOnly disk.moment disk.left_since old new (LeftByOpeningVolume disk old)
crash_nothing disk old new nothing = leaves_weaker nothing.time (λ c left. inl left)

pub crash_finishing : {D : Type 0} (disk : Ghosts D) (table : LogSuperValue) (old mid new : D) → disk.is_honest old
    → HasWrittenNothing disk old mid → IsLogSuper table (block_at (disk.seen old) 0)
    → LeavesOnly disk.moment disk.left_since mid new (LeftByLogOpening disk (log_of table) mid)
    → LeavesOnly disk.moment disk.left_since old new (LeftByOpeningVolume disk old)
crash_finishing disk table old mid new honest nothing says leaves =
    let P : List ℕ → Type 0 = LeftByOpeningVolume disk old in
    let through : (c : List ℕ) → LeftByLogOpening disk (log_of table) mid c → P c = λ c left. elim left [
      | inl was ↦ inl (nothing.left c was)
      | inr alike ↦ inr (
        table,
        says,
        subst (λ (l : List ℕ). RecoversAlike (log_of table) l c) (nothing.same honest) alike,
      )
    ] in
    leaves_then (crash_nothing disk old mid nothing) (leaves_weaker leaves through)

pub counted_read : {D X : Type 0} (disk : Ghosts D) (old new : D) (r : Result X Refusal) → ReadsAlone disk old new
    → HasFaults (disk.faults_met old) (disk.faults_met new) r → IsCounted disk old r new
counted_read disk old new r read faults =
    record { honest = read.honest; same_length = ap length read.same; carried = read.carried; faults = faults }

pub counted_then : {D X Y : Type 0} (disk : Ghosts D) (old mid new : D) (x : X) (r : Result Y Refusal)
    → IsCounted {X = X} disk old (Ok x) mid → IsCounted disk mid r new → IsCounted disk old r new
counted_then disk old mid new x r first second = record {
  honest = (λ h. first.honest.0 (second.honest.0 h), λ h. second.honest.1 (first.honest.1 h));
  same_length = second.same_length ∙ first.same_length;
  carried = second.carried ∙ first.carried;
  faults = subst (λ n. HasFaults n (disk.faults_met new) r) first.faults second.faults;
}

pub counted_err : {D X Y : Type 0} (disk : Ghosts D) (old new : D) (e : Refusal)
    → IsCounted {X = X} disk old (Err e) new → IsCounted {X = Y} disk old (Err e) new
counted_err disk old new e is =
    record { honest = is.honest; same_length = is.same_length; carried = is.carried; faults = is.faults }

pub counted_ok : {D X Y : Type 0} (disk : Ghosts D) (old new : D) (x : X) (y : Y)
    → IsCounted {X = X} disk old (Ok x) new → IsCounted {X = Y} disk old (Ok y) new
counted_ok disk old new x y is =
    record { honest = is.honest; same_length = is.same_length; carried = is.carried; faults = is.faults }

-- ---- refusals

module _ (bytes : List ℕ) where
  refused_device : (e : Refusal) → e ≡ Device → RefusesVolume bytes e
  refused_device e same = let P : Refusal → Type 0 = λ r. RefusesVolume bytes r in subst P (sym same) tt

  by_first : (e : Refusal) → RefusesLogSuper (block_at bytes 0) e → RefusesVolume bytes e
  by_first NotAVolume h = inr h
  by_first Damaged h = (h.0, h.1, λ files r. h.2 r.table r.super_block)
  by_first OutOfMemory h = tt
  by_first _ h = absurd h

  pub refuses_first : (e : Refusal) → (e ≡ Device) ⊎ RefusesLogSuper (block_at bytes 0) e → RefusesVolume bytes e
  refuses_first e (inl same) = refused_device e same
  refuses_first e (inr h) = by_first e h

  module _ (table : LogSuperValue) (says : IsLogSuper table (block_at bytes 0))
      (one : (v w : LogSuperValue) (block : List ℕ) → IsLogSuper v block → IsLogSuper w block → v ≡ w)
      (magic : (v : LogSuperValue) (block : List ℕ) → IsLogSuper v block → take 8 block ≡ log_magic v.sealing) where
    same_table : (files : List File) (r : RecoversToLog bytes files) → r.table ≡ table
    same_table files r = one r.table table (block_at bytes 0) r.super_block says

    pub refuses_look : (e : Refusal) → RefusesLogOpening (log_of table) bytes e → RefusesVolume bytes e
    refuses_look Damaged none = (
      table.sealing,
      magic table (block_at bytes 0) says,
      λ files r.
          let R : LogSuperValue → Type 0 = λ v. LogRecovers (log_of v) r.contents bytes in
          let recovers : LogRecovers (log_of table) r.contents bytes = subst R (same_table files r) r.recovers in
          none recovers.start recovers.chain recovers.log,
    )
    refuses_look Busy none = (table, says, none)
    refuses_look Device none = tt
    refuses_look OutOfMemory none = tt
    refuses_look _ none = absurd none

    module _ (contents : ℕ → List ℕ) (recovers : LogRecovers (log_of table) contents bytes)
        (same : (others : ℕ → List ℕ) → LogRecovers (log_of table) others bytes
        → contents (first_log_home table.ring) ≡ others (first_log_home table.ring)) where
      by_lengths : (e : Refusal) → RefusesLengths (table_of table) (contents (first_log_home table.ring)) e
          → RefusesVolume bytes e
      by_lengths Damaged none = (
        table.sealing,
        magic table (block_at bytes 0) says,
        λ files r.
            let R : LogSuperValue → Type 0 = λ v. LogRecovers (log_of v) r.contents bytes in
            let is = same_table files r in
            let L : LogSuperValue → Type 0 = λ v. IsLengths (table_of v) (log_lengths_in v r.contents)
            (r.contents (first_log_home v.ring)) in
            let lengths : L table = subst L is r.lengths in
            let B : List ℕ → Type 0 = λ l. IsLengths (table_of table) (log_lengths_in table r.contents) l in
            none (log_lengths_in table r.contents) (subst B (sym (same r.contents (subst R is r.recovers))) lengths),
      )
      by_lengths OutOfMemory none = tt
      by_lengths _ none = absurd none

      pub refuses_lengths : (e : Refusal)
          → (e ≡ Device) ⊎ RefusesLengths (table_of table) (contents (first_log_home table.ring)) e
          → RefusesVolume bytes e
      refuses_lengths e (inl is) = refused_device e is
      refuses_lengths e (inr h) = by_lengths e h

-- the lengths of what was opened
pub lengths_behind : {D : Type 0} (disk : Ghosts D) (table : LogSuperValue) (lengths : List ℕ) (contents : ℕ → List ℕ)
    (old new : D) (next : LogStart)
    → ((others : ℕ → List ℕ) → LogRecovers (log_of table) others (disk.seen old)
    → contents (first_log_home table.ring) ≡ others (first_log_home table.ring))
    → IsLengths (table_of table) lengths (contents (first_log_home table.ring))
    → OpensLog disk (log_of table) old next new
    → IsLengths (table_of table) lengths (block_at (disk.seen new) (first_log_home table.ring))
lengths_behind disk table lengths contents old new next same are opened =
    subst (λ (l : List ℕ). IsLengths (table_of table) lengths l) (same (block_at (disk.seen new)) opened.recovers) are

-- a log that was looked at is there still when the device was only read
pub looked_still : {D Z : Type 0} (disk : Ghosts D) (g : LogValue) (found : FoundLog Z) (next : LogStart) (old new : D)
    → IsLookedAt disk g found next old → ReadsAlone disk old new → IsLookedAt disk g found next new
looked_still disk g found next old new looked read = record {
  honest = read.honest.1 looked.honest;
  holds = subst (λ (l : List ℕ). HoldsFound g found l) (sym read.same) looked.holds;
  next_is = subst (λ (l : List ℕ). IsNextStart g found.start (chain_of found.commits.items) l next) (sym read.same)
      looked.next_is;
  synced = λ l left. looked.synced l (read.left l left) ∙ sym read.same;
}

-- what a log that was found recovers to
pub found_recovers : {Z : Type 0} (g : LogValue) (found : FoundLog Z) (bytes : List ℕ) → HoldsFound g found bytes
    → LogRecovers g (contents_of_log g found.start.position (chain_of found.commits.items) bytes) bytes
found_recovers g found bytes holds = record {
  start = found.start;
  chain = chain_of found.commits.items;
  log = holds.log;
  contents_are = λ b home. refl;
}

-- the lengths block is a home block
pub lengths_home : (table : LogSuperValue) → IsLog (log_of table) → IsLogHome (log_of table) (first_log_home table.ring)
lengths_home table log = record { low = omega arith; high = omega (arith, log.some_homes) }

-- ---- files

-- bytes that recover alike recover to the same files
pub files_alike : (table : LogSuperValue) (old new : List ℕ) (files : List File)
    → ((v w : LogSuperValue) (block : List ℕ) → IsLogSuper v block → IsLogSuper w block → v ≡ w)
    → ((others : ℕ → List ℕ) (contents : ℕ → List ℕ) (b : ℕ) → LogRecovers (log_of table) others old
    → LogRecovers (log_of table) contents old → IsLogHome (log_of table) b → others b ≡ contents b)
    → IsLogSuper table (block_at old 0) → RecoversAlike (log_of table) old new → RecoversToLog old files
    → RecoversToLog new files
files_alike table old new files one same says alike r =
    let is : r.table ≡ table = one r.table table (block_at old 0) r.super_block says in
    let R : LogSuperValue → Type 0 = λ v. LogRecovers (log_of v) r.contents old in
    let N : LogSuperValue → Type 0 = λ v. LogRecovers (log_of v) r.contents new in
    let recovers : LogRecovers (log_of table) r.contents new = record {
      start = alike.is.start;
      chain = alike.is.chain;
      log = alike.is.log;
      contents_are = λ b home. same r.contents alike.contents b (subst R is r.recovers) alike.was home
          ∙ alike.is.contents_are b home;
    } in
    record {
      table = r.table;
      contents = r.contents;
      super_block = subst (λ (l : List ℕ). IsLogSuper r.table l) (sym alike.around.super_block) r.super_block;
      recovers = subst N (sym is) recovers;
      lengths = r.lengths;
      files_are = r.files_are;
    }

-- the files of what was opened
pub files_opened : {D : Type 0} (disk : Ghosts D) (old new : D) (table : LogSuperValue) (lengths : List ℕ)
    (next : LogStart) → HasOpenedVolume disk old table lengths next new
    → (lengths ≡ log_lengths_in table (block_at (disk.seen new)))
    × RecoversToLog (disk.seen old) (log_files_in table (block_at (disk.seen new)))
files_opened disk old new table lengths next opened =
    let block : List ℕ = block_at (disk.seen new) (first_log_home table.ring) in
    let are : lengths ≡ log_lengths_in table (block_at (disk.seen new)) =
    sym (reads_lengths (table_of table) lengths block opened.super_block.fits.table opened.lengths_are) in (
      are,
      record {
        table = table;
        contents = block_at (disk.seen new);
        super_block = opened.super_block;
        recovers = opened.opened.recovers;
        lengths = subst (λ (l : List ℕ). IsLengths (table_of table) l block) are opened.lengths_are;
        files_are = refl;
      },
    )
