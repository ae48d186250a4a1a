-- Which bytes are refused.
use Rattle.std.proofs.Common.{◌≡◌, ◌<◌, ◌≤◌, ℕ, ◌*◌, List, length, take, inr, sym, ◌∙◌, ap, subst, arith}
use Rattle.std.proofs.lemmas.List.{take-take}
use Rattle.page_entry.specs.declared.refusal.Refusal.{Refusal}
use Rattle.page_entry.specs.declared.refusal.Refusal.TheVariants.{Device, OutOfMemory, NotAVolume, Damaged}
use Rattle.volume_codec.specs.Layout.{magic_of, block_at}
use Rattle.volume_codec.specs.Super.{SuperValue, IsSuper, block_count, geometry_of}
use Rattle.volume_codec.specs.Recovery.{AreOpen, IsDamaged}
use Rattle.volume_codec.specs.Refusals.{RefusesSuper}
use Rattle.volume_codec.proofs.Functional.{one_table, reads_block}
use Rattle.recovery.specs.Opening.{RefusesOpening}
use Rattle.recovery.specs.inside.Reading.{RefusesJournals}

-- a volume begins with its layout's magic
pub magic_at : (v : SuperValue) (bytes : List ℕ) → IsSuper v (block_at bytes 0) → take 8 bytes ≡ magic_of v.layout
magic_at v bytes is = sym (take-take 8 4096 bytes (omega arith)) ∙ (reads_block v (block_at bytes 0) is).magic

-- block 0 is refused
pub refuses_super : (bytes : List ℕ) (e : Refusal) → 4096 ≤ length bytes → RefusesSuper (block_at bytes 0) e
    → RefusesOpening bytes e
refuses_super bytes NotAVolume long refuses =
    inr (λ layout magic. refuses layout (take-take 8 4096 bytes (omega arith) ∙ magic))
refuses_super bytes Damaged long refuses = record {
  long = long;
  layout = refuses.0;
  magic = sym (take-take 8 4096 bytes (omega arith)) ∙ refuses.1;
  lost = λ files r. refuses.2 r.table r.recovers.volume.super_block;
}
refuses_super bytes OutOfMemory long refuses = tt
refuses_super bytes Device long refuses = tt
refuses_super bytes _ long refuses = refuses

-- the device ends before its volume
pub refuses_short : (v : SuperValue) (bytes : List ℕ) → IsSuper v (block_at bytes 0) → 4096 ≤ length bytes
    → length bytes < 4096 * block_count v → IsDamaged bytes
refuses_short v bytes is long short = record {
  long = long;
  layout = v.layout;
  magic = magic_at v bytes is;
  lost = λ files r.
      let same = one_table r.table v (block_at bytes 0) r.recovers.volume.super_block is in
      let blocks = ap (λ (w : SuperValue). block_count w) same in
      omega (arith, r.recovers.volume.long, blocks);
}

-- the open journals are refused
pub refuses_journals : (v : SuperValue) (bytes : List ℕ) (e : Refusal) → IsSuper v (block_at bytes 0)
    → 4096 ≤ length bytes → RefusesJournals (geometry_of v) bytes e → RefusesOpening bytes e
refuses_journals v bytes Damaged is long refuses = record {
  long = long;
  layout = v.layout;
  magic = magic_at v bytes is;
  lost = λ files r.
      let same = one_table r.table v (block_at bytes 0) r.recovers.volume.super_block is in
      let P : SuperValue → Type 0 = λ w. AreOpen (geometry_of w) r.recovers.batches bytes in
      refuses r.recovers.batches (subst P same r.recovers.volume.journals);
}
refuses_journals v bytes OutOfMemory is long refuses = tt
refuses_journals v bytes Device is long refuses = tt
refuses_journals v bytes _ is long refuses = absurd refuses
