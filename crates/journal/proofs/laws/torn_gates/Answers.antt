use Rattle.std.proofs.Common.{[], ◌∷◌, inr, arith}
use Rattle.volume_codec.specs.Layout.{gate_block}
use Rattle.volume_codec.specs.Super.{geometry_of}
use Rattle.volume_codec.specs.Recovery.{IsOpenBatch}
use Rattle.journal.proofs.Alls.{all_back}
use Rattle.journal.proofs.Changes.{same_but_torn}
use Rattle.journal.proofs.Recovering.{agrees_recovers, gate_agrees, gate_opens, gate_closes}
use Rattle.journal.proofs.laws.torn_gates.Goals as goal

pub returns : goal.returns
returns c = record {
  kept = λ v opened contents c torn j r lt is was stays.
      agrees_recovers v opened contents c torn r (gate_agrees v opened c torn j r.volume lt
      (same_but_torn (gate_block v.slots j) 1 c torn (omega arith) is) was stays);
  opens = λ v opened old new batch c torn r is_batch newer none descriptor records outside is opens.
      gate_opens v opened old new batch c torn r is_batch newer none descriptor records outside
      (same_but_torn (gate_block v.slots batch.journal) 1 c torn (omega arith) is) opens;
  closes = λ v newer oldest contents c torn r none applied is shut.
      gate_closes v newer oldest contents c torn r
      (all_back (IsOpenBatch (geometry_of v) c) newer (oldest ∷ []) r.volume.journals.each).0.there none
      (λ i within. inr (applied i within))
      (same_but_torn (gate_block v.slots oldest.journal) 1 c torn (omega arith) is) shut;
}
