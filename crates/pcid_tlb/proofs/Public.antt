-- What follows of the definitions, for the crates above, which see no other lemma of this crate: what each call keeps
-- of a TLB and of each of its entries.
pub use Rattle.pcid_tlb.proofs.TlbLaws.{IsTlb-keep_entries, IsTlb-evicted, IsTlb-cr3_loaded, IsTlb-filled}
pub use Rattle.pcid_tlb.proofs.TlbLaws.{All-kept, All-cr3_loaded, All-evicted, All-filled, cached-All}
