-- What each move of a processor keeps.
use Rattle.std.proofs.Common.{◌≡◌, ℕ, ◌<◌, Bool, true, false, not, ◌&&◌, ◌||◌, eqb, ◌==◌, List, length}
use Rattle.std.proofs.Common.{get_or, set, refl, ap, ◌∙◌, arith, All, get_or-set_same, get_or-set_other, lit<}
use Rattle.std.specs.List.{filter, list_any}
use Rattle.std.proofs.lemmas.Bool.{or_left, or_right, and_from, not-true, eq-eqb, not_from_false}
use Rattle.std.proofs.lemmas.Bool.Decides.{nat_tests}
use Rattle.std.proofs.lemmas.List.{length-set}
use Rattle.std.proofs.lemmas.List.Elements.{All-filter, filter_passes}
use Rattle.pcid_tlb.specs.declared.CachedEntry.{CachedEntry}
use Rattle.pcid_tlb.specs.Tlb.{TlbState, cr3_loaded, without_page, filled, evicted, IsTlb}
use Rattle.pcid_tlb.proofs.Public.{All-kept, All-cr3_loaded, All-evicted, All-filled}
use Rattle.pcid_tlb.proofs.Public.{IsTlb-keep_entries, IsTlb-evicted, IsTlb-cr3_loaded, IsTlb-filled}
use Rattle.shootdown.specs.declared.proc_state.ProcState.{ProcState}
use Rattle.shootdown.specs.Processors.{Processor, fresh_processor, queue_drops, drops_pcid, drained, pcids, IsProcessor}
use Rattle.shootdown.proofs.Flags.{length-flags_kept, get_or-flags_kept, length-first_flags, get_or-first_flags}
use Rattle.shootdown.proofs.Queues.{queue_drops-of_pcid}

-- the flag of the entry's PCID is set
abbrev pub IsKnown : List Bool → CachedEntry → Type 0
IsKnown flags e = get_or flags e.pcid false ≡ true

-- with another TLB, whose entries it may cache
pub IsProcessor-with_tlb : (p : Processor) (t : TlbState)
    → IsProcessor p → IsTlb t → All (IsKnown p.may_cache) t.entries
    → IsProcessor (record p { tlb = t })
IsProcessor-with_tlb p t is tlb known = record {
  tlb = tlb;
  short_queue = is.short_queue;
  small = is.small;
  flags = is.flags;
  current = is.current;
  known = known;
}

pub IsProcessor-without_page : (p : Processor) (pcid page : ℕ) → IsProcessor p
    → IsProcessor (record p { tlb = without_page p.tlb pcid page })
IsProcessor-without_page p pcid page is =
    IsProcessor-with_tlb p _ is (IsTlb-keep_entries _ p.tlb is.tlb) (All-kept (IsKnown p.may_cache) _ p.tlb is.known)

pub IsProcessor-evicted : (p : Processor) (slot : ℕ) → IsProcessor p
    → IsProcessor (record p { tlb = evicted p.tlb slot })
IsProcessor-evicted p slot is = IsProcessor-with_tlb p _ is (IsTlb-evicted p.tlb slot is.tlb)
    (All-evicted (IsKnown p.may_cache) p.tlb slot is.known)

-- an entry of the current space may be cached
pub IsProcessor-filled : (p : Processor) (e : CachedEntry) → e.pcid ≡ p.space → IsProcessor p
    → IsProcessor (record p { tlb = filled p.tlb e })
IsProcessor-filled p e here is =
    IsProcessor-with_tlb p _ is (IsTlb-filled p.tlb e is.tlb)
    (All-filled (IsKnown p.may_cache) p.tlb e is.known (ap (λ pcid. get_or p.may_cache pcid false) here ∙ is.current))

-- in another state
pub IsProcessor-with_state : (p : Processor) (state : ProcState) → IsProcessor p
    → IsProcessor (record p { state = state })
IsProcessor-with_state p state is = record {
  tlb = is.tlb;
  short_queue = is.short_queue;
  small = is.small;
  flags = is.flags;
  current = is.current;
  known = is.known;
}

-- what a drained processor keeps of its flags
abbrev pub stays_flagged : Processor → ℕ → Bool
stays_flagged p pcid = (pcid == p.space) || not (list_any (λ a. drops_pcid a pcid) p.queue)

pub get_or-drained : (p : Processor) (pcid : ℕ)
    → get_or (drained p).may_cache pcid false ≡ (get_or p.may_cache pcid false && stays_flagged p pcid)
get_or-drained p pcid = get_or-flags_kept (stays_flagged p) p.may_cache pcid

pub IsProcessor-drained : (p : Processor) → IsProcessor p → IsProcessor (drained p)
IsProcessor-drained p is =
    let kept : CachedEntry → Bool = λ e. not (queue_drops p.queue e.pcid e.page) in
    record {
      tlb = IsTlb-keep_entries kept p.tlb is.tlb;
      short_queue = omega arith;
      small = is.small;
      flags = length-flags_kept (stays_flagged p) 0 p.may_cache ∙ is.flags;
      current = get_or-drained p p.space ∙ and_from _ _ is.current (or_left _ _ (eq-eqb p.space p.space refl));
      known = λ k d within.
          let e = get_or (filter kept p.tlb.entries) k d in
          let stays = not-true _ (filter_passes kept p.tlb.entries k d within) in
          let before = All-filter kept (IsKnown p.may_cache) p.tlb.entries is.known k d within in
          get_or-drained p e.pcid
          ∙ and_from _ _ before (or_right _ _ (not_from_false _ (queue_drops-of_pcid p.queue e.pcid e.page stays)));
    }

flag_stays : (flags : List Bool) (pcid q : ℕ) → pcid < length flags → get_or flags q false ≡ true
    → get_or (set flags pcid true) q false ≡ true
flag_stays flags pcid q within flag = go (eqb q pcid) refl
  where
    go : (b : Bool) → eqb q pcid ≡ b → get_or (set flags pcid true) q false ≡ true
    go true here =
        let same : q ≡ pcid = grind (arith, nat_tests) in
        ap (λ n. get_or (set flags pcid true) n false) same ∙ get_or-set_same flags pcid true false within
    go false here = get_or-set_other flags pcid q true false (grind (arith, nat_tests)) ∙ flag

-- after a load of CR3
pub IsProcessor-loaded : (p : Processor) (pcid : ℕ) (keep : Bool) → pcid < pcids → IsProcessor p
    → IsProcessor (record p { space = pcid; tlb = cr3_loaded p.tlb pcid keep; may_cache = set p.may_cache pcid true })
IsProcessor-loaded p pcid keep small is =
    let within : pcid < length p.may_cache = omega (arith, is.flags) in
    record {
      tlb = IsTlb-cr3_loaded p.tlb pcid keep is.tlb;
      short_queue = is.short_queue;
      small = small;
      flags = length-set p.may_cache pcid true ∙ is.flags;
      current = get_or-set_same p.may_cache pcid true false within;
      known = All-cr3_loaded (IsKnown (set p.may_cache pcid true)) p.tlb pcid keep
          (λ k d below. flag_stays p.may_cache pcid (get_or p.tlb.entries k d).pcid within (is.known k d below));
    }

pub IsProcessor-fresh : (tlb : ℕ) → 0 < tlb → IsProcessor (fresh_processor tlb)
IsProcessor-fresh tlb roomy = record {
  tlb = record { roomy = roomy; bounded = omega arith; distinct = λ i j d below within. absurd (omega arith) };
  short_queue = omega arith;
  small = lit< tt;
  flags = length-first_flags;
  current = get_or-first_flags;
  known = λ k d within. absurd (omega arith);
}
