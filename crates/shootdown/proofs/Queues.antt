-- What the invalidations of a queue drop.
use Rattle.std.proofs.Common.{◌≡◌, ℕ, ◌+◌, ◌<◌, Bool, true, false, cond, not, ◌&&◌, ◌||◌, nat_lt}
use Rattle.std.proofs.Common.{List, [], ◌∷◌, ◌++◌, length, get_or, take, ◌==◌, ◌⊎◌, ⊎_elim, refl, sym, ap, ◌∙◌}
use Rattle.std.specs.List.{filter, list_any}
use Rattle.std.proofs.lemmas.Bool.{or_left, or_right, or_parts, or_from}
use Rattle.std.proofs.lemmas.List.Folds.{list_any-append, list_any_more}
use Rattle.std.proofs.lemmas.List.Elements.{filter_agree}
use Rattle.pcid_tlb.specs.declared.CachedEntry.{CachedEntry}
use Rattle.pcid_tlb.specs.declared.Invpcid.{Invpcid}
use Rattle.pcid_tlb.specs.declared.Invpcid.TheVariants.{IndividualAddress, SingleContext}
use Rattle.pcid_tlb.specs.declared.Invpcid.TheVariants.{AllContextsAndGlobals, AllContexts}
use Rattle.pcid_tlb.specs.Tlb.{TlbState, keep_entries, invalidated}
use Rattle.shootdown.specs.Processors.{drops_page, drops_pcid, queue_drops, queued, queue_len, flags_kept}
use Rattle.shootdown.proofs.Flags.{flags_kept-flags_kept}

-- all entries stay where each passes
keep_all : (test : CachedEntry → Bool) → ((e : CachedEntry) → test e ≡ true) → (es : List CachedEntry)
    → filter test es ≡ es
keep_all test all [] = refl
keep_all test all (e ∷ es) =
    ap (λ b. cond b (e ∷ filter test es) (filter test es)) (all e)
    ∙ ap (λ rest. e ∷ rest) (keep_all test all es)

filter-filter : (p q : CachedEntry → Bool) (es : List CachedEntry)
    → filter q (filter p es) ≡ filter (λ e. p e && q e) es
filter-filter p q [] = refl
filter-filter p q (e ∷ es) = go (p e) (filter-filter p q es)
  where
    go : (b : Bool) → filter q (filter p es) ≡ filter (λ e. p e && q e) es
        → filter q (cond b (e ∷ filter p es) (filter p es))
        ≡ cond (b && q e) (e ∷ filter (λ e. p e && q e) es) (filter (λ e. p e && q e) es)
    go true later = ap (λ rest. cond (q e) (e ∷ rest) rest) later
    go false later = later

pub keep_entries_all : (test : CachedEntry → Bool) (t : TlbState) → ((e : CachedEntry) → test e ≡ true)
    → keep_entries test t ≡ t
keep_entries_all test t all =
    let with_entries : List CachedEntry → TlbState = λ es. record t { entries = es } in
    ap with_entries (keep_all test all t.entries)

pub keep_entries-keep_entries : (p q : CachedEntry → Bool) (t : TlbState)
    → keep_entries q (keep_entries p t) ≡ keep_entries (λ e. p e && q e) t
keep_entries-keep_entries p q t =
    let with_entries : List CachedEntry → TlbState = λ es. record t { entries = es } in
    ap with_entries (filter-filter p q t.entries)

pub keep_entries_agree : (p q : CachedEntry → Bool) (t : TlbState) → ((e : CachedEntry) → p e ≡ q e)
    → keep_entries p t ≡ keep_entries q t
keep_entries_agree p q t agree =
    let with_entries : List CachedEntry → TlbState = λ es. record t { entries = es } in
    ap with_entries (filter_agree p q agree t.entries)

-- an invalidation keeps what it doesn't drop
pub invalidated-keeps : (t : TlbState) (a : Invpcid)
    → invalidated t a ≡ keep_entries (λ e. not (drops_page a e.pcid e.page)) t
invalidated-keeps t (IndividualAddress pcid page) = refl
invalidated-keeps t (SingleContext pcid) = refl
invalidated-keeps t AllContextsAndGlobals = refl
invalidated-keeps t AllContexts = refl

not_or : (a b : Bool) → (not a && not b) ≡ not (a || b)
not_or true b = refl
not_or false b = refl

-- one invalidation more is carried out
pub invalidated-more : (queue : List Invpcid) (i : ℕ) (d : Invpcid) (t : TlbState) → i < length queue
    → invalidated (keep_entries (λ e. not (queue_drops (take i queue) e.pcid e.page)) t) (get_or queue i d)
    ≡ keep_entries (λ e. not (queue_drops (take (i + 1) queue) e.pcid e.page)) t
invalidated-more queue i d t within =
    let a = get_or queue i d in
    let before : CachedEntry → Bool = λ e. not (queue_drops (take i queue) e.pcid e.page) in
    let now : CachedEntry → Bool = λ e. not (drops_page a e.pcid e.page) in
    invalidated-keeps (keep_entries before t) a ∙ keep_entries-keep_entries before now t
    ∙ keep_entries_agree (λ e. before e && now e) (λ e. not (queue_drops (take (i + 1) queue) e.pcid e.page)) t (λ e.
    not_or (queue_drops (take i queue) e.pcid e.page) (drops_page a e.pcid e.page)
    ∙ sym (ap not (list_any_more (λ x. drops_page x e.pcid e.page) queue i d within)))

both_pass : (s a b : Bool) → ((s || not a) && (s || not b)) ≡ (s || not (a || b))
both_pass true a b = refl
both_pass false true b = refl
both_pass false false b = refl

-- and what it drops whole is no longer flagged
pub flags_kept-more : (queue : List Invpcid) (i : ℕ) (d : Invpcid) (space : ℕ) (flags : List Bool) → i < length queue
    → flags_kept (λ pcid. pcid == space || not (drops_pcid (get_or queue i d) pcid)) 0
    (flags_kept (λ pcid. pcid == space || not (list_any (λ a. drops_pcid a pcid) (take i queue))) 0 flags)
    ≡ flags_kept (λ pcid. pcid == space || not (list_any (λ a. drops_pcid a pcid) (take (i + 1) queue))) 0 flags
flags_kept-more queue i d space flags within =
    let a = get_or queue i d in
    let before : ℕ → Bool = λ pcid. pcid == space || not (list_any (λ x. drops_pcid x pcid) (take i queue)) in
    let now : ℕ → Bool = λ pcid. pcid == space || not (drops_pcid a pcid) in
    let agree : (pcid : ℕ)
    → (before pcid && now pcid) ≡ (pcid == space || not (list_any (λ x. drops_pcid x pcid) (take (i + 1) queue))) =
    λ pcid.
    both_pass (pcid == space) (list_any (λ x. drops_pcid x pcid) (take i queue)) (drops_pcid a pcid)
    ∙ ap (λ b. pcid == space || not b) (sym (list_any_more (λ x. drops_pcid x pcid) queue i d within)) in
    flags_kept-flags_kept before now flags ∙ (λ k. flags_kept (λ pcid. agree pcid k) 0 flags)

-- an invalidation that drops a whole PCID drops each of its pages
pub drops_page-of_pcid : (a : Invpcid) (pcid page : ℕ) → drops_page a pcid page ≡ false → drops_pcid a pcid ≡ false
drops_page-of_pcid (IndividualAddress q other) pcid page kept = refl
drops_page-of_pcid (SingleContext q) pcid page kept = kept
drops_page-of_pcid AllContextsAndGlobals pcid page kept = kept
drops_page-of_pcid AllContexts pcid page kept = kept

pub queue_drops-of_pcid : (queue : List Invpcid) (pcid page : ℕ) → queue_drops queue pcid page ≡ false
    → list_any (λ a. drops_pcid a pcid) queue ≡ false
queue_drops-of_pcid [] pcid page kept = refl
queue_drops-of_pcid (a ∷ queue) pcid page kept =
    let parts = or_parts (drops_page a pcid page) (queue_drops queue pcid page) kept in
    or_from (drops_pcid a pcid) (list_any (λ a. drops_pcid a pcid) queue) (drops_page-of_pcid a pcid page parts.0)
    (queue_drops-of_pcid queue pcid page parts.1)

-- a queue with one invalidation more drops what it dropped, and what that one drops
pub queue_drops-queued : (queue : List Invpcid) (a : Invpcid) (pcid page : ℕ)
    → (queue_drops queue pcid page ≡ true) ⊎ (drops_page a pcid page ≡ true)
    → queue_drops (queued queue a) pcid page ≡ true
queue_drops-queued queue a pcid page either = go (nat_lt (length queue) queue_len)
  where
    go : (b : Bool) → queue_drops (cond b (queue ++ a ∷ []) (AllContexts ∷ [])) pcid page ≡ true
    go true =
        list_any-append (λ x. drops_page x pcid page) queue (a ∷ [])
        ∙ ⊎_elim (or_left (queue_drops queue pcid page) (queue_drops (a ∷ []) pcid page))
        (λ last. or_right (queue_drops queue pcid page) (queue_drops (a ∷ []) pcid page)
        (or_left (drops_page a pcid page) false last)) either
    go false = refl
