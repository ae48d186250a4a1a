-- What a processor that is notified of invalidations keeps, and what its queue then drops.
use Rattle.std.proofs.Common.{◌≡◌, ℕ, ◌≤◌, Bool, true, false, cond, ◌⊎◌, eqb, List, []}
use Rattle.std.proofs.Common.{◌∷◌, length, get_or, refl, sym, ap, ◌∙◌, arith, inl, inr}
use Rattle.std.proofs.lemmas.Bool.{and_parts, eqb-true, or_cases}
use Rattle.std.proofs.lemmas.List.{length_push}
use Rattle.std.proofs.lemmas.Bool.Decides.{nat_tests}
use Rattle.pcid_tlb.specs.declared.Invpcid.{Invpcid}
use Rattle.pcid_tlb.specs.declared.Invpcid.TheVariants.{IndividualAddress, SingleContext}
use Rattle.pcid_tlb.specs.declared.Invpcid.TheVariants.{AllContextsAndGlobals, AllContexts}
use Rattle.shootdown.specs.Processors.{Processor, drops_page, queue_drops, queued}
use Rattle.shootdown.specs.Processors.{queue_len, is_concerned, notified, notified_all, IsProcessor}
use Rattle.shootdown.proofs.Queues.{queue_drops-queued}

abbrev with_queue : Processor → List Invpcid → Processor
with_queue p queue = record p { queue = queue }

-- only the queue changes
pub notified-queue : (p : Processor) (a : Invpcid) → notified p a ≡ with_queue p (notified p a).queue
notified-queue p a = go (is_concerned p a)
  where
    go : (b : Bool)
        → cond b (with_queue p (queued p.queue a)) p ≡ with_queue p (cond b (with_queue p (queued p.queue a)) p).queue
    go true = refl
    go false = refl

pub notified_all-queue : (actions : List Invpcid) (p : Processor)
    → notified_all p actions ≡ with_queue p (notified_all p actions).queue
notified_all-queue [] p = refl
notified_all-queue (a ∷ actions) p =
    let q = (notified_all (notified p a) actions).queue in
    notified_all-queue actions (notified p a) ∙ ap (λ (x : Processor). with_queue x q) (notified-queue p a)

length-queued : (queue : List Invpcid) (a : Invpcid) → length (queued queue a) ≤ queue_len
length-queued queue a = grind (arith, nat_tests, length_push {X = Invpcid})

-- what the queue keeps with one invalidation more it kept before
pub queue_kept-queued : (queue : List Invpcid) (a : Invpcid) (pcid page : ℕ)
    → queue_drops (queued queue a) pcid page ≡ false
    → queue_drops queue pcid page ≡ false
queue_kept-queued queue a pcid page kept = go (queue_drops queue pcid page) refl
  where
    go : (b : Bool) → queue_drops queue pcid page ≡ b → b ≡ false
    go true drops = let more = queue_drops-queued queue a pcid page (inl drops) in absurd (cc)
    go false drops = refl

pub queue_kept-notified : (p : Processor) (a : Invpcid) (pcid page : ℕ)
    → queue_drops (notified p a).queue pcid page ≡ false
    → queue_drops p.queue pcid page ≡ false
queue_kept-notified p a pcid page = go (is_concerned p a)
  where
    go : (b : Bool) → queue_drops (cond b (with_queue p (queued p.queue a)) p).queue pcid page ≡ false
        → queue_drops p.queue pcid page ≡ false
    go true kept = queue_kept-queued p.queue a pcid page kept
    go false kept = kept

pub queue_kept-notified_all : (actions : List Invpcid) (p : Processor) (pcid page : ℕ)
    → queue_drops (notified_all p actions).queue pcid page ≡ false
    → queue_drops p.queue pcid page ≡ false
queue_kept-notified_all [] p pcid page kept = kept
queue_kept-notified_all (a ∷ actions) p pcid page kept =
    queue_kept-notified p a pcid page (queue_kept-notified_all actions (notified p a) pcid page kept)

-- what the queue drops it drops with more
pub queue_drops-notified_all : (actions : List Invpcid) (p : Processor) (pcid page : ℕ)
    → queue_drops p.queue pcid page ≡ true
    → queue_drops (notified_all p actions).queue pcid page ≡ true
queue_drops-notified_all actions p pcid page drops = go (queue_drops (notified_all p actions).queue pcid page) refl
  where
    go : (b : Bool) → queue_drops (notified_all p actions).queue pcid page ≡ b → b ≡ true
    go true now = refl
    go false now = let before = queue_kept-notified_all actions p pcid page now in absurd (cc)

-- an invalidation that drops a page of a PCID goes to whoever may cache that PCID
concerned : (p : Processor) (a : Invpcid) (pcid page : ℕ)
    → get_or p.may_cache pcid false ≡ true → drops_page a pcid page ≡ true
    → is_concerned p a ≡ true
concerned p (IndividualAddress q other) pcid page may drops =
    let same : pcid ≡ q = eqb-true pcid q (and_parts (eqb pcid q) (eqb page other) drops).0 in
    sym (ap (λ n. get_or p.may_cache n false) same) ∙ may
concerned p (SingleContext q) pcid page may drops =
    sym (ap (λ n. get_or p.may_cache n false) (eqb-true pcid q drops))
    ∙ may
concerned p AllContextsAndGlobals pcid page may drops = refl
concerned p AllContexts pcid page may drops = refl

pub queue_drops-notified : (p : Processor) (a : Invpcid) (pcid page : ℕ)
    → get_or p.may_cache pcid false ≡ true → drops_page a pcid page ≡ true
    → queue_drops (notified p a).queue pcid page ≡ true
queue_drops-notified p a pcid page may drops =
    ap (λ b. queue_drops (cond b (with_queue p (queued p.queue a)) p).queue pcid page)
    (concerned p a pcid page may drops)
    ∙ queue_drops-queued p.queue a pcid page (inr drops)

-- so what one of these invalidations drops is dropped by the queue of whoever may cache it
pub queue_drops-notified_any : (actions : List Invpcid) (p : Processor) (pcid page : ℕ)
    → get_or p.may_cache pcid false ≡ true → queue_drops actions pcid page ≡ true
    → queue_drops (notified_all p actions).queue pcid page ≡ true
queue_drops-notified_any [] p pcid page may drops = absurd (cc)
queue_drops-notified_any (a ∷ actions) p pcid page may drops =
    go (or_cases (drops_page a pcid page) (queue_drops actions pcid page) drops)
    (λ later. queue_drops-notified_any actions (notified p a) pcid page
    (ap (λ (x : Processor). get_or x.may_cache pcid false) (notified-queue p a) ∙ may) later)
  where
    go : (drops_page a pcid page ≡ true) ⊎ (queue_drops actions pcid page ≡ true)
        → (queue_drops actions pcid page ≡ true
        → queue_drops (notified_all (notified p a) actions).queue pcid page ≡ true)
        → queue_drops (notified_all (notified p a) actions).queue pcid page ≡ true
    go (inl here) later = queue_drops-notified_all actions (notified p a) pcid page
        (queue_drops-notified p a pcid page may here)
    go (inr there) later = later there

-- it is a processor still
pub IsProcessor-notified : (p : Processor) (a : Invpcid) → IsProcessor p → IsProcessor (notified p a)
IsProcessor-notified p a is = go (is_concerned p a)
  where
    go : (b : Bool) → IsProcessor (cond b (with_queue p (queued p.queue a)) p)
    go true = record {
      tlb = is.tlb;
      short_queue = length-queued p.queue a;
      small = is.small;
      flags = is.flags;
      current = is.current;
      known = is.known;
    }
    go false = is

pub IsProcessor-notified_all : (actions : List Invpcid) (p : Processor) → IsProcessor p
    → IsProcessor (notified_all p actions)
IsProcessor-notified_all [] p is = is
IsProcessor-notified_all (a ∷ actions) p is =
    IsProcessor-notified_all actions (notified p a) (IsProcessor-notified p a is)
