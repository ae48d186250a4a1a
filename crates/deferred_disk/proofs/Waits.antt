-- The calls that wait, in the order of the log and the other way round.
use Rattle.std.proofs.Common.{◌≡◌, ◌<◌, ℕ, ◌+◌, List, [], ◌∷◌, ◌++◌, length, length-append, get_or, take, drop}
use Rattle.std.proofs.Common.{append_assoc, refl, sym, ◌∙◌, ap, subst, arith}
use Rattle.std.proofs.lemmas.List.{append-nil, take-append-drop, take_more}
use Rattle.device.specs.Memory.{DiskChange}
use Rattle.device.specs.inside.Replay.{AreWithin}
use Rattle.device.proofs.Public.{within_newer, within_older}
use Rattle.deferred_disk.specs.declared.waiting.WaitingCall.{WaitingCall}
use Rattle.deferred_disk.specs.inside.Waiting.{change_of, changes_of}

pub changes_of-append : {A : Type 0} (old new : List (WaitingCall A))
    → changes_of (old ++ new) ≡ changes_of new ++ changes_of old
changes_of-append [] new = sym (append-nil (changes_of new))
changes_of-append (e ∷ old) new =
    ap (λ (l : List DiskChange). l ++ change_of e ∷ []) (changes_of-append old new)
    ∙ append_assoc (changes_of new) (changes_of old) (change_of e ∷ [])

pub changes_of-push : {A : Type 0} (log : List (WaitingCall A)) (call : WaitingCall A)
    → changes_of (log ++ call ∷ []) ≡ change_of call ∷ changes_of log
changes_of-push log call = changes_of-append log (call ∷ [])

-- the log from a call on, and the log up to there
pub changes_of-split : {A : Type 0} (log : List (WaitingCall A)) (n : ℕ)
    → changes_of log ≡ changes_of (drop n log) ++ changes_of (take n log)
changes_of-split log n = ap changes_of (sym (take-append-drop n log)) ∙ changes_of-append (take n log) (drop n log)

-- the log up to a call, and that call
pub changes_of-more : {A : Type 0} (log : List (WaitingCall A)) (k : ℕ) (call : WaitingCall A) → k < length log
    → call ≡ get_or log k call → changes_of (take (k + 1) log) ≡ change_of call ∷ changes_of (take k log)
changes_of-more log k call lt is =
    ap changes_of (take_more log k call lt) ∙ changes_of-push (take k log) (get_or log k call)
    ∙ ap (λ e. change_of e ∷ changes_of (take k log)) (sym is)

pub length-changes_of : {A : Type 0} (log : List (WaitingCall A)) → length (changes_of log) ≡ length log
length-changes_of [] = refl
length-changes_of (e ∷ log) = omega (arith, length-append (changes_of log) (change_of e ∷ []), length-changes_of log)

-- each write is within the disk where all are
pub within_at : {A : Type 0} (log : List (WaitingCall A)) (k n : ℕ) (call : WaitingCall A) → k < length log
    → call ≡ get_or log k call → AreWithin n (changes_of log) → AreWithin n (change_of call ∷ [])
within_at log k n call lt is within =
    let upto = within_older n (changes_of (drop (k + 1) log)) (changes_of (take (k + 1) log))
    (subst (λ (l : List DiskChange). AreWithin n l) (changes_of-split log (k + 1)) within) in
    let more = subst (λ (l : List DiskChange). AreWithin n l) (changes_of-more log k call lt is) upto in
    within_newer n (change_of call ∷ []) (changes_of (take k log)) more
