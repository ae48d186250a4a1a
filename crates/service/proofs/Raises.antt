-- How far a reply raises the horizon, and what of the trace it goes by.
use Rattle.std.proofs.Common.{◌⊎◌, inl, inr, ◌≡◌, ℕ, Bool, true, false, List, [], ◌∷◌, ◌++◌, refl, sym, ap, ◌∙◌, subst}
use Rattle.std.proofs.lemmas.Bool.{false≢true}
use Rattle.std.proofs.lemmas.List.Sums.{fold_push}
use Rattle.std.specs.List.{fold}
use Rattle.machine.specs.declared.act.Reply.{Reply}
use Rattle.machine.specs.declared.act.Reply.TheVariants as replies
use Rattle.service.specs.declared.entry.Entry.{Entry}
use Rattle.service.specs.declared.raising.Raise.TheVariants as raises
use Rattle.horizon.specs.Seen.{SeenState}
use Rattle.service.specs.declared.raising.Raise.{Raise}
use Rattle.machine.specs.Unmarked.{unmarked_by}
use Rattle.service.specs.Marks.{has_unmarked, HasReached, acknowledged_with, marks_of}
use Rattle.service.specs.Marks.{last_acknowledged, LeavesCommitted, RaisesCommitted, HasRaised}
use Rattle.service.specs.inside.Raising.{raise_by, RaisesUpTo, RaisesSo}
use Rattle.service.specs.inside.Rising.{seen_words}

-- what a raise reaches
pub reached : (unmarked : Bool) (reply : Reply) (stalled committed : ℕ)
    → RaisesUpTo (raise_by unmarked reply) stalled committed
    → HasReached unmarked reply stalled committed
reached true (replies.Marked number) stalled committed so = (so, λ none. absurd (false≢true (sym none)))
reached false (replies.Marked number) stalled committed so = (so.0, λ none. so.1)
reached unmarked (replies.Committed number) stalled committed so = so
reached unmarked reply stalled committed so = tt

-- of what is unmarked, the marks of a trace say the same as it says itself
same_unmarked : (trace : List Entry) (number : ℕ) (unmarked : Bool)
    → (fold (λ (marks : ℕ × Bool) (e : Entry). (acknowledged_with marks.0 marks.1 e.reply, unmarked_by marks.1 e.reply))
    (number, unmarked) trace).1
    ≡ fold (λ (was : Bool) (e : Entry). unmarked_by was e.reply) unmarked trace
same_unmarked [] number unmarked = refl
same_unmarked (e ∷ trace) number unmarked =
    same_unmarked trace (acknowledged_with number unmarked e.reply) (unmarked_by unmarked e.reply)

acknowledges : (number : ℕ) (unmarked : Bool) (reply : Reply) (mark : ℕ)
    → raise_by unmarked reply ≡ raises.Committed mark
    → acknowledged_with number unmarked reply ≡ mark
acknowledges number true (replies.Marked new) mark is = cc
acknowledges number false (replies.Marked new) mark is = cc
acknowledges number unmarked (replies.Committed new) mark is = cc
acknowledges number unmarked reply mark is = cc

-- committed is raised to the number of the last acknowledged mark
pub is_acknowledged : (trace before : List Entry) (last : Entry) (mark : ℕ) → trace ≡ before ++ last ∷ []
    → raise_by (has_unmarked before) last.reply ≡ raises.Committed mark → last_acknowledged trace ≡ mark
is_acknowledged trace before last mark is raised =
    let step : ℕ × Bool → Entry → ℕ × Bool =
    λ marks e. (acknowledged_with marks.0 marks.1 e.reply, unmarked_by marks.1 e.reply) in
    let marks : ℕ × Bool = marks_of before in
    let same : has_unmarked before ≡ marks.1 = sym (same_unmarked before 0 false) in
    ap (λ (t : List Entry). last_acknowledged t) is
    ∙ ap (λ (m : ℕ × Bool). m.0) (fold_push step (0, false) before last)
    ∙ acknowledges marks.0 marks.1 last.reply mark
    (subst (λ (b : Bool). raise_by b last.reply ≡ raises.Committed mark) same raised)

-- what a raise does to the two words
pub raised : (unmarked : Bool) (reply : Reply) (old new : SeenState) → RaisesSo (raise_by unmarked reply) old new
    → HasRaised unmarked reply (seen_words old) (seen_words new)
raised true (replies.Marked number) old new so = (so.stalled, so.committed)
raised false (replies.Marked number) old new so = (so.stalled, so.committed)
raised true (replies.Committed number) old new so = (so.stalled, so.committed)
raised false (replies.Committed number) old new so = (so.stalled, so.committed)
raised unmarked reply old new so = ap seen_words so

-- it raises committed to no other number than that of the last acknowledged mark
pub to_acknowledged : (raise : Raise) (last : ℕ) (old new : SeenState) → RaisesSo raise old new
    → ((mark : ℕ) → raise ≡ raises.Committed mark → last ≡ mark)
    → LeavesCommitted (seen_words old) (seen_words new) ⊎ RaisesCommitted last (seen_words old) (seen_words new)
to_acknowledged raises.Nothing last old new so is = inl (ap (λ (s : SeenState). s.committed_raised) so)
to_acknowledged (raises.Stalled number) last old new so is = inl so.committed
to_acknowledged (raises.Committed number) last old new so is =
    inr (subst (λ (n : ℕ). RaisesCommitted n (seen_words old) (seen_words new)) (sym (is number refl)) so.committed)
