-- What a printer that was told the replies of a run has printed.
use Rattle.std.proofs.Common.{◌≡◌, inl, inr, ℕ, ◌+◌, ◌<◌, ◌^◌, List, [], ◌∷◌, length, Option, Some, None}
use Rattle.std.proofs.Common.{Result, IfOk, take, refl, sym, ◌∙◌, ap, subst, arith}
use Rattle.std.proofs.lemmas.Result.{IfOk-weaker}
use Rattle.std.specs.List.{flat_map}
use Rattle.machine.specs.declared.act.Reply.{Reply}
use Rattle.machine.specs.declared.act.Step.{Step}
use Rattle.engine.specs.Listening.{HasHeard, HasListened}
use Rattle.commands.proofs.Appended.{appends_none, appends_both}
use Rattle.commands.specs.declared.printer.Printer.{Printer}
use Rattle.commands.specs.Printed.{line_of, failure_after, Prints, ArePrinted, ArePrintedOf, IsPrintedRun}

-- a failure that was found stays
found_stays : (n first : ℕ) (replies : List Reply) → failure_after n (Some first) replies ≡ Some first
found_stays n first [] = refl
found_stays n first (reply ∷ replies) = refl

failure_more : (n : ℕ) (found : Option ℕ) (reply : Reply) (replies : List Reply)
    → failure_after (n + 1) (failure_after n found (reply ∷ [])) replies ≡ failure_after n found (reply ∷ replies)
failure_more n None reply replies = refl
failure_more n (Some first) reply replies = found_stays (n + 1) first replies

module _ {W : Type 0} (contents : W → Option (List ℕ)) where
  pub printed_of : (old : Printer W) (replies : List Reply) (new : Printer W)
      → HasHeard (Prints contents) old replies new → ArePrinted contents old replies new
  printed_of old [] new same =
      let P : Printer W → Type 0 = λ p. ArePrinted contents old [] p in
      subst P (sym same) (record {
        lines = appends_none (contents old.out);
        failure = λ few. refl;
        no_fault = refl;
      })
  printed_of old (reply ∷ replies) new (next, first, rest) =
      let later = printed_of next replies new rest in record {
        lines = appends_both (contents old.out) (contents next.out) (contents new.out) (line_of reply)
            (flat_map line_of replies) first.line later.lines;
        failure = λ few.
            let one : old.count + 1 < 2 ^ 64 = omega arith in
            let count = first.counted one in
            let rest_few : next.count + length replies < 2 ^ 64 = omega (arith, count) in
            later.failure rest_few
            ∙ ap (λ n. failure_after n next.failure replies) count
            ∙ ap (λ found. failure_after (old.count + 1) found replies) (first.failure one)
            ∙ failure_more old.count old.failure reply replies;
        no_fault = later.no_fault ∙ first.no_fault;
      }

  pub printed_of_run : (n : ℕ) (old : Printer W) (replies : List Reply) (new : Printer W)
      → HasListened (Prints contents) n old replies new → ArePrintedOf contents n old replies new
  printed_of_run n old replies new (inl (heard, all)) = inl (printed_of old replies new heard, all)
  printed_of_run n old replies new (inr stopped) =
      inr (record {
        earlier = stopped.earlier;
        last = stopped.last;
        split = stopped.split;
        before = stopped.before;
        printed = printed_of old stopped.earlier stopped.before stopped.heard;
        failed = stopped.stopped;
      })

-- the replies of a run that a printer was told are printed
pub printed_run : {W D E : Type 0} (contents : W → Option (List ℕ)) (old new : Printer W) (slice steps : List Step)
    (result : Result D E) (ran : List Step → List Reply → D → Type 0) → slice ≡ steps
    → IfOk result (λ after. (replies : List Reply) × HasListened (Prints contents) (length slice) old replies new
    × ran (take (length replies) slice) replies after)
    → IfOk result (IsPrintedRun contents ran steps old new)
printed_run {D = D} contents old new slice steps result ran same made =
    let Told : List Step → D → Type 0 = λ told after. (replies : List Reply)
    × HasListened (Prints contents) (length told) old replies new × ran (take (length replies) told) replies after in
    IfOk-weaker result (Told steps) (IsPrintedRun contents ran steps old new)
    (λ after told. (told.0, printed_of_run contents (length steps) old told.0 new told.1, told.2))
    (subst (λ (all : List Step). IfOk result (Told all)) same made)
