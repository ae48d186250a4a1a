-- Calls of a processor, one after the other, and what could follow them.
use Rattle.std.proofs.Common.{◌≡◌, ◌∙◌, inl, List, [], ◌∷◌, ◌++◌, refl, sym, ap}
use Rattle.std.proofs.lemmas.List.{append-nil, append_assoc}
use Rattle.std.proofs.lemmas.List.Elements.{All-nil, All-cons, All-append, All-weaker}
use Rattle.machine.specs.declared.act.Act.{Act}
use Rattle.service.specs.Gathering.{CpuState}
use Rattle.driver.specs.Programs.{CpuCall, MakesCalls, MakesCall, EndsCalls, IsUpkeep, IsAttempt}

-- a processor that made no call
pub no_calls : (P : CpuCall → Type 0) (old new : CpuState) → new.number ≡ old.number → new.answered ≡ old.answered
    → MakesCalls P old new
no_calls P old new number answered = record {
  calls = [];
  each = All-nil P;
  number = number;
  answered = answered ∙ sym (append-nil old.answered);
}

pub stays : (P : CpuCall → Type 0) (cpu : CpuState) → MakesCalls P cpu cpu
stays P cpu = no_calls P cpu cpu refl refl

-- some calls, and then some more
pub more_calls : (P : CpuCall → Type 0) (old between new : CpuState) → MakesCalls P old between
    → MakesCalls P between new → MakesCalls P old new
more_calls P old between new first then_ = record {
  calls = first.calls ++ then_.calls;
  each = All-append P first.calls then_.calls first.each then_.each;
  number = then_.number ∙ first.number;
  answered = then_.answered ∙ ap (λ (l : List CpuCall). l ++ then_.calls) first.answered
      ∙ append_assoc old.answered first.calls then_.calls;
}

-- one call of the kind
pub one_call : (P : CpuCall → Type 0) (call : CpuCall) (old new : CpuState) → P call → MakesCall call old new
    → MakesCalls P old new
one_call P call old new is made = record {
  calls = call ∷ [];
  each = All-cons P call [] is (All-nil P);
  number = made.number;
  answered = made.answered;
}

-- calls of a kind are calls of a wider kind
pub wider : (P Q : CpuCall → Type 0) (old new : CpuState) → ((call : CpuCall) → P call → Q call)
    → MakesCalls P old new → MakesCalls Q old new
wider P Q old new is made = record {
  calls = made.calls;
  each = All-weaker P Q is made.calls made.each;
  number = made.number;
  answered = made.answered;
}

-- calls of a kind, and one more
pub ended : (P : CpuCall → Type 0) (last : CpuCall) (old new : CpuState) → P last → EndsCalls P last old new
    → MakesCalls P old new
ended P last old new is made = more_calls P old made.0 new made.1 (one_call P last made.0 new is made.2)

-- upkeep is an attempt of any act
pub attempts : (act : Act) (old new : CpuState) → MakesCalls IsUpkeep old new → MakesCalls (IsAttempt act) old new
attempts act old new made = wider IsUpkeep (IsAttempt act) old new (λ call is. inl is) made
