-- What a comparer that was told the replies of a run says of them.
use Rattle.std.proofs.Common.{◌≡◌, inl, inr, ⊎_elim, ℕ, zero, suc, string_bytes, ◌+◌, List, [], ◌∷◌, ◌++◌, length, map}
use Rattle.std.proofs.Common.{take, slice_get, IfSome, Bool, true, false, Option, Some, None, refl, sym, ◌∙◌, ap}
use Rattle.std.proofs.Common.{subst, arith, append_assoc, append-nil, true≢false}
use Rattle.std.proofs.lemmas.Bool.{false≢true}
use Rattle.std.proofs.lemmas.List.{length-map, take_all}
use Rattle.std.proofs.lemmas.Option.{none-some}
use Rattle.std.proofs.lemmas.Slice.Eq.{bytes_eq-Decides}
use Rattle.machine.specs.declared.act.Reply.{Reply}
use Rattle.machine.specs.Words.{reply_text}
use Rattle.engine.specs.Listening.{HasHeard, HasListened}
use Rattle.traces.specs.declared.line.Line.{Line}
use Rattle.commands.specs.declared.replaying.Comparer.{Comparer}
use Rattle.commands.specs.declared.replaying.Verdict.{Verdict}
use Rattle.commands.specs.declared.replaying.Verdict.TheVariants.{Same, Differs}
use Rattle.commands.specs.inside.Replay.{is_text, texts_of, verdict_by, IsVerdict, Compares}

abbrev this_or : {X : Type 0} → X → Option X → X
this_or x None = x
this_or x (Some y) = y

some_is : {X : Type 0} (x y : X) → Some x ≡ Some y → x ≡ y
some_is x y same = ap (this_or x) same

take_next : {X : Type 0} (xs : List X) (i : ℕ) (x : X) → slice_get xs i ≡ Some x
    → take (suc i) xs ≡ take i xs ++ x ∷ []
take_next [] i x at = absurd (none-some x at)
take_next (y ∷ ys) zero x at = ap (λ z. z ∷ []) (some_is y x at)
take_next (y ∷ ys) (suc i) x at = ap (λ rest. y ∷ rest) (take_next ys i x at)

text_found : (entries : List Line) (i : ℕ) (text : List ℕ) → is_text (slice_get entries i) text ≡ true
    → slice_get (texts_of entries) i ≡ Some text
text_found [] i text is = absurd (false≢true is)
text_found (line ∷ rest) zero text is = ap Some ((bytes_eq-Decides (string_bytes line.reply) text).0 is)
text_found (line ∷ rest) (suc i) text is = text_found rest i text is

text_other : (entries : List Line) (i : ℕ) (text : List ℕ) → is_text (slice_get entries i) text ≡ false
    → slice_get (texts_of entries) i ≡ Some text → ⊥
text_other [] i text is found = none-some text found
text_other (line ∷ rest) zero text is found =
    let same = some_is (string_bytes line.reply) text found in
    true≢false (sym ((bytes_eq-Decides (string_bytes line.reply) text).1 same) ∙ is)
text_other (line ∷ rest) (suc i) text is found = text_other rest i text is found

-- after replies that all had the texts of their entries
record HasMatched (old : Comparer) (replies : List Reply) (new : Comparer) : Type 0 where
  entries : new.entries.now ≡ old.entries.now
  same : new.same ≡ old.same + length replies
  differs : new.differs ≡ old.differs
  refused : new.refused ≡ old.refused
  texts : take old.same (texts_of old.entries.now) ++ map reply_text replies ≡ take new.same (texts_of old.entries.now)

matched : (old : Comparer) (replies : List Reply) (new : Comparer) → HasHeard Compares old replies new
    → HasMatched old replies new
matched old [] new same =
    subst (HasMatched old []) (sym same) (record {
      entries = refl;
      same = omega arith;
      differs = refl;
      refused = refl;
      texts = append-nil (take old.same (texts_of old.entries.now));
    })
matched old (reply ∷ replies) new (next, first, rest) =
    let later = matched next replies new rest in
    let texts = texts_of old.entries.now in
    let more : next.same ≡ suc old.same = omega (arith, first.same) in
    let P : List Line → Type 0 = λ entries.
    take next.same (texts_of entries) ++ map reply_text replies ≡ take new.same (texts_of entries) in
    let found = text_found old.entries.now old.same (reply_text reply) first.text in
    let one : take next.same texts ≡ take old.same texts ++ reply_text reply ∷ [] =
    ap (λ n. take n texts) more ∙ take_next texts old.same (reply_text reply) found in record {
      entries = later.entries ∙ first.entries;
      same = omega (arith, later.same, first.same);
      differs = later.differs ∙ first.differs;
      refused = later.refused ∙ first.refused;
      texts = sym (append_assoc (take old.same texts) (reply_text reply ∷ []) (map reply_text replies))
          ∙ ap (λ front. front ++ map reply_text replies) (sym one)
          ∙ subst P first.entries later.texts;
    }

verdict_is : (refused differs : Bool) (same : ℕ) (P : Verdict → Type 0)
    → (refused ≡ false → differs ≡ true → P (Differs (same + 1)))
    → (refused ≡ false → differs ≡ false → P (Same same)) → IfSome (verdict_by refused differs same) P
verdict_is true differs same P other equal = tt
verdict_is false true same P other equal = other refl refl
verdict_is false false same P other equal = equal refl refl

-- a comparer that was told the replies of a run from its first entry on
pub verdict_follows : (old : Comparer) (replies : List Reply) (new : Comparer) → old.same ≡ 0 → old.differs ≡ false
    → old.refused ≡ false → HasListened Compares (length old.entries.now) old replies new
    → IfSome (verdict_by new.refused new.differs new.same) (IsVerdict (texts_of old.entries.now) replies)
verdict_follows old replies new none equal given (inl (heard, all)) =
    let is = matched old replies new heard in
    let texts = texts_of old.entries.now in
    let lengths = length-map old.entries.now (λ line. string_bytes line.reply) in
    let count : new.same ≡ length texts = omega (arith, is.same, none, all, lengths) in
    verdict_is new.refused new.differs new.same (IsVerdict texts replies)
    (λ r d. absurd (true≢false (sym d ∙ is.differs ∙ equal)))
    (λ r d. (
      ap (λ n. take n texts ++ map reply_text replies) (sym none)
          ∙ is.texts
          ∙ take_all new.same texts (omega (arith, count)),
      count,
    ))
verdict_follows old replies new none equal given (inr stopped) =
    let is = matched old stopped.earlier stopped.before stopped.heard in
    let texts = texts_of old.entries.now in
    let end = stopped.stopped in
    let count : stopped.before.same ≡ length stopped.earlier = omega (arith, is.same, none) in
    verdict_is new.refused new.differs new.same (IsVerdict texts replies)
    (λ r d. record {
      earlier = stopped.earlier;
      last = stopped.last;
      split = stopped.split;
      counted = omega (arith, end.same, count);
      same = ap (λ n. take n texts ++ map reply_text stopped.earlier) (sym none)
          ∙ is.texts
          ∙ ap (λ n. take n texts) count;
      other = ⊎_elim
          (λ is_other. λ found.
          let at : slice_get (texts_of stopped.before.entries.now) stopped.before.same
          ≡ Some (reply_text stopped.last) =
          ap (λ (entries : List Line). slice_get (texts_of entries) stopped.before.same) is.entries
          ∙ ap (slice_get texts) count
          ∙ found in
          text_other stopped.before.entries.now stopped.before.same (reply_text stopped.last) is_other.1 at)
          (λ refused. absurd (true≢false (sym refused ∙ r)))
          end.cause;
    })
    (λ r d. ⊎_elim
    (λ is_other. absurd (true≢false (sym is_other.0 ∙ d)))
    (λ refused. absurd (true≢false (sym refused ∙ r)))
    end.cause)

-- what is said, where anything is, is what the comparer found
pub said_so : (said by : Option Verdict) (P : Verdict → Type 0) → IfSome said (λ verdict. by ≡ Some verdict)
    → IfSome by P → IfSome said P
said_so None by P is holds = tt
said_so (Some verdict) by P is holds = subst (λ (found : Option Verdict). IfSome found P) is holds
