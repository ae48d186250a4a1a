use Rattle.std.proofs.Common.{◌≡◌, List, [], ◌∷◌, ◌++◌, ap, sym, ◌∙◌, take, arith}
use Rattle.volume_codec.specs.Recovery.{Batch}
use Rattle.machine_log.specs.Shown.{ShownValue}
use Rattle.machine_log.specs.inside.Closing.{ClosesOldest}
use Rattle.machine_log.proofs.Closing.{last_of}
use Rattle.machine_log.proofs.shown.ShownVolume.may_close.Goals as goal

pub returns : goal.returns
returns g c = λ are.
    let s : ShownValue = c.args.self.now in
    let items = c.self.inside.opened.items in
    let newer : List Batch = take c.in-Some.last c.deref.result.now in
    let is : items ≡ s.opened = ap (λ (v : ShownValue). v.opened) c.self.view_is in
    let r : ClosesOldest s c.args.journal = record {
      newer = newer;
      oldest = c.index-oldest.result.now;
      parts = sym is ∙ last_of items c.in-Some.last c.index-oldest.result.now
          (omega (arith, c.in-Some.ensures, c.len.ensures, c.self.inside.opened.ok)) c.index-oldest.ensures
          ∙ ap (λ (l : List Batch). take c.in-Some.last l ++ c.index-oldest.result.now ∷ [])
          (sym c.deref.ensures.value);
      journal_is = sym c.journal.ensures ∙ c.if-journal.false;
      alone = sym c.has_journal.ensures ∙ c.if-has_journal.false;
      home = c.are_home.ensures are;
    } in
    r
