-- Home blocks that commits have are free to be written, and once they are, a start behind these commits may count.
use Rattle.std.proofs.Common.{◌≡◌, ◌⊎◌, ℕ, zero, suc, ◌+◌, ◌-◌, ◌*◌, ◌%◌, ◌<◌, ◌≤◌, ◌==◌, List, [], ◌∷◌, ◌++◌}
use Rattle.std.proofs.Common.{Bool, true, false, cond, length, get_or, inl, inr, refl, sym, ap, subst, ◌∙◌, arith}
use Rattle.std.proofs.Common.{length-append}
use Rattle.std.proofs.Math.Nat.{mod-add-mod}
use Rattle.std.specs.List.{Contains}
use Rattle.std.proofs.lemmas.Bool.{cases_eq}
use Rattle.std.proofs.lemmas.Bool.Decides.{nat_tests}
use Rattle.std.proofs.lemmas.List.{get_or-take, get_or-drop}
use Rattle.volume_codec.specs.Layout.{block_at}
use Rattle.log_codec.specs.declared.sealing.Sealing.{Sealing}
use Rattle.log_codec.specs.declared.sealing.Sealing.TheVariants.{ByByte, ByDigest}
use Rattle.log_codec.specs.declared.start.LogStart.{LogStart}
use Rattle.log_codec.specs.Log.{LogValue, IsLog, ring_block, log_descriptor_blocks, log_commit_blocks}
use Rattle.log_codec.specs.Start.{HasLogStart}
use Rattle.log_codec.specs.Commit.{LogDescriptor}
use Rattle.log_codec.specs.Chain.{IsLogHome, records_position, position_after, chain_end, chain_blocks}
use Rattle.log_codec.specs.Chain.{contents_of_log, logged_or, newest_or}
use Rattle.log_commits.specs.Tail.{TailValue, BeginsLog, HoldsLog, HoldsUpTo, MayGoOn}
use Rattle.log_commits.specs.Homes.{IsLoggedHome, DiffersInHomes, AreWrittenHome, tail_from, start_behind_of}
use Rattle.log_commits.specs.Homes.{MayStartBehind}
use Rattle.log_commits.proofs.Places.{block_low, block_round, same_block}
use Rattle.log_commits.proofs.Moved.{SameBlocks, read_moved, read_behind, newest_same, end_is}
use Rattle.log_commits.proofs.Held.{KeepsLog, kept_contents, kept_log, start_kept}

-- ---- which block is read

logged_in : (ring one other p : ℕ) (homes : List ℕ) (b k : ℕ) → k < length homes → get_or homes k b ≡ b
    → logged_or ring one p homes b ≡ logged_or ring other p homes b
logged_in ring one other p [] b k lt is = absurd (omega arith)
logged_in ring one other p (home ∷ homes) b zero lt is =
    let test : (b == home) ≡ true = grind (arith, nat_tests) in
    ap (λ (t : Bool). cond t (ring_block ring p) (logged_or ring one (p + 1) homes b)) test
    ∙ sym (ap (λ (t : Bool). cond t (ring_block ring p) (logged_or ring other (p + 1) homes b)) test)
logged_in ring one other p (home ∷ homes) b (suc k) lt is =
    let rest = logged_in ring one other (p + 1) homes b k (omega arith) is in
    elim (b == home) as (λ t. cond t (ring_block ring p) (logged_or ring one (p + 1) homes b)
    ≡ cond t (ring_block ring p) (logged_or ring other (p + 1) homes b)) [
      | true ↦ refl
      | false ↦ rest
    ]

-- where a commit has the home block, the block is in the log
newest_in : (ring one other p : ℕ) (ds : List LogDescriptor) (b : ℕ) → IsLoggedHome ds b
    → newest_or ring one p ds b ≡ newest_or ring other p ds b
newest_in ring one other p [] b is = absurd is
newest_in ring one other p (d ∷ ds) b (inl has) =
    ap (λ x. newest_or ring x (position_after p d) ds b)
    (logged_in ring one other (records_position p d) d.homes b has.0 has.1 has.2)
newest_in ring one other p (d ∷ ds) b (inr has) =
    newest_in ring (logged_or ring one (records_position p d) d.homes b)
    (logged_or ring other (records_position p d) d.homes b) (position_after p d) ds b has

pub logged_cases : (homes : List ℕ) (b : ℕ)
    → Contains homes b ⊎ ((ring other p : ℕ) → logged_or ring other p homes b ≡ other)
logged_cases [] b = inr (λ ring other p. refl)
logged_cases (home ∷ homes) b = elim (cases_eq home b) [
  | inl is ↦ inl (0, omega arith, is)
  | inr apart ↦ elim (logged_cases homes b) [
    | inl has ↦ inl (suc has.0, omega (arith, has.1), has.2)
    | inr none ↦ inr (λ ring other p.
        let test : (b == home) ≡ false = grind (arith, nat_tests) in
        ap (λ (t : Bool). cond t (ring_block ring p) (logged_or ring other (p + 1) homes b)) test
        ∙ none ring other (p + 1))
  ]
]

-- a commit has the home block, or none changes which block is read
pub newest_cases : (ds : List LogDescriptor) (b : ℕ)
    → IsLoggedHome ds b ⊎ ((ring other p : ℕ) → newest_or ring other p ds b ≡ other)
newest_cases [] b = inr (λ ring other p. refl)
newest_cases (d ∷ ds) b = elim (logged_cases d.homes b) [
  | inl has ↦ inl (inl has)
  | inr none ↦ elim (newest_cases ds b) [
    | inl has ↦ inl (inr has)
    | inr later ↦ inr (λ ring other p.
        later ring (logged_or ring other (records_position p d) d.homes b) (position_after p d)
        ∙ none ring other (records_position p d))
  ]
]

newest_split : (ring other p : ℕ) (ds es : List LogDescriptor) (b : ℕ)
    → newest_or ring other p (ds ++ es) b ≡ newest_or ring (newest_or ring other p ds b) (chain_end p ds) es b
newest_split ring other p [] es b = refl
newest_split ring other p (d ∷ ds) es b =
    newest_split ring (logged_or ring other (records_position p d) d.homes b) (position_after p d) ds es b

-- a whole round makes no difference
abbrev SameRound : ℕ → ℕ → ℕ → Type 0
SameRound ring p q = (k : ℕ) → ring_block ring (q + k) ≡ ring_block ring (p + k)

round_behind : (ring p q a : ℕ) → SameRound ring p q → SameRound ring (p + a) (q + a)
round_behind ring p q a same = λ k.
    ap (ring_block ring) (omega arith) ∙ same (a + k) ∙ ap (ring_block ring) (omega arith)

logged_round : (ring other p q : ℕ) (homes : List ℕ) (b : ℕ) → SameRound ring p q
    → logged_or ring other q homes b ≡ logged_or ring other p homes b
logged_round ring other p q [] b same = refl
logged_round ring other p q (home ∷ homes) b same =
    let zero_q : q ≡ q + 0 = omega arith in
    let zero_p : p + 0 ≡ p = omega arith in
    let here : ring_block ring q ≡ ring_block ring p =
    ap (ring_block ring) zero_q ∙ same 0 ∙ ap (ring_block ring) zero_p in
    let rest = logged_round ring other (p + 1) (q + 1) homes b (round_behind ring p q 1 same) in
    elim (b == home) as (λ t. cond t (ring_block ring q) (logged_or ring other (q + 1) homes b)
    ≡ cond t (ring_block ring p) (logged_or ring other (p + 1) homes b)) [
      | true ↦ here
      | false ↦ rest
    ]

newest_round : (ring other p q : ℕ) (ds : List LogDescriptor) (b : ℕ) → SameRound ring p q
    → newest_or ring other q ds b ≡ newest_or ring other p ds b
newest_round ring other p q [] b same = refl
newest_round ring other p q (d ∷ ds) b same =
    let blocks : ℕ = log_descriptor_blocks (length d.homes) in
    let n : ℕ = log_commit_blocks (length d.homes) in
    ap (λ x. newest_or ring x (position_after q d) ds b)
    (logged_round ring other (p + blocks) (q + blocks) d.homes b (round_behind ring p q blocks same))
    ∙ newest_round ring (logged_or ring other (records_position p d) d.homes b) (p + n) (q + n) ds b
    (round_behind ring p q n same)

-- ---- home blocks that are written

-- new is old in the log, in the start that counts, and in each home block that no commit has
module _ (t : TailValue) (contents : ℕ → List ℕ) (old new : List ℕ) (log : IsLog t.log)
    (held : HoldsLog t contents old) (same_length : length new ≡ length old)
    (start : HasLogStart t.log.ring t.start new)
    (same : (b : ℕ) → 4 ≤ b → b < 4 + t.log.ring → block_at new b ≡ block_at old b)
    (homes : (b : ℕ) → IsLogHome t.log b → (block_at new b ≡ block_at old b) ⊎ IsLoggedHome held.chain b) where
  abbrev ring : ℕ
  ring = t.log.ring

  in_ring : (p n : ℕ) → SameBlocks ring p p n old new
  in_ring p n = λ k lt.
      same (ring_block ring (p + k)) (omega arith) (block_low ring (p + k) (omega (arith, log.some_ring)))

  goes_on : (s : Sealing) → MayGoOn s ring t.position old → MayGoOn s ring t.position new
  goes_on ByByte closed = λ opened.
      closed (ap (λ (l : List ℕ). get_or l 0 0)
      (sym (same (ring_block ring t.position) (omega arith) (block_low ring t.position (omega (arith, log.some_ring)))))
      ∙ opened)
  goes_on (ByDigest key) any = tt

  pub kept_with_homes : (h : HoldsLog t contents new) × (h.chain ≡ held.chain)
  kept_with_homes =
      let g : LogValue = t.log in
      let s : LogStart = t.start in
      let chain : List LogDescriptor = held.chain in (
        record {
          chain = chain;
          log = record {
            long = omega (arith, held.log.long, same_length);
            start = start;
            commits = read_moved g s.epoch s.position s.position s.number g.ring g.ring chain old new
                (in_ring s.position (chain_blocks chain)) (omega arith) held.log.commits;
          };
          next = goes_on g.sealing held.next;
          position_is = held.position_is;
          number_is = held.number_is;
          used_is = held.used_is;
          contents_are = λ b home. held.contents_are b home ∙ sym (elim (homes b home) [
            | inl here ↦
                newest_same ring b s.position chain b old new here (in_ring s.position (chain_blocks chain))
            | inr has ↦
                ap (block_at new) (newest_in ring b 4 s.position chain b has)
                ∙ newest_same ring 4 s.position chain b old new (same 4 (omega arith) (omega (arith, log.some_ring)))
                (in_ring s.position (chain_blocks chain))
                ∙ ap (block_at old) (newest_in ring 4 b s.position chain b has)
          ]);
        },
        refl,
      )

pub held_with_homes : (t : TailValue) (contents : ℕ → List ℕ) (old new : List ℕ) → IsLog t.log
    → (held : HoldsLog t contents old) → DiffersInHomes t.log held.chain old new → HoldsLog t contents new
held_with_homes t contents old new log held differs =
    (kept_with_homes t contents old new log held differs.same_length
    (start_kept t.log.ring t.start old new differs.same_length (λ i lt. low_same i (omega arith)) held.log.start)
    (λ b least most. low_block b most) differs.homes).0
  where
    low_same : (i : ℕ) → i < 4096 * (4 + t.log.ring) → get_or new i 0 ≡ get_or old i 0
    low_same i lt =
        sym (get_or-take (4096 * (4 + t.log.ring)) new i 0 lt) ∙ ap (λ (l : List ℕ). get_or l i 0) differs.low
        ∙ get_or-take (4096 * (4 + t.log.ring)) old i 0 lt

    low_block : (b : ℕ) → b < 4 + t.log.ring → block_at new b ≡ block_at old b
    low_block b lt =
        same_block new old b differs.same_length (λ j small. low_same (4096 * b + j) (omega arith))

-- ---- a start behind some commits

end_split : (p : ℕ) (ds es : List LogDescriptor) → chain_end p (ds ++ es) ≡ chain_end (chain_end p ds) es
end_split p [] es = refl
end_split p (d ∷ ds) es = end_split (position_after p d) ds es

blocks_split : (ds es : List LogDescriptor) → chain_blocks (ds ++ es) ≡ chain_blocks ds + chain_blocks es
blocks_split [] es = omega arith
blocks_split (d ∷ ds) es = omega (arith, blocks_split ds es)

-- a log that begins with these commits, as a tail has them; more may follow
pub record BeginsAt (t : TailValue) (contents : ℕ → List ℕ) (chain : List LogDescriptor) (bytes : List ℕ)
    : Type 0 where
  pub log : BeginsLog t.log t.start chain bytes
  pub position_is : t.position ≡ chain_end t.start.position chain % t.log.ring
  pub number_is : t.number ≡ t.start.number + length chain
  pub used_is : t.used ≡ chain_blocks chain
  pub contents_are : (b : ℕ) → IsLogHome t.log b → contents b ≡ contents_of_log t.log t.start.position chain bytes b

pub begins_at : (t : TailValue) (contents : ℕ → List ℕ) (chain : List LogDescriptor) (bytes : List ℕ)
    → (held : HoldsLog t contents bytes) → held.chain ≡ chain → BeginsAt t contents chain bytes
begins_at t contents chain bytes held is =
    let P : List LogDescriptor → Type 0 = λ ds. BeginsAt t contents ds bytes in
    subst P is (record {
      log = held.log;
      position_is = held.position_is;
      number_is = held.number_is;
      used_is = held.used_is;
      contents_are = held.contents_are;
    })

-- where the log is kept
pub begins_kept : (t : TailValue) (contents : ℕ → List ℕ) (chain : List LogDescriptor) (old new : List ℕ)
    → (held : HoldsLog t contents old) → held.chain ≡ chain → KeepsLog t old new → BeginsAt t contents chain new
begins_kept t contents chain old new held is keeps =
    let P : List LogDescriptor → Type 0 = λ ds. BeginsAt t contents ds new in
    subst P is (record {
      log = kept_log t contents old new held keeps;
      position_is = held.position_is;
      number_is = held.number_is;
      used_is = held.used_is;
      contents_are = kept_contents t contents old new held keeps;
    })

-- by the same start, where all behind the two starts is the same
pub up_to_same : (t : TailValue) (contents : ℕ → List ℕ) (chain : List LogDescriptor) (old new : List ℕ)
    → BeginsAt t contents chain old → length new ≡ length old
    → ((b : ℕ) → 4 ≤ b → block_at new b ≡ block_at old b) → HasLogStart t.log.ring t.start new
    → HoldsUpTo t.log t.number contents new
up_to_same t contents chain old new held same_length same start =
    let ring : ℕ = t.log.ring in
    let p : ℕ = t.start.position in
    let in_ring : (n : ℕ) → SameBlocks ring p p n old new = λ n k lt. same (ring_block ring (p + k)) (omega arith) in
    record {
      start = t.start;
      chain = chain;
      log = record {
        long = omega (arith, held.log.long, same_length);
        start = start;
        commits = read_moved t.log t.start.epoch p p t.start.number ring ring chain old new
            (in_ring (chain_blocks chain)) (omega arith) held.log.commits;
      };
      number_is = held.number_is;
      contents_are = λ b home.
          held.contents_are b home
          ∙ sym (newest_same ring b p chain b old new (same b (omega (arith, home.low)))
          (in_ring (chain_blocks chain)));
    }

module _ (t : TailValue) (contents : ℕ → List ℕ) (old new : List ℕ) (log : IsLog t.log) (ds es : List LogDescriptor)
    (held : BeginsAt t contents (ds ++ es) old) (same_length : length new ≡ length old)
    (high_block : (b : ℕ) → 4 ≤ b → block_at new b ≡ block_at old b)
    (start : HasLogStart t.log.ring (start_behind_of t.log t.start ds) new)
    (written : AreWrittenHome t.log contents ds es old) where
  abbrev turn : ℕ
  turn = t.log.ring

  abbrev p : ℕ
  p = chain_end t.start.position ds

  abbrev q : ℕ
  q = p % turn

  abbrev number : ℕ
  number = t.start.number + length ds

  moved_blocks : (n : ℕ) → SameBlocks turn p q n old new
  moved_blocks n = λ k lt.
      ap (block_at new) (block_round turn p k) ∙ high_block (ring_block turn (p + k)) (omega arith)

  position : t.position ≡ chain_end q es % turn
  position =
      let all = end_split t.start.position ds es ∙ end_is p es in
      held.position_is ∙ ap (λ x. x % turn) all ∙ sym (mod-add-mod p turn (chain_blocks es))
      ∙ ap (λ x. x % turn) (sym (end_is q es))

  numbers : t.number ≡ number + length es
  numbers = omega (arith, held.number_is, length-append ds es)

  used : t.used - chain_blocks ds ≡ chain_blocks es
  used = omega (arith, held.used_is, blocks_split ds es)

  recovered : (b : ℕ) → IsLogHome t.log b → contents b ≡ block_at new (newest_or turn b q es b)
  recovered b home =
      let before : ℕ = newest_or turn b t.start.position ds b in
      let whole : contents b ≡ block_at old (newest_or turn before p es b) =
      held.contents_are b home ∙ ap (block_at old) (newest_split turn b t.start.position ds es b) in
      let by_later : IsLoggedHome es b → contents b ≡ block_at old (newest_or turn b p es b) = λ has.
      whole ∙ ap (block_at old) (newest_in turn before b p es b has) in
      let here : contents b ≡ block_at old (newest_or turn b p es b) = elim (newest_cases es b) [
        | inl has ↦ by_later has
        | inr none ↦ elim (newest_cases ds b) [
          | inl gone ↦ elim (written b home gone) [
            | inl has ↦ by_later has
            | inr done ↦ sym done ∙ ap (block_at old) (sym (none turn b p))
          ]
          | inr never ↦
              whole ∙ ap (block_at old) (none turn before p ∙ never turn b t.start.position ∙ sym (none turn b p))
        ]
      ] in
      let kept : SameBlocks turn p p (chain_blocks es) old new = λ k lt.
      high_block (ring_block turn (p + k)) (omega arith) in
      here ∙ sym (newest_same turn b p es b old new (high_block b (omega (arith, home.low))) kept)
      ∙ ap (block_at new) (sym (newest_round turn b p q es b (λ k. block_round turn p k)))

  begins_from : BeginsLog t.log (start_behind_of t.log t.start ds) es new
  begins_from = record {
    long = omega (arith, held.log.long, same_length);
    start = start;
    commits = read_moved t.log t.start.epoch p q number (turn - chain_blocks ds) turn es old new
        (moved_blocks (chain_blocks es)) (omega arith)
        (read_behind t.log t.start.epoch t.start.position t.start.number turn ds es old held.log.commits);
  }

  -- whatever lies behind them
  pub up_to_from : HoldsUpTo t.log t.number contents new
  up_to_from = record {
    start = start_behind_of t.log t.start ds;
    chain = es;
    log = begins_from;
    number_is = numbers;
    contents_are = recovered;
  }

  pub held_from : MayGoOn t.log.sealing turn t.position new
      → (h : HoldsLog (tail_from t ds) contents new) × (h.chain ≡ es)
  held_from next = (
    record {
      chain = es;
      log = begins_from;
      next = next;
      position_is = position;
      number_is = numbers;
      used_is = used;
      contents_are = recovered;
    },
    refl,
  )

-- the log may go on where it did
goes_on_as : (s : Sealing) (size p : ℕ) (old new : List ℕ)
    → block_at new (ring_block size p) ≡ block_at old (ring_block size p) → MayGoOn s size p old → MayGoOn s size p new
goes_on_as ByByte size p old new same closed = λ opened. closed (ap (λ (l : List ℕ). get_or l 0 0) (sym same) ∙ opened)
goes_on_as (ByDigest key) size p old new same any = tt

pub may_start : (t : TailValue) (contents : ℕ → List ℕ) (old new : List ℕ) → IsLog t.log
    → (held : HoldsLog t contents old) → (ds younger : List LogDescriptor) → held.chain ≡ ds ++ younger
    → MayStartBehind t contents ds younger old new → (h : HoldsLog (tail_from t ds) contents new) × (h.chain ≡ younger)
may_start t contents old new log held ds younger parts may =
    held_from t contents old new log ds younger (begins_at t contents (ds ++ younger) old held parts) may.same_length
    high_block may.start may.written
    (goes_on_as t.log.sealing t.log.ring t.position old new
    (high_block (ring_block t.log.ring t.position) (omega arith))
    held.next)
  where
    behind_place : (i : ℕ) → 16384 ≤ i → i ≡ 16384 + (i - 16384)
    behind_place i le = omega arith

    high : (i : ℕ) → 16384 ≤ i → get_or new i 0 ≡ get_or old i 0
    high i le =
        ap (λ k. get_or new k 0) (behind_place i le) ∙ sym (get_or-drop 16384 new (i - 16384) 0)
        ∙ ap (λ (l : List ℕ). get_or l (i - 16384) 0) may.same_behind ∙ get_or-drop 16384 old (i - 16384) 0
        ∙ ap (λ k. get_or old k 0) (sym (behind_place i le))

    high_block : (b : ℕ) → 4 ≤ b → block_at new b ≡ block_at old b
    high_block b le = same_block new old b may.same_length (λ j small. high (4096 * b + j) (omega arith))
