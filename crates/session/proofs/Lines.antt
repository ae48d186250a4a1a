-- The lines of an input: how one is read, part by part, and what it is.
use Rattle.std.proofs.Common.{◌≡◌, ◌≢◌, ◌⊎◌, inl, inr, ℕ, ◌+◌, ◌-◌, ◌<◌, ◌≤◌, Bool, true, false, eqb}
use Rattle.std.proofs.Common.{List, [], ◌∷◌, ◌++◌, length, length-append, take, get_or, cond, Option}
use Rattle.std.proofs.Common.{Some, None, OnSome, refl, sym, ◌∙◌, ap, subst, arith, append_assoc}
use Rattle.std.proofs.Common.{append-nil, length-take-le, eq-eqb, eqb-true, true≢false}
use Rattle.std.proofs.lemmas.List.Elements.{All-nil, All-cons, All-append}
use Rattle.std.proofs.KnownBytes.{Consumes-nil, Consumes-trans}
use Rattle.std.specs.Io.KnownBytes.{Consumes, IsAtEnd}
use Rattle.std.specs.Io.BufRead.{drop_through, DropsThrough}
use Rattle.session.specs.declared.line.Line.{Line}
use Rattle.session.specs.declared.line.Line.TheVariants.{Whole, Long, End}
use Rattle.session.specs.Lines.{HasNoFeed, BeginsWith, ReadsLine, AreLines, ReadsLines}
use Rattle.session.specs.inside.Reading.{IsPart, ReadsPart}

-- the end of what is known is that of what was known before
end_before : (a b c : Option (List ℕ)) (read : List ℕ) → Consumes a b read → OnSome b (IsAtEnd c) → OnSome a (IsAtEnd c)
end_before None b c read known ends = tt
end_before (Some x) None c read known ends = absurd known
end_before (Some x) (Some y) c read known ends = ends

long_part : (line part : List ℕ) (most count : ℕ) → length part ≡ count → count ≤ most → most + length line ≡ 262145
    → length (line ++ part) ≤ 262145
long_part line part most count long few all = omega (arith, length-append line part, long, few, all)

long_front : (line part front : List ℕ) (most count : ℕ) → part ≡ front ++ 10 ∷ [] → length part ≡ count → count ≤ most
    → most + length line ≡ 262145 → length (line ++ front) ≤ 262144
long_front line part front most count is long few all =
    omega (arith, length-append line front, length-append front (10 ∷ []), ap length is, long, few, all)

no_part : (shown : List ℕ) (count : ℕ) → count ≡ 0 → take count shown ≡ []
no_part shown count none = ap (λ n. take n shown) none

-- one part more of a line was read
part_more : (a b c : Option (List ℕ)) (line shown : List ℕ) (most count : ℕ) (ends : Bool) → ReadsPart a b line false
    → IsPart shown most count ends → 0 < most → most + length line ≡ 262145
    → Consumes b c (take count shown) → (length shown ≡ 0 → OnSome b (IsAtEnd c))
    → ReadsPart a c (line ++ take count shown) ends
part_more a b c line shown most count true (none, short, read)
    (within, few, inl (front, is, before, ends)) some all more end =
    let part = take count shown in
    let long : length part ≡ count = length-take-le count shown within in (
      Consumes-trans a b c line part read more,
      inl (
        line ++ front,
        ap (λ l. line ++ l) is ∙ sym (append_assoc line front (10 ∷ [])),
        All-append (λ byte. byte ≢ 10) line front none before,
        long_front line part front most count is long few all,
      ),
    )
part_more a b c line shown most count true (none, short, read)
    (within, few, inr (inl (before, ends))) some all more end = absurd (cc)
part_more a b c line shown most count true (none, short, read)
    (within, few, inr (inr (empty, ends, nothing))) some all more end =
    let part = take count shown in
    let same : line ++ part ≡ line = ap (λ l. line ++ l) (no_part shown count empty) ∙ append-nil line in (
      Consumes-trans a b c line part read more,
      inr (
        subst HasNoFeed (sym same) none,
        inr (omega (arith, ap length same, all, some), end_before a b c line read (end (nothing some))),
      ),
    )
part_more a b c line shown most count false (none, short, read)
    (within, few, inl (front, is, before, ends)) some all more end = absurd (cc)
part_more a b c line shown most count false (none, short, read)
    (within, few, inr (inl (before, ends))) some all more end =
    let part = take count shown in (
      All-append (λ byte. byte ≢ 10) line part none before,
      long_part line part most count (length-take-le count shown within) few all,
      Consumes-trans a b c line part read more,
    )
part_more a b c line shown most count false (none, short, read)
    (within, few, inr (inr (empty, ends, nothing))) some all more end = absurd (cc)

pub part_read : (a b c : Option (List ℕ)) (line line' shown : List ℕ) (most count : ℕ) (ends : Bool)
    → line' ≡ line ++ take count shown → ReadsPart a b line false → IsPart shown most count ends → 0 < most
    → most + length line ≡ 262145
    → Consumes b c (take count shown) → (length shown ≡ 0 → OnSome b (IsAtEnd c)) → ReadsPart a c line' ends
part_read a b c line line' shown most count ends is read part some all more end =
    let P : List ℕ → Type 0 = λ l. ReadsPart a c l ends in
    subst P (sym is) (part_more a b c line shown most count ends read part some all more end)

-- the last byte of what has no line feed
not_fed : (line : List ℕ) (count byte : ℕ) → HasNoFeed line → count ≡ length line → 0 < length line
    → byte ≡ get_or line (count - 1) byte → byte ≢ 10
not_fed line count byte none long some last fed = none (count - 1) byte (omega (arith, some, long)) (sym last ∙ fed)

at_end : (front : List ℕ) (x d : ℕ) → get_or (front ++ x ∷ []) (length front) d ≡ x
at_end [] x d = refl
at_end (y ∷ front) x d = at_end front x d

but_last : (line front : List ℕ) (count : ℕ) → line ≡ front ++ 10 ∷ [] → count ≡ length line → count - 1 ≡ length front
but_last line front count is long = omega (arith, long, ap length is, length-append front (10 ∷ []))

last_fed : (line front : List ℕ) (count byte : ℕ) → line ≡ front ++ 10 ∷ [] → count ≡ length line
    → byte ≡ get_or line (count - 1) byte → byte ≡ 10
last_fed line front count byte is long last =
    last ∙ ap (λ n. get_or line n byte) (but_last line front count is long)
    ∙ ap (λ l. get_or l (length front) byte) is ∙ at_end front 10 byte

take_front : (a b : List ℕ) → take (length a) (a ++ b) ≡ a
take_front [] b = refl
take_front (x ∷ a) b = ap (λ l. x ∷ l) (take_front a b)

front_of : (line front : List ℕ) (count : ℕ) → line ≡ front ++ 10 ∷ [] → count ≡ length line
    → take (count - 1) line ≡ front
front_of line front count is long =
    ap (λ n. take n line) (but_last line front count is long) ∙ ap (take (length front)) is ∙ take_front front (10 ∷ [])

no_bytes : (line : List ℕ) → length line ≡ 0 → line ≡ []
no_bytes [] none = refl
no_bytes (x ∷ line) none = absurd (omega (arith, none))

some_bytes : (line : List ℕ) → 0 < length line → line ≢ []
some_bytes [] some is = absurd (omega (arith, some))
some_bytes (x ∷ line) some is = absurd (cc)

-- nothing was read
pub reads_end : (a b : Option (List ℕ)) (read given : List ℕ) → ReadsPart a b read true → length read ≡ 0
    → ReadsLine a b End given
reads_end None b read given it none = tt
reads_end (Some x) None read given it none = absurd it.0
reads_end (Some x) (Some y) read given (is, inl (front, fed, before, short)) none =
    absurd (omega (arith, ap length fed, length-append front (10 ∷ []), none))
reads_end (Some x) (Some y) read given (is, inr (before, inl long)) none = absurd (omega (arith, long, none))
reads_end (Some x) (Some y) read given (is, inr (before, inr (short, end))) none =
    (is ∙ ap (λ l. l ++ y) (no_bytes read none) ∙ end, end)

-- a line and its line feed were read
pub reads_fed : (a b : Option (List ℕ)) (read given : List ℕ) (count byte : ℕ) → ReadsPart a b read true
    → count ≡ length read → 0 < length read → byte ≡ get_or read (count - 1) byte → byte ≡ 10
    → given ≡ take (count - 1) read
    → ReadsLine a b Whole given
reads_fed None b read given count byte it long some last feed is = tt
reads_fed (Some x) None read given count byte it long some last feed is = absurd it.0
reads_fed (Some x) (Some y) read given count byte (from, inl (front, fed, before, short)) long some last feed is =
    let P : List ℕ → Type 0 = λ l. BeginsWith x Whole l y in
    subst P (sym (is ∙ front_of read front count fed long))
    ((before, inl (from ∙ ap (λ l. l ++ y) fed ∙ append_assoc front (10 ∷ []) y)), short)
reads_fed (Some x) (Some y) read given count byte (from, inr (before, how)) long some last feed is =
    absurd (not_fed read count byte before long some last feed)

-- the last line, which no line feed ends, was read
pub reads_whole : (a b : Option (List ℕ)) (read : List ℕ) (count byte : ℕ) → ReadsPart a b read true
    → count ≡ length read → 0 < length read → byte ≡ get_or read (count - 1) byte → byte ≢ 10 → length read ≤ 262144
    → ReadsLine a b Whole read
reads_whole None b read count byte it long some last unfed few = tt
reads_whole (Some x) None read count byte it long some last unfed few = absurd it.0
reads_whole (Some x) (Some y) read count byte (from, inl (front, fed, before, short)) long some last unfed few =
    absurd (unfed (last_fed read front count byte fed long last))
reads_whole (Some x) (Some y) read count byte (from, inr (before, inl full)) long some last unfed few =
    absurd (omega (arith, full, few))
reads_whole (Some x) (Some y) read count byte (from, inr (before, inr (short, end))) long some last unfed few =
    ((before, inr (from ∙ ap (λ l. read ++ l) end ∙ append-nil read, some_bytes read some, end)), short)

-- the rest of a line, and what comes after it
abbrev RestOfLine : List ℕ → List ℕ → Type 0
RestOfLine bytes rest = (line : List ℕ) × HasNoFeed line
    × ((bytes ≡ line ++ 10 ∷ rest) ⊎ ((bytes ≡ line) × (rest ≡ [])))

rest_of_line : (bytes : List ℕ) → RestOfLine bytes (drop_through 10 bytes)
rest_of_line [] = ([], All-nil (λ byte. byte ≢ 10), inr (refl, refl))
rest_of_line (x ∷ bytes) = at (rest_of_line bytes) (eqb x 10) refl
  where
    later : (x ≢ 10) → RestOfLine bytes (drop_through 10 bytes) → RestOfLine (x ∷ bytes) (drop_through 10 bytes)
    later not (line, none, inl is) = (x ∷ line, All-cons (λ byte. byte ≢ 10) x line not none, inl (ap (λ l. x ∷ l) is))
    later not (line, none, inr (is, end)) =
        (x ∷ line, All-cons (λ byte. byte ≢ 10) x line not none, inr (ap (λ l. x ∷ l) is, end))

    at : RestOfLine bytes (drop_through 10 bytes) → (b : Bool) → eqb x 10 ≡ b
        → RestOfLine (x ∷ bytes) (cond b bytes (drop_through 10 bytes))
    at after true is = ([], All-nil (λ byte. byte ≢ 10), inl (ap (λ n. n ∷ bytes) (eqb-true x 10 is)))
    at after false is = later (λ same. true≢false (sym (eq-eqb x 10 same) ∙ is)) after

long_line : (bytes read line : List ℕ) (rest more : List ℕ) → HasNoFeed read → 262144 < length read
    → bytes ≡ read ++ rest → RestOfLine rest more → BeginsWith bytes Long line more
long_line bytes read given rest more before long from (line, none, inl is) = (
  read ++ line,
  (
    All-append (λ byte. byte ≢ 10) read line before none,
    inl (from ∙ ap (λ l. read ++ l) is ∙ sym (append_assoc read line (10 ∷ more))),
  ),
  omega (arith, length-append read line, long),
)
long_line bytes read given rest more before long from (line, none, inr (is, end)) =
    let some : 0 < length (read ++ line) = omega (arith, length-append read line, long) in (
      read ++ line,
      (
        All-append (λ byte. byte ≢ 10) read line before none,
        inr (from ∙ ap (λ l. read ++ l) is, some_bytes (read ++ line) some, end),
      ),
      omega (arith, length-append read line, long),
    )

-- a line that is too long was skipped
pub reads_long : (a b c : Option (List ℕ)) (read : List ℕ) (count byte : ℕ) → ReadsPart a b read true
    → count ≡ length read → byte ≡ get_or read (count - 1) byte → byte ≢ 10 → 262144 < length read → DropsThrough b c 10
    → ReadsLine a c Long read
reads_long None b c read count byte it long last unfed many drops = tt
reads_long (Some x) None c read count byte it long last unfed many drops = absurd it.0
reads_long (Some x) (Some y) c read count byte (from, inl (front, fed, before, short)) long last unfed many drops =
    absurd (unfed (last_fed read front count byte fed long last))
reads_long (Some x) (Some y) c read count byte (from, inr (before, how)) long last unfed many drops =
    let P : Option (List ℕ) → Type 0 = λ o. ReadsLine (Some x) o Long read in
    subst P (sym drops) (long_line x read read y (drop_through 10 y) before many from (rest_of_line y))

-- before any of a line was read
pub nothing_read : (a : Option (List ℕ)) (line : List ℕ) → line ≡ [] → ReadsPart a a line false
nothing_read a line none =
    let P : List ℕ → Type 0 = λ l. ReadsPart a a l false in
    subst P (sym none) (All-nil (λ byte. byte ≢ 10), omega (arith), Consumes-nil a)

-- lines after lines
are_lines_then : (bytes part rest : List ℕ) (lines more : List (Option (List ℕ))) → AreLines bytes lines part
    → AreLines part more rest → AreLines bytes (lines ++ more) rest
are_lines_then bytes part rest [] more same later = subst (λ b. AreLines b more rest) same later
are_lines_then bytes part rest (given ∷ lines) more (line, after, is, reports, are) later =
    (line, after, is, reports, are_lines_then after part rest lines more are later)

pub reads_both : (a b c : Option (List ℕ)) (lines more : List (Option (List ℕ))) → ReadsLines a b lines
    → ReadsLines b c more → ReadsLines a c (lines ++ more)
reads_both None b c lines more first later = tt
reads_both (Some x) None c lines more first later = absurd first
reads_both (Some x) (Some y) None lines more first later = absurd later
reads_both (Some x) (Some y) (Some z) lines more first later = are_lines_then x y z lines more first later

-- what comes after lines has come to its end
pub end_after_lines : (a b c : Option (List ℕ)) (lines : List (Option (List ℕ))) → ReadsLines a b lines
    → OnSome b (IsAtEnd c) → OnSome a (IsAtEnd c)
end_after_lines None b c lines read end = tt
end_after_lines (Some x) None c lines read end = absurd read
end_after_lines (Some x) (Some y) c lines read end = end

-- no line was read
pub reads_same : (a : Option (List ℕ)) → ReadsLines a a []
reads_same None = tt
reads_same (Some x) = refl

pub reads_none : (a b : Option (List ℕ)) (found : Line) (given : List ℕ) → found ≡ End → ReadsLine a b found given
    → ReadsLines a b [] × OnSome a (IsAtEnd b)
reads_none a b found given is read = go a b (subst (λ (f : Line). ReadsLine a b f given) is read)
  where
    go : (a b : Option (List ℕ)) → ReadsLine a b End given → ReadsLines a b [] × OnSome a (IsAtEnd b)
    go None b read = (tt, tt)
    go (Some x) None read = absurd read
    go (Some x) (Some y) (none, end) = (end ∙ sym none, end)

-- one was
pub reads_one : (a b : Option (List ℕ)) (found : Line) (given line : List ℕ) → found ≡ Whole → line ≡ given
    → ReadsLine a b found given → ReadsLines a b (Some line ∷ [])
reads_one a b found given line is same read = subst (λ (l : List ℕ). ReadsLines a b (Some l ∷ [])) (sym same)
    (go a b (subst (λ (f : Line). ReadsLine a b f given) is read))
  where
    go : (a b : Option (List ℕ)) → ReadsLine a b Whole given → ReadsLines a b (Some given ∷ [])
    go None b read = tt
    go (Some x) None read = absurd read
    go (Some x) (Some y) (is, few) = (given, y, is, (refl, few), refl)

pub reads_too_long : (a b : Option (List ℕ)) (found : Line) (given : List ℕ) → found ≡ Long
    → ReadsLine a b found given → ReadsLines a b (None ∷ [])
reads_too_long a b found given is read = go a b (subst (λ (f : Line). ReadsLine a b f given) is read)
  where
    go : (a b : Option (List ℕ)) → ReadsLine a b Long given → ReadsLines a b (None ∷ [])
    go None b read = tt
    go (Some x) None read = absurd read
    go (Some x) (Some y) (line, is, many) = (line, y, is, many, refl)
