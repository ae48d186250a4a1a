-- A file's length becomes another: what is put then has room in a commit, and lies before the ends of files.
use Rattle.std.proofs.Common.{◌≡◌, ℕ, ◌+◌, ◌-◌, ◌/◌, ◌%◌, ◌<◌, ◌≤◌, Bool, true, false, List, []}
use Rattle.std.proofs.Common.{length, get_or, set, Option, Some, None, refl, ap, sym, ◌∙◌, subst, arith}
use Rattle.std.proofs.Common.{ltb, if◌then◌else◌}
use Rattle.std.specs.Prelude.{is_some, nat_lt}
use Rattle.std.proofs.lemmas.Bool.{cond-true, cond-false, lt-ltb}
use Rattle.std.proofs.lemmas.Bool.Decides.{nat_tests}
use Rattle.volume_codec.specs.Lengths.{lengths_text}
use Rattle.volume_codec.specs.Super.{pages_of}
use Rattle.volume_codec.specs.Descriptor.{RiseWithin}
use Rattle.volume_codec.proofs.Public.{first_home_of-next, first_home_of-le}
use Rattle.kept_blocks.specs.Blocks.{Blocks, homes_in, bytes_in, with_home, with_zeros, without_run, cut_in, cut_to}
use Rattle.kept_blocks.proofs.Public.{rising_put, length_put}
use Rattle.pager.specs.State.{file_length}
use Rattle.pager.specs.Calls.{end_page}
use Rattle.pager.proofs.Public.{are_set, MayReach, lengths_put, at_other, added_to, none_behind, rises_grown}
use Rattle.pager.proofs.Public.{first_same, count_grown, ends_grown, rises_shrunk, first_there, count_shrunk}
use Rattle.pager.proofs.Public.{ends_shrunk}
use Rattle.log_codec.specs.Log.{first_log_home}
use Rattle.log_volume.specs.Super.{LogSuperValue, table_of, log_of}
use Rattle.log_files.specs.State.{LogFilesState, log_first_home_of, log_home_of, pages_put}
use Rattle.log_files.specs.Calls.{log_grown, log_shrunk, log_restaged, log_resized_to}
use Rattle.log_files.specs.inside.Sound.{IsSoundLogFiles, MayHaveLogLength}
use Rattle.log_files.proofs.HomeBlocks.{one_file}
use Rattle.log_files.proofs.Rooms.{some_there}

-- the block of the lengths is put, and isn't counted
pages_more : (o : Option (List ℕ)) (n added : ℕ) → (is_some o ≡ true → 0 < n)
    → added_to o (n + added) - 1 ≡ n - (if is_some o then 1 else 0) + added
pages_more None n added some = omega arith
pages_more (Some x) n added some = omega (arith, some refl)

pages_fewer : (o : Option (List ℕ)) (m n : ℕ) → m ≤ n → added_to o m - 1 ≤ n - (if is_some o then 1 else 0)
pages_fewer None m n le = omega (arith, le)
pages_fewer (Some x) m n le = omega (arith, le)

module _ {D : Type 0} (seen : D → List ℕ) (s : LogFilesState D) (sound : IsSoundLogFiles seen s) (file to : ℕ)
    (may : MayHaveLogLength s.table file to) where
  abbrev v : LogSuperValue
  v = s.table

  abbrev staged : Blocks
  staged = s.pager.staged

  abbrev from : ℕ
  from = file_length s.lengths file

  abbrev first : ℕ
  first = first_log_home v.ring

  abbrev end : ℕ
  end = (log_of v).blocks

  abbrev home : ℕ
  home = log_home_of v (end_page file from)

  abbrev text : List ℕ
  text = lengths_text (set s.lengths file to)

  abbrev body : List ℕ → Blocks
  body last = if ltb from to then log_grown v file from to last staged else log_shrunk v file from to staged

  abbrev restaged : List ℕ → Blocks
  restaged last = log_restaged v s.lengths file to last staged

  pages_are : (last : List ℕ) → pages_put v (restaged last) ≡ length (restaged last) - 1
  pages_are last = ap (λ (o : Option (List ℕ)). length (restaged last) - (if is_some o then 1 else 0))
      (lengths_put first text (body last))

  file_ends : log_first_home_of v file + pages_of to ≤ log_first_home_of v (file + 1)
  file_ends = omega (arith, first_home_of-next (table_of v) file may.there, may.fits)

  may_reach : MayReach (log_first_home_of v) s.lengths file to first end staged
  may_reach = record {
    one_file = one_file v;
    there = let count = sound.lengths.count in omega (arith, count, may.there);
    rising = sound.rising;
    ends = sound.ends;
    low = omega arith;
    file_ends = file_ends;
    end_in = omega (arith, file_ends, first_home_of-le (table_of v) (file + 1));
  }

  home_is : home ≡ log_first_home_of v file + from / 4096
  home_is = omega arith

  -- ---- a growth

  module _ (grows : from < to) where
    abbrev many : ℕ
    many = pages_of to - (from / 4096 + 1)

    body_grown : (last : List ℕ) → body last ≡ log_grown v file from to last staged
    body_grown last = cond-true (ltb from to) (log_grown v file from to last staged)
        (log_shrunk v file from to staged) (lt-ltb from to grows)

    pub none_added : (q : ℕ) → home < q → q < log_first_home_of v file + pages_of to → bytes_in staged q ≡ None
    none_added = none_behind may_reach grows home home_is

    -- how many pages are put then
    pub pages_grown : (last : List ℕ)
        → pages_put v (restaged last) ≡ pages_put v staged + added_to (bytes_in staged home) many
    pages_grown last =
        let added = added_to (bytes_in staged home) many in
        pages_are last
        ∙ ap (λ (m : Blocks). length (with_home m first text) - 1) (body_grown last)
        ∙ ap (λ n. n - 1) (length_put (log_grown v file from to last staged) first end first text
        (rises_grown may_reach grows home home_is last)
        ∙ ap (λ (o : Option (List ℕ)). added_to o (length (log_grown v file from to last staged)))
        (first_same may_reach grows home home_is last)
        ∙ ap (added_to (bytes_in staged first)) (count_grown may_reach grows home home_is last))
        ∙ pages_more (bytes_in staged first) (length staged) added (some_there staged first)

    -- what the code puts
    pub resized_grown : (at high start : ℕ) (page spelled last : List ℕ) → at ≡ home
        → high ≡ log_first_home_of v file + pages_of to → start ≡ first → page ≡ cut_to (from % 4096) last
        → spelled ≡ text
        → with_home (with_home (with_zeros staged (at + 1) (high - (at + 1))) at page) start spelled ≡ restaged last
    resized_grown at high start page spelled last at_is high_is start_is page_is spelled_is =
        let count : high - (at + 1) ≡ many = omega (arith, at_is, high_is) in
        (λ i. with_home (with_home (with_zeros staged (at_is i + 1) (count i)) (at_is i) (page_is i)) (start_is i)
        (spelled_is i))
        ∙ ap (λ (m : Blocks). with_home m first text) (sym (body_grown last))

  -- ---- a shrink

  module _ (shrinks : to < from) where
    abbrev cut_home : ℕ
    cut_home = log_home_of v (end_page file to)

    body_shrunk : (last : List ℕ) → body last ≡ log_shrunk v file from to staged
    body_shrunk last = cond-false (ltb from to) (log_grown v file from to last staged)
        (log_shrunk v file from to staged) (let test : ltb from to ≡ false = grind (arith, nat_tests, shrinks) in
        test)

    -- no page more is put than before
    pub pages_shrunk : (last : List ℕ) → pages_put v (restaged last) ≤ pages_put v staged
    pages_shrunk last =
        let shrunk = log_shrunk v file from to staged in
        let is : pages_put v (restaged last) ≡ added_to (bytes_in staged first) (length shrunk) - 1 =
        pages_are last
        ∙ ap (λ (m : Blocks). length (with_home m first text) - 1) (body_shrunk last)
        ∙ ap (λ n. n - 1) (length_put shrunk first end first text (rises_shrunk may_reach shrinks cut_home)
        ∙ ap (λ (b : Bool). if b then length shrunk else length shrunk + 1)
        (first_there may_reach shrinks cut_home)) in
        omega (
          arith,
          is,
          pages_fewer (bytes_in staged first) (length shrunk) (length staged)
              (count_shrunk may_reach shrinks cut_home),
        )

    pub room_shrunk : nat_lt s.most (pages_put v (restaged [])) ≡ false
    room_shrunk =
        let few : pages_put v (restaged []) ≤ s.most = omega (arith, pages_shrunk [], sound.few) in
        grind (arith, nat_tests, few)

    pub resized_shrunk : (low high at start n : ℕ) (spelled last : List ℕ)
        → low ≡ log_first_home_of v file + pages_of to → high ≡ log_first_home_of v file + pages_of from
        → at ≡ cut_home → start ≡ first → n ≡ to % 4096 → spelled ≡ text
        → with_home (cut_in (without_run staged low high) at n) start spelled ≡ restaged last
    resized_shrunk low high at start n spelled last low_is high_is at_is start_is n_is spelled_is =
        (λ i. with_home (cut_in (without_run staged (low_is i) (high_is i)) (at_is i) (n_is i)) (start_is i)
        (spelled_is i))
        ∙ ap (λ (m : Blocks). with_home m first text) (sym (body_shrunk last))

  -- ---- either

  sound_with : (last : List ℕ) → RiseWithin first end (homes_in (body last))
      → ((f q : ℕ) → log_first_home_of v f + pages_of (get_or (set s.lengths file to) f 0) ≤ q
      → q < log_first_home_of v (f + 1) → bytes_in (body last) q ≡ None)
      → pages_put v (restaged last) ≤ s.most
      → IsSoundLogFiles seen (log_resized_to s file to last s.pager.device)
  sound_with last rising ends few = record {
    fits = sound.fits;
    log = sound.log;
    same_log = sound.same_log;
    long = sound.long;
    lengths = are_set (table_of v) s.lengths file to sound.lengths may.fits;
    rising = rising_put (body last) first end first text rising (omega arith)
        (let some = sound.log.some_homes in omega (arith, some));
    ends = λ f q past next. at_other first text (body last) q (omega (arith, past)) ∙ ends f q past next;
    few = few;
    size = sound.size;
  }

  pub sound_grown : (last : List ℕ) → from < to → nat_lt s.most (pages_put v (restaged [])) ≡ false
      → IsSoundLogFiles seen (log_resized_to s file to last s.pager.device)
  sound_grown last grows room =
      let fits : pages_put v (restaged []) ≤ s.most = grind (arith, nat_tests, room) in
      sound_with last
      (subst (λ (m : Blocks). RiseWithin first end (homes_in m)) (sym (body_grown grows last))
      (rises_grown may_reach grows home home_is last))
      (λ f q past next. ap (λ (m : Blocks). bytes_in m q) (body_grown grows last)
      ∙ ends_grown may_reach grows home home_is last f q past next)
      (omega (arith, fits, pages_grown grows last, pages_grown grows []))

  pub sound_shrunk : (last : List ℕ) → to < from
      → IsSoundLogFiles seen (log_resized_to s file to last s.pager.device)
  sound_shrunk last shrinks = sound_with last
      (subst (λ (m : Blocks). RiseWithin first end (homes_in m)) (sym (body_shrunk shrinks last))
      (rises_shrunk may_reach shrinks (cut_home shrinks)))
      (λ f q past next. ap (λ (m : Blocks). bytes_in m q) (body_shrunk shrinks last)
      ∙ ends_shrunk may_reach shrinks (cut_home shrinks) f q past next)
      (omega (arith, pages_shrunk shrinks last, sound.few))
