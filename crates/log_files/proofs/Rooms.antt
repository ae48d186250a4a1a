-- Room in a commit for a further page.
use Rattle.std.proofs.Common.{◌≡◌, ℕ, ◌+◌, ◌-◌, ◌<◌, ◌≤◌, true, false, List, [], ◌∷◌, length, eqb}
use Rattle.std.proofs.Common.{Option, Some, None, refl, sym, ap, ◌∙◌, subst, arith, if◌then◌else◌, inl, inr}
use Rattle.std.specs.Prelude.{is_some, is_none, nat_le}
use Rattle.std.proofs.lemmas.Bool.{leb-false, and_cases, cond-false, ne_eqb}
use Rattle.volume_codec.specs.Descriptor.{RiseWithin}
use Rattle.kept_blocks.specs.Blocks.{Blocks, homes_in, bytes_in, with_home}
use Rattle.kept_blocks.proofs.Public.{bytes_put, length_put, rising_put}
use Rattle.log_codec.specs.Log.{IsCommitSize, first_log_home}
use Rattle.log_volume.specs.Super.{LogSuperValue, log_of}
use Rattle.log_files.specs.State.{LogFilesState, pages_put, takes_no_page, with_staged}
use Rattle.log_files.specs.inside.Sound.{IsSoundLogFiles, IsInsideFile}

-- where one is there, there are some
pub some_there : (blocks : Blocks) (k : ℕ) → is_some (bytes_in blocks k) ≡ true → 0 < length blocks
some_there [] k e = absurd (cc)
some_there (b ∷ bs) k e = omega arith

-- fewer records than a commit may have are a commit's, too
pub fewer_records : (ring n m : ℕ) → 0 < n → n ≤ m → IsCommitSize ring m → IsCommitSize ring n
fewer_records ring n m some le size =
    record { some = some; few = omega (arith, le, size.few); room = omega (arith, le, size.room) }

few_by : (o : Option (List ℕ)) (n most : ℕ) → n - (if is_some o then 1 else 0) ≤ most → n ≤ most + 1
few_by None n most le = omega (arith, le)
few_by (Some x) n most le = omega (arith, le)

-- a commit may have what was put
pub few_staged : {D : Type 0} (seen : D → List ℕ) (s : LogFilesState D) → IsSoundLogFiles seen s
    → length s.pager.staged ≤ s.most + 1
few_staged seen s sound =
    few_by (bytes_in s.pager.staged (first_log_home s.table.ring)) (length s.pager.staged) s.most sound.few

size_put : (o p : Option (List ℕ)) (n size most : ℕ) → is_some o ≡ is_some p → size ≤ n + 1
    → (n - (if is_some p then 1 else 0)) < most → size - (if is_some o then 1 else 0) ≤ most
size_put None None n size most same le few = omega (arith, le, few)
size_put (Some x) (Some y) n size most same le few = omega (arith, le, few)
size_put None (Some y) n size most same le few = absurd (cc)
size_put (Some x) None n size most same le few = absurd (cc)

more_or_same : (o : Option (List ℕ)) (n : ℕ) → (if is_some o then n else n + 1) ≤ n + 1
more_or_same None n = omega arith
more_or_same (Some x) n = omega arith

same_size : (o : Option (List ℕ)) (n : ℕ) → is_none o ≡ false → (if is_some o then n else n + 1) ≡ n
same_size None n e = absurd (cc)
same_size (Some x) n e = refl

-- one more page may be put, where the commit takes it
pub few_put : (v : LogSuperValue) (most : ℕ) (staged : Blocks) (high k : ℕ) (x : List ℕ)
    → RiseWithin (first_log_home v.ring) high (homes_in staged) → first_log_home v.ring < k
    → pages_put v staged ≤ most → takes_no_page v most staged k ≡ false → pages_put v (with_home staged k x) ≤ most
few_put v most staged high k x rising above few room =
    let first = first_log_home v.ring in
    let kept : bytes_in (with_home staged k x) first ≡ bytes_in staged first =
    bytes_put staged k x first
    ∙ cond-false (eqb first k) (Some x) (bytes_in staged first) (ne_eqb first k (λ e. omega (arith, e, above))) in
    let size = length_put staged first high k x rising in
    elim (and_cases (is_none (bytes_in staged k)) (nat_le most (pages_put v staged)) room) [
      | inl there ↦
          (let same = size ∙ same_size (bytes_in staged k) (length staged) there in
          subst (λ (n : ℕ). n ≤ most)
          (sym (λ i. same i - (if is_some (kept i) then 1 else 0))) few)
      | inr fits ↦ size_put (bytes_in (with_home staged k x) first) (bytes_in staged first) (length staged)
          (length (with_home staged k x)) most (ap is_some kept)
          (omega (arith, size, more_or_same (bytes_in staged k) (length staged)))
          (leb-false most (pages_put v staged) fits)
    ]

-- what holds once a page is put
pub sound_put : {D : Type 0} (seen : D → List ℕ) (s : LogFilesState D) (home : ℕ) (x : List ℕ)
    → IsSoundLogFiles seen s → first_log_home s.table.ring < home → home < (log_of s.table).blocks
    → IsInsideFile s.table s.lengths home → takes_no_page s.table s.most s.pager.staged home ≡ false
    → IsSoundLogFiles seen (with_staged s (with_home s.pager.staged home x))
sound_put seen s home x sound low within inside room = record {
  fits = sound.fits;
  log = sound.log;
  same_log = sound.same_log;
  long = sound.long;
  lengths = sound.lengths;
  rising = rising_put s.pager.staged (first_log_home s.table.ring) (log_of s.table).blocks home x sound.rising
      (omega (arith, low)) within;
  ends = λ file q past next. bytes_put s.pager.staged home x q
      ∙ cond-false (eqb q home) (Some x) (bytes_in s.pager.staged q) (ne_eqb q home (λ same. inside file
      (omega (arith, past, same)) (omega (arith, next, same)))) ∙ sound.ends file q past next;
  few = few_put s.table s.most s.pager.staged (log_of s.table).blocks home x sound.rising low sound.few room;
  size = sound.size;
}
