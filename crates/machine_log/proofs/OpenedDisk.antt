-- What a disk has when it was opened: the volume of its device, in layout 4, with its journals closed.
use Rattle.std.proofs.Common.{◌≡◌, ℕ, ◌+◌, ◌-◌, ◌*◌, ◌<◌, ◌≤◌, Ok, List, [], ◌∷◌, length, take, drop}
use Rattle.std.proofs.Common.{Bool, get_or, slice_index, false, refl, sym, ap, subst, ◌∙◌, length-append, arith}
use Rattle.std.proofs.Math.Seq.{drop-append-add}
use Rattle.std.proofs.lemmas.List.{ext_get_or, get_or-replicate, get_or_append_left, get_or-append_right}
use Rattle.std.proofs.lemmas.List.{take_at, take-take, take-append-le, drop-append-le, drop-take, drop-drop}
use Rattle.std.proofs.lemmas.List.{length-take, length-drop}
use Rattle.device.specs.declared.device.Device.{Ghosts}
use Rattle.device.specs.Device.{Only}
use Rattle.device.specs.Memory.{DiskChange, MayBeLeft}
use Rattle.volume_codec.specs.Files.{File}
use Rattle.volume_codec.specs.Layout.{IsHome, block_at, journals_of, gate_block, first_home}
use Rattle.volume_codec.specs.Lengths.{AreLengths, IsLengths, HasLengths, lengths_text}
use Rattle.volume_codec.specs.Recovery.{IsVolume, RecoversTo, files_in, has_journal}
use Rattle.volume_codec.specs.Super.{SuperValue, block_count, geometry_of, super_text}
use Rattle.volume_codec.specs.Text.{zeros, padded}
use Rattle.volume_codec.proofs.Public.{length-padded}
use Rattle.journal.specs.Recovered.{RecoversBy}
use Rattle.journal.proofs.Public.{gate-below}
use Rattle.machine_log.specs.Shown.{ShownValue, HasShown}
use Rattle.log_codec.specs.declared.start.LogStart.{LogStart}
use Rattle.log_codec.specs.Log.{first_log_home}
use Rattle.log_codec.specs.Chain.{LogRecovers, IsLogHome}
use Rattle.log_volume.specs.Super.{LogSuperValue, FitsLog, IsLogSuper, table_of, log_of, log_super_text}
use Rattle.log_volume.specs.Files.{RecoversToLog, log_lengths_in, log_files_in}
use Rattle.log_opening.specs.Opening.{IsCounted}
use Rattle.log_commits.specs.Tail.{EndsAtTail, HoldsUpTo}
use Rattle.log_store.specs.Store.{StoreValue}
use Rattle.log_pager.specs.Pager.{LogPagerValue, IsPagerOver}
use Rattle.machine_log.specs.Opening.{fitted, shown_bytes, IsCountedDisk}
use Rattle.machine_log.specs.Serving.{IsShownTable, volume_home}
use Rattle.machine_log.specs.inside.Keeping.{shown_contents, RecoverAlike, AreBacked, IsHeld, IsOverLog, IsKeptDisk}
use Rattle.machine_log.specs.inside.Keeping.{changed}
use Rattle.machine_log.specs.inside.Opened.{IsOpenedLog}
use Rattle.machine_log.proofs.Alike.{table_four, four, first_shown, lengths_shown, files_shown}

-- ---- lists

get_or-zeros : (n i : ℕ) → i < n → get_or (zeros n) i 0 ≡ 0
unfolding zeros
get_or-zeros n i lt = get_or-replicate n i 0 0 lt

length-fitted : (n : ℕ) (bytes : List ℕ) → length (fitted n bytes) ≡ n
length-fitted n bytes = length-padded n (take n bytes) (omega (arith, length-take n bytes))

-- a part of what is fitted, where there are enough bytes
part_fitted : (n k part : ℕ) (bytes : List ℕ) → n ≤ length bytes → k + part ≤ n
    → take part (drop k (fitted n bytes)) ≡ take part (drop k bytes)
part_fitted n k part bytes long within =
    let some : length (take n bytes) ≡ n = omega (arith, length-take n bytes, long) in
    let split : n ≡ k + (n - k) = omega (arith, within) in
    let pad = zeros (n - length (take n bytes)) in
    ap (take part) (drop-append-le k (take n bytes) pad (omega (arith, some, within)))
    ∙ take-append-le part (drop k (take n bytes)) pad (omega (arith, some, within, length-drop k (take n bytes)))
    ∙ ap (λ m. take part (drop k (take m bytes))) split
    ∙ ap (take part) (drop-take k (n - k) bytes)
    ∙ take-take part (n - k) (drop k bytes) (omega (arith, within))

-- with no changes a crash leaves what is there
pub only_there : (first : List ℕ) → Only (MayBeLeft first []) first
only_there first c left = ext_get_or 0 c first left.same_length (λ i lt. left.synced i refl)

-- ---- places

moved_from : (b low up : ℕ) → low ≤ b → 4096 * up + 4096 * (b - low) ≡ 4096 * (b + up - low)
moved_from b low up le = omega (arith, le)

gate_place : (gate low : ℕ) → 1 ≤ gate → gate < low
    → (4096 ≤ 4096 * gate) × (4096 * gate < 4096 * low) × (4096 * gate - 4096 < 4096 * low - 4096)
gate_place gate low some lt = (omega (arith, some), omega (arith, lt), omega (arith, some, lt))

home_room : (b low count up blocks size : ℕ) → low ≤ b → b < count → count - low + up ≤ blocks
    → 4096 * blocks ≤ size
    → (4096 * (b - low) + 4096 ≤ 4096 * (count - low)) × (4096 * (count - low) ≤ size - 4096 * up)
    × (b + up - low < blocks) × (up ≤ b + up - low)
home_room b low count up blocks size le lt room long =
    (omega (arith, le, lt), omega (arith, room, long), omega (arith, le, lt, room), omega (arith, le))

-- ---- the bytes of the disk

-- the volume of the disk, before its first call
abbrev pub closed_volume : SuperValue → ShownValue
closed_volume t = record { geometry = geometry_of t; blocks = []; opened = [] }

module _ (v : LogSuperValue) (t : SuperValue) (seen : List ℕ) (is : IsShownTable v t)
    (whole : length (super_text t) ≡ 4096) where
  abbrev low : ℕ
  low = first_home t.layout t.slots

  abbrev homes : ℕ
  homes = block_count t - low

  abbrev kept : List ℕ
  kept = drop (4096 * first_log_home v.ring) seen

  abbrev front : List ℕ
  front = padded (4096 * low) (super_text t)

  length-front : length front ≡ 4096 * low
  length-front = length-padded (4096 * low) (super_text t) (omega (arith, whole))

  pub length-shown : length (shown_bytes v t seen) ≡ 4096 * block_count t
  length-shown =
      omega (arith, length-append front (fitted (4096 * homes) kept), length-front, length-fitted (4096 * homes) kept)

  super_there : block_at (shown_bytes v t seen) 0 ≡ super_text t
  super_there =
      let pad = zeros (4096 * low - length (super_text t)) in
      take-append-le 4096 front (fitted (4096 * homes) kept) (omega (arith, length-front))
      ∙ take_at (super_text t) pad 4096 whole

  gate_closed : (j : ℕ) → j < journals_of t.layout
      → get_or (shown_bytes v t seen) (4096 * gate_block t.slots j) 0 ≡ 0
  gate_closed j lt =
      let place = gate_place (gate_block t.slots j) low (omega arith) (gate-below t.layout t.slots j lt) in
      let pad = 4096 * low - length (super_text t) in
      get_or_append_left front (fitted (4096 * homes) kept) 0 (4096 * gate_block t.slots j)
      (omega (arith, length-front, place.1))
      ∙ get_or-append_right (super_text t) (zeros pad) 4096 (4096 * gate_block t.slots j) 0 whole place.0
      ∙ get_or-zeros pad (4096 * gate_block t.slots j - 4096) (omega (arith, whole, place.2))

  -- the block of a gate that is closed begins with a zero
  pub gates_shown : (j : ℕ) → j < journals_of (geometry_of t).layout → has_journal [] j ≡ false
      → slice_index (shown_bytes v t seen) (4096 * gate_block (geometry_of t).slots j) ≡ 0
  gates_shown j lt closed = gate_closed j lt

  pub volume_shown : IsVolume t [] (shown_bytes v t seen)
  volume_shown = record {
    super_block = record { fits = is.fits; spelled = super_there };
    long = omega (arith, length-shown);
    journals = record {
      each = tt;
      all = λ j lt opens. absurd (omega (arith, gate_closed j lt, opens));
      falling = tt;
    };
  }

  pub has_shown : HasShown t (closed_volume t) (shown_bytes v t seen)
  has_shown = record {
    geometry = refl;
    long = length-shown;
    volume = volume_shown;
    closed = gates_shown;
    kept = λ b block there. cc;
  }

  -- ---- the blocks of the volume

  module _ (long : 4096 * (log_of v).blocks ≤ length seen) where
    count_room : block_count t - low + first_log_home v.ring ≤ (log_of v).blocks
    count_room =
        let four_is = table_four v t is in
        let P : SuperValue → Type 0 =
        λ u. block_count u - first_home u.layout u.slots + first_log_home v.ring ≤ (log_of v).blocks in
        subst P (sym four_is) (omega arith)

    -- a home block of the disk is one of the volume
    home_there : (b : ℕ) → IsHome (geometry_of t) b → IsLogHome (log_of v) (volume_home v t b)
    home_there b home =
        let room = home_room b low (block_count t) (first_log_home v.ring) (log_of v).blocks (length seen) home.low
        home.high count_room long in
        record { low = room.3; high = room.2 }

    home_shown : (b : ℕ) → IsHome (geometry_of t) b
        → block_at seen (volume_home v t b) ≡ block_at (shown_bytes v t seen) b
    home_shown b home =
        let room = home_room b low (block_count t) (first_log_home v.ring) (log_of v).blocks (length seen) home.low
        home.high count_room long in
        let at : 4096 * b ≡ length front + 4096 * (b - low) = omega (arith, length-front, home.low) in
        let enough : 4096 * homes ≤ length kept =
        omega (arith, room.1, length-drop (4096 * first_log_home v.ring) seen) in
        sym (
        ap (λ n. take 4096 (drop n (shown_bytes v t seen))) at
        ∙ ap (take 4096) (drop-append-add front (fitted (4096 * homes) kept) (4096 * (b - low)))
        ∙ part_fitted (4096 * homes) (4096 * (b - low)) 4096 kept enough room.0
        ∙ ap (take 4096) (drop-drop (4096 * (b - low)) (4096 * first_log_home v.ring) seen)
        ∙ ap (λ n. take 4096 (drop n seen)) (moved_from b low (first_log_home v.ring) home.low)
        )

    pub recovers_shown : RecoversBy t [] (shown_contents v t (block_at seen)) (shown_bytes v t seen)
    recovers_shown = record { volume = volume_shown; contents_are = λ b home. home_shown b home }

    -- ---- the files

    module _ (fits : FitsLog v) (one_super : (u w : LogSuperValue) (block : List ℕ) → IsLogSuper u block
        → IsLogSuper w block → u ≡ w)
        (one_contents : (contents others : ℕ → List ℕ) (bytes : List ℕ) (b : ℕ) → LogRecovers (log_of v) contents bytes
        → LogRecovers (log_of v) others bytes → IsLogHome (log_of v) b → contents b ≡ others b) where
      has_lengths : (contents : ℕ → List ℕ)
          → IsLengths (table_of v) (log_lengths_in v contents) (contents (first_log_home v.ring))
          → HasLengths t (shown_contents v t contents)
      has_lengths contents are =
          let P : SuperValue → Type 0 = λ u. HasLengths u (shown_contents v u contents) in
          let lengths = lengths_shown v t.slots contents in
          let within : AreLengths (four v t.slots) (log_lengths_in v contents) =
          record { count = are.are.count; within = are.are.within } in
          subst P (sym (table_four v t is)) (record {
            are = subst (AreLengths (four v t.slots)) (sym lengths) within;
            spelled = λ some. ap contents (first_shown v t.slots contents) ∙ are.spelled
                ∙ ap lengths_text (sym lengths);
          })

      files_by : (contents : ℕ → List ℕ) (old : List ℕ) (files : List File)
          → LogRecovers (log_of v) (block_at seen) old → LogRecovers (log_of v) contents old
          → IsLengths (table_of v) (log_lengths_in v contents) (contents (first_log_home v.ring))
          → files ≡ log_files_in v contents → RecoversTo (shown_bytes v t seen) files
      files_by contents old files recovered recovers are same = record {
        table = t;
        contents = shown_contents v t contents;
        recovers = record {
          batches = [];
          volume = volume_shown;
          contents_are = λ b home.
              one_contents contents (block_at seen) old (volume_home v t b) recovers recovered (home_there b home)
              ∙ home_shown b home;
        };
        lengths = has_lengths contents are;
        files_are = same ∙ sym (
            ap (λ (u : SuperValue). files_in u (shown_contents v u contents)) (table_four v t is)
            ∙ files_shown v t.slots contents
            );
      }

      -- the files that bytes recover to whose contents the device has
      pub files_of_shown : (old : List ℕ) (files : List File) → IsLogSuper v (block_at old 0)
          → LogRecovers (log_of v) (block_at seen) old → RecoversToLog old files
          → RecoversTo (shown_bytes v t seen) files
      files_of_shown old files says recovered to =
          let same = one_super to.table v (block_at old 0) to.super_block says in
          let R : LogSuperValue → Type 0 = λ u. LogRecovers (log_of u) to.contents old in
          let L : LogSuperValue → Type 0 = λ u. IsLengths (table_of u) (log_lengths_in u to.contents)
          (to.contents (first_log_home u.ring)) in
          files_by to.contents old files recovered (subst R same to.recovers) (subst L same to.lengths)
          (to.files_are ∙ ap (λ (u : LogSuperValue). log_files_in u to.contents) same)

    -- ---- what a crash leaves

    module _ {D : Type 0} (disk : Ghosts D) (device : D) (super_block : block_at seen 0 ≡ log_super_text v)
        (recovers : LogRecovers (log_of v) (block_at seen) seen) (only : Only (disk.may_leave device) seen) where
      pub over_opened : (pager : LogPagerValue D) → pager.device ≡ device → IsPagerOver disk pager (block_at seen)
          → EndsAtTail pager.store.tail seen → IsOverLog disk v t pager (closed_volume t) (shown_bytes v t seen)
      over_opened pager at over ends = record {
        contents = block_at seen;
        over = over;
        ended = λ c left. subst (EndsAtTail pager.store.tail)
            (sym (only c (subst (λ d. disk.may_leave d c) at left))) ends;
        first = λ c left. ap (λ (l : List ℕ). block_at l 0)
            (only c (subst (λ d. disk.may_leave d c) at left)) ∙ super_block;
        recovers = recovers_shown;
      }

      alike_opened : (c : List ℕ) → c ≡ seen → RecoverAlike v t c (shown_bytes v t seen)
      alike_opened c is_seen =
          subst (λ l. RecoverAlike v t l (shown_bytes v t seen)) (sym is_seen) (record {
            contents = block_at seen;
            first = super_block;
            volume = recovers;
            disk = record { batches = []; volume = volume_shown; contents_are = λ b home. home_shown b home };
          })

      pub backed_opened : ((c : List ℕ) → disk.left_since device (disk.moment device) c → disk.may_leave device c)
          → AreBacked disk device v t (changed (shown_bytes v t seen) []) ((0, disk.moment device) ∷ [])
      backed_opened law = (
        λ c left. (
          shown_bytes v t seen,
          (0, omega arith, omega arith, record { same_length = refl; synced = λ i none. refl }),
          alike_opened c (only c (law c left)),
        ),
        tt,
      )

-- ---- counts

pub counted_disk : {D X Y : Type 0} (disk : Ghosts D) (old new : D) (x : X) (y : Y)
    → IsCounted {X = X} disk old (Ok x) new → IsCountedDisk {X = Y} disk old (Ok y) new
counted_disk disk old new x y is =
    record { honest = is.honest; same_length = is.same_length; carried = is.carried; faults = is.faults }

-- ---- the disk

module _ {D : Type 0} (disk : Ghosts D) (v : LogSuperValue) (t : SuperValue) (device : D) (is_table : IsShownTable v t)
    (whole : length (super_text t) ≡ 4096) (fits : FitsLog v)
    (long : 4096 * (log_of v).blocks ≤ length (disk.seen device))
    (start : LogStart) (second : Bool) (opened : disk.is_honest device → IsOpenedLog disk v start second device)
    (law : (c : List ℕ) → disk.left_since device (disk.moment device) c → disk.may_leave device c) where
  abbrev seen_there : List ℕ
  seen_there = disk.seen device

  abbrev first_moments : List (ℕ × ℕ)
  first_moments = (0, disk.moment device) ∷ []

  -- a log without commits recovers to the home blocks themselves
  recovers_itself : disk.is_honest device → LogRecovers (log_of v) (block_at seen_there) seen_there
  recovers_itself honest =
      record { start = start; chain = []; log = (opened honest).log; contents_are = λ b home. refl }

  -- and holds all commits so far, which are none
  held_opened : IsOpenedLog disk v start second device → (c : List ℕ) → disk.may_leave device c
      → IsHeld v t start (shown_bytes v t seen_there) [] 0 c (shown_bytes v t seen_there)
  held_opened o c left =
      let is = o.synced c left in
      record {
        newer = [];
        older = [];
        parts = refl;
        late = omega arith;
        seen = refl;
        contents = block_at seen_there;
        text = ap (λ (l : List ℕ). block_at l 0) is ∙ o.super_block;
        recovers =
            let by = recovers_shown v t seen_there is_table whole long in
            record { batches = []; volume = by.volume; contents_are = by.contents_are };
        holds = subst (HoldsUpTo (log_of v) (start.number + 0) (block_at seen_there)) (sym is) (record {
          start = start;
          chain = [];
          log = record { long = o.log.long; start = o.log.start; commits = tt };
          number_is = refl;
          contents_are = λ b home. refl;
        });
      }

  kept_opened : (store : StoreValue) → store.tail.log ≡ log_of v → store.tail.number ≡ start.number
      → (IsOpenedLog disk v start second device
      → IsPagerOver disk (record { store = store; staged = []; device = device }) (block_at seen_there)
      × EndsAtTail store.tail seen_there)
      → IsKeptDisk disk v t start (shown_bytes v t seen_there) [] first_moments
      (record { store = store; staged = []; device = device }) (closed_volume t) false
  kept_opened store log number over = record {
    fits = fits;
    table = is_table;
    log = log;
    number = λ ok. omega (arith, number);
    long = length-shown v t seen_there is_table whole;
    within = tt;
    moments_are = record { older = []; newest = refl; each = tt };
    shows = λ ok. has_shown v t seen_there is_table whole;
    none_put = λ ok. refl;
    over = λ honest ok.
        let o = opened honest in
        over_opened v t seen_there is_table whole long disk device o.super_block (recovers_itself honest) o.synced
        (record { store = store; staged = []; device = device }) refl (over o).0 (over o).1;
    backed = λ honest.
        let o = opened honest.0 in
        backed_opened v t seen_there is_table whole long disk device o.super_block (recovers_itself honest.0) o.synced
        law;
    followed = tt;
    held = λ honest.
        let o = opened honest in (
          λ c left. (
            shown_bytes v t seen_there,
            (0, omega arith, omega arith, record { same_length = refl; synced = λ i none. refl }),
            held_opened o c (law c left),
          ),
          tt,
        );
  }

  pub kept_as : (pager : LogPagerValue D) (store : StoreValue) (shown : ShownValue) (first : List ℕ)
      (changes : List DiskChange) (moments : List (ℕ × ℕ))
      → pager ≡ record { store = store; staged = []; device = device } → store.tail.log ≡ log_of v
      → store.tail.number ≡ start.number
      → shown ≡ closed_volume t → first ≡ shown_bytes v t seen_there → changes ≡ [] → moments ≡ first_moments
      → (IsOpenedLog disk v start second device
      → IsPagerOver disk pager (block_at seen_there) × EndsAtTail store.tail seen_there)
      → IsKeptDisk disk v t start first changes moments pager shown false
  kept_as pager store shown first changes moments pager_is log number shown_is first_is changes_are moments_are over =
      let bytes = shown_bytes v t seen_there in
      subst (λ s. IsKeptDisk disk v t start first changes moments pager s false) (sym shown_is)
      (subst (λ l. IsKeptDisk disk v t start l changes moments pager (closed_volume t) false) (sym first_is)
      (subst (λ l. IsKeptDisk disk v t start bytes l moments pager (closed_volume t) false) (sym changes_are)
      (subst (λ l. IsKeptDisk disk v t start bytes [] l pager (closed_volume t) false) (sym moments_are)
      (subst (λ p. IsKeptDisk disk v t start bytes [] first_moments p (closed_volume t) false) (sym pager_is)
      (kept_opened store log number
      (λ o. (subst (λ p. IsPagerOver disk p (block_at seen_there)) pager_is (over o).0, (over o).1)))))))
