-- The records of a batch are put, and committed.
use Rattle.std.proofs.Common.{◌≡◌, ◌≢◌, ◌⊎◌, ◌↔◌, ℕ, ◌+◌, ◌<◌, ◌≤◌, Bool, true, List, [], ◌∷◌, length}
use Rattle.std.proofs.Common.{Option, Some, Result, Ok, Err, OnOk, get_or, if◌then◌else◌, refl, sym, ap, subst}
use Rattle.std.proofs.Common.{◌∙◌, arith, inl, inr}
use Rattle.std.specs.Prelude.{⊤, is_ok, unwrap_or}
use Rattle.std.proofs.lemmas.Bool.{cases_eq, eq-eqb, ne_eqb}
use Rattle.device.specs.declared.device.Device.{Ghosts}
use Rattle.device.specs.Device.{LeavesOnly}
use Rattle.device.proofs.Public.{leaves_weaker}
use Rattle.volume_codec.specs.Layout.{GeometryValue, IsHome, block_at, first_home, record_block}
use Rattle.volume_codec.specs.Descriptor.{RiseWithin}
use Rattle.volume_codec.specs.Recovery.{Batch}
use Rattle.volume_codec.proofs.Public.{rising_at, rising_apart}
use Rattle.journal.specs.WriteOut.{IsBatch}
use Rattle.kept_blocks.specs.Blocks.{Blocks, bytes_in, with_home}
use Rattle.kept_blocks.proofs.Public.{bytes_put}
use Rattle.log_codec.specs.declared.sealing.Sealing.TheVariants.{ByByte}
use Rattle.log_codec.specs.Chain.{LogRecovers}
use Rattle.log_commits.specs.Tail.{HoldsUpTo}
use Rattle.log_store.specs.Store.{StoreValue}
use Rattle.log_pager.specs.declared.fault.PagerFault.{PagerFault}
use Rattle.log_pager.specs.Pager.{LogPagerValue, IsPagerOver, contents_put}
use Rattle.log_room.specs.Room.{IsEnded, KeepsFirst, commits_of}
use Rattle.machine_log.specs.Shown.{ShownValue, OpensShown}
use Rattle.machine_log.specs.inside.Committing.{ArePut, HasPut, HasPutUpTo, CommitsBatch, moved_home, with_batch}

-- two home blocks of the disk are moved to two of the volume
moved_apart : (first low a b : ℕ) → low ≤ a → low ≤ b → a ≢ b → moved_home first low a ≢ moved_home first low b
moved_apart first low a b least lower apart same = apart (omega (arith, least, lower, same))

-- the home block of the record at a place, where these are the home blocks of a batch
pub home_at : (g : GeometryValue) (batch : Batch) (items : List ℕ) (n : ℕ) → IsBatch g batch → items ≡ batch.homes
    → n < length items → IsHome g (get_or items n 0)
home_at g batch items n is same within =
    let at = rising_at (first_home g.layout g.slots) g.blocks batch.homes n is.described.homes.rising
    (subst (λ (l : List ℕ). n < length l) same within) in
    subst (λ (l : List ℕ). IsHome g (get_or l n 0)) (sym same) (record { low = at.0; high = at.1 })

-- ---- records that are put

module _ (shown : ShownValue) (batch : Batch) (low first : ℕ) where
  -- the home block of the volume for the record at a place
  abbrev place : ℕ → ℕ
  place i = moved_home first low (get_or batch.homes i 0)

  -- what the disk has as this record
  abbrev recorded : ℕ → Option (List ℕ)
  recorded i = bytes_in shown.blocks (record_block shown.geometry.slots batch.journal i)

  -- one more record is put
  more_put : (high n : ℕ) (put : Blocks) (block : List ℕ) → RiseWithin low high batch.homes → n < length batch.homes
      → recorded n ≡ Some block → ArePut shown batch low first n put
      → ArePut shown batch low first (n + 1) (with_home put (place n) block)
  more_put high n put block rising within kept is =
      let new : Blocks = with_home put (place n) block in
      let there : (q : ℕ) → q ≡ place n → bytes_in new q ≡ Some block =
      λ q same. bytes_put put (place n) block q
      ∙ ap (λ (t : Bool). if t then Some block else bytes_in put q) (eq-eqb q (place n) same) in
      let elsewhere : (q : ℕ) → q ≢ place n → bytes_in new q ≡ bytes_in put q =
      λ q apart. bytes_put put (place n) block q
      ∙ ap (λ (t : Bool). if t then Some block else bytes_in put q) (ne_eqb q (place n) apart) in
      let earlier : (i : ℕ) → i < n → place i ≢ place n =
      λ i lt.
      let a = rising_at low high batch.homes i rising (omega (arith, lt, within)) in
      let b = rising_at low high batch.homes n rising within in
      let less = rising_apart low high batch.homes i n rising lt within in
      moved_apart first low (get_or batch.homes i 0) (get_or batch.homes n 0) a.0 b.0
      (λ same. omega (arith, less, same)) in
      record {
        each = λ i lt. elim (cases_eq i n) [
          | inl here ↦ (block, ap recorded here ∙ kept, there (place i) (ap place here))
          | inr other ↦
              (let before : i < n = omega (arith, lt, other) in
              let was = is.each i before in
              (was.0, was.1, elsewhere (place i) (earlier i before) ∙ was.2))
        ];
        others = λ q apart. elsewhere q (apart n (omega arith)) ∙ is.others q (λ i lt. apart i (omega (arith, lt)));
      }

  -- contents with what is put
  has_put : (put : Blocks) (contents : ℕ → List ℕ) → ArePut shown batch low first (length batch.homes) put
      → HasPut shown batch low first contents (contents_put contents put)
  has_put put contents is = record {
    records = λ i lt.
        let at = is.each i lt in
        at.1 ∙ ap Some (sym (ap (λ o. unwrap_or o (contents (place i))) at.2));
    others = λ q apart. ap (λ o. unwrap_or o (contents q)) (is.others q apart);
  }

  module _ {D : Type 0} (disk : Ghosts D) (old : LogPagerValue D) where
    -- no record is put yet
    pub none_put : old.staged ≡ [] → HasPutUpTo disk shown batch low first 0 old old
    none_put empty = record {
      put = record {
        each = λ i lt. absurd (omega (arith, lt));
        others = λ q apart. ap (λ b. bytes_in b q) empty;
      };
      staged = refl;
      over = λ contents is. is;
    }

    -- no more is put
    pub puts_none : (n : ℕ) (mid new : LogPagerValue D) → new ≡ mid
        → HasPutUpTo disk shown batch low first n old mid → HasPutUpTo disk shown batch low first n old new
    puts_none n mid new same is = subst (HasPutUpTo disk shown batch low first n old) (sym same) is

    -- one more is put
    pub puts_more : (n home : ℕ) (mid new : LogPagerValue D) (block : List ℕ) → IsBatch shown.geometry batch
        → low ≡ first_home shown.geometry.layout shown.geometry.slots → n < length batch.homes
        → recorded n ≡ Some block → home ≡ place n → new ≡ record mid { staged = with_home mid.staged home block }
        → ((contents : ℕ → List ℕ) → IsPagerOver disk mid contents → IsPagerOver disk new contents)
        → HasPutUpTo disk shown batch low first n old mid → HasPutUpTo disk shown batch low first (n + 1) old new
    puts_more n home mid new block is_batch low_is within kept at puts over is =
        let high = shown.geometry.blocks in
        let rising = subst (λ b. RiseWithin b high batch.homes) (sym low_is) is_batch.described.homes.rising in
        let more : Blocks = with_home mid.staged home block in
        let with_more : LogPagerValue D → LogPagerValue D = λ s. record s { staged = more } in
        let with_blocks : Blocks → LogPagerValue D = λ blocks. record old { staged = blocks } in
        let staged : new.staged ≡ more = ap (λ (s : LogPagerValue D). s.staged) puts in
        record {
          put = subst (ArePut shown batch low first (n + 1))
              (ap (λ h. with_home mid.staged h block) (sym at) ∙ sym staged)
              (more_put high n mid.staged block rising within kept is.put);
          staged = puts ∙ ap with_more is.staged ∙ ap with_blocks (sym staged);
          over = λ contents was. over contents (is.over contents was);
        }

-- ---- the commit

when_ok : {X E P : Type 0} (result : Result X E) → OnOk result P → is_ok result ≡ true → P
when_ok (Ok x) p done = p
when_ok (Err e) p done = cc

module _ {D : Type 0} (disk : Ghosts D) (old : LogPagerValue D) (shown : ShownValue) (batch : Batch)
    (low first : ℕ) where
  -- some record is put
  one_put : (put : Blocks) → 0 < length batch.homes → ArePut shown batch low first (length batch.homes) put
      → commits_of put ≡ 1
  one_put [] some is =
      absurd (let at = (is.each 0 some).2 in cc)
  one_put (block ∷ blocks) some is = refl

  -- the commit of what was put
  pub committed : (mid new : LogPagerValue D) (opened : ShownValue) (result : Result ⊤ PagerFault)
      (done : Bool) → is_ok result ≡ done → mid ≡ record old { staged = mid.staged }
      → 0 < length batch.homes → ArePut shown batch low first (length batch.homes) mid.staged
      → ((contents : ℕ → List ℕ) → IsPagerOver disk old contents → IsPagerOver disk mid contents)
      → opened ≡ with_batch shown batch
      → OpensShown shown batch opened
      → new.store.tail.log ≡ mid.store.tail.log
      → OnOk result (new.staged ≡ [])
      → (disk.is_honest new.device ↔ disk.is_honest mid.device)
      → disk.moment mid.device ≤ disk.moment new.device
      → OnOk result (new.store.tail.number ≡ mid.store.tail.number + commits_of mid.staged)
      → ((contents : ℕ → List ℕ) → disk.is_honest mid.device
      → IsPagerOver disk mid contents → OnOk result (IsPagerOver disk new (contents_put contents mid.staged)))
      → ((contents : ℕ → List ℕ) → disk.is_honest mid.device → IsPagerOver disk mid contents → IsEnded disk mid
      → OnOk result (IsEnded disk new))
      → ((contents : ℕ → List ℕ) → disk.is_honest mid.device → IsPagerOver disk mid contents
      → LeavesOnly disk.moment disk.left_since mid.device new.device
      (HoldsUpTo mid.store.tail.log mid.store.tail.number contents))
      → ((contents : ℕ → List ℕ) → disk.is_honest mid.device → mid.store.tail.log.sealing ≡ ByByte
      → IsPagerOver disk mid contents → LeavesOnly disk.moment disk.left_since mid.device new.device
      (λ c. LogRecovers mid.store.tail.log contents c
      ⊎ LogRecovers mid.store.tail.log (contents_put contents mid.staged) c))
      → ((text : List ℕ) → ((c : List ℕ) → disk.may_leave mid.device c → block_at c 0 ≡ text)
      → KeepsFirst disk text mid.device new.device)
      → CommitsBatch disk old shown batch low first done new opened
  committed mid new opened result done told is some put over opened_is opens log value honest later counted after ends
      held leaves stays =
      let device : mid.device ≡ old.device = ap (λ (s : LogPagerValue D). s.device) is in
      let store : mid.store ≡ old.store = ap (λ (s : LogPagerValue D). s.store) is in
      let trusted : disk.is_honest old.device → disk.is_honest mid.device =
      λ h. subst disk.is_honest (sym device) h in
      let sealed : old.store.tail.log.sealing ≡ ByByte → mid.store.tail.log.sealing ≡ ByByte =
      λ byte. ap (λ (s : StoreValue). s.tail.log.sealing) store ∙ byte in
      record {
        log = log ∙ ap (λ (s : StoreValue). s.tail.log) store;
        honest = subst (λ d. disk.is_honest new.device ↔ disk.is_honest d) device honest;
        later = subst (λ d. disk.moment d ≤ disk.moment new.device) device later;
        none_put = λ is_done. when_ok result value (told ∙ is_done);
        number = λ is_done. when_ok result counted (told ∙ is_done)
            ∙ ap (λ (s : StoreValue). s.tail.number + commits_of mid.staged) store
            ∙ ap (λ (n : ℕ). old.store.tail.number + n) (one_put mid.staged some put);
        opens = opens;
        opened_is = opened_is;
        after = λ contents. contents_put contents mid.staged;
        put = λ contents. has_put shown batch low first mid.staged contents put;
        over = λ is_done contents fair was.
            when_ok result (after contents (trusted fair) (over contents was)) (told ∙ is_done);
        ended = λ is_done contents fair was ended. when_ok result (ends contents (trusted fair) (over contents was)
            (subst (λ (s : LogPagerValue D). IsEnded disk s) (sym is) ended)) (told ∙ is_done);
        held = λ contents fair was.
            let Held : LogPagerValue D → Type 0 = λ s. LeavesOnly disk.moment disk.left_since s.device new.device
            (HoldsUpTo s.store.tail.log s.store.tail.number contents) in
            subst Held is (held contents (trusted fair) (over contents was));
        leaves = λ contents fair byte was. subst
            (λ d. LeavesOnly disk.moment disk.left_since d new.device
            (λ c. LogRecovers old.store.tail.log contents c
            ⊎ LogRecovers old.store.tail.log (contents_put contents mid.staged) c)) device
            (leaves_weaker (leaves contents (trusted fair) (sealed byte) (over contents was)) (λ c left. elim left [
              | inl before ↦ inl (subst (λ (s : StoreValue). LogRecovers s.tail.log contents c) store before)
              | inr with_them ↦
                  inr (subst (λ (s : StoreValue). LogRecovers s.tail.log (contents_put contents mid.staged) c) store
                  with_them)
            ]));
        stays = λ text has. subst (λ d. KeepsFirst disk text d new.device) device
            (stays text (λ c left. has c (subst (λ d. disk.may_leave d c) device left)));
      }
