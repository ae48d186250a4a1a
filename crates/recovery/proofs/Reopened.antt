-- What a crash within an opening leaves recovers to the same, and so to any depth.
use Rattle.std.proofs.Common.{◌≡◌, ◌<◌, ◌≤◌, ◌⊎◌, inl, inr, Bool, true, ℕ, zero, suc, List, Result}
use Rattle.std.proofs.Common.{Ok, Err, MatchResult, IfOk, refl, sym, ◌∙◌, ap, subst, arith}
use Rattle.device.specs.declared.device.Device.{Ghosts}
use Rattle.page_entry.specs.declared.refusal.Refusal.{Refusal}
use Rattle.page_entry.specs.declared.refusal.Refusal.TheVariants.{Device, OutOfMemory, NotAVolume, Damaged}
use Rattle.volume_codec.specs.Files.{File}
use Rattle.volume_codec.specs.Layout.{IsHome, block_at}
use Rattle.volume_codec.specs.Super.{SuperValue, block_count, geometry_of}
use Rattle.volume_codec.specs.Lengths.{HasLengths}
use Rattle.volume_codec.specs.Recovery.{Batch, contents_in, IsVolume, Recovers, RecoversTo, IsNotAVolume, IsDamaged}
use Rattle.volume_codec.proofs.Batches.{one_contents, one_recovery}
use Rattle.volume_codec.proofs.Lengths.{has_lengths-same, same_lengths_block}
use Rattle.journal.specs.Finished.{RecoversSame}
use Rattle.recovery.specs.Volume.{files_of}
use Rattle.recovery.specs.Opening.{HasOpened, HasRefused, RefusesOpening, LeftByOpening, Opens}
use Rattle.recovery.specs.Openings.{IsRestarted, FollowsOpening, IsLater, RecoversAs, AllRecover, FindsAmong}
use Rattle.recovery.proofs.Judged.{magic_at}

-- the contents that its batches give
pub own_contents : (table : SuperValue) (batches : List Batch) (old : List ℕ) → IsVolume table batches old
    → Recovers table (contents_in table.slots batches old) old
own_contents table batches old volume = record { batches = batches; volume = volume; contents_are = λ b home. refl }

-- what a crash leaves while they are carried out recovers to whatever was recovered to
pub being_recovers : (table w : SuperValue) (batches : List Batch) (contents : ℕ → List ℕ) (old c : List ℕ)
    → IsVolume table batches old → RecoversSame table (contents_in table.slots batches old) old c
    → Recovers w contents old → Recovers w contents c
being_recovers table w batches contents old c volume being r =
    let one = one_contents table w (contents_in table.slots batches old) contents old
    (own_contents table batches old volume) r in
    let c_recovers = being.recovers in
    let P : SuperValue → Type 0 = λ v. Recovers v (contents_in table.slots batches old) c in
    let same = subst P one.0 c_recovers in
    record {
      batches = same.batches;
      volume = same.volume;
      contents_are = λ b home. sym (one.1 b (subst (λ (v : SuperValue). IsHome (geometry_of v) b) (sym one.0) home))
          ∙ same.contents_are b home;
    }

pub opened_contents : {D : Type 0} (disk : Ghosts D) (before after : D) (table : SuperValue)
    → HasOpened disk before table after → Recovers table (block_at (disk.seen after)) (disk.seen before)
opened_contents disk before after table has =
    record { batches = has.batches; volume = has.held; contents_are = λ b home. has.opened.homes b home }

-- with the lengths that it had
pub opened_lengths : {D : Type 0} (disk : Ghosts D) (before after : D) (table : SuperValue)
    → HasOpened disk before table after → HasLengths table (block_at (disk.seen after))
opened_lengths disk before after table has =
    let was = contents_in table.slots has.batches (disk.seen before) in
    has_lengths-same table was (block_at (disk.seen after)) (same_lengths_block table was (block_at (disk.seen after))
    (λ b home. sym (has.opened.homes b home))) has.lengths

pub opened_files : {D : Type 0} (disk : Ghosts D) (before after : D) (table : SuperValue)
    → HasOpened disk before table after → RecoversTo (disk.seen before) (files_of table (disk.seen after))
opened_files disk before after table has = record {
  table = table;
  contents = block_at (disk.seen after);
  recovers = opened_contents disk before after table has;
  lengths = opened_lengths disk before after table has;
  files_are = refl;
}

-- bytes that recover to files are refused for no reason of theirs
not_a_volume : (bytes : List ℕ) (table : SuperValue) (contents : ℕ → List ℕ) → Recovers table contents bytes
    → IsNotAVolume bytes → ⊥
not_a_volume bytes table contents r (inl short) = let positive : 0 < block_count table = omega arith in
    omega (arith, r.volume.long, short, positive)
not_a_volume bytes table contents r (inr none) = none table.layout (magic_at table bytes r.volume.super_block)

pub no_kind : (bytes : List ℕ) (files : List File) → RecoversTo bytes files → IsNotAVolume bytes ⊎ IsDamaged bytes → ⊥
no_kind bytes files r (inl not_one) = not_a_volume bytes r.table r.contents r.recovers not_one
no_kind bytes files r (inr damaged) = damaged.lost files r

pub one_kind : (bytes : List ℕ) → IsNotAVolume bytes → IsDamaged bytes → ⊥
one_kind bytes (inl short) damaged = omega (arith, short, damaged.long)
one_kind bytes (inr none) damaged = none damaged.layout damaged.magic

pub refused_for : (bytes : List ℕ) (files : List File) (refusal : Refusal) → RecoversTo bytes files
    → RefusesOpening bytes refusal → (refusal ≡ Device) ⊎ (refusal ≡ OutOfMemory)
refused_for bytes files NotAVolume r reason = absurd (no_kind bytes files r (inl reason))
refused_for bytes files Damaged r reason = absurd (no_kind bytes files r (inr reason))
refused_for bytes files Device r reason = inl refl
refused_for bytes files OutOfMemory r reason = inr refl
refused_for bytes files _ r reason = absurd reason

-- what recovers to files does so still where it recovers to all that it did
abbrev recovers_too : (d c : List ℕ) (files : List File)
    → ((table : SuperValue) (contents : ℕ → List ℕ) → Recovers table contents d → Recovers table contents c)
    → RecoversTo d files → RecoversTo c files
recovers_too d c files alike r = record {
  table = r.table;
  contents = r.contents;
  recovers = alike r.table r.contents r.recovers;
  lengths = r.lengths;
  files_are = r.files_are;
}

-- each list of these recovers as one of those, and those pass a test
pub tested_as : (test : List File → Bool) (first later : List ℕ → Type 0)
    → ((c : List ℕ) → later c → RecoversAs first c) → AllRecover test first → AllRecover test later
tested_as test first later alike all c left =
    let d = alike c left in
    let r = all d.0 d.1 in (r.0, recovers_too d.0 c r.0 d.2 r.1, r.2)

module _ {D : Type 0} (disk : Ghosts D)
    (seen_is_left : (device : D) → disk.is_honest device → disk.may_leave device (disk.seen device))
    (now_is_since : (device : D) (t : ℕ) (c : List ℕ) → t ≤ disk.moment device → disk.may_leave device c
    → disk.left_since device t c) where
  -- a crash since an opening began
  pub left_as : (before after : D) (result : Result SuperValue Refusal) (c : List ℕ) → disk.is_honest before
      → Opens disk before result after → disk.left_since after (disk.moment before) c
      → RecoversAs (disk.may_leave before) c
  left_as before after result c honest opens left = by ((opens.within honest).each c left)
    where
      by : LeftByOpening disk before c → RecoversAs (disk.may_leave before) c
      by (inl may) = (c, may, λ table contents r. r)
      by (inr (table, batches, volume, being)) = (
        disk.seen before,
        seen_is_left before honest,
        λ w contents r. being_recovers table w batches contents (disk.seen before) c volume being r,
      )

  -- what holds of a device after any number of openings
  pub record IsAs (first later : D) : Type 0 where
    pub honest : disk.is_honest later
    pub left : (c : List ℕ) → disk.may_leave later c → RecoversAs (disk.may_leave first) c

  restarted : (lists : List ℕ → Type 0) (first later : D) → IsRestarted disk lists later
      → ((c : List ℕ) → lists c → RecoversAs (disk.may_leave first) c) → IsAs first later
  restarted lists first later is alike = record {
    honest = is.honest;
    left = λ c may. let P : List ℕ → Type 0 = λ bytes. RecoversAs (disk.may_leave first) bytes in
        subst P (sym (is.only c may)) (alike (disk.seen later) is.left);
  }

  follows_as : (first before later : D) → IsAs first before → FollowsOpening disk before later → IsAs first later
  follows_as first before later alike follows = by follows.then
    where
      since : (c : List ℕ) → disk.left_since follows.after (disk.moment before) c → RecoversAs (disk.may_leave first) c
      since c left =
          let d = left_as before follows.after follows.result c alike.honest follows.opens left in
          let e = alike.left d.0 d.1 in
          (e.0, e.1, λ table contents r. d.2 table contents (e.2 table contents r))

      by : (later ≡ follows.after) ⊎ IsRestarted disk (disk.left_since follows.after (disk.moment before)) later
          → IsAs first later
      by (inl same) =
          let P : D → Type 0 = λ device. IsAs first device in
          subst P (sym same) (record {
            honest = follows.opens.kept.honest.1 alike.honest;
            left = λ c may. since c
                (now_is_since follows.after (disk.moment before) c (follows.opens.within alike.honest).later may);
          })
      by (inr is) = restarted (disk.left_since follows.after (disk.moment before)) first later is since

  pub later_as : (n : ℕ) (first later : D) → disk.is_honest first → IsLater disk n first later → IsAs first later
  later_as zero first later honest (inl same) =
      let P : D → Type 0 = λ device. IsAs first device in
      subst P (sym same) (record { honest = honest; left = λ c may. (c, may, λ table contents r. r) })
  later_as zero first later honest (inr is) =
      restarted (disk.may_leave first) first later is (λ c may. (c, may, λ table contents r. r))
  later_as (suc n) first later honest (before, earlier, follows) =
      follows_as first before later (later_as n first before honest earlier) follows

  -- what a later opening finds
  pub finds : (first later after : D) (result : Result SuperValue Refusal) (test : List File → Bool) → IsAs first later
      → AllRecover test (disk.may_leave first) → Opens disk later result after
      → FindsAmong (disk.may_leave first) result (disk.seen after)
      × IfOk result (λ table. test (files_of table (disk.seen after)) ≡ true)
  finds first later after result test alike all opens = by result (opens.ended alike.honest)
    where
      d : RecoversAs (disk.may_leave first) (disk.seen later)
      d = alike.left (disk.seen later) (seen_is_left later alike.honest)

      recovering : (files : List File) × RecoversTo d.0 files × (test files ≡ true)
      recovering = all d.0 d.1

      later_recovers : RecoversTo (disk.seen later) recovering.0
      later_recovers = recovers_too d.0 (disk.seen later) recovering.0 d.2 recovering.1

      by : (r : Result SuperValue Refusal)
          → MatchResult r (λ table. HasOpened disk later table after) (λ refusal. HasRefused disk later refusal after)
          → FindsAmong (disk.may_leave first) r (disk.seen after)
          × IfOk r (λ table. test (files_of table (disk.seen after)) ≡ true)
      by (Ok table) has =
          let mine = opened_contents disk later after table has in
          let one = one_contents later_recovers.table table later_recovers.contents (block_at (disk.seen after))
          (disk.seen later) later_recovers.recovers mine in
          let P : SuperValue → Type 0 = λ v. Recovers v (block_at (disk.seen after)) d.0 in
          let r = recovering.1.recovers in
          let files = one_recovery (disk.seen later) recovering.0 (files_of table (disk.seen after)) later_recovers
          (record {
            table = table;
            contents = block_at (disk.seen after);
            recovers = mine;
            lengths = opened_lengths disk later after table has;
            files_are = refl;
          }) in (
            (
              d.0,
              d.1,
              subst P one.0 (record {
                batches = r.batches;
                volume = r.volume;
                contents_are = λ b home. sym (one.1 b home) ∙ r.contents_are b home;
              }),
            ),
            ap test (sym files) ∙ recovering.2,
          )
      by (Err refusal) has = (refused_for (disk.seen later) recovering.0 refusal later_recovers has.reason, tt)
