use Rattle.std.proofs.Common.{◌≡◌, List, refl, subst, ◌∙◌, arith}
use Rattle.std.proofs.lemmas.List.{length-map}
use Rattle.volume_codec.specs.declared.file_spec.FileSpec.{FileSpec}
use Rattle.volume_codec.specs.Files.{AskedFile, asked_by}
use Rattle.volume_codec.specs.Super.{SuperValue, IsAsked, block_count}
use Rattle.log_codec.specs.Log.{LogValue, IsLog}
use Rattle.log_format.proofs.Tables.{log_is, is_asked, few_asked, few_blocks_asked, none_asked, no_log}
use Rattle.log_format.proofs.Tables.{room_of, room_for}
use Rattle.log_format.proofs.asked.asked_log.Goals as goal
use Rattle.log_format.proofs.asked.asked_log.Goals.{then-files-gt-MAX_FILES-via-then-files-gt-MAX_FILES}
use Rattle.log_format.proofs.asked.asked_log.Goals.{then-files-gt-MAX_FILES-via-else-files-gt-MAX_FILES+then-ring-gt-MOST_BLOCKS}
use Rattle.log_format.proofs.asked.asked_log.Goals.{then-files-gt-MAX_FILES-via-else-files-gt-MAX_FILES+else-ring-gt-MOST_BLOCKS+then-not-have_room}

pub returns-then-files-gt-MAX_FILES-clause-err : goal.returns-then-files-gt-MAX_FILES-clause-err
returns-then-files-gt-MAX_FILES-clause-err c = (
  refl,
  λ v asked.
      let files = asked_by c.args.files.now in
      let few = few_asked c.args.sealing files c.args.ring v asked in
      let ring = few_blocks_asked c.args.sealing files c.args.ring v asked in
      let count = length-map c.args.files.now (λ (f : FileSpec).
      let a : AskedFile = record { name = f.name.now; length = f.length; capacity = f.capacity } in a) in
      let room = room_for c.args.files.now asked.lengths in
      elim c.then-files-gt-MAX_FILES.branch [
        | then-files-gt-MAX_FILES-via-then-files-gt-MAX_FILES w ↦ omega (arith, few, count)
        | then-files-gt-MAX_FILES-via-else-files-gt-MAX_FILES+then-ring-gt-MOST_BLOCKS w ↦ omega (arith, ring)
        | then-files-gt-MAX_FILES-via-else-files-gt-MAX_FILES+else-ring-gt-MOST_BLOCKS+then-not-have_room w ↦
            let has = w.have_room.ensures.1 room in cc
      ],
)

pub returns-in-Err-clause-err : goal.returns-in-Err-clause-err
returns-in-Err-clause-err c =
    let P : List AskedFile → Type 0 = λ fs. (v : SuperValue) → IsAsked 1 fs 1 v → ⊥ in (
      c.in-Err.ensures.err.0,
      none_asked c.args.sealing (asked_by c.args.files.now) c.args.ring
          (subst P c.full_specs-full.ensures c.in-Err.ensures.err.1),
    )

pub returns-in-Some-clause-log : goal.returns-in-Some-clause-log
returns-in-Some-clause-log c =
    let P : List AskedFile → Type 0 = λ fs. (v : SuperValue) × IsAsked 1 fs 1 v × (c.in-Ok.blocks ≡ block_count v) in
    c.in-Some.ensures.some.0
    ∙ log_is c.args.sealing (asked_by c.args.files.now) c.args.ring c.in-Ok.blocks
    (subst P c.full_specs-full.ensures c.in-Ok.ensures.ok)

pub returns-in-Some-clause-asked : goal.returns-in-Some-clause-asked
returns-in-Some-clause-asked c =
    let P : List AskedFile → Type 0 = λ fs. (v : SuperValue) × IsAsked 1 fs 1 v × (c.in-Ok.blocks ≡ block_count v) in
    let Q : LogValue → Type 0 = λ g. IsLog g in
    let files = asked_by c.args.files.now in
    let counted = subst P c.full_specs-full.ensures c.in-Ok.ensures.ok in
    is_asked c.args.sealing files c.args.ring counted.0 counted.1
    (room_of c.args.files.now (c.have_room.ensures.0 c.if-not-have_room.false))
    (subst Q (c.in-Some.ensures.some.0 ∙ log_is c.args.sealing files c.args.ring c.in-Ok.blocks counted)
    c.in-Some.ensures.some.1) c.key_in-key.ensures

pub returns-in-None-clause-err : goal.returns-in-None-clause-err
returns-in-None-clause-err c =
    let P : List AskedFile → Type 0 = λ fs. (v : SuperValue) × IsAsked 1 fs 1 v × (c.in-Ok.blocks ≡ block_count v) in (
      refl,
      no_log c.args.sealing (asked_by c.args.files.now) c.args.ring c.in-Ok.blocks
          (subst P c.full_specs-full.ensures c.in-Ok.ensures.ok) c.in-None.ensures.none,
    )
