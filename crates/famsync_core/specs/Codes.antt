-- The codes that the calls return: the numbers of `enum famsync_core_code` in famsync_core.h.
use Rattle.std.specs.Prelude.{ℕ, ℤ, pos, neg_ℤ, Bool, if◌then◌else◌, Result, Ok, Err}
use Rattle.page_entry.specs.declared.refusal.Refusal.{Refusal}
use Rattle.page_entry.specs.declared.refusal.Refusal.TheVariants as refusals
use Rattle.embedded.specs.declared.reading.Unread.{Unread}
use Rattle.embedded.specs.declared.reading.Unread.TheVariants as unreads

abbrev pub minus : ℕ → ℤ
minus n = neg_ℤ (pos n)

-- The call succeeded; a block must be supplied; there is no such call, or nothing is left to do.
abbrev pub ok_code : ℤ
ok_code = pos 0

abbrev pub wanted_code : ℤ
wanted_code = pos 1

abbrev pub none_code : ℤ
none_code = pos 2

-- An argument is invalid; memory was refused; the volume isn't open yet, or is open already.
abbrev pub argument_code : ℤ
argument_code = minus 1

abbrev pub memory_code : ℤ
memory_code = minus 2

abbrev pub order_code : ℤ
order_code = minus 3

-- a refusal that no call of the core gets
abbrev pub other_code : ℤ
other_code = minus 38

-- the code of a refusal
abbrev pub refusal_code : Refusal → ℤ
refusal_code refusals.OutOfMemory = memory_code
refusal_code refusals.NotAVolume = minus 11
refusal_code refusals.Damaged = minus 12
refusal_code refusals.NoFrame = minus 27
refusal_code refusals.Device = minus 28
refusal_code refusals.Broken = minus 29
refusal_code refusals.Einval = minus 30
refusal_code refusals.NoFile = minus 34
refusal_code refusals.Busy = minus 35
refusal_code refusals.Stalled = other_code
refusal_code refusals.Locked = other_code
refusal_code (refusals.NotYet count) = other_code
refusal_code (refusals.Fault code) = other_code
refusal_code refusals.SegvMapErr = other_code
refusal_code refusals.SegvAccErr = other_code
refusal_code refusals.BusAdrErr = other_code
refusal_code refusals.Held = other_code
refusal_code refusals.Enomem = other_code
refusal_code refusals.Eacces = other_code
refusal_code refusals.Overlap = other_code
refusal_code refusals.NotResident = other_code
refusal_code refusals.TraceFull = other_code
refusal_code refusals.BadShape = other_code

-- the code for a request that succeeded or was refused
abbrev pub outcome_code : Result (Unit {0}) Refusal → ℤ
outcome_code (Ok done) = ok_code
outcome_code (Err refusal) = refusal_code refusal

-- the code for a request that didn't succeed: a block is wanted for it, or it was refused
abbrev pub unread_code : Unread → ℤ
unread_code (unreads.Wanted block) = wanted_code
unread_code (unreads.Refused refusal) = refusal_code refusal

-- the block that is wanted, or if there is none, the number that was there before
abbrev pub unread_block : Unread → ℕ → ℕ
unread_block (unreads.Wanted block) before = block
unread_block (unreads.Refused refusal) before = before

-- the code for a request that succeeded or didn't; and the block that is wanted
abbrev pub reading_code : {T : Type 0} → Result T Unread → ℤ
reading_code (Ok value) = ok_code
reading_code (Err why) = unread_code why

abbrev pub wanted_block : {T : Type 0} → Result T Unread → ℕ → ℕ
wanted_block (Ok value) before = before
wanted_block (Err why) before = unread_block why before

-- the code for steps that were made, after which a step is left or none, or that weren't made
abbrev pub steps_code : Result Bool Unread → ℤ
steps_code (Ok left) = if left then ok_code else none_code
steps_code (Err why) = unread_code why
