-- The printed words of each refusal.
use Rattle.std.specs.Prelude.{ℕ, List, ◌++◌, codes}
use Rattle.std.specs.Fmt.{decimal}
use Rattle.page_entry.specs.declared.refusal.Refusal.{Refusal}
use Rattle.page_entry.specs.declared.refusal.Refusal.TheVariants.{Stalled, Locked, NotYet, Fault, SegvMapErr}
use Rattle.page_entry.specs.declared.refusal.Refusal.TheVariants.{SegvAccErr, BusAdrErr, Held, NoFrame, Device}
use Rattle.page_entry.specs.declared.refusal.Refusal.TheVariants.{Broken, Einval, Enomem, Eacces, Overlap}
use Rattle.page_entry.specs.declared.refusal.Refusal.TheVariants.{NoFile, Busy, NotResident, TraceFull}
use Rattle.page_entry.specs.declared.refusal.Refusal.TheVariants.{OutOfMemory, NotAVolume, Damaged, BadShape}

-- The name in lower case without spaces. After `notyet` and `fault`, one space and the number in decimal digits.
abbrev pub words_of : Refusal → List ℕ
words_of Stalled = codes "stalled"
words_of Locked = codes "locked"
words_of (NotYet count) = codes "notyet " ++ decimal count
words_of (Fault code) = codes "fault " ++ decimal code
words_of SegvMapErr = codes "segvmaperr"
words_of SegvAccErr = codes "segvaccerr"
words_of BusAdrErr = codes "busadrerr"
words_of Held = codes "held"
words_of NoFrame = codes "noframe"
words_of Device = codes "device"
words_of Broken = codes "broken"
words_of Einval = codes "einval"
words_of Enomem = codes "enomem"
words_of Eacces = codes "eacces"
words_of Overlap = codes "overlap"
words_of NoFile = codes "nofile"
words_of Busy = codes "busy"
words_of NotResident = codes "notresident"
words_of TraceFull = codes "tracefull"
words_of OutOfMemory = codes "outofmemory"
words_of NotAVolume = codes "notavolume"
words_of Damaged = codes "damaged"
words_of BadShape = codes "badshape"
