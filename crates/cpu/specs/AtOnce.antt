-- Loads and stores of many bytes of a page at once, through a processor's cached entry of the page. Each is equivalent
-- to accesses of up to 8 bytes. None of these would walk the page table or change a cached entry.
use Rattle.std.specs.Prelude.{ℕ, ◌-◌, ◌/◌, ◌%◌, ◌^◌, ◌&&◌, nat_lt, min, Bool, List, []}
use Rattle.std.specs.Prelude.{length, take, drop, Option, Some, None, is_none, if◌then◌else◌}
use Rattle.frames.specs.Frames.{FramesState, frame_at, bytes_of, with_bytes}
use Rattle.pcid_tlb.specs.Tlb.{cached}
use Rattle.shootdown.specs.Shootdown.{ShootdownState, current, tlb_of, not_running}
use Rattle.cpu.specs.Access.{frame_served}

-- The frame that a processor's accesses at an address below 2^47 reach through a cached entry. There is one if the
-- processor is active or interrupted, and has a cached entry that serves the access.
abbrev pub frame_cached : ShootdownState → ℕ → ℕ → Bool → Option ℕ
frame_cached s p va write =
    if is_none (not_running s p) && nat_lt va (2 ^ 47)
    then frame_served write (cached (tlb_of s p) (current s p) (va / 4096))
    else None

-- the number of bytes, of `count` bytes from `va` on, that are in the page of `va`
abbrev pub in_page : ℕ → ℕ → ℕ
in_page va count = min count (4096 - va % 4096)

-- the number of bytes, of `count` bytes, that are loaded or stored at once if this frame is reached
abbrev pub count_at_once : Option ℕ → ℕ → ℕ → ℕ
count_at_once None va count = 0
count_at_once (Some frame) va count = in_page va count

-- the frames after these bytes were stored at once
abbrev pub stored_at_once : Option ℕ → FramesState → ℕ → List ℕ → FramesState
stored_at_once None memory va bytes = memory
stored_at_once (Some frame) memory va bytes =
    with_bytes memory frame (va % 4096) (take (in_page va (length bytes)) bytes)

-- the bytes that a load of `count` bytes loads at once
abbrev pub loaded_at_once : Option ℕ → FramesState → ℕ → ℕ → List ℕ
loaded_at_once None memory va count = []
loaded_at_once (Some frame) memory va count =
    take (in_page va count) (drop (va % 4096) (bytes_of (frame_at memory frame)))
