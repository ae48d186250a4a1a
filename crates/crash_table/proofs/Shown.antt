-- The volume in layout 4 that shows a volume with a log.
use Rattle.std.proofs.Common.{◌≡◌, ℕ, suc, zero, ◌*◌, ◌-◌, ◌≤◌, List, [], ◌∷◌, ◌++◌, length, take, drop, replicate}
use Rattle.std.proofs.Common.{refl, sym, ap, subst, ◌∙◌, arith}
use Rattle.std.proofs.lemmas.List.{take_all, length-take}
use Rattle.device.specs.Memory.{Recorded, seen_of}
use Rattle.volume_codec.specs.Files.{File}
use Rattle.volume_codec.specs.Recovery.{RecoversTo}
use Rattle.volume_codec.specs.Layout.{first_home}
use Rattle.volume_codec.specs.Super.{SuperValue, block_count, super_text}
use Rattle.volume_codec.specs.Text.{zeros, padded}
use Rattle.log_codec.specs.Log.{first_log_home}
use Rattle.log_volume.specs.Files.{RecoversToLog}
use Rattle.log_volume.specs.Super.{LogSuperValue}
use Rattle.machine_log.specs.Disk.{LogDiskValue}
use Rattle.machine_log.specs.Opening.{fitted, shown_bytes}
use Rattle.crash_table.specs.inside.Shown.{IsShownBy}

-- the bytes that were made from the parts of the disk have its files
pub shown_recovers : (image : List ℕ) (disk : LogDiskValue Recorded) → IsShownBy image disk → (found : List File)
    → RecoversToLog image found → (volume : LogSuperValue) (table : SuperValue) (bytes shown : List ℕ)
    → volume ≡ disk.volume → table ≡ disk.table → bytes ≡ seen_of disk.device
    → shown ≡ shown_bytes volume table bytes → RecoversTo shown found
shown_recovers image disk is found recovered volume table bytes shown volume_is table_is bytes_are made =
    let all : shown ≡ seen_of disk.memory =
    made
    ∙ ap (λ (v : LogSuperValue). shown_bytes v table bytes) volume_is
    ∙ ap (λ (t : SuperValue). shown_bytes disk.volume t bytes) table_is
    ∙ ap (λ (b : List ℕ). shown_bytes disk.volume disk.table b) bytes_are
    ∙ sym (ap (λ (m : Recorded). seen_of m) is.fresh) in
    subst (λ (b : List ℕ). RecoversTo b found) (sym all) (is.files found recovered)

-- bytes that are no more than these are all taken
pub fitted_whole : (n : ℕ) (bytes : List ℕ) → length bytes ≤ n → fitted n bytes ≡ padded n bytes
fitted_whole n bytes few = ap (padded n) (take_all n bytes few)

-- what a vector is that was cut or filled up with zeros
pub resized_is : (n : ℕ) (bytes new : List ℕ) → new ≡ take n bytes ++ replicate (n - length bytes) 0
    → new ≡ fitted n bytes
unfolding zeros
resized_is n bytes new is =
    let rest : n - length bytes ≡ n - length (take n bytes) = omega (arith, length-take n bytes) in
    is ∙ ap (λ (k : ℕ). take n bytes ++ replicate k 0) rest

-- nothing is behind the end
pub nothing_behind : (n : ℕ) (bytes : List ℕ) → length bytes ≤ n → drop n bytes ≡ []
nothing_behind zero [] past = refl
nothing_behind zero (b ∷ bytes) past = absurd (omega (arith, past))
nothing_behind (suc n) [] past = refl
nothing_behind (suc n) (b ∷ bytes) past = nothing_behind n bytes (omega (arith, past))

-- both parts make the volume
pub shown_is : (v : LogSuperValue) (t : SuperValue) (bytes block front homes all : List ℕ) (first blocks log : ℕ)
    → first ≡ first_home t.layout t.slots → blocks ≡ block_count t → log ≡ first_log_home v.ring
    → block ≡ super_text t → length block ≡ 4096 → front ≡ fitted (4096 * first) block
    → homes ≡ fitted (4096 * (blocks - first)) (drop (4096 * log) bytes) → all ≡ front ++ homes
    → all ≡ shown_bytes v t bytes
shown_is v t bytes block front homes all first blocks log first_is blocks_are log_is says whole front_is homes_are
    made =
    let home = first_home t.layout t.slots in
    let some : 1 ≤ first = subst (λ (k : ℕ). 1 ≤ k) (sym first_is) (omega arith) in
    let behind : ℕ → List ℕ = λ k. drop (4096 * k) bytes in
    made
    ∙ ap (λ (l : List ℕ). l ++ homes)
    (front_is ∙ fitted_whole (4096 * first) block (omega (arith, whole, some))
    ∙ ap (λ (k : ℕ). padded (4096 * k) block) first_is ∙ ap (padded (4096 * home)) says)
    ∙ ap (λ (l : List ℕ). padded (4096 * home) (super_text t) ++ l)
    (homes_are ∙ ap (λ (k : ℕ). fitted (4096 * (blocks - k)) (behind log)) first_is
    ∙ ap (λ (k : ℕ). fitted (4096 * (k - home)) (behind log)) blocks_are
    ∙ ap (λ (k : ℕ). fitted (4096 * (block_count t - home)) (behind k)) log_is)
