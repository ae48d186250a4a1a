-- What a home block has, of which no open journal has a record.
use Rattle.std.proofs.Common.{◌≡◌, ◌≢◌, ℕ, List, [], ◌∷◌, inl, inr, refl, sym, ap, subst, ◌∙◌, arith}
use Rattle.std.specs.Prelude.{Result, Ok, Err, OnOk}
use Rattle.std.specs.List.{AllByRecursion}
use Rattle.device.specs.declared.device.Device.{Ghosts}
use Rattle.volume_codec.specs.Layout.{IsHome, block_at, lengths_blocks}
use Rattle.volume_codec.specs.Recovery.{Batch, recovered_block}
use Rattle.volume_codec.specs.Super.{SuperValue, geometry_of, total_pages}
use Rattle.machine_log.specs.Shown.{ShownValue, HasHomeBlock}
use Rattle.machine_log.proofs.Gates.{all_other}
use Rattle.log_codec.specs.Chain.{IsLogHome}
use Rattle.log_volume.specs.Super.{LogSuperValue, log_of}
use Rattle.kept_blocks.specs.Blocks.{Blocks}
use Rattle.log_pager.specs.Pager.{LogPagerValue, contents_put}
use Rattle.machine_log.specs.Serving.{IsShownTable, volume_home}
use Rattle.machine_log.specs.inside.Keeping.{IsOverLog}

module _ (none : (slots b : ℕ) (batch : Batch) (older : List Batch)
    → AllByRecursion (λ home. home ≢ b) batch.homes
    → recovered_block slots (batch ∷ older) b ≡ recovered_block slots older b) where
  unrecorded : (slots b : ℕ) (opened : List Batch) → (HasHomeBlock opened b → ⊥) → recovered_block slots opened b ≡ b
  unrecorded slots b [] not = refl
  unrecorded slots b (batch ∷ older) not =
      none slots b batch older (all_other batch.homes b (λ has. not (inl has)))
      ∙ unrecorded slots b older (λ has. not (inr has))

  pub home_bytes : {D : Type 0} (disk : Ghosts D) (v : LogSuperValue) (t : SuperValue) (pager : LogPagerValue D)
      (shown : ShownValue) (seen : List ℕ) (over : IsOverLog disk v t pager shown seen) (b : ℕ)
      → IsHome (geometry_of t) b → (HasHomeBlock shown.opened b → ⊥)
      → over.contents (volume_home v t b) ≡ block_at seen b
  home_bytes disk v t pager shown seen over b home not =
      over.recovers.contents_are b home ∙ ap (block_at seen) (unrecorded t.slots b shown.opened not)

pub home_within : (v : LogSuperValue) (t : SuperValue) (b : ℕ) → IsShownTable v t → IsHome (geometry_of t) b
    → IsLogHome (log_of v) (volume_home v t b)
home_within v t b table home =
    let pages : total_pages t.files ≡ total_pages v.files = ap total_pages table.files in
    let lengths : lengths_blocks t.layout ≡ 1 = ap lengths_blocks table.layout in
    record {
      low = omega (arith, home.low);
      high = omega (arith, home.low, home.high, pages, lengths);
    }

-- nothing is put
pub none_put_bytes : (contents : ℕ → List ℕ) (put : Blocks) (b : ℕ) → put ≡ []
    → contents_put contents put b ≡ contents b
none_put_bytes contents put b none = ap (λ (l : Blocks). contents_put contents l b) none

-- a result that is passed on
pub by_ok : {T E U F : Type 0} (P : Type 0) (read : Result T E) (result : Result U F) (x : T) (y : U) → read ≡ Ok x
    → result ≡ Ok y → OnOk read P → OnOk result P
by_ok {T} {E} {U} {F} P read result x y e f has =
    subst (λ (r : Result U F). OnOk r P) (sym f) (subst (λ (r : Result T E). OnOk r P) e has)

pub by_err : {U F : Type 0} (P : Type 0) (result : Result U F) (fault : F) → result ≡ Err fault → OnOk result P
by_err {U} {F} P result fault f = subst (λ (r : Result U F). OnOk r P) (sym f) tt
