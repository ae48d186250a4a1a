-- What a table's entry is, page by page, after each change of the map.
use Rattle.std.proofs.Common.{◌≡◌, ℕ, Bool, true, false, cond, not, eqb, if◌then◌else◌, List}
use Rattle.std.proofs.Common.{[], ◌∷◌, map, Option, Some, None, refl, sym, ap, ◌∙◌, arith}
use Rattle.std.specs.Ordering.{nat_cmp}
use Rattle.std.specs.Cmp.{nat_cmp_total, unsigned_tied}
use Rattle.std.specs.FinMap as maps
use Rattle.std.specs.FinSet as sets
use Rattle.std.specs.Option.{option_map}
use Rattle.std.proofs.lemmas.Bool.Decides.{nat_tests}
use Rattle.std.proofs.lemmas.Grind.{common_steps}
use Rattle.page_entry.specs.Entry.{Mapped, protected_of, with_writable_of}
use Rattle.page_table.specs.Table.{TableState, put_entry, in_range, outside_range, changed_by, is_marked}
use Rattle.page_table.specs.Table.{protected_if, frames_protected, range_read_only, empty_table, is_grown}

-- an empty table has no entry
pub get-empty_table : (page : ℕ) → maps.get empty_table.entries page ≡ None
get-empty_table page = maps.get-empty nat_cmp page

-- and has grown nowhere
pub is_grown-empty_table : (page : ℕ) → is_grown empty_table page ≡ false
is_grown-empty_table page = sets.contains-empty nat_cmp page

-- the entry that was put at its page, and at every other page what was there
pub get-put_entry : (entries : maps.FinMap nat_cmp Mapped) (page : ℕ) (entry : Option Mapped) (q : ℕ)
    → maps.get (put_entry entries page entry) q ≡ cond (eqb q page) entry (maps.get entries q)
get-put_entry entries page None q =
    maps.get-remove nat_cmp_total entries page q ∙ ap (λ b. cond b None (maps.get entries q)) (unsigned_tied q page)
get-put_entry entries page (Some entry) q =
    maps.get-insert nat_cmp_total entries page entry q
    ∙ ap (λ b. cond b (Some entry) (maps.get entries q)) (unsigned_tied q page)

turned : (b : Bool) (x y : Option Mapped) → cond (not b) x y ≡ cond b y x
turned true x y = refl
turned false x y = refl

-- nothing in a range that was cleared, and outside it what was there
pub get-outside_range : (entries : maps.FinMap nat_cmp Mapped) (first end q : ℕ)
    → maps.get (outside_range entries first end) q ≡ cond (in_range first end q) None (maps.get entries q)
get-outside_range entries first end q =
    maps.get-retain_keys entries (λ page. not (in_range first end page)) q
    (λ page tied. ap (λ p. not (in_range first end p)) (sym (maps.nat_cmp-IsAntisymmetric q page tied)))
    ∙ turned (in_range first end q) (maps.get entries q) None

-- two maps with the same entry at each page are the same map
pub same_entries : (m n : maps.FinMap nat_cmp Mapped) → ((q : ℕ) → maps.get m q ≡ maps.get n q) → m ≡ n
same_entries m n each = maps.same_map nat_cmp_total maps.nat_cmp-IsAntisymmetric m n each

module _ (f : ℕ → Mapped → Mapped) where
  find-changed : (q : ℕ) (es : List (ℕ × Mapped))
      → maps.find nat_cmp q (map (λ e. (e.0, f e.0 e.1)) es) ≡ option_map (f q) (maps.find nat_cmp q es)
  find-changed q [] = refl
  find-changed q (e ∷ es) = rw (unsigned_tied q e.0, find-changed q es) (grind (arith, nat_tests, common_steps))

  -- each entry changed by its page
  pub get-changed_by : (entries : maps.FinMap nat_cmp Mapped) (q : ℕ)
      → maps.get (changed_by f entries) q ≡ option_map (f q) (maps.get entries q)
  get-changed_by entries q =
      maps.get-from_entries nat_cmp_total _ q
      ∙ find-changed q (maps.entries entries)
      ∙ ap (option_map (f q)) (sym (maps.get-entries entries q))

-- whether an entry maps a marked frame; an absent one maps none
abbrev pub maps_marked : List Bool → Option Mapped → Bool
maps_marked marked None = false
maps_marked marked (Some entry) = is_marked marked entry.frame

-- an entry that maps a marked frame lost the right to write and the dirty bit, every other one is what it was
pub get-frames_protected : (entries : maps.FinMap nat_cmp Mapped) (marked : List Bool) (q : ℕ)
    → maps.get (frames_protected entries marked) q
    ≡ (if maps_marked marked (maps.get entries q) then protected_of (maps.get entries q) else maps.get entries q)
unfolding frames_protected
get-frames_protected entries marked q =
    get-changed_by (λ _ entry. protected_if marked entry) entries q
    ∙ by_entry (maps.get entries q)
  where
    chosen : (b : Bool) (x y : Mapped) → Some (cond b x y) ≡ cond b (Some x) (Some y)
    chosen true x y = refl
    chosen false x y = refl

    by_entry : (e : Option Mapped)
        → option_map (protected_if marked) e ≡ (if maps_marked marked e then protected_of e else e)
    by_entry None = refl
    by_entry (Some entry) = chosen (is_marked marked entry.frame) _ _

-- an entry of the range lost the right to write, every other one is what it was
pub get-range_read_only : (entries : maps.FinMap nat_cmp Mapped) (first end q : ℕ)
    → maps.get (range_read_only entries first end) q
    ≡ (if in_range first end q then with_writable_of (maps.get entries q) false else maps.get entries q)
unfolding range_read_only
get-range_read_only entries first end q =
    get-changed_by (λ page entry. if in_range first end page then record entry { writable = false } else entry)
    entries q
    ∙ by_entry (in_range first end q) (maps.get entries q)
  where
    by_entry : (b : Bool) (e : Option Mapped)
        → option_map (λ entry. cond b (record entry { writable = false }) entry) e ≡ cond b (with_writable_of e false) e
    by_entry true None = refl
    by_entry true (Some entry) = refl
    by_entry false None = refl
    by_entry false (Some entry) = refl

-- two tables with the same entry at each page, grown at the same pages, with as many nodes are the same table
pub same_table : (s t : TableState) → ((q : ℕ) → maps.get s.entries q ≡ maps.get t.entries q)
    → ((q : ℕ) → is_grown s q ≡ is_grown t q) → s.nodes ≡ t.nodes
    → s ≡ t
same_table s t entries grown nodes =
    let es = same_entries s.entries t.entries entries in
    let gs = sets.same_set nat_cmp_total maps.nat_cmp-IsAntisymmetric s.grown t.grown grown in
    λ i. record { entries = es i; grown = gs i; nodes = nodes i }
