-- What one holder of a horizon has seen of it.
use Rattle.std.specs.Prelude.{◌≡◌, ℕ, ◌+◌, ◌-◌, ◌≤◌, max, refl}
use Rattle.std.specs.Coded.{Coded, code_by, coded×, coded_ℕ}
use Rattle.atomic_table.specs.Seated.{TableId, table_id_coded}

-- The cell whose words were seen, the greatest number seen in each word, and the total by which the holder's own calls
-- raised each word.
pub record SeenState : Type 0 where
  pub cell : TableId
  pub stalled : ℕ
  pub committed : ℕ
  pub stalled_raised : ℕ
  pub committed_raised : ℕ

abbrev pub seen_code : Coded SeenState
seen_code =
    code_by ((TableId × (ℕ × ℕ)) × (ℕ × ℕ))
    (coded× (coded× table_id_coded (coded× coded_ℕ coded_ℕ)) (coded× coded_ℕ coded_ℕ))
    (λ s. ((s.cell, (s.stalled, s.committed)), (s.stalled_raised, s.committed_raised)))
    (λ c. record {
      cell = c.0.0;
      stalled = c.0.1.0;
      committed = c.0.1.1;
      stalled_raised = c.1.0;
      committed_raised = c.1.1;
    }) (λ _. refl)

-- The state before the first call on a horizon.
abbrev pub nothing_seen : TableId → SeenState
nothing_seen cell = record { cell = cell; stalled = 0; committed = 0; stalled_raised = 0; committed_raised = 0 }

-- `new` is the state after a call that read both words in one step. Neither word was below the number seen before, and
-- committed was at most stalled.
pub record HasLooked (old new : SeenState) : Type 0 where
  pub cell : new.cell ≡ old.cell
  pub stalled : old.stalled ≤ new.stalled
  pub committed : old.committed ≤ new.committed
  pub ordered : new.committed ≤ new.stalled

-- A call raised a word to at least a mark's number. `seen` is the number seen in the word before the call, and `raised`
-- the total by which the holder's calls had raised it. `seen'` and `raised'` are the same after the call.
pub record IsRaisedTo (mark seen raised seen' raised' : ℕ) : Type 0 where
  -- the word just before this call's step
  pub before : ℕ
  pub since : seen ≤ before
  pub greater : seen' ≡ max before mark
  -- the total grows only by what this step added
  pub by : raised' ≡ raised + (seen' - before)

-- The call raised neither word.
pub record HasRaisedNothing (old new : SeenState) : Type 0 where
  pub stalled : new.stalled_raised ≡ old.stalled_raised
  pub committed : new.committed_raised ≡ old.committed_raised

-- The word stalled became the maximum of itself and the mark's number. The call didn't raise committed.
pub record HasRaisedStalled (mark : ℕ) (old new : SeenState) : Type 0 where
  pub stalled : IsRaisedTo mark old.stalled old.stalled_raised new.stalled new.stalled_raised
  pub committed : new.committed_raised ≡ old.committed_raised

-- Each word became the maximum of itself and the mark's number.
pub record HasRaisedBoth (mark : ℕ) (old new : SeenState) : Type 0 where
  pub stalled : IsRaisedTo mark old.stalled old.stalled_raised new.stalled new.stalled_raised
  pub committed : IsRaisedTo mark old.committed old.committed_raised new.committed new.committed_raised
