-- Three cells that are run in rows of two.
use Rattle.std.proofs.Common.{◌≡◌, ◌≤◌, ◌<◌, ◌⊎◌, ℕ, zero, suc, List, [], ◌∷◌, arith, inl, inr, refl, subst, sym}
use Rattle.mm_session.specs.Session.{SessionState}
use Rattle.mmdb_c.specs.Calls.{RunsCells, RunsMany, RunsRows}
use Rattle.mmdb_c.specs.Statuses.{done, first_refusal_number}
use Rattle.mmdb_c.specs.declared.cell.Cell.{Cell}

some_cell : (cell : Cell) (cells : List Cell) → cell ∷ cells ≡ [] → ⊥
some_cell cell cells e = cc

-- Rows of two cells: the runs are those of the rows.
in_rows : (number count : ℕ) (cells : List Cell) (status : ℕ) (old new : SessionState) → RunsRows number 2 count cells status old new
    → RunsMany number 2 count cells status old new
in_rows number count cells status old new (inl h) = h.1
in_rows number count cells status old new (inr h) = absurd (omega (arith, h.0))

module _ (number : ℕ) (a b c : Cell) where
  abbrev AllDone : ℕ → SessionState → SessionState → Type 0
  AllDone count old new = (between : SessionState) × (first : ℕ) × (second : ℕ) × (count ≡ 2) × (first < first_refusal_number)
      × (second < first_refusal_number) × RunsCells number (a ∷ b ∷ []) first old between × RunsCells number (c ∷ []) second between new

  all_many : (count : ℕ) (old new : SessionState) → RunsMany number 2 count (a ∷ b ∷ c ∷ []) done old new → AllDone count old new
  all_many zero old new (inl h) = absurd (some_cell a (b ∷ c ∷ []) h.0)
  all_many zero old new (inr h) = absurd (omega (arith, h.1))
  all_many (suc zero) old new h = absurd (unfinished h.5)
    where
      unfinished : RunsMany number 2 zero (c ∷ []) done h.1 new → ⊥
      unfinished (inl none) = some_cell c [] none.0
      unfinished (inr stopped) = omega (arith, stopped.1)
  all_many (suc (suc zero)) old new h = ended h.5.5
    where
      ended : RunsMany number 2 zero [] done h.5.1 new → AllDone 2 old new
      ended (inl none) = (
        h.1,
        h.0,
        h.5.0,
        refl,
        h.3,
        h.5.3,
        h.4,
        subst (λ (state : SessionState). RunsCells number (c ∷ []) h.5.0 h.1 state) (sym none.2) h.5.4,
      )
      ended (inr stopped) = absurd (stopped.0 refl)
  all_many (suc (suc (suc count))) old new h = absurd (h.5.5.2 refl)

  pub all_done : (count : ℕ) (old new : SessionState) → RunsRows number 2 count (a ∷ b ∷ c ∷ []) done old new → AllDone count old new
  all_done count old new h = all_many count old new (in_rows number count (a ∷ b ∷ c ∷ []) done old new h)

  abbrev IsStopped : ℕ → ℕ → SessionState → SessionState → Type 0
  IsStopped count status old new = ((count ≡ 0) × RunsCells number (a ∷ b ∷ []) status old new)
      ⊎ ((count ≡ 1) × (between : SessionState) × (first : ℕ) × (first < first_refusal_number)
      × RunsCells number (a ∷ b ∷ []) first old between × RunsCells number (c ∷ []) status between new)

  stopped_many : (count status : ℕ) (old new : SessionState) → RunsMany number 2 count (a ∷ b ∷ c ∷ []) status old new
      → first_refusal_number ≤ status → IsStopped count status old new
  stopped_many zero status old new (inl h) high = absurd (some_cell a (b ∷ c ∷ []) h.0)
  stopped_many zero status old new (inr h) high = inl (refl, h.2)
  stopped_many (suc zero) status old new h high = second h.5
    where
      second : RunsMany number 2 zero (c ∷ []) status h.1 new → IsStopped 1 status old new
      second (inl none) = absurd (some_cell c [] none.0)
      second (inr stopped) = inr (refl, h.1, h.0, h.3, h.4, stopped.2)
  stopped_many (suc (suc zero)) status old new h high = absurd (ended h.5.5)
    where
      ended : RunsMany number 2 zero [] status h.5.1 new → ⊥
      ended (inl none) = omega (arith, none.1, high)
      ended (inr stopped) = stopped.0 refl
  stopped_many (suc (suc (suc count))) status old new h high = absurd (h.5.5.2 refl)

  pub is_stopped : (count status : ℕ) (old new : SessionState) → RunsRows number 2 count (a ∷ b ∷ c ∷ []) status old new
      → first_refusal_number ≤ status → IsStopped count status old new
  is_stopped count status old new h high = stopped_many count status old new (in_rows number count (a ∷ b ∷ c ∷ []) status old new h) high

none_many : (number count status : ℕ) (old new : SessionState) → RunsMany number 2 count [] status old new
    → (count ≡ 0) × (status ≡ done) × (new ≡ old)
none_many number zero status old new (inl h) = (refl, h.1, h.2)
none_many number zero status old new (inr h) = absurd (h.0 refl)
none_many number (suc count) status old new h = absurd (h.2 refl)

pub none_run : (number count status : ℕ) (old new : SessionState) → RunsRows number 2 count [] status old new
    → (count ≡ 0) × (status ≡ done) × (new ≡ old)
none_run number count status old new h = none_many number count status old new (in_rows number count [] status old new h)
