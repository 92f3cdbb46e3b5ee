-- The rows of one table among those of all.
use Rattle.std.proofs.Common.{◌≡◌, ℕ, zero, suc, List, [], ◌∷◌, length, get_or, refl, sym, ap, ◌∙◌, arith}
use Rattle.mm_base.specs.Bases.{Base, rows_now, rows_of_state}
use Rattle.mm_base.specs.Orphans.{rows_at}
use Rattle.mm_base.specs.RowLists.{rows_in}
use Rattle.mm_base.proofs.Keeping.{keys_size, rows_in-none}
use Rattle.mm_row_order.specs.Refs.{Slots}
use Rattle.mm_tables.specs.Tables.{keys_of, no_slots, state_of}
use Rattle.mm_value.specs.declared.values.Value.{Value}

rows_at-states : (keys : List ℕ) (state : List Slots) (t : ℕ) → length keys ≡ length state
    → rows_in (get_or keys t 0) (get_or state t no_slots) ≡ get_or (rows_of_state keys state) t []
rows_at-states [] [] t size = rows_in-none 0
rows_at-states [] (s ∷ ss) t size = absurd (omega (arith, size))
rows_at-states (k ∷ ks) [] t size = absurd (omega (arith, size))
rows_at-states (k ∷ ks) (s ∷ ss) zero size = refl
rows_at-states (k ∷ ks) (s ∷ ss) (suc t) size = rows_at-states ks ss t (omega (arith, size))

pub rows_at-now : (b : Base) (t : ℕ) → rows_at b.stored.tables t ≡ get_or (rows_now b.stored) t []
rows_at-now b t = rows_at-states (keys_of b.stored.tables) (state_of b.stored.tables) t (keys_size b.stored.tables)

pub rows_at-same : (old new : Base) → rows_now new.stored ≡ rows_now old.stored → (t : ℕ) → rows_at new.stored.tables t ≡ rows_at old.stored.tables t
rows_at-same old new same t =
    rows_at-now new t ∙ (ap (λ (all : List (List (List Value))). get_or all t []) same ∙ sym (rows_at-now old t))
