-- The results for the first items of a list, and its remaining items.
use Rattle.std.proofs.Common.{◌≡◌, Bool, false, ◌||◌, List, [], ◌∷◌, ◌++◌, append-nil, append_assoc, refl, sym, ap, ◌∙◌}
use Rattle.std.specs.List.{list_any}
use Rattle.mm_query.specs.Faults.{noted}
use Rattle.mm_query.specs.declared.faults.Faults.{Faults}
use Rattle.mm_query.proofs.Noted.{noted_none, noted_twice}

-- One more item was resolved, ..
pub placed_next : {X Y : Type 0} (make : List X → List Y) (all before after : List Y) (items rest : List X) (x : X) (y : Y) → all ≡ before ++ make items
    → items ≡ x ∷ rest → after ≡ before ++ y ∷ [] → make (x ∷ rest) ≡ y ∷ make rest → all ≡ after ++ make rest
placed_next make all before after items rest x y split first pushed made =
    split
    ∙ ap (λ l. before ++ make l) first
    ∙ ap (λ l. before ++ l) made
    ∙ sym (append_assoc before (y ∷ []) (make rest))
    ∙ ap (λ l. l ++ make rest) (sym pushed)

-- .. and at the end all of them.
pub placed_all : {X Y : Type 0} (make : List X → List Y) (all before : List Y) (items : List X) → all ≡ before ++ make items → items ≡ [] → make [] ≡ []
    → before ≡ all
placed_all make all before items split none made =
    sym (split ∙ ap (λ l. before ++ make l) none ∙ ap (λ l. before ++ l) made ∙ append-nil before)

module _ {X : Type 0} (column mismatch : X → Bool) (alias : List X → Bool) where
  -- The errors of one more item were recorded, ..
  pub noted_next : (items rest : List X) (x : X) (here : Bool) (faults next : Faults) → items ≡ x ∷ rest → alias (x ∷ rest) ≡ (here || alias rest)
      → next ≡ noted (column x) here (mismatch x) faults
      → noted (list_any column items) (alias items) (list_any mismatch items) faults
      ≡ noted (list_any column rest) (alias rest) (list_any mismatch rest) next
  noted_next items rest x here faults next first lacks noted_here =
      ap (λ l. noted (list_any column l) (alias l) (list_any mismatch l) faults) first
      ∙ ap (λ b. noted (list_any column (x ∷ rest)) b (list_any mismatch (x ∷ rest)) faults) lacks
      ∙ sym (noted_twice (column x) here (mismatch x) (list_any column rest) (alias rest) (list_any mismatch rest) faults)
      ∙ ap (noted (list_any column rest) (alias rest) (list_any mismatch rest)) (sym noted_here)

  -- .. and at the end those of all items.
  pub noted_all : (items : List X) (faults : Faults) → items ≡ [] → alias [] ≡ false
      → noted (list_any column items) (alias items) (list_any mismatch items) faults ≡ faults
  noted_all items faults none lacks =
      ap (λ l. noted (list_any column l) (alias l) (list_any mismatch l) faults) none
      ∙ ap (λ b. noted false b false faults) lacks
      ∙ noted_none faults
