-- Rows that stay in use when another is inserted or removed.
use Rattle.std.proofs.Common.{◌≡◌, ◌≢◌, ◌+◌, ◌<◌, ◌≤◌, All, List, [], ◌∷◌, ◌++◌, length, get_or, sym, ap, ◌∙◌, subst, ⊎_elim, arith, length-append}
use Rattle.std.proofs.lemmas.Bool.{cases_lt}
use Rattle.std.proofs.lemmas.List.{get_or_append_left, get_or_push}
use Rattle.mm_value.specs.declared.row_ref.RowRef.{RowRef}
use Rattle.mm_value.specs.declared.values.Value.{Value}
use Rattle.mm_partition.specs.Places.{Places, Content, Free, Live, Hidden, slot_at, IsLive, ChangesOnly}
use Rattle.bench_structures.specs.Apart.{AreApart}

-- a live row is not in a free slot
pub is_elsewhere : (places : Places) (at other : RowRef) → slot_at places at ≡ Free → IsLive places other → other ≢ at
is_elsewhere places at other free (was, is) same = let both : Free ≡ Live was = sym free ∙ (ap (slot_at places) (sym same) ∙ is) in cc

-- a row stays in use when something else changes
pub lives_on : (old new : Places) (at : RowRef) (slot : Content) → ChangesOnly old new at slot → (other : RowRef) → other ≢ at → IsLive old other
    → IsLive new other
lives_on old new at slot changes other apart (was, is) = (was, changes.others other apart ∙ is)

-- a row stays in use when one is inserted into a free slot
pub live_after : (old new : Places) (at : RowRef) (row : List Value) → slot_at old at ≡ Free → ChangesOnly old new at (Live row) → (other : RowRef)
    → IsLive old other → IsLive new other
live_after old new at row free changes other live = lives_on old new at (Live row) changes other (is_elsewhere old at other free live) live

-- one more reference that differs from all others
pub AreApart-push : (refs : List RowRef) (at : RowRef) → AreApart refs → All (λ other. other ≢ at) refs → AreApart (refs ++ at ∷ [])
AreApart-push refs at apart differ j k d earlier within =
    let long : length (refs ++ at ∷ []) ≡ length refs + 1 = length-append refs (at ∷ []) in
    let left : get_or (refs ++ at ∷ []) j d ≡ get_or refs j d = get_or_append_left refs (at ∷ []) d j (omega (arith, long)) in
    ⊎_elim
    (λ (old : k < length refs). λ same. apart j k d earlier old (sym left ∙ same ∙ get_or_append_left refs (at ∷ []) d k old))
    (λ (last : length refs ≤ k). λ same. differ j d (omega (arith, long)) (sym left ∙ same ∙ get_or_push refs at d k (omega (arith, long))))
    (cases_lt k (length refs))

module _ (refs : List RowRef) (at : RowRef) (apart : AreApart (refs ++ at ∷ [])) where
  -- the others differ from each other too
  pub AreApart-front : AreApart refs
  AreApart-front j k d earlier within same =
      apart j k d earlier (omega (arith, length-append refs (at ∷ [])))
      (get_or_append_left refs (at ∷ []) d j (omega arith) ∙ same ∙ sym (get_or_append_left refs (at ∷ []) d k within))

  -- the last differs from the others
  pub last_apart : All (λ other. other ≢ at) refs
  last_apart k d within same =
      apart k (length refs) d within (omega (arith, length-append refs (at ∷ [])))
      (get_or_append_left refs (at ∷ []) d k within ∙ same ∙ sym (get_or_push refs at d (length refs) (omega arith)))

-- the others stay in use when the last is removed
pub All-live-front : (old hidden new : Places) (refs : List RowRef) (at : RowRef) (row : List Value) → All (IsLive old) (refs ++ at ∷ [])
    → AreApart (refs ++ at ∷ []) → ChangesOnly old hidden at (Hidden row) → ChangesOnly hidden new at Free → All (IsLive new) refs
All-live-front old hidden new refs at row live apart hides frees k d within =
    let other : RowRef = get_or refs k d in
    let differs : other ≢ at = last_apart refs at apart k d within in
    let was : IsLive old other = subst (IsLive old) (get_or_append_left refs (at ∷ []) d k within) (live k d (omega (arith, length-append refs (at ∷ [])))) in
    lives_on hidden new at Free frees other differs (lives_on old hidden at (Hidden row) hides other differs was)

-- the last is in use
pub last_live : (places : Places) (refs : List RowRef) (at : RowRef) → All (IsLive places) (refs ++ at ∷ []) → IsLive places at
last_live places refs at live =
    subst (IsLive places) (get_or_push refs at at (length refs) (omega arith)) (live (length refs) at (omega (arith, length-append refs (at ∷ []))))
