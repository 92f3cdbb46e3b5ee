-- The references of the rows in use after the edits of a command.
use Rattle.std.proofs.Common.{◌≡◌, ◌≢◌, ℕ, ◌⊎◌, inl, inr, ⊎_elim, Bool, true, false, not, ◌||◌}
use Rattle.std.proofs.Common.{List, [], ◌∷◌, ◌++◌, Option, Some, None, map, get_or, refl, sym, ap, ap₂, ◌∙◌, subst, arith}
use Rattle.std.specs.List.{All, AllPairs, Contains, cons_option, filter, filter_map, list_any}
use Rattle.std.specs.Ordering.{is_eq}
use Rattle.std.proofs.lemmas.Bool.{false≢true, cases_Bool}
use Rattle.std.proofs.lemmas.Cmp.{tied_itself}
use Rattle.std.proofs.lemmas.List.{map-append}
use Rattle.std.proofs.lemmas.List.Elements.{All-head, All-tail, All-contains, Contains-get_or, Contains-append_left, Contains-append_right}
use Rattle.std.proofs.lemmas.List.Elements.{Contains-append_cases}
use Rattle.std.proofs.lemmas.List.Folds.{list_any_at, list_any_none}
use Rattle.std.proofs.lemmas.List.Kept.{AllPairs-cons, AllPairs-filter}
use Rattle.mm_value.specs.declared.row_ref.RowRef.{RowRef}
use Rattle.mm_value.specs.declared.values.Value.{Value}
use Rattle.mm_schema.specs.Rows.{Pair, column_cmp, goes, same_in_column, unsorted}
use Rattle.mm_schema.proofs.Duplicates.{column_cmp_total}
use Rattle.mm_schema.proofs.Orderings.{equal_from_is_eq}
use Rattle.mm_partition.specs.Places.{Live, Hidden, row_in}
use Rattle.mm_row_order.specs.Refs.{Slots, HasRow, HasHidden, row_at}
use Rattle.mm_order.proofs.Pairs.{AllPairs-append}
use Rattle.mm_indexed.specs.Twins.{AreApart}
use Rattle.mm_tables.specs.Edits.{put, step, Fits, came_by}
use Rattle.mm_tables.specs.Commands.{after, LeavesOut, IsApart, IsCommand, CameLive}
use Rattle.mm_tables.specs.declared.edit.Edit.{Edit}
use Rattle.mm_tables.specs.declared.edit.Edit.TheVariants.{Stage, Insert, Update, Move, Delete}
use Rattle.mm_tables.proofs.Commands.{CameIn, CameLive-after, step_leaves, first_apart, rest_apart, all_fit_still, after_came, leaves_came, after_leaves}
use Rattle.mm_tables.proofs.Slots.{put_here, equal_turns}
use Rattle.mm_base.specs.EditPairs.{edit_pair, edit_pairs}
use Rattle.mm_base.proofs.References.{AreReferences, in_or_out, in_filter, out_of_filter, filter-map, in_filter_map, out_of_filter_map, one_of, none_in}

-- the row that an edit deletes or replaces
abbrev pub gone_by : Edit → Option RowRef
gone_by (Stage r) = None
gone_by (Insert r) = None
gone_by (Update a b) = Some a
gone_by (Move a b) = Some a
gone_by (Delete r) = Some r

abbrev pub gone : List Edit → List RowRef
gone edits = filter_map gone_by edits

abbrev pub came : List Edit → List RowRef
came edits = filter_map came_by edits

not_both : (now : Slots) (a b : RowRef) → HasRow now a → HasHidden now b → a ≢ b
not_both now a b (x, live) (y, hidden) same = let both : Live x ≡ Hidden y = sym live ∙ (ap now same ∙ hidden) in cc

-- ---- one edit

gone_live : (key : ℕ) (now : Slots) (e : Edit) (r : RowRef) → Fits key now e → gone_by e ≡ Some r → HasRow now r
gone_live key now (Stage s) r fits is = absurd fits
gone_live key now (Insert s) r fits is = let no : ⊥ = cc in absurd no
gone_live key now (Update a b) r fits is = subst (HasRow now) (let same : a ≡ r = cc in same) fits.0
gone_live key now (Move a b) r fits is = subst (HasRow now) (let same : a ≡ r = cc in same) fits.0
gone_live key now (Delete s) r fits is = subst (HasRow now) (let same : s ≡ r = cc in same) fits

-- a new row is a hidden one, or replaces an old one
came_hidden : (key : ℕ) (now : Slots) (e : Edit) (r : RowRef) → Fits key now e → came_by e ≡ Some r → HasHidden now r ⊎ (gone_by e ≡ Some r)
came_hidden key now (Stage s) r fits is = absurd fits
came_hidden key now (Insert s) r fits is = inl (subst (HasHidden now) (let same : s ≡ r = cc in same) fits)
came_hidden key now (Update a b) r fits is = inr is
came_hidden key now (Move a b) r fits is = inr is
came_hidden key now (Delete s) r fits is = let no : ⊥ = cc in absurd no

-- an edit names no row in use but its old one
leaves_live : (key : ℕ) (now : Slots) (e : Edit) (r : RowRef) → Fits key now e → HasRow now r → (gone_by e ≡ Some r → ⊥) → LeavesOut e r
leaves_live key now (Stage s) r fits live stays = absurd fits
leaves_live key now (Insert s) r fits live stays = λ same. not_both now r s live fits (sym same)
leaves_live key now (Update a b) r fits live stays = (λ same. stays (ap Some same), λ same. not_both now r b live fits.1 (sym same))
leaves_live key now (Move a b) r fits live stays = (λ same. stays (ap Some same), λ same. not_both now r b live fits.1 (sym same))
leaves_live key now (Delete s) r fits live stays = λ same. stays (ap Some same)

-- an old row that is not a new one is hidden
gone_hidden : (e : Edit) (now : Slots) (r : RowRef) → gone_by e ≡ Some r → (came_by e ≡ Some r) ⊎ HasHidden (step e now) r
gone_hidden (Stage s) now r is = let no : ⊥ = cc in absurd no
gone_hidden (Insert s) now r is = let no : ⊥ = cc in absurd no
gone_hidden (Update a b) now r is = inl is
gone_hidden (Move a b) now r is = inl is
gone_hidden (Delete s) now r is = inr (row_at now s, put_here s r (Hidden (row_in (now s))) now (let same : s ≡ r = cc in same))

-- the slot that an edit names first
abbrev first_slot : Edit → RowRef
first_slot (Stage s) = s
first_slot (Insert s) = s
first_slot (Update a b) = a
first_slot (Move a b) = a
first_slot (Delete s) = s

-- a new row is in the slot that its edit names first
came_first : (e : Edit) (r : RowRef) → came_by e ≡ Some r → first_slot e ≡ r
came_first (Stage s) r is = let no : ⊥ = cc in absurd no
came_first (Insert s) r is = cc
came_first (Update a b) r is = cc
came_first (Move a b) r is = cc
came_first (Delete s) r is = let no : ⊥ = cc in absurd no

-- an edit that does not name a slot names another one first
away : (r : RowRef) (f : Edit) → LeavesOut f r → first_slot f ≢ r
away r (Stage s) out = out
away r (Insert s) out = out
away r (Update a b) out = out.0
away r (Move a b) out = out.0
away r (Delete s) out = out

-- edits that are apart from a deletion do not name its slot
leaves_deleted : (s r : RowRef) (f : Edit) → s ≡ r → IsApart (Delete s) f → LeavesOut f r
leaves_deleted s r (Stage q) is out = λ e. out (is ∙ sym e)
leaves_deleted s r (Insert q) is out = λ e. out (is ∙ sym e)
leaves_deleted s r (Update a b) is (not_a, not_b) = (λ e. not_a (is ∙ sym e), λ e. not_b (is ∙ sym e))
leaves_deleted s r (Move a b) is (not_a, not_b) = (λ e. not_a (is ∙ sym e), λ e. not_b (is ∙ sym e))
leaves_deleted s r (Delete q) is out = λ e. out (is ∙ sym e)

leaves_gone : (e f : Edit) (r : RowRef) → gone_by e ≡ Some r → IsApart e f → LeavesOut f r
leaves_gone (Stage s) f r is out = let no : ⊥ = cc in absurd no
leaves_gone (Insert s) f r is out = let no : ⊥ = cc in absurd no
leaves_gone (Update a b) f r is out = leaves_came (Update a b) f r is out
leaves_gone (Move a b) f r is out = leaves_came (Move a b) f r is out
leaves_gone (Delete s) f r is out = leaves_deleted s r f (let same : s ≡ r = cc in same) out

-- ---- the new rows

-- the row of a slot that an edit does not name stays for another edit
row_still : (e : Edit) (now : Slots) (r : RowRef) → LeavesOut e r → row_at (step e now) r ≡ row_at now r
row_still e now r out = ap row_in (step_leaves e now r out)

abbrev inserted : List Value → Option Pair
inserted row = Some (None, Some row)

abbrev replaced : List Value → List Value → Option Pair
replaced old new = Some (Some old, Some new)

abbrev deleted : List Value → Option Pair
deleted row = Some (Some row, None)

pair_still : (e f : Edit) (now : Slots) → IsApart e f → edit_pair (step e now) f ≡ edit_pair now f
pair_still e (Stage s) now out = refl
pair_still e (Insert s) now out = ap inserted (row_still e now s out)
pair_still e (Update a b) now out = ap₂ replaced (row_still e now a out.0) (row_still e now b out.1)
pair_still e (Move a b) now out = ap₂ replaced (row_still e now a out.0) (row_still e now b out.1)
pair_still e (Delete s) now out = ap deleted (row_still e now s out)

pairs_still : (e : Edit) (es : List Edit) (now : Slots) → All (IsApart e) es → edit_pairs (step e now) es ≡ edit_pairs now es
pairs_still e [] now out = refl
pairs_still e (f ∷ fs) now out =
    ap₂ cons_option (pair_still e f now (All-head (IsApart e) f fs out)) (pairs_still e fs now (All-tail (IsApart e) f fs out))

-- the row of a slot after the later edits
came_row : (e : Edit) (es : List Edit) (now : Slots) (r : RowRef) (row : List Value) → came_by e ≡ Some r → step e now r ≡ Live row
    → AllPairs IsApart (e ∷ es) → row ≡ row_at (after es (step e now)) r
came_row e es now r row is live apart =
    sym (ap row_in (after_leaves es (step e now) r (λ k d within. leaves_came e (get_or es k d) r is (first_apart e es apart k d within)) ∙ live))

abbrev two : {X : Type 0} {x y : X} {xs ys : List X} → x ≡ y → xs ≡ ys → x ∷ xs ≡ y ∷ ys
two first rest = λ i. first i ∷ rest i

-- the new rows of the pairs
first_came : (key : ℕ) (e : Edit) (es : List Edit) (now : Slots) → Fits key now e → AllPairs IsApart (e ∷ es)
    → filter_map (λ (p : Pair). p.1) (edit_pairs now es) ≡ map (row_at (after es (step e now))) (came es)
    → filter_map (λ (p : Pair). p.1) (edit_pairs now (e ∷ es)) ≡ map (row_at (after es (step e now))) (came (e ∷ es))
first_came key (Stage s) es now fits apart rest = absurd fits
first_came key (Insert r) es now fits apart rest =
    two (came_row (Insert r) es now r (row_at now r) refl (put_here r r (Live (row_in (now r))) now refl) apart) rest
first_came key (Update a b) es now fits apart rest =
    two (came_row (Update a b) es now a (row_at now b) refl (put_here a a (Live (row_in (now b))) (put b (Hidden (row_in (now a))) now) refl) apart) rest
first_came key (Move a b) es now fits apart rest =
    two (came_row (Move a b) es now a (row_at now b) refl (put_here a a (Live (row_in (now b))) (put b (Hidden (row_in (now a))) now) refl) apart) rest
first_came key (Delete r) es now fits apart rest = rest

came_rows : (key : ℕ) (es : List Edit) (now : Slots) → All (Fits key now) es → AllPairs IsApart es
    → filter_map (λ (p : Pair). p.1) (edit_pairs now es) ≡ map (row_at (after es now)) (came es)
came_rows key [] now fits apart = refl
came_rows key (e ∷ es) now fits apart =
    first_came key e es now (All-head (Fits key now) e es fits) apart
    (ap (filter_map (λ (p : Pair). p.1)) (sym (pairs_still e es now (first_apart e es apart)))
    ∙ came_rows key es (step e now) (all_fit_still key e es now (first_apart e es apart) (All-tail (Fits key now) e es fits)) (rest_apart e es apart))

-- ---- the old rows

-- no old row has the key of this one
abbrev pub stays_in : ℕ → List Pair → List Value → Bool
stays_in key pairs row = not (list_any (λ (p : Pair). goes key row p.0) pairs)

abbrev has_key_of : ℕ → Slots → List Value → RowRef → Bool
has_key_of key now row at = same_in_column key row (row_at now at)

goes_like : (key : ℕ) (now : Slots) (row : List Value) (edits : List Edit)
    → list_any (λ (p : Pair). goes key row p.0) (edit_pairs now edits) ≡ list_any (has_key_of key now row) (gone edits)
goes_like key now row [] = refl
goes_like key now row (Stage r ∷ es) = goes_like key now row es
goes_like key now row (Insert r ∷ es) = goes_like key now row es
goes_like key now row (Update a b ∷ es) = ap (λ t. has_key_of key now row a || t) (goes_like key now row es)
goes_like key now row (Move a b ∷ es) = ap (λ t. has_key_of key now row a || t) (goes_like key now row es)
goes_like key now row (Delete r ∷ es) = ap (λ t. has_key_of key now row r || t) (goes_like key now row es)

-- an old row that is not a new one is hidden after all edits
gone_after : (key : ℕ) (es : List Edit) (now : Slots) (e : Edit) (r : RowRef) → All (Fits key now) es → AllPairs IsApart es → Contains es e
    → gone_by e ≡ Some r → (came_by e ≡ Some r) ⊎ HasHidden (after es now) r
gone_after key [] now e r fits apart here is = absurd (none_in e here)
gone_after key (f ∷ fs) now e r fits apart here is =
    ⊎_elim
    (λ (same : f ≡ e).
    let first : gone_by f ≡ Some r = ap gone_by same ∙ is in
    ⊎_elim
    (λ (comes : came_by f ≡ Some r). inl (sym (ap came_by same) ∙ comes))
    (λ (hidden : HasHidden (step f now) r).
    inr (
      hidden.0,
      after_leaves fs (step f now) r (λ k d within. leaves_gone f (get_or fs k d) r first (first_apart f fs apart k d within)) ∙ hidden.1,
    ))
    (gone_hidden f now r first))
    (λ (later : Contains fs e).
    gone_after key fs (step f now) e r (all_fit_still key f fs now (first_apart f fs apart) (All-tail (Fits key now) f fs fits)) (rest_apart f fs apart)
    later is)
    (one_of e f fs here)

-- no slot has two new rows
came_apart : (es : List Edit) → AllPairs IsApart es → AllPairs (λ a b. a ≢ b) (came es)
came_apart [] apart = λ i j d before within. absurd (omega arith)
came_apart (e ∷ es) apart = joined (came_by e) refl (came_apart es (rest_apart e es apart))
  where
    joined : (o : Option RowRef) → came_by e ≡ o → AllPairs (λ a b. a ≢ b) (came es) → AllPairs (λ a b. a ≢ b) (cons_option o (came es))
    joined None is rest = rest
    joined (Some r) is rest =
        AllPairs-cons (λ (a b : RowRef). a ≢ b) r (came es)
        (λ k d within same.
        let found = out_of_filter_map came_by es (get_or (came es) k d) (Contains-get_or (came es) k d within) in
        away r found.0 (leaves_came e found.0 r is (All-contains (IsApart e) es found.0 (first_apart e es apart) found.1))
        (came_first found.0 (get_or (came es) k d) found.2 ∙ sym same))
        rest

pub map_same : (old new : Slots) (refs : List RowRef) → All (λ r. new r ≡ old r) refs → map (row_at old) refs ≡ map (row_at new) refs
map_same old new [] same = refl
map_same old new (r ∷ rs) same =
    two (sym (ap row_in (All-head (λ x. new x ≡ old x) r rs same))) (map_same old new rs (All-tail (λ x. new x ≡ old x) r rs same))

-- ---- all edits of a command

module _ (key : ℕ) (now : Slots) (edits : List Edit) (command : IsCommand key edits now) where
  gone_in : (at : RowRef) → Contains (gone edits) at → HasRow now at
  gone_in at here =
      let found = out_of_filter_map gone_by edits at here in
      gone_live key now found.0 at (All-contains (Fits key now) edits found.0 command.fits found.1) found.2

  -- a row that is not an old one is unchanged
  pub stays_there : (at : RowRef) → HasRow now at → (Contains (gone edits) at → ⊥) → after edits now at ≡ now at
  stays_there at live out =
      after_leaves edits now at
      (λ k d within.
      leaves_live key now (get_or edits k d) at (command.fits k d within) live
      (λ is. out (in_filter_map gone_by edits (get_or edits k d) at (Contains-get_or edits k d within) is)))

  -- a row in use afterwards is new, or has stayed
  abbrev pub Stayed : RowRef → Type 0
  Stayed at = HasRow now at × (Contains (gone edits) at → ⊥)

  pub come_or_stayed : (at : RowRef) → HasRow (after edits now) at → Contains (came edits) at ⊎ Stayed at
  come_or_stayed at live =
      ⊎_elim
      (λ (goes : Contains (gone edits) at).
      let found = out_of_filter_map gone_by edits at goes in
      ⊎_elim
      (λ (comes : came_by found.0 ≡ Some at). inl (in_filter_map came_by edits found.0 at found.1 comes))
      (λ (hidden : HasHidden (after edits now) at). absurd (not_both (after edits now) at at live hidden refl))
      (gone_after key edits now found.0 at command.fits command.apart found.1 found.2))
      (λ (stays : Contains (gone edits) at → ⊥).
      ⊎_elim
      (λ (comes : CameIn edits at). inl (in_filter_map came_by edits comes.0 at comes.1 comes.2))
      (λ (same : after edits now at ≡ now at). inr ((live.0, sym same ∙ live.1), stays))
      (after_came edits now at live))
      (in_or_out (gone edits) at)

  came_in : (at : RowRef) → Contains (came edits) at → HasRow (after edits now) at
  came_in at here =
      let found = out_of_filter_map came_by edits at here in
      All-contains (CameLive (after edits now)) edits found.0 (CameLive-after edits now command.apart) found.1 at found.2

  module _ (apart : AreApart key now) (refs : List RowRef) (are : AreReferences now refs) where
    -- the references of the rows that stay
    abbrev stays_at : RowRef → Bool
    stays_at at = stays_in key (edit_pairs now edits) (row_at now at)

    abbrev pub kept : List RowRef
    kept = filter stays_at refs

    none_of_key : (at : RowRef) → Stayed at → All (λ x. has_key_of key now (row_at now at) x ≡ false) (gone edits)
    none_of_key at (live, out) k d within =
        let x : RowRef = get_or (gone edits) k d in
        let here : Contains (gone edits) x = Contains-get_or (gone edits) k d within in
        ⊎_elim
        (λ (same : has_key_of key now (row_at now at) x ≡ true).
        absurd
        (apart at live (
          x,
          gone_in x here,
          λ (is : x ≡ at). out (subst (Contains (gone edits)) is here),
          equal_turns key (row_at now at) (row_at now x) (equal_from_is_eq (column_cmp key (row_at now at) (row_at now x)) same),
        )))
        (λ (differs : has_key_of key now (row_at now at) x ≡ false). differs)
        (cases_Bool (has_key_of key now (row_at now at) x))

    passes : (at : RowRef) → Stayed at → stays_at at ≡ true
    passes at stayed =
        ap not (goes_like key now (row_at now at) edits ∙ list_any_none (has_key_of key now (row_at now at)) (gone edits) (none_of_key at stayed))

    fails : (at : RowRef) → Contains (gone edits) at → stays_at at ≡ false
    fails at (k, within, is) =
        let itself : has_key_of key now (row_at now at) at ≡ true = ap is_eq (tied_itself (column_cmp_total key) (row_at now at)) in
        ap not (goes_like key now (row_at now at) edits
        ∙ list_any_at (has_key_of key now (row_at now at)) (gone edits) k at within (ap (has_key_of key now (row_at now at)) is ∙ itself))

    kept_in : (at : RowRef) → Contains kept at → Stayed at
    kept_in at here =
        let found = out_of_filter stays_at refs at here in
        ((are.held at).0 found.0, λ goes. false≢true (sym (fails at goes) ∙ found.1))

    in_kept : (at : RowRef) → Stayed at → Contains kept at
    in_kept at stayed = in_filter stays_at refs at ((are.held at).1 stayed.0) (passes at stayed)

    across : All (λ x. All (λ y. x ≢ y) (came edits)) kept
    across k d within m e below same =
        let x : RowRef = get_or kept k d in
        let y : RowRef = get_or (came edits) m e in
        let stayed : Stayed x = kept_in x (Contains-get_or kept k d within) in
        let found = out_of_filter_map came_by edits y (Contains-get_or (came edits) m e below) in
        ⊎_elim
        (λ (hidden : HasHidden now y). not_both now x y stayed.0 hidden same)
        (λ (goes : gone_by found.0 ≡ Some y).
        stayed.1 (subst (Contains (gone edits)) (sym same) (in_filter_map gone_by edits found.0 y found.1 goes)))
        (came_hidden key now found.0 y (All-contains (Fits key now) edits found.0 command.fits found.1) found.2)

    -- the references afterwards are those of the rows that stay and of the new ones ..
    pub AreReferences-after : AreReferences (after edits now) (kept ++ came edits)
    AreReferences-after = record {
      apart = AllPairs-append (λ (a b : RowRef). a ≢ b) kept (came edits)
          (AllPairs-filter (λ (a b : RowRef). a ≢ b) stays_at refs are.apart) (came_apart edits command.apart) across;
      held = λ at. (
        λ here.
            ⊎_elim
            (λ (stays : Contains kept at).
            let stayed : Stayed at = kept_in at stays in
            let row : HasRow (after edits now) at = (stayed.0.0, stays_there at stayed.0 stayed.1 ∙ stayed.0.1) in row)
            (λ (comes : Contains (came edits) at). came_in at comes)
            (Contains-append_cases kept (came edits) at here),
        λ live.
            ⊎_elim
            (λ (comes : Contains (came edits) at). Contains-append_right kept (came edits) at comes)
            (λ (stayed : Stayed at). Contains-append_left kept (came edits) at (in_kept at stayed))
            (come_or_stayed at live),
      );
    }

    -- .. and their rows are those of the change, before they are sorted
    pub rows_after : unsorted key (edit_pairs now edits) (map (row_at now) refs) ≡ map (row_at (after edits now)) (kept ++ came edits)
    rows_after =
        let same : map (row_at now) kept ≡ map (row_at (after edits now)) kept =
        map_same now (after edits now) kept
        (λ k d within. let stayed : Stayed (get_or kept k d) = kept_in (get_or kept k d) (Contains-get_or kept k d within) in
        stays_there (get_or kept k d) stayed.0 stayed.1) in
        ap₂ (λ (xs ys : List (List Value)). xs ++ ys) (filter-map (row_at now) (stays_in key (edit_pairs now edits)) refs ∙ same)
        (came_rows key edits now command.fits command.apart)
        ∙ sym (map-append (row_at (after edits now)) kept (came edits))
