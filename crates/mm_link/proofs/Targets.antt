-- Ties while the target table is edited, forwards and back.
use Rattle.std.proofs.Common.{◌≡◌, ◌≢◌, ℕ, ⊎_elim, List, [], ◌∷◌, get_or, Option, Some, refl, sym, ap, ◌∙◌, subst}
use Rattle.std.specs.Prelude.{slice_get}
use Rattle.std.specs.Option.{option_cmp}
use Rattle.std.specs.List.{All}
use Rattle.std.specs.declared.cmp.Ordering.TheVariants.{Equal}
use Rattle.std.specs.Cmp.Lexicographic.{options_total}
use Rattle.std.proofs.lemmas.Cmp.{tied_itself}
use Rattle.std.proofs.lemmas.List.Elements.{All-head, All-tail}
use Rattle.mm_value.proofs.Orders.{value_cmp_total}
use Rattle.mm_value.specs.Order.{value_cmp}
use Rattle.mm_value.specs.declared.row_ref.RowRef.{RowRef}
use Rattle.mm_value.specs.declared.values.Value.{Value}
use Rattle.mm_schema.specs.Rows.{column_cmp}
use Rattle.mm_foreign_key.specs.Ties.{Ties, target_at}
use Rattle.mm_partition.specs.Places.{Content, Free, Live, Hidden, row_in}
use Rattle.mm_row_order.specs.Refs.{Slots, HasHidden, HasRow, row_at}
use Rattle.mm_indexed.specs.Twins.{AreApart, keys_by}
use Rattle.mm_indexed.proofs.Levels.{one_value}
use Rattle.mm_tables.specs.Commands.{after, IsApart, IsCommand, LeavesOut}
use Rattle.mm_tables.specs.Edits.{exchanged, step, step_back, Fits, Stands}
use Rattle.mm_tables.specs.Log.{StandsBack}
use Rattle.mm_tables.specs.declared.edit.Edit.{Edit}
use Rattle.mm_tables.specs.declared.edit.Edit.TheVariants.{Stage, Insert, Update, Move, Delete}
use Rattle.mm_tables.proofs.Slots.{equal_turns, same_or_apart}
use Rattle.mm_link.specs.Links.{Follows, IsReferredTo, IsTied, RefersTo}
use Rattle.mm_link.specs.Targets.{BringsUnreferred, SparesReferred}
use Rattle.mm_link.proofs.Slots.{after_leaves, all_leave, back_leaves, before-after, first_apart, first_exchanged, IsCommand-rest, keys_still}
use Rattle.mm_link.proofs.Slots.{leaves_or_names, named_one, named_two, second_exchanged, live_apart_hidden, step_leaves}

module _ (column key : ℕ) where
  refers_moved : (then later : Slots) (row : List Value) (t : RowRef) → later t ≡ then t → RefersTo column key then row t → RefersTo column key later row t
  refers_moved then later row t same refers = record {
    live = (refers.live.0, same ∙ refers.live.1);
    same = refers.same ∙ ap (λ (c : Content). slice_get (row_in c) key) (sym same);
  }

  -- a row that replaces another one with the same key
  refers_exchanged : (then : Slots) (row : List Value) (a b : RowRef) → keys_by key then a b ≡ Equal → RefersTo column key then row a
      → RefersTo column key (exchanged a b then) row a
  refers_exchanged then row a b same refers =
      let first : exchanged a b then a ≡ Live (row_at then b) = first_exchanged a b then in
      record {
        live = (row_at then b, first);
        same = refers.same ∙ (one_value key (row_at then a) (row_at then b) same ∙ ap (λ (c : Content). slice_get (row_in c) key) (sym first));
      }

  not_hidden : (then : Slots) (row : List Value) (r t : RowRef) → r ≡ t → HasHidden then r → RefersTo column key then row t → ⊥
  not_hidden then row r t same hidden refers = live_apart_hidden then t r refers.live hidden (sym same)

  module _ (now then : Slots) (at : RowRef) (live : HasRow now at) (t : RowRef) (refers : RefersTo column key then (row_at now at) t) where
    abbrev Kept : Edit → Type 0
    Kept e = RefersTo column key (step e then) (row_at now at) t

    abbrev KeptBack : Edit → Type 0
    KeptBack e = RefersTo column key (step_back e then) (row_at now at) t

    referred : (a : RowRef) → a ≡ t → IsReferredTo column key now then a
    referred a same = (at, live, subst (RefersTo column key then (row_at now at)) (sym same) refers)

    two_kept : (a b : RowRef) → HasHidden then b → (a ≡ t → keys_by key then a b ≡ Equal) → (((a ≢ t) × (b ≢ t)) → ⊥)
        → RefersTo column key (exchanged a b then) (row_at now at) t
    two_kept a b hidden same named =
        ⊎_elim
        (λ (here : a ≡ t).
        subst (RefersTo column key (exchanged a b then) (row_at now at)) here
        (refers_exchanged then (row_at now at) a b (same here) (subst (RefersTo column key then (row_at now at)) (sym here) refers)))
        (λ (here : b ≡ t). absurd (not_hidden then (row_at now at) b t here hidden refers))
        (named_two a b t named)

    named_kept : (e : Edit) → Fits key then e → SparesReferred column key now then e → (LeavesOut e t → ⊥) → Kept e
    named_kept (Stage r) fits spares named = absurd fits
    named_kept (Insert r) fits spares named = absurd (not_hidden then (row_at now at) r t (named_one r t named) fits refers)
    named_kept (Update a b) (has, hidden, same) spares named = two_kept a b hidden (λ here. same) named
    named_kept (Move a b) (has, hidden) spares named = two_kept a b hidden (λ here. spares (referred a here)) named
    named_kept (Delete r) fits spares named = absurd (spares (referred r (named_one r t named)))

    named_kept_back : (e : Edit) → Stands key then e → BringsUnreferred column key now then e → (LeavesOut e t → ⊥) → KeptBack e
    named_kept_back (Stage r) stands brings named = absurd (not_hidden then (row_at now at) r t (named_one r t named) stands refers)
    named_kept_back (Insert r) stands brings named = absurd (brings (referred r (named_one r t named)))
    named_kept_back (Update a b) (has, hidden, same) brings named = two_kept a b hidden (λ here. same) named
    named_kept_back (Move a b) (has, hidden) brings named = two_kept a b hidden (λ here. brings (referred a here)) named
    named_kept_back (Delete r) stands brings named = absurd (not_hidden then (row_at now at) r t (named_one r t named) stands refers)

    -- a row that a row refers to is still there after an edit
    pub refers_step : (e : Edit) → Fits key then e → SparesReferred column key now then e → Kept e
    refers_step e fits spares =
        ⊎_elim
        (λ (out : LeavesOut e t). refers_moved then (step e then) (row_at now at) t (step_leaves e then t out) refers)
        (λ (named : LeavesOut e t → ⊥). named_kept e fits spares named)
        (leaves_or_names e t)

    -- .. and after its undo
    pub refers_back : (e : Edit) → Stands key then e → BringsUnreferred column key now then e → KeptBack e
    refers_back e stands brings =
        ⊎_elim
        (λ (out : LeavesOut e t). refers_moved then (step_back e then) (row_at now at) t (back_leaves e then t out) refers)
        (λ (named : LeavesOut e t → ⊥). named_kept_back e stands brings named)
        (leaves_or_names e t)

  -- ---- ties

  still_tied : (then later : Slots) (content : Content) (target : Option RowRef)
      → ((row : List Value) (t : RowRef) → content ≡ Live row → RefersTo column key then row t → RefersTo column key later row t)
      → IsTied column key then content target → IsTied column key later content target
  still_tied then later Free target kept tied = tied
  still_tied then later (Hidden row) target kept tied = tied
  still_tied then later (Live row) target kept tied = (tied.0, tied.1, kept row tied.0 refl tied.2)

  row_is : (now : Slots) (at : RowRef) (row : List Value) → now at ≡ Live row → row_at now at ≡ row
  row_is now at row is = ap (λ (c : Content). row_in c) is

  pub Follows-kept : (now then later : Slots) (ties : Ties)
      → ((at : RowRef) → HasRow now at → (t : RowRef) → RefersTo column key then (row_at now at) t → RefersTo column key later (row_at now at) t)
      → Follows column key now then ties → Follows column key now later ties
  Follows-kept now then later ties kept follows at =
      still_tied then later (now at) (target_at ties at)
      (λ row t is refers.
      let same : row_at now at ≡ row = row_is now at row is in
      subst (λ (r : List Value). RefersTo column key later r t) same
      (kept at (row, is) t (subst (λ (r : List Value). RefersTo column key then r t) (sym same) refers)))
      (follows at)

  pub Follows-step : (now then : Slots) (ties : Ties) (e : Edit) → Fits key then e → SparesReferred column key now then e
      → Follows column key now then ties → Follows column key now (step e then) ties
  Follows-step now then ties e fits spares follows =
      Follows-kept now then (step e then) ties (λ at live t refers. refers_step now then at live t refers e fits spares) follows

  pub Follows-step_back : (now then : Slots) (ties : Ties) (e : Edit) → Stands key then e → BringsUnreferred column key now then e
      → Follows column key now then ties → Follows column key now (step_back e then) ties
  Follows-step_back now then ties e stands brings follows =
      Follows-kept now then (step_back e then) ties (λ at live t refers. refers_back now then at live t refers e stands brings) follows

  -- ---- a command

  referred_still : (now then : Slots) (e : Edit) (r : RowRef) → LeavesOut e r → IsReferredTo column key now (step e then) r
      → IsReferredTo column key now then r
  referred_still now then e r out (at, live, refers) =
      (at, live, refers_moved (step e then) then (row_at now at) r (sym (step_leaves e then r out)) refers)

  spares_still : (now then : Slots) (e f : Edit) → IsApart e f → SparesReferred column key now then f → SparesReferred column key now (step e then) f
  spares_still now then e (Stage r) apart spares = tt
  spares_still now then e (Insert r) apart spares = tt
  spares_still now then e (Update a b) apart spares = tt
  spares_still now then e (Move a b) apart spares = λ here.
      keys_still key a b then (step e then) (step_leaves e then a apart.0) (step_leaves e then b apart.1)
      ∙ spares (referred_still now then e a apart.0 here)
  spares_still now then e (Delete r) apart spares = λ here. spares (referred_still now then e r apart here)

  spares_rest : (now then : Slots) (e : Edit) (es : List Edit) → IsCommand key (e ∷ es) then → All (SparesReferred column key now then) (e ∷ es)
      → All (SparesReferred column key now (step e then)) es
  spares_rest now then e es command spares k d within =
      spares_still now then e (get_or es k d) (first_apart e es command.apart k d within)
      (All-tail (SparesReferred column key now then) e es spares k d within)

  pub Follows-after : (now then : Slots) (ties : Ties) (es : List Edit) → IsCommand key es then → All (SparesReferred column key now then) es
      → Follows column key now then ties → Follows column key now (after es then) ties
  Follows-after now then ties [] command spares follows = follows
  Follows-after now then ties (e ∷ es) command spares follows =
      Follows-after now (step e then) ties es (IsCommand-rest key e es then command) (spares_rest now then e es command spares)
      (Follows-step now then ties e (All-head (Fits key then) e es command.fits) (All-head (SparesReferred column key now then) e es spares) follows)

  -- ---- the records of a command

  -- if keys are unique, a row that refers to another one is tied to it
  one_target : (now last : Slots) (ties : Ties) → Follows column key now last ties → AreApart key last → (at : RowRef) → HasRow now at
      → (r : RowRef) → RefersTo column key last (row_at now at) r → target_at ties at ≡ Some r
  one_target now last ties follows apart at (row, is) r refers =
      let tied : IsTied column key last (Live row) (target_at ties at)
      = subst (λ (c : Content). IsTied column key last c (target_at ties at)) is (follows at) in
      let t : RowRef = tied.0 in
      let keys : slice_get (row_at last r) key ≡ slice_get (row_at last t) key =
      sym refers.same ∙ (ap (λ (x : List Value). slice_get x column) (row_is now at row is) ∙ tied.2.same) in
      let tie : keys_by key last r t ≡ Equal =
      subst (λ (o : Option Value). option_cmp value_cmp (slice_get (row_at last r) key) o ≡ Equal) keys
      (tied_itself (options_total value_cmp_total) (slice_get (row_at last r) key)) in
      ⊎_elim
      (λ (same : r ≡ t). tied.1 ∙ ap Some (sym same))
      (λ (differ : r ≢ t). absurd (apart t tied.2.live (r, refers.live, differ, tie)))
      (same_or_apart r t)

  tied_refers : (now then : Slots) (ties : Ties) → Follows column key now then ties → (at : RowRef) → HasRow now at → (r : RowRef)
      → target_at ties at ≡ Some r → RefersTo column key then (row_at now at) r
  tied_refers now then ties follows at (row, is) r target =
      let tied : IsTied column key then (Live row) (target_at ties at)
      = subst (λ (c : Content). IsTied column key then c (target_at ties at)) is (follows at) in
      let both : Some tied.0 ≡ Some r = sym tied.1 ∙ target in
      let same : tied.0 ≡ r = cc in
      subst (λ (x : List Value). RefersTo column key then x r) (sym (row_is now at row is))
      (subst (RefersTo column key then row) same tied.2)

  exchanged_keys : (x : Slots) (a b : RowRef) → HasRow x a → HasHidden x b → keys_by key x a b ≡ Equal → keys_by key (exchanged a b x) a b ≡ Equal
  exchanged_keys x a b has hidden same =
      let first : row_at (exchanged a b x) a ≡ row_at x b = ap (λ (c : Content). row_in c) (first_exchanged a b x) in
      let second : row_at (exchanged a b x) b ≡ row_at x a =
      ap (λ (c : Content). row_in c) (second_exchanged a b x (live_apart_hidden x a b has hidden)) in
      subst (λ (r : List Value). column_cmp key r (row_at (exchanged a b x) b) ≡ Equal) (sym first)
      (subst (λ (r : List Value). column_cmp key (row_at x b) r ≡ Equal) (sym second) (equal_turns key (row_at x a) (row_at x b) same))

  module _ (now then last : Slots) (ties : Ties) (before_it : Follows column key now then ties) (at_end : Follows column key now last ties)
      (apart : AreApart key last) where
    -- a row that is referred to after an edit was referred to before, if the edit is not undone or overwritten by the end of its command
    referred_before : (e : Edit) (r : RowRef) → last r ≡ step e then r → IsReferredTo column key now (step e then) r
        → IsReferredTo column key now then r
    referred_before e r stays (at, live, refers) =
        let late : RefersTo column key last (row_at now at) r = refers_moved (step e then) last (row_at now at) r stays refers in
        (at, live, tied_refers now then ties before_it at live r (one_target now last ties at_end apart at live r late))

    brings_made : (e : Edit) → ((r : RowRef) → (LeavesOut e r → ⊥) → last r ≡ step e then r) → Fits key then e
        → SparesReferred column key now then e → BringsUnreferred column key now (step e then) e
    brings_made (Stage r) stays fits spares = tt
    brings_made (Insert r) stays fits spares = λ here.
        let (at, live, refers) = referred_before (Insert r) r (stays r (λ out. out refl)) here in
        not_hidden then (row_at now at) r r refl fits refers
    brings_made (Update a b) stays fits spares = tt
    brings_made (Move a b) stays (has, hidden) spares = λ here.
        let same : keys_by key then a b ≡ Equal = spares (referred_before (Move a b) a (stays a (λ out. out.0 refl)) here) in
        exchanged_keys then a b has hidden same
    brings_made (Delete r) stays fits spares = tt

  -- each edit of a command that keeps the link has brought no row that was referred to
  pub Brings-command : (now then : Slots) (ties : Ties) (es : List Edit) → IsCommand key es then → All (SparesReferred column key now then) es
      → Follows column key now then ties → AreApart key (after es then)
      → StandsBack step_back (BringsUnreferred column key now) es (after es then)
  Brings-command now then ties [] command spares follows apart = tt
  Brings-command now then ties (e ∷ es) command spares follows apart =
      let mid : Slots = step e then in
      let last : Slots = after es mid in
      let rest : IsCommand key es mid = IsCommand-rest key e es then command in
      let spared : All (SparesReferred column key now mid) es = spares_rest now then e es command spares in
      let mid_follows : Follows column key now mid ties =
      Follows-step now then ties e (All-head (Fits key then) e es command.fits) (All-head (SparesReferred column key now then) e es spares) follows in
      let at_end : Follows column key now last ties = Follows-after now mid ties es rest spared mid_follows in
      let here : BringsUnreferred column key now mid e =
      brings_made now then last ties follows at_end apart e
      (λ r named. after_leaves es mid r (all_leave e es r (first_apart e es command.apart) named))
      (All-head (Fits key then) e es command.fits) (All-head (SparesReferred column key now then) e es spares) in (
        Brings-command now mid ties es rest spared mid_follows apart,
        subst (λ (s : Slots). BringsUnreferred column key now s e) (sym (before-after key es mid rest)) here,
      )
