-- Rows that change places in pairs, and the indexes over them.
use Rattle.std.proofs.Common.{◌≡◌, ◌≢◌, ℕ, ◌+◌, ◌<◌, ◌≤◌, ◌⊎◌, inl, inr, ⊎_elim, Bool, true, List, [], ◌∷◌}
use Rattle.std.proofs.Common.{length, length-take, take, get_or, sym, ap, ap₂, ◌∙◌, subst, arith}
use Rattle.std.specs.Prelude.{slice_get, Result, Ok, Err, OnErr, is_err}
use Rattle.std.specs.List.{All, Contains}
use Rattle.std.specs.declared.cmp.Ordering.TheVariants.{Equal}
use Rattle.std.proofs.lemmas.List.{get_or-take, get_or_default, take_all}
use Rattle.std.proofs.lemmas.List.Elements.{All-nil, All-cons, All-more, All-contains}
use Rattle.std.proofs.lemmas.List.Elements.{Contains-get_or, Contains-append_left, Contains-append_right, Contains-push}
use Rattle.mm_value.specs.declared.col_type.ColType.{ColType}
use Rattle.mm_value.specs.declared.row_ref.RowRef.{RowRef}
use Rattle.mm_value.specs.declared.values.Value.{Value}
use Rattle.mm_schema.specs.Rows.{column_cmp, same_in_column}
use Rattle.mm_schema.proofs.Orderings.{equal_from_is_eq}
use Rattle.mm_partition.specs.Places.{Live, Hidden, row_in}
use Rattle.mm_row_order.specs.Refs.{Slots, HasRow, HasHidden, IsWide, row_at}
use Rattle.mm_indexed.specs.Exchanges.{AgreeIn, ArePairs, ExchangesAll, Follows, HasExchanged}
use Rattle.mm_indexed.specs.Index.{Keeps, EachTurns, column_of, tie_column}
use Rattle.mm_indexed.specs.Kept.{IsKept, SameTable, StoredRows, UsesRoom}
use Rattle.mm_indexed.specs.Twins.{keys_by}
use Rattle.mm_indexed.specs.declared.exchange.Exchange.{Exchange}
use Rattle.mm_indexed.specs.declared.indexes.index.Index.{Index}
use Rattle.mm_indexed.specs.declared.indexes.index.Index.TheVariants.{Tree, Hash}
use Rattle.mm_indexed.proofs.Entries.{wide_from}
use Rattle.mm_indexed.proofs.Levels.{IsLevel, InOrder-level, Keeps-level, one_value}
use Rattle.mm_indexed.proofs.RefTests.{same_or_apart}
use Rattle.mm_indexed.proofs.Steps.{Typed, live_not_hidden}
use Rattle.mm_indexed.proofs.Turning.{All-turned, EachTurns-twice}

-- a pair names no slot of a reference
abbrev LeavesOut : RowRef → Exchange → Type 0
LeavesOut r e = (e.at ≢ r) × (e.other ≢ r)

-- two pairs have no slot in common
abbrev AreDisjoint : Exchange → Exchange → Type 0
AreDisjoint e f = LeavesOut f.at e × LeavesOut f.other e

-- ---- one pair more

module _ (old mid : Slots) (exchanges : List Exchange) (i : ℕ) (d : Exchange) (within : i < length exchanges) (pairs : ArePairs old exchanges)
    (was : ExchangesAll old mid (take i exchanges)) where
  abbrev e : Exchange
  e = get_or exchanges i d

  apart_before : All (λ x. AreDisjoint x e) (take i exchanges)
  apart_before k f below =
      let before : k < i = omega (arith, below, length-take i exchanges) in
      let there : k < length exchanges = omega arith in
      let x : Exchange = get_or exchanges k d in
      let is : get_or (take i exchanges) k f ≡ x = get_or-take i exchanges k f before ∙ get_or_default exchanges k f d there in
      let apart = pairs.apart k i d before within in
      subst (λ y. AreDisjoint y e) (sym is) (
        (apart.0, λ same. live_not_hidden old e.at x.other (pairs.live i d within) (pairs.hidden k d there) (sym same)),
        (live_not_hidden old x.at e.other (pairs.live k d there) (pairs.hidden i d within), apart.1),
      )

  pub at_stays : mid e.at ≡ old e.at
  at_stays = was.others e.at (λ k f below. (apart_before k f below).0)

  pub other_stays : mid e.other ≡ old e.other
  other_stays = was.others e.other (λ k f below. (apart_before k f below).1)

  pub next_live : HasRow mid e.at
  next_live = ((pairs.live i d within).0, at_stays ∙ (pairs.live i d within).1)

  pub next_hidden : HasHidden mid e.other
  next_hidden = ((pairs.hidden i d within).0, other_stays ∙ (pairs.hidden i d within).1)

  pub next_key : (key own : ℕ) → own ≡ key → All (λ x. keys_by key old x.at x.other ≡ Equal) exchanges → keys_by own mid e.at e.other ≡ Equal
  next_key key own is same =
      subst (λ c. keys_by c mid e.at e.other ≡ Equal) (sym is)
      (ap₂ (λ a b. column_cmp key (row_in a) (row_in b)) at_stays other_stays ∙ same i d within)

  module _ (new : Slots) (x y : List Value) (live : mid e.at ≡ Live x) (hidden : mid e.other ≡ Hidden y) (first : new e.at ≡ Live y)
      (second : new e.other ≡ Hidden x) (others : (r : RowRef) → r ≢ e.at → r ≢ e.other → new r ≡ mid r) where
    pairs_so_far : All (HasExchanged old new) (take i exchanges)
    pairs_so_far k f below =
        let x : Exchange = get_or (take i exchanges) k f in
        let apart : AreDisjoint x e = apart_before k f below in
        let done : HasExchanged old mid x = was.pairs k f below in
        (others x.at apart.0.0 apart.1.0 ∙ done.0, others x.other apart.0.1 apart.1.1 ∙ done.1)

    this_pair : HasExchanged old new e
    this_pair = (
      first ∙ ap (λ c. Live (row_in c)) (sym hidden ∙ other_stays),
      second ∙ ap (λ c. Hidden (row_in c)) (sym live ∙ at_stays),
    )

    leaves_more : (r : RowRef) → All (LeavesOut r) (take (i + 1) exchanges) → All (LeavesOut r) (take i exchanges) × LeavesOut r e
    leaves_more r out = (
      λ k f below.
          let before : k < i = omega (arith, below, length-take i exchanges) in
          subst (LeavesOut r) (get_or-take (i + 1) exchanges k f (omega arith) ∙ sym (get_or-take i exchanges k f before))
          (out k f (omega (arith, within, length-take (i + 1) exchanges))),
      subst (LeavesOut r) (get_or-take (i + 1) exchanges i d (omega arith)) (out i d (omega (arith, within, length-take (i + 1) exchanges))),
    )

    pub exchanged_more : ExchangesAll old new (take (i + 1) exchanges)
    exchanged_more = record {
      pairs = All-more (HasExchanged old new) exchanges i d within pairs_so_far this_pair;
      others = λ r out.
          let parts = leaves_more r out in
          others r (λ same. parts.1.0 (sym same)) (λ same. parts.1.1 (sym same)) ∙ was.others r parts.0;
    }

-- ---- all pairs

abbrev Names : RowRef → Exchange → Type 0
Names r e = (e.at ≡ r) ⊎ (e.other ≡ r)

named_or_not : (exchanges : List Exchange) (r : RowRef) → ((e : Exchange) × Contains exchanges e × Names r e) ⊎ All (LeavesOut r) exchanges
named_or_not [] r = inr (All-nil (LeavesOut r))
named_or_not (e ∷ es) r =
    let here : Contains (e ∷ es) e = Contains-append_left (e ∷ []) es e (Contains-push [] e) in
    ⊎_elim
    (λ (same : e.at ≡ r). inl (e, here, inl same))
    (λ (apart : e.at ≢ r).
    ⊎_elim
    (λ (same : e.other ≡ r). inl (e, here, inr same))
    (λ (away : e.other ≢ r).
    ⊎_elim
    (λ (found : (f : Exchange) × Contains es f × Names r f). inl (found.0, Contains-append_right (e ∷ []) es found.0 found.1, found.2))
    (λ (none : All (LeavesOut r) es). inr (All-cons (LeavesOut r) e es (apart, away) none))
    (named_or_not es r))
    (same_or_apart e.other r))
    (same_or_apart e.at r)

module _ (old new : Slots) (exchanges : List Exchange) (pairs : ArePairs old exchanges) (changes : ExchangesAll old new exchanges) where
  is_live : (e : Exchange) → Contains exchanges e → HasRow old e.at
  is_live e here = All-contains (λ x. HasRow old x.at) exchanges e pairs.live here

  is_hidden : (e : Exchange) → Contains exchanges e → HasHidden old e.other
  is_hidden e here = All-contains (λ x. HasHidden old x.other) exchanges e pairs.hidden here

  is_exchanged : (e : Exchange) → Contains exchanges e → HasExchanged old new e
  is_exchanged e here = All-contains (HasExchanged old new) exchanges e changes.pairs here

  pub now_live : All (λ e. HasRow new e.at) exchanges
  now_live k d within = (row_at old (get_or exchanges k d).other, (changes.pairs k d within).0)

  pub now_hidden : All (λ e. HasHidden new e.other) exchanges
  now_hidden k d within = (row_at old (get_or exchanges k d).at, (changes.pairs k d within).1)

  pub pairs_still : ArePairs new exchanges
  pairs_still = record { live = now_live; hidden = now_hidden; apart = pairs.apart }

  pub live_after : (r : RowRef) → HasRow old r → HasRow new r
  live_after r in_use =
      ⊎_elim
      (λ (found : (e : Exchange) × Contains exchanges e × Names r e).
      ⊎_elim
      (λ (same : found.0.at ≡ r). (row_at old found.0.other, ap new (sym same) ∙ (is_exchanged found.0 found.1).0))
      (λ (same : found.0.other ≡ r). absurd (live_not_hidden old r found.0.other in_use (is_hidden found.0 found.1) (sym same)))
      found.2)
      (λ (none : All (LeavesOut r) exchanges). (in_use.0, changes.others r none ∙ in_use.1))
      (named_or_not exchanges r)

  pub live_before : (r : RowRef) → HasRow new r → HasRow old r
  live_before r in_use =
      ⊎_elim
      (λ (found : (e : Exchange) × Contains exchanges e × Names r e).
      ⊎_elim
      (λ (same : found.0.at ≡ r). subst (HasRow old) same (is_live found.0 found.1))
      (λ (same : found.0.other ≡ r).
      absurd (live_not_hidden new r found.0.other in_use (row_at old found.0.at, (is_exchanged found.0 found.1).1) (sym same)))
      found.2)
      (λ (none : All (LeavesOut r) exchanges). (in_use.0, sym (changes.others r none) ∙ in_use.1))
      (named_or_not exchanges r)

  -- if the pairs agree in a column, each row in use keeps its value there
  abbrev OneValue : ℕ → Exchange → Type 0
  OneValue column e = slice_get (row_at old e.at) column ≡ slice_get (row_at old e.other) column

  value_stays : (column : ℕ) → All (OneValue column) exchanges → (r : RowRef) → HasRow old r
      → slice_get (row_at new r) column ≡ slice_get (row_at old r) column
  value_stays column agree r in_use =
      ⊎_elim
      (λ (found : (e : Exchange) × Contains exchanges e × Names r e).
      let e : Exchange = found.0 in
      ⊎_elim
      (λ (same : e.at ≡ r).
      let row : row_at new e.at ≡ row_at old e.other = ap row_in (is_exchanged e found.1).0 in
      subst (λ x. slice_get (row_at new x) column ≡ slice_get (row_at old x) column) same
      (ap (λ xs. slice_get xs column) row ∙ sym (All-contains (OneValue column) exchanges e agree found.1)))
      (λ (same : e.other ≡ r). absurd (live_not_hidden old r e.other in_use (is_hidden e found.1) (sym same)))
      found.2)
      (λ (none : All (LeavesOut r) exchanges). ap (λ c. slice_get (row_in c) column) (changes.others r none))
      (named_or_not exchanges r)

  agree_before : (column : ℕ) → AgreeIn column new exchanges → All (OneValue column) exchanges
  agree_before column agree k d within =
      let e : Exchange = get_or exchanges k d in
      let done : HasExchanged old new e = changes.pairs k d within in
      let value : slice_get (row_at new e.at) column ≡ slice_get (row_at new e.other) column =
      one_value column (row_at new e.at) (row_at new e.other)
      (equal_from_is_eq (column_cmp column (row_at new e.at) (row_at new e.other)) (agree k d within)) in
      ap (λ c. slice_get (row_in c) column) (sym done.1) ∙ (sym value ∙ ap (λ c. slice_get (row_in c) column) done.0)

  -- ---- the same exchange again
  content_back : (e : Exchange) → Contains exchanges e → (last : Slots) → HasExchanged new last e → (last e.at ≡ old e.at) × (last e.other ≡ old e.other)
  content_back e here last again =
      let done : HasExchanged old new e = is_exchanged e here in
      let live : HasRow old e.at = is_live e here in
      let hidden : HasHidden old e.other = is_hidden e here in (
        again.0 ∙ (ap Live (ap row_in done.1) ∙ (ap Live (ap row_in live.1) ∙ sym live.1)),
        again.1 ∙ (ap Hidden (ap row_in done.0) ∙ (ap Hidden (ap row_in hidden.1) ∙ sym hidden.1)),
      )

  pub exchanged_back : (last : Slots) → ExchangesAll new last exchanges → (r : RowRef) → last r ≡ old r
  exchanged_back last again r =
      ⊎_elim
      (λ (found : (e : Exchange) × Contains exchanges e × Names r e).
      let both = content_back found.0 found.1 last (All-contains (HasExchanged new last) exchanges found.0 again.pairs found.1) in
      ⊎_elim
      (λ (same : found.0.at ≡ r). subst (λ x. last x ≡ old x) same both.0)
      (λ (same : found.0.other ≡ r). subst (λ x. last x ≡ old x) same both.1)
      found.2)
      (λ (none : All (LeavesOut r) exchanges). again.others r none ∙ changes.others r none)
      (named_or_not exchanges r)

  -- ---- the indexes

  module _ (types new_types : List ColType) (same_types : new_types ≡ types) (key : ℕ) (refs : List RowRef) (indexes : List Index)
      (was : IsKept types key old refs indexes) (typed : Typed new_types new)
      (keys : All (λ e. keys_by key old e.at e.other ≡ Equal) exchanges) where
    key_now : key < length new_types
    key_now = subst (λ ts. key < length ts) (sym same_types) was.key_in

    refs_live : (k : ℕ) (d : RowRef) → k < length refs → HasRow old (get_or refs k d)
    refs_live k d within = (was.held (get_or refs k d)).0 (Contains-get_or refs k d within)

    pub refs_live_now : All (HasRow new) refs
    refs_live_now k d within = live_after (get_or refs k d) (refs_live k d within)

    key_agrees : All (OneValue key) exchanges
    key_agrees k d within =
        let e : Exchange = get_or exchanges k d in one_value key (row_at old e.at) (row_at old e.other) (keys k d within)

    level : (column : ℕ) → All (OneValue column) exchanges → (tie : ℕ) → All (OneValue tie) exchanges → All (IsLevel column tie old new) refs
    level column agree tie ties k d within =
        let r : RowRef = get_or refs k d in
        let in_use : HasRow old r = refs_live k d within in
        (value_stays column agree r in_use, value_stays tie ties r in_use)

    wide : (column : ℕ) → column < length new_types → All (IsWide column key new) refs
    wide column within k d below =
        let r : RowRef = get_or refs k d in wide_from new_types column key new r (refs_live_now k d below) (typed r) within key_now

    tie_agrees : (x : Index) → All (OneValue (column_of x)) exchanges → All (OneValue (tie_column key x)) exchanges
    tie_agrees (Tree column tree) agree = key_agrees
    tie_agrees (Hash column pairs_of) agree = agree

    keeps_after : (x y : Index) → (column_of x < length types) × Keeps key old refs x → Follows key new refs exchanges x y
        → (column_of y < length new_types) × Keeps key new refs y
    keeps_after x y (column_in, keeps) follows =
        let in_old : column_of y < length types = omega (arith, column_in, follows.same.0) in
        let in_new : column_of y < length new_types = subst (λ ts. column_of y < length ts) (sym same_types) in_old in (
          in_new,
          ⊎_elim
              (λ (stays : (y ≡ x) × AgreeIn (column_of x) new exchanges).
              let agree : All (OneValue (column_of x)) exchanges = agree_before (column_of x) stays.1 in
              let x_in : column_of x < length new_types = subst (λ z. column_of z < length new_types) stays.0 in_new in
              subst (Keeps key new refs) (sym stays.0)
              (Keeps-level key old new refs x (level (column_of x) agree (tie_column key x) (tie_agrees x agree)) (wide (column_of x) x_in) keeps))
              (λ (anew : Keeps key new refs y). anew)
              follows.entries,
        )

    pub IsKept-exchanged_all : (full : List Index) → EachTurns (Follows key new refs exchanges) indexes full → IsKept new_types key new refs full
    IsKept-exchanged_all full turned =
        let both : All (λ y. (column_of y < length new_types) × Keeps key new refs y) full =
        All-turned (Follows key new refs exchanges) (λ x. (column_of x < length types) × Keeps key old refs x)
        (λ y. (column_of y < length new_types) × Keeps key new refs y) indexes full turned keeps_after
        (λ k d within. (was.columns k d within, was.keep k d within)) in
        record {
          key_in = key_now;
          columns = λ k d within. (both k d within).0;
          typed = typed;
          held = λ r. (λ here. live_after r ((was.held r).0 here), λ live. (was.held r).1 (live_before r live));
          by_key = InOrder-level key key old new refs (level key key_agrees key key_agrees) (wide key key_now) was.by_key;
          keep = λ k d within. (both k d within).1;
        }

-- ---- the rest of the table stays

pub SameTable-twice : (n m : ℕ) (old mid new : StoredRows) → SameTable 0 n old mid → SameTable 0 m mid new → SameTable 0 (n + m) old new
SameTable-twice n m old mid new first second = record {
  key = second.key ∙ first.key;
  types = second.types ∙ first.types;
  spare = omega (arith, first.spare, second.spare);
  indexes =
      EachTurns-twice (UsesRoom n) (UsesRoom m) (UsesRoom (n + m))
      (λ x y z f s. record { same = (s.same.0 ∙ f.same.0, s.same.1 ∙ f.same.1); spare = omega (arith, f.spare, s.spare) })
      old.indexes mid.indexes new.indexes first.indexes second.indexes;
}

-- ---- pairs that agree

pub agree_more : (column : ℕ) (now : Slots) (exchanges : List Exchange) (i : ℕ) (d : Exchange) → i < length exchanges
    → AgreeIn column now (take i exchanges)
    → (same : Bool) → same ≡ same_in_column column (row_at now (get_or exchanges i d).at) (row_at now (get_or exchanges i d).other)
    → same ≡ true → AgreeIn column now (take (i + 1) exchanges)
agree_more column now exchanges i d within was same is held =
    All-more (λ e. same_in_column column (row_at now e.at) (row_at now e.other) ≡ true) exchanges i d within was (sym is ∙ held)

pub agree_all : (column : ℕ) (now : Slots) (exchanges : List Exchange) (i : ℕ) → length exchanges ≤ i → AgreeIn column now (take i exchanges)
    → AgreeIn column now exchanges
agree_all column now exchanges i past was = subst (AgreeIn column now) (take_all i exchanges past) was

-- ---- slots that are as before

pub pairs_unchanged : (old new : Slots) (exchanges : List Exchange) → ((r : RowRef) → new r ≡ old r) → ArePairs old exchanges → ArePairs new exchanges
pairs_unchanged old new exchanges same pairs = record {
  live = λ k d within. ((pairs.live k d within).0, same (get_or exchanges k d).at ∙ (pairs.live k d within).1);
  hidden = λ k d within. ((pairs.hidden k d within).0, same (get_or exchanges k d).other ∙ (pairs.hidden k d within).1);
  apart = pairs.apart;
}

pub after_error : {T E : Type 0} {P : Type 0} (r : Result T E) → is_err r ≡ true → OnErr r P → P
after_error (Ok x) refused holds = let no : ⊥ = cc in absurd no
after_error (Err e) refused holds = holds
