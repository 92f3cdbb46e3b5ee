-- A case remains one through its steps, and so do its marks.
use Rattle.std.proofs.Common.{◌≡◌, ℕ, pos, ◌≤◌, List, [], ◌∷◌, ◌++◌, Some, drop, length, map, slice_get, slice_index_or, take, refl, sym, ap, subst, ◌∙◌, arith}
use Rattle.std.specs.List.{All, remove}
use Rattle.std.proofs.lemmas.List.Elements.{All-nil, All-push}
use Rattle.mm_multiset.specs.Counts.{Counts}
use Rattle.mm_delta.specs.Edited.{before_at}
use Rattle.mm_indexed.specs.Index.{EachTurns}
use Rattle.mm_indexed.specs.Kept.{StoredRows}
use Rattle.mm_indexed.specs.RowLists.{rows_of}
use Rattle.mm_standing.specs.Bags.{entries_at}
use Rattle.mm_standing.specs.Queries.{IsBagOf, IsServed, RowsByPlace, StandingQuery, bag_over}
use Rattle.mm_standing.specs.State.{AreServed, FitAt, FitNow, Lists, count_at, count_now}
use Rattle.mm_standing.specs.declared.change.RowChange.{RowChange}
use Rattle.mm_store.specs.Marks as marks
use Rattle.mm_store.specs.Marks.{KeepsMarks, rows_at_mark}
use Rattle.mm_store.specs.Tables.{SameForm, Tables}
use Rattle.mm_tables.specs.declared.log_record.LogRecord.{LogRecord}
use Rattle.mm_value.specs.declared.values.Value.{Value}
use Rattle.store_tests.specs.SampleStore.{ArePlain}
use Rattle.store_tests.proofs.PlainStores.{plain_formed}
use Rattle.standing_tests.specs.Cases.{HaveNumbers, IsCase, IsMark, IsWhole, rows_then}
use Rattle.standing_tests.proofs.ListCounts.{all_removed, count_last, counts_still, drop_all, fit_behind, fit_left, length_taken, served_still}
use Rattle.standing_tests.proofs.TableRows.{before_listed}

-- ---- steps of tables and lists

module _ (store new : Tables) (lists left : Lists) (queries : left.queries ≡ lists.queries) where
  -- Tables of the same form with lists that have the rows of the same queries are a case.
  pub case_still : IsCase store lists → length new.tables ≡ length store.tables → ArePlain new
      → (rows : RowsByPlace) → before_at new ≡ rows → HaveNumbers rows → FitNow rows left → left.prepared ≡ [] → IsCase new left
  case_still was many plain rows are typed fits ready = record {
    two = many ∙ was.two;
    plain = plain;
    typed = subst HaveNumbers (sym are) typed;
    served = served_still store new lists.queries left.queries many queries was.served;
    whole = subst (All IsWhole) (sym queries) was.whole;
    fits = subst (λ (r : RowsByPlace). FitNow r left) (sym are) fits;
    ready = ready;
  }

  -- A mark at which rows and counts are unchanged is still one.
  pub mark_still : (commands changes : ℕ) → KeepsMarks store new commands → changes ≤ length left.log
      → ((list : ℕ) (row : List Value) → count_at changes list row left ≡ count_at changes list row lists)
      → IsMark store lists commands changes → IsMark new left commands changes
  mark_still commands changes keeps changes_there counts was = record {
    commands_there = keeps.kept was.commands_there;
    changes_there = changes_there;
    typed = subst (λ (r : List (List (List Value))). HaveNumbers (λ place. slice_index_or r place [])) (sym keeps.rows) was.typed;
    fits = counts_still (λ list row. count_at changes list row lists) (λ list row. count_at changes list row left) (rows_then commands new)
        lists.queries left.queries queries counts
        (subst (λ (r : List (List (List Value))). FitAt changes (λ place. slice_index_or r place []) lists) (sym keeps.rows) was.fits);
  }

-- Lists that keep their counts and their queries leave a case.
pub case_listed : (store : Tables) (lists left : Lists) → left.queries ≡ lists.queries
    → ((list : ℕ) (row : List Value) → count_now left list row ≡ count_now lists list row) → left.prepared ≡ [] → IsCase store lists
    → IsCase store left
case_listed store lists left queries counts ready was =
    case_still store store lists left queries was refl was.plain (before_at store) refl was.typed
    (counts_still (count_now lists) (count_now left) (before_at store) lists.queries left.queries queries counts was.fits) ready

-- ---- rollbacks

module _ (store new : Tables) (lists left : Lists) (queries : left.queries ≡ lists.queries) (commands changes : ℕ)
    (log : left.log ≡ take changes lists.log)
    (counts : (mark : ℕ) → mark ≤ changes → (list : ℕ) (row : List Value) → count_at mark list row left ≡ count_at mark list row lists) where
  -- A case after a rollback to a mark is one.
  pub case_back : IsCase store lists → IsMark store lists commands changes → EachTurns SameForm store.tables new.tables
      → map (λ (s : StoredRows). rows_of s) new.tables ≡ rows_at_mark commands store → left.prepared ≡ [] → IsCase new left
  case_back was mark form rows ready =
      let size = form.size in
      let taken = length_taken lists.log changes mark.changes_there in
      let long = ap (λ (cs : List RowChange). length cs) log in
      let done : drop changes left.log ≡ [] = drop_all left.log changes (omega arith) in
      case_still store new lists left queries was (omega arith) (plain_formed store new form was.plain) (rows_then commands store)
      (before_listed new (rows_at_mark commands store) rows) mark.typed
      (counts_still (λ list row. count_at changes list row lists) (count_now left) (rows_then commands store) lists.queries left.queries queries
      (λ list row. sym (count_last left changes done list row) ∙ counts changes (omega arith) list row) mark.fits)
      ready

  -- The older marks still exist.
  pub mark_back : IsMark store lists commands changes → ((mark : ℕ) → mark ≤ commands → KeepsMarks store new mark)
      → (c h : ℕ) → c ≤ commands → h ≤ changes → IsMark store lists c h → IsMark new left c h
  mark_back mark keeps c h older earlier was =
      let taken = length_taken lists.log changes mark.changes_there in
      let long = ap (λ (cs : List RowChange). length cs) log in
      mark_still store new lists left queries c h (keeps c older) (omega arith) (counts h earlier) was

-- ---- marks

-- If a mark is at the ends of both logs, and its rows are the current ones, the lists are the current ones.
pub mark_now : (store : Tables) (lists : Lists) → IsCase store lists → (commands changes : ℕ) → marks.IsMark store commands
    → rows_at_mark commands store ≡ map (λ (s : StoredRows). rows_of s) store.tables → changes ≡ length lists.log → IsMark store lists commands changes
mark_now store lists was commands changes is rows changes_are =
    let done : drop changes lists.log ≡ [] = drop_all lists.log changes (omega arith) in
    let then : before_at store ≡ rows_then commands store = before_listed store (rows_at_mark commands store) (sym rows) in
    record {
      commands_there = is;
      changes_there = omega arith;
      typed = subst HaveNumbers then was.typed;
      fits = counts_still (count_now lists) (λ list row. count_at changes list row lists) (rows_then commands store) lists.queries lists.queries refl
          (count_last lists changes done) (subst (λ (r : RowsByPlace). FitNow r lists) then was.fits);
    }

-- If nothing can be undone, the start is a mark.
pub start_now : (store : Tables) (lists : Lists) → IsCase store lists → (mark : ℕ) → mark ≡ marks.mark_of store → marks.IsMark store mark
    → rows_at_mark mark store ≡ map (λ (s : StoredRows). rows_of s) store.tables → store.stored.log ≡ [] → lists.log ≡ [] → IsMark store lists 0 0
start_now store lists was mark at is rows settled log =
    let start : mark ≡ 0 = at ∙ ap (λ (l : List LogRecord). length l) settled in
    mark_now store lists was 0 0 (subst (marks.IsMark store) start is)
    (subst (λ m. rows_at_mark m store ≡ map (λ (s : StoredRows). rows_of s) store.tables) start rows)
    (sym (ap (λ (cs : List RowChange). length cs) log))

-- Without standing queries, tables of integers are a case.
pub case_none : (store : Tables) (lists : Lists) → length store.tables ≡ 2 → ArePlain store → HaveNumbers (before_at store)
    → lists.queries ≡ [] → lists.prepared ≡ [] → IsCase store lists
case_none store lists two plain typed none ready = record {
  two = two;
  plain = plain;
  typed = typed;
  served = subst (AreServed store) (sym none) (All-nil (IsServed store));
  whole = subst (All IsWhole) (sym none) (All-nil IsWhole);
  fits = λ list standing there.
      let at : slice_get {X = StandingQuery} [] list ≡ Some standing = subst (λ (qs : List StandingQuery). slice_get qs list ≡ Some standing) none there in cc;
  ready = ready;
}

-- ---- creating and dropping standing queries

-- With one more standing query and its rows, a case is still one.
pub case_watched : (store : Tables) (lists : Lists) (new : StandingQuery) (bag : Counts) → length lists.queries ≡ length lists.bags
    → IsServed store new → IsWhole new → IsBagOf bag.entries (bag_over (before_at store) new)
    → IsCase store lists → IsCase store (record lists { queries = lists.queries ++ new ∷ []; bags = lists.bags ++ bag ∷ [] })
case_watched store lists new bag many served whole is was = record {
  two = was.two;
  plain = was.plain;
  typed = was.typed;
  served = All-push (IsServed store) lists.queries new was.served served;
  whole = All-push IsWhole lists.queries new was.whole whole;
  fits = fit_behind (before_at store) lists.queries lists.bags new bag many was.fits is;
  ready = was.ready;
}

-- So it is with one less.
pub case_left : (store : Tables) (lists : Lists) (place : ℕ)
    → IsCase store lists → IsCase store (record lists { queries = remove lists.queries place; bags = remove lists.bags place })
case_left store lists place was = record {
  two = was.two;
  plain = was.plain;
  typed = was.typed;
  served = all_removed (IsServed store) lists.queries place was.served;
  whole = all_removed IsWhole lists.queries place was.whole;
  fits = fit_left (before_at store) lists.queries lists.bags place was.fits;
  ready = was.ready;
}

-- ---- the contents of a list

same_count : (n m : ℕ) → pos n ≡ pos m → n ≡ m
same_count n m e = cc

-- A list is the bag of its query.
pub list_is_bag : (store : Tables) (lists : Lists) → IsCase store lists → (place : ℕ) (s : StandingQuery)
    → slice_get lists.queries place ≡ Some s → IsBagOf (entries_at lists.bags place) (bag_over (before_at store) s)
list_is_bag store lists was place s at = λ row. same_count _ _ (was.fits place s at row)
