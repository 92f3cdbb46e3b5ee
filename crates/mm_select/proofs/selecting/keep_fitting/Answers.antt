use Rattle.std.proofs.Common.{rules, ◌≡◌, ℕ, ◌+◌, ◌<◌, List, [], ◌∷◌, Bool, true, Some, drop, get_or, length, refl, sym, ap, ◌∙◌, subst, arith}
use Rattle.std.specs.List.{All, refill}
use Rattle.std.specs.Prelude.{slice_set}
use Rattle.std.proofs.lemmas.List.{get_or_default, length-set, take_at}
use Rattle.mm_partition.specs.Places.{IsLive}
use Rattle.mm_query.specs.Queries.{none_fails}
use Rattle.mm_indexed.proofs.Matches.{Keeping, Keeping-kept, Keeping-skipped, first_held}
use Rattle.mm_indexed.specs.Kept.{StoredRows}
use Rattle.mm_store.proofs.Joining.{some_at}
use Rattle.mm_store.specs.Tables.{IsAt, Tables}
use Rattle.mm_templist.specs.Combos.{row_of}
use Rattle.mm_value.specs.declared.row_ref.RowRef.{RowRef}
use Rattle.mm_select.specs.Accesses.{AreAlong, is_along}
use Rattle.mm_select.specs.declared.access.Access.{Access}
use Rattle.mm_select.proofs.Covered.{IsCandidate, all_match, candidates, kept_match}
use Rattle.mm_select.proofs.selecting.keep_fitting.Goals.{After-deref, then-admits, else-admits}
use Rattle.mm_select.proofs.selecting.keep_fitting.Goals as goal

-- Live references found along an access path are candidates.
all_candidates : (store : Tables) (table : ℕ) (access : Access) (found : List RowRef) → table < length store.tables
    → ((stored : StoredRows) → IsAt store table stored → AreAlong stored access found)
    → ((stored : StoredRows) → IsAt store table stored → All (IsLive stored.places) found) → All (IsCandidate store table access) found
all_candidates store table access found there along live =
    let (stored, here) = some_at store.tables table there in
    candidates store table stored here access found (along stored here) (live stored here)

-- Overwriting the elements of a list by those of the list with one element set gives the latter list.
refill_set : (refs : List RowRef) (i : ℕ) (at : RowRef) → refill (length refs) refs (slice_set refs i at) ≡ slice_set refs i at
refill_set refs i at = take_at (slice_set refs i at) (drop (length (slice_set refs i at)) refs) (length refs) (length-set refs i at)

abbrev none : RowRef
none = record { slot = 0 }

-- the next reference
abbrev next : After-deref → RowRef
next c = get_or c.deref.result.now c.loop-i.i none

next_is : (c : After-deref) → next c ≡ get_or c.loop-i.found.items c.loop-i.i (next c)
next_is c =
    let size = c.loop-i.invariant.keeping.size in
    ap (λ xs. get_or xs c.loop-i.i none) c.deref.ensures ∙ get_or_default c.loop-i.found.items c.loop-i.i none (next c) (omega arith)

next_candidate : (c : After-deref) → IsCandidate c.args.view.now.store c.args.table c.args.access (next c)
next_candidate c =
    let store = c.args.view.now.store in
    let size = c.loop-i.invariant.keeping.size in
    first_held (λ at. none_fails c.args.atoms.now (Some (row_of store c.args.table at) ∷ [])) (IsCandidate store c.args.table c.args.access) 0
    c.args.found.now.items c.loop-i.found.items c.loop-i.kept c.loop-i.i c.loop-i.invariant.keeping (next c) (omega arith) (next_is c)

pub loop-i-init : goal.loop-i-init
loop-i-init c = record {
  same = refl;
  keeping = record {
    size = refl;
    behind = omega arith;
    held = all_candidates c.args.view.now.store c.args.table c.args.access c.args.found.now.items c.requires.there c.requires.along c.requires.live;
    result = refl;
  };
  reads = omega arith;
}

pub admits-requires-clause-live : goal.admits-requires-clause-live
admits-requires-clause-live c = λ stored there.
    (next_candidate (goal.at.admits-requires-clause-live c).After-deref).0 stored
    (subst (λ (s : Tables). IsAt s c.args.table stored) c.loop-i.invariant.same there)

pub admits-requires-clause-along : goal.admits-requires-clause-along
admits-requires-clause-along c =
    let deref = (goal.at.admits-requires-clause-along c).After-deref in
    subst (λ (s : Tables). is_along c.args.access (row_of s c.args.table (next deref)) ≡ true) (sym c.loop-i.invariant.same) (next_candidate deref).1

pub loop-i-preserved : goal.loop-i-preserved
loop-i-preserved c =
    let store = c.args.view.now.store in
    let table = c.args.table in
    let old = c.args.found.now.items in
    let out = c.loop-i.found.items in
    let reached = (goal.at.loop-i-preserved c).After-deref in
    let at = next reached in
    let p : RowRef → Bool = λ x. none_fails c.args.atoms.now (Some (row_of store table x) ∷ []) in
    let P : RowRef → Type 0 = IsCandidate store table c.args.access in
    let size = c.loop-i.invariant.keeping.size in
    let within : c.loop-i.i < length out = omega arith in
    let told : p at ≡ c.admits.result =
    ap (λ (s : Tables). none_fails c.args.atoms.now (Some (row_of s table at) ∷ [])) (sym c.loop-i.invariant.same) ∙ sym c.admits.ensures.told in
    record {
      same = c.admits.ensures.same ∙ c.loop-i.invariant.same;
      reads = omega (arith, c.admits.ensures.reads, c.loop-i.invariant.reads);
      keeping = elim c.if-admits.branch [
        | then-admits w ↦
            rw (w.found-is, w.kept-is)
            (subst (λ l. Keeping p P 0 old l (c.loop-i.kept + 1) (c.loop-i.i + 1))
            (sym (ap (λ l. refill (length out) out (slice_set l c.loop-i.kept at)) w.deref_mut.ensures.value ∙ refill_set out c.loop-i.kept at))
            (Keeping-kept p P 0 old out c.loop-i.kept c.loop-i.i c.loop-i.invariant.keeping at within (next_is reached) (told ∙ w.if-admits.true)))
        | else-admits w ↦
            rw (w.found-is, w.kept-is)
            (Keeping-skipped p P 0 old out c.loop-i.kept c.loop-i.i c.loop-i.invariant.keeping at within (next_is reached) (told ∙ w.if-admits.false))
      ];
    }

pub returns-then-not-asks-clause-found : goal.returns-then-not-asks-clause-found
returns-then-not-asks-clause-found c =
    sym (all_match c.args.view.now.store c.args.table c.args.access c.args.atoms.now c.args.found.now.items
    (all_candidates c.args.view.now.store c.args.table c.args.access c.args.found.now.items c.requires.there c.requires.along c.requires.live) (search rules))

pub returns-clause-found : goal.returns-clause-found
returns-clause-found c =
    let store = c.args.view.now.store in
    let size = c.loop-i.invariant.keeping.size in
    c.truncate.ensures.items
    ∙ kept_match (λ x. none_fails c.args.atoms.now (Some (row_of store c.args.table x) ∷ [])) (IsCandidate store c.args.table c.args.access)
    c.args.found.now.items c.loop-i.found.items c.loop-i.kept c.loop-i.i c.loop-i.invariant.keeping
    (omega (arith, size, c.len-i-end.ensures.value, c.loop-i-test.false))
