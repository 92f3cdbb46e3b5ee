use Rattle.std.proofs.Common.{◌≡◌, ℕ, List, ◌++◌, length, take, drop, sym, ap, ◌∙◌, subst}
use Rattle.std.proofs.Math.Seq.{take-append_seam, drop-append_seam}
use Rattle.std.specs.List.{All, filter}
use Rattle.mm_value.specs.declared.row_ref.RowRef.{RowRef}
use Rattle.mm_value.specs.Views.{value_of}
use Rattle.mm_partition.specs.Places.{slot_at}
use Rattle.mm_row_order.specs.InOrder.{HasColumn}
use Rattle.mm_indexed.specs.Reads.{has_value}
use Rattle.mm_indexed.proofs.Matches.{All-found, matches_found}
use Rattle.mm_indexed.proofs.indexes.hash_reads.copy_matches.Goals as goal

pub keep_matches-requires-clause-wide : goal.keep_matches-requires-clause-wide
keep_matches-requires-clause-wide c =
    let now = slot_at c.args.rows.now in
    let old : List RowRef = c.args.out.now.items in
    let found = c.in_ok-matches.ensures.ok in
    let items : drop c.len-before.result c.matches.new.out.items ≡ found.behind =
    ap (λ (n : ℕ). drop n c.matches.new.out.items) (c.len-before.ensures ∙ c.args.out.now.ok.0)
    ∙ (ap (λ (l : List RowRef). drop (length old) l) found.appends ∙ drop-append_seam old found.behind)
    in
    subst (All (HasColumn c.args.column now)) (sym items)
    (All-found c.args.column now c.args.pairs.now.entries c.requires.0 c.requires.2 c.hash64.result found.behind found.same_bag
    (HasColumn c.args.column now) c.requires.1)

pub returns-clause-ok : goal.returns-clause-ok
returns-clause-ok c = λ refs all.
    let now = slot_at c.args.rows.now in
    let old : List RowRef = c.args.out.now.items in
    let test = has_value c.args.column now (value_of c.args.value) in
    let found = c.in_ok-matches.ensures.ok in
    let front : take c.len-before.result c.matches.new.out.items ≡ old =
    ap (λ (n : ℕ). take n c.matches.new.out.items) (c.len-before.ensures ∙ c.args.out.now.ok.0)
    ∙ (ap (λ (l : List RowRef). take (length old) l) found.appends ∙ take-append_seam old found.behind)
    in
    let back : drop c.len-before.result c.matches.new.out.items ≡ found.behind =
    ap (λ (n : ℕ). drop n c.matches.new.out.items) (c.len-before.ensures ∙ c.args.out.now.ok.0)
    ∙ (ap (λ (l : List RowRef). drop (length old) l) found.appends ∙ drop-append_seam old found.behind)
    in (
      filter test found.behind,
      c.keep_matches.ensures
          ∙ (ap (λ (l : List RowRef). l ++ filter test (drop c.len-before.result c.matches.new.out.items)) front
          ∙ ap (λ (l : List RowRef). old ++ filter test l) back),
      matches_found c.args.column now c.args.pairs.now.entries refs all c.hash64.result found.behind found.same_bag (value_of c.args.value) c.hash64.ensures,
    )
