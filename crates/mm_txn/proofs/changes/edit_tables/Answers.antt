-- The edits of tables are made, or none; and the lists follow them.
use Rattle.std.proofs.Common.{arith, rules, ◌≡◌, ◌∷◌, ◌++◌, ℕ, List, OnOk, map, refl, sym, ap, subst, ◌∙◌}
use Rattle.std.specs.Prelude.{Result}
use Rattle.std.proofs.lemmas.Grind.{common_steps}
use Rattle.std.specs.List.{All}
use Rattle.mm_indexed.specs.RowLists.{rows_of}
use Rattle.mm_schema.specs.Instance.{Instance}
use Rattle.mm_schema.specs.Refused.{AnswersDue, first_refusal}
use Rattle.mm_standing.specs.Queries.{change_conditions as list_conditions}
use Rattle.mm_standing.specs.State.{FitPrepared, Lists, count_at, count_now}
use Rattle.mm_store.proofs.Forms.{forms_twice}
use Rattle.mm_store.proofs.MarkLaws.{KeepsMarks-same, KeepsMarks-then}
use Rattle.mm_store.specs.Marks.{KeepsMarks, mark_of, rows_at_mark}
use Rattle.mm_store.specs.Tables.{Tables}
use Rattle.mm_value.specs.declared.refusal.Refusal.{Refusal}
use Rattle.mm_plan.specs.Kept.{instance_of}
use Rattle.mm_txn.specs.PlacedEdits.{FitsAt, edits_conditions, placed, rows_edited}
use Rattle.mm_txn.specs.Listed.{AreListed}
use Rattle.mm_txn.specs.Reads.{ReadsForLists}
use Rattle.mm_txn.specs.declared.edits.RelationEdits.{RelationEdits}
use Rattle.mm_txn.proofs.EachApplied.{both_due, first_ok, second_ok}
use Rattle.mm_txn.proofs.ListSteps.{listed_made, listed_still, same_at, same_counts}
use Rattle.mm_txn.proofs.ListedRows.{rows_as_they_were, rows_formed, rows_made}
use Rattle.mm_txn.proofs.changes.edit_tables.Goals as goal

pub prepare_lists-prepared-requires-clause-fit : goal.prepare_lists-prepared-requires-clause-fit
prepare_lists-prepared-requires-clause-fit c =
    subst (λ (es : List RelationEdits). All (FitsAt c.args.store.now) (placed c.args.edits.own ∷ map placed es)) (sym c.as_slice.ensures.value)
    c.requires.are.fit

pub returns-in-Err-clause-due : goal.returns-in-Err-clause-due
returns-in-Err-clause-due c =
    let store = c.args.store.now in
    let queries = c.args.standing.now.queries in
    let own = c.args.edits.own in
    let cascaded = c.args.edits.cascaded.items in
    λ stored at.
    let cs = edits_conditions store stored (placed own) (map placed cascaded) in
    let ds = list_conditions (rows_edited store (placed own ∷ map placed cascaded)) queries in
    subst (λ (r : Result Unit Refusal). AnswersDue {T = Unit {0}} (first_refusal (cs ++ ds)) r) (sym c.in-Err.ensures)
    (both_due c.apply_each.result c.prepare_lists-prepared.result cs ds (c.apply_each.ensures.due stored at)
    (subst (λ (es : List RelationEdits). AnswersDue {T = Unit {0}}
    (first_refusal (list_conditions (rows_edited store (placed own ∷ map placed es)) queries))
    c.prepare_lists-prepared.result) c.as_slice.ensures.value c.prepare_lists-prepared.ensures.due))

pub returns-clause-due : goal.returns-clause-due
returns-clause-due c =
    let store = c.args.store.now in
    let queries = c.args.standing.now.queries in
    let own = c.args.edits.own in
    let cascaded = c.args.edits.cascaded.items in
    λ stored at.
    let cs = edits_conditions store stored (placed own) (map placed cascaded) in
    let ds = list_conditions (rows_edited store (placed own ∷ map placed cascaded)) queries in
    subst (λ (r : Result Unit Refusal). AnswersDue {T = Unit {0}} (first_refusal (cs ++ ds)) r) (sym c.in_default-and.ensures)
    (both_due c.apply_each.result c.prepare_lists-prepared.result cs ds (c.apply_each.ensures.due stored at)
    (subst (λ (es : List RelationEdits). AnswersDue {T = Unit {0}}
    (first_refusal (list_conditions (rows_edited store (placed own ∷ map placed es)) queries))
    c.prepare_lists-prepared.result) c.as_slice.ensures.value c.prepare_lists-prepared.ensures.due))

pub returns-in-Err-Memory-clause-made : goal.returns-in-Err-Memory-clause-made
returns-in-Err-Memory-clause-made c = record {
  ok = search rules;
  err = rows_as_they_were c.args.store.now;
  links = search rules;
  kept = search rules;
  longer = search rules;
  marks = λ mark within. KeepsMarks-same c.args.store.now mark;
  listed = search rules;
  queries = search rules;
  log = search rules;
  log_longer = search rules;
  undone = search rules;
}

rows_back : (old mid new : Tables) (mark : ℕ) → KeepsMarks old mid mark → rows_at_mark mark old ≡ map rows_of old.tables
    → map rows_of new.tables ≡ rows_at_mark mark mid → instance_of new.tables ≡ instance_of old.tables
rows_back old mid new mark kept own rows = rows ∙ (kept.rows ∙ own)

pub returns-in-Err-clause-made : goal.returns-in-Err-clause-made
returns-in-Err-clause-made c =
    let store = c.args.store.now in
    let mid = c.apply_each.new.store in
    let new = c.revert.new.self in
    let mark = c.mark-mark.result in
    let is : mark ≡ mark_of store = c.mark-mark.ensures.mark in
    let rows = rows_back store mid new mark (c.apply_each.ensures.marks mark (omega (arith, is))) c.mark-mark.ensures.rows c.revert.ensures.rows in
    record {
      ok = search rules;
      err = rows_formed store new rows (forms_twice store.tables mid.tables new.tables c.apply_each.ensures.form c.revert.ensures.form);
      links = search rules;
      kept = c.revert.ensures.log ∙ is;
      longer = omega (arith, c.revert.ensures.log, is);
      marks = λ earlier within. KeepsMarks-then store mid new earlier (c.apply_each.ensures.marks earlier within)
          (c.revert.ensures.marks earlier (omega (arith, within, is)));
      listed = let prepared = c.prepare_lists-prepared.new.standing in
          subst (λ (r : Instance). AreListed r c.discard.new.self) (sym rows)
          (listed_still (instance_of store.tables) c.args.standing.now c.discard.new.self
          (ap (λ (l : Lists). l.queries) c.discard.ensures.rest ∙ c.prepare_lists-prepared.ensures.queries) c.requires.listed
          (λ list row. same_counts prepared c.discard.new.self c.discard.ensures.counts list row
          ∙ same_counts c.args.standing.now prepared c.prepare_lists-prepared.ensures.counts list row)
          (ap (λ (l : Lists). l.prepared) c.discard.ensures.rest));
      queries = search rules;
      log = search rules;
      log_longer = grind (arith, common_steps);
      undone = λ mark within list row.
          same_at mark c.prepare_lists-prepared.new.standing c.discard.new.self c.discard.ensures.counts
          (ap (λ (l : Lists). l.log) c.discard.ensures.rest) list row
          ∙ same_at mark c.args.standing.now c.prepare_lists-prepared.new.standing c.prepare_lists-prepared.ensures.counts
          c.prepare_lists-prepared.ensures.log list row;
    }

pub returns-clause-made : goal.returns-clause-made
returns-clause-made c = record {
  ok = search rules;
  err = search rules;
  links = search rules;
  kept = search rules;
  longer = search rules;
  marks = search rules;
  listed = let store = c.args.store.now in
      let all = placed c.args.edits.own ∷ map placed c.args.edits.cascaded.items in
      let after = rows_edited store all in
      let applied = c.apply_each.result in
      let prepared = c.prepare_lists-prepared.result in
      let lists = c.prepare_lists-prepared.new.standing in
      let u = c.in_default-and.field-0 in
      let both = sym c.in_default-and.ensures in
      listed_made c.args.standing.now lists c.apply_prepared.new.self c.prepare_lists-prepared.ensures.counts c.apply_prepared.ensures.made
      (instance_of c.apply_each.new.store.tables) after
      (rows_made store c.apply_each.new.store all (first_ok applied prepared u both c.apply_each.ensures.ok))
      (second_ok applied prepared u both
      (subst (λ (es : List RelationEdits). OnOk prepared (FitPrepared (rows_edited store (placed c.args.edits.own ∷ map placed es)) lists))
      c.as_slice.ensures.value c.prepare_lists-prepared.ensures.ok))
      c.apply_prepared.ensures.queries
      c.apply_prepared.ensures.prepared;
  queries = search rules;
  log = search rules;
  log_longer = grind (arith, common_steps);
  undone = search rules;
}

pub returns-in-Err-Memory-clause-reads : goal.returns-in-Err-Memory-clause-reads
returns-in-Err-Memory-clause-reads c =
    subst (λ (es : List RelationEdits). ReadsForLists c.args.store.now (placed c.args.edits.own ∷ map placed es) c.args.standing.now.queries
    c.prepare_lists-prepared.new.reads) c.as_slice.ensures.value c.prepare_lists-prepared.ensures.reads

pub returns-in-Err-clause-reads : goal.returns-in-Err-clause-reads
returns-in-Err-clause-reads c =
    subst (λ (es : List RelationEdits). ReadsForLists c.args.store.now (placed c.args.edits.own ∷ map placed es) c.args.standing.now.queries
    c.prepare_lists-prepared.new.reads) c.as_slice.ensures.value c.prepare_lists-prepared.ensures.reads

pub returns-clause-reads : goal.returns-clause-reads
returns-clause-reads c =
    subst (λ (es : List RelationEdits). ReadsForLists c.args.store.now (placed c.args.edits.own ∷ map placed es) c.args.standing.now.queries
    c.prepare_lists-prepared.new.reads) c.as_slice.ensures.value c.prepare_lists-prepared.ensures.reads
