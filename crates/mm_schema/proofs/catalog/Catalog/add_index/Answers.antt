-- The index is appended to the table that it names.
use Rattle.std.proofs.Common.{is_none, inl, refl, sym, ap, ◌∙◌}
use Rattle.std.proofs.lemmas.Bool.{cond-true}
use Rattle.indexmap.specs.IndexMap.{with_value_at}
use Rattle.mm_schema.proofs.IndexLemmas.{only_memory, sound_after_push, view_same, view_with}
use Rattle.mm_schema.proofs.Places.{no_table, table_at_place}
use Rattle.mm_schema.proofs.catalog.Catalog.add_index.Goals as goal

pub returns-in_default-clause-due : goal.returns-in_default-clause-due
returns-in_default-clause-due c =
    inl (cond-true _ _ _ (ap is_none (no_table c.args.index.table c.args.self.now (sym c.place_of.ensures.place ∙ c.in_default.is))))

pub index_refusal-requires : goal.index_refusal-requires
index_refusal-requires c =
    table_at_place c.args.index.table c.args.self.now c.in-Some.place (sym c.in-Some.ensures.place) ∙ c.table_at.ensures

pub invariant_of-self : goal.invariant_of-self
invariant_of-self c =
    sound_after_push c.args.index c.self.inside.tables c.args.self.now c.self.invariant c.self.view_is c.in-Some.ensures.distinct
    (sym c.index_refusal.ensures ∙ c.in_default-index_refusal.is) c.in-Some.place (sym c.in-Some.ensures.place) c.index_mut.result.now
    c.index_mut.ensures.value c.push.new.self _ refl c.push.result c.push.ensures.ok c.push.ensures.err

pub returns-clause-due : goal.returns-clause-due
returns-clause-due c = only_memory _ c.push.result (sym c.index_refusal.ensures ∙ c.in_default-index_refusal.is) c.push.ensures.memory

pub returns-clause-ok : goal.returns-clause-ok
returns-clause-ok c =
    view_with c.args.index c.self.inside.tables c.args.self.now c.self.invariant c.self.view_is c.in-Some.ensures.distinct
    (sym c.index_refusal.ensures ∙ c.in_default-index_refusal.is) c.in-Some.place (sym c.in-Some.ensures.place) c.index_mut.result.now
    c.index_mut.ensures.value c.push.new.self
    (with_value_at c.self.inside.tables c.in-Some.place (record c.index_mut.result.now { indexes = c.push.new.self })) refl c.push.result c.push.ensures.ok

pub returns-clause-err : goal.returns-clause-err
returns-clause-err c =
    view_same c.args.index c.self.inside.tables c.args.self.now c.self.invariant c.self.view_is c.in-Some.ensures.distinct
    (sym c.index_refusal.ensures ∙ c.in_default-index_refusal.is) c.in-Some.place (sym c.in-Some.ensures.place) c.index_mut.result.now
    c.index_mut.ensures.value c.push.new.self
    (with_value_at c.self.inside.tables c.in-Some.place (record c.index_mut.result.now { indexes = c.push.new.self })) refl c.push.result c.push.ensures.err
