-- The index is removed from the only table that had it.
use Rattle.std.proofs.Common.{Some, None, cond, slice_get, refl, sym, ap, ◌∙◌}
use Rattle.indexmap.specs.IndexMap.{with_value_at}
use Rattle.mm_value.specs.declared.refusal.Refusal.TheVariants.{NoSuchIndex}
use Rattle.mm_schema.specs.Schema.{Schema}
use Rattle.mm_schema.proofs.IndexLemmas.{has_at_place, lacks_nowhere, sound_without_index, view_without_index}
use Rattle.mm_schema.proofs.catalog.Catalog.drop_index.Goals as goal

pub returns-in_default-clause-due : goal.returns-in_default-clause-due
returns-in_default-clause-due c =
    ap (λ b. cond b (Some NoSuchIndex) None) (lacks_nowhere c.args.name.now c.args.self.now (sym c.place_with_index.ensures.place ∙ c.in_default.is))

pub invariant_of-self : goal.invariant_of-self
invariant_of-self c =
    sound_without_index c.args.name.now c.self.inside.tables c.args.self.now c.self.invariant c.self.view_is c.in-Some.place
    (sym c.place_with_index.ensures.place ∙ c.in-Some.is) c.index_mut.result.now c.index_mut.ensures.value c.remove.new.self _ refl c.remove.ensures

pub returns-clause-due : goal.returns-clause-due
returns-clause-due c =
    ap (λ b. cond b (Some NoSuchIndex) None)
    (has_at_place c.args.name.now c.args.self.now c.in-Some.place c.index_mut.result.now (sym c.place_with_index.ensures.place ∙ c.in-Some.is)
    (sym (ap (λ (s : Schema). slice_get s.tables c.in-Some.place) c.self.view_is) ∙ c.index_mut.ensures.value))

pub returns-clause-ok : goal.returns-clause-ok
returns-clause-ok c =
    view_without_index c.args.name.now c.self.inside.tables c.args.self.now c.self.invariant c.self.view_is c.in-Some.place
    (sym c.place_with_index.ensures.place ∙ c.in-Some.is) c.index_mut.result.now c.index_mut.ensures.value c.remove.new.self
    (with_value_at c.self.inside.tables c.in-Some.place (record c.index_mut.result.now { indexes = c.remove.new.self })) refl c.remove.ensures
