use Rattle.std.proofs.Common.{refl, inl, inr, sym, subst, ◌∙◌}
use Rattle.mmdb_c.specs.steps.Running.{ExplainsWith}
use Rattle.mmdb_c.specs.Calls.{ExplainsCells}
use Rattle.mmdb_c.proofs.Plans.{explains_cells, no_plan, refused_plan}
use Rattle.mmdb_c.proofs.library.Library.explain.Goals as goal

pub returns-in-Ok : goal.returns-in-Ok
returns-in-Ok c =
    let status = c.explain_values.result in let after = c.explain_values.new.session in let values = c.read_values.new.values.items in
    subst (λ before. ExplainsCells c.args.number c.args.cells.now status before after) c.self.view_is
    (explains_cells c.args.number c.args.cells.now values status c.self.inside.session after (c.in-Ok.ensures).ok
    (subst (λ vs. ExplainsWith c.args.number vs status c.self.inside.session after) c.as_slice.ensures.value c.explain_values.ensures))
