use Rattle.std.proofs.Common.{rules, not, filter, ap, ◌∙◌}
use Rattle.std.proofs.lemmas.Fn.{filter_same}
use Rattle.mm_schema.specs.Name.{same_name}
use Rattle.mm_schema.proofs.index.Indexes.remove.Goals as goal

pub returns : goal.returns
returns c =
    filter_same _ (λ index. not (same_name c.args.name.now index.name)) _ (λ x b f k. search rules) _ _ c.retain.ensures.filtered
    ∙ ap (filter (λ index. not (same_name c.args.name.now index.name))) c.self.view_is
