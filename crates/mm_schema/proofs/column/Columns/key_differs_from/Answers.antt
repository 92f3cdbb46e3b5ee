use Rattle.std.proofs.Common.{ap, ◌∙◌, arith}
use Rattle.mm_schema.specs.Columns.{differs_from_key}
use Rattle.mm_schema.proofs.Keys.{key_differs, key_within}
use Rattle.mm_schema.proofs.column.Columns.key_differs_from.Goals as goal

pub index-requires : goal.index-requires
index-requires c =
    omega (arith, c.self.inside.items.ok.0, c.self.invariant.1, key_within c.self.inside.items.items c.self.invariant.0)

pub returns : goal.returns
returns c =
    key_differs c.args.col_type c.self.inside.items.items c.self.inside.items.len c.self.inside.key c.index.result.now c.ne.result c.self.inside.items.ok.0
    c.self.invariant.0 c.self.invariant.1 c.index.ensures c.ne.ensures
    ∙ ap (differs_from_key c.args.col_type) c.self.view_is
