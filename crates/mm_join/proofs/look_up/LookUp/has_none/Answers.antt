use Rattle.std.proofs.Common.{◌≡◌, [], Some, map, pos, sym, ap, ◌∙◌, subst}
use Rattle.std.specs.Option.{unwrap_or}
use Rattle.mm_partition.specs.Places.{slot_at}
use Rattle.mm_query.specs.Atoms.{shifted}
use Rattle.mm_query.specs.Queries.{Partial, value_at}
use Rattle.mm_templist.specs.Combos.{rows_of_combo}
use Rattle.mm_value.specs.declared.values.Value.{Value}
use Rattle.mm_value.specs.declared.values.Value.TheVariants.{Int}
use Rattle.mm_join.proofs.Found.{none_along}
use Rattle.mm_join.proofs.JoinKeys.{shifted_by_0}
use Rattle.mm_join.proofs.Prefixed.{unwrapped}
use Rattle.mm_join.specs.Equated.{HaveMatches, sought}
use Rattle.mm_join.specs.AccessMethods.{IsAmong}
use Rattle.mm_join.proofs.look_up.LookUp.has_none.Goals as goal
use Rattle.mm_schema.proofs.ChangedRows.{not_true}

pub returns-in-Some-clause-none : goal.returns-in-Some-clause-none
returns-in-Some-clause-none c = λ no stored among.
    let key = c.args.self.now.key in
    let rows : Partial = map Some (rows_of_combo c.args.view.now.store c.args.outer.tables.now c.args.outer.refs.now) in
    let value : Value = unwrap_or (value_at rows key.field) (Int (pos 0)) in
    let own : sought key rows ≡ value = ap (λ by. shifted by value) (c.adds_nothing.ensures.0 c.if-not-adds_nothing.false) ∙ shifted_by_0 value in
    let (walk, same, is) = subst (IsAmong stored key.column) c.in-Walk.is among in
    subst (λ v. HaveMatches key.column (slot_at stored.places) v stored.refs []) (sym own)
    (none_along stored key.column value c.in-Some.prefix c.in-Walk.cursor walk same is
    (unwrapped (value_at rows key.field) c.in-Some.prefix c.in-Some.ensures.prefix) (c.has.ensures.none (not_true c.has.result no)))
