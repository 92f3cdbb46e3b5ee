-- Past its end a row counts as 0, which is not a text.
use Rattle.std.proofs.Common.{◌≡◌, ◌==◌, Bool, true, Some, None, cond, pos, sym, ap, ◌∙◌, arith}
use Rattle.std.specs.Option.{unwrap_or}
use Rattle.std.proofs.lemmas.Bool.Decides.{nat_tests}
use Rattle.std.proofs.lemmas.Option.{unwrap_or-slice_get}
use Rattle.mm_value.specs.declared.values.Value.TheVariants.{Int}
use Rattle.mm_query.specs.Atoms.{value_in}
use Rattle.mm_relevance.specs.Walks.{text_of}
use Rattle.mm_relevance.proofs.texts.known_text.Goals as goal

pub returns-in-None : goal.returns-in-None
returns-in-None g c =
    let row = g.R.AsRow.row c.args.row.now in
    let column = c.args.field.column in
    let here : (c.args.field.place == c.args.place) ≡ true = grind (arith, nat_tests) in
    ap (λ o. text_of (Some (unwrap_or o (Int (pos 0))))) c.in-None.ensures
    ∙ ap (λ v. text_of (Some v)) (unwrap_or-slice_get row column (Int (pos 0)))
    ∙ ap (λ (b : Bool). text_of (cond b (Some (value_in column row)) None)) (sym here)
