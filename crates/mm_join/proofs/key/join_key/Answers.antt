use Rattle.std.proofs.Common.{rules, ap, ◌∙◌, sym, FitsSigned, w64}
use Rattle.std.proofs.lemmas.Int.{to_z-of_z}
use Rattle.std.proofs.lemmas.Option.{IfSome_then}
use Rattle.std.specs.Prelude.{pos}
use Rattle.mm_query.specs.Atoms.{operand_of, shifted}
use Rattle.std.specs.Option.{option_map}
use Rattle.mm_join.proofs.JoinKeys.{column_is_sum, is_join}
use Rattle.mm_join.proofs.key.join_key.Goals as goal

pub returns-in-Column-clause-key : goal.returns-in-Column-clause-key
returns-in-Column-clause-key c =
    IfSome_then c.key_between.result c.key_between.ensures.key
    (λ key asks. is_join c.args.atom.now c.in-Equal.is c.in-Column.right (pos 0)
    (λ read. ap (operand_of read) c.in-Column.is ∙ column_is_sum (read c.in-Column.right)) c.args.place key asks)

pub returns-in-Shifted-clause-key : goal.returns-in-Shifted-clause-key
returns-in-Shifted-clause-key c =
    let fits : FitsSigned w64 c.in-Shifted.by = search rules in
    IfSome_then c.key_between-in-Shifted.result c.key_between-in-Shifted.ensures.key
    (λ key asks. is_join c.args.atom.now c.in-Equal.is c.in-Shifted.right _
    (λ read. ap (operand_of read) c.in-Shifted.is ∙ ap (λ z. option_map (shifted z) (read c.in-Shifted.right)) (sym (to_z-of_z w64 c.in-Shifted.by fits)))
    c.args.place key asks)
