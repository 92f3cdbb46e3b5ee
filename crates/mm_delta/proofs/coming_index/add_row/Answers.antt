use Rattle.std.proofs.Common.{Some, [], ◌∷◌, ◌++◌, cond, ap, ◌∙◌}
use Rattle.std.specs.Map.{lookup}
use Rattle.mm_value.specs.Equality.{same_value}
use Rattle.mm_delta.proofs.Under.{put_behind}
use Rattle.mm_delta.proofs.coming_index.add_row.Goals as goal

pub returns : goal.returns
returns c =
    let kept = c.in_ok-add_found.ensures.kept c.if-branch.false in
    put_behind c.args.value c.args.row c.args.rows.now.entries c.insert.new.self.entries c.push.new.self
    (λ q. c.in_ok-insert.ensures.updates.0 q ∙ (λ i. cond (same_value c.args.value q) (Some c.push.new.self)
    (lookup (same_value q) (kept i).entries)))
    [] (c.in_ok-push.ensures.items ∙ ap (λ l. l ++ c.args.row ∷ []) c.new-list.ensures.items)
    (c.in_ok-add_found.ensures.absent c.if-branch.false)
