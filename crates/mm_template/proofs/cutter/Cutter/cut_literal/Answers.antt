use Rattle.std.proofs.Common.{[], ◌∷◌, ◌++◌, ap, sym, ◌∙◌}
use Rattle.mm_template.proofs.Cuts.{if_some}
use Rattle.mm_template.proofs.cutter.Cutter.cut_literal.Goals as goal

pub returns : goal.returns
returns c =
    if_some c.push_hole.result
    (λ hole.
    record {
      value = c.in-Ok.value;
      spelled = c.in-Ok.ensures.ok.0;
      no_word = sym c.begins_word.ensures ∙ c.if-begins_word.false;
      no_text = sym c.begins_text.ensures ∙ c.if-begins_text.false;
      template =
          hole.template
          ∙ ap (λ l. l ++ 63 ∷ []) (c.in_ok-keep.ensures.template ∙ ap (λ l. l ++ c.args.kept.now) c.in_ok-push_value.ensures.0);
      values = hole.values ∙ c.in_ok-keep.ensures.values ∙ c.in_ok-push_value.ensures.1;
    })
    c.push_hole.ensures
