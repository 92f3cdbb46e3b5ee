use Rattle.std.proofs.Common.{◌≢◌, ◌≤◌, List, [], ◌∷◌, length, sym, subst}
use Rattle.std.specs.List.{AllByRecursion}
use Rattle.std.proofs.lemmas.List.Elements.{All-from_recursion, recursion_from_All}
use Rattle.mm_value.specs.declared.values.Value.{Value}
use Rattle.mm_dump.specs.Dumps.{FitsIfMany}
use Rattle.mm_dump.specs.Texts.{insert_text}
use Rattle.mm_dump.proofs.Grouped.{groups_fit, rows_in_lines}
use Rattle.mm_dump.proofs.laws.rows_are_put_in_lines.Goals as goal

pub returns-clause-groups : goal.returns-clause-groups
returns-clause-groups c = λ table rows.
    let lines = rows_in_lines table rows in (
      lines.groups,
      record { whole = lines.whole; some = All-from_recursion (λ (group : List (List Value)). group ≢ []) lines.groups lines.some },
      All-from_recursion (FitsIfMany table) lines.groups lines.short,
      lines.text_is,
    )

pub returns-clause-fit : goal.returns-clause-fit
returns-clause-fit c = λ table rows groups are short fit.
    let alone = recursion_from_All (λ (row : List Value). length (insert_text table (row ∷ [])) ≤ 4096) rows fit in
    All-from_recursion (λ (group : List (List Value)). length (insert_text table group) ≤ 4096) groups
    (groups_fit table groups (recursion_from_All (FitsIfMany table) groups short)
    (subst (AllByRecursion (λ (row : List Value). length (insert_text table (row ∷ [])) ≤ 4096)) (sym are.whole) alone)
    (recursion_from_All (λ (group : List (List Value)). group ≢ []) groups are.some))
