use Rattle.std.proofs.Common.{◌≡◌, ◌+◌, ◌++◌, ◌∷◌, [], false, get_or, map, take, sym, ap, ◌∙◌, append_assoc}
use Rattle.std.specs.List.{flat_map}
use Rattle.std.proofs.lemmas.List.{map-append, take_more}
use Rattle.mm_lang.specs.Reading.{position_literals}
use Rattle.mm_statement.specs.Holes.{is_minus_one}
use Rattle.mm_statement.proofs.Fills.{one_behind}
use Rattle.mm_statement.proofs.holes.flag_positions.Goals as goal

pub loop-preserved : goal.loop-preserved
loop-preserved c =
    let i = c.loop.index in
    let positions = c.args.positions.now in
    let here = get_or positions i 0 in
    let done = flat_map position_literals (take i positions) in
    let more : flat_map position_literals (take (i + 1) positions) ≡ done ++ position_literals here =
    ap (flat_map position_literals) (take_more positions i 0 c.loop-test.true) ∙ one_behind (λ p. p) position_literals (take i positions) here in
    c.in_ok-push.ensures.items
    ∙ ap (λ l. l ++ false ∷ []) c.loop.invariant
    ∙ append_assoc c.args.flags.now.items (map is_minus_one done) (false ∷ [])
    ∙ ap (λ l. c.args.flags.now.items ++ l) (sym (ap (map is_minus_one) more ∙ map-append is_minus_one done (position_literals here)))
