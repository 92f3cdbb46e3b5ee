use Rattle.std.proofs.Common.{◌≡◌, ◌+◌, ◌<◌, ◌++◌, ◌∷◌, [], length, sym, ap, ◌∙◌, append_assoc, arith, length-append}
use Rattle.mm_templist.specs.Combos.{Combos}
use Rattle.mm_templist.specs.Pieces.{pieces}
use Rattle.mm_templist.proofs.Pieces.{few_pieces, pieces-push}
use Rattle.mm_templist.proofs.temp_list.TempList.push.Goals as goal

pub returns-clause-ok : goal.returns-clause-ok
returns-clause-ok c =
    let width = length c.self.inside.descriptor.tables.now in
    let refs = c.self.inside.refs.items in
    let piece = c.args.front.now ++ c.args.at ∷ [] in
    let items : c.push_reserved.new.self.items ≡ refs ++ piece =
    c.push_reserved.ensures.items
    ∙ ((λ i. (c.in_ok-extend_from_slice.ensures.ok ∙ ap (λ l. l ++ c.args.front.now) c.reserve.ensures.items) i ++ c.args.at ∷ [])
    ∙ append_assoc refs c.args.front.now (c.args.at ∷ [])) in
    let tables : width ≡ length c.args.self.now.tables = ap (λ (list : Combos). length list.tables) c.self.view_is in
    let wide : length piece ≡ width = length-append c.args.front.now (c.args.at ∷ []) ∙ (c.requires ∙ sym tables) in
    let combos : pieces width (c.self.inside.len + 1) c.push_reserved.new.self.items ≡ c.args.self.now.combos ++ piece ∷ [] =
    ap (pieces width (c.self.inside.len + 1)) items
    ∙ (pieces-push width c.self.inside.len refs piece c.self.invariant wide
    ∙ ap (λ (list : Combos). list.combos ++ piece ∷ []) c.self.view_is) in
    λ i. record { tables = (c.self.view_is i).tables; fields = (c.self.view_is i).fields; combos = combos i }

pub overflow_add-self : goal.overflow_add-self
overflow_add-self c =
    let tables = ap (λ (list : Combos). length list.tables) c.self.view_is in
    let some : 0 < length c.self.inside.descriptor.tables.now = omega (arith, c.requires, tables) in
    let few = few_pieces (length c.self.inside.descriptor.tables.now) c.self.inside.len c.self.inside.refs.items c.self.invariant some in
    omega (arith, few, ap length c.as_slice-counted.ensures, c.as_slice-counted.type_inv)
