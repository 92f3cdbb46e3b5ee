use Rattle.std.proofs.Common.{◌≡◌, ◌+◌, ◌-◌, ◌*◌, ◌<◌, Some, take, drop, length, sym, ap, ◌∙◌, arith}
use Rattle.std.specs.Prelude.{slice_get}
use Rattle.mm_templist.specs.Combos.{Combos}
use Rattle.mm_templist.proofs.Pieces.{length-pieces, piece_at, piece_within}
use Rattle.mm_templist.proofs.temp_list.TempList.combo.Goals as goal

pub overflow_mul-start : goal.overflow_mul-start
overflow_mul-start c =
    let width = length c.self.inside.descriptor.tables.now in
    let combos = ap (λ (list : Combos). list.combos) c.self.view_is in
    let within = piece_within width c.self.inside.len c.args.i c.self.inside.refs.items c.args.self.now.combos combos c.self.invariant c.requires in
    let here = ap length c.as_slice-refs.ensures in
    omega (arith, within, here, c.as_slice-refs.type_inv)

pub overflow_add-result : goal.overflow_add-result
overflow_add-result c =
    let width = length c.self.inside.descriptor.tables.now in
    let combos = ap (λ (list : Combos). list.combos) c.self.view_is in
    let within = piece_within width c.self.inside.len c.args.i c.self.inside.refs.items c.args.self.now.combos combos c.self.invariant c.requires in
    let here = ap length c.as_slice-refs.ensures in
    omega (arith, within, here, c.as_slice-refs.type_inv)

pub offset_bounds-refs-start : goal.offset_bounds-refs-start
offset_bounds-refs-start c =
    let width = length c.self.inside.descriptor.tables.now in
    let combos = ap (λ (list : Combos). list.combos) c.self.view_is in
    let within = piece_within width c.self.inside.len c.args.i c.self.inside.refs.items c.args.self.now.combos combos c.self.invariant c.requires in
    let here = ap length c.as_slice-refs.ensures in
    omega (arith, within, here, c.as_slice-refs.type_inv)

pub slice_bounds-result-end : goal.slice_bounds-result-end
slice_bounds-result-end c =
    let width = length c.self.inside.descriptor.tables.now in
    let combos = ap (λ (list : Combos). list.combos) c.self.view_is in
    let within = piece_within width c.self.inside.len c.args.i c.self.inside.refs.items c.args.self.now.combos combos c.self.invariant c.requires in
    let here = ap length c.as_slice-refs.ensures in
    omega (arith, within, here, c.as_slice-refs.type_inv)

pub returns : goal.returns
returns c =
    let width = length c.self.inside.descriptor.tables.now in
    let refs = c.self.inside.refs.items in
    let count : length c.args.self.now.combos ≡ c.self.inside.len =
    ap (λ (list : Combos). length list.combos) (sym c.self.view_is) ∙ length-pieces width c.self.inside.len refs in
    let below : c.args.i < c.self.inside.len = omega (arith, c.requires, count) in
    let one : width ≡ c.args.i * width + width - c.args.i * width = omega arith in
    ap (λ (list : Combos). slice_get list.combos c.args.i) (sym c.self.view_is)
    ∙ (piece_at width c.self.inside.len refs c.args.i below
    ∙ (λ k. Some (take (one k) (drop (c.args.i * width) (sym c.as_slice-refs.ensures k)))))
