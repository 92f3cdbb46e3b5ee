use Rattle.std.proofs.Common.{◌≡◌, List, ◌∷◌, [], ◌++◌, length, sym, ap, ◌∙◌, subst, arith, take, get_or}
use Rattle.std.specs.Prelude.{All}
use Rattle.mm_partition.specs.declared.slots.State.{State}
use Rattle.mm_partition.specs.Cells.{types_of, size_of, type_in}
use Rattle.mm_partition.specs.Places.{Free, IsStorableIn}
use Rattle.mm_partition.specs.Stored.{IsFreeStack, contents_from}
use Rattle.mm_partition.proofs.FreeLemmas.{IsFreeStack-none}
use Rattle.mm_partition.proofs.rows.Partitions.new.Goals as goal
use Rattle.std.proofs.lemmas.List.{map-append, take_more, take_all}
use Rattle.std.proofs.lemmas.List.Elements.{All-push}

pub loop-col_type-init : goal.loop-col_type-init
loop-col_type-init c = record {
  types = ap types_of c.in_ok-columns.ensures.items;
  len = c.in_ok-columns.ensures.len;
  capacity = omega (arith, c.in_ok-columns.ensures.exact);
  sizes = subst (All (λ x. size_of x ≡ 0)) (sym c.in_ok-columns.ensures.items) (λ k d h. absurd (let no : ⊥ = omega arith in no));
}

pub push_reserved-requires : goal.push_reserved-requires
push_reserved-requires c = omega (arith, c.loop-col_type.invariant.len, c.loop-col_type.invariant.capacity)

pub loop-col_type-preserved : goal.loop-col_type-preserved
loop-col_type-preserved c =
    let so_far = c.loop-col_type.invariant in
    record {
      types = ap types_of c.push_reserved.ensures.items
          ∙ (map-append type_in c.loop-col_type.columns.items (c.new.result ∷ [])
          ∙ (ap (λ ts. ts ++ type_in c.new.result ∷ []) so_far.types
          ∙ (ap (λ t. take c.loop-col_type.col_type-index c.args.types.now ++ t ∷ []) c.new.ensures.typed
          ∙ sym (take_more c.args.types.now c.loop-col_type.col_type-index _ c.loop-col_type-test.true))));
      len = omega (arith, so_far.len, c.push_reserved.ensures.len);
      capacity = omega (arith, so_far.capacity, c.push_reserved.ensures.capacity);
      sizes = subst (All (λ x. size_of x ≡ 0)) (sym c.push_reserved.ensures.items)
          (All-push (λ x. size_of x ≡ 0) c.loop-col_type.columns.items c.new.result so_far.sizes c.new.ensures.size);
    }

pub invariant_of-result : goal.invariant_of-result
invariant_of-result c = record {
  free_slots = subst (λ xs. IsFreeStack xs c.new-3.result.items) (sym c.new-2.ensures.items)
      (subst (IsFreeStack []) (sym c.new-3.ensures.items) IsFreeStack-none);
  states_room = omega (arith, ap {A = List State} length c.new-2.ensures.items);
  free_room = omega (arith, ap {A = List State} length c.new-2.ensures.items);
  cells = λ k d h. record {
    size = c.loop-col_type.invariant.sizes k d h ∙ sym (ap {A = List State} length c.new-2.ensures.items);
    room = omega (arith, ap {A = List State} length c.new-2.ensures.items);
  };
  few = omega (arith, ap {A = List State} length c.new-2.ensures.items);
  storable = λ i. subst IsStorableIn
      (ap (λ (xs : List State). get_or (contents_from 0 c.loop-col_type.columns.items xs) i Free) (sym c.new-2.ensures.items)) tt;
}

pub returns-clause-types : goal.returns-clause-types
returns-clause-types c = c.loop-col_type.invariant.types ∙ take_all c.loop-col_type.col_type-index c.args.types.now (omega arith)
