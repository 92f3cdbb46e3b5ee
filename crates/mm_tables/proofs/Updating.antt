-- Many rows are updated at once.
use Rattle.std.proofs.Common.{◌≡◌, ◌≢◌, ℕ, ◌*◌, ◌<◌, ⊎_elim, List, [], ◌∷◌, length, map, get_or, sym, ap, ◌∙◌, subst, arith}
use Rattle.std.specs.List.{All, sum_by}
use Rattle.std.proofs.lemmas.List.{length-map, get_or-map}
use Rattle.std.proofs.lemmas.List.Elements.{All-nil, All-cons, All-head, All-tail}
use Rattle.std.proofs.lemmas.List.Sums.{sum_by-cons}
use Rattle.std.proofs.Math.Nat.{mul-suc}
use Rattle.std.specs.declared.cmp.Ordering.TheVariants.{Equal}
use Rattle.mm_value.specs.declared.row_ref.RowRef.{RowRef}
use Rattle.mm_partition.specs.Places.{Live, Hidden, row_in}
use Rattle.mm_row_order.specs.Refs.{Slots}
use Rattle.mm_indexed.specs.Exchanges.{ArePairs, ExchangesAll, HasExchanged}
use Rattle.mm_indexed.specs.Twins.{keys_by}
use Rattle.mm_indexed.specs.declared.exchange.Exchange.{Exchange}
use Rattle.mm_indexed.proofs.Steps.{live_not_hidden}
use Rattle.mm_tables.specs.Edits.{step, Fits}
use Rattle.mm_tables.specs.Commands.{after, update, IsApart, IsCommand}
use Rattle.mm_tables.specs.declared.edit.Edit.{Edit}
use Rattle.mm_tables.proofs.AtOnce.{exchanged_here, exchanged_there}
use Rattle.mm_tables.proofs.Commands.{first_apart, next_command, step_leaves}
use Rattle.mm_tables.proofs.Slots.{same_or_apart}

-- ---- the pairs of a command of updates

module _ (key : ℕ) (pairs : List Exchange) (now : Slots) (command : IsCommand key (map update pairs) now) where
  edit_at : (k : ℕ) (d : Exchange) → k < length pairs → get_or (map update pairs) k (update d) ≡ update (get_or pairs k d)
  edit_at k d within = get_or-map update pairs k d (update d) within

  fits_at : (k : ℕ) (d : Exchange) → k < length pairs → Fits key now (update (get_or pairs k d))
  fits_at k d within = subst (Fits key now) (edit_at k d within) (command.fits k (update d) (omega (arith, within, length-map pairs update)))

  apart_at : (i j : ℕ) (d : Exchange) → i < j → j < length pairs → IsApart (update (get_or pairs i d)) (update (get_or pairs j d))
  apart_at i j d before within =
      subst (λ (e : Edit). IsApart e (update (get_or pairs j d))) (edit_at i d (omega (arith, before, within)))
      (subst (IsApart (get_or (map update pairs) i (update d))) (edit_at j d within)
      (command.apart i j (update d) before (omega (arith, within, length-map pairs update))))

  pub are_pairs : ArePairs now pairs
  are_pairs = record {
    live = λ k d within. (fits_at k d within).0;
    hidden = λ k d within. (fits_at k d within).1;
    apart = λ i j d before within. let both = apart_at i j d before within in (both.0.0, both.1.1);
  }

  pub have_one_key : All (λ e. keys_by key now e.at e.other ≡ Equal) pairs
  have_one_key k d within = (fits_at k d within).2

-- ---- the slots afterwards

module _ (key : ℕ) (x : Exchange) (xs : List Exchange) (old new : Slots) (command : IsCommand key (update x ∷ map update xs) old)
    (changes : ExchangesAll old new (x ∷ xs)) where
  first_fits : Fits key old (update x)
  first_fits = All-head (Fits key old) (update x) (map update xs) command.fits

  done : HasExchanged old new x
  done = All-head (HasExchanged old new) x xs changes.pairs

  abbrev next : Slots
  next = step (update x) old

  apart_from : (k : ℕ) (d : Exchange) → k < length xs → IsApart (update x) (update (get_or xs k d))
  apart_from k d within =
      subst (IsApart (update x)) (get_or-map update xs k d (update d) within)
      (first_apart (update x) (map update xs) command.apart k (update d) (omega (arith, within, length-map xs update)))

  -- the first pair changed places, and the other pairs do
  exchanges_rest : ExchangesAll next new xs
  exchanges_rest = record {
    pairs = λ k d within.
        let f : Exchange = get_or xs k d in
        let apart : IsApart (update x) (update f) = apart_from k d within in
        let both : HasExchanged old new f = All-tail (HasExchanged old new) x xs changes.pairs k d within in (
          both.0 ∙ ap (λ c. Live (row_in c)) (sym (step_leaves (update x) old f.other apart.1)),
          both.1 ∙ ap (λ c. Hidden (row_in c)) (sym (step_leaves (update x) old f.at apart.0)),
        );
    others = λ r out.
        ⊎_elim
        (λ (same : x.at ≡ r). subst (λ s. new s ≡ next s) same (done.0 ∙ sym (exchanged_here x.at x.other old)))
        (λ (not_at : x.at ≢ r).
        ⊎_elim
        (λ (same : x.other ≡ r). subst (λ s. new s ≡ next s) same
        (done.1 ∙ sym (exchanged_there x.at x.other old (live_not_hidden old x.at x.other first_fits.0 first_fits.1))))
        (λ (not_other : x.other ≢ r).
        changes.others r (All-cons (λ e. (e.at ≢ r) × (e.other ≢ r)) x xs (not_at, not_other) out)
        ∙ sym (step_leaves (update x) old r (not_at, not_other)))
        (same_or_apart x.other r))
        (same_or_apart x.at r);
  }

-- Many pairs that change places at once are updates, one after the other.
pub after_updates : (key : ℕ) (pairs : List Exchange) (old new : Slots) → IsCommand key (map update pairs) old → ExchangesAll old new pairs
    → (r : RowRef) → new r ≡ after (map update pairs) old r
after_updates key [] old new command changes r = changes.others r (All-nil (λ e. (e.at ≢ r) × (e.other ≢ r)))
after_updates key (x ∷ xs) old new command changes r =
    after_updates key xs (step (update x) old) new (next_command key (update x) (map update xs) old command)
    (exchanges_rest key x xs old new command changes) r

-- ---- the capacity of many updates

pub count_updates : (count : Edit → ℕ) (n : ℕ) → ((x : Exchange) → count (update x) ≡ n) → (pairs : List Exchange)
    → sum_by count (map update pairs) ≡ n * length pairs
count_updates count n each [] = omega arith
count_updates count n each (x ∷ xs) =
    omega (arith, sum_by-cons count (update x) (map update xs), each x, count_updates count n each xs, mul-suc n (length xs))
