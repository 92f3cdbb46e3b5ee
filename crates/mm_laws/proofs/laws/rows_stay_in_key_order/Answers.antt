use Rattle.mm_laws.proofs.KeyOrder.{reached_in_order, saved_in_order}
use Rattle.mm_laws.proofs.laws.rows_stay_in_key_order.Goals as goal

pub returns-clause-rows : goal.returns-clause-rows
returns-clause-rows c = reached_in_order

pub returns-clause-saved : goal.returns-clause-saved
returns-clause-saved c = saved_in_order
