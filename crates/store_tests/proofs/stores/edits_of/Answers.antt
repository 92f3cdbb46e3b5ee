use Rattle.mm_store.proofs.Staging.{HasStaged-none}
use Rattle.store_tests.proofs.stores.edits_of.Goals as goal

pub returns-in_err-rows-in-Put-clause-staged : goal.returns-in_err-rows-in-Put-clause-staged
returns-in_err-rows-in-Put-clause-staged c = HasStaged-none c.args.table c.args.store.now

pub returns-in_default-clause-staged : goal.returns-in_default-clause-staged
returns-in_default-clause-staged c = HasStaged-none c.args.table c.args.store.now

pub returns-in_err-vec-in-Remove-clause-staged : goal.returns-in_err-vec-in-Remove-clause-staged
returns-in_err-vec-in-Remove-clause-staged c = HasStaged-none c.args.table c.args.store.now

pub returns-in_ok-vec-in-Remove-clause-staged : goal.returns-in_ok-vec-in-Remove-clause-staged
returns-in_ok-vec-in-Remove-clause-staged c = HasStaged-none c.args.table c.args.store.now
