use Rattle.mm_lang.proofs.ReadAgain.{index_again, table_again}
use Rattle.mm_lang.proofs.write.reply_text.definitions_are_listed_as_written.Goals as goal

pub returns-clause-table : goal.returns-clause-table
returns-clause-table c = table_again

pub returns-clause-index : goal.returns-clause-index
returns-clause-index c = index_again
