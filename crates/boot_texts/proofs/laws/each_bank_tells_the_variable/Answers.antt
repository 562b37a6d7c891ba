use Rattle.boot_texts.proofs.EachBankLaws.{each_tells_variable}
use Rattle.boot_texts.proofs.laws.each_bank_tells_the_variable.Goals as goal

pub returns : goal.returns
returns c = each_tells_variable
