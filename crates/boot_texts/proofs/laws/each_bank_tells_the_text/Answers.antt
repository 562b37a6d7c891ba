use Rattle.boot_texts.proofs.EachBankLaws.{each_tells}
use Rattle.measured_data.specs.Confirming.{confirmed_part}
use Rattle.boot_texts.proofs.laws.each_bank_tells_the_text.Goals as goal

pub returns : goal.returns
returns c matched event text fits told =
    each_tells matched event (confirmed_part matched event) text (c.parts_are_the_first.ensures.confirmed matched event fits) told
