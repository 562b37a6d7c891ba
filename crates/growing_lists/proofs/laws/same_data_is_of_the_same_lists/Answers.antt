use Rattle.growing_lists.proofs.DataLaws.{same_boots, same_lists}
use Rattle.growing_lists.proofs.laws.same_data_is_of_the_same_lists.Goals as goal

pub returns-clause-lists : goal.returns-clause-lists
returns-clause-lists c = same_lists

pub returns-clause-boots : goal.returns-clause-boots
returns-clause-boots c = same_boots
