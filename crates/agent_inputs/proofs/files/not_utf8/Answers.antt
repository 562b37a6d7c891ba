use Rattle.agent_inputs.proofs.LoadingLemmas.{named}
use Rattle.agent_inputs.proofs.files.not_utf8.Goals as goal

pub returns : goal.returns
returns c =
    named c.from_str.result _ _ _ _ (λ copy names says. record { input = copy; names = names; says = says }) c.from_str.ensures.ok c.map_or.ensures
