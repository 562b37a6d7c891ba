use Rattle.std.proofs.Common.{◌≡◌, ◌∙◌, map, take, arith}
use Rattle.std.proofs.lemmas.List.{take_all}
use Rattle.pcr_banks.specs.Names.{all_algs}
use Rattle.pcr_banks.proofs.AlgLaws.{one_of_all}
use Rattle.pcr_banks.proofs.SetLaws.{algs_are}
use Rattle.tpm_quotes.specs.Spelling.{selection_of}
use Rattle.attestations.specs.Kept.{is_asked}
use Rattle.attestations.proofs.kept.algs_of.Goals as goal

pub returns : goal.returns
returns c =
    let asked = is_asked (map selection_of c.args.selections.now) in
    let all : take c.loop-alg.alg-index all_algs ≡ all_algs = take_all c.loop-alg.alg-index all_algs (omega arith) in
    algs_are c.loop-alg.algs asked (λ a. rw all at (c.loop-alg.invariant a) ∙ one_of_all asked a)
