use Rattle.judging.specs.Inputs.{BytesOf}
use Rattle.ima_verify_c.specs.Requests.{resume_of, scope_of}
use Rattle.ima_verify_c.proofs.ComparedLaws.{list_verdict_compares, verdict_compares, whole_verdict_compares}
use Rattle.ima_verify_c.proofs.laws.match_compares_some.Goals as goal

pub returns : goal.returns
returns c = record {
  verdict = λ log old_kernel list expected require known form text fault state summary given.
      whole_verdict_compares (BytesOf log) old_kernel list expected require known form text fault state summary given;
  list = λ list expected require known form text fault state summary given.
      list_verdict_compares list expected require known form text fault state summary given;
  more = λ log old_kernel state more expected require known prefix form text fault next summary before given.
      verdict_compares (BytesOf log) (scope_of prefix) (resume_of state) old_kernel more expected require known before form text fault next summary given;
}
