use Rattle.std.proofs.Common.{inl, inr}
use Rattle.measuring.proofs.name_list.names_for.Goals as goal

pub returns-in_default-from_utf8-clause-fault : goal.returns-in_default-from_utf8-clause-fault
returns-in_default-from_utf8-clause-fault c = λ inputs is. elim c.not_utf8.ensures [
  | inl says ↦
      let known = rw c.deref-in_default-from_utf8.ensures at says in
      inl (rw c.in-Some.is (inr (c.args.text.now, rw c.in-Some.is at is.1, inl (known, c.in_default-from_utf8.ensures.cases.0))))
  | inr memory ↦ inr memory
]
