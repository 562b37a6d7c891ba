use Rattle.std.proofs.Common.{◌≡◌, Option, Some, refl, sym, ap, ◌∙◌, inr}
use Rattle.tpm_keys.specs.KeyInfo.{key_pem}
use Rattle.tpm_keys.specs.Spelling.{KeyNumbers, numbers_of}
use Rattle.signed_messages.proofs.key_text.key_with_pem.Goals as goal

abbrev the_some : KeyNumbers → Option KeyNumbers
the_some numbers = Some numbers

same_numbers : (a b : KeyNumbers) → the_some a ≡ the_some b → a ≡ b
same_numbers a b e = cc

pub returns-then-not-branch-clause-fault : goal.returns-then-not-branch-clause-fault
returns-then-not-branch-clause-fault c =
    λ reads. inr (
      refl,
      λ other is.
          let found = numbers_of c.in-Some.material in
          let info = reads is.numbers other is.are_bytes is.known is.spelled in
          let same = same_numbers found is.numbers (c.in-Some.ensures.found is.numbers other is.known info) in
          let written = c.in_ok-is_pem_of.ensures.1 (is.spelled ∙ ap key_pem (sym same)) in
          absurd (let h = c.if-not-branch.true in cc),
    )
