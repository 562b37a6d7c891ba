use Rattle.std.proofs.Common.{◌≡◌, ℕ, ◌<◌, length}
use Rattle.std.specs.Prelude.{IsTrue, IsSome, IfSome}
use Rattle.hex.specs.Hex.{IsBytes}
use Rattle.pcr_banks.specs.declared.alg.Alg.{Alg}
use Rattle.pcr_banks.specs.Names.{is_active, register_count, size_of, value_at}
use Rattle.pcr_banks.proofs.AlgLaws.{every_alg}
use Rattle.pcr_banks.proofs.laws.registers_have_hashes.Goals as goal

pub returns-clause-whole : goal.returns-clause-whole
returns-clause-whole c =
    let banks = c.args.banks.now in
    every_alg (λ (alg : Alg). (r : ℕ) → IsTrue (is_active banks alg) → r < register_count → IsSome (value_at banks alg r)) (
      λ r active lt. c.bank_has_hashes.ensures.whole r lt active,
      (
        λ r active lt. c.bank_has_hashes-2.ensures.whole r lt active,
        (λ r active lt. c.bank_has_hashes-3.ensures.whole r lt active, (λ r active lt. c.bank_has_hashes-4.ensures.whole r lt active, tt)),
      ),
    )

pub returns-clause-hashes : goal.returns-clause-hashes
returns-clause-hashes c =
    let banks = c.args.banks.now in
    every_alg (λ (alg : Alg). (r : ℕ) → IfSome (value_at banks alg r) (λ value. (length value ≡ size_of alg) × IsBytes value)) (
      c.bank_has_hashes.ensures.hashes,
      (c.bank_has_hashes-2.ensures.hashes, (c.bank_has_hashes-3.ensures.hashes, (c.bank_has_hashes-4.ensures.hashes, tt))),
    )
