use Rattle.std.proofs.Common.{◌≡◌, ℕ, length, arith, List}
use Rattle.std.specs.Prelude.{IsTrue, IsSome, IfSome}
use Rattle.hex.specs.Hex.{IsBytes}
use Rattle.pcr_banks.specs.Names.{bank_of, is_active, size_of, value_at}
use Rattle.pcr_banks.proofs.BankLaws.{all_values, below_next}
use Rattle.pcr_banks.proofs.laws.bank_has_hashes.Goals as goal

pub loop-register-preserved : goal.loop-register-preserved
loop-register-preserved c =
    let banks = c.args.banks.now in
    let alg = c.args.alg in
    below_next (λ (r : ℕ).
    (IsTrue (is_active banks alg) → IsSome (value_at banks alg r))
    × IfSome (value_at banks alg r) (λ value. (length value ≡ size_of alg) × IsBytes value))
    c.loop-register.register c.loop-register.invariant
    (λ active. c.register_has_a_hash.ensures.whole active (omega (arith, c.loop-register-test.true)), c.register_has_a_hash.ensures.hash)

pub returns-clause-whole : goal.returns-clause-whole
returns-clause-whole c = λ r lt active. (c.loop-register.invariant r (omega (arith, lt))).0 active

pub returns-clause-hashes : goal.returns-clause-hashes
returns-clause-hashes c =
    all_values (bank_of c.args.banks.now c.args.alg) (λ (value : List ℕ). (length value ≡ size_of c.args.alg) × IsBytes value)
    (λ r lt. (c.loop-register.invariant r (omega (arith, lt))).1)
