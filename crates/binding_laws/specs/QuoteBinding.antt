-- What a quote tells of the values that it is of.
use Rattle.std.specs.Prelude.{◌≡◌, ℕ, ◌<◌, true, List, length, Some, IsSome, IfSome}
use Rattle.pcr_banks.specs.declared.alg.Alg.{Alg}
use Rattle.pcr_banks.specs.Names.{alg_of, register_count, size_of}
use Rattle.tpm_quotes.specs.Spelling.{TpmQuote, selects}
use Rattle.tpm_quotes.specs.Quoting.{Values, quoted_bytes}
use Rattle.binding_laws.specs.BankBinding.{Collision}

-- Each value is as long as a hash of its bank's algorithm.
abbrev pub HaveSizes : Values → Type 0
HaveSizes values = (alg : Alg) (register : ℕ) → IfSome (values alg register) (λ value. length value ≡ size_of alg)

-- These bytes are the quoted ones of the values.
abbrev pub AreQuoted : TpmQuote → Values → List ℕ → Type 0
AreQuoted quote values bytes = quoted_bytes quote values ≡ Some bytes

-- Each selected register has a value, which is the same in both.
abbrev pub AgreeWhereSelected : TpmQuote → Values → Values → Type 0
AgreeWhereSelected quote values others =
    (alg : Alg) (register : ℕ) → register < register_count → selects quote.selections alg register ≡ true
    → (values alg register ≡ others alg register) × IsSome (values alg register)

-- The quoted values collide: they differ, joined, and have one hash.
abbrev pub QuotesCollide : TpmQuote → Values → TpmQuote → Values → Type 0
QuotesCollide quote values other others = Collision (alg_of quote.digest) (AreQuoted quote values) (AreQuoted other others)
