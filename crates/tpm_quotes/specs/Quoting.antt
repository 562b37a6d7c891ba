-- Which values a quote confirms.
use Rattle.std.specs.Prelude.{ℕ, Bool, false, List, [], ◌∷◌, ◌++◌, map, bytes_eq, Option, Some, option_map, option_and_then}
use Rattle.std.specs.Option.{option_map_or}
use Rattle.pcr_banks.specs.declared.alg.Alg.{Alg}
use Rattle.pcr_banks.specs.Names.{alg_of, bytes_of, hash_of}
use Rattle.tpm_quotes.specs.Spelling.{TpmQuote, selected}

-- The value of each register of each bank, where there is one.
abbrev pub Values : Type 0
Values = Alg → ℕ → Option (List ℕ)

-- The values joined; `None` where one is missing.
abbrev pub all_joined : List (Option (List ℕ)) → Option (List ℕ)
all_joined [] = Some []
all_joined (first ∷ others) = option_and_then (λ value. option_map (λ rest. value ++ rest) (all_joined others)) first

-- The values of these registers, joined.
abbrev pub joined : Values → List (Alg × ℕ) → Option (List ℕ)
joined values registers = all_joined (map (λ register. values register.0 register.1) registers)

-- The values of the selected registers, joined in the quote's order (part 3, 'TPM2_Quote').
abbrev pub quoted_bytes : TpmQuote → Values → Option (List ℕ)
quoted_bytes quote values = joined values (selected quote.selections)

-- Whether the quote is of these values: each selected register has one, and the hash of them is the quote's digest.
abbrev pub confirms : TpmQuote → Values → Bool
confirms quote values =
    option_map_or (λ bytes. bytes_eq (hash_of (alg_of quote.digest) bytes) (bytes_of quote.digest)) (quoted_bytes quote values) false
