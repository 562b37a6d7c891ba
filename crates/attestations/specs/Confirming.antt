-- Expected registers that nobody has signed, beside a quote. All of this is this project's choice.
use Rattle.std.specs.Prelude.{Bool, if◌then◌else◌, List, [], filter, find, option_map}
use Rattle.pcr_banks.specs.Names.{bytes_of}
use Rattle.pcr_values.specs.declared.expected.Expected.{Expected}
use Rattle.boot_verdict.specs.Names.{is_of}
use Rattle.tpm_quotes.specs.Spelling.{TpmQuote, selects}
use Rattle.tpm_quotes.specs.Quoting.{Values, confirms}
use Rattle.attestations.specs.declared.expected.ExpectedValues.{ExpectedValues}
use Rattle.attestations.specs.declared.expected.ExpectedValues.TheVariants.{Confirmed, Unconfirmed}

-- The value that they state of a register: that of the first one that names it.
abbrev pub expected_value : List Expected → Values
expected_value expected alg register = option_map (λ e. bytes_of e.value) (find (λ e. is_of e alg register) expected)

-- Whether the quote confirms them: each register that it selects is among them, and the hash of these values is its digest.
abbrev pub are_confirmed : TpmQuote → List Expected → Bool
are_confirmed quote expected = confirms quote (expected_value expected)

abbrev pub expected_values : TpmQuote → List Expected → ExpectedValues
expected_values quote expected = if are_confirmed quote expected then Confirmed else Unconfirmed

-- Those that count, in their order: of confirmed ones those that the quote selects, since it says nothing of others; of unconfirmed ones none.
abbrev pub confirmed_by : TpmQuote → List Expected → List Expected
confirmed_by quote expected =
    if are_confirmed quote expected then filter (λ e. selects quote.selections e.alg e.register) expected else []
