-- What a hasher has taken.
use Rattle.std.specs.Prelude.{ℕ, List}
use Rattle.sha1.specs.Sha1.{Holds}
use Rattle.sha2.specs.Hashers.{Holds256, Holds384, Holds512}
use Rattle.pcr_banks.specs.declared.alg.Alg.{Alg}
use Rattle.pcr_banks.specs.declared.alg.Alg.TheVariants as algs
use Rattle.pcr_banks.specs.declared.hasher.Hasher.{Hasher}
use Rattle.pcr_banks.specs.declared.hasher.HashState.{HashState}
use Rattle.pcr_banks.specs.declared.hasher.HashState.TheVariants as states

-- The state of this algorithm's hasher after these bytes.
abbrev pub StateAfter : HashState → Alg → List ℕ → Type 0
StateAfter (states.Sha1 hasher) algs.Sha1 taken = Holds hasher taken
StateAfter (states.Sha256 hasher) algs.Sha256 taken = Holds256 hasher taken
StateAfter (states.Sha384 hasher) algs.Sha384 taken = Holds384 hasher taken
StateAfter (states.Sha512 hasher) algs.Sha512 taken = Holds512 hasher taken
StateAfter state alg taken = ⊥

-- The hasher is for this algorithm, and the pieces that it took, joined, are these bytes.
abbrev pub HasTaken : Hasher → Alg → List ℕ → Type 0
HasTaken hasher alg taken = StateAfter hasher.state alg taken
