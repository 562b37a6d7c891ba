-- What other crates name of the definitions of `pcr_banks`.
pub use Rattle.pcr_banks.specs.Digests.{alg_of, bytes_of, digest_of}
pub use Rattle.pcr_banks.specs.Equality.{same_bank, same_banks, same_digest, same_registers, same_variant}
pub use Rattle.pcr_banks.specs.Hashers.{HasTaken}
pub use Rattle.pcr_banks.specs.Hashing.{algorithm_with, all_algs, hash_of, name_of, same_alg, size_of, tpm_id_of}
pub use Rattle.pcr_banks.specs.Registers.{Extends, ExtendsBank, IsReset, bank_of, extended_by, extended_by_all, extended_value, in_bank, is_active, register_count, reset_bytes, reset_value, value_at}
pub use Rattle.pcr_banks.specs.Sets.{algs_where, digest_for, digest_in, has_alg, per_bank}
pub use Rattle.pcr_banks.specs.parts.Extending.{AreExtended}
