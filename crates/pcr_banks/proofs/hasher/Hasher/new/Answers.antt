use Rattle.pcr_banks.proofs.hasher.Hasher.new.Goals as goal

pub returns-in-Sha1 : goal.returns-in-Sha1
returns-in-Sha1 c = rw c.in-Sha1.is c.new.ensures

pub returns-in-Sha256 : goal.returns-in-Sha256
returns-in-Sha256 c = rw c.in-Sha256.is c.new-in-Sha256.ensures

pub returns-in-Sha384 : goal.returns-in-Sha384
returns-in-Sha384 c = rw c.in-Sha384.is c.new-in-Sha384.ensures

pub returns-in-Sha512 : goal.returns-in-Sha512
returns-in-Sha512 c = rw c.in-Sha512.is c.new-in-Sha512.ensures
