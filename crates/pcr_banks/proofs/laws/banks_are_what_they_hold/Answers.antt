use Rattle.pcr_banks.specs.declared.alg.Alg.TheVariants.{Sha1, Sha256, Sha384, Sha512}
use Rattle.pcr_banks.proofs.EqualityLaws.{banks_alike}
use Rattle.pcr_banks.proofs.laws.banks_are_what_they_hold.Goals as goal

pub returns : goal.returns
returns c = λ active same.
    banks_alike _ _ _ _ _ _ _ _ (c.bank_is_what_it_holds.ensures (active Sha1) (same Sha1))
    (c.bank_is_what_it_holds-2.ensures (active Sha256) (same Sha256)) (c.bank_is_what_it_holds-3.ensures (active Sha384) (same Sha384))
    (c.bank_is_what_it_holds-4.ensures (active Sha512) (same Sha512))
