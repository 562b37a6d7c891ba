use Rattle.rsa_signatures.proofs.MaskLaws.{block_is}
use Rattle.rsa_signatures.proofs.pss.write_mask.Goals as goal

pub returns-then-place-size-eq0 : goal.returns-then-place-size-eq0
returns-then-place-size-eq0 c =
    block_is c.args.hash c.args.seed.now c.to_be_bytes.result c.write_digest.new.digest c.args.place c.digest_size-size.result
    c.digest_size-size.ensures c.to_be_bytes.ensures c.write_digest.ensures
