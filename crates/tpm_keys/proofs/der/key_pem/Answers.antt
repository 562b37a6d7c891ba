use Rattle.std.proofs.Common.{◌∙◌, ap, sym, subst}
use Rattle.std.proofs.lemmas.Bool.{false≢true}
use Rattle.std.specs.Str.{IsUtf8}
use Rattle.tpm_keys.specs.KeyInfo.{pem_of}
use Rattle.tpm_keys.specs.Spelling.{numbers_of}
use Rattle.tpm_keys.proofs.PemLaws.{pem_is_text}
use Rattle.tpm_keys.proofs.der.key_pem.Goals as goal

pub unreachable-requires : goal.unreachable-requires
unreachable-requires c =
    let is = c.in_ok-pem.ensures ∙ ap pem_of (c.as_bytes.ensures.value ∙ c.in_ok-text.ensures) in
    false≢true (c.in_default.ensures.succeeds (subst IsUtf8 (sym is) (pem_is_text (numbers_of c.args.material))))
