use Rattle.std.proofs.Common.{◌≡◌, ◌≢◌, ◌+◌, ◌%◌, ◌<◌, length, sym, ext_get_or, get_or, bit_xor, ap, ap₂, ◌∙◌, arith, rules, below_more, get_or-set_other, get_or-set_same}
use Rattle.rsa_signatures.specs.Pss.{mask_block, mask_byte, unmasked}
use Rattle.rsa_signatures.proofs.MaskLaws.{get_or-unmasked, length-unmasked, same_block}
use Rattle.rsa_signatures.proofs.pss.unmask.Goals as goal

pub loop-i-preserved : goal.loop-i-preserved
loop-i-preserved c =
    let l = c.loop-i in
    let within : l.i < length l.bytes = search rules in
    let mask : get_or c.write_mask.new.mask (l.i % c.digest_size-size.result) 0 ≡ mask_byte c.args.hash c.args.seed.now l.i =
    ap₂ (λ x y. get_or x (l.i % y) 0) c.write_mask.ensures c.digest_size-size.ensures in
    record {
      done = below_more _ _ (λ k h. let ne : k ≢ l.i = omega arith in rw get_or-set_other (l.invariant.done k h))
          (rw get_or-set_same (ap₂ bit_xor (l.invariant.left l.i (omega arith)) mask));
      left = λ k h. let ne : k ≢ l.i = omega arith in rw get_or-set_other (l.invariant.left k (omega arith));
      block = λ h. c.write_mask.ensures ∙ ap (λ t. mask_block c.args.hash c.args.seed.now t) (sym (same_block c.args.hash l.i h));
      mask_size = omega arith;
    }

pub returns : goal.returns
returns c =
    let l = c.loop-i in
    let xs = c.args.bytes.now in
    let seed = c.args.seed.now in
    let sized : length l.bytes ≡ length xs = omega arith in
    ext_get_or 0 l.bytes (unmasked c.args.hash seed 0 xs) (sized ∙ sym (length-unmasked c.args.hash seed 0 xs))
    (λ k h. let inside : k < length xs = omega arith in
    let e : 0 + k ≡ k = omega arith in
    l.invariant.done k (omega arith) ∙ ap (λ t. bit_xor (get_or xs k 0) (mask_byte c.args.hash seed t)) (sym e)
    ∙ sym (get_or-unmasked c.args.hash seed 0 xs k inside))
