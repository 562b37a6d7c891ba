use Rattle.std.proofs.Common.{◌≡◌, ℕ, ◌/◌, ◌%◌, ◌<◌, ◌≤◌, length, get_or, bit_xor}
use Rattle.signature_hashes.specs.Hashes.{digest_size}
use Rattle.rsa_signatures.specs.Pss.{mask_block, mask_byte}
use Rattle.rsa_signatures.proofs.pss.unmask.Given as goal

abbrev pub invariant-loop-i : goal.invariant-loop-i
invariant-loop-i l = record {
  done : (k : ℕ) → k < l.i → get_or l.bytes k 0 ≡ bit_xor (get_or l.fn.bytes k 0) (mask_byte l.hash l.seed k);
  left : (k : ℕ) → l.i ≤ k → get_or l.bytes k 0 ≡ get_or l.fn.bytes k 0;
  block : 0 < l.i % digest_size l.hash → l.mask ≡ mask_block l.hash l.seed (l.i / digest_size l.hash);
  mask_size : length l.mask ≡ digest_size l.hash;
}
