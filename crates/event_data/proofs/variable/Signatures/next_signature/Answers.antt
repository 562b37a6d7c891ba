use Rattle.std.proofs.Common.{refl}
use Rattle.event_data.specs.Names.{IsSignatureOf, signature_of}
use Rattle.event_data.proofs.TakenLaws.{item_taken, item_missing, taken_fits, taken_shorter, taken_more, taken_last}
use Rattle.event_data.proofs.ListLaws.{of_size, size_out}
use Rattle.event_data.proofs.ValueLaws.{signature_exact, some_signature}
use Rattle.event_data.proofs.variable.Signatures.next_signature.Goals as goal

pub invariant_of-self : goal.invariant_of-self
invariant_of-self c =
    let size = c.args.self.now.size in
    record {
      least_size = c.args.self.now.least_size;
      fits = taken_fits (signature_exact size) (some_signature size) c.args.self.now.rest.now (signature_of c.in-Ok.signature)
          c.in-Ok.rest.now c.args.self.now.fits c.in-Ok.ensures;
    }

pub returns-in-Ok-clause-more : goal.returns-in-Ok-clause-more
returns-in-Ok-clause-more c =
    let size = c.args.self.now.size in
    taken_more (signature_exact size) (some_signature size) c.args.self.now.rest.now (signature_of c.in-Ok.signature)
    c.in-Ok.rest.now c.args.self.now.fits c.in-Ok.ensures

pub returns-in-Ok-clause-shorter : goal.returns-in-Ok-clause-shorter
returns-in-Ok-clause-shorter c =
    let size = c.args.self.now.size in
    taken_shorter (signature_exact size) (some_signature size) c.args.self.now.rest.now (signature_of c.in-Ok.signature)
    c.in-Ok.rest.now c.args.self.now.fits c.in-Ok.ensures

pub returns-in-Err-clause-last : goal.returns-in-Err-clause-last
returns-in-Err-clause-last c =
    let size = c.args.self.now.size in
    taken_last (signature_exact size) (some_signature size) c.args.self.now.rest.now c.in-Err.field-0 c.in-Err.ensures

pub returns-in-Ok-clause-signature : goal.returns-in-Ok-clause-signature
returns-in-Ok-clause-signature c =
    let size = c.args.self.now.size in
    item_taken (signature_exact size) (some_signature size) (IsSignatureOf size) (of_size size c.args.self.now.least_size) (size_out size)
    c.args.self.now.rest.now (signature_of c.in-Ok.signature) c.in-Ok.rest.now c.args.self.now.fits c.in-Ok.ensures

pub returns-in-Err-clause-none : goal.returns-in-Err-clause-none
returns-in-Err-clause-none c =
    let size = c.args.self.now.size in (
      item_missing (signature_exact size) (some_signature size) (IsSignatureOf size) (of_size size c.args.self.now.least_size) (size_out size)
          c.args.self.now.rest.now c.in-Err.field-0 c.in-Err.ensures,
      refl,
    )
