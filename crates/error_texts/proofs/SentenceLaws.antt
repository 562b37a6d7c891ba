-- Each error has a sentence in the table.
use Rattle.std.proofs.Common.{ℕ, refl}
use Rattle.agent_inputs.specs.declared.fault.NotResumed.{NotResumed}
use Rattle.agent_inputs.specs.declared.fault.NotResumed.TheVariants as resumes
use Rattle.agent_inputs.specs.declared.fault.RunFault.{RunFault}
use Rattle.agent_inputs.specs.declared.fault.RunFault.TheVariants as runs
use Rattle.agent_inputs.specs.Faults.{fault_head}
use Rattle.attestations.specs.declared.policy.QuoteRefusal.{QuoteRefusal}
use Rattle.attestations.specs.declared.policy.QuoteRefusal.TheVariants as refusals
use Rattle.boot_log.specs.declared.fault.LogFault.{LogFault}
use Rattle.boot_log.specs.declared.fault.LogFault.TheVariants as logs
use Rattle.ima_list.specs.declared.fault.ListFault.{ListFault}
use Rattle.ima_list.specs.declared.fault.ListFault.TheVariants as lists
use Rattle.ima_list.specs.declared.list_replay.ReplayFault.{ReplayFault}
use Rattle.ima_list.specs.declared.list_replay.ReplayFault.TheVariants as replays
use Rattle.known_files.specs.declared.fault.KnownFault.{KnownFault}
use Rattle.known_files.specs.declared.fault.KnownFault.TheVariants as known
use Rattle.list_imports.specs.declared.fault.ListImportFault.{ListImportFault}
use Rattle.list_imports.specs.declared.fault.ListImportFault.TheVariants as texts
use Rattle.log_imports.specs.declared.fault.LogImportFault.{LogImportFault}
use Rattle.log_imports.specs.declared.fault.LogImportFault.TheVariants as forms
use Rattle.measure_book.specs.declared.fault.BookFault.{BookFault}
use Rattle.measure_book.specs.declared.fault.BookFault.TheVariants as books
use Rattle.measure_book.specs.declared.gathers.GatherFault.{GatherFault}
use Rattle.measure_book.specs.declared.gathers.GatherFault.TheVariants as gathers
use Rattle.pcr_values.specs.declared.expected.ExpectFault.{ExpectFault}
use Rattle.pcr_values.specs.declared.expected.ExpectFault.TheVariants as expects
use Rattle.signed_messages.specs.declared.refusal.SignatureRefusal.{SignatureRefusal}
use Rattle.signed_messages.specs.declared.refusal.SignatureRefusal.TheVariants as signatures
use Rattle.tpm_keys.specs.declared.fault.KeyFault.{KeyFault}
use Rattle.tpm_keys.specs.declared.fault.KeyFault.TheVariants as keys
use Rattle.tpm_quotes.specs.declared.fault.QuoteFault.{QuoteFault}
use Rattle.tpm_quotes.specs.declared.fault.QuoteFault.TheVariants as messages
use Rattle.tpm_signatures.specs.declared.fault.SignatureFault.{SignatureFault}
use Rattle.tpm_signatures.specs.declared.fault.SignatureFault.TheVariants as bytes
use Rattle.error_texts.specs.Sentences.{HasSentence}

log : (fault : LogFault) → HasSentence (fault_head (runs.Log fault))
log (logs.Truncated event) e = refl
log logs.NotCryptoAgile e = refl
log logs.BadHeader e = refl
log logs.DigestSize e = refl
log logs.NoBank e = refl
log (logs.UnknownAlg event) e = refl
log (logs.DoubleDigest event) e = refl
log (logs.MissingDigest event) e = refl
log (logs.BadRegister event) e = refl
log logs.Memory e = refl

list : (fault : ListFault) → HasSentence (fault_head (runs.List fault))
list (lists.Truncated entry) e = refl
list (lists.BadRegister entry) e = refl
list (lists.NameTooLong entry) e = refl
list lists.Memory e = refl

replay : (fault : ReplayFault) → HasSentence (fault_head (runs.Replay fault))
replay (replays.BadTemplateDigest entry) e = refl

list_text : (fault : ListImportFault) → HasSentence (fault_head (runs.ListText fault))
list_text (texts.Malformed line) e = refl
list_text (texts.UnknownTemplate line) e = refl
list_text (texts.WrongDigest line) e = refl
list_text (texts.TooLong line) e = refl
list_text texts.Memory e = refl

read_log : (fault : LogFault) → HasSentence (fault_head (runs.LogForm (forms.Log fault)))
read_log (logs.Truncated event) e = refl
read_log logs.NotCryptoAgile e = refl
read_log logs.BadHeader e = refl
read_log logs.DigestSize e = refl
read_log logs.NoBank e = refl
read_log (logs.UnknownAlg event) e = refl
read_log (logs.DoubleDigest event) e = refl
read_log (logs.MissingDigest event) e = refl
read_log (logs.BadRegister event) e = refl
read_log logs.Memory e = refl

log_form : (fault : LogImportFault) → HasSentence (fault_head (runs.LogForm fault))
log_form (forms.Log fault) e = read_log fault e
log_form (forms.OldTruncated event) e = refl
log_form (forms.OldRegister event) e = refl
log_form forms.NotALog e = refl
log_form forms.Memory e = refl

expected : (fault : ExpectFault) → HasSentence (fault_head (runs.Expect fault))
expected (expects.BadLine line) e = refl
expected (expects.DoubleLine line) e = refl
expected expects.Memory e = refl
expected expects.NotChecked e = refl
expected expects.NotSigned e = refl
expected expects.NoRegister e = refl

known_file : (file : ℕ) (fault : KnownFault) → HasSentence (fault_head (runs.Known file fault))
known_file file (known.WeakHash line) e = refl
known_file file (known.Malformed line) e = refl
known_file file known.Memory e = refl

checkpoint : (fault : NotResumed) → HasSentence (fault_head (runs.Checkpoint fault))
checkpoint resumes.Damaged e = refl
checkpoint resumes.Version e = refl
checkpoint resumes.OtherBoot e = refl
checkpoint resumes.OtherCounts e = refl

message : (fault : QuoteFault) → HasSentence (fault_head (runs.Quote (refusals.Message fault)))
message messages.Truncated e = refl
message messages.NotQuote e = refl
message messages.BadClock e = refl
message messages.UnknownBank e = refl
message messages.BankTwice e = refl
message messages.ManyBanks e = refl
message messages.BadRegister e = refl
message messages.NothingSelected e = refl
message messages.DigestSize e = refl
message messages.Trailing e = refl

quote : (refusal : QuoteRefusal) → HasSentence (fault_head (runs.Quote refusal))
quote (refusals.Message fault) e = message fault e
quote refusals.OtherNonce e = refl
quote (refusals.NotSelected alg register) e = refl

signature_bytes : (fault : SignatureFault) → HasSentence (fault_head (runs.Signature (signatures.Bytes fault)))
signature_bytes bytes.Truncated e = refl
signature_bytes bytes.UnknownScheme e = refl
signature_bytes bytes.UnknownHash e = refl
signature_bytes bytes.Trailing e = refl

signature : (refusal : SignatureRefusal) → HasSentence (fault_head (runs.Signature refusal))
signature (signatures.Bytes fault) e = signature_bytes fault e
signature signatures.OtherScheme e = refl
signature signatures.OtherHash e = refl
signature signatures.NotSigned e = refl
signature signatures.OtherKey e = refl
signature signatures.OtherPem e = refl

key : (fault : KeyFault) → HasSentence (fault_head (runs.Key fault))
key keys.Truncated e = refl
key keys.OtherType e = refl
key keys.UnknownHash e = refl
key keys.OtherSymmetric e = refl
key keys.UnknownScheme e = refl
key keys.OtherExponent e = refl
key keys.UnknownCurve e = refl
key keys.KeyDerivation e = refl
key keys.KeySize e = refl
key keys.Trailing e = refl
key keys.WeakName e = refl
key keys.LeavesTpm e = refl
key keys.LeavesParent e = refl
key keys.NotMadeByTpm e = refl
key keys.Unrestricted e = refl
key keys.ShortKey e = refl
key keys.DoesNotSign e = refl
key keys.Decrypts e = refl
key keys.NoSigningScheme e = refl
key keys.WeakHash e = refl
key keys.Signs e = refl
key keys.DoesNotDecrypt e = refl

book : (fault : BookFault) → HasSentence (fault_head (runs.Book fault))
book books.WrongHash e = refl
book books.NoBank e = refl
book books.BadRegister e = refl
book books.NulInPath e = refl
book books.PathTooLong e = refl
book books.ZeroDigest e = refl
book books.Full e = refl
book books.Memory e = refl

outcome : (job : ℕ) (fault : BookFault) → HasSentence (fault_head (runs.Outcome job fault))
outcome job books.WrongHash e = refl
outcome job books.NoBank e = refl
outcome job books.BadRegister e = refl
outcome job books.NulInPath e = refl
outcome job books.PathTooLong e = refl
outcome job books.ZeroDigest e = refl
outcome job books.Full e = refl
outcome job books.Memory e = refl

gather : (fault : GatherFault) → HasSentence (fault_head (runs.Gather fault))
gather gathers.ForeignBook e = refl
gather (gathers.Stranger group index) e = refl
gather gathers.OutOfOrder e = refl
gather gathers.Double e = refl
gather (gathers.Unnamed place) e = refl
gather gathers.FalseFull e = refl
gather gathers.Memory e = refl

pub each_error : (fault : RunFault) → HasSentence (fault_head fault)
each_error runs.Usage e = refl
each_error runs.NotHex e = e
each_error (runs.Log fault) e = log fault e
each_error (runs.List fault) e = list fault e
each_error (runs.Replay fault) e = replay fault e
each_error (runs.ListText fault) e = list_text fault e
each_error (runs.LogForm fault) e = log_form fault e
each_error (runs.Expect fault) e = expected fault e
each_error (runs.Quote refusal) e = quote refusal e
each_error (runs.Signature refusal) e = signature refusal e
each_error (runs.Key fault) e = key fault e
each_error (runs.Known file fault) e = known_file file fault e
each_error (runs.Checkpoint fault) e = checkpoint fault e
each_error (runs.Book fault) e = book fault e
each_error (runs.Outcome job fault) e = outcome job fault e
each_error (runs.TooLong name) e = e
each_error (runs.Read name) e = e
each_error (runs.Write name) e = e
each_error (runs.NotUtf8 name) e = e
each_error (runs.Gather fault) e = gather fault e
each_error runs.Memory e = refl
