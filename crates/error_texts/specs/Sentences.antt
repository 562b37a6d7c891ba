-- The table of errors: what is wrong, and what to do, by kind and number.
use Rattle.std.specs.Prelude.{ℕ, ◌≡◌, ◌==◌, if◌then◌else◌, Bool, true, false, List, codes, Option, Some, None, is_some, unwrap_or}
use Rattle.agent_inputs.specs.declared.fault.FaultHead.{FaultHead}
use Rattle.agent_inputs.specs.declared.fault.FaultKind.{FaultKind}
use Rattle.agent_inputs.specs.declared.fault.FaultKind.TheVariants as kinds
use Rattle.error_texts.specs.declared.table.Sentence.{Sentence}

-- What is wrong, in words that no period ends, and what to do.
pub record SentenceData : Type 0 where
  pub wrong : List ℕ
  pub action : List ℕ

-- What contracts see of a sentence.
abbrev pub said : Sentence → SentenceData
said sentence = record { wrong = sentence.wrong.now; action = sentence.action.now }

abbrev pub row : List ℕ → List ℕ → Option SentenceData
row wrong action = Some (record { wrong = wrong; action = action })

-- ---- what is wrong with a log or a list, and what to do

abbrev pub firmware : List ℕ
firmware = codes "Copy the log again. If the error persists, the machine's firmware is at fault: update it."

abbrev pub log_sentence : ℕ → Option SentenceData
log_sentence number =
    if number == 1 then row (codes "it is cut short") (codes "Copy the log again.")
    else if number == 2 then row (codes "the first event is not the Specification ID Version Event of a crypto-agile log")
    (codes "Give the kernel's binary_bios_measurements, unchanged. Kernels before 5.3 and some cloud machines have only a TPM 1.2 log: convert it with ima-agent log.")
    else if number == 3 then row (codes "the header's algorithm table or vendor bytes are malformed") firmware
    else if number == 4 then row (codes "the header states a wrong digest size for a known algorithm") firmware
    else if number == 5 then row (codes "the header declares no known algorithm")
    (codes "Enable the SHA-256, SHA-384 or SHA-512 bank of the machine's TPM, then reboot.")
    else if number == 6 then row (codes "it has a digest for an algorithm that the header does not declare") firmware
    else if number == 7 then row (codes "it has two digests for the same algorithm") firmware
    else if number == 8 then row (codes "it extends a PCR but lacks the digest for a bank") firmware
    else if number == 9 then row (codes "it extends a PCR above 23") firmware
    else None

abbrev pub list_sentence : ℕ → Option SentenceData
list_sentence number =
    if number == 1 then row (codes "it is cut short") (codes "Copy the list again.")
    else if number == 2 then row (codes "it extends a PCR above 23")
    (codes "Give the kernel's binary_runtime_measurements, unchanged. Boot a big-endian machine with ima_canonical_fmt.")
    else if number == 3 then row (codes "its template is ima, but its path is longer than 255 bytes")
    (codes "The kernel never writes such an entry: copy the list again.")
    else None

abbrev pub replay_sentence : ℕ → Option SentenceData
replay_sentence number =
    if number == 1 then row (codes "its template digest is not the SHA-1 of its data, and it is not a violation")
    (codes "Copy the list again. If the error persists, the entry was changed: do not trust the list.")
    else None

-- ---- what is wrong with what is converted, and what to do

abbrev pub as_text : List ℕ
as_text = codes "Give the kernel's ascii_runtime_measurements, unchanged."

abbrev pub text_sentence : ℕ → Option SentenceData
text_sentence number =
    if number == 1 then row (codes "it is not a measurement list entry as the kernel prints it") as_text
    else if number == 2 then row (codes "its template is not one of the kernel's")
    (codes "Give binary_runtime_measurements, which has the whole entry.")
    else if number == 3 then row (codes "its template digest is not the SHA-1 of its data, and it is not a violation")
    (codes "Give binary_runtime_measurements: in the text, the kernel may have replaced spaces in the path. If its digest does not match either, the entry was changed: do not trust the list.")
    else if number == 4 then row (codes "it is longer than 1,048,576 bytes") as_text
    else None

-- The numbers that a log has are its own.
abbrev pub form_sentence : ℕ → Option SentenceData
form_sentence number =
    if number == 11 then row (codes "it is cut short") (codes "Copy the log again.")
    else if number == 12 then row (codes "it extends a PCR above 23") firmware
    else if number == 13 then row (codes "the first bytes are not an event of a firmware log")
    (codes "Give the kernel's binary_bios_measurements, unchanged, or the log from the ACPI table CCEL.")
    else log_sentence number

-- ---- what is wrong with PCR values, known files or a checkpoint, and what to do

abbrev pub start_again : List ℕ
start_again = codes "Start again with the whole list."

abbrev pub expected_sentence : ℕ → Option SentenceData
expected_sentence number =
    if number == 1 then row (codes "it does not state a PCR and its value")
    (codes "Write a bank, a PCR and its value in hexadecimal, without 0x. If this is tpm2-tools output, convert it unchanged with ima-agent expected.")
    else if number == 2 then row (codes "it repeats a PCR of its bank") (codes "State each PCR of a bank once.")
    else if number == 4 then row (codes "this is tpm2_quote output, which nobody has verified")
    (codes "Verify the quote itself, or give the output of tpm2_pcrread.")
    else if number == 5 then row (codes "the signature line is missing") (codes "Give the whole output of tpm2_checkquote.")
    else if number == 6 then row (codes "no PCR is stated, or none of the wanted ones")
    (codes "Read the wanted PCRs again: the tool failed or read others.")
    else None

abbrev pub known_sentence : ℕ → Option SentenceData
known_sentence number =
    if number == 1 then row (codes "it is a SHA-1 digest, which can be forged") (codes "Give SHA-256, SHA-384 or SHA-512 digests.")
    else if number == 2 then row (codes "it is not a digest and a name, as sha256sum prints them")
    (codes "Give the output of sha256sum, sha384sum or sha512sum, unchanged.")
    else None

abbrev pub checkpoint_sentence : ℕ → Option SentenceData
checkpoint_sentence number =
    if number == 1 then row (codes "The checkpoint is incomplete or was changed") start_again
    else if number == 2 then row (codes "The checkpoint's version is not supported") start_again
    else if number == 3 then row (codes "The checkpoint is from another boot: it starts from PCR values that the log does not produce") start_again
    else if number == 4 then row (codes "The quote and the checkpoint are from different boots, or the checkpoint was saved without a quote") start_again
    else None

-- ---- what is wrong with a quote or its signature, and what to do

abbrev pub copy_quote : List ℕ
copy_quote = codes "Give the message as tpm2_quote wrote it."

abbrev pub once : List ℕ
once = codes "Ask the machine for a quote that names each bank once."

abbrev pub all_pcrs : List ℕ
all_pcrs = codes "Ask the machine for a quote with all required PCRs."

abbrev pub signature : List ℕ
signature = codes "Give the signature that tpm2_quote wrote with this message, and the key that made it."

abbrev pub asked_sentence : ℕ → Option SentenceData
asked_sentence number =
    if number == 11 then row (codes "The quote's nonce is not the one given")
    (codes "Ask the machine for a new quote with this nonce.")
    else if number == 12 then row (codes "The quote lacks a PCR in a bank where it is required") all_pcrs
    else None

abbrev pub quote_sentence : ℕ → Option SentenceData
quote_sentence number =
    if number == 1 then row (codes "The quote's message is cut short") copy_quote
    else if number == 2 then row (codes "The message is not a quote made by a TPM")
    (codes "Give the message that tpm2_quote wrote, not its signature or its PCR values.")
    else if number == 3 then row (codes "The quote's clock flag is neither 0 nor 1") copy_quote
    else if number == 4 then row (codes "The quote selects PCRs in an unknown bank")
    (codes "Ask the machine for a quote with only SHA-1, SHA-256, SHA-384 or SHA-512 banks.")
    else if number == 5 then row (codes "The quote selects a bank twice") once
    else if number == 6 then row (codes "The quote has more selections than there are known banks") once
    else if number == 7 then row (codes "The quote selects a PCR above 23") (codes "Ask the machine for a quote with only PCRs from 0 to 23.")
    else if number == 8 then row (codes "The quote selects no PCR") all_pcrs
    else if number == 9 then row (codes "The quote's digest is not SHA-256, SHA-384 or SHA-512")
    (codes "Ask the machine for a quote with one of these hashes.")
    else if number == 10 then row (codes "Bytes follow the quote in its message") copy_quote
    else asked_sentence number

abbrev pub signature_sentence : ℕ → Option SentenceData
signature_sentence number =
    if number == 1 then row (codes "The signature is cut short") signature
    else if number == 2 then row (codes "The signature's scheme is not RSASSA, RSAPSS or ECDSA") signature
    else if number == 3 then row (codes "The signature's hash is unknown") signature
    else if number == 4 then row (codes "Bytes follow the signature") signature
    else if number == 5 then row (codes "The key does not allow the signature's scheme")
    (codes "Give this key's signature: this one was made by another key or changed.")
    else if number == 6 then row (codes "The signature's hash is SHA-1 or not the key's")
    (codes "Sign with SHA-256, SHA-384 or SHA-512. The signature may also be another key's.")
    else if number == 7 then row (codes "This key did not sign the message")
    (codes "Give message, signature and key of the same quote. If they already are, one of them was changed: do not trust the quote.")
    else if number == 8 then row (codes "The key is neither RSA with 2,048 to 4,096 bits nor ECC on P-256 or P-384")
    (codes "Verify the signature with other software. Then leave out key and signature, and state that it was checked.")
    else if number == 9 then row (codes "The PEM file has an unsupported kind of key or an unsupported form")
    (codes "Give the key's public area as tpm2_createak -u writes it.")
    else None

-- ---- what is wrong with a TPM's key, and what to do

abbrev pub area : List ℕ
area = codes "Give the key's public area as tpm2_createak -u writes it, not a PEM file."

abbrev pub other_kind : List ℕ
other_kind = codes "Use an RSA key, or an ECC key on P-256, P-384 or P-521."

abbrev pub other_key : List ℕ
other_key = codes "Use another key, such as one that tpm2_createak makes."

abbrev pub longer_hash : List ℕ
longer_hash = codes "Use a key whose name uses SHA-256, SHA-384 or SHA-512."

abbrev pub tpm_key : List ℕ
tpm_key = codes "Use a key that the TPM made and keeps, such as one that tpm2_createak makes."

abbrev pub attestation : List ℕ
attestation = codes "Give the attestation key, not the endorsement key."

abbrev pub endorsement : List ℕ
endorsement = codes "Give the endorsement key, not an attestation key."

abbrev pub purpose_sentence : ℕ → Option SentenceData
purpose_sentence number =
    if number == 17 then row (codes "The key cannot sign") attestation
    else if number == 18 then row (codes "The key can decrypt, which an attestation key must not") attestation
    else if number == 19 then row (codes "The key's scheme is not RSASSA, RSAPSS or ECDSA") (codes "Make an attestation key with one of these schemes.")
    else if number == 20 then row (codes "The key signs with SHA-1")
    (codes "Make an attestation key that signs with SHA-256, SHA-384 or SHA-512.")
    else if number == 21 then row (codes "The key can sign, which an endorsement key must not") endorsement
    else if number == 22 then row (codes "The key cannot decrypt") endorsement
    else None

abbrev pub key_sentence : ℕ → Option SentenceData
key_sentence number =
    if number == 1 then row (codes "The public area is cut short") area
    else if number == 2 then row (codes "The key is neither RSA nor ECC") other_kind
    else if number == 3 then row (codes "The public area names an unknown hash") longer_hash
    else if number == 4 then row (codes "The key has a symmetric algorithm other than AES") other_key
    else if number == 5 then row (codes "The key's scheme is unknown") other_key
    else if number == 6 then row (codes "The key's exponent is not 65,537") other_key
    else if number == 7 then row (codes "The key's curve is not P-256, P-384 or P-521") other_kind
    else if number == 8 then row (codes "The key has a key derivation scheme") other_key
    else if number == 9 then row (codes "The key's size is not the stated one or not that of its curve") (codes "Copy the public area again.")
    else if number == 10 then row (codes "Bytes follow the public area") area
    else if number == 11 then row (codes "The key's name uses SHA-1") longer_hash
    else if number == 12 then row (codes "The key may leave its TPM") tpm_key
    else if number == 13 then row (codes "The key may be moved to another parent key") tpm_key
    else if number == 14 then row (codes "The key was not made by its TPM") tpm_key
    else if number == 15 then row (codes "The key is not restricted: its TPM signs or decrypts any data with it") tpm_key
    else if number == 16 then row (codes "The RSA key has fewer than 2,048 bits") (codes "Use an RSA key with at least 2,048 bits.")
    else purpose_sentence number

-- ---- why files cannot be measured, and what to do

abbrev pub report : List ℕ
report = codes "This is a bug in the program: report it."

abbrev pub book_sentence : ℕ → Option SentenceData
book_sentence number =
    if number == 1 then row (codes "the template or the book does not accept digests of this algorithm")
    (codes "Choose another hash, or another template: ima accepts only SHA-1.")
    else if number == 2 then row (codes "there is no bank for this algorithm") (codes "Choose a hash for which the log has a bank.")
    else if number == 3 then row (codes "there is no such PCR") (codes "Choose a PCR from 0 to 23.")
    else if number == 4 then row (codes "the path contains a NUL byte") (codes "Rename the file.")
    else if number == 5 then row (codes "the path is longer than the template allows") (codes "Use a shorter path, or a template other than ima.")
    else if number == 6 then row (codes "the template digest is all zeros, which would mark a violation") (codes "Leave the file out.")
    else if number == 7 then row (codes "the limit on the number of records is reached") (codes "Raise the limit, or measure fewer files.")
    else None

abbrev pub gather_sentence : ℕ → Option SentenceData
gather_sentence number =
    if number == 1 then row (codes "the book has another origin") report
    else if number == 2 then row (codes "a receipt is for no record") report
    else if number == 3 then row (codes "the receipts of a group are out of order") report
    else if number == 4 then row (codes "two groups have a receipt for the same record") report
    else if number == 5 then row (codes "a record has no receipt") report
    else if number == 6 then row (codes "an operation was refused because the book is full, but it is not") report
    else None

-- ---- all

-- The sentence of a kind that has no numbers.
abbrev pub without_number : ℕ → Option SentenceData → Option SentenceData
without_number number sentence = if number == 0 then sentence else None

abbrev pub argument_sentence : Option SentenceData
argument_sentence =
    row (codes "An argument is wrong")
    (codes "Write PCRs as in sha256:0-10. Require at least PCR 10; with a quote, require PCRs 0 to 10, and not only in the SHA-1 bank. A nonce has at least 16 bytes. Known files need required PCRs.")

abbrev pub memory_sentence : Option SentenceData
memory_sentence = row (codes "Memory ran out") (codes "Try again with more memory.")

-- The sentence of an error of this kind with this number, which is 0 where the kind has no numbers. An error that names a file has none here.
abbrev pub sentence_of : FaultKind → ℕ → Option SentenceData
sentence_of kinds.Log number = log_sentence number
sentence_of kinds.List number = list_sentence number
sentence_of kinds.Replay number = replay_sentence number
sentence_of kinds.ListText number = text_sentence number
sentence_of kinds.LogForm number = form_sentence number
sentence_of kinds.Expect number = expected_sentence number
sentence_of kinds.Known number = known_sentence number
sentence_of kinds.Checkpoint number = checkpoint_sentence number
sentence_of kinds.Quote number = quote_sentence number
sentence_of kinds.Signature number = signature_sentence number
sentence_of kinds.Key number = key_sentence number
sentence_of kinds.Book number = book_sentence number
sentence_of kinds.Outcome number = book_sentence number
sentence_of kinds.Gather number = gather_sentence number
sentence_of kinds.Usage number = without_number number argument_sentence
sentence_of kinds.Memory number = without_number number memory_sentence
sentence_of kind number = None

-- Whether the errors of a kind have sentences here: not that a text is not hexadecimal, and not the errors that name a file.
abbrev pub has_sentences : FaultKind → Bool
has_sentences kinds.NotHex = false
has_sentences kinds.TooLong = false
has_sentences kinds.Read = false
has_sentences kinds.Write = false
has_sentences kinds.NotUtf8 = false
has_sentences kind = true

-- The error has a sentence, if those of its kind have some.
abbrev pub HasSentence : FaultHead → Type 0
HasSentence head = has_sentences head.kind ≡ true → is_some (sentence_of head.kind (unwrap_or head.number 0)) ≡ true
