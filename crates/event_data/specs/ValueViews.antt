-- What contracts see of the values of variables, and of what is lent of them.
use Rattle.event_data.specs.declared.load_option.LoadOption.{LoadOption}
use Rattle.event_data.specs.declared.variable.Signature.{Signature}
use Rattle.event_data.specs.declared.variable.SignatureList.{SignatureList}
use Rattle.event_data.specs.ValueForms.{LoadOptionData, SignatureData, ListData}

abbrev pub load_option_of : LoadOption → LoadOptionData
load_option_of option = record {
  attributes = option.attributes;
  description = option.description.now;
  path = option.path.now;
  optional_data = option.optional_data.now;
}

abbrev pub signature_of : Signature → SignatureData
signature_of signature = record { owner = signature.owner.now; payload = signature.payload.now }

abbrev pub list_of : SignatureList → ListData
list_of list = record {
  kind = list.kind.now;
  signature_size = list.signature_size;
  header = list.header.now;
  signatures = list.signatures.now;
}
