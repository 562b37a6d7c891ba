-- What contracts see of what a value says.
use Rattle.event_data.specs.declared.value_reader.ValueContent.{ValueContent}
use Rattle.event_data.specs.declared.value_reader.ValueContent.TheVariants as values
use Rattle.event_data.specs.ValueReading.{numbers_in, lists_in}
use Rattle.event_data.specs.ValueViews.{load_option_of, signature_of}
use Rattle.event_data.specs.ValueRests.{numbers_left, lists_left}
use Rattle.event_data.specs.Values.{ValueSays, flag, order, option, lists, signature, certificate, level, unknown}

abbrev pub says_of : ValueContent → ValueSays
says_of (values.Flag value) = flag value
says_of (values.Order value) = order (numbers_in (numbers_left value)).0
says_of (values.LoadOption value) = option (load_option_of value)
says_of (values.Lists value) = lists (lists_in (lists_left value)).0
says_of (values.Signature value) = signature (signature_of value)
says_of (values.Certificate value) = certificate value.now
says_of (values.Level value) = level value.now
says_of values.Unknown = unknown
