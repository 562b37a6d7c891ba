-- What other crates name of the definitions of `event_data`.
pub use Rattle.event_data.specs.BlobReading.{described_blob_in, plain_blob_in, tagged_in}
unfoldable pub use Rattle.event_data.specs.BlobReading.{described_blob, plain_blob}
pub use Rattle.event_data.specs.Blobs.{BlobData, IsDescribedBlob, IsGuid, IsLocality, IsPlainBlob, IsTagged, IsTechnology, TaggedData, blob_of, reserved, tagged_of}
pub use Rattle.event_data.specs.ContentReading.{configuration_content, content_in, form_content, host_content, loader_content, long_text_content, post_code_content, tag_content, text_and_nul_content, text_content, version_content}
pub use Rattle.event_data.specs.Entries.{partition_of}
pub use Rattle.event_data.specs.EventForms.{Content, Says, SaysConfiguration, SaysHost, SaysIn, SaysKnown, SaysLoader, SaysLongText, SaysPostCode, SaysTag, SaysText, SaysTextAndNul, SaysVersion, blob, command, configuration_types, content_of, described_blob_types, form_of, gpt, gpt_types, guid, image_types, is_among, locality, separator, technology, text, text_types, variable_types, wide_text}
pub use Rattle.event_data.specs.Forms.{CommandData, ImageData, IsCommand, IsFollowed, IsImage, IsNode, IsSeparator, IsText, IsVariable, IsWideText, NodeData, VariableData, command_of, command_prefix, has_no_nul, hashed_text, hashes_nul, image_of, variable_of}
pub use Rattle.event_data.specs.GptForms.{GptData, IsGpt, IsPartition, PartitionData}
unfoldable pub use Rattle.event_data.specs.GptForms.{up_to_nul}
pub use Rattle.event_data.specs.GptReading.{EntryFields, TablePrefix, fitting, gpt_in, partition_at, partitions_in, table_in, then_more, told_entry}
unfoldable pub use Rattle.event_data.specs.GptReading.{entry, partitions_within, table_prefix}
pub use Rattle.event_data.specs.Gpts.{gpt_of, partitions_left}
pub use Rattle.event_data.specs.HandoffReading.{counted_pointers, described_handoff_in, handoff_in, pointers_in, tables_of}
unfoldable pub use Rattle.event_data.specs.HandoffReading.{described_handoff, table}
pub use Rattle.event_data.specs.HandoffViews.{handoff_of, pointers_left, table_of}
pub use Rattle.event_data.specs.Handoffs.{AreTables, HandoffData, IsDescribedHandoff, IsHandoff, IsTable, TableData}
pub use Rattle.event_data.specs.PathNodes.{node_of}
pub use Rattle.event_data.specs.Paths.{left_of}
pub use Rattle.event_data.specs.Reading.{and_more, image_in, image_then, nodes_in, separator_in, variable_in, variable_then}
unfoldable pub use Rattle.event_data.specs.Reading.{node, nodes_within}
pub use Rattle.event_data.specs.Results.{after_in, any_command, before_in, command_as, command_in, even_only, guid_in, locality_in, one_byte, red_hat_command, technology_in, text_in, wide_text_in}
pub use Rattle.event_data.specs.ValueContents.{says_of}
pub use Rattle.event_data.specs.Certificates.{IsCertificate, certificate_in, der_prefix, is_content}
unfoldable pub use Rattle.event_data.specs.Certificates.{der_content}
pub use Rattle.event_data.specs.TableNames.{table_name}
pub use Rattle.event_data.specs.ValueForms.{AreSignatureLists, AreSignatures, IsBootNumber, IsBootOrder, IsLoadOption, IsSignature, IsSignatureList, IsSignatureOf, ListData, LoadOptionData, SignatureData, are_units}
pub use Rattle.event_data.specs.ValueReading.{all_taken, behind, boot_number, lists_in, load_option_in, numbers_in, signature_in, signatures_in, signatures_of, taken_in, units, with_more}
unfoldable pub use Rattle.event_data.specs.ValueReading.{load_option, signature_list, taken_within, units_at}
pub use Rattle.event_data.specs.ValueRests.{lists_left, numbers_left, signatures_left, size_of}
pub use Rattle.event_data.specs.ValueViews.{list_of, load_option_of, signature_of}
pub use Rattle.event_data.specs.Values.{SaysValue, ValueSays, ValueSaysIn, authority_says, certificate, flag, flag_says, is_authority, is_flag, is_level, is_lists, is_load_option, is_order, is_own_certificate, level, lists, option, order, says_in, value_form, value_in}
