-- What other crates name of the definitions of `ima_list`.
pub use Rattle.ima_list.specs.Aggregates.{aggregate_register_count, all_joined, boot_aggregate_of, boot_aggregate_path, old_aggregate, old_register_count}
unfoldable pub use Rattle.ima_list.specs.Aggregates.{joined_values}
pub use Rattle.ima_list.specs.Digesting.{IsGenuine, bank_digest, filled, hashed_bytes, hashed_payload, is_violation, violation_digest}
pub use Rattle.ima_list.specs.EntriesIn.{unread}
pub use Rattle.ima_list.specs.EntryFiles.{FileTold, file_of, kernel_file_of, told_of}
pub use Rattle.ima_list.specs.FieldKinds.{FileFields, IsSized, Suits, after_prefix, content_in, digest_by, digest_field, digest_in_field, field_content, field_spelling, field_text, file_fields_of, has_nul, is_bare, measured, name_field, no_fields, path_in_field, told, violated, with_digest, with_path, with_sig}
pub use Rattle.ima_list.specs.Fields.{HasFields, IsMadeOf, fields_in, fields_of}
pub use Rattle.ima_list.specs.KernelFields.{AreFields, FieldData, FieldsRead, IsField, and_more, fields_left, if_content, is_content, is_end, is_read, kernel_fields_of, left_of, type_prefix, typed_digest_in}
unfoldable pub use Rattle.ima_list.specs.KernelFields.{fields_at}
pub use Rattle.ima_list.specs.Lines.{line_head, line_of, two_wide}
pub use Rattle.ima_list.specs.ListEntry.{AreEntries, IsEntry, IsImaPayload, ListEntry, ima_name, is_ima, longest_ima_path}
pub use Rattle.ima_list.specs.ListFaults.{list_fault_entry, list_fault_number, replay_fault_entry, replay_fault_number}
pub use Rattle.ima_list.specs.Pieces.{AreComplete, FailsFor, IsLasting, IsReadSoFar, IsStoppedBy, ReadSoFar, accepted}
pub use Rattle.ima_list.specs.Replaying.{AreGenuine, IsFirstForged, IsReplayFault, IsReplayed, digests_of, replayed_value}
pub use Rattle.ima_list.specs.Rows.{row_at, row_spelling, row_text, row_told}
pub use Rattle.ima_list.specs.Spelling.{BeginsWith, BeginsWithEntry, HasBadRegister, HasListFault, HasLongPath, IsFaultOfRest, IsLongest, IsReading, list_spelling, payload_spelling, spelling}
pub use Rattle.ima_list.specs.Templates.{all_templates, entry_fault, hashed_measurement, longest_path, measurement_of, payload_of, takes_alg, template_name, template_named, template_row, violation_of}
pub use Rattle.ima_list.specs.parts.HashedFields.{row_hashed}
pub use Rattle.ima_list.specs.parts.Pieces.{IsNextRead, IsPrefixOf, read_so_far}
pub use Rattle.ima_list.specs.parts.Reading.{entry, head, ima_parts, ima_path, ima_payload, list_at, list_entry_in, payload, payload_at, register}
unfoldable pub use Rattle.ima_list.specs.parts.Reading.{entry_at, head_at, ima_payload_at, register_at}
