-- What other crates name of the definitions of `measure_book`.
pub use Rattle.measure_book.specs.Books.{BookState, GivesBack, IsBook, exported}
pub use Rattle.measure_book.specs.Equality.{same_origin}
pub use Rattle.measure_book.specs.Faults.{fault_number, gather_fault_number}
pub use Rattle.measure_book.specs.Groups.{AccountsForAll, AllName, AllNamed, AllRise, AreApart, AreReceipts, HasDouble, HasReceipt, IsFirstFault, IsFirstStranger, IsFirstUnnamed, IsNamed, IsOutOfOrder, NamesRecord, SaysFull, all_receipts, groups_of, outcome_at, outcomes_of, receipts_of}
pub use Rattle.measure_book.specs.Histories.{Answers, FollowInOrder, IsFirstPlace, IsLegal, IsNewPlace, IsOpening, MayFollow, added_entry, entry_if_added, entry_of, list_of, list_register, measured_entry, op_refusal, open_refusal_of, opening_digest, opening_fields, opens_with_zero_digest, path_refusal, refusal_of}
pub use Rattle.measure_book.specs.Operations.{BookOp, BookOutcome, BookReceipt, BookRecord, book_op_of, book_outcome_of, book_receipt_of, book_record_of, done, measure, outcome_of_result, read, refused, violation}
pub use Rattle.measure_book.specs.Runs.{IsOutcome, RunsTo, record_for, records_after}
pub use Rattle.measure_book.specs.parts.BookParts.{book_state_of}
pub use Rattle.measure_book.specs.parts.EqualityProofs.{receipt_decided, same_by}
pub use Rattle.measure_book.specs.parts.GroupParts.{AllMarked, AreMarked, AreWithin, FallsBack, FirstGroupsNameRecords, HasMarked, HasPlace, HasReceiptIn, IsFirstStrangerIn, IsFirstUnmarked, IsMarkedBy, IsWithin, MarkedBelow, NotFullIn, NotFullInFirst, PlacesRise, PlacesRiseInFirst, PlacesRiseTo, ReceiptsNameRecords, SaysFullIn, is_marked}
pub use Rattle.measure_book.specs.parts.Indexes.{IsIndex, IsNewTo, PlaceMap, has_key, is_measured, payload_hash, place_in}
pub use Rattle.measure_book.specs.parts.Steps.{AreBookEntries, IsBookEntry, IsStep, added, checked_fields, measurement_op}
