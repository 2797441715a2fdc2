-- Every word that a contract of a public call cites, under one name. A crate over gimli_cfi needs
-- `gimli_cfi` alone in its line of crates.txt, and one import for its clauses:
--     ghost use Rattle.gimli_cfi.specs.Words.{IsRowByScan, section_of, row_lent}

-- ---- results and errors

pub use Rattle.cfi_read_core.specs.ReaderCalls.{map_ok}
pub use Rattle.cfi_read_core.specs.declared.error.Error.{Error}
pub use Rattle.cfi_read_core.specs.declared.error.Error.TheVariants.{UnexpectedEof}
pub use Rattle.cfi_read_core.specs.declared.error.Error.TheVariants.{BadUnsignedLeb128}
pub use Rattle.cfi_read_core.specs.declared.error.Error.TheVariants.{BadSignedLeb128}
pub use Rattle.cfi_read_core.specs.declared.error.Error.TheVariants.{UnknownReservedLength}
pub use Rattle.cfi_read_core.specs.declared.error.Error.TheVariants.{UnsupportedAddressSize}
pub use Rattle.cfi_read_core.specs.declared.error.Error.TheVariants.{UnsupportedOffset}
pub use Rattle.cfi_read_core.specs.declared.error.Error.TheVariants.{UnsupportedRegister}
pub use Rattle.cfi_read_core.specs.declared.error.Error.TheVariants.{AddressOverflow}
pub use Rattle.cfi_read_core.specs.declared.error.Error.TheVariants.{UnknownVersion}
pub use Rattle.cfi_read_core.specs.declared.error.Error.TheVariants.{UnsupportedSegmentSize}
pub use Rattle.cfi_read_core.specs.declared.error.Error.TheVariants.{UnknownAugmentation}
pub use Rattle.cfi_read_core.specs.declared.error.Error.TheVariants.{UnknownPointerEncoding}
pub use Rattle.cfi_read_core.specs.declared.error.Error.TheVariants.{CannotParseOmitPointerEncoding}
pub use Rattle.cfi_read_core.specs.declared.error.Error.TheVariants.{UnsupportedPointerEncoding}
pub use Rattle.cfi_read_core.specs.declared.error.Error.TheVariants.{PcRelativePointerButSectionBaseIsUndefined}
pub use Rattle.cfi_read_core.specs.declared.error.Error.TheVariants.{TextRelativePointerButTextBaseIsUndefined}
pub use Rattle.cfi_read_core.specs.declared.error.Error.TheVariants.{DataRelativePointerButDataBaseIsUndefined}
pub use Rattle.cfi_read_core.specs.declared.error.Error.TheVariants.{FuncRelativePointerInBadContext}
pub use Rattle.cfi_read_core.specs.declared.error.Error.TheVariants.{UnsupportedIndirectPointer}
pub use Rattle.cfi_read_core.specs.declared.error.Error.TheVariants.{NotCieId, NotCiePointer}
pub use Rattle.cfi_read_core.specs.declared.error.Error.TheVariants.{NoEntryAtGivenOffset}
pub use Rattle.cfi_read_core.specs.declared.error.Error.TheVariants.{OffsetOutOfBounds}
pub use Rattle.cfi_read_core.specs.declared.error.Error.TheVariants.{UnknownCallFrameInstruction}
pub use Rattle.cfi_read_core.specs.declared.error.Error.TheVariants.{CfiInstructionInInvalidContext}
pub use Rattle.cfi_read_core.specs.declared.error.Error.TheVariants.{InvalidCfiSetLoc}
pub use Rattle.cfi_read_core.specs.declared.error.Error.TheVariants.{StackFull, PopWithEmptyStack}
pub use Rattle.cfi_read_core.specs.declared.error.Error.TheVariants.{TooManyRegisterRules}
pub use Rattle.cfi_read_core.specs.declared.error.Error.TheVariants.{NoUnwindInfoForAddress}
pub use Rattle.cfi_read_core.specs.declared.error.Error.TheVariants.{OutOfMemory}
pub use Rattle.cfi_read_core.specs.RefusalNames.{name_of, value_of}
pub use Rattle.cfi_read_core.specs.RefusalNames.{number_of as error_number_of}
pub use Rattle.cfi_read_core.specs.ErrorSentences.{sentence_of}
-- ---- bytes, and readers of them

pub use Rattle.cfi_read_core.specs.ReadFunctions.{Source, Position, Extent, Outcome, Read, Readings}
pub use Rattle.cfi_read_core.specs.ReadFunctions.{bytes_of, skip, split}
pub use Rattle.cfi_read_core.specs.ReaderCalls.{Reads, ReadsBy, ReadsValue, IsSound, IsPartOf}
pub use Rattle.cfi_read_core.specs.ReaderCalls.{all_of, bytes_left}
pub use Rattle.cfi_read_core.specs.ReaderCalls.{end_position, extent_of, find_byte, remaining}
pub use Rattle.cfi_read_core.specs.ReaderCalls.{same_reader}
pub use Rattle.cfi_read_core.specs.ReaderCalls.{read_at}
pub use Rattle.cfi_read_core.specs.SliceReaders.{slice_position, slice_over, narrow_over}
pub use Rattle.cfi_read_core.specs.ByteOrder.{is_big}
pub use Rattle.cfi_read_core.specs.Offsets.{offset_up_to, difference}
pub use Rattle.cfi_read_core.specs.Numbers.{InitialLength, initial_length_size, initial_length_view}
pub use Rattle.cfi_read_core.specs.Numbers.{number_of, register_of}
unfoldable pub use Rattle.cfi_read_core.specs.Numbers.{unsigned, signed, unsigned_leb128}
unfoldable pub use Rattle.cfi_read_core.specs.Numbers.{signed_leb128, offset_leb128}
unfoldable pub use Rattle.cfi_read_core.specs.Numbers.{register_leb128, initial_length, text}
pub use Rattle.cfi_read_core.specs.Addresses.{IsAddressSize, checked_sum, wrap}
pub use Rattle.cfi_read_core.specs.AddressSizes.{size_in_bytes}
unfoldable pub use Rattle.cfi_read_core.specs.Addresses.{address, address_size}
pub use Rattle.cfi_read_core.specs.declared.common.Format.{Format}
pub use Rattle.cfi_read_core.specs.declared.common.Register.{Register}
pub use Rattle.cfi_read_core.specs.declared.common.SectionId.{SectionId}
pub use Rattle.cfi_read_core.specs.declared.common.Vendor.{Vendor}
pub use Rattle.cfi_read_core.specs.declared.common.Vendor.TheVariants.{Default as no_vendor}
-- ---- sections, encoded pointers and their bases

pub use Rattle.cfi_read_core.specs.CallFrameSections.{SectionKind, SectionView, IsOf, section_id}
pub use Rattle.cfi_read_core.specs.CallFrameSections.{width_of}
pub use Rattle.cfi_read_core.specs.CallFrameSections.{DebugFrame as of_debug_frame}
pub use Rattle.cfi_read_core.specs.CallFrameSections.{EhFrame as of_eh_frame}
pub use Rattle.cfi_read_core.specs.CallFrameSections.{cie_id, cie_offset_from, has_sizes, id_width}
pub use Rattle.cfi_read_core.specs.CallFrameSections.{zero_length_ends}
pub use Rattle.cfi_entry.specs.Sections.{Section, position_of, section_of}
pub use Rattle.cfi_entry.specs.SectionViews.{debug_frame_reader, debug_frame_address_size}
pub use Rattle.cfi_entry.specs.SectionViews.{debug_frame_vendor}
pub use Rattle.cfi_entry.specs.SectionViews.{debug_frame_view, eh_frame_reader}
pub use Rattle.cfi_entry.specs.SectionViews.{eh_frame_address_size}
pub use Rattle.cfi_entry.specs.SectionViews.{eh_frame_vendor, eh_frame_view, IsNewDebugFrame}
pub use Rattle.cfi_entry.specs.SectionViews.{IsNewEhFrame}
pub use Rattle.cfi_entry.specs.declared.eh_frame.EhFrame.{EhFrame}
pub use Rattle.cfi_parts.specs.declared.pointer.BaseAddresses.{BaseAddresses}
pub use Rattle.cfi_parts.specs.declared.pointer.SectionBaseAddresses.{SectionBaseAddresses}
pub use Rattle.cfi_parts.specs.declared.pointer.Pointer.{Pointer}
pub use Rattle.cfi_parts.specs.declared.pointer.Pointer.TheVariants.{Direct, Indirect}
pub use Rattle.cfi_parts.specs.Pointers.{direct, pointer_value}
pub use Rattle.cfi_read_core.specs.PointerEncodings.{format_of, application_of, is_indirect}
pub use Rattle.cfi_read_core.specs.PointerEncodings.{is_valid_encoding}
-- ---- entries: CIEs and FDEs

pub use Rattle.cfi_entry.specs.Prefixes.{Prefix}
pub use Rattle.cfi_entry.specs.Augmentations.{Augmentation, lsda_encoding_of, personality_of}
pub use Rattle.cfi_entry.specs.Augmentations.{address_encoding_of}
pub use Rattle.cfi_entry.specs.Augmentations.{is_trampoline, has_b_key}
pub use Rattle.cfi_entry.specs.Cies.{Cie}
pub use Rattle.cfi_entry.specs.Fdes.{PartialFde, Fde, Covers, covers, end_of}
pub use Rattle.cfi_entry.specs.Entries.{Entry, CieEntry, FdeEntry, end_of_entry, entries}
pub use Rattle.cfi_entry.specs.Entries.{entries_left, fde_at, fde_by}
unfoldable pub use Rattle.cfi_entry.specs.Entries.{cie_at, partial_fde_at}
pub use Rattle.cfi_entry.specs.EntryViews.{augmentation_view, cie_view, IsCieOf}
pub use Rattle.cfi_entry.specs.declared.cie.CieFields.{CieFields}
pub use Rattle.cfi_unwind.specs.declared.entry.fde.FdeFields.{FdeFields}
pub use Rattle.cfi_unwind.specs.FdeViews.{fde_view, fde_cie, IsFdeOf, HasCieOf}
pub use Rattle.cfi_unwind.specs.WalkViews.{partial_view, IsPartialOf, cie_or_fde_view, IsEntryOf}
pub use Rattle.cfi_unwind.specs.WalkViews.{entry_view, OfEither, partial_of}
pub use Rattle.cfi_unwind.specs.WalkViews.{partial_bases, partial_cie_offset, partial_prefix}
pub use Rattle.cfi_unwind.specs.WalkViews.{partial_section}
pub use Rattle.cfi_unwind.specs.EntryIterators.{walk_section, walk_bases, entries_of, IsAtStart}
pub use Rattle.cfi_unwind.specs.EntryIterators.{IsSameWalk, IsShorter}
-- ---- the FDE of an address, and a `get_cie` that is asked for its CIE

pub use Rattle.cfi_unwind.specs.Scan.{chosen_fde, read_fde, fde_readings}
pub use Rattle.cfi_unwind.specs.GetCieCalls.{AsksForCie, GivesCiesOf, IsAnswered, GetCieCall}
pub use Rattle.cfi_unwind.specs.GetCieCalls.{ReadsWith, Scans}
pub use Rattle.cfi_unwind.specs.GetCieCalls.{ReadsFdeAt, ReadsFdeOf, ScansForFde}
pub use Rattle.cfi_unwind.specs.CachedCie.{CachesCie, IsCacheOf, GetsCie}
pub use Rattle.cfi_unwind.specs.declared.cie_cache.CieCacheFields.{CieCacheFields}
-- ---- instructions and their expressions

pub use Rattle.cfi_parts.specs.Instructions.{Instruction}
pub use Rattle.cfi_parts.specs.InstructionReaders.{InstructionReader, ReadsIn, Meets}
pub use Rattle.cfi_parts.specs.InstructionReaders.{instructions_left, items}
pub use Rattle.cfi_parts.specs.InstructionReaders.{MeetsNext, IfFound, HasExpressionOf, SameContext}
pub use Rattle.cfi_parts.specs.InstructionReaders.{SameSource, StaysWithin}
pub use Rattle.cfi_parts.specs.InstructionReaders.{IsShorter as HasFewerInstructions}
pub use Rattle.cfi_parts.specs.InstructionVisits.{VisitsNext}
pub use Rattle.cfi_parts.specs.ReadingParameters.{NotBeforeSection, instruction_context}
pub use Rattle.cfi_parts.specs.ReadingParameters.{pointer_context, reader_at}
pub use Rattle.cfi_parts.specs.InstructionIterators.{instruction_items, instruction_reader}
pub use Rattle.cfi_entry.specs.EntryInstructions.{cie_instructions, fde_instructions}
pub use Rattle.cfi_read_core.specs.MappedInstructions.{map_expression, map_instruction}
pub use Rattle.cfi_read_core.specs.ExpressionPlaces.{LiesIn, place_in, HasExpressionIn}
pub use Rattle.cfi_read_core.specs.ExpressionPlaces.{expression_extent}
unfoldable pub use Rattle.cfi_read_core.specs.ExpressionPlaces.{expression_bytes}
pub use Rattle.cfi_read_core.specs.declared.instruction.UnwindExpression.{UnwindExpression}
pub use Rattle.cfi_read_core.specs.declared.instruction.CallFrameInstruction.{CallFrameInstruction}
-- ---- rules, rows, contexts and tables

pub use Rattle.cfi_state.specs.declared.table.rules.CfaRule.{CfaRule}
pub use Rattle.cfi_state.specs.declared.table.rules.RegisterRule.{RegisterRule}
pub use Rattle.cfi_state.specs.Machine.{Rules, Parts, State}
pub use Rattle.cfi_state.specs.MachineSettings.{Setting}
pub use Rattle.cfi_state.specs.Row.{Row, RowContains, empty_row}
pub use Rattle.cfi_state.specs.Equality.{rules_eq, row_eq, context_eq}
pub use Rattle.cfi_state.specs.MappedStates.{map_row, row_lent}
pub use Rattle.cfi_state.specs.RowExpressions.{HasExpressionsIn}
pub use Rattle.cfi_state.specs.RulePairs.{IsDistinctRegisters, rules_of}
pub use Rattle.cfi_state.specs.RegisterRuleIters.{rules_left}
pub use Rattle.cfi_state.specs.UnwindContexts.{ContextState, IsContext, context_of, empty_context}
pub use Rattle.cfi_state.specs.UnwindTableStates.{TableState}
pub use Rattle.cfi_state.specs.ContextEffects.{setting_of}
pub use Rattle.cfi_unwind.specs.UnwindTableViews.{table_state, table_parameters, table_setting}
pub use Rattle.cfi_unwind.specs.UnwindTableViews.{HasSettingOf, IsNewTable}
pub use Rattle.cfi_unwind.specs.UnwindTableViews.{holds_row, context_now, context_name, context_row}
pub use Rattle.cfi_unwind.specs.UnwindTableCalls.{StartsRows, LendsNextRow}
pub use Rattle.cfi_unwind.specs.contracts.unwind_table.UnwindTable.{the_row}
pub use Rattle.cfi_unwind.specs.AddressRow.{IsRowByScan, IsRowOfFde, IsRowOfFound, row_by_scan}
pub use Rattle.cfi_unwind.specs.AddressRow.{row_of_fde, setting}
pub use Rattle.cfi_unwind.specs.AddressRow.{ScansForRow, ScansForRowFrom}
-- ---- storages: lists and their limits

pub use Rattle.cfi_read_core.specs.ListLimits.{HasRoomFor, IsAtLimit, IsWithinLimit, IsFixed}
pub use Rattle.cfi_read_core.specs.Refill.{refill-same}
-- ---- the header, and its table

pub use Rattle.gimli_cfi.specs.declared.hdr.header.EhFrameHdr.{EhFrameHdr}
pub use Rattle.gimli_cfi.specs.EhFrameHdr.{HeaderSection, Header, Table, header_section, header_of}
pub use Rattle.gimli_cfi.specs.EhFrameHdr.{value_size, searched_size, offset_of_pointer}
unfoldable pub use Rattle.gimli_cfi.specs.EhFrameHdr.{start_of, target_of}
pub use Rattle.gimli_cfi.specs.HeaderViews.{header_reader, unparsed_view, section_view}
pub use Rattle.gimli_cfi.specs.HeaderViews.{header_view, header_bytes, header_address_size}
pub use Rattle.gimli_cfi.specs.HeaderViews.{header_section_view}
pub use Rattle.gimli_cfi.specs.HeaderViews.{table_header, table_view, table_section_view}
pub use Rattle.gimli_cfi.specs.HeaderViews.{table_starts, table_targets, table_offset}
pub use Rattle.gimli_cfi.specs.HeaderViews.{walk_view, IsSameTable, listing_view}
pub use Rattle.gimli_cfi.specs.HeaderViews.{start_size, calls_made, answers_of, AreStartsOf}
pub use Rattle.gimli_cfi.specs.HeaderRows.{Walk, walk_of, walk_after, rows_left, ReadsNextRow}
pub use Rattle.gimli_cfi.specs.HeaderRows.{IsStep, MeetsRow}
unfoldable pub use Rattle.gimli_cfi.specs.HeaderRows.{next_row}
pub use Rattle.gimli_cfi.specs.PassedRows.{MeetsAfter}
unfoldable pub use Rattle.gimli_cfi.specs.PassedRows.{walk_past}
pub use Rattle.gimli_cfi.specs.BoundaryRows.{IsBoundaryRow, IsRefusalOfRow, AreRising, IsLastUpTo}
pub use Rattle.gimli_cfi.specs.HalvingSteps.{steps}
pub use Rattle.gimli_cfi.specs.Halving.{Search, search, looked_up, table_reads}
pub use Rattle.gimli_cfi.specs.Halving.{most_reads, reads_by_header}
unfoldable pub use Rattle.gimli_cfi.specs.Halving.{search_in}
pub use Rattle.gimli_cfi.specs.TableLookup.{IsFoundBySearch, IsFoundByTable, FindsByTable}
pub use Rattle.gimli_cfi.specs.RowsByTable.{IsFdeFound, IsRowByTable, IfFaithful, IfStartsOf}
pub use Rattle.gimli_cfi.specs.RowsByTable.{FindsFde, FindsRow, LeadsToRow}
pub use Rattle.gimli_cfi.specs.RowsByHeader.{FoundByHeader, IsRowByHeader}
-- ---- a section whose kind is known only when the program runs, with its header

pub use Rattle.gimli_cfi.specs.SectionSources.{GivenSection, source_view, given_section, given_as}
pub use Rattle.gimli_cfi.specs.SectionSources.{given_header, section_made, IsGivenRow}
pub use Rattle.gimli_cfi.specs.CheckVerdicts.{IsVerdict, IsVerdictOf}
pub use Rattle.gimli_cfi.specs.declared.source.SectionSource.{SectionSource}
-- ---- whether a table is faithful to its section

pub use Rattle.gimli_cfi.specs.FaithfulTables.{IsFaithful, IsFdeIn, IsRowOf}
pub use Rattle.gimli_cfi.specs.TableCheck.{Listing, ListsFaithfully, IsReason, most_starts}
pub use Rattle.gimli_cfi.specs.FaithfulViews.{faithful_view, checked_frame, IsCheckOf}
pub use Rattle.gimli_cfi.specs.declared.hdr.unfaithful.Unfaithful.{Unfaithful}
