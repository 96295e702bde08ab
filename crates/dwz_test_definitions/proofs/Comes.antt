-- What files of some bytes say, and the run over them, so that all is found by computing.
use Rattle.std.proofs.Common.{ℕ, Bool, List, Result}
use Rattle.dwz_def_reading.specs.Refusal.{Refusal}
use Rattle.dwz_def_reading.specs.Reading.{groups_at, sleb_at, uleb_at}
use Rattle.dwz_def_reading.specs.ListKinds.{list_kind_rows}
use Rattle.dwz_def_reading.specs.Abbrevs.{declaration_at, pair_at, table_at}
use Rattle.dwz_def_reading.specs.ElfHeaders.{headers_from, number_at}
use Rattle.dwz_def_reading.specs.ElfLayout.{align_at, content_at, inside_fault, keep_end, layout_fault, moving, new_headers, numbers, placed_from, rebuilt, rebuilt_length, spread, sup_header}
use Rattle.dwz_def_reading.specs.ElfNames.{section_name_in}
use Rattle.dwz_def_reading.specs.ElfReading.{elf_fault_for, elf_of, field_fault_for, first_in, first_other, header_fault, identification_fault, missing_fault, names_fault, section_range, unkept_fault_for}
use Rattle.dwz_def_reading.specs.Entries.{attrs_at, front_at}
use Rattle.dwz_def_reading.specs.Items.{items_at, items_from}
use Rattle.dwz_def_reading.specs.PlainFile.{plain_file, plain_headers}
use Rattle.dwz_def_reading.specs.Supplementary.{sup_bytes}
use Rattle.dwz_def_reading.specs.Texts.{text_in}
use Rattle.dwz_def_reading.specs.Trees.{forest_at, siblings_at}
use Rattle.dwz_def_reading.specs.Units.{entries_in, header_reason, tree_at, unit_at, units_at, units_from, zero_count}
use Rattle.dwz_def_reading.specs.Values.{shaped_at}
use Rattle.dwz_def_reading.specs.OffsetTables.{count_at, counts_in, is_contribution}
use Rattle.dwz_def_reading.specs.Pruning.{bytes_kept, is_kept, range_end}
use Rattle.dwz_def_reading.specs.Documents.{Doc}
use Rattle.dwz_def_reading.specs.Files.{file_meaning_by, files_meaning, longest_file, longest_files, most_entries, no_files_before, section_of, unit_places}
use Rattle.dwz_def_reading.specs.LocLists.{list_at, list_entry_at}
use Rattle.dwz_def_reading.specs.Meanings.{all_places, first_raw, places_in, without_siblings}
use Rattle.dwz_def_reading.specs.Meant.{attrs_meaning, entries_meaning, meaning, units_meaning}
use Rattle.dwz_def_reading.specs.NamedLists.{list_of_attr, lists_of_attrs, lists_of_entries, lists_of_units}
use Rattle.dwz_def_reading.specs.Exprs.{most_inside, parts_from}
use Rattle.dwz_def_reading.specs.PatchedLists.{with_operands}
use Rattle.dwz_def_reading.specs.Patching.{with_units, written_at}
use Rattle.dwz_def_reading.specs.Ranges.{set_at}
use Rattle.dwz_def_reading.specs.LineTables.{file_table_at, nth_path, rows_said, tables_at, values_at}
use Rattle.dwz_def_reading.specs.Sequences.{row_at, row_items_from, times_at}
use Rattle.dwz_def_reading.specs.Shared.{byte_places, least_place, none_shared, operands_in_lists, operands_of}
use Rattle.dwz_def_tops.specs.UnitNames.{name_from}
use Rattle.dwz_def_readback.specs.Files.{Run}
use Rattle.dwz_words.specs.declared.options.Options.{Options}
use Rattle.dwz_def_output.specs.Contents.{lists_after_by, offsets_after_by, ranges_after_by, sections_after_by, strs_after_by}
use Rattle.dwz_def_output.specs.FilesAfter.{file_after_by, has_common, in_order, put_in_order}
use Rattle.dwz_def_run.specs.Out.{files_puts_by, summary_lines_by, run_for}
use Rattle.dwz_def_output.specs.Contents.{with_slots}
use Rattle.dwz_def_output.specs.Written.{raws}
use Rattle.dwz_test_definitions.proofs.Runs.{run_in}

-- what files say; whatever unfolds this unfolds all by which they are read
unfoldable pub said : List (List ℕ) → Result (List (Doc ℕ)) Refusal
unfolding run_in row_at row_items_from times_at list_kind_rows sleb_at file_table_at tables_at values_at rows_said nth_path plain_file plain_headers numbers files_meaning file_meaning_by section_of
    longest_file longest_files most_entries headers_from number_at section_name_in elf_fault_for field_fault_for first_in first_other header_fault identification_fault missing_fault names_fault
    section_range
    unkept_fault_for units_at units_from unit_at entries_in header_reason tree_at zero_count front_at attrs_at siblings_at forest_at table_at declaration_at pair_at items_at items_from uleb_at groups_at
    shaped_at text_in units_meaning entries_meaning attrs_meaning meaning without_siblings all_places places_in first_raw unit_places none_shared least_place operands_in_lists operands_of byte_places
    lists_of_units lists_of_entries lists_of_attrs list_of_attr list_at list_entry_at most_inside parts_from set_at lib.Count.ones
said contents = files_meaning no_files_before 0 contents

-- what is written of files of these contents that say these documents, and of which these are prunable; whatever unfolds this unfolds all
-- by which it is found
unfoldable pub come : (o : Options) (contents : List (List ℕ)) (docs : List (Doc ℕ)) (prunes : List Bool) → Run
unfolding said name_from sup_bytes elf_of align_at content_at inside_fault keep_end layout_fault moving new_headers placed_from rebuilt rebuilt_length spread sup_header raws with_operands with_units
    written_at lists_after_by offsets_after_by ranges_after_by sections_after_by strs_after_by with_slots file_after_by has_common in_order put_in_order files_puts_by summary_lines_by count_at counts_in is_contribution
    bytes_kept is_kept range_end
come o contents docs prunes = run_for o contents docs prunes
