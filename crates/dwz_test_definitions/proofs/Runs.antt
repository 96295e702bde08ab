-- What is written of files that say some documents: a run, by which all is found that comes of it.
use Rattle.std.proofs.Common.{ℕ, true, List}
use Rattle.dwz_def_reading.specs.Spelling.{groups_in, le_bytes, padded}
use Rattle.dwz_def_reading.specs.Forms.{form_rows}
use Rattle.dwz_def_reading.specs.Abbrevs.{pairs_bytes, table_bytes}
use Rattle.dwz_def_reading.specs.Rows.{has}
use Rattle.dwz_def_reading.specs.Units.{RawUnit}
use Rattle.dwz_def_reading.specs.Values.{value_bytes}
use Rattle.dwz_def_reading.specs.Documents.{Doc, entries_map, first_named}
use Rattle.dwz_def_reading.specs.Operators.{operator_rows}
use Rattle.dwz_def_reading.specs.Exprs.{any_address, expr_within, expressions_in, fields_at, first_unnamed, joined_items as exprs_joined, op_at, operands_in}
use Rattle.dwz_def_reading.specs.Sequences.{all_at, all_from}
use Rattle.dwz_def_reading.specs.LinesWritten.{file_formats, one_directory, rows_bytes, standard}
use Rattle.dwz_def_reading.specs.Classes.{class_in, class_rows}
use Rattle.dwz_def_tops.specs.Shown.{keys, unit_keys, units_keys}
use Rattle.dwz_def_tops.specs.Spaces.{space_text, tops_under}
use Rattle.dwz_def_tops.specs.Alike.{TopScope, any_entry, joined_parts, unit_in}
use Rattle.dwz_def_tops.specs.Deciding.{alike_test, bound_test, look_test, same_by, same_entries, same_int, same_part, same_plain, top_in}
use Rattle.dwz_def_tops.specs.Spots.{entry_spots, file_numbers, named_files, row_from, row_in, row_tops, same_numbers, same_spot, spot_in, spots_from, top_spots, tops_among, tops_from, units_of}
use Rattle.dwz_def_images.specs.Gain.{attrs_weight, bare_bytes, entries_weight, gain_rule, gain_test, gains_test, group_weight, weights}
use Rattle.dwz_def_images.specs.Homes.{candidate, file_of, first_alike, home, numbers_from, users}
use Rattle.dwz_def_images.specs.Moves.{line_attrs, part_at, root_of}
use Rattle.dwz_def_images.specs.Plan.{beside, chain_down, chains, distinct, imports, is_pinned, is_pinned_at, leading, local_partials, partials, partials_at, representatives, row_part, row_pinned}
use Rattle.dwz_def_images.specs.Plan.{row_staying, stand_in, top_row, uleb_targets}
use Rattle.dwz_def_images.specs.Units.{changes, common_units, kept_units, out_units, partial_units, tree}
use Rattle.dwz_def_encoding.specs.Placing.{attrs_with, entries_with, files_placed, fit, fit_units, has_key, has_text, number_of_key, path_index, placed, sections, text_place, texts_bytes}
use Rattle.dwz_def_encoding.specs.Placing.{units_placed}
use Rattle.dwz_def_encoding.specs.Placing.{units_with}
use Rattle.dwz_def_encoding.specs.Pruned.{attrs_uses, entries_renumbered, entries_uses, renumbered_units, slot_uses, units_uses}
use Rattle.dwz_def_encoding.specs.Writing.{attrs_bytes, code_in, coded, joined, node_bytes, parts_bytes, same_shape, shapes_in, spelled, table_in, tables_of, tree_bytes, unit_bytes, units_bytes}
use Rattle.dwz_def_encoding.specs.Writing.{with_shape, with_table}
use Rattle.dwz_def_readback.specs.Back.{run_of}
use Rattle.dwz_def_readback.specs.Files.{bases_at, common_fitted, fitted_by, formed_by, imports_common, uses_by, Run, Stored}
use Rattle.dwz_def_output.specs.Contents.{common_after}

-- files whose bytes and units may be any, and which are prunable
abbrev pub whatever : (ℕ → List ℕ) → (ℕ → List RawUnit) → Stored
whatever bytes raw = record { bytes = bytes; raw = raw; prunes = λ file. true }

-- tops move whose groups gain; whatever unfolds this unfolds all by which what is written is found
unfoldable pub run_in : TopScope → List (Doc ℕ) → Stored → Run
unfolding groups_in le_bytes padded form_rows pairs_bytes table_bytes has value_bytes entries_map first_named class_in class_rows keys unit_keys units_keys space_text tops_under any_entry
    joined_parts unit_in alike_test bound_test look_test same_by same_entries same_int same_part same_plain top_in entry_spots file_numbers named_files row_from row_in row_tops same_numbers same_spot
    spot_in spots_from top_spots tops_among tops_from attrs_weight bare_bytes entries_weight gain_test gains_test group_weight weights candidate file_of first_alike home numbers_from users line_attrs
    part_at root_of beside chain_down chains distinct imports is_pinned is_pinned_at leading local_partials partials partials_at representatives row_part row_pinned row_staying stand_in top_row
    uleb_targets changes common_units kept_units out_units partial_units tree attrs_with entries_with files_placed fit fit_units has_key has_text number_of_key placed sections text_place texts_bytes
    units_placed units_with attrs_uses entries_uses entries_renumbered renumbered_units slot_uses units_uses attrs_bytes code_in coded joined node_bytes parts_bytes same_shape shapes_in spelled
    table_in
    tables_of tree_bytes unit_bytes units_bytes with_shape with_table bases_at common_fitted fitted_by formed_by imports_common uses_by path_index common_after standard one_directory file_formats rows_bytes
    operator_rows expr_within op_at fields_at first_unnamed operands_in any_address expressions_in exprs_joined all_at all_from
run_in scope docs input = run_of (gain_rule (alike_test scope (units_of docs)) (units_of docs)) docs input
