-- What stands after in small documents, by name, by computing.
use Rattle.std.proofs.Common.{◌≡◌, ℕ, ◌+◌, List, [], ◌∷◌, map, refl}
use Rattle.std.specs.Prelude.{codes}
use Rattle.dwz_def_reading.specs.Spelling.{groups_in, le_bytes, padded}
use Rattle.dwz_def_reading.specs.Forms.{form_rows}
use Rattle.dwz_def_reading.specs.Documents.{DwUnit, entries_map, first_named}
use Rattle.dwz_def_reading.specs.Rows.{has}
use Rattle.dwz_def_reading.specs.Trees.{End, Entry}
use Rattle.dwz_def_reading.specs.Values.{value_bytes}
use Rattle.dwz_def_tops.specs.Seen.{seen}
use Rattle.dwz_def_tops.specs.Spaces.{space_text, tops_under}
use Rattle.dwz_def_tops.specs.Alike.{Apart, TopScope, Together, any_entry, unit_in}
use Rattle.dwz_def_tops.specs.Deciding.{alike_test, bound_test, look_test, same_by, same_entries, same_int, same_part, same_plain, top_in}
use Rattle.dwz_def_tops.specs.Spots.{EntryName, FileUnit, Import, InChain, PartialOf, SpaceAt, UnitOf, Within, entry_spots, named_files, row_from, row_in, row_tops, same_numbers, same_spot, spot_in}
use Rattle.dwz_def_tops.specs.Spots.{spots_from, top_spots, tops_among, tops_from}
use Rattle.dwz_def_plan.specs.Gain.{attrs_weight, bare_bytes, entries_weight, gain_rule, gain_test, gains_test, group_weight, weights}
use Rattle.dwz_def_plan.specs.Homes.{candidate, file_of, first_alike, home, numbers_from, users}
use Rattle.dwz_def_plan.specs.Moves.{Move, line_attrs, part_at, plan, root_of}
use Rattle.dwz_def_plan.specs.Plan.{beside, chain_down, chains, distinct, imports, is_pinned, is_pinned_at, joined_parts, leading, local_partials, partials, partials_at, representatives, row_part}
use Rattle.dwz_def_plan.specs.Plan.{row_pinned, row_staying, stand_in, top_row, uleb_targets}
use Rattle.dwz_def_images.specs.Units.{changes, common_units, kept_units, out_units, partial_units, tree}
use Rattle.dwz_def_tops.proofs.SmallDocs.{carried, cycles, entry, files_of, int_type, ints, listed, long_type, one, pinned, short_type, space, spaces, then, twice_in_a_unit, two_lists_of_users, unit}
use Rattle.dwz_def_tops.proofs.SmallDocs.{unspecified}

-- ---- what is computed

abbrev move_in : TopScope → List (FileUnit EntryName) → Move
move_in scope units = plan (gain_rule (alike_test scope units) units) units (0 ∷ 1 ∷ [])

-- where each unit stands, and each entry below its root
abbrev shown : List (DwUnit EntryName) → List (EntryName × List EntryName)
shown units = map {B = EntryName × List EntryName} (λ v. (v.at, map (λ e. e.at) (seen v.below))) units

-- the units of a file, and of the common one
after : TopScope → List (FileUnit EntryName) → ℕ → List (EntryName × List EntryName)
unfolding entries_map first_named has any_entry unit_in alike_test bound_test look_test same_by same_entries same_int same_part same_plain top_in entry_spots named_files tops_under space_text
    same_numbers same_spot spot_in spots_from top_spots tops_among tops_from row_from row_in row_tops candidate file_of first_alike home numbers_from users attrs_weight bare_bytes
    entries_weight gain_test gains_test group_weight weights value_bytes form_rows le_bytes padded groups_in seen line_attrs part_at root_of beside chain_down chains distinct imports is_pinned
    is_pinned_at joined_parts leading local_partials partials partials_at representatives row_part row_pinned row_staying stand_in top_row uleb_targets changes common_units kept_units out_units
    partial_units tree
after scope units file = shown (out_units (move_in scope units) units file)

common : List (FileUnit EntryName) → List (EntryName × List EntryName)
unfolding after
common units = shown (common_units (move_in Together units))

-- ---- rows

nothing_moves : after Apart ints 0 ≡ (UnitOf 0, Within 0 [] ∷ []) ∷ (UnitOf 1, Within 1 [] ∷ []) ∷ []
unfolding after
nothing_moves = refl

-- the structure with its member, and the pointer
cycles_stand : after Apart cycles 0
    ≡ (PartialOf 0, Within 0 [] ∷ Within 0 (0 ∷ []) ∷ Within 1 [] ∷ []) ∷ (UnitOf 0, Import 0 0 ∷ []) ∷ (UnitOf 1, Import 1 0 ∷ []) ∷ (UnitOf 2, Import 2 0 ∷ []) ∷ []
unfolding after
cycles_stand = refl

-- the first two units import both partial units, and the third the first alone
users_differ : after Apart two_lists_of_users 0
    ≡ (PartialOf 0, Within 0 [] ∷ []) ∷ (PartialOf 1, Within 1 [] ∷ []) ∷ (UnitOf 0, Import 0 0 ∷ Import 0 1 ∷ []) ∷ (UnitOf 1, Import 1 0 ∷ Import 1 1 ∷ []) ∷ (UnitOf 2, Import 2 0 ∷ []) ∷ []
unfolding after
users_differ = refl

-- in one unit two are one
twice_is_once : after Apart twice_in_a_unit 0 ≡ (PartialOf 0, Within 0 [] ∷ Within 1 [] ∷ []) ∷ (UnitOf 0, Import 0 0 ∷ []) ∷ (UnitOf 1, Import 1 0 ∷ []) ∷ []
unfolding after
twice_is_once = refl

carried_along : after Apart carried 0
    ≡ (PartialOf 0, Within 0 [] ∷ []) ∷ (PartialOf 1, Within 1 [] ∷ []) ∷ (UnitOf 0, Import 0 0 ∷ Import 0 1 ∷ []) ∷ (UnitOf 1, Import 1 0 ∷ Import 1 1 ∷ []) ∷ (UnitOf 2, Import 2 0 ∷ []) ∷ []
unfolding after
carried_along = refl

pinned_stands : after Apart pinned 0 ≡ (PartialOf 0, Within 0 [] ∷ []) ∷ (UnitOf 0, Within 1 [] ∷ Within 2 [] ∷ Import 0 0 ∷ []) ∷ (UnitOf 1, Import 1 0 ∷ []) ∷ []
unfolding after
pinned_stands = refl

-- the namespace stands in the partial unit, and stays in each unit
spaces_stand : after Apart (spaces (codes "ns") (codes "ns")) 0
    ≡ (PartialOf 0, InChain 0 0 0 ∷ Within 0 [] ∷ []) ∷ (UnitOf 0, SpaceAt 0 (0 ∷ []) ∷ Within 1 [] ∷ Import 0 0 ∷ []) ∷ (UnitOf 1, SpaceAt 1 (0 ∷ []) ∷ Import 1 0 ∷ []) ∷ []
unfolding after
spaces_stand = refl

-- in namespaces of other names nothing moves
other_spaces_stand : after Apart (spaces (codes "A") (codes "B")) 0
    ≡ (UnitOf 0, SpaceAt 0 (0 ∷ []) ∷ Within 0 [] ∷ Within 1 [] ∷ []) ∷ (UnitOf 1, SpaceAt 1 (0 ∷ []) ∷ Within 2 [] ∷ []) ∷ []
unfolding after
other_spaces_stand = refl

-- ---- a top in the root, and tops in two namespaces that stand one in the other, in two units

abbrev nested : ℕ → DwUnit ℕ
nested place = unit place [] (
    Entry (space (place + 0x0d) (codes "a")) (then (short_type (place + 0x10)) (Entry (space (place + 0x2f) (codes "b")) (then (long_type (place + 0x32)) End) End))
    (then (unspecified (place + 0x4e)) End)
    )

abbrev nested_twice : List (FileUnit EntryName)
nested_twice = one (nested 0 ∷ nested 0x80 ∷ [])

-- first what stands in no namespace, and then a chain for each list of names, by the first top in it
chains_stand : after Apart nested_twice 0
    ≡ (PartialOf 0, Within 2 [] ∷ InChain 0 0 0 ∷ Within 0 [] ∷ InChain 0 1 0 ∷ InChain 0 1 1 ∷ Within 1 [] ∷ [])
    ∷ (UnitOf 0, SpaceAt 0 (0 ∷ []) ∷ SpaceAt 0 (1 ∷ 0 ∷ []) ∷ Import 0 0 ∷ [])
    ∷ (UnitOf 1, SpaceAt 1 (0 ∷ []) ∷ SpaceAt 1 (1 ∷ 0 ∷ []) ∷ Import 1 0 ∷ [])
    ∷ []
unfolding after
chains_stand = refl

-- ---- a type, a namespace with two types, and a list that names the second of these; a type that moves

abbrev pinned_in_a_space : List (FileUnit EntryName)
pinned_in_a_space = one (
    unit 0 [] (then (int_type 0x0d) (Entry (space 0x14 (codes "ns")) (then (int_type 0x18) (then (int_type 0x1f) End)) (then (entry 0x27 0x34 (listed 0x1f ∷ [])) (then (unspecified 0x2c) End))))
    ∷ unit 0x4a [] (then (unspecified 0x57) End)
    ∷ []
    )

-- the namespace comes first, and in it the type that is named
pinned_first : after Apart pinned_in_a_space 0
    ≡ (PartialOf 0, Within 4 [] ∷ []) ∷ (UnitOf 0, SpaceAt 0 (1 ∷ []) ∷ Within 2 [] ∷ Within 1 [] ∷ Within 0 [] ∷ Within 3 [] ∷ Import 0 0 ∷ []) ∷ (UnitOf 1, Import 1 0 ∷ []) ∷ []
unfolding after
pinned_first = refl

-- ---- two files with a type in common; the first has another in two of its units

abbrev two_files : List (FileUnit EntryName)
two_files = files_of (
    (unit 0 [] (then (short_type 0x0d) (then (unspecified 0x2c) End)) ∷ unit 0x4a [] (then (unspecified 0x57) End) ∷ [])
    ∷ (unit 0 [] (then (short_type 0x0d) End) ∷ [])
    ∷ []
    )

common_stands : common two_files ≡ (PartialOf 0, Within 0 [] ∷ []) ∷ []
unfolding common
common_stands = refl

-- imports of the common file come first
first_file_stands : after Together two_files 0 ≡ (PartialOf 1, Within 1 [] ∷ []) ∷ (UnitOf 0, Import 0 0 ∷ Import 0 1 ∷ []) ∷ (UnitOf 1, Import 1 1 ∷ []) ∷ []
unfolding after
first_file_stands = refl

second_file_stands : after Together two_files 1 ≡ (UnitOf 2, Import 2 0 ∷ []) ∷ []
unfolding after
second_file_stands = refl
