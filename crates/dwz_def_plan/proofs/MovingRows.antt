-- What moves in small documents, where to, and what it weighs, by computing.
use Rattle.std.proofs.Common.{◌≡◌, ℕ, pos, negsuc, ℤ, Bool, true, false, List, [], ◌∷◌, Some, map, refl}
use Rattle.std.specs.Prelude.{codes, replicate}
use Rattle.dwz_def_reading.specs.Spelling.{groups_in, le_bytes, padded}
use Rattle.dwz_def_reading.specs.Forms.{form_rows}
use Rattle.dwz_def_reading.specs.Documents.{Block, Expr, File, Flag, Num, Plain, Ref, Same, Sig, Text, entries_map, first_named}
use Rattle.dwz_def_reading.specs.Rows.{has}
use Rattle.dwz_def_reading.specs.Values.{value_bytes}
use Rattle.dwz_def_tops.specs.Spaces.{space_text, tops_under}
use Rattle.dwz_def_tops.specs.Alike.{Apart, Together, TopScope, any_entry, unit_in}
use Rattle.dwz_def_tops.specs.Deciding.{alike_test, bound_test, look_test, same_by, same_entries, same_int, same_part, same_plain, top_in}
use Rattle.dwz_def_tops.specs.Spots.{EntryName, FileUnit, entry_spots, named_files, row_in, row_tops, same_numbers, spot_in, spots_from, top_spots, tops_among, tops_from, tops_of}
use Rattle.dwz_def_plan.specs.Gain.{attrs_weight, bare_bytes, entries_weight, gain_rule, gain_test, gains_test, group_weight, top_weight, value_weight, weights}
use Rattle.dwz_def_plan.specs.Homes.{Common, Home, Local, Rule, all_rule, candidate, file_of, first_alike, home, moves, numbers_from, users}
use Rattle.dwz_def_plan.specs.IsPlan.{numbers}
use Rattle.dwz_def_plan.specs.Plan.{distinct, is_pinned, joined_parts, kept, local_partials, partials, partials_at, representatives, stand_in, staying, uleb_targets}
use Rattle.dwz_def_tops.proofs.SmallDocs.{apart, carried, classes, cycles, ints, languages, pinned, short_type, spaces, then, twice_in_a_unit, two_lists_of_users, unit, unspecified}
use Rattle.dwz_def_reading.specs.Trees.{End}

-- ---- what is computed

-- all tops with a home move, or those whose groups gain
abbrev all_in : TopScope → List (FileUnit EntryName) → Rule
all_in scope units = all_rule (alike_test scope units)

abbrev gained_in : TopScope → List (FileUnit EntryName) → Rule
gained_in scope units = gain_rule (alike_test scope units) units

-- which tops move
moving : Rule → List (FileUnit EntryName) → List Bool
unfolding entries_map first_named has any_entry unit_in alike_test bound_test look_test same_by same_entries same_int same_part same_plain top_in entry_spots named_files tops_under space_text
    same_numbers spot_in spots_from top_spots tops_among tops_from row_in row_tops candidate file_of first_alike home numbers_from users attrs_weight bare_bytes entries_weight gain_test
    gains_test group_weight weights value_bytes form_rows le_bytes padded groups_in
moving rule units = map (λ t. moves rule units t.number) (tops_of units)

-- where each partial unit is, which units use it, and which tops it holds
parts_in : Rule → List (FileUnit EntryName) → List (Home × List ℕ × List ℕ)
unfolding moving distinct local_partials partials partials_at representatives
parts_in rule units = map {B = Home × List ℕ × List ℕ} (λ p. (p.home, p.users, numbers p.tops)) (partials rule units (0 ∷ 1 ∷ []))

-- which tops stay in each of these units, in order
kept_in : Rule → List (FileUnit EntryName) → List ℕ → List (List ℕ)
unfolding moving kept staying is_pinned joined_parts uleb_targets
kept_in rule units some = map {B = List ℕ} (λ u. numbers (kept rule units u)) some

-- ---- what gains, and what does not

-- 7 bytes are saved, and 28 spent
ints_stay : moving (gained_in Apart ints) ints ≡ false ∷ false ∷ []
unfolding moving
ints_stay = refl

ints_could_move : parts_in (all_in Apart ints) ints ≡ (Local 0, 0 ∷ 1 ∷ [], 0 ∷ []) ∷ []
unfolding parts_in
ints_could_move = refl

-- a structure and a pointer that name each other: 44 are saved, and 34 spent
cycles_move : parts_in (gained_in Apart cycles) cycles ≡ (Local 0, 0 ∷ 1 ∷ 2 ∷ [], 0 ∷ 1 ∷ []) ∷ []
unfolding parts_in
cycles_move = refl

nothing_is_kept : kept_in (gained_in Apart cycles) cycles (0 ∷ 1 ∷ 2 ∷ []) ≡ [] ∷ [] ∷ [] ∷ []
unfolding kept_in
nothing_is_kept = refl

-- a partial unit for each list of users
users_differ : parts_in (gained_in Apart two_lists_of_users) two_lists_of_users ≡ (Local 0, 0 ∷ 1 ∷ 2 ∷ [], 0 ∷ []) ∷ (Local 0, 0 ∷ 1 ∷ [], 1 ∷ []) ∷ []
unfolding parts_in
users_differ = refl

-- 12 are saved, and 28 spent
classes_stay : moving (gained_in Apart (classes (codes "A") (codes "A"))) (classes (codes "A") (codes "A")) ≡ false ∷ false ∷ false ∷ false ∷ []
unfolding moving
classes_stay = refl

classes_could_move : parts_in (all_in Apart (classes (codes "A") (codes "A"))) (classes (codes "A") (codes "A")) ≡ (Local 0, 0 ∷ 1 ∷ [], 0 ∷ 1 ∷ []) ∷ []
unfolding parts_in
classes_could_move = refl

other_classes_could_not : moving (all_in Apart (classes (codes "A") (codes "B"))) (classes (codes "A") (codes "B")) ≡ false ∷ false ∷ false ∷ false ∷ []
unfolding moving
other_classes_could_not = refl

-- two alike tops of one unit are held once, and the first stands for both
twice_is_once : parts_in (gained_in Apart twice_in_a_unit) twice_in_a_unit ≡ (Local 0, 0 ∷ 1 ∷ [], 0 ∷ 1 ∷ []) ∷ []
unfolding parts_in
twice_is_once = refl

the_first_stands : map (stand_in (gained_in Apart twice_in_a_unit) twice_in_a_unit) (0 ∷ 1 ∷ 2 ∷ 3 ∷ 4 ∷ []) ≡ 0 ∷ 1 ∷ 1 ∷ 0 ∷ 1 ∷ []
unfolding moving stand_in
the_first_stands = refl

-- C11 and C++14; C11 twice, which saves 29 and spends 28
two_languages_stay : moving (gained_in Apart (languages 0x1d 0x21)) (languages 0x1d 0x21) ≡ false ∷ false ∷ []
unfolding moving
two_languages_stay = refl

one_language_moves : parts_in (gained_in Apart (languages 0x1d 0x1d)) (languages 0x1d 0x1d) ≡ (Local 0, 0 ∷ 1 ∷ [], 0 ∷ []) ∷ []
unfolding parts_in
one_language_moves = refl

-- what a location list names stays, and so does what has the list
one_is_pinned : map (is_pinned pinned) (0 ∷ 1 ∷ 2 ∷ 3 ∷ []) ≡ false ∷ true ∷ false ∷ false ∷ []
unfolding moving is_pinned joined_parts uleb_targets
one_is_pinned = refl

pinned_stays : kept_in (gained_in Apart pinned) pinned (0 ∷ 1 ∷ []) ≡ (1 ∷ 2 ∷ []) ∷ [] ∷ []
unfolding kept_in
pinned_stays = refl

the_other_moves : parts_in (gained_in Apart pinned) pinned ≡ (Local 0, 0 ∷ 1 ∷ [], 0 ∷ []) ∷ []
unfolding parts_in
the_other_moves = refl

-- `int` saves 14 and spends 34, and so gains nothing by itself; the typedef saves 33 and spends 28, and refers to it
carried_along : parts_in (gained_in Apart carried) carried ≡ (Local 0, 0 ∷ 1 ∷ 2 ∷ [], 0 ∷ []) ∷ (Local 0, 0 ∷ 1 ∷ [], 1 ∷ []) ∷ []
unfolding parts_in
carried_along = refl

-- what stands in namespaces of one name, and of two
in_one_space : parts_in (gained_in Apart (spaces (codes "ns") (codes "ns"))) (spaces (codes "ns") (codes "ns")) ≡ (Local 0, 0 ∷ 1 ∷ [], 0 ∷ []) ∷ []
unfolding parts_in
in_one_space = refl

in_two_spaces : moving (all_in Apart (spaces (codes "A") (codes "B"))) (spaces (codes "A") (codes "B")) ≡ false ∷ false ∷ false ∷ []
unfolding moving
in_two_spaces = refl

-- two files hold a type: in one scope it goes to the common file, in two it stays
abbrev two_files : List (FileUnit EntryName)
two_files = apart (unit 0 [] (then (short_type 0x0d) End)) (unit 0 [] (then (short_type 0x0d) (then (unspecified 0x2c) End)))

common_moves : parts_in (gained_in Together two_files) two_files ≡ (Common, 0 ∷ 1 ∷ [], 0 ∷ []) ∷ []
unfolding parts_in
common_moves = refl

files_apart_stay : moving (gained_in Apart two_files) two_files ≡ false ∷ false ∷ false ∷ []
unfolding moving
files_apart_stay = refl

-- ---- weights

weights_of : List (FileUnit EntryName) → List ℕ
unfolding moving
weights_of units = map top_weight (tops_of units)

short_and_long : weights_of two_lists_of_users ≡ 26 ∷ 31 ∷ 26 ∷ 31 ∷ 26 ∷ []
unfolding weights_of
short_and_long = refl

-- with its member, 5 and 11; the pointer
a_structure : weights_of cycles ≡ 16 ∷ 6 ∷ 16 ∷ 6 ∷ 16 ∷ 6 ∷ []
unfolding weights_of
a_structure = refl

-- of values by themselves
values_weigh : List (ℕ × ℤ × Plain) → List ℕ
unfolding bare_bytes value_bytes form_rows le_bytes padded groups_in
values_weigh values = map (λ v. value_weight v.0 v.1 v.2) values

-- a text that stands there has its length and 1; all other texts, and references, have 4, and a file 1
by_kind : values_weigh ((0x08, pos 0, Text (codes "abc")) ∷ (0x0e, pos 500, Text (codes "abcdef")) ∷ (0x1a, pos 3, Text (codes "abc"))
    ∷ (0x13, pos 0x0d, Ref) ∷ (0x10, pos 0x0d, Ref) ∷ (0x15, pos 0x0d, Ref) ∷ (0x0b, pos 3, File (Some (codes "/a.h"))) ∷ [])
    ≡ 4 ∷ 4 ∷ 4 ∷ 4 ∷ 4 ∷ 4 ∷ 1 ∷ []
unfolding values_weigh
by_kind = refl

-- udata, sdata, implicit_const, data4, flag_present, flag, ref_sig8
numbers_by_form : values_weigh ((0x0f, pos 200, Num 0 (pos 200)) ∷ (0x0d, negsuc 0, Num 0 (negsuc 0)) ∷ (0x21, pos 200, Num 0 (pos 200)) ∷ (0x06, pos 200, Num 0 (pos 200))
    ∷ (0x19, pos 0, Flag true) ∷ (0x0c, pos 1, Flag true) ∷ (0x20, pos 9, Sig 9) ∷ [])
    ≡ 2 ∷ 1 ∷ 0 ∷ 4 ∷ 0 ∷ 1 ∷ 8 ∷ []
unfolding values_weigh
numbers_by_form = refl

-- block1, data16, exprloc
bytes_by_form : values_weigh ((0x0a, pos 0, Block (1 ∷ 2 ∷ 3 ∷ [])) ∷ (0x1e, pos 0, Block (replicate 16 7)) ∷ (0x18, pos 0, Expr (Same (0x91 ∷ 0x6c ∷ []) ∷ [])) ∷ []) ≡ 4 ∷ 16 ∷ 3 ∷ []
unfolding values_weigh
bytes_by_form = refl
