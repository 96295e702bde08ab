-- Small documents: what is movable and alike in them, by computing.
use Rattle.std.proofs.Common.{◌≡◌, ℕ, ◌+◌, Bool, true, false, List, [], ◌∷◌, map, refl}
use Rattle.std.specs.Prelude.{codes}
use Rattle.dwz_def_reading.specs.Documents.{Attr, DwUnit, Entries, entries_map, first_named}
use Rattle.dwz_def_reading.specs.Rows.{has}
use Rattle.dwz_def_reading.specs.Trees.{End, Entry}
use Rattle.dwz_def_tops.specs.Alike.{Apart, TopScope, Together, any_entry, unit_in}
use Rattle.dwz_def_tops.specs.Deciding.{alike_test, bound_test, is_movable, look_test, same_by, same_entries, same_int, same_part, same_plain, top_in}
use Rattle.dwz_def_tops.specs.Spots.{EntryName, FileUnit, entry_spots, named_files, row_in, row_tops, same_numbers, spot_in, spots_from, top_spots, tops_among, tops_from, tops_of}
use Rattle.dwz_def_tops.specs.Spaces.{space_text, tops_under}
use Rattle.dwz_def_tops.proofs.SmallDocs.{apart, classes, cycles, entry, expressions, in_language, located, one, pinned, sized, spaces, twice_in_a_unit, typed, unit}

-- ---- what is computed

abbrev row : (ℕ → ℕ → Bool) → List ℕ → ℕ → List Bool
row test numbers m = map (test m) numbers

abbrev table : (ℕ → ℕ → Bool) → List ℕ → List (List Bool)
table test numbers = map (row test numbers) numbers

-- which of the tops with these numbers are alike, to which
alike_in : TopScope → List (FileUnit EntryName) → List ℕ → List (List Bool)
unfolding entries_map first_named has any_entry unit_in alike_test bound_test look_test same_by same_entries same_int same_part same_plain top_in entry_spots named_files tops_under space_text
    same_numbers spot_in spots_from top_spots tops_among tops_from row_in row_tops
alike_in scope units numbers = table (alike_test scope units) numbers

-- which may move
movable_in : List (FileUnit EntryName) → List Bool
unfolding entries_map first_named has any_entry unit_in alike_test bound_test look_test same_by same_entries same_int same_part same_plain top_in entry_spots named_files tops_under space_text
    same_numbers spot_in spots_from top_spots tops_among tops_from row_in row_tops
movable_in units = map (is_movable units) (tops_of units)

-- ---- structures and pointers to them that name each other

abbrev even_row : List Bool
even_row = true ∷ false ∷ true ∷ false ∷ true ∷ false ∷ []

abbrev odd_row : List Bool
odd_row = false ∷ true ∷ false ∷ true ∷ false ∷ true ∷ []

cycles_alike : alike_in Apart cycles (0 ∷ 1 ∷ 2 ∷ 3 ∷ 4 ∷ 5 ∷ []) ≡ even_row ∷ odd_row ∷ even_row ∷ odd_row ∷ even_row ∷ odd_row ∷ []
unfolding alike_in
cycles_alike = refl

-- ---- five typedefs in a row and a base type behind them, in two units: 0 to 5 and 6 to 11

abbrev typedef : ℕ → ℕ → Entries ℕ → Entries ℕ
typedef place target next = Entry (entry place 0x16 (typed target ∷ [])) End next

abbrev typedefs : ℕ → ℕ → DwUnit ℕ
typedefs place size = unit place []
    (typedef (place + 2) (place + 3) (typedef (place + 3) (place + 4) (typedef (place + 4) (place + 5) (typedef (place + 5) (place + 6) (typedef (place + 6) (place + 7)
    (Entry (entry (place + 7) 0x24 (sized size ∷ [])) End End))))))

abbrev ends_differ : List (FileUnit EntryName)
ends_differ = one (typedefs 0 4 ∷ typedefs 100 8 ∷ [])

abbrev ends_equal : List (FileUnit EntryName)
ends_equal = one (typedefs 0 4 ∷ typedefs 100 4 ∷ [])

-- of the first two typedefs only a look of depth 6 comes to the ends
looks_of_first : map (λ k. look_test (tops_of ends_differ) k 0 6) (0 ∷ 1 ∷ 2 ∷ 3 ∷ 4 ∷ 5 ∷ 6 ∷ 7 ∷ []) ≡ true ∷ true ∷ true ∷ true ∷ true ∷ true ∷ false ∷ false ∷ []
unfolding entries_map first_named has any_entry unit_in alike_test bound_test look_test same_by same_entries same_int same_part same_plain top_in entry_spots named_files tops_under space_text
    same_numbers spot_in spots_from top_spots tops_among tops_from row_in row_tops
looks_of_first = refl

-- each with the one in the same place of the other unit
abbrev facing : List (FileUnit EntryName) → List Bool
facing units = map (λ n. alike_test Apart units n (n + 6)) (0 ∷ 1 ∷ 2 ∷ 3 ∷ 4 ∷ 5 ∷ [])

none_face : facing ends_differ ≡ false ∷ false ∷ false ∷ false ∷ false ∷ false ∷ []
unfolding entries_map first_named has any_entry unit_in alike_test bound_test look_test same_by same_entries same_int same_part same_plain top_in entry_spots named_files tops_under space_text
    same_numbers spot_in spots_from top_spots tops_among tops_from row_in row_tops
none_face = refl

all_face : facing ends_equal ≡ true ∷ true ∷ true ∷ true ∷ true ∷ true ∷ []
unfolding entries_map first_named has any_entry unit_in alike_test bound_test look_test same_by same_entries same_int same_part same_plain top_in entry_spots named_files tops_under space_text
    same_numbers spot_in spots_from top_spots tops_among tops_from row_in row_tops
all_face = refl

-- a typedef is alike to none that is nearer to the end
abbrev next_ones : List (FileUnit EntryName) → List Bool
next_ones units = map (λ n. alike_test Apart units n (n + 7)) (0 ∷ 1 ∷ 2 ∷ 3 ∷ 4 ∷ [])

none_next : next_ones ends_equal ≡ false ∷ false ∷ false ∷ false ∷ false ∷ []
unfolding entries_map first_named has any_entry unit_in alike_test bound_test look_test same_by same_entries same_int same_part same_plain top_in entry_spots named_files tops_under space_text
    same_numbers spot_in spots_from top_spots tops_among tops_from row_in row_tops
none_next = refl

-- ---- a base type and a typedef of it, in two units: 0 and 1, 2 and 3

abbrev pair : ℕ → List (Attr ℕ) → DwUnit ℕ
pair place attrs = unit place attrs (Entry (entry (place + 2) 0x24 (sized 4 ∷ [])) End (typedef (place + 3) (place + 2) End))

-- units of two languages, C99 and C++14, or of one and of none
two_languages : alike_in Together (one (pair 0 (in_language 0x0c ∷ []) ∷ pair 100 (in_language 0x21 ∷ []) ∷ [])) (0 ∷ 1 ∷ 2 ∷ 3 ∷ [])
    ≡ (true ∷ false ∷ false ∷ false ∷ []) ∷ (false ∷ true ∷ false ∷ false ∷ []) ∷ (false ∷ false ∷ true ∷ false ∷ []) ∷ (false ∷ false ∷ false ∷ true ∷ []) ∷ []
unfolding alike_in
two_languages = refl

one_has_none : alike_in Together (one (pair 0 (in_language 0x0c ∷ []) ∷ pair 100 [] ∷ [])) (0 ∷ 1 ∷ 2 ∷ 3 ∷ [])
    ≡ (true ∷ false ∷ false ∷ false ∷ []) ∷ (false ∷ true ∷ false ∷ false ∷ []) ∷ (false ∷ false ∷ true ∷ false ∷ []) ∷ (false ∷ false ∷ false ∷ true ∷ []) ∷ []
unfolding alike_in
one_has_none = refl

one_language : alike_in Together (one (pair 0 (in_language 0x0c ∷ []) ∷ pair 100 (in_language 0x0c ∷ []) ∷ [])) (0 ∷ 1 ∷ 2 ∷ 3 ∷ [])
    ≡ (true ∷ false ∷ true ∷ false ∷ []) ∷ (false ∷ true ∷ false ∷ true ∷ []) ∷ (true ∷ false ∷ true ∷ false ∷ []) ∷ (false ∷ true ∷ false ∷ true ∷ []) ∷ []
unfolding alike_in
one_language = refl

-- units of two files, which are one scope or two
files_together : alike_in Together (apart (pair 0 []) (pair 0 [])) (0 ∷ 1 ∷ 2 ∷ 3 ∷ [])
    ≡ (true ∷ false ∷ true ∷ false ∷ []) ∷ (false ∷ true ∷ false ∷ true ∷ []) ∷ (true ∷ false ∷ true ∷ false ∷ []) ∷ (false ∷ true ∷ false ∷ true ∷ []) ∷ []
unfolding alike_in
files_together = refl

files_apart : alike_in Apart (apart (pair 0 []) (pair 0 [])) (0 ∷ 1 ∷ 2 ∷ 3 ∷ [])
    ≡ (true ∷ false ∷ false ∷ false ∷ []) ∷ (false ∷ true ∷ false ∷ false ∷ []) ∷ (false ∷ false ∷ true ∷ false ∷ []) ∷ (false ∷ false ∷ false ∷ true ∷ []) ∷ []
unfolding alike_in
files_apart = refl

-- ---- a subprogram with an address, an entry that refers to it, one that refers to that one, and a base type

abbrev bound_ones : List (FileUnit EntryName)
bound_ones = one (unit 0 []
    (Entry (entry 2 0x2e (located 0x1000 ∷ [])) End
    (typedef 3 2 (typedef 4 3
    (Entry (entry 5 0x24 (sized 4 ∷ [])) End End)))) ∷ [])

abbrev bound_by : ℕ → List Bool
bound_by k = map (bound_test bound_ones k) (tops_of bound_ones)

chains_bind : map bound_by (0 ∷ 1 ∷ 2 ∷ 3 ∷ [])
    ≡ (true ∷ false ∷ false ∷ false ∷ []) ∷ (true ∷ true ∷ false ∷ false ∷ []) ∷ (true ∷ true ∷ true ∷ false ∷ []) ∷ (true ∷ true ∷ true ∷ false ∷ []) ∷ []
unfolding entries_map first_named has any_entry unit_in alike_test bound_test look_test same_by same_entries same_int same_part same_plain top_in entry_spots named_files tops_under space_text
    same_numbers spot_in spots_from top_spots tops_among tops_from row_in row_tops
chains_bind = refl

only_the_last_moves : movable_in bound_ones ≡ false ∷ false ∷ false ∷ true ∷ []
unfolding movable_in
only_the_last_moves = refl

-- what is bound isn't alike to itself
none_but_the_last : alike_in Together bound_ones (0 ∷ 1 ∷ 2 ∷ 3 ∷ [])
    ≡ (false ∷ false ∷ false ∷ false ∷ []) ∷ (false ∷ false ∷ false ∷ false ∷ []) ∷ (false ∷ false ∷ false ∷ false ∷ []) ∷ (false ∷ false ∷ false ∷ true ∷ []) ∷ []
unfolding alike_in
none_but_the_last = refl

-- a reference into another unit binds, as does one to a root
leaving : movable_in (one (unit 0 [] (typedef 2 102 (typedef 3 0x0c End)) ∷ unit 100 [] (Entry (entry 102 0x24 (sized 4 ∷ [])) End End) ∷ [])) ≡ false ∷ false ∷ true ∷ []
unfolding movable_in
leaving = refl

-- a reference to the same path in tops that differ
differing_tops : alike_in Apart (classes (codes "A") (codes "B")) (0 ∷ 1 ∷ 2 ∷ 3 ∷ [])
    ≡ (true ∷ false ∷ false ∷ false ∷ []) ∷ (false ∷ true ∷ false ∷ false ∷ []) ∷ (false ∷ false ∷ true ∷ false ∷ []) ∷ (false ∷ false ∷ false ∷ true ∷ []) ∷ []
unfolding alike_in
differing_tops = refl

equal_tops : alike_in Apart (classes (codes "A") (codes "A")) (0 ∷ 1 ∷ 2 ∷ 3 ∷ [])
    ≡ (true ∷ false ∷ true ∷ false ∷ []) ∷ (false ∷ true ∷ false ∷ true ∷ []) ∷ (true ∷ false ∷ true ∷ false ∷ []) ∷ (false ∷ true ∷ false ∷ true ∷ []) ∷ []
unfolding alike_in
equal_tops = refl

-- alike tops in one unit
repeated : alike_in Apart twice_in_a_unit (1 ∷ 2 ∷ 4 ∷ []) ≡ (true ∷ true ∷ true ∷ []) ∷ (true ∷ true ∷ true ∷ []) ∷ (true ∷ true ∷ true ∷ []) ∷ []
unfolding alike_in
repeated = refl

-- the same type in namespaces with one name, and with two
in_one_space : alike_in Apart (spaces (codes "ns") (codes "ns")) (0 ∷ 1 ∷ 2 ∷ []) ≡ (true ∷ false ∷ true ∷ []) ∷ (false ∷ true ∷ false ∷ []) ∷ (true ∷ false ∷ true ∷ []) ∷ []
unfolding alike_in
in_one_space = refl

in_two_spaces : alike_in Apart (spaces (codes "A") (codes "B")) (0 ∷ 1 ∷ 2 ∷ []) ≡ (true ∷ false ∷ false ∷ []) ∷ (false ∷ true ∷ false ∷ []) ∷ (false ∷ false ∷ true ∷ []) ∷ []
unfolding alike_in
in_two_spaces = refl

-- ---- expressions that bind

-- what has a location list, and what an expression in it names
by_a_list : movable_in pinned ≡ true ∷ false ∷ false ∷ true ∷ []
unfolding movable_in
by_a_list = refl

-- fbreg -20 and none at all; addr, addrx, constx, and an addrx in an entry_value behind another operator
by_an_address : movable_in (expressions (
    (false, 0x91 ∷ 0x6c ∷ []) ∷ (false, [])
    ∷ (true, 0x03 ∷ 0 ∷ 0x40 ∷ 0x40 ∷ 0 ∷ 0 ∷ 0 ∷ 0 ∷ 0 ∷ []) ∷ (true, 0xa1 ∷ 0 ∷ []) ∷ (true, 0xa2 ∷ 0 ∷ 0x9f ∷ []) ∷ (true, 0x50 ∷ 0xa3 ∷ 2 ∷ 0xa1 ∷ 5 ∷ []) ∷ []
    ))
    ≡ true ∷ true ∷ false ∷ false ∷ false ∷ false ∷ []
unfolding movable_in
by_an_address = refl
