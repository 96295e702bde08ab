-- What small files come to, by the definitions.
use Rattle.std.proofs.Common.{◌≡◌, ℕ, false, List, [], ◌∷◌, map, Option, Some, None, refl}
use Rattle.std.specs.Prelude.{codes}
use Rattle.dwz_def_reading.specs.Spelling.{groups_in, le_bytes, padded}
use Rattle.dwz_def_reading.specs.Forms.{form_rows}
use Rattle.dwz_def_reading.specs.Documents.{Doc, entries_map, first_named}
use Rattle.dwz_def_reading.specs.Rows.{has}
use Rattle.dwz_def_reading.specs.Trees.{End}
use Rattle.dwz_def_reading.specs.Values.{value_bytes}
use Rattle.dwz_def_tops.specs.Spaces.{space_text, tops_under}
use Rattle.dwz_def_tops.specs.Alike.{any_entry, unit_in}
use Rattle.dwz_def_tops.specs.Deciding.{alike_test, bound_test, look_test, same_by, same_entries, same_int, same_part, same_plain, top_in}
use Rattle.dwz_def_tops.specs.Spots.{entry_spots, file_numbers, named_files, row_from, row_in, row_tops, same_numbers, same_spot, spot_in, spots_from, top_spots, tops_among, tops_from}
use Rattle.dwz_def_tops.proofs.SmallDocs.{int_type, short_type, then, unit, unspecified}
use Rattle.dwz_def_images.specs.Gain.{attrs_weight, bare_bytes, entries_weight, gain_test, gains_test, group_weight, weights}
use Rattle.dwz_def_images.specs.Homes.{candidate, file_of, first_alike, home, numbers_from, users}
use Rattle.dwz_def_images.specs.Plan.{distinct, joined_parts, local_partials, partials, partials_at, representatives, stand_in}
use Rattle.dwz_def_images.specs.Units.{changes}
use Rattle.dwz_def_readback.specs.Files.{imports_common}
use Rattle.dwz_outside.specs.declared.puts.Put.{Put}
use Rattle.dwz_words.specs.declared.options.Options.{Options}
use Rattle.dwz_run_course.specs.declared.output.Output.{Output}
use Rattle.dwz_run_course.specs.declared.output.Said.{Said}
use Rattle.dwz_run_course.specs.declared.output.Said.TheVariants.{Parts, Slimmed}
use Rattle.dwz_run_course.specs.Ends.{done_text}
use Rattle.dwz_def_run.specs.Out.{files_puts_by, summary_lines_by, output_of, run_for}
use Rattle.dwz_def_output.specs.FilesAfter.{has_common}

-- the words `a` and `-o out`, or `-m common` and these FILEs
abbrev options : Option (List ℕ) → Option (List ℕ) → List (List ℕ) → Options
options common out files = record { quiet = false; common = common; name = None; out = out; workers = 4; files = files; demo = None; explain = false; check = false; expand = false; reuse = None; batch = None; sup = None }

-- what comes of contents that read as these documents; whatever unfolds this unfolds all by which it is found
come : Options → List (List ℕ) → List (Doc ℕ) → Output
unfolding entries_map first_named has any_entry unit_in alike_test bound_test look_test same_by same_entries same_int same_part same_plain top_in entry_spots named_files tops_under
    space_text same_numbers same_spot spot_in spots_from top_spots tops_among tops_from row_from row_in row_tops candidate file_of first_alike home numbers_from users
    attrs_weight bare_bytes entries_weight gain_test gains_test group_weight weights value_bytes form_rows le_bytes padded groups_in distinct joined_parts local_partials partials partials_at
    representatives stand_in changes imports_common has_common files_puts_by summary_lines_by file_numbers
come o contents docs = output_of o (run_for o contents docs (map (λ doc. false) docs))

abbrev put : List ℕ → List ℕ → Put
put name bytes = record { name = name; bytes = bytes }

-- ---- `int` in two units of one file gains nothing

abbrev ints : Doc ℕ
ints = record { machine = 62; units = unit 0 [] (then (int_type 0x0d) End) ∷ unit 0x15 [] (then (int_type 0x22) End) ∷ [] }

abbrev single : Options
single = options None (Some (codes "out")) (codes "a" ∷ [])

-- OUT gets the bytes of the file
nothing_moves : (bytes : List ℕ) → (come single (bytes ∷ []) (ints ∷ [])).puts ≡ put (codes "out") bytes ∷ []
unfolding come
nothing_moves bytes = refl

nothing_said : (bytes : List ℕ) → done_text single (come single (bytes ∷ []) (ints ∷ [])) ≡ codes "a: nothing moves\n"
unfolding come
nothing_said bytes = refl

-- it says the same of a file that stays in place, of which nothing is put
stays : (bytes : List ℕ) → (come (options None None (codes "a" ∷ [])) (bytes ∷ []) (ints ∷ [])).puts ≡ []
unfolding come
stays bytes = refl

-- ---- files with a common one

abbrev two : Options
two = options (Some (codes "common")) None (codes "one" ∷ codes "two" ∷ [])

abbrev short : Doc ℕ
short = record { machine = 62; units = unit 0 [] (then (short_type 0x0d) End) ∷ [] }

abbrev other : Doc ℕ
other = record { machine = 62; units = unit 0 [] (then (unspecified 0x0d) End) ∷ [] }

-- nothing is common: nothing is put, and no common file is said
nothing_common : (a b : List ℕ) → (come two (a ∷ b ∷ []) (short ∷ other ∷ [])).puts ≡ []
unfolding come
nothing_common a b = refl

none_said : (a b : List ℕ) → done_text two (come two (a ∷ b ∷ []) (short ∷ other ∷ [])) ≡ codes "one: nothing moves\ntwo: nothing moves\n"
unfolding come
none_said a b = refl

-- the names of what is put, in order
abbrev names : Output → List (List ℕ)
names out = map (λ (p : Put). p.name) out.puts

-- a type that both have moves, and the common file goes first
one_common : (a b : List ℕ) → names (come two (a ∷ b ∷ []) (short ∷ short ∷ [])) ≡ codes "common" ∷ codes "one" ∷ codes "two" ∷ []
unfolding come
one_common a b = refl

-- the partial units of which a summary tells
abbrev parts_in : Said → ℕ
parts_in (Slimmed summary partials) = partials
parts_in (Parts parts) = 0

one_part : (a b : List ℕ) → parts_in (come two (a ∷ b ∷ []) (short ∷ short ∷ [])).said ≡ 1
unfolding come
one_part a b = refl

-- a file that has no part in it is not put
abbrev three : Options
three = options (Some (codes "common")) None (codes "one" ∷ codes "two" ∷ codes "three" ∷ [])

two_of_three : (a b c : List ℕ) → names (come three (a ∷ b ∷ c ∷ []) (short ∷ other ∷ short ∷ [])) ≡ codes "common" ∷ codes "one" ∷ codes "three" ∷ []
unfolding come
two_of_three a b c = refl

-- without a common file each is by itself, and nothing moves
by_themselves : (a b : List ℕ) → names (come (options None None (codes "one" ∷ codes "two" ∷ [])) (a ∷ b ∷ []) (short ∷ short ∷ [])) ≡ []
unfolding come
by_themselves a b = refl
