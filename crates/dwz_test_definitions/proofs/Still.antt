-- Whole files of which nothing moves, by the definitions.
use Rattle.std.proofs.Common.{◌≡◌, ℕ, true, false, List, [], ◌∷◌, None, Some, Ok, refl}
use Rattle.std.specs.Prelude.{codes}
use Rattle.dwz_def_reading.specs.PlainFile.{plain_file, plain_section}
use Rattle.dwz_def_reading.specs.Documents.{Doc}
use Rattle.dwz_def_readback.specs.Files.{Run}
use Rattle.dwz_outside.specs.declared.puts.Put.{Put}
use Rattle.dwz_words.specs.declared.options.Options.{Options}
use Rattle.dwz_report.specs.Texts.{summary_text}
use Rattle.dwz_def_run.specs.Out.{all_puts, summary_of}
use Rattle.dwz_test_definitions.proofs.Files.{empty_doc, ints, short_doc, unspecified_doc}
use Rattle.dwz_test_definitions.proofs.Comes.{come, said}

-- the words `-o out a`
abbrev options : Options
options = record { quiet = false; common = None; name = None; out = Some (codes "out"); workers = 4; files = codes "a" ∷ []; demo = None; explain = false; check = false; expand = false; reuse = None; batch = None; sup = None }

abbrev come_of : List ℕ → Doc ℕ → Run
come_of bytes doc = come options (bytes ∷ []) (doc ∷ []) (true ∷ [])

abbrev put : List ℕ → List ℕ → Put
put name bytes = record { name = name; bytes = bytes }

-- ---- `int` in two units, which gains nothing

-- the file
abbrev ints_file : List ℕ
ints_file = plain_file 62 0 (
    plain_section (codes ".debug_info") (
    0x11 ∷ 0x00 ∷ 0x00 ∷ 0x00 ∷ 0x05 ∷ 0x00 ∷ 0x01 ∷ 0x08 ∷ 0x00 ∷ 0x00 ∷ 0x00 ∷ 0x00 ∷ 0x01 ∷ 0x02 ∷ 0x69 ∷ 0x6e ∷ 0x74 ∷
    0x00 ∷ 0x04 ∷ 0x05 ∷ 0x00 ∷ 0x11 ∷ 0x00 ∷ 0x00 ∷ 0x00 ∷ 0x05 ∷ 0x00 ∷ 0x01 ∷ 0x08 ∷ 0x00 ∷ 0x00 ∷ 0x00 ∷ 0x00 ∷ 0x01 ∷
    0x02 ∷ 0x69 ∷ 0x6e ∷ 0x74 ∷ 0x00 ∷ 0x04 ∷ 0x05 ∷ 0x00 ∷ [])
    ∷ plain_section (codes ".debug_abbrev") (
    0x01 ∷ 0x11 ∷ 0x01 ∷ 0x00 ∷ 0x00 ∷ 0x02 ∷ 0x24 ∷ 0x00 ∷ 0x03 ∷ 0x08 ∷ 0x0b ∷ 0x0b ∷ 0x3e ∷ 0x0b ∷ 0x00 ∷ 0x00 ∷ 0x00 ∷ [])
    ∷ [])

ints_said : said (ints_file ∷ []) ≡ Ok (ints ∷ [])
unfolding said
ints_said = refl

ints_put : all_puts options (come_of ints_file ints) ≡ put (codes "out") ints_file ∷ []
unfolding come
ints_put = refl

ints_text : summary_text (summary_of options (come_of ints_file ints)) ≡ codes "a: nothing moves\n"
unfolding come
ints_text = refl

-- ---- no unit

-- the file
abbrev empty_file : List ℕ
empty_file = plain_file 62 0 (
    plain_section (codes ".debug_info") (
    [])
    ∷ plain_section (codes ".debug_abbrev") (
    [])
    ∷ [])

empty_said : said (empty_file ∷ []) ≡ Ok (empty_doc ∷ [])
unfolding said
empty_said = refl

abbrev in_place : Options
in_place = record { quiet = false; common = None; name = None; out = None; workers = 4; files = codes "a" ∷ []; demo = None; explain = false; check = false; expand = false; reuse = None; batch = None; sup = None }

empty_put : all_puts in_place (come in_place (empty_file ∷ []) (empty_doc ∷ []) (true ∷ [])) ≡ []
unfolding come
empty_put = refl

empty_text : summary_text (summary_of in_place (come in_place (empty_file ∷ []) (empty_doc ∷ []) (true ∷ []))) ≡ codes "a: nothing moves\n"
unfolding come
empty_text = refl

-- ---- two files with nothing in common

-- the files
abbrev one_file : List ℕ
one_file = plain_file 62 0 (
    plain_section (codes ".debug_info") (
    0x29 ∷ 0x00 ∷ 0x00 ∷ 0x00 ∷ 0x05 ∷ 0x00 ∷ 0x01 ∷ 0x08 ∷ 0x00 ∷ 0x00 ∷ 0x00 ∷ 0x00 ∷ 0x01 ∷ 0x02 ∷ 0x65 ∷ 0x78 ∷ 0x74 ∷
    0x65 ∷ 0x6e ∷ 0x64 ∷ 0x65 ∷ 0x64 ∷ 0x20 ∷ 0x73 ∷ 0x68 ∷ 0x6f ∷ 0x72 ∷ 0x74 ∷ 0x20 ∷ 0x75 ∷ 0x6e ∷ 0x73 ∷ 0x69 ∷ 0x67 ∷
    0x6e ∷ 0x65 ∷ 0x64 ∷ 0x20 ∷ 0x69 ∷ 0x6e ∷ 0x74 ∷ 0x00 ∷ 0x02 ∷ 0x07 ∷ 0x00 ∷ [])
    ∷ plain_section (codes ".debug_abbrev") (
    0x01 ∷ 0x11 ∷ 0x01 ∷ 0x00 ∷ 0x00 ∷ 0x02 ∷ 0x24 ∷ 0x00 ∷ 0x03 ∷ 0x08 ∷ 0x0b ∷ 0x0b ∷ 0x3e ∷ 0x0b ∷ 0x00 ∷ 0x00 ∷ 0x00 ∷ [])
    ∷ [])

abbrev two_file : List ℕ
two_file = plain_file 62 0 (
    plain_section (codes ".debug_info") (
    0x27 ∷ 0x00 ∷ 0x00 ∷ 0x00 ∷ 0x05 ∷ 0x00 ∷ 0x01 ∷ 0x08 ∷ 0x00 ∷ 0x00 ∷ 0x00 ∷ 0x00 ∷ 0x01 ∷ 0x02 ∷ 0x65 ∷ 0x78 ∷ 0x74 ∷
    0x65 ∷ 0x6e ∷ 0x64 ∷ 0x65 ∷ 0x64 ∷ 0x20 ∷ 0x73 ∷ 0x68 ∷ 0x6f ∷ 0x72 ∷ 0x74 ∷ 0x20 ∷ 0x75 ∷ 0x6e ∷ 0x73 ∷ 0x69 ∷ 0x67 ∷
    0x6e ∷ 0x65 ∷ 0x64 ∷ 0x20 ∷ 0x69 ∷ 0x6e ∷ 0x74 ∷ 0x00 ∷ 0x00 ∷ [])
    ∷ plain_section (codes ".debug_abbrev") (
    0x01 ∷ 0x11 ∷ 0x01 ∷ 0x00 ∷ 0x00 ∷ 0x02 ∷ 0x3b ∷ 0x00 ∷ 0x03 ∷ 0x08 ∷ 0x00 ∷ 0x00 ∷ 0x00 ∷ [])
    ∷ [])

abbrev together : Options
together = record { quiet = false; common = Some (codes "common"); name = None; out = None; workers = 4; files = codes "one" ∷ codes "two" ∷ []; demo = None; explain = false; check = false; expand = false; reuse = None; batch = None; sup = None }

abbrev both : Run
both = come together (one_file ∷ two_file ∷ []) (short_doc ∷ unspecified_doc ∷ []) (true ∷ true ∷ [])

both_said : said (one_file ∷ two_file ∷ []) ≡ Ok (short_doc ∷ unspecified_doc ∷ [])
unfolding said
both_said = refl

both_put : all_puts together both ≡ []
unfolding come
both_put = refl

both_text : summary_text (summary_of together both) ≡ codes "one: nothing moves\ntwo: nothing moves\n"
unfolding come
both_text = refl
