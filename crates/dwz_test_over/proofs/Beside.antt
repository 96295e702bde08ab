-- What the file and the common files say.
use Rattle.std.proofs.Common.{◌≡◌, ℕ, [], ◌∷◌, Ok, refl}
use Rattle.std.specs.Prelude.{codes}
use Rattle.sha2.specs.Sha256.{compress, digest_bytes, first_words, hash_after, rounds, schedule, sha256}
use Rattle.dwz_def_reading.specs.Documents.{Doc, DwUnit, Entries, Node, Partial, unit_map}
use Rattle.dwz_def_reading.specs.Finished.{BesideDocs, beside_meaning, common_sup_fault}
use Rattle.dwz_def_reading.specs.Places.{Place, at_file}
use Rattle.dwz_def_reading.specs.Supplementary.{read_sup}
use Rattle.dwz_def_reading.specs.Trees.{End}
use Rattle.dwz_def_tops.proofs.SmallDocs.{data1, entry, named, sized, then, unit}
use Rattle.dwz_test_definitions.proofs.Comes.{said}
use Rattle.dwz_test_over.proofs.Bytes.{both_file, common_file, three_file}

-- unsigned base types: of 2 bytes, and of 8
abbrev pub short_unsigned : ℕ → Node ℕ
short_unsigned place = entry place 0x24 (named (codes "extended short unsigned int") ∷ sized 2 ∷ data1 0x3e 7 ∷ [])

abbrev pub long_unsigned : ℕ → Node ℕ
long_unsigned place = entry place 0x24 (named (codes "long long unsigned int") ∷ sized 8 ∷ data1 0x3e 7 ∷ [])

-- documents of one unit
abbrev pub three_doc : Doc ℕ
three_doc = record { machine = 62; units = unit 0 [] (then (short_unsigned 0x0d) End) ∷ [] }

-- and of one partial unit, in the file with number 1
abbrev partial : Entries ℕ → DwUnit ℕ
partial below = record { at = 0; kind = Partial; root = entry 0x0c 0x3c []; below = below }

abbrev of_common : Entries ℕ → Doc Place
of_common below = record { machine = 62; units = unit_map (at_file 1) (partial below) ∷ [] }

abbrev pub over_common : BesideDocs
over_common = record { common = of_common (then (short_unsigned 0x0d) End); docs = three_doc ∷ [] }

abbrev pub over_both : BesideDocs
over_both = record { common = of_common (then (long_unsigned 0x0d) (then (short_unsigned 0x27) End)); docs = three_doc ∷ [] }

pub common_said : beside_meaning common_file (three_file ∷ []) ≡ Ok over_common
unfolding said beside_meaning common_sup_fault read_sup compress digest_bytes first_words hash_after rounds schedule sha256
common_said = refl

pub both_said : beside_meaning both_file (three_file ∷ []) ≡ Ok over_both
unfolding said beside_meaning common_sup_fault read_sup compress digest_bytes first_words hash_after rounds schedule sha256
both_said = refl
