-- Worked: what is printed of two rows of 40 typedefs, one the type of the next, down to `int` of two sizes; and of `int`s alone that
-- differ otherwise.
use Rattle.std.proofs.Common.{◌≡◌, ℕ, zero, suc, ◌+◌, List, [], ◌∷◌, Option, Some, refl}
use Rattle.std.specs.Prelude.{codes, replicate}
use Rattle.std.specs.List.{concat}
use Rattle.std.specs.Fmt.{digits}
use Rattle.dwz_def_reading.specs.Attributes.{attribute_rows}
use Rattle.dwz_def_reading.specs.Tags.{tag_rows}
use Rattle.dwz_def_reading.specs.Documents.{Doc, Entries, entries_map, first_named}
use Rattle.dwz_def_reading.specs.Trees.{End}
use Rattle.dwz_def_tops.specs.Spaces.{space_text, tops_under}
use Rattle.dwz_def_tops.specs.Spots.{Top, entry_spots, named_files, row_in, row_tops, same_numbers, same_spot, spot_in, spots_from, top_spots, tops_among, tops_from, tops_of, units_of}
use Rattle.dwz_def_tops.specs.Targets.{entries_into}
use Rattle.dwz_def_tops.specs.Deciding.{top_in}
use Rattle.dwz_def_tops.proofs.SmallDocs.{base_type, entry, named, then, typed, unit}
use Rattle.dwz_text.specs.Lines.{Text}
use Rattle.dwz_def_explain.specs.Texts.{child_at, entry_along, explained_text, files_spots, place_named, reference_lines}
use Rattle.dwz_def_explain.specs.declared.verdict.Verdict.{Verdict}
use Rattle.dwz_def_explain.specs.declared.verdict.Verdict.TheVariants.{Alike, Differ}
use Rattle.dwz_def_explain.specs.declared.verdict.What.TheVariants.{Attribute, Language, Tag}

-- so many typedefs `t` of 7 bytes each, from a place on, and behind them an `int` of a size
unfoldable typedefs : ℕ → ℕ → ℕ → Entries ℕ
typedefs zero place size = then (base_type place (codes "int") size 5) End
typedefs (suc n) place size = then (entry place 0x16 (named (codes "t") ∷ typed (place + 7) ∷ [])) (typedefs n (place + 7) size)

-- a file with two units of n typedefs each, the second at a place: tops 0 to n, and from n + 1 on
abbrev rows_doc : ℕ → ℕ → ℕ → ℕ → List (Doc ℕ)
rows_doc n second size other =
    record { machine = 62; units = unit 0 [] (typedefs n 0x0d size) ∷ unit second [] (typedefs n (second + 0x0d) other) ∷ [] } ∷ []

abbrev text_of : List (Doc ℕ) → Option Top → Option Top → Verdict → Text
text_of docs (Some a) (Some b) verdict = explained_text docs a b verdict
text_of docs _ _ verdict = []

-- of the tops with these numbers
unfoldable printed : List (Doc ℕ) → ℕ → ℕ → Verdict → Text
unfolding entries_map first_named space_text tops_under entry_spots named_files row_in row_tops same_numbers same_spot spot_in spots_from top_spots tops_among tops_from entries_into top_in digits
    attribute_rows tag_rows reference_lines child_at entry_along files_spots place_named typedefs
printed docs m n verdict = text_of docs (top_in (tops_of (units_of docs)) m) (top_in (tops_of (units_of docs)) n) verdict

-- sizes 4 and 8 behind 40 typedefs each
far : printed (rows_doc 40 0x12d 4 8) 0 41 (Differ (replicate 40 0) (Attribute [] 1)) ≡
    concat
    (
    codes "depth 41\nreference 0: 0x14 0x141\nreference 0: 0x1b 0x148\nreference 0: 0x22 0x14f\nreference 0: 0x29 0x156\n"
    ∷ codes "reference 0: 0x30 0x15d\nreference 0: 0x37 0x164\nreference 0: 0x3e 0x16b\nreference 0: 0x45 0x172\nreference 0: 0x4c 0x179\n"
    ∷ codes "reference 0: 0x53 0x180\nreference 0: 0x5a 0x187\nreference 0: 0x61 0x18e\nreference 0: 0x68 0x195\nreference 0: 0x6f 0x19c\n"
    ∷ codes "reference 0: 0x76 0x1a3\nreference 0: 0x7d 0x1aa\nreference 0: 0x84 0x1b1\nreference 0: 0x8b 0x1b8\nreference 0: 0x92 0x1bf\n"
    ∷ codes "reference 0: 0x99 0x1c6\nreference 0: 0xa0 0x1cd\nreference 0: 0xa7 0x1d4\nreference 0: 0xae 0x1db\nreference 0: 0xb5 0x1e2\n"
    ∷ codes "reference 0: 0xbc 0x1e9\nreference 0: 0xc3 0x1f0\nreference 0: 0xca 0x1f7\nreference 0: 0xd1 0x1fe\nreference 0: 0xd8 0x205\n"
    ∷ codes "reference 0: 0xdf 0x20c\nreference 0: 0xe6 0x213\nreference 0: 0xed 0x21a\nreference 0: 0xf4 0x221\nreference 0: 0xfb 0x228\n"
    ∷ codes "reference 0: 0x102 0x22f\nreference 0: 0x109 0x236\nreference 0: 0x110 0x23d\nreference 0: 0x117 0x244\nreference 0: 0x11e 0x24b\n"
    ∷ codes "reference 0: 0x125 0x252\n0x125 0x252: attribute byte_size\n"
    ∷ []
    )
unfolding printed
far = refl

-- the typedefs before them, and `int`s alone
near : printed (rows_doc 40 0x12d 4 8) 39 80 (Differ (0 ∷ []) (Attribute [] 1)) ≡ codes "depth 2\nreference 0: 0x125 0x252\n0x125 0x252: attribute byte_size\n"
unfolding printed
near = refl

alone : printed (rows_doc 40 0x12d 4 8) 40 81 (Differ [] Language) ≡ codes "depth 1\n0x125 0x252: language\n"
unfolding printed
alone = refl

tags : printed (rows_doc 40 0x12d 4 8) 39 81 (Differ [] (Tag [])) ≡ codes "depth 1\n0x11e 0x252: tag typedef base_type\n"
unfolding printed
tags = refl

-- sizes 4 and 4
same : printed (rows_doc 40 0x12d 4 4) 0 41 Alike ≡ codes "alike\n"
unfolding printed
same = refl
