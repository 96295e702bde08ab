-- A file of which something moves is one of the run.
use Rattle.std.proofs.Common.{◌≡◌, ◌&&◌, ◌==◌, ℕ, suc, ◌+◌, Bool, true, List, [], ◌∷◌, length, map, sym, ap, subst, ◌∙◌, inl, inr, eqb-true}
use Rattle.std.proofs.lemmas.Bool.{and_parts}
use Rattle.std.specs.List.{list_any}
use Rattle.dwz_def_reading.specs.Lists.{In}
use Rattle.dwz_def_reading.proofs.ListFacts.{in_cases}
use Rattle.dwz_def_reading.specs.Documents.{Doc, DwUnit}
use Rattle.dwz_def_tops.proofs.Members.{any_from, nth_in}
use Rattle.dwz_def_tops.specs.Spots.{EntryName, FileUnit, Top, file_numbers, in_file, named, named_files, tops_among, tops_of, units_of}
use Rattle.dwz_def_tops.proofs.Tops.{unit_of}
use Rattle.dwz_def_images.specs.Units.{changes}
use Rattle.dwz_words.specs.declared.options.Options.{Options}
use Rattle.dwz_def_run.specs.Out.{run_for}

of_block : (file : ℕ) (units : List (DwUnit EntryName)) (u : FileUnit EntryName) → In u (map (in_file file) units) → file ≡ u.file
of_block file [] u there = absurd there
of_block file (v ∷ units) u (inl e) = ap (λ (w : FileUnit EntryName). w.file) e
of_block file (v ∷ units) u (inr r) = of_block file units u r

in_numbers : (own unit top : ℕ) (docs : List (Doc ℕ)) (u : FileUnit EntryName) → In u (named_files own unit top docs) → In u.file (file_numbers own docs)
unfolding named_files file_numbers
in_numbers own unit top [] u there = absurd there
in_numbers own unit top (d ∷ docs) u there =
    elim (in_cases u (map (in_file own) (named unit top d.units)) (named_files (suc own) (unit + length d.units) (top + tops_among d.units) docs) there) [
      | inl here ↦ inl (of_block own (named unit top d.units) u here)
      | inr later ↦ inr (in_numbers (suc own) (unit + length d.units) (top + tops_among d.units) docs u later)
    ]

with_moved : (docs : List (Doc ℕ)) (gone : ℕ → Bool) (file : ℕ) → list_any (λ (t : Top). t.file == file && gone t.number) (tops_of (units_of docs)) ≡ true
    → In file (file_numbers 0 docs)
with_moved docs gone file moves =
    let o = any_from (λ (t : Top). t.file == file && gone t.number) (tops_of (units_of docs)) moves in
    let of_file = eqb-true o.one.file file (and_parts (o.one.file == file) (gone o.one.number) o.passes).0 in
    let u = unit_of (units_of docs) o.one o.there in
    subst (λ (n : ℕ). In n (file_numbers 0 docs)) (sym u.file_is ∙ of_file)
    (in_numbers 0 0 0 docs u.unit (nth_in 0 (units_of docs) o.one.unit u.unit u.nth))

pub changed_there : (o : Options) (contents : List (List ℕ)) (docs : List (Doc ℕ)) (prunes : List Bool) (file : ℕ)
    → changes (run_for o contents docs prunes).move (units_of docs) file ≡ true → In file (file_numbers 0 docs)
unfolding changes
changed_there o contents docs prunes file moves = with_moved docs (run_for o contents docs prunes).move.gone file moves
