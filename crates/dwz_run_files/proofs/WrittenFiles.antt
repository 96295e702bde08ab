-- Something moves only of files that there are, so their flags tell all.
use Rattle.std.proofs.Common.{◌≡◌, ℕ, zero, suc, ◌+◌, ◌==◌, ◌&&◌, Bool, false, true, List, [], ◌∷◌, length, map, sym, ap, subst, ◌∙◌, inl, inr, eqb-true, arith}
use Rattle.std.specs.Prelude.{slice_index_or}
use Rattle.std.proofs.lemmas.Bool.{and_parts}
use Rattle.std.proofs.lemmas.List.{length-map}
use Rattle.dwz_def_reading.specs.Lists.{In}
use Rattle.dwz_def_reading.specs.Documents.{Doc}
use Rattle.dwz_def_tops.proofs.Members.{any_from}
use Rattle.dwz_def_tops.specs.Spots.{file_numbers, tops_of, units_of}
use Rattle.dwz_def_tops.proofs.RowLemmas.{top_of}
use Rattle.dwz_def_tops.proofs.FileNumbers.{numbers_long}
use Rattle.dwz_def_images.specs.Moves.{Move}
use Rattle.dwz_def_images.specs.Units.{changes}
use Rattle.dwz_def_images.proofs.FileLemmas.{files_are}
use Rattle.dwz_layout_numbers.specs.Owners.{IsFileWritten}
use Rattle.dwz_run_files.specs.Numbered.{AreFlags}

-- the flag of a file is the test of its number
flag_at : (test : ℕ → Bool) (start : ℕ) (docs : List (Doc ℕ)) (k n : ℕ) → start + k ≡ n → In n (file_numbers start docs)
    → slice_index_or (map test (file_numbers start docs)) k false ≡ test n
unfolding file_numbers
flag_at test start [] k n e there = absurd there
flag_at test start (doc ∷ docs) zero n e there = ap test (let same : start ≡ n = omega (arith, e) in same)
flag_at test start (doc ∷ docs) (suc k) n e (inl here) = absurd (omega (arith, e, here))
flag_at test start (doc ∷ docs) (suc k) n e (inr later) = flag_at test (suc start) docs k n (omega (arith, e)) later

-- a file of which something moves is there
changed_there : (m : Move) (docs : List (Doc ℕ)) (file : ℕ) → changes m (units_of docs) file ≡ true → In file (file_numbers 0 docs)
unfolding changes
changed_there m docs file e =
    let units = units_of docs in
    let p = any_from (λ t. t.file == file && m.gone t.number) (tops_of units) e in
    let both = and_parts (p.one.file == file) (m.gone p.one.number) p.passes in
    let o = top_of 0 0 units p.one p.there in
    let same : o.unit.file ≡ file = sym o.file_is ∙ eqb-true p.one.file file both.0 in
    subst (λ (n : ℕ). In n (file_numbers 0 docs)) same (files_are docs p.one.unit o.unit o.nth)

-- so it is written where the flags say so
pub changed_written : (m : Move) (docs : List (Doc ℕ)) (flags : List Bool) → AreFlags m docs flags
    → (file : ℕ) → changes m (units_of docs) file ≡ true → IsFileWritten flags file
changed_written m docs flags are file e =
    let test : ℕ → Bool = changes m (units_of docs) in
    let there = changed_there m docs file e in
    ap (λ (w : List Bool). slice_index_or w file false) are ∙ flag_at test 0 docs file file (omega arith) there ∙ e

pub flags_many : (test : ℕ → Bool) (docs : List (Doc ℕ)) → length (map test (file_numbers 0 docs)) ≡ length docs
flags_many test docs = length-map (file_numbers 0 docs) test ∙ numbers_long 0 docs
