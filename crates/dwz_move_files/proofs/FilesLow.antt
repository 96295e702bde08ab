-- Few tops, and the numbers of files are below how many there are.
use Rattle.std.proofs.Common.{ℕ, zero, suc, ◌+◌, ◌<◌, ◌≤◌, ◌^◌, All, List, [], ◌∷◌, length, map, sym, subst, arith}
use Rattle.std.specs.Prelude.{replicate}
use Rattle.dwz_def_reading.proofs.ListFacts.{all_more}
use Rattle.dwz_def_tops.specs.Spots.{tops_of, units_of}
use Rattle.dwz_graph.specs.declared.file.File.{File}
use Rattle.dwz_graph.specs.Files.{AreKept, docs_of}
use Rattle.dwz_graph.specs.Index.{Index}
use Rattle.dwz_graph.specs.Indexed.{AreIndexes}
use Rattle.dwz_def_reading.specs.Documents.{Doc}
use Rattle.dwz_graph.proofs.FileCounts.{all_ends}
use Rattle.dwz_graph.proofs.FileRoom.{tops_small}
use Rattle.dwz_graph.proofs.UnitFiles.{all_files, files_from}
use Rattle.dwz_move_files.proofs.ListParts.{all_both, all_none}

all_same : (m n k : ℕ) → n < m → All (λ n. n < m) (replicate k n)
all_same m n zero lt = all_none (λ (n : ℕ). n < m)
all_same m n (suc k) lt = all_more (λ (n : ℕ). n < m) n (replicate k n) lt (all_same m n k lt)

low : (m n : ℕ) (docs : List (Doc ℕ)) → n + length docs ≤ m → All (λ n. n < m) (files_from n docs)
unfolding files_from
low m n [] le = all_none (λ (n : ℕ). n < m)
low m n (doc ∷ docs) le = all_both (λ (n : ℕ). n < m) (replicate (length doc.units) n) (files_from (suc n) docs) (all_same m n (length doc.units) (omega arith)) (low m (suc n) docs (omega arith))

pub files_low : (docs : List (Doc ℕ)) (m : ℕ) → length docs ≤ m → All (λ n. n < m) (map (λ f. f.file) (units_of docs))
files_low docs m le = subst (λ (w : List ℕ). All (λ n. n < m) w) (sym (all_files docs)) (low m 0 docs (omega arith))

pub tops_few : (contents : List (List ℕ)) (files : List File) (indexes : List Index) → AreKept contents files → AreIndexes (docs_of contents) indexes
    → length (tops_of (units_of (docs_of contents))) < 2 ^ 32
tops_few contents files indexes kept is = (let e = (all_ends contents indexes is).1 in let small = tops_small contents files indexes kept is (length indexes) in omega arith)
