-- The flag of a file that is written says whether it imports from the common file.
use Rattle.std.proofs.Common.{◌≡◌, ◌+◌, ◌<◌, ℕ, Bool, false, List, get_or, length, ap, ◌∙◌, arith}
use Rattle.dwz_def_reading.proofs.ListFacts.{got_below}
use Rattle.dwz_graph.proofs.FileCounts.{are_many}
use Rattle.dwz_def_readback.specs.Files.{imports_common}
use Rattle.dwz_law_layout.specs.Beside.{Beside}
use Rattle.dwz_law_layout.specs.Facts.{RunFacts, docs, move, units}
use Rattle.dwz_law_layout.proofs.FilesKnown.{flag_is}
use Rattle.dwz_run_files.specs.declared.work.LaidRun.{LaidRun}
use Rattle.dwz_run_files.specs.Works.{HasRank, IsWork}
use Rattle.dwz_run_files.proofs.FileMoved.{facts, read}

pub imports_are : {beside : Beside} (f : RunFacts beside) (w : LaidRun) (is : IsWork f w) (n rank : ℕ) → HasRank f n rank
    → get_or w.prepared.now.run.settled.importing.items n false ≡ imports_common (move f) (units f) n
imports_are f w is n rank has =
    let there = read f w is n rank has in
    let all = facts f w is in
    let many = are_many f.contents f.files f.indexes all.kept all.indexed in
    let files = many.0 in
    let below = got_below f.files n there.x there.has.file in
    let less : n < length (docs f) = omega (arith, files, below) in
    let none : 0 + n ≡ n = omega arith in
    ap (λ (flags : List Bool). get_or flags n false) is.works.ready.importing
    ∙ flag_is (imports_common (move f) (units f)) 0 (docs f) n less
    ∙ ap (imports_common (move f) (units f)) none
