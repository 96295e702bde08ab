-- Files that were read.
use Rattle.std.proofs.Common.{◌≡◌, ℕ, suc, List, [], ◌∷◌, Ok, subst}
use Rattle.dwz_def_reading.specs.Documents.{Doc}
use Rattle.dwz_def_reading.specs.Files.{Limits, files_meaning, limits_after, no_files_before}
use Rattle.dwz_def_reading.specs.Lists.{Each}
use Rattle.dwz_def_images.specs.After.{ArePlaced}
use Rattle.dwz_graph.specs.Files.{AreKept, AreRead, docs_of}
use Rattle.dwz_graph.specs.declared.file.File.{File}
use Rattle.dwz_graph.proofs.GraphLemmas.{files_read}
use Rattle.dwz_graph.proofs.TopNameLemmas.{places_once}
use Rattle.dwz_graph.proofs.FileWalk.{first_doc}
use Rattle.dwz_reuse.proofs.FileSteps.{placed_alone}
use Rattle.dwz_unit.specs.Rows.{units_of}

placed_from : (l : Limits) (n : ℕ) (contents : List (List ℕ)) (files : List File) (left : Limits) (said : List (Doc ℕ)) → AreRead l n contents files left → files_meaning l n contents ≡ Ok said
    → Each (λ doc. ArePlaced doc.units) said
unfolding files_meaning
placed_from l n [] [] left said h m = (let same : [] ≡ said = cc in subst (λ (w : List (Doc ℕ)). Each (λ doc. ArePlaced doc.units) w) same tt)
placed_from l n [] (y ∷ files) left said h m = absurd h
placed_from l n (b ∷ contents) [] left said h m = absurd h
placed_from l n (b ∷ contents) (y ∷ files) left said h m =
    let r = first_doc l n b contents y said h.0 m in
    let first = placed_alone l n b y h.0 (places_once l b (units_of y.units) h.0.doc h.0.means) in
    subst (λ (w : List (Doc ℕ)). Each (λ doc. ArePlaced doc.units) w) r.2 (first, placed_from (limits_after l b (units_of y.units)) (suc n) contents files left r.0 h.1 r.1)

pub all_placed : (contents : List (List ℕ)) (files : List File) → AreKept contents files → Each (λ doc. ArePlaced doc.units) (docs_of contents)
all_placed contents files kept = placed_from no_files_before 0 contents files kept.end (docs_of contents) kept.are (files_read contents files kept.end kept.are)
