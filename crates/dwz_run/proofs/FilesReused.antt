-- Of files over a finished common file comes what is new in them, or the first fault of reading them beside it.
use Rattle.std.proofs.Common.{◌≡◌, ℕ, suc, ◌+◌, ◌-◌, Bool, List, [], ◌∷◌, length, map, get_or, take, drop, Option, Some, None, Ok, Err, Result, Vec, Global, refl, sym, ap, subst, ◌∙◌, inl, arith}
use Rattle.std.specs.List.{range_with_len}
use Rattle.std.specs.Prelude.{unwrap_or}
use Rattle.std.proofs.lemmas.List.{length-map}
use Rattle.std.proofs.Math.Seq.{take-length}
use Rattle.std.proofs.lemmas.List.FromFn.{length-range_with_len}
use Rattle.dwz_model.specs.declared.fault.GraphErr.{GraphErr}
use Rattle.dwz_model.specs.declared.fault.GraphErr.TheVariants.{NoMemory, Refused}
use Rattle.dwz_def_reading.specs.Documents.{Doc}
use Rattle.dwz_def_reading.specs.Finished.{BesideDocs, ReadBeside, beside_meaning}
use Rattle.dwz_def_reading.proofs.FinishedLemmas.{beside_agrees}
use Rattle.dwz_def_tops.proofs.FileNumbers.{numbers_long}
use Rattle.dwz_def_images.specs.Homes.{numbers_from}
use Rattle.dwz_def_output.specs.Written.{ArePrunable}
use Rattle.dwz_def_output.specs.NewFiles.{AreNewBy}
use Rattle.dwz_def_output.specs.declared.new_file.NewFile.{NewFile}
use Rattle.dwz_def_taken.specs.declared.fixed.Fixed.{Fixed}
use Rattle.dwz_def_taken.specs.Takes.{IsFixedOf}
use Rattle.dwz_def_over.specs.Over.{AreOverFiles, OverFiles, limits_over, run_over, stands}
use Rattle.dwz_def_over.proofs.ReadOver.{read_length}
use Rattle.dwz_def_run.specs.Reuses.{HasContents, Reuses, ReusesOf, common_got, files_got}
use Rattle.dwz_def_run.proofs.ReusesGotten.{shifted}
use Rattle.dwz_graph.specs.Files.{AreKept, FilesFail, FilesRead, HasCommon, docs_of, said_beside}
use Rattle.dwz_graph.specs.declared.file.File.{File}
use Rattle.dwz_reuse.specs.Placed.{BesideLaw}
use Rattle.dwz_unit.specs.Rows.{units_of}
use Rattle.dwz_plan.proofs.BridgeLemmas.{numbers_are}
use Rattle.dwz_run_course.specs.declared.output.Output.{Output}
use Rattle.dwz_run_course.specs.Answers.{IsAnswer}
use Rattle.dwz_run_files.specs.Over.{IsOver}
use Rattle.dwz_words.specs.declared.options.Options.{Options}
use Rattle.dwz_run.proofs.FinishedPlaced.{beside_placed}

-- files that don't read beside the common file are refused with their first fault
pub unread_over : (o : Options) (common : List ℕ) (files : List (List ℕ)) (e : GraphErr) → FilesFail e (beside_meaning common files) → IsAnswer (ReusesOf o common files) (Err e)
unread_over o common files NoMemory fail = tt
unread_over o common files (Refused r) fail =
    let first = ((beside_agrees common files).err r).0 fail in (inl first, beside_placed common files r first)

-- what files say beside the common file they say by themselves
pub alone_said : (number : ℕ) (bytes : List ℕ) (common : Option File) → HasCommon number (Some bytes) common → (contents : List (List ℕ)) (files : List File) → AreKept contents files
    → BesideLaw → (said : BesideDocs) → beside_meaning bytes contents ≡ Ok said → said.docs ≡ docs_of contents
alone_said number bytes None has contents files kept law said means = absurd has
alone_said number bytes (Some f) has contents files kept law said means = (law contents files number bytes (units_of f.units) has.doc said kept has.means means).0

-- ---- files that read

-- what a graph has of files that read beside the common file, with flags of prunable files, and what is taken
pub record IsKnown (common : List ℕ) (files : List (List ℕ)) (graph : FilesRead) (prunes : List Bool) (fixed : Fixed) : Type 0 where
  pub kept : graph ≡ record { common = Some common; given = files; back = [] }
  pub said : BesideDocs
  pub means : beside_meaning common files ≡ Ok said
  pub alone : said.docs ≡ docs_of graph.given
  pub prunable : ArePrunable graph.given (docs_of graph.given) prunes
  pub taken : IsFixedOf said fixed

pub has_common : (common : List ℕ) (files : List (List ℕ)) (graph : FilesRead) → graph ≡ record { common = Some common; given = files; back = [] } → graph.common ≡ Some common
has_common common files graph kept = ap (λ (w : FilesRead). w.common) kept

pub given_files : (common : List ℕ) (files : List (List ℕ)) (graph : FilesRead) → graph ≡ record { common = Some common; given = files; back = [] } → graph.given ≡ files
given_files common files graph kept = ap (λ (w : FilesRead). w.given) kept

pub known : (common : List ℕ) (files : List (List ℕ)) (graph : FilesRead) (flags prunes : List Bool) (fixed : Fixed)
    → graph ≡ record { common = Some common; given = files; back = [] } → beside_meaning common files ≡ Ok (said_beside graph)
    → ((said : BesideDocs) → beside_meaning (unwrap_or graph.common []) graph.given ≡ Ok said → said.docs ≡ docs_of graph.given)
    → prunes ≡ flags → ArePrunable graph.given (docs_of graph.given) flags
    → ((said : BesideDocs) → beside_meaning (unwrap_or graph.common []) graph.given ≡ Ok said → IsFixedOf said fixed) → IsKnown common files graph prunes fixed
known common files graph flags prunes fixed kept means alone same prunable taken =
    let here : beside_meaning (unwrap_or graph.common []) graph.given ≡ Ok (said_beside graph) =
    ap (λ (w : FilesRead). beside_meaning (unwrap_or w.common []) w.given) kept ∙ means in
    record {
      kept = kept;
      said = said_beside graph;
      means = means;
      alone = alone (said_beside graph) here;
      prunable = subst (λ (fs : List Bool). ArePrunable graph.given (docs_of graph.given) fs) (sym same) prunable;
      taken = taken (said_beside graph) here;
    }

module _ (common : List ℕ) (files : List (List ℕ)) (graph : FilesRead) (prunes : List Bool) (fixed : Fixed) (is : IsKnown common files graph prunes fixed) where
  given : graph.given ≡ files
  given = given_files common files graph is.kept

  pub reads : ReadBeside common files is.said
  reads = ((beside_agrees common files).ok is.said).0 is.means

  -- what was read of them, and what is taken
  abbrev pub x : OverFiles
  x = record { common = common; contents = files; raw = reads.0; said = is.said; prunes = prunes; fixed = fixed }

  pub are : AreOverFiles x
  are = record {
    common = reads.1;
    files = reads.2;
    prunable = subst (λ (docs : List (Doc ℕ)). ArePrunable files docs prunes) (sym is.alone)
        (subst (λ (fs : List (List ℕ)). ArePrunable fs (docs_of graph.given) prunes) given is.prunable);
    taken = is.taken;
  }

  pub is_over : IsOver graph prunes fixed x
  is_over = record { common = has_common common files graph is.kept; contents = given; prunes_are = refl; fixed_is = refl; are = are }

  pub has : HasContents common graph.given x
  has = (refl, sym given)

  -- there is a row for each file
  pub rows_over : (made : List (Option NewFile)) (partials : ℕ) → AreNewBy (stands x) (run_over x) made partials → length made ≡ length files
  rows_over made partials new =
      sym (length-range_with_len 0 (length made))
      ∙ (sym (ap (λ (numbers : List ℕ). length numbers) new.files)
      ∙ (numbers_long 0 is.said.docs ∙ read_length (limits_over x) files is.said.docs reads.2))

-- ---- the contents of FILEs

all_same : (xs names : List (List ℕ)) → length xs ≡ length names → map (λ n. get_or xs n []) (numbers_from 0 names) ≡ xs
unfolding numbers_from
all_same [] [] same = refl
all_same [] (n ∷ names) same = absurd (omega (arith, same))
all_same (x ∷ xs) [] same = absurd (omega (arith, same))
all_same (x ∷ xs) (n ∷ names) same = ap (λ (w : List (List ℕ)). x ∷ w) (shifted x xs names 0 ∙ all_same xs names (omega (arith, same)))

-- where all were got, those behind the first
pub tail_got : (o : Options) (contents files : List (Vec ℕ Global)) → files ≡ take (length contents - 1) (drop 1 contents) → length contents ≡ length o.files + 1
    → map (λ c. c.items) files ≡ files_got o (map (λ c. c.items) contents)
tail_got o [] files is many = absurd (omega (arith, many))
tail_got o (c ∷ rest) files is many =
    let items : List (Vec ℕ Global) → List (List ℕ) = λ cs. map (λ (v : Vec ℕ Global). v.items) cs in
    let same : length (items rest) ≡ length o.files = length-map rest (λ (v : Vec ℕ Global). v.items) ∙ (let few : length rest ≡ length o.files = omega (arith, many) in few) in
    let last : length (c ∷ rest) - 1 ≡ length rest = omega arith in
    ap items (is ∙ ap (λ (n : ℕ). take n rest) last ∙ take-length rest) ∙ sym (all_same (items rest) o.files same)

-- and else with nothing for what wasn't got
pub behind_got : (o : Options) (contents files : List (List ℕ)) → files ≡ map (λ n. get_or contents (suc n) []) (range_with_len 0 (length o.files)) → files ≡ files_got o contents
behind_got o contents files is = is ∙ sym (ap (λ (ns : List ℕ). map (λ n. get_or contents (suc n) []) ns) (numbers_are 0 o.files))

-- what comes of these is what comes of all contents
pub reuses_got : (o : Options) (contents : List (List ℕ)) (common : List ℕ) (files : List (List ℕ)) (result : Result Output GraphErr) → common ≡ common_got contents
    → files ≡ files_got o contents → IsAnswer (ReusesOf o common files) result → IsAnswer (Reuses o contents) result
reuses_got o contents common files result first others is =
    subst (λ (fs : List (List ℕ)). IsAnswer (ReusesOf o (common_got contents) fs) result) others
    (subst (λ (w : List ℕ). IsAnswer (ReusesOf o w files) result) first is)
