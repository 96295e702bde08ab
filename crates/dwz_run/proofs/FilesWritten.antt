-- Of files comes what is new in them and in the common file, or the first fault of reading them.
use Rattle.std.proofs.Common.{◌≡◌, ℕ, Bool, true, false, List, length, Option, Some, None, Result, Ok, Err, Vec, Global, map, sym, ap, subst, ◌∙◌, inl}
use Rattle.std.specs.Prelude.{◌&&◌, not}
use Rattle.std.specs.Option.{is_some}
use Rattle.std.proofs.lemmas.List.{length-map}
use Rattle.std.proofs.lemmas.List.FromFn.{length-range_with_len}
use Rattle.dwz_model.specs.declared.fault.GraphErr.{GraphErr}
use Rattle.dwz_model.specs.declared.fault.GraphErr.TheVariants.{NoMemory, Refused}
use Rattle.dwz_model.specs.declared.sections.Sections.{Sections}
use Rattle.dwz_def_reading.specs.Documents.{Doc}
use Rattle.dwz_def_reading.specs.Files.{First, ReadAll, files_meaning, no_files_before}
use Rattle.dwz_def_reading.proofs.FileLemmas.{files_agree}
use Rattle.dwz_def_tops.specs.Alike.{TopScope}
use Rattle.dwz_def_tops.specs.Deciding.{alike_test}
use Rattle.dwz_def_tops.specs.Spots.{units_of}
use Rattle.dwz_def_tops.proofs.FileNumbers.{numbers_long}
use Rattle.dwz_def_images.specs.Gain.{gain_rule}
use Rattle.dwz_def_images.specs.Homes.{Rule}
use Rattle.dwz_def_readback.specs.Back.{run_of}
use Rattle.dwz_def_readback.specs.Files.{Run}
use Rattle.dwz_graph.specs.Files.{FilesFail, docs_of}
use Rattle.dwz_plan.specs.declared.plan.Scope.{Scope}
use Rattle.dwz_run_files.specs.Rules.{alike_scope, rule_by}
use Rattle.dwz_run_files.proofs.FirstFaults.{refused}
use Rattle.dwz_words.specs.declared.options.Options.{Options}
use Rattle.dwz_run_course.specs.declared.output.Output.{Output}
use Rattle.dwz_run_course.specs.Answers.{IsAnswer}
use Rattle.dwz_run_course.specs.Outcome.{refuses}
use Rattle.dwz_model.specs.declared.fault.Refusal.{Refusal}
use Rattle.dwz_def_output.specs.Written.{stored_of}
use Rattle.dwz_def_run.specs.Out.{OutBy, Slims, rule_of, run_for, top_scope_of}
use Rattle.dwz_def_run.specs.Compares.{Compares}
use Rattle.dwz_def_run.specs.Expands.{Expands}
use Rattle.dwz_def_run.specs.Tells.{TellsWhy}
use Rattle.dwz_def_run.specs.Comes.{Comes, ComesBy, reusing}
use Rattle.dwz_def_run.specs.Reuses.{Reuses}
use Rattle.dwz_def_run.specs.Yields.{Batched, Yields, YieldsBy, batching}
use Rattle.dwz_def_output.specs.declared.new_file.NewFile.{NewFile}
use Rattle.dwz_def_output.specs.NewFiles.{AreNew, IsNewCommon}
use Rattle.dwz_def_over.proofs.ReadOver.{read_length}

-- ---- what comes of options, by what they ask for

-- two files are compared
abbrev pub is_to_compare : (check explain : Bool) → Bool
is_to_compare check explain = check && not explain

-- one file is written without its partial units
abbrev pub is_to_expand : (expand explain check : Bool) → Bool
is_to_expand expand explain check = expand && not explain && not check

-- neither
record IsForFiles (b c d : Bool) : Type 0 where
  no_two : is_to_compare c b ≡ false
  no_one : is_to_expand d b c ≡ false

first_refuses : (b c d : Bool) (o : Options) (contents : List (List ℕ)) (r : Refusal) → IsForFiles b c d → First no_files_before 0 contents r
    → OutBy b c d o contents (refuses r)
first_refuses true c d o contents r none first = inl first
first_refuses false true d o contents r none first = absurd (let two = none.no_two in cc)
first_refuses false false true o contents r none first = absurd (let one = none.no_one in cc)
first_refuses false false false o contents r none first = inl first

-- what comes where nothing is written over a finished common file
alone : (o : Options) (contents : List (List ℕ)) (result : Result Output GraphErr) → is_some o.reuse ≡ false
    → IsAnswer (OutBy o.explain o.check o.expand o contents) result → IsAnswer (Comes o contents) result
alone o contents result no_reuse is = by o.reuse no_reuse where
  by : (reuse : Option (List ℕ)) → is_some reuse ≡ false → IsAnswer (ComesBy reuse o contents) result
  by None e = is
  by (Some common) e = absurd cc

pub reused_as_asked : (o : Options) (contents : List (List ℕ)) (result : Result Output GraphErr) → is_some o.reuse ≡ true
    → IsAnswer (Reuses (reusing o) contents) result → IsAnswer (Comes o contents) result
reused_as_asked o contents result reuses is = by o.reuse reuses where
  by : (reuse : Option (List ℕ)) → is_some reuse ≡ true → IsAnswer (ComesBy reuse o contents) result
  by None e = absurd cc
  by (Some common) e = is

-- files that are neither compared nor written without partial units, and don't read, are refused with their first fault
pub read_refused : (o : Options) (contents : List (List ℕ)) (e : GraphErr) → is_some o.reuse ≡ false → is_to_compare o.check o.explain ≡ false → is_to_expand o.expand o.explain o.check ≡ false
    → FilesFail e (files_meaning no_files_before 0 contents) → IsAnswer (Comes o contents) (Err e)
read_refused o contents NoMemory new two one fail = alone o contents (Err NoMemory) new tt
read_refused o contents (Refused r) new two one fail =
    let first = refused contents r fail in
    alone o contents (Err (Refused r)) new (first_refuses o.explain o.check o.expand o contents r (record { no_two = two; no_one = one }) first.0, first.1)

pub told_as_asked : (o : Options) (contents : List (List ℕ)) (result : Result Output GraphErr) → is_some o.reuse ≡ false → o.explain ≡ true
    → IsAnswer (TellsWhy o contents) result → IsAnswer (Comes o contents) result
told_as_asked o contents result new tells is = alone o contents result new (subst (λ (b : Bool). IsAnswer (OutBy b o.check o.expand o contents) result) (sym tells) is)

pub slimmed_as_asked : (o : Options) (contents : List (List ℕ)) (result : Result Output GraphErr) → is_some o.reuse ≡ false → o.explain ≡ false → is_to_compare o.check o.explain ≡ false
    → is_to_expand o.expand o.explain o.check ≡ false → IsAnswer (Slims o contents) result → IsAnswer (Comes o contents) result
slimmed_as_asked o contents result new slims two one is = alone o contents result new (by o.explain o.check o.expand slims (record { no_two = two; no_one = one })) where
  by : (b c d : Bool) → b ≡ false → IsForFiles b c d → IsAnswer (OutBy b c d o contents) result
  by true c d e n = absurd cc
  by false true d e n = absurd (let two = n.no_two in cc)
  by false false true e n = absurd (let one = n.no_one in cc)
  by false false false e n = is

pub compared_as_asked : (o : Options) (contents : List (List ℕ)) (result : Result Output GraphErr) → is_some o.reuse ≡ false → is_to_compare o.check o.explain ≡ true
    → IsAnswer (Compares o contents) result → IsAnswer (Comes o contents) result
compared_as_asked o contents result new compares is = alone o contents result new (by o.explain o.check compares) where
  by : (b c : Bool) → is_to_compare c b ≡ true → IsAnswer (OutBy b c o.expand o contents) result
  by true true n = absurd cc
  by true false n = absurd cc
  by false true n = is
  by false false n = absurd cc

pub expanded_as_asked : (o : Options) (contents : List (List ℕ)) (result : Result Output GraphErr) → is_some o.reuse ≡ false → is_to_expand o.expand o.explain o.check ≡ true
    → IsAnswer (Expands o contents) result → IsAnswer (Comes o contents) result
expanded_as_asked o contents result new expands is = alone o contents result new (by o.explain o.check o.expand expands) where
  by : (b c d : Bool) → is_to_expand d b c ≡ true → IsAnswer (OutBy b c d o contents) result
  by true c true n = absurd cc
  by true c false n = absurd cc
  by false true true n = absurd cc
  by false true false n = absurd cc
  by false false true n = is
  by false false false n = absurd cc

-- ---- or of many files, each as if it were alone

pub not_batched : (o : Options) (contents : List (List ℕ)) (result : Result Output GraphErr) → is_some o.batch ≡ false
    → IsAnswer (Comes o contents) result → IsAnswer (Yields o contents) result
not_batched o contents result none is = by o.batch none where
  by : (batch : Option (List ℕ)) → is_some batch ≡ false → IsAnswer (YieldsBy batch o contents) result
  by None e = is
  by (Some common) e = absurd cc

pub batched_as_asked : (o : Options) (contents : List (List ℕ)) (result : Result Output GraphErr) → is_some o.batch ≡ true
    → IsAnswer (Batched (batching o) contents) result → IsAnswer (Yields o contents) result
batched_as_asked o contents result batches is = by o.batch batches where
  by : (batch : Option (List ℕ)) → is_some batch ≡ true → IsAnswer (YieldsBy batch o contents) result
  by None e = absurd cc
  by (Some common) e = is

-- ---- the files of a graph, which stands for their contents

-- they read
pub all_read : (graph bytes : List (List ℕ)) → graph ≡ bytes → files_meaning no_files_before 0 bytes ≡ Ok (docs_of graph)
    → ReadAll no_files_before graph (docs_of graph)
all_read graph bytes same means =
    ((files_agree no_files_before 0 graph).ok (docs_of graph)).0 (ap (λ (b : List (List ℕ)). files_meaning no_files_before 0 b) same ∙ means)

-- and are as many
pub as_many_contents : (graph : List (List ℕ)) (contents : List (Vec ℕ Global)) → graph ≡ map (λ (v : Vec ℕ Global). v.items) contents
    → length graph ≡ length contents
as_many_contents graph contents same = ap (λ (bytes : List (List ℕ)). length bytes) same ∙ length-map contents (λ (v : Vec ℕ Global). v.items)

-- the rule is that of files which share as the options ask
rule_is : (o : Options) (sharing : Scope) (docs : List (Doc ℕ)) → alike_scope sharing ≡ top_scope_of o → rule_by sharing docs ≡ rule_of o docs
rule_is o sharing docs same = ap (λ (s : TopScope). gain_rule (alike_test s (units_of docs)) (units_of docs)) same

module _ (o : Options) (sharing : Scope) (graph : List (List ℕ)) (flags : List Bool) (same_scope : alike_scope sharing ≡ top_scope_of o) where
  abbrev docs : List (Doc ℕ)
  docs = docs_of graph

  abbrev run_by : Rule → Run
  run_by rule = run_of rule docs (stored_of graph flags)

  abbrev r : Run
  r = run_by (rule_by sharing docs)

  pub new_in : (made : List (Option NewFile)) (partials : ℕ) → AreNew r made partials → AreNew (run_for o graph docs flags) made partials
  new_in made partials are = subst (λ (rule : Rule). AreNew (run_by rule) made partials) (rule_is o sharing docs same_scope) are

  pub common_in : (common : Option Sections) → IsNewCommon r common → IsNewCommon (run_for o graph docs flags) common
  common_in common is = subst (λ (rule : Rule). IsNewCommon (run_by rule) common) (rule_is o sharing docs same_scope) is

  -- there is a row for each file
  pub graph_rows : ReadAll no_files_before graph docs → (made : List (Option NewFile)) (partials : ℕ) → AreNew r made partials → length made ≡ length graph
  graph_rows reads made partials are =
      sym (length-range_with_len 0 (length made))
      ∙ (sym (ap (λ (files : List ℕ). length files) are.files)
      ∙ (numbers_long 0 docs ∙ read_length no_files_before graph docs reads))
