-- Of options and contents something comes: which files are prunable is told by a test. Of files that are compared no test is at hand.
use Rattle.std.proofs.Common.{◌≡◌, ◌⊎◌, ℕ, Bool, true, false, List, [], ◌∷◌, Result, Ok, Err, refl, inl, inr}
use Rattle.dwz_def_reading.specs.Refusal.{Refusal}
use Rattle.dwz_def_reading.specs.Documents.{Doc}
use Rattle.dwz_def_reading.specs.Files.{Limits, ReadAll, files_meaning, limits_after, no_files_before}
use Rattle.dwz_def_reading.proofs.FileLemmas.{files_agree}
use Rattle.dwz_words.specs.declared.options.Options.{Options}
use Rattle.dwz_run_course.specs.Outcome.{Outcome, refuses, writes}
use Rattle.dwz_def_readback.specs.PrunableTest.{is_prunable}
use Rattle.dwz_def_readback.proofs.PrunableDecided.{prunable_decided}
use Rattle.dwz_def_output.specs.Written.{ArePrunable, IsFree}
use Rattle.dwz_def_explain.specs.Places.{Explains}
use Rattle.dwz_def_explain.proofs.PlaceLemmas.{some_answer}
use Rattle.dwz_text.specs.Lines.{Text}
use Rattle.dwz_def_run.specs.Out.{Out, OutBy, Slims, output_of, run_for, sup_name}
use Rattle.dwz_def_run.specs.Tells.{TellsWhy, answer_of, first_asked, second_asked}
use Rattle.dwz_def_run.proofs.Compared.{never_nothing}
use Rattle.dwz_def_run.proofs.Expanded.{some_expanded}
use Rattle.dwz_def_output.specs.Refusals.{OutFault}
use Rattle.dwz_def_output.proofs.EitherOne.{either}

-- which files are prunable
flags_of : (l : Limits) (contents : List (List ℕ)) (docs : List (Doc ℕ)) → ReadAll l contents docs → (flags : List Bool) × ArePrunable contents docs flags
flags_of l [] [] all = ([], tt)
flags_of l [] (doc ∷ docs) all = absurd all
flags_of l (bytes ∷ contents) [] all = absurd all
flags_of l (bytes ∷ contents) (doc ∷ docs) all =
    let more = flags_of (limits_after l bytes all.0) contents docs all.2 in (is_prunable bytes doc.units ∷ more.0, (prunable_decided bytes doc.units, more.1))

-- of files that are slimmed
some_slimmed : (o : Options) (contents : List (List ℕ)) → (outcome : Outcome) × Slims o contents outcome
some_slimmed o contents = by (files_meaning no_files_before 0 contents) refl where
  read : (docs : List (Doc ℕ)) → ReadAll no_files_before contents docs → (flags : List Bool) → ArePrunable contents docs flags
      → ((q : Refusal) × OutFault (sup_name o) (run_for o contents docs flags) q) ⊎ IsFree (sup_name o) (run_for o contents docs flags) → (outcome : Outcome) × Slims o contents outcome
  read docs all flags are (inl fault) = (refuses fault.0, inr (docs, flags, record { read = record { reads = all; prunable = are }; fault = fault.1 }))
  read docs all flags are (inr free) =
      (writes (output_of o (run_for o contents docs flags)), (docs, flags, record { read = record { reads = all; prunable = are }; free = free }, refl))

  by : (m : Result (List (Doc ℕ)) Refusal) → files_meaning no_files_before 0 contents ≡ m → (outcome : Outcome) × Slims o contents outcome
  by (Err q) e = (refuses q, inl (((files_agree no_files_before 0 contents).err q).0 e))
  by (Ok docs) e =
      let all = ((files_agree no_files_before 0 contents).ok docs).0 e in
      let flags = flags_of no_files_before contents docs all in
      read docs all flags.0 flags.1 (either (sup_name o) (run_for o contents docs flags.0))

-- of two entries that are explained
some_told : (o : Options) (contents : List (List ℕ)) → (outcome : Outcome) × TellsWhy o contents outcome
some_told o contents = by (files_meaning no_files_before 0 contents) refl where
  said : (docs : List (Doc ℕ)) → ReadAll no_files_before contents docs → (r : Result Text Refusal) → Explains docs (first_asked o) (second_asked o) r
      → (outcome : Outcome) × TellsWhy o contents outcome
  said docs all (Ok text) is = (writes (answer_of text), (docs, all, (text, is, refl)))
  said docs all (Err q) is = (refuses q, inr (docs, all, is))

  by : (m : Result (List (Doc ℕ)) Refusal) → files_meaning no_files_before 0 contents ≡ m → (outcome : Outcome) × TellsWhy o contents outcome
  by (Err q) e = (refuses q, inl (((files_agree no_files_before 0 contents).err q).0 e))
  by (Ok docs) e =
      let some = some_answer docs (first_asked o) (second_asked o) in
      said docs (((files_agree no_files_before 0 contents).ok docs).0 e) some.0 some.1

pub some_outcome : (o : Options) (contents : List (List ℕ)) → o.check ≡ false → (outcome : Outcome) × Out o contents outcome
some_outcome o contents none = by o.explain o.check o.expand none where
  by : (explain check expand : Bool) → check ≡ false → (outcome : Outcome) × OutBy explain check expand o contents outcome
  by true check expand e = some_told o contents
  by false true expand e = absurd cc
  by false false true e = some_expanded o contents
  by false false false e = some_slimmed o contents

pub always_some : (o : Options) (contents : List (List ℕ)) → ((outcome : Outcome) → Out o contents outcome → ⊥) → ⊥
always_some o contents nothing = by o.explain o.check o.expand nothing where
  by : (explain check expand : Bool) → ((outcome : Outcome) → OutBy explain check expand o contents outcome → ⊥) → ⊥
  by true check expand none = let some = some_told o contents in none some.0 some.1
  by false true expand none = never_nothing o contents none
  by false false true none = let some = some_expanded o contents in none some.0 some.1
  by false false false none = let some = some_slimmed o contents in none some.0 some.1
