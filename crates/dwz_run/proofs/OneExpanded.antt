-- What comes of one file that is written without its partial units: what is put and said, or the first refusal.
use Rattle.std.proofs.Common.{◌≡◌, ℕ, List, [], ◌∷◌, length, get_or, Option, Result, Ok, Err, refl, sym, ap, subst, ◌∙◌, inl, inr, arith}
use Rattle.dwz_model.specs.declared.fault.GraphErr.{GraphErr}
use Rattle.dwz_model.specs.declared.fault.GraphErr.TheVariants.{NoMemory, Refused}
use Rattle.dwz_model.specs.declared.fault.ReadErr.{ReadErr}
use Rattle.dwz_model.specs.declared.fault.Refusal.{Refusal}
use Rattle.dwz_model.specs.declared.sections.Sections.{Sections}
use Rattle.dwz_def_reading.specs.Finished.{finished_meaning}
use Rattle.dwz_def_reading.proofs.FinishedLemmas.{finished_agrees}
use Rattle.dwz_def_expand.specs.OneFile.{OneFile, ReadsOne}
use Rattle.dwz_def_expand.specs.Output.{ExpandRefusal, new_sections}
use Rattle.dwz_def_expand.specs.NewFile.{NewRefusal}
use Rattle.dwz_def_expand.proofs.OfSections.{of_section}
use Rattle.dwz_expand.specs.Expanded.{AnswersExpand, IsOneOf}
use Rattle.dwz_expand_file.specs.Answers.{AnswersFile}
use Rattle.dwz_graph.specs.Files.{FilesFail, FilesRead}
use Rattle.dwz_words.specs.declared.options.Options.{Options}
use Rattle.dwz_run_course.specs.declared.output.Output.{Output}
use Rattle.dwz_run_course.specs.Answers.{CanBeSaid, IsAnswer}
use Rattle.dwz_def_run.specs.Expands.{ExpandsOne, IsOneRead, output_with}
use Rattle.dwz_run.specs.NewBytes.{AnswersNew}
use Rattle.dwz_run.proofs.FinishedPlaced.{finished_placed}

-- what is answered of the bytes and the new sections of a file is answered of the file
pub of_file : (f : OneFile) (input : List ℕ) (s : Sections) {A : Type 0} (items : A → List ℕ) (result : Result A ReadErr) → input ≡ f.file.bytes → s ≡ new_sections f
    → AnswersFile items input s result → AnswersFile items f.file.bytes (new_sections f) result
of_file f input s items result content new answers =
    subst (λ (b : List ℕ). AnswersFile items b (new_sections f) result) content (subst (λ (t : Sections). AnswersFile items input t result) new answers)

-- one content is all there is
pub only_one : (files : List (List ℕ)) → length files ≡ 1 → files ≡ get_or files 0 [] ∷ []
only_one [] one = absurd (omega (arith, one))
only_one (a ∷ []) one = refl
only_one (a ∷ b ∷ files) one = absurd (omega (arith, one))

-- the one file of a graph
pub of_graph : (common : Option (List ℕ)) (files : List (List ℕ)) (r : FilesRead) (f : OneFile) → length files ≡ 1 → r.back ≡ files → r.common ≡ common → IsOneOf r f
    → IsOneRead common (get_or files 0 []) f
of_graph common files r f one back beside is = record {
  reads = is.reads;
  file = head_is f.file.bytes (get_or files 0 []) (sym is.content ∙ back ∙ only_one files one);
  beside = sym is.common ∙ beside;
} where
  head_is : (a b : List ℕ) → a ∷ [] ≡ b ∷ [] → a ≡ b
  head_is a b e = cc

module _ (o : Options) (common : Option (List ℕ)) (bytes : List ℕ) where
  -- a file that doesn't read is refused with its first fault, or that of its common file
  pub unread : (e : GraphErr) → FilesFail e (finished_meaning common (bytes ∷ [])) → IsAnswer (ExpandsOne o common bytes) (Err e)
  unread NoMemory fail = tt
  unread (Refused r) fail = let first = ((finished_agrees common (bytes ∷ [])).err r).0 fail in (inl first, finished_placed common (bytes ∷ []) r first)

  refused : (f : OneFile) (q : Refusal) → IsOneRead common bytes f → NewRefusal f q → IsAnswer (ExpandsOne o common bytes) (Err (Refused q))
  refused f q is has = (inr (f, is, has), of_section f q has)

  -- or one of its values, operands or sections is
  pub inside_refused : (f : OneFile) (q : Refusal) → IsOneRead common bytes f → ExpandRefusal f q → IsAnswer (ExpandsOne o common bytes) (Err (Refused q))
  inside_refused f q is has = refused f q is (inl has)

  module _ (f : OneFile) (is : IsOneRead common bytes f) (free : (q : Refusal) → ¬ ExpandRefusal f q) where
    -- or the file is
    pub file_refused : {A : Type 0} (items : A → List ℕ) (e : GraphErr) → AnswersNew f items (Err e) → IsAnswer (ExpandsOne o common bytes) (Err e)
    file_refused items NoMemory answers = tt
    file_refused items (Refused q) answers = refused f q is (inr (free, answers))

    -- or it is written
    pub is_written : {A : Type 0} (items : A → List ℕ) (new : A) → AnswersNew f items (Ok new) → (out : Output) → out ≡ output_with o bytes (items new) → CanBeSaid out.said
        → IsAnswer (ExpandsOne o common bytes) (Ok out)
    is_written items new answers out same said = ((f, is, none, same ∙ ap (output_with o bytes) answers.1), said) where
      none : (q : Refusal) → ¬ NewRefusal f q
      none q (inl has) = free q has
      none q (inr has) = answers.0 has.1.0 has.1.1

-- ---- as it comes of a graph, whose one file has these contents

module _ (o : Options) (common : Option (List ℕ)) (files : List (List ℕ)) (one : length files ≡ 1) where
  abbrev bytes : List ℕ
  bytes = get_or files 0 []

  abbrev Is : Result Output GraphErr → Type 0
  Is result = IsAnswer (ExpandsOne o common bytes) result

  pub files_unread : (e : GraphErr) → FilesFail e (finished_meaning common files) → Is (Err e)
  files_unread e fail = unread o common bytes e (subst (λ (fs : List (List ℕ)). FilesFail e (finished_meaning common fs)) (only_one files one) fail)

  module _ (r : FilesRead) (back : r.back ≡ files) (beside : r.common ≡ common) where
    pub sections_refused : (e : GraphErr) → AnswersExpand r (Err e) → Is (Err e)
    sections_refused NoMemory answers = tt
    sections_refused (Refused q) answers = inside_refused o common bytes answers.0 q (of_graph common files r answers.0 one back beside answers.1) answers.2

    -- the new sections are given to the file
    module _ (s : Sections) (answers : AnswersExpand r (Ok s)) (input : List ℕ) (content : input ≡ bytes) {A : Type 0} (items : A → List ℕ) where
      abbrev f : OneFile
      f = answers.0

      is_read : IsOneRead common bytes f
      is_read = of_graph common files r f one back beside answers.1

      abbrev Made : Result A GraphErr → Type 0
      Made result = (g : OneFile) → ReadsOne g → input ≡ g.file.bytes → s ≡ new_sections g → AnswersNew g items result

      made : (result : Result A GraphErr) → Made result → AnswersNew f items result
      made result all = all f is_read.reads (content ∙ sym is_read.file) answers.3

      pub new_refused : (e : GraphErr) → Made (Err e) → Is (Err e)
      new_refused e all = file_refused o common bytes f is_read answers.2 items e (made (Err e) all)

      pub new_written : (new : A) → Made (Ok new) → (out : Output) → out ≡ output_with o input (items new) → CanBeSaid out.said → Is (Ok out)
      new_written new all out same said =
          is_written o common bytes f is_read answers.2 items new (made (Ok new) all) out (same ∙ ap (λ (b : List ℕ). output_with o b (items new)) content) said
