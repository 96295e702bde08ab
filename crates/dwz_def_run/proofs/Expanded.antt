-- Of a file that is written without its partial units at most one thing comes, and something does.
use Rattle.std.proofs.Common.{◌≡◌, ◌⊎◌, ℕ, List, [], ◌∷◌, Option, Some, None, Result, Ok, Err, refl, sym, ap, subst, ◌∙◌, inl, inr}
use Rattle.std.specs.Option.{option_map}
use Rattle.dwz_def_reading.specs.Refusal.{Refusal}
use Rattle.dwz_def_reading.specs.Documents.{Doc}
use Rattle.dwz_def_reading.specs.Files.{Limits, ReadsBy, limits_after, no_files_before}
use Rattle.dwz_def_reading.specs.Finished.{FinishedDocs, FirstFinished, ReadAllBy, ReadFinished, finished_meaning, rule_of_back, rule_of_common}
use Rattle.dwz_def_reading.specs.Places.{Place}
use Rattle.dwz_def_reading.specs.Rules.{ReadingRule}
use Rattle.dwz_def_reading.proofs.AgreeLemmas.{same_meaning}
use Rattle.dwz_def_reading.proofs.FileLemmas.{file_agrees_by}
use Rattle.dwz_def_reading.proofs.FinishedLemmas.{finished_agrees}
use Rattle.dwz_def_expand.specs.OneFile.{CommonReads, FileRead, OneFile, ReadsOne, limits_behind, rule_for}
use Rattle.dwz_def_expand.specs.NewFile.{NewRefusal, expanded_bytes}
use Rattle.dwz_def_expand.proofs.EitherOne.{either}
use Rattle.dwz_def_expand.proofs.OneRefusal.{one_refusal}
use Rattle.dwz_words.specs.declared.options.Options.{Options}
use Rattle.dwz_run_course.specs.Outcome.{Outcome, refuses, writes}
use Rattle.dwz_def_run.specs.Compares.{common_in}
use Rattle.dwz_def_run.specs.Expands.{Expands, ExpandsOne, IsOneRead, one_in, output_with}

-- ---- a file is seen in one way

abbrev Bytes : Option FileRead → Option (List ℕ)
Bytes common = option_map (λ c. c.bytes) common

-- what is read by a rule, of given bytes
abbrev ReadAs : ReadingRule Place → Limits → FileRead → Type 0
ReadAs rule l c = ReadsBy rule l c.bytes c.raw c.doc

same_file : (rule : ReadingRule Place) (l : Limits) (c d : FileRead) → ReadAs rule l c → ReadAs rule l d → c.bytes ≡ d.bytes → c ≡ d
same_file rule l c d x y same =
    let moved : ReadsBy rule l c.bytes d.raw d.doc = subst (λ (b : List ℕ). ReadsBy rule l b d.raw d.doc) (sym same) y in
    let parts : (c.raw, c.doc) ≡ (d.raw, d.doc) = same_meaning (file_agrees_by rule l c.bytes) (c.raw, c.doc) (d.raw, d.doc) x moved in
    λ i. record { bytes = same i; raw = (parts i).0; doc = (parts i).1 }

-- so is the common file
same_common : (c d : Option FileRead) → (b : Option (List ℕ)) → Bytes c ≡ b → Bytes d ≡ b
    → ((x : FileRead) → c ≡ Some x → ReadAs (rule_of_common 1) no_files_before x) → ((x : FileRead) → d ≡ Some x → ReadAs (rule_of_common 1) no_files_before x) → c ≡ d
same_common None None b x y p q = refl
same_common None (Some d) b x y p q = absurd (let z : None ≡ Some d.bytes = x ∙ sym y in cc)
same_common (Some c) None b x y p q = absurd (let z : Some c.bytes ≡ None = x ∙ sym y in cc)
same_common (Some c) (Some d) b x y p q = ap (λ (e : FileRead). Some e) (same_file (rule_of_common 1) no_files_before c d (p c refl) (q d refl) (one_some c.bytes d.bytes (x ∙ sym y))) where
  one_some : (a b : List ℕ) → Some a ≡ Some b → a ≡ b
  one_some a b e = cc

common_read : (common : Option (List ℕ)) (bytes : List ℕ) (f : OneFile) → IsOneRead common bytes f → (x : FileRead) → f.common ≡ Some x → ReadAs (rule_of_common 1) no_files_before x
common_read common bytes f is x e = by f.common e is.reads.common where
  by : (c : Option FileRead) → c ≡ Some x → CommonReads c → ReadAs (rule_of_common 1) no_files_before x
  by None e read = absurd cc
  by (Some c) e read = subst (ReadAs (rule_of_common 1) no_files_before) (one_some c x e) read where
    one_some : (a b : FileRead) → Some a ≡ Some b → a ≡ b
    one_some a b e = cc

abbrev with_common : FileRead → Option FileRead → OneFile
with_common file common = record { file = file; common = common }

one_seen : (common : Option (List ℕ)) (bytes : List ℕ) (f g : OneFile) → IsOneRead common bytes f → IsOneRead common bytes g → f ≡ g
one_seen common bytes f g x y =
    let beside : f.common ≡ g.common = same_common f.common g.common common x.beside y.beside (common_read common bytes f x) (common_read common bytes g y) in
    let own : ReadAs (rule_for g 0) (limits_behind g.common) f.file =
    subst (λ (c : Option FileRead). ReadAs (rule_for (with_common f.file c) 0) (limits_behind c) f.file) beside x.reads.file in
    let file : f.file ≡ g.file = same_file (rule_for g 0) (limits_behind g.common) f.file g.file own y.reads.file (x.file ∙ sym y.file) in
    λ i. record { file = file i; common = beside i }

-- ---- it is what is read

abbrev said_of : OneFile → FinishedDocs
said_of f = record { common = option_map (λ c. c.doc) f.common; docs = f.file.doc ∷ [] }

abbrev ReadsSo : OneFile → Type 0
ReadsSo f = ReadFinished (Bytes f.common) (f.file.bytes ∷ []) (said_of f)

is_read : (f : OneFile) → ReadsOne f → ReadsSo f
is_read f reads = by f.common reads.common reads.file where
  by : (c : Option FileRead) → CommonReads c → ReadAs (rule_for (with_common f.file c) 0) (limits_behind c) f.file → ReadsSo (with_common f.file c)
  by None common file = (refl, (f.file.raw, file, tt))
  by (Some c) common file = (c.raw, c.doc, refl, common, (f.file.raw, file, tt))

reads_so : (common : Option (List ℕ)) (bytes : List ℕ) (f : OneFile) → IsOneRead common bytes f → ReadFinished common (bytes ∷ []) (said_of f)
reads_so common bytes f is =
    subst (λ (c : Option (List ℕ)). ReadFinished c (bytes ∷ []) (said_of f)) is.beside (subst (λ (b : List ℕ). ReadFinished (Bytes f.common) (b ∷ []) (said_of f)) is.file (is_read f is.reads))

unread : (common : Option (List ℕ)) (bytes : List ℕ) (f : OneFile) (q : Refusal) → IsOneRead common bytes f → FirstFinished common (bytes ∷ []) q → ⊥
unread common bytes f q is first =
    let a = ((finished_agrees common (bytes ∷ [])).ok (said_of f)).1 (reads_so common bytes f is) in
    let b = ((finished_agrees common (bytes ∷ [])).err q).1 first in
    cc

first_one : (common : Option (List ℕ)) (bytes : List ℕ) (p q : Refusal) → FirstFinished common (bytes ∷ []) p → FirstFinished common (bytes ∷ []) q → p ≡ q
first_one common bytes p q x y =
    let a = ((finished_agrees common (bytes ∷ [])).err p).1 x in
    let b = ((finished_agrees common (bytes ∷ [])).err q).1 y in
    cc

-- what is read is a file so seen
file_of : (common : Option (List ℕ)) (bytes : List ℕ) (said : FinishedDocs) → ReadFinished common (bytes ∷ []) said → (f : OneFile) × IsOneRead common bytes f
file_of None bytes said read = by said.docs read.1 where
  by : (docs : List (Doc Place)) → ReadAllBy (rule_of_back None) no_files_before 0 (bytes ∷ []) docs → (f : OneFile) × IsOneRead None bytes f
  by [] all = absurd all
  by (doc ∷ []) all = (
    record { file = record { bytes = bytes; raw = all.0; doc = doc }; common = None },
    record { reads = record { common = tt; file = all.1 }; file = refl; beside = refl },
  )
  by (doc ∷ more ∷ docs) all = absurd all.2
file_of (Some shared) bytes said read = by said.docs read.4 where
  by : (docs : List (Doc Place)) → ReadAllBy (rule_of_back (Some (record { number = 1; bytes = shared; units = read.0 }))) (limits_after no_files_before shared read.0) 0 (bytes ∷ []) docs
      → (f : OneFile) × IsOneRead (Some shared) bytes f
  by [] all = absurd all
  by (doc ∷ []) all = (
    record { file = record { bytes = bytes; raw = all.0; doc = doc }; common = Some (record { bytes = shared; raw = read.0; doc = read.1 }) },
    record { reads = record { common = read.3; file = all.1 }; file = refl; beside = refl },
  )
  by (doc ∷ more ∷ docs) all = absurd all.2

-- ---- what comes of it

module _ (o : Options) (common : Option (List ℕ)) (bytes : List ℕ) where
  same_refusal : (f g : OneFile) (q : Refusal) → IsOneRead common bytes f → IsOneRead common bytes g → NewRefusal f q → NewRefusal g q
  same_refusal f g q x y is = subst (λ (h : OneFile). NewRefusal h q) (one_seen common bytes f g x y) is

  one_written : (a b : Outcome) → ExpandsOne o common bytes a → ExpandsOne o common bytes b → a ≡ b
  one_written (writes a) (writes b) x y =
      ap writes (x.3 ∙ ap (λ (f : OneFile). output_with o bytes (expanded_bytes f)) (one_seen common bytes x.0 y.0 x.1 y.1) ∙ sym y.3)
  one_written (writes a) (refuses q) x (inl first) = absurd (unread common bytes x.0 q x.1 first)
  one_written (writes a) (refuses q) x (inr y) = absurd (x.2 q (same_refusal y.0 x.0 q y.1 x.1 y.2))
  one_written (refuses p) (writes b) (inl first) y = absurd (unread common bytes y.0 p y.1 first)
  one_written (refuses p) (writes b) (inr x) y = absurd (y.2 p (same_refusal x.0 y.0 p x.1 y.1 x.2))
  one_written (refuses p) (refuses q) (inl x) (inl y) = ap refuses (first_one common bytes p q x y)
  one_written (refuses p) (refuses q) (inl x) (inr y) = absurd (unread common bytes y.0 p y.1 x)
  one_written (refuses p) (refuses q) (inr x) (inl y) = absurd (unread common bytes x.0 q x.1 y)
  one_written (refuses p) (refuses q) (inr x) (inr y) = ap refuses (one_refusal y.0 p q (same_refusal x.0 y.0 p x.1 y.1 x.2) y.2)

  some_written : (outcome : Outcome) × ExpandsOne o common bytes outcome
  some_written = by (finished_meaning common (bytes ∷ [])) refl where
    so : (f : OneFile) → IsOneRead common bytes f → ((q : Refusal) × NewRefusal f q) ⊎ ((q : Refusal) → ¬ NewRefusal f q) → (outcome : Outcome) × ExpandsOne o common bytes outcome
    so f is (inl first) = (refuses first.0, inr (f, is, first.1))
    so f is (inr none) = (writes (output_with o bytes (expanded_bytes f)), (f, is, none, refl))

    by : (m : Result FinishedDocs Refusal) → finished_meaning common (bytes ∷ []) ≡ m → (outcome : Outcome) × ExpandsOne o common bytes outcome
    by (Err q) e = (refuses q, inl (((finished_agrees common (bytes ∷ [])).err q).0 e))
    by (Ok said) e = let f = file_of common bytes said (((finished_agrees common (bytes ∷ [])).ok said).0 e) in so f.0 f.1 (either f.0)

pub one_expanded : (o : Options) (contents : List (List ℕ)) (a b : Outcome) → Expands o contents a → Expands o contents b → a ≡ b
one_expanded o contents = one_written o (common_in o.sup contents) (one_in o.sup contents)

pub some_expanded : (o : Options) (contents : List (List ℕ)) → (outcome : Outcome) × Expands o contents outcome
some_expanded o contents = some_written o (common_in o.sup contents) (one_in o.sup contents)
