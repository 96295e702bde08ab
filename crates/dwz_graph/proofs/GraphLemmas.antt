-- Files are read one after the other.
use Rattle.std.proofs.Common.{slice_get, zero}
use Rattle.std.proofs.Common.{◌≡◌, ℕ, suc, ◌+◌, ◌-◌, List, [], ◌∷◌, ◌++◌, length, map, Some, Result, Ok, Err, refl, sym, ap, subst, ◌∙◌, arith}
use Rattle.dwz_model.specs.declared.fault.Fault.{Fault}
use Rattle.dwz_model.specs.declared.fault.ReadErr.{ReadErr}
use Rattle.dwz_model.specs.declared.fault.Refusal.{Refusal}
use Rattle.dwz_def_reading.specs.Reading.{◌>>=◌}
use Rattle.dwz_def_reading.specs.Documents.{Doc}
use Rattle.dwz_def_reading.specs.ElfReading.{ElfView, elf_of}
use Rattle.dwz_def_reading.specs.Faults.{Fails}
use Rattle.dwz_def_reading.specs.Files.{Limits, file_meaning, file_meaning_by, files_meaning, given_rule, limits_after, machine_of, no_files_before, refused_in, with_doc}
use Rattle.dwz_def_reading.specs.Finished.{files_meaning_by}
use Rattle.dwz_def_reading.specs.Rules.{ReadingRule}
use Rattle.dwz_def_reading.specs.Units.{RawUnit, entries_in}
use Rattle.dwz_graph.specs.declared.file.File.{File}
use Rattle.dwz_graph.specs.ByRule.{AreReadAs, AreReadBy, IsReadBy}
use Rattle.dwz_graph.specs.Files.{AreRead, FilesFail, HasFile, IsRead, docs_of, or_none, refused_file}
use Rattle.dwz_graph.proofs.FilesBy.{AreSaid, all_said, given_alike, one_fails}
use Rattle.dwz_graph.proofs.OneAfter.{many_as}
use Rattle.dwz_unit.specs.declared.mode.FileKind.{FileKind}
use Rattle.dwz_unit.specs.Rows.{units_of}

pub step : (l : Limits) (n : ℕ) (b : List ℕ) (raw : List RawUnit) (doc : Doc ℕ) (rest : List (List ℕ)) → file_meaning l b ≡ Ok (raw, doc)
    → files_meaning l n (b ∷ rest) ≡ (files_meaning (limits_after l b raw) (suc n) rest >>= with_doc doc)
unfolding files_meaning
step l n b raw doc rest e = ap (λ (r : Result (List RawUnit × Doc ℕ) Fault). refused_in n r >>= λ x. files_meaning (limits_after l b x.0) (suc n) rest >>= with_doc x.1) e

-- ---- one after the other

-- the units of files that were read
abbrev pub raws_of : List File → List (List RawUnit)
raws_of fs = map (λ (f : File). units_of f.units) fs

module _ (Is : Limits → ℕ → List ℕ → File → Type 0) where
  -- each says what a document does
  pub are_said : (rule : ReadingRule ℕ) → ((l : Limits) (n : ℕ) (b : List ℕ) (f : File) → Is l n b f → (doc : Doc ℕ) × (file_meaning_by rule l b ≡ Ok (units_of f.units, doc)))
      → (l : Limits) (n : ℕ) (xs : List (List ℕ)) (fs : List File) (end : Limits) → AreReadAs Is l n xs fs end → AreSaid (λ (k : ℕ). rule) l n xs (raws_of fs) end
  are_said rule says l n [] [] end h = h
  are_said rule says l n [] (f ∷ fs) end h = absurd h
  are_said rule says l n (b ∷ xs) [] end h = absurd h
  are_said rule says l n (b ∷ xs) (f ∷ fs) end h = (says l n b f h.0, are_said rule says (limits_after l b (units_of f.units)) (suc n) xs fs end h.1)

-- ---- files that are given

given_said : (l : Limits) (n : ℕ) (xs : List (List ℕ)) (fs : List File) (end : Limits) → AreRead l n xs fs end → AreSaid (λ (k : ℕ). given_rule) l n xs (raws_of fs) end
given_said = are_said IsRead given_rule (λ l n b f r. (r.doc, r.means))

pub given_read : (l : Limits) (xs : List (List ℕ)) (fs : List File) (end : Limits) → AreRead l 0 xs fs end → (docs : List (Doc ℕ)) × (files_meaning l 0 xs ≡ Ok docs)
given_read l xs fs end h = let r = all_said (λ (k : ℕ). given_rule) l 0 xs (raws_of fs) end (given_said l 0 xs fs end h) in (r.0, given_alike l 0 xs ∙ r.1)

or_same : (r : Result (List (Doc ℕ)) Refusal) (docs : List (Doc ℕ)) → r ≡ Ok docs → r ≡ Ok (or_none r)
or_same (Ok others) docs e = refl
or_same (Err f) docs e = absurd cc

pub files_read : (xs : List (List ℕ)) (fs : List File) (end : Limits) → AreRead no_files_before 0 xs fs end → files_meaning no_files_before 0 xs ≡ Ok (docs_of xs)
unfolding docs_of
files_read xs fs end h = let r = given_read no_files_before xs fs end h in or_same (files_meaning no_files_before 0 xs) r.0 r.1

pub files_fail : (e : ReadErr) (l : Limits) (all xs : List (List ℕ)) (fs : List File) (end : Limits) (n : ℕ) (b : List ℕ) (rest : List (List ℕ)) → all ≡ xs ++ b ∷ rest → length xs ≡ n
    → AreRead l 0 xs fs end → Fails e (file_meaning end b) → FilesFail (refused_file n e) (files_meaning l 0 all)
files_fail e l all xs fs end n b rest is many h bad =
    subst (λ (r : Result (List (Doc ℕ)) Refusal). FilesFail (refused_file n e) r) (sym (given_alike l 0 all))
    (one_fails (λ (k : ℕ). given_rule) e l all xs (raws_of fs) end n b rest is many (given_said l 0 xs fs end h) bad)

-- ---- files by a rule

module _ (rule : ReadingRule ℕ) (kind : FileKind) where
  by_said : (l : Limits) (n : ℕ) (xs : List (List ℕ)) (fs : List File) (end : Limits) → AreReadBy rule kind l n xs fs end → AreSaid (λ (k : ℕ). rule) l n xs (raws_of fs) end
  by_said = are_said (IsReadBy rule kind) rule (λ l n b f r. (r.doc, r.means))

  pub by_read : (l : Limits) (xs : List (List ℕ)) (fs : List File) (end : Limits) → AreReadBy rule kind l 0 xs fs end → (docs : List (Doc ℕ)) × (files_meaning_by (λ (k : ℕ). rule) l 0 xs ≡ Ok docs)
  by_read l xs fs end h = all_said (λ (k : ℕ). rule) l 0 xs (raws_of fs) end (by_said l 0 xs fs end h)

  pub by_fail : (e : ReadErr) (l : Limits) (all xs : List (List ℕ)) (fs : List File) (end : Limits) (n : ℕ) (b : List ℕ) (rest : List (List ℕ)) → all ≡ xs ++ b ∷ rest → length xs ≡ n
      → AreReadBy rule kind l 0 xs fs end → Fails e (file_meaning_by rule end b) → FilesFail (refused_file n e) (files_meaning_by (λ (k : ℕ). rule) l 0 all)
  by_fail e l all xs fs end n b rest is many h bad = one_fails (λ (k : ℕ). rule) e l all xs (raws_of fs) end n b rest is many (by_said l 0 xs fs end h) bad

pub behind_is : (l : Limits) (bytes : List ℕ) (raw : List RawUnit) (elf : ElfView) (b e m : ℕ) → elf ≡ elf_of bytes → b ≡ l.bytes - length bytes → e ≡ l.entries - entries_in raw → m ≡ elf.file.machine
    → record { bytes = b; entries = e; machine = Some m } ≡ limits_after l bytes raw
unfolding elf_of
behind_is l bytes raw elf b e m is x y z = let w : m ≡ machine_of bytes = z ∙ ap (λ (v : ElfView). v.file.machine) is in λ i. record { bytes = x i; entries = y i; machine = Some (w i) }

-- ---- a file by its number

pub as_many : (l : Limits) (n : ℕ) (xs : List (List ℕ)) (fs : List File) (end : Limits) → AreRead l n xs fs end → length fs ≡ length xs
as_many = many_as IsRead

pub record IsFileThere (l : Limits) (number : ℕ) (xs : List (List ℕ)) (i : ℕ) (b : List ℕ) (f : File) : Type 0 where
  pub limits : Limits
  pub read : IsRead limits number b f
  pub there : HasFile l xs i limits b (units_of f.units) read.doc

first_there : (l : Limits) (number : ℕ) (x b : List ℕ) (xs : List (List ℕ)) (f : File) → x ≡ b → IsRead l number b f → IsFileThere l number (x ∷ xs) zero b f
first_there l number x b xs f same r = record { limits = l; read = r; there = (refl, same, ap (file_meaning l) same ∙ r.means) }

pub file_there : (l : Limits) (n : ℕ) (xs : List (List ℕ)) (fs : List File) (end : Limits) (i number : ℕ) (b : List ℕ) (f : File) → number ≡ n + i → AreRead l n xs fs end → slice_get xs i ≡ Some b
    → slice_get fs i ≡ Some f → IsFileThere l number xs i b f
file_there l n [] fs end i number b f at h e g = absurd cc
file_there l n (x ∷ xs) [] end i number b f at h e g = absurd h
file_there l n (x ∷ xs) (y ∷ fs) end zero number b f at h e g =
    let same : x ≡ b = cc in
    let one : y ≡ f = cc in
    let here : n ≡ number = omega arith in
    first_there l number x b xs f same
    (subst (λ (k : ℕ). IsRead l k b f) here (subst (λ (w : File). IsRead l n b w) one (subst (λ (w : List ℕ). IsRead l n w y) same h.0)))
file_there l n (x ∷ xs) (y ∷ fs) end (suc i) number b f at h e g =
    let r = file_there (limits_after l x (units_of y.units)) (suc n) xs fs end i number b f (omega arith) h.1 e g in
    record { limits = r.limits; read = r.read; there = (units_of y.units, h.0.doc, h.0.means, r.there) }

units_in : List RawUnit → Result (List RawUnit × Doc ℕ) Fault → List RawUnit
units_in other (Ok x) = x.0
units_in other (Err f) = other

one_meaning : (r : Result (List RawUnit × Doc ℕ) Fault) (a b : List RawUnit) (s t : Doc ℕ) → r ≡ Ok (a, s) → r ≡ Ok (b, t) → a ≡ b
unfolding units_in
one_meaning r a b s t e f = ap (units_in a) (sym e ∙ f)

-- a file has just one meaning
pub same_raw : (l : Limits) (xs : List (List ℕ)) (i : ℕ) (m n : Limits) (b d : List ℕ) (raw other : List RawUnit) (doc said : Doc ℕ) → HasFile l xs i m b raw doc → HasFile l xs i n d other said
    → (b ≡ d) × (raw ≡ other)
same_raw l [] i m n b d raw other doc said h k = absurd h
same_raw l (x ∷ xs) zero m n b d raw other doc said h k = (sym h.1 ∙ k.1, one_meaning (file_meaning l x) raw other doc said h.2 k.2)
same_raw l (x ∷ xs) (suc i) m n b d raw other doc said h k =
    let units = one_meaning (file_meaning l x) h.0 k.0 h.1 k.1 h.2 k.2 in
    same_raw (limits_after l x h.0) xs i m n b d raw other doc said h.3 (subst (λ (us : List RawUnit). HasFile (limits_after l x us) xs i n d other said) (sym units) k.3)

pub content_of : (l : Limits) (xs : List (List ℕ)) (i : ℕ) (m : Limits) (b : List ℕ) (raw : List RawUnit) (doc : Doc ℕ) → HasFile l xs i m b raw doc → slice_get xs i ≡ Some b
content_of l [] i m b raw doc h = absurd h
content_of l (x ∷ xs) zero m b raw doc h = ap (λ (w : List ℕ). Some w) h.1
content_of l (x ∷ xs) (suc i) m b raw doc h = content_of (limits_after l x h.0) xs i m b raw doc h.3
