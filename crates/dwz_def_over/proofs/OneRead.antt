-- What is read of files over a finished common file, and taken of that, is fixed by the bytes.
use Rattle.std.proofs.Common.{◌≡◌, ◌↔◌, inl, inr, ℕ, Bool, true, false, List, [], ◌∷◌, length, Result, Ok, Err, refl, sym, ap, subst, ◌∙◌}
use Rattle.dwz_def_reading.specs.Fault.{Fault}
use Rattle.dwz_def_reading.specs.Refusal.{Refusal}
use Rattle.dwz_def_reading.specs.Documents.{Doc}
use Rattle.dwz_def_reading.specs.Files.{First, Limits, ReadAll, ReadsBy, file_meaning_by, files_meaning, limits_after, no_files_before}
use Rattle.dwz_def_reading.specs.Finished.{BesideDocs, FirstBeside, rule_of_common}
use Rattle.dwz_def_reading.specs.Places.{Place}
use Rattle.dwz_def_reading.specs.Units.{RawUnit}
use Rattle.dwz_def_reading.proofs.FileLemmas.{file_agrees_by, files_agree}
use Rattle.dwz_def_readback.specs.Prunable.{IsPrunable}
use Rattle.dwz_def_output.specs.Written.{ArePrunable}
use Rattle.dwz_def_taken.specs.Takes.{IsFixedOf}
use Rattle.dwz_def_taken.proofs.OneFixed.{one_fixed}
use Rattle.dwz_def_over.specs.Over.{AreOverFiles, OverFiles, limits_over}

-- ---- the common file

one_common : (number : ℕ) (bytes : List ℕ) (a b : List RawUnit) (c d : Doc Place) → ReadsBy (rule_of_common number) no_files_before bytes a c → ReadsBy (rule_of_common number) no_files_before bytes b d
    → (a ≡ b) × (c ≡ d)
one_common number bytes a b c d x y =
    let p = ((file_agrees_by (rule_of_common number) no_files_before bytes).ok (a, c)).1 x in
    let q = ((file_agrees_by (rule_of_common number) no_files_before bytes).ok (b, d)).1 y in
    parts (a, c) (b, d) (file_meaning_by (rule_of_common number) no_files_before bytes) p q
  where
    parts : (m n : List RawUnit × Doc Place) (r : Result (List RawUnit × Doc Place) Fault) → r ≡ Ok m → r ≡ Ok n → (m.0 ≡ n.0) × (m.1 ≡ n.1)
    parts m n r p q = (let same : m ≡ n = cc in (ap (λ (z : List RawUnit × Doc Place). z.0) same, ap (λ (z : List RawUnit × Doc Place). z.1) same))

-- ---- the files

one_reading : (l : Limits) (contents : List (List ℕ)) (d e : List (Doc ℕ)) → ReadAll l contents d → ReadAll l contents e → d ≡ e
one_reading l contents d e a b =
    let p = ((files_agree l 0 contents).ok d).1 a in
    let q = ((files_agree l 0 contents).ok e).1 b in
    cc

same_flag : (P : Type 0) (a b : Bool) → (a ≡ true) ↔ P → (b ≡ true) ↔ P → a ≡ b
same_flag P true b x y = sym (y.1 (x.0 refl))
same_flag P false true x y = x.1 (y.0 refl)
same_flag P false false x y = refl

flags_one : (contents : List (List ℕ)) (docs : List (Doc ℕ)) (a b : List Bool) → ArePrunable contents docs a → ArePrunable contents docs b → a ≡ b
flags_one [] [] [] [] x y = refl
flags_one [] [] [] (q ∷ b) x y = absurd y
flags_one [] [] (p ∷ a) b x y = absurd x
flags_one [] (d ∷ docs) a b x y = absurd x
flags_one (c ∷ contents) [] a b x y = absurd x
flags_one (c ∷ contents) (d ∷ docs) [] b x y = absurd x
flags_one (c ∷ contents) (d ∷ docs) (p ∷ a) [] x y = absurd y
flags_one (c ∷ contents) (d ∷ docs) (p ∷ a) (q ∷ b) x y =
    ap (λ (t : Bool). t ∷ a) (same_flag (IsPrunable c d.units) p q x.0 y.0) ∙ ap (λ (ts : List Bool). q ∷ ts) (flags_one contents docs a b x.1 y.1)

-- ---- all of it

-- of the same bytes
same_bytes : (a b : OverFiles) → a.common ≡ b.common → a.contents ≡ b.contents → AreOverFiles a → AreOverFiles b → (a.raw ≡ b.raw) × (a.said.common ≡ b.said.common) × (a.said.docs ≡ b.said.docs)
same_bytes a b c k x y =
    let common : ReadsBy (rule_of_common (length b.contents)) no_files_before b.common a.raw a.said.common =
    subst (λ (bytes : List ℕ). ReadsBy (rule_of_common (length b.contents)) no_files_before bytes a.raw a.said.common) c
    (subst (λ (files : List (List ℕ)). ReadsBy (rule_of_common (length files)) no_files_before a.common a.raw a.said.common) k x.common) in
    let first = one_common (length b.contents) b.common a.raw b.raw a.said.common b.said.common common y.common in
    let limits : limits_over a ≡ limits_over b = (λ i. limits_after no_files_before (c i) (first.0 i)) in
    let files : ReadAll (limits_over b) b.contents a.said.docs =
    subst (λ (l : Limits). ReadAll l b.contents a.said.docs) limits (subst (λ (fs : List (List ℕ)). ReadAll (limits_over a) fs a.said.docs) k x.files) in
    (first.0, first.1, one_reading (limits_over b) b.contents a.said.docs b.said.docs files y.files)

pub one_read : (a b : OverFiles) → a.common ≡ b.common → a.contents ≡ b.contents → AreOverFiles a → AreOverFiles b → a ≡ b
one_read a b c k x y =
    let same = same_bytes a b c k x y in
    let said : a.said ≡ b.said = (λ i. record { common = same.1 i; docs = same.2 i }) in
    let prunable : ArePrunable b.contents b.said.docs a.prunes =
    subst (λ (ds : List (Doc ℕ)). ArePrunable b.contents ds a.prunes) same.2 (subst (λ (fs : List (List ℕ)). ArePrunable fs a.said.docs a.prunes) k x.prunable) in
    let flags = flags_one b.contents b.said.docs a.prunes b.prunes prunable y.prunable in
    let fixed = one_fixed b.said a.fixed b.fixed (subst (λ (s : BesideDocs). IsFixedOf s a.fixed) said x.taken) y.taken in
    λ i. record { common = c i; contents = k i; raw = same.0 i; said = said i; prunes = flags i; fixed = fixed i }

-- what is read isn't refused
pub read_or_first : (o : OverFiles) → AreOverFiles o → (q : Refusal) → FirstBeside o.common o.contents q → ⊥
read_or_first o x q (inl f) = not_both (file_meaning_by (rule_of_common (length o.contents)) no_files_before o.common)
    (((file_agrees_by (rule_of_common (length o.contents)) no_files_before o.common).ok (o.raw, o.said.common)).1 x.common)
    (((file_agrees_by (rule_of_common (length o.contents)) no_files_before o.common).err f.0).1 f.1) where
      not_both : (r : Result (List RawUnit × Doc Place) Fault) → r ≡ Ok (o.raw, o.said.common) → r ≡ Err f.0 → ⊥
      not_both r p q = absurd cc
read_or_first o x q (inr h) =
    let same = (one_common (length o.contents) o.common h.0 o.raw h.1 o.said.common h.2 x.common).0 in
    let first : First (limits_over o) 0 o.contents q = subst (λ (raw : List RawUnit). First (limits_after no_files_before o.common raw) 0 o.contents q) same h.3 in
    not_both (files_meaning (limits_over o) 0 o.contents) (((files_agree (limits_over o) 0 o.contents).ok o.said.docs).1 x.files) (((files_agree (limits_over o) 0 o.contents).err q).1 first) where
      not_both : (r : Result (List (Doc ℕ)) Refusal) → r ≡ Ok o.said.docs → r ≡ Err q → ⊥
      not_both r p e = absurd cc
