-- Files that may have been written, and files beside a finished common file: what is answered is what they say, or their first fault.
use Rattle.std.proofs.Common.{◌≡◌, ◌↔◌, ◌⊎◌, ℕ, suc, List, [], ◌∷◌, length, Option, Some, None, Result, Ok, Err, refl, sym, ap, subst, ◌∙◌, inl, inr}
use Rattle.dwz_model.specs.declared.fault.Fault.{Fault}
use Rattle.dwz_model.specs.declared.fault.Refusal.{Refusal}
use Rattle.dwz_bytes.specs.Reading.{◌>>=◌}
use Rattle.dwz_def_reading.specs.Documents.{Doc}
use Rattle.dwz_def_reading.specs.Files.{First, IsFaultBy, Limits, ReadAll, ReadsBy, files_meaning, limits_after, no_files_before, with_doc}
use Rattle.dwz_def_reading.specs.Finished.{BesideDocs, FinishedDocs, FirstBeside, FirstBy, FirstFinished, GivenCommon, ReadAllBy, ReadBeside, ReadFinished, beside_docs, beside_meaning}
use Rattle.dwz_def_reading.specs.Finished.{common_meaning, common_read, files_meaning_by, finished_docs, finished_meaning, refusal_of, rule_of_back, rule_of_common}
use Rattle.dwz_def_reading.specs.Places.{Place}
use Rattle.dwz_def_reading.specs.Rules.{ReadingRule}
use Rattle.dwz_def_reading.specs.Units.{RawUnit}
use Rattle.dwz_def_reading.proofs.AgreeLemmas.{Agrees, Made, Next, OrNext, agrees_ok, and_with, in_words, then_made}
use Rattle.dwz_def_reading.proofs.FileLemmas.{file_agrees_by, files_agree, refused_agrees}

abbrev Stored : (P : Type 0) → Type 0
Stored P = List RawUnit × Doc P

-- a refusal is of that file, whose first fault it tells
abbrev IsOf : {P : Type 0} → ReadingRule P → Limits → ℕ → List ℕ → Refusal → Type 0
IsOf rule l number bytes r = (f : Fault) × IsFaultBy rule l bytes f × (r ≡ refusal_of number f)

module _ {P : Type 0} (rule : ℕ → ReadingRule P) where
  pub all_agree : (l : Limits) (number : ℕ) (files : List (List ℕ)) → Agrees (files_meaning_by rule l number files) (ReadAllBy rule l number files) (FirstBy rule l number files)
  unfolding files_meaning_by
  all_agree l number [] = in_words (agrees_ok []) means (λ r. (λ none. none, λ none. none)) where
    means : (docs : List (Doc P)) → (docs ≡ []) ↔ ReadAllBy rule l number [] docs
    means [] = (λ same. tt, λ is. refl)
    means (doc ∷ docs) = (λ same. absurd cc, λ none. absurd none)
  all_agree l number (bytes ∷ files) =
      in_words (and_with (refused_agrees number (file_agrees_by (rule number) l bytes)) (λ x. files_meaning_by rule (limits_after l bytes x.0) (suc number) files >>= with_doc x.1)
      (λ x. then_made (all_agree (limits_after l bytes x.0) (suc number) files) (λ docs. x.1 ∷ docs)))
      means faults where
        Later : Stored P → List (Doc P) → Type 0
        Later x = ReadAllBy rule (limits_after l bytes x.0) (suc number) files

        means : (docs : List (Doc P)) → Next (λ (x : Stored P). ReadsBy (rule number) l bytes x.0 x.1) (λ x. Made (ReadAllBy rule (limits_after l bytes x.0) (suc number) files) (λ ds. x.1 ∷ ds)) docs
            ↔ ReadAllBy rule l number (bytes ∷ files) docs
        means [] = (λ h. absurd (let none = h.2.2 in cc), λ none. absurd none)
        means (doc ∷ docs) = (
          λ h.
              let same = h.2.2 in
              let head : doc ≡ h.0.1 = cc in
              let tail : docs ≡ h.2.0 = cc in
              (h.0.0, subst (ReadsBy (rule number) l bytes h.0.0) (sym head) h.1, subst (ReadAllBy rule (limits_after l bytes h.0.0) (suc number) files) (sym tail) h.2.1),
          λ h. ((h.0, doc), h.1, (docs, h.2, refl)),
        )

        faults : (r : Refusal) → OrNext (IsOf (rule number) l number bytes) (λ (x : Stored P). ReadsBy (rule number) l bytes x.0 x.1) (λ x. FirstBy rule (limits_after l bytes x.0) (suc number) files) r
            ↔ FirstBy rule l number (bytes ∷ files) r
        faults r = (
          λ h. elim h [ inl is ↦ inl is | inr p ↦ inr (p.0.0, p.0.1, p.1, p.2) ],
          λ h. elim h [ inl is ↦ inl is | inr p ↦ inr ((p.0, p.1), p.2, p.3) ],
        )

abbrev Common : List (List ℕ) → List ℕ → Stored Place → Type 0
Common files bytes x = ReadsBy (rule_of_common (length files)) no_files_before bytes x.0 x.1

common_agrees : (files : List (List ℕ)) (bytes : List ℕ) → Agrees (common_meaning files bytes) (Common files bytes) (IsOf (rule_of_common (length files)) no_files_before (length files) bytes)
common_agrees files bytes = refused_agrees (length files) (file_agrees_by (rule_of_common (length files)) no_files_before bytes)

-- behind the common file
behind_common : {Docs : Type 0} (files : List (List ℕ)) (bytes : List ℕ) (read : Stored Place → Result Docs Refusal) (Read : Stored Place → Docs → Type 0) (Is : Stored Place → Refusal → Type 0)
    → ((x : Stored Place) → Agrees (read x) (Read x) (Is x))
    → Agrees (common_meaning files bytes >>= read) (Next (Common files bytes) Read) (OrNext (IsOf (rule_of_common (length files)) no_files_before (length files) bytes) (Common files bytes) Is)
behind_common files bytes read Read Is each = and_with (common_agrees files bytes) read each

pub finished_agrees : (common : Option (List ℕ)) (files : List (List ℕ)) → Agrees (finished_meaning common files) (ReadFinished common files) (FirstFinished common files)
unfolding finished_meaning
finished_agrees None files =
    in_words (then_made (all_agree (rule_of_back None) no_files_before 0 files) (λ docs. record { common = None; docs = docs }))
    (λ said. (λ h. (ap (λ (w : FinishedDocs). w.common) h.2, subst (λ (w : FinishedDocs). ReadAllBy (rule_of_back None) no_files_before 0 files w.docs) (sym h.2) h.1), λ h. (said.docs, h.1, λ i. record { common = h.0 i; docs = said.docs })))
    (λ r. (λ h. h, λ h. h))
finished_agrees (Some bytes) files =
    in_words (behind_common files bytes _ _ _ (λ x. then_made (all_agree (rule_of_back (Some (common_read files bytes x.0))) (limits_after no_files_before bytes x.0) 0 files) (λ docs. record { common = Some x.1; docs = docs })))
    (λ said. (
      λ h. (h.0.0, h.0.1, ap (λ (w : FinishedDocs). w.common) h.2.2, h.1, subst (λ (w : FinishedDocs). ReadAllBy (rule_of_back (Some (common_read files bytes h.0.0))) (limits_after no_files_before bytes h.0.0) 0 files w.docs) (sym h.2.2) h.2.1),
      λ h. ((h.0, h.1), h.3, (said.docs, h.4, λ i. record { common = h.2 i; docs = said.docs })),
    ))
    (λ r. (λ h. elim h [ inl is ↦ inl is | inr p ↦ inr (p.0.0, p.0.1, p.1, p.2) ], λ h. elim h [ inl is ↦ inl is | inr p ↦ inr ((p.0, p.1), p.2, p.3) ]))

pub beside_agrees : (bytes : List ℕ) (files : List (List ℕ)) → Agrees (beside_meaning bytes files) (ReadBeside bytes files) (FirstBeside bytes files)
unfolding beside_meaning
beside_agrees bytes files =
    in_words (behind_common files bytes _ _ _ (λ x. then_made (files_agree (limits_after no_files_before bytes x.0) 0 files) (λ docs. record { common = x.1; docs = docs })))
    (λ said. (
      λ h. (
        h.0.0,
        subst (λ (w : BesideDocs). ReadsBy (rule_of_common (length files)) no_files_before bytes h.0.0 w.common) (sym h.2.2) h.1,
        subst (λ (w : BesideDocs). ReadAll (limits_after no_files_before bytes h.0.0) files w.docs) (sym h.2.2) h.2.1,
      ),
      λ h. ((h.0, said.common), h.1, (said.docs, h.2, refl)),
    ))
    (λ r. (λ h. elim h [ inl is ↦ inl is | inr p ↦ inr (p.0.0, p.0.1, p.1, p.2) ], λ h. elim h [ inl is ↦ inl is | inr p ↦ inr ((p.0, p.1), p.2, p.3) ]))
