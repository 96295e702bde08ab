-- Files are read one after the other, each by the rule of its number.
use Rattle.std.proofs.Common.{◌≡◌, ℕ, suc, ◌+◌, List, [], ◌∷◌, ◌++◌, length, Result, Ok, Err, refl, sym, ap, subst, ◌∙◌, arith}
use Rattle.std.proofs.lemmas.List.{append-nil}
use Rattle.dwz_model.specs.declared.fault.Fault.{Fault}
use Rattle.dwz_model.specs.declared.fault.GraphErr.{GraphErr}
use Rattle.dwz_model.specs.declared.fault.GraphErr.TheVariants.{NoMemory as NoMemoryFor, Refused as RefusedOf}
use Rattle.dwz_model.specs.declared.fault.ReadErr.{ReadErr}
use Rattle.dwz_model.specs.declared.fault.ReadErr.TheVariants.{NoMemory, Refused}
use Rattle.dwz_model.specs.declared.fault.Refusal.{Refusal}
use Rattle.dwz_def_reading.specs.Reading.{◌>>=◌}
use Rattle.dwz_def_reading.specs.Documents.{Doc}
use Rattle.dwz_def_reading.specs.Faults.{Fails}
use Rattle.dwz_def_reading.specs.Files.{Limits, file_meaning, file_meaning_by, files_meaning, given_rule, limits_after, refused_in, with_doc}
use Rattle.dwz_def_reading.specs.Finished.{files_meaning_by}
use Rattle.dwz_def_reading.specs.Meanings.{all_places}
use Rattle.dwz_def_reading.specs.Rules.{ReadingRule}
use Rattle.dwz_def_reading.specs.Units.{RawUnit}
use Rattle.dwz_graph.specs.ByRule.{doc_placed, numbered_rule}
use Rattle.dwz_graph.specs.Files.{FilesFail, refused_file}
use Rattle.dwz_graph.proofs.PlacedFiles.{meaning_placed, placed}

module _ {P : Type 0} (rule : ℕ → ReadingRule P) where
  -- each says what a document does, and has these units
  abbrev pub AreSaid : Limits → ℕ → List (List ℕ) → List (List RawUnit) → Limits → Type 0
  AreSaid l n [] [] end = l ≡ end
  AreSaid l n (b ∷ xs) (raw ∷ raws) end = ((doc : Doc P) × (file_meaning_by (rule n) l b ≡ Ok (raw, doc))) × AreSaid (limits_after l b raw) (suc n) xs raws end
  AreSaid l n _ _ end = ⊥

  abbrev after_docs : List (Doc P) → Result (List (Doc P)) Refusal → Result (List (Doc P)) Refusal
  after_docs docs (Ok others) = Ok (docs ++ others)
  after_docs docs (Err r) = Err r

  -- files behind some that are read
  record Goes (l : Limits) (n : ℕ) (xs : List (List ℕ)) (end : Limits) : Type 0 where
    docs : List (Doc P)
    on : (ys : List (List ℕ)) → files_meaning_by rule l n (xs ++ ys) ≡ after_docs docs (files_meaning_by rule end (n + length xs) ys)

  none_before : (r : Result (List (Doc P)) Refusal) → r ≡ after_docs [] r
  none_before (Ok docs) = refl
  none_before (Err e) = refl

  one_before : (doc : Doc P) (docs : List (Doc P)) (r : Result (List (Doc P)) Refusal) → (after_docs docs r >>= with_doc doc) ≡ after_docs (doc ∷ docs) r
  one_before doc docs (Ok others) = refl
  one_before doc docs (Err e) = refl

  step : (l : Limits) (n : ℕ) (b : List ℕ) (raw : List RawUnit) (doc : Doc P) (rest : List (List ℕ)) → file_meaning_by (rule n) l b ≡ Ok (raw, doc)
      → files_meaning_by rule l n (b ∷ rest) ≡ (files_meaning_by rule (limits_after l b raw) (suc n) rest >>= with_doc doc)
  unfolding files_meaning_by
  step l n b raw doc rest e = ap (λ (r : Result (List RawUnit × Doc P) Fault). refused_in n r >>= λ x. files_meaning_by rule (limits_after l b x.0) (suc n) rest >>= with_doc x.1) e

  goes : (l : Limits) (n : ℕ) (xs : List (List ℕ)) (raws : List (List RawUnit)) (end : Limits) → AreSaid l n xs raws end → Goes l n xs end
  goes l n [] [] end h = record {
    docs = [];
    on = λ ys. (let e : n ≡ n + 0 = omega arith in none_before (files_meaning_by rule l n ys) ∙ (λ i. after_docs [] (files_meaning_by rule (h i) (e i) ys)));
  }
  goes l n [] (raw ∷ raws) end h = absurd h
  goes l n (b ∷ xs) [] end h = absurd h
  goes l n (b ∷ xs) (raw ∷ raws) end h =
      let rest = goes (limits_after l b raw) (suc n) xs raws end h.1 in
      let doc = h.0.0 in
      record {
        docs = doc ∷ rest.docs;
        on = λ ys. (
            let e : suc n + length xs ≡ n + suc (length xs) = omega arith in
            step l n b raw doc (xs ++ ys) h.0.1
            ∙ ap (λ (x : Result (List (Doc P)) Refusal). x >>= with_doc doc) (rest.on ys)
            ∙ one_before doc rest.docs (files_meaning_by rule end (suc n + length xs) ys)
            ∙ ap (λ (k : ℕ). after_docs (doc ∷ rest.docs) (files_meaning_by rule end k ys)) e);
      }

  pub all_said : (l : Limits) (n : ℕ) (xs : List (List ℕ)) (raws : List (List RawUnit)) (end : Limits) → AreSaid l n xs raws end
      → (docs : List (Doc P)) × (files_meaning_by rule l n xs ≡ Ok docs)
  unfolding files_meaning_by
  all_said l n xs raws end h =
      let g = goes l n xs raws end h in
      (g.docs, ap (files_meaning_by rule l n) (sym (append-nil xs)) ∙ g.on [] ∙ ap (λ (w : List (Doc P)). Ok w) (append-nil g.docs))

  bad_step : (l : Limits) (n : ℕ) (b : List ℕ) (f : Fault) (rest : List (List ℕ)) → file_meaning_by (rule n) l b ≡ Err f
      → files_meaning_by rule l n (b ∷ rest) ≡ Err (record { file = n; section = f.section; at = f.at; reason = f.reason })
  unfolding files_meaning_by
  bad_step l n b f rest e = ap (λ (r : Result (List RawUnit × Doc P) Fault). refused_in n r >>= λ x. files_meaning_by rule (limits_after l b x.0) (suc n) rest >>= with_doc x.1) e

  pub one_fails : (e : ReadErr) (l : Limits) (all xs : List (List ℕ)) (raws : List (List RawUnit)) (end : Limits) (n : ℕ) (b : List ℕ) (rest : List (List ℕ)) → all ≡ xs ++ b ∷ rest → length xs ≡ n
      → AreSaid l 0 xs raws end → Fails e (file_meaning_by (rule n) end b) → FilesFail (refused_file n e) (files_meaning_by rule l 0 all)
  one_fails NoMemory l all xs raws end n b rest is many h bad = tt
  one_fails (Refused f) l all xs raws end n b rest is many h bad =
      let g = goes l 0 xs raws end h in
      let at : 0 + length xs ≡ n = omega arith in
      ap (files_meaning_by rule l 0) is ∙ g.on (b ∷ rest) ∙ ap (λ (k : ℕ). after_docs g.docs (files_meaning_by rule end k (b ∷ rest))) at ∙ ap (after_docs g.docs) (bad_step end n b f rest bad)

-- a fault of the file with a number
pub refused_fails : {X : Type 0} (e : ReadErr) (n : ℕ) (r : Result X Fault) → Fails e r → FilesFail (refused_file n e) (refused_in n r)
refused_fails NoMemory n r is = tt
refused_fails (Refused f) n r is = ap (refused_in n) is

-- files that are given are read by the same rule each
pub given_alike : (l : Limits) (n : ℕ) (xs : List (List ℕ)) → files_meaning l n xs ≡ files_meaning_by (λ n. given_rule) l n xs
unfolding files_meaning files_meaning_by
given_alike l n [] = refl
given_alike l n (b ∷ xs) = by (λ m. given_alike m (suc n) xs) (file_meaning l b) where
  by : ((m : Limits) → files_meaning m (suc n) xs ≡ files_meaning_by (λ n. given_rule) m (suc n) xs) → (r : Result (List RawUnit × Doc ℕ) Fault)
      → (refused_in n r >>= λ x. files_meaning (limits_after l b x.0) (suc n) xs >>= with_doc x.1)
      ≡ (refused_in n r >>= λ x. files_meaning_by (λ n. given_rule) (limits_after l b x.0) (suc n) xs >>= with_doc x.1)
  by rest (Ok x) = ap (λ (r : Result (List (Doc ℕ)) Refusal). r >>= with_doc x.1) (rest (limits_after l b x.0))
  by rest (Err f) = refl

-- ---- with other documents

-- both are answered, or have the same refusal
abbrev pub Alike : {X Y : Type 0} → Result X Refusal → Result Y Refusal → Type 0
Alike (Ok x) (Ok y) = Unit {0}
Alike (Err r) (Err s) = r ≡ s
Alike _ _ = ⊥

pub alike_fails : {X Y : Type 0} (e : GraphErr) (r : Result X Refusal) (s : Result Y Refusal) → Alike r s → FilesFail e r → FilesFail e s
alike_fails NoMemoryFor r s h is = tt
alike_fails (RefusedOf f) (Ok x) s h is = absurd cc
alike_fails (RefusedOf f) (Err g) (Ok y) h is = absurd h
alike_fails (RefusedOf f) (Err g) (Err k) h is = let same : g ≡ f = cc in ap (λ (q : Refusal). Err q) (sym h ∙ same)

pub alike_ok : {X Y : Type 0} (r : Result X Refusal) (s : Result Y Refusal) (x : X) → Alike r s → r ≡ Ok x → (y : Y) × (s ≡ Ok y)
alike_ok (Ok z) (Ok y) x h is = (y, refl)
alike_ok (Ok z) (Err k) x h is = absurd h
alike_ok (Err g) s x h is = absurd cc

with_more : {X Y : Type 0} (doc : Doc X) (other : Doc Y) (r : Result (List (Doc X)) Refusal) (s : Result (List (Doc Y)) Refusal) → Alike r s → Alike (r >>= with_doc doc) (s >>= with_doc other)
with_more doc other (Ok x) (Ok y) h = tt
with_more doc other (Ok x) (Err k) h = absurd h
with_more doc other (Err g) (Ok y) h = absurd h
with_more doc other (Err g) (Err k) h = h

-- where numbers stand for places, the files are read or refused as they are with the places
module _ {P : Type 0} (numbers : ReadingRule ℕ) (rule : ℕ → ReadingRule P) (same : (n : ℕ) → numbered_rule (rule n) ≡ numbers)
    (own : (n : ℕ) (bytes : List ℕ) (units : List RawUnit) → ((rule n).around bytes units).all ≡ all_places units) where
  one_placed : (n : ℕ) (l : Limits) (b : List ℕ) → file_meaning_by (rule n) l b ≡ placed (rule n) b (file_meaning_by numbers l b)
  one_placed n l b = meaning_placed (rule n) (own n) l b ∙ ap (λ (r : ReadingRule ℕ). placed (rule n) b (file_meaning_by r l b)) (same n)

  pub files_placed : (l : Limits) (n : ℕ) (xs : List (List ℕ)) → Alike (files_meaning_by (λ n. numbers) l n xs) (files_meaning_by rule l n xs)
  unfolding files_meaning_by
  files_placed l n [] = tt
  files_placed l n (b ∷ xs) =
      subst (λ (q : Result (List RawUnit × Doc P) Fault). Alike (refused_in n (file_meaning_by numbers l b) >>= λ x. files_meaning_by (λ n. numbers) (limits_after l b x.0) (suc n) xs >>= with_doc x.1)
      (refused_in n q >>= λ x. files_meaning_by rule (limits_after l b x.0) (suc n) xs >>= with_doc x.1))
      (sym (one_placed n l b))
      (by (λ m. files_placed m (suc n) xs) (file_meaning_by numbers l b)) where
        by : ((m : Limits) → Alike (files_meaning_by (λ n. numbers) m (suc n) xs) (files_meaning_by rule m (suc n) xs)) → (q : Result (List RawUnit × Doc ℕ) Fault)
            → Alike (refused_in n q >>= λ x. files_meaning_by (λ n. numbers) (limits_after l b x.0) (suc n) xs >>= with_doc x.1)
            (refused_in n (placed (rule n) b q) >>= λ x. files_meaning_by rule (limits_after l b x.0) (suc n) xs >>= with_doc x.1)
        by rest (Ok x) = with_more x.1 (doc_placed (rule n) b x.0 x.1) (files_meaning_by (λ n. numbers) (limits_after l b x.0) (suc n) xs) (files_meaning_by rule (limits_after l b x.0) (suc n) xs)
            (rest (limits_after l b x.0))
        by rest (Err f) = refl
