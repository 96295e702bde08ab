-- Over a finished common file what all files say is shown by the units after, and each name has one place.
use Rattle.std.proofs.Common.{◌<◌, length, ◌≡◌, ◌⊎◌, ℕ, suc, Bool, true, false, List, [], ◌∷◌, ◌++◌, refl, sym, ap, subst, ◌∙◌, arith}
use Rattle.std.proofs.Math.Logic.{inl, inr}
use Rattle.dwz_def_reading.specs.Documents.{Doc, DwUnit}
use Rattle.dwz_def_reading.specs.Lists.{In}
use Rattle.dwz_def_tops.specs.Spots.{EntryName, file_numbers}
use Rattle.dwz_def_tops.specs.Lists.{Nth}
use Rattle.dwz_def_tops.specs.Shown.{OnePlace, UnitsShown, units_keys}
use Rattle.dwz_def_reading.specs.Places.{Place, at_file}
use Rattle.dwz_def_images.specs.Units.{all_units, changes, common_units, file_units, out_units}
use Rattle.dwz_def_tops.proofs.UnitKeys.{keys_joined}
use Rattle.dwz_def_images.proofs.OldFiles.{shown_append}
use Rattle.dwz_def_encoding.specs.Writing.{Numbering}
use Rattle.dwz_def_encoding.proofs.Rising.{place_one}
use Rattle.dwz_def_readback.specs.Back.{files_back_by, AreAtOld, CanWriteBy, IsPlacingBy, back_units_by, run_by}
use Rattle.dwz_def_readback.specs.Files.{Run, Stored, fitted_by, places_by, Finished, Stands}
use Rattle.dwz_def_reading.proofs.ListFacts.{in_cases}
use Rattle.dwz_def_readback.proofs.SameLemmas.{file_shown_by, numbers_in}
use Rattle.dwz_def_readback.proofs.Standing.{files_stand}
use Rattle.dwz_def_readback.proofs.NameLemmas.{fitted_names_by}
use Rattle.dwz_def_taken.specs.Laws.{ArePlacedOver}
use Rattle.dwz_def_taken.specs.declared.fixed.Fixed.{Fixed}
use Rattle.dwz_def_taken.specs.Takes.{IsFixed}
use Rattle.dwz_def_taken.specs.Over.{move_over}
use Rattle.dwz_def_taken.specs.Beside.{reused_of}

module _ (docs : List (Doc ℕ)) (common : Doc ℕ) (fixed : Fixed) (p : ArePlacedOver docs common) (fx : IsFixed (reused_of docs common) fixed) (input : Stored) (c : Finished)
    (can : CanWriteBy (Stands c) (run_by (move_over (reused_of docs common) fixed (file_numbers 0 docs)) docs input)) (g : EntryName → Place)
    (ok : IsPlacingBy (Stands c) (run_by (move_over (reused_of docs common) fixed (file_numbers 0 docs)) docs input) g)
    (old : AreAtOld (run_by (move_over (reused_of docs common) fixed (file_numbers 0 docs)) docs input) g docs) (shared : List (DwUnit Place))
    (common_shown : UnitsShown g (common_units (move_over (reused_of docs common) fixed (file_numbers 0 docs))) shared)
    (common_one : OnePlace g (common_units (move_over (reused_of docs common) fixed (file_numbers 0 docs)))) where
  abbrev r : Run
  r = run_by (move_over (reused_of docs common) fixed (file_numbers 0 docs)) docs input

  abbrev n : Numbering EntryName
  n = places_by (Stands c) r

  file_shown : (file : ℕ) (doc : Doc ℕ) → Nth 0 docs file doc → UnitsShown g (out_units r.move r.units file) (back_units_by (Stands c) r g (changes r.move r.units file) file doc)
  file_shown file doc nth = by (changes r.move r.units file) refl where
    by : (b : Bool) → changes r.move r.units file ≡ b → UnitsShown g (out_units r.move r.units file) (back_units_by (Stands c) r g b file doc)
    by true e = file_shown_by (Stands c) r g file
    by false e = old.shown file doc nth e

  files_shown : (s : ℕ) (some : List (Doc ℕ)) → ((file : ℕ) (doc : Doc ℕ) → Nth s some file doc → Nth 0 docs file doc)
      → UnitsShown g (file_units r.move r.units (file_numbers s some)) (files_back_by (Stands c) r g s some)
  unfolding file_units files_back_by file_numbers
  files_shown s [] into = tt
  files_shown s (doc ∷ some) into =
      shown_append g (out_units r.move r.units s) (file_units r.move r.units (file_numbers (suc s) some)) (back_units_by (Stands c) r g (changes r.move r.units s) s doc) (files_back_by (Stands c) r g (suc s) some)
      (file_shown s doc (into s doc (inl (refl, refl)))) (files_shown (suc s) some (λ file d nth. into file d (inr nth)))

  pub all_shown_over : UnitsShown g (all_units r.move r.units r.files) (shared ++ files_back_by (Stands c) r g 0 docs)
  all_shown_over = shown_append g (common_units r.move) (file_units r.move r.units r.files) shared (files_back_by (Stands c) r g 0 docs) common_shown (files_shown 0 docs (λ file d nth. nth))

  -- ---- each name has one place

  -- where a name stands
  record NameIn (k : EntryName) : Type 0 where
    file : ℕ
    there : In file r.files
    is_in : In k (units_keys (out_units r.move r.units file))

  name_files : (files : List ℕ) → ((f : ℕ) → In f files → In f r.files) → (k : EntryName) → In k (units_keys (file_units r.move r.units files)) → NameIn k
  unfolding file_units units_keys
  name_files [] into k h = absurd h
  name_files (f ∷ files) into k h = elim (in_cases k (units_keys (out_units r.move r.units f)) (units_keys (file_units r.move r.units files))
      (subst (In k) (keys_joined (out_units r.move r.units f) (file_units r.move r.units files)) h)) [
        | inl a ↦ record { file = f; there = into f (inl refl); is_in = a }
        | inr b ↦ name_files files (λ x there. into x (inr there)) k b
      ]

  name_in : (k : EntryName) → In k (units_keys (all_units r.move r.units r.files)) → In k (units_keys (common_units r.move)) ⊎ NameIn k
  name_in k h = elim (in_cases k (units_keys (common_units r.move)) (units_keys (file_units r.move r.units r.files))
      (subst (In k) (keys_joined (common_units r.move) (file_units r.move r.units r.files)) h)) [
        | inl a ↦ inl a
        | inr b ↦ inr (name_files r.files (λ f there. there) k b)
      ]

  common_place : (k : EntryName) → In k (units_keys (common_units r.move)) → at_file r.common (n.place k) ≡ g k
  common_place k h = ok.common k (subst (In k) (sym can.common.names) h)

  file_place : (file : ℕ) → In file r.files → changes r.move r.units file ≡ true → (k : EntryName) → In k (units_keys (out_units r.move r.units file)) → at_file file (n.place k) ≡ g k
  file_place file there changed k h = ok.written file there changed k (subst (In k) (sym (fitted_names_by (Stands c) r file)) h)

  number_of : (k : EntryName) (o : NameIn k) → (g k).file ≡ o.file
  number_of k o = by (changes r.move r.units o.file) refl where
    by : (b : Bool) → changes r.move r.units o.file ≡ b → (g k).file ≡ o.file
    by true e = sym (ap (λ (q : Place). q.file) (file_place o.file o.there e k o.is_in))
    by false e = old.file o.file o.there e k o.is_in

  written_one : (file : ℕ) → In file r.files → changes r.move r.units file ≡ true → OnePlace g (out_units r.move r.units file)
  written_one file there changed x y a b e =
      let fs = files_stand c r can in
      let same : n.place x ≡ n.place y = ap (λ (q : Place). q.at) (file_place file there changed x a ∙ e ∙ sym (file_place file there changed y b)) in
      place_one n (fitted_by (Stands c) r file) (fs.stands file there) x y (subst (In x) (sym (fitted_names_by (Stands c) r file)) a) (subst (In y) (sym (fitted_names_by (Stands c) r file)) b) same

  file_one : (file : ℕ) → In file r.files → OnePlace g (out_units r.move r.units file)
  file_one file there x y a b e = by (changes r.move r.units file) refl where
    by : (c : Bool) → changes r.move r.units file ≡ c → x ≡ y
    by false c = old.one file there c x y a b e
    by true c = written_one file there c x y a b e

  apart_from : (k l : EntryName) → In k (units_keys (common_units r.move)) → NameIn l → g k ≡ g l → ⊥
  apart_from k l a o e =
      let number : r.common ≡ o.file = ap (λ (q : Place). q.file) (common_place k a ∙ e) ∙ number_of l o in
      let less = numbers_in 0 docs o.file o.there in
      omega (arith, number, less)

  -- it is that of a file, or of the common one
  pub name_file : (k : EntryName) → In k (units_keys (all_units r.move r.units r.files)) → (g k).file < suc (length docs)
  name_file k h = elim (name_in k h) [
    | inl a ↦ (let e = ap (λ (q : Place). q.file) (common_place k a) in omega (arith, e))
    | inr b ↦ (let e = number_of k b in let less = numbers_in 0 docs b.file b.there in omega (arith, e, less))
  ]

  pub one_over : OnePlace g (all_units r.move r.units r.files)
  one_over x y a b e = elim (name_in x a) [
    | inl k ↦ elim (name_in y b) [ inl q ↦ common_one x y k q e | inr q ↦ absurd (apart_from x y k q e) ]
    | inr k ↦ elim (name_in y b) [
      | inl q ↦ absurd (apart_from y x q k (sym e))
      | inr q ↦
          let number : k.file ≡ q.file = sym (number_of x k) ∙ ap (λ (w : Place). w.file) e ∙ number_of y q in
          file_one q.file q.there x y (subst (λ (f : ℕ). In x (units_keys (out_units r.move r.units f))) number k.is_in) q.is_in e
    ]
  ]
