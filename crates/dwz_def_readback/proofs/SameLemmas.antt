-- What all files say is shown by the units after, and each name has one place.
use Rattle.std.proofs.Common.{◌≡◌, ◌⊎◌, ℕ, suc, ◌+◌, ◌<◌, Bool, true, false, List, [], ◌∷◌, ◌++◌, length, map, refl, sym, ap, subst, ◌∙◌, arith, cond, eqb, pos}
use Rattle.std.proofs.Math.Logic.{inl, inr}
use Rattle.dwz_def_reading.specs.Documents.{Attr, Doc, DwUnit, Entries, Node}
use Rattle.dwz_def_reading.specs.Lists.{Each, In}
use Rattle.dwz_def_reading.specs.Trees.{End, Entry}
use Rattle.dwz_def_tops.specs.Alike.{IsAlike, TopScope}
use Rattle.dwz_def_tops.specs.Spots.{EntryName, file_numbers, same_spot, units_of}
use Rattle.dwz_def_tops.specs.Lists.{NoneTwice, Nth}
use Rattle.dwz_def_tops.specs.Seen.{Named, IsShown, named_map, named_value}
use Rattle.dwz_def_tops.specs.Shown.{AreShown, OnePlace, UnitsShown, units_keys}
use Rattle.dwz_def_images.specs.Homes.{IsChoice, Rule}
use Rattle.dwz_def_images.specs.After.{ArePlaced, FilesSame}
use Rattle.dwz_def_reading.specs.Places.{Place, at_file}
use Rattle.dwz_def_images.specs.Units.{all_units, changes, common_units, file_units, out_units}
use Rattle.dwz_def_images.proofs.FileLemmas.{files_same}
use Rattle.dwz_def_tops.proofs.UnitKeys.{keys_joined}
use Rattle.dwz_def_images.proofs.OldFiles.{shown_append}
use Rattle.dwz_def_encoding.specs.Meant.{placed_attr, placed_entries, placed_node, placed_units}
use Rattle.dwz_def_encoding.specs.Placing.{KeyedForms, UnitForms, fit, fit_attr, fit_node, fit_unit, fit_units, unit_forms, with_form, with_keys}
use Rattle.dwz_def_encoding.specs.Writing.{Numbering}
use Rattle.dwz_def_encoding.proofs.Chosen.{fit_units_fixed}
use Rattle.dwz_def_encoding.proofs.Places.{numbering_stands}
use Rattle.dwz_def_encoding.proofs.Rising.{place_one}
use Rattle.dwz_def_encoding.proofs.SameLemmas.{spots_same}
use Rattle.dwz_def_readback.specs.Back.{files_back_by, AreAtOld, IsPlacing, SameBack, all_back, back_units, files_back, run_of}
use Rattle.dwz_def_readback.specs.Files.{CommonFile, Made, Run, Stored, common_fitted, common_forms, common_out, file_forms_by, file_out, files_out}
use Rattle.dwz_def_readback.specs.Files.{fitted, fitted_by, fitted_if_by, formed_by, places, places_by, sources, uses_by}
use Rattle.dwz_def_reading.specs.Pruning.{new_number}
use Rattle.dwz_def_reading.proofs.ListFacts.{in_cases}
use Rattle.dwz_def_encoding.specs.Pruned.{entries_renumbered, renumbered_attr, renumbered_node, renumbered_unit, renumbered_units}
use Rattle.dwz_def_reading.specs.Spelling.{reach}
use Rattle.dwz_def_readback.proofs.NameLemmas.{common_names, common_there, file_there, fitted_fixed, fitted_names, run_once}

-- ---- forms and numbers aren't seen

module _ {K P : Type 0} (n : Numbering K) (g : K → P) (unit : ℕ) (f : UnitForms K) where
  attrs_shown : (attrs : List (Attr K)) → map named_value (map (placed_attr n g unit) (map (fit_attr f) attrs)) ≡ map (named_map g) (map named_value attrs)
  attrs_shown [] = refl
  attrs_shown (a ∷ attrs) = ap (λ (w : List (Named P)). named_map g (named_value a) ∷ w) (attrs_shown attrs)

  node_shown : (e : Node K) → IsShown g e (placed_node n g unit (fit_node f e))
  node_shown e = record { at = refl; tag = refl; attrs = attrs_shown e.attrs }

  entries_shown : (t : Entries K) → AreShown g t (placed_entries n g unit (fit f t))
  unfolding fit placed_entries
  entries_shown End = tt
  entries_shown (Entry e children next) = (node_shown e, entries_shown children, entries_shown next)

units_shown : {K P : Type 0} (n : Numbering K) (g : K → P) (f : KeyedForms K) (units : List (DwUnit K)) → UnitsShown g units (placed_units n g (map (fit_unit f) units))
units_shown n g f [] = tt
units_shown n g f (u ∷ units) =
    (record { kind = refl; root = node_shown n g (n.place u.at) (unit_forms f u) u.root; below = entries_shown n g (n.place u.at) (unit_forms f u) u.below }, units_shown n g f units)

-- nor are new numbers of texts
module _ {K P : Type 0} (n : Numbering K) (g : K → P) (number : ℕ → ℕ) where
  attr_seen : (unit : ℕ) (a : Attr K) → named_value (placed_attr n g unit (renumbered_attr number a)) ≡ named_value (placed_attr n g unit a)
  attr_seen unit a = by (eqb a.form 0x0e) where
    by : (b : Bool) → named_value (placed_attr n g unit (cond b (with_form a (record { form = 0x0e; raw = pos (number (reach a.raw)) })) a)) ≡ named_value (placed_attr n g unit a)
    by true = refl
    by false = refl

  attrs_seen : (unit : ℕ) (attrs : List (Attr K)) → map named_value (map (placed_attr n g unit) (map (renumbered_attr number) attrs)) ≡ map named_value (map (placed_attr n g unit) attrs)
  attrs_seen unit [] = refl
  attrs_seen unit (a ∷ attrs) =
      ap (λ (w : Named P). w ∷ map named_value (map (placed_attr n g unit) (map (renumbered_attr number) attrs))) (attr_seen unit a)
      ∙ ap (λ (w : List (Named P)). named_value (placed_attr n g unit a) ∷ w) (attrs_seen unit attrs)

  node_again : (unit : ℕ) (e d : Node K) → IsShown g e (placed_node n g unit d) → IsShown g e (placed_node n g unit (renumbered_node number d))
  node_again unit e d is = record { at = is.at; tag = is.tag; attrs = attrs_seen unit d.attrs ∙ is.attrs }

  entries_again : (unit : ℕ) (t d : Entries K) → AreShown g t (placed_entries n g unit d) → AreShown g t (placed_entries n g unit (entries_renumbered number d))
  unfolding placed_entries entries_renumbered
  entries_again unit End End is = tt
  entries_again unit End (Entry d f k) is = absurd is
  entries_again unit (Entry e f k) End is = absurd is
  entries_again unit (Entry e f k) (Entry d f' k') is = (node_again unit e d is.0, entries_again unit f f' is.1, entries_again unit k k' is.2)

  units_again : (units some : List (DwUnit K)) → UnitsShown g units (placed_units n g some) → UnitsShown g units (placed_units n g (map (renumbered_unit number) some))
  units_again [] [] is = tt
  units_again [] (v ∷ some) is = absurd is
  units_again (u ∷ units) [] is = absurd is
  units_again (u ∷ units) (v ∷ some) is = (
    record { kind = is.0.kind; root = node_again (n.place v.at) u.root v.root is.0.root; below = entries_again (n.place v.at) u.below v.below is.0.below },
    units_again units some is.1,
  )

pub numbers_in : (s : ℕ) (docs : List (Doc ℕ)) (file : ℕ) → In file (file_numbers s docs) → file < s + length docs
unfolding file_numbers
numbers_in s [] file is = absurd is
numbers_in s (doc ∷ docs) file (inl e) = omega (arith, e)
numbers_in s (doc ∷ docs) file (inr r) = (let o = numbers_in (suc s) docs file r in omega (arith, o))

-- what is written is shown, whatever stands for names
pub common_shown_by : {P : Type 0} (r : Run) (g : EntryName → P) → UnitsShown g (common_units r.move) (placed_units (places r) g (common_fitted r))
unfolding common_fitted fit_units
common_shown_by r g = units_shown (places r) g (with_keys (common_forms r) (units_keys (common_units r.move))) (common_units r.move)

pub file_shown_by : {P : Type 0} (k : CommonFile) (r : Run) (g : EntryName → P) (file : ℕ) → UnitsShown g (out_units r.move r.units file) (placed_units (places_by k r) g (fitted_by k r file))
unfolding fitted_by formed_by fit_units renumbered_units
file_shown_by {P} k r g file = by (r.input.prunes file) where
  shown : UnitsShown g (out_units r.move r.units file) (placed_units (places_by k r) g (formed_by k r file))
  shown = units_shown (places_by k r) g (with_keys (file_forms_by k r file) (units_keys (out_units r.move r.units file))) (out_units r.move r.units file)

  by : (b : Bool) → UnitsShown g (out_units r.move r.units file) (placed_units (places_by k r) g (fitted_if_by b k r file))
  by true = units_again (places_by k r) g (new_number (sources r file).strs (uses_by k r file)) (out_units r.move r.units file) (formed_by k r file) shown
  by false = shown

module _ (scope : TopScope) (docs : List (Doc ℕ)) (rule : Rule) (placed : Each (λ doc. ArePlaced doc.units) docs) (is : IsAlike scope (units_of docs) rule.alike)
    (choice : IsChoice (units_of docs) rule)
    (input : Stored) (g : EntryName → Place) (ok : IsPlacing (run_of rule docs input) g) (old : AreAtOld (run_of rule docs input) g docs) where
  abbrev r : Run
  r = run_of rule docs input

  abbrev n : Numbering EntryName
  n = places r

  together : FilesSame scope docs rule (file_numbers 0 docs)
  together = files_same scope docs rule placed is choice

  file_shown : (file : ℕ) (doc : Doc ℕ) → Nth 0 docs file doc → UnitsShown g (out_units r.move r.units file) (back_units r g (changes r.move r.units file) file doc)
  file_shown file doc nth = by (changes r.move r.units file) refl where
    by : (b : Bool) → changes r.move r.units file ≡ b → UnitsShown g (out_units r.move r.units file) (back_units r g b file doc)
    by true e = file_shown_by Made r g file
    by false e = old.shown file doc nth e

  files_shown : (s : ℕ) (some : List (Doc ℕ)) → ((file : ℕ) (doc : Doc ℕ) → Nth s some file doc → Nth 0 docs file doc)
      → UnitsShown g (file_units r.move r.units (file_numbers s some)) (files_back r g s some)
  unfolding file_units files_back_by file_numbers
  files_shown s [] into = tt
  files_shown s (doc ∷ some) into =
      shown_append g (out_units r.move r.units s) (file_units r.move r.units (file_numbers (suc s) some)) (back_units r g (changes r.move r.units s) s doc) (files_back r g (suc s) some)
      (file_shown s doc (into s doc (inl (refl, refl)))) (files_shown (suc s) some (λ file d nth. into file d (inr nth)))

  all_shown : UnitsShown g (all_units r.move r.units r.files) (all_back r g docs)
  all_shown = shown_append g (common_units r.move) (file_units r.move r.units r.files) (placed_units n g (common_fitted r)) (files_back r g 0 docs) (common_shown_by r g)
      (files_shown 0 docs (λ file d nth. nth))

  -- ---- each name has one place

  -- where a name stands
  record NameIn (k : EntryName) : Type 0 where
    file : ℕ
    there : In file r.files
    is_in : In k (units_keys (out_units r.move r.units file))

  name_files : (files : List ℕ) → ((f : ℕ) → In f files → In f r.files) → (k : EntryName) → In k (units_keys (file_units r.move r.units files)) → NameIn k
  unfolding file_units units_keys
  name_files [] into k h = absurd h
  name_files (f ∷ files) into k h = elim (in_cases k (units_keys (out_units r.move r.units f)) (units_keys (file_units r.move r.units files))
      (subst (In k) (keys_joined (out_units r.move r.units f) (file_units r.move r.units files)) h)) [
        | inl a ↦ record { file = f; there = into f (inl refl); is_in = a }
        | inr b ↦ name_files files (λ x there. into x (inr there)) k b
      ]

  name_in : (k : EntryName) → In k (units_keys (all_units r.move r.units r.files)) → In k (units_keys (common_units r.move)) ⊎ NameIn k
  name_in k h = elim (in_cases k (units_keys (common_units r.move)) (units_keys (file_units r.move r.units r.files))
      (subst (In k) (keys_joined (common_units r.move) (file_units r.move r.units r.files)) h)) [
        | inl a ↦ inl a
        | inr b ↦ inr (name_files r.files (λ f there. there) k b)
      ]

  common_place : (k : EntryName) → In k (units_keys (common_units r.move)) → at_file r.common (n.place k) ≡ g k
  common_place k h = ok.common k (subst (In k) (sym (common_names r)) h)

  file_place : (file : ℕ) → In file r.files → changes r.move r.units file ≡ true → (k : EntryName) → In k (units_keys (out_units r.move r.units file)) → at_file file (n.place k) ≡ g k
  file_place file there changed k h = ok.written file there changed k (subst (In k) (sym (fitted_names r file)) h)

  number_of : (k : EntryName) (o : NameIn k) → (g k).file ≡ o.file
  number_of k o = by (changes r.move r.units o.file) refl where
    by : (b : Bool) → changes r.move r.units o.file ≡ b → (g k).file ≡ o.file
    by true e = sym (ap (λ (p : Place). p.file) (file_place o.file o.there e k o.is_in))
    by false e = old.file o.file o.there e k o.is_in

  common_one : OnePlace g (common_units r.move)
  unfolding common_fitted
  common_one x y a b e =
      let stands = numbering_stands same_spot spots_same (files_out r) (run_once r together.apart) (common_out r) (common_there r) (fit_units_fixed (common_forms r) (common_units r.move)) in
      let same : n.place x ≡ n.place y = ap (λ (p : Place). p.at) (common_place x a ∙ e ∙ sym (common_place y b)) in
      place_one n (common_fitted r) stands x y (subst (In x) (sym (common_names r)) a) (subst (In y) (sym (common_names r)) b) same

  file_one : (file : ℕ) → In file r.files → OnePlace g (out_units r.move r.units file)
  file_one file there x y a b e = by (changes r.move r.units file) refl where
    by : (c : Bool) → changes r.move r.units file ≡ c → x ≡ y
    by false c = old.one file there c x y a b e
    by true c =
        (let stands = numbering_stands same_spot spots_same (files_out r) (run_once r together.apart) (file_out r file) (file_there r file there) (fitted_fixed r file) in
        let same : n.place x ≡ n.place y = ap (λ (p : Place). p.at) (file_place file there c x a ∙ e ∙ sym (file_place file there c y b)) in
        place_one n (fitted r file) stands x y (subst (In x) (sym (fitted_names r file)) a) (subst (In y) (sym (fitted_names r file)) b) same)

  apart_from : (k l : EntryName) → In k (units_keys (common_units r.move)) → NameIn l → g k ≡ g l → ⊥
  apart_from k l a o e =
      let number : r.common ≡ o.file = ap (λ (p : Place). p.file) (common_place k a ∙ e) ∙ number_of l o in
      let less = numbers_in 0 docs o.file o.there in
      omega (arith, number, less)

  one_place : OnePlace g (all_units r.move r.units r.files)
  one_place x y a b e = elim (name_in x a) [
    | inl p ↦ elim (name_in y b) [ inl q ↦ common_one x y p q e | inr q ↦ absurd (apart_from x y p q e) ]
    | inr p ↦ elim (name_in y b) [
      | inl q ↦ absurd (apart_from y x q p (sym e))
      | inr q ↦
          let number : p.file ≡ q.file = sym (number_of x p) ∙ ap (λ (w : Place). w.file) e ∙ number_of y q in
          file_one q.file q.there x y (subst (λ (f : ℕ). In x (units_keys (out_units r.move r.units f))) number p.is_in) q.is_in e
    ]
  ]

  pub same_back : SameBack scope docs rule input g
  same_back = record { same = together.same g (all_back r g docs) all_shown one_place; alone = together.alone g one_place; images = together.images g one_place }

  -- in a file, or in the common one
  which : (file : ℕ) (k : EntryName) → In k (units_keys (out_units r.move r.units file ++ common_units r.move)) → In k (units_keys (out_units r.move r.units file))
      ⊎ In k (units_keys (common_units r.move))
  which file k h = in_cases k (units_keys (out_units r.move r.units file)) (units_keys (common_units r.move)) (subst (In k) (keys_joined (out_units r.move r.units file) (common_units r.move)) h)

  pub beside_one : (file : ℕ) → In file r.files → OnePlace g (out_units r.move r.units file ++ common_units r.move)
  beside_one file there x y a b e = elim (which file x a) [
    | inl p ↦ elim (which file y b) [
      | inl q ↦ file_one file there x y p q e
      | inr q ↦ absurd (apart_from y x q (record { file = file; there = there; is_in = p }) (sym e))
    ]
    | inr p ↦ elim (which file y b) [ inl q ↦ absurd (apart_from x y p (record { file = file; there = there; is_in = q }) e) | inr q ↦ common_one x y p q e ]
  ]

  -- no name stands twice in all files
  pub once : NoneTwice (units_keys (all_units r.move r.units r.files))
  once = together.apart
