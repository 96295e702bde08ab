-- The old file and what is read back of it mean the same, each with a number of its own.
use Rattle.std.proofs.Common.{◌≡◌, ◌≢◌, ◌⊎◌, ℕ, Bool, true, false, List, [], ◌∷◌, ◌++◌, ◌==◌, map, refl, sym, ap, subst, ◌∙◌, inl, inr, arith, eq-eqb}
use Rattle.std.proofs.lemmas.Bool.{ne_eqb}
use Rattle.dwz_def_reading.specs.Lists.{Each, In, NoneTwice, Nth}
use Rattle.dwz_def_reading.specs.Trees.{End, Entry}
use Rattle.dwz_def_reading.proofs.ListFacts.{in_cases}
use Rattle.dwz_def_reading.specs.Documents.{Compile, Doc, DwUnit, Entries, Kind, Node, OfType, Partial, entries_map, kind_map, node_map, unit_map}
use Rattle.dwz_def_tops.specs.Seen.{IsPartial, IsShown, Seen, all_seen, named_map, named_value, seen_map}
use Rattle.dwz_def_tops.specs.Shown.{AreShown, OnePlace, UnitsShown, units_keys}
use Rattle.dwz_def_tops.proofs.MainLemmas.{mains_map}
use Rattle.dwz_def_reading.proofs.Members.{each_in, in_map_from, nth_in}
use Rattle.dwz_def_tops.proofs.ShownLemmas.{all_shown, closed_shown, map_shown, names_then, root_key}
use Rattle.dwz_def_tops.proofs.SpaceLemmas.{node_shown}
use Rattle.dwz_def_tops.specs.Alike.{IsAlike, TopScope}
use Rattle.dwz_def_tops.specs.Spots.{EntryName, same_spot, units_of}
use Rattle.dwz_def_images.specs.Homes.{IsChoice, Rule}
use Rattle.dwz_def_images.specs.After.{ArePlaced}
use Rattle.dwz_def_tops.specs.UnitNames.{name_of_place}
use Rattle.dwz_def_reading.specs.Places.{Place, at_file}
use Rattle.dwz_def_images.specs.Units.{all_units, common_units, out_units, units_of_file}
use Rattle.dwz_def_tops.proofs.UnitKeys.{keys_joined}
use Rattle.dwz_def_encoding.specs.Meant.{placed_unit, placed_units}
use Rattle.dwz_def_encoding.proofs.Chosen.{fit_units_fixed}
use Rattle.dwz_def_encoding.proofs.Places.{numbering_stands}
use Rattle.dwz_def_encoding.proofs.Rising.{place_one}
use Rattle.dwz_def_encoding.proofs.SameLemmas.{spots_same}
use Rattle.dwz_def_readback.specs.Back.{run_of}
use Rattle.dwz_def_readback.specs.Files.{Run, Stored, common_fitted, common_forms, common_out, file_of_name, file_out, files_out, fitted, places}
use Rattle.dwz_def_readback.proofs.NameLemmas.{common_names, common_there, file_there, fitted_fixed, fitted_names, name_in_common, name_in_file, run_once}
use Rattle.dwz_def_readback.proofs.SameLemmas.{numbers_in}
use Rattle.dwz_def_cross.specs.CrossSame.{CrossSame}
use Rattle.dwz_law_cross.proofs.PairLemmas.{meets, named_at}
use Rattle.dwz_law_cross.specs.BesideLaws.{IsPlacedFor, MeetLaw, PlacesLaw, shared_units}
use Rattle.dwz_law_cross.specs.PairLaws.{AreAt, plan_of, with_common}
use Rattle.dwz_law_cross.proofs.BesideLemmas.{at, once, there}

abbrev by_number : Bool → ℕ → ℕ → ℕ
by_number true new common = common
by_number false new common = new

-- ---- units with other places have the names that they had

module _ {A B C : Type 0} (f : A → B) (h : B → C) where
  node_moved : (e : Node A) (d : Node C) → IsShown (λ x. h (f x)) e d → IsShown h (node_map f e) d
  node_moved e d s = record {
    at = s.at;
    tag = s.tag;
    attrs = s.attrs ∙ sym (names_then f h (map named_value e.attrs)) ∙ ap (map (named_map h)) (sym (node_shown f e).attrs);
  }

  entries_moved : (g : Entries A) (k : Entries C) → AreShown (λ x. h (f x)) g k → AreShown h (entries_map f g) k
  unfolding entries_map
  entries_moved End End s = tt
  entries_moved (Entry e g l) (Entry d k m) s = (node_moved e d s.0, entries_moved g k s.1, entries_moved l m s.2)
  entries_moved End (Entry d k m) s = absurd s
  entries_moved (Entry e g l) End s = absurd s

  kind_moved : (k : Kind A) → kind_map (λ x. h (f x)) k ≡ kind_map h (kind_map f k)
  kind_moved Compile = refl
  kind_moved (OfType s m) = refl
  kind_moved Partial = refl

  pub units_moved : (us : List (DwUnit A)) (vs : List (DwUnit C)) → UnitsShown (λ x. h (f x)) us vs → UnitsShown h (map (unit_map f) us) vs
  units_moved [] [] s = tt
  units_moved (u ∷ us) (v ∷ vs) s = (
    record { kind = s.0.kind ∙ kind_moved u.kind; root = node_moved u.root v.root s.0.root; below = entries_moved u.below v.below s.0.below },
    units_moved us vs s.1,
  )
  units_moved [] (v ∷ vs) s = absurd s
  units_moved (u ∷ us) [] s = absurd s

pub partial_was : {A B : Type 0} (f : A → B) (k : Kind A) → IsPartial (kind_map f k) → IsPartial k
partial_was f Compile h = h
partial_was f (OfType s m) h = h
partial_was f Partial h = h

-- ---- places of a run

module _ (scope : TopScope) (docs : List (Doc ℕ)) (rule : Rule) (placed : Each (λ doc. ArePlaced doc.units) docs) (is : IsAlike scope (units_of docs) rule.alike)
    (choice : IsChoice (units_of docs) rule) (input : Stored) (file : ℕ) (doc : Doc ℕ) (nth : Nth 0 docs file doc) where
  abbrev r : Run
  r = run_of rule docs input

  abbrev outs : List (DwUnit EntryName)
  outs = out_units r.move r.units file

  abbrev shared : List (DwUnit EntryName)
  shared = common_units r.move

  is_there : In file r.files
  is_there = there scope docs rule placed is choice input file doc nth

  all_once : NoneTwice (units_keys (all_units r.move r.units r.files))
  all_once = once scope docs rule placed is choice input file doc nth

  pub own_one : (x y : EntryName) → In x (units_keys outs) → In y (units_keys outs) → (places r).place x ≡ (places r).place y → x ≡ y
  own_one x y a b e =
      let stands = numbering_stands same_spot spots_same (files_out r) (run_once r all_once) (file_out r file) (file_there r file is_there) (fitted_fixed r file) in
      place_one (places r) (fitted r file) stands x y (subst (In x) (sym (fitted_names r file)) a) (subst (In y) (sym (fitted_names r file)) b) e

  shared_one : (x y : EntryName) → In x (units_keys shared) → In y (units_keys shared) → (places r).place x ≡ (places r).place y → x ≡ y
  unfolding common_fitted
  shared_one x y a b e =
      let stands = numbering_stands same_spot spots_same (files_out r) (run_once r all_once) (common_out r) (common_there r) (fit_units_fixed (common_forms r) (common_units r.move)) in
      place_one (places r) (common_fitted r) stands x y (subst (In x) (sym (common_names r)) a) (subst (In y) (sym (common_names r)) b) e

  -- the old file, with a number, and units of the file after, beside the common file
  module _ (old common : ℕ) (old_apart : old ≢ common) (g : EntryName → Place) (ok : (k : EntryName) → In k (units_keys (common_fitted r)) → g k ≡ at_file common ((places r).place k))
      (own : List (DwUnit Place)) (are : AreAt (plan_of rule docs) docs file g own (shared_units r g)) where
    abbrev olds : List (DwUnit Place)
    olds = map (unit_map (at_file old)) doc.units

    abbrev names : Place → EntryName
    names p = name_of_place docs (at_file file p.at)

    was : ArePlaced doc.units
    was = each_in (λ (d : Doc ℕ). ArePlaced d.units) doc docs placed (nth_in 0 docs file doc nth)

    kinds : (u : DwUnit Place) → In u olds → IsPartial u.kind → ⊥
    kinds u h p =
        let o = in_map_from (unit_map (at_file old)) u doc.units h in
        was.kinds o.source o.there (partial_was (at_file old) o.source.kind (subst (λ (w : DwUnit Place). IsPartial w.kind) (sym o.is) p))

    -- entries of the old file have its number, and roots of the common one that of it
    old_number : (d : Seen Place) → In d (all_seen olds) → d.at.file ≡ old
    old_number d h =
        let o = in_map_from (seen_map (at_file old)) d (all_seen doc.units) (subst (In d) (all_shown (at_file old) doc.units olds (map_shown (at_file old) doc.units)) h) in
        sym (ap (λ (w : Seen Place). w.at.file) o.is)

    root_number : (u : DwUnit Place) → In u (shared_units r g) → u.root.at.file ≡ common
    root_number u h =
        let o = in_map_from (placed_unit (places r) g) u (common_fitted r) h in
        sym (ap (λ (w : DwUnit Place). w.root.at.file) o.is) ∙ ap (λ (w : Place). w.file) (ok o.source.root.at (root_key (common_fitted r) o.source o.there))

    pub met_with : CrossSame (with_common olds (shared_units r g)) (with_common own (shared_units r g))
    met_with = meets scope docs rule placed is choice file g own (shared_units r g) are names (with_common olds (shared_units r g))
        (units_moved (at_file old) names doc.units (units_of_file file (units_of docs)) (named_at docs file doc nth))
        kinds (closed_shown (at_file old) doc.units olds (map_shown (at_file old) doc.units) was.closed) (mains_map (at_file old) doc.units was.mains)
        (λ u d u_in d_in e. old_apart (sym (old_number d d_in) ∙ ap (λ (w : Place). w.file) e ∙ root_number u u_in))

  module _ (old new common : ℕ) (old_apart : old ≢ common) (new_apart : new ≢ common) (g : EntryName → Place) (ok : IsPlacedFor r file new common g) where
    own_place : (k : EntryName) → In k (units_keys outs) → g k ≡ at_file new ((places r).place k)
    own_place k h = ok.own k (subst (In k) (sym (fitted_names r file)) h)

    shared_place : (k : EntryName) → In k (units_keys shared) → g k ≡ at_file common ((places r).place k)
    shared_place k h = ok.shared k (subst (In k) (sym (common_names r)) h)

    which : (k : EntryName) → In k (units_keys (outs ++ shared)) → In k (units_keys outs) ⊎ In k (units_keys shared)
    which k h = in_cases k (units_keys outs) (units_keys shared) (subst (In k) (keys_joined outs shared) h)

    one : OnePlace g (outs ++ shared)
    one x y a b e = elim (which x a) [
      | inl p ↦ elim (which y b) [
        | inl q ↦ own_one x y p q (ap (λ (w : Place). w.at) (sym (own_place x p) ∙ e ∙ own_place y q))
        | inr q ↦ absurd (new_apart (ap (λ (w : Place). w.file) (sym (own_place x p) ∙ e ∙ shared_place y q)))
      ]
      | inr p ↦ elim (which y b) [
        | inl q ↦ absurd (new_apart (ap (λ (w : Place). w.file) (sym (own_place y q) ∙ sym e ∙ shared_place x p)))
        | inr q ↦ shared_one x y p q (ap (λ (w : Place). w.at) (sym (shared_place x p) ∙ e ∙ shared_place y q))
      ]
    ]

    pub met : CrossSame (with_common (map (unit_map (at_file old)) doc.units) (shared_units r g)) (with_common (placed_units (places r) g (fitted r file)) (shared_units r g))
    met = met_with old common old_apart g ok.shared (placed_units (places r) g (fitted r file)) (at scope docs rule placed is choice input file doc nth g one)

  -- the file in which a name stands tells which number it gets
  pub placed_so : (new common : ℕ) → (g : EntryName → Place) × IsPlacedFor r file new common g
  placed_so new common =
      let less = numbers_in 0 docs file is_there in (
        (λ k. at_file (by_number (file_of_name r k == r.common) new common) ((places r).place k)),
        record {
          own = λ k h. (
              let same : file_of_name r k ≡ file = name_in_file r all_once file is_there k h in
              let no_ : (file_of_name r k == r.common) ≡ false = ne_eqb (file_of_name r k) r.common (λ e. omega (arith, e, same, less)) in
              ap (λ (b : Bool). at_file (by_number b new common) ((places r).place k)) no_);
          shared = λ k h. (
              let yes : (file_of_name r k == r.common) ≡ true = eq-eqb (file_of_name r k) r.common (name_in_common r all_once k h) in
              ap (λ (b : Bool). at_file (by_number b new common) ((places r).place k)) yes);
        },
      )

pub meet : MeetLaw
meet scope docs rule placed is choice input file doc nth old new common old_apart new_apart g ok =
    met scope docs rule placed is choice input file doc nth old new common old_apart new_apart g ok

pub placed_for : PlacesLaw
placed_for = placed_so
