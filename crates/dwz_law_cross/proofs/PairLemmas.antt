-- With places for names.
use Rattle.std.proofs.Common.{◌≡◌, ℕ, suc, ◌+◌, Bool, true, false, List, [], ◌∷◌, ◌++◌, ◌==◌, length, map, refl, sym, ap, subst, ◌∙◌, arith, inl, inr, eq-eqb}
use Rattle.std.proofs.lemmas.Bool.{ne_eqb}
use Rattle.dwz_def_reading.specs.Documents.{Compile, Doc, DwUnit, Kind, OfType, Partial, kind_map, unit_map}
use Rattle.dwz_def_reading.specs.Lists.{Each, In, NoneTwice, Nth}
use Rattle.dwz_def_reading.proofs.ListFacts.{in_left}
use Rattle.dwz_def_tops.specs.Seen.{Closed, IsPartial, Seen, UnitSame, all_seen}
use Rattle.dwz_def_tops.specs.Shown.{HaveMains, IsShownUnit, OnePlace, UnitsShown, unit_keys, units_keys}
use Rattle.dwz_def_reading.proofs.Members.{each_in, nth_from, nth_in}
use Rattle.dwz_def_reading.proofs.OnceLemmas.{none_both, none_right}
use Rattle.dwz_def_tops.proofs.ShownLemmas.{entries_placed, map_shown, root_key, types_placed}
use Rattle.dwz_def_tops.proofs.ShownUnits.{entries_named, types_named, units_named, units_placed}
use Rattle.dwz_def_tops.specs.Alike.{IsAlike, TopScope}
use Rattle.dwz_def_tops.specs.Spots.{EntryName, file_numbers, in_file, named_files, named_in, spot_in, spots_from, tops_among, units_of}
use Rattle.dwz_def_images.specs.Homes.{IsChoice, Rule}
use Rattle.dwz_def_images.specs.Moves.{Move, image_in}
use Rattle.dwz_def_images.specs.After.{AreAfterOf, ArePlaced, IsOfFile}
use Rattle.dwz_def_tops.specs.UnitNames.{name_from, name_of_place}
use Rattle.dwz_def_reading.specs.Places.{Place, at_file}
use Rattle.dwz_def_images.specs.Units.{common_units, out_units, units_of_file}
use Rattle.dwz_def_images.proofs.BackLemmas.{append_none, at_none}
use Rattle.dwz_def_images.proofs.FileOuts.{file_outs}
use Rattle.dwz_def_images.proofs.OldFiles.{shown_append}
use Rattle.dwz_def_images.proofs.StillLemmas.{at_append, at_other, at_own}
use Rattle.dwz_def_cross.specs.CrossLaws.{IsPairing}
use Rattle.dwz_def_cross.specs.CrossSame.{CrossSame, EachTwo}
use Rattle.dwz_def_cross.specs.Tops.{WithCommon, unless_partial, whole_units}
use Rattle.dwz_def_cross.proofs.CrossLemmas.{cross_same}
use Rattle.dwz_law_cross.specs.PairLaws.{AreAt, alone, plan_of, with_common}
use Rattle.dwz_law_cross.proofs.NamePairs.{name_entries, name_types, name_units}

-- ---- the units of one document, by their names

doc_named : (file first unit n : ℕ) (docs : List (Doc ℕ)) (doc : Doc ℕ) → Nth first docs file doc
    → units_of_file file (named_files first unit n docs) ≡ map (unit_map (λ p. name_from first unit n docs (at_file file p))) doc.units
unfolding named_files name_from
doc_named file first unit n [] doc h = absurd h
doc_named file first unit n (d ∷ docs) doc (inl x) =
    let spots = spots_from unit n d.units in
    let own = map (in_file first) (named_in spots d.units) in
    let rest = named_files (suc first) (unit + length d.units) (n + tops_among d.units) docs in
    let mine : units_of_file file own ≡ named_in spots d.units = subst (λ (w : ℕ). units_of_file w own ≡ named_in spots d.units) x.0 (at_own first (named_in spots d.units)) in
    let none : units_of_file file rest ≡ [] = at_none file (suc first) (unit + length d.units) (n + tops_among d.units) docs (omega (arith, x.0)) in
    let yes : (first == file) ≡ true = eq-eqb first file x.0 in
    at_append file own rest ∙ ap (λ (w : List (DwUnit EntryName)). w ++ units_of_file file rest) mine ∙ ap (λ (w : List (DwUnit EntryName)). named_in spots d.units ++ w) none
    ∙ append_none (named_in spots d.units) ∙ ap (λ (w : Doc ℕ). named_in spots w.units) x.1
    ∙ ap (λ (b : Bool). map (unit_map (λ p. elim b as (λ _. EntryName) [
      | true ↦ spot_in spots p
      | false ↦ name_from (suc first) (unit + length d.units) (n + tops_among d.units) docs (at_file file p)
    ])) doc.units) (sym yes)
doc_named file first unit n (d ∷ docs) doc (inr r) =
    let spots = spots_from unit n d.units in
    let own = map (in_file first) (named_in spots d.units) in
    let rest = named_files (suc first) (unit + length d.units) (n + tops_among d.units) docs in
    let ne : first ≡ file → ⊥ = λ e. omega (arith, e, nth_from (suc first) docs file doc r) in
    let no : (first == file) ≡ false = ne_eqb first file ne in
    at_append file own rest ∙ ap (λ (w : List (DwUnit EntryName)). w ++ units_of_file file rest) (at_other file first (named_in spots d.units) no)
    ∙ doc_named file (suc first) (unit + length d.units) (n + tops_among d.units) docs doc r
    ∙ ap (λ (b : Bool). map (unit_map (λ p. elim b as (λ _. EntryName) [
      | true ↦ spot_in spots p
      | false ↦ name_from (suc first) (unit + length d.units) (n + tops_among d.units) docs (at_file file p)
    ])) doc.units) (sym no)

-- ---- units in lists

pub one_unit : {Q : Type 0} (units : List (DwUnit Q)) → NoneTwice (units_keys units) → (a b : DwUnit Q) → In a units → In b units → a.root.at ≡ b.root.at → a ≡ b
unfolding units_keys unit_keys
one_unit [] h a b i j e = absurd i
one_unit (u ∷ units) h a b (inl x) (inl y) e = sym x ∙ y
one_unit (u ∷ units) h a b (inr x) (inr y) e = one_unit units (none_right (unit_keys u) (units_keys units) h) a b x y e
one_unit {Q} (u ∷ units) h a b (inl x) (inr y) e =
    absurd (none_both (unit_keys u) (units_keys units) h u.root.at (inr (inl refl))
    (subst (λ (w : Q). In w (units_keys units)) (sym e ∙ sym (ap (λ (w : DwUnit Q). w.root.at) x)) (root_key units b y)))
one_unit {Q} (u ∷ units) h a b (inr x) (inl y) e =
    absurd (none_both (unit_keys u) (units_keys units) h u.root.at (inr (inl refl)) (subst (λ (w : Q). In w (units_keys units)) (e ∙ sym (ap (λ (w : DwUnit Q). w.root.at) y)) (root_key units a x)))

pub whole_shown : {P Q : Type 0} (g : P → Q) (us : List (DwUnit P)) (vs : List (DwUnit Q)) → UnitsShown g us vs → UnitsShown g (whole_units us) (whole_units vs)
unfolding whole_units
whole_shown g [] [] h = tt
whole_shown g [] (v ∷ vs) h = absurd h
whole_shown g (u ∷ us) [] h = absurd h
whole_shown {P} {Q} g (u ∷ us) (v ∷ vs) h =
    subst (λ (k : Kind Q). UnitsShown g (unless_partial u.kind u (whole_units us)) (unless_partial k v (whole_units vs))) (sym h.0.kind) (by u.kind (whole_shown g us vs h.1))
  where
    by : (k : Kind P) → UnitsShown g (whole_units us) (whole_units vs) → UnitsShown g (unless_partial k u (whole_units us)) (unless_partial (kind_map g k) v (whole_units vs))
    by Compile more = (h.0, more)
    by (OfType s t) more = (h.0, more)
    by Partial more = more

pub whole_in : {P : Type 0} (units : List (DwUnit P)) (u : DwUnit P) → In u (whole_units units) → In u units
unfolding whole_units
whole_in [] u h = h
whole_in {P} (x ∷ units) u h = by x.kind h (whole_in units u) where
  by : (k : Kind P) → In u (unless_partial k x (whole_units units)) → (In u (whole_units units) → In u units) → In u (x ∷ units)
  by Compile (inl e) more = inl e
  by Compile (inr r) more = inr (more r)
  by (OfType s t) (inl e) more = inl e
  by (OfType s t) (inr r) more = inr (more r)
  by Partial r more = inr (more r)

-- ---- pairs

module _ {A K P : Type 0} (h : A → K) (f : K → K) (g : K → P) (outs : List (DwUnit K)) (placed : List (DwUnit P)) (shown : UnitsShown g outs placed) (closed : Closed outs) (one : OnePlace g outs)
    (apart : NoneTwice (units_keys placed)) where
  abbrev F : A → P
  F = λ x. g (f (h x))

  -- one unit
  unit_pair : (u : DwUnit A) (n : DwUnit K) (o : DwUnit K) (p : DwUnit P) → IsShownUnit h u n → UnitSame f outs n o → IsShownUnit g o p → In p placed → UnitSame F placed u p
  unit_pair u n o p first same last there =
      let s = units_placed g f (n ∷ []) outs placed shown closed one (λ x is. elim is [ inl e ↦ (o, subst (λ (w : DwUnit K). UnitSame f outs w o) e same) | inr r ↦ absurd r ]) n (inl refl) in
      let v : s.0 ≡ p = one_unit placed apart s.0 p s.1.there there (s.1.root.at ∙ ap g (sym same.root.at) ∙ sym last.root.at) in
      let t = units_named h (λ x. g (f x)) (u ∷ []) (n ∷ []) placed (first, tt)
      (λ x is. elim is [ inl e ↦ (s.0, subst (λ (w : DwUnit K). UnitSame (λ y. g (f y)) placed w s.0) e s.1) | inr r ↦ absurd r ]) u (inl refl) in
      let w : t.0 ≡ p = one_unit placed apart t.0 p t.1.there there (t.1.root.at ∙ ap (λ x. g (f x)) (sym first.root.at) ∙ ap g (sym same.root.at) ∙ sym last.root.at) in
      subst (λ (x : DwUnit P). UnitSame F placed u x) w t.1

  unit_pairs : (us : List (DwUnit A)) (ns : List (DwUnit K)) (os : List (DwUnit K)) (ps : List (DwUnit P)) → UnitsShown h us ns → EachTwo (UnitSame f outs) ns os → UnitsShown g os ps
      → ((p : DwUnit P) → In p ps → In p placed) → EachTwo (UnitSame F placed) us ps
  unit_pairs [] [] [] [] a b c there = tt
  unit_pairs (u ∷ us) (n ∷ ns) (o ∷ os) (p ∷ ps) a b c there = (unit_pair u n o p a.0 b.0 c.0 (there p (inl refl)), unit_pairs us ns os ps a.1 b.1 c.1 (λ x is. there x (inr is)))
  unit_pairs [] (n ∷ ns) os ps a b c there = absurd a
  unit_pairs (u ∷ us) [] os ps a b c there = absurd a
  unit_pairs [] [] (o ∷ os) ps a b c there = absurd b
  unit_pairs (u ∷ us) (n ∷ ns) [] ps a b c there = absurd b
  unit_pairs [] [] [] (p ∷ ps) a b c there = absurd c
  unit_pairs (u ∷ us) (n ∷ ns) (o ∷ os) [] a b c there = absurd c

module _ (scope : TopScope) (docs : List (Doc ℕ)) (rule : Rule) (placed : Each (λ doc. ArePlaced doc.units) docs) (is : IsAlike scope (units_of docs) rule.alike)
    (choice : IsChoice (units_of docs) rule) (file : ℕ) (doc : Doc ℕ) (nth : Nth 0 docs file doc) (g : EntryName → Place) (own common : List (DwUnit Place))
    (at : AreAt (plan_of rule docs) docs file g own common) where
  abbrev m : Move
  m = plan_of rule docs

  abbrev f : EntryName → EntryName
  f = image_in m

  abbrev h : ℕ → EntryName
  h = λ p. name_of_place docs (at_file file p)

  abbrev outs : List (DwUnit EntryName)
  outs = out_units m (units_of docs) file ++ common_units m

  abbrev news : List (DwUnit Place)
  news = own ++ common

  after : AreAfterOf (IsOfFile (units_of docs) file) m (units_of docs) outs
  after = file_outs (units_of docs) rule (file_numbers 0 docs) file

  shown : UnitsShown g outs news
  shown = shown_append g (out_units m (units_of docs) file) (common_units m) own common at.own_shown at.common_shown

  names : UnitsShown h doc.units (units_of_file file (units_of docs))
  names = subst (λ (w : List (DwUnit EntryName)). UnitsShown h doc.units w) (sym (doc_named file 0 0 0 docs doc nth)) (map_shown h doc.units)

  old : ArePlaced doc.units
  old = each_in (λ (d : Doc ℕ). ArePlaced d.units) doc docs placed (nth_in 0 docs file doc nth)

  pub pairs : IsPairing (λ p. g (f (h p))) (alone doc) (with_common own common)
  pairs = record {
    apart_from = λ u d is. absurd is;
    kinds = old.kinds;
    closed = old.closed;
    mains = old.mains;
    entries = entries_named h (λ s. g (f s)) doc.units (units_of_file file (units_of docs)) news names
        (entries_placed g f (units_of_file file (units_of docs)) outs news shown (name_entries scope docs rule placed is choice file outs after));
    types = types_named h (λ s. g (f s)) doc.units (units_of_file file (units_of docs)) news names
        (types_placed g f (units_of_file file (units_of docs)) outs news shown (name_types scope docs rule placed is choice file outs after));
    units = unit_pairs h f g outs news shown at.closed at.one at.apart doc.units (units_of_file file (units_of docs)) (whole_units (out_units m (units_of docs) file)) (whole_units own) names
        (name_units scope docs rule placed is choice file outs after) (whole_shown g (out_units m (units_of docs) file) own at.own_shown) (λ p there. in_left p own common (whole_in own p there));
    apart = at.apart;
  }

  pub same_meaning : CrossSame (alone doc) (with_common own common)
  same_meaning = cross_same (λ p. g (f (h p))) (alone doc) (with_common own common) pairs

-- ---- the old file with places of any kind, beside units that none of its references names

module _ (scope : TopScope) (docs : List (Doc ℕ)) (rule : Rule) (placed : Each (λ doc. ArePlaced doc.units) docs) (is : IsAlike scope (units_of docs) rule.alike)
    (choice : IsChoice (units_of docs) rule) (file : ℕ) (outs : List (DwUnit EntryName)) (after : AreAfterOf (IsOfFile (units_of docs) file) (plan_of rule docs) (units_of docs) outs)
    (g : EntryName → Place) (own common : List (DwUnit Place)) (own_shown : UnitsShown g (out_units (plan_of rule docs) (units_of docs) file) own) (shown : UnitsShown g outs (own ++ common))
    (outs_closed : Closed outs) (one : OnePlace g outs) (apart : NoneTwice (units_keys (own ++ common)))
    {A : Type 0} (h : A → EntryName) (v : WithCommon A) (names : UnitsShown h v.own (units_of_file file (units_of docs)))
    (kinds : (u : DwUnit A) → In u v.own → IsPartial u.kind → ⊥) (closed : Closed v.own) (mains : HaveMains v.own)
    (apart_from : (u : DwUnit A) (d : Seen A) → In u v.common → In d (all_seen v.own) → d.at ≡ u.root.at → ⊥) where
  -- what stands after in place of the file may be any units
  pub meets_in : CrossSame v (with_common own common)
  meets_in =
      let m = plan_of rule docs in
      let f = image_in m in
      cross_same (λ p. g (f (h p))) v (with_common own common) (record {
        apart_from = apart_from;
        kinds = kinds;
        closed = closed;
        mains = mains;
        entries = entries_named h (λ s. g (f s)) v.own (units_of_file file (units_of docs)) (own ++ common) names
            (entries_placed g f (units_of_file file (units_of docs)) outs (own ++ common) shown (name_entries scope docs rule placed is choice file outs after));
        types = types_named h (λ s. g (f s)) v.own (units_of_file file (units_of docs)) (own ++ common) names
            (types_placed g f (units_of_file file (units_of docs)) outs (own ++ common) shown (name_types scope docs rule placed is choice file outs after));
        units = unit_pairs h f g outs (own ++ common) shown outs_closed one apart v.own (units_of_file file (units_of docs)) (whole_units (out_units m (units_of docs) file)) (whole_units own) names
            (name_units scope docs rule placed is choice file outs after) (whole_shown g (out_units m (units_of docs) file) own own_shown) (λ p there. in_left p own common (whole_in own p there));
        apart = apart;
      })

-- such as those of the file and of the common file
pub meets : (scope : TopScope) (docs : List (Doc ℕ)) (rule : Rule) → Each (λ doc. ArePlaced doc.units) docs → IsAlike scope (units_of docs) rule.alike → IsChoice (units_of docs) rule
    → (file : ℕ) (g : EntryName → Place) (own common : List (DwUnit Place)) → AreAt (plan_of rule docs) docs file g own common
    → {A : Type 0} (h : A → EntryName) (v : WithCommon A) → UnitsShown h v.own (units_of_file file (units_of docs)) → ((u : DwUnit A) → In u v.own → IsPartial u.kind → ⊥) → Closed v.own
    → HaveMains v.own
    → ((u : DwUnit A) (d : Seen A) → In u v.common → In d (all_seen v.own) → d.at ≡ u.root.at → ⊥) → CrossSame v (with_common own common)
meets scope docs rule placed is choice file g own common at h v names kinds closed mains apart_from =
    let m = plan_of rule docs in
    meets_in scope docs rule placed is choice file (out_units m (units_of docs) file ++ common_units m) (file_outs (units_of docs) rule (file_numbers 0 docs) file) g own common at.own_shown
    (shown_append g (out_units m (units_of docs) file) (common_units m) own common at.own_shown at.common_shown) at.closed at.one at.apart h v names kinds closed mains apart_from

-- a file of documents, at places of it
pub named_at : (docs : List (Doc ℕ)) (file : ℕ) (doc : Doc ℕ) → Nth 0 docs file doc → UnitsShown (λ p. name_of_place docs (at_file file p)) doc.units (units_of_file file (units_of docs))
named_at docs file doc nth =
    subst (λ (w : List (DwUnit EntryName)). UnitsShown (λ p. name_of_place docs (at_file file p)) doc.units w) (sym (doc_named file 0 0 0 docs doc nth))
    (map_shown (λ p. name_of_place docs (at_file file p)) doc.units)
