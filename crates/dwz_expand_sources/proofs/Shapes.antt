-- Units as they are stored, what they mean, and the same with other places: their plans are the same, since their shapes are.
use Rattle.std.proofs.Common.{◌≡◌, ℕ, suc, ◌+◌, Bool, true, false, List, [], ◌∷◌, ◌++◌, length, map, refl, sym, ap, ◌∙◌, arith}
use Rattle.std.specs.Prelude.{if◌then◌else◌, slice_index_or, ◌==◌}
use Rattle.dwz_def_reading.specs.Documents.{DwUnit, Entries, Kind, entries_map, unit_map}
use Rattle.dwz_def_reading.specs.Entries.{RawEntry}
use Rattle.dwz_def_reading.specs.Meanings.{Around, MeanEntries, MeanUnits, MeaningContext, MeansKind, MeansUnit, scope_of}
use Rattle.dwz_def_reading.specs.Trees.{End, Entry, Forest, size}
use Rattle.dwz_def_reading.specs.Units.{CompileUnit, PartialUnit, RawKind, RawUnit, TypeUnit, entries_in}
use Rattle.dwz_graph.proofs.ListMeans.{means_size}
use Rattle.dwz_unit.specs.Rows.{kind_number}
use Rattle.dwz_expand_sources.specs.declared.sources.SourceRange.{SourceRange}
use Rattle.dwz_expand_sources.specs.declared.spans.UnitSpan.{UnitSpan}
use Rattle.dwz_expand_sources.specs.Building.{Known, Shape, kept_ranges, kind_said, part_ranges, range_if, ranges_in, said_shape, shape_count, spans_from, stored_shape, unit_span, with_new, with_unit, with_units}
use Rattle.dwz_expand_sources.specs.Sources.{Sources}
use Rattle.dwz_expand_sources.proofs.ListSteps.{kept_import, kept_plain}

-- ---- what is stored, and what that means

kind_means : (s : MeaningContext ℕ) (k : RawKind) (kind : Kind ℕ) → MeansKind s k kind → kind_number k ≡ kind_said kind
kind_means s CompileUnit kind h = ap (λ (w : Kind ℕ). kind_said w) (sym h)
kind_means s PartialUnit kind h = ap (λ (w : Kind ℕ). kind_said w) (sym h)
kind_means s (TypeUnit signature type_offset) kind h = ap (λ (w : Kind ℕ). kind_said w) (sym h.1)

kept_means : (s : MeaningContext ℕ) (importing : List Bool) (from at : ℕ) (f : Forest RawEntry) (g : Entries ℕ) → MeanEntries s f g → kept_ranges importing from at f ≡ kept_ranges importing from at g
unfolding kept_ranges
kept_means s importing from at End End h = refl
kept_means s importing from at End (Entry d c n) h = absurd h
kept_means s importing from at (Entry e c n) End h = absurd h
kept_means s importing from at (Entry e c n) (Entry d c' n') h = by (slice_index_or importing at false) refl (λ from. kept_means s importing from (at + 1 + size c) n n' h.2) where
  len : size c ≡ size c'
  len = means_size s c c' h.1

  by : (b : Bool) → slice_index_or importing at false ≡ b → ((from : ℕ) → kept_ranges importing from (at + 1 + size c) n ≡ kept_ranges importing from (at + 1 + size c) n')
      → kept_ranges importing from at (Entry e c n) ≡ kept_ranges importing from at (Entry d c' n')
  by false is next =
      kept_plain importing from at e c n is ∙ next from ∙ (λ j. kept_ranges importing from (at + 1 + len j) n') ∙ sym (kept_plain importing from at d c' n' is)
  by true is next =
      kept_import importing from at e c n is
      ∙ ap (λ (w : List SourceRange). range_if from at ++ w) (next (at + 1 + size c) ∙ (λ j. kept_ranges importing (at + 1 + len j) (at + 1 + len j) n'))
      ∙ sym (kept_import importing from at d c' n' is)

module _ (around : Around ℕ) (k : Known) where
  ranges_mean : (n root : ℕ) (u : RawUnit) (v : DwUnit ℕ) → MeansUnit around u v → ranges_in k n root (stored_shape u) ≡ ranges_in k n root (said_shape v)
  ranges_mean n root u v h =
      let s = scope_of around u in
      let kind = kind_means s u.kind v.kind h.kind in
      let len = means_size s u.below v.below h.below in
      let kept = kept_means s k.importing (root + 1) (root + 1) u.below v.below h.below in
      (λ j. if kind j == 1 then kept j ++ part_ranges k.spans (slice_index_or k.imports n []) else range_if (root + 1) (root + 1 + len j))

  pub units_mean : (n root : ℕ) (raw : List RawUnit) (said : List (DwUnit ℕ)) (x : Sources) → MeanUnits around raw said
      → with_units k n root (map stored_shape raw) x ≡ with_units k n root (map said_shape said) x
  unfolding with_units
  units_mean n root [] [] x h = refl
  units_mean n root [] (v ∷ said) x h = absurd h
  units_mean n root (u ∷ raw) [] x h = absurd h
  units_mean n root (u ∷ raw) (v ∷ said) x h =
      let kind = kind_means (scope_of around u) u.kind v.kind h.0.kind in
      let len = means_size (scope_of around u) u.below v.below h.0.below in
      let one : with_unit k n root (stored_shape u) x ≡ with_unit k n root (said_shape v) x
      = (λ j. if kind j == 3 then x else with_new n root (ranges_mean n root u v h.0 j) x) in
      units_mean (n + 1) (root + (size u.below + 1)) raw said (with_unit k n root (stored_shape u) x) h.1
      ∙ (λ j. with_units k (n + 1) (root + (len j + 1)) (map said_shape said) (one j))

pub spans_mean : (around : Around ℕ) (root : ℕ) (raw : List RawUnit) (said : List (DwUnit ℕ)) → MeanUnits around raw said → spans_from root (map stored_shape raw) ≡ spans_from root (map said_shape said)
unfolding spans_from
spans_mean around root [] [] h = refl
spans_mean around root [] (v ∷ said) h = absurd h
spans_mean around root (u ∷ raw) [] h = absurd h
spans_mean around root (u ∷ raw) (v ∷ said) h =
    let len = means_size (scope_of around u) u.below v.below h.0.below in
    ap (λ (w : List UnitSpan). unit_span root (root + (size u.below + 1)) ∷ w) (spans_mean around (root + (size u.below + 1)) raw said h.1)
    ∙ (λ j. unit_span root (root + (len j + 1)) ∷ spans_from (root + (len j + 1)) (map said_shape said))

-- ---- the same with other places

size_same : {P Q : Type 0} (f : P → Q) (g : Entries P) → size (entries_map f g) ≡ size g
unfolding entries_map
size_same f End = refl
size_same f (Entry d c n) = λ j. size_same f c j + size_same f n j + 1

pub spans_map : {P Q : Type 0} (f : P → Q) (root : ℕ) (units : List (DwUnit P)) → spans_from root (map said_shape (map (unit_map f) units)) ≡ spans_from root (map said_shape units)
unfolding spans_from
spans_map f root [] = refl
spans_map f root (u ∷ units) =
    let len = size_same f u.below in
    ap (λ (w : List UnitSpan). unit_span root (root + (size (entries_map f u.below) + 1)) ∷ w) (spans_map f (root + (size (entries_map f u.below) + 1)) units)
    ∙ (λ j. unit_span root (root + (len j + 1)) ∷ spans_from (root + (len j + 1)) (map said_shape units))

-- ---- one list of units behind the other

pub spans_append : {E : Type 0} (root : ℕ) (a b : List (Shape E)) → spans_from root (a ++ b) ≡ spans_from root a ++ spans_from (root + shape_count a) b
unfolding spans_from shape_count
spans_append {E} root [] b = let e : root ≡ root + 0 = omega arith in ap (λ (r : ℕ). spans_from r b) e
spans_append {E} root (s ∷ a) b =
    let e : root + (size s.below + 1) + shape_count a ≡ root + (size s.below + 1 + shape_count a) = omega arith in
    ap (λ (w : List UnitSpan). unit_span root (root + (size s.below + 1)) ∷ w)
    (spans_append (root + (size s.below + 1)) a b ∙ ap (λ (r : ℕ). spans_from (root + (size s.below + 1)) a ++ spans_from r b) e)

pub stored_count : (raw : List RawUnit) → shape_count (map stored_shape raw) ≡ entries_in raw
unfolding shape_count entries_in
stored_count [] = refl
stored_count (u ∷ raw) = omega (arith, stored_count raw)

pub count_means : (around : Around ℕ) (raw : List RawUnit) (said : List (DwUnit ℕ)) → MeanUnits around raw said → shape_count (map stored_shape raw) ≡ shape_count (map said_shape said)
unfolding shape_count
count_means around [] [] h = refl
count_means around [] (v ∷ said) h = absurd h
count_means around (u ∷ raw) [] h = absurd h
count_means around (u ∷ raw) (v ∷ said) h = omega (arith, means_size (scope_of around u) u.below v.below h.0.below, count_means around raw said h.1)

pub means_length : (around : Around ℕ) (raw : List RawUnit) (said : List (DwUnit ℕ)) → MeanUnits around raw said → length said ≡ length raw
means_length around [] [] h = refl
means_length around [] (v ∷ said) h = absurd h
means_length around (u ∷ raw) [] h = absurd h
means_length around (u ∷ raw) (v ∷ said) h = ap suc (means_length around raw said h.1)

pub spans_long : {E : Type 0} (root : ℕ) (a : List (Shape E)) → length (spans_from root a) ≡ length a
unfolding spans_from
spans_long root [] = refl
spans_long root (s ∷ a) = ap suc (spans_long (root + (size s.below + 1)) a)
