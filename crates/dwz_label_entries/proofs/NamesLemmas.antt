-- The names of spaces, one behind the other: each is the text that its entry has as a space of the unit.
use Rattle.std.proofs.Common.{◌≡◌, ℕ, suc, List, [], ◌∷◌, ◌++◌, length, map, Option, Some, None, Ok, slice_get, refl, sym, ap, subst, ◌∙◌}
use Rattle.std.specs.List.{flat_map}
use Rattle.std.proofs.lemmas.List.{append-nil, append_assoc, length-map}
use Rattle.dwz_def_tops.specs.Spots.{SpaceName, name_by}
use Rattle.dwz_def_reading.specs.Units.{RawUnit}
use Rattle.dwz_graph.specs.Chains.{AreSpacesAt, IsSpaceAt}
use Rattle.dwz_label.specs.Labels.{counted, each_counted, number}
use Rattle.dwz_def_reading.specs.Documents.{Attr, first_named}
use Rattle.dwz_def_reading.specs.Meanings.{Around, MeansNode, scope_of}
use Rattle.dwz_def_reading.specs.Meant.{node_meaning}
use Rattle.dwz_def_reading.proofs.MeaningUnits.{node_agrees}

-- ---- one space

name_text : (text : List ℕ) (o : Option (Attr ℕ)) → (name_by text o).text ≡ text
name_text text None = refl
name_text text (Some a) = refl

pub space_named : (raw : List RawUnit) (around : Around ℕ) (n e : ℕ) (x : SpaceName) (h : IsSpaceAt raw around n e x) → h.text ≡ x.text
space_named raw around n e x h = sym (ap (λ (w : SpaceName). w.text) h.is_name ∙ name_text h.text (first_named 0x03 h.d.attrs))

-- what it means in its unit
pub space_means : (raw : List RawUnit) (around : Around ℕ) (n e : ℕ) (x : SpaceName) (u : RawUnit) (h : IsSpaceAt raw around n e x) → slice_get raw n ≡ Some u
    → node_meaning (scope_of around u) h.row.entry ≡ Ok h.d
space_means raw around n e x u h is =
    let both : Some h.u ≡ Some u = sym h.is_unit ∙ is in
    let same : h.u ≡ u = cc in
    ((node_agrees (scope_of around u) h.row.entry).ok h.d).1 (subst (λ (w : RawUnit). MeansNode (scope_of around w) h.row.entry h.d) same h.means)

-- ---- all of them

many_spaces : (raw : List RawUnit) (around : Around ℕ) (n : ℕ) (names : List SpaceName) (spaces : List ℕ) → AreSpacesAt raw around n names spaces → length spaces ≡ length names
many_spaces raw around n [] [] h = refl
many_spaces raw around n [] (e ∷ spaces) h = absurd h
many_spaces raw around n (x ∷ names) [] h = absurd h
many_spaces raw around n (x ∷ names) (e ∷ spaces) h = ap suc (many_spaces raw around n names spaces h.1)

abbrev pub names_label : List SpaceName → List ℕ
names_label names = flat_map counted (map (λ x. x.text) names)

-- the names of the spaces that are left
pub record NamesLeft (raw : List RawUnit) (around : Around ℕ) (n : ℕ) (spaces out all : List ℕ) : Type 0 where
  pub names : List SpaceName
  pub are : AreSpacesAt raw around n names spaces
  pub bytes : out ++ names_label names ≡ all

pub names_all : (raw : List RawUnit) (around : Around ℕ) (n : ℕ) (names : List SpaceName) (spaces old out : List ℕ) → AreSpacesAt raw around n names spaces → out ≡ old ++ number (length spaces)
    → NamesLeft raw around n spaces out (old ++ each_counted counted (map (λ x. x.text) names))
names_all raw around n names spaces old out h is = record {
  names = names;
  are = h;
  bytes = ap (λ (w : List ℕ). w ++ names_label names) (is ∙ ap (λ (n : ℕ). old ++ number n) (many_spaces raw around n names spaces h ∙ sym (length-map names (λ x. x.text))))
      ∙ append_assoc old (number (length (map (λ (x : SpaceName). x.text) names))) (names_label names);
}

abbrev NameNext : List RawUnit → Around ℕ → ℕ → ℕ → List ℕ → List ℕ → List ℕ → Type 0
NameNext raw around n e spaces out all = (x : SpaceName) × IsSpaceAt raw around n e x × ((new : List ℕ) → new ≡ out ++ counted x.text → NamesLeft raw around n spaces new all)

of_names : (raw : List RawUnit) (around : Around ℕ) (n e : ℕ) (names : List SpaceName) (spaces out all : List ℕ) → AreSpacesAt raw around n names (e ∷ spaces) → out ++ names_label names ≡ all
    → NameNext raw around n e spaces out all
of_names raw around n e [] spaces out all h bytes = absurd h
of_names raw around n e (x ∷ names) spaces out all h bytes = (
  x,
  h.0,
  λ new is. record {
    names = names;
    are = h.1;
    bytes = ap (λ (w : List ℕ). w ++ names_label names) is ∙ append_assoc out (counted x.text) (names_label names) ∙ bytes;
  },
)

pub next_name : (raw : List RawUnit) (around : Around ℕ) (n e : ℕ) (left spaces out all : List ℕ) → left ≡ e ∷ spaces → NamesLeft raw around n left out all → NameNext raw around n e spaces out all
next_name raw around n e left spaces out all is h = of_names raw around n e h.names spaces out all (subst (λ (w : List ℕ). AreSpacesAt raw around n h.names w) is h.are) h.bytes

no_names : (raw : List RawUnit) (around : Around ℕ) (n : ℕ) (names : List SpaceName) (out all : List ℕ) → AreSpacesAt raw around n names [] → out ++ names_label names ≡ all → out ≡ all
no_names raw around n [] out all h bytes = sym (append-nil out) ∙ bytes
no_names raw around n (x ∷ names) out all h bytes = absurd h

pub no_name : (raw : List RawUnit) (around : Around ℕ) (n : ℕ) (left out all : List ℕ) → left ≡ [] → NamesLeft raw around n left out all → out ≡ all
no_name raw around n left out all is h = no_names raw around n h.names out all (subst (λ (w : List ℕ). AreSpacesAt raw around n h.names w) is h.are) h.bytes
