-- What entries are called, by their numbers.
use Rattle.std.proofs.Common.{◌≡◌, ℕ, ◌<◌, List, [], ◌∷◌, ◌++◌, length, Option, Some, slice_get, sym, ap, ◌∙◌, arith}
use Rattle.dwz_def_reading.specs.Documents.{DwUnit}
use Rattle.dwz_def_reading.specs.Meanings.{Common, scope_of}
use Rattle.dwz_def_reading.proofs.ListFacts.{got_in, got_index_or, got_map, got_there}
use Rattle.dwz_def_reading.proofs.MeaningUnits.{node_agrees}
use Rattle.dwz_def_check.specs.CrossNames.{AtPath, CrossName, PartRoot, PartSpace, WholeRoot, WholeSpace, cross_names_from}
use Rattle.dwz_graph.specs.Places.{place_at, places}
use Rattle.dwz_unit.specs.Rows.{EntryRow, rows_of}
use Rattle.std.specs.List.{flat_map}
use Rattle.std.proofs.lemmas.List.{append_assoc}
use Rattle.dwz_check_index.specs.declared.index.Stands.TheVariants.{InTop, PartialRoot, PartialSpace, UnitRoot, UnitSpace}
use Rattle.dwz_check_index.specs.Index.{Called, ListedEntry, names_in, path_in, stands_of}
use Rattle.dwz_def_check.specs.CrossLabels.{name_label, names_into}
use Rattle.dwz_label.specs.Labels.{counted, each_counted, number}
use Rattle.dwz_check_labels.specs.Told.{Tells}
use Rattle.dwz_check_labels.proofs.ToldLemmas.{tells_bytes}
use Rattle.dwz_check_labels.specs.declared.named_file.NamedFile.{NamedFile}
use Rattle.dwz_check_labels.specs.Files.{KnowsNames, around_beside, raw_in}
use Rattle.dwz_check_labels.proofs.EntryLemmas.{RowOf, row_of}

-- the entry with a number has that name
pub record NameOf (f : NamedFile) (said : List (DwUnit ℕ)) (top : ℕ) (i : ℕ) (x : CrossName) : Type 0 where
  pub called : Called
  pub found : slice_get (cross_names_from 0 top said) i ≡ Some called
  pub is : called.1 ≡ x

module _ (f : NamedFile) (common : Option (Common ℕ)) (said : List (DwUnit ℕ)) (place : ℕ → ℕ) (name : ℕ → CrossName) (k : KnowsNames f (around_beside f common) said place name) where
  -- the place of an entry is that of its row
  row_place : (i : ℕ) (row : EntryRow) → slice_get (rows_of (raw_in f)) i ≡ Some row → place_at (raw_in f) i ≡ row.entry.at
  row_place i row found = got_index_or (places (raw_in f)) i row.entry.at 0 (got_map (λ (w : EntryRow). w.entry.at) (rows_of (raw_in f)) i row found)

  -- the place of a name that stands at the place of an entry is that of the entry's row
  at_row : (i at : ℕ) (d : ListedEntry ℕ) → RowOf (around_beside f common) (raw_in f) i d → d.0.at ≡ at → at ≡ place_at (raw_in f) i
  at_row i at d r is =
      let node = ((node_agrees (scope_of (around_beside f common) r.u) r.row.entry).ok d.0).0 r.means in
      sym is ∙ node.place ∙ sym (row_place i r.row r.found)

  -- what stands for the place of an entry has its name
  named_so : (i : ℕ) (x : Called) → slice_get (cross_names_from 0 k.top said) i ≡ Some x → x.0 ≡ place_at (raw_in f) i → x.1 ≡ name (place (place_at (raw_in f) i))
  named_so i x found at = sym (k.named x.0 x.1 (got_in (cross_names_from 0 k.top said) i x found)) ∙ ap (λ (n : ℕ). name (place n)) at

  pub name_there : (i : ℕ) → i < length f.index.now.steps → NameOf f said k.top i (name (place (place_at (raw_in f) i)))
  name_there i lt =
      let shown = k.index.names in
      let many = shown.len in
      let called = got_there (cross_names_from 0 k.top said) i (omega (arith, lt, many)) in
      let step = got_there f.index.now.steps i lt in
      let is = shown.each i step.0 called.0 step.1 called.1 in
      let r = row_of (around_beside f common) (raw_in f) said i is.entry k.says.means is.found in
      record { called = called.0; found = called.1; is = named_so i called.0 called.1 (at_row i called.0.0 is.entry r is.place) }

-- ---- by what they stand in

pub path_told : (way path shown other old a b c : List ℕ) → path ≡ way → shown ≡ path → other ≡ path → a ≡ old ++ 1 ∷ [] → b ≡ a ++ number (length shown) → c ≡ b ++ flat_map number other
    → c ≡ old ++ 1 ∷ each_counted number way
path_told way path shown other old a b c is one two at_a at_b at_c =
    let steps = flat_map number way in
    let count = number (length way) in
    at_c ∙ ap (λ (w : List ℕ). b ++ flat_map number w) (two ∙ is)
    ∙ ap (λ (w : List ℕ). w ++ steps) (at_b ∙ ap (λ (w : List ℕ). a ++ number (length w)) (one ∙ is) ∙ ap (λ (w : List ℕ). w ++ count) at_a)
    ∙ append_assoc (old ++ 1 ∷ []) count steps ∙ append_assoc old (1 ∷ []) (count ++ steps)

pub in_top : (x : CrossName) (top : ℕ) (old new before after : List ℕ) → stands_of x ≡ InTop top → new ≡ old ++ 1 ∷ each_counted number (path_in x) → after ≡ before ++ top ∷ []
    → Tells (name_label x) (names_into (x ∷ [])) old new before after
in_top (AtPath n path) top old new before after e one two = (let same : n ≡ top = cc in record { bytes = one; tops = two ∙ ap (λ (w : ℕ). before ++ w ∷ []) (sym same) })
in_top (WholeRoot n) top old new before after e one two = absurd cc
in_top (WholeSpace n names) top old new before after e one two = absurd cc
in_top PartRoot top old new before after e one two = absurd cc
in_top (PartSpace names) top old new before after e one two = absurd cc

pub whole_root : (x : CrossName) (unit : ℕ) (old mid new before : List ℕ) → stands_of x ≡ UnitRoot unit → mid ≡ old ++ 2 ∷ [] → new ≡ mid ++ number unit
    → Tells (name_label x) (names_into (x ∷ [])) old new before before
whole_root (AtPath n path) unit old mid new before e one two = absurd cc
whole_root (WholeRoot n) unit old mid new before e one two =
    let same : n ≡ unit = cc in
    tells_bytes (2 ∷ number n) old new before (two ∙ ap (λ (w : List ℕ). w ++ number unit) one ∙ append_assoc old (2 ∷ []) (number unit) ∙ ap (λ (w : ℕ). old ++ 2 ∷ number w) (sym same))
whole_root (WholeSpace n names) unit old mid new before e one two = absurd cc
whole_root PartRoot unit old mid new before e one two = absurd cc
whole_root (PartSpace names) unit old mid new before e one two = absurd cc

pub whole_space : (x : CrossName) (unit : ℕ) (old a b new before : List ℕ) → stands_of x ≡ UnitSpace unit → a ≡ old ++ 3 ∷ [] → b ≡ a ++ number unit → new ≡ b ++ each_counted counted (names_in x)
    → Tells (name_label x) (names_into (x ∷ [])) old new before before
whole_space (AtPath n path) unit old a b new before e one two three = absurd cc
whole_space (WholeRoot n) unit old a b new before e one two three = absurd cc
whole_space (WholeSpace n names) unit old a b new before e one two three =
    let same : n ≡ unit = cc in
    let rest = each_counted counted names in
    tells_bytes (3 ∷ number n ++ rest) old new before
    (three ∙ ap (λ (w : List ℕ). w ++ rest) (two ∙ ap (λ (w : List ℕ). w ++ number unit) one ∙ append_assoc old (3 ∷ []) (number unit))
    ∙ append_assoc old (3 ∷ number unit) rest ∙ ap (λ (w : ℕ). old ++ (3 ∷ number w ++ rest)) (sym same))
whole_space PartRoot unit old a b new before e one two three = absurd cc
whole_space (PartSpace names) unit old a b new before e one two three = absurd cc

pub part_root : (x : CrossName) (old new before : List ℕ) → stands_of x ≡ PartialRoot → new ≡ old ++ 4 ∷ [] → Tells (name_label x) (names_into (x ∷ [])) old new before before
part_root (AtPath n path) old new before e one = absurd cc
part_root (WholeRoot n) old new before e one = absurd cc
part_root (WholeSpace n names) old new before e one = absurd cc
part_root PartRoot old new before e one = tells_bytes (4 ∷ []) old new before one
part_root (PartSpace names) old new before e one = absurd cc

pub part_space : (x : CrossName) (old a new before : List ℕ) → stands_of x ≡ PartialSpace → a ≡ old ++ 5 ∷ [] → new ≡ a ++ each_counted counted (names_in x)
    → Tells (name_label x) (names_into (x ∷ [])) old new before before
part_space (AtPath n path) old a new before e one two = absurd cc
part_space (WholeRoot n) old a new before e one two = absurd cc
part_space (WholeSpace n names) old a new before e one two = absurd cc
part_space PartRoot old a new before e one two = absurd cc
part_space (PartSpace names) old a new before e one two =
    let rest = each_counted counted names in
    tells_bytes (5 ∷ rest) old new before (two ∙ ap (λ (w : List ℕ). w ++ rest) one ∙ append_assoc old (5 ∷ []) rest)
