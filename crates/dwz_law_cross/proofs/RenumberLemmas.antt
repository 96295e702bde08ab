-- What a file says that has another number: the same, with places of that.
use Rattle.std.proofs.Common.{◌≡◌, ℕ, List, [], ◌∷◌, length, map, Option, refl, sym, ap, subst, ◌∙◌, arith}
use Rattle.dwz_def_reading.specs.Documents.{Attr, Compile, DwUnit, Entries, Kind, Node, OfType, Partial, attr_map, entries_map, kind_map, node_map, unit_map}
use Rattle.dwz_def_reading.specs.Faults.{map_ok}
use Rattle.dwz_def_reading.specs.Files.{debug_abbrev, debug_info}
use Rattle.dwz_def_reading.specs.Finished.{around_in}
use Rattle.dwz_def_reading.specs.Meanings.{Around, Common, number_of}
use Rattle.dwz_def_reading.specs.OtherPlaces.{AreCommonMapped, AreMapped}
use Rattle.dwz_def_reading.specs.Places.{Place, at_file}
use Rattle.dwz_def_reading.specs.Shared.{NoneShared}
use Rattle.dwz_def_reading.specs.Trees.{End, Entry}
use Rattle.dwz_def_reading.specs.Units.{RawUnit}
use Rattle.dwz_def_reading.proofs.ListsMapped.{lists_mapped}
use Rattle.dwz_def_reading.proofs.MeaningUnits.{units_agree}
use Rattle.dwz_def_reading.proofs.PlacesMapped.{units_mapped}
use Rattle.dwz_def_reading.proofs.PlacesRise.{entries_below, units_below}
use Rattle.dwz_def_tops.proofs.ShownLemmas.{kind_then}
use Rattle.dwz_def_encoding.specs.Meant.{placed_attr, placed_entries, placed_node, placed_unit, placed_units}
use Rattle.dwz_def_encoding.specs.Writing.{Numbering, stored}
use Rattle.dwz_def_readback.specs.Back.{SaysUnits}

-- ---- one map of places behind another

map_then : {A B C : Type 0} (f : B → C) (g : A → B) (h : A → C) → ((x : A) → f (g x) ≡ h x) → (xs : List A) → map f (map g xs) ≡ map h xs
map_then f g h same [] = refl
map_then {A} {B} {C} f g h same (x ∷ xs) = ap (λ (w : List C). f (g x) ∷ w) (map_then f g h same xs) ∙ ap (λ (w : C). w ∷ map h xs) (same x)

module _ {A B C : Type 0} (g : A → B) (f : B → C) (h : A → C) (same : (x : A) → f (g x) ≡ h x) where
  attr_then : (a : Attr A) → attr_map f (attr_map g a) ≡ attr_map h a
  attr_then a = ap (λ (w : List C). record { name = a.name; form = a.form; raw = a.raw; value = record { plain = a.value.plain; refs = w; address = a.value.address } })
      (map_then f g h same a.value.refs)

  node_then : (e : Node A) → node_map f (node_map g e) ≡ node_map h e
  node_then e =
      ap (λ (w : C). record { at = w; tag = e.tag; attrs = map (attr_map f) (map (attr_map g) e.attrs) }) (same e.at)
      ∙ ap (λ (w : List (Attr C)). record { at = h e.at; tag = e.tag; attrs = w }) (map_then (attr_map f) (attr_map g) (attr_map h) attr_then e.attrs)

  entries_then : (t : Entries A) → entries_map f (entries_map g t) ≡ entries_map h t
  unfolding entries_map
  entries_then End = refl
  entries_then (Entry e s t) =
      ap (λ (w : Node C). Entry w (entries_map f (entries_map g s)) (entries_map f (entries_map g t))) (node_then e)
      ∙ ap (λ (w : Entries C). Entry (node_map h e) w (entries_map f (entries_map g t))) (entries_then s)
      ∙ ap (λ (w : Entries C). Entry (node_map h e) (entries_map h s) w) (entries_then t)

  kind_of_then : (k : Kind A) → kind_map f (kind_map g k) ≡ kind_map h k
  kind_of_then Compile = refl
  kind_of_then (OfType signature main) = ap (λ (w : C). OfType signature w) (same main)
  kind_of_then Partial = refl

  unit_then : (u : DwUnit A) → unit_map f (unit_map g u) ≡ unit_map h u
  unit_then u =
      ap (λ (w : C). record { at = w; kind = kind_map f (kind_map g u.kind); root = node_map f (node_map g u.root); below = entries_map f (entries_map g u.below) }) (same u.at)
      ∙ ap (λ (w : Kind C). record { at = h u.at; kind = w; root = node_map f (node_map g u.root); below = entries_map f (entries_map g u.below) }) (kind_of_then u.kind)
      ∙ ap (λ (w : Node C). record { at = h u.at; kind = kind_map h u.kind; root = w; below = entries_map f (entries_map g u.below) }) (node_then u.root)
      ∙ ap (λ (w : Entries C). record { at = h u.at; kind = kind_map h u.kind; root = node_map h u.root; below = w }) (entries_then u.below)

  pub units_then : (units : List (DwUnit A)) → map (unit_map f) (map (unit_map g) units) ≡ map (unit_map h) units
  units_then units = map_then (unit_map f) (unit_map g) (unit_map h) unit_then units

module _ {K B C : Type 0} (n : Numbering K) (g : K → B) (f : B → C) where
  attr_placed : (unit : ℕ) (a : Attr K) → attr_map f (placed_attr n g unit a) ≡ placed_attr n (λ x. f (g x)) unit a
  attr_placed unit a = ap (λ (w : List C). record { name = a.name; form = a.form; raw = number_of (stored n unit a); value = record { plain = a.value.plain; refs = w; address = a.value.address } })
      (map_then f g (λ x. f (g x)) (λ x. refl) a.value.refs)

  node_placed : (unit : ℕ) (e : Node K) → node_map f (placed_node n g unit e) ≡ placed_node n (λ x. f (g x)) unit e
  node_placed unit e = ap (λ (w : List (Attr C)). record { at = f (g e.at); tag = e.tag; attrs = w })
      (map_then (attr_map f) (placed_attr n g unit) (placed_attr n (λ x. f (g x)) unit) (attr_placed unit) e.attrs)

  entries_placed : (unit : ℕ) (t : Entries K) → entries_map f (placed_entries n g unit t) ≡ placed_entries n (λ x. f (g x)) unit t
  unfolding entries_map placed_entries
  entries_placed unit End = refl
  entries_placed unit (Entry e s t) =
      ap (λ (w : Node C). Entry w (entries_map f (placed_entries n g unit s)) (entries_map f (placed_entries n g unit t))) (node_placed unit e)
      ∙ ap (λ (w : Entries C). Entry (placed_node n (λ x. f (g x)) unit e) w (entries_map f (placed_entries n g unit t))) (entries_placed unit s)
      ∙ ap (λ (w : Entries C). Entry (placed_node n (λ x. f (g x)) unit e) (placed_entries n (λ x. f (g x)) unit s) w) (entries_placed unit t)

  unit_placed : (u : DwUnit K) → unit_map f (placed_unit n g u) ≡ placed_unit n (λ x. f (g x)) u
  unit_placed u =
      let unit = n.place u.at in
      ap (λ (w : Kind C). record { at = f (g u.at); kind = w; root = node_map f (placed_node n g unit u.root); below = entries_map f (placed_entries n g unit u.below) }) (kind_then g f u.kind)
      ∙ ap (λ (w : Node C). record { at = f (g u.at); kind = kind_map (λ x. f (g x)) u.kind; root = w; below = entries_map f (placed_entries n g unit u.below) }) (node_placed unit u.root)
      ∙ ap (λ (w : Entries C). record { at = f (g u.at); kind = kind_map (λ x. f (g x)) u.kind; root = placed_node n (λ x. f (g x)) unit u.root; below = w }) (entries_placed unit u.below)

  pub placed_then : (units : List (DwUnit K)) → map (unit_map f) (placed_units n g units) ≡ placed_units n (λ x. f (g x)) units
  placed_then units = map_then (unit_map f) (placed_unit n g) (placed_unit n (λ x. f (g x))) unit_placed units

-- ---- a file with another number, beside a common file with another one

pub says_renumbered : (f : Place → Place) (common other : Option (Common Place)) (number new : ℕ) (bytes : List ℕ) (raw : List RawUnit) (units : List (DwUnit Place))
    → ((n : ℕ) → at_file new n ≡ f (at_file number n)) → AreCommonMapped f common other → SaysUnits common number bytes raw units → SaysUnits other new bytes raw (map (unit_map f) units)
says_renumbered f common other number new bytes raw units own mapped says =
    let bound = length (debug_info bytes) in
    let low = units_below (debug_abbrev bytes) says.mode 0 raw 0 (debug_info bytes) bound says.spelled (omega arith) in
    let a : Around Place = around_in common number bytes raw in
    let b : Around Place = around_in other new bytes raw in
    let are : AreMapped f bound a b = record { sources = refl; all = refl; below = entries_below bound raw low; place = λ n h. own n; common = mapped } in
    record {
      elf = says.elf;
      mode = says.mode;
      whole = says.whole;
      partial = says.partial;
      forms = says.forms;
      spelled = says.spelled;
      means = ((units_agree b raw).ok (map (unit_map f) units)).0 (units_mapped f bound a b are raw low ∙ ap (map_ok (map (unit_map f))) (((units_agree a raw).ok units).1 says.means));
      ranges = says.ranges;
      lists = subst NoneShared (sym (lists_mapped a b refl refl raw)) says.lists;
    }
