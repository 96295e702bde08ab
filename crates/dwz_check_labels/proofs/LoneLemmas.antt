-- An entry by itself, and entries one behind the other.
use Rattle.std.proofs.Common.{◌≡◌, ℕ, ◌+◌, ◌<◌, ◌≤◌, List, [], ◌∷◌, ◌++◌, length, drop, map, Ok, Some, slice_get, refl, sym, ap, subst, ◌∙◌, arith}
use Rattle.std.specs.List.{flat_map}
use Rattle.dwz_def_reading.specs.Documents.{DwUnit, Node, attr_map, entries_map, node_map}
use Rattle.dwz_def_reading.specs.Meant.{node_meaning}
use Rattle.dwz_def_reading.specs.Trees.{size}
use Rattle.dwz_def_reading.specs.Units.{RawUnit}
use Rattle.dwz_def_reading.proofs.ListFacts.{drop_first}
use Rattle.dwz_graph.proofs.TreeLemmas.{node_attrs}
use Rattle.dwz_unit.proofs.RowsFound.{row_is}
use Rattle.dwz_unit.specs.declared.rows.RawEntry.{RawEntry as EntryOfCode}
use Rattle.dwz_unit.specs.Rows.{EntryRow, shown_entries}
use Rattle.dwz_label.specs.Labels.{counted, each_counted, number}
use Rattle.dwz_def_cross.specs.Tops.{CrossTop}
use Rattle.dwz_def_check.specs.CrossLabels.{cross_attr_label, cross_entries_label, cross_entries_targets, cross_label, cross_targets, cross_top_map, lone_label, lone_targets}
use Rattle.dwz_def_check.specs.CrossNames.{CrossName}
use Rattle.dwz_check_index.specs.Index.{ListedEntry, listed, listed_units}
use Rattle.dwz_check_labels.specs.declared.source.Source.{Source}
use Rattle.dwz_check_labels.specs.Entries.{IsEntryOf, entry_into, entry_label}
use Rattle.dwz_check_labels.specs.Files.{KnowsSource, around_at, raw_of, scope_at}
use Rattle.dwz_check_labels.specs.Told.{Tells}
use Rattle.dwz_check_labels.specs.Values.{attrs_into}
use Rattle.dwz_check_labels.proofs.EntryLemmas.{listed_into, listed_label, mapped_size, row_of}
use Rattle.dwz_check_labels.proofs.ToldLemmas.{IsLeft, left_done, left_more, tells_behind}

-- ---- one entry

-- what is shown of it is that of a row, which means it
pub record UnitAt (x : Source) (i : ℕ) (d : ListedEntry ℕ) (e : EntryOfCode) : Type 0 where
  pub row : EntryRow
  pub is : IsEntryOf x e.unit i row d.0
  pub tag : d.0.tag ≡ e.tag
  pub end : e.end ≡ i + 1 + size d.1

pub unit_at : (x : Source) (said : List (DwUnit ℕ)) (name : ℕ → CrossName) → KnowsSource x said name → (i : ℕ) (d : ListedEntry ℕ) (e : EntryOfCode) → slice_get (listed_units said) i ≡ Some d
    → slice_get (shown_entries (raw_of x)) i ≡ Some e → UnitAt x i d e
unit_at x said name k i d e found shown =
    let raw = raw_of x in
    let r = row_of (around_at x) raw said i d k.own.says.means found in
    let same = row_is raw i e r.row shown r.found in
    let unit : r.row.unit ≡ e.unit = ap (λ (w : EntryOfCode). w.unit) same in
    record {
      row = r.row;
      is = record {
        found = r.found;
        unit = unit;
        means = λ u there. (
            let both : Some r.u ≡ Some u = sym r.is_unit ∙ ap (λ (n : ℕ). slice_get raw n) unit ∙ there in
            let one : r.u ≡ u = cc in
            subst (λ (w : RawUnit). node_meaning (scope_at x w) r.row.entry ≡ Ok d.0) one r.means);
      };
      tag = (node_attrs (scope_at x r.u) r.row.entry d.0 r.means).1 ∙ ap (λ (w : EntryOfCode). w.tag) same;
      end = sym (ap (λ (w : EntryOfCode). w.end) same) ∙ r.ends;
    }

pub lone_told : (name : ℕ → CrossName) (d : Node ℕ) (tag : ℕ) (old mid new before after : List ℕ) → d.tag ≡ tag → mid ≡ old ++ number tag
    → Tells (each_counted cross_attr_label (map (attr_map name) d.attrs)) (attrs_into name d.attrs) mid new before after
    → Tells (lone_label (node_map name d)) (lone_targets (node_map name d)) old new before after
lone_told name d tag old mid new before after is one two =
    tells_behind (number d.tag) (each_counted cross_attr_label (map (attr_map name) d.attrs)) (attrs_into name d.attrs) old mid new before after (one ∙ ap (λ (n : ℕ). old ++ number n) (sym is)) two

-- ---- several

-- the entries that are left
pub record EntriesLeft (entries : List (ListedEntry ℕ)) (name : ℕ → CrossName) (i end : ℕ) (out old all now before numbers : List ℕ) : Type 0 where
  pub ds : List (ListedEntry ℕ)
  pub after : List (ListedEntry ℕ)
  pub found : drop i entries ≡ ds ++ after
  pub many : i + length ds ≡ end
  pub left : IsLeft (flat_map (entry_label name) ds) (flat_map (entry_into name) ds) out old all now before numbers

abbrev pub NextEntry : List (ListedEntry ℕ) → (ℕ → CrossName) → ℕ → ℕ → List ℕ → List ℕ → List ℕ → List ℕ → List ℕ → List ℕ → Type 0
NextEntry entries name i end out old all now before numbers =
    (d : ListedEntry ℕ) × (slice_get entries i ≡ Some d)
    × ((new next : List ℕ) → Tells (entry_label name d) (entry_into name d) out new now next → EntriesLeft entries name (i + 1) end new old all next before numbers)

next_of : (entries ds after : List (ListedEntry ℕ)) (name : ℕ → CrossName) (i end : ℕ) (out old all now before numbers : List ℕ) → i < end → drop i entries ≡ ds ++ after → i + length ds ≡ end
    → IsLeft (flat_map (entry_label name) ds) (flat_map (entry_into name) ds) out old all now before numbers → NextEntry entries name i end out old all now before numbers
next_of entries [] after name i end out old all now before numbers lt found many left = absurd (omega (arith, lt, many))
next_of entries (d ∷ ds) after name i end out old all now before numbers lt found many left =
    let f = drop_first entries i d (ds ++ after) found in (
      d,
      f.0,
      λ new next told. record {
        ds = ds;
        after = after;
        found = f.1;
        many = omega (arith, many);
        left = left_more (entry_label name d) (entry_into name d) _ _ _ _ out old new all now next before numbers refl refl told left;
      },
    )

pub next_entry : (entries : List (ListedEntry ℕ)) (name : ℕ → CrossName) (i end : ℕ) (out old all now before numbers : List ℕ) → i < end
    → EntriesLeft entries name i end out old all now before numbers → NextEntry entries name i end out old all now before numbers
next_entry entries name i end out old all now before numbers lt h = next_of entries h.ds h.after name i end out old all now before numbers lt h.found h.many h.left

none_of : (ds : List (ListedEntry ℕ)) (name : ℕ → CrossName) (i end : ℕ) (out old all now before numbers : List ℕ) → end ≤ i → i + length ds ≡ end
    → IsLeft (flat_map (entry_label name) ds) (flat_map (entry_into name) ds) out old all now before numbers → Tells all numbers old out before now
none_of [] name i end out old all now before numbers le many left = left_done [] [] out old all now before numbers refl refl left
none_of (d ∷ ds) name i end out old all now before numbers le many left = absurd (omega (arith, le, many))

pub no_entry : (entries : List (ListedEntry ℕ)) (name : ℕ → CrossName) (i end : ℕ) (out old all now before numbers : List ℕ) → end ≤ i
    → EntriesLeft entries name i end out old all now before numbers → Tells all numbers old out before now
no_entry entries name i end out old all now before numbers le h = none_of h.ds name i end out old all now before numbers le h.many h.left

-- ---- a top

pub top_told : (name : ℕ → CrossName) (t : CrossTop ℕ) (names : List (List ℕ)) (old mid new before after : List ℕ) → names ≡ t.names → mid ≡ old ++ each_counted counted names
    → Tells (flat_map (entry_label name) ((t.node, t.below) ∷ listed t.below)) (flat_map (entry_into name) ((t.node, t.below) ∷ listed t.below)) mid new before after
    → Tells (cross_label (cross_top_map name t)) (cross_targets (cross_top_map name t)) old new before after
top_told name t names old mid new before after are one two =
    let own = lone_label (node_map name t.node) in
    let into = lone_targets (node_map name t.node) in
    let below = cross_entries_label (entries_map name t.below) in
    let told : Tells ((number (size (entries_map name t.below)) ++ own) ++ below) (into ++ cross_entries_targets (entries_map name t.below)) mid new before after = record {
      bytes = two.bytes ∙ ap (λ (w : List ℕ). mid ++ ((number (size t.below) ++ own) ++ w)) (listed_label name t.below)
          ∙ ap (λ (n : ℕ). mid ++ ((number n ++ own) ++ below)) (sym (mapped_size name t.below));
      tops = two.tops ∙ ap (λ (w : List ℕ). before ++ (into ++ w)) (listed_into name t.below);
    } in
    tells_behind (each_counted counted t.names) ((number (size (entries_map name t.below)) ++ own) ++ below) (into ++ cross_entries_targets (entries_map name t.below)) old mid new before after
    (one ∙ ap (λ (w : List (List ℕ)). old ++ each_counted counted w) are) told
