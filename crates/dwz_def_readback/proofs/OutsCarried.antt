-- The units after are carried, as those before are.
use Rattle.std.proofs.Common.{◌≡◌, ℕ, Bool, true, false, List, [], map, refl, sym, ap, subst, ◌∙◌, arith, inl, inr}
use Rattle.dwz_def_reading.specs.Documents.{Compile, DwUnit, Entries, Kind, Node, OfType, Partial, kind_map, language}
use Rattle.dwz_def_reading.specs.Lists.{Each, In}
use Rattle.dwz_def_reading.specs.Trees.{End, Entry}
use Rattle.dwz_def_tops.specs.Lists.{Nth}
use Rattle.dwz_def_tops.proofs.Members.{each_append, each_of, in_map_from}
use Rattle.dwz_def_tops.specs.Spots.{EntryName, FileUnit, PartialOf, PartialRoot, Top, rows_of_root, tops_of}
use Rattle.dwz_def_tops.proofs.RowLemmas.{unit_row}
use Rattle.dwz_def_tops.proofs.Tops.{unit_of}
use Rattle.dwz_def_images.specs.IsPlan.{Has, OfSpace, OfTop}
use Rattle.dwz_def_tops.specs.Alike.{IsAlike, TopScope}
use Rattle.dwz_def_images.specs.Homes.{IsChoice, Local, Rule}
use Rattle.dwz_def_images.specs.Moves.{Move, image_in, plan}
use Rattle.dwz_def_images.proofs.RowParts.{kept_is}
use Rattle.dwz_def_images.proofs.PartRows.{part_is as part_row_is}
use Rattle.dwz_def_images.proofs.HeldLemmas.{row_found}
use Rattle.dwz_def_readback.proofs.HomeLemmas.{kept_from, part_is, parts_from, top_file}
use Rattle.dwz_def_readback.proofs.SpaceLemmas.{NameCarried, space_carried, top_names}
use Rattle.dwz_def_images.specs.Plan.{PartialUnit, import_of, imports, kept_row}
use Rattle.dwz_def_images.proofs.KeptLemmas.{are_imports}
use Rattle.dwz_def_images.specs.After.{AreOld, IsBelow}
use Rattle.dwz_def_tops.specs.UnitNames.{IsNamedBelow}
use Rattle.dwz_def_images.specs.Held.{IsHeld}
use Rattle.dwz_def_images.specs.Units.{changes, kept_below, kept_unit, kept_units, out_units, partial_unit, partial_units, tree}
use Rattle.dwz_def_images.proofs.KindLemmas.{kept_kinded}
use Rattle.dwz_def_images.proofs.NodeLemmas.{EntryOfTop, FromLast, FromSpace, FromTop, NodeFrom, below_row, node_from, top_below, type_kept, under_below}
use Rattle.dwz_def_images.proofs.OldRows.{item_under, row_kinded, tops_among}
use Rattle.dwz_def_encoding.specs.Carried.{CarriedAttr, CarriedEntries, CarriedNode, CarriedUnit, From}
use Rattle.dwz_def_encoding.specs.Meant.{KindSays, entry_keys}
use Rattle.dwz_def_encoding.proofs.CarriedMaps.{entries_carried, kind_carried, node_carried, unit_carried}
use Rattle.dwz_def_encoding.specs.Bases.{Bases, bases_in}
use Rattle.dwz_def_readback.proofs.CarriedRoots.{RootsCarried}
use Rattle.dwz_def_readback.specs.Files.{bases_at, origin_in}
use Rattle.dwz_def_readback.proofs.OriginLemmas.{bases_found, part_origin}

module _ (from : From) (origin : Bases) where
  below_node : (g : Entries EntryName) → CarriedEntries from origin g → (e : Node EntryName) → IsBelow e g → CarriedNode from origin e
  below_node End is e h = absurd h
  below_node (Entry d g k) is e (inl x) = subst (CarriedNode from origin) x is.0
  below_node (Entry d g k) is e (inr (inl a)) = below_node g is.1 e a
  below_node (Entry d g k) is e (inr (inr b)) = below_node k is.2 e b

  nodes_below : (g : Entries EntryName) → ((e : Node EntryName) → IsBelow e g → CarriedNode from origin e) → CarriedEntries from origin g
  nodes_below End are = tt
  nodes_below (Entry d g k) are = (are d (inl refl), nodes_below g (λ e h. are e (inr (inl h))), nodes_below k (λ e h. are e (inr (inr h))))

  import_carried : (unit n : ℕ) → CarriedNode from origin (import_of unit n)
  import_carried unit n = record { some_tag = omega arith; tag_fits = omega arith; attrs = (inr (inl (record { name = refl; form = refl; target = PartialRoot n; value = refl })), tt) }

module _ (from : From) (units : List (FileUnit EntryName)) (m : Move) (old : AreOld units) (held : IsHeld units m) (Good : ℕ → Type 0)
    (are : (i : ℕ) (u : FileUnit EntryName) → Nth 0 units i u → Good u.file → CarriedUnit from (bases_in u.unit) u.unit) where
  abbrev f : EntryName → EntryName
  f = image_in m

  pub top_carried : (t : Top) → In t (tops_of units) → Good t.file → (d : Node EntryName) → EntryOfTop d t → CarriedNode from (bases_at units t.unit) d
  top_carried t there good d x =
      let o = unit_of units t there in
      let r = unit_row units t.unit o.unit o.nth o.compile in
      subst (λ (b : Bases). CarriedNode from b d) (sym (bases_found units 0 t.unit t.unit o.unit o.nth (omega arith)))
      (below_node from (bases_in o.unit.unit) o.unit.unit.below (are t.unit o.unit o.nth (subst Good o.file_is good)).below d
      (top_below o.unit.file t.unit (language o.unit.unit) [] r.first (rows_of_root units t.unit) o.unit.unit.below r.is t o.in_row d x))

  pub new_carried : (n : ℕ) (part : PartialUnit) → Nth 0 m.parts n part → (origin : Bases) → Each (CarriedAttr from origin) (m.roots n)
      → ((names : List (List ℕ)) (d : Node EntryName) → Has names (OfSpace d) (m.rows n) → CarriedNode from origin d) → ((t : Top) → In t part.tops → bases_at units t.unit ≡ origin)
      → ((names : List (List ℕ)) (t : Top) → In t (tops_of units) → In t part.tops → Good t.file)
      → ((names : List (List ℕ)) (t : Top) → Has names (OfTop t) (m.rows n) → In t part.tops) → CarriedUnit from origin (partial_unit m n)
  new_carried n part nth origin root spaces same good tops = record {
    kind = refl;
    main = tt;
    root = record { some_tag = omega arith; tag_fits = omega arith; attrs = root };
    below = nodes_below from origin (tree f (m.rows n) End) (λ e h. go e (node_from f (m.rows n) End (held.kinds n part nth) e h));
  }
    where
      go : (e : Node EntryName) → NodeFrom f (m.rows n) End e → CarriedNode from origin e
      go e (FromTop names t has d x y) =
          (let there = held.tops n part nth names t has in
          let in_part = tops names t has in
          subst (CarriedNode from origin) (sym y) (node_carried from origin f d (subst (λ (b : Bases). CarriedNode from b d) (same t in_part) (top_carried t there (good names t there in_part) d x))))
      go e (FromSpace names d has y) = subst (CarriedNode from origin) (sym y) (node_carried from origin f d (spaces names d has))
      go e (FromLast z) = absurd z

  import_below : (origin : Bases) (i : ℕ) (e : Node EntryName) → IsBelow e (imports i 0 m.parts) → CarriedNode from origin e
  import_below origin i e h =
      let a = are_imports i m.parts in
      let o = in_map_from (import_of i) e a.parts_imported (below_row (map (import_of i) a.parts_imported) e (subst (IsBelow e) a.entries_are h)) in
      subst (CarriedNode from origin) o.is (import_carried from origin i o.source)

  changed_below : (i : ℕ) (u : FileUnit EntryName) → Nth 0 units i u → Good u.file → u.unit.kind ≡ Compile
      → CarriedEntries from (bases_in u.unit) (tree f (kept_row m.gone units i) (imports i 0 m.parts))
  changed_below i u nth good kind =
      nodes_below from (bases_in u.unit) (tree f (kept_row m.gone units i) (imports i 0 m.parts)) (λ e h. go e (node_from f (kept_row m.gone units i) (imports i 0 m.parts)
      (kept_kinded m.gone units i (row_kinded u.file i (language u.unit) [] (unit_row units i u nth kind).first (rows_of_root units i) u.unit.below (unit_row units i u nth kind).is)) e h))
    where
      go : (e : Node EntryName) → NodeFrom f (kept_row m.gone units i) (imports i 0 m.parts) e → CarriedNode from (bases_in u.unit) e
      go e (FromTop names t has d x y) =
          (let r = unit_row units i u nth kind in
          let in_row = tops_among (rows_of_root units i) names t ((kept_is m.gone units i names (OfTop t)).0 has).0 in
          let below = top_below u.file i (language u.unit) [] r.first (rows_of_root units i) u.unit.below r.is t in_row d x in
          subst (CarriedNode from (bases_in u.unit)) (sym y) (node_carried from (bases_in u.unit) f d (below_node from (bases_in u.unit) u.unit.below (are i u nth good).below d below)))
      go e (FromSpace names d has y) =
          (let r = unit_row units i u nth kind in
          let under = item_under u.file i (language u.unit) [] r.first (rows_of_root units i) u.unit.below r.is names (OfSpace d) ((kept_is m.gone units i names (OfSpace d)).0 has).0 in
          subst (CarriedNode from (bases_in u.unit)) (sym y) (node_carried from (bases_in u.unit) f d
          (below_node from (bases_in u.unit) u.unit.below (are i u nth good).below d (under_below names d u.unit.below under))))
      go e (FromLast z) = import_below (bases_in u.unit) i e z

  below_carried : (i : ℕ) (u : FileUnit EntryName) → Nth 0 units i u → Good u.file → (k : Kind EntryName) → u.unit.kind ≡ k → (b : Bool)
      → CarriedEntries from (bases_in u.unit) (kept_below m units b i k u.unit.below)
  below_carried i u nth good Compile e true = changed_below i u nth good e
  below_carried i u nth good Compile e false = entries_carried from (bases_in u.unit) f u.unit.below (are i u nth good).below
  below_carried i u nth good (OfType signature main) e true = entries_carried from (bases_in u.unit) f u.unit.below (are i u nth good).below
  below_carried i u nth good (OfType signature main) e false = entries_carried from (bases_in u.unit) f u.unit.below (are i u nth good).below
  below_carried i u nth good Partial e true = entries_carried from (bases_in u.unit) f u.unit.below (are i u nth good).below
  below_carried i u nth good Partial e false = entries_carried from (bases_in u.unit) f u.unit.below (are i u nth good).below

  pub kept_carried : (i : ℕ) (u : FileUnit EntryName) → Nth 0 units i u → Good u.file → (k : Kind EntryName) → u.unit.kind ≡ k → CarriedUnit from (bases_in u.unit) (kept_unit m units i u)
  kept_carried i u nth good (OfType signature main) e = subst (CarriedUnit from (bases_in u.unit)) (sym (type_kept units m old i u nth signature main e))
      (unit_carried from (bases_in u.unit) f u.unit (are i u nth good))
  kept_carried i u nth good Partial e = absurd (subst (λ (w : Kind EntryName). IsNamedBelow i w (rows_of_root units i) u.unit.below) e (old.units_named i u nth).below)
  kept_carried i u nth good Compile e =
      let is = are i u nth good in
      record {
        kind = kind_carried from (bases_in u.unit) f u.unit.kind u.unit.root.tag is.kind;
        main = subst (λ (w : Kind EntryName). KindSays (entry_keys (kept_unit m units i u)) (kind_map f w)) (sym e) tt;
        root = node_carried from (bases_in u.unit) f u.unit.root is.root;
        below = below_carried i u nth good u.unit.kind refl (changes m units u.file);
      }

-- ---- the spaces of a partial unit

pub part_spaces : (from : From) (scope : TopScope) (units : List (FileUnit EntryName)) (rule : Rule) → (is : IsAlike scope units rule.alike) → (choice : IsChoice units rule) → (files : List ℕ)
    → (n : ℕ) (part : PartialUnit) → Nth 0 (plan rule units files).parts n part
    → ((t : Top) → In t part.tops → (i : ℕ) (u : FileUnit EntryName) → Nth 0 units i u → u.file ≡ t.file → CarriedUnit from (bases_in u.unit) u.unit)
    → (names : List (List ℕ)) (d : Node EntryName) → Has names (OfSpace d) ((plan rule units files).rows n) → CarriedNode from (origin_in (plan rule units files) units (PartialOf n)) d
part_spaces from scope units rule is choice files n part nth are names d has =
    let origin = origin_in (plan rule units files) units (PartialOf n) in
    let o = (part_row_is n part).spaces_are names d (subst (Has names (OfSpace d)) (row_found rule units files n part nth) has) in
    let b = ((part_is scope units rule is choice files n part nth).tops o.top).0 o.there in
    let s = top_names from units o.top b.there (are o.top o.there) o.name o.from in
    subst (CarriedNode from origin) (sym o.is)
    (space_carried from origin n o.chain o.depth o.name (subst (λ (w : Bases). NameCarried from w o.name) (part_origin scope units rule is choice files n part nth o.top o.there) s))

-- ---- the units of a file

module _ (from : From) (scope : TopScope) (units : List (FileUnit EntryName)) (rule : Rule) (is : IsAlike scope units rule.alike) (choice : IsChoice units rule) (files : List ℕ) (old : AreOld units)
    (held : IsHeld units (plan rule units files)) (file : ℕ)
    (are : (i : ℕ) (u : FileUnit EntryName) → Nth 0 units i u → u.file ≡ file → CarriedUnit from (bases_in u.unit) u.unit) (own : RootsCarried from (plan rule units files) units (Local file)) where
  abbrev m : Move
  m = plan rule units files

  -- as the unit that values come from says
  abbrev IsCarried : DwUnit EntryName → Type 0
  IsCarried v = CarriedUnit from (origin_in m units v.at) v

  part_carried : (v : DwUnit EntryName) → In v (partial_units m (Local file) 0 m.parts) → IsCarried v
  part_carried v there =
      let o = parts_from m (Local file) 0 m.parts v there in
      let holds : (names : List (List ℕ)) (t : Top) → Has names (OfTop t) (m.rows o.number) → In t o.part.tops = λ names t has.
      (((part_row_is o.number o.part).tops_are names t).0 (subst (Has names (OfTop t)) (row_found rule units files o.number o.part o.nth) has)).0 in
      subst IsCarried o.is (new_carried from units m old held (λ x. x ≡ file) are o.number o.part o.nth (origin_in m units (PartialOf o.number)) (own o.number o.part o.nth o.home_is)
      (part_spaces from scope units rule is choice files o.number o.part o.nth
      (λ t in_part i u nth of. are i u nth (of ∙ top_file scope units rule is choice files file o.number o.part o.nth o.home_is t in_part)))
      (part_origin scope units rule is choice files o.number o.part o.nth)
      (λ names t there in_part. top_file scope units rule is choice files file o.number o.part o.nth o.home_is t in_part) holds)

  old_carried : (v : DwUnit EntryName) → In v (kept_units m units file 0 units) → IsCarried v
  old_carried v there =
      let o = kept_from m units file 0 units v there in
      let known : bases_in o.unit.unit ≡ origin_in m units o.unit.unit.at =
      sym (ap (origin_in m units) (old.units_named o.number o.unit o.nth).unit ∙ bases_found units 0 o.number o.number o.unit o.nth (omega arith)) in
      subst IsCarried o.is (subst (λ (b : Bases). CarriedUnit from b (kept_unit m units o.number o.unit)) known
      (kept_carried from units m old held (λ x. x ≡ file) are o.number o.unit o.nth o.file_is o.unit.unit.kind refl))

  -- they are carried, as those of the file before
  pub out_carried : Each IsCarried (out_units m units file)
  unfolding out_units
  out_carried =
      each_append IsCarried (partial_units m (Local file) 0 m.parts) (kept_units m units file 0 units)
      (each_of IsCarried (partial_units m (Local file) 0 m.parts) part_carried) (each_of IsCarried (kept_units m units file 0 units) old_carried)
