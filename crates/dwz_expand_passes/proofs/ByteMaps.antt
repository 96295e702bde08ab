-- Units with other things for places: the same tables, the same bytes under the same numbers, and the same places.
use Rattle.std.proofs.Common.{◌≡◌, ℕ, ◌+◌, ◌-◌, Bool, true, false, List, [], ◌∷◌, ◌++◌, length, map, pos, refl, sym, ap, ◌∙◌}
use Rattle.std.proofs.lemmas.List.{map-append}
use Rattle.dwz_model.specs.declared.place.Pair.{Pair}
use Rattle.dwz_def_encoding.specs.Placing.{UnitSections, number_of_key, placed, sections, units_placed, zeros}
use Rattle.dwz_def_encoding.specs.Writing.{DeclarationShape, Numbering, abbrevs_of, any, attrs_bytes, base_place, code_bytes, code_in, declaration_shape, expr_bytes, first_place, if_any, joined}
use Rattle.dwz_def_encoding.specs.Writing.{kind_bytes, node_bytes, or_zero, table_in, pair_of, parts_bytes, shapes_in, spelled, stored_as}
use Rattle.dwz_def_encoding.specs.Writing.{table_of, table_offset, tables_of, tree_bytes, type_of, unit_bytes}
use Rattle.dwz_def_encoding.specs.Writing.{units_bytes, with_shape, with_table, written_header_size, written_unit_size, coded}
use Rattle.dwz_def_reading.specs.Abbrevs.{table_bytes}
use Rattle.dwz_def_reading.specs.Classes.{Class, OfCommonEntry, OfExpression, OfInfoEntry, OfUnitEntry, class_of}
use Rattle.dwz_def_reading.specs.Documents.{Attr, Compile, DwUnit, Entries, Expr, Kind, Node, OfType, Operand, Part, Partial, Plain, Same, attr_map, entries_map, kind_map, node_map, unit_map}
use Rattle.dwz_def_reading.specs.Patching.{number_in_width}
use Rattle.dwz_def_reading.specs.Spelling.{le_bytes}
use Rattle.dwz_def_reading.specs.Trees.{End, Entry}
use Rattle.dwz_def_reading.specs.Values.{Bytes, Number, value_bytes}

module _ {K L : Type 0} (f : K → L) where
  -- ---- shapes

  pairs_mapped : (attrs : List (Attr K)) → map pair_of (map (attr_map f) attrs) ≡ map pair_of attrs
  pairs_mapped [] = refl
  pairs_mapped (a ∷ attrs) = ap (λ (ps : List Pair). pair_of a ∷ ps) (pairs_mapped attrs)

  any_mapped : (g : Entries K) → any (entries_map f g) ≡ any g
  unfolding entries_map
  any_mapped End = refl
  any_mapped (Entry e c n) = refl

  shape_mapped : (e : Node K) (c : Entries K) → declaration_shape (node_map f e) (entries_map f c) ≡ declaration_shape e c
  shape_mapped e c = (λ i. record { tag = e.tag; children = any_mapped c i; pairs = pairs_mapped e.attrs i })

  shapes_mapped : (table : List DeclarationShape) (g : Entries K) → shapes_in table (entries_map f g) ≡ shapes_in table g
  unfolding shapes_in entries_map
  shapes_mapped table End = refl
  shapes_mapped table (Entry e c n) =
      ap (λ (s : DeclarationShape). shapes_in (shapes_in (with_shape table s) (entries_map f c)) (entries_map f n)) (shape_mapped e c)
      ∙ ap (λ (t : List DeclarationShape). shapes_in t (entries_map f n)) (shapes_mapped (with_shape table (declaration_shape e c)) c)
      ∙ shapes_mapped (shapes_in (with_shape table (declaration_shape e c)) c) n

  table_mapped : (u : DwUnit K) → table_of (unit_map f u) ≡ table_of u
  table_mapped u =
      ap (λ (s : DeclarationShape). shapes_in (with_shape [] s) (entries_map f u.below)) (shape_mapped u.root u.below) ∙ shapes_mapped (with_shape [] (declaration_shape u.root u.below)) u.below

  abbrevs_mapped : (u : DwUnit K) → abbrevs_of (unit_map f u) ≡ abbrevs_of u
  abbrevs_mapped u = ap (λ (t : List DeclarationShape). table_bytes (coded 1 t)) (table_mapped u)

  pub tables_mapped : (tables : List (List ℕ)) (units : List (DwUnit K)) → tables_of tables (map (unit_map f) units) ≡ tables_of tables units
  unfolding tables_of
  tables_mapped tables [] = refl
  tables_mapped tables (u ∷ units) =
      ap (λ (t : List ℕ). tables_of (with_table tables t) (map (unit_map f) units)) (abbrevs_mapped u) ∙ tables_mapped (with_table tables (abbrevs_of u)) units

  -- ---- bytes

  module _ (n : Numbering L) where
    -- the numbers of what the others stand for
    abbrev pub pulled : Numbering K
    pulled = record { place = λ k. n.place (f k) }

    first_mapped : (refs : List K) → first_place n (map f refs) ≡ first_place pulled refs
    first_mapped [] = refl
    first_mapped (k ∷ refs) = refl

    module _ (unit : ℕ) where
      parts_mapped : (parts : List Part) (refs : List K) → parts_bytes n unit parts (map f refs) ≡ parts_bytes pulled unit parts refs
      unfolding parts_bytes
      parts_mapped [] refs = refl
      parts_mapped (Same bytes ∷ parts) refs = ap (λ (w : List ℕ). bytes ++ w) (parts_mapped parts refs)
      parts_mapped (Operand width uleb base ∷ parts) [] = refl
      parts_mapped (Operand width uleb base ∷ parts) (k ∷ refs) = ap (λ (w : List ℕ). number_in_width uleb width (n.place (f k) - base_place unit base) ++ w) (parts_mapped parts refs)

      expr_mapped : (plain : Plain) (refs : List K) → expr_bytes n unit plain (map f refs) ≡ expr_bytes pulled unit plain refs
      expr_mapped (Expr parts) refs = parts_mapped parts refs
      expr_mapped _ refs = refl

      stored_mapped : (k : Class) (a : Attr K) → stored_as k n unit (attr_map f a) ≡ stored_as k pulled unit a
      stored_mapped OfExpression a = ap (λ (w : List ℕ). Bytes w) (expr_mapped a.value.plain a.value.refs)
      stored_mapped OfUnitEntry a = ap (λ (p : ℕ). Number (pos (p - unit))) (first_mapped a.value.refs)
      stored_mapped OfInfoEntry a = ap (λ (p : ℕ). Number (pos p)) (first_mapped a.value.refs)
      stored_mapped OfCommonEntry a = ap (λ (p : ℕ). Number (pos p)) (first_mapped a.value.refs)
      stored_mapped _ a = refl

      attrs_mapped : (attrs : List (Attr K)) → attrs_bytes n unit (map (attr_map f) attrs) ≡ attrs_bytes pulled unit attrs
      unfolding attrs_bytes
      attrs_mapped [] = refl
      attrs_mapped (a ∷ attrs) = (λ i. value_bytes a.form (stored_mapped (class_of a.form) a i) ++ attrs_mapped attrs i)

      pub node_mapped : (table : List DeclarationShape) (e : Node K) (c : Entries K) → node_bytes n unit table (node_map f e) (entries_map f c) ≡ node_bytes pulled unit table e c
      unfolding node_bytes
      node_mapped table e c = (λ i. code_bytes (code_in 1 table (shape_mapped e c i)) ++ attrs_mapped e.attrs i)

      pub if_mapped : (c : Entries K) (x y : List ℕ) → x ≡ y → if_any (entries_map f c) x ≡ if_any c y
      unfolding entries_map
      if_mapped End x y e = refl
      if_mapped (Entry d c k) x y e = e

      pub spelled_mapped : (table : List DeclarationShape) (g : Entries K) → spelled n unit table (entries_map f g) ≡ spelled pulled unit table g
      unfolding spelled entries_map
      spelled_mapped table End = refl
      spelled_mapped table (Entry e c k) = (λ i. node_mapped table e c i ++ (if_mapped c _ _ (spelled_mapped table c) i ++ spelled_mapped table k i))

      tree_mapped : (u : DwUnit K) → tree_bytes n unit (unit_map f u) ≡ tree_bytes pulled unit u
      unfolding tree_bytes
      tree_mapped u =
          ap (λ (t : List DeclarationShape). node_bytes n unit t (node_map f u.root) (entries_map f u.below) ++ if_any (entries_map f u.below) (spelled n unit t (entries_map f u.below)))
          (table_mapped u)
          ∙ (λ i. node_mapped (table_of u) u.root u.below i ++ if_mapped u.below _ _ (spelled_mapped (table_of u) u.below) i)

      kind_mapped : (k : Kind K) → kind_bytes n unit (kind_map f k) ≡ kind_bytes pulled unit k
      kind_mapped Compile = refl
      kind_mapped (OfType signature main) = refl
      kind_mapped Partial = refl

  type_mapped : (k : Kind K) → type_of (kind_map f k) ≡ type_of k
  type_mapped Compile = refl
  type_mapped (OfType signature main) = refl
  type_mapped Partial = refl

  header_mapped : (k : Kind K) → written_header_size (kind_map f k) ≡ written_header_size k
  header_mapped Compile = refl
  header_mapped (OfType signature main) = refl
  header_mapped Partial = refl

  size_mapped : (n : Numbering L) (unit : ℕ) (u : DwUnit K) → written_unit_size n unit (unit_map f u) ≡ written_unit_size (pulled n) unit u
  size_mapped n unit u = (λ i. header_mapped u.kind i + length (tree_mapped n unit u i))

  unit_mapped : (n : Numbering L) (offset unit : ℕ) (u : DwUnit K) → unit_bytes n offset unit (unit_map f u) ≡ unit_bytes (pulled n) offset unit u
  unfolding unit_bytes
  unit_mapped n offset unit u =
      (λ i. le_bytes 4 (size_mapped n unit u i - 4) ++ (le_bytes 2 5 ++ (type_mapped u.kind i ∷ 8 ∷ [] ++ (le_bytes 4 offset ++ (kind_mapped n unit u.kind i ++ tree_mapped n unit u i)))))

  offset_mapped : (tables : List (List ℕ)) (u : DwUnit K) → table_offset tables (unit_map f u) ≡ table_offset tables u
  offset_mapped tables u = ap (λ (t : List ℕ). or_zero (table_in 0 tables t)) (abbrevs_mapped u)

  units_mapped : (n : Numbering L) (tables : List (List ℕ)) (units : List (DwUnit K)) → units_bytes n tables (map (unit_map f) units) ≡ units_bytes (pulled n) tables units
  unfolding units_bytes
  units_mapped n tables [] = refl
  units_mapped n tables (u ∷ units) =
      ap (λ (o : ℕ). unit_bytes n o (n.place (f u.at)) (unit_map f u) ++ units_bytes n tables (map (unit_map f) units)) (offset_mapped tables u)
      ∙ (λ i. unit_mapped n (table_offset tables u) (n.place (f u.at)) u i ++ units_mapped n tables units i)

  pub sections_mapped : (n : Numbering L) (units : List (DwUnit K)) → sections n (map (unit_map f) units) ≡ sections (pulled n) units
  unfolding sections
  sections_mapped n units =
      ap (λ (t : List (List ℕ)). let s : UnitSections = record { info = units_bytes n t (map (unit_map f) units); abbrevs = joined t } in s) (tables_mapped [] units)
      ∙ ap (λ (w : List ℕ). let s : UnitSections = record { info = w; abbrevs = joined (tables_of [] units) } in s) (units_mapped n (tables_of [] units) units)

  -- ---- places

  abbrev pub at_other : K × ℕ → L × ℕ
  at_other p = (f p.0, p.1)

  placed_mapped : (table : List DeclarationShape) (at : ℕ) (g : Entries K) → placed table at (entries_map f g) ≡ map at_other (placed table at g)
  unfolding placed entries_map
  placed_mapped table at End = refl
  placed_mapped table at (Entry e c k) =
      let front : length (node_bytes zeros 0 table (node_map f e) (entries_map f c)) ≡ length (node_bytes zeros 0 table e c) = ap (λ (w : List ℕ). length w) (node_mapped zeros 0 table e c) in
      let inside : length (if_any (entries_map f c) (spelled zeros 0 table (entries_map f c))) ≡ length (if_any c (spelled zeros 0 table c)) =
      ap (λ (w : List ℕ). length w) (if_mapped zeros 0 c _ _ (spelled_mapped zeros 0 table c)) in
      let inner = at + length (node_bytes zeros 0 table e c) in
      let next = inner + length (if_any c (spelled zeros 0 table c)) in
      (λ i. (f e.at, at) ∷ (placed table (at + front i) (entries_map f c) ++ placed table (at + front i + inside i) (entries_map f k)))
      ∙ ap (λ (ps : List (L × ℕ)). (f e.at, at) ∷ ps)
      ((λ i. placed_mapped table inner c i ++ placed_mapped table next k i) ∙ sym (map-append at_other (placed table inner c) (placed table next k)))

  pub units_placed_mapped : (at : ℕ) (units : List (DwUnit K)) → units_placed at (map (unit_map f) units) ≡ map at_other (units_placed at units)
  unfolding units_placed
  units_placed_mapped at [] = refl
  units_placed_mapped at (u ∷ units) =
      let table = table_of u in
      let front : length (node_bytes zeros 0 (table_of (unit_map f u)) (node_map f u.root) (entries_map f u.below)) ≡ length (node_bytes zeros 0 table u.root u.below) =
      ap (λ (t : List DeclarationShape). length (node_bytes zeros 0 t (node_map f u.root) (entries_map f u.below))) (table_mapped u)
      ∙ ap (λ (w : List ℕ). length w) (node_mapped zeros 0 table u.root u.below) in
      let start = at + written_header_size u.kind in
      let inner = start + length (node_bytes zeros 0 table u.root u.below) in
      let next = at + written_unit_size zeros 0 u in
      (λ i. (f u.at, at) ∷ (f u.root.at, at + header_mapped u.kind i) ∷ (placed (table_mapped u i) (at + header_mapped u.kind i + front i) (entries_map f u.below)
      ++ units_placed (at + size_mapped zeros 0 u i) (map (unit_map f) units)))
      ∙ ap (λ (ps : List (L × ℕ)). (f u.at, at) ∷ (f u.root.at, start) ∷ ps)
      ((λ i. placed_mapped table inner u.below i ++ units_placed_mapped next units i) ∙ sym (map-append at_other (placed table inner u.below) (units_placed next units)))

  pub number_mapped : (same : K → K → Bool) (other : L → L → Bool) → ((a b : K) → other (f a) (f b) ≡ same a b) → (ps : List (K × ℕ)) (k : K)
      → number_of_key other (map at_other ps) (f k) ≡ number_of_key same ps k
  unfolding number_of_key
  number_mapped same other alike [] k = refl
  number_mapped same other alike (p ∷ ps) k = (λ i. elim (alike p.0 k i) as (λ _. ℕ) [ true ↦ p.1 | false ↦ number_mapped same other alike ps k i ])
