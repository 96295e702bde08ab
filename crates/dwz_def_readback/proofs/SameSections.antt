-- What is written of units depends on the places of their names and of what they name alone.
use Rattle.std.proofs.Common.{◌≡◌, ℕ, ◌+◌, ◌-◌, List, [], ◌∷◌, ◌++◌, length, map, pos, refl, ap, ◌∙◌, inl, inr}
use Rattle.dwz_def_reading.specs.Spelling.{le_bytes}
use Rattle.dwz_def_reading.specs.Lists.{Each, In}
use Rattle.dwz_def_reading.specs.Trees.{End, Entry}
use Rattle.dwz_def_reading.specs.Values.{Bytes, Number, Raw, value_bytes}
use Rattle.dwz_def_reading.proofs.ListFacts.{in_left, in_right}
use Rattle.dwz_def_reading.specs.Documents.{Attr, Compile, DwUnit, Entries, Expr, Kind, Node, OfType, Operand, Part, Partial, Plain, Same}
use Rattle.dwz_def_reading.specs.Classes.{OfCommonEntry, OfExpression, OfInfoEntry, OfUnitEntry}
use Rattle.dwz_def_reading.specs.Classes.{Class, class_of}
use Rattle.dwz_def_reading.specs.Patching.{number_in_width}
use Rattle.dwz_def_tops.specs.Seen.{Named, Seen, all_seen, named_value, see, seen, seen_below, seen_roots}
use Rattle.dwz_def_tops.proofs.Members.{each_of}
use Rattle.dwz_def_encoding.specs.Fitting.{EachAttr}
use Rattle.dwz_def_encoding.specs.Placing.{sections}
use Rattle.dwz_def_encoding.specs.Writing.{DeclarationShape, Numbering, attrs_bytes, base_place, code_bytes, code_in, expr_bytes, first_place, if_any, joined, kind_bytes, node_bytes, parts_bytes}
use Rattle.dwz_def_encoding.specs.Writing.{written_header_size}
use Rattle.dwz_def_encoding.specs.Writing.{declaration_shape, spelled, stored, stored_as, table_of, table_offset, tables_of, tree_bytes, type_of, unit_bytes, units_bytes}
use Rattle.dwz_def_readback.specs.Fewer.{AgreeOn, NameOnly}

module _ {K : Type 0} (m n : Numbering K) where
  abbrev pub At : K → Type 0
  At k = m.place k ≡ n.place k

  abbrev pub RefsAt : Attr K → Type 0
  RefsAt a = Each At a.value.refs

  module _ (unit : ℕ) where
    parts_same : (parts : List Part) (refs : List K) → Each At refs → parts_bytes m unit parts refs ≡ parts_bytes n unit parts refs
    unfolding parts_bytes
    parts_same [] refs at = refl
    parts_same (Same bytes ∷ parts) refs at = ap (λ (w : List ℕ). bytes ++ w) (parts_same parts refs at)
    parts_same (Operand width uleb base ∷ parts) [] at = refl
    parts_same (Operand width uleb base ∷ parts) (k ∷ refs) at =
        ap (λ (p : ℕ). number_in_width uleb width (p - base_place unit base) ++ parts_bytes m unit parts refs) at.0
        ∙ ap (λ (w : List ℕ). number_in_width uleb width (n.place k - base_place unit base) ++ w) (parts_same parts refs at.1)

    expr_same : (plain : Plain) (refs : List K) → Each At refs → expr_bytes m unit plain refs ≡ expr_bytes n unit plain refs
    expr_same (Expr parts) refs at = parts_same parts refs at
    expr_same _ refs at = refl

    first_same : (refs : List K) → Each At refs → first_place m refs ≡ first_place n refs
    first_same [] at = refl
    first_same (k ∷ refs) at = at.0

    stored_same : (c : Class) (a : Attr K) → RefsAt a → stored_as c m unit a ≡ stored_as c n unit a
    stored_same OfExpression a at = ap Bytes (expr_same a.value.plain a.value.refs at)
    stored_same OfUnitEntry a at = ap (λ (p : ℕ). Number (pos (p - unit))) (first_same a.value.refs at)
    stored_same OfInfoEntry a at = ap (λ (p : ℕ). Number (pos p)) (first_same a.value.refs at)
    stored_same OfCommonEntry a at = ap (λ (p : ℕ). Number (pos p)) (first_same a.value.refs at)
    stored_same _ a at = refl

    attrs_same : (attrs : List (Attr K)) → Each RefsAt attrs → attrs_bytes m unit attrs ≡ attrs_bytes n unit attrs
    unfolding attrs_bytes
    attrs_same [] at = refl
    attrs_same (a ∷ attrs) at =
        ap (λ (x : Raw). value_bytes a.form x ++ attrs_bytes m unit attrs) (stored_same (class_of a.form) a at.0)
        ∙ ap (λ (w : List ℕ). value_bytes a.form (stored n unit a) ++ w) (attrs_same attrs at.1)

    node_same : (table : List DeclarationShape) (e : Node K) (children : Entries K) → Each RefsAt e.attrs → node_bytes m unit table e children ≡ node_bytes n unit table e children
    unfolding node_bytes
    node_same table e children at = ap (λ (w : List ℕ). code_bytes (code_in 1 table (declaration_shape e children)) ++ w) (attrs_same e.attrs at)

    spelled_same : (table : List DeclarationShape) (g : Entries K) → EachAttr RefsAt g → spelled m unit table g ≡ spelled n unit table g
    unfolding spelled
    spelled_same table End at = refl
    spelled_same table (Entry e children next) at =
        ap (λ (w : List ℕ). w ++ (if_any children (spelled m unit table children) ++ spelled m unit table next)) (node_same table e children at.0)
        ∙ ap (λ (w : List ℕ). node_bytes n unit table e children ++ (if_any children w ++ spelled m unit table next)) (spelled_same table children at.1)
        ∙ ap (λ (w : List ℕ). node_bytes n unit table e children ++ (if_any children (spelled n unit table children) ++ w)) (spelled_same table next at.2)

    tree_same : (u : DwUnit K) → Each RefsAt u.root.attrs → EachAttr RefsAt u.below → tree_bytes m unit u ≡ tree_bytes n unit u
    unfolding tree_bytes
    tree_same u root below =
        ap (λ (w : List ℕ). w ++ if_any u.below (spelled m unit (table_of u) u.below)) (node_same (table_of u) u.root u.below root)
        ∙ ap (λ (w : List ℕ). node_bytes n unit (table_of u) u.root u.below ++ if_any u.below w) (spelled_same (table_of u) u.below below)

    kind_same : (kind : Kind K) → ((signature : ℕ) (main : K) → kind ≡ OfType signature main → At main) → kind_bytes m unit kind ≡ kind_bytes n unit kind
    kind_same Compile at = refl
    kind_same (OfType signature main) at = ap (λ (p : ℕ). le_bytes 8 signature ++ le_bytes 4 (p - unit)) (at signature main refl)
    kind_same Partial at = refl

  -- all that a unit names
  pub record UnitAt (u : DwUnit K) : Type 0 where
    pub unit : At u.at
    pub main : (signature : ℕ) (main : K) → u.kind ≡ OfType signature main → At main
    pub root : Each RefsAt u.root.attrs
    pub below : EachAttr RefsAt u.below

  unit_same : (offset unit : ℕ) (u : DwUnit K) → UnitAt u → unit_bytes m offset unit u ≡ unit_bytes n offset unit u
  unfolding unit_bytes
  unit_same offset unit u at =
      let tree = tree_same unit u at.root at.below in
      let kind = kind_same unit u.kind at.main in
      let with : List ℕ → List ℕ → List ℕ = λ k t. le_bytes 4 (written_header_size u.kind + length t - 4) ++ (le_bytes 2 5 ++ (type_of u.kind ∷ 8 ∷ [] ++ (le_bytes 4 offset ++ (k ++ t)))) in
      ap (λ (t : List ℕ). with (kind_bytes m unit u.kind) t) tree ∙ ap (λ (k : List ℕ). with k (tree_bytes n unit u)) kind

  units_same : (tables : List (List ℕ)) (units : List (DwUnit K)) → Each UnitAt units → units_bytes m tables units ≡ units_bytes n tables units
  unfolding units_bytes
  units_same tables [] at = refl
  units_same tables (u ∷ units) at =
      ap (λ (p : ℕ). unit_bytes m (table_offset tables u) p u ++ units_bytes m tables units) at.0.unit
      ∙ ap (λ (w : List ℕ). w ++ units_bytes m tables units) (unit_same (table_offset tables u) (n.place u.at) u at.0)
      ∙ ap (λ (w : List ℕ). unit_bytes n (table_offset tables u) (n.place u.at) u ++ w) (units_same tables units at.1)

  -- ---- from what is seen

  abbrev SeenAt : Seen K → Type 0
  SeenAt s = (a : Named K) → In a s.attrs → Each At a.value.refs

  attrs_at : (attrs : List (Attr K)) → ((a : Named K) → In a (map named_value attrs) → Each At a.value.refs) → Each RefsAt attrs
  attrs_at [] at = tt
  attrs_at (a ∷ attrs) at = (at (named_value a) (inl refl), attrs_at attrs (λ b there. at b (inr there)))

  entries_at : (g : Entries K) → ((s : Seen K) → In s (seen g) → SeenAt s) → EachAttr RefsAt g
  unfolding seen
  entries_at End at = tt
  entries_at (Entry e children next) at = (
    attrs_at e.attrs (at (see e children) (inl refl)),
    entries_at children (λ s there. at s (inr (in_left s (seen children) (seen next) there))),
    entries_at next (λ s there. at s (inr (in_right s (seen children) (seen next) there))),
  )

  units_at : (units : List (DwUnit K)) → ((s : Seen K) → In s (seen_roots units) → SeenAt s) → ((s : Seen K) → In s (seen_below units) → SeenAt s)
      → ((u : DwUnit K) → In u units → At u.at) → ((u : DwUnit K) (signature : ℕ) (main : K) → In u units → u.kind ≡ OfType signature main → At main) → Each UnitAt units
  unfolding seen_roots seen_below
  units_at [] roots below unit main = tt
  units_at (u ∷ units) roots below unit main = (
    record {
      unit = unit u (inl refl);
      main = λ s k is. main u s k (inl refl) is;
      root = attrs_at u.root.attrs (roots (see u.root u.below) (inl refl));
      below = entries_at u.below (λ s there. below s (in_left s (seen u.below) (seen_below units) there));
    },
    units_at units (λ s there. roots s (inr there)) (λ s there. below s (in_right s (seen u.below) (seen_below units) there)) (λ v there. unit v (inr there))
        (λ v s k there is. main v s k (inr there) is),
  )

  pub all_at : (names : List K) (units : List (DwUnit K)) → AgreeOn names m n → ((u : DwUnit K) → In u units → In u.at names) → NameOnly names units → Each UnitAt units
  all_at names units agree own only =
      let refs : (s : Seen K) → In s (all_seen units) → SeenAt s = λ s there a attr. each_of At a.value.refs (λ k ref. agree k (only.refs s a k there attr ref)) in
      units_at units (λ s there. refs s (in_left s (seen_roots units) (seen_below units) there)) (λ s there. refs s (in_right s (seen_roots units) (seen_below units) there))
      (λ u there. agree u.at (own u there)) (λ u s k there is. agree k (only.mains u s k there is))

  pub same_sections : (units : List (DwUnit K)) → Each UnitAt units → sections m units ≡ sections n units
  unfolding sections
  same_sections units at = ap (λ (info : List ℕ). record { info = info; abbrevs = joined (tables_of [] units) }) (units_same (tables_of [] units) units at)
