-- The partial units of the common file in a move are its units as they stand.
use Rattle.std.proofs.Common.{◌≡◌, ◌+◌, ◌-◌, List, [], ◌∷◌, length, map, Option, Some, refl, sym, ap, ◌∙◌, arith}
use Rattle.std.specs.Prelude.{slice_get, unwrap_or}
use Rattle.std.specs.Option.{option_map}
use Rattle.dwz_def_reading.specs.Lists.{Each}
use Rattle.dwz_def_reading.specs.Trees.{End, Entry}
use Rattle.dwz_def_reading.specs.Documents.{Attr, Entries, Partial, attr_map, entries_map}
use Rattle.dwz_def_tops.specs.Lists.{Nth}
use Rattle.dwz_def_tops.specs.Spots.{ASpace, ATop, FileUnit, Nothing, PartialOf, PartialRoot, Row, EntryName, rows_of_root}
use Rattle.dwz_def_tops.proofs.RowLemmas.{unit_row}
use Rattle.dwz_def_images.specs.Moves.{image_in}
use Rattle.dwz_def_images.specs.Units.{tree}
use Rattle.dwz_def_images.proofs.KeyLemmas.{tree_is}
use Rattle.dwz_def_taken.specs.Beside.{together}
use Rattle.dwz_def_taken.specs.MoveLaws.{StandingLaw, SameOn}
use Rattle.dwz_def_taken.specs.Over.{as_part, common_root, common_row, move_over, row_map}
use Rattle.dwz_def_taken.proofs.MapsTwice.{entries_then, node_then}
use Rattle.dwz_def_taken.proofs.PlaceLemmas.{nth_move, nth_right}
use Rattle.dwz_model.proofs.Members.{nth_get}

tree_map : (g h : EntryName → EntryName) (row : Row) (last : Entries EntryName) → tree g (row_map h row) last ≡ tree (λ s. g (h s)) row last
unfolding tree row_map
tree_map g h Nothing last = refl
tree_map g h (ATop t next) last =
    let a = node_then h g t.node in let b = entries_then h g t.below in let c = tree_map g h next last in λ i. Entry (a i) (b i) (c i)
tree_map g h (ASpace e inner next) last =
    let a = node_then h g e in let b = tree_map g h inner End in let c = tree_map g h next last in λ i. Entry (a i) (b i) (c i)

-- ---- one on all names

refs_same : (g h : EntryName → EntryName) (xs : List EntryName) → Each (λ s. g s ≡ h s) xs → map g xs ≡ map h xs
refs_same g h [] e = refl
refs_same g h (x ∷ xs) e = let a = e.0 in let b = refs_same g h xs e.1 in λ i. a i ∷ b i

attrs_same : (g h : EntryName → EntryName) (xs : List (Attr EntryName)) → Each (λ a. Each (λ s. g s ≡ h s) a.value.refs) xs → map (attr_map g) xs ≡ map (attr_map h) xs
attrs_same g h [] e = refl
attrs_same g h (a ∷ xs) e =
    let head : attr_map g a ≡ attr_map h a = ap (λ (rs : List EntryName). record { name = a.name; form = a.form; raw = a.raw; value = record { plain = a.value.plain; refs = rs; address = a.value.address } }) (refs_same g h a.value.refs e.0) in
    let rest = attrs_same g h xs e.1 in
    λ i. head i ∷ rest i

entries_same : (g h : EntryName → EntryName) (f : Entries EntryName) → SameOn g h f → entries_map g f ≡ entries_map h f
unfolding entries_map
entries_same g h End e = refl
entries_same g h (Entry d children next) e =
    let at = e.0.0 in let attrs = attrs_same g h d.attrs e.0.1 in let b = entries_same g h children e.1 in let c = entries_same g h next e.2 in
    λ i. Entry (record { at = at i; tag = d.tag; attrs = attrs i }) (b i) (c i)

-- ---- the unit

given_is : {X : Type 0} (o : Option X) (x y : X) → o ≡ Some y → unwrap_or o x ≡ y
given_is o x y e = ap (λ (w : Option _). unwrap_or w x) e

pub standing : StandingLaw
standing r fixed files p f s =
    let m = move_over r fixed files in
    let first = length r.units in
    let got : slice_get r.commons p ≡ Some f = nth_get 0 r.commons p p f s.nth (omega arith) in
    let here : Nth 0 (together r) (first + p) f = nth_right 0 r.units r.commons (first + p) f (nth_move 0 (0 + first) r.commons p (first + p) f s.nth (omega arith)) in
    let row = unit_row (together r) (first + p) f here s.kind in
    let rows : m.rows p ≡ common_row r p = given_is (option_map (λ g. common_row r p) (slice_get r.commons p)) _ (common_row r p) (ap (option_map (λ (g : FileUnit EntryName). common_row r p)) got) in
    let roots : m.roots p ≡ map (attr_map (as_part first)) f.unit.root.attrs = given_is (option_map (common_root r) (slice_get r.commons p)) _ (map (attr_map (as_part first)) f.unit.root.attrs) (ap (option_map (common_root r)) got) in
    let below : tree (image_in m) (m.rows p) End ≡ entries_map (as_part first) f.unit.below =
    ap (λ (w : Row). tree (image_in m) w End) rows ∙ tree_map (image_in m) (as_part first) (rows_of_root (together r) (first + p)) End
    ∙ tree_is f.file (first + p) _ (λ x. image_in m (as_part first x)) [] row.first (rows_of_root (together r) (first + p)) f.unit.below row.is
    ∙ entries_same (λ x. image_in m (as_part first x)) (as_part first) f.unit.below s.own in
    let number : first + p - first ≡ p = omega arith in
    let at : PartialOf p ≡ as_part first f.unit.at = ap PartialOf (sym number) ∙ ap (as_part first) (sym s.unit) in
    let root_at : PartialRoot p ≡ as_part first f.unit.root.at = ap PartialRoot (sym number) ∙ ap (as_part first) (sym s.root) in
    let tag : 0x3c ≡ f.unit.root.tag = sym s.tag in
    λ i. record { at = at i; kind = Partial; root = record { at = root_at i; tag = tag i; attrs = roots i }; below = below i }
