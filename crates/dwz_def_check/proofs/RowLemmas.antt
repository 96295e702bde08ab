-- Units mean the same exactly if their rows are the same.
use Rattle.std.proofs.Common.{◌≡◌, ℕ, ◌<◌, List, length, refl, sym, ap, subst, ◌∙◌, inl, inr}
use Rattle.std.specs.Prelude.{◌↔◌, reverse, slice_index}
use Rattle.std.proofs.lemmas.List.{reverse-reverse}
use Rattle.dwz_def_reading.specs.Documents.{Compile, DwUnit, Kind, Node as EntryNode, OfType, Partial}
use Rattle.dwz_def_reading.specs.Lists.{In}
use Rattle.dwz_def_reading.proofs.ListFacts.{in_left}
use Rattle.dwz_def_tops.specs.Seen.{InCompile}
use Rattle.dwz_nodes.specs.Graph.{Node}
use Rattle.dwz_nodes.specs.Looks.{Alike, IsRefined}
use Rattle.dwz_def_cross.specs.Tops.{CrossTop, IsTopOf, StandsAlong, type_top}
use Rattle.dwz_def_cross.specs.CrossLook.{CrossAlike, CrossNode}
use Rattle.dwz_def_cross.specs.CrossSame.{OneKind, SpacesAlike, TypesAlike, UnitsAlike}
use Rattle.dwz_def_check.specs.CrossNames.{AreSides, AtPath, IsNameOf, IsNthTop, IsWellRead, Side}
use Rattle.dwz_def_check.specs.CrossLabels.{cross_label, cross_targets, cross_top_map}
use Rattle.dwz_def_check.specs.CrossNodes.{AreCrossNodes, IsNthLone}
use Rattle.dwz_def_check.specs.CrossRows.{AreJust, Classed, CompileRow, HasSpaceClass, HasTopClass, IsCrossRow, IsKindRow, RowsSame, SameMembers, TypeRow, UnitRow}
use Rattle.dwz_def_check.proofs.Classes.{alike_class, class_alike, expanded_number, space_number}
use Rattle.dwz_def_check.proofs.CrossLooks.{alike_equal, alike_from, alike_to, lone_from, lone_to}
use Rattle.dwz_def_check.proofs.Naming.{one_name}
use Rattle.dwz_def_check.proofs.TopLists.{numbered}

-- one path leads to the type of a type unit
one_path : {P : Type 0} (s : Side P) → IsWellRead s.files → (u : DwUnit P) (signature : ℕ) (main : P) → In u s.files.own → u.kind ≡ OfType signature main → (path other : List ℕ)
    → StandsAlong path u.root u.below main → StandsAlong other u.root u.below main → path ≡ other
one_path {P} s read u signature main is kind path other h j =
    let n = numbered s (type_top u) (u, in_left u s.files.own s.files.common is, subst (λ (k : Kind P). IsTopOf k u (type_top u)) (sym kind) (refl, refl, refl)) in
    let named : (way : List ℕ) → StandsAlong way u.root u.below main → IsNameOf s main (AtPath n.0 (reverse way)) =
    λ way k. (type_top u, n.1, subst (λ (w : List ℕ). StandsAlong w u.root u.below main) (sym (reverse-reverse way)) k) in
    let same : AtPath n.0 (reverse path) ≡ AtPath n.0 (reverse other) = one_name s read main (AtPath n.0 (reverse path)) (AtPath n.0 (reverse other)) (named path h) (named other j) in
    let turned : reverse path ≡ reverse other = cc in
    sym (reverse-reverse path) ∙ ap (λ (w : List ℕ). reverse w) turned ∙ reverse-reverse other

module _ {P Q : Type 0} (s : Side P) (t : Side Q) (g : List Node) (classes : List ℕ) (sides : AreSides s t) (nodes : AreCrossNodes s t g) (refined : IsRefined g classes) where
  old_below : (m : ℕ) (a : CrossTop P) → IsNthTop s m a → m < length g
  old_below m a is = (nodes.old m (cross_label (cross_top_map s.name a)) (cross_targets (cross_top_map s.name a)) (inl (a, is, refl, refl))).0

  new_below : (n : ℕ) (b : CrossTop Q) → IsNthTop t n b → n < length g
  new_below n b js = (nodes.new n (cross_label (cross_top_map t.name b)) (cross_targets (cross_top_map t.name b)) (inl (b, js, refl, refl))).0

  old_lone_below : (m : ℕ) (d : EntryNode P) → IsNthLone s m d → m < length g
  old_lone_below m d is = (nodes.old m _ _ (inr (d, is, refl, refl))).0

  new_lone_below : (n : ℕ) (e : EntryNode Q) → IsNthLone t n e → n < length g
  new_lone_below n e js = (nodes.new n _ _ (inr (e, js, refl, refl))).0

  -- ---- one class

  top_alike : (m n : ℕ) (a : CrossTop P) (b : CrossTop Q) → IsNthTop s m a → IsNthTop t n b → slice_index classes m ≡ slice_index classes n → Alike g m n
  top_alike m n a b is js e = class_alike g classes refined m n (old_below m a is) (new_below n b js) e

  top_from : (m n : ℕ) (a : CrossTop P) (b : CrossTop Q) → IsNthTop s m a → IsNthTop t n b → slice_index classes m ≡ slice_index classes n → CrossAlike s.files t.files a b
  top_from m n a b is js e = alike_from s t sides g nodes m n a b is js (top_alike m n a b is js e)

  top_to : (m n : ℕ) (a : CrossTop P) (b : CrossTop Q) → IsNthTop s m a → IsNthTop t n b → CrossAlike s.files t.files a b → slice_index classes m ≡ slice_index classes n
  top_to m n a b is js h = alike_class g classes refined m n (old_below m a is) (new_below n b js) (alike_to s t sides g nodes m n a b is js h)

  node_from : (m n : ℕ) (d : EntryNode P) (e : EntryNode Q) → IsNthLone s m d → IsNthLone t n e → slice_index classes m ≡ slice_index classes n → CrossNode (CrossAlike s.files t.files) s.files t.files d e
  node_from m n d e is js same = lone_from s t sides g nodes m n d e is js (class_alike g classes refined m n (old_lone_below m d is) (new_lone_below n e js) same)

  node_to : (m n : ℕ) (d : EntryNode P) (e : EntryNode Q) → IsNthLone s m d → IsNthLone t n e → CrossNode (CrossAlike s.files t.files) s.files t.files d e → slice_index classes m ≡ slice_index classes n
  node_to m n d e is js h = alike_class g classes refined m n (old_lone_below m d is) (new_lone_below n e js) (lone_to s t sides g nodes m n d e is js h)

  module _ (u : DwUnit P) (x : DwUnit Q) (is : In u s.files.own) (js : In x t.files.own) where
    -- ---- compile units

    module _ (kind : u.kind ≡ Compile) (other : x.kind ≡ Compile) (spaces tops : List Classed) (spaces' tops' : List Classed)
        (just : AreJust (HasSpaceClass s classes u) spaces) (just' : AreJust (HasSpaceClass t classes x) spaces') (all : AreJust (HasTopClass s classes u) tops) (all' : AreJust (HasTopClass t classes x) tops') where
      inside_from : SameMembers spaces spaces' → SameMembers tops tops' → SpacesAlike s.files t.files u x
      inside_from h j = record {
        spaces = λ names d i. (
            let n = space_number s u names d is kind i in
            let o = (just' (names, slice_index classes n.0)).0 ((h (names, slice_index classes n.0)).0 ((just (names, slice_index classes n.0)).1 (d, n.0, i, n.1, refl))) in
            (o.0, o.2, node_from n.0 o.1 d o.0 n.1 o.3 (sym o.4)));
        no_more = λ names e i. (
            let n = space_number t x names e js other i in
            let o = (just (names, slice_index classes n.0)).0 ((h (names, slice_index classes n.0)).1 ((just' (names, slice_index classes n.0)).1 (e, n.0, i, n.1, refl))) in
            (o.0, o.2, node_from o.1 n.0 o.0 e o.3 n.1 o.4));
        tops = λ a i. (
            let n = expanded_number s u a is kind i in
            let o = (all' (a.names, slice_index classes n.0)).0 ((j (a.names, slice_index classes n.0)).0 ((all (a.names, slice_index classes n.0)).1 (a, n.0, i, refl, n.1, refl))) in
            (o.0, o.2, sym o.3, top_from n.0 o.1 a o.0 n.1 o.4 (sym o.5)));
        others = λ b i. (
            let n = expanded_number t x b js other i in
            let o = (all (b.names, slice_index classes n.0)).0 ((j (b.names, slice_index classes n.0)).1 ((all' (b.names, slice_index classes n.0)).1 (b, n.0, i, refl, n.1, refl))) in
            (o.0, o.2, o.3, top_from o.1 n.0 o.0 b o.4 n.1 o.5));
      }

      spaces_from : SpacesAlike s.files t.files u x → SameMembers spaces spaces'
      spaces_from h y = (
        λ i. (
            let o = (just y).0 i in
            let e = h.spaces y.0 o.0 o.2 in
            let n = space_number t x y.0 e.0 js other e.1 in
            (just' y).1 (e.0, n.0, e.1, n.1, sym (node_to o.1 n.0 o.0 e.0 o.3 n.1 e.2) ∙ o.4)),
        λ i. (
            let o = (just' y).0 i in
            let d = h.no_more y.0 o.0 o.2 in
            let n = space_number s u y.0 d.0 is kind d.1 in
            (just y).1 (d.0, n.0, d.1, n.1, node_to n.0 o.1 d.0 o.0 n.1 o.3 d.2 ∙ o.4)),
      )

      tops_from : SpacesAlike s.files t.files u x → SameMembers tops tops'
      tops_from h y = (
        λ i. (
            let o = (all y).0 i in
            let b = h.tops o.0 o.2 in
            let n = expanded_number t x b.0 js other b.1 in
            (all' y).1 (b.0, n.0, b.1, sym b.2 ∙ o.3, n.1, sym (top_to o.1 n.0 o.0 b.0 o.4 n.1 b.3) ∙ o.5)),
        λ i. (
            let o = (all' y).0 i in
            let a = h.others o.0 o.2 in
            let n = expanded_number s u a.0 is kind a.1 in
            (all y).1 (a.0, n.0, a.1, a.2 ∙ o.3, n.1, top_to n.0 o.1 a.0 o.0 n.1 o.4 a.3 ∙ o.5)),
      )

    -- ---- both ways

    record Parts (k : Kind P) (l : Kind Q) : Type 0 where
      kind : OneKind u x k l
      root : CrossNode (CrossAlike s.files t.files) s.files t.files u.root x.root
      types : TypesAlike s.files t.files u x k
      inside : InCompile k (SpacesAlike s.files t.files u x)

    parts_from : (k : Kind P) (l : Kind Q) (row other : UnitRow) → u.kind ≡ k → x.kind ≡ l → IsKindRow s classes u k row → IsKindRow t classes x l other → RowsSame row other → Parts k l
    parts_from Compile Compile (CompileRow root spaces tops) (CompileRow root' spaces' tops') p q h j same = record {
      kind = tt;
      root = node_from h.0.0 j.0.0 u.root x.root h.0.1 j.0.1 (h.0.2 ∙ same.0 ∙ sym j.0.2);
      types = tt;
      inside = inside_from p q spaces tops spaces' tops' h.1 j.1 h.2 j.2 same.1 same.2;
    }
    parts_from (OfType signature main) (OfType signature' main') (TypeRow number path top) (TypeRow number' path' top') p q h j same =
        let e : slice_index classes h.2.0 ≡ slice_index classes j.2.0 = h.2.2 ∙ same.2 ∙ sym j.2.2 in
        record {
          kind = (sym h.0 ∙ same.0 ∙ j.0, (path, h.1, subst (λ (w : List ℕ). StandsAlong w x.root x.below main') (sym same.1) j.1));
          root = (alike_equal s t sides g nodes h.2.0 j.2.0 (type_top u) (type_top x) h.2.1 j.2.1 (top_alike h.2.0 j.2.0 (type_top u) (type_top x) h.2.1 j.2.1 e)).node;
          types = top_from h.2.0 j.2.0 (type_top u) (type_top x) h.2.1 j.2.1 e;
          inside = tt;
        }
    parts_from Compile (OfType signature main) (CompileRow root spaces tops) (TypeRow number path top) p q h j same = absurd same
    parts_from (OfType signature main) Compile (TypeRow number path top) (CompileRow root spaces tops) p q h j same = absurd same
    parts_from Compile l (TypeRow number path top) other p q h j same = absurd h
    parts_from (OfType signature main) l (CompileRow root spaces tops) other p q h j same = absurd h
    parts_from Partial l row other p q h j same = absurd h
    parts_from k Compile row (TypeRow number path top) p q h j same = absurd j
    parts_from k (OfType signature main) row (CompileRow root spaces tops) p q h j same = absurd j
    parts_from k Partial row other p q h j same = absurd j

    parts_to : (k : Kind P) (l : Kind Q) (row other : UnitRow) → u.kind ≡ k → x.kind ≡ l → IsKindRow s classes u k row → IsKindRow t classes x l other → Parts k l → RowsSame row other
    parts_to Compile Compile (CompileRow root spaces tops) (CompileRow root' spaces' tops') p q h j same = (
      sym h.0.2 ∙ node_to h.0.0 j.0.0 u.root x.root h.0.1 j.0.1 same.root ∙ j.0.2,
      spaces_from p q spaces tops spaces' tops' h.1 j.1 h.2 j.2 same.inside,
      tops_from p q spaces tops spaces' tops' h.1 j.1 h.2 j.2 same.inside,
    )
    parts_to (OfType signature main) (OfType signature' main') (TypeRow number path top) (TypeRow number' path' top') p q h j same =
        let way = same.kind.1 in (
          h.0 ∙ same.kind.0 ∙ sym j.0,
          one_path s sides.old u signature main is p path way.0 h.1 way.1 ∙ one_path t sides.new x signature' main' js q way.0 path' way.2 j.1,
          sym h.2.2 ∙ top_to h.2.0 j.2.0 (type_top u) (type_top x) h.2.1 j.2.1 same.types ∙ j.2.2,
        )
    parts_to Compile (OfType signature main) (CompileRow root spaces tops) (TypeRow number path top) p q h j same = absurd same.kind
    parts_to (OfType signature main) Compile (TypeRow number path top) (CompileRow root spaces tops) p q h j same = absurd same.kind
    parts_to Compile l (TypeRow number path top) other p q h j same = absurd h
    parts_to (OfType signature main) l (CompileRow root spaces tops) other p q h j same = absurd h
    parts_to Partial l row other p q h j same = absurd h
    parts_to k Compile row (TypeRow number path top) p q h j same = absurd j
    parts_to k (OfType signature main) row (CompileRow root spaces tops) p q h j same = absurd j
    parts_to k Partial row other p q h j same = absurd j

    pub unit_rows : (row other : UnitRow) → IsCrossRow s classes u row → IsCrossRow t classes x other → RowsSame row other ↔ UnitsAlike s.files t.files u x
    unit_rows row other h j = (
      λ same. (let o = parts_from u.kind x.kind row other refl refl h j same in record { kind = o.kind; root = o.root; types = o.types; inside = o.inside }),
      λ same. parts_to u.kind x.kind row other refl refl h j (record { kind = same.kind; root = same.root; types = same.types; inside = same.inside }),
    )
