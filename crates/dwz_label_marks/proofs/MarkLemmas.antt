-- Marks are equal exactly if languages, name lists and bare trees are.
use Rattle.std.proofs.Common.{◌≡◌, ℕ, pos, zero, suc, Bool, true, false, List, [], ◌∷◌, ◌++◌, length, map, Option, Some, None, eqb, refl, sym, ap, ◌∙◌, arith}
use Rattle.std.specs.List.{flat_map}
use Rattle.std.proofs.lemmas.Bool.{eqb-true}
use Rattle.std.proofs.lemmas.List.{append-nil, append_assoc}
use Rattle.dwz_def_reading.specs.Documents.{Attr, Entries, File, Flag, Node, Num, Plain, Ref, Value}
use Rattle.dwz_def_reading.specs.Trees.{End, Entry, size}
use Rattle.dwz_def_tops.specs.Alike.{SameAttrs, SameEntries, SameNode, SameRefs, SameTarget, SameValue}
use Rattle.dwz_def_tops.specs.Spots.{EntryName, Top, Within, name_list}
use Rattle.dwz_label.specs.Labels.{each_counted, number, place_label, plain_label}
use Rattle.dwz_label.specs.Nodes.{Any, SameBare}
use Rattle.dwz_label.proofs.Codes.{CodeOf, Lists, each_code_of, first_number, number_code}
use Rattle.dwz_label.specs.Labels.{entries_label, label_of, node_label}
use Rattle.dwz_label.proofs.LabelLemmas.{label_bare, plain_code}
use Rattle.dwz_label_marks.specs.Marks.{Mark, Named, Plainly, count_marks, direct, entries_marks, mark_or, marks_of, name_label, node_marks}
use Rattle.dwz_label_marks.specs.Marks.{plain_mark, shape_label, target_marks, usual, value_marks}
use Rattle.dwz_label_marks.proofs.MarkCodes.{MarksOf, each_marks, first_mark, other_marks, path_marks, same_named, same_plainly}

-- ---- what is told by a number

apart : {m n k : ℕ} → Some m ≡ Some k → Some n ≡ Some k → m ≡ n
apart e f = cc

direct_same : (p q : Plain) (k : ℕ) → direct p ≡ Some k → direct q ≡ Some k → p ≡ q
direct_same (Flag false) (Flag false) k e f = refl
direct_same (Flag false) (Flag true) k e f = absurd (let h = apart e f in omega arith)
direct_same (Flag false) Ref k e f = absurd (let h = apart e f in omega arith)
direct_same (Flag false) (File None) k e f = absurd (let h = apart e f in omega arith)
direct_same (Flag false) (Num zero (pos n)) k e f = absurd (let h = apart e f in omega arith)
direct_same (Flag true) (Flag false) k e f = absurd (let h = apart e f in omega arith)
direct_same (Flag true) (Flag true) k e f = refl
direct_same (Flag true) Ref k e f = absurd (let h = apart e f in omega arith)
direct_same (Flag true) (File None) k e f = absurd (let h = apart e f in omega arith)
direct_same (Flag true) (Num zero (pos n)) k e f = absurd (let h = apart e f in omega arith)
direct_same Ref (Flag false) k e f = absurd (let h = apart e f in omega arith)
direct_same Ref (Flag true) k e f = absurd (let h = apart e f in omega arith)
direct_same Ref Ref k e f = refl
direct_same Ref (File None) k e f = absurd (let h = apart e f in omega arith)
direct_same Ref (Num zero (pos n)) k e f = absurd (let h = apart e f in omega arith)
direct_same (File None) (Flag false) k e f = absurd (let h = apart e f in omega arith)
direct_same (File None) (Flag true) k e f = absurd (let h = apart e f in omega arith)
direct_same (File None) Ref k e f = absurd (let h = apart e f in omega arith)
direct_same (File None) (File None) k e f = refl
direct_same (File None) (Num zero (pos n)) k e f = absurd (let h = apart e f in omega arith)
direct_same (Num zero (pos m)) (Flag false) k e f = absurd (let h = apart e f in omega arith)
direct_same (Num zero (pos m)) (Flag true) k e f = absurd (let h = apart e f in omega arith)
direct_same (Num zero (pos m)) Ref k e f = absurd (let h = apart e f in omega arith)
direct_same (Num zero (pos m)) (File None) k e f = absurd (let h = apart e f in omega arith)
direct_same (Num zero (pos m)) (Num zero (pos n)) k e f =
    let h = apart e f in
    let same : m ≡ n = omega arith in
    ap (λ (x : ℕ). Num zero (pos x)) same
direct_same _ _ k e f = absurd cc

none_is_two : (p : Plain) → direct p ≡ Some 2 → ⊥
none_is_two (Flag false) e = let h = apart e refl in omega arith
none_is_two (Flag true) e = let h = apart e refl in omega arith
none_is_two Ref e = let h = apart e refl in omega arith
none_is_two (File None) e = let h = apart e refl in omega arith
none_is_two (Num zero (pos n)) e = let h = apart e refl in omega arith
none_is_two _ e = cc

named_same : (p q : Plain) → plain_label p ≡ plain_label q → p ≡ q
named_same p q e = (plain_code p q [] [] (append-nil (plain_label p) ∙ e ∙ sym (append-nil (plain_label q)))).0

plain_same : (p q : Plain) → plain_mark p ≡ plain_mark q → p ≡ q
plain_same p q e = go (direct p) refl (direct q) refl e where
  go : (a : Option ℕ) → direct p ≡ a → (b : Option ℕ) → direct q ≡ b → mark_or (plain_label p) a ≡ mark_or (plain_label q) b → p ≡ q
  go (Some m) is (Some n) are h = direct_same p q n (is ∙ ap (λ (k : ℕ). Some k) (same_plainly h)) are
  go (Some m) is None are h = absurd cc
  go None is (Some n) are h = absurd cc
  go None is None are h = named_same p q (same_named h)

not_two : (p : Plain) → plain_mark p ≡ Plainly 2 → ⊥
not_two p e = go (direct p) refl e where
  go : (a : Option ℕ) → direct p ≡ a → mark_or (plain_label p) a ≡ Plainly 2 → ⊥
  go (Some m) is h = none_is_two p (is ∙ ap (λ (k : ℕ). Some k) (same_plainly h))
  go None is h = cc

-- ---- targets, values, attributes

target_code : MarksOf (SameTarget Any) target_marks
target_code (Within a p) (Within b q) r s e =
    let l = same_plainly (first_mark e) in
    let c = path_marks p q r s (omega arith) (other_marks e) in
    ((c.0, tt), c.1)
target_code (Within a p) _ r s e = absurd (let l = same_plainly (first_mark e) in omega arith)
target_code _ (Within b q) r s e = absurd (let l = same_plainly (first_mark e) in omega arith)
target_code _ _ r s e = (tt, other_marks e)

refs_lists : Lists (SameTarget Any) (SameRefs Any)
refs_lists = record { none = tt; more = λ x y xs ys h k. (h, k) }

abbrev rest_marks : Value EntryName → List Mark
rest_marks v = flat_map target_marks v.refs

-- behind equal counts
counted_value : (a b : Value EntryName) (r s : List Mark) → (a.plain ≡ b.plain → length a.refs ≡ length b.refs)
    → plain_mark a.plain ∷ (rest_marks a ++ r) ≡ plain_mark b.plain ∷ (rest_marks b ++ s) → SameValue Any a b × (r ≡ s)
counted_value a b r s many e =
    let same = plain_same a.plain b.plain (first_mark e) in
    let c = each_marks (SameTarget Any) (SameRefs Any) target_marks refs_lists target_code a.refs b.refs r s (many same) (other_marks e) in
    ((same, c.0), c.1)

value_code : MarksOf (SameValue Any) value_marks
value_code a b r s e = go (eqb (length a.refs) (usual a.plain)) refl (eqb (length b.refs) (usual b.plain)) refl e where
  go : (t : Bool) → eqb (length a.refs) (usual a.plain) ≡ t → (u : Bool) → eqb (length b.refs) (usual b.plain) ≡ u
      → (count_marks t (length a.refs) ++ (plain_mark a.plain ∷ rest_marks a)) ++ r ≡ (count_marks u (length b.refs) ++ (plain_mark b.plain ∷ rest_marks b)) ++ s
      → SameValue Any a b × (r ≡ s)
  go true x true y h =
      counted_value a b r s (λ same. eqb-true (length a.refs) (usual a.plain) x ∙ ap usual same ∙ sym (eqb-true (length b.refs) (usual b.plain) y)) h
  go true x false y h = absurd (not_two a.plain (first_mark h))
  go false x true y h = absurd (not_two b.plain (sym (first_mark h)))
  go false x false y h =
      let many = same_plainly (first_mark (other_marks h)) in
      counted_value a b r s (λ same. many) (other_marks (other_marks h))

abbrev SameName : Attr EntryName → Attr EntryName → Type 0
SameName a b = a.name ≡ b.name

abbrev SameNames : List (Attr EntryName) → List (Attr EntryName) → Type 0
SameNames [] [] = Unit {0}
SameNames (a ∷ attrs) (b ∷ others) = SameName a b × SameNames attrs others
SameNames _ _ = ⊥

name_code : CodeOf SameName name_label
name_code a b r s e = number_code a.name b.name r s e

names_lists : Lists SameName SameNames
names_lists = record { none = tt; more = λ x y xs ys h k. (h, k) }

abbrev attr_marks : Attr EntryName → List Mark
attr_marks a = value_marks a.value

attrs_code : (xs ys : List (Attr EntryName)) (r s : List Mark) → SameNames xs ys → flat_map attr_marks xs ++ r ≡ flat_map attr_marks ys ++ s → SameAttrs Any xs ys × (r ≡ s)
attrs_code [] [] r s n e = (tt, e)
attrs_code (x ∷ xs) (y ∷ ys) r s n e =
    let joined = sym (append_assoc (attr_marks x) (flat_map attr_marks xs) r) ∙ e ∙ append_assoc (attr_marks y) (flat_map attr_marks ys) s in
    let first = value_code x.value y.value (flat_map attr_marks xs ++ r) (flat_map attr_marks ys ++ s) joined in
    let rest = attrs_code xs ys r s n.1 first.1 in
    ((n.0, first.0, rest.0), rest.1)
attrs_code _ _ r s n e = absurd n

-- ---- entries

record SameShape (d e : Node EntryName) : Type 0 where
  pub tag : d.tag ≡ e.tag
  pub names : SameNames d.attrs e.attrs

shape_same : (d e : Node EntryName) → shape_label d ≡ shape_label e → SameShape d e
shape_same d e h =
    let xs = each_counted name_label d.attrs in
    let ys = each_counted name_label e.attrs in
    let whole : (number d.tag ++ xs) ++ [] ≡ (number e.tag ++ ys) ++ [] = append-nil (shape_label d) ∙ h ∙ sym (append-nil (shape_label e)) in
    let x = first_number d.tag e.tag xs ys [] [] whole in
    let y = each_code_of SameName SameNames name_label names_lists name_code d.attrs e.attrs [] [] x.1 in
    record { tag = x.0; names = y.0 }

record SameHead (m n : ℕ) (d e : Node EntryName) (r s : List Mark) : Type 0 where
  pub below : m ≡ n
  pub node : SameNode Any d e
  pub rest : r ≡ s

node_code : (m n : ℕ) (d e : Node EntryName) (r s : List Mark) → node_marks m d ++ r ≡ node_marks n e ++ s → SameHead m n d e r s
node_code m n d e r s h =
    let shape = shape_same d e (same_named (first_mark h)) in
    let below = same_plainly (first_mark (other_marks h)) in
    let c = attrs_code d.attrs e.attrs r s shape.names (other_marks (other_marks h)) in
    record { below = below; node = (shape.tag, c.0); rest = c.1 }

entries_code : (f g : Entries EntryName) (r s : List Mark) → size f ≡ size g → entries_marks f ++ r ≡ entries_marks g ++ s → SameEntries Any f g × (r ≡ s)
unfolding entries_marks
entries_code End End r s l h = (tt, h)
entries_code End (Entry e c n) r s l h = absurd (omega arith)
entries_code (Entry d c n) End r s l h = absurd (omega arith)
entries_code (Entry d c n) (Entry e c' n') r s l h =
    let xs = entries_marks c ++ entries_marks n in
    let ys = entries_marks c' ++ entries_marks n' in
    let whole = sym (append_assoc (node_marks (size c) d) xs r) ∙ h ∙ append_assoc (node_marks (size c') e) ys s in
    let x = node_code (size c) (size c') d e (xs ++ r) (ys ++ s) whole in
    let rest = sym (append_assoc (entries_marks c) (entries_marks n) r) ∙ x.rest ∙ append_assoc (entries_marks c') (entries_marks n') s in
    let same = x.below in
    let y = entries_code c c' (entries_marks n ++ r) (entries_marks n' ++ s) x.below rest in
    let z = entries_code n n' r s (omega arith) y.1 in
    ((x.node, y.0, z.0), z.1)

-- ---- tops

-- a top in the place of another one
abbrev with_node : Top → Node EntryName → Top
with_node t e = record t { node = e; below = End }

place_same : (a b : Top) → place_label a.language (name_list a) ≡ place_label b.language (name_list b) → (a.language ≡ b.language) × (name_list a ≡ name_list b)
unfolding label_of
place_same a b h =
    let e = a.node in
    let whole : label_of (with_node a e) ≡ label_of (with_node b e) = ap (λ (x : List ℕ). x ++ (node_label (size {E = Node EntryName} End) e ++ entries_label End)) h in
    let same = label_bare (with_node a e) (with_node b e) whole in
    (same.0, same.1)

pub marks_bare : (a b : Top) → marks_of a ≡ marks_of b → SameBare a b
unfolding marks_of
marks_bare a b h =
    let place = place_same a b (same_named (first_mark h)) in
    let x = node_code (size a.below) (size b.below) a.node b.node (entries_marks a.below) (entries_marks b.below) (other_marks h) in
    let whole = append-nil (entries_marks a.below) ∙ x.rest ∙ sym (append-nil (entries_marks b.below)) in
    let y = entries_code a.below b.below [] [] x.below whole in
    (place.0, place.1, x.node, y.0)

-- ---- the same trees have the same marks

same_target : (a b : EntryName) → SameTarget Any a b → target_marks a ≡ target_marks b
same_target (Within a p) (Within b q) h = λ i. Plainly (suc (length (h.0 i))) ∷ map Plainly (h.0 i)
same_target (Within a p) _ h = absurd h
same_target _ (Within b q) h = absurd h
same_target _ _ h = refl

record Told (xs ys : List EntryName) : Type 0 where
  pub many : length xs ≡ length ys
  pub flat : flat_map target_marks xs ≡ flat_map target_marks ys

same_refs : (xs ys : List EntryName) → SameRefs Any xs ys → Told xs ys
same_refs [] [] h = record { many = refl; flat = refl }
same_refs (x ∷ xs) (y ∷ ys) h = let r = same_refs xs ys h.1 in record { many = ap suc r.many; flat = λ i. same_target x y h.0 i ++ r.flat i }
same_refs _ _ h = absurd h

same_value : (a b : Value EntryName) → SameValue Any a b → value_marks a ≡ value_marks b
same_value a b h =
    let t = same_refs a.refs b.refs h.1 in
    λ i. count_marks (eqb (t.many i) (usual (h.0 i))) (t.many i) ++ (plain_mark (h.0 i) ∷ t.flat i)

record ToldAttrs (xs ys : List (Attr EntryName)) : Type 0 where
  pub many : length xs ≡ length ys
  pub names : flat_map name_label xs ≡ flat_map name_label ys
  pub values : flat_map attr_marks xs ≡ flat_map attr_marks ys

same_attrs : (xs ys : List (Attr EntryName)) → SameAttrs Any xs ys → ToldAttrs xs ys
same_attrs [] [] h = record { many = refl; names = refl; values = refl }
same_attrs (x ∷ xs) (y ∷ ys) h =
    let r = same_attrs xs ys h.2 in
    record { many = ap suc r.many; names = (λ i. number (h.0 i) ++ r.names i); values = (λ i. same_value x.value y.value h.1 i ++ r.values i) }
same_attrs _ _ h = absurd h

same_node : (m n : ℕ) (d e : Node EntryName) → m ≡ n → SameNode Any d e → node_marks m d ≡ node_marks n e
same_node m n d e l h =
    let r = same_attrs d.attrs e.attrs h.1 in
    λ i. Named (number (h.0 i) ++ (number (r.many i) ++ r.names i)) ∷ (Plainly (l i) ∷ r.values i)

same_size : (f g : Entries EntryName) → SameEntries Any f g → size f ≡ size g
same_size End End h = refl
same_size (Entry d c n) (Entry e c' n') h = let x = same_size c c' h.1 in let y = same_size n n' h.2 in omega arith
same_size _ _ h = absurd h

same_entries : (f g : Entries EntryName) → SameEntries Any f g → entries_marks f ≡ entries_marks g
unfolding entries_marks
same_entries End End h = refl
same_entries (Entry d c n) (Entry e c' n') h = λ i. same_node (size c) (size c') d e (same_size c c' h.1) h.0 i ++ (same_entries c c' h.1 i ++ same_entries n n' h.2 i)
same_entries _ _ h = absurd h

pub bare_marks : (a b : Top) → SameBare a b → marks_of a ≡ marks_of b
unfolding marks_of
bare_marks a b h = λ i. Named (place_label (h.0 i) (h.1 i)) ∷ (same_node (size a.below) (size b.below) a.node b.node (same_size a.below b.below h.3) h.2 i ++ same_entries a.below b.below h.3 i)
