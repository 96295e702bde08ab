-- Labels are equal exactly if languages, name lists and bare trees are: each piece ends by itself.
use Rattle.std.proofs.Common.{◌≡◌, ℕ, ℤ, pos, negsuc, suc, Bool, true, false, List, [], ◌∷◌, ◌++◌, length, Option, Some, None, refl, sym, ap, ◌∙◌, arith}
use Rattle.std.specs.List.{flat_map}
use Rattle.std.proofs.lemmas.List.{append-nil, append_assoc}
use Rattle.dwz_model.specs.declared.place.Base.TheVariants.{Unit as FromUnit, Info as FromInfo}
use Rattle.dwz_def_reading.specs.Documents.{Addr, Attr, Block, Entries, Expr, File, Flag, Index, Loc, Node, Num, Operand, Part, Plain, Ref, Same, Sec, Sig, Text, Value}
use Rattle.dwz_def_reading.specs.Trees.{End, Entry, size}
use Rattle.dwz_def_tops.specs.Alike.{SameAttrs, SameEntries, SameNode, SameRefs, SameTarget, SameValue}
use Rattle.dwz_def_tops.specs.Spots.{EntryName, Top, Within, name_list}
use Rattle.dwz_label.specs.Labels.{attr_label, base_label, counted, each_counted, entries_label, file_label, flag_label, label_of}
use Rattle.dwz_label.specs.Labels.{language_label, node_label, number, part_label, parts_label, place_label, plain_label, target_label, value_label}
use Rattle.dwz_label.specs.Nodes.{Any, SameBare}
use Rattle.dwz_label.proofs.Codes.{Code, CodeOf, Lists, counted_code, each_code, each_code_of, first_number, first_of, number_code, tails}

-- ---- small parts

flag_code : Code flag_label
flag_code true true r s e = (refl, tails e)
flag_code true false r s e = absurd cc
flag_code false true r s e = absurd cc
flag_code false false r s e = (refl, tails e)

base_code : Code base_label
base_code FromUnit FromUnit r s e = (refl, tails e)
base_code FromUnit FromInfo r s e = absurd cc
base_code FromInfo FromUnit r s e = absurd cc
base_code FromInfo FromInfo r s e = (refl, tails e)

part_code : Code part_label
part_code (Same a) (Same b) r s e = let c = counted_code a b r s (tails e) in (ap (λ (x : List ℕ). Same x) c.0, c.1)
part_code (Same a) (Operand w u b) r s e = absurd cc
part_code (Operand w u b) (Same a) r s e = absurd cc
part_code (Operand w u b) (Operand v t c) r s e =
    let x = first_number w v (flag_label u ++ base_label b) (flag_label t ++ base_label c) r s (tails e) in
    let y = first_of (λ (f g : Bool). f ≡ g) flag_label flag_code u t (base_label b) (base_label c) r s x.1 in
    let z = base_code b c r s y.1 in
    ((λ i. Operand (x.0 i) (y.0 i) (z.0 i)), z.1)

parts_code : Code parts_label
parts_code = each_code part_label part_code

file_code : Code file_label
file_code None None r s e = (refl, tails e)
file_code None (Some b) r s e = absurd cc
file_code (Some a) None r s e = absurd cc
file_code (Some a) (Some b) r s e = let c = counted_code a b r s (tails e) in (ap (λ (x : List ℕ). Some x) c.0, c.1)

-- ---- plain parts: the first byte tells the kind

two_code : (m n k l : ℕ) (r s : List ℕ) → (number m ++ number n) ++ r ≡ (number k ++ number l) ++ s → (m ≡ k) × (n ≡ l) × (r ≡ s)
two_code m n k l r s e =
    let x = first_number m k (number n) (number l) r s e in
    let y = number_code n l r s x.1 in
    (x.0, y.0, y.1)

pub plain_code : Code plain_label
plain_code (Num w (pos m)) (Num v (pos n)) r s e = let c = two_code w m v n r s (tails e) in ((λ i. Num (c.0 i) (pos (c.1 i))), c.2)
plain_code (Num w (negsuc m)) (Num v (negsuc n)) r s e = let c = two_code w m v n r s (tails e) in ((λ i. Num (c.0 i) (negsuc (c.1 i))), c.2)
plain_code (Flag a) (Flag b) r s e = let c = flag_code a b r s (tails e) in (ap (λ (x : Bool). Flag x) c.0, c.1)
plain_code (Block a) (Block b) r s e = let c = counted_code a b r s (tails e) in (ap (λ (x : List ℕ). Block x) c.0, c.1)
plain_code (Text a) (Text b) r s e = let c = counted_code a b r s (tails e) in (ap (λ (x : List ℕ). Text x) c.0, c.1)
plain_code (File a) (File b) r s e = let c = file_code a b r s (tails e) in (ap (λ (x : Option (List ℕ)). File x) c.0, c.1)
plain_code Ref Ref r s e = (refl, tails e)
plain_code (Sig m) (Sig n) r s e = let c = number_code m n r s (tails e) in (ap (λ (x : ℕ). Sig x) c.0, c.1)
plain_code (Addr m) (Addr n) r s e = let c = number_code m n r s (tails e) in (ap (λ (x : ℕ). Addr x) c.0, c.1)
plain_code (Index m) (Index n) r s e = let c = number_code m n r s (tails e) in (ap (λ (x : ℕ). Index x) c.0, c.1)
plain_code (Sec m) (Sec n) r s e = let c = number_code m n r s (tails e) in (ap (λ (x : ℕ). Sec x) c.0, c.1)
plain_code (Expr a) (Expr b) r s e = let c = parts_code a b r s (tails e) in (ap (λ (x : List Part). Expr x) c.0, c.1)
plain_code (Loc a) (Loc b) r s e = let c = each_code parts_label parts_code a b r s (tails e) in (ap (λ (x : List (List Part)). Loc x) c.0, c.1)
plain_code _ (Num v (pos n)) r s e = absurd cc
plain_code _ (Num v (negsuc n)) r s e = absurd cc
plain_code (Num w (pos m)) _ r s e = absurd cc
plain_code (Num w (negsuc m)) _ r s e = absurd cc
plain_code _ _ r s e = absurd cc

-- ---- targets, values, attributes

target_code : CodeOf (SameTarget Any) target_label
target_code (Within a p) (Within b q) r s e = let c = each_code number number_code p q r s (tails e) in ((c.0, tt), c.1)
target_code (Within a p) _ r s e = absurd cc
target_code _ (Within b q) r s e = absurd cc
target_code _ _ r s e = (tt, tails e)

refs_lists : Lists (SameTarget Any) (SameRefs Any)
refs_lists = record { none = tt; more = λ x y xs ys h k. (h, k) }

value_code : CodeOf (SameValue Any) value_label
value_code a b r s e =
    let x = first_of (λ (p q : Plain). p ≡ q) plain_label plain_code a.plain b.plain (each_counted target_label a.refs) (each_counted target_label b.refs) r s e in
    let y = each_code_of (SameTarget Any) (SameRefs Any) target_label refs_lists target_code a.refs b.refs r s x.1 in
    ((x.0, y.0), y.1)

abbrev SameAttr : Attr EntryName → Attr EntryName → Type 0
SameAttr a b = (a.name ≡ b.name) × SameValue Any a.value b.value

attr_code : CodeOf SameAttr attr_label
attr_code a b r s e =
    let x = first_number a.name b.name (value_label a.value) (value_label b.value) r s e in
    let y = value_code a.value b.value r s x.1 in
    ((x.0, y.0), y.1)

attrs_lists : Lists SameAttr (SameAttrs Any)
attrs_lists = record { none = tt; more = λ x y xs ys h k. (h.0, h.1, k) }

-- ---- entries

pub record SameHead (m n : ℕ) (d e : Node EntryName) (r s : List ℕ) : Type 0 where
  pub below : m ≡ n
  pub node : SameNode Any d e
  pub rest : r ≡ s

node_code : (m n : ℕ) (d e : Node EntryName) (r s : List ℕ) → node_label m d ++ r ≡ node_label n e ++ s → SameHead m n d e r s
node_code m n d e r s h =
    let xs = each_counted attr_label d.attrs in
    let ys = each_counted attr_label e.attrs in
    let x = first_number m n (number d.tag ++ xs) (number e.tag ++ ys) r s h in
    let y = first_number d.tag e.tag xs ys r s x.1 in
    let z = each_code_of SameAttr (SameAttrs Any) attr_label attrs_lists attr_code d.attrs e.attrs r s y.1 in
    record { below = x.0; node = (y.0, z.0); rest = z.1 }

entries_code : (f g : Entries EntryName) (r s : List ℕ) → size f ≡ size g → entries_label f ++ r ≡ entries_label g ++ s → SameEntries Any f g × (r ≡ s)
unfolding entries_label
entries_code End End r s l h = (tt, h)
entries_code End (Entry e c n) r s l h = absurd (omega arith)
entries_code (Entry d c n) End r s l h = absurd (omega arith)
entries_code (Entry d c n) (Entry e c' n') r s l h =
    let xs = entries_label c ++ entries_label n in
    let ys = entries_label c' ++ entries_label n' in
    let whole = sym (append_assoc (node_label (size c) d) xs r) ∙ h ∙ append_assoc (node_label (size c') e) ys s in
    let x = node_code (size c) (size c') d e (xs ++ r) (ys ++ s) whole in
    let rest = sym (append_assoc (entries_label c) (entries_label n) r) ∙ x.rest ∙ append_assoc (entries_label c') (entries_label n') s in
    let same = x.below in
    let y = entries_code c c' (entries_label n ++ r) (entries_label n' ++ s) x.below rest in
    let z = entries_code n n' r s (omega arith) y.1 in
    ((x.node, y.0, z.0), z.1)

language_code : Code language_label
language_code None None r s e = (refl, tails e)
language_code (Some (pos m)) (Some (pos n)) r s e = let c = number_code m n r s (tails e) in ((λ i. Some (pos (c.0 i))), c.1)
language_code (Some (negsuc m)) (Some (negsuc n)) r s e = let c = number_code m n r s (tails e) in ((λ i. Some (negsuc (c.0 i))), c.1)
language_code _ (Some (pos n)) r s e = absurd cc
language_code _ (Some (negsuc n)) r s e = absurd cc
language_code (Some (pos m)) _ r s e = absurd cc
language_code (Some (negsuc m)) _ r s e = absurd cc

place_code : (l m : Option ℤ) (xs ys : List (List ℕ)) (r s : List ℕ) → place_label l xs ++ r ≡ place_label m ys ++ s → (l ≡ m) × (xs ≡ ys) × (r ≡ s)
place_code l m xs ys r s e =
    let x = first_of (λ (k n : Option ℤ). k ≡ n) language_label language_code l m (each_counted counted xs) (each_counted counted ys) r s e in
    let y = each_code counted counted_code xs ys r s x.1 in
    (x.0, y.0, y.1)

pub label_bare : (a b : Top) → label_of a ≡ label_of b → SameBare a b
unfolding label_of
label_bare a b e =
    let x = place_code a.language b.language (name_list a) (name_list b) (node_label (size a.below) a.node ++ entries_label a.below) (node_label (size b.below) b.node ++ entries_label b.below) e in
    let y = node_code (size a.below) (size b.below) a.node b.node (entries_label a.below) (entries_label b.below) x.2 in
    let z = entries_code a.below b.below [] [] y.below (append-nil (entries_label a.below) ∙ y.rest ∙ sym (append-nil (entries_label b.below))) in
    (x.0, x.1, y.node, z.0)

-- ---- the same trees have one label

same_target : (a b : EntryName) → SameTarget Any a b → target_label a ≡ target_label b
same_target (Within a p) (Within b q) h = λ i. 1 ∷ each_counted number (h.0 i)
same_target (Within a p) _ h = absurd h
same_target _ (Within b q) h = absurd h
same_target _ _ h = refl

pub record Spelled {X : Type 0} (spell : X → List ℕ) (xs ys : List X) : Type 0 where
  pub many : length xs ≡ length ys
  pub flat : flat_map spell xs ≡ flat_map spell ys

spelled_each : {X : Type 0} (spell : X → List ℕ) (xs ys : List X) → Spelled spell xs ys → each_counted spell xs ≡ each_counted spell ys
spelled_each spell xs ys s = λ i. number (s.many i) ++ s.flat i

same_refs : (xs ys : List EntryName) → SameRefs Any xs ys → Spelled target_label xs ys
same_refs [] [] h = record { many = refl; flat = refl }
same_refs (x ∷ xs) (y ∷ ys) h = let r = same_refs xs ys h.1 in record { many = ap suc r.many; flat = λ i. same_target x y h.0 i ++ r.flat i }
same_refs _ _ h = absurd h

same_value : (a b : Value EntryName) → SameValue Any a b → value_label a ≡ value_label b
same_value a b h = λ i. plain_label (h.0 i) ++ spelled_each target_label a.refs b.refs (same_refs a.refs b.refs h.1) i

same_attrs : (xs ys : List (Attr EntryName)) → SameAttrs Any xs ys → Spelled attr_label xs ys
same_attrs [] [] h = record { many = refl; flat = refl }
same_attrs (x ∷ xs) (y ∷ ys) h = let r = same_attrs xs ys h.2 in record { many = ap suc r.many; flat = λ i. (number (h.0 i) ++ same_value x.value y.value h.1 i) ++ r.flat i }
same_attrs _ _ h = absurd h

same_node : (m n : ℕ) (d e : Node EntryName) → m ≡ n → SameNode Any d e → node_label m d ≡ node_label n e
same_node m n d e l h = λ i. number (l i) ++ (number (h.0 i) ++ spelled_each attr_label d.attrs e.attrs (same_attrs d.attrs e.attrs h.1) i)

same_size : (f g : Entries EntryName) → SameEntries Any f g → size f ≡ size g
same_size End End h = refl
same_size (Entry d c n) (Entry e c' n') h = let x = same_size c c' h.1 in let y = same_size n n' h.2 in omega arith
same_size _ _ h = absurd h

same_entries : (f g : Entries EntryName) → SameEntries Any f g → entries_label f ≡ entries_label g
unfolding entries_label
same_entries End End h = refl
same_entries (Entry d c n) (Entry e c' n') h = λ i. same_node (size c) (size c') d e (same_size c c' h.1) h.0 i ++ (same_entries c c' h.1 i ++ same_entries n n' h.2 i)
same_entries _ _ h = absurd h

pub bare_label : (a b : Top) → SameBare a b → label_of a ≡ label_of b
unfolding label_of
bare_label a b h = λ i. place_label (h.0 i) (h.1 i) ++ (same_node (size a.below) (size b.below) a.node b.node (same_size a.below b.below h.3) h.2 i ++ same_entries a.below b.below h.3 i)
