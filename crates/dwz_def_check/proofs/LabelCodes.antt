-- Labels are equal exactly if trees are the same, whatever the tops of the targets are: each piece ends by itself.
use Rattle.std.proofs.Common.{◌≡◌, ℕ, suc, List, [], ◌∷◌, ◌++◌, refl, sym, ap, ◌∙◌, arith}
use Rattle.std.proofs.lemmas.List.{append-nil, append_assoc}
use Rattle.dwz_def_reading.specs.Documents.{Attr, Entries, Node, Plain, Value}
use Rattle.dwz_def_reading.specs.Trees.{End, Entry, size}
use Rattle.dwz_label.specs.Labels.{counted, each_counted, number, plain_label}
use Rattle.dwz_label.proofs.Codes.{CodeOf, Lists, counted_code, each_code, each_code_of, first_number, first_of, number_code, tails}
use Rattle.dwz_label.proofs.LabelLemmas.{Spelled, plain_code}
use Rattle.dwz_def_cross.specs.Tops.{CrossTop}
use Rattle.dwz_def_check.specs.CrossNames.{AtPath, CrossName, PartRoot, PartSpace, WholeRoot, WholeSpace}
use Rattle.dwz_def_check.specs.CrossLabels.{cross_attr_label, cross_entries_label, cross_label, cross_value_label, lone_label, name_label}
use Rattle.dwz_def_check.proofs.NamedTrees.{AnyNumbers, AttrsBy, EntriesBy, NamesBy, NodeBy, SameName, TopBy}

-- ---- names, values, attributes

name_code : CodeOf (SameName AnyNumbers) name_label
name_code (AtPath m p) (AtPath n q) r s e = let c = each_code number number_code p q r s (tails e) in ((c.0, tt), c.1)
name_code (WholeRoot m) (WholeRoot n) r s e = number_code m n r s (tails e)
name_code (WholeSpace m xs) (WholeSpace n ys) r s e =
    let x = first_number m n (each_counted counted xs) (each_counted counted ys) r s (tails e) in
    let y = each_code counted counted_code xs ys r s x.1 in
    ((x.0, y.0), y.1)
name_code PartRoot PartRoot r s e = (tt, tails e)
name_code (PartSpace xs) (PartSpace ys) r s e = each_code counted counted_code xs ys r s (tails e)
name_code _ _ r s e = absurd cc

names_lists : Lists (SameName AnyNumbers) (NamesBy AnyNumbers)
names_lists = record { none = tt; more = λ x y xs ys h k. (h, k) }

abbrev SameValue : Value CrossName → Value CrossName → Type 0
SameValue a b = (a.plain ≡ b.plain) × NamesBy AnyNumbers a.refs b.refs

value_code : CodeOf SameValue cross_value_label
value_code a b r s e =
    let x = first_of (λ (p q : Plain). p ≡ q) plain_label plain_code a.plain b.plain (each_counted name_label a.refs) (each_counted name_label b.refs) r s e in
    let y = each_code_of (SameName AnyNumbers) (NamesBy AnyNumbers) name_label names_lists name_code a.refs b.refs r s x.1 in
    ((x.0, y.0), y.1)

abbrev SameAttr : Attr CrossName → Attr CrossName → Type 0
SameAttr a b = (a.name ≡ b.name) × SameValue a.value b.value

attr_code : CodeOf SameAttr cross_attr_label
attr_code a b r s e =
    let x = first_number a.name b.name (cross_value_label a.value) (cross_value_label b.value) r s e in
    let y = value_code a.value b.value r s x.1 in
    ((x.0, y.0), y.1)

attrs_lists : Lists SameAttr (AttrsBy AnyNumbers)
attrs_lists = record { none = tt; more = λ x y xs ys h k. (h.0, h.1, k) }

-- ---- entries

lone_code : CodeOf (NodeBy AnyNumbers) lone_label
lone_code d e r s h =
    let x = first_number d.tag e.tag (each_counted cross_attr_label d.attrs) (each_counted cross_attr_label e.attrs) r s h in
    let y = each_code_of SameAttr (AttrsBy AnyNumbers) cross_attr_label attrs_lists attr_code d.attrs e.attrs r s x.1 in
    ((x.0, y.0), y.1)

-- an entry behind how many there are below it
abbrev head_label : ℕ → Node CrossName → List ℕ
head_label below e = number below ++ lone_label e

head_code : (m n : ℕ) (d e : Node CrossName) (r s : List ℕ) → head_label m d ++ r ≡ head_label n e ++ s → (m ≡ n) × NodeBy AnyNumbers d e × (r ≡ s)
head_code m n d e r s h =
    let x = first_number m n (lone_label d) (lone_label e) r s h in
    let y = lone_code d e r s x.1 in
    (x.0, y.0, y.1)

entries_code : (f g : Entries CrossName) (r s : List ℕ) → size f ≡ size g → cross_entries_label f ++ r ≡ cross_entries_label g ++ s → EntriesBy AnyNumbers f g × (r ≡ s)
unfolding cross_entries_label
entries_code End End r s l h = (tt, h)
entries_code End (Entry e c n) r s l h = absurd (omega arith)
entries_code (Entry d c n) End r s l h = absurd (omega arith)
entries_code (Entry d c n) (Entry e c' n') r s l h =
    let xs = cross_entries_label c ++ cross_entries_label n in
    let ys = cross_entries_label c' ++ cross_entries_label n' in
    let whole = sym (append_assoc (head_label (size c) d) xs r) ∙ h ∙ append_assoc (head_label (size c') e) ys s in
    let x = head_code (size c) (size c') d e (xs ++ r) (ys ++ s) whole in
    let rest = sym (append_assoc (cross_entries_label c) (cross_entries_label n) r) ∙ x.2 ∙ append_assoc (cross_entries_label c') (cross_entries_label n') s in
    let same = x.0 in
    let y = entries_code c c' (cross_entries_label n ++ r) (cross_entries_label n' ++ s) x.0 rest in
    let z = entries_code n n' r s (omega arith) y.1 in
    ((x.1, y.0, z.0), z.1)

pub label_lone : (d e : Node CrossName) → lone_label d ≡ lone_label e → NodeBy AnyNumbers d e
label_lone d e h = (lone_code d e [] [] (append-nil (lone_label d) ∙ h ∙ sym (append-nil (lone_label e)))).0

pub label_top : (a b : CrossTop CrossName) → cross_label a ≡ cross_label b → TopBy AnyNumbers a b
label_top a b h =
    let x = each_code counted counted_code a.names b.names (head_label (size a.below) a.node ++ cross_entries_label a.below) (head_label (size b.below) b.node ++ cross_entries_label b.below) h in
    let y = head_code (size a.below) (size b.below) a.node b.node (cross_entries_label a.below) (cross_entries_label b.below) x.1 in
    let z = entries_code a.below b.below [] [] y.0 (append-nil (cross_entries_label a.below) ∙ y.2 ∙ sym (append-nil (cross_entries_label b.below))) in
    (x.0, y.1, z.0)

-- ---- the same trees have one label

same_name : (x y : CrossName) → SameName AnyNumbers x y → name_label x ≡ name_label y
same_name (AtPath m p) (AtPath n q) h = λ i. 1 ∷ each_counted number (h.0 i)
same_name (WholeRoot m) (WholeRoot n) h = λ i. 2 ∷ number (h i)
same_name (WholeSpace m xs) (WholeSpace n ys) h = λ i. 3 ∷ number (h.0 i) ++ each_counted counted (h.1 i)
same_name PartRoot PartRoot h = refl
same_name (PartSpace xs) (PartSpace ys) h = λ i. 5 ∷ each_counted counted (h i)
same_name _ _ h = absurd h

each_same : {X : Type 0} (spell : X → List ℕ) (xs ys : List X) → Spelled spell xs ys → each_counted spell xs ≡ each_counted spell ys
each_same spell xs ys s = λ i. number (s.many i) ++ s.flat i

same_names : (xs ys : List CrossName) → NamesBy AnyNumbers xs ys → Spelled name_label xs ys
same_names [] [] h = record { many = refl; flat = refl }
same_names (x ∷ xs) (y ∷ ys) h = let r = same_names xs ys h.1 in record { many = ap suc r.many; flat = λ i. same_name x y h.0 i ++ r.flat i }
same_names _ _ h = absurd h

same_value : (a b : Value CrossName) → SameValue a b → cross_value_label a ≡ cross_value_label b
same_value a b h = λ i. plain_label (h.0 i) ++ each_same name_label a.refs b.refs (same_names a.refs b.refs h.1) i

same_attrs : (xs ys : List (Attr CrossName)) → AttrsBy AnyNumbers xs ys → Spelled cross_attr_label xs ys
same_attrs [] [] h = record { many = refl; flat = refl }
same_attrs (x ∷ xs) (y ∷ ys) h = let r = same_attrs xs ys h.2 in record { many = ap suc r.many; flat = λ i. (number (h.0 i) ++ same_value x.value y.value h.1 i) ++ r.flat i }
same_attrs _ _ h = absurd h

pub lone_same : (d e : Node CrossName) → NodeBy AnyNumbers d e → lone_label d ≡ lone_label e
lone_same d e h = λ i. number (h.0 i) ++ each_same cross_attr_label d.attrs e.attrs (same_attrs d.attrs e.attrs h.1) i

same_size : (f g : Entries CrossName) → EntriesBy AnyNumbers f g → size f ≡ size g
same_size End End h = refl
same_size (Entry d c n) (Entry e c' n') h = let x = same_size c c' h.1 in let y = same_size n n' h.2 in omega arith
same_size _ _ h = absurd h

same_entries : (f g : Entries CrossName) → EntriesBy AnyNumbers f g → cross_entries_label f ≡ cross_entries_label g
unfolding cross_entries_label
same_entries End End h = refl
same_entries (Entry d c n) (Entry e c' n') h =
    λ i. (number (same_size c c' h.1 i) ++ lone_same d e h.0 i) ++ (same_entries c c' h.1 i ++ same_entries n n' h.2 i)
same_entries _ _ h = absurd h

pub top_same : (a b : CrossTop CrossName) → TopBy AnyNumbers a b → cross_label a ≡ cross_label b
top_same a b h =
    λ i. each_counted counted (h.0 i) ++ ((number (same_size a.below b.below h.2 i) ++ lone_same a.node b.node h.1 i) ++ same_entries a.below b.below h.2 i)
