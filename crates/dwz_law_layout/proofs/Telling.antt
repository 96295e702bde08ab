-- Names that tell all numbers apart: what holds of the lines of items under these names holds of what the items stand for.
use Rattle.std.proofs.Common.{◌≡◌, ℕ, suc, ◌-◌, List, [], ◌∷◌, ◌++◌, refl, sym, ap, subst}
use Rattle.dwz_def_reading.specs.Trees.{End, Entry}
use Rattle.dwz_def_reading.specs.Documents.{Node}
use Rattle.dwz_def_reading.specs.Lists.{Each}
use Rattle.dwz_def_tops.proofs.Members.{each_more, each_split}
use Rattle.dwz_def_tops.specs.Spots.{EntryName, Import, InChain, RootOf, SpaceAt, UnitOf, Within}
use Rattle.dwz_layout_items.specs.declared.order.Item.{Item}
use Rattle.dwz_layout_items.specs.declared.order.ItemKind.{ItemKind}
use Rattle.dwz_layout_items.specs.declared.order.ItemKind.TheVariants.{Import as Imported, InChain as Chained, Root, Space, Top, Whole}
use Rattle.dwz_layout_items.specs.Lines.{Line, line, lines}
use Rattle.dwz_layout_items.specs.Order.{Names, order_lines, what_lines}
use Rattle.dwz_law_layout.specs.Items.{RootThen, item}

abbrev pub tell : EntryName → Node EntryName
tell s = record { at = s; tag = 0; attrs = [] }

abbrev pub telling : Names EntryName
telling = record {
  root = tell (RootOf 0);
  whole = Entry (tell (UnitOf 0)) End End;
  top = λ t. tell (Within t []);
  below = λ t. End;
  space = λ s. tell (SpaceAt s []);
  in_chain = λ chain depth s. tell (InChain chain depth s);
  import = λ part. tell (Import 0 part);
}

-- ---- from names to what has them

abbrev pub OfLine : (EntryName → Type 0) → Line EntryName → Type 0
OfLine P l = P l.node.at

abbrev pub AsTold : (EntryName → Type 0) → ItemKind → Type 0
AsTold P Root = P (RootOf 0)
AsTold P Whole = P (UnitOf 0)
AsTold P (Top t) = P (Within t [])
AsTold P (Space s) = P (SpaceAt s [])
AsTold P (Chained chain s) = (depth : ℕ) × P (InChain chain depth s)
AsTold P (Imported part) = P (Import 0 part)

one_told : (P : EntryName → Type 0) (depth : ℕ) (what : ItemKind) → Each (OfLine P) (what_lines telling depth what) → AsTold P what
unfolding lines
one_told P depth Root h = h.0
one_told P depth Whole h = h.1.0
one_told P depth (Top t) h = h.0
one_told P depth (Space s) h = h.0
one_told P depth (Chained chain s) h = (depth - 2, h.0)
one_told P depth (Imported part) h = h.0

pub all_told : (P : EntryName → Type 0) (items : List Item) → Each (OfLine P) (order_lines telling items) → Each (λ x. AsTold P x.what) items
unfolding order_lines
all_told P [] h = tt
all_told P (x ∷ items) h =
    let both = each_split (OfLine P) (what_lines telling x.depth x.what) (order_lines telling items) h in
    (one_told P x.depth x.what both.0, all_told P items both.1)

-- ---- the root

abbrev name_of : Line EntryName → EntryName
name_of l = l.node.at

-- two lines have one name, and stand as deep
first_same : (l k : Line EntryName) (xs ys : List (Line EntryName)) → l ∷ xs ≡ k ∷ ys → (l.depth ≡ k.depth) × (name_of l ≡ name_of k) × (xs ≡ ys)
first_same l k xs ys e = (let h : l ≡ k = cc in (ap (λ (w : Line EntryName). w.depth) h, ap name_of h, cc))

pub record RootAhead (items : List Item) (rest : List (Line EntryName)) : Type 0 where
  pub others : List Item
  pub items_are : items ≡ item 1 Root ∷ others
  pub lines_are : order_lines telling others ≡ rest

root_ahead : (P : EntryName → Type 0) → (P (UnitOf 0) → ⊥) → (items : List Item) (rest : List (Line EntryName)) → order_lines telling items ≡ line 1 (tell (RootOf 0)) ∷ rest → Each (OfLine P) rest
    → RootAhead items rest
unfolding order_lines lines
root_ahead P none [] rest e h = absurd cc
root_ahead P none (x ∷ items) rest e h = by x.what x.depth e where
  more : List (Line EntryName)
  more = order_lines telling items

  other : (depth : ℕ) (s : EntryName) → (s ≡ RootOf 0 → ⊥) → line depth (tell s) ∷ more ≡ line 1 (tell (RootOf 0)) ∷ rest → ⊥
  other depth s differs q = differs (first_same (line depth (tell s)) (line 1 (tell (RootOf 0))) more rest q).1

  by : (what : ItemKind) (depth : ℕ) → what_lines telling depth what ++ order_lines telling items ≡ line 1 (tell (RootOf 0)) ∷ rest → RootAhead (item depth what ∷ items) rest
  by Root depth q =
      let r = first_same (line depth (tell (RootOf 0))) (line 1 (tell (RootOf 0))) (order_lines telling items) rest q in
      record { others = items; items_are = (λ i. item (r.0 i) Root ∷ items); lines_are = r.2 }
  by Whole depth q =
      let r = first_same (line depth (tell (RootOf 0))) (line 1 (tell (RootOf 0))) (line (suc depth) (tell (UnitOf 0)) ∷ order_lines telling items) rest q in
      absurd (none (subst (Each (OfLine P)) (sym r.2) h).0)
  by (Top t) depth q = absurd (other depth (Within t []) (λ w. cc) q)
  by (Space s) depth q = absurd (other depth (SpaceAt s []) (λ w. cc) q)
  by (Chained chain s) depth q = absurd (other depth (InChain chain (depth - 2) s) (λ w. cc) q)
  by (Imported part) depth q = absurd (other depth (Import 0 part) (λ w. cc) q)

-- a unit begins with its root, and all names behind that are known
pub root_then : (P : EntryName → Type 0) (Q : ItemKind → Type 0) → (P (UnitOf 0) → ⊥) → ((what : ItemKind) → AsTold P what → Q what) → (items : List Item) (rest : List (Line EntryName))
    → order_lines telling items ≡ line 1 (tell (RootOf 0)) ∷ rest → Each (OfLine P) rest → RootThen Q items
root_then P Q none to items rest e h =
    let r = root_ahead P none items rest e h in
    let told = all_told P r.others (subst (Each (OfLine P)) (sym r.lines_are) h) in
    record { others = r.others; items_are = r.items_are; each = each_more (λ x. AsTold P x.what) (λ x. Q x.what) r.others (λ x. to x.what) told }

-- ---- a unit as a whole

abbrev pub the_whole : List (Line EntryName)
the_whole = line 1 (tell (RootOf 0)) ∷ (line 2 (tell (UnitOf 0)) ∷ [])

no_items : (items : List Item) → order_lines telling items ≡ [] → items ≡ []
unfolding order_lines lines
no_items [] e = refl
no_items (x ∷ items) e = by x.what x.depth e where
  by : (what : ItemKind) (depth : ℕ) → what_lines telling depth what ++ order_lines telling items ≡ [] → item depth what ∷ items ≡ []
  by Root depth q = absurd cc
  by Whole depth q = absurd cc
  by (Top t) depth q = absurd cc
  by (Space s) depth q = absurd cc
  by (Chained chain s) depth q = absurd cc
  by (Imported part) depth q = absurd cc

-- nothing else begins so
not_unit : (items : List Item) → order_lines telling items ≡ line 2 (tell (UnitOf 0)) ∷ [] → ⊥
unfolding order_lines lines
not_unit [] e = cc
not_unit (x ∷ items) e = by x.what x.depth e where
  by : (what : ItemKind) (depth : ℕ) → what_lines telling depth what ++ order_lines telling items ≡ line 2 (tell (UnitOf 0)) ∷ [] → ⊥
  by Root depth q = (let w = (first_same _ _ _ _ q).1 in cc)
  by Whole depth q = (let w = (first_same _ _ _ _ q).1 in cc)
  by (Top t) depth q = (let w = (first_same _ _ _ _ q).1 in cc)
  by (Space s) depth q = (let w = (first_same _ _ _ _ q).1 in cc)
  by (Chained chain s) depth q = (let w = (first_same _ _ _ _ q).1 in cc)
  by (Imported part) depth q = (let w = (first_same _ _ _ _ q).1 in cc)

pub whole_alone : (items : List Item) → order_lines telling items ≡ the_whole → items ≡ item 1 Whole ∷ []
unfolding order_lines lines
whole_alone [] e = absurd cc
whole_alone (x ∷ items) e = by x.what x.depth e where
  by : (what : ItemKind) (depth : ℕ) → what_lines telling depth what ++ order_lines telling items ≡ the_whole → item depth what ∷ items ≡ item 1 Whole ∷ []
  by Root depth q = absurd (not_unit items (first_same _ _ _ _ q).2)
  by Whole depth q =
      let r = first_same _ _ _ _ q in
      let none = no_items items (first_same _ _ _ _ r.2).2 in
      (λ i. item (r.0 i) Whole ∷ none i)
  by (Top t) depth q = absurd (let w = (first_same _ _ _ _ q).1 in cc)
  by (Space s) depth q = absurd (let w = (first_same _ _ _ _ q).1 in cc)
  by (Chained chain s) depth q = absurd (let w = (first_same _ _ _ _ q).1 in cc)
  by (Imported part) depth q = absurd (let w = (first_same _ _ _ _ q).1 in cc)
