-- The rows of old units, against their entries.
use Rattle.std.proofs.Common.{◌≡◌, ℕ, ℤ, suc, ◌+◌, ◌⊎◌, List, [], ◌∷◌, ◌++◌, Option, Some, None, map, refl, sym, ap, subst, ◌∙◌, inl, inr, append_assoc}
use Rattle.std.proofs.lemmas.List.{map-append}
use Rattle.dwz_def_reading.specs.Documents.{Attr, Entries, Node, first_named}
use Rattle.dwz_def_reading.specs.Lists.{In}
use Rattle.dwz_def_reading.specs.Trees.{End, Entry}
use Rattle.dwz_def_reading.proofs.ListFacts.{in_cases, in_left, in_right}
use Rattle.dwz_def_tops.specs.Seen.{Seen, see, seen, seen_tops}
use Rattle.dwz_def_tops.specs.Spaces.{IsUnder, space_text, tops_under}
use Rattle.dwz_def_tops.proofs.SpaceLemmas.{some_none}
use Rattle.dwz_def_tops.specs.Spots.{ASpace, ATop, EntryName, LabelledSpaces, Nothing, Row, SpaceAt, SpaceName, Top, name_by, name_list, name_of, row_tops}
use Rattle.dwz_def_tops.proofs.RowLemmas.{RowIs, top_at}
use Rattle.dwz_def_plan.specs.IsPlan.{Has, Item, OfSpace, OfTop}
use Rattle.dwz_def_images.specs.Held.{Kinded}

abbrev pub node_of : Item → Node EntryName
node_of (OfTop t) = t.node
node_of (OfSpace e) = e

-- what is seen of a top
abbrev pub raw_top : Top → List (Seen EntryName)
raw_top t = see t.node t.below ∷ seen t.below

abbrev pub texts : List SpaceName → List (List ℕ)
texts spaces = map (λ s. s.text) spaces

-- ---- tops are no spaces, and spaces are

abbrev pub KindOf : Item → Type 0
KindOf (OfTop t) = space_text t.node ≡ None
KindOf (OfSpace e) = (text : List ℕ) × (space_text e ≡ Some text)

pub kind_in : (row : Row) → Kinded row → (names : List (List ℕ)) (x : Item) → Has names x row → KindOf x
kind_in Nothing k names x h = absurd h
kind_in (ATop t next) k names x (inl y) = subst KindOf y.1 k.0
kind_in (ATop t next) k names x (inr y) = kind_in next k.1 names x y
kind_in (ASpace e inner next) k names x (inl y) = subst KindOf y.1 k.0
kind_in (ASpace e inner next) k names x (inr (inl i)) = kind_in inner k.1 i.1 x i.4
kind_in (ASpace e inner next) k names x (inr (inr y)) = kind_in next k.2 names x y

-- it stands somewhere in the row
pub record Somewhere (x : Item) (row : Row) : Type 0 where
  pub names : List (List ℕ)
  pub has : Has names x row

pub tops_somewhere : (row : Row) → Kinded row → (t : Top) → In t (row_tops row) → Somewhere (OfTop t) row
unfolding row_tops
tops_somewhere Nothing k t h = absurd h
tops_somewhere (ATop u next) k t (inl e) = record { names = []; has = inl (refl, ap (λ (w : Top). OfTop w) e) }
tops_somewhere (ATop u next) k t (inr r) = let o = tops_somewhere next k.1 t r in record { names = o.names; has = inr o.has }
tops_somewhere (ASpace e inner next) k t h = elim (in_cases t (row_tops inner) (row_tops next) h) [
  | inl a ↦ (let o = tops_somewhere inner k.1 t a in record { names = k.0.0 ∷ o.names; has = inr (inl (k.0.0, o.names, k.0.1, refl, o.has)) })
  | inr b ↦ (let o = tops_somewhere next k.2 t b in record { names = o.names; has = inr (inr o.has) })
]

top_item : (t u : Top) → OfTop t ≡ OfTop u → t ≡ u
top_item t u e = cc

pub tops_among : (row : Row) (names : List (List ℕ)) (t : Top) → Has names (OfTop t) row → In t (row_tops row)
unfolding row_tops
tops_among Nothing names t h = absurd h
tops_among (ATop u next) names t (inl y) = inl (top_item u t y.1)
tops_among (ATop u next) names t (inr y) = inr (tops_among next names t y)
tops_among (ASpace e inner next) names t (inl y) = absurd (let z = y.1 in cc)
tops_among (ASpace e inner next) names t (inr (inl i)) = in_left t (row_tops inner) (row_tops next) (tops_among inner i.1 t i.4)
tops_among (ASpace e inner next) names t (inr (inr y)) = in_right t (row_tops inner) (row_tops next) (tops_among next names t y)

-- each list of names before the one of a top is that of a space
pub space_before : (row : Row) (outer : List (List ℕ)) (text : List ℕ) (others : List (List ℕ)) (x : Item) → Has (outer ++ text ∷ others) x row
    → (d : Node EntryName) × Has outer (OfSpace d) row × (space_text d ≡ Some text)
space_before Nothing outer text others x h = absurd h
space_before (ATop t next) outer text others x (inl y) = absurd (none_there outer text others y.0) where
  none_there : (xs : List (List ℕ)) (y : List ℕ) (ys : List (List ℕ)) → xs ++ y ∷ ys ≡ [] → ⊥
  none_there [] y ys e = cc
  none_there (x ∷ xs) y ys e = cc
space_before (ATop t next) outer text others x (inr y) = let o = space_before next outer text others x y in (o.0, inr o.1, o.2)
space_before (ASpace e inner next) [] text others x (inl y) = absurd (let z = y.0 in cc)
space_before (ASpace e inner next) (a ∷ outer) text others x (inl y) = absurd (let z = y.0 in cc)
space_before (ASpace e inner next) [] text others x (inr (inl i)) = (let same : i.0 ≡ text = (let z = i.3 in cc) in (e, inl (refl, refl), i.2 ∙ ap (λ (w : List ℕ). Some w) same))
space_before (ASpace e inner next) (a ∷ outer) text others x (inr (inl i)) =
    let first : a ≡ i.0 = (let z = i.3 in cc) in
    let rest : outer ++ text ∷ others ≡ i.1 = (let z = i.3 in cc) in
    let o = space_before inner outer text others x (subst (λ (w : List (List ℕ)). Has w x inner) (sym rest) i.4) in
    (o.0, inr (inl (i.0, outer, i.2, ap (λ (w : List ℕ). w ∷ outer) first, o.1)), o.2)
space_before (ASpace e inner next) [] text others x (inr (inr y)) = let o = space_before next [] text others x y in (o.0, inr (inr o.1), o.2)
space_before (ASpace e inner next) (a ∷ outer) text others x (inr (inr y)) = let o = space_before next (a ∷ outer) text others x y in (o.0, inr (inr o.1), o.2)

-- ---- spaces are at their own names

pub space_place : (unit : ℕ) (path : List ℕ) (i : ℕ) (row : Row) → LabelledSpaces unit path i row → (names : List (List ℕ)) (d : Node EntryName) → Has names (OfSpace d) row
    → (p : List ℕ) × (d.at ≡ SpaceAt unit p)
space_place unit path i Nothing l names d h = absurd h
space_place unit path i (ATop t next) l names d (inl y) = absurd (let z = y.1 in cc)
space_place unit path i (ATop t next) l names d (inr y) = space_place unit path (suc i) next l names d y
space_place unit path i (ASpace e inner next) l names d (inl y) = (i ∷ path, (let same : d ≡ e = (let z = y.1 in cc) in ap (λ (w : Node EntryName). w.at) same ∙ l.0))
space_place unit path i (ASpace e inner next) l names d (inr (inl j)) = space_place unit (i ∷ path) 0 inner l.1 j.1 d j.4
space_place unit path i (ASpace e inner next) l names d (inr (inr y)) = space_place unit path (suc i) next l.2 names d y

-- ---- the row of some entries

name_is : (text : List ℕ) (d : Node EntryName) → (name_of text d).text ≡ text
name_is text d = go (first_named 0x03 d.attrs) where
  go : (o : Option (Attr EntryName)) → (name_by text o).text ≡ text
  go None = refl
  go (Some a) = refl

module _ (file unit : ℕ) (tongue : Option ℤ) where
  pub row_kinded : (spaces : List SpaceName) (n : ℕ) (row : Row) (f : Entries EntryName) → RowIs file unit tongue spaces n row f → Kinded row
  row_kinded spaces n Nothing f h = tt
  row_kinded spaces n (ATop t row) (Entry e f g) h = (ap (λ (w : Top). space_text w.node) (sym h.1) ∙ h.0, row_kinded spaces (suc n) row g h.2)
  row_kinded spaces n (ASpace d inner row) (Entry e f g) h =
      ((h.0, ap space_text (sym h.2) ∙ h.1), row_kinded (spaces ++ name_of h.0 e ∷ []) n inner f h.3, row_kinded spaces (n + tops_under f) row g h.4)
  row_kinded spaces n (ATop t row) End h = absurd h
  row_kinded spaces n (ASpace d inner row) End h = absurd h

  -- an entry is an item of the row
  pub record IsItem (row : Row) (names : List (List ℕ)) (e : Node EntryName) : Type 0 where
    pub item : Item
    pub has : Has names item row
    pub is : node_of item ≡ e

  pub item_of : (spaces : List SpaceName) (n : ℕ) (row : Row) (f : Entries EntryName) → RowIs file unit tongue spaces n row f → (names : List (List ℕ)) (e : Node EntryName) → IsUnder names e f
      → IsItem row names e
  item_of spaces n Nothing End h names e u = absurd u
  item_of spaces n (ATop t row) (Entry d f g) h names e (inl y) = record { item = OfTop t; has = inl (y.0, refl); is = ap (λ (w : Top). w.node) (sym h.1) ∙ y.1 }
  item_of spaces n (ATop t row) (Entry d f g) h names e (inr (inl i)) = some_none (space_text d) i.0 i.2 h.0
  item_of spaces n (ATop t row) (Entry d f g) h names e (inr (inr y)) = let o = item_of spaces (suc n) row g h.2 names e y in record { item = o.item; has = inr o.has; is = o.is }
  item_of spaces n (ASpace d' inner row) (Entry d f g) h names e (inl y) = record { item = OfSpace d'; has = inl (y.0, refl); is = sym h.2 ∙ y.1 }
  item_of spaces n (ASpace d' inner row) (Entry d f g) h names e (inr (inl i)) =
      let o = item_of (spaces ++ name_of h.0 d ∷ []) n inner f h.3 i.1 e i.4 in
      record { item = o.item; has = inr (inl (i.0, i.1, ap space_text (sym h.2) ∙ i.2, i.3, o.has)); is = o.is }
  item_of spaces n (ASpace d' inner row) (Entry d f g) h names e (inr (inr y)) =
      let o = item_of spaces (n + tops_under f) row g h.4 names e y in record { item = o.item; has = inr (inr o.has); is = o.is }
  item_of spaces n Nothing (Entry d f g) h names e u = absurd h
  item_of spaces n (ATop t row) End h names e u = absurd h
  item_of spaces n (ASpace d inner row) End h names e u = absurd h

  pub item_under : (spaces : List SpaceName) (n : ℕ) (row : Row) (f : Entries EntryName) → RowIs file unit tongue spaces n row f → (names : List (List ℕ)) (x : Item) → Has names x row
      → IsUnder names (node_of x) f
  item_under spaces n Nothing f h names x u = absurd u
  item_under spaces n (ATop t row) (Entry d f g) h names x (inl y) = inl (y.0, ap (λ (w : Top). w.node) h.1 ∙ ap node_of y.1)
  item_under spaces n (ATop t row) (Entry d f g) h names x (inr y) = inr (inr (item_under spaces (suc n) row g h.2 names x y))
  item_under spaces n (ASpace d' inner row) (Entry d f g) h names x (inl y) = inl (y.0, h.2 ∙ ap node_of y.1)
  item_under spaces n (ASpace d' inner row) (Entry d f g) h names x (inr (inl i)) =
      inr (inl (i.0, i.1, ap space_text h.2 ∙ i.2, i.3, item_under (spaces ++ name_of h.0 d ∷ []) n inner f h.3 i.1 x i.4))
  item_under spaces n (ASpace d' inner row) (Entry d f g) h names x (inr (inr y)) = inr (inr (item_under spaces (n + tops_under f) row g h.4 names x y))
  item_under spaces n (ATop t row) End h names x u = absurd h
  item_under spaces n (ASpace d inner row) End h names x u = absurd h

  -- a top's name list is that of the spaces that it stands in
  pub top_names : (spaces : List SpaceName) (n : ℕ) (row : Row) (f : Entries EntryName) → RowIs file unit tongue spaces n row f → (names : List (List ℕ)) (t : Top) → Has names (OfTop t) row
      → name_list t ≡ texts spaces ++ names
  top_names spaces n Nothing f h names t u = absurd u
  top_names spaces n (ATop v row) (Entry d f g) h names t (inl y) =
      ap name_list (sym (h.1 ∙ top_item v t y.1)) ∙ sym (nil_right (texts spaces)) ∙ ap (λ (w : List (List ℕ)). texts spaces ++ w) (sym y.0)
    where
      nil_right : (xs : List (List ℕ)) → xs ++ [] ≡ xs
      nil_right [] = refl
      nil_right (x ∷ xs) = ap (λ (w : List (List ℕ)). x ∷ w) (nil_right xs)
  top_names spaces n (ATop v row) (Entry d f g) h names t (inr y) = top_names spaces (suc n) row g h.2 names t y
  top_names spaces n (ASpace d' inner row) (Entry d f g) h names t (inl y) = absurd (let z = y.1 in cc)
  top_names spaces n (ASpace d' inner row) (Entry d f g) h names t (inr (inl i)) =
      let same : h.0 ≡ i.0 = (let a : space_text d ≡ Some i.0 = ap space_text h.2 ∙ i.2 in let b = h.1 in cc) in
      top_names (spaces ++ name_of h.0 d ∷ []) n inner f h.3 i.1 t i.4
      ∙ ap (λ (w : List (List ℕ)). w ++ i.1) (map-append (λ s. s.text) spaces (name_of h.0 d ∷ []))
      ∙ append_assoc (texts spaces) (texts (name_of h.0 d ∷ [])) i.1
      ∙ ap (λ (w : List (List ℕ)). texts spaces ++ w) (text_first h.0 d i.1 ∙ ap (λ (w : List ℕ). w ∷ i.1) same ∙ sym i.3)
    where
      text_first : (text : List ℕ) (d : Node EntryName) (rest : List (List ℕ)) → texts (name_of text d ∷ []) ++ rest ≡ text ∷ rest
      text_first text d rest = ap (λ (w : List ℕ). w ∷ rest) (name_is text d)
  top_names spaces n (ASpace d' inner row) (Entry d f g) h names t (inr (inr y)) = top_names spaces (n + tops_under f) row g h.4 names t y
  top_names spaces n (ATop v row) End h names t u = absurd h
  top_names spaces n (ASpace d inner row) End h names t u = absurd h

  -- ---- what is seen

  pub record SeenIn (row : Row) (e : Seen EntryName) : Type 0 where
    pub top : Top
    pub there : In top (row_tops row)
    pub is : In e (raw_top top)

  pub seen_in_top : (spaces : List SpaceName) (n : ℕ) (row : Row) (f : Entries EntryName) → RowIs file unit tongue spaces n row f → (e : Seen EntryName) → In e (seen_tops f) → SeenIn row e
  unfolding seen_tops row_tops
  seen_in_top spaces n Nothing End h e is = absurd is
  seen_in_top spaces n (ATop t row) (Entry d f g) h e is = pick (seen_in_top spaces (suc n) row g h.2 e)
      (subst (λ (o : Option (List ℕ)). In e (elim o as (λ _. List (Seen EntryName)) [ None ↦ see d f ∷ (seen f ++ seen_tops g) | Some text ↦ seen_tops f ++ seen_tops g ])) h.0 is) where
        here : In e (raw_top (top_at file unit tongue spaces n d f)) → SeenIn (ATop t row) e
        here x = record { top = t; there = inl refl; is = subst (λ (w : Top). In e (raw_top w)) h.1 x }

        pick : (In e (seen_tops g) → SeenIn row e) → In e (see d f ∷ (seen f ++ seen_tops g)) → SeenIn (ATop t row) e
        pick more (inl x) = here (inl x)
        pick more (inr r) = elim (in_cases e (seen f) (seen_tops g) r) [ inl a ↦ here (inr a) | inr b ↦ (let o = more b in record { top = o.top; there = inr o.there; is = o.is }) ]
  seen_in_top spaces n (ASpace d' inner row) (Entry d f g) h e is =
      pick (seen_in_top (spaces ++ name_of h.0 d ∷ []) n inner f h.3 e) (seen_in_top spaces (n + tops_under f) row g h.4 e)
      (in_cases e (seen_tops f) (seen_tops g) (subst (λ (o : Option (List ℕ)). In e
      (elim o as (λ _. List (Seen EntryName)) [ None ↦ see d f ∷ (seen f ++ seen_tops g) | Some text ↦ seen_tops f ++ seen_tops g ])) h.1 is))
    where
      pick : (In e (seen_tops f) → SeenIn inner e) → (In e (seen_tops g) → SeenIn row e) → In e (seen_tops f) ⊎ In e (seen_tops g) → SeenIn (ASpace d' inner row) e
      pick a b (inl x) = let o = a x in record { top = o.top; there = in_left o.top (row_tops inner) (row_tops row) o.there; is = o.is }
      pick a b (inr y) = let o = b y in record { top = o.top; there = in_right o.top (row_tops inner) (row_tops row) o.there; is = o.is }
  seen_in_top spaces n Nothing (Entry d f g) h e is = absurd h
  seen_in_top spaces n (ATop t row) End h e is = absurd h
  seen_in_top spaces n (ASpace d inner row) End h e is = absurd h

  pub raw_seen : (spaces : List SpaceName) (n : ℕ) (row : Row) (f : Entries EntryName) → RowIs file unit tongue spaces n row f → (t : Top) → In t (row_tops row) → (e : Seen EntryName)
      → In e (raw_top t)
      → In e (seen f)
  unfolding row_tops seen
  raw_seen spaces n Nothing f h t is e x = absurd is
  raw_seen spaces n (ATop u row) (Entry d f g) h t (inl y) e x = in_left e (see d f ∷ seen f) (seen g) (subst (λ (w : Top). In e (raw_top w)) (sym (h.1 ∙ y)) x)
  raw_seen spaces n (ATop u row) (Entry d f g) h t (inr r) e x = in_right e (see d f ∷ seen f) (seen g) (raw_seen spaces (suc n) row g h.2 t r e x)
  raw_seen spaces n (ASpace d' inner row) (Entry d f g) h t is e x =
      pick (raw_seen (spaces ++ name_of h.0 d ∷ []) n inner f h.3 t) (raw_seen spaces (n + tops_under f) row g h.4 t) (in_cases t (row_tops inner) (row_tops row) is)
    where
      pick : (In t (row_tops inner) → (e : Seen EntryName) → In e (raw_top t) → In e (seen f)) → (In t (row_tops row) → (e : Seen EntryName) → In e (raw_top t) → In e (seen g))
          → In t (row_tops inner) ⊎ In t (row_tops row) → In e (see d f ∷ (seen f ++ seen g))
      pick a b (inl y) = inr (in_left e (seen f) (seen g) (a y e x))
      pick a b (inr y) = inr (in_right e (seen f) (seen g) (b y e x))
  raw_seen spaces n (ATop u row) End h t is e x = absurd h
  raw_seen spaces n (ASpace d inner row) End h t is e x = absurd h

  -- what is seen is an entry of a top, or a space
  pub data Origin (row : Row) (f : Entries EntryName) (e : Seen EntryName) : Type 0 where
    InTop : (t : Top) → In t (row_tops row) → In e (raw_top t) → Origin row f e
    IsSpaceSeen : (names : List (List ℕ)) (d : Node EntryName) → Has names (OfSpace d) row → e.at ≡ d.at → Origin row f e

  pub seen_origin : (spaces : List SpaceName) (n : ℕ) (row : Row) (f : Entries EntryName) → RowIs file unit tongue spaces n row f → (e : Seen EntryName) → In e (seen f) → Origin row f e
  unfolding row_tops seen
  seen_origin spaces n Nothing End h e is = absurd is
  seen_origin spaces n (ATop t row) (Entry d f g) h e is = pick (seen_origin spaces (suc n) row g h.2 e) is where
    here : In e (raw_top (top_at file unit tongue spaces n d f)) → Origin (ATop t row) (Entry d f g) e
    here x = InTop t (inl refl) (subst (λ (w : Top). In e (raw_top w)) h.1 x)

    later : Origin row g e → Origin (ATop t row) (Entry d f g) e
    later (InTop u a b) = InTop u (inr a) b
    later (IsSpaceSeen names c a b) = IsSpaceSeen names c (inr a) b

    pick : (In e (seen g) → Origin row g e) → In e (see d f ∷ (seen f ++ seen g)) → Origin (ATop t row) (Entry d f g) e
    pick more (inl x) = here (inl x)
    pick more (inr r) = elim (in_cases e (seen f) (seen g) r) [ inl a ↦ here (inr a) | inr b ↦ later (more b) ]
  seen_origin spaces n (ASpace d' inner row) (Entry d f g) h e is =
      pick (seen_origin (spaces ++ name_of h.0 d ∷ []) n inner f h.3 e) (seen_origin spaces (n + tops_under f) row g h.4 e) is
    where
      inside : Origin inner f e → Origin (ASpace d' inner row) (Entry d f g) e
      inside (InTop u a b) = InTop u (in_left u (row_tops inner) (row_tops row) a) b
      inside (IsSpaceSeen names c a b) = IsSpaceSeen (h.0 ∷ names) c (inr (inl (h.0, names, ap space_text (sym h.2) ∙ h.1, refl, a))) b

      later : Origin row g e → Origin (ASpace d' inner row) (Entry d f g) e
      later (InTop u a b) = InTop u (in_right u (row_tops inner) (row_tops row) a) b
      later (IsSpaceSeen names c a b) = IsSpaceSeen names c (inr (inr a)) b

      pick : (In e (seen f) → Origin inner f e) → (In e (seen g) → Origin row g e) → In e (see d f ∷ (seen f ++ seen g)) → Origin (ASpace d' inner row) (Entry d f g) e
      pick a b (inl x) = IsSpaceSeen [] d' (inl (refl, refl)) (ap (λ (w : Seen EntryName). w.at) (sym x) ∙ ap (λ (w : Node EntryName). w.at) h.2)
      pick a b (inr r) = elim (in_cases e (seen f) (seen g) r) [ inl x ↦ inside (a x) | inr y ↦ later (b y) ]
  seen_origin spaces n Nothing (Entry d f g) h e is = absurd h
  seen_origin spaces n (ATop t row) End h e is = absurd h
  seen_origin spaces n (ASpace d inner row) End h e is = absurd h
