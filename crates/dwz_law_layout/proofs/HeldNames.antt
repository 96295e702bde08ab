-- What the lines of a unit hold: each key in them is one that the unit refers to.
use Rattle.std.proofs.Common.{◌≡◌, ℕ, suc, List, [], ◌∷◌, ◌++◌, map, refl, sym, ap, subst, ◌∙◌, inl, inr}
use Rattle.std.proofs.lemmas.List.{map-append}
use Rattle.dwz_def_reading.specs.Lists.{Each, In}
use Rattle.dwz_def_reading.specs.Trees.{End, Entry}
use Rattle.dwz_def_reading.proofs.ListFacts.{in_left, in_right}
use Rattle.dwz_def_reading.specs.Documents.{Attr, DwUnit, Entries, Expr, Plain}
use Rattle.dwz_def_reading.specs.Classes.{OfCommonEntry, OfExpression, OfInfoEntry, OfUnitEntry}
use Rattle.dwz_def_reading.specs.Classes.{Class, class_of}
use Rattle.dwz_def_tops.specs.Seen.{Named, Seen, all_seen, named_value, see, seen, seen_below, seen_roots}
use Rattle.dwz_def_tops.specs.Shown.{keys}
use Rattle.dwz_def_tops.proofs.Members.{each_append}
use Rattle.dwz_layout_items.specs.Lines.{Line, lines, unit_lines}
use Rattle.dwz_encode.specs.Shown.{Held, HeldAttr, HeldLine, Key, Parts, Value, expr_held, first_held, held_as, held_of, line_held}
use Rattle.dwz_def_readback.specs.Fewer.{NameOnly}

pub each_to_map : {X Y : Type 0} (f : X → Y) (P : Y → Type 0) (xs : List X) → Each (λ x. P (f x)) xs → Each P (map f xs)
each_to_map f P [] all = tt
each_to_map f P (x ∷ xs) all = (all.0, each_to_map f P xs all.1)

pub each_of_map : {X Y : Type 0} (f : X → Y) (P : Y → Type 0) (xs : List X) → Each P (map f xs) → Each (λ x. P (f x)) xs
each_of_map f P [] all = tt
each_of_map f P (x ∷ xs) all = (all.0, each_of_map f P xs all.1)

module _ {K : Type 0} where
  abbrev pub held_refs : Held K → List K
  held_refs (Value raw) = []
  held_refs (Key k) = k ∷ []
  held_refs (Parts parts refs) = refs

  -- ---- an attribute holds what it names

  first_in : (refs : List K) (k : K) → In k (held_refs (first_held refs)) → In k refs
  first_in [] k there = absurd there
  first_in (x ∷ refs) k (inl e) = inl e
  first_in (x ∷ refs) k (inr none) = absurd none

  expr_in : (plain : Plain) (refs : List K) (k : K) → In k (held_refs (expr_held plain refs)) → In k refs
  expr_in (Expr parts) refs k there = there
  expr_in _ refs k there = absurd there

  held_in : (c : Class) (a : Attr K) (k : K) → In k (held_refs (held_as c a)) → In k a.value.refs
  held_in OfUnitEntry a k there = first_in a.value.refs k there
  held_in OfInfoEntry a k there = first_in a.value.refs k there
  held_in OfCommonEntry a k there = first_in a.value.refs k there
  held_in OfExpression a k there = expr_in a.value.plain a.value.refs k there
  held_in _ a k there = absurd there

  -- ---- keys of lines

  pub lines_keys : (depth : ℕ) (g : Entries K) → map (λ (l : Line K). l.node.at) (lines depth g) ≡ keys g
  unfolding lines keys
  lines_keys depth End = refl
  lines_keys depth (Entry e children next) =
      ap (λ (w : List K). e.at ∷ w) (map-append (λ (l : Line K). l.node.at) (lines (suc depth) children) (lines depth next)
      ∙ ap (λ (w : List K). w ++ map (λ (l : Line K). l.node.at) (lines depth next)) (lines_keys (suc depth) children)
      ∙ ap (λ (w : List K). keys children ++ w) (lines_keys depth next))

  -- ---- seen units

  root_seen : (units : List (DwUnit K)) (u : DwUnit K) → In u units → In (see u.root u.below) (seen_roots units)
  unfolding seen_roots
  root_seen [] u there = absurd there
  root_seen (v ∷ units) u (inl e) = inl (ap (λ (w : DwUnit K). see w.root w.below) e)
  root_seen (v ∷ units) u (inr r) = inr (root_seen units u r)

  below_seen : (units : List (DwUnit K)) (u : DwUnit K) (s : Seen K) → In u units → In s (seen u.below) → In s (seen_below units)
  unfolding seen_below
  below_seen [] u s there is = absurd there
  below_seen (v ∷ units) u s (inl e) is = in_left s (seen v.below) (seen_below units) (subst (λ (w : DwUnit K). In s (seen w.below)) (sym e) is)
  below_seen (v ∷ units) u s (inr r) is = in_right s (seen v.below) (seen_below units) (below_seen units u s r is)

  -- ---- lines that hold these names alone

  module _ (names : List K) where
    abbrev pub AttrIn : HeldAttr K → Type 0
    AttrIn h = (k : K) → In k (held_refs h.held) → In k names

    abbrev pub LineIn : HeldLine K → Type 0
    LineIn h = Each AttrIn h.attrs

    abbrev SeenIn : Seen K → Type 0
    SeenIn s = (a : Named K) (k : K) → In a s.attrs → In k a.value.refs → In k names

    attrs_in : (attrs : List (Attr K)) → ((a : Named K) (k : K) → In a (map named_value attrs) → In k a.value.refs → In k names) → Each AttrIn (map held_of attrs)
    attrs_in [] only = tt
    attrs_in (a ∷ attrs) only = (
      λ k there. only (named_value a) k (inl refl) (held_in (class_of a.form) a k there),
      attrs_in attrs (λ b k there ref. only b k (inr there) ref),
    )

    abbrev IsIn : Line K → Type 0
    IsIn l = LineIn (line_held l)

    lines_in : (depth : ℕ) (g : Entries K) → ((s : Seen K) → In s (seen g) → SeenIn s) → Each IsIn (lines depth g)
    unfolding lines seen
    lines_in depth End only = tt
    lines_in depth (Entry e children next) only = (
      attrs_in e.attrs (only (see e children) (inl refl)),
      each_append IsIn (lines (suc depth) children) (lines depth next)
          (lines_in (suc depth) children (λ s there. only s (inr (in_left s (seen children) (seen next) there))))
          (lines_in depth next (λ s there. only s (inr (in_right s (seen children) (seen next) there)))),
    )

    pub unit_in : (units : List (DwUnit K)) (u : DwUnit K) → NameOnly names units → In u units → Each LineIn (map line_held (unit_lines u))
    unit_in units u only there =
        let refs : (s : Seen K) → In s (all_seen units) → SeenIn s = λ s is a k attr ref. only.refs s a k is attr ref in
        each_to_map line_held LineIn (unit_lines u) (
          attrs_in u.root.attrs (refs (see u.root u.below) (in_left (see u.root u.below) (seen_roots units) (seen_below units) (root_seen units u there))),
          lines_in 2 u.below (λ s is. refs s (in_right s (seen_roots units) (seen_below units) (below_seen units u s there is))),
        )
