-- Where tops and units stand, of files and of a finished common file beside them.
use Rattle.std.proofs.Common.{◌≡◌, ℕ, suc, ◌+◌, ◌-◌, ◌≤◌, ◌⊎◌, ◌||◌, not, Bool, true, false, List, [], ◌∷◌, ◌++◌, length, Option, Some, refl, ap, subst, ◌∙◌, inl, inr, arith, eqb-true, eq-eqb}
use Rattle.std.proofs.lemmas.Bool.{ne_eqb}
use Rattle.std.specs.List.{list_any}
use Rattle.dwz_def_reading.specs.Documents.{Attr, Entries, Node, language}
use Rattle.dwz_def_reading.specs.Lists.{In}
use Rattle.dwz_def_reading.specs.Trees.{End, Entry}
use Rattle.dwz_def_tops.specs.Lists.{Nth}
use Rattle.dwz_def_tops.proofs.Members.{any_from, any_true, in_nth, nth_below, nth_one}
use Rattle.dwz_def_reading.specs.Rows.{has}
use Rattle.dwz_def_reading.proofs.CaseFacts.{or_left, or_right}
use Rattle.dwz_def_tops.specs.Alike.{Movable, any_attr, any_entry, binding_forms, has_operand, holds_place, is_in, is_number, leaves, refers_to, unit_in}
use Rattle.dwz_def_tops.specs.Spots.{FileUnit, EntryName, Top, Within, rows_of_root, tops_of}
use Rattle.dwz_def_tops.proofs.RowLemmas.{unit_row}
use Rattle.dwz_def_tops.proofs.Targets.{Inside, NodeIn, NodeOf, RefsOfTop, StandsIn, entry_from, free_attr, inside, or_first, or_second, top_more}
use Rattle.dwz_def_tops.proofs.TopNumbers.{Numbered, number_from, tops_numbers}
use Rattle.dwz_def_tops.proofs.Tops.{unit_of}
use Rattle.std.proofs.lemmas.Bool.{and_from, or_cases}
use Rattle.dwz_def_images.specs.After.{IsBelow}
use Rattle.dwz_def_images.proofs.NodeLemmas.{top_below}
use Rattle.dwz_def_taken.specs.Beside.{Reused, look_units, together}
use Rattle.dwz_def_taken.specs.Laws.{IsReused}
use Rattle.dwz_def_taken.specs.Takes.{InPart, PartRefers, attr_goes_to, is_of_unit, unit_goes_to}
use Rattle.dwz_def_taken.proofs.LookTops.{AreWhole, as_like, like_there, look_from, own_look, own_number, own_unit, part_look, part_number, part_tops, part_unit_from, together_cases, part_together}
use Rattle.dwz_def_tops.proofs.FiledTops.{nth_cases}

-- ---- lists one behind the other

pub nth_left : {X : Type 0} (s : ℕ) (xs ys : List X) (n : ℕ) (x : X) → Nth s xs n x → Nth s (xs ++ ys) n x
nth_left s [] ys n x h = absurd h
nth_left s (y ∷ xs) ys n x (inl e) = inl e
nth_left s (y ∷ xs) ys n x (inr r) = inr (nth_left (suc s) xs ys n x r)

pub nth_right : {X : Type 0} (s : ℕ) (xs ys : List X) (n : ℕ) (x : X) → Nth (s + length xs) ys n x → Nth s (xs ++ ys) n x
nth_right {X} s [] ys n x h = let p : s + 0 ≡ s = omega arith in subst (λ (i : ℕ). Nth i ys n x) p h
nth_right {X} s (y ∷ xs) ys n x h = let p : s + suc (length xs) ≡ suc s + length xs = omega arith in inr (nth_right (suc s) xs ys n x (subst (λ (i : ℕ). Nth i ys n x) p h))

-- the same item, counted from elsewhere
pub nth_move : {X : Type 0} (s s' : ℕ) (xs : List X) (n n' : ℕ) (x : X) → Nth s xs n x → n + s' ≡ n' + s → Nth s' xs n' x
nth_move s s' [] n n' x h e = absurd h
nth_move s s' (y ∷ xs) n n' x (inl p) e = inl (omega (arith, p.0, e), p.1)
nth_move s s' (y ∷ xs) n n' x (inr r) e = inr (nth_move (suc s) (suc s') xs n n' x r (omega (arith, e)))

-- ---- the unit of a number

pub units_in : (n : ℕ) (tops : List Top) (t : Top) → Numbered n tops → In t tops → unit_in tops t.number ≡ Some t.unit
unfolding unit_in
units_in n [] t h is = absurd is
units_in n (x ∷ tops) t h (inl e) = rw (eq-eqb x.number t.number (ap (λ (y : Top). y.number) e), unit_in) (ap (λ (y : Top). Some y.unit) e)
units_in n (x ∷ tops) t h (inr r) =
    let first = h.0 in
    let later : suc n ≤ t.number = number_from (suc n) tops t h.1 r in
    rw (ne_eqb x.number t.number (λ e. omega arith), unit_in) (units_in (suc n) tops t h.1 r)

pub unit_is_in : (units : List (FileUnit EntryName)) (t : Top) → In t (tops_of units) → is_number (unit_in (tops_of units) t.number) t.unit ≡ true
unit_is_in units t is = ap (λ (o : Option ℕ). is_number o t.unit) (units_in 0 (tops_of units) t (tops_numbers units) is) ∙ eq-eqb t.unit t.unit refl

-- ---- an entry of a top is one of its unit

below_true : (test : Node EntryName → Bool) (e : Node EntryName) (f : Entries EntryName) → IsBelow e f → test e ≡ true → any_entry test f ≡ true
unfolding any_entry
below_true test e End is h = absurd is
below_true test e (Entry d f g) (inl s) h = or_first (test d) _ (ap test s ∙ h)
below_true test e (Entry d f g) (inr (inl s)) h = or_second (test d) _ (or_first (any_entry test f) (any_entry test g) (below_true test e f s h))
below_true test e (Entry d f g) (inr (inr s)) h = or_second (test d) _ (or_second (any_entry test f) (any_entry test g) (below_true test e g s h))

node_below : (e : Node EntryName) (f : Entries EntryName) → NodeIn e f → IsBelow e f
node_below e End is = absurd is
node_below e (Entry d f g) (inl s) = inl s
node_below e (Entry d f g) (inr (inl s)) = inr (inl (node_below e f s))
node_below e (Entry d f g) (inr (inr s)) = inr (inr (node_below e g s))

-- no expression of a movable top names an entry
no_operand : (units : List (FileUnit EntryName)) (t : Top) → In t (tops_of units) → Movable units t.number → (e : Node EntryName) → NodeOf e t → (a : Attr EntryName) → In a e.attrs
    → has_operand a.value.plain ≡ false
no_operand units t is m e node a attr =
    let leaving = list_any (leaves (tops_of units) t.unit) a.value.refs in
    let rest = or_right (has a.form binding_forms) (holds_place a.value || leaving) (free_attr units t is m e node a attr) in
    or_left (has_operand a.value.plain) a.value.address (or_left (holds_place a.value) leaving rest)

abbrev NoOperands : Top → Type 0
NoOperands t = (e : Node EntryName) → NodeOf e t → (a : Attr EntryName) → In a e.attrs → has_operand a.value.plain ≡ false

-- where a top without operands refers to another, a reference of its unit goes into that one's unit
unit_refers : (units : List (FileUnit EntryName)) (c d : Top) → In c (tops_of units) → In d (tops_of units) → refers_to d.number c ≡ true → NoOperands c → (f : FileUnit EntryName)
    → Nth 0 units c.unit f
    → unit_goes_to (is_of_unit (tops_of units) d.unit) f.unit ≡ true
unit_refers units c d x y refers plain f nth =
    let o = unit_of units c x in
    let same : o.unit ≡ f = nth_one 0 units c.unit o.unit f o.nth nth in
    let r = unit_row units c.unit o.unit o.nth o.compile in
    let into : Node EntryName → Bool = any_attr (λ a. list_any (is_in d.number) a.value.refs) in
    let found : (e : Node EntryName) × NodeOf e c × (into e ≡ true) =
    elim (or_cases (into c.node) (any_entry into c.below) refers) [
      | inl a ↦ (c.node, inl refl, a)
      | inr b ↦ (let w = entry_from into c.below b in (w.node, inr w.there, w.passes))
    ] in
    let e = found.0 in
    let in_top : (c.node ≡ e) ⊎ IsBelow e c.below = elim found.1 [ inl a ↦ inl a | inr b ↦ inr (node_below e c.below b) ] in
    let below = top_below o.unit.file c.unit (language o.unit.unit) [] r.first (rows_of_root units c.unit) o.unit.unit.below r.is c o.in_row e in_top in
    let a = any_from (λ w. list_any (is_in d.number) w.value.refs) e.attrs found.2 in
    let s = any_from (is_in d.number) a.one.value.refs a.passes in
    let test : EntryName → Bool = is_of_unit (tops_of units) d.unit in
    let goes : attr_goes_to test a.one ≡ true =
    and_from (not (has_operand a.one.value.plain)) (list_any test a.one.value.refs) (ap not (plain e found.1 a.one a.there))
    (any_true test s.one a.one.value.refs s.there (named s.one s.passes)) in
    let entry = below_true (any_attr (attr_goes_to test)) e o.unit.unit.below below (any_true (attr_goes_to test) a.one e.attrs a.there goes) in
    subst (λ (w : FileUnit EntryName). unit_goes_to test w.unit ≡ true) same (or_second (any_attr (attr_goes_to test) o.unit.unit.root) _ entry)
  where
    named : (s : EntryName) → is_in d.number s ≡ true → is_of_unit (tops_of units) d.unit s ≡ true
    named (Within n path) is = ap (λ (i : ℕ). is_number (unit_in (tops_of units) i) d.unit) (eqb-true n d.number is) ∙ unit_is_in units d y
    named _ is = absurd cc

-- ---- files and the common file

module _ (r : Reused) (re : IsReused r) where
  pub whole : AreWhole r.commons
  whole = λ f there. let n = in_nth 0 r.commons f there in re.whole n.number f n.nth

  abbrev parts : List Top
  parts = part_tops r whole

  -- a top in a partial unit
  pub in_part : (p : ℕ) (c : Top) → InPart r p c → In c (part_tops r whole)
  in_part p c is = elim (together_cases r whole c is.0) [
    | inl a ↦ (let h = own_unit r whole c a in absurd (omega (arith, is.1)))
    | inr b ↦ b
  ]

  -- and the partial unit of a top
  pub part_of : (c : Top) → In c (part_tops r whole) → (p : ℕ) × InPart r p c
  part_of c is = let h = part_unit_from r whole c is in (c.unit - length r.units, (part_together r whole c is, omega arith))

  pub part_nth : (p : ℕ) (c : Top) → InPart r p c → (f : FileUnit EntryName) × Nth 0 r.commons p f × Nth 0 (together r) c.unit f
  part_nth p c is =
      let o = unit_of (together r) c is.0 in
      elim (nth_cases 0 r.units r.commons c.unit o.unit o.nth) [
        | inl a ↦ (let h = nth_below 0 r.units c.unit o.unit a in absurd (omega (arith, is.1)))
        | inr b ↦ (o.unit, nth_move (0 + length r.units) 0 r.commons c.unit p o.unit b (omega (arith, is.1)), o.nth)
      ]

  -- a top of the common file that some top is alike to has no operands
  part_plain : (c : Top) → In c (part_tops r whole) → Movable (look_units r) c.number → NoOperands c
  part_plain c is free =
      let x = part_look r whole c is in
      no_operand (look_units r) (as_like c x.top.file x.top.unit x.top.language) (like_there c (tops_of (look_units r)) x) free

  pub part_refers : (p q : ℕ) (c d : Top) → InPart r p c → InPart r q d → refers_to d.number c ≡ true → Movable (look_units r) c.number → PartRefers r p q
  part_refers p q c d x y refers free =
      let o = part_nth p c x in (
        o.0,
        o.1,
        subst (λ (i : ℕ). unit_goes_to (is_of_unit (tops_of (together r)) i) o.0.unit ≡ true) y.1
            (unit_refers (together r) c d x.0 y.0 refers (part_plain c (in_part p c x) free) o.0 o.2),
      )

  -- ---- targets

  -- those of a movable top of a file are tops of its unit
  pub own_inside : (t : Top) → In t (tops_of r.units) → Movable (look_units r) t.number → RefsOfTop (StandsIn (tops_of r.units) t.unit) t
  own_inside t is free =
      let world = look_units r in
      let like = own_look r whole t is in
      let x = like.like.top in
      let a = as_like t x.file x.unit x.language in
      top_more (Inside world x.unit) (StandsIn (tops_of r.units) t.unit) (λ n o. back n o like.unit_is) a (inside world a (like_there t (tops_of world) like.like) free)
    where
      back : (n : ℕ) → Inside (look_units r) (own_look r whole t is).like.top.unit n → (own_look r whole t is).like.top.unit ≡ t.unit → StandsIn (tops_of r.units) t.unit n
      back n o same = elim (look_from r whole o.stands.top o.stands.there) [
        | inl a ↦ record { top = a.like.top; there = a.like.there; number = a.like.like.number ∙ o.stands.number; unit_is = a.unit_is ∙ o.stands.unit_is ∙ same }
        | inr b ↦ (let h = own_unit r whole t is in absurd (omega (arith, b.1, o.stands.unit_is, same)))
      ]

  -- a top of the common file with that number
  pub record PartTop (n : ℕ) : Type 0 where
    pub top : Top
    pub there : In top (part_tops r whole)
    pub number : top.number ≡ n

  pub part_inside : (c : Top) → In c (part_tops r whole) → Movable (look_units r) c.number → RefsOfTop PartTop c
  part_inside c is free =
      let world = look_units r in
      let like = part_look r whole c is in
      let x = like.top in
      let a = as_like c x.file x.unit x.language in
      top_more (Inside world x.unit) PartTop (λ n o. back n o one) a (inside world a (like_there c (tops_of world) like) free)
    where
      one : (part_look r whole c is).top.unit ≡ length r.units
      one = elim (look_from r whole (part_look r whole c is).top (part_look r whole c is).there) [
        | inl a ↦ (let h = own_number r whole a.like.top a.like.there in let k = part_number r whole c is in
            absurd (omega (arith, a.like.like.number, (part_look r whole c is).like.number)))
        | inr b ↦ b.1
      ]

      back : (n : ℕ) → Inside (look_units r) (part_look r whole c is).top.unit n → (part_look r whole c is).top.unit ≡ length r.units → PartTop n
      back n o same = elim (look_from r whole o.stands.top o.stands.there) [
        | inl a ↦ (let h = own_unit r whole a.like.top a.like.there in absurd (omega (arith, a.unit_is, o.stands.unit_is, same)))
        | inr b ↦ record { top = b.0.top; there = b.0.there; number = b.0.like.number ∙ o.stands.number }
      ]
