-- Which tops of the files may move is the same with a finished common file beside them.
use Rattle.std.proofs.Common.{◌≡◌, ℕ, zero, suc, ◌<◌, ◌≤◌, ◌==◌, ◌&&◌, ◌||◌, not, Bool, true, false, List, [], ◌∷◌, ◌++◌, length, map, Option, Some, None, eqb-true, eq-eqb, refl, sym, ap, subst, ◌∙◌, inl, inr, arith}
use Rattle.std.proofs.lemmas.Bool.{ne_eqb}
use Rattle.std.specs.List.{list_any}
use Rattle.dwz_def_reading.specs.Documents.{Attr, Doc, Entries, Node, attr_map, entries_map, node_map}
use Rattle.dwz_def_reading.specs.Lists.{In}
use Rattle.dwz_def_reading.specs.Rows.{has}
use Rattle.dwz_def_reading.specs.Trees.{End, Entry}
use Rattle.dwz_def_tops.specs.Alike.{Bound, Movable, any_attr, any_entry, binding_forms, binds_itself, has_operand, holds_place, is_in, is_named, is_number, leaves, names_in_unit, operand_names, refers_to, unit_in}
use Rattle.dwz_def_tops.specs.Spots.{EntryName, FileUnit, Top, Within, spot_in, tops_of, units_of}
use Rattle.dwz_def_tops.proofs.Targets.{Inside, inside, refers_one}
use Rattle.dwz_def_tops.proofs.TopNumbers.{tops_numbers, unit_found}
use Rattle.dwz_def_taken.specs.Beside.{Reused, all_attrs, all_below, as_one, look_units, mute_attr, muted, own_tops, reused_of, then_entries}
use Rattle.dwz_def_taken.specs.Laws.{AcrossLaw, ArePlacedOver, IsReused}
use Rattle.dwz_def_taken.proofs.CommonUnits.{IsOwnName, spot_own, spots_own}
use Rattle.dwz_def_taken.proofs.LookTops.{Like, OwnLike, look_from, own_look, own_number, own_unit, part_number}
use Rattle.dwz_def_taken.proofs.NamesOver.{common_spots, from_common, named_over}
use Rattle.dwz_def_taken.proofs.PlaceLemmas.{units_in, whole}

same_flag : (a b : Bool) → (a ≡ true → b ≡ true) → (b ≡ true → a ≡ true) → a ≡ b
same_flag true b f g = sym (f refl)
same_flag false true f g = g refl
same_flag false false f g = refl

none_or : (a b : Bool) → a ≡ false → b ≡ false → (a || b) ≡ false
none_or a b p q = rw (p, q) refl

-- ---- units without a language name what they named

attrs_muted : (n : ℕ) (attrs : List (Attr EntryName)) → list_any (operand_names n) (map mute_attr attrs) ≡ list_any (operand_names n) attrs
attrs_muted n [] = refl
attrs_muted n (a ∷ attrs) = ap (λ (b : Bool). operand_names n a || b) (attrs_muted n attrs)

unit_muted : (n : ℕ) (f : FileUnit EntryName) → names_in_unit n (muted f) ≡ names_in_unit n f
unit_muted n f = ap (λ (b : Bool). b || any_entry (any_attr (operand_names n)) f.unit.below) (attrs_muted n f.unit.root.attrs)

units_muted : (n : ℕ) (units rest : List (FileUnit EntryName)) → list_any (names_in_unit n) rest ≡ false → list_any (names_in_unit n) (map muted units ++ rest) ≡ list_any (names_in_unit n) units
units_muted n [] rest none = none
units_muted n (f ∷ units) rest none = let first = unit_muted n f in let more = units_muted n units rest none in λ i. first i || more i

-- ---- the common file names no top of the files

module _ (low n : ℕ) (below : n < low) (k : ℕ → EntryName) (own : (x : ℕ) → IsOwnName low (k x)) where
  spot_not : (s : EntryName) → IsOwnName low s → is_in n s ≡ false
  spot_not (Within t path) h = ne_eqb t n (λ e. omega (arith, e, h, below))
  spot_not _ h = refl

  refs_not : (refs : List ℕ) → list_any (is_in n) (map k refs) ≡ false
  refs_not [] = refl
  refs_not (x ∷ refs) = none_or (is_in n (k x)) (list_any (is_in n) (map k refs)) (spot_not (k x) (own x)) (refs_not refs)

  and_not : (a b : Bool) → b ≡ false → (a && b) ≡ false
  and_not true b e = e
  and_not false b e = refl

  attrs_not : (attrs : List (Attr ℕ)) → list_any (operand_names n) (map (attr_map k) attrs) ≡ false
  attrs_not [] = refl
  attrs_not (a ∷ attrs) =
      none_or (operand_names n (attr_map k a)) (list_any (operand_names n) (map (attr_map k) attrs))
      (and_not (has_operand a.value.plain) (list_any (is_in n) (map k a.value.refs)) (refs_not a.value.refs)) (attrs_not attrs)

  entries_not : (f : Entries ℕ) → any_entry (any_attr (operand_names n)) (entries_map k f) ≡ false
  unfolding any_entry entries_map
  entries_not End = refl
  entries_not (Entry e f g) =
      none_or (any_attr (operand_names n) (node_map k e)) _ (attrs_not e.attrs)
      (none_or (any_entry (any_attr (operand_names n)) (entries_map k f)) (any_entry (any_attr (operand_names n)) (entries_map k g)) (entries_not f) (entries_not g))

then_not : (test : Node EntryName → Bool) (f g : Entries EntryName) → any_entry test f ≡ false → any_entry test g ≡ false → any_entry test (then_entries f g) ≡ false
unfolding any_entry then_entries
then_not test End g p q = q
then_not test (Entry e c f) g p q = parts (test e) (any_entry test c) (any_entry test f) p (then_not test f g) where
  parts : (a b d : Bool) → (a || (b || d)) ≡ false → (d ≡ false → any_entry test g ≡ false → any_entry test (then_entries f g) ≡ false) → (a || (b || any_entry test (then_entries f g))) ≡ false
  parts false false d h more = more h q
  parts false true d h more = absurd cc
  parts true b d h more = absurd cc

append_not : {X : Type 0} (test : X → Bool) (xs ys : List X) → list_any test xs ≡ false → list_any test ys ≡ false → list_any test (xs ++ ys) ≡ false
append_not test [] ys p q = q
append_not test (x ∷ xs) ys p q = parts (test x) (list_any test xs) p (append_not test xs ys) where
  parts : (a b : Bool) → (a || b) ≡ false → (b ≡ false → list_any test ys ≡ false → list_any test (xs ++ ys) ≡ false) → (a || list_any test (xs ++ ys)) ≡ false
  parts false b h more = more h q
  parts true b h more = absurd cc

all_not : (n : ℕ) (commons : List (FileUnit EntryName))
    → ((f : FileUnit EntryName) → In f commons → (list_any (operand_names n) f.unit.root.attrs ≡ false) × (any_entry (any_attr (operand_names n)) f.unit.below ≡ false))
    → (list_any (operand_names n) (all_attrs commons) ≡ false) × (any_entry (any_attr (operand_names n)) (all_below commons) ≡ false)
unfolding all_attrs all_below any_entry
all_not n [] each = (refl, refl)
all_not n (f ∷ commons) each =
    let here = each f (inl refl) in
    let more = all_not n commons (λ g there. each g (inr there)) in (
      append_not (operand_names n) f.unit.root.attrs (all_attrs commons) here.0 more.0,
      then_not (any_attr (operand_names n)) f.unit.below (all_below commons) here.1 more.1,
    )

module _ (docs : List (Doc ℕ)) (common : Doc ℕ) (p : ArePlacedOver docs common) where
  abbrev r : Reused
  r = reused_of docs common

  abbrev own : List Top
  own = tops_of (units_of docs)

  abbrev all : List Top
  all = tops_of (look_units (reused_of docs common))

  re : IsReused r
  re = named_over docs common p

  common_not : (n : ℕ) → n < own_tops r → (f : FileUnit EntryName) → In f r.commons
      → (list_any (operand_names n) f.unit.root.attrs ≡ false) × (any_entry (any_attr (operand_names n)) f.unit.below ≡ false)
  common_not n less f there =
      let o = from_common docs common f there in
      let spots = common_spots docs common in
      let low : own_tops r ≤ own_tops r = omega arith in
      let names : (x : ℕ) → IsOwnName (own_tops r) (spot_in spots x) = λ x. spot_own (own_tops r) spots x (spots_own (own_tops r) (length r.units) (own_tops r) common.units low) in
      subst (λ (w : FileUnit EntryName). (list_any (operand_names n) w.unit.root.attrs ≡ false) × (any_entry (any_attr (operand_names n)) w.unit.below ≡ false)) o.is
      (attrs_not (own_tops r) n less (spot_in spots) names o.source.root.attrs, entries_not (own_tops r) n less (spot_in spots) names o.source.below)

  named_across : (n : ℕ) → n < own_tops r → is_named (look_units r) n ≡ is_named r.units n
  named_across n less =
      let none = all_not n r.commons (common_not n less) in
      let one = as_one r.file (length r.units) r.commons in
      units_muted n r.units (muted one ∷ [])
      (none_or (names_in_unit n (muted one)) false
      (unit_muted n one ∙ none_or (list_any (operand_names n) (all_attrs r.commons)) (any_entry (any_attr (operand_names n)) (all_below r.commons)) none.0 none.1) refl)

  -- ---- what leaves a unit of a file

  stands_across : (s i : ℕ) → i < length r.units → is_number (unit_in all s) i ≡ is_number (unit_in own s) i
  stands_across s i less = same_flag (is_number (unit_in all s) i) (is_number (unit_in own s) i) (to (unit_in all s) refl) (from (unit_in own s) refl) where
    is_there : (tops : List Top) (o : Option ℕ) → unit_in tops s ≡ o → is_number o i ≡ true → (t : Top) × In t tops × (t.number ≡ s) × (t.unit ≡ i)
    is_there tops None e h = absurd cc
    is_there tops (Some u) e h = (let o = unit_found tops s u e in (o.0, o.1, o.2, o.3 ∙ eqb-true u i h))

    there_is : (tops : List Top) (t : Top) → unit_in tops t.number ≡ Some t.unit → t.number ≡ s → t.unit ≡ i → is_number (unit_in tops s) i ≡ true
    there_is tops t found number unit =
        ap (λ (n : ℕ). is_number (unit_in tops n) i) (sym number) ∙ ap (λ (o : Option ℕ). is_number o i) found ∙ eq-eqb t.unit i unit

    to : (o : Option ℕ) → unit_in all s ≡ o → is_number (unit_in all s) i ≡ true → is_number (unit_in own s) i ≡ true
    to o e h =
        let x = is_there all o e (ap (λ (w : Option ℕ). is_number w i) (sym e) ∙ h) in
        elim (look_from r (whole r re) x.0 x.1) [
          | inl a ↦
              there_is own a.like.top (units_in 0 own a.like.top (tops_numbers (units_of docs)) a.like.there) (a.like.like.number ∙ x.2) (a.unit_is ∙ x.3)
          | inr b ↦ absurd (omega (arith, b.1, x.3, less))
        ]

    from : (o : Option ℕ) → unit_in own s ≡ o → is_number (unit_in own s) i ≡ true → is_number (unit_in all s) i ≡ true
    from o e h =
        let x = is_there own o e (ap (λ (w : Option ℕ). is_number w i) (sym e) ∙ h) in
        let a = own_look r (whole r re) x.0 x.1 in
        there_is all a.like.top (units_in 0 all a.like.top (tops_numbers (look_units r)) a.like.there) (a.like.like.number ∙ x.2) (a.unit_is ∙ x.3)

  leaves_across : (i : ℕ) → i < length r.units → (s : EntryName) → leaves all i s ≡ leaves own i s
  leaves_across i less (Within t path) = ap not (stands_across t i less)
  leaves_across i less _ = refl

  -- a top of a file, and the one that is like it, bind themselves or don't
  binds_across : (x y : Top) → In y own → Like y x → x.unit ≡ y.unit → binds_itself (look_units r) x ≡ binds_itself r.units y
  binds_across x y there like unit =
      let less = own_unit r (whole r re) y there in
      let test : (EntryName → Bool) → Node EntryName → Bool =
      λ leave e. e.tag == 0x3d || any_attr (λ a. has a.form binding_forms || (holds_place a.value || list_any leave a.value.refs)) e in
      let same : leaves all y.unit ≡ leaves own y.unit = λ i s. leaves_across y.unit less s i in
      let named = named_across y.number (own_number r (whole r re) y there) in
      (λ i. (test (leaves all (unit i)) (like.node i) || any_entry (test (leaves all (unit i))) (like.below i)) || is_named (look_units r) (like.number i))
      ∙ (λ i. (test (same i) y.node || any_entry (test (same i)) y.below) || named i)

  refers_like : (m : ℕ) (x y : Top) → Like y x → refers_to m x ≡ refers_to m y
  refers_like m x y like =
      let into : Node EntryName → Bool = any_attr (λ a. list_any (is_in m) a.value.refs) in
      λ i. into (like.node i) || any_entry into (like.below i)

  -- ---- bound

  own_from : (x : Top) → In x all → x.number < own_tops r → OwnLike x own
  own_from x is less = elim (look_from r (whole r re) x is) [
    | inl a ↦ a
    | inr b ↦ (let h = part_number r (whole r re) b.0.top b.0.there in absurd (omega (arith, b.0.like.number, less, h)))
  ]

  turn : (x y : Top) → Like x y → Like y x
  turn x y like = record { number = sym like.number; spaces = sym like.spaces; node = sym like.node; below = sym like.below }

  free_across : (k n : ℕ) → n < own_tops r → Movable r.units n → Bound (look_units r) k n → ⊥
  unfolding Bound
  free_across zero n less mv b =
      let o = own_from b.0 b.1 (omega (arith, b.2, less)) in
      let y = o.like.top in
      mv.free 0 (y, o.like.there, o.like.like.number ∙ b.2, sym (binds_across b.0 y o.like.there (turn b.0 y o.like.like) (sym o.unit_is)) ∙ b.3)
  free_across (suc k) n less mv (inl b) = free_across k n less mv b
  free_across (suc k) n less mv (inr b) =
      let o = own_from b.0 b.2 (omega (arith, b.3, less)) in
      let y = o.like.top in
      let number : y.number ≡ n = o.like.like.number ∙ b.3 in
      let refers : refers_to b.1 y ≡ true = sym (refers_like b.1 b.0 y (turn b.0 y o.like.like)) ∙ b.4 in
      let target = refers_one (Inside r.units y.unit) y (inside r.units y o.like.there (subst (Movable r.units) (sym number) mv)) b.1 refers in
      let h = own_number r (whole r re) target.stands.top target.stands.there in
      free_across k b.1 (omega (arith, target.stands.number, h)) target.movable b.5

  across : (t : Top) → In t own → Top
  across t is = (own_look r (whole r re) t is).like.top

  bound_across : (k n : ℕ) → Bound r.units k n → Bound (look_units r) k n
  unfolding Bound
  bound_across zero n b =
      let o = own_look r (whole r re) b.0 b.1 in
      (o.like.top, o.like.there, o.like.like.number ∙ b.2, binds_across o.like.top b.0 b.1 o.like.like o.unit_is ∙ b.3)
  bound_across (suc k) n (inl b) = inl (bound_across k n b)
  bound_across (suc k) n (inr b) =
      let o = own_look r (whole r re) b.0 b.2 in
      inr (o.like.top, b.1, o.like.there, o.like.like.number ∙ b.3, refers_like b.1 o.like.top b.0 o.like.like ∙ b.4, bound_across k b.1 b.5)

  movable_in : (t : Top) → In t own → Movable (look_units r) t.number → Movable r.units t.number
  movable_in t there mv = record { top = t; is_top = there; number = refl; free = λ k b. mv.free k (bound_across k t.number b) }

  movable_across : (t : Top) → In t own → Movable r.units t.number → Movable (look_units r) t.number
  movable_across t there mv =
      let o = own_look r (whole r re) t there in
      record {
        top = o.like.top;
        is_top = o.like.there;
        number = o.like.like.number;
        free = λ k b. free_across k t.number (own_number r (whole r re) t there) mv b;
      }

pub across_law : AcrossLaw
across_law docs common p t there = (movable_in docs common p t there, movable_across docs common p t there)
