-- The plan is a move as is asked.
use Rattle.std.proofs.Common.{◌≡◌, ℕ, zero, suc, ◌+◌, Bool, true, false, List, [], ◌∷◌, ◌++◌, Option, Some, None, map, refl, sym, ap, subst, ◌∙◌, inl, inr, arith}
use Rattle.dwz_def_reading.specs.Documents.{Attr, Node, first_named, language}
use Rattle.dwz_def_reading.specs.Lists.{In}
use Rattle.dwz_def_tops.specs.Lists.{Nth}
use Rattle.dwz_def_tops.specs.Seen.{named_value}
use Rattle.dwz_def_tops.specs.Spaces.{space_text}
use Rattle.dwz_def_tops.proofs.Members.{each_in, in_nth, nth_from, nth_in}
use Rattle.dwz_def_tops.specs.Alike.{IsAlike, TopScope}
use Rattle.dwz_def_tops.specs.Spots.{EntryName, FileUnit, LabelledTop, Row, Top, Within, name_list, rows_of_root, tops_of}
use Rattle.dwz_def_tops.proofs.AlikePer.{alike_step}
use Rattle.dwz_def_tops.proofs.RowLemmas.{unit_row}
use Rattle.dwz_def_tops.proofs.Tops.{unit_of}
use Rattle.dwz_def_plan.specs.Homes.{Common, Home, IsChoice, Local, Rule, Stay, is_home, moves}
use Rattle.dwz_def_plan.specs.IsPlan.{Has, IsPart, OfSpace, OfTop}
use Rattle.dwz_def_plan.specs.Moves.{Move, line_attrs, line_in, line_of, names_path, part_at, plan, root_in_part, root_of, row_in_part}
use Rattle.dwz_def_plan.specs.Plan.{PartialUnit, image_by, part_row, partials, stand_in}
use Rattle.dwz_def_plan.proofs.PlanLemmas.{are_parts, has_rep}
use Rattle.dwz_def_plan.proofs.PartRows.{entry_text, part_is}
use Rattle.dwz_def_plan.proofs.StandLemmas.{fair, stand_seen}
use Rattle.dwz_def_plan.proofs.UserLemmas.{moves_self, rep_is, stands_same, used, used_by}
use Rattle.dwz_def_images.specs.After.{AreOld}
use Rattle.dwz_def_images.specs.Held.{HasSpaceLike, HasTopLike, IsHeld, IsHeldIn, Kinded, NameNone}
use Rattle.dwz_def_images.proofs.KindLemmas.{part_row_kinded, top_plain}
use Rattle.dwz_def_images.proofs.OldRows.{row_kinded, space_before, top_names, tops_somewhere}

-- ---- the rows of the plan

pub part_found : (s : ℕ) (parts : List PartialUnit) (n k : ℕ) (part : PartialUnit) → Nth s parts n part → n ≡ s + k → part_at k parts ≡ Some part
unfolding part_at
part_found s [] n k part h e = absurd h
part_found s (p ∷ parts) n zero part (inl x) e = ap (λ (w : PartialUnit). Some w) x.1
part_found s (p ∷ parts) n zero part (inr r) e = absurd (omega (arith, e, nth_from (suc s) parts n part r))
part_found s (p ∷ parts) n (suc k) part (inl x) e = absurd (omega (arith, e, x.0))
part_found s (p ∷ parts) n (suc k) part (inr r) e = part_found (suc s) parts n k part r (omega (arith, e))

pub row_found : (rule : Rule) (units : List (FileUnit EntryName)) (files : List ℕ) (n : ℕ) (part : PartialUnit) → Nth 0 (partials rule units files) n part
    → (plan rule units files).rows n ≡ part_row n part
row_found rule units files n part nth = ap (row_in_part n) (part_found 0 (partials rule units files) n n part nth (omega arith))

line_none : (units : List (FileUnit EntryName)) (part : PartialUnit) → NameNone (map named_value (line_attrs units part))
unfolding line_attrs
line_none units part = go (names_path part) where
  of_line : (o : Option (Attr EntryName)) → (line_of o).value.refs ≡ []
  of_line None = refl
  of_line (Some a) = refl

  in_home : (h : Home) → (line_in units h part.tops).value.refs ≡ []
  in_home Common = refl
  in_home (Local file) = of_line (first_named 0x10 (root_of units _))
  in_home Stay = refl

  go : (b : Bool) → NameNone (map named_value (elim b as (λ _. List (Attr EntryName)) [ true ↦ line_in units part.home part.tops ∷ [] | false ↦ [] ]))
  go true = (in_home part.home, tt)
  go false = tt

pub root_none : (units : List (FileUnit EntryName)) (o : Option PartialUnit) → NameNone (map named_value (root_in_part units o))
root_none units None = tt
root_none units (Some part) = line_none units part

top_image : (stand : ℕ → ℕ) (a b : Top) → LabelledTop a → LabelledTop b → stand a.number ≡ stand b.number → image_by stand a.node.at ≡ image_by stand b.node.at
top_image stand a b x y e = ap (image_by stand) x.0 ∙ ap (λ (n : ℕ). Within n []) e ∙ sym (ap (image_by stand) y.0)

module _ (scope : TopScope) (units : List (FileUnit EntryName)) (rule : Rule) (files : List ℕ) (is : IsAlike scope units rule.alike) (choice : IsChoice units rule) (old : AreOld units)
    (known : (i : ℕ) (u : FileUnit EntryName) → Nth 0 units i u → In u.file files) where
  abbrev parts : List PartialUnit
  parts = partials rule units files

  abbrev m : Move
  m = plan rule units files

  fits : (n : ℕ) (part : PartialUnit) → Nth 0 parts n part → IsPart rule units part
  fits n part nth = each_in (IsPart rule units) part parts (are_parts rule units files) (nth_in 0 parts n part nth)

  held_in : (t : Top) → In t (tops_of units) → moves rule units t.number ≡ true → IsHeldIn units m t
  held_in t there mv =
      let fair_is = fair scope units rule is choice in
      let k = has_rep rule units fair_is files known t there mv in
      let self = moves_self units rule fair_is t.number mv in
      let same : rule.alike t.number k.top.number ≡ true = ap (rule.alike t.number) k.is_rep ∙ (rep_is rule.alike units t.number t there self).alike_is in
      let n = in_nth 0 parts k.part k.there in
      let top_there = (((fits n.number k.part n.nth).tops k.top).0 k.holds).there in
      let names : name_list k.top ≡ name_list t = sym (alike_step scope units rule.alike is t k.top there top_there same).1 in
      record {
        number = n.number;
        part = k.part;
        nth = n.nth;
        user = subst (λ (w : List ℕ). In t.unit w) (sym k.users) (used rule.alike units t.number t there self);
        top = k.top;
        has = subst (λ (w : Row). Has (name_list t) (OfTop k.top) w) (sym (row_found rule units files n.number k.part n.nth))
            (((part_is n.number k.part).tops_are (name_list t) k.top).1 (k.holds, names));
        same = stand_seen scope units rule is choice old.tops_named t k.top there top_there mv same;
      }

  -- the top of a user that is alike to a top of a partial unit
  top_like : (n : ℕ) (part : PartialUnit) → Nth 0 parts n part → (i : ℕ) → In i part.users → (s : Top) → In s part.tops → HasTopLike units m i (name_list s) s
  top_like n part nth i user s holds =
      let fair_is = fair scope units rule is choice in
      let p = fits n part nth in
      let b = (p.tops s).0 holds in
      let mv : moves rule units s.number ≡ true = ap is_home b.home ∙ p.moves in
      let t = used_by rule.alike units s.number i (subst (λ (w : List ℕ). In i w) (sym b.users) user) in
      let stand = stands_same units rule fair_is s.number t.top.number s b.there refl t.alike_is mv in
      record {
        top = t.top;
        there = t.there;
        unit_is = t.unit_is;
        at = sym (top_image (stand_in rule units) s t.top (old.tops_named s b.there) (old.tops_named t.top t.there) stand);
        names_are = sym (alike_step scope units rule.alike is s t.top b.there t.there t.alike_is).1;
      }

  in_part : (n : ℕ) (part : PartialUnit) → Nth 0 parts n part → (names : List (List ℕ)) (s : Top) → Has names (OfTop s) (m.rows n) → In s part.tops × (name_list s ≡ names)
  in_part n part nth names s h = ((part_is n part).tops_are names s).0 (subst (λ (w : Row). Has names (OfTop s) w) (row_found rule units files n part nth) h)

  used_in : (n : ℕ) (part : PartialUnit) → Nth 0 parts n part → (i : ℕ) → In i part.users → (names : List (List ℕ)) (s : Top) → Has names (OfTop s) (m.rows n) → HasTopLike units m i names s
  used_in n part nth i user names s h =
      let o = in_part n part nth names s h in
      subst (λ (w : List (List ℕ)). HasTopLike units m i w s) o.1 (top_like n part nth i user s o.0)

  -- where a top of a unit stands
  stands_at : (t : Top) → In t (tops_of units) → Has (name_list t) (OfTop t) (rows_of_root units t.unit)
  stands_at t there =
      let o = unit_of units t there in
      let r = unit_row units t.unit o.unit o.nth o.compile in
      let k = row_kinded o.unit.file t.unit (language o.unit.unit) [] r.first (rows_of_root units t.unit) o.unit.unit.below r.is in
      let s = tops_somewhere (rows_of_root units t.unit) k t o.in_row in
      subst (λ (w : List (List ℕ)). Has w (OfTop t) (rows_of_root units t.unit))
      (sym (top_names o.unit.file t.unit (language o.unit.unit) [] r.first (rows_of_root units t.unit) o.unit.unit.below r.is s.names t s.has)) s.has

  -- and so does one like it, in spaces with the same names
  stands_like : (i : ℕ) (own : List (List ℕ)) (s : Top) (t : HasTopLike units m i own s) (names : List (List ℕ)) → own ≡ names → Has names (OfTop t.top) (rows_of_root units i)
  stands_like i own s t names same =
      subst (λ (w : ℕ). Has names (OfTop t.top) (rows_of_root units w)) t.unit_is
      (subst (λ (w : List (List ℕ)). Has w (OfTop t.top) (rows_of_root units t.top.unit)) (t.names_are ∙ same) (stands_at t.top t.there))

  space_like : (n : ℕ) (part : PartialUnit) → Nth 0 parts n part → (i : ℕ) → In i part.users → (names : List (List ℕ)) (e : Node EntryName) → Has names (OfSpace e) (m.rows n)
      → HasSpaceLike units i names e
  space_like n part nth i user names e h =
      let o = (part_is n part).spaces_are names e (subst (λ (w : Row). Has names (OfSpace e) w) (row_found rule units files n part nth) h) in
      let t = top_like n part nth i user o.top o.there in
      let at = stands_like i (name_list o.top) o.top t (names ++ o.name.text ∷ o.others) o.names_are in
      let d = space_before (rows_of_root units i) names o.name.text o.others (OfTop t.top) at in
      (d.0, d.1, d.2 ∙ sym (ap space_text o.is ∙ entry_text n o.chain o.depth o.name))

  plain_space : (n : ℕ) (part : PartialUnit) → Nth 0 parts n part → (names : List (List ℕ)) (e : Node EntryName) → Has names (OfSpace e) (m.rows n) → NameNone (map named_value e.attrs)
  plain_space n part nth names e h =
      let o = (part_is n part).spaces_are names e (subst (λ (w : Row). Has names (OfSpace e) w) (row_found rule units files n part nth) h) in
      subst (λ (w : Node EntryName). NameNone (map named_value w.attrs)) (sym o.is) (refl, tt)

  pub plan_held : IsHeld units (plan rule units files)
  plan_held = record {
    held = held_in;
    used = used_in;
    spaces = space_like;
    kinds = λ n part nth. subst Kinded (sym (row_found rule units files n part nth)) (part_row_kinded n part (λ t there. top_plain units t (((fits n part nth).tops t).0 there).there));
    tops = λ n part nth names s h. (((fits n part nth).tops s).0 (in_part n part nth names s h).0).there;
    plain = plain_space;
    roots = λ n. root_none units (part_at n parts);
  }
