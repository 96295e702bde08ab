-- Operands that name entries do so under other names.
use Rattle.std.proofs.Common.{◌≡◌, ℕ, Bool, true, false, List, [], ◌∷◌, map, refl, sym, ap, subst, ◌∙◌, inl, inr}
use Rattle.std.proofs.lemmas.Bool.{or_cases}
use Rattle.std.proofs.lemmas.List.Folds.{list_any-append}
use Rattle.std.specs.List.{list_any}
use Rattle.dwz_def_reading.specs.Base.{Base}
use Rattle.dwz_def_reading.specs.Lists.{Each, In}
use Rattle.dwz_def_reading.specs.Trees.{End, Entry}
use Rattle.dwz_def_reading.specs.declared.exprs.Operand.{Operand as AnOperand}
use Rattle.dwz_def_reading.specs.Documents.{Attr, DwUnit, Entries, Expr, Operand, Part, Plain, Same, attr_map, entries_map, unit_map}
use Rattle.dwz_def_reading.specs.Exprs.{parts_of}
use Rattle.dwz_def_reading.specs.Meanings.{IfSo}
use Rattle.dwz_def_reading.specs.Classes.{OfExpression, OfListIndex, OfOffset, Class, class_of, names_list}
use Rattle.dwz_def_reading.specs.Shared.{own_operands}
use Rattle.dwz_def_tops.specs.Alike.{has_operand, is_operand, joined_parts}
use Rattle.dwz_def_tops.proofs.Targets.{or_first, or_second}
use Rattle.dwz_def_encoding.specs.Carried.{AttrOperands, ExprIn, OperandsStand, OperandsStandAs}
use Rattle.dwz_def_encoding.specs.Fitting.{EachAttr}
use Rattle.dwz_def_encoding.specs.Meant.{ListSays, OperandIn, OperandsIn, Own, Tells, led_to, own_of}

-- an operand in one of several expressions
any_joined : (exprs : List (List Part)) → list_any is_operand (joined_parts exprs) ≡ true → list_any (list_any is_operand) exprs ≡ true
unfolding joined_parts
any_joined [] e = e
any_joined (parts ∷ exprs) e = elim (or_cases (list_any is_operand parts) (list_any is_operand (joined_parts exprs)) (sym (list_any-append is_operand parts (joined_parts exprs)) ∙ e)) [
  | inl a ↦ or_first (list_any is_operand parts) (list_any (list_any is_operand) exprs) a
  | inr b ↦ or_second (list_any is_operand parts) (list_any (list_any is_operand) exprs) (any_joined exprs b)
]

-- what else is told of files and units is the same under these names
pub record Follows {K L : Type 0} (f : K → L) (t : Tells K) (own : Own K) (t' : Tells L) (own' : Own L) : Type 0 where
  pub lists : t'.lists ≡ t.lists
  pub named : t'.named ≡ t.named
  pub name : (unit n : ℕ) → t'.name unit n ≡ f (t.name unit n)
  pub at : own'.at ≡ f own.at
  pub base : own'.bases.lists ≡ own.bases.lists

module _ {K L : Type 0} (f : K → L) (t : Tells K) (own : Own K) (t' : Tells L) (own' : Own L) (follows : Follows f t own t' own') where
  -- each operand that names an entry names one after
  abbrev pub Names : Plain → List K → Type 0
  Names plain refs = (base : Base) (k : K) → In k refs → has_operand plain ≡ true → OperandIn t own base k → OperandIn t' own' base (f k)

  parts_to : (parts : List Part) (refs : List K) → Names (Expr parts) refs → OperandsIn t own parts refs → OperandsIn t' own' parts (map f refs)
  parts_to [] [] go h = tt
  parts_to [] (k ∷ refs) go h = absurd h
  parts_to (Same bytes ∷ parts) refs go h = parts_to parts refs (λ base k there some is. go base k there some is) h
  parts_to (Operand width uleb base ∷ parts) [] go h = absurd h
  parts_to (Operand width uleb base ∷ parts) (k ∷ refs) go h = (go base k (inl refl) refl h.0, parts_to parts refs (λ b j there some is. go b j (inr there) refl is) h.1)

  expr_to : (plain : Plain) (refs : List K) → Names plain refs → ExprIn t own plain refs → ExprIn t' own' plain (map f refs)
  expr_to (Expr parts) refs go h = parts_to parts refs go h
  expr_to _ refs go h = absurd h

  names_follow : (unit : ℕ) (os : List AnOperand) → map f (map (λ o. t.name unit (led_to unit o)) os) ≡ map (λ o. t'.name unit (led_to unit o)) os
  names_follow unit [] = refl
  names_follow unit (o ∷ os) =
      ap (λ (k : L). k ∷ map f (map (λ o. t.name unit (led_to unit o)) os)) (sym (follows.name unit (led_to unit o))) ∙ ap (λ (w : List L). t'.name unit (led_to unit o) ∷ w) (names_follow unit os)

  list_to : (a : Attr K) → Names a.value.plain a.value.refs → ListSays t own a → ListSays t' own' (attr_map f a)
  list_to a go h =
      let exprs = map parts_of h.list.list.exprs in
      record {
        scope = h.scope;
        section = h.section ∙ sym follows.lists;
        base = h.base ∙ sym follows.base;
        unit = follows.name h.scope.unit h.scope.unit ∙ ap f h.unit ∙ sym follows.at;
        old = h.old;
        name = h.name;
        form = h.form;
        raw = h.raw;
        list = h.list;
        there = subst (In h.list) (sym follows.named) h.there;
        names = h.names;
        plain = h.plain;
        address = h.address;
        refs = ap (map f) h.refs ∙ names_follow h.list.unit (own_operands h.list);
        operands = parts_to (joined_parts exprs) a.value.refs (λ base k there some is. go base k there (ap has_operand h.plain ∙ any_joined exprs some) is) h.operands;
      }

  pub attr_to : (a : Attr K) → Names a.value.plain a.value.refs → AttrOperands t own a → AttrOperands t' own' (attr_map f a)
  attr_to a go h = by (class_of a.form) h where
    offset : (b : Bool) → IfSo b (ListSays t own a) (Unit {0}) → IfSo b (ListSays t' own' (attr_map f a)) (Unit {0})
    offset true h = list_to a go h
    offset false h = tt

    by : (c : Class) → OperandsStandAs c t own a → OperandsStandAs c t' own' (attr_map f a)
    by OfExpression h = expr_to a.value.plain a.value.refs go h
    by OfOffset h = offset (names_list a.name) h
    by OfListIndex h = list_to a go h
    by _ h = tt

  module _ (go : (base : Base) (k : K) → OperandIn t own base k → OperandIn t' own' base (f k)) where
    attrs_to : (attrs : List (Attr K)) → Each (AttrOperands t own) attrs → Each (AttrOperands t' own') (map (attr_map f) attrs)
    attrs_to [] h = tt
    attrs_to (a ∷ attrs) h = (attr_to a (λ base k there some is. go base k is) h.0, attrs_to attrs h.1)

    entries_to : (g : Entries K) → EachAttr (AttrOperands t own) g → EachAttr (AttrOperands t' own') (entries_map f g)
    unfolding entries_map
    entries_to End h = tt
    entries_to (Entry e children next) h = (attrs_to e.attrs h.0, entries_to children h.1, entries_to next h.2)

-- a unit whose places get names
pub unit_to : {K L : Type 0} (f : K → L) (t : Tells K) (t' : Tells L) (u : DwUnit K) → Follows f t (own_of u) t' (own_of (unit_map f u))
    → ((base : Base) (k : K) → OperandIn t (own_of u) base k → OperandIn t' (own_of (unit_map f u)) base (f k)) → OperandsStand t u → OperandsStand t' (unit_map f u)
unit_to f t t' u follows go h =
    (attrs_to f t (own_of u) t' (own_of (unit_map f u)) follows go u.root.attrs h.0, entries_to f t (own_of u) t' (own_of (unit_map f u)) follows go u.below h.1)
