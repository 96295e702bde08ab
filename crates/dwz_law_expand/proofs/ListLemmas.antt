-- Forms of lists, what leads to a supplementary file, and scopes in numbers.
use Rattle.std.proofs.Common.{◌≡◌, ◌⊎◌, ℕ, Bool, true, false, List, [], ◌∷◌, ◌==◌, cond, if◌then◌else◌, Option, Some, None, refl, sym, ap, subst, ◌∙◌, inl, inr}
use Rattle.std.proofs.lemmas.Bool.{and_parts, eqb-true}
use Rattle.std.specs.List.{list_all}
use Rattle.std.specs.Prelude.{unwrap_or}
use Rattle.dwz_def_reading.specs.Lists.{In}
use Rattle.dwz_def_reading.specs.Base.{Base}
use Rattle.dwz_def_reading.specs.Base.TheVariants.{Unit as FromUnit, Info as FromInfo}
use Rattle.dwz_def_reading.proofs.ListFacts.{in_left, in_right}
use Rattle.dwz_def_reading.specs.Rows.{has}
use Rattle.dwz_def_reading.specs.Classes.{Class, ClassRow, OfAddress, OfBlock, OfCommonEntry, OfCommonText, OfConstant, OfExpression, OfFlag, OfIndex, OfInfoEntry, OfListIndex, OfOffset, OfSignature, OfText, OfTextBySlot, OfTextInLineStr, OfTextInStr, OfUnitEntry, Unread, class_in, class_of, class_rows, names_list}
use Rattle.dwz_def_reading.specs.Finished.{given_by, rule_of_back, rule_of_common}
use Rattle.dwz_def_reading.specs.Documents.{Attr}
use Rattle.dwz_def_reading.specs.Entries.{RawAttr}
use Rattle.dwz_def_reading.specs.Exprs.{ExprContext}
use Rattle.dwz_def_reading.specs.LocLists.{SpellsList}
use Rattle.dwz_def_reading.specs.Meanings.{Common, MeaningContext, Sources, entries_for, expr_context, leads_to}
use Rattle.dwz_def_reading.specs.Modes.{binding_forms}
use Rattle.dwz_def_reading.specs.NamedLists.{IsNamedAt, NamesAs, list_of_attr}
use Rattle.dwz_def_reading.specs.Places.{Place}
use Rattle.dwz_def_reading.specs.Sequences.{StandsFrom}
use Rattle.dwz_def_reading.specs.Shared.{NamedList}
use Rattle.dwz_def_reading.specs.Values.{AreBytes}
use Rattle.dwz_def_encoding.specs.Meant.{place_counted}
use Rattle.dwz_def_encoding.proofs.ReadAgain.{section_bytes}
use Rattle.dwz_def_expand.specs.OneFile.{FileRead, OneFile, StoredAttr, given_common, stored_attr}
use Rattle.dwz_def_expand.specs.Refusals.{Site}
use Rattle.dwz_def_readback.proofs.StillMeans.{there}
use Rattle.dwz_law_expand.specs.Told.{CommonIsBytes, lists_of_sites, lists_of_value}
use Rattle.dwz_law_expand.proofs.CameLemmas.{gives_numbers, in_numbers, number_in}

-- ---- classes of lists

abbrev pub is_list_class : Class → Bool
is_list_class OfOffset = true
is_list_class OfListIndex = true
is_list_class _ = false

bound_row : ClassRow → Bool
bound_row r = cond (is_list_class r.class) (has r.form binding_forms) true

all_bound : list_all bound_row class_rows ≡ true
unfolding class_rows has bound_row
all_bound = refl

bound_in : (rows : List ClassRow) (form : ℕ) → list_all bound_row rows ≡ true → is_list_class (class_in rows form) ≡ true → has form binding_forms ≡ true
unfolding class_in bound_row
bound_in [] form all is = absurd cc
bound_in (r ∷ rows) form all is =
    let both = and_parts (bound_row r) (list_all bound_row rows) all in
    by (r.form == form) refl is both.0 (bound_in rows form both.1)
  where
    by : (q : Bool) → (r.form == form) ≡ q → is_list_class (cond q r.class (class_in rows form)) ≡ true → bound_row r ≡ true → (is_list_class (class_in rows form) ≡ true → has form binding_forms ≡ true)
        → has form binding_forms ≡ true
    by true e is row rest = subst (λ (m : ℕ). has m binding_forms ≡ true) (eqb-true r.form form e) (sym (ap (λ (q : Bool). cond q (has r.form binding_forms) true) is) ∙ row)
    by false e is row rest = rest is

-- a form of a list binds
pub class_bound : (form : ℕ) → is_list_class (class_of form) ≡ true → has form binding_forms ≡ true
class_bound form is = bound_in class_rows form all_bound is

pub listed_class : {K : Type 0} (b : Attr K) → ((class_of b.form ≡ OfOffset) × (names_list b.name ≡ true)) ⊎ (class_of b.form ≡ OfListIndex) → is_list_class (class_of b.form) ≡ true
listed_class b (inl c) = ap is_list_class c.0
listed_class b (inr c) = ap is_list_class c

-- ---- what leads to a supplementary file

abbrev pub NoneOf : Class → Type 0
NoneOf k = (k ≡ OfCommonEntry) ⊎ ((k ≡ OfCommonText) ⊎ ((k ≡ OfCommonEntry → ⊥) × (k ≡ OfCommonText → ⊥)))

pub which : (k : Class) → NoneOf k
which OfCommonEntry = inl refl
which OfCommonText = inr (inl refl)
which OfAddress = inr (inr ((λ e. cc), (λ e. cc)))
which OfBlock = inr (inr ((λ e. cc), (λ e. cc)))
which OfConstant = inr (inr ((λ e. cc), (λ e. cc)))
which OfFlag = inr (inr ((λ e. cc), (λ e. cc)))
which OfText = inr (inr ((λ e. cc), (λ e. cc)))
which OfTextInStr = inr (inr ((λ e. cc), (λ e. cc)))
which OfTextInLineStr = inr (inr ((λ e. cc), (λ e. cc)))
which OfTextBySlot = inr (inr ((λ e. cc), (λ e. cc)))
which OfUnitEntry = inr (inr ((λ e. cc), (λ e. cc)))
which OfInfoEntry = inr (inr ((λ e. cc), (λ e. cc)))
which OfSignature = inr (inr ((λ e. cc), (λ e. cc)))
which OfOffset = inr (inr ((λ e. cc), (λ e. cc)))
which OfExpression = inr (inr ((λ e. cc), (λ e. cc)))
which OfListIndex = inr (inr ((λ e. cc), (λ e. cc)))
which OfIndex = inr (inr ((λ e. cc), (λ e. cc)))
which Unread = inr (inr ((λ e. cc), (λ e. cc)))

-- the texts of a common file are bytes
pub common_strs : (common : Option FileRead) (file : FileRead) (number : ℕ) (q : Bool) → CommonIsBytes common → (sources : Sources) (cm : Common Place)
    → ((if q then rule_of_back (given_common common) 0 else rule_of_common number).around (if q then file else unwrap_or common file).bytes (if q then file else unwrap_or common file).raw).common ≡ Some cm
    → AreBytes cm.strs
common_strs common file number false are sources cm e = absurd cc
common_strs None file number true are sources cm e = absurd cc
common_strs (Some c) file number true are sources cm e = (let same : given_by 1 c.bytes c.raw ≡ cm = cc in subst (λ (m : Common Place). AreBytes m.strs) same (section_bytes c.bytes 3 are))

-- ---- lists of sites

pub list_site : (f : OneFile) (ss : List (Site Place)) (st : Site Place) → In st ss → (st.source.file == 0) ≡ true → (v : StoredAttr) → stored_attr f st.source st.index ≡ Some v → (l : NamedList)
    → In l (list_of_attr v.scope v.attr) → In l (lists_of_sites f ss)
unfolding lists_of_sites
list_site f [] st is own v found l member = absurd is
list_site f (x ∷ ss) st (inl e) own v found l member =
    let first : In l (lists_of_value (stored_attr f st.source st.index)) = subst (λ (o : Option StoredAttr). In l (lists_of_value o)) (sym found) member in
    in_left l (if x.source.file == 0 then lists_of_value (stored_attr f x.source x.index) else []) (lists_of_sites f ss)
    (subst (λ (y : Site Place). In l (if y.source.file == 0 then lists_of_value (stored_attr f y.source y.index) else [])) (sym e)
    (subst (λ (k : Bool). In l (if k then lists_of_value (stored_attr f st.source st.index) else [])) (sym own) first))
list_site f (x ∷ ss) st (inr r) own v found l member =
    in_right l (if x.source.file == 0 then lists_of_value (stored_attr f x.source x.index) else []) (lists_of_sites f ss) (list_site f ss st r own v found l member)

-- ---- a scope in numbers names the same lists

module _ (s : MeaningContext Place) where
  abbrev pub in_places : MeaningContext ℕ
  in_places = there number_in (in_numbers s.around.common) s (gives_numbers s.around.common)

  same_leads : (base : Base) (m : ℕ) → leads_to s base m ≡ leads_to in_places base m
  same_leads FromUnit m = refl
  same_leads FromInfo m = refl

  same_entries : (base : Base) → entries_for s base ≡ entries_for in_places base
  same_entries FromUnit = refl
  same_entries FromInfo = refl

  same_context : (section : ℕ) → expr_context s section ≡ expr_context in_places section
  same_context section = λ j. record { section = section; names = λ o. has (same_leads o.base o.number j) (same_entries o.base j) }

  named_at_too : (slot : Option ℕ) (place : ℕ) (l : NamedList) → IsNamedAt s slot place l → IsNamedAt in_places slot place l
  named_at_too slot place l h = record {
    unit = h.unit;
    from = h.from;
    slot_is = h.slot_is;
    within = h.within;
    stands = subst (λ (c : ExprContext). StandsFrom (SpellsList c) s.around.sources.lists place l.list) (same_context 7) h.stands;
  }

  pub names_too : (k : Class) (a : RawAttr) (l : NamedList) → NamesAs k s a l → NamesAs k in_places a l
  names_too OfOffset a l h = (h.0, named_at_too _ _ l h.1)
  names_too OfListIndex a l h = record { base = h.base; is_base = h.is_base; offset = h.offset; slot = h.slot; named = named_at_too _ _ l h.named }
  names_too _ a l h = absurd h

  pub leads_same : (base : Base) (m : ℕ) → leads_to s base m ≡ place_counted base s.unit m
  leads_same FromUnit m = refl
  leads_same FromInfo m = refl
