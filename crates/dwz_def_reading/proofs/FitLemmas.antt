-- Tables that can be spelled are those that are spelled, and are spelled by what is written of them.
use Rattle.std.proofs.Common.{◌≡◌, ◌≢◌, ℕ, ℤ, pos, ◌<◌, ◌≤◌, ◌^◌, List, [], ◌∷◌, ◌++◌, length, get_or, Some, None, refl, sym, ap, subst, ◌∙◌, Bool, true, false, eqb, cond, arith, append_assoc}
use Rattle.std.specs.Prelude.{All, AllPairs, MatchBool}
use Rattle.std.proofs.lemmas.Bool.{eqb-false, ltb-true, ne_eqb}
use Rattle.std.proofs.lemmas.List.{append-nil, get_or_append_left, get_or_at, length-append}
use Rattle.std.proofs.lemmas.List.Elements.{All-cons, All-head, All-nil, All-push, All-tail}
use Rattle.std.proofs.lemmas.List.Quantifiers.{all_pairs_push}
use Rattle.dwz_model.specs.declared.place.Pair.{Pair}
use Rattle.dwz_bytes.specs.Spelling.{SpellsSleb, SpellsUleb, fits_i64, sleb, uleb}
use Rattle.dwz_bytes.proofs.PaddedLemmas.{uleb_spells}
use Rattle.dwz_bytes.proofs.SignedLemmas.{sleb_spells}
use Rattle.dwz_def_reading.specs.Abbrevs.{Declaration, EndsPairs, EndsTable, FitsDeclaration, FitsPair, FitsTable, IsDeclared, IsPair, SpellsDeclaration, SpellsPair, SpellsTable, constant_bytes}
use Rattle.dwz_def_reading.specs.Abbrevs.{declaration_bytes, find_decl, pair_bytes, pairs_bytes, table_bytes}
use Rattle.dwz_def_reading.specs.Items.{SpellsItems}

below : (n : ℕ) (bytes : List ℕ) → SpellsUleb bytes n → n < 2 ^ 64
below n bytes is = ltb-true n (2 ^ 64) is.in_range

small : (n : ℕ) → n ≤ 0xffff → n < 2 ^ 64
small n le = omega (arith, le)

-- ---- pairs

module _ (c : ℤ) where
  -- a constant that is spelled, by whether the form has one
  spelled_fits : (test : Bool) (bytes : List ℕ) → MatchBool test (SpellsSleb bytes c) ((bytes ≡ []) × (c ≡ pos 0)) → fits_i64 c ≡ true
  spelled_fits true bytes is = is.in_range
  spelled_fits false bytes is = ap fits_i64 is.1

  spelled_none : (test : Bool) (bytes : List ℕ) → test ≡ false → MatchBool test (SpellsSleb bytes c) ((bytes ≡ []) × (c ≡ pos 0)) → c ≡ pos 0
  spelled_none true bytes e is = absurd cc
  spelled_none false bytes e is = is.1

  spelled_written : (test : Bool) → fits_i64 c ≡ true → (test ≡ false → c ≡ pos 0) → MatchBool test (SpellsSleb (cond test (sleb c) []) c) ((cond test (sleb c) [] ≡ []) × (c ≡ pos 0))
  spelled_written true fits none = sleb_spells c fits
  spelled_written false fits none = (refl, none refl)

pair_fits : (bytes : List ℕ) (p : Pair) → SpellsPair bytes p → FitsPair p
pair_fits bytes p is = record {
  plain = record {
    some_name = is.some_name;
    some_form = is.some_form;
    no_constant = λ other. spelled_none p.constant (eqb p.form 0x21) is.constant_bytes (ne_eqb p.form 0x21 other) is.constant;
  };
  name_fits = is.name_fits;
  form_fits = below p.form is.form_bytes is.form;
  constant_fits = spelled_fits p.constant (eqb p.form 0x21) is.constant_bytes is.constant;
}

pair_written : (p : Pair) → FitsPair p → SpellsPair (pair_bytes p) p
pair_written p fits = record {
  name_bytes = uleb p.name;
  name = uleb_spells p.name (small p.name fits.name_fits);
  some_name = fits.plain.some_name;
  name_fits = fits.name_fits;
  form_bytes = uleb p.form;
  form = uleb_spells p.form fits.form_fits;
  some_form = fits.plain.some_form;
  constant_bytes = constant_bytes p;
  constant = spelled_written p.constant (eqb p.form 0x21) fits.constant_fits (λ no. fits.plain.no_constant (eqb-false p.form 0x21 no));
  parts = refl;
}

pairs_fit : (pairs earlier : List Pair) (bytes : List ℕ) → SpellsItems IsPair EndsPairs earlier pairs bytes → All FitsPair pairs
pairs_fit [] earlier bytes is = All-nil FitsPair
pairs_fit (p ∷ pairs) earlier bytes is = All-cons FitsPair p pairs (pair_fits is.front p is.first) (pairs_fit pairs (earlier ++ p ∷ []) is.back is.second)

zero_spelled : SpellsUleb (0 ∷ []) 0
zero_spelled = record { groups = omega arith; len = omega arith; value = refl; in_range = refl }

pairs_written : (pairs earlier : List Pair) → All FitsPair pairs → SpellsItems IsPair EndsPairs earlier pairs (pairs_bytes pairs)
unfolding pairs_bytes
pairs_written [] earlier fits = record { front = 0 ∷ []; first = zero_spelled; back = 0 ∷ []; second = zero_spelled; parts = refl }
pairs_written (p ∷ pairs) earlier fits = record {
  front = pair_bytes p;
  first = pair_written p (All-head FitsPair p pairs fits);
  back = pairs_bytes pairs;
  second = pairs_written pairs (earlier ++ p ∷ []) (All-tail FitsPair p pairs fits);
  parts = refl;
}

-- ---- declarations

pub decl_fits : (bytes : List ℕ) (d : Declaration) → SpellsDeclaration bytes d → FitsDeclaration d
decl_fits bytes d is = record {
  some_code = is.some_code;
  code_fits = below d.code is.code_bytes is.code;
  some_tag = is.some_tag;
  tag_fits = is.tag_fits;
  pairs = pairs_fit d.pairs [] is.pairs_bytes is.pairs;
}

decl_written : (d : Declaration) → FitsDeclaration d → SpellsDeclaration (declaration_bytes d) d
decl_written d fits = record {
  code_bytes = uleb d.code;
  code = uleb_spells d.code fits.code_fits;
  some_code = fits.some_code;
  tag_bytes = uleb d.tag;
  tag = uleb_spells d.tag (small d.tag fits.tag_fits);
  some_tag = fits.some_tag;
  tag_fits = fits.tag_fits;
  pairs_bytes = pairs_bytes d.pairs;
  pairs = pairs_written d.pairs [] fits.pairs;
  parts = refl;
}

-- ---- tables

-- no declaration has the code exactly where none is found
pub none_has : (table : List Declaration) (code : ℕ) → find_decl table code ≡ None → All (λ d. d.code ≢ code) table
none_has [] code none = All-nil (λ d. d.code ≢ code)
none_has (d ∷ table) code none = go (none_has table code) (eqb d.code code) refl none where
  go : (find_decl table code ≡ None → All (λ e. e.code ≢ code) table) → (test : Bool) → eqb d.code code ≡ test → cond test (Some d) (find_decl table code) ≡ None → All (λ e. e.code ≢ code) (d ∷ table)
  go below true is e = absurd cc
  go below false is e = All-cons (λ e. e.code ≢ code) d table (eqb-false d.code code is) (below e)

pub none_found : (table : List Declaration) (code : ℕ) → All (λ d. d.code ≢ code) table → find_decl table code ≡ None
none_found [] code none = refl
none_found (d ∷ table) code none =
    let other = ne_eqb d.code code (All-head (λ e. e.code ≢ code) d table none) in
    ap (λ (b : Bool). cond b (Some d) (find_decl table code)) other ∙ none_found table code (All-tail (λ e. e.code ≢ code) d table none)

abbrev Differ : Declaration → Declaration → Type 0
Differ d e = d.code ≢ e.code

fits_behind : (table earlier : List Declaration) (bytes : List ℕ) → SpellsItems IsDeclared EndsTable earlier table bytes → FitsTable earlier → FitsTable (earlier ++ table)
fits_behind [] earlier bytes is fits = subst FitsTable (sym (append-nil earlier)) fits
fits_behind (d ∷ table) earlier bytes is fits =
    let more : FitsTable (earlier ++ d ∷ []) = record {
      each = All-push FitsDeclaration earlier d fits.each (decl_fits is.front d is.first.spelled);
      different = all_pairs_push Differ earlier d fits.different (none_has earlier d.code is.first.is_new);
    } in
    subst FitsTable (append_assoc earlier (d ∷ []) table) (fits_behind table (earlier ++ d ∷ []) is.back is.second more)

pub table_fits : (bytes : List ℕ) (table : List Declaration) → SpellsTable bytes table → FitsTable table
table_fits bytes table is = fits_behind table [] bytes is (record { each = All-nil FitsDeclaration; different = λ i j d less lt. absurd (omega (arith, lt)) })

-- those before a declaration have other codes
others_before : (earlier table : List Declaration) (d : Declaration) → AllPairs Differ (earlier ++ d ∷ table) → All (λ e. e.code ≢ d.code) earlier
others_before earlier table d different = λ k e lt same.
    let all = earlier ++ d ∷ table in
    let left : get_or all k e ≡ get_or earlier k e = get_or_append_left earlier (d ∷ table) e k lt in
    let right : get_or all (length earlier) e ≡ d = get_or_at earlier d table e (length earlier) refl in
    different k (length earlier) e lt (omega (arith, length-append earlier (d ∷ table))) (ap (λ (x : Declaration). x.code) left ∙ same ∙ sym (ap (λ (x : Declaration). x.code) right))

written_behind : (table earlier : List Declaration) → All FitsDeclaration table → AllPairs Differ (earlier ++ table) → SpellsItems IsDeclared EndsTable earlier table (table_bytes table)
unfolding table_bytes
written_behind [] earlier each different = zero_spelled
written_behind (d ∷ table) earlier each different = record {
  front = declaration_bytes d;
  first = record {
    spelled = decl_written d (All-head FitsDeclaration d table each);
    is_new = none_found earlier d.code (others_before earlier table d different);
  };
  back = table_bytes table;
  second = written_behind table (earlier ++ d ∷ []) (All-tail FitsDeclaration d table each) (subst (AllPairs Differ) (sym (append_assoc earlier (d ∷ []) table)) different);
  parts = refl;
}

pub table_written : (table : List Declaration) → FitsTable table → SpellsTable (table_bytes table) table
table_written table fits = written_behind table [] fits.each fits.different
