-- Where codes differ, the declaration with a code is found behind the first so many exactly where its place isn't one of theirs.
use Rattle.std.proofs.Common.{◌≡◌, ℕ, zero, suc, ◌<◌, ◌≤◌, ◌≢◌, List, [], ◌∷◌, ◌++◌, drop, length, Option, Some, None, refl, sym, ap, subst, ◌∙◌, Bool, true, false, eqb, cond, arith}
use Rattle.std.specs.Prelude.{All, AllPairs, is_some}
use Rattle.std.specs.List.{slice_get}
use Rattle.std.specs.Option.{option_and_then, option_map}
use Rattle.std.proofs.lemmas.Bool.{eq-eqb, ne_eqb}
use Rattle.std.proofs.lemmas.List.{get_or-map, length-map, map_push}
use Rattle.std.proofs.lemmas.List.Elements.{All-cons, All-nil}
use Rattle.std.proofs.lemmas.List.Quantifiers.{all_pairs_push}
use Rattle.std.proofs.lemmas.Option.{get_or_from_slice_get, slice_get_within}
use Rattle.dwz_def_reading.specs.Abbrevs.{Declaration, find_decl, is_some_decl}
use Rattle.dwz_def_reading.proofs.FitLemmas.{none_found}
use Rattle.dwz_def_reading.proofs.ListFacts.{got_there, same_got, got_map}
use Rattle.dwz_def_reading.proofs.OrderLemmas.{AllPairs-behind, AllPairs-first}
use Rattle.dwz_model.specs.declared.place.Pair.{Pair}
use Rattle.dwz_abbrev.specs.declared.codes.Codes.{Codes}
use Rattle.dwz_abbrev.specs.declared.read_decl.ReadDecl.{ReadDecl}
use Rattle.dwz_abbrev.specs.Places.{Leads, codes_of, place_in, place_of}
use Rattle.dwz_abbrev.specs.ReadPlaces.{AreLed}
use Rattle.dwz_abbrev.specs.ReadViews.{read_codes, read_view, read_views}
use Rattle.dwz_abbrev.specs.Written.{Differ}
use Rattle.dwz_abbrev.proofs.PlaceLemmas.{code_at, none_suc, place_found}
use Rattle.dwz_abbrev.proofs.StartLemmas.{none_behind}

other_first : (e : Declaration) (table : List Declaration) (i : ℕ) (d : Declaration) → AllPairs Differ (e ∷ table) → slice_get table i ≡ Some d → e.code ≡ d.code → ⊥
other_first e table i d all at same =
    AllPairs-first Differ e table all i d (slice_get_within table i d at) (same ∙ sym (ap (λ (f : Declaration). f.code) (get_or_from_slice_get table i d d at)))

found_at : (table : List Declaration) (skip i : ℕ) (d : Declaration) → AllPairs Differ table → slice_get table i ≡ Some d → skip ≤ i → find_decl (drop skip table) d.code ≡ Some d
found_at [] zero i d all at le = absurd cc
found_at [] (suc skip) i d all at le = absurd cc
found_at (e ∷ table) zero zero d all at le =
    let same : e ≡ d = cc in
    let yes : eqb e.code d.code ≡ true = eq-eqb e.code d.code (ap (λ (f : Declaration). f.code) same) in
    ap (λ (b : Bool). cond b (Some e) (find_decl table d.code)) yes ∙ ap (λ (f : Declaration). Some f) same
found_at (e ∷ table) zero (suc i) d all at le =
    let no : eqb e.code d.code ≡ false = ne_eqb e.code d.code (other_first e table i d all at) in
    ap (λ (b : Bool). cond b (Some e) (find_decl table d.code)) no ∙ found_at table zero i d (AllPairs-behind Differ e table all) at (omega arith)
found_at (e ∷ table) (suc skip) zero d all at le = absurd (omega (arith, le))
found_at (e ∷ table) (suc skip) (suc i) d all at le = found_at table skip i d (AllPairs-behind Differ e table all) at (omega (arith, le))

none_past : (table : List Declaration) (skip i : ℕ) (d : Declaration) → AllPairs Differ table → slice_get table i ≡ Some d → i < skip → find_decl (drop skip table) d.code ≡ None
none_past table zero i d all at lt = absurd (omega (arith, lt))
none_past [] (suc skip) i d all at lt = absurd cc
none_past (e ∷ table) (suc skip) zero d all at lt =
    let same : e ≡ d = cc in
    let others : All (λ f. f.code ≢ d.code) table = λ k f within is. AllPairs-first Differ e table all k f within (ap (λ (g : Declaration). g.code) same ∙ sym is) in
    none_behind skip table d.code (none_found table d.code others)
none_past (e ∷ table) (suc skip) (suc i) d all at lt = none_past table skip i d (AllPairs-behind Differ e table all) at (omega (arith, lt))

-- ---- declarations that were read

pub codes_read : (row : List Pair) (decls : List ReadDecl) → codes_of (read_views row decls) ≡ read_codes decls
codes_read row [] = refl
codes_read row (d ∷ decls) = ap (λ (w : List ℕ). d.code ∷ w) (codes_read row decls)

differ_read : (row : List Pair) (decls : List ReadDecl) → AllPairs (λ d e. d.code ≢ e.code) decls → AllPairs Differ (read_views row decls)
differ_read row [] all = λ i j d less lt. absurd (omega (arith, lt))
differ_read row (x ∷ decls) all = λ i j d less lt.
    let within : j < length (x ∷ decls) = omega (arith, lt, length-map (x ∷ decls) (read_view row)) in
    let first = get_or-map (read_view row) (x ∷ decls) i x d (omega (arith, less, within)) in
    let second = get_or-map (read_view row) (x ∷ decls) j x d within in
    rw (first, second) (all i j x less within)

module _ (codes : Codes) (decls : List ReadDecl) (led : AreLed codes decls) (row : List Pair) where
  abbrev table : List Declaration
  table = read_views row decls

  pub found : (code : ℕ) → option_and_then (slice_get table) (place_in codes code) ≡ find_decl table code
  found code = place_found codes table code (subst (Leads codes) (sym (codes_read row decls)) led.leads)

  -- the declaration at the place of a code
  pub decl_at : (code place : ℕ) → place_in codes code ≡ Some place → (d : Declaration) × (slice_get table place ≡ Some d) × (d.code ≡ code)
  decl_at code place is =
      let at : slice_get (codes_of table) place ≡ Some code = code_at (codes_of table) code place (ap (λ (w : List ℕ). place_of w code) (codes_read row decls) ∙ sym (led.leads.found code) ∙ is) in
      let there = got_there table place (omega (arith, slice_get_within (codes_of table) place code at, length-map table (λ (d : Declaration). d.code))) in
      (there.0, there.1, same_got (codes_of table) place there.0.code code (got_map (λ (d : Declaration). d.code) table place there.0 there.1) at)

  pub behind_none : (code skip : ℕ) → place_in codes code ≡ None → find_decl (drop skip table) code ≡ None
  behind_none code skip none = none_behind skip table code (sym (found code) ∙ ap (option_and_then (slice_get table)) none)

  pub behind_past : (code skip place : ℕ) → place_in codes code ≡ Some place → place < skip → find_decl (drop skip table) code ≡ None
  behind_past code skip place is lt =
      let d = decl_at code place is in
      subst (λ (n : ℕ). find_decl (drop skip table) n ≡ None) d.2 (none_past table skip place d.0 (differ_read row decls led.different) d.1 lt)

  pub behind_some : (code skip place : ℕ) → place_in codes code ≡ Some place → skip ≤ place → slice_get table place ≡ find_decl (drop skip table) code
  behind_some code skip place is le =
      let d = decl_at code place is in
      d.1 ∙ sym (subst (λ (n : ℕ). find_decl (drop skip table) n ≡ Some d.0) d.2 (found_at table skip place d.0 (differ_read row decls led.different) d.1 le))

  pub place_within : (code place : ℕ) → place_in codes code ≡ Some place → place < length decls
  place_within code place is =
      let d = decl_at code place is in
      omega (arith, slice_get_within table place d.0 d.1, length-map decls (read_view row))

  pub has_found : (code : ℕ) (o : Option ℕ) → place_in codes code ≡ o → is_some o ≡ is_some_decl (find_decl table code)
  has_found code None is = sym (ap is_some_decl (sym (found code) ∙ ap (option_and_then (slice_get table)) is))
  has_found code (Some place) is = sym (ap is_some_decl (sym (found code) ∙ ap (option_and_then (slice_get table)) is ∙ (decl_at code place is).1))

-- ---- a declaration that is pushed

none_is : (decls : List ReadDecl) (code : ℕ) → place_of (read_codes decls) code ≡ None → All (λ d. d.code ≢ code) decls
none_is [] code none = All-nil (λ d. d.code ≢ code)
none_is (d ∷ decls) code none = go (none_is decls code) (eqb d.code code) refl none where
  go : (place_of (read_codes decls) code ≡ None → All (λ e. e.code ≢ code) decls) → (test : Bool) → eqb d.code code ≡ test
      → cond test (Some 0) (option_map (λ n. suc n) (place_of (read_codes decls) code)) ≡ None → All (λ e. e.code ≢ code) (d ∷ decls)
  go below true has is = absurd cc
  go below false has is =
      All-cons (λ e. e.code ≢ code) d decls (λ same. let never : true ≡ false = sym (eq-eqb d.code code same) ∙ has in absurd cc)
      (below (none_suc (place_of (read_codes decls) code) is))

pub led_more : (old codes : Codes) (decls new : List ReadDecl) (d : ReadDecl) → AreLed old decls → new ≡ decls ++ d ∷ [] → place_of (read_codes decls) d.code ≡ None
    → Leads codes (read_codes decls ++ d.code ∷ []) → AreLed codes new
led_more old codes decls new d led is is_new leads = record {
  leads = subst (Leads codes) (sym (ap read_codes is ∙ map_push (λ (e : ReadDecl). e.code) decls d)) leads;
  different = subst (AllPairs (λ e f. e.code ≢ f.code)) (sym is) (all_pairs_push (λ e f. e.code ≢ f.code) decls d led.different (none_is decls d.code is_new));
}

pub led_same : (old codes : Codes) (decls new : List ReadDecl) → AreLed old decls → new ≡ decls → Leads codes (read_codes decls) → AreLed codes new
led_same old codes decls new led is leads = subst (AreLed codes) (sym is) (record { leads = leads; different = led.different })

pub read_length : (decls : List ReadDecl) → length (read_codes decls) ≡ length decls
read_length decls = length-map decls (λ (d : ReadDecl). d.code)
