-- Behind declarations with other codes the same table is read, since a declaration is refused only for a code that one before it has.
use Rattle.std.proofs.Common.{◌≡◌, ℕ, zero, suc, ◌+◌, ◌≤◌, List, [], ◌∷◌, ◌++◌, length, drop, Some, None, Ok, Result, refl, sym, ap, subst, ◌∙◌, Bool, true, false, eqb, cond, append_assoc, arith}
use Rattle.std.specs.Prelude.{All}
use Rattle.std.specs.List.{slice_get}
use Rattle.std.proofs.lemmas.Bool.{eq-eqb, eqb-true}
use Rattle.std.proofs.lemmas.List.{append-nil, drop-append-le}
use Rattle.std.proofs.lemmas.List.Elements.{All-cons, All-head, All-nil, All-push, All-tail}
use Rattle.std.proofs.lemmas.List.Quantifiers.{all_pairs_push}
use Rattle.std.proofs.lemmas.Option.{slice_get_within}
use Rattle.dwz_model.specs.declared.fault.Fault.{Fault}
use Rattle.dwz_bytes.specs.Input.{Input, input}
use Rattle.dwz_bytes.specs.Reading.{◌>>=◌}
use Rattle.dwz_def_reading.specs.Abbrevs.{Declaration, EndsTable, FitsDeclaration, FitsTable, IsDeclared, declaration_at, declarations_at, find_decl, table_at}
use Rattle.dwz_def_reading.specs.Abbrevs.{declarations_read}
use Rattle.dwz_def_reading.specs.Faults.{bad_abbrev}
use Rattle.dwz_def_reading.specs.Items.{SpellsItems}
use Rattle.dwz_def_reading.proofs.AbbrevLemmas.{decl_laws}
use Rattle.dwz_def_reading.proofs.FindLemmas.{found_behind}
use Rattle.dwz_def_reading.proofs.FitLemmas.{decl_fits, none_has}
use Rattle.dwz_def_reading.proofs.ListLemmas.{Input_at, items_again}
use Rattle.dwz_def_reading.proofs.PartLemmas.{bind_ok}
use Rattle.dwz_def_reading.proofs.TableLemmas.{table_found}
use Rattle.dwz_abbrev.specs.Starts.{HaveOtherCodes, Reach}
use Rattle.dwz_abbrev.specs.Written.{Differ}

-- what is spelled behind declarations is spelled behind further ones, where these have none of its codes
spelled_behind : (own earlier table : List Declaration) (bytes : List ℕ) → All (λ d. find_decl own d.code ≡ None) table → SpellsItems IsDeclared EndsTable earlier table bytes
    → SpellsItems IsDeclared EndsTable (own ++ earlier) table bytes
spelled_behind own earlier [] bytes apart is = is
spelled_behind own earlier (d ∷ table) bytes apart is = record {
  front = is.front;
  first = record { spelled = is.first.spelled; is_new = found_behind own earlier d.code (All-head (λ e. find_decl own e.code ≡ None) d table apart) ∙ is.first.is_new };
  back = is.back;
  second =
      subst (λ (w : List Declaration). SpellsItems IsDeclared EndsTable w table is.back) (sym (append_assoc own earlier (d ∷ [])))
      (spelled_behind own (earlier ++ d ∷ []) table is.back (All-tail (λ e. find_decl own e.code ≡ None) d table apart) is.second);
  parts = is.parts;
}

-- a declaration has its code
found_first : (d : Declaration) (table : List Declaration) → find_decl (d ∷ table) d.code ≡ Some d
found_first d table = ap (λ (b : Bool). cond b (Some d) (find_decl table d.code)) (eq-eqb d.code d.code refl)

-- where a code is found in a row without the declaration, it isn't found in the row
none_without : (d : Declaration) (table : List Declaration) (code : ℕ) → find_decl (d ∷ table) code ≡ None → find_decl table code ≡ None
none_without d table code none = go (eqb d.code code) none where
  go : (test : Bool) → cond test (Some d) (find_decl table code) ≡ None → find_decl table code ≡ None
  go true is = absurd cc
  go false is = is

-- no declaration has the code of one that is apart from all
none_has_its : (own others : List Declaration) (d : Declaration) → HaveOtherCodes own (d ∷ others) → find_decl own d.code ≡ None
none_has_its [] others d apart = refl
none_has_its (e ∷ own) others d apart = go (none_has_its own others d (All-tail (λ f. find_decl (d ∷ others) f.code ≡ None) e own apart)) (eqb e.code d.code) refl where
  go : find_decl own d.code ≡ None → (test : Bool) → eqb e.code d.code ≡ test → cond test (Some e) (find_decl own d.code) ≡ None
  go below true is =
      let same : e.code ≡ d.code = eqb-true e.code d.code is in
      let none : find_decl (d ∷ others) d.code ≡ None = ap (find_decl (d ∷ others)) (sym same) ∙ All-head (λ f. find_decl (d ∷ others) f.code ≡ None) e own apart in
      let both = sym none ∙ found_first d others in
      absurd cc
  go below false is = below

apart_without : (own others : List Declaration) (d : Declaration) → HaveOtherCodes own (d ∷ others) → HaveOtherCodes own others
apart_without [] others d apart = All-nil (λ f. find_decl others f.code ≡ None)
apart_without (e ∷ own) others d apart =
    All-cons (λ f. find_decl others f.code ≡ None) e own (none_without d others e.code (All-head (λ f. find_decl (d ∷ others) f.code ≡ None) e own apart))
    (apart_without own others d (All-tail (λ f. find_decl (d ∷ others) f.code ≡ None) e own apart))

-- rows that are apart are so either way
apart_either : (own others : List Declaration) → HaveOtherCodes own others → All (λ d. find_decl own d.code ≡ None) others
apart_either own [] apart = All-nil (λ d. find_decl own d.code ≡ None)
apart_either own (d ∷ others) apart = All-cons (λ e. find_decl own e.code ≡ None) d others (none_has_its own others d apart) (apart_either own others (apart_without own others d apart))

apart_behind : (n : ℕ) (own others : List Declaration) → HaveOtherCodes own others → HaveOtherCodes (drop n own) others
apart_behind zero own others apart = apart
apart_behind (suc n) [] others apart = apart
apart_behind (suc n) (d ∷ own) others apart = apart_behind n own others (All-tail (λ e. find_decl others e.code ≡ None) d own apart)

-- behind declarations with other codes, the table at a place is read
read_behind : (section : List ℕ) (place : ℕ) (own others : List Declaration) → table_at section place ≡ Ok others → HaveOtherCodes own others
    → (j : Input) × (declarations_at own (input section place) ≡ Ok (own ++ others, j))
unfolding table_at
read_behind section place own others read apart =
    let b = bind_ok (declarations_at [] (input section place)) declarations_read others read in
    let r = table_found (input section place) b.0.1 b.0.0 b.1 in
    let same : b.0.0 ≡ others = cc in
    let spelled : SpellsItems IsDeclared EndsTable [] others r.front = subst (λ (t : List Declaration). SpellsItems IsDeclared EndsTable [] t r.front) same r.spelled in
    let behind : SpellsItems IsDeclared EndsTable own others r.front =
    subst (λ (w : List Declaration). SpellsItems IsDeclared EndsTable w others r.front) (append-nil own) (spelled_behind own [] others r.front (apart_either own others apart) spelled) in (
      Input_at (place + length r.front) b.0.1.rest,
      ap (λ (w : List ℕ). declarations_at own (Input_at place w)) r.parts
          ∙ items_again IsDeclared EndsTable declaration_at (bad_abbrev 0) decl_laws others own place r.front b.0.1.rest behind,
    )

-- a table is its first declarations and the table behind them
pub followed : (section : List ℕ) (at place : ℕ) (own others : List Declaration) → declarations_at own (input section place) ≡ declarations_at [] (input section at)
    → table_at section place ≡ Ok others → HaveOtherCodes own others → table_at section at ≡ Ok (own ++ others)
unfolding table_at
followed section at place own others same read apart =
    let behind = read_behind section place own others read apart in
    ap (λ (r : Result (List Declaration × Input) Fault). r >>= declarations_read) (sym same ∙ behind.1)

-- from each of its places on, it is what stands behind
pub each_followed : (section : List ℕ) (place : ℕ) (own others : List Declaration) (starts : List ℕ) → Reach section own starts (input section place) → table_at section place ≡ Ok others
    → HaveOtherCodes own others → (n at : ℕ) → slice_get starts n ≡ Some at → table_at section at ≡ Ok (drop n (own ++ others))
each_followed section place own others starts reach read apart n at is =
    let within = slice_get_within starts n at is in
    let le : n ≤ length own = omega (arith, within, reach.as_many) in
    followed section at place (drop n own) others (reach.each n at is) read (apart_behind n own others apart) ∙ ap (λ (w : List Declaration). Ok w) (sym (drop-append-le n own others le))

-- a declaration that was read fits, and so do those before it and it
pub fits_none : FitsTable []
fits_none = record { each = All-nil FitsDeclaration; different = λ i j d less lt. absurd (omega (arith, lt)) }

pub fits_more : (table : List Declaration) (i j : Input) (d : Declaration) → declaration_at table i ≡ Ok (Some d, j) → FitsTable table → FitsTable (table ++ d ∷ [])
fits_more table i j d read fits =
    let t = decl_laws.found table i j d read in
    record {
      each = All-push FitsDeclaration table d fits.each (decl_fits t.front d t.spelled.spelled);
      different = all_pairs_push Differ table d fits.different (none_has table d.code t.spelled.is_new);
    }
