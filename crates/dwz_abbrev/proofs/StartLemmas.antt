-- What is read behind declarations is read behind the last of them alone: a declaration is refused only for a code that one before it has.
use Rattle.std.proofs.Common.{◌≡◌, ℕ, zero, suc, ◌+◌, ◌≤◌, List, [], ◌∷◌, ◌++◌, length, drop, Some, None, Ok, refl, sym, ap, ◌∙◌, Bool, true, false, eqb, cond, arith, inl, inr}
use Rattle.std.specs.List.{slice_get}
use Rattle.std.proofs.Math.ListN.{drop_of_length-le}
use Rattle.std.proofs.lemmas.Bool.{cases_eq}
use Rattle.std.proofs.lemmas.List.{drop-append-le, drop-drop, length_push}
use Rattle.std.proofs.lemmas.Option.{slice_get_within}
use Rattle.dwz_bytes.specs.Input.{Input, input}
use Rattle.dwz_bytes.proofs.LebLemmas.{drop-front}
use Rattle.dwz_def_reading.specs.Abbrevs.{Declaration, EndsTable, IsDeclared, declaration_at, declarations_at, find_decl}
use Rattle.dwz_def_reading.specs.Faults.{bad_abbrev}
use Rattle.dwz_def_reading.proofs.AbbrevLemmas.{decl_laws}
use Rattle.dwz_def_reading.proofs.ListFacts.{get_last}
use Rattle.dwz_def_reading.proofs.ListLemmas.{Input_at, step_some}
use Rattle.dwz_def_reading.proofs.TableLemmas.{table_end}
use Rattle.dwz_abbrev.specs.Starts.{AreStarts, Reach}
use Rattle.dwz_abbrev.proofs.PlaceLemmas.{slice_get_old}

-- a code that none has, none of the last has
pub none_behind : (n : ℕ) (table : List Declaration) (code : ℕ) → find_decl table code ≡ None → find_decl (drop n table) code ≡ None
none_behind zero table code none = none
none_behind (suc n) [] code none = none
none_behind (suc n) (d ∷ table) code none = go (none_behind n table code) (eqb d.code code) none where
  go : (find_decl table code ≡ None → find_decl (drop n table) code ≡ None) → (test : Bool) → cond test (Some d) (find_decl table code) ≡ None → find_decl (drop n table) code ≡ None
  go below true is = absurd cc
  go below false is = below is

one_behind : (n : ℕ) (table : List Declaration) (i j : Input) (d : Declaration) → declaration_at table i ≡ Ok (Some d, j) → declaration_at (drop n table) i ≡ Ok (Some d, j)
one_behind n table i j d read =
    let t = decl_laws.found table i j d read in
    let is : IsDeclared (drop n table) t.front d = record { spelled = t.spelled.spelled; is_new = none_behind n table d.code t.spelled.is_new } in
    ap (λ (w : List ℕ). declaration_at (drop n table) (Input_at i.at w)) t.parts
    ∙ decl_laws.again (drop n table) i.at d t.front j.rest is
    ∙ ap (λ (at : ℕ). Ok (Some d, Input_at at j.rest)) (sym t.place)

end_behind : (n : ℕ) (table : List Declaration) (i j : Input) → declaration_at table i ≡ Ok (None, j) → declaration_at (drop n table) i ≡ Ok (None, j)
end_behind n table i j read =
    let t = decl_laws.ended table i j read in
    ap (λ (w : List ℕ). declaration_at (drop n table) (Input_at i.at w)) t.parts
    ∙ decl_laws.end_again (drop n table) i.at t.front j.rest t.spelled
    ∙ ap (λ (at : ℕ). Ok (None, Input_at at j.rest)) (sym t.place)

-- the input behind a declaration is one of the section too
input_behind : (section : List ℕ) (table : List Declaration) (i j : Input) (d : Declaration) → i ≡ input section i.at → declaration_at table i ≡ Ok (Some d, j) → j ≡ input section j.at
input_behind section table i j d here read =
    let t = decl_laws.found table i j d read in
    let rest : j.rest ≡ drop j.at section =
    sym (drop-front t.front j.rest)
    ∙ ap (drop (length t.front)) (sym t.parts ∙ ap (λ (k : Input). k.rest) here)
    ∙ drop-drop (length t.front) i.at section
    ∙ ap (λ (at : ℕ). drop at section) (sym t.place) in
    ap (Input_at j.at) rest

module _ (section : List ℕ) (table : List Declaration) (starts : List ℕ) (i j : Input) (reach : Reach section table starts i) where
  -- where a declaration begins at the input, the places of it and of those before it
  each_now : (n place : ℕ) → slice_get (starts ++ i.at ∷ []) n ≡ Some place → declarations_at (drop n table) i ≡ declarations_at [] (input section place)
  each_now n place is = elim (cases_eq n (length starts)) [
    | inl last ↦
        let at : i.at ≡ place = let found = sym (ap (slice_get (starts ++ i.at ∷ [])) last ∙ get_last starts i.at) ∙ is in cc in
        let none : drop n table ≡ [] = drop_of_length-le table (omega (arith, last, reach.as_many)) in
        ap (λ (t : List Declaration). declarations_at t i) none ∙ ap (declarations_at []) (reach.here ∙ ap (input section) at)
    | inr before ↦ reach.each n place (sym (slice_get_old starts i.at n before) ∙ is)
  ]

  pub reach_more : (d : Declaration) → declaration_at table i ≡ Ok (Some d, j) → Reach section (table ++ d ∷ []) (starts ++ i.at ∷ []) j
  reach_more d read = record {
    as_many = length_push starts i.at ∙ ap (λ (n : ℕ). n + 1) reach.as_many ∙ sym (length_push table d);
    here = input_behind section table i j d reach.here read;
    each = λ n place is.
        let within = slice_get_within (starts ++ i.at ∷ []) n place is in
        let le : n ≤ length table = omega (arith, within, length_push starts i.at, reach.as_many) in
        ap (λ (t : List Declaration). declarations_at t j) (drop-append-le n table (d ∷ []) le)
        ∙ sym (step_some IsDeclared EndsTable declaration_at (bad_abbrev 0) decl_laws (drop n table) i j d (one_behind n table i j d read))
        ∙ each_now n place is;
  }

  pub reach_end : declaration_at table i ≡ Ok (None, j) → AreStarts section table starts
  reach_end read = record {
    as_many = reach.as_many;
    each = λ n place is. table_end section place (drop n table) i j (reach.each n place is) (end_behind n table i j read);
  }

pub reach_none : (section : List ℕ) (at : ℕ) → Reach section [] [] (input section at)
reach_none section at = record { as_many = refl; here = refl; each = λ n place is. absurd cc }
