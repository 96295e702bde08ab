-- Abbreviation tables in a section, and where they break off.
use Rattle.std.proofs.Common.{◌≡◌, ℕ, ◌+◌, ◌<◌, ◌≤◌, List, [], ◌∷◌, ◌++◌, length, take, drop, Bool, Option, Some, None, Result, Ok, Err, refl, sym, ap, subst, ◌∙◌, true, false, eqb, cond, arith, inl}
use Rattle.std.proofs.Common.{inr}
use Rattle.std.specs.Prelude.{pos, ◌&&◌}
use Rattle.std.proofs.lemmas.List.{length-append, length-drop, length-take, take-append-drop}
use Rattle.dwz_model.specs.declared.fault.Fault.{Fault}
use Rattle.dwz_model.specs.declared.place.Pair.{Pair}
use Rattle.dwz_bytes.specs.declared.error.ByteErr.{ByteErr}
use Rattle.dwz_bytes.specs.Input.{Input, input}
use Rattle.dwz_bytes.specs.Laws.{One}
use Rattle.std.proofs.Math.ListN.{drop_of_length-le}
use Rattle.dwz_bytes.specs.Reading.{◌>>=◌, groups_at, fixed_at, sleb_at, uleb_at}
use Rattle.dwz_bytes.proofs.PaddedLemmas.{some_groups}
use Rattle.dwz_bytes.proofs.LebLemmas.{drop-front}
use Rattle.dwz_def_reading.specs.Abbrevs.{Declaration, EndsPairs, EndsTable, IsBadTable, IsDeclared, IsPair, SpellsTable, after_children_flag, after_declaration_code, after_form, after_name}
use Rattle.dwz_def_reading.specs.Abbrevs.{after_tag, after_test}
use Rattle.dwz_def_reading.specs.Abbrevs.{constant_at, declaration_at, declarations_at, declarations_read, declared, find_decl, is_bad_decl, is_bad_pair, named_pair, pair_at, pair_item, pairs_at}
use Rattle.dwz_def_reading.specs.Abbrevs.{table_at, unless, whole}
use Rattle.dwz_def_reading.specs.Abbrevs.{with_pairs}
use Rattle.dwz_model.specs.declared.fault.ReadErr.{ReadErr}
use Rattle.dwz_model.specs.declared.fault.ReadErr.TheVariants.{NoMemory, Refused}
use Rattle.dwz_def_reading.specs.Faults.{Fails, bad_abbrev}
use Rattle.dwz_def_reading.specs.Items.{after_item}
use Rattle.dwz_def_reading.specs.Parts.{Again, Found, StandsAt}
use Rattle.dwz_def_reading.proofs.PartLemmas.{bind_err, bind_ok}
use Rattle.dwz_def_reading.proofs.ListLemmas.{Input_at, fails_nothing, items_again, items_found, items_one, items_step, items_stop, items_up_to, moves, nothing_fails, step_end, step_fails, step_some}
use Rattle.dwz_def_reading.proofs.AbbrevLemmas.{decl_laws, pair_laws}

abbrev table_ok : List Declaration → Result (List Declaration) Fault
table_ok t = Ok t

-- ---- each fault is at the declaration

abbrev OnlyAt : {X : Type 0} → ℕ → Result X Fault → Type 0
OnlyAt start r = (f : Fault) → r ≡ Err f → f ≡ bad_abbrev start

whole_only : {X : Type 0} (start : ℕ) (r : Result X ByteErr) → OnlyAt start (whole start r)
whole_only start (Ok x) f e = absurd cc
whole_only start (Err d) f e = cc

unless_only : (test : Bool) (start : ℕ) → OnlyAt start (unless test start)
unless_only true start f e = cc
unless_only false start f e = absurd cc

bind_only : {A B : Type 0} (start : ℕ) (r : Result A Fault) (g : A → Result B Fault) → OnlyAt start r → ((x : A) → OnlyAt start (g x)) → OnlyAt start (r >>= g)
bind_only start r g first second f e = elim (bind_err r g f e) [ inl p ↦ first f p | inr p ↦ second p.0 f p.2 ]

cond_only : {A : Type 0} (start : ℕ) (test : Bool) (a b : Result A Fault) → OnlyAt start a → OnlyAt start b → OnlyAt start (cond test a b)
cond_only start true a b p q = p
cond_only start false a b p q = q

ok_only : {A : Type 0} (start : ℕ) (x : A) → OnlyAt start (Ok x)
ok_only start x f e = absurd cc

constant_only : (start form : ℕ) (i : Input) → OnlyAt start (constant_at start form i)
constant_only start form i = cond_only start (eqb form 0x21) (whole start (sleb_at i)) (Ok (pos 0, i)) (whole_only start (sleb_at i)) (ok_only start (pos 0, i))

form_only : (start name : ℕ) (form : ℕ × Input) → OnlyAt start (after_form start name form)
form_only start name form =
    let tested : OnlyAt start (unless (is_bad_pair name form.0) start >>= after_test start name form) =
    bind_only start (unless (is_bad_pair name form.0) start) (after_test start name form) (unless_only (is_bad_pair name form.0) start)
    (λ u. bind_only start (constant_at start form.0 form.1) (named_pair name form.0) (constant_only start form.0 form.1)
    (λ c. ok_only start (Some (record { name = name; form = form.0; constant = c.0 }), c.1))) in
    cond_only start (eqb name 0 && eqb form.0 0) (Ok (None, form.1)) (unless (is_bad_pair name form.0) start >>= after_test start name form) (ok_only start (None, form.1)) tested

pair_only : (start : ℕ) (i : Input) → OnlyAt start (pair_at start i)
unfolding pair_at
pair_only start i =
    bind_only start (whole start (uleb_at i)) (after_name start) (whole_only start (uleb_at i))
    (λ name. bind_only start (whole start (uleb_at name.1)) (after_form start name.0) (whole_only start (uleb_at name.1)) (form_only start name.0))

pairs_only : (start : ℕ) (i : Input) → OnlyAt start (pairs_at start [] i)
pairs_only start i f e =
    let s = items_stop IsPair EndsPairs (pair_item start) (bad_abbrev start) (pair_laws start) [] i f e in
    pair_only start (Input_at (i.at + length s.front) s.rest) f s.fails

children_only : (earlier : List Declaration) (start code tag : ℕ) (children : ℕ × Input) → OnlyAt start (after_children_flag earlier start code tag children)
children_only earlier start code tag children =
    bind_only start (unless (is_bad_decl earlier code tag children.0) start) (with_pairs start code tag children) (unless_only (is_bad_decl earlier code tag children.0) start)
    (λ u. bind_only start (pairs_at start [] children.1) (declared code tag children.0) (pairs_only start children.1)
    (λ ps. ok_only start (Some (record { code = code; tag = tag; children = eqb children.0 1; pairs = ps.0 }), ps.1)))

tag_only : (earlier : List Declaration) (start code : ℕ) (tag : ℕ × Input) → OnlyAt start (after_tag earlier start code tag)
tag_only earlier start code tag =
    bind_only start (whole start (fixed_at 1 tag.1)) (after_children_flag earlier start code tag.0) (whole_only start (fixed_at 1 tag.1)) (children_only earlier start code tag.0)

code_only : (earlier : List Declaration) (start : ℕ) (code : ℕ × Input) → OnlyAt start (after_declaration_code earlier start code)
code_only earlier start code =
    cond_only start (eqb code.0 0) (Ok (None, code.1)) (whole start (uleb_at code.1) >>= after_tag earlier start code.0) (ok_only start (None, code.1))
    (bind_only start (whole start (uleb_at code.1)) (after_tag earlier start code.0) (whole_only start (uleb_at code.1)) (tag_only earlier start code.0))

pub decl_only : (earlier : List Declaration) (i : Input) → OnlyAt i.at (declaration_at earlier i)
unfolding declaration_at
decl_only earlier i = bind_only i.at (whole i.at (uleb_at i)) (after_declaration_code earlier i.at) (whole_only i.at (uleb_at i)) (code_only earlier i.at)

-- ---- tables at the front of an input

pub table_found : Found SpellsTable (declarations_at [])
table_found i j x e =
    let r = items_found IsDeclared EndsTable declaration_at (bad_abbrev 0) decl_laws [] i j x e in
    record { front = r.taken.front; spelled = subst (λ (all : List Declaration). SpellsTable r.taken.front all) (sym r.joined) r.taken.spelled; parts = r.taken.parts; place = r.taken.place }

pub table_again : Again SpellsTable (declarations_at [])
table_again at x front rest is = items_again IsDeclared EndsTable declaration_at (bad_abbrev 0) decl_laws x [] at front rest is

pub table_one : One SpellsTable
table_one a b more others x y p q e = items_one IsDeclared EndsTable declaration_at (bad_abbrev 0) decl_laws a b more others x y p q e

some_table : (table : List Declaration) (bytes : List ℕ) → SpellsTable bytes table → 0 < length bytes
some_table [] bytes is = some_groups bytes is.groups
some_table (d ∷ table) bytes is =
    let some = decl_laws.some_bytes [] is.front d is.first in
    omega (arith, some, ap length is.parts, length-append is.front is.back)

nothing_at : (at : ℕ) → declaration_at [] (Input_at at []) ≡ Err (bad_abbrev at)
unfolding declaration_at uleb_at groups_at
nothing_at at = refl

-- ---- tables in a section

ok_same : (s t : List Declaration) → table_ok s ≡ table_ok t → s ≡ t
ok_same s t e = cc

pub table_here : (section : List ℕ) (at : ℕ) (table : List Declaration) → table_at section at ≡ Ok table → StandsAt SpellsTable section at table
unfolding table_at
table_here section at table e =
    let b = bind_ok (declarations_at [] (input section at)) declarations_read table e in
    let r = table_found (input section at) b.0.1 b.0.0 b.1 in
    let same : b.0.0 ≡ table = ok_same b.0.0 table b.2 in
    let some = some_table b.0.0 r.front r.spelled in
    let within : at ≤ length section = omega (arith, some, ap length r.parts, length-append r.front b.0.1.rest, length-drop at section) in
    record {
      before = take at section;
      front = r.front;
      after = b.0.1.rest;
      spelled = subst (λ (t : List Declaration). SpellsTable r.front t) same r.spelled;
      length_before = omega (arith, length-take at section, within);
      parts = sym (take-append-drop at section) ∙ ap (λ (w : List ℕ). take at section ++ w) r.parts;
    }

pub here_table : (section : List ℕ) (at : ℕ) (table : List Declaration) → StandsAt SpellsTable section at table → table_at section at ≡ Ok table
unfolding table_at
here_table section at table is =
    let rest : drop at section ≡ is.front ++ is.after =
    ap (λ (n : ℕ). drop n section) (sym is.length_before) ∙ ap (drop (length is.before)) is.parts ∙ drop-front is.before (is.front ++ is.after) in
    let read = table_again at table is.front is.after is.spelled in
    ap (λ (w : List ℕ). declarations_at [] (Input_at at w) >>= declarations_read) rest ∙ ap (λ (r : Result (List Declaration × Input) Fault). r >>= declarations_read) read

pub fault_here : (section : List ℕ) (at : ℕ) (f : Fault) → table_at section at ≡ Err f → (place : ℕ) × (f ≡ bad_abbrev place) × IsBadTable section at place
unfolding table_at
fault_here section at f e =
    let reading : declarations_at [] (input section at) ≡ Err f = elim (bind_err (declarations_at [] (input section at)) declarations_read f e) [ inl p ↦ p | inr p ↦ absurd cc ] in
    let s = items_stop IsDeclared EndsTable declaration_at (bad_abbrev 0) decl_laws [] (input section at) f reading in
    let here = Input_at (at + length s.front) s.rest in (
      at + length s.front,
      decl_only s.items here f s.fails,
      record {
        behind = length s.front;
        breaks_off = record {
          items = s.items;
          front = s.front;
          rest = s.rest;
          spelled = s.spelled;
          parts = s.parts;
          place = refl;
          nothing = fails_nothing IsDeclared EndsTable declaration_at (bad_abbrev 0) decl_laws s.items (at + length s.front) s.rest f s.fails;
        };
        here = refl;
      },
    )

pub here_fault : (section : List ℕ) (at place : ℕ) → IsBadTable section at place → table_at section at ≡ Err (bad_abbrev place)
unfolding table_at
here_fault section at place is =
    let b = is.breaks_off in
    let there = at + length b.front in
    let here = Input_at there b.rest in
    let fails = nothing_fails IsDeclared EndsTable declaration_at (bad_abbrev 0) decl_laws b.items there b.rest b.nothing in
    let only : fails.0 ≡ bad_abbrev there = decl_only b.items here fails.0 fails.1 in
    let up_to = items_up_to IsDeclared EndsTable declaration_at (bad_abbrev 0) decl_laws b.items [] at b.front b.rest b.spelled in
    let stops : declarations_at b.items here ≡ Err fails.0 =
    items_step IsDeclared EndsTable declaration_at (bad_abbrev 0) decl_laws b.items here ∙ ap (λ (r : Result (Option Declaration × Input) Fault). r >>= after_item (declarations_at) b.items) fails.1 in
    let same : there ≡ place = ap (λ (n : ℕ). at + n) (sym b.place) ∙ sym is.here in
    ap (λ (w : List ℕ). declarations_at [] (Input_at at w) >>= declarations_read) b.parts
    ∙ ap (λ (r : Result (List Declaration × Input) Fault). r >>= declarations_read) (up_to ∙ stops)
    ∙ ap (λ (f : Fault). Err f) (only ∙ ap bad_abbrev same)

-- ---- the same, as code reads a table

pub past_end : (section : List ℕ) (at : ℕ) → length section < at → table_at section at ≡ Err (bad_abbrev at)
unfolding table_at
past_end section at lt =
    let none : drop at section ≡ [] = drop_of_length-le section (omega arith) in
    let fails : declaration_at [] (Input_at at []) ≡ Err (bad_abbrev at) = nothing_at at in
    ap (λ (w : List ℕ). declarations_at [] (Input_at at w) >>= declarations_read) none
    ∙ ap (λ (r : Result (List Declaration × Input) Fault). r >>= declarations_read) (step_fails IsDeclared EndsTable declaration_at (bad_abbrev 0) decl_laws [] (Input_at at []) (bad_abbrev at) fails)

-- one declaration, and those behind it
pub record More (table : List Declaration) (i j : Input) (d : Declaration) : Type 0 where
  pub is_new : find_decl table d.code ≡ None
  pub shorter : length j.rest < length i.rest
  pub same : declarations_at table i ≡ declarations_at (table ++ d ∷ []) j

pub table_more : (table : List Declaration) (i j : Input) (d : Declaration) → declaration_at table i ≡ Ok (Some d, j) → More table i j d
table_more table i j d e = record {
  is_new = (decl_laws.found table i j d e).spelled.is_new;
  shorter = moves IsDeclared EndsTable declaration_at (bad_abbrev 0) decl_laws table i j d e;
  same = step_some IsDeclared EndsTable declaration_at (bad_abbrev 0) decl_laws table i j d e;
}

pub table_end : (section : List ℕ) (at : ℕ) (table : List Declaration) (i j : Input) → declarations_at table i ≡ declarations_at [] (input section at) → declaration_at table i ≡ Ok (None, j)
    → table_at section at ≡ Ok table
unfolding table_at
table_end section at table i j same e =
    ap (λ (r : Result (List Declaration × Input) Fault). r >>= declarations_read) (sym same ∙ step_end IsDeclared EndsTable declaration_at (bad_abbrev 0) decl_laws table i j e)

pub table_fails : (section : List ℕ) (at : ℕ) (table : List Declaration) (i : Input) (f : Fault) → declarations_at table i ≡ declarations_at [] (input section at) → declaration_at table i ≡ Err f
    → table_at section at ≡ Err f
unfolding table_at
table_fails section at table i f same e =
    ap (λ (r : Result (List Declaration × Input) Fault). r >>= declarations_read) (sym same ∙ step_fails IsDeclared EndsTable declaration_at (bad_abbrev 0) decl_laws table i f e)

-- one pair, and those behind it
pub record MorePairs (start : ℕ) (pairs : List Pair) (i j : Input) (p : Pair) : Type 0 where
  pub shorter : length j.rest < length i.rest
  pub same : pairs_at start pairs i ≡ pairs_at start (pairs ++ p ∷ []) j

pub pairs_more : (start : ℕ) (pairs : List Pair) (i j : Input) (p : Pair) → pair_at start i ≡ Ok (Some p, j) → MorePairs start pairs i j p
pairs_more start pairs i j p e = record {
  shorter = moves IsPair EndsPairs (pair_item start) (bad_abbrev start) (pair_laws start) pairs i j p e;
  same = step_some IsPair EndsPairs (pair_item start) (bad_abbrev start) (pair_laws start) pairs i j p e;
}

pub pairs_end : (start : ℕ) (pairs : List Pair) (i j : Input) → pair_at start i ≡ Ok (None, j) → pairs_at start pairs i ≡ Ok (pairs, j)
pairs_end start pairs i j e = step_end IsPair EndsPairs (pair_item start) (bad_abbrev start) (pair_laws start) pairs i j e

pub pairs_fail : (start : ℕ) (pairs : List Pair) (i : Input) (f : Fault) → pair_at start i ≡ Err f → pairs_at start pairs i ≡ Err f
pairs_fail start pairs i f e = step_fails IsPair EndsPairs (pair_item start) (bad_abbrev start) (pair_laws start) pairs i f e

-- a call that failed on an item fails on the items
pub pairs_fails : (start : ℕ) (pairs : List Pair) (i j : Input) (e : ReadErr) → pairs_at start pairs i ≡ pairs_at start [] j → Fails e (pair_at start i) → Fails e (pairs_at start [] j)
pairs_fails start pairs i j NoMemory same is = tt
pairs_fails start pairs i j (Refused f) same is = sym same ∙ pairs_fail start pairs i f is

pub table_fails_so : (section : List ℕ) (at : ℕ) (table : List Declaration) (i : Input) (e : ReadErr) → declarations_at table i ≡ declarations_at [] (input section at)
    → Fails e (declaration_at table i) → Fails e (table_at section at)
table_fails_so section at table i NoMemory same is = tt
table_fails_so section at table i (Refused f) same is = table_fails section at table i f same is
