-- The numbers of entries that have one are those of the spaces of units.
use Rattle.std.proofs.Common.{◌≡◌, ℕ, ◌+◌, ◌*◌, ◌^◌, ◌<◌, List, [], ◌∷◌, ◌++◌, get_or, length, reverse, Some, slice_get, refl, sym, ap, subst, ◌∙◌, inl, inr, ⊎_elim, arith}
use Rattle.std.proofs.lemmas.List.{length-append, length-reverse}
use Rattle.dwz_model.proofs.ListFacts.{got_below, got_index_or, got_there, in_cases, in_left, in_right, same_got}
use Rattle.dwz_def_reading.specs.Documents.{DwUnit}
use Rattle.dwz_def_reading.specs.Lists.{In}
use Rattle.dwz_def_reading.specs.Meanings.{Around, MeanUnits}
use Rattle.dwz_def_reading.specs.Units.{RawUnit}
use Rattle.dwz_def_check.specs.CrossNames.{cross_names_from, cross_unit_names}
use Rattle.dwz_groups.specs.declared.groups.Edge.{Edge}
use Rattle.dwz_unit.specs.Rows.{EntryRow, rows_of}
use Rattle.dwz_check_index.specs.Index.{Called, names_in}
use Rattle.dwz_check_sides.specs.declared.lists.NameLists.{NameLists}
use Rattle.dwz_check_sides.specs.Names.{AreApart, HaveListNumbers, IsListNumber, IsNumberFrom}
use Rattle.dwz_reuse.specs.Spaces.{HasNamed, IsRowEdge, IsSpaceEdge, PutsRows, PutsSpaces, space_edge}
use Rattle.dwz_reuse.proofs.UnitEntries.{in_unit, of_unit, space_listed, unit_space}

-- ---- one row more

module _ (raw : List RawUnit) (numbers : List ℕ) (first : ℕ) where
  pub no_rows : (old : List Edge) → PutsRows raw numbers first 0 old old
  no_rows old = record { from = λ e i. inl i; kept = λ e i. i; found = λ i row l. absurd (omega (arith, l)) }

  -- what holds of an entry before a number holds before the next
  later_row : (count : ℕ) (e : Edge) → IsRowEdge raw numbers first count e → IsRowEdge raw numbers first (count + 1) e
  later_row count e r = record { i = r.i; low = (let l = r.low in omega (arith, l)); row = r.row; found = r.found; number = r.number; some = r.some; key = r.key }

  -- an entry without a number
  pub skip_row : (count : ℕ) (old new : List Edge) → get_or numbers count 0 ≡ 0 → PutsRows raw numbers first count old new → PutsRows raw numbers first (count + 1) old new
  skip_row count old new none p = record {
    from = λ e i. ⊎_elim (λ (a : In e old). inl a) (λ (b : IsRowEdge raw numbers first count e). inr (later_row count e b)) (p.from e i);
    kept = p.kept;
    found = λ i row l got some. ⊎_elim
        (λ (before : i < count). p.found i row before got some)
        (λ (here : i ≡ count). absurd (let z : get_or numbers i 0 ≡ 0 = ap (λ (k : ℕ). get_or numbers k 0) here ∙ none in omega (arith, z, some)))
        (grind (arith, l));
  }

  -- one with a number
  pub put_row : (count number unit : ℕ) (row : EntryRow) (old now new : List Edge) → slice_get (rows_of raw) count ≡ Some row → row.unit ≡ unit → get_or numbers count 0 ≡ number → (number ≡ 0 → ⊥)
      → new ≡ now ++ space_edge (first + unit) number ∷ [] → PutsRows raw numbers first count old now → PutsRows raw numbers first (count + 1) old new
  put_row count number unit row old now new got of_unit is some put p =
      let own = space_edge (first + unit) number in
      let positive : 0 < number = grind (arith, some) in
      record {
        from = λ e i. ⊎_elim
            (λ (a : In e now). ⊎_elim (λ (b : In e old). inl b) (λ (b : IsRowEdge raw numbers first count e). inr (later_row count e b)) (p.from e a))
            (λ (a : In e (own ∷ [])). inr (last_row e a positive))
            (in_cases e now (own ∷ []) (subst (λ (w : List Edge). In e w) put i));
        kept = λ e i. subst (λ (w : List Edge). In e w) (sym put) (in_left e now (own ∷ []) (p.kept e i));
        found = λ i other l at high. subst (λ (w : List Edge). In (space_edge (first + other.unit) (get_or numbers i 0)) w) (sym put) (⊎_elim
            (λ (before : i < count). in_left (space_edge (first + other.unit) (get_or numbers i 0)) now (own ∷ []) (p.found i other before at high))
            (λ (here : i ≡ count).
            let one : row ≡ other = same_got (rows_of raw) count row other got (ap (slice_get (rows_of raw)) (sym here) ∙ at) in
            let u : unit ≡ other.unit = sym of_unit ∙ ap (λ (w : EntryRow). w.unit) one in
            let n : number ≡ get_or numbers i 0 = sym is ∙ ap (λ (k : ℕ). get_or numbers k 0) (sym here) in
            in_right (space_edge (first + other.unit) (get_or numbers i 0)) now (own ∷ []) (inl (λ j. space_edge (first + u j) (n j))))
            (grind (arith, l)));
      } where
        last_row : (e : Edge) → In e (space_edge (first + unit) number ∷ []) → 0 < number → IsRowEdge raw numbers first (count + 1) e
        last_row e (inl a) positive = record {
          i = count;
          low = omega arith;
          row = row;
          found = got;
          number = is ∙ ap (λ (w : Edge). w.value) a;
          some = subst (λ (n : ℕ). 0 < n) (ap (λ (w : Edge). w.value) a) positive;
          key = ap (λ (n : ℕ). first + n) of_unit ∙ ap (λ (w : Edge). w.key) a;
        }
        last_row e (inr i) positive = absurd i

-- ---- numbers of lists

pub some_number : (known : NameLists) (bound : ℕ) → AreApart known bound → (ns : List (List ℕ)) (n : ℕ) → IsNumberFrom known ns n → 0 < length ns → 0 < n
some_number known bound a [] n h l = absurd (omega (arith, l))
some_number known bound a (name ∷ outer) n h l = (a.lists_low (h.0 * 2 ^ 32 + h.1) n h.4).0

pub none_number : (known : NameLists) (names : List (List ℕ)) (n : ℕ) → names ≡ [] → IsListNumber known names n → n ≡ 0
none_number known names n e h = subst (λ (w : List (List ℕ)). IsListNumber known w n) e h

space_some : (u : DwUnit ℕ) (names : List (List ℕ)) → HasNamed u names → 0 < length (reverse names)
space_some u names h =
    let s = h.1 in
    let a = length-reverse names in
    let b : length names ≡ length (s.outer ++ s.text ∷ []) = ap (λ (w : List (List ℕ)). length w) s.names_are in
    let c = length-append s.outer (s.text ∷ []) in
    omega (arith, a, b, c)

-- ---- all spaces

-- what has a number other than 0 is a space
named : (known : NameLists) (n j m : ℕ) (u : DwUnit ℕ) (x : Called) (w : List (List ℕ)) → names_in x.1 ≡ w → 0 < n → IsListNumber known (names_in x.1) n → In x (cross_unit_names j m u.kind u)
    → HasNamed u (names_in x.1)
named known n j m u x [] e some number there = absurd (let z = none_number known (names_in x.1) n e number in omega (arith, z, some))
named known n j m u x (text ∷ texts) e some number there = unit_space j m u.kind u x text texts e there

module _ (around : Around ℕ) (raw : List RawUnit) (said : List (DwUnit ℕ)) (means : MeanUnits around raw said) (top : ℕ) (known : NameLists) (bound : ℕ) (apart : AreApart known bound)
    (numbers : List ℕ) (have : HaveListNumbers known (cross_names_from 0 top said) numbers) (long : length numbers ≡ length (cross_names_from 0 top said)) (first : ℕ) where
  abbrev names : List Called
  names = cross_names_from 0 top said

  number_at : (i : ℕ) (x : Called) → slice_get names i ≡ Some x → IsListNumber known (names_in x.1) (get_or numbers i 0)
  number_at i x got =
      let low = got_below names i x got in
      let o = got_there numbers i (omega (arith, low, long)) in
      subst (λ (n : ℕ). IsListNumber known (names_in x.1) n) (sym (got_index_or numbers i o.0 0 o.1)) (have i o.0 x o.1 got)

  from_row : (e : Edge) → IsRowEdge raw numbers first (length numbers) e → IsSpaceEdge known first said e
  from_row e r =
      let low = r.low in
      let o = got_there names r.i (omega (arith, low, long)) in
      let number : IsListNumber known (names_in (o.0).1) e.value = subst (λ (n : ℕ). IsListNumber known (names_in (o.0).1) n) r.number (number_at r.i o.0 o.1) in
      let own = in_unit around raw said means 0 0 0 top r.i r.row o.0 r.found o.1 in
      record {
        n = own.k;
        unit = own.unit;
        got = own.got;
        key = (let a = own.number in let b = r.key in omega (arith, a, b));
        names = names_in (o.0).1;
        space = named known e.value own.j own.m own.unit o.0 (names_in (o.0).1) refl r.some number own.there;
        number = number;
      }

  pub puts_spaces : (old new : List Edge) → PutsRows raw numbers first (length numbers) old new → PutsSpaces known first said old new
  puts_spaces old new p = record {
    from = λ e i. ⊎_elim (λ (a : In e old). inl a) (λ (b : IsRowEdge raw numbers first (length numbers) e). inr (from_row e b)) (p.from e i);
    kept = p.kept;
    found = λ n u ns got np has. (
        let o = of_unit around raw said means 0 0 0 top n u ns got (λ j m. space_listed j m u.kind u ns np has) in
        let number : IsListNumber known ns (get_or numbers o.i 0) = subst (λ (w : List (List ℕ)). IsListNumber known w (get_or numbers o.i 0)) o.names_are (number_at o.i o.x o.called) in
        let some = some_number known bound apart (reverse ns) (get_or numbers o.i 0) number (space_some u ns has) in
        let low = got_below names o.i o.x o.called in
        let there = p.found o.i o.row (omega (arith, low, long)) o.found some in
        let key : first + (o.row).unit ≡ first + n = (let e = o.number in omega (arith, e)) in
        (get_or numbers o.i 0, number, subst (λ (w : ℕ). In (space_edge w (get_or numbers o.i 0)) new) key there));
  }
