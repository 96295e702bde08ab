-- Of which unit the entry with a number is, and which names it has there.
use Rattle.std.proofs.Common.{◌≡◌, ◌⊎◌, ℕ, zero, suc, ◌+◌, ◌<◌, List, [], ◌∷◌, ◌++◌, length, Option, Some, None, slice_get, refl, sym, ap, subst, ◌∙◌, inl, inr, ⊎_elim, arith}
use Rattle.std.proofs.lemmas.List.{append_assoc}
use Rattle.dwz_model.proofs.ListFacts.{got_below, got_in, in_cases}
use Rattle.dwz_model.proofs.Members.{in_nth, nth_get}
use Rattle.dwz_def_reading.specs.Documents.{Compile, DwUnit, Entries, Kind, Node, OfType, Partial}
use Rattle.dwz_def_reading.specs.Entries.{root_position}
use Rattle.dwz_def_reading.specs.Lists.{In}
use Rattle.dwz_def_reading.specs.Meanings.{Around, MeanUnits, MeansUnit, scope_of}
use Rattle.dwz_def_reading.specs.Trees.{End, Entry, size}
use Rattle.dwz_def_reading.specs.Units.{RawUnit, entry_count}
use Rattle.dwz_def_tops.specs.Spaces.{IsSpace, IsUnder, space_text, tops_under}
use Rattle.dwz_def_check.specs.CrossNames.{AtPath, CrossName, PartSpace, WholeSpace, cross_names_below, cross_names_from, cross_names_under, cross_unit_names, next_whole, unit_tops}
use Rattle.dwz_def_check.proofs.NameLists.{space_under}
use Rattle.dwz_graph.proofs.ListMeans.{means_size}
use Rattle.dwz_graph.proofs.RowUnits.{rows_unit}
use Rattle.dwz_graph.proofs.TopLemmas.{get_cases}
use Rattle.dwz_unit.specs.Rows.{EntryRow, rows_from, rows_in}
use Rattle.dwz_unit.proofs.RowLemmas.{shown-length}
use Rattle.dwz_check_index.specs.Index.{Called, names_in}
use Rattle.dwz_check_sides.proofs.NameTexts.{unit_long}
use Rattle.dwz_reuse.specs.Spaces.{HasNamed, IsNoType}

-- ---- names of spaces in a unit

record UnderSpace (names : List (List ℕ)) (f : Entries ℕ) (texts : List (List ℕ)) : Type 0 where
  outer : List (List ℕ)
  text : List ℕ
  node : Node ℕ
  under : IsUnder outer node f
  own : space_text node ≡ Some text
  are : texts ≡ names ++ (outer ++ text ∷ [])

below_none : (top : ℕ) (path : List ℕ) (i : ℕ) (f : Entries ℕ) (x : Called) → In x (cross_names_below top path i f) → names_in x.1 ≡ []
unfolding cross_names_below
below_none top path i End x h = absurd h
below_none top path i (Entry e c n) x (inl a) = ap (λ (w : Called). names_in w.1) (sym a)
below_none top path i (Entry e c n) x (inr r) = ⊎_elim
    (λ (a : In x (cross_names_below top (i ∷ path) 0 c)). below_none top (i ∷ path) 0 c x a)
    (λ (b : In x (cross_names_below top path (suc i) n)). below_none top path (suc i) n x b)
    (in_cases x (cross_names_below top (i ∷ path) 0 c) (cross_names_below top path (suc i) n) r)

module _ (space : List (List ℕ) → CrossName) (is : (ts : List (List ℕ)) → names_in (space ts) ≡ ts) where
  abbrev Finds : List (List ℕ) → Entries ℕ → Called → Type 0
  Finds names f x = (names_in x.1 ≡ []) ⊎ UnderSpace names f (names_in x.1)

  abbrev under_by : List (List ℕ) → ℕ → Node ℕ → Entries ℕ → Entries ℕ → Option (List ℕ) → List Called
  under_by names top e c n o = elim o as (λ _. List Called) [
    | None ↦ (e.at, AtPath top []) ∷ cross_names_below top [] 0 c ++ cross_names_under space names (suc top) n
    | Some text ↦ (e.at, space (names ++ text ∷ []))
        ∷ cross_names_under space (names ++ text ∷ []) top c ++ cross_names_under space names (top + tops_under c) n
  ]

  next_space : (names : List (List ℕ)) (e : Node ℕ) (c n : Entries ℕ) (x : Called) → Finds names n x → Finds names (Entry e c n) x
  next_space names e c n x (inl a) = inl a
  next_space names e c n x (inr u) = inr (record { outer = u.outer; text = u.text; node = u.node; under = inr (inr u.under); own = u.own; are = u.are })

  inner_space : (names : List (List ℕ)) (text : List ℕ) (e : Node ℕ) (c n : Entries ℕ) (x : Called) → space_text e ≡ Some text → Finds (names ++ text ∷ []) c x → Finds names (Entry e c n) x
  inner_space names text e c n x own (inl a) = inl a
  inner_space names text e c n x own (inr u) = inr (record {
    outer = text ∷ u.outer;
    text = u.text;
    node = u.node;
    under = inr (inl (text, u.outer, own, refl, u.under));
    own = u.own;
    are = u.are ∙ append_assoc names (text ∷ []) (u.outer ++ u.text ∷ []);
  })

  under_names : (names : List (List ℕ)) (top : ℕ) (f : Entries ℕ) (x : Called) → In x (cross_names_under space names top f) → Finds names f x
  unfolding cross_names_under
  under_names names top End x h = absurd h
  under_names names top (Entry e c n) x h =
      by (space_text e) refl (λ ns t i. under_names ns t c x i) (λ t i. under_names names t n x i) h where
        by : (o : Option (List ℕ)) → space_text e ≡ o → ((ns : List (List ℕ)) (t : ℕ) → In x (cross_names_under space ns t c) → Finds ns c x)
            → ((t : ℕ) → In x (cross_names_under space names t n) → Finds names n x) → In x (under_by names top e c n o) → Finds names (Entry e c n) x
        by None own inner later (inl a) = inl (ap (λ (w : Called). names_in w.1) (sym a))
        by None own inner later (inr r) = ⊎_elim
            (λ (a : In x (cross_names_below top [] 0 c)). inl (below_none top [] 0 c x a))
            (λ (b : In x (cross_names_under space names (suc top) n)). next_space names e c n x (later (suc top) b))
            (in_cases x (cross_names_below top [] 0 c) (cross_names_under space names (suc top) n) r)
        by (Some text) own inner later (inl a) = inr (record {
          outer = [];
          text = text;
          node = e;
          under = inl (refl, refl);
          own = own;
          are = ap (λ (w : Called). names_in w.1) (sym a) ∙ is (names ++ text ∷ []);
        })
        by (Some text) own inner later (inr r) = ⊎_elim
            (λ (a : In x (cross_names_under space (names ++ text ∷ []) top c)). inner_space names text e c n x own (inner (names ++ text ∷ []) top a))
            (λ (b : In x (cross_names_under space names (top + tops_under c) n)). next_space names e c n x (later (top + tops_under c) b))
            (in_cases x (cross_names_under space (names ++ text ∷ []) top c) (cross_names_under space names (top + tops_under c) n) r)

  listed_space : (f : Entries ℕ) (x : Called) (text : List ℕ) (texts : List (List ℕ)) → names_in x.1 ≡ text ∷ texts → Finds [] f x → (e : Node ℕ) × IsSpace (names_in x.1) e f
  listed_space f x text texts e (inl none) = absurd (let no : [] ≡ text ∷ texts = sym none ∙ e in cc)
  listed_space f x text texts e (inr u) = (u.node, record { outer = u.outer; text = u.text; under = u.under; own = u.own; names_are = u.are })

-- an entry with such names is a space of its unit
pub unit_space : (j m : ℕ) (k : Kind ℕ) (u : DwUnit ℕ) (x : Called) (text : List ℕ) (texts : List (List ℕ)) → names_in x.1 ≡ text ∷ texts → In x (cross_unit_names j m k u) → HasNamed u (names_in x.1)
unit_space j m Compile u x text texts e (inl a) = absurd (let no : [] ≡ text ∷ texts = ap (λ (w : Called). names_in w.1) a ∙ e in cc)
unit_space j m Compile u x text texts e (inr i) = listed_space (WholeSpace j) (λ ts. refl) u.below x text texts e (under_names (WholeSpace j) (λ ts. refl) [] m u.below x i)
unit_space j m Partial u x text texts e (inl a) = absurd (let no : [] ≡ text ∷ texts = ap (λ (w : Called). names_in w.1) a ∙ e in cc)
unit_space j m Partial u x text texts e (inr i) = listed_space PartSpace (λ ts. refl) u.below x text texts e (under_names PartSpace (λ ts. refl) [] m u.below x i)
unit_space j m (OfType signature main) u x text texts e (inl a) = absurd (let no : [] ≡ text ∷ texts = ap (λ (w : Called). names_in w.1) a ∙ e in cc)
unit_space j m (OfType signature main) u x text texts e (inr i) = absurd (let no : [] ≡ text ∷ texts = sym (below_none m [] 0 u.below x i) ∙ e in cc)

-- and a space has such names there
abbrev pub IsListed : ℕ → ℕ → Kind ℕ → DwUnit ℕ → List (List ℕ) → Type 0
IsListed j m k u names = (x : Called) × In x (cross_unit_names j m k u) × (names_in x.1 ≡ names)

pub space_listed : (j m : ℕ) (k : Kind ℕ) (u : DwUnit ℕ) (names : List (List ℕ)) → IsNoType k → HasNamed u names → IsListed j m k u names
space_listed j m Compile u names np h =
    let s = h.1 in ((h.0.at, WholeSpace j ([] ++ (s.outer ++ s.text ∷ []))), inr (space_under (WholeSpace j) [] s.outer m s.text h.0 u.below s.under s.own), sym s.names_are)
space_listed j m Partial u names np h =
    let s = h.1 in ((h.0.at, PartSpace ([] ++ (s.outer ++ s.text ∷ []))), inr (space_under PartSpace [] s.outer m s.text h.0 u.below s.under s.own), sym s.names_are)
space_listed j m (OfType signature main) u names np h = absurd np

-- ---- the unit of an entry

rows_many : (u : RawUnit) (n before : ℕ) → length (rows_in u n before) ≡ entry_count u
rows_many u n before = (let long = shown-length (Entry u.root u.below End) n (root_position before) in omega (arith, long))

own_many : (around : Around ℕ) (k top : ℕ) (r : RawUnit) (v : DwUnit ℕ) → MeansUnit around r v → length (cross_unit_names k top v.kind v) ≡ entry_count r
own_many around k top r v h = let long = unit_long k top v.kind v in let same : size r.below ≡ size v.below = means_size (scope_of around r) r.below v.below h.below in omega (arith, long, same)

-- the entry with a number is of that unit, and its name is among those of this
pub record InUnit (said : List (DwUnit ℕ)) (n : ℕ) (row : EntryRow) (x : Called) : Type 0 where
  pub k : ℕ
  pub number : n + k ≡ row.unit
  pub unit : DwUnit ℕ
  pub got : slice_get said k ≡ Some unit
  pub j : ℕ
  pub m : ℕ
  pub there : In x (cross_unit_names j m unit.kind unit)

pub in_unit : (around : Around ℕ) (raw : List RawUnit) (said : List (DwUnit ℕ)) → MeanUnits around raw said → (n before whole top i : ℕ) (row : EntryRow) (x : Called)
    → slice_get (rows_from raw n before) i ≡ Some row → slice_get (cross_names_from whole top said) i ≡ Some x → InUnit said n row x
unfolding rows_from cross_names_from
in_unit around [] [] h n before whole top i row x at is = absurd (let low = got_below [] i row at in omega (arith, low))
in_unit around [] (v ∷ said) h n before whole top i row x at is = absurd h
in_unit around (r ∷ raw) [] h n before whole top i row x at is = absurd h
in_unit around (r ∷ raw) (v ∷ said) h n before whole top i row x at is =
    let own = rows_in r n before in
    let names = cross_unit_names whole top v.kind v in
    let a = rows_many r n before in
    let b = own_many around whole top r v h.0 in
    elim (get_cases own (rows_from raw (n + 1) (before + entry_count r)) i row at) [
      | inl here ↦ elim (get_cases names (cross_names_from (next_whole v.kind whole) (top + length (unit_tops v.kind v)) said) i x is) [
        | inl named ↦ record {
          k = 0;
          number = (let e : row.unit ≡ n = rows_unit (Entry r.root r.below End) n (root_position before) i row here in omega (arith, e));
          unit = v;
          got = refl;
          j = whole;
          m = top;
          there = got_in names i x named;
        }
        | inr later ↦ absurd (let low = got_below own i row here in let at = later.1 in omega (arith, low, at, a, b))
      ]
      | inr rest ↦ elim (get_cases names (cross_names_from (next_whole v.kind whole) (top + length (unit_tops v.kind v)) said) i x is) [
        | inl named ↦ absurd (let low = got_below names i x named in let at = rest.1 in omega (arith, low, at, a, b))
        | inr later ↦
            let p = rest.1 in
            let q = later.1 in
            let same : later.0 ≡ rest.0 = omega (arith, p, q, a, b) in
            let o = in_unit around raw said h.1 (n + 1) (before + entry_count r) (next_whole v.kind whole) (top + length (unit_tops v.kind v)) rest.0 row x rest.2
            (subst (λ (w : ℕ). slice_get (cross_names_from (next_whole v.kind whole) (top + length (unit_tops v.kind v)) said) w ≡ Some x) same later.2) in
            record { k = suc o.k; number = (let e = o.number in omega (arith, e)); unit = o.unit; got = o.got; j = o.j; m = o.m; there = o.there }
      ]
    ]

-- ---- the entries of a unit

pub record OfUnit (raw : List RawUnit) (n before : ℕ) (all : List Called) (k : ℕ) (names : List (List ℕ)) : Type 0 where
  pub i : ℕ
  pub x : Called
  pub row : EntryRow
  pub found : slice_get (rows_from raw n before) i ≡ Some row
  pub called : slice_get all i ≡ Some x
  pub number : row.unit ≡ n + k
  pub names_are : names_in x.1 ≡ names

got_right : {X : Type 0} (xs ys : List X) (i : ℕ) (x : X) → slice_get ys i ≡ Some x → slice_get (xs ++ ys) (length xs + i) ≡ Some x
got_right [] ys i x e = (let z : 0 + i ≡ i = omega arith in ap (slice_get ys) z ∙ e)
got_right (y ∷ xs) ys i x e = (let z : suc (length xs) + i ≡ suc (length xs + i) = omega arith in ap (slice_get (y ∷ xs ++ ys)) z ∙ got_right xs ys i x e)

got_left : {X : Type 0} (xs ys : List X) (i : ℕ) (x : X) → slice_get xs i ≡ Some x → slice_get (xs ++ ys) i ≡ Some x
got_left [] ys i x e = absurd (let low = got_below [] i x e in omega (arith, low))
got_left (y ∷ xs) ys zero x e = e
got_left (y ∷ xs) ys (suc i) x e = got_left xs ys i x e

got_low : {X : Type 0} (xs : List X) (i : ℕ) → i < length xs → (x : X) × (slice_get xs i ≡ Some x)
got_low [] i l = absurd (omega (arith, l))
got_low (x ∷ xs) zero l = (x, refl)
got_low (x ∷ xs) (suc i) l = got_low xs i (omega (arith, l))

pub of_unit : (around : Around ℕ) (raw : List RawUnit) (said : List (DwUnit ℕ)) → MeanUnits around raw said → (n before whole top k : ℕ) (u : DwUnit ℕ) (names : List (List ℕ))
    → slice_get said k ≡ Some u → ((j m : ℕ) → IsListed j m u.kind u names) → OfUnit raw n before (cross_names_from whole top said) k names
unfolding rows_from cross_names_from
of_unit around [] [] h n before whole top k u names at is = absurd (let low = got_below [] k u at in omega (arith, low))
of_unit around [] (v ∷ said) h n before whole top k u names at is = absurd h
of_unit around (r ∷ raw) [] h n before whole top k u names at is = absurd h
of_unit around (r ∷ raw) (v ∷ said) h n before whole top zero u names at is =
    let own = rows_in r n before in
    let all = cross_unit_names whole top v.kind v in
    let a = rows_many r n before in
    let b = own_many around whole top r v h.0 in
    let same : v ≡ u = cc in
    let l : IsListed whole top v.kind v names = subst (λ (w : DwUnit ℕ). IsListed whole top w.kind w names) (sym same) (is whole top) in
    let f = in_nth 0 all l.0 l.1 in
    let got : slice_get all f.number ≡ Some l.0 = nth_get 0 all f.number f.number l.0 f.nth (omega arith) in
    let low = got_below all f.number l.0 got in
    let o = got_low own f.number (omega (arith, low, a, b)) in
    record {
      i = f.number;
      x = l.0;
      row = o.0;
      found = got_left own (rows_from raw (n + 1) (before + entry_count r)) f.number o.0 o.1;
      called = got_left all (cross_names_from (next_whole v.kind whole) (top + length (unit_tops v.kind v)) said) f.number l.0 got;
      number = (let e : (o.0).unit ≡ n = rows_unit (Entry r.root r.below End) n (root_position before) f.number o.0 o.1 in omega (arith, e));
      names_are = l.2;
    }
of_unit around (r ∷ raw) (v ∷ said) h n before whole top (suc k) u names at is =
    let own = rows_in r n before in
    let all = cross_unit_names whole top v.kind v in
    let a = rows_many r n before in
    let b = own_many around whole top r v h.0 in
    let o = of_unit around raw said h.1 (n + 1) (before + entry_count r) (next_whole v.kind whole) (top + length (unit_tops v.kind v)) k u names at is in
    let e : length all + o.i ≡ length own + o.i = omega (arith, a, b) in
    record {
      i = length own + o.i;
      x = o.x;
      row = o.row;
      found = got_right own (rows_from raw (n + 1) (before + entry_count r)) o.i o.row o.found;
      called = ap (slice_get (all ++ cross_names_from (next_whole v.kind whole) (top + length (unit_tops v.kind v)) said)) (sym e)
          ∙ got_right all (cross_names_from (next_whole v.kind whole) (top + length (unit_tops v.kind v)) said) o.i o.x o.called;
      number = (let e = o.number in omega (arith, e));
      names_are = o.names_are;
    }
