-- The number of one more entry: of a space, by the space or root that it stands in.
use Rattle.std.specs.Prelude.{reverse}
use Rattle.std.proofs.Common.{◌≡◌, ℕ, ◌+◌, ◌<◌, ◌≤◌, true, false, List, [], ◌∷◌, ◌++◌, length, Some, slice_get, refl, sym, ap, subst, ◌∙◌, inl, inr, arith}
use Rattle.std.proofs.lemmas.List.{length-append}
use Rattle.dwz_model.proofs.ListFacts.{got_below, got_there}
use Rattle.dwz_def_reading.specs.Documents.{DwUnit}
use Rattle.dwz_def_tops.specs.Spaces.{space_text}
use Rattle.dwz_def_check.specs.CrossNames.{AtPath, CrossName, PartRoot, PartSpace, WholeRoot, WholeSpace, cross_names_from}
use Rattle.dwz_check_index.specs.Index.{Called, IsShown, ListedEntry, listed_units, names_in, part_above, whole_above}
use Rattle.dwz_check_index.specs.declared.index.CrossStarts.{CrossStarts}
use Rattle.dwz_check_index.specs.declared.index.Step.{Step}
use Rattle.dwz_check_index.proofs.ListShown.{part_names, whole_names}
use Rattle.dwz_check_index.proofs.Shown.{pushed}
use Rattle.dwz_check_sides.specs.declared.lists.NameLists.{NameLists}
use Rattle.dwz_check_sides.specs.declared.side.Side.{Side}
use Rattle.dwz_check_sides.specs.Names.{AreApart, HaveListNumbers, IsListNumber, Keeps, is_space_kind}
use Rattle.dwz_check_sides.specs.Says.{IsSide}
use Rattle.dwz_check_sides.proofs.ListNumbers.{kept_from, kept_numbers}

-- a space, with the names of what it stands in
pub record SpaceStep (names : List Called) (entries : List (ListedEntry ℕ)) (i : ℕ) (x : Step) (name : CrossName) : Type 0 where
  pub outer : List (List ℕ)
  pub text : List ℕ
  pub names_are : names_in name ≡ outer ++ text ∷ []
  pub entry : ListedEntry ℕ
  pub found : slice_get entries i ≡ Some entry
  pub own : space_text entry.0 ≡ Some text
  pub earlier : x.up < i
  pub up : Called
  pub up_is : slice_get names x.up ≡ Some up
  pub up_names : names_in up.1 ≡ outer

pub space_step : (names : List Called) (entries : List (ListedEntry ℕ)) (i : ℕ) (x : Step) (at : ℕ) (name : CrossName) → IsShown names entries i x (at, name) → is_space_kind x.stands ≡ true
    → SpaceStep names entries i x name
space_step names entries i x at (AtPath top path) h is = absurd (let f = ap is_space_kind h.stands in let no : false ≡ true = sym f ∙ is in cc)
space_step names entries i x at (WholeRoot n) h is = absurd (let f = ap is_space_kind h.stands in let no : false ≡ true = sym f ∙ is in cc)
space_step names entries i x at PartRoot h is = absurd (let f = ap is_space_kind h.stands in let no : false ≡ true = sym f ∙ is in cc)
space_step names entries i x at (WholeSpace n texts) h is =
    let l = h.leads in
    record {
      outer = l.outer;
      text = l.text;
      names_are = l.texts_are;
      entry = h.entry;
      found = h.found;
      own = l.own;
      earlier = l.way.earlier;
      up = (l.way.at, whole_above n l.outer);
      up_is = l.way.name;
      up_names = whole_names n l.outer;
    }
space_step names entries i x at (PartSpace texts) h is =
    let l = h.leads in
    record {
      outer = l.outer;
      text = l.text;
      names_are = l.texts_are;
      entry = h.entry;
      found = h.found;
      own = l.own;
      earlier = l.way.earlier;
      up = (l.way.at, part_above l.outer);
      up_is = l.way.name;
      up_names = part_names l.outer;
    }

-- what is no space has no names
pub no_names : (names : List Called) (entries : List (ListedEntry ℕ)) (i : ℕ) (x : Step) (at : ℕ) (name : CrossName) → IsShown names entries i x (at, name) → is_space_kind x.stands ≡ false
    → names_in name ≡ []
no_names names entries i x at (AtPath top path) h is = refl
no_names names entries i x at (WholeRoot n) h is = refl
no_names names entries i x at PartRoot h is = refl
no_names names entries i x at (WholeSpace n texts) h is = absurd (let f = ap is_space_kind h.stands in let no : true ≡ false = sym f ∙ is in cc)
no_names names entries i x at (PartSpace texts) h is = absurd (let f = ap is_space_kind h.stands in let no : true ≡ false = sym f ∙ is in cc)

module _ (s : Side) (said : List (DwUnit ℕ)) (starts : CrossStarts) (side : IsSide s said starts) (i : ℕ) (x : Step) (got : slice_get s.index.now.steps i ≡ Some x) where
  abbrev pub names : List Called
  names = cross_names_from 0 starts.top said

  pub name_there : (name : Called) × (slice_get names i ≡ Some name)
  name_there = (let low = got_below s.index.now.steps i x got in let long = side.index_is.names.len in got_there names i (omega (arith, low, long)))

  pub shown : (name : Called) → slice_get names i ≡ Some name → IsShown names (listed_units said) i x name
  shown name is = side.index_is.names.each i x name got is

  pub the_space : is_space_kind x.stands ≡ true → SpaceStep names (listed_units said) i x name_there.0.1
  the_space is = space_step names (listed_units said) i x name_there.0.0 name_there.0.1 (shown name_there.0 name_there.1) is

  pub space_of : (name : Called) → slice_get names i ≡ Some name → is_space_kind x.stands ≡ true → SpaceStep names (listed_units said) i x name.1
  space_of name found is = space_step names (listed_units said) i x name.0 name.1 (shown name found) is

  -- the number of no space
  pub none_number : (known : NameLists) (name : Called) → slice_get names i ≡ Some name → is_space_kind x.stands ≡ false → IsListNumber known (names_in name.1) 0
  none_number known name found is = subst (λ (w : List (List ℕ)). IsListNumber known w 0) (sym (no_names names (listed_units said) i x name.0 name.1 (shown name found) is)) refl

  -- and that of a space
  pub space_number : (old new : NameLists) (numbers : List ℕ) (name : Called) (text : List ℕ) (outer number : ℕ) → HaveListNumbers old names numbers → slice_get names i ≡ Some name
      → is_space_kind x.stands ≡ true → slice_get numbers x.up ≡ Some outer
      → ((e : ListedEntry ℕ) (t : List ℕ) → slice_get (listed_units said) i ≡ Some e → space_text e.0 ≡ Some t → text ≡ t)
      → ((above : List (List ℕ)) → IsListNumber old above outer → IsListNumber new (above ++ text ∷ []) number) → IsListNumber new (names_in name.1) number
  space_number old new numbers name text outer number have found is up says more =
      let z = space_of name found is in
      let above : IsListNumber old z.outer outer = subst (λ (w : List (List ℕ)). IsListNumber old w outer) z.up_names (have x.up outer z.up up z.up_is) in
      let same : text ≡ z.text = says z.entry z.text z.found z.own in
      subst (λ (w : List (List ℕ)). IsListNumber new w number) (sym (z.names_are ∙ ap (λ (t : List ℕ). z.outer ++ t ∷ []) (sym same))) (more z.outer above)

-- ---- one more entry

pub numbers_more : (old new : NameLists) (names : List Called) (numbers all : List ℕ) (number : ℕ) → Keeps old new → all ≡ numbers ++ number ∷ [] → HaveListNumbers old names numbers
    → ((x : Called) → slice_get names (length numbers) ≡ Some x → IsListNumber new (names_in x.1) number) → HaveListNumbers new names all
numbers_more old new names numbers all number keeps put have last i n x got is =
    elim (pushed numbers number i n (ap (λ (w : List ℕ). slice_get w i) (sym put) ∙ got)) [
      | inl a ↦ kept_from old new keeps (reverse (names_in x.1)) n (have i n x a is)
      | inr a ↦ subst (λ (k : ℕ). IsListNumber new (names_in x.1) k) a.1 (last x (ap (slice_get names) (sym a.0) ∙ is))
    ]

-- ---- as far as entries have numbers

pub record Numbered (s : Side) (first : ℕ) (old known : NameLists) (numbers : List ℕ) : Type 0 where
  pub low : length numbers ≤ length s.index.now.steps
  pub apart : AreApart old first → AreApart known (first + length numbers)
  pub kept : Keeps old known
  pub have : (said : List (DwUnit ℕ)) (starts : CrossStarts) → IsSide s said starts → HaveListNumbers known (cross_names_from 0 starts.top said) numbers

abbrev no_numbers : List ℕ
no_numbers = []

pub begins : (s : Side) (first : ℕ) (old : NameLists) (numbers : List ℕ) → numbers ≡ [] → Numbered s first old old numbers
begins s first old numbers none =
    let long : length numbers ≡ 0 = ap (λ (w : List ℕ). length w) none in
    let same : first ≡ first + length numbers = omega arith in
    record {
      low = omega arith;
      apart = λ h. subst (λ (n : ℕ). AreApart old n) same h;
      kept = record { names = λ q n e. e; lists = λ k n e. e };
      have = λ said starts side i n x got is. absurd (let no : slice_get no_numbers i ≡ Some n = ap (λ (w : List ℕ). slice_get w i) (sym none) ∙ got in cc);
    }

pub goes_on : (s : Side) (first : ℕ) (old now new : NameLists) (numbers all : List ℕ) (number : ℕ) → Numbered s first old now numbers → length numbers < length s.index.now.steps
    → all ≡ numbers ++ number ∷ [] → (AreApart now (first + length numbers) → AreApart new (first + length numbers + 1)) → Keeps now new
    → ((said : List (DwUnit ℕ)) (starts : CrossStarts) (x : Called) → IsSide s said starts → HaveListNumbers now (cross_names_from 0 starts.top said) numbers
    → slice_get (cross_names_from 0 starts.top said) (length numbers) ≡ Some x → IsListNumber new (names_in x.1) number)
    → Numbered s first old new all
goes_on s first old now new numbers all number h less put apart keeps last =
    let long : length all ≡ length numbers + 1 = ap (λ (w : List ℕ). length w) put ∙ length-append numbers (number ∷ []) in
    let next : first + length numbers + 1 ≡ first + length all = omega arith in
    record {
      low = omega arith;
      apart = λ a. subst (λ (n : ℕ). AreApart new n) next (apart (h.apart a));
      kept = kept_numbers.steps old now new h.kept keeps;
      have = λ said starts side. (let had = h.have said starts side in
          numbers_more now new (cross_names_from 0 starts.top said) numbers all number keeps put had (λ x found. last said starts x side had found));
    }
