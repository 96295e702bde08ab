-- The lines of a chain, one reference after the other.
use Rattle.std.proofs.Common.{◌≡◌, ℕ, ◌+◌, ◌<◌, ◌≤◌, List, [], ◌∷◌, ◌++◌, drop, length, get_or, Some, slice_get, refl, sym, ap, subst, ◌∙◌, append_assoc, arith}
use Rattle.std.specs.Prelude.{codes, decimal, slice_index_or}
use Rattle.std.proofs.lemmas.Option.{get_or_from_slice_get}
use Rattle.dwz_def_reading.specs.Documents.{Doc}
use Rattle.dwz_def_reading.specs.Lists.{In}
use Rattle.dwz_def_reading.proofs.ListFacts.{drop_here, got_below, got_in, in_at}
use Rattle.dwz_model.proofs.Members.{each_in}
use Rattle.dwz_def_tops.specs.Alike.{Movable}
use Rattle.dwz_def_tops.specs.Spots.{EntryName, FileUnit, Top, tops_of, units_of}
use Rattle.dwz_def_tops.specs.Targets.{targets_of}
use Rattle.dwz_def_tops.proofs.AlikeBound.{movable_closed}
use Rattle.dwz_def_tops.proofs.Targets.{binds_false}
use Rattle.dwz_def_tops.proofs.TopNumbers.{finds, tops_numbers}
use Rattle.dwz_label.proofs.Bare.{targets_among}
use Rattle.dwz_def_explain.specs.Chain.{BothLead, GoesInto}
use Rattle.dwz_def_explain.specs.Texts.{entry_along, path_of_what, places_text, reference_lines, target_at, target_or, top_or, what_line}
use Rattle.dwz_def_explain.specs.declared.verdict.What.{What}
use Rattle.dwz_def_explain.specs.What.{IsWhat, whole_top}
use Rattle.dwz_groups.specs.declared.tops.Tops.{Tops}
use Rattle.dwz_move_files.specs.Outlines.{IsOutline}
use Rattle.dwz_text.specs.Lines.{Text, line}
use Rattle.dwz_explain.specs.Leading.{AnyTwo, LeadsOn}

-- a chain that leads to what differs leads to some two tops
pub leads_any : (R : Top → Top → Type 0) (tops : List Top) (chain : List ℕ) (x y : Top) → BothLead R tops chain x y → BothLead AnyTwo tops chain x y
leads_any R tops [] x y h = tt
leads_any R tops (i ∷ chain) x y h = record {
  first = h.first;
  second = h.second;
  first_there = h.first_there;
  second_there = h.second_there;
  first_goes = h.first_goes;
  second_goes = h.second_goes;
  holds = leads_any R tops chain h.first h.second h.holds;
}

module _ (units : List (FileUnit EntryName)) where
  abbrev tops : List Top
  tops = tops_of units

  -- what a reference of a top that may move goes into may move
  goes_on : (i : ℕ) (x y : Top) → In x tops → Movable units x.number → GoesInto i x y → Movable units y.number
  goes_on i x y there moves e =
      let closed = movable_closed units (Movable units) (λ n p. p) (λ n p. p) in
      let all = targets_among (Movable units) x (closed.inside x there moves) in
      each_in (Movable units) y.number (targets_of x) all (got_in (targets_of x) i y.number e)

  -- and is what the reference leads to
  target_is : (i : ℕ) (x y : Top) → In y tops → GoesInto i x y → target_at tops i x ≡ y
  target_is i x y there e = ap (target_or tops x) e ∙ ap (top_or x) (finds 0 tops y (tops_numbers units) there)

  -- the chain leads on from the two tops that its first reference goes into
  pub next_tops : (i : ℕ) (chain : List ℕ) (a b m n : ℕ) (x y : Top) (h : LeadsOn units (i ∷ chain) a b x y) → m ≡ h.leads.first.number → n ≡ h.leads.second.number
      → LeadsOn units chain m n h.leads.first h.leads.second
  next_tops i chain a b m n x y h p q = record {
    first_there = h.leads.first_there;
    second_there = h.leads.second_there;
    first_moves = goes_on i x h.leads.first h.first_there h.first_moves h.leads.first_goes;
    second_moves = goes_on i y h.leads.second h.second_there h.second_moves h.leads.second_goes;
    first_is = sym p;
    second_is = sym q;
    leads = h.leads.holds;
  }

  abbrev reference_text : List (Doc ℕ) → ℕ → Top → Top → Text
  reference_text docs i c d = line (codes "reference " ∷ decimal i ∷ codes ": " ∷ places_text docs c.node d.node ∷ [])

  pub first_line : (docs : List (Doc ℕ)) (i : ℕ) (chain : List ℕ) (what : What) (a b : ℕ) (x y : Top) (h : LeadsOn units (i ∷ chain) a b x y)
      → reference_lines docs tops (i ∷ chain) what x y ≡ reference_text docs i h.leads.first h.leads.second ++ reference_lines docs tops chain what h.leads.first h.leads.second
  unfolding reference_lines
  first_line docs i chain what a b x y h =
      let c = target_is i x h.leads.first h.leads.first_there h.leads.first_goes in
      let d = target_is i y h.leads.second h.leads.second_there h.leads.second_goes in
      λ j. reference_text docs i (c j) (d j) ++ reference_lines docs tops chain what (c j) (d j)

-- ---- so many references

-- what is printed, and what is still to be printed of the two tops that were reached
pub record Reaches (docs : List (Doc ℕ)) (chain : List ℕ) (what : What) (whole : Text) (passed m n : ℕ) (text : Text) : Type 0 where
  pub first : Top
  pub second : Top
  pub on : LeadsOn (units_of docs) (drop passed chain) m n first second
  pub text_is : text ++ reference_lines docs (tops_of (units_of docs)) (drop passed chain) what first second ≡ whole

-- it is so for any two tops with the numbers that the chain begins with
abbrev pub Printed : List (Doc ℕ) → List ℕ → What → ℕ → ℕ → Text → ℕ → ℕ → ℕ → Text → Type 0
Printed docs chain what a b depth passed m n text =
    (x y : Top) → LeadsOn (units_of docs) chain a b x y → Reaches docs chain what (depth ++ reference_lines docs (tops_of (units_of docs)) chain what x y) passed m n text

pub printed_none : (docs : List (Doc ℕ)) (chain : List ℕ) (what : What) (a b : ℕ) (depth : Text) → Printed docs chain what a b depth 0 a b depth
printed_none docs chain what a b depth x y h = record { first = x; second = y; on = h; text_is = refl }

-- the numbers of what a reference goes into
abbrev pub GivesTarget : List (Doc ℕ) → ℕ → ℕ → ℕ → Type 0
GivesTarget docs m i result = (t u : Top) → In t (tops_of (units_of docs)) → Movable (units_of docs) t.number → t.number ≡ m → GoesInto i t u → result ≡ u.number

pub printed_more : (docs : List (Doc ℕ)) (chain : List ℕ) (what : What) (a b : ℕ) (depth : Text) (passed m n m' n' i : ℕ) (text more new : Text) → Printed docs chain what a b depth passed m n text
    → slice_get chain passed ≡ Some i → GivesTarget docs m i m' → GivesTarget docs n i n'
    → ((t u : Top) → In t (tops_of (units_of docs)) → In u (tops_of (units_of docs)) → t.number ≡ m' → u.number ≡ n'
    → more ≡ line (codes "reference " ∷ decimal i ∷ codes ": " ∷ places_text docs t.node u.node ∷ []))
    → new ≡ text ++ more → Printed docs chain what a b depth (passed + 1) m' n' new
printed_more docs chain what a b depth passed m n m' n' i text more new p got first second says added x y h =
    let units = units_of docs in
    let tops = tops_of units in
    let r = p x y h in
    let here = drop_here chain passed i got in
    let on = subst (λ (w : List ℕ). LeadsOn units w m n r.first r.second) here r.on in
    let c = on.leads.first in
    let d = on.leads.second in
    let p1 : m' ≡ c.number = first r.first c on.first_there on.first_moves on.first_is on.leads.first_goes in
    let q1 : n' ≡ d.number = second r.second d on.second_there on.second_moves on.second_is on.leads.second_goes in
    let said = says c d on.leads.first_there on.leads.second_there (sym p1) (sym q1) in
    let rest = reference_lines docs tops (drop (passed + 1) chain) what c d in
    record {
      first = c;
      second = d;
      on = next_tops units i (drop (passed + 1) chain) m n m' n' r.first r.second on p1 q1;
      text_is =
          ap (λ (w : Text). w ++ rest) (added ∙ ap (λ (w : Text). text ++ w) said)
          ∙ append_assoc text (line (codes "reference " ∷ decimal i ∷ codes ": " ∷ places_text docs c.node d.node ∷ [])) rest
          ∙ ap (λ (w : Text). text ++ w) (sym (first_line units docs i (drop (passed + 1) chain) what m n r.first r.second on))
          ∙ ap (λ (w : List ℕ). text ++ reference_lines docs tops w what r.first r.second) (sym here)
          ∙ r.text_is;
    }

pub printed_all : (docs : List (Doc ℕ)) (chain : List ℕ) (what : What) (a b : ℕ) (depth : Text) (passed m n : ℕ) (text more new : Text) → Printed docs chain what a b depth passed m n text
    → drop passed chain ≡ []
    → ((t u : Top) → In t (tops_of (units_of docs)) → In u (tops_of (units_of docs)) → t.number ≡ m → u.number ≡ n → more ≡ reference_lines docs (tops_of (units_of docs)) [] what t u)
    → new ≡ text ++ more → (x y : Top) → LeadsOn (units_of docs) chain a b x y → new ≡ depth ++ reference_lines docs (tops_of (units_of docs)) chain what x y
printed_all docs chain what a b depth passed m n text more new p none says added x y h =
    let r = p x y h in
    let tops = tops_of (units_of docs) in
    added ∙ ap (λ (w : Text). text ++ w) (says r.first r.second r.on.first_there r.on.second_there r.on.first_is r.on.second_is)
    ∙ ap (λ (w : List ℕ). text ++ reference_lines docs tops w what r.first r.second) (sym none) ∙ r.text_is

-- ---- what differs at its end

pub last_text : (docs : List (Doc ℕ)) (what : What) (path : List ℕ) (t u : Top) → path ≡ path_of_what what
    → what_line docs what (entry_along path (whole_top t)) (entry_along path (whole_top u)) ≡ reference_lines docs (tops_of (units_of docs)) [] what t u
unfolding reference_lines
last_text docs what path t u same = λ i. what_line docs what (entry_along (same i) (whole_top t)) (entry_along (same i) (whole_top u))

-- ---- targets by an outline

module _ (docs : List (Doc ℕ)) (tops : Tops) (o : IsOutline docs tops) (top number : ℕ) (list : List ℕ) (is : list ≡ slice_index_or tops.targets top []) where
  abbrev every : List Top
  every = tops_of (units_of docs)

  pub target_low : number < length list → get_or list number 0 < length every
  target_low lt =
      let low = o.inside top (get_or list number 0) (subst (λ (w : List ℕ). In (get_or list number 0) w) is (in_at list number lt)) in
      subst (λ (n : ℕ). get_or list number 0 < n) o.shows.len low

  own_targets : (t : Top) → In t every → Movable (units_of docs) t.number → t.number ≡ top → list ≡ targets_of t
  own_targets t there moves e = is ∙ ap (λ (n : ℕ). slice_index_or tops.targets n []) (sym e) ∙ o.targets t there (binds_false (units_of docs) t there moves)

  pub target_goes : (t u : Top) → In t every → Movable (units_of docs) t.number → t.number ≡ top → GoesInto number t u → get_or list number 0 ≡ u.number
  target_goes t u there moves e goes =
      get_or_from_slice_get list number u.number 0 (ap (λ (w : List ℕ). slice_get w number) (own_targets t there moves e) ∙ goes)

  pub target_none : length list ≤ number → (t u : Top) → In t every → Movable (units_of docs) t.number → t.number ≡ top → GoesInto number t u → top ≡ u.number
  target_none ge t u there moves e goes =
      let low = got_below list number u.number (ap (λ (w : List ℕ). slice_get w number) (own_targets t there moves e) ∙ goes) in
      absurd (omega arith)

-- ---- by what is said of two tops

pub explained_leads : (units : List (FileUnit EntryName)) (chain : List ℕ) (what : What) (a b : ℕ) (x y : Top) → In x (tops_of units) → In y (tops_of units) → x.number ≡ a → y.number ≡ b
    → Movable units a → Movable units b → BothLead (λ c d. IsWhat c d what) (tops_of units) chain x y → LeadsOn units chain a b x y
explained_leads units chain what a b x y i j p q m n h = record {
  first_there = i;
  second_there = j;
  first_moves = subst (Movable units) (sym p) m;
  second_moves = subst (Movable units) (sym q) n;
  first_is = p;
  second_is = q;
  leads = leads_any (λ c d. IsWhat c d what) (tops_of units) chain x y h;
}
