-- The targets of references in the trees of tops; those of a movable top stay in its unit, in movable tops.
use Rattle.std.proofs.Common.{◌≡◌, ℕ, suc, ◌⊎◌, ◌==◌, ◌||◌, not, Bool, true, false, List, [], ◌∷◌, Option, Some, None, refl, ap, subst, ◌∙◌, inl, inr, eqb-true, eq-eqb}
use Rattle.std.proofs.lemmas.Bool.{or_cases}
use Rattle.std.specs.List.{list_any}
use Rattle.dwz_def_reading.specs.Documents.{Attr, Entries, Node}
use Rattle.dwz_def_reading.specs.Lists.{Each, In}
use Rattle.dwz_def_reading.specs.Rows.{has}
use Rattle.dwz_def_reading.specs.Trees.{End, Entry}
use Rattle.dwz_def_reading.proofs.CaseFacts.{or_left, or_right}
use Rattle.dwz_def_tops.specs.Alike.{Bound, Movable, any_attr, any_entry, any_in, attr_binds, binding_forms, binds_itself, entry_binds, has_operand, holds_place, is_in, is_named, is_number, leaves, refers_to}
use Rattle.dwz_def_tops.specs.Alike.{unit_in}
use Rattle.dwz_def_tops.specs.Spots.{EntryName, FileUnit, Top, Within, tops_of}
use Rattle.dwz_def_reading.proofs.Members.{any_false, any_from, any_true, each_in, each_of}

-- ---- what holds of the top of each target

abbrev pub RefTo : (ℕ → Type 0) → EntryName → Type 0
RefTo P (Within t path) = P t
RefTo P _ = ⊥

abbrev pub RefsOfAttr : (ℕ → Type 0) → Attr EntryName → Type 0
RefsOfAttr P a = Each (RefTo P) a.value.refs

abbrev pub RefsOfNode : (ℕ → Type 0) → Node EntryName → Type 0
RefsOfNode P e = Each (RefsOfAttr P) e.attrs

abbrev pub RefsOf : (ℕ → Type 0) → Entries EntryName → Type 0
RefsOf P End = Unit {0}
RefsOf P (Entry e f g) = RefsOfNode P e × RefsOf P f × RefsOf P g

abbrev pub RefsOfTop : (ℕ → Type 0) → Top → Type 0
RefsOfTop P t = RefsOfNode P t.node × RefsOf P t.below

-- ---- nodes of trees

abbrev pub NodeIn : Node EntryName → Entries EntryName → Type 0
NodeIn e End = ⊥
NodeIn e (Entry d f g) = (d ≡ e) ⊎ (NodeIn e f ⊎ NodeIn e g)

abbrev pub NodeOf : Node EntryName → Top → Type 0
NodeOf e t = (t.node ≡ e) ⊎ NodeIn e t.below

pub refs_of : (P : ℕ → Type 0) (f : Entries EntryName) → ((e : Node EntryName) → NodeIn e f → RefsOfNode P e) → RefsOf P f
refs_of P End h = tt
refs_of P (Entry e f g) h = (h e (inl refl), refs_of P f (λ d is. h d (inr (inl is))), refs_of P g (λ d is. h d (inr (inr is))))

pub refs_of_top : (P : ℕ → Type 0) (t : Top) → ((e : Node EntryName) → NodeOf e t → RefsOfNode P e) → RefsOfTop P t
refs_of_top P t h = (h t.node (inl refl), refs_of P t.below (λ d is. h d (inr is)))

spot_more : (P Q : ℕ → Type 0) → ((n : ℕ) → P n → Q n) → (s : EntryName) → RefTo P s → RefTo Q s
spot_more P Q f (Within t path) h = f t h
spot_more P Q f _ h = absurd h

node_more : (P Q : ℕ → Type 0) → ((n : ℕ) → P n → Q n) → (e : Node EntryName) → RefsOfNode P e → RefsOfNode Q e
node_more P Q f e h = each_of (RefsOfAttr Q) e.attrs (λ a is. each_of (RefTo Q) a.value.refs
    (λ s there. spot_more P Q f s (each_in (RefTo P) s a.value.refs (each_in (RefsOfAttr P) a e.attrs h is) there)))

refs_more : (P Q : ℕ → Type 0) → ((n : ℕ) → P n → Q n) → (f : Entries EntryName) → RefsOf P f → RefsOf Q f
refs_more P Q f End h = tt
refs_more P Q f (Entry e g k) h = (node_more P Q f e h.0, refs_more P Q f g h.1, refs_more P Q f k h.2)

pub top_more : (P Q : ℕ → Type 0) → ((n : ℕ) → P n → Q n) → (t : Top) → RefsOfTop P t → RefsOfTop Q t
top_more P Q f t h = (node_more P Q f t.node h.0, refs_more P Q f t.below h.1)

-- ---- tests of some

pub or_first : (a b : Bool) → a ≡ true → (a || b) ≡ true
or_first true b e = refl
or_first false b e = absurd cc

pub or_second : (a b : Bool) → b ≡ true → (a || b) ≡ true
or_second true b e = refl
or_second false b e = e

pub entry_true : (test : Node EntryName → Bool) (e : Node EntryName) (f : Entries EntryName) → NodeIn e f → test e ≡ true → any_entry test f ≡ true
unfolding any_entry
entry_true test e End is h = absurd is
entry_true test e (Entry d f g) (inl s) h = or_first (test d) _ (ap test s ∙ h)
entry_true test e (Entry d f g) (inr (inl s)) h = or_second (test d) _ (or_first (any_entry test f) (any_entry test g) (entry_true test e f s h))
entry_true test e (Entry d f g) (inr (inr s)) h = or_second (test d) _ (or_second (any_entry test f) (any_entry test g) (entry_true test e g s h))

pub top_true : (test : Node EntryName → Bool) (e : Node EntryName) (t : Top) → NodeOf e t → test e ≡ true → any_in test t ≡ true
top_true test e t (inl s) h = or_first (test t.node) _ (ap test s ∙ h)
top_true test e t (inr s) h = or_second (test t.node) _ (entry_true test e t.below s h)

pub top_false : (test : Node EntryName → Bool) (e : Node EntryName) (t : Top) → NodeOf e t → any_in test t ≡ false → test e ≡ false
top_false test e t is h = go (test e) refl where
  go : (b : Bool) → test e ≡ b → b ≡ false
  go true q = let k = top_true test e t is q in absurd cc
  go false q = refl

-- ---- the top with a number

-- a top with this number stands in the unit
pub record StandsIn (tops : List Top) (unit n : ℕ) : Type 0 where
  pub top : Top
  pub there : In top tops
  pub number : top.number ≡ n
  pub unit_is : top.unit ≡ unit

unit_is_in : (tops : List Top) (n unit : ℕ) → unit_in tops n ≡ Some unit → StandsIn tops unit n
unfolding unit_in
unit_is_in [] n unit e = absurd cc
unit_is_in (t ∷ tops) n unit e = go (unit_is_in tops n unit) (t.number == n) refl e where
  go : (unit_in tops n ≡ Some unit → StandsIn tops unit n) → (b : Bool) → (t.number == n) ≡ b → (elim b as (λ _. Option ℕ) [ true ↦ Some t.unit | false ↦ unit_in tops n ]) ≡ Some unit
      → StandsIn (t ∷ tops) unit n
  go more true q h = record { top = t; there = inl refl; number = eqb-true t.number n q; unit_is = cc }
  go more false q h = let o = more h in record { top = o.top; there = inr o.there; number = o.number; unit_is = o.unit_is }

number_is_in : (tops : List Top) (n unit : ℕ) → is_number (unit_in tops n) unit ≡ true → StandsIn tops unit n
number_is_in tops n unit e = go (unit_in tops n) refl e where
  go : (o : Option ℕ) → unit_in tops n ≡ o → is_number o unit ≡ true → StandsIn tops unit n
  go None q h = absurd cc
  go (Some m) q h = unit_is_in tops n unit (q ∙ ap (λ (k : ℕ). Some k) (eqb-true m unit h))

not_false : (b : Bool) → not b ≡ false → b ≡ true
not_false true e = refl
not_false false e = absurd cc

-- a reference that doesn't leave the unit goes into a top that stands there
inside_spot : (tops : List Top) (unit : ℕ) (s : EntryName) → leaves tops unit s ≡ false → RefTo (StandsIn tops unit) s
inside_spot tops unit (Within t path) e = number_is_in tops t unit (not_false (is_number (unit_in tops t) unit) e)
inside_spot tops unit _ e = absurd cc

-- ---- targets of a movable top

pub binds_false : (units : List (FileUnit EntryName)) (t : Top) → In t (tops_of units) → Movable units t.number → binds_itself units t ≡ false
unfolding Bound
binds_false units t is m = go (binds_itself units t) refl where
  go : (b : Bool) → binds_itself units t ≡ b → b ≡ false
  go true q = absurd (m.free 0 (t, is, refl, q))
  go false q = refl

-- no attribute of a movable top binds it
pub free_attr : (units : List (FileUnit EntryName)) (t : Top) → In t (tops_of units) → Movable units t.number → (e : Node EntryName) → NodeOf e t → (a : Attr EntryName) → In a e.attrs
    → attr_binds (tops_of units) t.unit a ≡ false
free_attr units t is m e node a attr =
    let tops = tops_of units in
    let own = or_left (any_in (entry_binds tops t.unit) t) (is_named units t.number) (binds_false units t is m) in
    let entry = top_false (entry_binds tops t.unit) e t node own in
    any_false (attr_binds tops t.unit) a e.attrs attr (or_right (e.tag == 0x3d) (any_attr (attr_binds tops t.unit) e) entry)

-- and no operand names an entry of it
pub not_named : (units : List (FileUnit EntryName)) (t : Top) → In t (tops_of units) → Movable units t.number → is_named units t.number ≡ false
not_named units t is m = or_right (any_in (entry_binds (tops_of units) t.unit) t) (is_named units t.number) (binds_false units t is m)

stays_in : (units : List (FileUnit EntryName)) (t : Top) → In t (tops_of units) → Movable units t.number → (e : Node EntryName) → NodeOf e t → (a : Attr EntryName) → In a e.attrs → (s : EntryName)
    → In s a.value.refs
    → RefTo (StandsIn (tops_of units) t.unit) s
stays_in units t is m e node a attr s ref =
    let tops = tops_of units in
    let rest = or_right (has a.form binding_forms) (holds_place a.value || list_any (leaves tops t.unit) a.value.refs) (free_attr units t is m e node a attr) in
    let refs = or_right (holds_place a.value) (list_any (leaves tops t.unit) a.value.refs) rest in
    inside_spot tops t.unit s (any_false (leaves tops t.unit) s a.value.refs ref refs)

refers_in : (t : Top) (e : Node EntryName) → NodeOf e t → (a : Attr EntryName) → In a e.attrs → (n : ℕ) (path : List ℕ) → In (Within n path) a.value.refs → refers_to n t ≡ true
refers_in t e node a attr n path ref =
    let names = any_true (is_in n) (Within n path) a.value.refs ref (eq-eqb n n refl) in
    top_true (any_attr (λ b. list_any (is_in n) b.value.refs)) e t node (any_true (λ b. list_any (is_in n) b.value.refs) a e.attrs attr names)

-- what a movable top refers to is movable
pub moves_on : (units : List (FileUnit EntryName)) (t : Top) → In t (tops_of units) → Movable units t.number → (m : ℕ) → StandsIn (tops_of units) t.unit m → refers_to m t ≡ true → Movable units m
unfolding Bound
moves_on units t is free m stands refers =
    record { top = stands.top; is_top = stands.there; number = stands.number; free = λ k b. free.free (suc k) (inr (t, m, is, refl, refers, b)) }

-- a top of the same unit, and a movable one
pub record Inside (units : List (FileUnit EntryName)) (unit n : ℕ) : Type 0 where
  pub stands : StandsIn (tops_of units) unit n
  pub movable : Movable units n

inside_one : (units : List (FileUnit EntryName)) (t : Top) → In t (tops_of units) → Movable units t.number → (s : EntryName) → RefTo (StandsIn (tops_of units) t.unit) s
    → ((n : ℕ) (path : List ℕ) → s ≡ Within n path → refers_to n t ≡ true) → RefTo (Inside units t.unit) s
inside_one units t is m (Within n path) stands refers = record { stands = stands; movable = moves_on units t is m n stands (refers n path refl) }
inside_one units t is m _ stands refers = absurd stands

pub inside : (units : List (FileUnit EntryName)) (t : Top) → In t (tops_of units) → Movable units t.number → RefsOfTop (Inside units t.unit) t
inside units t is m = refs_of_top (Inside units t.unit) t (λ e node. each_of (RefsOfAttr (Inside units t.unit)) e.attrs (λ a attr. each_of (RefTo (Inside units t.unit)) a.value.refs (λ s ref.
    inside_one units t is m s (stays_in units t is m e node a attr s ref) (λ n path same. refers_in t e node a attr n path (subst (λ (w : EntryName). In w a.value.refs) same ref)))))

-- ---- no expression of a movable top has an address

abbrev pub NoAddress : Attr EntryName → Type 0
NoAddress a = a.value.address ≡ false

abbrev pub NoAddressIn : Entries EntryName → Type 0
NoAddressIn End = Unit {0}
NoAddressIn (Entry e f g) = Each NoAddress e.attrs × NoAddressIn f × NoAddressIn g

abbrev pub NoAddressOf : Top → Type 0
NoAddressOf t = Each NoAddress t.node.attrs × NoAddressIn t.below

none_in : (f : Entries EntryName) → ((e : Node EntryName) → NodeIn e f → Each NoAddress e.attrs) → NoAddressIn f
none_in End h = tt
none_in (Entry e f g) h = (h e (inl refl), none_in f (λ d is. h d (inr (inl is))), none_in g (λ d is. h d (inr (inr is))))

pub no_address : (units : List (FileUnit EntryName)) (t : Top) → In t (tops_of units) → Movable units t.number → NoAddressOf t
no_address units t is m = (one t.node (inl refl), none_in t.below (λ e node. one e (inr node))) where
  one : (e : Node EntryName) → NodeOf e t → Each NoAddress e.attrs
  one e node = each_of NoAddress e.attrs
      (λ a attr.
      let leaving = list_any (leaves (tops_of units) t.unit) a.value.refs in
      let rest = or_right (has a.form binding_forms) (holds_place a.value || leaving) (free_attr units t is m e node a attr) in
      or_right (has_operand a.value.plain) a.value.address (or_left (holds_place a.value) leaving rest))

-- ---- from all targets to one

pub record NodeWith (test : Node EntryName → Bool) (f : Entries EntryName) : Type 0 where
  pub node : Node EntryName
  pub there : NodeIn node f
  pub passes : test node ≡ true

pub entry_from : (test : Node EntryName → Bool) (f : Entries EntryName) → any_entry test f ≡ true → NodeWith test f
unfolding any_entry
entry_from test End e = absurd cc
entry_from test (Entry d f g) e = elim (or_cases (test d) (any_entry test f || any_entry test g) e) [
  | inl a ↦ record { node = d; there = inl refl; passes = a }
  | inr r ↦ (elim (or_cases (any_entry test f) (any_entry test g) r) [
    | inl b ↦ (let o = entry_from test f b in record { node = o.node; there = inr (inl o.there); passes = o.passes })
    | inr c ↦ (let o = entry_from test g c in record { node = o.node; there = inr (inr o.there); passes = o.passes })
  ])
]

refs_in : (P : ℕ → Type 0) (f : Entries EntryName) → RefsOf P f → (e : Node EntryName) → NodeIn e f → RefsOfNode P e
refs_in P End h e is = absurd is
refs_in P (Entry d f g) h e (inl x) = subst (RefsOfNode P) x h.0
refs_in P (Entry d f g) h e (inr (inl a)) = refs_in P f h.1 e a
refs_in P (Entry d f g) h e (inr (inr b)) = refs_in P g h.2 e b

node_refers : (P : ℕ → Type 0) (m : ℕ) (e : Node EntryName) → RefsOfNode P e → any_attr (λ a. list_any (is_in m) a.value.refs) e ≡ true → P m
node_refers P m e h refers =
    let a = any_from (λ b. list_any (is_in m) b.value.refs) e.attrs refers in
    let s = any_from (is_in m) a.one.value.refs a.passes in
    go s.one (each_in (RefTo P) s.one a.one.value.refs (each_in (RefsOfAttr P) a.one e.attrs h a.there) s.there) s.passes
  where
    go : (s : EntryName) → RefTo P s → is_in m s ≡ true → P m
    go (Within t path) holds is = subst P (eqb-true t m is) holds
    go _ holds is = absurd holds

-- what holds of all targets holds of one
pub refers_one : (P : ℕ → Type 0) (t : Top) → RefsOfTop P t → (m : ℕ) → refers_to m t ≡ true → P m
refers_one P t h m refers = elim (or_cases (test t.node) (any_entry test t.below) refers) [
  | inl a ↦ node_refers P m t.node h.0 a
  | inr b ↦ (let o = entry_from test t.below b in node_refers P m o.node (refs_in P t.below h.1 o.node o.there) o.passes)
]
  where
    test : Node EntryName → Bool
    test e = any_attr (λ a. list_any (is_in m) a.value.refs) e

-- from what holds of all targets, with the references to them, something else
attrs_by : (P Q : ℕ → Type 0) (attrs : List (Attr EntryName)) → ((a : Attr EntryName) → In a attrs → (n : ℕ) (path : List ℕ) → In (Within n path) a.value.refs → P n → Q n) → Each (RefsOfAttr P) attrs
    → Each (RefsOfAttr Q) attrs
attrs_by P Q attrs f h = each_of (RefsOfAttr Q) attrs (λ a is. each_of (RefTo Q) a.value.refs
    (λ s ref. spot_by P Q s (λ n path same. f a is n path (subst (λ (w : EntryName). In w a.value.refs) same ref)) (each_in (RefTo P) s a.value.refs (each_in (RefsOfAttr P) a attrs h is) ref)))
  where
    spot_by : (P Q : ℕ → Type 0) (s : EntryName) → ((n : ℕ) (path : List ℕ) → s ≡ Within n path → P n → Q n) → RefTo P s → RefTo Q s
    spot_by P Q (Within n path) f h = f n path refl h
    spot_by P Q _ f h = absurd h

entries_by : (P Q : ℕ → Type 0) (f : Entries EntryName) → ((e : Node EntryName) → NodeIn e f → (a : Attr EntryName) → In a e.attrs → (n : ℕ) (path : List ℕ) → In (Within n path) a.value.refs → P n
    → Q n)
    → RefsOf P f → RefsOf Q f
entries_by P Q End k h = tt
entries_by P Q (Entry e f g) k h = (attrs_by P Q e.attrs (k e (inl refl)) h.0, entries_by P Q f (λ d is. k d (inr (inl is))) h.1, entries_by P Q g (λ d is. k d (inr (inr is))) h.2)

pub targets_by : (P Q : ℕ → Type 0) (t : Top) → ((n : ℕ) → refers_to n t ≡ true → P n → Q n) → RefsOfTop P t → RefsOfTop Q t
targets_by P Q t f h = (
  attrs_by P Q t.node.attrs (λ a attr n path ref. f n (refers_in t t.node (inl refl) a attr n path ref)) h.0,
  entries_by P Q t.below (λ e node a attr n path ref. f n (refers_in t e (inr node) a attr n path ref)) h.1,
)
