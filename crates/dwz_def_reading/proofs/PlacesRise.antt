-- The places of units that are spelled rise, so none stands twice, and all are below the end of the bytes.
use Rattle.std.proofs.Common.{◌≡◌, ℕ, suc, ◌+◌, ◌<◌, ◌≤◌, Bool, true, false, List, [], ◌∷◌, ◌++◌, length, ap, subst, sym, arith, inl, inr}
use Rattle.std.proofs.lemmas.List.{length-append}
use Rattle.dwz_model.specs.Lists.{Each, In, NoneTwice}
use Rattle.dwz_model.proofs.ListFacts.{in_cases}
use Rattle.dwz_bytes.proofs.PaddedLemmas.{some_groups}
use Rattle.dwz_def_reading.specs.Entries.{Mode, RawEntry, SpellsEntry, SpellsFront, UnitContext, root_position}
use Rattle.dwz_def_reading.specs.Meanings.{all_places, places_in, places_of}
use Rattle.dwz_def_reading.specs.OtherPlaces.{LiesBelow}
use Rattle.dwz_def_reading.specs.Trees.{End, Entry, Forest, IfChildren, Position, SpellsForest, behind, first_below}
use Rattle.dwz_def_reading.specs.Units.{CompileUnit, PartialUnit, RawKind, RawUnit, SpellsTree, SpellsUnit, SpellsUnits, TypeUnit, entry_count, header_size}

-- ---- numbers that rise

-- they rise from a place on, and end below another
abbrev pub RiseTo : ℕ → List ℕ → ℕ → Type 0
RiseTo from [] to = from ≤ to
RiseTo from (n ∷ ns) to = (from ≤ n) × RiseTo (suc n) ns to

rise_lower : (a b : ℕ) (ns : List ℕ) (c : ℕ) → a ≤ b → RiseTo b ns c → RiseTo a ns c
rise_lower a b [] c le h = omega (arith, le, h)
rise_lower a b (n ∷ ns) c le h = (omega (arith, le, h.0), h.1)

rise_more : (a : ℕ) (ns : List ℕ) (b c : ℕ) → b ≤ c → RiseTo a ns b → RiseTo a ns c
rise_more a [] b c le h = omega (arith, le, h)
rise_more a (n ∷ ns) b c le h = (h.0, rise_more (suc n) ns b c le h.1)

rise_append : (a : ℕ) (xs : List ℕ) (b : ℕ) (ys : List ℕ) (c : ℕ) → RiseTo a xs b → RiseTo b ys c → RiseTo a (xs ++ ys) c
rise_append a [] b ys c h k = rise_lower a b ys c h k
rise_append a (x ∷ xs) b ys c h k = (h.0, rise_append (suc x) xs b ys c h.1 k)

rise_ends : (a : ℕ) (ns : List ℕ) (c : ℕ) → RiseTo a ns c → a ≤ c
rise_ends a [] c h = h
rise_ends a (n ∷ ns) c h = omega (arith, h.0, rise_ends (suc n) ns c h.1)

rise_above : (a : ℕ) (ns : List ℕ) (c n : ℕ) → RiseTo a ns c → In n ns → a ≤ n
rise_above a [] c n h is = absurd is
rise_above a (m ∷ ns) c n h (inl e) = omega (arith, h.0, e)
rise_above a (m ∷ ns) c n h (inr r) = omega (arith, h.0, rise_above (suc m) ns c n h.1 r)

pub rise_none : (a : ℕ) (ns : List ℕ) (c : ℕ) → RiseTo a ns c → NoneTwice ns
rise_none a [] c h = tt
rise_none a (n ∷ ns) c h = ((λ is. let le = rise_above (suc n) ns c n h.1 is in omega (arith, le)), rise_none (suc n) ns c h.1)

-- ---- the places of what is spelled

entry_some : (c : UnitContext) (p : Position) (e : RawEntry) (start : ℕ) (bytes : List ℕ) → SpellsEntry c p e start bytes → 0 < length bytes
entry_some c p e start bytes is =
    let some = some_groups is.parts.first_bytes is.parts.first.spelled.groups in
    omega (arith, some, ap length is.parts.parts, length-append is.parts.first_bytes is.parts.second_bytes)

abbrev SpellsIn : UnitContext → Forest RawEntry → Position → ℕ → List ℕ → Type 0
SpellsIn c f p start bytes = SpellsForest (λ e. e.children) (SpellsFront c) f p start bytes

children_rise : (c : UnitContext) (f : Forest RawEntry) → ((p : Position) (start : ℕ) (bytes : List ℕ) → SpellsIn c f p start bytes → RiseTo start (places_in f) (start + length bytes))
    → (flag : Bool) (p : Position) (start : ℕ) (bytes : List ℕ)
    → IfChildren flag f (SpellsIn c f p start bytes) bytes → RiseTo start (places_in f) (start + length bytes)
unfolding places_in
children_rise c f more true p start bytes h = more p start bytes h
children_rise c f more false p start bytes h = subst (λ (w : Forest RawEntry). RiseTo start (places_in w) (start + length bytes)) (sym h.0) (omega arith)

forest_rises : (c : UnitContext) (f : Forest RawEntry) (p : Position) (start : ℕ) (bytes : List ℕ) → SpellsIn c f p start bytes → RiseTo start (places_in f) (start + length bytes)
unfolding places_in
forest_rises c End p start bytes is = omega arith
forest_rises c (Entry e f g) p start bytes is =
    let a = length is.first_bytes in
    let b = length is.second_bytes in
    let some = entry_some c p e start is.first_bytes is.first in
    let inner = children_rise c f (λ q s w h. forest_rises c f q s w h) e.children (first_below p) (start + a) is.second_bytes is.second in
    let rest = forest_rises c g (behind p f) (start + a + b) is.third_bytes is.third in
    let end : start + a + b + length is.third_bytes ≡ start + length bytes =
    omega (arith, ap length is.parts, length-append is.first_bytes (is.second_bytes ++ is.third_bytes), length-append is.second_bytes is.third_bytes) in
    let all = rise_append (start + a) (places_in f) (start + a + b) (places_in g) (start + a + b + length is.third_bytes) inner rest in (
      omega (arith, is.first.place),
      rise_lower (suc e.at) (start + a) (places_in f ++ places_in g) (start + length bytes) (omega (arith, some, is.first.place)) (subst (RiseTo (start + a) (places_in f ++ places_in g)) end all),
    )

-- the places of a unit, its root and its entries
abbrev pub raw_keys : RawUnit → List ℕ
raw_keys u = u.at ∷ u.root.at ∷ places_in u.below

tree_rises : (c : UnitContext) (before : ℕ) (root : RawEntry) (below : Forest RawEntry) (start : ℕ) (bytes : List ℕ) → SpellsTree c before root below start bytes
    → RiseTo start (root.at ∷ places_in below) (start + length bytes)
tree_rises c before root below start bytes is =
    let a = length is.first_bytes in
    let some = entry_some c (root_position before) root start is.first_bytes is.first in
    let inner = children_rise c below (λ q s w h. forest_rises c below q s w h) root.children (first_below (root_position before)) (start + a) is.second_bytes is.second in
    let end : start + a + length is.second_bytes ≡ start + length bytes = omega (arith, ap length is.parts, length-append is.first_bytes is.second_bytes) in (
      omega (arith, is.first.place),
      rise_lower (suc root.at) (start + a) (places_in below) (start + length bytes) (omega (arith, some, is.first.place)) (subst (RiseTo (start + a) (places_in below)) end inner),
    )

header_some : (kind : RawKind) → 0 < header_size kind
header_some CompileUnit = omega arith
header_some (TypeUnit signature type_offset) = omega arith
header_some PartialUnit = omega arith

unit_rises : (abbrevs : List ℕ) (mode : Mode) (before : ℕ) (u : RawUnit) (start : ℕ) (bytes : List ℕ) → SpellsUnit abbrevs mode before u start bytes → RiseTo start (raw_keys u) (start + length bytes)
unit_rises abbrevs mode before u start bytes is =
    let head = length is.header in
    let some : 0 < head = omega (arith, header_some u.kind, is.is_header.size) in
    let tree = tree_rises is.context before u.root u.below (start + head) is.tree is.is_tree in
    let end : start + head + length is.tree ≤ start + length bytes = omega (arith, ap length is.parts, length-append is.header (is.tree ++ is.padding), length-append is.tree is.padding) in (
      omega (arith, is.place),
      rise_lower (suc u.at) (start + head) (u.root.at ∷ places_in u.below) (start + length bytes) (omega (arith, some, is.place))
          (rise_more (start + head) (u.root.at ∷ places_in u.below) (start + head + length is.tree) (start + length bytes) end tree),
    )

-- the places of units, their roots and their entries
unfoldable pub all_raw_keys : List RawUnit → List ℕ
all_raw_keys [] = []
all_raw_keys (u ∷ units) = raw_keys u ++ all_raw_keys units

pub units_rise : (abbrevs : List ℕ) (mode : Mode) (before : ℕ) (units : List RawUnit) (start : ℕ) (bytes : List ℕ) → SpellsUnits abbrevs mode before units start bytes
    → RiseTo start (all_raw_keys units) (start + length bytes)
unfolding all_raw_keys
units_rise abbrevs mode before [] start bytes is = omega arith
units_rise abbrevs mode before (u ∷ units) start bytes is =
    let a = unit_rises abbrevs mode before u start is.first_bytes is.first in
    let b = units_rise abbrevs mode (before + entry_count u) units (start + length is.first_bytes) is.second_bytes is.second in
    let end : start + length is.first_bytes + length is.second_bytes ≡ start + length bytes = omega (arith, ap length is.parts, length-append is.first_bytes is.second_bytes) in
    subst (RiseTo start (raw_keys u ++ all_raw_keys units)) end (rise_append start (raw_keys u) (start + length is.first_bytes) (all_raw_keys units)
    (start + length is.first_bytes + length is.second_bytes) a b)

-- ---- below the end

rise_below : (a : ℕ) (ns : List ℕ) (c n : ℕ) → RiseTo a ns c → In n ns → n < c
rise_below a [] c n h is = absurd is
rise_below a (m ∷ ns) c n h (inl e) = omega (arith, e, rise_ends (suc m) ns c h.1)
rise_below a (m ∷ ns) c n h (inr r) = rise_below (suc m) ns c n h.1 r

-- units that are spelled lie below what the bytes end below
pub units_below : (abbrevs : List ℕ) (mode : Mode) (before : ℕ) (units : List RawUnit) (start : ℕ) (bytes : List ℕ) (bound : ℕ) → SpellsUnits abbrevs mode before units start bytes
    → start + length bytes ≤ bound → Each (LiesBelow bound) units
units_below abbrevs mode before [] start bytes bound is le = tt
units_below abbrevs mode before (u ∷ units) start bytes bound is le =
    let end : start + length is.first_bytes + length is.second_bytes ≡ start + length bytes = omega (arith, ap length is.parts, length-append is.first_bytes is.second_bytes) in
    let one : start + length is.first_bytes ≤ bound = omega (arith, end, le) in (
      λ n there. let lt = rise_below start (raw_keys u) (start + length is.first_bytes) n (unit_rises abbrevs mode before u start is.first_bytes is.first) there in omega (arith, lt, one),
      units_below abbrevs mode (before + entry_count u) units (start + length is.first_bytes) is.second_bytes bound is.second (omega (arith, end, le)),
    )

-- so do all their entries
pub entries_below : (bound : ℕ) (units : List RawUnit) → Each (LiesBelow bound) units → (n : ℕ) → In n (all_places units) → n < bound
unfolding all_places
entries_below bound [] h n there = absurd there
entries_below bound (u ∷ units) h n there = elim (in_cases n (places_of u) (all_places units) there) [
  | inl own ↦ h.0 n (inr own)
  | inr others ↦ entries_below bound units h.1 n others
]
