-- A test that decides which tops are alike: it looks as deep as there are tops.
use Rattle.std.specs.Prelude.{◌≡◌, ℕ, ℤ, pos, negsuc, zero, suc, Bool, true, false, List, [], ◌∷◌, length, Option, Some, None, ◌==◌, not}
use Rattle.std.specs.Prelude.{slice_index_or}
use Rattle.std.specs.List.{list_any}
use Rattle.dwz_def_reading.specs.Base.{Base}
use Rattle.dwz_def_reading.specs.Base.TheVariants.{Unit as FromUnit, Info as FromInfo}
use Rattle.dwz_def_reading.specs.Documents.{Addr, Attr, Block, Entries, Expr, File, Flag, Index, Loc, Node, Num, Operand, Part, Plain, Ref, Same, Sec, Sig, Text, Value}
use Rattle.dwz_def_reading.specs.Lists.{In}
use Rattle.dwz_def_reading.specs.Trees.{End, Entry}
use Rattle.dwz_def_tops.specs.Alike.{Apart, TopScope, Together, binds_itself, refers_to}
use Rattle.dwz_def_tops.specs.Spots.{EntryName, FileUnit, Top, Within, name_list, same_numbers, tops_of}
use Rattle.dwz_def_reading.specs.Shared.{same_base}

abbrev pub Test : Type 0
Test = ℕ → ℕ → Bool

-- ---- equal values

unfoldable pub same_int : ℤ → ℤ → Bool
same_int (pos m) (pos n) = m == n
same_int (negsuc m) (negsuc n) = m == n
same_int _ _ = false

abbrev pub same_bool : Bool → Bool → Bool
same_bool true b = b
same_bool false b = not b

unfoldable pub same_part : Part → Part → Bool
same_part (Same bytes) (Same others) = same_numbers bytes others
same_part (Operand w u b) (Operand v t c) = elim (w == v) as (λ _. Bool) [
  | true ↦ elim (same_bool u t) as (λ _. Bool) [
    | true ↦ same_base b c
    | false ↦ false
  ]
  | false ↦ false
]
same_part _ _ = false

-- equally many, and the test holds of each two
unfoldable pub same_by : {X Y : Type 0} → (X → Y → Bool) → List X → List Y → Bool
same_by same [] [] = true
same_by same (x ∷ xs) (y ∷ ys) = elim (same x y) as (λ _. Bool) [ true ↦ same_by same xs ys | false ↦ false ]
same_by same _ _ = false

abbrev pub same_option : {X : Type 0} → (X → X → Bool) → Option X → Option X → Bool
same_option same None None = true
same_option same (Some x) (Some y) = same x y
same_option same _ _ = false

unfoldable pub same_plain : Plain → Plain → Bool
same_plain (Num w m) (Num v n) = elim (w == v) as (λ _. Bool) [ true ↦ same_int m n | false ↦ false ]
same_plain (Flag a) (Flag b) = same_bool a b
same_plain (Block a) (Block b) = same_numbers a b
same_plain (Text a) (Text b) = same_numbers a b
same_plain (File a) (File b) = same_option same_numbers a b
same_plain Ref Ref = true
same_plain (Sig m) (Sig n) = m == n
same_plain (Addr m) (Addr n) = m == n
same_plain (Index m) (Index n) = m == n
same_plain (Sec m) (Sec n) = m == n
same_plain (Expr a) (Expr b) = same_by same_part a b
same_plain (Loc a) (Loc b) = same_by (same_by same_part) a b
same_plain _ _ = false

-- ---- equal bare trees, where a test holds of the tops of the targets

abbrev pub same_target : Test → EntryName → EntryName → Bool
same_target test (Within s p) (Within t q) = elim (same_numbers p q) as (λ _. Bool) [ true ↦ test s t | false ↦ false ]
same_target test (Within s p) _ = false
same_target test _ (Within t q) = false
same_target test _ _ = true

abbrev pub same_value : Test → Value EntryName → Value EntryName → Bool
same_value test a b = elim (same_plain a.plain b.plain) as (λ _. Bool) [ true ↦ same_by (same_target test) a.refs b.refs | false ↦ false ]

abbrev pub same_attr : Test → Attr EntryName → Attr EntryName → Bool
same_attr test a b = elim (a.name == b.name) as (λ _. Bool) [ true ↦ same_value test a.value b.value | false ↦ false ]

abbrev pub same_node : Test → Node EntryName → Node EntryName → Bool
same_node test d e = elim (d.tag == e.tag) as (λ _. Bool) [ true ↦ same_by (same_attr test) d.attrs e.attrs | false ↦ false ]

unfoldable pub same_entries : Test → Entries EntryName → Entries EntryName → Bool
same_entries test End End = true
same_entries test (Entry d f g) (Entry e f' g') =
    elim (same_node test d e) as (λ _. Bool) [
      | true ↦ elim (same_entries test f f') as (λ _. Bool) [
        | true ↦ same_entries test g g'
        | false ↦ false
      ]
      | false ↦ false
    ]
same_entries test _ _ = false

abbrev pub same_top : Test → Top → Top → Bool
same_top test a b =
    elim (same_option same_int a.language b.language) as (λ _. Bool) [
      | true ↦ elim (same_by same_numbers (name_list a) (name_list b)) as (λ _. Bool) [
        | true ↦ elim (same_node test a.node b.node) as (λ _. Bool) [ true ↦ same_entries test a.below b.below | false ↦ false ]
        | false ↦ false
      ]
      | false ↦ false
    ]

unfoldable pub top_in : List Top → ℕ → Option Top
top_in [] n = None
top_in (t ∷ tops) n = elim (t.number == n) as (λ _. Option Top) [ true ↦ Some t | false ↦ top_in tops n ]

abbrev pub on_tops : (Top → Top → Bool) → Option Top → Option Top → Bool
on_tops test (Some a) (Some b) = test a b
on_tops test _ _ = false

-- a look of that depth finds the two tops with these numbers equal
unfoldable pub look_test : List Top → ℕ → Test
look_test tops zero m n = true
look_test tops (suc k) m n = on_tops (same_top (look_test tops k)) (top_in tops m) (top_in tops n)

-- ---- movable, and in one scope

-- bound by a chain of at most so many references
unfoldable pub bound_test : List (FileUnit EntryName) → ℕ → Top → Bool
bound_test units zero t = binds_itself units t
bound_test units (suc k) t =
    elim (bound_test units k t) as (λ _. Bool) [
      | true ↦ true
      | false ↦ list_any (λ u. elim (refers_to u.number t) as (λ _. Bool) [ true ↦ bound_test units k u | false ↦ false ])
          (tops_of units)
    ]

abbrev pub is_movable : List (FileUnit EntryName) → Top → Bool
is_movable units t = not (bound_test units (length (tops_of units)) t)

-- a flag for each top: whether it may move
pub record AreMovable (units : List (FileUnit EntryName)) (flags : List Bool) : Type 0 where
  pub len : length flags ≡ length (tops_of units)
  pub each : (t : Top) → In t (tops_of units) → slice_index_or flags t.number false ≡ is_movable units t

abbrev pub in_scope : TopScope → Top → Top → Bool
in_scope Together a b = true
in_scope Apart a b = a.file == b.file

abbrev pub alike_tops : TopScope → List (FileUnit EntryName) → Top → Top → Bool
alike_tops scope units a b =
    elim (in_scope scope a b) as (λ _. Bool) [
      | true ↦ elim (look_test (tops_of units) (length (tops_of units)) a.number b.number) as (λ _. Bool) [
        | true ↦ elim (is_movable units a) as (λ _. Bool) [ true ↦ is_movable units b | false ↦ false ]
        | false ↦ false
      ]
      | false ↦ false
    ]

-- whether the tops with these numbers are alike, and in one scope
unfoldable pub alike_test : TopScope → List (FileUnit EntryName) → Test
alike_test scope units m n = on_tops (alike_tops scope units) (top_in (tops_of units) m) (top_in (tops_of units) n)
