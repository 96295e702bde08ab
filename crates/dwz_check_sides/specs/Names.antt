-- Numbers for name lists: the names of the spaces that an entry stands in, outermost first.
use Rattle.std.specs.Prelude.{◌≡◌, ◌⊎◌, ℕ, ◌+◌, ◌*◌, ◌^◌, ◌<◌, Bool, true, false, List, [], ◌∷◌, Option, Some, None, if◌then◌else◌}
use Rattle.std.specs.Prelude.{reverse, slice_get}
use Rattle.std.specs.BTreeMap.{BTreeMap, get, get_by}
use Rattle.std.specs.Cmp.Lexicographic.{slice_cmp}
use Rattle.std.specs.Ordering.{nat_cmp}
use Rattle.std.specs.Str.{bytes_eq}
use denote.Ref.{Bor}
use Rattle.dwz_check_sides.specs.declared.lists.NameLists.{NameLists}
use Rattle.dwz_check_index.specs.Index.{Called, names_in}
use Rattle.dwz_check_index.specs.declared.index.Stands.{Stands}
use Rattle.dwz_check_index.specs.declared.index.Stands.TheVariants.{PartialSpace, UnitSpace}

-- ---- what is kept

-- what is under a text
abbrev pub look : BTreeMap (Bor (List ℕ)) ℕ → List ℕ → Option ℕ
look m text = get_by (λ k. slice_cmp nat_cmp text k.now) m

-- the number of a name, if it has one
abbrev pub name_number : NameLists → List ℕ → Option ℕ
name_number known name = look known.names name

-- the number of a list: that without its last name and this name have these numbers
abbrev pub list_number : NameLists → ℕ → ℕ → Option ℕ
list_number known outer name = get nat_cmp known.lists (outer * 2 ^ 32 + name)

-- ---- numbers of lists

-- of a list from its last name on: 0 of none, and else the one under the number of the list without that name and the number of the name
abbrev pub IsNumberFrom : NameLists → List (List ℕ) → ℕ → Type 0
IsNumberFrom known [] n = n ≡ 0
IsNumberFrom known (name ∷ outer) n =
    (m : ℕ) × (k : ℕ) × IsNumberFrom known outer m × (name_number known name ≡ Some k) × (list_number known m k ≡ Some n)

abbrev pub IsListNumber : NameLists → List (List ℕ) → ℕ → Type 0
IsListNumber known names n = IsNumberFrom known (reverse names) n

-- All numbers are below that one, and none stands for two names or two lists; 0 stands for no list that is kept.
pub record AreApart (known : NameLists) (bound : ℕ) : Type 0 where
  pub names_low : (name : List ℕ) (n : ℕ) → name_number known name ≡ Some n → n < bound
  pub names_one : (name other : List ℕ) (n : ℕ) → name_number known name ≡ Some n → name_number known other ≡ Some n → name ≡ other
  pub lists_low : (key n : ℕ) → get nat_cmp known.lists key ≡ Some n → (0 < n) × (n < bound)
  pub lists_one : (key other n : ℕ) → get nat_cmp known.lists key ≡ Some n → get nat_cmp known.lists other ≡ Some n → key ≡ other

-- what had a number has it still
pub record Keeps (old new : NameLists) : Type 0 where
  pub names : (name : List ℕ) (n : ℕ) → name_number old name ≡ Some n → name_number new name ≡ Some n
  pub lists : (key n : ℕ) → get nat_cmp old.lists key ≡ Some n → get nat_cmp new.lists key ≡ Some n

-- ---- maps, by what is found in them

-- the text had the number, and nothing changed; or it is new, and has this number now
abbrev pub IsFound : (List ℕ → Option ℕ) → (List ℕ → Option ℕ) → List ℕ → ℕ → ℕ → Type 0
IsFound old after text new number =
    ((old text ≡ Some number) × ((q : List ℕ) → after q ≡ old q))
    ⊎ ((old text ≡ None) × (number ≡ new) × ((q : List ℕ) → after q ≡ (if bytes_eq text q then Some new else old q)))

-- the number is the one under the key, and else the new one, which is then under it
abbrev pub IsNumberBy : Option ℕ → ℕ → ℕ → Type 0
IsNumberBy None new number = number ≡ new
IsNumberBy (Some n) new number = number ≡ n

pub record IsNumberUnder (old new : BTreeMap ℕ ℕ) (key fresh number : ℕ) : Type 0 where
  pub is : IsNumberBy (get nat_cmp old key) fresh number
  pub under : get nat_cmp new key ≡ Some number
  pub others : (k : ℕ) → (k ≡ key → ⊥) → get nat_cmp new k ≡ get nat_cmp old k

-- ---- entries

-- a space of a compile or partial unit
abbrev pub is_space_kind : Stands → Bool
is_space_kind (UnitSpace n) = true
is_space_kind PartialSpace = true
is_space_kind _ = false

-- each entry has the number of its name list, which is that of the names down to its own where it is a space, and else of no names
abbrev pub HaveListNumbers : NameLists → List Called → List ℕ → Type 0
HaveListNumbers known names numbers = (i n : ℕ) (x : Called) → slice_get numbers i ≡ Some n → slice_get names i ≡ Some x
    → IsListNumber known (names_in x.1) n
