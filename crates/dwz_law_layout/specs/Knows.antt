-- What the lists of `EntryTable` have to show of the files that were read, and of a unit that is written, once entries have names.
use Rattle.std.specs.Prelude.{◌≡◌, ◌⊎◌, ℕ, pos, ◌+◌, ◌-◌, Bool, true, false, List, [], ◌∷◌, ◌++◌, Ok, Option, Some, None, ◌==◌, drop, map}
use Rattle.std.specs.Prelude.{slice_get}
use Rattle.std.specs.List.{filter}
use Rattle.dwz_def_reading.specs.Entries.{RawEntry}
use Rattle.dwz_def_reading.specs.Trees.{End, Entry, Forest, Position}
use Rattle.dwz_def_reading.specs.Units.{RawUnit}
use Rattle.dwz_layout_items.specs.declared.order.ItemKind.{ItemKind}
use Rattle.dwz_layout_items.specs.declared.order.ItemKind.TheVariants.{Import, InChain, Root, Space, Top, Whole}
use Rattle.dwz_layout_items.specs.Lines.{Line, line}
use Rattle.dwz_layout_items.specs.Order.{Names}
use Rattle.dwz_def_reading.specs.Documents.{Attr, Entries, Node, Plain, Text, entries_map, node_map, only, ref}
use Rattle.dwz_def_reading.specs.Meanings.{Around, scope_of, without_siblings}
use Rattle.dwz_def_reading.specs.Classes.{OfConstant, OfTextBySlot, OfTextInLineStr, OfTextInStr, Class, class_of, names_file}
use Rattle.dwz_def_reading.specs.Meant.{entries_meaning, node_meaning}
use Rattle.dwz_def_tops.specs.Deciding.{same_bool}
use Rattle.dwz_def_tops.specs.Spots.{EntryName, SpaceName, name_of}
use Rattle.dwz_graph.specs.Rows.{node_refs}
use Rattle.dwz_def_images.specs.Moves.{line_attr}
use Rattle.dwz_def_reading.specs.Lists.{Each}
use Rattle.dwz_def_tops.specs.Spaces.{space_text}
use Rattle.dwz_unit.specs.Rows.{EntryRow, rows_below, rows_of}
use Rattle.dwz_def_encoding.specs.Carried.{IsStored}
use Rattle.dwz_def_encoding.specs.Placing.{Chosen, CommonUnit, UnitForms, file_number, fit_attr, has_key}
use Rattle.dwz_def_encoding.specs.Pruned.{renumbered_attr}
use Rattle.dwz_layout.specs.declared.known.ValueCounts.{ValueCounts}
use Rattle.dwz_layout.specs.declared.known.EntryTable.{EntryTable}
use Rattle.dwz_layout.specs.declared.known.Row.{Row}
use Rattle.dwz_layout.specs.declared.known.SpaceRow.{SpaceRow}
use Rattle.dwz_layout.specs.declared.known.TextAt.{TextAt}
use Rattle.dwz_layout.specs.declared.order.Sort.{Sort}
use Rattle.dwz_layout.specs.declared.order.Sort.TheVariants.{Compile, OfType, Partial}
use Rattle.dwz_layout.specs.declared.order.UnitItems.{UnitItems}
use Rattle.dwz_layout.specs.declared.walk.Origin.{Origin}
use Rattle.dwz_layout.specs.declared.walk.Origin.TheVariants.{Read as OfRow}
use Rattle.dwz_layout.specs.declared.walk.Slot.{Slot}
use Rattle.dwz_layout.specs.declared.ways.Rewrite.TheVariants.{AsText}
use Rattle.dwz_layout.specs.Attributes.{is_common, plain_pair, text_form, text_offset}
use Rattle.dwz_layout.specs.Entries.{items_slots, row}
use Rattle.dwz_layout.specs.Known.{file_at, firsts_of, number_of, owner_of, reference_at, rows_in, space_at, text_at, text_held, top_row, unit_of_part}
use Rattle.dwz_layout.specs.Ways.{rewrite_of}
use Rattle.dwz_encode.specs.Shown.{HasRow, Keys}

-- P holds of each with its number, where the first has that number
abbrev pub EachFrom : {X : Type 0} → (ℕ → X → Type 0) → ℕ → List X → Type 0
EachFrom P n [] = Unit {0}
EachFrom P n (x ∷ xs) = P n x × EachFrom P (n + 1) xs

-- ---- files that were read

-- a file: its number, its units as they were read, what surrounds them, and for each place the name of the entry that stands after for the
-- one that stood there
pub record FileRead : Type 0 where
  pub number : ℕ
  pub raw : List RawUnit
  pub around : Around ℕ
  pub after : ℕ → EntryName

-- the entries are those of the file, which refers to no supplementary file; and each value is stored as the file has it
pub record KnowsFile (k : EntryTable) (f : FileRead) : Type 0 where
  pub rows : rows_in k f.number ≡ rows_of f.raw
  pub alone : f.around.common ≡ None
  pub stored : (i : ℕ) (r : EntryRow) → slice_get (rows_of f.raw) i ≡ Some r → Each IsStored (without_siblings r.entry.attrs)

-- the entry of the file with that number, and what it means in its unit
pub record IsRead (f : FileRead) (i : ℕ) (r : EntryRow) (d : Node ℕ) : Type 0 where
  pub unit : RawUnit
  pub found : slice_get (rows_of f.raw) i ≡ Some r
  pub is_unit : slice_get f.raw r.unit ≡ Some unit
  pub means : node_meaning (scope_of f.around unit) r.entry ≡ Ok d

-- where what the entry names begins
abbrev pub firsts_at : EntryTable → FileRead → ℕ → ValueCounts
firsts_at k f i = firsts_of k (row f.number i)

-- ---- what is written of values

-- the new numbers of the texts of a file, where just those stay that are used; None, where all stay
abbrev pub NewNumbers : Type 0
NewNumbers = Option (ℕ → ℕ)

-- with the new number of its text
abbrev pub renumbered_if : NewNumbers → Attr EntryName → Attr EntryName
renumbered_if None a = a
renumbered_if (Some number) a = renumbered_attr number a

-- an attribute with the form of its value, and then so
abbrev pub given_attr : UnitForms EntryName → NewNumbers → Attr EntryName → Attr EntryName
given_attr ft rn a = renumbered_if rn (fit_attr ft a)

abbrev pub given_node : UnitForms EntryName → NewNumbers → Node EntryName → Node EntryName
given_node ft rn e = record { at = e.at; tag = e.tag; attrs = map (given_attr ft rn) e.attrs }

abbrev pub chosen_of : Attr EntryName → Chosen
chosen_of a = record { form = a.form; raw = a.raw }

-- ---- one entry: references, texts and files

-- the number is that of the entry with this name
abbrev pub IsNamed : Keys EntryName → EntryTable → FileRead → ℕ → EntryName → Type 0
IsNamed keys k f n s = keys.row (reference_at k f.number n) ≡ s

-- An entry is written in this unit just where the unit has its name; and in another one of the same file just where the file has it.
pub record IsReached (keys : Keys EntryName) (k : EntryTable) (here : ℕ) (ft : UnitForms EntryName) (number : ℕ) : Type 0 where
  pub own : has_key ft.same (keys.row number) ft.own ≡ (owner_of k number == here)
  pub file : has_key ft.same (keys.row number) ft.keys ≡ same_bool (is_common k (owner_of k number)) (is_common k here)

-- the form and the number of a text that is written there
abbrev pub text_chosen : TextAt → Chosen
text_chosen t = record { form = text_form t; raw = pos (text_offset t) }

-- the text is written where the definitions of forms and of texts that stay say, unless it is written as it was read
abbrev pub IsText : UnitForms EntryName → NewNumbers → Attr EntryName → TextAt → Type 0
IsText ft rn a t = rewrite_of ft.holder (plain_pair a.name a.form) ≡ AsText → text_chosen t ≡ chosen_of (given_attr ft rn a)

-- a text that is stored by an offset or by a slot
abbrev pub is_placed : Class → Bool
is_placed OfTextInStr = true
is_placed OfTextInLineStr = true
is_placed OfTextBySlot = true
is_placed _ = false

abbrev pub texts_in : {K : Type 0} → List (Attr K) → List (Attr K)
texts_in attrs = filter (λ a. is_placed (class_of a.form)) attrs

-- the number of a file
abbrev pub numbers_by : Class → Bool → Bool
numbers_by OfConstant named = named
numbers_by _ named = false

abbrev pub files_in : {K : Type 0} → List (Attr K) → List (Attr K)
files_in attrs = filter (λ a. numbers_by (class_of a.form) (names_file a.name)) attrs

-- What is named by an entry that is written in the unit with that number: references lead to what stands for their targets after, in this
-- unit, in its file, or in the common one; texts and paths stand where the definitions of what is written say.
pub record KnowsEntry (keys : Keys EntryName) (k : EntryTable) (f : FileRead) (here : ℕ) (ft : UnitForms EntryName) (rn : NewNumbers) (i : ℕ)
    (d : Node ℕ) : Type 0 where
  pub references : EachFrom (λ n p. IsNamed keys k f n (f.after p)) (firsts_at k f i).reference (node_refs d)
  pub owners : EachFrom (λ n p. IsReached keys k here ft (reference_at k f.number n)) (firsts_at k f i).reference (node_refs d)
  pub texts : EachFrom (λ n a. IsText ft rn a (text_at k f.number n)) (firsts_at k f i).text (texts_in (node_map f.after d).attrs)
  pub files : ft.holder ≡ CommonUnit → EachFrom (λ n a. file_at k f.number n ≡ file_number ft.paths a.value.plain)
      (firsts_at k f i).file (files_in (node_map f.after d).attrs)

-- ---- a whole file, and what of it is written in a unit

-- the unit has the entry of the file with that number
abbrev pub Writes : EntryTable → UnitItems → FileRead → ℕ → Type 0
Writes k o f i = HasRow k (number_of k (row f.number i)) (items_slots k o.sort o.items)

-- The references of each entry of the file lead to what stands for their targets after.
pub record KnowsReferences (keys : Keys EntryName) (k : EntryTable) (f : FileRead) : Type 0 where
  pub are : (i : ℕ) (r : EntryRow) (d : Node ℕ) → IsRead f i r d
      → EachFrom (λ n p. IsNamed keys k f n (f.after p)) (firsts_at k f i).reference (node_refs d)

-- Of an entry that is written in the unit with that number, references lead into this unit, its file or the common one as owners say.
pub record KnowsOwners (keys : Keys EntryName) (k : EntryTable) (f : FileRead) (here : ℕ) (o : UnitItems) (ft : UnitForms EntryName) : Type 0
  where
    pub are : (i : ℕ) (r : EntryRow) (d : Node ℕ) → IsRead f i r d → Writes k o f i
        → EachFrom (λ n p. IsReached keys k here ft (reference_at k f.number n)) (firsts_at k f i).reference (node_refs d)

-- Its texts stand where the definitions of forms and of texts that stay say.
pub record KnowsTexts (k : EntryTable) (f : FileRead) (o : UnitItems) (ft : UnitForms EntryName) (rn : NewNumbers) : Type 0 where
  pub are : (i : ℕ) (r : EntryRow) (d : Node ℕ) → IsRead f i r d → Writes k o f i
      → EachFrom (λ n a. IsText ft rn a (text_at k f.number n)) (firsts_at k f i).text (texts_in (node_map f.after d).attrs)

-- In the common file its numbers of files are those of their paths.
pub record KnowsFiles (k : EntryTable) (f : FileRead) (o : UnitItems) (ft : UnitForms EntryName) : Type 0 where
  pub are : (i : ℕ) (r : EntryRow) (d : Node ℕ) → IsRead f i r d → Writes k o f i → ft.holder ≡ CommonUnit
      → EachFrom (λ n a. file_at k f.number n ≡ file_number ft.paths a.value.plain)
      (firsts_at k f i).file (files_in (node_map f.after d).attrs)

-- Its name is that of what stands for it after: it stands for itself.
pub record KnowsNames (keys : Keys EntryName) (k : EntryTable) (f : FileRead) (o : UnitItems) : Type 0 where
  pub are : (i : ℕ) (r : EntryRow) (d : Node ℕ) → IsRead f i r d → Writes k o f i → keys.row (number_of k (row f.number i)) ≡ f.after d.at

-- ---- what is written, by its origin

-- All that an entry names is known, and its name: it stands for itself.
pub record KnowsRow (keys : Keys EntryName) (k : EntryTable) (f : FileRead) (here : ℕ) (ft : UnitForms EntryName) (rn : NewNumbers) (i : ℕ) :
    Type 0 where
  pub entry : (r : EntryRow) (d : Node ℕ) → IsRead f i r d → KnowsEntry keys k f here ft rn i d
  pub name : (r : EntryRow) (d : Node ℕ) → IsRead f i r d → keys.row (number_of k (row f.number i)) ≡ f.after d.at

-- so of what was read in the file
abbrev pub KnowsOrigin : Keys EntryName → EntryTable → FileRead → ℕ → UnitForms EntryName → NewNumbers → Origin → Type 0
KnowsOrigin keys k f here ft rn (OfRow r) = r.file ≡ f.number → KnowsRow keys k f here ft rn r.entry
KnowsOrigin keys k f here ft rn _ = Unit {0}

abbrev pub KnowsSlots : Keys EntryName → EntryTable → FileRead → ℕ → UnitForms EntryName → NewNumbers → List Slot → Type 0
KnowsSlots keys k f here ft rn slots = Each (λ s. KnowsOrigin keys k f here ft rn s.origin) slots

-- ---- entries of items

-- with what is written of its values
abbrev pub given_line : UnitForms EntryName → NewNumbers → Line EntryName → Line EntryName
given_line ft rn l = line l.depth (given_node ft rn l.node)

-- From an entry of the file on stand the rows of an entry and of all below it, which mean these once they have names.
pub record ShowsTree (f : FileRead) (r : Row) (node : Node EntryName) (below : Entries EntryName) : Type 0 where
  pub number : ℕ
  pub unit : RawUnit
  pub is_unit : slice_get f.raw number ≡ Some unit
  pub e : RawEntry
  pub c : Forest RawEntry
  pub d : Node ℕ
  pub g : Entries ℕ
  pub p : Position
  pub behind : List EntryRow
  pub row_is : r ≡ row f.number p.before
  pub stand : drop p.before (rows_of f.raw) ≡ rows_below (Entry e c End) number p ++ behind
  pub means : entries_meaning (scope_of f.around unit) (Entry e c End) ≡ Ok (Entry d g End)
  pub node_is : node ≡ node_map f.after d
  pub below_is : below ≡ entries_map f.after g

-- An entry of the file alone.
pub record ShowsRow (f : FileRead) (r : Row) (node : Node EntryName) : Type 0 where
  pub i : ℕ
  pub x : EntryRow
  pub d : Node ℕ
  pub row_is : r ≡ row f.number i
  pub read : IsRead f i x d
  pub node_is : node ≡ node_map f.after d

-- ---- items of a unit

-- one of the files that were read
abbrev pub OfSome : List FileRead → (FileRead → Type 0) → Type 0
OfSome [] P = ⊥
OfSome (f ∷ files) P = P f ⊎ OfSome files P

-- DW_AT_stmt_list of a partial unit, or no attribute
abbrev pub ShowsLine : Option ℕ → List (Attr EntryName) → Type 0
ShowsLine None attrs = attrs ≡ []
ShowsLine (Some place) attrs = (plain : Plain) × (attrs ≡ line_attr (pos place) plain ∷ [])

-- the root of the unit with that number
abbrev pub ShowsRoot : Keys EntryName → List FileRead → ℕ → Sort → Node EntryName → Type 0
ShowsRoot keys files here (Compile root) node = OfSome files (λ f. ShowsRow f root node)
ShowsRoot keys files here (OfType root signature main) node = OfSome files (λ f. ShowsRow f root node)
ShowsRoot keys files here (Partial place) node = (keys.root here ≡ node.at) × (node.tag ≡ 0x3c) × ShowsLine place node.attrs

-- the root of a unit that was read, with all below it
abbrev pub ShowsWhole : List FileRead → Sort → Node EntryName → Entries EntryName → Type 0
ShowsWhole files (Compile root) node below = OfSome files (λ f. ShowsTree f root node below)
ShowsWhole files (OfType root signature main) node below = OfSome files (λ f. ShowsTree f root node below)
ShowsWhole files (Partial place) node below = ⊥

-- DW_AT_name of a space of a chain
abbrev pub name_attr : SpaceName → Attr EntryName
name_attr s = record { name = 0x03; form = s.form; raw = s.raw; value = only (Text s.text) }

-- a space of a chain, with the name of a space that was read, which stands where the definitions say
pub record ShowsChained (keys : Keys EntryName) (files : List FileRead) (ft : UnitForms EntryName) (rn : NewNumbers) (key : EntryName) (s :
    SpaceRow)
    (node : Node EntryName) : Type 0 where
  pub at : key ≡ node.at
  pub tag : node.tag ≡ 0x39
  pub d : Node ℕ
  pub text : List ℕ
  pub is_space : space_text d ≡ Some text
  pub attrs : node.attrs ≡ name_attr (name_of text d) ∷ []
  pub told : IsText ft rn (name_attr (name_of text d)) (text_held ft.holder s)
  pub there : OfSome files (λ f. (i : ℕ) × (x : EntryRow) × (s.row ≡ row f.number i) × IsRead f i x d)

-- an import of a partial unit, which is the unit with that number among those that are written
pub record ShowsImport (keys : Keys EntryName) (k : EntryTable) (here : ℕ) (ft : UnitForms EntryName) (part : ℕ) (node : Node EntryName) : Type 0
  where
    pub at : keys.import here part ≡ node.at
    pub tag : node.tag ≡ 0x3d
    pub attrs : node.attrs ≡ record { name = 0x18; form = 0x10; raw = pos 0; value = ref (keys.root (unit_of_part k part)) } ∷ []
    pub own : has_key ft.same (keys.root (unit_of_part k part)) ft.own ≡ (unit_of_part k part == here)
    pub file : has_key ft.same (keys.root (unit_of_part k part)) ft.keys ≡ same_bool (is_common k (unit_of_part k part)) (is_common k here)

-- what stands so deep, where numbers have names
abbrev pub ShowsWhat : Keys EntryName → EntryTable → List FileRead → ℕ → UnitForms EntryName → NewNumbers → Names EntryName → Sort → ℕ
    → ItemKind → Type 0
ShowsWhat keys k files here ft rn names sort depth Root = ShowsRoot keys files here sort names.root
ShowsWhat keys k files here ft rn names sort depth Whole = ShowsWhole files sort names.root names.whole
ShowsWhat keys k files here ft rn names sort depth (Top top) =
    OfSome files (λ f. ShowsTree f (top_row k top) (names.top top) (names.below top))
ShowsWhat keys k files here ft rn names sort depth (Space space) =
    OfSome files (λ f. let s = space_at k space in ShowsRow f s.row (names.space space))
ShowsWhat keys k files here ft rn names sort depth (InChain chain space) =
    ShowsChained keys files ft rn (keys.chained here chain (depth - 2)) (space_at k space) (names.in_chain chain (depth - 2) space)
ShowsWhat keys k files here ft rn names sort depth (Import part) = ShowsImport keys k here ft part (names.import part)

-- What is known of a file that is written in the unit with that number.
pub record KnowsIn (keys : Keys EntryName) (k : EntryTable) (here : ℕ) (o : UnitItems) (ft : UnitForms EntryName) (rn : NewNumbers) (f :
    FileRead) : Type 0 where
  pub file : KnowsFile k f
  pub references : KnowsReferences keys k f
  pub owners : KnowsOwners keys k f here o ft
  pub texts : KnowsTexts k f o ft rn
  pub files : KnowsFiles k f o ft
  pub names : KnowsNames keys k f o

-- What is known of the unit with that number: of all files whose entries it has, and of its items.
pub record KnowsUnit (keys : Keys EntryName) (k : EntryTable) (files : List FileRead) (here : ℕ) (o : UnitItems) (ft : UnitForms EntryName) (rn :
    NewNumbers)
    (names : Names EntryName) : Type 0 where
  pub of_files : Each (KnowsIn keys k here o ft rn) files
  pub of_items : Each (λ x. ShowsWhat keys k files here ft rn names o.sort x.depth x.what) o.items
