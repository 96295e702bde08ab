-- Labels: bytes that are equal for two tops exactly if their languages, their name lists and their bare trees are. Each piece ends by
-- itself, so it can be told from what follows.
use Rattle.std.specs.Prelude.{ℕ, ℤ, pos, negsuc, suc, Bool, true, false, List, [], ◌∷◌, ◌++◌, length, Option, Some, None}
use Rattle.std.specs.List.{flat_map}
use Rattle.dwz_def_reading.specs.Spelling.{groups_in, padded}
use Rattle.dwz_model.specs.declared.place.Base.{Base}
use Rattle.dwz_model.specs.declared.place.Base.TheVariants.{Unit as FromUnit, Info as FromInfo}
use Rattle.dwz_def_reading.specs.Documents.{Attr, Entries, Node, Part, Plain, Value}
use Rattle.dwz_def_reading.specs.Documents.{Addr, Block, Expr, File, Flag, Index, Loc, Num, Operand, Ref, Same, Sec, Sig, Text}
use Rattle.dwz_def_reading.specs.Trees.{End, Entry, size}
use Rattle.dwz_def_tops.specs.Spots.{EntryName, Top, Within, name_list}

-- a number in groups of seven bits, as many as it needs: for one of 64 bits its shortest LEB128 spelling (DWARF 5, 7.6)
unfoldable pub number : ℕ → List ℕ
number n = padded (groups_in (suc n) n) n

-- bytes behind their length
abbrev pub counted : List ℕ → List ℕ
counted bytes = number (length bytes) ++ bytes

-- what is spelled of each, behind their count
abbrev pub each_counted : {X : Type 0} → (X → List ℕ) → List X → List ℕ
each_counted spell xs = number (length xs) ++ flat_map spell xs

-- ---- what an attribute says, by its meaning: neither its form nor the number that is stored

abbrev pub flag_label : Bool → List ℕ
flag_label true = 1 ∷ []
flag_label false = 0 ∷ []

abbrev pub base_label : Base → List ℕ
base_label FromUnit = 0 ∷ []
base_label FromInfo = 1 ∷ []

abbrev pub part_label : Part → List ℕ
part_label (Same bytes) = 0 ∷ counted bytes
part_label (Operand width uleb base) = 1 ∷ number width ++ (flag_label uleb ++ base_label base)

abbrev pub parts_label : List Part → List ℕ
parts_label parts = each_counted part_label parts

abbrev pub file_label : Option (List ℕ) → List ℕ
file_label None = 0 ∷ []
file_label (Some path) = 1 ∷ counted path

-- the first byte says which kind it is
abbrev pub plain_label : Plain → List ℕ
plain_label (Num width (pos n)) = 0 ∷ number width ++ number n
plain_label (Num width (negsuc n)) = 1 ∷ number width ++ number n
plain_label (Flag b) = 2 ∷ flag_label b
plain_label (Block bytes) = 3 ∷ counted bytes
plain_label (Text bytes) = 4 ∷ counted bytes
plain_label (File path) = 5 ∷ file_label path
plain_label Ref = 6 ∷ []
plain_label (Sig n) = 7 ∷ number n
plain_label (Addr n) = 8 ∷ number n
plain_label (Index n) = 9 ∷ number n
plain_label (Sec n) = 10 ∷ number n
plain_label (Expr parts) = 11 ∷ parts_label parts
plain_label (Loc exprs) = 12 ∷ each_counted parts_label exprs

-- of an entry that is named its path in its top, whichever top that is; or that it is in none
abbrev pub target_label : EntryName → List ℕ
target_label (Within top path) = 1 ∷ each_counted number path
target_label _ = 0 ∷ []

abbrev pub value_label : Value EntryName → List ℕ
value_label v = plain_label v.plain ++ each_counted target_label v.refs

-- ---- entries

abbrev pub attr_label : Attr EntryName → List ℕ
attr_label a = number a.name ++ value_label a.value

-- an entry that has so many entries below it
abbrev pub node_label : ℕ → Node EntryName → List ℕ
node_label below e = number below ++ (number e.tag ++ each_counted attr_label e.attrs)

-- the entries in preorder
unfoldable pub entries_label : Entries EntryName → List ℕ
entries_label End = []
entries_label (Entry e children next) = node_label (size children) e ++ (entries_label children ++ entries_label next)

-- ---- tops

abbrev pub language_label : Option ℤ → List ℕ
language_label None = 0 ∷ []
language_label (Some (pos n)) = 1 ∷ number n
language_label (Some (negsuc n)) = 2 ∷ number n

-- the language of a unit, and the names of the spaces that a top stands in
abbrev pub place_label : Option ℤ → List (List ℕ) → List ℕ
place_label language names = language_label language ++ each_counted counted names

-- a top: where it stands, its entry, and all below it
unfoldable pub label_of : Top → List ℕ
label_of t = place_label t.language (name_list t) ++ (node_label (size t.below) t.node ++ entries_label t.below)
