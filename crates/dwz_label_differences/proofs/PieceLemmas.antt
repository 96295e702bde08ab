-- What pieces of labels begin with.
use Rattle.std.proofs.Common.{◌≡◌, ◌≢◌, ℕ, pos, negsuc, ◌<◌, ◌≤◌, Bool, true, false, List, [], ◌∷◌, ◌++◌, length, drop, Option, Some, None, refl, ap, ◌∙◌, arith}
use Rattle.std.specs.List.{flat_map}
use Rattle.std.proofs.lemmas.List.{append_assoc, length-append}
use Rattle.dwz_model.specs.declared.place.Base.{Base}
use Rattle.dwz_model.specs.declared.place.Base.TheVariants.{Unit as FromUnit, Info as FromInfo}
use Rattle.dwz_def_reading.specs.Documents.{Addr, Attr, Block, Expr, File, Flag, Index, Loc, Num, Operand, Part, Plain, Ref, Same, Sec, Sig, Text}
use Rattle.dwz_def_tops.specs.Spots.{EntryName, Within}
use Rattle.dwz_label.specs.Labels.{attr_label, base_label, counted, each_counted, file_label, flag_label, number, part_label, parts_label, plain_label, target_label, value_label}
use Rattle.dwz_label.proofs.Codes.{heads, tails}
use Rattle.dwz_label_differences.proofs.Numbers.{TakesBytes, number_some}

-- ---- each takes a byte or more

front_some : (a b : List ℕ) → 0 < length a → 0 < length (a ++ b)
front_some a b l = let e = length-append a b in omega (arith, e, l)

pub counted_some : TakesBytes counted
counted_some bytes = front_some (number (length bytes)) bytes (number_some (length bytes))

pub each_some : {X : Type 0} (spell : X → List ℕ) → TakesBytes (each_counted spell)
each_some spell xs = front_some (number (length xs)) (flat_map spell xs) (number_some (length xs))

pub target_some : TakesBytes target_label
target_some (Within top path) = omega arith
target_some _ = omega arith

pub part_some : TakesBytes part_label
part_some (Same bytes) = omega arith
part_some (Operand width uleb base) = omega arith

pub attr_some : TakesBytes attr_label
attr_some a = front_some (number a.name) (value_label a.value) (number_some a.name)

-- ---- entries that are named

pub target_path : (t : EntryName) (kind : ℕ) (others rest : List ℕ) → kind ∷ others ≡ target_label t ++ rest → kind ≡ 1 → (path : List ℕ) × (others ≡ each_counted number path ++ rest)
target_path (Within top path) kind others rest e one = (path, tails e)
target_path _ kind others rest e one = absurd (let h = heads e in omega (arith, h, one))

pub target_none : (t : EntryName) (kind : ℕ) (others rest : List ℕ) → kind ∷ others ≡ target_label t ++ rest → kind ≢ 1 → others ≡ rest
target_none (Within top path) kind others rest e other = absurd (other (heads e))
target_none _ kind others rest e other = tails e

pub no_target : (t : EntryName) (rest : List ℕ) → [] ≡ target_label t ++ rest → ⊥
no_target (Within top path) rest e = absurd cc
no_target _ rest e = absurd cc

-- ---- parts of expressions

pub part_same : (p : Part) (kind : ℕ) (others rest : List ℕ) → kind ∷ others ≡ part_label p ++ rest → kind ≡ 0 → (bytes : List ℕ) × (others ≡ counted bytes ++ rest)
part_same (Same bytes) kind others rest e none = (bytes, tails e)
part_same (Operand width uleb base) kind others rest e none = absurd (let h = heads e in omega (arith, h, none))

two_bytes : (uleb : Bool) (base : Base) (rest : List ℕ) → drop 2 ((flag_label uleb ++ base_label base) ++ rest) ≡ rest
two_bytes true FromUnit rest = refl
two_bytes true FromInfo rest = refl
two_bytes false FromUnit rest = refl
two_bytes false FromInfo rest = refl

pub part_operand : (p : Part) (kind : ℕ) (others rest : List ℕ) → kind ∷ others ≡ part_label p ++ rest → kind ≢ 0
    → (width : ℕ) × (more : List ℕ) × (others ≡ number width ++ more) × (drop 2 more ≡ rest)
part_operand (Same bytes) kind others rest e some = absurd (some (heads e))
part_operand (Operand width uleb base) kind others rest e some = (
  width,
  (flag_label uleb ++ base_label base) ++ rest,
  tails e ∙ append_assoc (number width) (flag_label uleb ++ base_label base) rest,
  two_bytes uleb base rest,
)

pub no_part : (p : Part) (rest : List ℕ) → [] ≡ part_label p ++ rest → ⊥
no_part (Same bytes) rest e = absurd cc
no_part (Operand width uleb base) rest e = absurd cc

-- ---- files

pub file_path : (path : Option (List ℕ)) (kind : ℕ) (others rest : List ℕ) → kind ∷ others ≡ file_label path ++ rest → kind ≡ 1 → (bytes : List ℕ) × (others ≡ counted bytes ++ rest)
file_path (Some bytes) kind others rest e one = (bytes, tails e)
file_path None kind others rest e one = absurd (let h = heads e in omega (arith, h, one))

pub file_none : (path : Option (List ℕ)) (kind : ℕ) (others rest : List ℕ) → kind ∷ others ≡ file_label path ++ rest → kind ≢ 1 → others ≡ rest
file_none (Some bytes) kind others rest e other = absurd (other (heads e))
file_none None kind others rest e other = tails e

pub no_file : (path : Option (List ℕ)) (rest : List ℕ) → [] ≡ file_label path ++ rest → ⊥
no_file (Some bytes) rest e = absurd cc
no_file None rest e = absurd cc

-- ---- what values say, by the kind that the first byte tells

abbrev Begins : Plain → ℕ → List ℕ → List ℕ → Type 0
Begins p kind others rest = kind ∷ others ≡ plain_label p ++ rest

pub plain_two : (p : Plain) (kind : ℕ) (others rest : List ℕ) → Begins p kind others rest → kind < 2 → (m n : ℕ) × (others ≡ number m ++ (number n ++ rest))
plain_two (Num width (pos n)) kind others rest e l = (width, n, tails e ∙ append_assoc (number width) (number n) rest)
plain_two (Num width (negsuc n)) kind others rest e l = (width, n, tails e ∙ append_assoc (number width) (number n) rest)
plain_two _ kind others rest e l = absurd (let h = heads e in omega (arith, h, l))

pub plain_flag : (p : Plain) (kind : ℕ) (others rest : List ℕ) → Begins p kind others rest → kind ≡ 2 → (b : ℕ) × (others ≡ b ∷ rest)
plain_flag (Flag true) kind others rest e l = (1, tails e)
plain_flag (Flag false) kind others rest e l = (0, tails e)
plain_flag (Num width (pos n)) kind others rest e l = absurd (let h = heads e in omega (arith, h, l))
plain_flag (Num width (negsuc n)) kind others rest e l = absurd (let h = heads e in omega (arith, h, l))
plain_flag _ kind others rest e l = absurd (let h = heads e in omega (arith, h, l))

pub plain_bytes : (p : Plain) (kind : ℕ) (others rest : List ℕ) → Begins p kind others rest → 3 ≤ kind → kind < 5 → (bytes : List ℕ) × (others ≡ counted bytes ++ rest)
plain_bytes (Block bytes) kind others rest e l u = (bytes, tails e)
plain_bytes (Text bytes) kind others rest e l u = (bytes, tails e)
plain_bytes (Num width (pos n)) kind others rest e l u = absurd (let h = heads e in omega (arith, h, l))
plain_bytes (Num width (negsuc n)) kind others rest e l u = absurd (let h = heads e in omega (arith, h, l))
plain_bytes _ kind others rest e l u = absurd (let h = heads e in omega (arith, h, l, u))

pub plain_file : (p : Plain) (kind : ℕ) (others rest : List ℕ) → Begins p kind others rest → kind ≡ 5 → (path : Option (List ℕ)) × (others ≡ file_label path ++ rest)
plain_file (File path) kind others rest e l = (path, tails e)
plain_file (Num width (pos n)) kind others rest e l = absurd (let h = heads e in omega (arith, h, l))
plain_file (Num width (negsuc n)) kind others rest e l = absurd (let h = heads e in omega (arith, h, l))
plain_file _ kind others rest e l = absurd (let h = heads e in omega (arith, h, l))

pub plain_ref : (p : Plain) (kind : ℕ) (others rest : List ℕ) → Begins p kind others rest → kind ≡ 6 → others ≡ rest
plain_ref Ref kind others rest e l = tails e
plain_ref (Num width (pos n)) kind others rest e l = absurd (let h = heads e in omega (arith, h, l))
plain_ref (Num width (negsuc n)) kind others rest e l = absurd (let h = heads e in omega (arith, h, l))
plain_ref _ kind others rest e l = absurd (let h = heads e in omega (arith, h, l))

pub plain_one : (p : Plain) (kind : ℕ) (others rest : List ℕ) → Begins p kind others rest → 7 ≤ kind → kind ≤ 10 → (n : ℕ) × (others ≡ number n ++ rest)
plain_one (Sig n) kind others rest e l u = (n, tails e)
plain_one (Addr n) kind others rest e l u = (n, tails e)
plain_one (Index n) kind others rest e l u = (n, tails e)
plain_one (Sec n) kind others rest e l u = (n, tails e)
plain_one (Num width (pos n)) kind others rest e l u = absurd (let h = heads e in omega (arith, h, l))
plain_one (Num width (negsuc n)) kind others rest e l u = absurd (let h = heads e in omega (arith, h, l))
plain_one _ kind others rest e l u = absurd (let h = heads e in omega (arith, h, l, u))

pub plain_parts : (p : Plain) (kind : ℕ) (others rest : List ℕ) → Begins p kind others rest → kind ≡ 11 → (parts : List Part) × (others ≡ parts_label parts ++ rest)
plain_parts (Expr parts) kind others rest e l = (parts, tails e)
plain_parts (Num width (pos n)) kind others rest e l = absurd (let h = heads e in omega (arith, h, l))
plain_parts (Num width (negsuc n)) kind others rest e l = absurd (let h = heads e in omega (arith, h, l))
plain_parts _ kind others rest e l = absurd (let h = heads e in omega (arith, h, l))

pub plain_list : (p : Plain) (kind : ℕ) (others rest : List ℕ) → Begins p kind others rest → 12 ≤ kind → (exprs : List (List Part)) × (others ≡ each_counted parts_label exprs ++ rest)
plain_list (Loc exprs) kind others rest e l = (exprs, tails e)
plain_list (Num width (pos n)) kind others rest e l = absurd (let h = heads e in omega (arith, h, l))
plain_list (Num width (negsuc n)) kind others rest e l = absurd (let h = heads e in omega (arith, h, l))
plain_list _ kind others rest e l = absurd (let h = heads e in omega (arith, h, l))

pub no_plain : (p : Plain) (rest : List ℕ) → [] ≡ plain_label p ++ rest → ⊥
no_plain (Num width (pos n)) rest e = absurd cc
no_plain (Num width (negsuc n)) rest e = absurd cc
no_plain _ rest e = absurd cc

-- ---- attributes

pub attr_parts : (a : Attr EntryName) (label rest : List ℕ) → label ≡ attr_label a ++ rest
    → label ≡ number a.name ++ (plain_label a.value.plain ++ (each_counted target_label a.value.refs ++ rest))
attr_parts a label rest e =
    e
    ∙ append_assoc (number a.name) (value_label a.value) rest
    ∙ ap (λ (w : List ℕ). number a.name ++ w) (append_assoc (plain_label a.value.plain) (each_counted target_label a.value.refs) rest)
