-- Lines of trees, of rows and of orders; and why depths alone tell the steps.
use Rattle.std.proofs.Common.{◌≡◌, ℕ, suc, ◌-◌, ◌<◌, ◌≤◌, true, List, [], ◌∷◌, ◌++◌, refl, sym, ap, ◌∙◌, append_assoc, arith}
use Rattle.std.specs.Prelude.{nat_lt, replicate}
use Rattle.std.proofs.lemmas.List.{append-nil}
use Rattle.std.proofs.lemmas.Bool.Decides.{nat_tests}
use Rattle.dwz_def_reading.specs.Documents.{DwUnit, Entries, Node, entries_map, node_map}
use Rattle.dwz_def_reading.specs.Trees.{End, Entry}
use Rattle.dwz_def_tops.specs.Spots.{ASpace, ATop, EntryName, Nothing, Row}
use Rattle.dwz_def_images.specs.Units.{tree}
use Rattle.dwz_layout_items.specs.declared.order.Item.{Item}
use Rattle.dwz_layout_items.specs.Lines.{Enter, Leave, Line, Step, any, depth_of, if_steps, line, lines, row_lines, steps, steps_of, unit_lines, unit_steps}
use Rattle.dwz_layout_items.specs.declared.order.ItemKind.TheVariants.{Import}
use Rattle.dwz_layout_items.specs.Order.{Names, import_lines, order_lines, what_lines}

-- ---- orders

pub order_append : {K : Type 0} (n : Names K) (a b : List Item) → order_lines n (a ++ b) ≡ order_lines n a ++ order_lines n b
unfolding order_lines
order_append n [] b = refl
order_append {K} n (x ∷ a) b =
    ap (λ (w : List (Line K)). what_lines n x.depth x.what ++ w) (order_append n a b) ∙ sym (append_assoc (what_lines n x.depth x.what) (order_lines n a) (order_lines n b))

-- one item more
pub order_one : {K : Type 0} (n : Names K) (a : List Item) (x : Item) → order_lines n (a ++ x ∷ []) ≡ order_lines n a ++ what_lines n x.depth x.what
unfolding order_lines
order_one {K} n a x = order_append n a (x ∷ []) ∙ ap (λ (w : List (Line K)). order_lines n a ++ w) (append-nil (what_lines n x.depth x.what))

pub import_lines_append : {K : Type 0} (n : Names K) (a b : List ℕ) → import_lines n (a ++ b) ≡ import_lines n a ++ import_lines n b
unfolding import_lines
import_lines_append n [] b = refl
import_lines_append {K} n (part ∷ a) b = ap (λ (w : List (Line K)). line 2 (n.import part) ∷ w) (import_lines_append n a b)

pub import_one : {K : Type 0} (n : Names K) (part : ℕ) → import_lines n (part ∷ []) ≡ what_lines n 2 (Import part)
unfolding import_lines
import_one n part = refl

-- ---- rows

pub tree_lines : (f : EntryName → EntryName) (depth : ℕ) (row : Row) (last : Entries EntryName) → lines depth (tree f row last) ≡ row_lines f depth row ++ lines depth last
unfolding tree lines row_lines
tree_lines f depth Nothing last = refl
tree_lines f depth (ATop t next) last =
    let here : List (Line EntryName) = line depth (node_map f t.node) ∷ lines (suc depth) (entries_map f t.below) in
    ap (λ (w : List (Line EntryName)). here ++ w) (tree_lines f depth next last) ∙ sym (append_assoc here (row_lines f depth next) (lines depth last))
tree_lines f depth (ASpace e inner next) last =
    let l : Line EntryName = line depth (node_map f e) in
    let within : lines (suc depth) (tree f inner End) ≡ row_lines f (suc depth) inner = tree_lines f (suc depth) inner End ∙ append-nil (row_lines f (suc depth) inner) in
    (λ i. l ∷ within i ++ tree_lines f depth next last i) ∙ sym (append_assoc (l ∷ row_lines f (suc depth) inner) (row_lines f depth next) (lines depth last))

-- ---- steps

abbrev ended : {K : Type 0} → ℕ → List (Line K) → List (Step K)
ended depth ls = replicate (depth - depth_of ls) Leave ++ steps_of ls

-- lines that stand as deep as the one before, or deeper, end no list
none_ended : {K : Type 0} (depth : ℕ) (ls : List (Line K)) → depth ≤ depth_of ls → ended depth ls ≡ steps_of ls
none_ended {K} depth ls h = let z : depth - depth_of ls ≡ 0 = omega arith in ap (λ (k : ℕ). replicate k Leave ++ steps_of ls) z

abbrev behind : {K : Type 0} → ℕ → Entries K → Entries K → List (Line K) → List (Line K)
behind depth children next ls = lines (suc depth) children ++ (lines depth next ++ ls)

-- how deep what follows an entry stands
flag : {K : Type 0} (depth : ℕ) (children next : Entries K) (ls : List (Line K)) → depth_of ls < depth → nat_lt depth (depth_of (behind depth children next ls)) ≡ any children
unfolding lines
flag depth End End ls h = grind (arith, nat_tests)
flag depth End (Entry e c n) ls h = grind (arith, nat_tests)
flag depth (Entry e c n) next ls h = grind (arith, nat_tests)

-- what stands behind an entry, once what is known of its children and of what is beside it
inside : {K : Type 0} (k : ℕ) (c n : Entries K) (ls : List (Line K)) → ended (suc (suc k)) (lines (suc (suc k)) c ++ (lines (suc k) n ++ ls)) ≡ steps c ++ ended (suc k) (lines (suc k) n ++ ls)
    → ended (suc k) (lines (suc k) n ++ ls) ≡ steps n ++ ended k ls → ended (suc k) (behind (suc k) c n ls) ≡ (if_steps c (steps c) ++ steps n) ++ ended k ls
unfolding lines steps
inside k End n ls first second = second
inside {K} k (Entry e c d) n ls first second =
    let xs : List (Line K) = behind (suc k) (Entry e c d) n ls in
    none_ended (suc k) xs (omega arith)
    ∙ sym (none_ended (suc (suc k)) xs (omega arith))
    ∙ first
    ∙ ap (λ (w : List (Step K)). steps (Entry e c d) ++ w) second
    ∙ sym (append_assoc (steps (Entry e c d)) (steps n) (ended k ls))

beside : {K : Type 0} (k : ℕ) (n : Entries K) (ls : List (Line K)) → depth_of ls ≤ k → depth_of (lines (suc k) n ++ ls) ≤ suc k
unfolding lines
beside k End ls h = omega arith
beside k (Entry e c n) ls h = omega arith

pub lines_steps : {K : Type 0} (k : ℕ) (f : Entries K) (ls : List (Line K)) → depth_of ls ≤ k → ended (suc k) (lines (suc k) f ++ ls) ≡ steps f ++ ended k ls
unfolding lines steps steps_of
lines_steps {K} k End ls h =
    let one : suc k - depth_of ls ≡ suc (k - depth_of ls) = omega arith in
    ap (λ (n : ℕ). replicate n Leave ++ steps_of ls) one
lines_steps {K} k (Entry e c n) ls h =
    let xs : List (Line K) = behind (suc k) c n ls in
    let below : ended (suc k) xs ≡ (if_steps c (steps c) ++ steps n) ++ ended k ls = inside k c n ls (lines_steps (suc k) c (lines (suc k) n ++ ls) (beside k n ls h)) (lines_steps k n ls h) in
    ap (λ (w : List (Line K)). ended (suc k) (line (suc k) e ∷ w)) (append_assoc (lines (suc (suc k)) c) (lines (suc k) n) ls)
    ∙ none_ended (suc k) (line (suc k) e ∷ xs) (omega arith)
    ∙ (λ i. Enter e (flag (suc k) c n ls (let lt : depth_of ls < suc k = omega arith in lt) i) ∷ below i)

-- the steps of a unit are those of its lines
pub unit_steps_are : {K : Type 0} (u : DwUnit K) → steps_of (unit_lines u) ≡ unit_steps u
unfolding lines steps_of steps
unit_steps_are u = by u.root u.below where
  by : {K : Type 0} (root : Node K) (below : Entries K) → steps_of (line 1 root ∷ lines 2 below) ≡ Enter root (any below) ∷ if_steps below (steps below)
  by root End = refl
  by {K} root (Entry e c n) =
      let ls : List (Line K) = lines 2 (Entry e c n) in
      let more : ended 2 (ls ++ []) ≡ steps (Entry e c n) ++ [] = lines_steps 1 (Entry e c n) [] (omega arith) in
      let all : ended 1 ls ≡ steps (Entry e c n) =
      none_ended 1 ls (omega arith) ∙ sym (none_ended 2 ls (omega arith)) ∙ ap (ended 2) (sym (append-nil ls)) ∙ more ∙ append-nil (steps (Entry e c n)) in
      ap (λ (w : List (Step K)). Enter root true ∷ w) all
