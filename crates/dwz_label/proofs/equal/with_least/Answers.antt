use Rattle.std.proofs.Common.{◌≡◌, ℕ, ◌<◌, List, length, get_or, sym, ap, subst, ◌∙◌, arith}
use Rattle.std.proofs.lemmas.List.{get_or_default}
use Rattle.std.proofs.lemmas.List.Sorted.{All-permutation}
use Rattle.dwz_label.specs.declared.equal.Keyed.{Keyed}
use Rattle.dwz_label.specs.Keyed.{ArePutTo, IsLeastUnder, IsNewKey, Order}
use Rattle.dwz_label.proofs.Putting.{next_again, next_new, one_moved, put_more, put_moved}
use Rattle.dwz_label.proofs.equal.with_least.Goals as goal
use Rattle.dwz_label.proofs.equal.with_least.Goals.{then-is_new, else-is_new}

pub index_mut-requires : goal.index_mut-requires
index_mut-requires g c =
    let K : Type 0 = g.row.K.Denot in
    let rows : List (Keyed K) = c.sort_unstable.new.self.items in
    let n : ℕ = c.loop-at.at in
    let row : Keyed K = c.index.result.now in
    let inside : n < length rows = (let t = c.loop-at-test.true in let e = c.len-at-end.ensures in omega arith) in
    let low = All-permutation (λ (r : Keyed K). r.number < length c.args.firsts.items) c.args.rows.items rows c.sort_unstable.ensures.permutation c.requires.inside n row inside in
    let same = ap (λ (r : Keyed K). r.number) (c.index.ensures) in
    let len = c.loop-at.invariant.len in
    let size = c.loop-at.firsts.ok.0 in
    omega arith

pub loop-at-preserved : goal.loop-at-preserved
loop-at-preserved g c =
    let K : Type 0 = g.row.K.Denot in
    let cmp : Order K = g.K.Ord.cmp in
    let rows : List (Keyed g.row.K.Denot) = c.sort_unstable.new.self.items in
    let up = c.sort_unstable.ensures.sorted in
    let one = one_moved cmp c.args.rows.items rows c.sort_unstable.ensures.permutation c.requires.one in
    let n : ℕ = c.loop-at.at in
    let row : Keyed K = c.index.result.now in
    let inside : n < length rows = (let t = c.loop-at-test.true in let e = c.len-at-end.ensures in omega arith) in
    let is : (d : Keyed K) → get_or rows n d ≡ row = λ d. get_or_default rows n d row inside ∙ sym c.index.ensures in
    let next = subst (λ (ls : List (Keyed K)). IsNewKey cmp ls c.is_new.result n) c.as_slice.ensures.value c.is_new.ensures in
    let low = All-permutation (λ (r : Keyed K). r.number < length c.args.firsts.items) c.args.rows.items rows c.sort_unstable.ensures.permutation c.requires.inside n row inside in
    let same = ap (λ (r : Keyed K). r.number) (is row) in
    let len = c.loop-at.invariant.len in
    let room : row.number < length c.loop-at.firsts.items = omega arith in
    let least : IsLeastUnder cmp rows row.key c.if-is_new.first = elim c.if-is_new.branch [
      | then-is_new w ↦
          subst (λ (m : ℕ). IsLeastUnder cmp rows row.key m) (sym w.first-is)
          (subst (λ (r : Keyed K). IsLeastUnder cmp rows r.key r.number) (is row)
          (next_new cmp g.met.K.Ord.total rows up one n c.loop-at.first c.args.firsts.items c.loop-at.firsts.items inside c.loop-at.invariant c.is_new.result next w.if-is_new.true row))
      | else-is_new w ↦
          subst (λ (m : ℕ). IsLeastUnder cmp rows row.key m) (sym w.first-is)
          (subst (λ (r : Keyed K). IsLeastUnder cmp rows r.key c.loop-at.first) (is row)
          (next_again cmp g.met.K.Ord.total rows up one n c.loop-at.first c.args.firsts.items c.loop-at.firsts.items inside c.loop-at.invariant c.is_new.result next w.if-is_new.false row))
    ] in
    put_more cmp g.met.K.Ord.total rows up one n c.loop-at.first c.args.firsts.items c.loop-at.firsts.items inside c.loop-at.invariant c.if-is_new.first row is least room

pub returns : goal.returns
returns g c =
    let rows : List (Keyed g.row.K.Denot) = c.sort_unstable.new.self.items in
    let end : c.loop-at.at ≡ length rows = (let t = c.loop-at-test.false in let e = c.len-at-end.ensures in let a = c.loop-at.auto.at-end in omega arith) in
    put_moved g.K.Ord.cmp c.args.rows.items rows c.sort_unstable.ensures.permutation c.args.firsts.items c.loop-at.firsts.items c.loop-at.first
    (subst (λ (n : ℕ). ArePutTo g.K.Ord.cmp rows c.args.firsts.items n c.loop-at.firsts.items c.loop-at.first) end c.loop-at.invariant)
