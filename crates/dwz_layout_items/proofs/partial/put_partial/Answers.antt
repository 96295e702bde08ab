use Rattle.std.proofs.Common.{◌≡◌, ◌∙◌, ◌<◌, ◌==◌, ◌++◌, ◌∷◌, [], not, All, ℕ, Bool, List, length, filter, get_or, sym, ap, subst, append_assoc, arith}
use Rattle.dwz_def_reading.specs.Lists.{In}
use Rattle.dwz_def_tops.proofs.Members.{in_filter_from}
use Rattle.dwz_def_tops.specs.Spots.{EntryName}
use Rattle.dwz_plan.proofs.ListFacts.{all_from_in}
use Rattle.dwz_plan.proofs.GainedRows.{filter_few}
use Rattle.dwz_layout_items.specs.Chains.{AreUp, IsChain, chains_by, chains_lines, down, names_at, tops_lines}
use Rattle.dwz_layout_items.specs.Lines.{Line, line}
use Rattle.dwz_layout_items.specs.Order.{order_lines}
use Rattle.dwz_layout_items.proofs.GroupLemmas.{all_in, chains_few, headed}
use Rattle.dwz_layout_items.proofs.LineLemmas.{order_one}
use Rattle.dwz_layout_items.proofs.partial.put_partial.Goals as goal

pub chains_of-requires-clause-few : goal.chains_of-requires-clause-few
chains_of-requires-clause-few c =
    let p : ℕ → Bool = λ t. not (names_at c.args.of_tops.now t == 0) in
    let spaced : c.as_slice.result.now ≡ filter p c.args.tops.now = c.as_slice.ensures.value ∙ c.in_ok-parts.ensures.spaced in
    omega (arith, ap (λ (w : List ℕ). length w) spaced, filter_few p c.args.tops.now, c.requires.few_tops)

pub chains_of-requires-clause-inside : goal.chains_of-requires-clause-inside
chains_of-requires-clause-inside c =
    let p : ℕ → Bool = λ t. not (names_at c.args.of_tops.now t == 0) in
    let P : ℕ → Type 0 = λ t. t < length c.args.of_tops.now in
    let tops : List ℕ = c.args.tops.now in
    let spaced : c.as_slice.result.now ≡ filter p tops = c.as_slice.ensures.value ∙ c.in_ok-parts.ensures.spaced in
    subst (λ (w : List ℕ). All P w) (sym spaced) (all_from_in P (filter p tops) (λ t is. all_in P tops t c.requires.inside (in_filter_from p t tops is).0))

pub put_chains-requires-clause-few_chains : goal.put_chains-requires-clause-few_chains
put_chains-requires-clause-few_chains c =
    let l : ℕ → ℕ = names_at c.args.of_tops.now in
    let p : ℕ → Bool = λ t. not (l t == 0) in
    let spaced : c.as_slice.result.now ≡ filter p c.args.tops.now = c.as_slice.ensures.value ∙ c.in_ok-parts.ensures.spaced in
    let are : c.in_ok-chains.chains ≡ chains_by l (filter p c.args.tops.now) = c.in_ok-chains.ensures ∙ ap (chains_by l) spaced in
    omega (arith, ap (λ (w : List (List ℕ)). length w) are, chains_few l (filter p c.args.tops.now), filter_few p c.args.tops.now, c.requires.few_tops)

pub put_chains-requires-clause-chains : goal.put_chains-requires-clause-chains
put_chains-requires-clause-chains c =
    let l : ℕ → ℕ = names_at c.args.of_tops.now in
    let p : ℕ → Bool = λ t. not (l t == 0) in
    let P : ℕ → Type 0 = λ t. t < length c.args.of_tops.now in
    let tops : List ℕ = c.args.tops.now in
    let spaced : c.as_slice.result.now ≡ filter p tops = c.as_slice.ensures.value ∙ c.in_ok-parts.ensures.spaced in
    let are : c.in_ok-chains.chains ≡ chains_by l (filter p tops) = c.in_ok-chains.ensures ∙ ap (chains_by l) spaced in
    let each : (g : List ℕ) → In g (chains_by l (filter p tops)) → IsChain c.args.of_tops.now g = λ g is.
    (let h = headed l (filter p tops) g is in
    record { some = h.some; inside = all_in P tops (get_or g 0 0) c.requires.inside (in_filter_from p (get_or g 0 0) tops h.there).0 }) in
    subst (λ (cs : List (List ℕ)). All (IsChain c.args.of_tops.now) cs) (sym are) (all_from_in (IsChain c.args.of_tops.now) (chains_by l (filter p tops)) each)

pub returns : goal.returns
returns c = λ names ups u.
    let l : ℕ → ℕ = names_at c.args.of_tops.now in
    let p : ℕ → Bool = λ t. not (l t == 0) in
    let tops : List ℕ = c.args.tops.now in
    let path : ℕ → List ℕ = λ t. down (ups t) in
    let spaced : c.as_slice.result.now ≡ filter p tops = c.as_slice.ensures.value ∙ c.in_ok-parts.ensures.spaced in
    let unspaced : c.as_slice-2.result.now ≡ filter (λ t. l t == 0) tops = c.as_slice-2.ensures.value ∙ c.in_ok-parts.ensures.unspaced in
    let are : c.in_ok-chains.chains ≡ chains_by l (filter p tops) = c.in_ok-chains.ensures ∙ ap (chains_by l) spaced in
    let each : AreUp c.args.rows.now c.args.of_tops.now ups (chains_by l (filter p tops)) = λ g is. u (get_or g 0 0) (in_filter_from p (get_or g 0 0) tops (headed l (filter p tops) g is).there).0 in
    let up : AreUp c.args.rows.now c.args.of_tops.now ups c.in_ok-chains.chains = subst (λ (cs : List (List ℕ)). AreUp c.args.rows.now c.args.of_tops.now ups cs) (sym are) each in
    let old : List (Line EntryName) = order_lines names c.args.order.now.items in
    let root : List (Line EntryName) = line 1 names.root ∷ [] in
    let first : List (Line EntryName) = tops_lines names 2 (filter (λ t. l t == 0) tops) in
    let others : List (Line EntryName) = chains_lines names path 0 (chains_by l (filter p tops)) in
    let with_root : order_lines names c.push.new.self.items ≡ old ++ root = ap (order_lines names) c.in_ok-push.ensures.items ∙ order_one names c.args.order.now.items _ in
    let with_first : order_lines names c.put_tops.new.order.items ≡ (old ++ root) ++ first = c.in_ok-put_tops.ensures names ∙ (λ i. with_root i ++ tops_lines names 2 (unspaced i)) in
    let with_all : order_lines names c.put_chains.new.order.items ≡ ((old ++ root) ++ first) ++ others = c.in_ok-put_chains.ensures names ups up
    ∙ (λ i. with_first i ++ chains_lines names path 0 (are i)) in
    let grouped : ((old ++ root) ++ first) ++ others ≡ old ++ (root ++ (first ++ others)) = simp append_assoc in
    with_all ∙ grouped
